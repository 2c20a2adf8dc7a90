-- The reply to an event of a fleet.
use Rattle.std.specs.Prelude.{ℕ, List, Some, Ok}
use Rattle.nvme_driver.specs.declared.answer.Answer.TheVariants.{Done}
use Rattle.nvme_event.specs.declared.seen.FleetSeen.{FleetSeen}
use Rattle.nvme_event.specs.declared.seen.FleetSeen.TheVariants.{Polled}

-- The reply to an event: its result, and its data.
pub record Reply : Type 0 where
  pub seen : FleetSeen
  pub bytes : List ℕ

-- the length of the data of a result: those of a poll that delivers data
abbrev pub data_len : FleetSeen → ℕ
data_len (Polled (Ok (Some (Done ticket status dw0 len)))) = len
data_len other = 0
