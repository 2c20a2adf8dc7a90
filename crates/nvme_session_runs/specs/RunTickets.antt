-- An example run of the law that each ticket of an opening goes once.
use Rattle.std.specs.Prelude.{◌≡◌, ℕ, true, [], ◌∷◌}
use Rattle.nvme_mailbox.specs.Apart.{HasMailbox}
use Rattle.nvme_mailbox.specs.Fleets.{Fleet, Run, opening}
use Rattle.nvme_mailbox.specs.Mailboxes.{Mailbox}
use Rattle.nvme_mailbox.specs.Tickets.{GoesOnce, aborted, along, done, executed, given}
use Rattle.nvme_theorem_runs.specs.Cluster.{blocks, pair}
use Rattle.nvme_session_runs.specs.DriverLayers.{events, replies}

abbrev pub first : Fleet
first = opening pair blocks

-- TicketsOfAnOpeningGoOnce: over the run of DriversAtWork host a1h gets ticket 1, whose request is aborted and not
-- executed.
pub record TicketsAtWork : Type 0 where
  pub left : Fleet
  pub run : Run true first events replies left
  pub given_are : along (given 1) true first events replies left run ≡ 1 ∷ []
  pub executed_are : along (executed 1) true first events replies left run ≡ []
  pub done_are : along (done 1) true first events replies left run ≡ []
  pub aborted_are : along (aborted 1) true first events replies left run ≡ 1 ∷ []
  pub mailbox : Mailbox
  pub host : HasMailbox left 1 mailbox
  pub once : (t : ℕ) → GoesOnce t mailbox (1 ∷ []) [] [] (1 ∷ [])
