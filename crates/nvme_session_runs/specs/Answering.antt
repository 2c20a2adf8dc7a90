-- Example runs of the laws that lines of a session are answered.
use Rattle.std.specs.Prelude.{◌≡◌, ◌++◌, ℕ, true, false, List, [], ◌∷◌, codes}
use Rattle.std.specs.List.{list_any}
use Rattle.nvme_spec.specs.declared.config.ConfigFault.TheVariants.{DoesNotFit}
use Rattle.live_text.specs.Asking.{asked}
use Rattle.nvme_live.specs.Keeping.{is_block_look}
use Rattle.nvme_live.specs.SessionLaws.{IsAnswered, asks_start, events_asked}
use Rattle.nvme_live.specs.SetUps.{nothing_set_up}
use Rattle.nvme_live.specs.Standings.{Over, Running, Setting}
use Rattle.nvme_session_runs.specs.Replays as raw
use Rattle.nvme_session_runs.specs.Sessions.{lines, medium, set_up, two_blocks}

abbrev pub event_lines : List (List ℕ)
event_lines = raw.enabling_lines ++ raw.command_lines

-- LinesBeforeStartAreAnswered and StartIsAnswered: the lines of RefusalAtWork, and its `start`. LinesOfARunAreAnswered:
-- the nine lines of PlayedAtWork after `start`, without a query of blocks, are answered by its run.
pub record LinesAnswered : Type 0 where
  pub no_start : list_any (λ line. asks_start (asked line)) lines ≡ false
  pub before : IsAnswered true two_blocks medium 1 (Setting nothing_set_up) lines (Setting set_up)
  pub is_start : asks_start (asked (codes "start")) ≡ true
  pub start : IsAnswered true two_blocks medium 5 (Setting set_up) (codes "start" ∷ []) (Over 5 DoesNotFit)
  pub no_look : list_any (λ line. is_block_look (asked line)) event_lines ≡ false
  pub events : events_asked event_lines ≡ raw.events
  pub after : IsAnswered true raw.one_block raw.disk 4 (Running raw.opened) event_lines (Running raw.ended)
