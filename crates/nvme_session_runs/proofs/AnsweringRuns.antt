-- For `answering.rt`: lines of a session are answered.
use Rattle.std.proofs.Common.{◌≡◌, true, false, List, [], ◌∷◌, Some, refl, sym, subst}
use Rattle.std.specs.Prelude.{codes}
use Rattle.std.specs.List.{list_any}
use Rattle.nvme_event.specs.declared.event.FleetEvent.{FleetEvent}
use Rattle.nvme_fleet.specs.Layers.{Run}
use Rattle.nvme_grammar.proofs.OnLiterals.{lines_on_literals}
use Rattle.live_text.specs.Asking.{asked}
use Rattle.nvme_live.specs.Keeping.{is_block_look}
use Rattle.nvme_live.specs.SessionLaws.{IsAnswered, asks_start, events_asked}
use Rattle.nvme_live.specs.SetUps.{nothing_set_up}
use Rattle.nvme_live.specs.Standings.{Setting, refused_text}
use Rattle.nvme_live.specs.Saying.{with_feed}
use Rattle.nvme_spec.specs.declared.config.ConfigFault.TheVariants.{DoesNotFit}
use Rattle.nvme_live.proofs.SessionLaws.{lines_before_start_are_answered, lines_of_a_run_are_answered}
use Rattle.nvme_session_runs.proofs.ReplayRuns.{played_at_work}
use Rattle.nvme_session_runs.proofs.SessionRuns.{refusal_at_work, session_at_work}
use Rattle.nvme_session_runs.specs.Answering.{LinesAnswered, event_lines}
use Rattle.nvme_session_runs.specs.Replays as raw
use Rattle.nvme_session_runs.specs.Sessions.{lines, medium, set_up, too_large, two_blocks}

no-start : list_any (λ line. asks_start (asked line)) lines ≡ false
unfolding lines asked lines_on_literals
no-start = refl

is-start : asks_start (asked (codes "start")) ≡ true
unfolding asked lines_on_literals
is-start = refl

before : IsAnswered true two_blocks medium 1 (Setting nothing_set_up) lines (Setting set_up)
before =
    let law = lines_before_start_are_answered true two_blocks medium 1 nothing_set_up lines no-start in
    let one = session_at_work.alone (Setting law.0) law.1.0 law.1.1 refl in
    subst (λ standing. IsAnswered true two_blocks medium 1 (Setting nothing_set_up) lines standing) one.1 law.1

no-look : list_any (λ line. is_block_look (asked line)) event_lines ≡ false
unfolding raw.enabling_lines raw.command_lines asked lines_on_literals
no-look = refl

happen : events_asked event_lines ≡ raw.events
unfolding raw.enabling_lines raw.command_lines asked lines_on_literals
happen = refl

pub lines_answered : LinesAnswered
lines_answered = record {
  no_start = no-start;
  before = before;
  is_start = is-start;
  start = (with_feed (refused_text 5 DoesNotFit (Some (4, too_large))) ∷ [], refusal_at_work.start);
  no_look = no-look;
  events = happen;
  after = lines_of_a_run_are_answered true raw.one_block raw.disk 4 raw.opened raw.ended event_lines raw.replies no-look
      (subst (λ (events : List FleetEvent). Run true raw.opened events raw.replies raw.ended) (sym happen)
      played_at_work.run);
}
