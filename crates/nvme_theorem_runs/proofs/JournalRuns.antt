-- For `journals.rt`: the example run and its journal, computed.
use Rattle.std.proofs.Common.{◌≡◌, ap, false, List, refl, sym, true, [], ◌∷◌, ◌∙◌}
use Rattle.std.proofs.lemmas.Bool.{false≢true}
use Rattle.nvme_spec.specs.Layout.{may_write}
use Rattle.nvme_machine.specs.declared.event.Event.{Event}
use Rattle.nvme_machine.specs.FaultFree.{fault_free_left, fault_free_seen, fault_free_step}
use Rattle.nvme_machine.specs.Subsystems.{Run, Subsystem}
use Rattle.nvme_machine.proofs.Determined.{steps}
use Rattle.nvme_machine.proofs.Layouts.{layout_stays}
use Rattle.nvme_journal.specs.Records.{carried_all, lasts}
use Rattle.nvme_spec.specs.Layout.{IsLaidOut}
use Rattle.nvme_target.specs.Journals.{journal}
use Rattle.nvme_target.proofs.Journals.{journal_holds_the_access_state}
use Rattle.nvme_theorem_runs.specs.Cluster.{acquire, held_by_a1, register, zeroes}
use Rattle.nvme_theorem_runs.specs.Journals.{
  JournalAtWork,
  JournalOfAnyRecords,
  after_kept,
  kept_events,
  preempting,
  records,
}
use Rattle.nvme_theorem_runs.proofs.Laying.{laid}
use Rattle.nvme_theorem_runs.proofs.Unfolding.{computing}

-- A run without a fault, event by event, so that its journal computes.
unfoldable each : (s : Subsystem) (events : List Event) → IsLaidOut s.world s.device.content
    → Run true s events (fault_free_seen s events) (fault_free_left s events)
each s [] on = refl
each s (event ∷ events) on =
    let next = (fault_free_step s event).left in
    let one = steps s event on in
    (next, one, each next events (layout_stays s next event (fault_free_step s event).seen on one))

abbrev on : IsLaidOut preempting.world preempting.device.content
on = laid (held_by_a1 1) [] (register ∷ acquire 1 ∷ zeroes 1 ∷ [])

unfoldable the_run : Run true preempting kept_events (fault_free_seen preempting kept_events) after_kept
the_run = each preempting kept_events on

keeps : journal true preempting kept_events (fault_free_seen preempting kept_events) after_kept the_run ≡ records
unfolding computing kept_events lasts the_run each
keeps = refl

permissions : (may_write preempting.world 2 1 ≡ false) × (may_write after_kept.world 2 1 ≡ true)
unfolding computing kept_events
permissions = (refl, refl)

pub journal_at_work : JournalAtWork
journal_at_work = record {
  run = the_run;
  keeps = keeps;
  holds = journal_holds_the_access_state true preempting after_kept kept_events (fault_free_seen preempting kept_events)
      the_run ∙ ap (λ r. carried_all r preempting.world) keeps;
  fenced = permissions.0;
  writes = permissions.1;
}

pub journal_needs_its_records : JournalOfAnyRecords → ⊥
journal_needs_its_records law =
    let same = law true true preempting after_kept preempting preempting kept_events []
    (fault_free_seen preempting kept_events) [] the_run refl refl in
    false≢true (sym permissions.0 ∙ ap (λ w. may_write w 2 1) same.now ∙ permissions.1)
