-- For `fencing.rt`: the example runs of the theorem on each event, computed.
use Rattle.std.specs.Prelude.{replicate}
use Rattle.std.proofs.Common.{Ok, [], ap, false, refl, subst, sym, true, ◌∙◌, ◌∷◌, ◌≡◌}
use Rattle.std.proofs.lemmas.List.{append-nil}
use Rattle.nvme_spec.specs.Layout.{IsLaidOut, may_write}
use Rattle.nvme_spec.specs.MediumCalls.{Writes}
use Rattle.nvme_machine.specs.declared.event.Event.{Event}
use Rattle.nvme_machine.specs.declared.event.Event.TheVariants.{Execute, PowerCycle}
use Rattle.nvme_machine.specs.AllowedCalls.{IsCutAt}
use Rattle.nvme_machine.specs.EventCalls.{AreCallsOfRun, AreCallsOfStep}
use Rattle.nvme_machine.specs.Examples.{of_queue_1}
use Rattle.nvme_machine.specs.FaultFree.{fault_free_left, fault_free_seen, fault_free_step}
use Rattle.nvme_machine.specs.FaultFreeCalls.{event_calls, fault_free_calls}
use Rattle.nvme_machine.specs.Fencing.{namespace_bytes}
use Rattle.nvme_machine.specs.Secrecy.{over}
use Rattle.nvme_machine.specs.Subsystems.{Subsystem, controller_at}
use Rattle.nvme_machine.proofs.CallLaws.{run_calls_exist}
use Rattle.nvme_machine.proofs.Determined.{steps}
use Rattle.nvme_machine.proofs.MixedRuns.{fencing_holds_of_each_event}
use Rattle.nvme_theorem_runs.specs.Cluster.{held_by_a1, zeroes}
use Rattle.nvme_theorem_runs.specs.EachEvent.{
  EachEventAtWork,
  EachEventOfAnyHost,
  SecrecyOfAnyHost,
  all_events,
  both_write,
  front,
}
use Rattle.nvme_theorem_runs.specs.Reading.{other_blocks, read_entry}
use Rattle.nvme_theorem_runs.proofs.Computing.{apart, distinct, first_of, left-laid, step-calls}
use Rattle.nvme_theorem_runs.proofs.Laying.{laid}
use Rattle.nvme_theorem_runs.proofs.ReadingRuns.{
  differ,
  few-read,
  front_of,
  fronts,
  one_read,
  open_one,
  other-laid,
  quiet,
}
use Rattle.nvme_theorem_runs.proofs.Unfolding.{computing}

pub both-laid : IsLaidOut both_write.world both_write.device.content
both-laid = laid (held_by_a1 1) (zeroes 1 ∷ []) (zeroes 1 ∷ [])

abbrev pub now_of : Subsystem
now_of = fault_free_left both_write front

abbrev next_of : Subsystem
next_of = (fault_free_step now_of (Execute 2 0)).left

now-laid : IsLaidOut now_of.world now_of.device.content
now-laid = left-laid both_write front both-laid

-- the calls of the three events
three-calls : (fault_free_calls both_write front ≡ Writes 0 (replicate 512 0) (Ok tt) ∷ [])
    × (event_calls now_of (Execute 2 0) ≡ [])
    × (fault_free_calls next_of (PowerCycle ∷ []) ≡ [])
unfolding computing
three-calls = (refl, refl, refl)

pub first-calls : AreCallsOfRun true both_write front (fault_free_seen both_write front) now_of
    (Writes 0 (replicate 512 0) (Ok tt) ∷ [])
first-calls = subst (λ cs. AreCallsOfRun true both_write front (fault_free_seen both_write front) now_of cs)
    three-calls.0 (run_calls_exist both_write front both-laid).0

pub own-calls : AreCallsOfStep true now_of (Execute 2 0) (fault_free_step now_of (Execute 2 0)).seen next_of []
own-calls = subst (λ cs. AreCallsOfStep true now_of (Execute 2 0) (fault_free_step now_of (Execute 2 0)).seen next_of
    cs) three-calls.1
    (step-calls now_of (Execute 2 0) now-laid)

pub last-calls : AreCallsOfRun true next_of (PowerCycle ∷ []) (fault_free_seen next_of (PowerCycle ∷ []))
    (fault_free_left next_of (PowerCycle ∷ [])) []
last-calls = subst (λ cs. AreCallsOfRun true next_of (PowerCycle ∷ []) (fault_free_seen next_of (PowerCycle ∷ []))
    (fault_free_left next_of (PowerCycle ∷ [])) cs) three-calls.2
    (run_calls_exist next_of (PowerCycle ∷ []) (left-laid now_of (Execute 2 0 ∷ []) now-laid)).0

abbrev pub the_cut : IsCutAt true both_write front (Execute 2 0) (PowerCycle ∷ [])
    (fault_free_seen both_write all_events) (fault_free_left both_write all_events)
    (Writes 0 (replicate 512 0) (Ok tt) ∷ [])
the_cut = record {
  given = fault_free_seen both_write front;
  gives = (fault_free_step now_of (Execute 2 0)).seen;
  rest = fault_free_seen next_of (PowerCycle ∷ []);
  told = refl;
  now = now_of;
  next = next_of;
  before = Writes 0 (replicate 512 0) (Ok tt) ∷ [];
  own = [];
  behind = [];
  first = first-calls;
  then_this = own-calls;
  then_those = last-calls;
  joined = refl;
}

facts : (namespace_bytes both_write 1 ≡ replicate 512 1) × (namespace_bytes now_of 1 ≡ replicate 512 0)
    × (may_write now_of.world 2 1 ≡ false)
unfolding computing
facts = (refl, refl, refl)

pub each_event_at_work : EachEventAtWork
each_event_at_work = record {
  reached = the_cut;
  now = refl;
  before = facts.0;
  written = facts.1;
  fenced_host = facts.2;
  holds = fencing_holds_of_each_event true both_write (fault_free_left both_write all_events) front (PowerCycle ∷ [])
      (Execute 2 0)
      (fault_free_seen both_write all_events) (Writes 0 (replicate 512 0) (Ok tt) ∷ []) 1 the_cut facts.2;
}

-- a run of one event, cut there
abbrev pub alone : (s : Subsystem) (event : Event) → IsLaidOut s.world s.device.content
    → IsCutAt true s [] event [] ((fault_free_step s event).seen ∷ []) (fault_free_step s event).left
    (event_calls s event)
alone s event on = record {
  given = [];
  gives = (fault_free_step s event).seen;
  rest = [];
  told = refl;
  now = s;
  next = (fault_free_step s event).left;
  before = [];
  own = event_calls s event;
  behind = [];
  first = (refl, refl);
  then_this = step-calls s event on;
  then_those = (refl, refl);
  joined = sym (append-nil (event_calls s event));
}

pub first-bytes : (first_of (namespace_bytes both_write 1) ≡ 1) ×
    (first_of (namespace_bytes (fault_free_step both_write (Execute 1 0)).left 1) ≡ 0)
unfolding computing
first-bytes = (refl, refl)

pub each_event_needs_the_host : EachEventOfAnyHost → ⊥
each_event_needs_the_host law =
    let event : Event = Execute 1 0 in
    let next = fault_free_step both_write event in
    let nothing = law true both_write next.left [] [] event (next.seen ∷ []) (event_calls both_write event) 1
    (alone both_write event both-laid) in
    apart _ _ first-bytes.1 first-bytes.0 (nothing.bytes refl both-laid)

pub secrecy_needs_the_host : SecrecyOfAnyHost → ⊥
unfolding one_read controller_at
secrecy_needs_the_host law =
    let event : Event = Execute 2 0 in
    let next = fault_free_step open_one event in
    let on = laid (held_by_a1 1) [] (of_queue_1 read_entry ∷ []) in
    let other = fault_free_step (over other_blocks open_one) event in
    let other_on = other-laid (held_by_a1 1) [] (of_queue_1 read_entry ∷ []) in
    let is = law open_one next.left [] [] event (next.seen ∷ []) (event_calls open_one event) 1 other_blocks on
    (alone open_one event on)
    (differ (held_by_a1 1) [] (of_queue_1 read_entry ∷ [])) other.left other.seen
    (steps (over other_blocks open_one) event other_on) quiet.0 quiet.1 few-read in
    distinct 9 1 refl (sym fronts.1 ∙ ap front_of is.1 ∙ fronts.0)
