-- For `fleets.rt`: the example runs of fencing, preempted hosts and secrecy in a fleet, computed.
use Rattle.std.specs.Prelude.{if◌then◌else◌, replicate, slice_get}
use Rattle.std.proofs.Common.{
  Err,
  List,
  Ok,
  Some,
  [],
  ap,
  arith,
  false,
  nat_lt,
  refl,
  subst,
  sym,
  true,
  ℕ,
  ◌++◌,
  ◌-◌,
  ◌<◌,
  ◌==◌,
  ◌^◌,
  ◌∙◌,
  ◌∷◌,
  ◌≡◌,
}
use Rattle.nvme_spec.specs.declared.command.Command.TheVariants.{ReservationAcquire}
use Rattle.nvme_spec.specs.declared.outcome.Outcome.{Outcome}
use Rattle.nvme_spec.specs.declared.verdict.Verdict.TheVariants.{Denied}
use Rattle.nvme_spec.specs.Commands.{action, writers}
use Rattle.nvme_spec.specs.Execution.{denial_outcome}
use Rattle.nvme_spec.specs.Layout.{bytes_of, may_write}
use Rattle.nvme_spec.specs.Reservation.{Reservation}
use Rattle.nvme_spec.specs.Statuses.{reservation_conflict}
use Rattle.nvme_spec.specs.World.{host_of}
use Rattle.nvme_spec.proofs.Fencing.{layout-kept}
use Rattle.nvme_spec.proofs.Namespaces.{same-layout}
use Rattle.nvme_machine.specs.PowerCycles.{Persists}
use Rattle.nvme_machine.specs.Secrecy.{DifferIn}
use Rattle.nvme_machine.specs.Subsystems.{is_host_among}
use Rattle.nvme_event.specs.declared.event.FleetEvent.{FleetEvent}
use Rattle.nvme_event.specs.declared.event.FleetEvent.TheVariants.{Execute}
use Rattle.nvme_event.specs.Replies.{Reply}
use Rattle.nvme_mailbox.specs.Determined.{failures_in}
use Rattle.nvme_mailbox.specs.FaultFree.{fault_free_left, fault_free_replies, fault_free_step}
use Rattle.nvme_mailbox.specs.Fencing.{IsOn, LeavesReservation, ReservesNothing, RunWhere, fenced}
use Rattle.nvme_mailbox.specs.Fleets.{Fleet, Step, host_at}
use Rattle.nvme_mailbox.specs.IoCommands.{IoCommand, IsExecutedBy, command_at, verdict_on}
use Rattle.nvme_mailbox.specs.Preempting.{IsHeld, LeavesOutside, Preempts, removed_hosts}
use Rattle.nvme_mailbox.specs.Regular.{IsRegular}
use Rattle.nvme_mailbox.specs.Secrecy.{MayNotRead, over}
use Rattle.nvme_mailbox.proofs.IoExecutions.{executed_as_the_policy_allows}
use Rattle.nvme_mailbox.proofs.PowerCycles.{fencing_outlasts_power}
use Rattle.nvme_mailbox.proofs.Preempted.{preempted_stays_out}
use Rattle.nvme_mailbox.proofs.Refused.{fencing_holds}
use Rattle.nvme_mailbox.proofs.Secrecy.{fenced_reading}
use Rattle.nvme_theorem_runs.specs.Cluster.{blocks, cluster, done, forgotten, held_by_a1, reserved, with_b2, zeroes}
use Rattle.nvme_theorem_runs.specs.Fleets.{
  FleetFencingAtWork,
  FleetFencingOfAnyHost,
  FleetFencingOverAnyRun,
  FleetOutlastingAtWork,
  FleetOutlastingOfAnyReservation,
  FleetPreemptingAtWork,
  FleetPreemptingOverAnyRun,
  FleetPreemptingUnheld,
  FleetReadingAtWork,
  FleetReadingOfAnyHost,
  PolicyOfAnyCommand,
  after_preempt,
  after_reading,
  asks,
  back_up,
  before_preempt,
  carried,
  conflicting,
  denied_as,
  duo,
  executed_as,
  in_conflict,
  its_command,
  power_and_up,
  preempt_asked,
  preempted_events,
  preempted_last,
  reading,
  zeroes_asked,
}
use Rattle.nvme_theorem_runs.specs.Reading.{other_blocks}
use Rattle.nvme_theorem_runs.proofs.Computing.{distinct}
use Rattle.nvme_theorem_runs.proofs.FleetComputing.{
  all_along,
  computed_run,
  duo-regular,
  leaves,
  leaving,
  leaving-outside,
  left-regular,
  next-regular,
  registers_none,
  reserves_nothing,
  reserving-nothing,
  rule_in,
  run-where,
  steps,
}
use Rattle.nvme_theorem_runs.proofs.FleetUnfolding.{fleet_computing}
use Rattle.nvme_theorem_runs.proofs.ReadingRuns.{differ}
use Rattle.nvme_theorem_runs.proofs.Unfolding.{computing}
use Rattle.nvme_driver.specs.declared.request.Request.TheVariants as request
use Rattle.nvme_spec.specs.Statuses as status

-- Fencing.

conflicting-facts : (all_along (leaves 1) (duo (held_by_a1 1)) conflicting ≡ true)
    × (may_write (duo (held_by_a1 1)).site.world 2 1 ≡ false)
    × (bytes_of in_conflict.site.world in_conflict.site.device.content 1 ≡ replicate 512 0)
    × ((fault_free_step in_conflict (Execute 2 0)).reply ≡ executed_as denied_as)
unfolding computing fleet_computing conflicting
conflicting-facts = (refl, refl, refl, refl)

-- the command of host b2h at the end of a list of events
abbrev IsWrite : Fleet → IoCommand → Type 0
IsWrite f x = (its_command f ≡ Some x) × IsOn 1 writers x

conflicting-command : (x : IoCommand) × IsWrite in_conflict x
    × (rule_in (executed_as (denial_outcome (fenced in_conflict.site.world 2 x).rule status.reservation_conflict)) ≡ 7)
unfolding computing fleet_computing conflicting
conflicting-command = (_, (refl, record { names = refl; is_one = refl }), refl)

conflict-step : Step true in_conflict (Execute 2 0) (executed_as denied_as)
    (fault_free_step in_conflict (Execute 2 0)).fleet
conflict-step = subst (λ reply. Step true in_conflict (Execute 2 0) reply
    (fault_free_step in_conflict (Execute 2 0)).fleet) conflicting-facts.3
    (steps in_conflict (Execute 2 0) (left-regular (duo (held_by_a1 1)) conflicting (duo-regular (held_by_a1 1))).laid)

conflicting-run : RunWhere (LeavesReservation 1) true (duo (held_by_a1 1)) conflicting
    (fault_free_replies (duo (held_by_a1 1)) conflicting) in_conflict
conflicting-run = run-where (leaves 1) (LeavesReservation 1) (leaving 1) (duo (held_by_a1 1)) conflicting
    (duo-regular (held_by_a1 1)) conflicting-facts.0

pub fleet_fencing_at_work : FleetFencingAtWork
fleet_fencing_at_work =
    let x = conflicting-command in
    let numbers = (duo-regular (held_by_a1 1)).numbers in
    let at_end = (left-regular (duo (held_by_a1 1)) conflicting (duo-regular (held_by_a1 1))).numbers in
    record {
      numbered = numbers;
      fenced_host = conflicting-facts.1;
      run = conflicting-run;
      written = conflicting-facts.2;
      command = x.0;
      found = x.1.0;
      is = x.1.1;
      denied = conflicting-facts.3;
      holds = fencing_holds true (duo (held_by_a1 1)) in_conflict (fault_free_step in_conflict (Execute 2 0)).fleet
          conflicting
          (fault_free_replies (duo (held_by_a1 1)) conflicting) 1 2 0 x.0 denied_as numbers conflicting-facts.1
          conflicting-run x.1.0 x.1.1 conflict-step;
      policy = executed_as_the_policy_allows true in_conflict (fault_free_step in_conflict (Execute 2 0)).fleet 2 0
          x.0 denied_as at_end conflict-step x.1.0;
    }

-- The holder releases the namespace.

unfoldable released : List FleetEvent
released = carried 1 (request.Release 1 0 1 0x11) ++ asks 2 (zeroes_asked 1)

abbrev after_release : Fleet
after_release = fault_free_left (duo (held_by_a1 1)) released

released-reply : (fault_free_step after_release (Execute 2 0)).reply ≡ executed_as done
unfolding computing fleet_computing released
released-reply = refl

released-command : (x : IoCommand) × IsWrite after_release x × ((fenced after_release.site.world 2 x).rule ≡ 7)
unfolding computing fleet_computing released
released-command = (_, (refl, record { names = refl; is_one = refl }), refl)

-- an execution with this answer
answered-step : (f : Fleet) (k i : ℕ) (outcome : Outcome) → IsRegular f
    → (fault_free_step f (Execute k i)).reply ≡ executed_as outcome
    → Step true f (Execute k i) (executed_as outcome) (fault_free_step f (Execute k i)).fleet
answered-step f k i outcome regular is = subst (λ reply. Step true f (Execute k i) reply
    (fault_free_step f (Execute k i)).fleet) is (steps f (Execute k i) regular.laid)

pub fleet_fencing_needs_the_reservation : FleetFencingOverAnyRun → ⊥
fleet_fencing_needs_the_reservation law =
    let x = released-command in
    let regular = duo-regular (held_by_a1 1) in
    let is = law true (duo (held_by_a1 1)) after_release (fault_free_step after_release (Execute 2 0)).fleet released
    (fault_free_replies (duo (held_by_a1 1)) released)
    1 2 0 x.0 done regular.numbers conflicting-facts.1 (computed_run (duo (held_by_a1 1)) released regular) x.1.0 x.1.1
    (answered-step after_release 2 0 done (left-regular (duo (held_by_a1 1)) released regular) released-reply) in
    distinct 0 7 refl (ap (λ (o : Outcome). o.rule) is ∙ x.2)

-- The holder writes.

unfoldable own_write : List FleetEvent
own_write = asks 1 (zeroes_asked 1)

abbrev holder_asks : Fleet
holder_asks = fault_free_left (duo (held_by_a1 1)) own_write

holder-facts : (all_along (leaves 1) (duo (held_by_a1 1)) own_write ≡ true)
    × ((fault_free_step holder_asks (Execute 1 0)).reply ≡ executed_as done)
unfolding computing fleet_computing own_write
holder-facts = (refl, refl)

holder-command : (x : IoCommand) × (command_at holder_asks 1 0 ≡ Some x) × IsOn 1 writers x
    × ((fenced holder_asks.site.world 1 x).rule ≡ 7)
unfolding computing fleet_computing own_write
holder-command = (_, refl, record { names = refl; is_one = refl }, refl)

pub fleet_fencing_needs_the_host : FleetFencingOfAnyHost → ⊥
fleet_fencing_needs_the_host law =
    let x = holder-command in
    let regular = duo-regular (held_by_a1 1) in
    let is = law true (duo (held_by_a1 1)) holder_asks (fault_free_step holder_asks (Execute 1 0)).fleet own_write
    (fault_free_replies (duo (held_by_a1 1)) own_write)
    1 1 0 x.0 done regular.numbers (run-where (leaves 1) (LeavesReservation 1) (leaving 1) (duo (held_by_a1 1))
    own_write regular holder-facts.0) x.1 x.2
    (answered-step holder_asks 1 0 done (left-regular (duo (held_by_a1 1)) own_write regular) holder-facts.1) in
    distinct 0 7 refl (ap (λ (o : Outcome). o.rule) is ∙ x.3)

-- The policy, for another command.

another-denied : (x : IoCommand) × (verdict_on x ≡ Denied 7 status.reservation_conflict)
unfolding computing fleet_computing conflicting
another-denied = (
  record {
    entry = (zeroes 1).entry;
    marked = false;
    sent = [];
    judgement = Err (record { rule = 7; status = status.reservation_conflict });
  },
  refl,
)

pub policy_needs_the_command : PolicyOfAnyCommand → ⊥
policy_needs_the_command law =
    let x = another-denied in
    let regular = left-regular (duo (held_by_a1 1)) own_write (duo-regular (held_by_a1 1)) in
    let by = law true holder_asks (fault_free_step holder_asks (Execute 1 0)).fleet 1 0 x.0 done regular.numbers
    (answered-step holder_asks 1 0 done regular holder-facts.1) in
    let denied = subst (λ v. IsExecutedBy v true 1 x.0 holder_asks.site done
    (fault_free_step holder_asks (Execute 1 0)).fleet.site) x.1 by in
    distinct 0 7 refl (ap (λ (o : Outcome). o.rule) denied.0)

-- Preempted hosts.

preempt-regular : IsRegular before_preempt
preempt-regular = left-regular (duo (with_b2 3)) (asks 1 preempt_asked) (duo-regular (with_b2 3))

preempt-reply : (o : Outcome) × ((fault_free_step before_preempt (Execute 1 0)).reply ≡ executed_as o)
    × (may_write before_preempt.site.world 2 1 ≡ true)
unfolding computing fleet_computing
preempt-reply = (_, refl, refl)

preempt-command : (x : IoCommand) × (command_at before_preempt 1 0 ≡ Some x) × IsOn 1 (ReservationAcquire ∷ []) x
    × ((action x.entry == 0) ≡ false) × (x.judgement ≡ Ok tt)
    × (is_host_among (removed_hosts before_preempt 1 x) (Some 0xb2) ≡ true)
unfolding computing fleet_computing
preempt-command = (_, refl, record { names = refl; is_one = refl }, refl, refl, refl)

preempts : Preempts true 1 before_preempt 1 0 preempt-command.0 after_preempt
preempts =
    let x = preempt-command in
    record {
      outcome = preempt-reply.0;
      step = answered-step before_preempt 1 0 preempt-reply.0 preempt-regular preempt-reply.1;
      found = x.1;
      is = x.2;
      preempts = x.3;
      allowed = x.4;
    }

after-regular : IsRegular after_preempt
after-regular = next-regular before_preempt (Execute 1 0) preempt-regular

last-facts : (all_along (registers_none 1 0xb2) after_preempt preempted_events ≡ true)
    × (host_of preempted_last.site.world 2 ≡ Some 0xb2)
    × ((fault_free_step preempted_last (Execute 2 0)).reply ≡ executed_as denied_as)
unfolding computing fleet_computing preempted_events
last-facts = (refl, refl, refl)

last-held : IsHeld preempted_last.site.world 1
unfolding computing fleet_computing preempted_events
last-held = record { reservation = _; of = refl; held = refl }

last-command : (x : IoCommand) × IsWrite preempted_last x
unfolding computing fleet_computing preempted_events
last-command = (_, (refl, record { names = refl; is_one = refl }))

pub fleet_preempting_at_work : FleetPreemptingAtWork
fleet_preempting_at_work =
    let x = preempt-command in
    let y = last-command in
    let run = run-where (registers_none 1 0xb2) (LeavesOutside 1 0xb2) (leaving-outside 1 0xb2) after_preempt
    preempted_events after-regular last-facts.0 in
    let step = answered-step preempted_last 2 0 denied_as (left-regular after_preempt preempted_events after-regular)
    last-facts.2 in
    record {
      numbered = preempt-regular.numbers;
      first = x.0;
      preempts = preempts;
      removed = x.5;
      might = preempt-reply.2;
      run = run;
      held = last-held;
      host = last-facts.1;
      command = y.0;
      found = y.1.0;
      is = y.1.1;
      denied = last-facts.2;
      holds = preempted_stays_out true before_preempt after_preempt preempted_last
          (fault_free_step preempted_last (Execute 2 0)).fleet 1 1 0 0xb2 x.0
          preempt-regular.numbers preempts x.5 preempted_events (fault_free_replies after_preempt preempted_events)
          run last-held 2 0 y.0 denied_as last-facts.1 y.1.0 y.1.1 step;
    }

-- It registers again, and is a registrant.

unfoldable registers_again : List FleetEvent
registers_again = carried 2 (request.Register 1 0 false 0 0 0x33) ++ asks 2 (zeroes_asked 1)

abbrev registrant_again : Fleet
registrant_again = fault_free_left after_preempt registers_again

again-facts : (host_of registrant_again.site.world 2 ≡ Some 0xb2)
    × ((fault_free_step registrant_again (Execute 2 0)).reply ≡ executed_as done)
unfolding computing fleet_computing registers_again
again-facts = (refl, refl)

again-held : IsHeld registrant_again.site.world 1
unfolding computing fleet_computing registers_again
again-held = record { reservation = _; of = refl; held = refl }

again-command : (x : IoCommand) × IsWrite registrant_again x × ((fenced registrant_again.site.world 2 x).rule ≡ 7)
unfolding computing fleet_computing registers_again
again-command = (_, (refl, record { names = refl; is_one = refl }), refl)

pub fleet_preempting_needs_the_run : FleetPreemptingOverAnyRun → ⊥
fleet_preempting_needs_the_run law =
    let x = preempt-command in
    let y = again-command in
    let is = law true before_preempt after_preempt registrant_again
    (fault_free_step registrant_again (Execute 2 0)).fleet 1 1 0 0xb2 x.0 preempt-regular.numbers preempts x.5
    registers_again (fault_free_replies after_preempt registers_again)
    (computed_run after_preempt registers_again after-regular) again-held 2 0 y.0 done again-facts.0 y.1.0 y.1.1
    (answered-step registrant_again 2 0 done (left-regular after_preempt registers_again after-regular) again-facts.1)
    in
    distinct 0 7 refl (ap (λ (o : Outcome). o.rule) is ∙ y.2)

-- The holder releases it.

unfoldable then_released : List FleetEvent
then_released = carried 1 (request.Release 1 0 3 0x11) ++ asks 2 (zeroes_asked 1)

abbrev free_again : Fleet
free_again = fault_free_left after_preempt then_released

free-facts : (all_along (registers_none 1 0xb2) after_preempt then_released ≡ true)
    × (host_of free_again.site.world 2 ≡ Some 0xb2)
    × ((fault_free_step free_again (Execute 2 0)).reply ≡ executed_as done)
unfolding computing fleet_computing then_released
free-facts = (refl, refl, refl)

free-command : (x : IoCommand) × IsWrite free_again x × ((fenced free_again.site.world 2 x).rule ≡ 7)
unfolding computing fleet_computing then_released
free-command = (_, (refl, record { names = refl; is_one = refl }), refl)

pub fleet_preempting_needs_a_holder : FleetPreemptingUnheld → ⊥
fleet_preempting_needs_a_holder law =
    let x = preempt-command in
    let y = free-command in
    let run = run-where (registers_none 1 0xb2) (LeavesOutside 1 0xb2) (leaving-outside 1 0xb2) after_preempt
    then_released after-regular free-facts.0 in
    let is = law true before_preempt after_preempt free_again (fault_free_step free_again (Execute 2 0)).fleet 1 1 0
    0xb2 x.0 preempt-regular.numbers preempts x.5
    then_released (fault_free_replies after_preempt then_released) run 2 0 y.0 done free-facts.1 y.1.0 y.1.1
    (answered-step free_again 2 0 done (left-regular after_preempt then_released after-regular) free-facts.2) in
    distinct 0 7 refl (ap (λ (o : Outcome). o.rule) is ∙ y.2)

-- Secrecy.

reading-facts : (all_along (leaves 1) (duo (held_by_a1 2)) reading ≡ true)
    × (slice_get (fault_free_replies (duo (held_by_a1 2)) reading) 3 ≡ Some (executed_as denied_as))
unfolding computing fleet_computing reading
reading-facts = (refl, refl)

may-not-read : MayNotRead (duo (held_by_a1 2)).site.world 1 reading
unfolding computing fleet_computing reading
may-not-read = (refl, (refl, (refl, (refl, (refl, (refl, tt))))))

duo-differ : (r : Reservation) → DifferIn 1 (duo r).site.world (duo r).site.device other_blocks
unfolding duo cluster
duo-differ r = differ r [] []

pub fleet_reading_at_work : FleetReadingAtWork
fleet_reading_at_work =
    let regular = duo-regular (held_by_a1 2) in
    let run = run-where (leaves 1) (LeavesReservation 1) (leaving 1) (duo (held_by_a1 2)) reading regular
    reading-facts.0 in
    record {
      regular = regular;
      differ = duo-differ (held_by_a1 2);
      run = run;
      fenced_host = may-not-read;
      denied = reading-facts.1;
      holds = fenced_reading (duo (held_by_a1 2)) after_reading other_blocks reading
          (fault_free_replies (duo (held_by_a1 2)) reading) 1 regular
          (duo-differ (held_by_a1 2)) run may-not-read;
    }

over-regular : (r : Reservation) → IsRegular (over other_blocks (duo r))
unfolding host_at duo cluster other_blocks
over-regular r =
    let regular = duo-regular r in
    record {
      laid = layout-kept (reserved r) (reserved r) blocks.content other_blocks.content
          (same-layout (reserved r) (reserved r) refl) refl regular.laid;
      numbers = regular.numbers;
      taken = regular.taken;
    }

front_byte : List Reply → ℕ
front_byte [] = 0
front_byte (r ∷ rs) = if nat_lt 0 (first_byte r.bytes) then first_byte r.bytes else front_byte rs
  where
    first_byte : List ℕ → ℕ
    first_byte [] = 0
    first_byte (b ∷ bs) = b

open-facts : (all_along (leaves 1) (duo (held_by_a1 1)) reading ≡ true)
    × (failures_in (fault_free_left (duo (held_by_a1 1)) reading) ≡ failures_in (duo (held_by_a1 1)))
    × (failures_in (fault_free_left (over other_blocks (duo (held_by_a1 1))) reading) ≡ failures_in
    (duo (held_by_a1 1)))
    × (front_byte (fault_free_replies (duo (held_by_a1 1)) reading) ≡ 1)
    × (front_byte (fault_free_replies (over other_blocks (duo (held_by_a1 1))) reading) ≡ 9)
unfolding computing fleet_computing reading other_blocks front_byte
open-facts = (refl, refl, refl, refl, refl)

few : failures_in (duo (held_by_a1 1)) < 2 ^ 64 - 1
unfolding duo
few = omega arith

pub fleet_reading_needs_the_host : FleetReadingOfAnyHost → ⊥
fleet_reading_needs_the_host law =
    let regular = duo-regular (held_by_a1 1) in
    let run = run-where (leaves 1) (LeavesReservation 1) (leaving 1) (duo (held_by_a1 1)) reading regular open-facts.0
    in
    let same = law (duo (held_by_a1 1)) (fault_free_left (duo (held_by_a1 1)) reading)
    (fault_free_left (over other_blocks (duo (held_by_a1 1))) reading) other_blocks reading
    (fault_free_replies (duo (held_by_a1 1)) reading) (fault_free_replies (over other_blocks (duo (held_by_a1 1)))
    reading) 1 regular (duo-differ (held_by_a1 1)) run
    (computed_run (over other_blocks (duo (held_by_a1 1))) reading (over-regular (held_by_a1 1))) open-facts.1
    open-facts.2 few in
    distinct 9 1 refl (sym open-facts.4 ∙ ap front_byte same ∙ open-facts.3)

-- Power.

duo-persists : Persists (duo (held_by_a1 1)).site.world 1
unfolding computing fleet_computing
duo-persists = record { reservation = held_by_a1 1; there = refl; set = refl }

up-facts : (all_along (reserves_nothing 1) (duo (held_by_a1 1)) power_and_up ≡ true)
    × ((fault_free_step (back_up (held_by_a1 1)) (Execute 2 0)).reply ≡ executed_as denied_as)
    × (all_along (reserves_nothing 1) (duo (forgotten 1)) power_and_up ≡ true)
    × ((fault_free_step (back_up (forgotten 1)) (Execute 2 0)).reply ≡ executed_as done)
    × (may_write (duo (forgotten 1)).site.world 2 1 ≡ false)
unfolding computing fleet_computing power_and_up
up-facts = (refl, refl, refl, refl, refl)

lasting-command : (x : IoCommand) × IsWrite (back_up (held_by_a1 1)) x
unfolding computing fleet_computing power_and_up
lasting-command = (_, (refl, record { names = refl; is_one = refl }))

lost-command : (x : IoCommand) × IsWrite (back_up (forgotten 1)) x
    × ((fenced (back_up (forgotten 1)).site.world 2 x).rule ≡ 7)
unfolding computing fleet_computing power_and_up
lost-command = (_, (refl, record { names = refl; is_one = refl }), refl)

pub fleet_outlasting_at_work : FleetOutlastingAtWork
fleet_outlasting_at_work =
    let regular = duo-regular (held_by_a1 1) in
    let run = run-where (reserves_nothing 1) (ReservesNothing 1) (reserving-nothing 1) (duo (held_by_a1 1))
    power_and_up regular up-facts.0 in
    let x = lasting-command in
    let step = answered-step (back_up (held_by_a1 1)) 2 0 denied_as
    (left-regular (duo (held_by_a1 1)) power_and_up regular) up-facts.1 in
    record {
      persists = duo-persists;
      run = run;
      command = x.0;
      found = x.1.0;
      is = x.1.1;
      denied = up-facts.1;
      holds = fencing_outlasts_power true (duo (held_by_a1 1)) (back_up (held_by_a1 1))
          (fault_free_step (back_up (held_by_a1 1)) (Execute 2 0)).fleet power_and_up
          (fault_free_replies (duo (held_by_a1 1)) power_and_up) 1 2 0 x.0 denied_as regular.numbers duo-persists
          conflicting-facts.1 run x.1.0 x.1.1 step;
    }

pub fleet_outlasting_needs_persistence : FleetOutlastingOfAnyReservation → ⊥
fleet_outlasting_needs_persistence law =
    let regular = duo-regular (forgotten 1) in
    let run = run-where (reserves_nothing 1) (ReservesNothing 1) (reserving-nothing 1) (duo (forgotten 1))
    power_and_up regular up-facts.2 in
    let x = lost-command in
    let is = law true (duo (forgotten 1)) (back_up (forgotten 1))
    (fault_free_step (back_up (forgotten 1)) (Execute 2 0)).fleet power_and_up
    (fault_free_replies (duo (forgotten 1)) power_and_up) 1 2 0 x.0 done regular.numbers up-facts.4 run x.1.0 x.1.1
    (answered-step (back_up (forgotten 1)) 2 0 done (left-regular (duo (forgotten 1)) power_and_up regular)
    up-facts.3) in
    distinct 0 7 refl (ap (λ (o : Outcome). o.rule) is ∙ x.2)
