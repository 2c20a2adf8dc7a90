-- For `outcomes.rt`: a denied Read and a power cycle, over two media.
use Rattle.std.proofs.Common.{◌≡◌, ◌<◌, ◌-◌, ◌^◌, ◌∙◌, ℕ, zero, suc, true, false, [], ◌∷◌, refl, sym, subst, arith}
use Rattle.std.specs.Prelude.{replicate, slice_index_or}
use Rattle.std.proofs.lemmas.Option.{same_Some}
use Rattle.nvme_spec.specs.Layout.{IsLaidOut, may_read}
use Rattle.nvme_spec.specs.Power.{cycled_world}
use Rattle.nvme_spec.proofs.Fencing.{layout-kept}
use Rattle.nvme_spec.proofs.Namespaces.{same-layout}
use Rattle.nvme_machine.specs.declared.event.Event.TheVariants as below
use Rattle.nvme_machine.specs.Controllers.{Controller, new_controller, power_cycled}
use Rattle.nvme_machine.specs.Examples.{of_queue_1}
use Rattle.nvme_machine.specs.FaultFree.{fault_free_step}
use Rattle.nvme_machine.specs.PowerCycles.{Persists}
use Rattle.nvme_machine.specs.Secrecy.{DifferIn}
use Rattle.nvme_machine.proofs.Determined.{steps}
use Rattle.nvme_event.specs.declared.event.FleetEvent.TheVariants.{Execute, PowerCycle}
use Rattle.nvme_event.specs.declared.seen.FleetSeen.TheVariants as seen
use Rattle.nvme_event.specs.Replies.{Reply}
use Rattle.nvme_machine.specs.declared.seen.Executed.TheVariants.{Posted}
use Rattle.nvme_spec.specs.Execution.{denial_outcome}
use Rattle.nvme_spec.specs.Statuses.{reservation_conflict}
use Rattle.nvme_mailbox.specs.Deliveries.{plain}
use Rattle.nvme_mailbox.specs.FaultFree as mailboxes
use Rattle.nvme_mailbox.specs.Fencing as fencing
use Rattle.nvme_mailbox.specs.Fencing.{LeavesReservation, ReservesNothing}
use Rattle.nvme_mailbox.specs.Fleets as fleets
use Rattle.nvme_mailbox.specs.Fleets.{Fleet, Host, Raw, WithDriver, host_at}
use Rattle.nvme_mailbox.specs.IoCommands.{AreNumbered, BearsItsNumber}
use Rattle.nvme_mailbox.specs.Regular.{HoldsTaken, IsRegular}
use Rattle.nvme_mailbox.specs.Secrecy.{MayNotRead}
use Rattle.nvme_mailbox.proofs.PowerCycles.{replies_outlast_power}
use Rattle.nvme_fleet.specs.Bytes.{RunWhere, namespace_bytes}
use Rattle.nvme_fleet.specs.FleetStates.{Layers, fleet_in}
use Rattle.nvme_fleet.specs.Layers.{Run, Step, told}
use Rattle.nvme_fleet.specs.Unique.{HaveTicketsOnce}
use Rattle.nvme_fleet.proofs.PowerCycles.{layers_outlast_power}
use Rattle.nvme_theorem_runs.specs.Cluster.{cluster, held_by_a1, ready, zeros}
use Rattle.nvme_theorem_runs.specs.Reading.{other_blocks, read_entry}
use Rattle.nvme_theorem_runs.proofs.FleetComputing as fleet
use Rattle.nvme_theorem_runs.proofs.FleetUnfolding.{fleet_computing}
use Rattle.nvme_theorem_runs.proofs.Laying.{laid}
use Rattle.nvme_theorem_runs.proofs.ReadingRuns.{differ}
use Rattle.nvme_theorem_runs.proofs.Unfolding.{computing}
use Rattle.nvme_session_runs.proofs.PowerRuns.{cycles, raw-pair}
use Rattle.nvme_session_runs.specs.RunSecrecy.{
  SecrecyAtWork,
  denied_replies,
  other_layers,
  read_events,
  secret_layers,
}

-- The premises.

differ-so : DifferIn 1 secret_layers.subsystem.world secret_layers.subsystem.device other_blocks
unfolding secret_layers
differ-so = differ (held_by_a1 2) [] (of_queue_1 read_entry ∷ [])

layers-laid : IsLaidOut secret_layers.subsystem.world secret_layers.subsystem.device.content
unfolding secret_layers
layers-laid = laid (held_by_a1 2) [] (of_queue_1 read_entry ∷ [])

others-laid : IsLaidOut other_layers.subsystem.world other_layers.subsystem.device.content
others-laid = layout-kept secret_layers.subsystem.world secret_layers.subsystem.world
    secret_layers.subsystem.device.content other_blocks.content
    (same-layout secret_layers.subsystem.world secret_layers.subsystem.world refl) differ-so.size layers-laid

site-laid : IsLaidOut (fleet_in secret_layers).site.world (fleet_in secret_layers).site.device.content
unfolding fleet_in
site-laid = layers-laid

other-site-laid : IsLaidOut (fleet_in other_layers).site.world (fleet_in other_layers).site.device.content
unfolding fleet_in
other-site-laid = others-laid

numbered : AreNumbered (fleet_in secret_layers)
unfolding fleet_in host_at secret_layers cluster
numbered zero h e = absurd (cc)
numbered (suc zero) h e = subst (BearsItsNumber 1) (same_Some (Raw (ready 1 zeros [])) h e) refl
numbered (suc (suc zero)) h e =
    subst (BearsItsNumber 2) (same_Some (Raw (ready 2 zeros (of_queue_1 read_entry ∷ []))) h e) refl
numbered (suc (suc (suc k))) h e = absurd (cc)

abbrev is_raw : Host → Type 0
is_raw (WithDriver m) = ⊥
is_raw (Raw c) = Unit {0}

taken : HoldsTaken (fleet_in secret_layers)
unfolding fleet_in host_at secret_layers cluster
taken zero m e = absurd (cc)
taken (suc zero) m e = absurd (subst is_raw (same_Some (Raw (ready 1 zeros [])) (WithDriver m) e) tt)
taken (suc (suc zero)) m e =
    absurd (subst is_raw (same_Some (Raw (ready 2 zeros (of_queue_1 read_entry ∷ []))) (WithDriver m) e) tt)
taken (suc (suc (suc k))) m e = absurd (cc)

regular : IsRegular (fleet_in secret_layers)
regular = record { laid = site-laid; numbers = numbered; taken = taken }

undriven : HaveTicketsOnce secret_layers
unfolding secret_layers
undriven zero d found = absurd (cc)
undriven (suc zero) d found = absurd (cc)
undriven (suc (suc i)) d found = absurd (cc)

persists : Persists secret_layers.subsystem.world 1
unfolding computing secret_layers
persists = record { reservation = held_by_a1 2; there = refl; set = refl }

facts : (may_read secret_layers.subsystem.world 2 1 ≡ false) × (namespace_bytes secret_layers 1 ≡ replicate 512 1)
    × (namespace_bytes other_layers 1 ≡ replicate 512 9) × (secret_layers.subsystem.device.failures ≡ 0)
unfolding computing secret_layers other_blocks
facts = (refl, refl, refl, refl)

-- The steps over a medium.

abbrev after : Layers → Layers
after l = record l { subsystem = (fault_free_step l.subsystem (below.Execute 2 0)).left }

abbrev denied : Reply
denied = plain (seen.Executed (Posted (denial_outcome 7 reservation_conflict)))

record Denies (l : Layers) : Type 0 where
  leaves : (mailboxes.fault_free_step (fleet_in l) (Execute 2 0)).fleet ≡ fleet_in (after l)
  gives : (mailboxes.fault_free_step (fleet_in l) (Execute 2 0)).reply ≡ denied
  told_so : denied.seen ≡ told (fault_free_step l.subsystem (below.Execute 2 0)).seen

denies : Denies secret_layers
unfolding computing fleet_computing secret_layers fleet_in
denies = record { leaves = refl; gives = refl; told_so = refl }

denies-too : Denies other_layers
unfolding computing fleet_computing secret_layers other_blocks fleet_in
denies-too = record { leaves = refl; gives = refl; told_so = refl }

stepping : (l : Layers) → IsLaidOut l.subsystem.world l.subsystem.device.content
    → IsLaidOut (fleet_in l).site.world (fleet_in l).site.device.content → Denies l
    → Step true l (Execute 2 0) denied (after l)
stepping l on on-site d = record {
  mailboxes = subst (λ f. fleets.Step true (fleet_in l) (Execute 2 0) denied f) d.leaves
      (subst (λ reply. fleets.Step true (fleet_in l) (Execute 2 0) reply
      (mailboxes.fault_free_step (fleet_in l) (Execute 2 0)).fleet) d.gives
      (fleet.steps (fleet_in l) (Execute 2 0) on-site));
  below = record {
    given = (fault_free_step l.subsystem (below.Execute 2 0)).seen;
    step = steps l.subsystem (below.Execute 2 0) on;
    gives = d.told_so;
    drivers = refl;
  };
}

abbrev place : ℕ → Layers → Controller
place i l = slice_index_or l.subsystem.controllers i (new_controller 1)

abbrev shown : Layers → Layers
shown l = raw-pair l.subsystem.world l.subsystem.device (place 0 l) (place 1 l)

shapes : (shown (after secret_layers) ≡ after secret_layers) × (shown (after other_layers) ≡ after other_layers)
unfolding computing secret_layers other_blocks
shapes = (refl, refl)

abbrev last : Layers → Layers
last l = raw-pair (cycled_world l.subsystem.world) l.subsystem.device (power_cycled (place 0 l))
    (power_cycled (place 1 l))

cycling : (l : Layers) → shown l ≡ l → Step true l PowerCycle (plain seen.Cycled) (last l)
cycling l same = subst (λ x. Step true x PowerCycle (plain seen.Cycled) (last l)) same
    (cycles l.subsystem.world l.subsystem.device (place 0 l) (place 1 l))

-- The runs.

reading : Step true secret_layers (Execute 2 0) denied (after secret_layers)
reading = stepping secret_layers layers-laid site-laid denies

losing : Step true (after secret_layers) PowerCycle (plain seen.Cycled) (last (after secret_layers))
losing = cycling (after secret_layers) shapes.0

leaving-first : fleet.leaves 1 (fleet_in secret_layers) (Execute 2 0) ≡ true
unfolding computing fleet_computing secret_layers fleet_in
leaving-first = refl

leaving-last : fleet.leaves 1 (fleet_in (after secret_layers)) PowerCycle ≡ true
unfolding computing fleet_computing secret_layers fleet_in
leaving-last = refl

first-leaves : LeavesReservation 1 (fleet_in secret_layers) (Execute 2 0)
first-leaves = fleet.leaving 1 (fleet_in secret_layers) (Execute 2 0) leaving-first

last-leaves : LeavesReservation 1 (fleet_in (after secret_layers)) PowerCycle
last-leaves = fleet.leaving 1 (fleet_in (after secret_layers)) PowerCycle leaving-last

run : RunWhere (λ l. ReservesNothing 1 (fleet_in l)) secret_layers read_events denied_replies
    (last (after secret_layers))
run = (
  after secret_layers,
  first-leaves.0,
  reading,
  (last (after secret_layers), last-leaves.0, losing, refl),
)

leaves : RunWhere (λ l. LeavesReservation 1 (fleet_in l)) secret_layers read_events denied_replies
    (last (after secret_layers))
leaves = (
  after secret_layers,
  first-leaves,
  reading,
  (last (after secret_layers), last-leaves, losing, refl),
)

above : fencing.RunWhere (ReservesNothing 1) true (fleet_in secret_layers) read_events denied_replies
    (fleet_in (last (after secret_layers)))
above = (
  fleet_in (after secret_layers),
  first-leaves.0,
  reading.mailboxes,
  (fleet_in (last (after secret_layers)), last-leaves.0, losing.mailboxes, refl),
)

other-run : Run true other_layers read_events denied_replies (last (after other_layers))
other-run = (
  after other_layers,
  stepping other_layers others-laid other-site-laid denies-too,
  (last (after other_layers), cycling (after other_layers) shapes.1, refl),
)

few : secret_layers.subsystem.device.failures < 2 ^ 64 - 1
few = subst (λ n. n < 2 ^ 64 - 1) (sym facts.3) (omega arith)

calm : (last (after secret_layers)).subsystem.device.failures ≡ secret_layers.subsystem.device.failures
unfolding computing secret_layers
calm = refl

reader : MayNotRead secret_layers.subsystem.world 1 read_events
reader = (facts.0, (tt, tt))

pub secrecy_at_work : SecrecyAtWork
unfolding fleet_in
secrecy_at_work = record {
  regular = regular;
  differ = differ-so;
  persists = persists;
  reader = reader;
  bytes = facts.1;
  other_bytes = facts.2;
  left = last (after secret_layers);
  run = run;
  leaves = leaves;
  other_left = last (after other_layers);
  other_run = other-run;
  same = λ other others h quiet.
      let law = layers_outlast_power secret_layers (last (after secret_layers)) other other_blocks read_events
      denied_replies others 1 regular undriven differ-so persists run reader h calm (quiet ∙ sym facts.3) few in
      (law.0, law.1);
  replies = λ other others h quiet.
      let law = replies_outlast_power (fleet_in secret_layers) (fleet_in (last (after secret_layers))) other
      other_blocks read_events denied_replies others 1 regular differ-so persists above reader h calm
      (quiet ∙ sym facts.3) few in
      (law.0, law.1);
}
