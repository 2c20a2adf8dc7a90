-- For `fencing.rt`: the example runs of fencing, computed.
use Rattle.std.proofs.Common.{◌≡◌, ℕ, true, false, List, [], ◌∷◌, inl, refl, subst}
use Rattle.std.specs.Prelude.{replicate}
use Rattle.std.specs.List.{AllByRecursion}
use Rattle.nvme_machine.specs.declared.event.Event.{Event}
use Rattle.nvme_machine.specs.declared.event.Event.TheVariants.{Execute}
use Rattle.nvme_machine.specs.declared.seen.Executed.TheVariants.{Posted}
use Rattle.nvme_machine.specs.declared.seen.Seen.TheVariants.{Executed}
use Rattle.nvme_machine.specs.Controllers.{queues_of}
use Rattle.nvme_machine.specs.FaultFree.{fault_free_command_execution, fault_free_left, fault_free_seen}
use Rattle.nvme_machine.specs.Fencing.{LeavesReservation, RunWhere, namespace_bytes}
use Rattle.nvme_machine.specs.Subsystems.{Subsystem, OfItsController, Step, scene_of}
use Rattle.nvme_spec.specs.Layout.{may_write}
use Rattle.nvme_machine.proofs.Fencing.{fencing_holds}
use Rattle.nvme_theorem_runs.specs.Cluster.{
  cluster,
  held_by_a1,
  done,
  zeroes,
  register,
  acquire,
  stores_keys,
  overlapping,
  ready,
  zeros,
}
use Rattle.nvme_theorem_runs.specs.Fencing.{
  FencingAtWork,
  FencingOfAnyHost,
  FencingOnAnyLayout,
  FencingOverAnyRun,
  fenced,
  fenced_events,
  fenced_seen,
  after_fenced,
}
use Rattle.nvme_theorem_runs.proofs.Computing.{
  all_along,
  leaves,
  leaving,
  run-where,
  plain-run,
  first_of,
  apart,
  no-host,
}
use Rattle.nvme_theorem_runs.proofs.Unfolding.{computing}
use Rattle.nvme_theorem_runs.proofs.Laying.{laid}

-- The example run.

pub fenced-leaves : all_along (leaves 1) fenced fenced_events ≡ true
unfolding computing fenced_events
fenced-leaves = refl

pub seen-so : fault_free_seen fenced fenced_events ≡ fenced_seen
unfolding computing fenced_events fenced_seen
seen-so = refl

pub fenced-host : AllByRecursion (OfItsController (λ k. may_write fenced.world k 1 ≡ false)) fenced_events
unfolding computing fenced_events
fenced-host = no-host (λ k. may_write fenced.world k 1) fenced_events refl

pub bytes-so : (namespace_bytes fenced 1 ≡ replicate 512 1) × (namespace_bytes after_fenced 1 ≡ replicate 512 1)
    × (namespace_bytes fenced 2 ≡ replicate 512 2) × (namespace_bytes after_fenced 2 ≡ replicate 512 0)
unfolding computing fenced_events
bytes-so = (refl, refl, refl, refl)

pub fencing_at_work : FencingAtWork
fencing_at_work =
    let run = subst (λ seen. RunWhere (LeavesReservation 1) fenced fenced_events seen after_fenced) seen-so
    (run-where (leaves 1) (LeavesReservation 1) (leaving 1) fenced fenced_events (laid (held_by_a1 1) [] [])
    fenced-leaves) in
    record {
      laid = laid (held_by_a1 1) [] [];
      run = run;
      fenced_host = fenced-host;
      before = bytes-so.0;
      kept = bytes-so.1;
      others_before = bytes-so.2;
      others = bytes-so.3;
      holds = fencing_holds fenced after_fenced fenced_events fenced_seen 1 (laid (held_by_a1 1) [] []) run fenced-host;
    }

-- A fenced host registers, preempts the holder and writes.

unfoldable pub hostile_events : List Event
hostile_events = stores_keys 2 0 0x22 ∷ Execute 2 0 ∷ stores_keys 2 0x22 0x11 ∷ Execute 2 0 ∷ Execute 2 0 ∷ []

abbrev pub hostile : Subsystem
hostile = cluster (held_by_a1 1) [] (register ∷ acquire 1 ∷ zeroes 1 ∷ [])

pub hostile-host : AllByRecursion (OfItsController (λ k. may_write hostile.world k 1 ≡ false)) hostile_events
unfolding computing hostile_events
hostile-host = no-host (λ k. may_write hostile.world k 1) hostile_events refl

pub hostile-bytes : (first_of (namespace_bytes hostile 1) ≡ 1)
    × (first_of (namespace_bytes (fault_free_left hostile hostile_events) 1) ≡ 0)
unfolding computing hostile_events
hostile-bytes = (refl, refl)

pub fencing_needs_the_reservation : FencingOverAnyRun → ⊥
fencing_needs_the_reservation law =
    let on = laid (held_by_a1 1) [] (register ∷ acquire 1 ∷ zeroes 1 ∷ []) in
    let same = law hostile (fault_free_left hostile hostile_events) hostile_events
    (fault_free_seen hostile hostile_events) 1 on
    (plain-run hostile hostile_events on) hostile-host in
    apart _ _ hostile-bytes.1 hostile-bytes.0 same

-- The holder writes.

abbrev pub holding : Subsystem
holding = cluster (held_by_a1 1) (zeroes 1 ∷ []) []

unfoldable pub one_execution : ℕ → List Event
one_execution k = Execute k 0 ∷ []

pub holding-leaves : all_along (leaves 1) holding (one_execution 1) ≡ true
unfolding computing one_execution
holding-leaves = refl

pub holding-bytes : (first_of (namespace_bytes holding 1) ≡ 1)
    × (first_of (namespace_bytes (fault_free_left holding (one_execution 1)) 1) ≡ 0)
unfolding computing one_execution
holding-bytes = (refl, refl)

pub fencing_needs_the_host : FencingOfAnyHost → ⊥
fencing_needs_the_host law =
    let on = laid (held_by_a1 1) (zeroes 1 ∷ []) [] in
    let same = law holding (fault_free_left holding (one_execution 1)) (one_execution 1)
    (fault_free_seen holding (one_execution 1)) 1 on
    (run-where (leaves 1) _ (leaving 1) holding (one_execution 1) on holding-leaves) in
    apart _ _ holding-bytes.1 holding-bytes.0 same

-- A namespace is written that is on the same block.

unfoldable pub lapping : Subsystem
lapping = record (cluster (held_by_a1 1) [] (zeroes 2 ∷ [])) { world = overlapping }

abbrev pub lapped : Subsystem
lapped = fault_free_left lapping (one_execution 2)

pub lapping-step : Step true lapping (Execute 2 0) (Executed (Posted done)) lapped
unfolding computing one_execution lapping
lapping-step = record {
  execution = fault_free_command_execution (queues_of (ready 2 zeros (zeroes 2 ∷ []))) 2 (zeroes 2)
      (scene_of lapping (ready 2 zeros (zeroes 2 ∷ [])));
  comes_to = (
    refl,
    record {
      returned = [];
      effect = record {
        world = refl;
        effect = (inl (record { answered = refl; failures = refl }, λ told. refl), refl);
      };
      window = refl;
      dw0 = refl;
      rule = refl;
      marks = refl;
    },
  );
  gives = refl;
  leaves = refl;
}

lapping-leaves : leaves 1 lapping (Execute 2 0) ≡ true
unfolding computing one_execution lapping
lapping-leaves = refl

lapping-host : AllByRecursion (OfItsController (λ k. may_write lapping.world k 1 ≡ false)) (one_execution 2)
unfolding computing one_execution lapping
lapping-host = no-host (λ k. may_write lapping.world k 1) (one_execution 2) refl

pub lapping-bytes : (first_of (namespace_bytes lapping 1) ≡ 1) × (first_of (namespace_bytes lapped 1) ≡ 0)
unfolding computing one_execution lapping
lapping-bytes = (refl, refl)

lapping-run : RunWhere (LeavesReservation 1) lapping (one_execution 2) (Executed (Posted done) ∷ []) lapped
unfolding one_execution
lapping-run = (lapped, leaving 1 lapping (Execute 2 0) (lapping-leaves), lapping-step, refl)

pub fencing_needs_the_layout : FencingOnAnyLayout → ⊥
fencing_needs_the_layout law =
    let same = law lapping lapped (one_execution 2) (Executed (Posted done) ∷ []) 1 lapping-run lapping-host in
    apart _ _ lapping-bytes.1 lapping-bytes.0 same
