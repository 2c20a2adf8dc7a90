-- For `fencing.rt` and others: the example runs of secrecy, computed.
use Rattle.std.specs.Prelude.{option_map, replicate}
use Rattle.std.proofs.Common.{
  Bool,
  List,
  None,
  Option,
  Some,
  [],
  ap,
  arith,
  cond,
  false,
  refl,
  subst,
  sym,
  true,
  ℕ,
  ◌-◌,
  ◌<◌,
  ◌==◌,
  ◌^◌,
  ◌∙◌,
  ◌∷◌,
  ◌≡◌,
  ◌≢◌,
}
use Rattle.std.proofs.lemmas.Bool.{eqb-true}
use Rattle.nvme_spec.specs.declared.access.Protection.TheVariants.{Open}
use Rattle.nvme_spec.specs.Blocks.{Device}
use Rattle.nvme_spec.specs.Layout.{Extent, IsLaidOut, bytes_at, may_read}
use Rattle.nvme_spec.specs.Reservation.{Reservation, unreserved}
use Rattle.nvme_spec.specs.Transfers.{run}
use Rattle.nvme_spec.specs.World.{Namespace}
use Rattle.nvme_spec.proofs.Fencing.{layout-kept}
use Rattle.nvme_spec.proofs.Namespaces.{same-layout}
use Rattle.nvme_machine.specs.declared.event.Event.{Event}
use Rattle.nvme_machine.specs.declared.event.Event.TheVariants.{Execute}
use Rattle.nvme_machine.specs.declared.fetched.FetchedCommand.{FetchedCommand}
use Rattle.nvme_machine.specs.declared.seen.Seen.{Seen}
use Rattle.nvme_machine.specs.Controllers.{Controller}
use Rattle.nvme_machine.specs.Examples.{of_queue_1}
use Rattle.nvme_machine.specs.FaultFree.{fault_free_left, fault_free_seen}
use Rattle.nvme_machine.specs.Fencing.{LeavesReservation, RunWhere, namespace_bytes}
use Rattle.nvme_machine.specs.Secrecy.{DifferIn, MayNotRead, over}
use Rattle.nvme_machine.specs.Subsystems.{Run, Subsystem, controller_at}
use Rattle.nvme_machine.proofs.Secrecy.{fenced_reading, fenced_reading_is_same}
use Rattle.nvme_theorem_runs.specs.Cluster.{blocks, cluster, held_by_a1, reserved}
use Rattle.nvme_theorem_runs.specs.Reading.{
  ReadingAtWork,
  ReadingOfAnyHost,
  after_secret,
  denied_seen,
  other_blocks,
  read_entry,
  secret,
  sends,
}
use Rattle.nvme_theorem_runs.proofs.Computing.{
  all_along,
  distinct,
  first_of,
  leaves,
  leaving,
  no-host,
  plain-run,
  run-where,
}
use Rattle.nvme_theorem_runs.proofs.Laying.{laid}
use Rattle.nvme_theorem_runs.proofs.Unfolding.{computing}

-- Media that differ in block 0 differ only in namespace 1.

abbrev extent : Namespace → Extent
extent space = record { first = space.first; blocks = space.blocks }

abbrev a_namespace : ℕ → ℕ → Reservation → Namespace
a_namespace n block r = record {
  nsid = n;
  first = block;
  blocks = 1;
  shared = true;
  protection = Open;
  reservation = r;
}

abbrev found_by : Bool → Bool → Reservation → Option Extent
found_by a b r = option_map extent (cond a (Some (a_namespace 1 0 r)) (cond b (Some (a_namespace 2 1 unreserved)) None))

others-at : (r : Reservation) (m : ℕ) → m ≢ 1 → (a b : Bool) → (1 == m) ≡ a
    → bytes_at other_blocks.content (found_by a b r) ≡ bytes_at blocks.content (found_by a b r)
unfolding other_blocks
others-at r m other true b e = absurd (other (sym (eqb-true 1 m e)))
others-at r m other false true e = refl
others-at r m other false false e = refl

pub differ : (r : Reservation) (first second : List FetchedCommand)
    → DifferIn 1 (cluster r first second).world (cluster r first second).device other_blocks
unfolding computing other_blocks
differ r first second = record {
  failures = refl;
  size = refl;
  others = λ m other. others-at r m other (1 == m) (2 == m) refl;
}

-- The example run.

secret-leaves : all_along (leaves 1) secret (sends read_entry) ≡ true
unfolding computing sends
secret-leaves = refl

pub secret-seen : fault_free_seen secret (sends read_entry) ≡ denied_seen
unfolding computing sends denied_seen
secret-seen = refl

pub may-not : MayNotRead secret.world 1 (sends read_entry)
unfolding computing sends
may-not = no-host (λ k. may_read secret.world k 1) (sends read_entry) refl

bytes-so : (namespace_bytes secret 1 ≡ replicate 512 1) × (namespace_bytes (over other_blocks secret) 1 ≡ replicate
    512 9)
unfolding computing other_blocks
bytes-so = (refl, refl)

calm : after_secret.device.failures ≡ 0
unfolding computing sends
calm = refl

few : secret.device.failures < 2 ^ 64 - 1
unfolding computing
few = omega arith

none-failed : secret.device.failures ≡ 0
unfolding computing
none-failed = refl

secret-run : RunWhere (LeavesReservation 1) secret (sends read_entry) denied_seen after_secret
secret-run = subst (λ seen. RunWhere (LeavesReservation 1) secret (sends read_entry) seen after_secret) secret-seen
    (run-where (leaves 1) (LeavesReservation 1) (leaving 1) secret (sends read_entry) (laid (held_by_a1 2) [] [])
    secret-leaves)

same : (other : Subsystem) (others : List Seen) → Run true (over other_blocks secret) (sends read_entry) others other
    → other.device.failures ≡ 0
    → (others ≡ denied_seen) × (other ≡ over other.device after_secret)
same other others run quiet =
    let r = fenced_reading_is_same secret after_secret other other_blocks (sends read_entry) denied_seen others 1
    (laid (held_by_a1 2) [] [])
    (differ (held_by_a1 2) [] []) secret-run may-not run (calm ∙ sym none-failed) (quiet ∙ sym none-failed) few in
    (r.0, r.1)

pub reading_at_work : ReadingAtWork
reading_at_work = record {
  laid = laid (held_by_a1 2) [] [];
  differ = differ (held_by_a1 2) [] [];
  run = secret-run;
  fenced_host = may-not;
  bytes = bytes-so.0;
  other_bytes = bytes-so.1;
  holds = fenced_reading secret after_secret other_blocks (sends read_entry) denied_seen 1 (laid (held_by_a1 2) [] [])
      (differ (held_by_a1 2) [] []) secret-run may-not;
  same = same;
}

-- A host that may read finds the bytes in its window.

abbrev pub open_one : Subsystem
open_one = cluster (held_by_a1 1) [] (of_queue_1 read_entry ∷ [])

unfoldable pub one_read : List Event
one_read = Execute 2 0 ∷ []

pub window_front : Option Controller → ℕ
window_front None = 0
window_front (Some c) = first_of c.window

abbrev pub front_of : Subsystem → ℕ
front_of s = window_front (controller_at s 2)

abbrev pub read_over : Device → Subsystem
read_over d = fault_free_left (over d open_one) one_read

open-leaves : all_along (leaves 1) open_one one_read ≡ true
unfolding computing one_read
open-leaves = refl

pub fronts : (front_of (fault_free_left open_one one_read) ≡ 1) × (front_of (read_over other_blocks) ≡ 9)
unfolding computing one_read window_front other_blocks
fronts = (refl, refl)

pub quiet : ((fault_free_left open_one one_read).device.failures ≡ open_one.device.failures)
    × ((read_over other_blocks).device.failures ≡ open_one.device.failures)
unfolding computing one_read other_blocks
quiet = (refl, refl)

pub few-read : open_one.device.failures < 2 ^ 64 - 1
unfolding computing
few-read = omega arith

pub other-laid : (r : Reservation) (first second : List FetchedCommand)
    → IsLaidOut (over other_blocks (cluster r first second)).world
    (over other_blocks (cluster r first second)).device.content
unfolding cluster other_blocks
other-laid r first second =
    layout-kept (reserved r) (reserved r) blocks.content other_blocks.content
    (same-layout (reserved r) (reserved r) refl) refl (laid r first second)

pub reading_needs_the_host : ReadingOfAnyHost → ⊥
unfolding computing
reading_needs_the_host law =
    let commands = of_queue_1 read_entry ∷ [] in
    let on = laid (held_by_a1 1) [] commands in
    let other_run = plain-run (over other_blocks open_one) one_read (other-laid (held_by_a1 1) [] commands) in
    let is = law open_one (fault_free_left open_one one_read) (read_over other_blocks) other_blocks one_read
    (fault_free_seen open_one one_read) (fault_free_seen (over other_blocks open_one) one_read) 1 on
    (differ (held_by_a1 1) [] commands)
    (run-where (leaves 1) (LeavesReservation 1) (leaving 1) open_one one_read on open-leaves) other_run quiet.0
    quiet.1 few-read in
    distinct 9 1 refl (sym fronts.1 ∙ ap front_of is ∙ fronts.0)
