-- For laws about protection: an execution leaves the world, except for one reservation, and the bytes of each
-- namespace, except for an allowed write.
use Rattle.std.proofs.Common.{
  ◌≡◌,
  ◌⊎◌,
  inl,
  inr,
  ℕ,
  ◌+◌,
  ◌*◌,
  ◌≤◌,
  ◌==◌,
  ◌&&◌,
  Bool,
  true,
  false,
  not,
  List,
  length,
  Option,
  None,
  Some,
  refl,
  sym,
  ap,
  subst,
  ◌∙◌,
  arith,
}
use Rattle.std.specs.Prelude.{is_some, replicate}
use Rattle.std.proofs.lemmas.Bool.{leb-true, cases_Bool, eqb-true, eqb-false, false≢true}
use Rattle.std.proofs.lemmas.List.{length-replicate}
use Rattle.nvme_wire.specs.Submission.{opcode, nsid}
use Rattle.nvme_wire.specs.declared.status.Status.{Status}
use Rattle.nvme_spec.specs.declared.access.Group.TheVariants.{Write as Writing}
use Rattle.nvme_spec.specs.declared.command.Command.{Command}
use Rattle.nvme_spec.specs.declared.command.Command.TheVariants.{
  Write,
  Read,
  WriteZeroes,
  ReservationRegister,
  ReservationReport,
  ReservationAcquire,
  ReservationRelease,
}
use Rattle.nvme_spec.specs.declared.outcome.Outcome.{Outcome}
use Rattle.nvme_spec.specs.declared.verdict.Plan.{Plan}
use Rattle.nvme_spec.specs.declared.verdict.Verdict.{Verdict}
use Rattle.nvme_spec.specs.declared.verdict.Verdict.TheVariants.{Allowed, Denied}
use Rattle.nvme_spec.specs.Blocks.{Device}
use Rattle.nvme_spec.specs.World.{World, Namespace, host_of, namespace_of, is_attached}
use Rattle.nvme_spec.specs.Commands.{
  command_of,
  is_one_of,
  altering,
  reserving,
  starting_lba,
  block_count,
  data_length_of,
}
use Rattle.nvme_spec.specs.IoRules.{permits_group, has_blocks_below}
use Rattle.nvme_spec.specs.IoData.{data_of, reservation_outcome, io_verdict}
use Rattle.nvme_spec.specs.Effects.{WriteEffect}
use Rattle.nvme_spec.specs.Execution.{Scene, Executes, ExecutesBy, Performs, start_of, medium_block}
use Rattle.nvme_spec.specs.Layout.{
  Extent,
  extent_of,
  bytes_at,
  bytes_of,
  AreApart,
  IsLaidOut,
  HasSameLayout,
  reservation_of,
  may_write,
}
use Rattle.nvme_spec.specs.ExecutionLaws.{
  KeepsTheRest,
  ExecutionKeepsTheRest,
  IsAllowed,
  OnlyAllowedWritesWrite,
  OnlyAllowedActionsReserve,
  FencedCommandsWriteNothing,
  LayoutStays,
}
use Rattle.nvme_spec.proofs.Passing.{HasPassed, has-passed, not_false, some_of}
use Rattle.nvme_spec.proofs.Namespaces.{IsReserved, is-same, is-reserved}
use Rattle.nvme_spec.proofs.TransferLaws.{length-with_scattered}
use Rattle.nvme_spec.proofs.Contents.{Keeps, written, length-data_in}
use Rattle.nvme_spec.proofs.FaultFree.{extent-known}

-- The world.

pub performs-rest : (tells : Bool) (command : Command) (k : ℕ) (e sent : List ℕ) (old new : Scene) (answer : Status)
    (returned : List ℕ)
    → Performs tells command k e sent old new answer returned → IsReserved (nsid e) old.world new.world
performs-rest tells ReservationRegister k e sent old new answer returned h =
    subst (λ w. IsReserved (nsid e) old.world w) (sym h.world)
    (is-reserved old.world (nsid e) (reservation_outcome old.world k e sent))
performs-rest tells ReservationAcquire k e sent old new answer returned h =
    subst (λ w. IsReserved (nsid e) old.world w) (sym h.world)
    (is-reserved old.world (nsid e) (reservation_outcome old.world k e sent))
performs-rest tells ReservationRelease k e sent old new answer returned h =
    subst (λ w. IsReserved (nsid e) old.world w) (sym h.world)
    (is-reserved old.world (nsid e) (reservation_outcome old.world k e sent))
performs-rest tells command k e sent old new answer returned h = is-same _ _ _ h.world

pub by-rest : (v : Verdict) (tells : Bool) (k : ℕ) (e : List ℕ) (old new : Scene) (o : Outcome)
    → ExecutesBy v tells k e old new o → KeepsTheRest (nsid e) old new
by-rest (Denied number why) tells k e old new o h =
    let same = is-same (nsid e) old.world new.world (ap (λ (s : Scene). s.world) h.0) in
    record { layout = same.layout; reservations = same.others; window = ap (λ (s : Scene). length s.window) h.0 }
by-rest (Allowed plan) tells k e old new o h =
    let same = performs-rest tells plan.kind k e (data_of old.window e) old new o.status h.returned h.effect in
    record {
      layout = same.layout;
      reservations = same.others;
      window = ap length h.window ∙ length-with_scattered old.window _ h.returned;
    }

pub execution_keeps_the_rest : ExecutionKeepsTheRest
execution_keeps_the_rest tells k e marked old new o h =
    by-rest (io_verdict old.world k e marked old.window) tells k e old new o h

-- The medium.

-- bytes outside a range that is in another namespace
beside : (content new : List ℕ) (first blocks : ℕ) (o : Option Extent) (y : Extent)
    → ((x : Extent) → o ≡ Some x → AreApart x y)
    → y.first ≤ first → first + blocks ≤ y.first + y.blocks
    → Keeps (512 * first) (512 * (first + blocks)) content new → bytes_at new o ≡ bytes_at content o
beside content new first blocks None y apart low high keeps = refl
beside content new first blocks (Some x) y apart low high keeps =
    keeps.others (512 * x.first) (512 * x.blocks) (elim (apart x refl) [
      | inl before ↦ inl (omega arith)
      | inr behind ↦ inr (omega arith)
    ])

-- a write that passed the rules: its place, and that it was permitted
record Lies (w : World) (k : ℕ) (e : List ℕ) : Type 0 where
  space : Namespace
  named : namespace_of w (nsid e) ≡ Some space
  permitted : permits_group (namespace_of w (nsid e)) (host_of w k) Writing ≡ true
  fits : starting_lba e + block_count e ≤ space.blocks

lies : (w : World) (k : ℕ) (e : List ℕ) → (is_some (namespace_of w (nsid e)) && is_attached w k (nsid e)) ≡ true
    → not (permits_group (namespace_of w (nsid e)) (host_of w k) Writing) ≡ false
    → not (has_blocks_below (namespace_of w (nsid e)) (starting_lba e + block_count e)) ≡ false → Lies w k e
lies w k e attached permitted below =
    let s = some_of (namespace_of w (nsid e)) (is_attached w k (nsid e)) attached in
    record {
      space = s.0;
      named = s.1;
      permitted = not_false _ permitted;
      fits = leb-true _ _
          (not_false _ (ap (λ o. not (has_blocks_below o (starting_lba e + block_count e))) (sym s.1) ∙ below));
    }

-- The content after an execution: its size stays, and the bytes of a namespace change only if the command alters it and
-- was permitted to.
record Respects (s : Scene) (k : ℕ) (e content : List ℕ) (command : Command) : Type 0 where
  size : length content ≡ length s.device.content
  bytes : (n : ℕ) → (bytes_at content (extent_of s.world n) ≡ bytes_at s.device.content (extent_of s.world n))
      ⊎ ((nsid e ≡ n) × (is_one_of (Some command) altering ≡ true) × (may_write s.world k n ≡ true))

same-content : (s : Scene) (k : ℕ) (e content : List ℕ) (command : Command)
    → content ≡ s.device.content → Respects s k e content command
same-content s k e content command is =
    record { size = ap length is; bytes = λ n. inl (ap (λ xs. bytes_at xs (extent_of s.world n)) is) }

write-respects : (s : Scene) (k : ℕ) (e bytes : List ℕ) (new : Scene) (answer : Status) (command : Command)
    → is_one_of (Some command) altering ≡ true → IsLaidOut s.world s.device.content
    → Lies s.world k e → length bytes ≡ 512 * block_count e
    → WriteEffect true (medium_block s.world e) bytes s.device new.device answer
    → Respects s k e new.device.content command
unfolding may_write
write-respects s k e bytes new answer command alters laid l whole effect =
    let at : medium_block s.world e ≡ l.space.first + starting_lba e = ap (λ o. start_of o + starting_lba e) l.named in
    let y : Extent = record { first = l.space.first; blocks = l.space.blocks } in
    let known = extent-known s.world (nsid e) l.space l.named in
    let inside = laid.within (nsid e) y known in
    let fits = l.fits in
    let keeps = written (medium_block s.world e) (block_count e) bytes s.device new.device answer whole
    (omega (arith, at, inside, fits)) effect in
    record {
      size = keeps.size;
      bytes = λ n. elim (cases_Bool (nsid e == n)) [
        | inl here ↦ (let same : nsid e ≡ n = eqb-true (nsid e) n here in
            inr (
              same,
              alters,
              ap (λ m. permits_group (namespace_of s.world m) (host_of s.world k) Writing) (sym same) ∙ l.permitted,
            ))
        | inr there ↦ inl
            (beside s.device.content new.device.content (medium_block s.world e) (block_count e) (extent_of s.world n) y
            (λ x is. laid.apart n (nsid e) x y (λ same. eqb-false (nsid e) n there (sym same)) is known)
            (omega (arith, at)) (omega (arith, at, fits)) keeps)
      ];
    }

device-same : (old new : Device) → new ≡ old → new.content ≡ old.content
device-same old new is = ap (λ (d : Device). d.content) is

whole-data : (command : Command) (window e : List ℕ) → command_of (opcode e) ≡ Some command
    → length (data_of window e) ≡ data_length_of (Some command) e
whole-data command window e named =
    length-data_in (data_length_of (command_of (opcode e)) e) window e ∙ ap (λ o. data_length_of o e) named

respects : (s : Scene) (k : ℕ) (e : List ℕ) (command : Command) (new : Scene) (answer : Status) (returned : List ℕ)
    → IsLaidOut s.world s.device.content → HasPassed s.world k e command
    → Performs true command k e (data_of s.window e) s new answer returned → Respects s k e new.device.content command
respects s k e Read new answer returned laid p h = let f = h.effect in
    same-content s k e new.device.content Read (f.0 refl)
respects s k e Write new answer returned laid p h =
    let f = h.effect in
    write-respects s k e (data_of s.window e) new answer Write refl laid
    (lies s.world k e p.attached p.permitted p.fits) (whole-data Write s.window e p.named) f.0
respects s k e WriteZeroes new answer returned laid p h =
    let f = h.effect in
    write-respects s k e (replicate (512 * block_count e) 0) new answer WriteZeroes refl laid
    (lies s.world k e p.attached p.permitted p.fits) (length-replicate (512 * block_count e) 0) f.0
respects s k e ReservationRegister new answer returned laid p h =
    same-content s k e new.device.content ReservationRegister (device-same _ _ h.device)
respects s k e ReservationAcquire new answer returned laid p h =
    same-content s k e new.device.content ReservationAcquire (device-same _ _ h.device)
respects s k e ReservationRelease new answer returned laid p h =
    same-content s k e new.device.content ReservationRelease (device-same _ _ h.device)
respects s k e ReservationReport new answer returned laid p h =
    same-content s k e new.device.content ReservationReport (device-same _ _ h.device)
respects s k e command new answer returned laid p h = let f = h.effect in
    same-content s k e new.device.content command (f.0.0 refl)

-- by the answer of the rules
record LeavesContent (s : Scene) (k : ℕ) (e : List ℕ) (marked : Bool) (content : List ℕ) : Type 0 where
  size : length content ≡ length s.device.content
  bytes : (n : ℕ) → (bytes_at content (extent_of s.world n) ≡ bytes_at s.device.content (extent_of s.world n))
      ⊎ ((nsid e ≡ n) × IsAllowed altering s.world k e marked s.window × (may_write s.world k n ≡ true))

allowed-so : (s : Scene) (k : ℕ) (e : List ℕ) (marked : Bool) (content : List ℕ) (plan : Plan)
    → io_verdict s.world k e marked s.window ≡ Allowed plan
    → Respects s k e content plan.kind → LeavesContent s k e marked content
allowed-so s k e marked content plan is r = record {
  size = r.size;
  bytes = λ n. elim (r.bytes n) [
    | inl same ↦ inl same
    | inr x ↦ inr (x.0, record { plan = plan; allowed = is; is_one = x.1 }, x.2)
  ];
}

by-content : (v : Verdict) (k : ℕ) (e : List ℕ) (marked : Bool) (old new : Scene) (o : Outcome)
    → io_verdict old.world k e marked old.window ≡ v → IsLaidOut old.world old.device.content
    → ExecutesBy v true k e old new o → LeavesContent old k e marked new.device.content
by-content (Denied number why) k e marked old new o is laid h =
    let same : new.device.content ≡ old.device.content = ap (λ (s : Scene). s.device.content) h.0 in
    record { size = ap length same; bytes = λ n. inl (ap (λ xs. bytes_at xs (extent_of old.world n)) same) }
by-content (Allowed plan) k e marked old new o is laid h =
    allowed-so old k e marked new.device.content plan is
    (respects old k e plan.kind new o.status h.returned laid
    (has-passed old.world k e marked old.window plan is) h.effect)

leaves-content : (k : ℕ) (e : List ℕ) (marked : Bool) (old new : Scene) (o : Outcome)
    → IsLaidOut old.world old.device.content
    → Executes true k e marked old new o → LeavesContent old k e marked new.device.content
leaves-content k e marked old new o laid h =
    by-content (io_verdict old.world k e marked old.window) k e marked old new o refl laid h

-- the extents are the same before and after
moved : (k : ℕ) (e : List ℕ) (marked : Bool) (old new : Scene) (o : Outcome) (n : ℕ)
    → Executes true k e marked old new o
    → bytes_at new.device.content (extent_of old.world n) ≡ bytes_at old.device.content (extent_of old.world n)
    → bytes_of new.world new.device.content n ≡ bytes_of old.world old.device.content n
moved k e marked old new o n h same =
    let r = execution_keeps_the_rest true k e marked old new o h in
    let l = r.layout in
    ap (λ x. bytes_at new.device.content x) (l.extents n) ∙ same

pub only_allowed_writes_write : OnlyAllowedWritesWrite
only_allowed_writes_write k e marked old new o n laid h =
    let r = leaves-content k e marked old new o laid h in
    elim (r.bytes n) [
      | inl same ↦ inl (moved k e marked old new o n h same)
      | inr x ↦ inr (x.0, x.1)
    ]

pub fenced_commands_write_nothing : FencedCommandsWriteNothing
fenced_commands_write_nothing k e marked old new o n laid h fenced =
    let r = leaves-content k e marked old new o laid h in
    elim (r.bytes n) [
      | inl same ↦ moved k e marked old new o n h same
      | inr x ↦ absurd (false≢true (sym fenced ∙ x.2))
    ]

pub layout-kept : (old new : World) (before after : List ℕ) → HasSameLayout old new → length after ≡ length before
    → IsLaidOut old before → IsLaidOut new after
layout-kept old new before after same size laid = record {
  within = λ n x is. let fits = laid.within n x (sym (same.extents n) ∙ is) in omega (arith, fits, size);
  apart = λ n m x y other p q. laid.apart n m x y other (sym (same.extents n) ∙ p) (sym (same.extents m) ∙ q);
}

pub layout_stays : LayoutStays
layout_stays k e marked old new o laid h =
    let r = leaves-content k e marked old new o laid h in
    let s = execution_keeps_the_rest true k e marked old new o h in
    (r.size, layout-kept old.world new.world old.device.content new.device.content s.layout r.size laid)

-- Reservations.

same-or : (n a : ℕ) (old new : World) (P : Type 0) → IsReserved a old new → (new ≡ old) ⊎ P
    → (reservation_of new n ≡ reservation_of old n) ⊎ ((a ≡ n) × P)
same-or n a old new P r (inl same) = inl (ap (λ w. reservation_of w n) same)
same-or n a old new P r (inr p) = elim (cases_Bool (a == n)) [
  | inl here ↦ inr (eqb-true a n here, p)
  | inr there ↦ inl (r.others n (λ same. eqb-false a n there (sym same)))
]

reserves : (tells : Bool) (command : Command) (k : ℕ) (e sent : List ℕ) (old new : Scene) (answer : Status)
    (returned : List ℕ)
    → Performs tells command k e sent old new answer returned
    → (new.world ≡ old.world) ⊎ (is_one_of (Some command) reserving ≡ true)
reserves tells ReservationRegister k e sent old new answer returned h = inr refl
reserves tells ReservationAcquire k e sent old new answer returned h = inr refl
reserves tells ReservationRelease k e sent old new answer returned h = inr refl
reserves tells command k e sent old new answer returned h = inl h.world

by-reserves : (v : Verdict) (tells : Bool) (k : ℕ) (e : List ℕ) (marked : Bool) (old new : Scene) (o : Outcome)
    → io_verdict old.world k e marked old.window ≡ v
    → ExecutesBy v tells k e old new o → (new.world ≡ old.world) ⊎ IsAllowed reserving old.world k e marked old.window
by-reserves (Denied number why) tells k e marked old new o is h = inl (ap (λ (s : Scene). s.world) h.0)
by-reserves (Allowed plan) tells k e marked old new o is h =
    elim (reserves tells plan.kind k e (data_of old.window e) old new o.status h.returned h.effect) [
      | inl same ↦ inl same
      | inr one ↦ inr (record { plan = plan; allowed = is; is_one = one })
    ]

pub only_allowed_actions_reserve : OnlyAllowedActionsReserve
only_allowed_actions_reserve tells k e marked old new o n h =
    let r = execution_keeps_the_rest tells k e marked old new o h in
    let one : IsReserved (nsid e) old.world new.world = record { layout = r.layout; others = r.reservations } in
    same-or n (nsid e) old.world new.world _ one
    (by-reserves (io_verdict old.world k e marked old.window) tells k e marked old new o refl h)
