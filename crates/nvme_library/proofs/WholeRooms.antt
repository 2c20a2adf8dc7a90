-- For `laws.rt`: over a room with all that its command needs, an execution has no fault of the medium.
use Rattle.std.proofs.Common.{
  ◌≡◌,
  ◌<◌,
  ◌≤◌,
  ℕ,
  zero,
  suc,
  ◌+◌,
  ◌-◌,
  ◌*◌,
  ◌/◌,
  min,
  List,
  [],
  ◌∷◌,
  ◌++◌,
  length,
  Some,
  Ok,
  Err,
  true,
  refl,
  sym,
  ap,
  subst,
  ◌∙◌,
  arith,
}
use Rattle.std.proofs.lemmas.Grind.{common_steps}
use Rattle.nvme_spec.specs.declared.medium.MediumFault.{MediumFault as Fault}
use Rattle.nvme_spec.specs.Blocks.{Device, block_at}
use Rattle.nvme_spec.specs.MediumCalls.{MediumCall, Calls, Flushes, Reads, passing, reads_from, writes_from}
use Rattle.nvme_brought.specs.Brought.{FlushesIf, ReadsFrom, WritesTo, brought_step, place_for, room_bytes}
use Rattle.nvme_brought.specs.CallLaws.{StaysInRoom}
use Rattle.nvme_brought.specs.Places.{place_in}
use Rattle.nvme_brought.specs.declared.medium.BroughtMedium.{BroughtMedium}
use Rattle.nvme_brought.proofs.CallLaws.{calls_stay_in_room}
use Rattle.nvme_lent.specs.OwnOrLent.{device_of, step_of}
use Rattle.nvme_machine.specs.declared.bare.BareExecuted.TheVariants.{Posted}
use Rattle.nvme_machine.specs.declared.bare.BareSeen.TheVariants.{Executed}
use Rattle.nvme_machine.specs.declared.need.Need.{Need}
use Rattle.nvme_machine.specs.declared.need.Need.TheVariants as need
use Rattle.nvme_machine.specs.Bare.{outcome_with}
use Rattle.nvme_machine.specs.NeededCalls.{StopReading, StopsAtFault, StopWriting, zero_blocks}
use Rattle.nvme_machine.specs.Needs.{need_at}
use Rattle.nvme_machine.specs.Subsystems.{Subsystem, controller_at}
use Rattle.nvme_machine.proofs.NeededCalls.{read_error_names_the_front, write_fault_names_the_front}
use Rattle.nvme_library.specs.DiskLaws.{HasNeeded, WholeRoomsHaveNoFault}
use Rattle.nvme_library.specs.Over.{over_device}
use Rattle.nvme_library.proofs.DiskLaws.{inside, media}

-- the state between the last call and those before it
parted : (old new : BroughtMedium) (calls : List MediumCall) (last : MediumCall)
    → Calls brought_step old (calls ++ last ∷ []) new
    → (mid : BroughtMedium) × Calls brought_step old calls mid × brought_step mid last new
parted old new [] last made = (old, refl, subst (brought_step old last) (sym made.2) made.1)
parted old new (call ∷ calls) last made =
    let r = parted made.0 new calls last made.2 in (r.0, (made.0, made.1, r.1), r.2)

in-place : (first count i : ℕ) → first ≤ i → i < first + count → place_in first count i ≡ Some (i - first)
in-place first count i above below = grind (arith, common_steps)

-- the bytes of a room stay as long as they are
same-length : (old new : BroughtMedium) → StaysInRoom old new
    → length (room_bytes new.room) ≡ length (room_bytes old.room)
same-length old new h = sym new.room.buffer.ok.0 ∙ h.len ∙ old.room.buffer.ok.0

-- Reads.

no-failing-read : (old new : BroughtMedium) (i : ℕ) (fault : Fault) → old.room.first ≤ i
    → i < old.room.first + old.room.at_hand → brought_step old (Reads i (Err fault)) new → ⊥
no-failing-read old new i fault above below h =
    let r = subst (λ place. ReadsFrom place old (Err fault) new)
    (in-place old.room.first old.room.at_hand i above below) h in
    let no = r.0 in absurd (cc)

no-reads-stop : (first blocks : ℕ) (read : List ℕ) (calls : List MediumCall) (b a : BroughtMedium)
    → HasNeeded (need.Read first blocks) b.room → Calls brought_step b calls a
    → StopsAtFault (reads_from first read) blocks calls → ⊥
no-reads-stop first blocks read calls b a has made stops =
    let front = passing (reads_from first read) stops.passed in
    let p = parted b a front (reads_from first read stops.passed (Err stops.fault))
    (subst (λ cs. Calls brought_step b cs a) stops.are made) in
    let stays = calls_stay_in_room b p.0 front p.1 in
    no-failing-read p.0 a (first + stops.passed) stops.fault
    (omega (arith, has.0, stays.first))
    (omega (arith, has.1, stays.first, stays.at_hand, stops.below)) p.2

-- Writes.

has-place : (m : BroughtMedium) (i n blocks : ℕ) → i ≡ m.room.first + n → n ≤ m.room.at_hand → n < blocks
    → 512 * blocks ≤ length (room_bytes m.room) → place_for m.room i ≡ Some n
has-place m i n blocks is at_hand below long =
    in-place m.room.first (min (m.room.at_hand + 1) (length (room_bytes m.room) / 512)) i
    (omega (arith, is)) (omega (arith, is, at_hand, below, long))
    ∙ ap Some (omega (arith, is))

-- after the first writes from the beginning of the room on, as many blocks are at hand
written : (b a : BroughtMedium) (first blocks : ℕ) (bytes : List ℕ) (n : ℕ) → b.room.first ≡ first → n ≤ blocks
    → 512 * blocks ≤ length (room_bytes b.room) → Calls brought_step b (passing (writes_from first bytes) n) a
    → n ≤ a.room.at_hand
written b a first blocks bytes zero is within long made = omega arith
written b a first blocks bytes (suc n) is within long made =
    let call = writes_from first bytes n (Ok tt) in
    let p = parted b a (passing (writes_from first bytes) n) call made in
    let stays = calls_stay_in_room b p.0 (passing (writes_from first bytes) n) p.1 in
    let before : n ≤ p.0.room.at_hand = written b p.0 first blocks bytes n is (omega (arith, within)) long p.1 in
    let place = has-place p.0 (first + n) n blocks (omega (arith, is, stays.first)) before (omega (arith, within))
    (omega (arith, long, same-length b p.0 stays)) in
    let put = subst (λ place. WritesTo place (block_at bytes n) p.0 (Ok tt) a) place p.2 in
    omega (arith, put.1.at_hand)

no-writes-stop : (first blocks : ℕ) (bytes : List ℕ) (calls : List MediumCall) (b a : BroughtMedium)
    → HasNeeded (need.Write first blocks) b.room → Calls brought_step b calls a
    → StopsAtFault (writes_from first bytes) blocks calls → ⊥
no-writes-stop first blocks bytes calls b a has made stops =
    let front = passing (writes_from first bytes) stops.passed in
    let p = parted b a front (writes_from first bytes stops.passed (Err stops.fault))
    (subst (λ cs. Calls brought_step b cs a) stops.are made) in
    let stays = calls_stay_in_room b p.0 front p.1 in
    let before = written b p.0 first blocks bytes stops.passed has.0 (omega (arith, stops.below)) has.1 p.1 in
    let place = has-place p.0 (first + stops.passed) stops.passed blocks (omega (arith, has.0, stays.first)) before
    stops.below (omega (arith, has.1, same-length b p.0 stays)) in
    let r = subst (λ place. WritesTo place (block_at bytes stops.passed) p.0 (Err stops.fault) a) place p.2 in
    let no = r.0 in absurd (cc)

-- A flush.

no-flush-fails : (b mid : BroughtMedium) (fault : Fault) → b.room.flushes ≡ true
    → brought_step b (Flushes (Err fault)) mid → ⊥
no-flush-fails b mid fault passes h =
    let r = subst (λ flushes. FlushesIf flushes b (Err fault) mid) passes h in
    let no = r.0 in absurd (cc)

-- Any command.

no-write-fault : (n : Need) (sent : List ℕ) (calls : List MediumCall) (b a : BroughtMedium) → HasNeeded n b.room
    → Calls brought_step b calls a → StopWriting n sent calls → ⊥
no-write-fault need.Nothing sent calls b a has made h = h
no-write-fault (need.Read first blocks) sent calls b a has made h = h
no-write-fault (need.Write first blocks) sent calls b a has made h =
    no-writes-stop first blocks sent calls b a has made h
no-write-fault (need.Zero first blocks) sent calls b a has made h =
    no-writes-stop first blocks (zero_blocks blocks) calls b a has made h
no-write-fault need.Flush sent calls b a has made h =
    let one = subst (λ cs. Calls brought_step b cs a) h.1 made in no-flush-fails b one.0 h.0 has one.1

no-read-error : (n : Need) (calls : List MediumCall) (b a : BroughtMedium) → HasNeeded n b.room
    → Calls brought_step b calls a → StopReading n calls → ⊥
no-read-error need.Nothing calls b a has made h = h
no-read-error (need.Read first blocks) calls b a has made h =
    no-reads-stop first blocks h.0 calls b a has made h.1
no-read-error (need.Write first blocks) calls b a has made h = h
no-read-error (need.Zero first blocks) calls b a has made h = h
no-read-error need.Flush calls b a has made h = h

-- what is needed is the same over the blocks that are brought
same-need : (old before : Subsystem) (device : Device) (k i : ℕ) → before ≡ over_device old device
    → need_at before k i ≡ need_at old k i
unfolding controller_at
same-need old before device k i is = ap (λ s. need_at s k i) is

pub whole_rooms_have_no_fault : WholeRoomsHaveNoFault
whole_rooms_have_no_fault cntlid i room left old new o e has =
    let x = media cntlid i room left old new (Executed (Posted o)) e in
    let calls = e.executes.calls.calls in
    let made = inside x.b e.after.medium calls
    (subst (λ m. Calls step_of m calls e.after.medium) x.before_is e.executes.calls.made) in
    let same = same-need old.state e.before.state (device_of e.before.medium) cntlid i e.before_is in
    let has-there : HasNeeded (need_at e.before.state cntlid i) x.b.room =
    subst (λ n. HasNeeded n x.b.room) (sym same)
    (subst (HasNeeded (need_at old.state cntlid i)) (sym x.room_is) has) in
    let whole = outcome_with e.executes.marks o in (
      λ s. no-write-fault (need_at e.before.state cntlid i) _ calls x.b made.0 has-there made.2
          (write_fault_names_the_front true e.before.state e.after.state cntlid i whole calls e.executes.calls.are s),
      λ s. no-read-error (need_at e.before.state cntlid i) calls x.b made.0 has-there made.2
          (read_error_names_the_front true e.before.state e.after.state cntlid i whole calls e.executes.calls.are s),
    )
