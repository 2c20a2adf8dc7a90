-- Proof of the law `lent_bytes_follow_calls`: what calls of a medium leave of borrowed bytes.
use Rattle.std.proofs.Common.{◌≡◌, ℕ, [], ◌∷◌, refl, sym, ap, subst, ◌∙◌, Some}
use denote.RawPtr.{Ptr}
use Rattle.nvme_spec.specs.FaultFreeCalls.{content_step}
use Rattle.nvme_spec.specs.MediumCalls.{MediumCall, Reads, Writes, Flushes, Fails}
use Rattle.nvme_brought.proofs.CallLaws.{calls_fail_without_blocks}
use Rattle.nvme_lent.specs.CallLaws.{LentBytesStay, MemoryStays, BytesFollow, ReadsLeave, CallsNeedBlocks, IsRead}
use Rattle.nvme_lent.specs.OwnOrLent.{bytes_of, step_of, extent_of, IsInMemory, NothingIsAtHand}
use Rattle.nvme_lent.specs.declared.either.OwnOrLent.{OwnOrLent}
use Rattle.nvme_lent.specs.declared.either.OwnOrLent.TheVariants.{Own, Lent, Brought}

one-stays : (old new : OwnOrLent) (call : MediumCall) → step_of old call new → extent_of new ≡ extent_of old
one-stays (Own old) (Own new) call h = refl
one-stays (Own old) (Lent new) call h = absurd h
one-stays (Own old) (Brought new) call h = absurd h
one-stays (Lent old) (Own new) call h = absurd h
one-stays (Lent old) (Brought new) call h = absurd h
one-stays (Brought old) (Own new) call h = absurd h
one-stays (Brought old) (Lent new) call h = absurd h
one-stays (Brought old) (Brought new) call h = refl
one-stays (Lent old) (Lent new) (Reads i answer) h = ap (λ m. extent_of (Lent m)) h.1
one-stays (Lent old) (Lent new) (Writes i block answer) h = ap (λ (p : Ptr × ℕ). Some p) h.3
one-stays (Lent old) (Lent new) (Flushes answer) h = ap (λ m. extent_of (Lent m)) h.1

pub lent_bytes_stay : LentBytesStay
lent_bytes_stay old new [] made = ap extent_of made
lent_bytes_stay old new (call ∷ calls) made = lent_bytes_stay made.0 new calls made.2 ∙ one-stays old made.0 call made.1

-- a call leaves a medium in memory
one-in-memory : (old new : OwnOrLent) (call : MediumCall) → IsInMemory old → step_of old call new → IsInMemory new
one-in-memory (Own old) (Own new) call is h = tt
one-in-memory (Own old) (Lent new) call is h = tt
one-in-memory (Own old) (Brought new) call is h = absurd h
one-in-memory (Lent old) (Own new) call is h = tt
one-in-memory (Lent old) (Lent new) call is h = tt
one-in-memory (Lent old) (Brought new) call is h = absurd h
one-in-memory (Brought old) new call is h = absurd is

pub memory_stays : MemoryStays
memory_stays old new [] is made = subst IsInMemory (sym made) is
memory_stays old new (call ∷ calls) is made =
    memory_stays made.0 new calls (one-in-memory old made.0 call is made.1) made.2

one-follows : (old new : OwnOrLent) (call : MediumCall) → IsInMemory old
    → step_of old call new → content_step (bytes_of old) call (bytes_of new)
one-follows (Own old) (Own new) (Reads i answer) is h = (h.0, ap (λ m. bytes_of (Own m)) h.1)
one-follows (Own old) (Own new) (Writes i block answer) is h = (h.0, h.1)
one-follows (Own old) (Own new) (Flushes answer) is h = (h.0, ap (λ m. bytes_of (Own m)) h.1)
one-follows (Own old) (Lent new) call is h = absurd h
one-follows (Own old) (Brought new) call is h = absurd h
one-follows (Lent old) (Own new) call is h = absurd h
one-follows (Lent old) (Brought new) call is h = absurd h
one-follows (Brought old) new call is h = absurd is
one-follows (Lent old) (Lent new) (Reads i answer) is h = (h.0, ap (λ m. bytes_of (Lent m)) h.1)
one-follows (Lent old) (Lent new) (Writes i block answer) is h = (h.0, h.1)
one-follows (Lent old) (Lent new) (Flushes answer) is h = (h.0, ap (λ m. bytes_of (Lent m)) h.1)

pub bytes_follow : BytesFollow
bytes_follow old new [] is made = ap bytes_of made
bytes_follow old new (call ∷ calls) is made = (
  bytes_of made.0,
  one-follows old made.0 call is made.1,
  bytes_follow made.0 new calls (one-in-memory old made.0 call is made.1) made.2,
)

one-read-leaves : (old new : OwnOrLent) (call : MediumCall) → IsInMemory old → IsRead call → step_of old call new
    → new ≡ old
one-read-leaves (Own old) (Own new) (Reads i answer) memory is h = ap Own h.1
one-read-leaves (Own old) (Own new) (Writes i block answer) memory is h = absurd is
one-read-leaves (Own old) (Own new) (Flushes answer) memory is h = absurd is
one-read-leaves (Own old) (Lent new) call memory is h = absurd h
one-read-leaves (Own old) (Brought new) call memory is h = absurd h
one-read-leaves (Lent old) (Own new) call memory is h = absurd h
one-read-leaves (Lent old) (Brought new) call memory is h = absurd h
one-read-leaves (Brought old) new call memory is h = absurd memory
one-read-leaves (Lent old) (Lent new) (Reads i answer) memory is h = ap Lent h.1
one-read-leaves (Lent old) (Lent new) (Writes i block answer) memory is h = absurd is
one-read-leaves (Lent old) (Lent new) (Flushes answer) memory is h = absurd is

pub reads_leave : ReadsLeave
reads_leave old new [] is are made = made
reads_leave old new (call ∷ calls) is are made =
    reads_leave made.0 new calls (one-in-memory old made.0 call is made.1) are.1 made.2
    ∙ one-read-leaves old made.0 call is are.0 made.1

-- Calls of brought blocks are those of the medium inside.

one-needs : (old new : OwnOrLent) (call : MediumCall) → NothingIsAtHand old → step_of old call new
    → Fails call × NothingIsAtHand new × (bytes_of new ≡ bytes_of old)
one-needs (Own old) new call none h = absurd none
one-needs (Lent old) new call none h = absurd none
one-needs (Brought old) (Own new) call none h = absurd h
one-needs (Brought old) (Lent new) call none h = absurd h
one-needs (Brought old) (Brought new) call none h =
    let one = calls_fail_without_blocks old new (call ∷ []) none (new, h, refl) in (one.0.0, one.1, one.2)

pub calls_need_blocks : CallsNeedBlocks
calls_need_blocks old new [] none made = (tt, subst NothingIsAtHand (sym made) none, ap bytes_of made)
calls_need_blocks old new (call ∷ calls) none made =
    let one = one-needs old made.0 call none made.1 in
    let others = calls_need_blocks made.0 new calls one.1 made.2 in
    ((one.0, others.0), others.1, others.2 ∙ one.2)
