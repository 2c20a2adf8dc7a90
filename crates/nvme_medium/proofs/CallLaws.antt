-- Proofs of the laws of calls, one after the other, of a medium in memory and of a cached one.
use Rattle.std.proofs.Common.{
  ◌≡◌,
  ◌<◌,
  ◌≤◌,
  ℕ,
  ◌+◌,
  ◌*◌,
  length,
  List,
  [],
  ◌∷◌,
  ◌++◌,
  Option,
  Some,
  None,
  Result,
  refl,
  ap,
  subst,
  sym,
  ◌∙◌,
  arith,
}
use Rattle.std.specs.Vec.{with_items}
use Rattle.std.proofs.lemmas.List.{with_items_is, length-append, length-take, length-drop}
use Rattle.nvme_spec.specs.Bytes.{with_bytes}
use Rattle.nvme_spec.specs.MediumCalls.{MediumCall, Reads, Writes, Flushes, Calls, MakesCalls}
use Rattle.nvme_spec.specs.declared.medium.MediumFault.{MediumFault as Fault}
use Rattle.nvme_spec.proofs.MediumCalls.{calls-joined}
use Rattle.nvme_medium.specs.Memory.{memory_bytes, memory_step}
use Rattle.nvme_medium.specs.Cached.{Kept, StepsBehind, calls_behind, unless_kept}
use Rattle.nvme_medium.specs.CallLaws.{
  content_after,
  content_left,
  answered,
  all_answered,
  MemoryCallsAreDetermined,
  MemoryCallsCanBeMade,
  AreBehind,
  without_reads,
  WritesAndFlushesGoOn,
}
use Rattle.nvme_medium.specs.declared.memory.MemMedium.{MemMedium}

-- one call of a medium in memory
one-call : (old new : MemMedium) (call : MediumCall) → memory_step old call new
    → (call ≡ answered (memory_bytes old) call) × (memory_bytes new ≡ content_after (memory_bytes old) call)
    × (new.blocks ≡ old.blocks)
one-call old new (Reads i answer) h = (ap (Reads i) h.0, ap memory_bytes h.1, ap (λ (m : MemMedium). m.blocks) h.1)
one-call old new (Writes i block answer) h = (ap (Writes i block) h.0, h.1, h.2)
one-call old new (Flushes answer) h = (ap Flushes h.0, ap memory_bytes h.1, ap (λ (m : MemMedium). m.blocks) h.1)

pub memory_calls_are_determined : MemoryCallsAreDetermined
memory_calls_are_determined old new [] made = (refl, ap memory_bytes made, ap (λ (m : MemMedium). m.blocks) made)
memory_calls_are_determined old new (call ∷ calls) made =
    let first = one-call old made.0 call made.1 in
    let rest = memory_calls_are_determined made.0 new calls made.2 in
    let content : memory_bytes made.0 ≡ content_after (memory_bytes old) call = first.1 in (
      ap (λ c. c ∷ calls) first.0
          ∙ ap (λ cs. answered (memory_bytes old) call ∷ cs) (rest.0 ∙ ap (λ x. all_answered x calls) content),
      rest.1 ∙ ap (λ x. content_left x calls) content,
      rest.2 ∙ first.2,
    )

-- calls of a cached medium, and those of its inner one
pub calls-behind : {C M : Type 0} (step : M → MediumCall → M → Type 0) (kept : C → Kept) (inner : C → M) (old new : C)
    (calls : List MediumCall)
    → Calls
    (λ (a : C) (call : MediumCall) (b : C). StepsBehind step (kept a) (inner a) call (kept b) (inner b)) old calls new
    → MakesCalls step (AreBehind (kept old).entries calls (kept new).entries) (inner old) (inner new)
calls-behind step kept inner old new [] made =
    record { calls = []; are = (ap (λ c. (kept c).entries) made, refl); made = ap inner made }
calls-behind step kept inner old new (call ∷ calls) made =
    let rest = calls-behind step kept inner made.0 new calls made.2 in
    record {
      calls = calls_behind (kept old).entries call ++ rest.calls;
      are = ((kept made.0).entries, rest.calls, made.1.answers, made.1.kept, refl, rest.are);
      made = calls-joined step (calls_behind (kept old).entries call) rest.calls (inner old) (inner made.0)
          (inner new) made.1.calls rest.made;
    }

-- the cache's capacity never changes, and no more blocks are cached
pub calls-within : {C M : Type 0} (step : M → MediumCall → M → Type 0) (kept : C → Kept) (inner : C → M)
    → ((c : C) → length (kept c).entries ≤ (kept c).cap) → (old new : C) (calls : List MediumCall)
    → Calls
    (λ (a : C) (call : MediumCall) (b : C). StepsBehind step (kept a) (inner a) call (kept b) (inner b)) old calls new
    → ((kept new).cap ≡ (kept old).cap) × (length (kept new).entries ≤ (kept old).cap)
calls-within step kept inner fits old new [] made =
    (ap (λ c. (kept c).cap) made, subst (λ c. length (kept c).entries ≤ (kept old).cap) (sym made) (fits old))
calls-within step kept inner fits old new (call ∷ calls) made =
    let rest = calls-within step kept inner fits made.0 new calls made.2 in
    (rest.0 ∙ made.1.capacity, subst (λ n. length (kept new).entries ≤ n) made.1.capacity rest.1)

-- a read, whether or not it reaches the inner medium, is a read
read-goes-on : (o : Option (List ℕ)) (i : ℕ) (answer : Result (List ℕ) Fault) (rest : List MediumCall)
    → without_reads (unless_kept o (Reads i answer) ++ rest) ≡ without_reads rest
read-goes-on None i answer rest = refl
read-goes-on (Some block) i answer rest = refl

pub writes_and_flushes_go_on : WritesAndFlushesGoOn
writes_and_flushes_go_on old new [] inner h = ap without_reads h.1
writes_and_flushes_go_on old new (Reads i answer ∷ calls) inner h =
    ap without_reads h.4 ∙ (read-goes-on _ i answer h.1 ∙ writes_and_flushes_go_on h.0 new calls h.1 h.5)
writes_and_flushes_go_on old new (Writes i block answer ∷ calls) inner h =
    ap without_reads h.4 ∙ ap (λ cs. Writes i block answer ∷ cs) (writes_and_flushes_go_on h.0 new calls h.1 h.5)
writes_and_flushes_go_on old new (Flushes answer ∷ calls) inner h =
    ap without_reads h.4 ∙ ap (λ cs. Flushes answer ∷ cs) (writes_and_flushes_go_on h.0 new calls h.1 h.5)

-- a write keeps the length
sized : (content : List ℕ) (at : ℕ) (bytes : List ℕ) → at + length bytes ≤ length content
    → length (with_bytes content at bytes) ≡ length content
sized content at bytes fits = simp (length-append, length-take, length-drop) (omega arith)

pub memory_calls_can_be_made : MemoryCallsCanBeMade
memory_calls_can_be_made old [] within = (old, refl)
memory_calls_can_be_made old (Reads i answer ∷ calls) within =
    let rest = memory_calls_can_be_made old calls within.1 in
    (rest.0, (old, (refl, refl), rest.1))
memory_calls_can_be_made old (Flushes answer ∷ calls) within =
    let rest = memory_calls_can_be_made old calls within.1 in
    (rest.0, (old, (refl, refl), rest.1))
memory_calls_can_be_made old (Writes i block answer ∷ calls) within =
    let content : List ℕ = with_bytes (memory_bytes old) (512 * i) block in
    let below : i < old.blocks = within.0.0 in
    let long : length block ≡ 512 = within.0.1 in
    let whole : length (memory_bytes old) ≡ 512 * old.blocks = old.whole in
    let same : length content ≡ length (memory_bytes old) =
    sized (memory_bytes old) (512 * i) block (omega (arith, below, long, whole)) in
    let is : (with_items old.bytes content).items ≡ content =
    with_items_is old.bytes content (same ∙ sym old.bytes.ok.0) in
    let next : MemMedium = record {
      bytes = with_items old.bytes content;
      blocks = old.blocks;
      whole = ap length is ∙ (same ∙ whole);
      countable = old.countable;
    } in
    let rest = memory_calls_can_be_made next calls within.1 in
    (rest.0, (next, (refl, is, refl), subst (λ x. Calls memory_step next (all_answered x calls) rest.0) is rest.1))
