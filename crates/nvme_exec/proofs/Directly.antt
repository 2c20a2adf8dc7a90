-- For the answer of `read_some`: blocks that are read into the window itself.
use Rattle.std.proofs.Common.{
  ◌≡◌,
  ℕ,
  ◌+◌,
  ◌-◌,
  ◌*◌,
  ◌/◌,
  ◌≤◌,
  ◌<◌,
  Bool,
  List,
  [],
  ◌++◌,
  length,
  take,
  drop,
  rules,
  Ok,
  Err,
  refl,
  sym,
  ap,
  subst,
  ◌∙◌,
  arith,
}
use Rattle.std.specs.Prelude.{slice_range}
use Rattle.std.specs.List.{range_with_len}
use Rattle.std.proofs.lemmas.List.{same_lists, places, take-append-drop, length-take-le}
use Rattle.nvme_spec.specs.declared.medium.MediumFault.{MediumFault as Fault}
use Rattle.nvme_spec.specs.declared.pointer.Piece.{Piece}
use Rattle.nvme_spec.specs.Blocks.{block_at}
use Rattle.nvme_spec.specs.Bytes.{with_bytes, with_bytes_within}
use Rattle.nvme_spec.specs.MediumCalls.{MediumAnswer, MediumCall, Calls, EndsAt, Reads}
use Rattle.nvme_spec.specs.Transfers.{addresses, with_scattered}
use Rattle.nvme_spec.proofs.Runs.{run-store, take-range}
use Rattle.nvme_medium.specs.Reading.{ReadsBlocks}
use Rattle.nvme_medium.proofs.Made.{one-read, block_at-last}
use Rattle.nvme_medium.proofs.Reading.{same-course}
use Rattle.nvme_exec.specs.Reading.{HasReadBlock, ReadsSome}
use Rattle.nvme_exec.specs.Runs.{IsRun}

-- a store to the front of a part leaves the rest of the part
front-stored : (w : List ℕ) (a n m : ℕ) (bytes : List ℕ) → length bytes ≡ n → m ≤ n → a + n ≤ length w
    → drop m bytes ≡ drop m (slice_range w a (a + n)) → with_bytes w a bytes ≡ with_bytes w a (take m bytes)
front-stored w a n m bytes long few fits behind =
    let front : List ℕ = take m bytes in
    let size : length front ≡ m = length-take-le m bytes (omega (arith, long)) in
    let whole : bytes ≡ front ++ drop m (slice_range w a (a + n)) =
    sym (take-append-drop m bytes) ∙ ap (λ xs. front ++ xs) behind in
    ap (with_bytes w a) whole ∙ stays front size
  where
    stays : (front : List ℕ)
        → length front ≡ m → with_bytes w a (front ++ drop m (slice_range w a (a + n))) ≡ with_bytes w a front
    stays front size = same_lists _ _ (search (rules, places)) (λ k d h. grind (arith, places))

-- the addresses of the first blocks of a run
front-places : (at : List ℕ) (from n m a : ℕ) → slice_range at from (from + n) ≡ range_with_len a n → m ≤ n
    → slice_range at from (from + m) ≡ range_with_len a m
front-places at from n m a is few = shorter ∙ ap (take m) is ∙ take-range m a n few
  where
    shorter : slice_range at from (from + m) ≡ take m (slice_range at from (from + n))
    shorter = same_lists _ _ (search (rules, places)) (λ k d h. grind (arith, places))

few : (count passed : ℕ) (answer : MediumAnswer) → EndsAt count passed answer → passed ≤ count
few count passed (Ok done) h = omega (arith, h)
few count passed (Err fault) h = omega (arith, h)

front-block : (bytes : List ℕ) (n k : ℕ) → k < n → block_at bytes k ≡ block_at (take (512 * n) bytes) k
front-block bytes n k below = same_lists _ _ (search (rules, places)) (λ i d h. grind (arith, places))

ends-of : (count most passed : ℕ) (answer : MediumAnswer) → EndsAt count passed answer → count ≤ most → (fault : Fault)
    → answer ≡ Err fault → EndsAt most passed answer
ends-of count most passed (Ok done) h within fault is = absurd (cc)
ends-of count most passed (Err why) h within fault is = omega (arith, h, within)

-- blocks that are read onto a run of the window
pub run-read : {M : Type 0} (step : M → MediumCall → M → Type 0) (tells : Bool) (i j most : ℕ) (ps : List Piece)
    (run : Piece) (content w before left : List ℕ) (old new : M) (answer : MediumAnswer)
    → IsRun ps j most run → run.address + run.len ≤ length w
    → before ≡ slice_range w run.address (run.address + run.len) → length before ≡ run.len
    → ReadsBlocks step tells content i (length before / 512) before left old answer new
    → ReadsSome step tells i j (run.len / 512) content (addresses ps) old answer new w
    (with_bytes_within w run.address left)
run-read step tells i j most ps run content w before left old new answer is inside was size h =
    let count : length before / 512 ≡ run.len / 512 = omega (arith, size) in
    let ends : EndsAt (run.len / 512) h.passed answer = subst (λ n. EndsAt n h.passed answer) count h.ends in
    let within : 512 * h.passed ≤ run.len = omega (arith, few (run.len / 512) h.passed answer ends) in
    let long : length left ≡ run.len = h.long ∙ size in
    let front : List ℕ = take (512 * h.passed) left in
    let width : length front ≡ 512 * h.passed = length-take-le (512 * h.passed) left (omega (arith, within, long)) in
    record {
      passed = h.passed;
      read = front;
      ends = ends;
      size = width;
      made = subst (λ cs. Calls step old cs new)
          (same-course i h.passed left front answer (λ k b. front-block left h.passed k b)) h.made;
      told = h.read;
      window =
          ap (take (length w)) (front-stored w run.address run.len (512 * h.passed) left long within inside
          (h.behind ∙ ap (drop (512 * h.passed)) was))
          ∙ run-store w run.address (512 * h.passed) run.address front front refl refl width
          (omega (arith, inside, within))
          ∙ ap (λ at. with_scattered w at front)
          (sym (front-places (addresses ps) (512 * j) run.len (512 * h.passed) run.address is.places within));
    }

-- the same, if a fault ended it before all blocks were read
pub run-failed : {M : Type 0} (step : M → MediumCall → M → Type 0) (tells : Bool) (i j count most : ℕ)
    (content at w after : List ℕ) (old new : M) (fault : Fault) → count ≤ most
    → ReadsSome step tells i j count content at old (Err fault) new w after
    → ReadsSome step tells i j most content at old (Err fault) new w after
run-failed step tells i j count most content at w after old new fault within h = record {
  passed = h.passed;
  read = h.read;
  ends = omega (arith, h.ends, within);
  size = h.size;
  made = h.made;
  told = h.told;
  window = h.window;
}

-- a block in two pieces
pub block-read : {M : Type 0} (step : M → MediumCall → M → Type 0) (tells : Bool) (i j : ℕ)
    (content at w after : List ℕ) (old new : M)
    → HasReadBlock step tells i content (slice_range at (512 * j) (512 * j + 512)) old new w after
    → ReadsSome step tells i j 1 content at old (Ok tt) new w after
block-read step tells i j content at w after old new h =
    let here : i ≡ i + 0 = omega arith in
    record {
      passed = 1;
      read = h.block;
      ends = refl;
      size = h.long;
      made = one-read step i 0 [] h.block h.block old old new refl
          (subst (λ k. step old (Reads k (Ok h.block)) new) here h.call) (λ k below. absurd (omega (arith, below)))
          (block_at-last [] h.block 0 refl h.long);
      told = h.told;
      window = h.window;
    }

pub block-failed : {M : Type 0} (step : M → MediumCall → M → Type 0) (tells : Bool) (i j most : ℕ)
    (content at w after : List ℕ) (old new : M) (fault : Fault) → 1 ≤ most → after ≡ w
    → step old (Reads i (Err fault)) new → ReadsSome step tells i j most content at old (Err fault) new w after
unfolding with_scattered
block-failed step tells i j most content at w after old new fault some same call =
    let here : i ≡ i + 0 = omega arith in
    let none : 512 * i + 512 * 0 - 512 * i ≡ 0 = omega arith in
    let nowhere : 512 * j + 512 * 0 - 512 * j ≡ 0 = omega arith in
    record {
      passed = 0;
      read = [];
      ends = some;
      size = refl;
      made = (new, subst (λ k. step old (Reads k (Err fault)) new) here call, refl);
      told = λ tells. rw none refl;
      window = rw nowhere same;
    }
