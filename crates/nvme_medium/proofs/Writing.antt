-- For the answers of `write_blocks`: blocks written one after the other, or copied at once.
use Rattle.std.proofs.Common.{
  ◌≡◌,
  ℕ,
  zero,
  suc,
  ◌+◌,
  ◌*◌,
  ◌-◌,
  ◌<◌,
  ◌≤◌,
  List,
  [],
  ◌++◌,
  length,
  take,
  rules,
  Ok,
  Err,
  refl,
  sym,
  ap,
  subst,
  ◌∙◌,
  arith,
}
use Rattle.std.proofs.lemmas.List.{same_lists, places, length-take, length-take-le, length-drop, take_all}
use Rattle.std.specs.Prelude.{slice_range, OnErr}
use borrow.Rule.Slice.PartMut.{put_mid}
use Rattle.nvme_spec.specs.Bytes.{with_bytes}
use Rattle.nvme_spec.specs.Blocks.{block_at, blocks_from, Torn, StopsWriting}
use Rattle.nvme_spec.specs.MediumCalls.{
  MediumAnswer,
  MediumCall,
  Writes,
  Calls,
  MakesInOrder,
  EndsAt,
  passing,
  course,
  writes_from,
}
use Rattle.nvme_spec.proofs.Splices.{with_bytes-next, with_bytes-append, length-with_bytes}
use Rattle.nvme_medium.proofs.Made.{one-passed, course-goes-on}

-- A medium whose writes succeed: its bytes, its number of blocks, the medium after a write of a block, and that its
-- steps depend on nothing else.
pub record Takes {M : Type 0} (step : M → MediumCall → M → Type 0) (bytes : M → List ℕ) (size : M → ℕ) : Type 0 where
  pub next : (m : M) → (i : ℕ) → (block : List ℕ) → length block ≡ 512 → 512 * i + 512 ≤ length (bytes m) → M
  pub has : (m : M) → (i : ℕ) → (block : List ℕ) → (long : length block ≡ 512)
      → (fits : 512 * i + 512 ≤ length (bytes m))
      → bytes (next m i block long fits) ≡ with_bytes (bytes m) (512 * i) block
  pub sized : (m : M) → (i : ℕ) → (block : List ℕ) → (long : length block ≡ 512)
      → (fits : 512 * i + 512 ≤ length (bytes m)) → size (next m i block long fits) ≡ size m
  pub writes : (m n : M) → (i : ℕ) → (block : List ℕ) → bytes n ≡ with_bytes (bytes m) (512 * i) block → size n ≡ size m
      → step m (Writes i block (Ok tt)) n

-- The state of a write after some of its calls.
pub record HasWritten {M : Type 0} (step : M → MediumCall → M → Type 0) (bytes : M → List ℕ) (size : M → ℕ) (first : ℕ)
    (brought : List ℕ) (old : M) (k : ℕ) : Type 0 where
  pub now : M
  pub made : Calls step old (passing (writes_from first brought) k) now
  pub is : bytes now ≡ with_bytes (bytes old) (512 * first) (take (512 * k) brought)
  pub sized : size now ≡ size old

length-block : (brought : List ℕ) (blocks k : ℕ) → length brought ≡ 512 * blocks → k < blocks
    → length (block_at brought k) ≡ 512
length-block brought blocks k all below = simp (length-take, length-drop) (omega (arith, all, below))

no-bytes : (content : List ℕ) (at : ℕ) → at ≤ length content → content ≡ with_bytes content at []
no-bytes content at fits = same_lists _ _ (search (rules, places)) (λ k d h. grind (arith, places))

writes-some : {M : Type 0} (step : M → MediumCall → M → Type 0) (bytes : M → List ℕ) (size : M → ℕ)
    → Takes step bytes size → (first blocks : ℕ) (brought : List ℕ) (old : M)
    → length brought ≡ 512 * blocks → 512 * (first + blocks) ≤ length (bytes old) → (k : ℕ)
    → k ≤ blocks → HasWritten step bytes size first brought old k
writes-some step bytes size takes first blocks brought old all fits zero below =
    record { now = old; made = refl; is = no-bytes (bytes old) (512 * first) (omega (arith, fits)); sized = refl }
writes-some {M = M} step bytes size takes first blocks brought old all fits (suc k) below =
    let before = writes-some step bytes size takes first blocks brought old all fits k (omega (arith, below)) in
    let block : List ℕ = block_at brought k in
    let long = length-block brought blocks k all (omega (arith, below)) in
    let front : length (take (512 * k) brought) ≡ 512 * k =
    length-take-le (512 * k) brought (omega (arith, all, below)) in
    let same : length (bytes before.now) ≡ length (bytes old) = ap length before.is
    ∙ length-with_bytes (bytes old) (512 * first) (take (512 * k) brought) (omega (arith, front, fits, below)) in
    let room : 512 * (first + k) + 512 ≤ length (bytes before.now) = omega (arith, same, fits, below) in
    let next : M = takes.next before.now (first + k) block long room in
    let has = takes.has before.now (first + k) block long room in
    let kept = takes.sized before.now (first + k) block long room in
    let one : k + 1 ≡ suc k = omega arith in
    record {
      now = next;
      made = subst (λ n. Calls step old (passing (writes_from first brought) n) next) one
          (one-passed step (writes_from first brought) k
          (Writes (first + k) block (Ok tt)) old before.now next before.made refl
          (takes.writes before.now next (first + k) block has kept));
      is = subst (λ n. bytes next ≡ with_bytes (bytes old) (512 * first) (take (512 * n) brought)) one
          (with_bytes-next (bytes old) first brought k blocks (bytes before.now) (bytes next) block before.is has refl
          (omega (arith, below)) all fits);
      sized = kept ∙ before.sized;
    }

-- copying blocks at once has the same effect as writing them one after the other
pub written-at-once : {M : Type 0} (step : M → MediumCall → M → Type 0) (bytes : M → List ℕ) (size : M → ℕ)
    → Takes step bytes size → (first blocks : ℕ) (brought : List ℕ) (old new : M)
    → length brought ≡ 512 * blocks → 1 ≤ blocks → 512 * (first + blocks) ≤ length (bytes old)
    → bytes new ≡ with_bytes (bytes old) (512 * first) brought → size new ≡ size old
    → MakesInOrder step (writes_from first brought) blocks old (Ok tt) new
written-at-once step bytes size takes first blocks brought old new all some fits is kept =
    let k : ℕ = blocks - 1 in
    let one : k + 1 ≡ blocks = omega (arith, some) in
    let before = writes-some step bytes size takes first blocks brought old all fits k (omega arith) in
    let last = with_bytes-next (bytes old) first brought k blocks (bytes before.now) _
    (block_at brought k) before.is refl refl (omega (arith, some)) all fits in
    let whole : take (512 * (k + 1)) brought ≡ brought = take_all (512 * (k + 1)) brought (omega (arith, all, one)) in
    record {
      passed = blocks;
      ends = refl;
      made = subst (λ n. Calls step old (passing (writes_from first brought) n) new) one
          (one-passed step (writes_from first brought) k
          (Writes (first + k) (block_at brought k) (Ok tt)) old before.now new before.made refl
          (takes.writes before.now new (first + k) (block_at brought k)
          (is ∙ ap (with_bytes (bytes old) (512 * first)) (sym whole) ∙ sym last) (kept ∙ sym before.sized)));
    }

-- a write continues by a run of blocks
front-and-run : (bytes run : List ℕ) (j : ℕ) → run ≡ blocks_from bytes j (length run)
    → 512 * j + length run ≤ length bytes → take (512 * j) bytes ++ run ≡ take (512 * j + length run) bytes
front-and-run bytes run j is fits = ap (λ xs. take (512 * j) bytes ++ xs) is ∙ joined bytes (512 * j) (length run) fits
  where
    joined : (bytes : List ℕ) (m n : ℕ)
        → m + n ≤ length bytes → take m bytes ++ slice_range bytes m (m + n) ≡ take (m + n) bytes
    joined bytes m n fits = same_lists _ _ (search (rules, places)) (λ k d h. grind (arith, places))

pub run-written : (old bytes now new run : List ℕ) (first j n blocks : ℕ)
    → now ≡ with_bytes old (512 * first) (take (512 * j) bytes) → new ≡ with_bytes now (512 * (first + j)) run
    → run ≡ blocks_from bytes j (length run) → length run ≡ 512 * n → j + n ≤ blocks → length bytes ≡ 512 * blocks
    → 512 * (first + blocks) ≤ length old → new ≡ with_bytes old (512 * first) (take (512 * (j + n)) bytes)
run-written old bytes now new run first j n blocks was is brought long below all fits =
    let front : List ℕ = take (512 * j) bytes in
    let len : length front ≡ 512 * j = length-take-le (512 * j) bytes (omega (arith, below, all)) in
    let at : 512 * (first + j) ≡ 512 * first + length front = omega (arith, len) in
    let wide : 512 * j + length run ≡ 512 * (j + n) = omega (arith, long) in
    is ∙ ap (λ x. with_bytes x (512 * (first + j)) run) was
    ∙ ap (λ k. with_bytes (with_bytes old (512 * first) front) k run) at
    ∙ with_bytes-append old (512 * first) front run (omega (arith, len, long, below, fits))
    ∙ ap (with_bytes old (512 * first))
    (front-and-run bytes run j brought (omega (arith, long, below, all)) ∙ ap (λ k. take k bytes) wide)

-- a write that ended with a fault
pub run-stops : (old bytes now new run : List ℕ) (first j n blocks : ℕ)
    → now ≡ with_bytes old (512 * first) (take (512 * j) bytes) → StopsWriting (first + j) run now new
    → run ≡ blocks_from bytes j (length run) → length run ≡ 512 * n → j + n ≤ blocks → length bytes ≡ 512 * blocks
    → 512 * (first + blocks) ≤ length old → StopsWriting first bytes old new
run-stops old bytes now new run first j n blocks was stops brought long below all fits =
    let front : List ℕ = take (512 * stops.at) run in
    let few : 512 * stops.at < 512 * n = omega (arith, stops.within, long) in
    let size : length front ≡ 512 * stops.at = length-take-le (512 * stops.at) run (omega (arith, long, few)) in
    let is : front ≡ blocks_from bytes j (length front) = ap (take (512 * stops.at)) brought ∙ shorter bytes (512 * j)
    (512 * stops.at) (length run) (omega (arith, long, few)) ∙ ap (λ k. blocks_from bytes j k) (sym size) in
    let mid = run-written old bytes now (with_bytes now (512 * (first + j)) front) front first j stops.at blocks was
    refl is size (omega (arith, few, below)) all fits in
    let place : first + j + stops.at ≡ first + (j + stops.at) = omega arith in
    record {
      at = j + stops.at;
      within = omega (arith, few, below, all);
      torn = subst (λ i. Torn i (with_bytes old (512 * first) (take (512 * (j + stops.at)) bytes)) new) place
          (subst (λ x. Torn (first + j + stops.at) x new) mid stops.torn);
    }
  where
    shorter : (bytes : List ℕ) (at m n : ℕ)
        → m ≤ n → take m (slice_range bytes at (at + n)) ≡ slice_range bytes at (at + m)
    shorter bytes at m n fits = same_lists _ _ (search (rules, places)) (λ k d h. grind (arith, places))

-- the blocks of a run are those of the whole write
pub block-of-run : (bytes run : List ℕ) (j n k : ℕ) → run ≡ blocks_from bytes j (length run) → length run ≡ 512 * n
    → k < n → block_at run k ≡ block_at bytes (j + k)
block-of-run bytes run j n k is long below =
    ap (λ xs. block_at xs k) (is ∙ ap (λ m. blocks_from bytes j m) long) ∙ there bytes j n k below
  where
    there : (bytes : List ℕ) (j n k : ℕ) → k < n → block_at (blocks_from bytes j (512 * n)) k ≡ block_at bytes (j + k)
    there bytes j n k below = same_lists _ _ (search (rules, places)) (λ i d h. grind (arith, places))

few : (count passed : ℕ) (answer : MediumAnswer) → EndsAt count passed answer → passed ≤ count
few count passed (Ok done) h = omega (arith, h)
few count passed (Err fault) h = omega (arith, h)

-- and its calls follow those that succeeded
pub writes_more : {M : Type 0} (step : M → MediumCall → M → Type 0) (first j count : ℕ) (bytes run : List ℕ)
    (old now new : M) (answer : MediumAnswer) → run ≡ blocks_from bytes j (length run) → length run ≡ 512 * count
    → Calls step old (passing (writes_from first bytes) j) now
    → (h : MakesInOrder step (writes_from (first + j) run) count now answer new)
    → Calls step old (course (writes_from first bytes) (j + h.passed) answer) new
writes_more step first j count bytes run old now new answer is long made h =
    course-goes-on step (writes_from first bytes) (writes_from (first + j) run)
    (writes_from first bytes) j h.passed answer old now new made h.made (λ k below. refl)
    (λ k below. same k (Ok tt) (let all = few count h.passed answer h.ends in omega (arith, below, all)))
    (λ fault failed. let ends : EndsAt count h.passed (Err fault) = subst (EndsAt count h.passed) failed h.ends in
    same h.passed (Err fault) ends)
  where
    same : (k : ℕ) (a : MediumAnswer) → k < count → writes_from (first + j) run k a ≡ writes_from first bytes (j + k) a
    same k a below =
        let place : first + j + k ≡ first + (j + k) = omega arith in
        ap (λ b. Writes (first + j + k) b a) (block-of-run bytes run j count k is long below)
        ∙ ap (λ i. Writes i (block_at bytes (j + k)) a) place

pub on-err : {P : Type 0} (answer : MediumAnswer) → P → OnErr answer P
on-err (Ok done) p = tt
on-err (Err fault) p = p

-- a part of a list that replaces another
pub put-is : (xs ys : List ℕ) (at n : ℕ) → length ys ≡ n → at + n ≤ length xs
    → put_mid at (at + n - at) xs ys ≡ with_bytes xs at ys
put-is xs ys at n long fits = same_lists _ _ (search (rules, places)) (λ k d h. grind (arith, places))
