-- For the answers of `read_blocks`: blocks read onto a buffer, up to the first that could not be read.
use Rattle.std.proofs.Common.{
  ◌≡◌,
  ◌⊎◌,
  inl,
  inr,
  ℕ,
  zero,
  suc,
  Bool,
  true,
  IsTrue,
  List,
  [],
  ◌∷◌,
  ◌++◌,
  ◌+◌,
  ◌-◌,
  ◌*◌,
  ◌/◌,
  ◌%◌,
  ◌≤◌,
  ◌<◌,
  length,
  take,
  drop,
  get_or,
  rules,
  Ok,
  Err,
  refl,
  sym,
  ap,
  subst,
  ◌∙◌,
  arith,
  length-append,
}
use Rattle.std.specs.Prelude.{IsErr, OnOk}
use Rattle.std.proofs.Math.Seq.{take-append_seam, drop-append_seam}
use Rattle.std.proofs.lemmas.List.{
  length-drop,
  length-take,
  length-take-le,
  get_or-take,
  get_or-drop,
  same_lists,
  places,
  take-append-drop,
  take_all,
  drop_all,
}
use Rattle.nvme_spec.proofs.Splices.{length-blocks_from}
use Rattle.nvme_spec.specs.Blocks.{block_at, blocks_from}
use Rattle.nvme_spec.specs.MediumCalls.{MediumAnswer, MediumCall, Reads, Calls, EndsAt, course, passing, reads_from}
use Rattle.nvme_medium.specs.Reading.{ReadsBlocks, GiveTheSame, ReadingIsUnique, ReadingExists}
use Rattle.nvme_medium.proofs.Made.{calls-append, passing-same, block_at-front}
use Rattle.nvme_medium.proofs.Runs.{HasReadFront}

-- the front of the buffer
at-front : (tells : Bool) (first j : ℕ) (content buffer left : List ℕ) → HasReadFront tells first j content buffer left
    → IsTrue tells → take (512 * j) left ≡ blocks_from content first (512 * j)
at-front tells first j content buffer left h told =
    ap (take (512 * j)) h.is ∙ (subst (λ n. take n (h.front ++ drop (512 * j) buffer) ≡ h.front) h.size
    (take-append_seam h.front (drop (512 * j) buffer))
    ∙ h.told told)

-- and the rest
behind-front : (tells : Bool) (first j : ℕ) (content buffer left : List ℕ)
    → HasReadFront tells first j content buffer left → drop (512 * j) left ≡ drop (512 * j) buffer
behind-front tells first j content buffer left h =
    ap (drop (512 * j)) h.is ∙ subst (λ n. drop n (h.front ++ drop (512 * j) buffer) ≡ drop (512 * j) buffer) h.size
    (drop-append_seam h.front (drop (512 * j) buffer))

stays-long : (tells : Bool) (first j : ℕ) (content buffer left : List ℕ)
    → HasReadFront tells first j content buffer left → 512 * j ≤ length buffer
    → length left ≡ length buffer
stays-long tells first j content buffer left h fits =
    ap length h.is ∙ omega (arith, length-append h.front (drop (512 * j) buffer), length-drop (512 * j) buffer, h.size)

-- all blocks have been read
pub all-read : {S : Type 0} (step : S → MediumCall → S → Type 0) (tells : Bool) (first j count : ℕ)
    (content buffer left : List ℕ) (old now : S)
    → HasReadFront tells first j content buffer left → Calls step old (passing (reads_from first left) j) now
    → j ≡ count → 512 * j ≤ length buffer
    → ReadsBlocks step tells content first count buffer left old (Ok tt) now
all-read step tells first j count content buffer left old now h made all fits = record {
  passed = j;
  ends = all;
  made = made;
  read = at-front tells first j content buffer left h;
  behind = behind-front tells first j content buffer left h;
  long = stays-long tells first j content buffer left h fits;
}

-- the next one could not be read
pub read-failed : {S : Type 0} (step : S → MediumCall → S → Type 0) (tells : Bool) (first j count : ℕ)
    (content buffer left : List ℕ) (made : MediumCall) (answer : MediumAnswer) (old now new : S)
    → HasReadFront tells first j content buffer left → Calls step old (passing (reads_from first left) j) now
    → made ≡ reads_from first left j answer → step now made new
    → j < count → 512 * j ≤ length buffer → IsErr answer
    → ReadsBlocks step tells content first count buffer left old answer new
read-failed step tells first j count content buffer left made (Ok done) old now new h before is next more fits
    failed = absurd (cc)
read-failed step tells first j count content buffer left made (Err fault) old now new h before is next more fits
    failed = record {
      passed = j;
      ends = more;
      made =
          calls-append step (passing (reads_from first left) j) (reads_from first left j (Err fault)) old now new before
          (subst (λ c. step now c new) is next);
      read = at-front tells first j content buffer left h;
      behind = behind-front tells first j content buffer left h;
      long = stays-long tells first j content buffer left h fits;
    }

-- a byte of the blocks read
at-block : (bytes : List ℕ) (k d : ℕ) → get_or (block_at bytes (k / 512)) (k - 512 * (k / 512)) d ≡ get_or bytes k d
at-block bytes k d =
    let in_block : k - 512 * (k / 512) < 512 * (k / 512) + 512 - 512 * (k / 512) = omega arith in
    let there : 512 * (k / 512) + (k - 512 * (k / 512)) ≡ k = omega arith in
    get_or-take _ _ (k - 512 * (k / 512)) d in_block
    ∙ (get_or-drop (512 * (k / 512)) bytes (k - 512 * (k / 512)) d ∙ ap (λ i. get_or bytes i d) there)

same-front : (n : ℕ) (one two : List ℕ) → length one ≡ length two → GiveTheSame n one two
    → take (512 * n) one ≡ take (512 * n) two
same-front n one two long same = same_lists _ _ (simp (length-take) (omega (arith, long))) (λ k d h.
    let below : k < 512 * n = omega (arith, length-take (512 * n) one, h) in
    let block : k / 512 < n = omega (arith, below) in
    get_or-take (512 * n) one k d below ∙ (sym (at-block one k d)
    ∙ (ap (λ b. get_or b (k - 512 * (k / 512)) d) (same (k / 512) block)
    ∙ (at-block two k d ∙ sym (get_or-take (512 * n) two k d below)))))

-- the buffer is unique: its front is what was read, its rest is unchanged
pub reading_is_unique : {M : Type 0} (step : M → MediumCall → M → Type 0) → ReadingIsUnique step
reading_is_unique step tells content first count buffer left other old new later answer reply one two same gave =
    let n = 512 * one.passed in
    let front : take n left ≡ take n other = by gave in
    let behind : drop n left ≡ drop n other = one.behind
    ∙ (ap (λ k. drop (512 * k) buffer) same ∙ (sym two.behind ∙ ap (λ k. drop (512 * k) other) (sym same))) in
    sym (take-append-drop n left)
    ∙ (ap (λ xs. xs ++ drop n left) front ∙ (ap (λ xs. take n other ++ xs) behind ∙ take-append-drop n other))
  where
    by : IsTrue tells ⊎ GiveTheSame one.passed left other → take (512 * one.passed) left ≡ take (512 * one.passed) other
    by (inl told) = one.read told ∙ (ap (λ k. blocks_from content first (512 * k)) same
        ∙ (sym (two.read told) ∙ ap (λ k. take (512 * k) other) (sym same)))
    by (inr blocks) = same-front one.passed left other (one.long ∙ sym two.long) blocks

-- a block among the first n does not depend on what follows
block-stays : (n : ℕ) (given buffer : List ℕ) (k : ℕ)
    → 512 * n ≤ length given → k < n → block_at given k ≡ block_at (take (512 * n) given ++ drop (512 * n) buffer) k
block-stays n given buffer k fits below =
    let long : length (take (512 * n) given) ≡ 512 * n = length-take-le (512 * n) given fits in
    ap (λ xs. block_at xs k) (sym (take-append-drop (512 * n) given))
    ∙ (sym (block_at-front (take (512 * n) given) (drop (512 * n) given) n k long below)
    ∙ block_at-front (take (512 * n) given) (drop (512 * n) buffer) n k long below)

few : (count passed : ℕ) (answer : MediumAnswer) → EndsAt count passed answer → passed ≤ count
few count passed (Ok done) h = omega (arith, h)
few count passed (Err fault) h = omega (arith, h)

-- the calls are the same if the buffer has the blocks that they returned
pub same-course : (first n : ℕ) (given left : List ℕ) (answer : MediumAnswer)
    → ((k : ℕ) → k < n → block_at given k ≡ block_at left k)
    → course (reads_from first given) n answer ≡ course (reads_from first left) n answer
same-course first n given left (Ok done) same = passing-same (reads_from first given) (reads_from first left) n
    (λ k h. ap (λ b. Reads (first + k) (Ok b)) (same k h))
same-course first n given left (Err fault) same =
    ap (λ cs. cs ++ (Reads (first + n) (Err fault) ∷ [])) (passing-same (reads_from first given)
    (reads_from first left) n (λ k h. ap (λ b. Reads (first + k) (Ok b)) (same k h)))

pub reading_exists : {M : Type 0} (step : M → MediumCall → M → Type 0) → ReadingExists step
reading_exists step tells content first count passed buffer given old new answer long same ends made told =
    let n = 512 * passed in
    let fits : n ≤ length given = omega (arith, same, few count passed answer ends) in
    let front : length (take n given) ≡ n = length-take-le n given fits in
    let left = take n given ++ drop n buffer in (
      left,
      record {
        passed = passed;
        ends = ends;
        made = subst (λ cs. Calls step old cs new)
            (same-course first passed given left answer (λ k h. block-stays passed given buffer k fits h)) made;
        read = λ t.
            subst (λ m. take m left ≡ take n given) front (take-append_seam (take n given) (drop n buffer)) ∙ told t;
        behind = subst (λ m. drop m left ≡ drop n buffer) front (drop-append_seam (take n given) (drop n buffer));
        long =
            omega (arith, length-append (take n given) (drop n buffer), length-drop n buffer, front, long, same, fits);
      },
    )

-- reads that leave the medium as it is, one after the other
reads-stay : {M : Type 0} (step : M → MediumCall → M → Type 0) (first n : ℕ) (given : List ℕ) (m : M)
    → ((k : ℕ) → k < n → step m (Reads (first + k) (Ok (block_at given k))) m)
    → Calls step m (passing (reads_from first given) n) m
reads-stay step first zero given m each = refl
reads-stay step first (suc n) given m each =
    calls-append step (passing (reads_from first given) n) (Reads (first + n) (Ok (block_at given n))) m m m
    (reads-stay step first n given m (λ k h. each k (omega (arith, h)))) (each n (omega arith))

block_at-blocks_from : (content : List ℕ) (first n k : ℕ) → 512 * first + n ≤ length content → 512 * k + 512 ≤ n
    → block_at content (first + k) ≡ block_at (blocks_from content first n) k
block_at-blocks_from content first n k fits within =
    same_lists _ _ (search (rules, places)) (λ i d h. grind (arith, places))

-- copying blocks at once gives the same as reading them one after the other, if these reads succeed
pub these-read-at-once : {M : Type 0} (step : M → MediumCall → M → Type 0) (first size : ℕ)
    (content buffer left : List ℕ) (m : M) → left ≡ blocks_from content first (length buffer)
    → length buffer % 512 ≡ 0 → 512 * first + length buffer ≤ 512 * size → length content ≡ 512 * size
    → ((k : ℕ) → k < length buffer / 512 → step m (Reads (first + k) (Ok (block_at content (first + k)))) m)
    → ReadsBlocks step true content first (length buffer / 512) buffer left m (Ok tt) m
these-read-at-once step first size content buffer left m is even within whole each =
    let count : ℕ = length buffer / 512 in
    let all : length buffer ≡ 512 * count = omega arith in
    let fits : 512 * first + length buffer ≤ length content = omega arith in
    let long : length left ≡ length buffer = ap length is ∙ length-blocks_from content first (length buffer) fits in
    record {
      passed = count;
      ends = refl;
      made = reads-stay step first count left m (λ k h. subst (λ b. step m (Reads (first + k) (Ok b)) m)
          (block_at-blocks_from content first (length buffer) k fits (omega (arith, h, all))
          ∙ ap (λ xs. block_at xs k) (sym is)) (each k h));
      read = λ tells. take_all (512 * count) left (omega arith) ∙ is ∙ ap (blocks_from content first) all;
      behind = drop_all (512 * count) left (omega arith) ∙ sym (drop_all (512 * count) buffer (omega arith));
      long = long;
    }

-- copying blocks at once, if every read succeeds
pub read-at-once : {M : Type 0} (step : M → MediumCall → M → Type 0) (first size : ℕ) (content buffer left : List ℕ)
    (m : M) → left ≡ blocks_from content first (length buffer)
    → length buffer % 512 ≡ 0 → 512 * first + length buffer ≤ 512 * size → length content ≡ 512 * size
    → ((i : ℕ) → step m (Reads i (Ok (block_at content i))) m)
    → ReadsBlocks step true content first (length buffer / 512) buffer left m (Ok tt) m
read-at-once step first size content buffer left m is even within whole each =
    these-read-at-once step first size content buffer left m is even within whole (λ k h. each (first + k))

-- if no read failed, the buffer has the medium's blocks
pub all-of-it : {M : Type 0} (step : M → MediumCall → M → Type 0) (tells : Bool) (content : List ℕ) (first : ℕ)
    (buffer left : List ℕ) (old new : M) (answer : MediumAnswer) → length buffer % 512 ≡ 0
    → ReadsBlocks step tells content first (length buffer / 512) buffer left old answer new
    → OnOk answer (IsTrue tells → left ≡ blocks_from content first (length buffer))
all-of-it step tells content first buffer left old new (Ok done) even h = λ told.
    let all : 512 * h.passed ≡ length buffer = omega (arith, h.ends, even) in
    sym (take_all (512 * h.passed) left (omega (arith, all, h.long))) ∙ h.read told ∙ ap (blocks_from content first) all
all-of-it step tells content first buffer left old new (Err fault) even h = tt
