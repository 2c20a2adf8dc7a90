-- For laws about calls of a medium that reveals its content, if none fails: what reads return, what writes leave, and
-- where a Compare stops.
use Rattle.std.proofs.Common.{
  ◌≡◌,
  ◌⊎◌,
  inl,
  inr,
  ℕ,
  zero,
  suc,
  ◌+◌,
  ◌*◌,
  ◌≤◌,
  ◌<◌,
  nat_lt,
  ◌&&◌,
  Bool,
  true,
  false,
  List,
  [],
  ◌∷◌,
  ◌++◌,
  length,
  take,
  rules,
  Ok,
  Err,
  refl,
  sym,
  ap,
  subst,
  ◌∙◌,
  arith,
}
use Rattle.std.specs.Prelude.{if◌then◌else◌}
use Rattle.std.specs.Str.{bytes_eq}
use Rattle.std.proofs.lemmas.Bool.{cases_Bool, ltb-true, ltb-false, false≢true}
use Rattle.std.proofs.lemmas.List.{same_lists, places, take_all}
use Rattle.std.proofs.lemmas.Slice.Eq.{bytes_eq-Decides}
use Rattle.nvme_spec.specs.Blocks.{block_at, blocks_from}
use Rattle.nvme_spec.specs.Bytes.{with_bytes}
use Rattle.nvme_spec.specs.MediumCalls.{
  MediumAnswer,
  MediumCall,
  Reads,
  Writes,
  Flushes,
  Calls,
  passing,
  course,
  reads_from,
  writes_from,
}
use Rattle.nvme_spec.specs.FaultFreeCalls.{content_step}
use Rattle.nvme_spec.specs.BlockCommands.{reads_of, are_same, blocks_compared}
use Rattle.nvme_spec.proofs.MediumCalls.{calls-joined}
use Rattle.nvme_spec.proofs.Splices.{with_bytes-next, blocks_from-more}

-- Calls, and then others, are calls one after the other.

-- the state after the first of them
pub record AreSplit {S C : Type 0} (step : S → C → S → Type 0) (calls others : List C) (old new : S) : Type 0 where
  pub mid : S
  pub first : Calls step old calls mid
  pub rest : Calls step mid others new

pub calls-split : {S C : Type 0} (step : S → C → S → Type 0) (calls others : List C) (old new : S)
    → Calls step old (calls ++ others) new → AreSplit step calls others old new
calls-split step [] others old new h = record { mid = old; first = refl; rest = h }
calls-split step (c ∷ cs) others old new h =
    let r = calls-split step cs others h.0 new h.2 in
    record { mid = r.mid; first = (h.0, h.1, r.first); rest = r.rest }

-- The state after such calls is determined.

step-alone : (old a b : List ℕ) (call : MediumCall) → content_step old call a → content_step old call b → b ≡ a
step-alone old a b (Reads i answer) h g = g.1 ∙ sym h.1
step-alone old a b (Writes i block answer) h g = g.1 ∙ sym h.1
step-alone old a b (Flushes answer) h g = g.1 ∙ sym h.1

pub content-alone : (calls : List MediumCall) (old a b : List ℕ)
    → Calls content_step old calls a → Calls content_step old calls b → b ≡ a
content-alone [] old a b h g = g ∙ sym h
content-alone (call ∷ calls) old a b h g = content-alone calls h.0 a b h.2
    (subst (λ s. Calls content_step s calls b) (step-alone old h.0 g.0 call h.1 g.1) g.2)

-- Numbers below the next one.
pub below-next : (P : ℕ → Type 0) (n : ℕ) → ((k : ℕ) → k < n → P k) → P n → (k : ℕ) → k < suc n → P k
below-next P n before last k h = elim (cases_Bool (nat_lt k n)) [
  | inl less ↦ before k (ltb-true k n less)
  | inr more ↦ (let no : n ≤ k = ltb-false k n more in let same : n ≡ k = omega (arith, no, h) in subst P same last)
]

-- None of them fails.

pub reads-pass : (first passed : ℕ) (read content left : List ℕ) (answer : MediumAnswer)
    → Calls content_step content (course (reads_from first read) passed answer) left → answer ≡ Ok tt
reads-pass first passed read content left (Ok tt) h = refl
reads-pass first passed read content left (Err fault) h =
    let s = calls-split content_step (passing (reads_from first read) passed)
    (reads_from first read passed (Err fault) ∷ []) content left h in
    let last = s.rest in
    let failed = last.1 in
    let no = failed.0 in absurd (cc)

pub writes-pass : (first passed : ℕ) (bytes content left : List ℕ) (answer : MediumAnswer)
    → Calls content_step content (course (writes_from first bytes) passed answer) left → answer ≡ Ok tt
writes-pass first passed bytes content left (Ok tt) h = refl
writes-pass first passed bytes content left (Err fault) h =
    let s = calls-split content_step (passing (writes_from first bytes) passed)
    (writes_from first bytes passed (Err fault) ∷ []) content left h in
    let last = s.rest in
    let failed = last.1 in
    let no = failed.0 in absurd (cc)

-- Reads return the blocks of the content.

-- the first n blocks that were read are those of the content
abbrev pub AreFound : ℕ → ℕ → List ℕ → List ℕ → Type 0
AreFound first n read content = (k : ℕ) → k < n → block_at read k ≡ block_at content (first + k)

pub reads-find : (first n : ℕ) (read content left : List ℕ)
    → Calls content_step content (passing (reads_from first read) n) left
    → (left ≡ content) × AreFound first n read content
reads-find first zero read content left h = (h, λ k below. absurd (omega (arith, below)))
reads-find first (suc n) read content left h =
    let s = calls-split content_step (passing (reads_from first read) n)
    (reads_from first read n (Ok tt) ∷ []) content left h in
    let before = reads-find first n read content s.mid s.first in
    let last = s.rest in
    let passed = last.1 in
    let is : block_at read n ≡ block_at s.mid (first + n) = cc (passed.0) in (
      last.2 ∙ (passed.1 ∙ before.0),
      below-next (λ k. block_at read k ≡ block_at content (first + k)) n before.1
          (is ∙ ap (λ c. block_at c (first + n)) before.0),
    )

-- so they are the reads of the content
pub reads-same : (first n : ℕ) (read content : List ℕ)
    → AreFound first n read content → passing (reads_from first read) n ≡ passing (reads_of first content) n
reads-same first zero read content found = refl
reads-same first (suc n) read content found =
    ap (λ cs. cs ++ (reads_from first read n (Ok tt) ∷ []))
    (reads-same first n read content (λ k h. found k (omega (arith, h))))
    ∙ ap (λ block. passing (reads_of first content) n ++ (Reads (first + n) (Ok block) ∷ [])) (found n (omega arith))

-- and those can be made
pub reads-made : (first n : ℕ) (content : List ℕ)
    → Calls content_step content (passing (reads_of first content) n) content
reads-made first zero content = refl
reads-made first (suc n) content =
    calls-joined content_step (passing (reads_of first content) n) (reads_of first content n (Ok tt) ∷ []) content
    content content (reads-made first n content) (content, (refl, refl), refl)

-- Writes leave the bytes.

none-written : (content : List ℕ) (at : ℕ) → at ≤ length content → with_bytes content at [] ≡ content
none-written content at fits = same_lists _ _ (search (rules, places)) (λ k d h. grind (arith, places))

pub writes-made : (first blocks n : ℕ) (bytes content : List ℕ) → n ≤ blocks → length bytes ≡ 512 * blocks
    → 512 * (first + blocks) ≤ length content
    → Calls content_step content (passing (writes_from first bytes) n)
    (with_bytes content (512 * first) (take (512 * n) bytes))
writes-made first blocks zero bytes content h whole fits = none-written content (512 * first) (omega (arith, fits))
writes-made first blocks (suc n) bytes content h whole fits =
    let now : List ℕ = with_bytes content (512 * first) (take (512 * n) bytes) in
    let new : List ℕ = with_bytes now (512 * (first + n)) (block_at bytes n) in
    let next : n + 1 ≡ suc n = omega arith in
    let is : new ≡ with_bytes content (512 * first) (take (512 * (n + 1)) bytes) =
    with_bytes-next content first bytes n blocks now new (block_at bytes n) refl refl refl
    (omega (arith, h)) whole fits in
    let made : Calls content_step content (passing (writes_from first bytes) (suc n)) new =
    calls-joined content_step (passing (writes_from first bytes) n)
    (writes_from first bytes n (Ok tt) ∷ []) content now new
    (writes-made first blocks n bytes content (omega (arith, h)) whole fits) (new, (refl, refl), refl) in
    subst (Calls content_step content (passing (writes_from first bytes) (suc n)))
    (is ∙ ap (λ m. with_bytes content (512 * first) (take (512 * m) bytes)) next) made

pub all-written : (first blocks : ℕ) (bytes content : List ℕ)
    → length bytes ≡ 512 * blocks → 512 * (first + blocks) ≤ length content
    → Calls content_step content (passing (writes_from first bytes) blocks) (with_bytes content (512 * first) bytes)
all-written first blocks bytes content whole fits =
    subst (λ part. Calls content_step content (passing (writes_from first bytes) blocks)
    (with_bytes content (512 * first) part)) (take_all (512 * blocks) bytes (omega (arith, whole)))
    (writes-made first blocks blocks bytes content (omega arith) whole fits)

-- A Compare.

-- a block of it is the same
abbrev pub IsSameAt : ℕ → List ℕ → List ℕ → ℕ → Type 0
IsSameAt first sent content k = block_at content (first + k) ≡ block_at sent k

both-true : (a b : Bool) → a ≡ true → b ≡ true → (a && b) ≡ true
both-true true b h g = g
both-true false b h g = absurd (false≢true h)

left-false : (a b : Bool) → a ≡ false → (a && b) ≡ false
left-false true b h = absurd (false≢true (sym h))
left-false false b h = refl

right-false : (a b : Bool) → b ≡ false → (a && b) ≡ false
right-false true b h = h
right-false false b h = refl

same-bytes : (xs ys : List ℕ) → xs ≡ ys → bytes_eq xs ys ≡ true
same-bytes xs ys e = let d = bytes_eq-Decides xs ys in d.1 e

other-bytes : (xs ys : List ℕ) → (xs ≡ ys → ⊥) → bytes_eq xs ys ≡ false
other-bytes xs ys e = let d = bytes_eq-Decides xs ys in elim (cases_Bool (bytes_eq xs ys)) [
  | inl same ↦ absurd (e (d.0 same))
  | inr differ ↦ differ
]

pub front-same : (first : ℕ) (sent content : List ℕ) (n : ℕ) → ((k : ℕ) → k < n → IsSameAt first sent content k)
    → are_same first sent content n ≡ true
front-same first sent content zero same = refl
front-same first sent content (suc n) same =
    both-true (are_same first sent content n) _ (front-same first sent content n (λ k h. same k (omega (arith, h))))
    (same-bytes _ _ (same n (omega arith)))

differs-behind : (first : ℕ) (sent content : List ℕ) (j n : ℕ) → j < n → (IsSameAt first sent content j → ⊥)
    → are_same first sent content n ≡ false
differs-behind first sent content j zero h other = absurd (omega (arith, h))
differs-behind first sent content j (suc n) h other = elim (cases_Bool (nat_lt j n)) [
  | inl less ↦
      left-false (are_same first sent content n) _ (differs-behind first sent content j n (ltb-true j n less) other)
  | inr more ↦ (let no : n ≤ j = ltb-false j n more in
      let same : j ≡ n = omega (arith, no, h) in
      right-false (are_same first sent content n) _
      (other-bytes _ _ (subst (λ m. IsSameAt first sent content m → ⊥) same other)))
]

if-true : {A : Type 0} (b : Bool) (x y : A) → b ≡ true → (if b then x else y) ≡ x
if-true true x y h = refl
if-true false x y h = absurd (false≢true h)

if-false : {A : Type 0} (b : Bool) (x y : A) → b ≡ false → (if b then x else y) ≡ y
if-false true x y h = absurd (false≢true (sym h))
if-false false x y h = refl

-- it reads all blocks if all are equal
pub compared-all : (first : ℕ) (sent content : List ℕ) (n : ℕ) → ((k : ℕ) → k < n → IsSameAt first sent content k)
    → blocks_compared first sent content n ≡ n
compared-all first sent content zero same = refl
compared-all first sent content (suc n) same =
    if-true (are_same first sent content n) _ _ (front-same first sent content n (λ k h. same k (omega (arith, h))))

-- else those up to the first that differs
pub compared-up-to : (first : ℕ) (sent content : List ℕ) (j n : ℕ)
    → j < n → ((k : ℕ) → k < j → IsSameAt first sent content k) → (IsSameAt first sent content j → ⊥)
    → blocks_compared first sent content n ≡ j + 1
compared-up-to first sent content j zero h same other = absurd (omega (arith, h))
compared-up-to first sent content j (suc n) h same other = elim (cases_Bool (nat_lt j n)) [
  | inl less ↦ if-false (are_same first sent content n) (suc n) _
      (differs-behind first sent content j n (ltb-true j n less) other)
      ∙ compared-up-to first sent content j n (ltb-true j n less) same other
  | inr more ↦ (let no : n ≤ j = ltb-false j n more in
      let last : j ≡ n = omega (arith, no, h) in
      let up : suc n ≡ j + 1 = omega (arith, last) in
      if-true (are_same first sent content n) (suc n) _
      (front-same first sent content n (λ k g. same k (omega (arith, g, last)))) ∙ up)
]

-- one block differs first, or none does
pub record FirstDiffers (first : ℕ) (sent content : List ℕ) (n : ℕ) : Type 0 where
  pub at : ℕ
  pub below : at < n
  pub front : (k : ℕ) → k < at → IsSameAt first sent content k
  pub differs : IsSameAt first sent content at → ⊥

pub compares : (first : ℕ) (sent content : List ℕ) (n : ℕ)
    → ((k : ℕ) → k < n → IsSameAt first sent content k) ⊎ FirstDiffers first sent content n
compares first sent content zero = inl (λ k h. absurd (omega (arith, h)))
compares first sent content (suc n) = elim (compares first sent content n) [
  | inr found ↦ (let low = found.below in
      inr (record { at = found.at; below = omega (arith, low); front = found.front; differs = found.differs }))
  | inl all ↦ (let d = bytes_eq-Decides (block_at content (first + n)) (block_at sent n) in
      elim (cases_Bool (bytes_eq (block_at content (first + n)) (block_at sent n))) [
        | inl same ↦ inl (below-next (IsSameAt first sent content) n all (d.0 same))
        | inr other ↦
            inr (record { at = n; below = omega arith; front = all; differs = λ e. false≢true (sym other ∙ d.1 e) })
      ])
]

-- blocks and bytes
pub block-of-run : (content : List ℕ) (first j n : ℕ) → 512 * first + n ≤ length content → 512 * j + 512 ≤ n
    → block_at (blocks_from content first n) j ≡ block_at content (first + j)
block-of-run content first j n fits within = same_lists _ _ (search (rules, places)) (λ k d h. grind (arith, places))

front-and-block : (bytes : List ℕ) (j : ℕ)
    → 512 * (j + 1) ≤ length bytes → take (512 * (j + 1)) bytes ≡ take (512 * j) bytes ++ block_at bytes j
front-and-block bytes j fits = same_lists _ _ (search (rules, places)) (λ k d h. grind (arith, places))

no-blocks : (content bytes : List ℕ) (first : ℕ) → blocks_from content first (512 * 0) ≡ take (512 * 0) bytes
no-blocks content bytes first = same_lists _ _ (search (rules, places)) (λ k d h. grind (arith, places))

pub run-of-blocks : (first : ℕ) (sent content : List ℕ) (n : ℕ) → 512 * (first + n) ≤ length content
    → 512 * n ≤ length sent → ((k : ℕ) → k < n → IsSameAt first sent content k)
    → blocks_from content first (512 * n) ≡ take (512 * n) sent
run-of-blocks first sent content zero fits long same = no-blocks content sent first
run-of-blocks first sent content (suc n) fits long same =
    let next : suc n ≡ n + 1 = omega arith in
    let before =
    run-of-blocks first sent content n (omega (arith, fits)) (omega (arith, long)) (λ k h. same k (omega (arith, h))) in
    rw (
      next,
      blocks_from-more content first n (omega (arith, fits)),
      front-and-block sent n (omega (arith, long)),
      before,
      same n (omega arith),
    ) refl
