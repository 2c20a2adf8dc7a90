-- Replaces the count of the last notice of a list.
use Rattle.std.proofs.Common.{
  ◌≡◌,
  ℕ,
  ◌-◌,
  ◌≤◌,
  false,
  List,
  [],
  ◌∷◌,
  length,
  min,
  map,
  take,
  get_or,
  set,
  refl,
  ap,
  subst,
  sym,
  ◌∙◌,
  arith,
  suc,
  zero,
}
use Rattle.std.proofs.Math.ListN.{length-set}
use Rattle.std.proofs.lemmas.List.{length-take-le}
use Rattle.nvme_notices.specs.declared.notice.NoticeType.{NoticeType}
use Rattle.nvme_notices.specs.declared.notice.Notice.{Notice}
use Rattle.nvme_notices.specs.Keeping.{with_last_count, has_room, is_in_mask, count_after, added}
use Rattle.nvme_notices.specs.Runs.{content}

written : (x : Notice) (xs : List Notice) (d : Notice) (count : ℕ)
    → set (x ∷ xs) (length xs) (record (get_or (x ∷ xs) (length xs) d) { count = count })
    ≡ with_last_count (x ∷ xs) count
written x [] d count = refl
written x (y ∷ xs) d count = ap (λ ys. x ∷ ys) (written y xs d count)

-- a write to the last of 64 places
pub last_written : (ys : List Notice) (d : Notice) (count : ℕ) → length ys ≡ 64
    → set ys 63 (record (get_or ys 63 d) { count = count }) ≡ with_last_count ys count
last_written [] d count h = absurd (omega (arith, h))
last_written (x ∷ xs) d count h =
    let last : length xs ≡ 63 = omega (arith, h) in
    subst (λ n. set (x ∷ xs) n (record (get_or (x ∷ xs) n d) { count = count }) ≡ with_last_count (x ∷ xs) count)
    last (written x xs d count)

pub length-with_last_count : (xs : List Notice) (count : ℕ) → length (with_last_count xs count) ≡ length xs
length-with_last_count [] count = refl
length-with_last_count (x ∷ []) count = refl
length-with_last_count (x ∷ y ∷ xs) count = ap suc (length-with_last_count (y ∷ xs) count)

-- types and namespaces are unchanged
pub content-with_last_count : (xs : List Notice) (count : ℕ) → map content (with_last_count xs count) ≡ map content xs
content-with_last_count [] count = refl
content-with_last_count (x ∷ []) count = refl
content-with_last_count (x ∷ y ∷ xs) count = ap (λ ys. content x ∷ ys) (content-with_last_count (y ∷ xs) count)

all-of : (n : ℕ) (xs : List Notice) → length xs ≤ n → take n xs ≡ xs
all-of zero [] h = refl
all-of zero (x ∷ xs) h = absurd (omega (arith, h))
all-of (suc n) [] h = refl
all-of (suc n) (x ∷ xs) h = ap (λ ys. x ∷ ys) (all-of n xs (omega (arith, h)))

-- a new count in the last of 64 kept notices
pub last_of_kept_written : (ys : List Notice) (d : Notice) (count : ℕ) → length ys ≡ 64
    → take 64 (set ys 63 (record (get_or ys 63 d) { count = count })) ≡ with_last_count (take 64 ys) count
last_of_kept_written ys d count h =
    let new : List Notice = set ys 63 (record (get_or ys 63 d) { count = count }) in
    let as-long : length new ≡ 64 = length-set {A = Notice} ys 63 _ ∙ h in
    all-of 64 new (omega (arith, as-long)) ∙ last_written ys d count h
    ∙ ap (λ xs. with_last_count xs count) (sym (all-of 64 ys (omega (arith, h))))

no-room : (xs : List Notice) → length xs ≡ 64 → has_room xs ≡ false
no-room xs h = rw h refl

-- a notice for which there is no room
pub added_full : (masks : List ℕ) (places new : List Notice) (count next nsid len : ℕ) (kind : NoticeType)
    → is_in_mask (get_or masks (nsid - 1) 0) kind ≡ false → len ≡ 64 → length places ≡ 64
    → take 64 new ≡ with_last_count (take 64 places) next → next ≡ count_after count
    → record { masks = masks; kept = take len new; count = next }
    ≡ added (record { masks = masks; kept = take len places; count = count }) nsid kind
added_full masks places new count next nsid len kind masked full long written is =
    let room : has_room (take 64 places) ≡ false =
    no-room (take 64 places) (length-take-le 64 places (omega (arith, long))) in
    rw (full, masked, room, written, is) refl

-- a number of notices up to 64 is its minimum with 64
pub few_stay : (n : ℕ) → n ≤ 64 → min n 64 ≡ n
few_stay n h = omega (arith, h)
