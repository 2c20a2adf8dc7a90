-- Slots of rings and places of lists, for a host's turn at its queues.
use Rattle.std.proofs.Common.{
  ◌≡◌,
  ◌⊎◌,
  ℕ,
  zero,
  suc,
  ◌+◌,
  ◌-◌,
  ◌*◌,
  ◌/◌,
  ◌%◌,
  ◌<◌,
  ◌≤◌,
  ◌==◌,
  inl,
  inr,
  Bool,
  true,
  false,
  List,
  [],
  ◌∷◌,
  ◌++◌,
  length,
  take,
  drop,
  slice_range,
  rules,
  Option,
  None,
  Some,
  refl,
  sym,
  ap,
  ◌∙◌,
  arith,
}
use Rattle.std.specs.Prelude.{if◌then◌else◌, slice_get, slice_set, slice_index_or, option_map}
use Rattle.std.proofs.Math.Nat.{mod-eq_of_lt, mod_self, mul-add-mod_self_right, mod-add-div'}
use Rattle.std.proofs.lemmas.Bool.{cases_lt, lt-ltb, eqb-true, eqb-false}
use Rattle.std.proofs.lemmas.List.{append-nil, places, same_lists, take-append-drop}
use Rattle.std.proofs.lemmas.Nat.{mod-mul-add, mod_below}
use Rattle.std.proofs.lemmas.Option.{none-some, same_Some}
use Rattle.nvme_spec.specs.Bytes.{with_bytes}
use Rattle.nvme_spec.specs.Queues.{
  CompletionTail,
  FitsCompletionTail,
  after_head_doorbell,
  after_post,
  ahead,
  slot_of,
}
use Rattle.nvme_spec.proofs.Contents.{keeps-with_bytes}
use Rattle.nvme_spec.proofs.QueueLaws.{two_turns}
use Rattle.nvme_library.specs.Turns.{next_slot}

-- Slots.

pub record Next (size n next : ℕ) : Type 0 where
  pub below : next < size
  pub one : ahead size next n ≡ 1
  pub turned : (n + 1) % size ≡ next

pub next-of : (size n : ℕ) → 2 ≤ size → n < size → Next size n (next_slot size n)
next-of size n two inside = by (n + 1 == size) refl
  where
    by : (b : Bool) → (n + 1 == size) ≡ b → Next size n (if b then 0 else n + 1)
    by true e =
        let last : n + 1 ≡ size = eqb-true (n + 1) size e in
        let gap : size + 0 - n ≡ 1 = omega (arith, last) in
        record {
          below = omega (arith, two);
          one = ap (λ k. k % size) gap ∙ mod-eq_of_lt (omega (arith, two));
          turned = ap (λ k. k % size) last ∙ mod_self size;
        }
    by false e = elim (cases_lt (n + 1) size) [
      | inl within ↦ (let gap : size + (n + 1) - n ≡ 1 * size + 1 = omega arith in record {
        below = within;
        one = ap (λ k. k % size) gap ∙ mod-mul-add 1 size 1 (omega (arith, two));
        turned = mod-eq_of_lt within;
      })
      | inr past ↦ absurd (eqb-false (n + 1) size e (omega (arith, past, inside)))
    ]

-- if the head equals the tail, nothing is unread
pub none-unread : (size tail unread : ℕ) → tail < size → unread < size → ahead size tail unread ≡ tail → unread ≡ 0
none-unread size tail unread below within same = elim (cases_lt tail unread) [
  | inl past ↦
      (let far : size + tail - unread ≡ tail = sym (mod-eq_of_lt (omega (arith, past, within, below))) ∙ same in
      omega (arith, far, past, within, below))
  | inr low ↦ (let gap : size + tail - unread ≡ 1 * size + (tail - unread) = omega (arith, low) in
      let near : tail - unread ≡ tail =
      sym (ap (λ k. k % size) gap ∙ mod-mul-add 1 size (tail - unread) (omega (arith, below))) ∙ same in
      omega (arith, near, low))
]

-- Queues at their places.

pub there-below : {A : Type 0} (xs : List (Option A)) (q : ℕ) (x : A) → slice_index_or xs q None ≡ Some x
    → q < length xs
there-below [] q x h = absurd (none-some _ h)
there-below (o ∷ xs) zero x h = omega arith
there-below (o ∷ xs) (suc q) x h = let rest = there-below xs q x h in omega (arith, rest)

pub set-there : {A : Type 0} (xs : List (Option A)) (q : ℕ) (x y : A) → slice_index_or xs q None ≡ Some x
    → slice_index_or (slice_set xs q (Some y)) q None ≡ Some y
set-there [] q x y h = absurd (none-some _ h)
set-there (o ∷ xs) zero x y h = refl
set-there (o ∷ xs) (suc q) x y h = set-there xs q x y h

pub mapped-there : {A : Type 0} (f : A → A) (xs : List (Option A)) (q : ℕ) (x : A) → slice_index_or xs q None ≡ Some x
    → slice_index_or (slice_set xs q (option_map f (slice_index_or xs q None))) q None ≡ Some (f x)
mapped-there f [] q x h = absurd (none-some _ h)
mapped-there f (o ∷ xs) zero x h = ap (option_map f) h
mapped-there f (o ∷ xs) (suc q) x h = mapped-there f xs q x h

pub got-last : {A : Type 0} (xs : List A) (t : A) → slice_get (xs ++ t ∷ []) (length xs) ≡ Some t
got-last [] t = refl
got-last (x ∷ xs) t = got-last xs t

pub stored-there : (w : List ℕ) (start n : ℕ) (bytes : List ℕ) → length bytes ≡ n → start + n ≤ length w
    → slice_range (with_bytes w start bytes) start (start + n) ≡ bytes
stored-there w start n bytes whole fits = same_lists _ _ (search (rules, places)) (λ k d inside. grind (arith, places))

-- the bytes outside of a store are as before
pub stored-beside : (w : List ℕ) (at : ℕ) (bytes : List ℕ) (start n : ℕ) → at + length bytes ≤ length w
    → (start + n ≤ at) ⊎ (at + length bytes ≤ start)
    → slice_range (with_bytes w at bytes) start (start + n) ≡ slice_range w start (start + n)
stored-beside w at bytes start n fits apart =
    let keeps = keeps-with_bytes at (at + length bytes) w at bytes (omega arith) (omega arith) fits in
    keeps.others start n apart

pub stored-length : (w : List ℕ) (at : ℕ) (bytes : List ℕ) → at + length bytes ≤ length w
    → length (with_bytes w at bytes) ≡ length w
stored-length w at bytes fits =
    let keeps = keeps-with_bytes at (at + length bytes) w at bytes (omega arith) (omega arith) fits in keeps.size

pub stored-nothing : (w : List ℕ) (at : ℕ) → with_bytes w at [] ≡ w
stored-nothing w at =
    let none : at + 0 ≡ at = omega arith in ap (λ n. take at w ++ [] ++ drop n w) none
    ∙ ap (λ xs. xs ++ drop at w) (append-nil (take at w)) ∙ take-append-drop at w

pub set-twice : {A : Type 0} (xs : List A) (i : ℕ) (x y : A) → slice_set (slice_set xs i x) i y ≡ slice_set xs i y
set-twice [] i x y = refl
set-twice (z ∷ xs) zero x y = refl
set-twice (z ∷ xs) (suc i) x y = ap (λ ys. z ∷ ys) (set-twice xs i x y)

pub set-same : {A : Type 0} (xs : List A) (i : ℕ) (x : A) → slice_get xs i ≡ Some x → slice_set xs i x ≡ xs
set-same [] i x h = refl
set-same (z ∷ xs) zero x h = ap (λ y. y ∷ xs) (sym (same_Some _ _ h))
set-same (z ∷ xs) (suc i) x h = ap (λ ys. z ∷ ys) (set-same xs i x h)

-- The tail of a completion queue.

-- it is the next slot after a completion
pub tail-after : (q : CompletionTail) → FitsCompletionTail q
    → slot_of q.size (after_post q).posted ≡ next_slot q.size (slot_of q.size q.posted)
tail-after q fits =
    let size = fits.size in
    let some : 0 < q.size = omega (arith, size.0) in
    let turn = two_turns q.size (q.posted + 1) some in
    let below : slot_of q.size q.posted < q.size = mod_below q.posted q.size some in
    let next = next-of q.size (slot_of q.size q.posted) size.0 below in
    let parts : q.posted + 1 ≡ q.posted / q.size * q.size + (q.posted % q.size + 1) =
    omega (arith, mod-add-div' q.posted q.size) in
    turn.0 ∙ ap (λ n. n % q.size) parts ∙ mul-add-mod_self_right (q.posted / q.size) q.size (q.posted % q.size + 1)
    ∙ next.turned

-- if the host then writes it to the head doorbell, nothing is unread
pub head-after : (q : CompletionTail) → FitsCompletionTail q
    → after_head_doorbell (after_post q) (next_slot q.size (slot_of q.size q.posted))
    ≡ record (after_post q) { unread = 0 }
head-after q fits =
    let size = fits.size in
    let some : 0 < q.size = omega (arith, size.0) in
    let v : ℕ = next_slot q.size (slot_of q.size q.posted) in
    let next = next-of q.size (slot_of q.size q.posted) size.0 (mod_below q.posted q.size some) in
    let whole : q.size + v - v ≡ q.size = omega arith in
    ap (λ b. if b then record (after_post q) { unread = ahead q.size (slot_of q.size (after_post q).posted) v }
    else after_post q) (lt-ltb v q.size next.below)
    ∙ ap (λ n. record (after_post q) { unread = ahead q.size n v }) (tail-after q fits)
    ∙ ap (λ n. record (after_post q) { unread = n }) (ap (λ n. n % q.size) whole ∙ mod_self q.size)
