-- For proofs of one lane (queue pair): a slot that no command and no completion uses may change; at most 24 are used.
use Rattle.nvme_refinement.proofs.Words.{
  ◌≡◌,
  ℕ,
  ◌+◌,
  ◌≤◌,
  List,
  [],
  ◌∷◌,
  length,
  map,
  refl,
  arith,
  false,
  cond,
  eqb,
  Bool,
  slice_set,
  cid,
  Completion,
  State,
  Slot,
  slot_at,
  item,
  answers,
  total,
  odd,
  commands_of,
  answers_of,
  Running,
  in_flight,
  Host,
  box,
  heard,
  holds,
  commands,
  common_steps,
  ◌<◌,
  sym,
  ap,
  subst,
  zero,
  suc,
  inl,
  inr,
  cases_Bool,
  eqb-true,
  Option,
  Waiting,
  live_waiting,
  live_in,
  live_at,
  remove,
  eqb-false,
}
use Rattle.nvme_refinement.proofs.Queues.{Bare, same-box}
use Rattle.nvme_refinement.specs.Views.{the_slot, empty}
use Rattle.std.proofs.lemmas.Option.{slice_get-get_or}
use Rattle.nvme_mailbox.proofs.Lists.{got-other, got-here}

-- Sums over the live slots of a lane.

pub map-removed : {A B : Type 0} (g : A → B) (xs : List A) (i : ℕ) → map g (remove xs i) ≡ remove (map g xs) i
map-removed g (y ∷ ys) (suc i) = ap (λ t. g y ∷ t) (map-removed g ys i)
map-removed g (y ∷ ys) zero = refl
map-removed g [] (suc i) = refl
map-removed g [] zero = refl

-- the live slots
pub waiting-small : (o : Option Waiting) → live_waiting o ≤ 1
waiting-small o = grind (arith, common_steps)

pub live-small : (s : Slot) → live_in s ≤ 1
live-small s = waiting-small s.waiting

pub live-few : (slots : List Slot) → total live_in slots ≤ length slots
live-few [] = omega arith
live-few (x ∷ xs) = omega (arith, live-few xs, live-small x)

pub live-within : (slots : List Slot) (i : ℕ) → live_at slots i ≡ 1 → i < length slots
live-within [] i h = let b : ⊥ = omega (arith, h) in absurd b
live-within (x ∷ xs) zero h = omega arith
live-within (x ∷ xs) (suc i) h = omega (arith, live-within xs i h)

pub live-set : (slots : List Slot) (i : ℕ) (s : Slot) → i < length slots →
    total live_in (slice_set slots i s) + live_at slots i ≡ total live_in slots + live_in s
live-set [] i s h = let b : ⊥ = omega (arith, h) in absurd b
live-set (x ∷ xs) zero s h = omega arith
live-set (x ∷ xs) (suc i) s h = omega (arith, live-set xs i s (omega (arith, h)))

pub slot-same : (slots : List Slot) (i : ℕ) (s : Slot) → i < length slots → slot_at (slice_set slots i s) i ≡ s
slot-same slots i s h = ap the_slot (got-here slots i _ s (slice_get-get_or slots i empty h))

pub slot-other : (slots : List Slot) (i : ℕ) (s : Slot) (j : ℕ)
    → eqb j i ≡ false → slot_at (slice_set slots i s) j ≡ slot_at slots j
slot-other slots i s j h = ap the_slot (got-other slots i s j (eqb-false j i h))

-- a property of a slot that is put in a place, and of each other slot
pub each-set : (P : ℕ → Slot → Type 0) (slots : List Slot) (i : ℕ) (s : Slot) → i < length slots → P i s
    → ((k : ℕ) → eqb k i ≡ false → P k (slot_at slots k)) → (k : ℕ) → P k (slot_at (slice_set slots i s) k)
each-set P slots i s h here there k = elim (cases_Bool (eqb k i)) [
  | inl t ↦ subst (λ j. P j (slot_at (slice_set slots i s) j)) (sym (eqb-true k i t))
      (subst (P i) (sym (slot-same slots i s h)) here)
  | inr t ↦ subst (P k) (sym (slot-other slots i s k t)) (there k t)
]

pub each-all : (P : ℕ → Slot → Type 0) (slots : List Slot) (i : ℕ) (s : Slot)
    → P i s → ((k : ℕ) → P k (slot_at slots k)) → (k : ℕ) → P k (slot_at (slice_set slots i s) k)
each-all P [] i s here all k = all k
each-all P (x ∷ xs) zero s here all zero = here
each-all P (x ∷ xs) zero s here all (suc k) = all (suc k)
each-all P (x ∷ xs) (suc i) s here all zero = all zero
each-all P (x ∷ xs) (suc i) s here all (suc k) = each-all (λ n. P (suc n)) xs i s here (λ n. all (suc n)) k

-- the slots except the i-th are the same
abbrev pub Apart : ℕ → (ℕ → Slot) → (ℕ → Slot) → Type 0
Apart i f g = (k : ℕ) → eqb k i ≡ false → g k ≡ f k

pub cond-zero : (b : Bool) (n : ℕ) → cond b 1 0 + n ≡ 0 → b ≡ false
cond-zero b n h = grind (arith, common_steps, h)

-- a slot that no command uses may change
pub same-items : (f g : ℕ → Slot) (i : ℕ) → Apart i f g → (xs : List (List ℕ))
    → commands_of i xs ≡ 0 → map (item g) xs ≡ map (item f) xs
same-items f g i a [] h = refl
same-items f g i a (x ∷ xs) h =
    rw (a (cid x) (cond-zero (eqb (cid x) i) (commands_of i xs) h), same-items f g i a xs (omega (arith, h))) refl

pub same-odd : (f g : ℕ → Slot) (i : ℕ) → Apart i f g → (xs : List (List ℕ))
    → commands_of i xs ≡ 0 → total (odd g) xs ≡ total (odd f) xs
same-odd f g i a [] h = refl
same-odd f g i a (x ∷ xs) h =
    rw (a (cid x) (cond-zero (eqb (cid x) i) (commands_of i xs) h), same-odd f g i a xs (omega (arith, h))) refl

-- a slot that no completion uses may change
pub same-answers : (f g : ℕ → Slot) (i : ℕ) → Apart i f g → (heard : ℕ) (es : List Completion)
    → answers_of i es ≡ 0 → answers g heard es ≡ answers f heard es
same-answers f g i a heard [] h = refl
same-answers f g i a heard (e ∷ es) h =
    rw (a e.cid (cond-zero (eqb e.cid i) (answers_of i es) h), same-answers f g i a e.sq_head es (omega (arith, h)))
    refl

-- another slot in a place
pub apart-set : (slots : List Slot) (i : ℕ) (s : Slot) → Apart i (slot_at slots) (slot_at (slice_set slots i s))
apart-set slots i s k h = slot-other slots i s k h

-- if nobody uses it, the mailbox stays, and so do the commands that do not suit their slots
pub bare-box : (d : Host) (c : State) (i : ℕ) (s : Slot)
    → Bare d c i → box (record d { slots = slice_set d.slots i s }) c ≡ box d c
unfolding box
bare-box d c i s b =
    let a = apart-set d.slots i s in
    same-box _ _ _ _ _ _ _ _ _ _ (same-items (holds d) _ i a _ b.placed) (same-items (holds d) _ i a _ b.rung)
    (same-answers (holds d) _ i a (heard d) _ b.unread) refl refl

abbrev pub odds : (ℕ → Slot) → Host → State → ℕ
odds f d c = total (odd f) c.taken + total (odd f) (commands c.window c.fetched (in_flight d c))

pub bare-odd : (d : Host) (c : State) (i : ℕ) (s : Slot)
    → Bare d c i → odds (slot_at (slice_set d.slots i s)) d c ≡ odds (holds d) d c
bare-odd d c i s b =
    let a = apart-set d.slots i s in
    omega (
      arith,
      same-odd (holds d) _ i a c.taken b.taken,
      same-odd (holds d) _ i a (commands c.window c.fetched (in_flight d c)) b.flight,
    )

-- at most 24 requests are not delivered
pub few : (d : Host) (c : State) → Running d c → length c.taken + in_flight d c + c.unread ≤ 24
few d c s = omega (arith, s.held, s.slots, live-few d.slots)
