-- For most proofs here: lists all of whose elements have a property, and lists in which one place is set.
use Rattle.nvme_mailbox.proofs.Words.{
  ◌≡◌,
  ℕ,
  zero,
  suc,
  List,
  [],
  ◌∷◌,
  ◌++◌,
  map,
  Some,
  subst,
  slice_get,
  slice_set,
  AllByRecursion,
  remove,
  same_Some,
  ◌≢◌,
  refl,
  sym,
  ap,
}

pub all-left : {A : Type 0} (P : A → Type 0) (xs ys : List A) → AllByRecursion P (xs ++ ys) → AllByRecursion P xs
all-left P [] ys a = tt
all-left P (x ∷ xs) ys a = (a.0, all-left P xs ys a.1)

pub all-right : {A : Type 0} (P : A → Type 0) (xs ys : List A) → AllByRecursion P (xs ++ ys) → AllByRecursion P ys
all-right P [] ys a = a
all-right P (x ∷ xs) ys a = all-right P xs ys a.1

pub all-over : {A B : Type 0} (P : B → Type 0) (g : A → B) (xs : List A)
    → AllByRecursion P (map g xs) → AllByRecursion (λ x. P (g x)) xs
all-over P g [] a = tt
all-over P g (x ∷ xs) a = (a.0, all-over P g xs a.1)

pub all-get : {A : Type 0} (P : A → Type 0) (xs : List A) (i : ℕ) (x : A)
    → slice_get xs i ≡ Some x → AllByRecursion P xs → P x
all-get P [] i x h a = absurd (cc)
all-get P (y ∷ xs) zero x h a = subst P (same_Some y x h) a.0
all-get P (y ∷ xs) (suc i) x h a = all-get P xs i x h a.1

pub all-removed : {A : Type 0} (P : A → Type 0) (xs : List A) (i : ℕ)
    → AllByRecursion P xs → AllByRecursion P (remove xs i)
all-removed P (x ∷ xs) zero a = a.1
all-removed P (x ∷ xs) (suc i) a = (a.0, all-removed P xs i a.1)
all-removed P [] (suc i) a = tt
all-removed P [] zero a = tt

-- an element of a list in which one place is set
pub got-other : {A : Type 0} (xs : List A) (i : ℕ) (x : A) (j : ℕ)
    → j ≢ i → slice_get (slice_set xs i x) j ≡ slice_get xs j
got-other [] i x j other = refl
got-other (y ∷ xs) zero x zero other = absurd (other refl)
got-other (y ∷ xs) zero x (suc j) other = refl
got-other (y ∷ xs) (suc i) x zero other = refl
got-other (y ∷ xs) (suc i) x (suc j) other = got-other xs i x j (λ e. other (ap suc e))

pub got-here : {A : Type 0} (xs : List A) (i : ℕ) (y x : A)
    → slice_get xs i ≡ Some y → slice_get (slice_set xs i x) i ≡ Some x
got-here [] i y x at = absurd (cc)
got-here (z ∷ xs) zero y x at = refl
got-here (z ∷ xs) (suc i) y x at = got-here xs i y x at

pub got-back : {A : Type 0} (xs : List A) (i : ℕ) (x : A) → slice_get xs i ≡ Some x → slice_set xs i x ≡ xs
got-back [] i x at = absurd (cc)
got-back (y ∷ xs) zero x at = ap (λ z. z ∷ xs) (sym (same_Some y x at))
got-back (y ∷ xs) (suc i) x at = ap (λ ys. y ∷ ys) (got-back xs i x at)

-- an element of a list that was mapped
pub from-map : {A B : Type 0} (f : A → B) (xs : List A) (i : ℕ) (y : B) → slice_get (map f xs) i ≡ Some y
    → (x : A) × (slice_get xs i ≡ Some x) × (y ≡ f x)
from-map f [] i y h = absurd (cc)
from-map f (x ∷ xs) zero y h = (x, refl, sym (same_Some _ _ h))
from-map f (x ∷ xs) (suc i) y h = from-map f xs i y h
