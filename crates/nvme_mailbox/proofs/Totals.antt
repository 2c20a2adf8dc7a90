-- For proofs about tickets and slots: sums over lists.
use Rattle.nvme_mailbox.proofs.Words.{
  ◌≡◌,
  ℕ,
  ◌+◌,
  zero,
  suc,
  List,
  [],
  ◌∷◌,
  ◌++◌,
  Some,
  ap,
  sym,
  arith,
  same_Some,
  slice_get,
  remove,
  total,
}

pub total-append : {A : Type 0} (f : A → ℕ) (xs ys : List A) → total f (xs ++ ys) ≡ total f xs + total f ys
total-append f [] ys = omega arith
total-append f (x ∷ xs) ys = omega (arith, total-append f xs ys)

-- the share of one element in a sum, and the rest
pub total-removed : {A : Type 0} (f : A → ℕ) (xs : List A) (i : ℕ) (x : A)
    → slice_get xs i ≡ Some x → f x + total f (remove xs i) ≡ total f xs
total-removed f [] i x h = absurd cc
total-removed f (y ∷ ys) zero x h = ap (λ z. f z + total f ys) (sym (same_Some y x h))
total-removed f (y ∷ ys) (suc i) x h = omega (arith, total-removed f ys i x h)
