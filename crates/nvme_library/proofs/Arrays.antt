-- For the answers of `put_controllers`, `put_namespaces` and `put_attached`: C arrays written from the front.
use Rattle.std.proofs.Common.{
  ◌≡◌,
  ℕ,
  zero,
  suc,
  ◌+◌,
  ◌<◌,
  ◌≤◌,
  List,
  [],
  ◌∷◌,
  ◌++◌,
  length,
  take,
  drop,
  map,
  slice_index_or,
  slice_set,
  refl,
  ap,
  subst,
  arith,
}

-- one more is written
set-next : {A : Type 0} {B : Type 0} (f : A → B) (xs : List A) (ys : List B) (i : ℕ) (d : A)
    → i < length xs → length xs ≤ length ys
    → slice_set (map f (take i xs) ++ drop i ys) i (f (slice_index_or xs i d))
    ≡ map f (take (suc i) xs) ++ drop (suc i) ys
set-next f [] ys i d below room = absurd (omega (arith, below))
set-next f (x ∷ xs) [] i d below room = absurd (omega (arith, room))
set-next f (x ∷ xs) (y ∷ ys) zero d below room = refl
set-next f (x ∷ xs) (y ∷ ys) (suc i) d below room =
    ap (λ t. f x ∷ t) (set-next f xs ys i d (omega (arith, below)) (omega (arith, room)))

pub next-set : {A : Type 0} {B : Type 0} (f : A → B) (xs : List A) (ys zs : List B) (i : ℕ) (d : A)
    → zs ≡ map f (take i xs) ++ drop i ys → i < length xs
    → length xs ≤ length ys → slice_set zs i (f (slice_index_or xs i d)) ≡ map f (take (i + 1) xs) ++ drop (i + 1) ys
next-set f xs ys zs i d front below room =
    let one : suc i ≡ i + 1 = omega arith in
    rw front (subst (λ n. slice_set (map f (take i xs) ++ drop i ys) i (f (slice_index_or xs i d)) ≡ map f (take n xs)
    ++ drop n ys) one (set-next f xs ys i d below room))
