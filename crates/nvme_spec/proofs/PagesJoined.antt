-- For proofs about data pointers: the pieces of a transfer, joined, are the addresses of its bytes.
use Rattle.std.proofs.Common.{
  true,
  false,
  ◌≡◌,
  ℕ,
  zero,
  suc,
  ◌+◌,
  ◌-◌,
  ◌*◌,
  ◌/◌,
  ◌%◌,
  ◌<◌,
  ◌∷◌,
  ◌++◌,
  map,
  min,
  nat_lt,
  refl,
  sym,
  ap,
  ◌∙◌,
  arith,
}
use Rattle.std.specs.List.{flat_map, range_with_len}
use Rattle.std.proofs.lemmas.List.Folds.{flat_map-map}
use Rattle.std.proofs.lemmas.List.{map-append}
use Rattle.std.proofs.lemmas.Bool.{lt-ltb, le-ltb}
use Rattle.nvme_spec.specs.Pointer.{Transfer, room, further_pages, page, address}
use Rattle.nvme_spec.specs.Transfers.{run, addresses, further_piece, pieces_of}

-- a function that counts up gives a run
pub counts : (f : ℕ → ℕ) (a b n : ℕ) → ((k : ℕ) → k < n → f (b + k) ≡ a + k)
    → map f (range_with_len b n) ≡ range_with_len a n
counts f a b zero h = refl
counts f a b (suc n) h =
    let first : f b ≡ a = ap f (omega arith) ∙ h 0 (omega arith) ∙ omega arith in
    let rest = counts f (a + 1) (b + 1) n (λ k lt. ap f (omega arith) ∙ h (k + 1) (omega arith) ∙ omega arith) in
    rw (first, rest) refl

pub range-split : (a n m : ℕ) → range_with_len a (n + m) ≡ range_with_len a n ++ range_with_len (a + n) m
range-split a zero m =
    let e : 0 + m ≡ m = omega arith in
    let f : a + 0 ≡ a = omega arith in
    rw (e, f) refl
range-split a (suc n) m =
    let e : suc n + m ≡ suc (n + m) = omega arith in
    let f : a + suc n ≡ a + 1 + n = omega arith in
    rw (e, f) (ap (λ xs. a ∷ xs) (range-split (a + 1) n m))

-- the start of the next run matters only if there is one
range-from : (a b n : ℕ) → (0 < n → a ≡ b) → range_with_len a n ≡ range_with_len b n
range-from a b zero h = refl
range-from a b (suc n) h = ap (λ c. range_with_len c (suc n)) (h (omega arith))

-- the addresses of two runs
map-split : (f : ℕ → ℕ) (a b n m : ℕ)
    → (0 < m → a + n ≡ b) → map f (range_with_len a (n + m)) ≡ map f (range_with_len a n) ++ map f (range_with_len b m)
map-split f a b n m h =
    ap (map f) (range-split a n m ∙ ap (λ xs. range_with_len a n ++ xs) (range-from (a + n) b m h))
    ∙ map-append f (range_with_len a n) (range_with_len b m)

pub address-near : (t : Transfer) (k : ℕ) → k < room t.prp1 → address t k ≡ t.prp1 + k
address-near t k h = let near : nat_lt k (room t.prp1) ≡ true = lt-ltb _ _ h in rw (near) refl

pub address-far : (t : Transfer) (j i : ℕ) → i < 4096 → address t (room t.prp1 + 4096 * j + i) ≡ page t j + i
address-far t j i h =
    let k : ℕ = room t.prp1 + 4096 * j + i in
    let far : nat_lt k (room t.prp1) ≡ false = le-ltb _ _ (omega arith) in
    let quotient : (k - room t.prp1) / 4096 ≡ j = omega arith in
    let remainder : (k - room t.prp1) % 4096 ≡ i = omega arith in
    rw (far, quotient, remainder) refl

-- the further pages from page j on
further : (t : Transfer) (n j : ℕ) → j + n ≡ further_pages t
    → flat_map (λ i. run (further_piece t i)) (range_with_len j n)
    ≡ map (address t) (range_with_len (room t.prp1 + 4096 * j) (t.bytes - (room t.prp1 + 4096 * j)))
further t zero j h = let none : t.bytes - (room t.prp1 + 4096 * j) ≡ 0 = omega arith in rw (none) refl
further t (suc n) j h =
    let rest = further t n (j + 1) (omega arith) in
    let here : ℕ = min (t.bytes - room t.prp1 - 4096 * j) 4096 in
    let all : t.bytes - (room t.prp1 + 4096 * j) ≡ here + (t.bytes - (room t.prp1 + 4096 * (j + 1))) = omega arith in
    let front = counts (address t) (page t j) (room t.prp1 + 4096 * j) here (λ i lt. address-far t j i (omega arith)) in
    sym (ap (λ k. map (address t) (range_with_len (room t.prp1 + 4096 * j) k)) all
    ∙ map-split (address t) (room t.prp1 + 4096 * j) (room t.prp1 + 4096 * (j + 1)) here
    (t.bytes - (room t.prp1 + 4096 * (j + 1))) (λ more. omega arith)
    ∙ ap (λ xs. xs
    ++ map (address t) (range_with_len (room t.prp1 + 4096 * (j + 1)) (t.bytes - (room t.prp1 + 4096 * (j + 1))))) front
    ∙ ap (λ xs. run (further_piece t j) ++ xs) (sym rest))

pub joined : (t : Transfer) → addresses (pieces_of t) ≡ map (address t) (range_with_len 0 t.bytes)
unfolding addresses
joined t =
    let here : ℕ = min t.bytes (room t.prp1) in
    let all : t.bytes ≡ here + (t.bytes - (room t.prp1 + 4096 * 0)) = omega arith in
    let front =
    counts (address t) t.prp1 0 here (λ k lt. ap (address t) (omega arith) ∙ address-near t k (omega arith)) in
    let rest = flat_map-map run (further_piece t) (range_with_len 0 (further_pages t))
    ∙ further t (further_pages t) 0 (omega arith) in
    sym (ap (λ k. map (address t) (range_with_len 0 k)) all
    ∙ map-split (address t) 0 (room t.prp1 + 4096 * 0) here (t.bytes - (room t.prp1 + 4096 * 0)) (λ more. omega arith)
    ∙ ap
    (λ xs. xs ++ map (address t) (range_with_len (room t.prp1 + 4096 * 0) (t.bytes - (room t.prp1 + 4096 * 0)))) front
    ∙ ap (λ xs. run (record { address = t.prp1; len = here }) ++ xs) (sym rest))
