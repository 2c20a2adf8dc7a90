-- For the answers of `nvme_prp`: if no test of a transfer fails, its pieces are pages.
use Rattle.std.proofs.Common.{
  ◌≡◌,
  ◌≢◌,
  ℕ,
  zero,
  suc,
  ◌+◌,
  ◌-◌,
  ◌*◌,
  ◌%◌,
  ◌<◌,
  ◌≤◌,
  ◌&&◌,
  List,
  [],
  ◌∷◌,
  ◌++◌,
  map,
  min,
  nat_eq,
  nat_lt,
  true,
  false,
  refl,
  arith,
  Some,
  None,
  Option,
  ⊎_elim,
}
use Rattle.std.specs.List.{flat_map, range_with_len}
use Rattle.std.proofs.lemmas.Bool.{cases_Bool, cases_eq, eqb-true, ltb-true, eq-eqb, ne_eqb, cond-true, cond-false}
use Rattle.nvme_spec.specs.declared.pointer.DataFault.{DataFault}
use Rattle.nvme_spec.specs.declared.pointer.Piece.{Piece}
use Rattle.nvme_spec.specs.Pointer.{
  AddressTest,
  fault_of,
  first_fault,
  or_else,
  page_test,
  PageList,
  listed,
  goes_on,
  slots,
  entry_tests,
  Transfer,
  room,
  further_pages,
  further_tests,
  list,
  page,
  pointer_fault,
}
use Rattle.nvme_spec.specs.Transfers.{first_piece, further_piece, pieces_of, ArePages, LiesInPage}

-- an address with no fault
pub sound : (test : AddressTest) → fault_of test ≡ None → (test.address % test.unit ≡ 0) × (test.address < 4194304)
unfolding fault_of
sound test e =
    ⊎_elim {C = (test.address % test.unit ≡ 0) × (test.address < 4194304)}
    (λ (a : nat_eq (test.address % test.unit) 0 ≡ true).
    let inner = rw a at e in
    ⊎_elim {C = (test.address % test.unit ≡ 0) × (test.address < 4194304)}
    (λ (b : nat_lt test.address 4194304 ≡ true). (eqb-true _ _ a, ltb-true _ _ b))
    (λ (b : nat_lt test.address 4194304 ≡ false). let wrong = rw b at inner in cc)
    (cases_Bool (nat_lt test.address 4194304)))
    (λ (a : nat_eq (test.address % test.unit) 0 ≡ false). let wrong = rw a at e in cc)
    (cases_Bool (nat_eq (test.address % test.unit) 0))

-- two lists of tests have no fault
or_else-none : (a b : Option DataFault) → or_else a b ≡ None → (a ≡ None) × (b ≡ None)
or_else-none None b e = (refl, e)
or_else-none (Some fault) b e = cc

tests-none : (xs ys : List AddressTest)
    → first_fault (xs ++ ys) ≡ None → (first_fault xs ≡ None) × (first_fault ys ≡ None)
unfolding first_fault
tests-none [] ys e = (refl, e)
tests-none (x ∷ xs) ys e =
    let both = or_else-none (fault_of x) (first_fault (xs ++ ys)) e in
    let later = tests-none xs ys both.1 in
    (rw (both.0) later.0, later.1)

-- the page of an entry whose tests have no fault
entry-none : (l : PageList) (j : ℕ) → first_fault (entry_tests l j) ≡ None → fault_of (page_test (listed l j)) ≡ None
unfolding first_fault entry_tests
entry-none l j e =
    ⊎_elim {C = fault_of (page_test (listed l j)) ≡ None}
    (λ (t : (goes_on l && nat_eq j (slots l - 1)) ≡ true).
    let f = rw t at e in
    (or_else-none _ _ (or_else-none _ _ f).1).0)
    (λ (t : (goes_on l && nat_eq j (slots l - 1)) ≡ false).
    let f = rw t at e in
    (or_else-none _ _ f).0)
    (cases_Bool (goes_on l && nat_eq j (slots l - 1)))

-- the same for each page of a list whose entries have no fault
listed-sound : (l : PageList) (n j : ℕ) → first_fault (flat_map (entry_tests l) (range_with_len j n)) ≡ None → (i : ℕ)
    → j ≤ i → i < j + n → (listed l i % 4096 ≡ 0) × (listed l i < 4194304)
listed-sound l zero j e i low high = absurd (omega (arith, low, high))
listed-sound l (suc n) j e i low high =
    let both = tests-none (entry_tests l j) (flat_map (entry_tests l) (range_with_len (j + 1) n)) e in
    ⊎_elim {C = (listed l i % 4096 ≡ 0) × (listed l i < 4194304)}
    (λ (same : i ≡ j). rw same (sound (page_test (listed l j)) (entry-none l j both.0)))
    (λ (other : i ≢ j). listed-sound l n (j + 1) both.1 i (omega (arith, low, other)) (omega (arith, high)))
    (cases_eq i j)

-- the further pages of a transfer with no fault
pages-sound : (t : Transfer) (m : ℕ) → further_pages t ≡ m → first_fault (further_tests t m) ≡ None → (i : ℕ)
    → i < m → (page t i % 4096 ≡ 0) × (page t i < 4194304)
unfolding first_fault
pages-sound t zero m-is e i h = absurd (omega arith)
pages-sound t (suc zero) m-is e i h =
    let here : page t i ≡ t.prp2 = cond-true _ _ _ (eq-eqb _ _ m-is) in
    rw here (sound (page_test t.prp2) (or_else-none _ _ e).0)
pages-sound t (suc (suc m)) m-is e i h =
    let here : page t i ≡ listed (list t) i = cond-false _ _ _ (ne_eqb (further_pages t) 1 (λ one. omega arith)) in
    rw here (listed-sound (list t) (suc (suc m)) 0 (or_else-none _ _ e).1 i (omega arith) (omega arith))

-- the pieces from page j on, the first of which starts its page
further-pages : (t : Transfer) (n j : ℕ)
    → j + n ≡ further_pages t → ((i : ℕ) → i < further_pages t → (page t i % 4096 ≡ 0) × (page t i < 4194304))
    → ArePages (map (further_piece t) (range_with_len j n))
unfolding ArePages
further-pages t zero j e h = tt
further-pages t (suc zero) j e h = let here = h j (omega arith) in (omega arith, omega arith)
further-pages t (suc (suc n)) j e h =
    let here = h j (omega arith) in
    let after = h (j + 1) (omega arith) in
    let full : min (t.bytes - room t.prp1 - 4096 * j) 4096 ≡ 4096 = omega arith in
    ((omega arith, omega arith), omega arith, omega arith, after.0, further-pages t (suc n) (j + 1) (omega arith) h)

join-first : (p : Piece) (t : Transfer) (n : ℕ) → ArePages (map (further_piece t) (range_with_len 0 n))
    → LiesInPage p → (0 < n → (p.address % 4096 + p.len ≡ 4096) × (4 ≤ p.len) × (page t 0 % 4096 ≡ 0))
    → ArePages (p ∷ map (further_piece t) (range_with_len 0 n))
unfolding ArePages
join-first p t zero rest lies more = lies
join-first p t (suc n) rest lies more = let m = more (omega arith) in (lies, m.0, m.1, m.2, rest)

pub parts-are_pages : (t : Transfer) → pointer_fault t ≡ None → ArePages (pieces_of t)
unfolding first_fault
parts-are_pages t e =
    let both = or_else-none (fault_of (record { address = t.prp1; unit = 4 }))
    (first_fault (further_tests t (further_pages t))) e in
    let start = sound (record { address = t.prp1; unit = 4 }) both.0 in
    let pages = pages-sound t (further_pages t) refl both.1 in
    let aligned : t.prp1 % 4 ≡ 0 = start.0 in
    let below : t.prp1 < 4194304 = start.1 in
    join-first (first_piece t) t (further_pages t) (further-pages t (further_pages t) 0 (omega arith) pages)
    (omega arith, omega arith)
    (λ more. (omega arith, omega arith, (pages 0 more).0))
