-- For the answer of `pages_of`: the first of a transfer's tests that fails.
use Rattle.std.proofs.Common.{
  ◌≡◌,
  ℕ,
  zero,
  suc,
  ◌-◌,
  ◌*◌,
  ◌<◌,
  List,
  [],
  ◌∷◌,
  map,
  min,
  refl,
  sym,
  ap,
  ◌∙◌,
  arith,
  Some,
  None,
  Option,
}
use Rattle.std.specs.List.{flat_map, range_with_len}
use Rattle.nvme_prp.specs.Walk.{list_tests, list_of, listed_piece}
use Rattle.nvme_spec.specs.declared.pointer.DataFault.{DataFault}
use Rattle.std.proofs.lemmas.Bool.{ne_eqb, eq-eqb, cond-true, cond-false}
use Rattle.nvme_spec.specs.declared.pointer.Piece.{Piece}
use Rattle.nvme_spec.specs.Transfers.{pieces_of, further_piece}
use Rattle.nvme_spec.specs.Pointer.{
  AddressTest,
  fault_of,
  first_fault,
  or_else,
  page_test,
  entry_tests,
  Transfer,
  room,
  further_pages,
  further_tests,
  list,
  pointer_tests,
  page,
  listed,
}

abbrev at_four : ℕ → AddressTest
at_four a = record { address = a; unit = 4 }

abbrev at_eight : ℕ → AddressTest
at_eight a = record { address = a; unit = 8 }

further-many : (t : Transfer) (m : ℕ)
    → 1 < m → further_tests t m ≡ at_eight t.prp2 ∷ flat_map (entry_tests (list t)) (range_with_len 0 m)
further-many t zero h = absurd (omega arith)
further-many t (suc zero) h = absurd (omega arith)
further-many t (suc (suc m)) h = refl

-- the bytes after the first page, as the code counts them
pub same-list : (t : Transfer) (bytes : ℕ) → bytes ≡ t.bytes - room t.prp1 → list_of t.window t.prp2 bytes ≡ list t
same-list t bytes e = ap (λ n. list_of t.window t.prp2 n) e

pub first-fault : (t : Transfer) (e : DataFault) → fault_of (at_four t.prp1) ≡ Some e
    → first_fault (pointer_tests t) ≡ Some e
unfolding first_fault
first-fault t e f = rw (f) refl

pub none-further : (t : Transfer) → fault_of (at_four t.prp1) ≡ None → further_pages t ≡ 0
    → first_fault (pointer_tests t) ≡ None
unfolding first_fault
none-further t f m = rw (f, m) refl

pub one-further : (t : Transfer) (o : Option DataFault) → fault_of (at_four t.prp1) ≡ None → further_pages t ≡ 1
    → fault_of (page_test t.prp2) ≡ o → first_fault (pointer_tests t) ≡ or_else o None
unfolding first_fault
one-further t o f m g = rw (f, m, g) refl

pub many-further : (t : Transfer) (o : Option DataFault) → fault_of (at_four t.prp1) ≡ None → 1 < further_pages t
    → fault_of (at_eight t.prp2) ≡ o → first_fault (pointer_tests t) ≡ or_else o (first_fault (list_tests (list t)))
unfolding first_fault
many-further t o f m g = rw (f, further-many t (further_pages t) m, g) refl

-- the pieces, by the number of further pages
pub parts-none : (t : Transfer)
    → further_pages t ≡ 0 → pieces_of t ≡ record { address = t.prp1; len = min t.bytes (room t.prp1) } ∷ []
parts-none t m = rw (m) refl

page-one : (t : Transfer) (j : ℕ) → further_pages t ≡ 1 → page t j ≡ t.prp2
page-one t j m = cond-true _ _ _ (eq-eqb _ _ m)

page-many : (t : Transfer) (j : ℕ) → 1 < further_pages t → page t j ≡ listed (list t) j
page-many t j m = cond-false _ _ _ (ne_eqb (further_pages t) 1 (λ one. omega arith))

map-same : (f g : ℕ → Piece) → ((j : ℕ) → f j ≡ g j) → (js : List ℕ) → map f js ≡ map g js
map-same f g h [] = refl
map-same f g h (j ∷ js) = let e = h j in let es = map-same f g h js in cc

pub parts-one : (t : Transfer) (bytes : ℕ) → further_pages t ≡ 1 → bytes ≡ t.bytes - room t.prp1 → pieces_of t
    ≡ record { address = t.prp1; len = min t.bytes (room t.prp1) } ∷ record { address = t.prp2; len = bytes } ∷ []
parts-one t bytes m e =
    let first : Piece = record { address = t.prp1; len = min t.bytes (room t.prp1) } in
    let second : Piece = record { address = t.prp2; len = bytes } in
    let all : min (t.bytes - room t.prp1 - 4096 * 0) 4096 ≡ bytes = omega arith in
    let place = page-one t 0 m in
    let same : further_piece t 0 ≡ second = cc in
    ap (λ n. first ∷ map (further_piece t) (range_with_len 0 n)) m ∙ ap (λ p. first ∷ p ∷ []) same

pub parts-many : (t : Transfer) (bytes : ℕ) → 1 < further_pages t → bytes ≡ t.bytes - room t.prp1
    → pieces_of t ≡ record { address = t.prp1; len = min t.bytes (room t.prp1) }
    ∷ map (listed_piece (list_of t.window t.prp2 bytes) bytes) (range_with_len 0 (further_pages t))
parts-many t bytes m e =
    let first : Piece = record { address = t.prp1; len = min t.bytes (room t.prp1) } in
    let same : (j : ℕ) → further_piece t j ≡ listed_piece (list t) (t.bytes - room t.prp1) j = λ j. let place =
    page-many t j m in cc in
    ap (λ ps. first ∷ ps) (map-same (further_piece t) (listed_piece (list t) (t.bytes - room t.prp1)) same
    (range_with_len 0 (further_pages t)))
    ∙ ap (λ b. first ∷ map (listed_piece (list_of t.window t.prp2 b) b) (range_with_len 0 (further_pages t))) (sym e)
