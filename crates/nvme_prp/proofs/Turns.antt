-- For the answer of `walk_list`: a walk along a list of pages, entry by entry.
use Rattle.std.proofs.Common.{
  min,
  length,
  subst,
  length-append,
  ◌≡◌,
  ◌≢◌,
  ℕ,
  ◌+◌,
  ◌-◌,
  ◌*◌,
  ◌%◌,
  ◌<◌,
  ◌≤◌,
  suc,
  Bool,
  true,
  false,
  List,
  [],
  ◌∷◌,
  ◌++◌,
  map,
  refl,
  sym,
  ap,
  ◌∙◌,
  arith,
  nat_lt,
  nat_le,
  nat_eq,
  cond,
  ◌&&◌,
  ⊎_elim,
  Some,
  None,
}
use Rattle.std.specs.List.{flat_map, range_with_len}
use Rattle.std.proofs.lemmas.List.FromFn.{map-range_with_len_more, length-map-range_with_len}
use Rattle.std.proofs.lemmas.List.{append_assoc}
use Rattle.std.proofs.lemmas.Bool.{
  cases_lt,
  cases_eq,
  eq-eqb,
  ne_eqb,
  eqb-true,
  eqb-false,
  ltb-true,
  lt-ltb,
  le-leb,
  lt-leb,
  and_parts,
  and_cases,
  and_left,
  and_right,
  cases_Bool,
  and_from,
}
use Rattle.nvme_prp.specs.Walk.{list_tests, listed_piece}
use Rattle.nvme_spec.specs.declared.pointer.Piece.{Piece}
use Rattle.nvme_spec.specs.declared.pointer.DataFault.{DataFault}
use Rattle.nvme_spec.specs.Pointer.{
  AddressTest,
  fault_of,
  first_fault,
  or_else,
  page_test,
  PageList,
  slots,
  goes_on,
  next,
  slot,
  listed,
  entry_tests,
}
use Rattle.nvme_spec.specs.Memory.{qword}
use Rattle.nvme_spec.proofs.PagesSound.{sound}
use Rattle.nvme_prp.specs.Walk.{Follows}

-- What is known before entry j is read: the number of bytes left, the address of the walk, the tests left, and the
-- pieces found.
pub record Reached (l : PageList) (bytes j left at : ℕ) (before parts : List Piece) : Type 0 where
  pub within : j ≤ l.pages
  pub rest : left ≡ bytes - 4096 * j
  pub near : j < slots l → at ≡ l.start + 8 * j
  pub far : slots l ≤ j → j < l.pages → at ≡ next l + 8 * (j - (slots l - 1))
  pub far_aligned : slots l ≤ j → j < l.pages → next l % 4096 ≡ 0
  pub far_in_window : slots l ≤ j → j < l.pages → next l < 4194304
  pub tested : first_fault (list_tests l) ≡ first_fault (flat_map (entry_tests l) (range_with_len j (l.pages - j)))
  pub found : parts ≡ before ++ map (listed_piece l bytes) (range_with_len 0 j)

-- the list starts at a valid address, and is as short as a transfer's
pub record IsShort (l : PageList) : Type 0 where
  pub aligned : l.start % 8 ≡ 0
  pub in_window : l.start < 4194304
  pub short : l.pages ≤ 32

-- the walk may read at its address
pub at-aligned : (l : PageList) (bytes j left at : ℕ) (before parts : List Piece)
    → Reached l bytes j left at before parts → IsShort l → j < l.pages → at % 8 ≡ 0
at-aligned l bytes j left at before parts r s h =
    ⊎_elim {C = at % 8 ≡ 0}
    (λ (near : j < slots l). let e = r.near near in omega arith)
    (λ (far : slots l ≤ j). let e = r.far far h in let a = r.far_aligned far h in omega arith)
    (cases_lt j (slots l))

pub at-in_window : (l : PageList) (bytes j left at : ℕ) (before parts : List Piece)
    → Reached l bytes j left at before parts → IsShort l → j < l.pages → at < 4194304
at-in_window l bytes j left at before parts r s h =
    ⊎_elim {C = at < 4194304}
    (λ (near : j < slots l). let e = r.near near in omega arith)
    (λ (far : slots l ≤ j). let e = r.far far h in let a = r.far_aligned far h in
    let b = r.far_in_window far h in omega arith)
    (cases_lt j (slots l))

-- the walk is at the end of a page exactly before the first entry of the next page
pub at-end : (l : PageList) (bytes j left at : ℕ) (before parts : List Piece) → Reached l bytes j left at before parts
    → IsShort l → j < l.pages → at % 4096 ≡ 4088 → j + 1 ≡ slots l
at-end l bytes j left at before parts r s h end =
    ⊎_elim {C = j + 1 ≡ slots l}
    (λ (near : j < slots l). let e = r.near near in omega arith)
    (λ (far : slots l ≤ j). let e = r.far far h in let a = r.far_aligned far h in omega arith)
    (cases_lt j (slots l))

pub not-at-end : (l : PageList) (bytes j left at : ℕ) (before parts : List Piece)
    → Reached l bytes j left at before parts → IsShort l → at % 4096 ≢ 4088 → j + 1 ≢ slots l
not-at-end l bytes j left at before parts r s n e =
    let near = r.near (omega arith) in absurd (n (omega arith))

-- whether the list continues on a second page just before entry j
abbrev jumps : PageList → ℕ → Bool
jumps l j = goes_on l && nat_eq j (slots l - 1)

-- the code tests exactly that
pub jump-is : (l : PageList) (bytes j left at : ℕ) (before parts : List Piece) → Reached l bytes j left at before parts
    → IsShort l → j < l.pages → (nat_lt (j + 1) l.pages && nat_eq (at % 4096) 4088) ≡ jumps l j
jump-is l bytes j left at before parts r s h =
    ⊎_elim {C = (nat_lt (j + 1) l.pages && nat_eq (at % 4096) 4088) ≡ jumps l j}
    (λ (e : j + 1 ≡ slots l).
    let near = r.near (omega arith) in
    let end : nat_eq (at % 4096) 4088 ≡ true = eq-eqb _ _ (omega arith) in
    let here : nat_eq j (slots l - 1) ≡ true = eq-eqb _ _ (omega arith) in
    rw (end, here, e) refl)
    (λ (n : j + 1 ≢ slots l).
    let aligned = s.aligned in
    let not_end : nat_eq (at % 4096) 4088 ≡ false =
    ne_eqb _ _ (λ e. n (at-end l bytes j left at before parts r s h e)) in
    let not_here : nat_eq j (slots l - 1) ≡ false = ne_eqb _ _ (λ e. n (omega arith)) in
    and_right _ _ not_end ∙ sym (and_right (goes_on l) _ not_here))
    (cases_eq (j + 1) (slots l))

-- after a jump the walk is at the first slot of the second page, the address of entry j
pub jumped : (l : PageList) (bytes j left at : ℕ) (before parts : List Piece) → Reached l bytes j left at before parts
    → IsShort l → jumps l j ≡ true → (qword l.window at ≡ next l) × (next l ≡ slot l j)
unfolding slot
jumped l bytes j left at before parts r s e =
    let both = and_parts (goes_on l) _ e in
    let more = ltb-true _ _ both.0 in
    let here = eqb-true _ _ both.1 in
    let aligned = s.aligned in
    let near = r.near (omega arith) in
    let place : at ≡ l.start + 8 * (slots l - 1) = omega arith in
    let behind : nat_le (slots l - 1) j ≡ true = le-leb _ _ (omega arith) in
    let first : next l ≡ next l + 8 * (j - (slots l - 1)) = omega arith in
    (ap (qword l.window) place, rw (both.0, behind) first)

-- without a jump it is at the address of entry j
pub stayed : (l : PageList) (bytes j left at : ℕ) (before parts : List Piece) → Reached l bytes j left at before parts
    → IsShort l → j < l.pages → jumps l j ≡ false → at ≡ slot l j
unfolding slot
stayed l bytes j left at before parts r s h e =
    let aligned = s.aligned in
    ⊎_elim {C = at ≡ slot l j}
    (λ (near : j < slots l).
    let place = r.near near in
    let not_behind : (goes_on l && nat_le (slots l - 1) j) ≡ false =
    ⊎_elim {C = (goes_on l && nat_le (slots l - 1) j) ≡ false}
    (λ (f : goes_on l ≡ false). and_left _ _ f)
    (λ (f : nat_eq j (slots l - 1) ≡ false).
    let n = eqb-false _ _ f in
    and_right _ _ (lt-leb _ _ (⊎_elim {C = j < slots l - 1} (λ (q : j ≡ slots l - 1). absurd (n q))
    (λ (q : j ≢ slots l - 1). omega arith) (cases_eq j (slots l - 1)))))
    (and_cases _ _ e) in
    rw (not_behind) place)
    (λ (far : slots l ≤ j).
    let place = r.far far h in
    let more : goes_on l ≡ true = lt-ltb _ _ (omega arith) in
    let behind : nat_le (slots l - 1) j ≡ true = le-leb _ _ (omega arith) in
    rw (more, behind) place)
    (cases_lt j (slots l))

-- the result of `slot_to_read`, with and without a jump
pub followed : (l : PageList) (bytes j left at new : ℕ) (before parts : List Piece)
    → Reached l bytes j left at before parts
    → IsShort l → j < l.pages → Follows l.window at (nat_lt (j + 1) l.pages) new
    → cond (jumps l j) ((new ≡ qword l.window at) × (fault_of (page_test new) ≡ None)) (new ≡ at)
followed l bytes j left at new before parts r s h f =
    let P : Bool → Type 0 = λ b. cond b ((new ≡ qword l.window at) × (fault_of (page_test new) ≡ None)) (new ≡ at) in
    subst P (jump-is l bytes j left at before parts r s h) f

-- the walk then reads entry j
pub new-is : (l : PageList) (bytes j left at new : ℕ) (before parts : List Piece)
    → Reached l bytes j left at before parts → IsShort l → j < l.pages
    → Follows l.window at (nat_lt (j + 1) l.pages) new → new ≡ slot l j
new-is l bytes j left at new before parts r s h f =
    let g = followed l bytes j left at new before parts r s h f in
    ⊎_elim {C = new ≡ slot l j}
    (λ (t : jumps l j ≡ true).
    let k = rw t at g in
    let places = jumped l bytes j left at before parts r s t in
    k.0 ∙ places.0 ∙ places.1)
    (λ (t : jumps l j ≡ false).
    let k = rw t at g in
    k ∙ stayed l bytes j left at before parts r s h t)
    (cases_Bool (jumps l j))

-- of the tests of entry j, only the one of its page remains
pub head-tested : (l : PageList) (bytes j left at new : ℕ) (before parts : List Piece) (more : List AddressTest)
    → Reached l bytes j left at before parts
    → IsShort l → j < l.pages → Follows l.window at (nat_lt (j + 1) l.pages) new
    → first_fault (entry_tests l j ++ more) ≡ or_else (fault_of (page_test (listed l j))) (first_fault more)
unfolding entry_tests first_fault
head-tested l bytes j left at new before parts more r s h f =
    let g = followed l bytes j left at new before parts r s h f in
    ⊎_elim {C = first_fault (entry_tests l j ++ more) ≡ or_else (fault_of (page_test (listed l j))) (first_fault more)}
    (λ (t : jumps l j ≡ true).
    let k = rw t at g in
    let places = jumped l bytes j left at before parts r s t in
    let same : fault_of (page_test (next l)) ≡ None = ap (λ a. fault_of (page_test a)) (sym (k.0 ∙ places.0)) ∙ k.1 in
    rw (t, same) refl)
    (λ (t : jumps l j ≡ false). rw (t) refl)
    (cases_Bool (jumps l j))

range-next : (j n : ℕ) → j < n → range_with_len j (n - j) ≡ j ∷ range_with_len (j + 1) (n - (j + 1))
range-next j n h = let e : n - j ≡ suc (n - (j + 1)) = omega arith in rw e refl

pub turn-tested : (l : PageList) (bytes j left at new : ℕ) (before parts : List Piece)
    → Reached l bytes j left at before parts
    → IsShort l → j < l.pages → Follows l.window at (nat_lt (j + 1) l.pages) new
    → first_fault (list_tests l) ≡ or_else (fault_of (page_test (listed l j)))
    (first_fault (flat_map (entry_tests l) (range_with_len (j + 1) (l.pages - (j + 1)))))
turn-tested l bytes j left at new before parts r s h f =
    r.tested ∙ ap (λ js. first_fault (flat_map (entry_tests l) js)) (range-next j l.pages h)
    ∙ head-tested l bytes j left at new before parts
    (flat_map (entry_tests l) (range_with_len (j + 1) (l.pages - (j + 1)))) r s h f

-- slots before the last one of the first page, and slots of the second page
slot-near : (l : PageList) (j : ℕ) → j + 1 < slots l → slot l j ≡ l.start + 8 * j
unfolding slot
slot-near l j h = let f : (goes_on l && nat_le (slots l - 1) j) ≡ false =
    and_right _ _ (lt-leb (slots l - 1) j (omega arith)) in rw (f) refl

slot-far : (l : PageList) (j : ℕ) → slots l ≤ j + 1 → slots l < l.pages → slot l j ≡ next l + 8 * (j - (slots l - 1))
unfolding slot
slot-far l j h m =
    let more : goes_on l ≡ true = lt-ltb _ _ m in
    let behind : nat_le (slots l - 1) j ≡ true = le-leb _ _ (omega arith) in
    rw (more, behind) refl

-- if the walk enters a second page, it is one
next-sound : (l : PageList) (bytes j left at new : ℕ) (before parts : List Piece)
    → Reached l bytes j left at before parts
    → IsShort l → j < l.pages → Follows l.window at (nat_lt (j + 1) l.pages) new → slots l ≤ j + 1 → j + 1 < l.pages
    → (next l % 4096 ≡ 0) × (next l < 4194304)
next-sound l bytes j left at new before parts r s h f le more =
    ⊎_elim {C = (next l % 4096 ≡ 0) × (next l < 4194304)}
    (λ (near : j < slots l).
    let t : jumps l j ≡ true =
    and_from _ _ (lt-ltb (slots l) l.pages (omega arith)) (eq-eqb j (slots l - 1) (omega arith)) in
    let k = rw t at (followed l bytes j left at new before parts r s h f) in
    let places = jumped l bytes j left at before parts r s t in
    sound (page_test (next l)) (ap (λ a. fault_of (page_test a)) (sym (k.0 ∙ places.0)) ∙ k.1))
    (λ (far : slots l ≤ j). (r.far_aligned far h, r.far_in_window far h))
    (cases_lt j (slots l))

pub turn : (l : PageList) (bytes j left at new : ℕ) (before parts : List Piece) → Reached l bytes j left at before parts
    → IsShort l → j < l.pages → Follows l.window at (nat_lt (j + 1) l.pages) new
    → fault_of (page_test (qword l.window new)) ≡ None → Reached l bytes (j + 1) (left - min left 4096) (new + 8) before
    (parts ++ record { address = qword l.window new; len = min left 4096 } ∷ [])
turn l bytes j left at new before parts r s h f ok =
    let place = new-is l bytes j left at new before parts r s h f in
    let page : qword l.window new ≡ listed l j = ap (qword l.window) place in
    let rest = r.rest in
    let none : fault_of (page_test (listed l j)) ≡ None = ap (λ a. fault_of (page_test a)) (sym page) ∙ ok in
    record {
      within = omega arith;
      rest = omega arith;
      near = λ near. let e = slot-near l j near in omega arith;
      far = λ far more. let e = slot-far l j far (omega arith) in let aligned = s.aligned in omega arith;
      far_aligned = λ far more. (next-sound l bytes j left at new before parts r s h f far more).0;
      far_in_window = λ far more. (next-sound l bytes j left at new before parts r s h f far more).1;
      tested = turn-tested l bytes j left at new before parts r s h f ∙ ap
          (λ o. or_else o (first_fault (flat_map (entry_tests l) (range_with_len (j + 1) (l.pages - (j + 1)))))) none;
      found =
          let piece : Piece = record { address = qword l.window new; len = min left 4096 } in
          let same : piece ≡ listed_piece l bytes j = cc in
          ap (λ ps. ps ++ piece ∷ []) r.found
          ∙ append_assoc before (map (listed_piece l bytes) (range_with_len 0 j)) (piece ∷ [])
          ∙ ap (λ ps. before ++ ps) (ap (λ p. map (listed_piece l bytes) (range_with_len 0 j) ++ p ∷ []) same
          ∙ sym (map-range_with_len_more (listed_piece l bytes) 0 j j (omega arith)));
    }

pub found-length : (l : PageList) (bytes j left at : ℕ) (before parts : List Piece)
    → Reached l bytes j left at before parts → length parts ≡ length before + j
found-length l bytes j left at before parts r =
    ap length r.found ∙ length-append before (map (listed_piece l bytes) (range_with_len 0 j))
    ∙ ap (λ n. length before + n) (length-map-range_with_len (listed_piece l bytes) 0 j)

-- a fault in the entry's page is the first
pub page-fault : (l : PageList) (bytes j left at new : ℕ) (before parts : List Piece) (e : DataFault)
    → Reached l bytes j left at before parts → IsShort l → j < l.pages
    → Follows l.window at (nat_lt (j + 1) l.pages) new → fault_of (page_test (qword l.window new)) ≡ Some e
    → first_fault (list_tests l) ≡ Some e
page-fault l bytes j left at new before parts e r s h f fault =
    let place = new-is l bytes j left at new before parts r s h f in
    let same : fault_of (page_test (listed l j)) ≡ Some e =
    ap (λ a. fault_of (page_test (qword l.window a))) (sym place) ∙ fault in
    turn-tested l bytes j left at new before parts r s h f
    ∙ ap (λ o. or_else o (first_fault (flat_map (entry_tests l) (range_with_len (j + 1) (l.pages - (j + 1)))))) same

-- a fault in the second page of the list is the first
pub next-fault : (l : PageList) (bytes j left at : ℕ) (before parts : List Piece) (e : DataFault)
    → Reached l bytes j left at before parts → IsShort l → j < l.pages → j + 1 < l.pages → at % 4096 ≡ 4088
    → fault_of (page_test (qword l.window at)) ≡ Some e → first_fault (list_tests l) ≡ Some e
unfolding entry_tests first_fault
next-fault l bytes j left at before parts e r s h more end fault =
    let t : jumps l j ≡ true =
    sym (jump-is l bytes j left at before parts r s h) ∙ and_from _ _ (lt-ltb _ _ more) (eq-eqb _ _ end) in
    let places = jumped l bytes j left at before parts r s t in
    let same : fault_of (page_test (next l)) ≡ Some e = ap (λ a. fault_of (page_test a)) (sym places.0) ∙ fault in
    r.tested ∙ ap (λ js. first_fault (flat_map (entry_tests l) js)) (range-next j l.pages h) ∙ rw (t, same) refl
