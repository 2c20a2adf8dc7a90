-- For the law `pointers` and the answer of `place`: a pointer to adjacent pages is contiguous, and so is that of each
-- slot.
use Rattle.std.proofs.Common.{
  ◌≡◌,
  ℕ,
  zero,
  suc,
  ◌+◌,
  ◌-◌,
  ◌*◌,
  ◌/◌,
  ◌%◌,
  ◌<◌,
  ◌≤◌,
  ◌&&◌,
  List,
  [],
  ◌∷◌,
  ◌++◌,
  length,
  take,
  drop,
  nat_eq,
  nat_lt,
  nat_le,
  true,
  false,
  refl,
  sym,
  ap,
  ◌∙◌,
  arith,
  append_assoc,
  None,
  ⊎_elim,
}
use Rattle.std.specs.List.{flat_map, range_with_len}
use Rattle.std.proofs.lemmas.Bool.{cases_lt, eq-eqb, ne_eqb, lt-ltb, le-ltb, le-leb, lt-leb, cond-true, cond-false}
use Rattle.nvme_spec.specs.Memory.{qword}
use Rattle.nvme_spec.specs.Pointer.{
  AddressTest,
  fault_of,
  first_fault,
  or_else,
  page_test,
  PageList,
  listed,
  slot,
  goes_on,
  slots,
  entry_tests,
  Transfer,
  room,
  further_pages,
  further_tests,
  list,
  page,
  address,
}
use Rattle.nvme_spec.specs.Transfers.{addresses, pieces_of, gathered_bytes, with_scattered}
use Rattle.nvme_spec.proofs.PagesJoined.{counts, address-near, joined}
use Rattle.nvme_spec.proofs.Runs.{gathered_bytes-run, with_scattered-run, take-range}
use Rattle.nvme_driver.specs.Layout.{list_page, data_area}
use Rattle.nvme_driver.specs.Pointers.{
  pages_behind,
  second_entry,
  page_entries,
  HasList,
  slot_transfer,
  IsContiguous,
  IsRequest,
  SlotsAreContiguous,
  SlotsMoveOneRun,
}
use Rattle.nvme_driver.proofs.PageEntries.{entry-at, qword-entry}

-- an address without a fault
fault-none : (test : AddressTest) → test.address % test.unit ≡ 0 → test.address < 4194304 → fault_of test ≡ None
unfolding fault_of
fault-none test aligned inside =
    let a : nat_eq (test.address % test.unit) 0 ≡ true = eq-eqb _ _ aligned in
    let b : nat_lt test.address 4194304 ≡ true = lt-ltb _ _ inside in
    rw (a, b) refl

-- a list on one page has all its entries from its first slot
slot-flat : (l : PageList) (j : ℕ) → goes_on l ≡ false → slot l j ≡ l.start + 8 * j
unfolding slot
slot-flat l j flat = cond-false _ _ _ (ap (λ b. b && nat_le (slots l - 1) j) flat)

entries-sound : (l : PageList) (n j : ℕ)
    → goes_on l ≡ false → ((i : ℕ) → i < j + n → fault_of (page_test (listed l i)) ≡ None)
    → first_fault (flat_map (entry_tests l) (range_with_len j n)) ≡ None
unfolding first_fault entry_tests
entries-sound l zero j flat sound = refl
entries-sound l (suc n) j flat sound =
    let one : entry_tests l j ≡ page_test (listed l j) ∷ [] =
    cond-false _ _ _ (ap (λ b. b && nat_eq j (slots l - 1)) flat) in
    ap (λ xs. first_fault (xs ++ flat_map (entry_tests l) (range_with_len (j + 1) n))) one
    ∙ ap (λ f. or_else f (first_fault (flat_map (entry_tests l) (range_with_len (j + 1) n)))) (sound j (omega arith))
    ∙ entries-sound l n (j + 1) flat (λ i lt. sound i (omega (arith, lt)))

-- A transfer to adjacent pages, from the start of the first.
record InARow (t : Transfer) : Type 0 where
  aligned : t.prp1 % 4096 ≡ 0
  some : 1 ≤ t.bytes
  inside : t.prp1 + t.bytes ≤ 4194304
  pages : (j : ℕ) → j < further_pages t → page t j ≡ t.prp1 + 4096 * (j + 1)
  slot_aligned : 1 < further_pages t → t.prp2 % 8 ≡ 0
  slot_inside : 1 < further_pages t → t.prp2 < 4194304
  flat : 1 < further_pages t → goes_on (list t) ≡ false

page-one : (t : Transfer) (j : ℕ) → further_pages t ≡ 1 → page t j ≡ t.prp2
page-one t j one = cond-true _ _ _ (eq-eqb _ _ one)

page-listed : (t : Transfer) (j : ℕ) → 1 < further_pages t → page t j ≡ listed (list t) j
page-listed t j several = cond-false _ _ _ (ne_eqb (further_pages t) 1 (λ one. omega (arith, one)))

page-sound : (t : Transfer) (j : ℕ) → InARow t → j < further_pages t → fault_of (page_test (page t j)) ≡ None
page-sound t j r h =
    let aligned = r.aligned in
    let inside = r.inside in
    let here = r.pages j h in
    fault-none (page_test (page t j)) (omega arith) (omega arith)

further-sound : (t : Transfer) (m : ℕ) → InARow t → further_pages t ≡ m → first_fault (further_tests t m) ≡ None
unfolding first_fault
further-sound t zero r e = refl
further-sound t (suc zero) r e =
    let same = page-one t 0 e in
    ap (λ f. or_else f None) (ap (λ a. fault_of (page_test a)) (sym same) ∙ page-sound t 0 r (omega arith))
further-sound t (suc (suc m)) r e =
    let several : 1 < further_pages t = omega arith in
    ap (λ f. or_else f (first_fault (flat_map (entry_tests (list t)) (range_with_len 0 (suc (suc m))))))
    (fault-none (record { address = t.prp2; unit = 8 }) (r.slot_aligned several) (r.slot_inside several))
    ∙ entries-sound (list t) (suc (suc m)) 0 (r.flat several)
    (λ i lt. ap (λ a. fault_of (page_test a)) (sym (page-listed t i several)) ∙ page-sound t i r (omega (arith, lt)))

address-far : (t : Transfer) (k : ℕ) → InARow t → k < t.bytes → room t.prp1 ≤ k → address t k ≡ t.prp1 + k
address-far t k r h far =
    let aligned = r.aligned in
    let j : ℕ = (k - room t.prp1) / 4096 in
    let here = r.pages j (omega arith) in
    cond-false _ _ _ (le-ltb _ _ far) ∙ omega arith

is-contiguous : (t : Transfer) → InARow t → IsContiguous t
unfolding first_fault
is-contiguous t r =
    let aligned = r.aligned in
    let some = r.some in
    let inside = r.inside in
    record {
      sound =
          ap (λ f. or_else f (first_fault (further_tests t (further_pages t))))
          (fault-none (record { address = t.prp1; unit = 4 }) (omega arith) (omega arith))
          ∙ further-sound t (further_pages t) r refl;
      places = λ k h.
          ⊎_elim {C = address t k ≡ t.prp1 + k}
          (λ (near : k < room t.prp1). address-near t k near)
          (λ (far : room t.prp1 ≤ k). address-far t k r h far)
          (cases_lt k (room t.prp1));
    }

-- the pages of a request after the first
behind : (window : List ℕ) (s bytes : ℕ) → further_pages (slot_transfer window s bytes) ≡ pages_behind bytes
behind window s bytes = omega arith

row-short : (window : List ℕ) (s bytes : ℕ) → IsRequest window s bytes → bytes ≤ 4096
    → InARow (slot_transfer window s bytes)
row-short window s bytes r short =
    let some = r.some in
    let fits = r.slot_fits in
    let none = behind window s bytes in
    record {
      aligned = omega arith;
      some = some;
      inside = omega arith;
      pages = λ j h. absurd (omega (arith, h));
      slot_aligned = λ h. absurd (omega (arith, h));
      slot_inside = λ h. absurd (omega (arith, h));
      flat = λ h. absurd (omega (arith, h));
    }

row-two : (window : List ℕ) (s bytes : ℕ) → IsRequest window s bytes → 4096 < bytes → bytes ≤ 8192
    → InARow (slot_transfer window s bytes)
row-two window s bytes r more short =
    let some = r.some in
    let fits = r.slot_fits in
    let one = behind window s bytes in
    let second : second_entry s bytes ≡ data_area s + 4096 =
    cond-false _ _ _ (lt-leb bytes 4096 more) ∙ cond-true _ _ _ (le-leb bytes 8192 short) in
    record {
      aligned = omega arith;
      some = some;
      inside = omega arith;
      pages = λ j h. page-one (slot_transfer window s bytes) j (omega arith) ∙ second ∙ omega (arith, h);
      slot_aligned = λ h. absurd (omega (arith, h));
      slot_inside = λ h. absurd (omega (arith, h));
      flat = λ h. absurd (omega (arith, h));
    }

row-long : (window : List ℕ) (s bytes : ℕ) → IsRequest window s bytes → 8192 < bytes → HasList window s bytes
    → InARow (slot_transfer window s bytes)
row-long window s bytes r long has =
    let some = r.some in
    let fits = r.slot_fits in
    let most = r.most in
    let count = behind window s bytes in
    let t : Transfer = slot_transfer window s bytes in
    let second : second_entry s bytes ≡ list_page s =
    cond-false _ _ _ (lt-leb bytes 4096 (omega arith)) ∙ cond-false _ _ _ (lt-leb bytes 8192 long) in
    let several : 1 < further_pages t = omega arith in
    let flat : goes_on (list t) ≡ false = le-ltb _ _ (omega arith) in
    let width : list_page s + 8 * pages_behind bytes - list_page s ≡ 8 * pages_behind bytes = omega arith in
    let content : take (8 * pages_behind bytes) (drop (list_page s) window) ≡ page_entries (data_area s + 4096)
    (pages_behind bytes) =
    ap (λ k. take k (drop (list_page s) window)) (sym width) ∙ has long in
    record {
      aligned = omega arith;
      some = some;
      inside = omega arith;
      pages = λ j h.
          page-listed t j several ∙ ap (qword window) (slot-flat (list t) j flat ∙ ap (λ a. a + 8 * j) second)
          ∙ qword-entry window (list_page s + 8 * j) (data_area s + 4096 + 4096 * j) (omega (arith, h))
          (entry-at window (list_page s) (pages_behind bytes) (data_area s + 4096) j content (omega (arith, h)))
          ∙ omega arith;
      slot_aligned = λ h. omega arith;
      slot_inside = λ h. omega arith;
      flat = λ h. flat;
    }

in-a-row : (window : List ℕ) (s bytes : ℕ) → IsRequest window s bytes → HasList window s bytes
    → InARow (slot_transfer window s bytes)
in-a-row window s bytes r has =
    ⊎_elim {C = InARow (slot_transfer window s bytes)}
    (λ (more : 4096 < bytes).
    ⊎_elim {C = InARow (slot_transfer window s bytes)}
    (λ (long : 8192 < bytes). row-long window s bytes r long has)
    (λ (two : bytes ≤ 8192). row-two window s bytes r more two)
    (cases_lt 8192 bytes))
    (λ (short : bytes ≤ 4096). row-short window s bytes r short)
    (cases_lt 4096 bytes)

pub slots_are_contiguous : SlotsAreContiguous
slots_are_contiguous window s bytes r has = is-contiguous (slot_transfer window s bytes) (in-a-row window s bytes r has)

pub slots_move_one_run : SlotsMoveOneRun
slots_move_one_run window slot bytes r has =
    let t : Transfer = slot_transfer window slot bytes in
    let c = slots_are_contiguous window slot bytes r has in
    let whole = r.whole in
    let fits = r.slot_fits in
    let most = r.most in
    let places : addresses (pieces_of t) ≡ range_with_len (data_area slot) bytes =
    joined t ∙ counts (address t) (data_area slot) 0 bytes (λ k lt. ap (address t) (omega arith) ∙ c.places k lt) in
    let width : data_area slot + bytes - data_area slot ≡ bytes = omega arith in
    record {
      run = places;
      gathering = ap (gathered_bytes window) places ∙ gathered_bytes-run window (data_area slot) bytes (omega arith)
          ∙ ap (λ k. take k (drop (data_area slot) window)) (sym width);
      scattering = λ read few.
          ap (λ xs. with_scattered window (take (length read) xs) read) places
          ∙ ap (λ xs. with_scattered window xs read) (take-range (length read) (data_area slot) bytes few)
          ∙ with_scattered-run window (data_area slot) (length read) read refl (omega (arith, few))
          ∙ sym (append_assoc (take (data_area slot) window) read (drop (data_area slot + length read) window));
    }
