-- For the laws `EntriesReachTheData` and `NothingBeyond`: a pointer to adjacent bytes, from a multiple of four.
use Rattle.std.proofs.Common.{
  ◌≡◌,
  ◌⊎◌,
  ℕ,
  zero,
  suc,
  ◌+◌,
  ◌-◌,
  ◌*◌,
  ◌/◌,
  ◌%◌,
  ◌<◌,
  ◌≤◌,
  ◌&&◌,
  List,
  [],
  ◌∷◌,
  ◌++◌,
  nat_eq,
  nat_le,
  true,
  false,
  refl,
  sym,
  ap,
  ◌∙◌,
  arith,
  None,
  ⊎_elim,
  subst,
  Bool,
  inl,
  inr,
}
use Rattle.std.specs.List.{flat_map, range_with_len}
use Rattle.std.proofs.lemmas.Bool.{cases_lt, eq-eqb, ne_eqb, lt-ltb, le-ltb, le-leb, lt-leb, cond-true, cond-false}
use Rattle.nvme_spec.specs.Memory.{qword}
use Rattle.nvme_spec.specs.Pointer.{
  AddressTest,
  fault_of,
  first_fault,
  or_else,
  page_test,
  PageList,
  listed,
  slot,
  goes_on,
  slots,
  entry_tests,
  Transfer,
  transfer,
  room,
  further_pages,
  further_tests,
  list,
  page,
  pointer_fault,
  address,
}
use Rattle.nvme_spec.proofs.PagesJoined.{counts, address-near, joined}
use Rattle.nvme_data_buffers.specs.Buffers.{capacity, end_of, start, second_entry, prps, first_listed, HasList}
use Rattle.nvme_data_buffers.specs.Laws.{by, IsWithin, Reaches, EntriesReachTheData, NothingBeyond}
use Rattle.nvme_data_buffers.specs.declared.buffer.DataBuffer.{DataBuffer}
use Rattle.nvme_data_buffers.specs.declared.buffer.DataBuffer.TheVariants.{AtOnce, Held}
use Rattle.nvme_data_buffers.proofs.Listed.{listed-page}

-- an address without a fault
fault-none : (test : AddressTest) → test.address % test.unit ≡ 0 → test.address < 4194304 → fault_of test ≡ None
unfolding fault_of
fault-none test aligned inside =
    cond-true _ _ _ (eq-eqb _ _ aligned) ∙ cond-true _ _ _ (lt-ltb _ _ inside)

-- a list on one page has all its entries from its first slot
slot-flat : (l : PageList) (j : ℕ) → goes_on l ≡ false → slot l j ≡ l.start + 8 * j
unfolding slot
slot-flat l j flat = cond-false _ _ _ (ap (λ b. b && nat_le (slots l - 1) j) flat)

entries-sound : (l : PageList) (n j : ℕ)
    → goes_on l ≡ false → ((i : ℕ) → i < j + n → fault_of (page_test (listed l i)) ≡ None)
    → first_fault (flat_map (entry_tests l) (range_with_len j n)) ≡ None
unfolding first_fault entry_tests
entries-sound l zero j flat sound = refl
entries-sound l (suc n) j flat sound =
    let later : List AddressTest = flat_map (entry_tests l) (range_with_len (j + 1) n) in
    let one : entry_tests l j ≡ page_test (listed l j) ∷ [] =
    cond-false _ _ _ (ap (λ b. b && nat_eq j (slots l - 1)) flat) in
    ap (λ xs. first_fault (xs ++ later)) one ∙ ap (λ f. or_else f (first_fault later)) (sound j (omega arith))
    ∙ entries-sound l n (j + 1) flat (λ i lt. sound i (omega (arith, lt)))

-- A transfer of adjacent bytes: its further pages follow its first.
record InARow (t : Transfer) : Type 0 where
  aligned : t.prp1 % 4 ≡ 0
  some : 1 ≤ t.bytes
  inside : t.prp1 + t.bytes ≤ 4194304
  pages : (j : ℕ) → j < further_pages t → page t j ≡ t.prp1 + room t.prp1 + 4096 * j
  slot_aligned : 1 < further_pages t → t.prp2 % 8 ≡ 0
  slot_inside : 1 < further_pages t → t.prp2 < 4194304
  flat : 1 < further_pages t → goes_on (list t) ≡ false

page-one : (t : Transfer) (j : ℕ) → further_pages t ≡ 1 → page t j ≡ t.prp2
page-one t j one = cond-true _ _ _ (eq-eqb _ _ one)

page-listed : (t : Transfer) (j : ℕ) → 1 < further_pages t → page t j ≡ listed (list t) j
page-listed t j several = cond-false _ _ _ (ne_eqb (further_pages t) 1 (λ one. omega (arith, one)))

page-sound : (t : Transfer) (j : ℕ) → InARow t → j < further_pages t → fault_of (page_test (page t j)) ≡ None
page-sound t j r h =
    let inside = r.inside in
    let here = r.pages j h in
    fault-none (page_test (page t j)) (omega arith) (omega arith)

further-sound : (t : Transfer) (m : ℕ) → InARow t → further_pages t ≡ m → first_fault (further_tests t m) ≡ None
unfolding first_fault
further-sound t zero r e = refl
further-sound t (suc zero) r e =
    ap (λ f. or_else f None)
    (ap (λ a. fault_of (page_test a)) (sym (page-one t 0 e)) ∙ page-sound t 0 r (omega arith))
further-sound t (suc (suc m)) r e =
    let several : 1 < further_pages t = omega arith in
    ap (λ f. or_else f (first_fault (flat_map (entry_tests (list t)) (range_with_len 0 (suc (suc m))))))
    (fault-none (record { address = t.prp2; unit = 8 }) (r.slot_aligned several) (r.slot_inside several))
    ∙ entries-sound (list t) (suc (suc m)) 0 (r.flat several)
    (λ i lt. ap (λ a. fault_of (page_test a)) (sym (page-listed t i several)) ∙ page-sound t i r (omega (arith, lt)))

address-far : (t : Transfer) (k : ℕ) → InARow t → k < t.bytes → room t.prp1 ≤ k → address t k ≡ t.prp1 + k
address-far t k r h far =
    let j : ℕ = (k - room t.prp1) / 4096 in
    let here = r.pages j (omega arith) in
    cond-false _ _ _ (le-ltb _ _ far) ∙ omega arith

address-at : (t : Transfer) (k : ℕ) → InARow t → k < t.bytes → address t k ≡ t.prp1 + k
address-at t k r h =
    ⊎_elim {C = address t k ≡ t.prp1 + k}
    (λ (near : k < room t.prp1). address-near t k near)
    (λ (far : room t.prp1 ≤ k). address-far t k r h far)
    (cases_lt k (room t.prp1))

reaches : (t : Transfer) → InARow t → Reaches t t.prp1
unfolding first_fault
reaches t r =
    let some = r.some in
    let inside = r.inside in
    record {
      sound =
          ap (λ f. or_else f (first_fault (further_tests t (further_pages t))))
          (fault-none (record { address = t.prp1; unit = 4 }) r.aligned (omega arith))
          ∙ further-sound t (further_pages t) r refl;
      places =
          joined t
          ∙ counts (address t) t.prp1 0 t.bytes (λ k lt. ap (address t) (omega arith) ∙ address-at t k r lt);
    }

-- Data of a buffer: only that at the end of the window has more than two pages.
record Lies (first bytes : ℕ) : Type 0 where
  aligned : first % 4 ≡ 0
  some : 1 ≤ bytes
  inside : first + bytes ≤ 4194304
  listed : room first + 4096 < bytes → 4063232 ≤ first

held-lies : (n size bytes : ℕ) → n < 16 → size ≤ 8192 → 1 ≤ bytes → bytes ≤ size
    → Lies (4194304 - 131072 - 8192 * n - (size + 3) / 4 * 4) bytes
held-lies n size bytes few fit some enough = record {
  aligned = omega arith;
  some = some;
  inside = omega arith;
  listed = λ more. absurd (omega (arith, more));
}

at-once-lies : (size bytes : ℕ) → size ≤ 131072 → 1 ≤ bytes → bytes ≤ size
    → Lies (4194304 - (size + 3) / 4 * 4) bytes
at-once-lies size bytes fit some enough =
    record { aligned = omega arith; some = some; inside = omega arith; listed = λ more. omega arith }

lies : (b : DataBuffer) (size bytes : ℕ) → IsWithin b size bytes → Lies (start b size) bytes
lies AtOnce size bytes w =
    let here : start AtOnce size ≡ 4194304 - (size + 3) / 4 * 4 = cond-true _ _ _ (le-leb size 131072 w.fit) in
    subst (λ a. Lies a bytes) (sym here) (at-once-lies size bytes w.fit w.some w.enough)
lies (Held n) size bytes w =
    ⊎_elim {C = Lies (start (Held n) size) bytes}
    (λ (few : n < 16).
    let room : capacity (Held n) ≡ 8192 = cond-true _ _ _ (lt-ltb n 16 few) in
    let fit = w.fit in
    let end : end_of (Held n) ≡ 4194304 - 131072 - 8192 * n = cond-true _ _ _ (lt-ltb n 16 few) in
    let here : start (Held n) size ≡ 4194304 - 131072 - 8192 * n - (size + 3) / 4 * 4 =
    cond-true _ _ _ (le-leb size (capacity (Held n)) fit) ∙ ap (λ e. e - (size + 3) / 4 * 4) end in
    subst (λ a. Lies a bytes) (sym here) (held-lies n size bytes few (omega (arith, room, fit)) w.some w.enough))
    (λ (many : 16 ≤ n).
    let none : capacity (Held n) ≡ 0 = cond-false _ _ _ (le-ltb n 16 many) in
    let fit = w.fit in
    let some = w.some in
    let enough = w.enough in
    absurd (omega (arith, none, fit, some, enough)))
    (cases_lt n 16)

-- by the number of further pages
row-near : (window : List ℕ) (first bytes : ℕ) → Lies first bytes → bytes ≤ room first
    → InARow (transfer window first (second_entry first bytes) bytes)
row-near window first bytes l near = record {
  aligned = l.aligned;
  some = l.some;
  inside = l.inside;
  pages = λ j h. absurd (omega (arith, h, near));
  slot_aligned = λ h. absurd (omega (arith, h, near));
  slot_inside = λ h. absurd (omega (arith, h, near));
  flat = λ h. absurd (omega (arith, h, near));
}

row-two : (window : List ℕ) (first bytes : ℕ) → Lies first bytes → room first < bytes → bytes ≤ room first + 4096
    → InARow (transfer window first (second_entry first bytes) bytes)
row-two window first bytes l more near =
    let t : Transfer = transfer window first (second_entry first bytes) bytes in
    let second : second_entry first bytes ≡ first + room first =
    cond-false _ _ _ (lt-leb bytes (room first) more) ∙ cond-true _ _ _ (le-leb bytes (room first + 4096) near) in
    record {
      aligned = l.aligned;
      some = l.some;
      inside = l.inside;
      pages = λ j h. page-one t j (omega (arith, more, near)) ∙ second ∙ omega (arith, h, near);
      slot_aligned = λ h. absurd (omega (arith, h, near));
      slot_inside = λ h. absurd (omega (arith, h, near));
      flat = λ h. absurd (omega (arith, h, near));
    }

row-long : (window : List ℕ) (first bytes : ℕ) → Lies first bytes → HasList window → room first + 4096 < bytes
    → InARow (transfer window first (second_entry first bytes) bytes)
row-long window first bytes l has long =
    let t : Transfer = transfer window first (second_entry first bytes) bytes in
    let inside = l.inside in
    let listed-from = l.listed long in
    let i : ℕ = (first + room first - first_listed) / 4096 in
    let second : second_entry first bytes ≡ 65536 + 8 * i =
    cond-false _ _ _ (lt-leb bytes (room first) (omega (arith, long)))
    ∙ cond-false _ _ _ (lt-leb bytes (room first + 4096) long) in
    let flat : goes_on (list t) ≡ false = le-ltb _ _ (omega (arith, inside, listed-from, second)) in
    record {
      aligned = l.aligned;
      some = l.some;
      inside = inside;
      pages = λ j h.
          page-listed t j (omega (arith, long))
          ∙ ap (qword window) (slot-flat (list t) j flat ∙ ap (λ a. a + 8 * j) second ∙ omega arith)
          ∙ listed-page window 65536 (i + j) has (omega (arith, h, inside, listed-from))
          ∙ omega (arith, listed-from);
      slot_aligned = λ h. omega (arith, second);
      slot_inside = λ h. omega (arith, second, inside);
      flat = λ h. flat;
    }

in-a-row : (window : List ℕ) (first bytes : ℕ) → Lies first bytes → HasList window
    → InARow (transfer window first (second_entry first bytes) bytes)
in-a-row window first bytes l has =
    ⊎_elim {C = InARow (transfer window first (second_entry first bytes) bytes)}
    (λ (more : room first < bytes).
    ⊎_elim {C = InARow (transfer window first (second_entry first bytes) bytes)}
    (λ (long : room first + 4096 < bytes). row-long window first bytes l has long)
    (λ (two : bytes ≤ room first + 4096). row-two window first bytes l more two)
    (cases_lt (room first + 4096) bytes))
    (λ (near : bytes ≤ room first). row-near window first bytes l near)
    (cases_lt (room first) bytes)

pub entries-reach : EntriesReachTheData
entries-reach window b size bytes has w =
    let p : prps b size bytes ≡ record { first = start b size; second = second_entry (start b size) bytes } =
    cond-true _ _ _ (ap (λ x. x && nat_le size (capacity b)) (le-leb bytes size w.enough)
    ∙ le-leb size (capacity b) w.fit)
    in
    subst (λ q. Reaches (by window q bytes) (start b size)) (sym p)
    (reaches _ (in-a-row window (start b size) bytes (lies b size bytes w) has))

-- the entries of a command that moves more
none-fits : (b : DataBuffer) (size bytes : ℕ) → (size < bytes) ⊎ (capacity b < size)
    → (nat_le bytes size && nat_le size (capacity b)) ≡ false
none-fits b size bytes (inl more) = ap (λ x. x && nat_le size (capacity b)) (lt-leb bytes size more)
none-fits b size bytes (inr long) = by-first (nat_le bytes size) where
  by-first : (x : Bool) → (x && nat_le size (capacity b)) ≡ false
  by-first true = lt-leb size (capacity b) long
  by-first false = refl

pub nothing-beyond : NothingBeyond
unfolding fault_of first_fault
nothing-beyond window b size bytes h =
    let p : prps b size bytes ≡ record { first = 4194304; second = 4194304 } =
    cond-false _ _ _ (none-fits b size bytes h) in
    ap (λ q. pointer_fault (by window q bytes)) p
