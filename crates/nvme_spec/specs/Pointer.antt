-- The addresses of a transfer's bytes, by the two PRP entries of a command (Base Specification 2.0, Physical Region
-- Page Entry and List). Pages have 4,096 bytes.
use Rattle.std.specs.Prelude.{
  ℕ,
  zero,
  suc,
  ◌+◌,
  ◌-◌,
  ◌*◌,
  ◌/◌,
  ◌%◌,
  List,
  [],
  ◌∷◌,
  Bool,
  ◌&&◌,
  Option,
  Some,
  None,
  nat_lt,
  nat_le,
  ◌==◌,
  if◌then◌else◌,
}
use Rattle.std.specs.List.{flat_map, range_with_len}
use Rattle.nvme_spec.specs.Memory.{window_size, qword}
use Rattle.nvme_spec.specs.declared.pointer.DataFault.{DataFault}
use Rattle.nvme_spec.specs.declared.pointer.DataFault.TheVariants.{Offset, Outside}

-- the bytes from an address to the end of its page
abbrev pub room : ℕ → ℕ
room address = 4096 - address % 4096

-- An address must be a multiple of a unit, and in the window.
pub record AddressTest : Type 0 where
  pub address : ℕ
  pub unit : ℕ

unfoldable pub fault_of : AddressTest → Option DataFault
fault_of test =
    if test.address % test.unit == 0
    then (if nat_lt test.address window_size then None else Some Outside)
    else Some Offset

abbrev pub or_else : Option DataFault → Option DataFault → Option DataFault
or_else None later = later
or_else (Some fault) later = Some fault

-- the fault of the first test that fails
unfoldable pub first_fault : List AddressTest → Option DataFault
first_fault [] = None
first_fault (test ∷ later) = or_else (fault_of test) (first_fault later)

abbrev pub page_test : ℕ → AddressTest
page_test address = record { address = address; unit = 4096 }

-- A PRP List: `pages` entries of eight bytes, the first at `start`.
pub record PageList : Type 0 where
  pub window : List ℕ
  pub start : ℕ
  pub pages : ℕ

-- the number of slots from there to the end of the page
abbrev pub slots : PageList → ℕ
slots l = room l.start / 8

-- whether it continues on a second page: it has more entries than slots on the first
abbrev pub goes_on : PageList → Bool
goes_on l = nat_lt (slots l) l.pages

-- the address of the second page, in the last slot of the first
abbrev pub next : PageList → ℕ
next l = qword l.window (l.start + 8 * (slots l - 1))

-- the address of entry j
unfoldable pub slot : PageList → ℕ → ℕ
slot l j = if goes_on l && nat_le (slots l - 1) j then next l + 8 * (j - (slots l - 1)) else l.start + 8 * j

-- the page address in entry j
abbrev pub listed : PageList → ℕ → ℕ
listed l j = qword l.window (slot l j)

-- the tests of entry j; for the first entry on the second page, first the test of that page
unfoldable pub entry_tests : PageList → ℕ → List AddressTest
entry_tests l j =
    if goes_on l && j == slots l - 1
    then page_test (next l) ∷ page_test (listed l j) ∷ []
    else page_test (listed l j) ∷ []

-- A transfer of this many bytes, with a command's two entries.
pub record Transfer : Type 0 where
  pub window : List ℕ
  pub prp1 : ℕ
  pub prp2 : ℕ
  pub bytes : ℕ

abbrev pub transfer : List ℕ → ℕ → ℕ → ℕ → Transfer
transfer window prp1 prp2 bytes = record { window = window; prp1 = prp1; prp2 = prp2; bytes = bytes }

-- the number of pages after the first
abbrev pub further_pages : Transfer → ℕ
further_pages t = (t.bytes - room t.prp1 + 4095) / 4096

-- the list at PRP2, if there are several further pages
abbrev pub list : Transfer → PageList
list t = record { window = t.window; start = t.prp2; pages = further_pages t }

-- the address of further page j: a single one is PRP2 itself, several are listed
abbrev pub page : Transfer → ℕ → ℕ
page t j = if further_pages t == 1 then t.prp2 else listed (list t) j

-- the address of byte k
abbrev pub address : Transfer → ℕ → ℕ
address t k =
    if nat_lt k (room t.prp1)
    then t.prp1 + k
    else page t ((k - room t.prp1) / 4096) + (k - room t.prp1) % 4096

-- the tests of PRP2, by the number of further pages
abbrev pub further_tests : Transfer → ℕ → List AddressTest
further_tests t zero = []
further_tests t (suc zero) = page_test t.prp2 ∷ []
further_tests t (suc (suc n)) =
    record { address = t.prp2; unit = 8 } ∷ flat_map (entry_tests (list t)) (range_with_len 0 (suc (suc n)))

-- all tests, in the order in which a walk reaches their addresses
abbrev pub pointer_tests : Transfer → List AddressTest
pointer_tests t = record { address = t.prp1; unit = 4 } ∷ further_tests t (further_pages t)

-- the first fault of the entries, if there is one
abbrev pub pointer_fault : Transfer → Option DataFault
pointer_fault t = first_fault (pointer_tests t)
