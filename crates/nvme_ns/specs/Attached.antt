-- Tables of attachments, the invariant of `Spaces`: a table has room for each pair of a controller and a namespace
-- once.
use Rattle.std.specs.Prelude.{
  ◌≡◌,
  ℕ,
  ◌+◌,
  ◌-◌,
  ◌*◌,
  ◌==◌,
  ◌&&◌,
  ◌≤◌,
  Bool,
  false,
  List,
  [],
  ◌∷◌,
  map,
  get_or,
  Option,
  None,
  Some,
  Result,
  Ok,
  Err,
}
use Rattle.std.specs.List.{list_any, AllByRecursion, IsDistinct}
use Rattle.nvme_wire.specs.declared.status.Status.{Status}
use Rattle.nvme_spec.specs.Report.{ControllerHost}

-- the identifiers of controllers are at most 16
abbrev pub HasSmallIds : List ControllerHost → Type 0
HasSmallIds controllers = AllByRecursion (λ (k : ControllerHost). k.0 ≤ 16) controllers

-- the identifiers of controllers count from this one
abbrev pub AreNumberedFrom : ℕ → List ControllerHost → Type 0
AreNumberedFrom i [] = Unit {0}
AreNumberedFrom i (k ∷ ks) = (k.0 ≡ i) × AreNumberedFrom (i + 1) ks

-- an attachment of one of 16 controllers and 8 namespaces
abbrev pub IsPair : ℕ × ℕ → Type 0
IsPair a = (1 ≤ a.0) × (a.0 ≤ 16) × (1 ≤ a.1) × (a.1 ≤ 8)

-- the number of such a pair, from 0 to 127
abbrev pub number : ℕ × ℕ → ℕ
number a = 8 * a.0 + a.1 - 9

-- each is such a pair, and none is repeated
abbrev pub IsAttachmentTable : List (ℕ × ℕ) → Type 0
IsAttachmentTable attached = AllByRecursion IsPair attached × IsDistinct (λ m n. m == n) (map number attached)

-- a table of 128 has for each such pair, at its number, whether it is one of the attachments
abbrev pub TellsPairs : List Bool → List (ℕ × ℕ) → Type 0
TellsPairs table attached =
    (a : ℕ × ℕ) → IsPair a
    → get_or table (number a) false ≡ list_any (λ (b : ℕ × ℕ). (b.0 == a.0) && (b.1 == a.1)) attached

-- a check passes unless a test failed
abbrev pub passes_unless : Option Status → Result (Unit {0}) Status
passes_unless None = Ok tt
passes_unless (Some why) = Err why
