-- The data of Reservation Report (NVM Express Base Specification 2.0, "Reservation Report command", Reservation Status
-- Extended Data Structure): a header, and an entry for each controller whose host is registered, of 64 bytes each.
use Rattle.std.specs.Prelude.{
  ℕ,
  ◌-◌,
  ◌<◌,
  ◌==◌,
  Bool,
  if◌then◌else◌,
  Option,
  option_map,
  unwrap_or,
  find,
  List,
  [],
  ◌∷◌,
  ◌++◌,
  length,
  filter,
  flat_map,
  replicate,
  take,
}
use Rattle.std.specs.List.{AllByRecursion}
use Rattle.std.specs.Int.{w16, w32, w64, w128, to_le_bytes}
use Rattle.nvme_spec.specs.declared.access.Registrant.{Registrant}
use Rattle.nvme_spec.specs.declared.access.Hold.{Hold}
use Rattle.nvme_spec.specs.declared.access.Hold.TheVariants.{Free, One, All}
use Rattle.nvme_spec.specs.Reservation.{Reservation, is_registered, is_holder}

-- a controller of the subsystem, by its identifier, and its host
abbrev pub ControllerHost : Type 0
ControllerHost = ℕ × ℕ

-- the identifiers of controllers rise
abbrev pub HasRisingIds : List ControllerHost → Type 0
HasRisingIds [] = Unit {0}
HasRisingIds (c ∷ rest) = AllByRecursion (λ x. c.0 < x.0) rest × HasRisingIds rest

-- the reservation type: 0 if nobody holds it
abbrev pub type_of : Hold → ℕ
type_of Free = 0
type_of (One type holder) = type
type_of (All type) = type

-- the host's key, if it is registered
abbrev pub key_of : List Registrant → ℕ → Option ℕ
key_of registrants host = option_map (λ r. r.key) (find (λ r. r.host == host) registrants)

-- the controllers whose host is registered
abbrev pub reported_controllers : Reservation → List ControllerHost → List ControllerHost
reported_controllers r controllers = filter (λ c. is_registered r.registrants c.1) controllers

-- bytes 0 to 3 the generation, 4 the reservation type, 5 and 6 the number of entries, 9 Persist Through Power Loss
-- State (PTPLS)
unfoldable pub header : Reservation → List ControllerHost → List ℕ
header r controllers =
    to_le_bytes w32 r.generation ++ type_of r.hold ∷ [] ++ to_le_bytes w16 (length (reported_controllers r controllers))
    ++ replicate 2 0 ++ (if r.ptpl then 1 else 0) ∷ [] ++ replicate 54 0

-- bytes 0 and 1 the controller identifier, 2 the status with bit 0 set for a holder, 8 to 15 its key, 16 to 31 the host
unfoldable pub entry_of : ℕ → Bool → ℕ → ℕ → List ℕ
entry_of cntlid holds host key =
    to_le_bytes w16 cntlid ++ (if holds then 1 else 0) ∷ [] ++ replicate 5 0 ++ to_le_bytes w64 key
    ++ to_le_bytes w128 host ++ replicate 32 0

-- a registered host has a key
abbrev pub entry : Reservation → ControllerHost → List ℕ
entry r c = entry_of c.0 (is_holder r c.1) c.1 (unwrap_or (key_of r.registrants c.1) 0)

abbrev pub report : Reservation → List ControllerHost → List ℕ
report r controllers = header r controllers ++ flat_map (entry r) (reported_controllers r controllers)

-- the data of a transfer of this length: the front of the report, then zeros
unfoldable pub report_data : Reservation → List ControllerHost → ℕ → List ℕ
report_data r controllers size = take size (report r controllers) ++ replicate (size - length (report r controllers)) 0
