-- Statuses by name and as text (Base Specification, Status Field Definition).
use Rattle.std.specs.Prelude.{
  ◌≡◌,
  ℕ,
  ◌-◌,
  ◌^◌,
  ◌==◌,
  false,
  if◌then◌else◌,
  List,
  [],
  ◌∷◌,
  ◌++◌,
  codes,
  unwrap_or,
  find,
  option_map,
}
use Rattle.std.specs.Fmt.{digits, padded_integral, format_spec}
use Rattle.nvme_wire.specs.declared.status.Status.{Status}

-- a status code, and its name in the standard
pub record Named : Type 0 where
  pub code : ℕ
  pub name : List ℕ

abbrev pub named : ℕ → List ℕ → Named
named code name = record { code = code; name = name }

-- generic command statuses
abbrev pub generic_names : List Named
generic_names =
    named 0x00 (codes "Successful Completion")
    ∷ named 0x01 (codes "Invalid Command Opcode")
    ∷ named 0x02 (codes "Invalid Field in Command")
    ∷ named 0x04 (codes "Data Transfer Error")
    ∷ named 0x0b (codes "Invalid Namespace or Format")
    ∷ named 0x0c (codes "Command Sequence Error")
    ∷ named 0x13 (codes "PRP Offset Invalid")
    ∷ named 0x18 (codes "Host Identifier Inconsistent Format")
    ∷ named 0x1b (codes "Command Aborted due to Preempt and Abort")
    ∷ named 0x20 (codes "Namespace is Write Protected")
    ∷ named 0x80 (codes "LBA Out of Range")
    ∷ named 0x83 (codes "Reservation Conflict")
    ∷ []

-- command specific statuses
abbrev pub specific_names : List Named
specific_names =
    named 0x00 (codes "Completion Queue Invalid")
    ∷ named 0x01 (codes "Invalid Queue Identifier")
    ∷ named 0x02 (codes "Invalid Queue Size")
    ∷ named 0x0c (codes "Invalid Queue Deletion")
    ∷ named 0x0d (codes "Feature Identifier Not Saveable")
    ∷ named 0x0e (codes "Feature Not Changeable")
    ∷ named 0x18 (codes "Namespace Already Attached")
    ∷ named 0x19 (codes "Namespace Is Private")
    ∷ named 0x1a (codes "Namespace Not Attached")
    ∷ named 0x1c (codes "Controller List Invalid")
    ∷ []

-- media and data integrity errors
abbrev pub media_names : List Named
media_names =
    named 0x80 (codes "Write Fault")
    ∷ named 0x81 (codes "Unrecovered Read Error")
    ∷ named 0x85 (codes "Compare Failure")
    ∷ []

-- the name of a code in a table
abbrev pub name_in : List Named → ℕ → List ℕ
name_in table code = unwrap_or (option_map (λ n. n.name) (find (λ n. n.code == code) table)) (codes "Unlisted")

unfoldable pub generic_name : ℕ → List ℕ
generic_name code = name_in generic_names code

unfoldable pub specific_name : ℕ → List ℕ
specific_name code = name_in specific_names code

unfoldable pub media_name : ℕ → List ℕ
media_name code = name_in media_names code

-- the name of a status, by its type and code
abbrev pub name_of : Status → List ℕ
name_of s =
    if s.sct == 0 then generic_name s.sc
    else (if s.sct == 1 then specific_name s.sc
    else (if s.sct == 2 then media_name s.sc
    else codes "Unlisted"))

-- `SCT:SC` in lower-case hexadecimal, one digit and two
abbrev pub status_text : Status → List ℕ
status_text s = digits 16 false s.sct
    ++ (codes ":" ++ padded_integral (format_spec 32 0 4 2 (2 ^ 64 - 1)) false [] (digits 16 false s.sc))

-- a status has this type and code, and this name
abbrev pub IsNamed : Status → ℕ → ℕ → List ℕ → Type 0
IsNamed s sct sc name = (s ≡ record { sct = sct; sc = sc }) × (name_of s ≡ name)
