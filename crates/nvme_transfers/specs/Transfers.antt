-- How commands get their data: each waits for its R2T, which has a free tag, then its parts come in order (NVMe/TCP
-- Transport Specification 1.0, Ready to Transfer, Host To Controller Data Transfer).
use Rattle.std.specs.Prelude.{
  ℕ,
  ◌+◌,
  Bool,
  true,
  false,
  ◌||◌,
  ◌==◌,
  nat_le,
  if◌then◌else◌,
  List,
  [],
  ◌∷◌,
  ◌++◌,
  length,
  replicate,
  position,
  count_by,
  is_some,
  is_none,
  slice_get,
  Option,
  Some,
  None,
  Result,
  Ok,
  Err,
}
use Rattle.std.specs.List.{list_any, slice_set}
use Rattle.nvme_pdu.specs.declared.fatal.Fatal.{Fatal}
use Rattle.nvme_transfers.specs.declared.command.Command.{Command}
use Rattle.nvme_transfers.specs.declared.command.Refused.{Refused}
use Rattle.nvme_transfers.specs.declared.command.Refused.TheVariants as refused
use Rattle.nvme_transfers.specs.declared.command.Request.{Request}
use Rattle.nvme_transfers.specs.declared.part.Part.{Part}
use Rattle.nvme_transfers.specs.declared.part.Taken.{Taken}
use Rattle.nvme_transfers.specs.declared.transfer.Transfer.{Transfer}
use Rattle.nvme_transfers.specs.Parts.{cid_of, begun, fits, with_part, completed}
use Rattle.nvme_transfers.specs.States.{State}

abbrev pub none : State
none = record { has_ended = false; active = replicate 8 None; waiting = [] }

abbrev pub ended : State
ended = record { has_ended = true; active = replicate 8 None; waiting = [] }

-- ---- which commands there are

abbrev pub joined : Option (Option Transfer) → Option Transfer
joined None = None
joined (Some x) = x

abbrev pub transfer_at : State → ℕ → Option Transfer
transfer_at s tag = joined (slice_get s.active tag)

abbrev pub is_of : ℕ → Option Transfer → Bool
is_of cid None = false
is_of cid (Some x) = cid_of x.command == cid

abbrev pub has_active : List (Option Transfer) → ℕ → Bool
has_active active cid = list_any (is_of cid) active

abbrev pub has_waiting : List Command → ℕ → Bool
has_waiting waiting cid = list_any (λ c. cid_of c == cid) waiting

abbrev pub has : State → ℕ → Bool
has s cid = has_active s.active cid || has_waiting s.waiting cid

abbrev pub count_active : List (Option Transfer) → ℕ
count_active active = count_by is_some active

abbrev pub count : State → ℕ
count s = count_active s.active + length s.waiting

-- ---- a command begins

abbrev pub admitted : State → Command → Result (Unit {0}) Refused
admitted s c =
    if s.has_ended then Err refused.Ended
    else (if c.length == 0 then Err refused.NoData
    else (if has s (cid_of c) then Err refused.InFlight
    else (if nat_le 64 (length s.waiting) then Err refused.NoRoom else Ok tt)))

abbrev pub waits_if : Result (Unit {0}) Refused → State → Command → State
waits_if (Ok u) s c = record s { waiting = s.waiting ++ c ∷ [] }
waits_if (Err e) s c = s

abbrev pub after_begin : State → Command → State
after_begin s c = waits_if (admitted s c) s c

-- ---- R2T

-- the lowest free tag
abbrev pub free_tag : List (Option Transfer) → Option ℕ
free_tag active = position is_none active

abbrev pub with_transfer : State → ℕ → Option Transfer → State
with_transfer s tag x = record s { active = slice_set s.active tag x }

abbrev pub granted : Option ℕ → List Command → Option Request
granted None cs = None
granted (Some tag) [] = None
granted (Some tag) (c ∷ cs) = Some (record { cid = cid_of c; tag = tag; length = c.length })

abbrev pub next_request : State → Option Request
next_request s = granted (free_tag s.active) s.waiting

abbrev pub after_grant : State → Option ℕ → List Command → State
after_grant s None cs = s
after_grant s (Some tag) [] = s
after_grant s (Some tag) (c ∷ cs) = record (with_transfer s tag (Some (begun c))) { waiting = cs }

abbrev pub after_request : State → State
after_request s = after_grant s (free_tag s.active) s.waiting

-- ---- a part comes

-- Data Transfer Out of Range
abbrev pub out_of_range : Fatal
out_of_range = record { status = 4; field = 0 }

-- where its bytes go, and the command if it has all its data
abbrev pub taken_of : Transfer → Part → Taken
taken_of x p = record {
  begin = p.offset;
  completed = if p.is_last then Some (completed (with_part x p)) else None;
}

abbrev pub taken_by : Option Transfer → Part → Result Taken Fatal
taken_by None p = Err out_of_range
taken_by (Some x) p = if fits x p then Ok (taken_of x p) else Err out_of_range

abbrev pub taken : State → Part → Result Taken Fatal
taken s p = taken_by (transfer_at s p.tag) p

abbrev pub after_taking : State → Option Transfer → Part → State
after_taking s None p = s
after_taking s (Some x) p =
    if fits x p then with_transfer s p.tag (if p.is_last then None else Some (with_part x p)) else s

abbrev pub after_part : State → Part → State
after_part s p = after_taking s (transfer_at s p.tag) p
