-- Statements of `laws.rt` on PRP entries: which bytes a command with such entries moves.
use Rattle.std.specs.Prelude.{
  ℕ,
  ◌+◌,
  ◌-◌,
  ◌^◌,
  ◌<◌,
  ◌≤◌,
  ◌≡◌,
  ◌⊎◌,
  Bool,
  true,
  false,
  List,
  ◌++◌,
  length,
  take,
  replicate,
  slice_index,
  slice_range,
  None,
  Some,
}
use Rattle.std.specs.List.{range_with_len}
use Rattle.nvme_wire.specs.Submission.{opcode, fuse, psdt, cid, prp1, prp2}
use Rattle.nvme_spec.specs.Bytes.{with_bytes}
use Rattle.nvme_spec.specs.Commands as io
use Rattle.nvme_spec.specs.DataRules.{data_addresses, data_in, data_fault}
use Rattle.nvme_spec.specs.Memory.{window_size}
use Rattle.nvme_spec.specs.Pointer.{Transfer, transfer, pointer_fault}
use Rattle.nvme_spec.specs.Transfers.{addresses, pieces_of, with_scattered}
use Rattle.nvme_spec.specs.declared.command.Command.TheVariants.{Read}
use Rattle.nvme_spec.specs.declared.pointer.DataFault.TheVariants.{Outside}
use Rattle.nvme_data_buffers.specs.Buffers.{capacity, start, prps, HasList}
use Rattle.nvme_data_buffers.specs.Entries.{moved, with_entries, placed, is_filled}
use Rattle.nvme_data_buffers.specs.declared.buffer.DataBuffer.{DataBuffer}
use Rattle.nvme_data_buffers.specs.declared.buffer.Prps.{Prps}

-- a transfer by these entries
abbrev pub by : List ℕ → Prps → ℕ → Transfer
by window p bytes = transfer window p.first p.second bytes

-- A command moves at least one byte, and no more than its data have, which fit into their buffer.
pub record IsWithin (b : DataBuffer) (size bytes : ℕ) : Type 0 where
  pub some : 1 ≤ bytes
  pub enough : bytes ≤ size
  pub fit : size ≤ capacity b

-- Its PRP entries have no fault, and lead to its data, byte after byte, if the list is in the window.
pub record Reaches (t : Transfer) (first : ℕ) : Type 0 where
  pub sound : pointer_fault t ≡ None
  pub places : addresses (pieces_of t) ≡ range_with_len first t.bytes

abbrev pub EntriesReachTheData : Type 0
EntriesReachTheData =
    (window : List ℕ) (b : DataBuffer) (size bytes : ℕ) → HasList window → IsWithin b size bytes
    → Reaches (by window (prps b size bytes) bytes) (start b size)

-- The PRP entries of a command that would move more bytes, or of data that don't fit, have a fault.
abbrev pub NothingBeyond : Type 0
NothingBeyond =
    (window : List ℕ) (b : DataBuffer) (size bytes : ℕ) → (size < bytes) ⊎ (capacity b < size)
    → pointer_fault (by window (prps b size bytes) bytes) ≡ Some Outside

-- 64 bytes
pub record IsEntry (e : List ℕ) : Type 0 where
  pub size : length e ≡ 64
  pub bytes : (i : ℕ) → slice_index e i < 256

-- An entry with these PRP entries, and nothing else than the host has sent: only PSDT and the data pointer may change.
pub record IsWithEntries (e : List ℕ) (p : Prps) (new : List ℕ) : Type 0 where
  pub size : length new ≡ 64
  pub psdt : psdt new ≡ 0
  pub prp1 : prp1 new ≡ p.first
  pub prp2 : prp2 new ≡ p.second
  pub opcode : opcode new ≡ opcode e
  pub fuse : fuse new ≡ fuse e
  pub cid : cid new ≡ cid e
  pub front : slice_range new 2 24 ≡ slice_range e 2 24
  pub back : slice_range new 40 64 ≡ slice_range e 40 64

abbrev pub OtherBytesStay : Type 0
OtherBytesStay =
    (e : List ℕ) (p : Prps) → IsEntry e → p.first < 2 ^ 64 → p.second < 2 ^ 64
    → IsWithEntries e p (with_entries e p)

-- it moves as many bytes as the command of the host
abbrev pub MovesAsMany : Type 0
MovesAsMany =
    (is_admin : Bool) (e : List ℕ) (b : DataBuffer) (size : ℕ) → IsEntry e
    → moved is_admin (placed is_admin e b size) ≡ moved is_admin e

-- A command that is placed for data of this size: it has a data pointer without a fault, whose addresses are those of
-- its data. What it gathers are its own data, and what it scatters is stored at their address.
pub record MovesItsData (window new : List ℕ) (first size bytes : ℕ) : Type 0 where
  pub sound : data_fault bytes window new ≡ None
  pub places : data_addresses bytes window new ≡ range_with_len first bytes
  pub gathered : (sent : List ℕ) → length sent ≡ size
      → data_in bytes (with_bytes window first sent) new ≡ take bytes sent
  pub scattered : (returned : List ℕ) → length returned ≤ bytes
      → with_scattered window (take (length returned) (data_addresses bytes window new)) returned
      ≡ with_bytes window first returned

abbrev pub CommandsMoveTheirData : Type 0
CommandsMoveTheirData =
    (window e : List ℕ) (is_admin : Bool) (b : DataBuffer) (size : ℕ) → length window ≡ window_size → HasList window
    → IsEntry e → IsWithin b size (moved is_admin e)
    → MovesItsData window (placed is_admin e b size) (start b size) size (moved is_admin (placed is_admin e b size))

-- a command that would move more bytes has a fault
abbrev pub OtherCommandsAreRefused : Type 0
OtherCommandsAreRefused =
    (window e : List ℕ) (is_admin : Bool) (b : DataBuffer) (size : ℕ) → IsEntry e
    → (size < moved is_admin e) ⊎ ((capacity b < size) × (1 ≤ moved is_admin e))
    → data_fault (moved is_admin (placed is_admin e b size)) window (placed is_admin e b size) ≡ Some Outside

-- Data that come from the controller are what it has returned, and then zeros, if they were cleared.
abbrev pub NothingOldIsReturned : Type 0
NothingOldIsReturned =
    (window returned : List ℕ) (b : DataBuffer) (size : ℕ) → length window ≡ window_size → size ≤ capacity b
    → length returned ≤ size
    → slice_range (with_bytes (with_bytes window (start b size) (replicate size 0)) (start b size) returned)
    (start b size) (start b size + size)
    ≡ returned ++ replicate (size - length returned) 0

-- a Read that moves all of its data
abbrev pub FilledAreReads : Type 0
FilledAreReads =
    (is_admin : Bool) (e : List ℕ) (size : ℕ) → is_filled is_admin e size ≡ true
    → (is_admin ≡ false) × (io.command_of (opcode e) ≡ Some Read) × (io.data_length Read e ≡ size)
