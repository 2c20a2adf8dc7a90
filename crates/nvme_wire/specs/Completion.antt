-- The fields of a completion queue entry's 16 bytes (Base Specification: Completion Queue Entry).
use Rattle.std.specs.Prelude.{ℕ, ◌+◌, ◌*◌, ◌<◌, ◌^◌, ◌==◌, Bool, if◌then◌else◌, List, ◌++◌, replicate}
use Rattle.std.specs.Int.{w16, w32, to_le_bytes}
use Rattle.nvme_wire.specs.Entry.{dword_at, bits}
use Rattle.nvme_wire.specs.declared.cqe.Cqe.TheInside.{Inside}
use Rattle.nvme_wire.specs.declared.status.Status.{Status}

-- the bytes of an entry, one double word after the other
abbrev pub spelled : Inside → List ℕ
spelled e = to_le_bytes w32 e.dw0 ++ (to_le_bytes w32 e.dw1 ++ (to_le_bytes w32 e.dw2 ++ to_le_bytes w32 e.dw3))

-- the double words of 16 bytes
abbrev pub read : List ℕ → Inside
read bytes = record { dw0 = dword_at bytes 0; dw1 = dword_at bytes 4; dw2 = dword_at bytes 8; dw3 = dword_at bytes 12 }

-- each double word fits 32 bits
pub record FitsFields (e : Inside) : Type 0 where
  pub dw0 : e.dw0 < 2 ^ 32
  pub dw1 : e.dw1 < 2 ^ 32
  pub dw2 : e.dw2 < 2 ^ 32
  pub dw3 : e.dw3 < 2 ^ 32

-- The fields of a completion. They are `unfoldable`, so that proofs of the crates above don't see bytes.
unfoldable pub dw0 : List ℕ → ℕ
dw0 entry = dword_at entry 0

unfoldable pub sq_head : List ℕ → ℕ
sq_head entry = bits (dword_at entry 8) 15 0

unfoldable pub sq_id : List ℕ → ℕ
sq_id entry = bits (dword_at entry 8) 31 16

unfoldable pub cid : List ℕ → ℕ
cid entry = bits (dword_at entry 12) 15 0

unfoldable pub phase : List ℕ → Bool
phase entry = bits (dword_at entry 12) 16 16 == 1

-- Status Code Type and Status Code
unfoldable pub status : List ℕ → Status
status entry = record { sct = bits (dword_at entry 12) 27 25; sc = bits (dword_at entry 12) 24 17 }

-- A completion: double word 0, which depends on the command, the head of its submission queue and that queue's
-- identifier, the command's identifier, the phase tag and the status.
pub record Completion : Type 0 where
  pub dw0 : ℕ
  pub sq_head : ℕ
  pub sq_id : ℕ
  pub cid : ℕ
  pub phase : Bool
  pub status : Status

-- its last word: the phase tag in bit 0, then the status, SC from bit 1 and SCT from bit 9
abbrev pub phase_and_status : Completion → ℕ
phase_and_status c = (if c.phase then 1 else 0) + 2 * c.status.sc + 2 ^ 9 * c.status.sct

-- its 16 bytes
unfoldable pub completion_entry : Completion → List ℕ
completion_entry c =
    to_le_bytes w32 c.dw0 ++ (replicate 4 0 ++ (to_le_bytes w16 c.sq_head ++ (to_le_bytes w16 c.sq_id
    ++ (to_le_bytes w16 c.cid ++ to_le_bytes w16 (phase_and_status c)))))

-- the completion in 16 bytes
abbrev pub completion_of : List ℕ → Completion
completion_of entry = record {
  dw0 = dw0 entry;
  sq_head = sq_head entry;
  sq_id = sq_id entry;
  cid = cid entry;
  phase = phase entry;
  status = status entry;
}

-- each field fits its width
pub record FitsCompletion (c : Completion) : Type 0 where
  pub dw0 : c.dw0 < 2 ^ 32
  pub sq_head : c.sq_head < 2 ^ 16
  pub sq_id : c.sq_id < 2 ^ 16
  pub cid : c.cid < 2 ^ 16
  pub sct : c.status.sct < 2 ^ 3
  pub sc : c.status.sc < 2 ^ 8
