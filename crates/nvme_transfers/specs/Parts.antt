-- A command whose data a host sends in answer to an R2T, and which H2CData is the next part of them (NVMe/TCP Transport
-- Specification 1.0, Ready to Transfer, Host To Controller Data Transfer).
use Rattle.std.specs.Prelude.{ℕ, ◌+◌, Bool, true, ◌&&◌, ◌==◌, nat_lt, nat_le, not, if◌then◌else◌}
use Rattle.nvme_wire.specs.Entry.{word_at}
use Rattle.nvme_transfers.specs.declared.command.Command.{Command}
use Rattle.nvme_transfers.specs.declared.part.Part.{Part}
use Rattle.nvme_transfers.specs.declared.part.Completed.{Completed}
use Rattle.nvme_transfers.specs.declared.transfer.Transfer.{Transfer}

-- CID, bytes 2 and 3 of the entry
unfoldable pub cid_of : Command → ℕ
cid_of c = word_at c.entry 2

-- none of its data have come
abbrev pub begun : Command → Transfer
begun c = record { command = c; count = 0; is_sound = true }

-- the part ends where the data end
abbrev pub ends : Transfer → Part → Bool
ends x p = p.offset + p.length == x.command.length

-- The part has the command's identifier, is not empty, begins where the data so far end, does not go past the length
-- of the R2T, and is the last exactly if it ends there.
unfoldable pub fits : Transfer → Part → Bool
fits x p =
    (p.cid == cid_of x.command)
    && (p.offset == x.count)
    && nat_lt 0 p.length
    && nat_le (p.offset + p.length) x.command.length
    && (if p.is_last then ends x p else not (ends x p))

-- a wrong digest is remembered
abbrev pub with_part : Transfer → Part → Transfer
with_part x p = record {
  command = x.command;
  count = x.count + p.length;
  is_sound = x.is_sound && p.is_sound;
}

abbrev pub completed : Transfer → Completed
completed x = record { command = x.command; is_sound = x.is_sound }
