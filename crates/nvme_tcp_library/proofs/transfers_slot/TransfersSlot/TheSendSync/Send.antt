-- The commands of a connection, and the right to free their memory, mean the same in every thread.
use mir.Raw.{raw}
use base.Shift.{Keyless}
use denote.Memory.{lone}
use denote.RawPtr.{Ptr}
use denote.Struct.Struct.{exits_of}
use denote.Struct.Owning.{shape, fields, to}
use denote.Param.Send.{IsSend, AllSend, owning_send, struct_send, sendable}
use Rattle.std.proofs.Common.{Option, None, Some}
use Rattle.std.proofs.Crossing as heap
use Rattle.std_alloc.proofs.SendSync.{quiet, lies}
use Rattle.std_heap.proofs.Global.TheSendSync as handle
use Rattle.std.specs.Global.{Global}
use Rattle.nvme_transfers.proofs.transfers.Transfers.TheSendSync as transfers
use Rattle.nvme_tcp_library.specs.HoldingTransfers.{Row, Inside, holds}
use Rattle.nvme_tcp_library.specs.contracts.transfers_slot.TransfersSlot.{the_row, the_type}

inside : IsSend Row
inside = transfers.the_send

held : (alloc : Global) (at : Ptr) (value : Option Inside) → Keyless (holds alloc at value)
held alloc at None = tt
held alloc at (Some x) = (lies Row inside at x, heap.frees.frees alloc (raw (lone Row.mir)) at)

pub send : IsSend the_row
send =
    let all : AllSend (fields the_type) = (search sendable, (handle.the_field_send, tt)) in
    owning_send the_type all (λ s. held s.alloc s.at s.value)
    (λ k. quiet (to the_type) (exits_of k (fields the_type)) ((struct_send (shape the_type) all).leaving k))
