-- The right to bytes means the same in every thread.
use base.Shift.{Keyless}
use denote.Array.{Array}
use denote.Builtin.{u8}
use denote.Struct.Struct.{exits_of}
use denote.Struct.Owning.{shape, fields, to}
use denote.Param.Send.{IsSend, AllSend, owning_send, struct_send, array_send, sendable}
use Rattle.std.proofs.Common.{Option, None, Some}
use Rattle.std_alloc.proofs.SendSync.{quiet, lies}
use Rattle.nvme_lent.specs.Bytes.{owned}
use Rattle.nvme_lent.specs.contracts.returned.ReturnedBytes.{the_row, the_type}
use Rattle.nvme_lent.specs.declared.bytes.LentBytes.{LentBytes}

byte : IsSend u8
byte = search sendable

held : (bytes : Option LentBytes) → Keyless (owned bytes)
held None = tt
held (Some bytes) = lies (Array u8 bytes.len) (array_send u8 bytes.len byte) bytes.at bytes.items

pub send : IsSend the_row
send =
    let all : AllSend (fields the_type) = tt in
    owning_send the_type all (λ r. held r.bytes)
    (λ k. quiet (to the_type) (exits_of k (fields the_type)) ((struct_send (shape the_type) all).leaving k))
