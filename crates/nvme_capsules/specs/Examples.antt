-- What the worked examples use.
use Rattle.std.specs.Prelude.{ℕ, true, false, List, [], ◌∷◌, ◌++◌, replicate}
use Rattle.std.specs.Int.{w32, w64, to_le_bytes}
use Rattle.nvme_fabrics.specs.declared.request.Request.{Request}
use Rattle.nvme_fabrics.specs.declared.session.Session.{Session}
use Rattle.nvme_fabrics.specs.declared.session.Session.TheVariants as session
use Rattle.nvme_responses.specs.declared.reply.Reply.{Reply}
use Rattle.nvme_transfers.specs.declared.part.Part.{Part}
use Rattle.nvme_capsules.specs.declared.capsule.Capsule.{Capsule}
use Rattle.nvme_capsules.specs.declared.connect_stage.ConnectStage.TheVariants as stage
use Rattle.nvme_capsules.specs.Runs.{Brings, Call, Comes, Connects, Requests, Responds}

-- an entry by its opcode, FCTYPE and identifier, and by the address, length and identifier of SGL 1
abbrev pub entry : ℕ → ℕ → ℕ → ℕ → ℕ → ℕ → List ℕ
entry opcode fctype cid address bytes identifier =
    opcode ∷ 0x40 ∷ cid ∷ 0 ∷ fctype ∷ (replicate 19 0 ++ (to_le_bytes w64 address ++ (to_le_bytes w32 bytes
    ++ (replicate 3 0 ++ (identifier ∷ replicate 24 0)))))

-- Write, with 8 bytes in its capsule from an offset, and with 8 bytes on request; Read of 8 bytes; Flush
abbrev pub write_from : ℕ → List ℕ
write_from offset = entry 0x01 0 7 offset 8 0x01

abbrev pub write : List ℕ
write = entry 0x01 0 7 0 8 0x5a

abbrev pub read : List ℕ
read = entry 0x02 0 9 0 8 0x5a

abbrev pub flush : List ℕ
flush = entry 0x00 0 3 0 0 0

-- Connect with its data in its capsule and with data on request, and Disconnect
abbrev pub connect : List ℕ
connect = entry 0x7f 0x01 5 0 8 0x01

abbrev pub connect_later : List ℕ
connect_later = entry 0x7f 0x01 5 0 8 0x5a

abbrev pub disconnect : List ℕ
disconnect = entry 0x7f 0x08 6 0 0 0

-- its capsule, with this number of bytes of data
abbrev pub capsule : List ℕ → ℕ → Capsule
capsule e bytes = record { entry = e; data_length = bytes; is_sound = true }

abbrev pub spoiled : List ℕ → ℕ → Capsule
spoiled e bytes = record (capsule e bytes) { is_sound = false }

-- an I/O queue, and a host that has to authenticate itself
abbrev pub queue : Session
queue = session.Queue 3 1

abbrev pub request : Request
request = record { host_id = 1; host_nqn = []; cntlid = 4; qid = 1; entries = 4 }

abbrev pub authenticating : Session
authenticating = session.Authenticating request 3

-- a connection that has become a queue of four entries
abbrev pub connected : List Call
connected =
    Connects 3 false
    ∷ Responds (record { cid = 5; status = record { sct = 0; sc = 0 }; dw0 = 0; dw1 = 0 })
    ∷ Comes stage.NotConnected (capsule connect 8) ∷ []

-- A Write waits for its data, and an R2T was asked for. Then its data come in one part.
abbrev pub waits : List Call
waits = Requests ∷ Comes stage.Connected (capsule write 0) ∷ connected

abbrev pub part : Part
part = record { cid = 7; tag = 0; offset = 0; length = 8; is_last = true; is_sound = true }

abbrev pub brings : Call
brings = Brings part

abbrev pub brings_spoiled : Call
brings_spoiled = Brings (record part { is_sound = false })

-- success of command 7
abbrev pub reply : Reply
reply = record { cid = 7; status = record { sct = 0; sc = 0 }; dw0 = 0; dw1 = 0 }
