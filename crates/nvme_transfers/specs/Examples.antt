-- Commands, parts and runs of the worked examples.
use Rattle.std.specs.Prelude.{
  ℕ,
  zero,
  suc,
  ◌+◌,
  ◌%◌,
  ◌/◌,
  Bool,
  true,
  false,
  List,
  [],
  ◌∷◌,
  ◌++◌,
  replicate,
}
use Rattle.nvme_transfers.specs.declared.command.Command.{Command}
use Rattle.nvme_transfers.specs.declared.part.Part.{Part}
use Rattle.nvme_transfers.specs.declared.part.Completed.{Completed}
use Rattle.nvme_transfers.specs.States.{State}
use Rattle.nvme_transfers.specs.Transfers.{none}
use Rattle.nvme_transfers.specs.Runs.{Call, Begins, Requests, Takes}

-- a Write with this identifier and number of bytes
abbrev pub command : ℕ → ℕ → Command
command cid bytes = record {
  entry = (1 ∷ 0x40 ∷ cid % 256 ∷ cid / 256 ∷ []) ++ replicate 60 0;
  length = bytes;
}

-- a part: its identifier, tag, offset and length, and LAST_PDU
abbrev pub part : ℕ → ℕ → ℕ → ℕ → Bool → Part
part cid tag offset bytes is_last = record {
  cid = cid;
  tag = tag;
  offset = offset;
  length = bytes;
  is_last = is_last;
  is_sound = true;
}

-- command 7 has 8 bytes and tag 0, command 9 has 4 and tag 1; the newest call is first
abbrev pub two : List Call
two = Requests ∷ Requests ∷ Begins (command 9 4) ∷ Begins (command 7 8) ∷ []

abbrev pub next_of_7 : ℕ → ℕ → Part
next_of_7 offset bytes = part 7 0 offset bytes false

abbrev pub of_7 : ℕ → ℕ → Call
of_7 offset bytes = Takes (next_of_7 offset bytes)

abbrev pub last_of_7 : Call
last_of_7 = Takes (part 7 0 4 4 true)

abbrev pub wrong_digest : Call
wrong_digest = Takes (record (next_of_7 0 4) { is_sound = false })

-- commands 101, 102, .. of 2 bytes, each with its R2T
abbrev pub asked_for : ℕ → List Call
asked_for zero = []
asked_for (suc n) = Requests ∷ Begins (command (101 + n) 2) ∷ asked_for n

-- n commands wait
abbrev pub many : ℕ → State
many n = record none { waiting = replicate n (command 1 1) }

-- the bytes of a part
abbrev pub four : List ℕ
four = 1 ∷ 2 ∷ 3 ∷ 4 ∷ []

-- command 7, complete
abbrev pub done : Completed
done = record { command = command 7 8; is_sound = true }
