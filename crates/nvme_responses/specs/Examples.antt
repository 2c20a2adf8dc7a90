-- Runs and values of the worked examples.
use Rattle.std.specs.Prelude.{ℕ, false, List, [], ◌∷◌, replicate}
use Rattle.nvme_wire.specs.declared.status.Status.{Status}
use Rattle.nvme_responses.specs.declared.reply.Reply.{Reply}
use Rattle.nvme_responses.specs.declared.reply.Response.{Response}
use Rattle.nvme_responses.specs.declared.responses.Responses.{Responses}
use Rattle.nvme_responses.specs.States.{State}
use Rattle.nvme_responses.specs.Responses.{none}
use Rattle.nvme_responses.specs.Runs.{Call, Accepts, Responds, Connects}

abbrev pub status : ℕ → ℕ → Status
status sct sc = record { sct = sct; sc = sc }

-- the command succeeds
abbrev pub reply : ℕ → Reply
reply cid = record { cid = cid; status = status 0 0; dw0 = 1; dw1 = 2 }

-- its response
abbrev pub answer : ℕ → ℕ → Response
answer sqhd cid = record { dw0 = 1; dw1 = 2; sqhd = sqhd; cid = cid; status = 0 }

-- the identifier of a command in use
abbrev pub conflict : Reply
conflict = record { cid = 7; status = status 0 3; dw0 = 0; dw1 = 0 }

-- Connect has identifier 5, and makes a queue of four entries; the newest call is first
abbrev pub connect : List Call
connect = Connects 3 false ∷ Accepts 5 ∷ []

-- then commands 7 and 9 come
abbrev pub two : List Call
two = Accepts 9 ∷ Accepts 7 ∷ Responds (reply 5) ∷ connect

-- and another two
abbrev pub four : List Call
four = Accepts 7 ∷ Accepts 1 ∷ two

-- n commands wait on a queue of 101 entries
abbrev pub many : ℕ → State
many n = record none { sqsize = 100; outstanding = replicate n 6 }

-- any numbers in C's struct
abbrev pub held : ℕ → ℕ → Responses
held count stage = record {
  sqsize = 3;
  head = 2;
  count = count;
  stage = stage;
  is_flow_control_disabled = false;
  outstanding = 7 ∷ 9 ∷ replicate 62 0;
}

-- each byte is its place
abbrev pub fields : Response
fields = record { dw0 = 0x04030201; dw1 = 0x08070605; sqhd = 0x0a09; cid = 0x0e0d; status = 0x100f }
