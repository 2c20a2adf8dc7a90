-- Answers to Fabrics commands, and rules in an order (NVM Express Base Specification 2.0, Fabrics Command Set, Connect
-- Response).
use Rattle.std.specs.Prelude.{ℕ, ◌+◌, Bool, if◌then◌else◌, List, [], ◌∷◌, Result, Ok, Err}
use Rattle.nvme_fabrics.specs.declared.answer.Answer.{Answer}

-- a status code type and a status code
abbrev pub answer : ℕ → ℕ → Answer
answer sct sc = record { status = record { sct = sct; sc = sc }; dw0 = 0 }

abbrev pub success : Answer
success = answer 0 0x00

abbrev pub invalid_opcode : Answer
invalid_opcode = answer 0 0x01

abbrev pub invalid_field : Answer
invalid_field = answer 0 0x02

abbrev pub command_sequence : Answer
command_sequence = answer 0 0x0c

abbrev pub sgl_length : Answer
sgl_length = answer 0 0x0f

abbrev pub incompatible_format : Answer
incompatible_format = answer 1 0x80

abbrev pub controller_busy : Answer
controller_busy = answer 1 0x81

abbrev pub invalid_host : Answer
invalid_host = answer 1 0x84

abbrev pub invalid_queue_type : Answer
invalid_queue_type = answer 1 0x85

abbrev pub authentication_required : Answer
authentication_required = answer 1 0x91

-- a successful Connect, with CNTLID
abbrev pub with_cntlid : ℕ → Answer
with_cntlid cntlid = record success { dw0 = cntlid }

-- Connect Invalid Parameters: IPO is the offset of the parameter, IATTR whether it is in the data
abbrev pub in_entry : ℕ → Answer
in_entry offset = record (answer 1 0x82) { dw0 = offset }

abbrev pub in_data : ℕ → Answer
in_data offset = record (answer 1 0x82) { dw0 = 0x10000 + offset }

abbrev pub rule : Answer → Bool → Result (Unit {0}) Answer
rule broken holds = if holds then Ok tt else Err broken

-- what there is if all rules hold, else the answer of the first that does not
abbrev pub checked : {A : Type 0} → List (Answer × Bool) → A → Result A Answer
checked [] x = Ok x
checked (r ∷ rules) x = if r.1 then checked rules x else Err r.0
