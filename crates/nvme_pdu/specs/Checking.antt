-- Rules on fields in an order: the first that is broken is the reason why a connection is ended (NVMe/TCP Transport
-- Specification 1.0, Controller to Host Terminate Connection Request).
use Rattle.std.specs.Prelude.{ℕ, Bool, if◌then◌else◌, List, [], ◌∷◌, Result, Ok, Err}
use Rattle.nvme_pdu.specs.declared.fatal.Fatal.{Fatal}

-- Invalid PDU Header Field, and Unsupported Parameter, with the offset of the field
abbrev pub invalid : ℕ → Fatal
invalid field = record { status = 1; field = field }

abbrev pub unsupported : ℕ → Fatal
unsupported field = record { status = 6; field = field }

abbrev pub rule : Fatal → Bool → Result (Unit {0}) Fatal
rule fatal holds = if holds then Ok tt else Err fatal

-- what there is if all rules hold, else the first that does not
abbrev pub checked : {A : Type 0} → List (Fatal × Bool) → A → Result A Fatal
checked [] x = Ok x
checked (r ∷ rules) x = if r.1 then checked rules x else Err r.0
