-- For `core_targets.rt`: which inputs of a target end a connection, and which of its causes name a host.
use Rattle.std.proofs.Common.{arith}
use Rattle.std.specs.Prelude.{ℕ, List, Bool}
use Rattle.nvme_wire.specs.declared.status.Status.{Status}
use Rattle.nvme_fabrics.specs.declared.session.Judged.{Judged}
use Rattle.nvme_fabrics.specs.Runs.{Input, Connects, Authenticates, Executes, Closes, Ends}
use Rattle.nvme_target.specs.Causes.{MayEnd, NamesHost, Accessing, LosingPower}

pub core_ending_inputs_connect : (e d : List ℕ) → (j : Judged) → MayEnd 7 (Connects 7 e d j) → ⊥
core_ending_inputs_connect e d j x = x

pub core_ending_inputs_authenticated : (is_enabled : Bool) → (created : Status)
    → MayEnd 7 (Authenticates 7 is_enabled created) → ⊥
core_ending_inputs_authenticated is_enabled created x = x

pub core_ending_inputs_other_command : (e : List ℕ) → MayEnd 7 (Executes 8 e) → ⊥
core_ending_inputs_other_command e x = omega (arith, x)

pub core_ending_inputs_other_closed : MayEnd 7 (Closes 8) → ⊥
core_ending_inputs_other_closed x = omega (arith, x)

pub core_ending_inputs_association : MayEnd 7 (Ends 7) → ⊥
core_ending_inputs_association x = x

pub core_nameless_causes_access : (has_keys : Bool) → (inputs : List Input) → (host : ℕ)
    → NamesHost has_keys inputs (Accessing 1) host → ⊥
core_nameless_causes_access has_keys inputs host x = x

pub core_nameless_causes_power : (has_keys : Bool) → (inputs : List Input) → (host : ℕ)
    → NamesHost has_keys inputs LosingPower host → ⊥
core_nameless_causes_power has_keys inputs host x = x
