-- Statements of `laws.rt`: the refusal of a configuration and its first fault agree.
use Rattle.std.specs.Prelude.{◌≡◌, ◌<◌, ℕ, length, Some, option_map}
use Rattle.nvme_spec.specs.Configuration.{Capacity, Configuration, config_fault}
use Rattle.nvme_ns.specs.declared.refusal.SetupLine.{SetupLine}
use Rattle.nvme_ns.specs.declared.refusal.SetupLine.TheVariants.{Controller, Namespace, Attached}
use Rattle.nvme_ns.specs.declared.refusal.ConfigReason.{ConfigReason}
use Rattle.nvme_ns.specs.Refusals.{refusal_of, fault_of}

-- a line that this configuration has
abbrev pub IsThere : Configuration → SetupLine → Type 0
IsThere c (Controller i) = i < length c.controllers
IsThere c (Namespace i) = i < length c.namespaces
IsThere c (Attached i) = i < length c.attached

-- a configuration has a fault exactly if it has a refusal, and it is the fault of the broken rule
abbrev pub FaultIsOfTheRule : Type 0
FaultIsOfTheRule = (c : Configuration) (size : Capacity)
    → config_fault c size ≡ option_map (λ reason. fault_of reason.rule) (refusal_of c size)

-- the line that a refusal names exists
abbrev pub LineIsThere : Type 0
LineIsThere = (c : Configuration) (size : Capacity) (reason : ConfigReason)
    → refusal_of c size ≡ Some reason → IsThere c reason.line
