-- Configurations and worlds of worked examples.
use Rattle.std.specs.Prelude.{ℕ, Bool, true, false, [], ◌∷◌}
use Rattle.nvme_spec.specs.declared.config.ControllerConfig.{ControllerConfig}
use Rattle.nvme_spec.specs.declared.config.NsConfig.{NsConfig}
use Rattle.nvme_spec.specs.Configuration.{Configuration}

abbrev pub controller : ℕ → ℕ → ControllerConfig
controller cntlid host = record { cntlid = cntlid; host = host; raw = false }

-- a controller of a raw host
abbrev pub raw_controller : ℕ → ℕ → ControllerConfig
raw_controller cntlid host = record { cntlid = cntlid; host = host; raw = true }

abbrev pub namespace : ℕ → ℕ → Bool → NsConfig
namespace nsid blocks shared = record { nsid = nsid; blocks = blocks; shared = shared }

-- one controller, attached to one namespace of 64 blocks
abbrev pub single : Configuration
single = record {
  controllers = controller 1 0xa1 ∷ [];
  namespaces = namespace 1 64 true ∷ [];
  attached = (1, 1) ∷ [];
}

-- Four controllers of three hosts; a shared namespace of 64 blocks, attached to all, and a private one of 8 blocks,
-- attached to controller 1.
abbrev pub cluster : Configuration
cluster = record {
  controllers = controller 1 0xa1 ∷ controller 2 0xb2 ∷ controller 3 0xa1 ∷ controller 4 0xc3 ∷ [];
  namespaces = namespace 1 64 true ∷ namespace 2 8 false ∷ [];
  attached = (1, 1) ∷ (2, 1) ∷ (3, 1) ∷ (4, 1) ∷ (1, 2) ∷ [];
}
