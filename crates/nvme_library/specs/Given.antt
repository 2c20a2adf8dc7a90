-- A configuration as C passes it, and as the model has it.
use Rattle.std.specs.Prelude.{ℕ, ◌+◌, ◌*◌, ◌/◌, ◌%◌, ◌^◌, List, map}
use Rattle.nvme_spec.specs.declared.config.ControllerConfig.{ControllerConfig}
use Rattle.nvme_spec.specs.declared.config.NsConfig.{NsConfig}
use Rattle.nvme_spec.specs.Configuration.{Configuration}
use Rattle.nvme_library.specs.declared.configuration.Controller.{Controller}
use Rattle.nvme_library.specs.declared.configuration.Namespace.{Namespace}
use Rattle.nvme_library.specs.declared.configuration.Attached.{Attached}

abbrev pub controller_of : Controller → ControllerConfig
controller_of c = record { cntlid = c.cntlid; host = c.host_high * 2 ^ 64 + c.host_low; raw = c.raw }

abbrev pub namespace_of : Namespace → NsConfig
namespace_of n = record { nsid = n.nsid; blocks = n.blocks; shared = n.shared }

abbrev pub pair_of : Attached → ℕ × ℕ
pair_of a = (a.cntlid, a.nsid)

abbrev pub configuration_of : List Controller → List Namespace → List Attached → Configuration
configuration_of controllers namespaces attached = record {
  controllers = map controller_of controllers;
  namespaces = map namespace_of namespaces;
  attached = map pair_of attached;
}

-- and back
abbrev pub given_controller : ControllerConfig → Controller
given_controller k = record { host_low = k.host % 2 ^ 64; host_high = k.host / 2 ^ 64; cntlid = k.cntlid; raw = k.raw }

abbrev pub given_namespace : NsConfig → Namespace
given_namespace n = record { blocks = n.blocks; nsid = n.nsid; shared = n.shared }

abbrev pub given_pair : ℕ × ℕ → Attached
given_pair p = record { nsid = p.1; cntlid = p.0 }
