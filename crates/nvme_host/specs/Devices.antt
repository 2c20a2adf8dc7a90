-- What a device said of itself, for C.
use Rattle.std.specs.Prelude.{ℕ, Option, None, Some, Result, Ok, Err}
use Rattle.nvme_device.specs.declared.capabilities.Capabilities.{Capabilities}
use Rattle.nvme_device.specs.declared.capabilities.CapabilityFault.{CapabilityFault}
use Rattle.nvme_device.specs.declared.capabilities.CapabilityFault.TheVariants as capability
use Rattle.nvme_device.specs.declared.controller.ControllerFacts.{ControllerFacts}
use Rattle.nvme_device.specs.declared.controller.ControllerFault.{ControllerFault}
use Rattle.nvme_device.specs.declared.controller.ControllerFault.TheVariants as controller
use Rattle.nvme_device.specs.declared.namespace.NamespaceFacts.{NamespaceFacts}
use Rattle.nvme_device.specs.declared.namespace.NamespaceFault.{NamespaceFault}
use Rattle.nvme_device.specs.declared.namespace.NamespaceFault.TheVariants as namespace
use Rattle.nvme_device.specs.declared.admission.Admission.{Admission}
use Rattle.nvme_device.specs.declared.admission.Admission.TheVariants as admission
use Rattle.nvme_host.specs.declared.devices.Limits.{Limits}
use Rattle.nvme_host.specs.declared.devices.Controller.{Controller}
use Rattle.nvme_host.specs.declared.devices.Namespace.{Namespace}

abbrev pub capability_code : CapabilityFault → ℕ
capability_code capability.Removed = 48
capability_code capability.QueuesTooShort = 51
capability_code capability.NoNvmCommands = 52
capability_code capability.PageSize = 53

abbrev pub controller_code : ControllerFault → ℕ
controller_code controller.NotIo = 54
controller_code controller.EntrySize = 55

abbrev pub namespace_code : NamespaceFault → ℕ
namespace_code namespace.NotThere = 56
namespace_code namespace.BlockSize = 57
namespace_code namespace.Metadata = 58

-- none if the request is admitted
abbrev pub admission_code : Admission → Option ℕ
admission_code admission.Admitted = None
admission_code admission.ControllerNotAsked = Some 59
admission_code (admission.Controller fault) = Some (controller_code fault)
admission_code admission.NamespaceNotAsked = Some 60
admission_code (admission.Namespace fault) = Some (namespace_code fault)
admission_code admission.NotSupported = Some 61
admission_code admission.TooLong = Some 62
admission_code admission.PastTheEnd = Some 63

abbrev pub limits_of : Result Capabilities CapabilityFault → Limits
limits_of (Ok c) = record { timeout_ms = c.timeout_ms; stride = c.stride; code = 0 }
limits_of (Err fault) = record { timeout_ms = 0; stride = 0; code = capability_code fault }

abbrev pub no_controller : ℕ → Controller
no_controller code = record { nn = 0; code = code; cntlid = 0; oncs = 0; mdts = 0; vwc = 0 }

abbrev pub controller_of : Option (Result ControllerFacts ControllerFault) → Controller
controller_of None = no_controller 59
controller_of (Some (Err fault)) = no_controller (controller_code fault)
controller_of (Some (Ok f)) =
    record { nn = f.nn; code = 0; cntlid = f.cntlid; oncs = f.oncs; mdts = f.mdts; vwc = f.vwc }

abbrev pub namespace_of : Option (Result NamespaceFacts NamespaceFault) → Namespace
namespace_of None = record { blocks = 0; code = 60 }
namespace_of (Some (Err fault)) = record { blocks = 0; code = namespace_code fault }
namespace_of (Some (Ok f)) = record { blocks = f.blocks; code = 0 }
