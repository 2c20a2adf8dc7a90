-- The answers to queries of a subsystem, in sessions and in the library for C.
use Rattle.std.specs.Prelude.{ℕ, List, ◌++◌, codes, Option, None, Some, Result, Ok, Err, option_and_then}
use Rattle.nvme_spec.specs.World.{World}
use Rattle.nvme_spec.specs.declared.medium.MediumFault.{MediumFault}
use Rattle.nvme_machine.specs.Controllers.{Controller}
use Rattle.nvme_machine.specs.Subsystems.{Subsystem, controller_at}
use Rattle.live_text.specs.Faults.{refusal}
use Rattle.live_text.specs.Forms.{form_text}
use Rattle.live_text.specs.Looking.{controller_named}
use Rattle.live_text.specs.declared.fault.Why.TheVariants as why
use Rattle.live_text.specs.declared.looking.Looking.{Looking}
use Rattle.live_text.specs.declared.looking.Looking.TheVariants as look
use Rattle.live_views.specs.Showing.{
  attached_text,
  blocks_text,
  controller_shown,
  help_text,
  namespaces_text,
  of_controller,
  reservation_shown,
}

-- the controller of a query, if it names an existing one
abbrev pub named_in : Subsystem → Looking → Option Controller
named_in s looking = option_and_then (λ k. controller_at s k) (controller_named looking)

-- the answer to the n-th line, a query of anything but blocks, from that controller and the access state; there is no
-- driver
abbrev pub parts_text : ℕ → Looking → Option Controller → World → List ℕ
parts_text n look.Help c w = help_text
parts_text n (look.HelpOn form) c w = codes "help " ++ form_text form
parts_text n look.Namespaces c w = namespaces_text w.namespaces
parts_text n look.Attached c w = attached_text w.attachments
parts_text n (look.Reservation m) c w = reservation_shown n m w
parts_text n (look.Driver k) c w = refusal n why.NoDriver
parts_text n (look.Window k address len) c w = of_controller n c (controller_shown n (look.Window k address len))
parts_text n (look.Register k offset) c w = of_controller n c (controller_shown n (look.Register k offset))
parts_text n (look.Registers k) c w = of_controller n c (controller_shown n (look.Registers k))
parts_text n (look.Queues k) c w = of_controller n c (controller_shown n (look.Queues k))
parts_text n (look.Fetched k) c w = of_controller n c (controller_shown n (look.Fetched k))
parts_text n (look.Blocks m slba count) c w = refusal n why.OutsideNamespace

abbrev pub subsystem_text : ℕ → Looking → Subsystem → List ℕ
subsystem_text n looking s = parts_text n looking (named_in s looking) s.world

-- the answer with blocks that were read, or that could not be read
abbrev pub read_text : ℕ → ℕ → ℕ → ℕ → List ℕ → Result (Unit {0}) MediumFault → List ℕ
read_text n m slba count bytes (Ok done) = blocks_text m slba count bytes
read_text n m slba count bytes (Err fault) = refusal n why.MediumFailed

-- the same for blocks that may not exist
abbrev pub looked_text : ℕ → ℕ → ℕ → ℕ → List ℕ → Option (Result (Unit {0}) MediumFault) → List ℕ
looked_text n m slba count bytes None = refusal n why.OutsideNamespace
looked_text n m slba count bytes (Some result) = read_text n m slba count bytes result
