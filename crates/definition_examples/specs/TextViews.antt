-- The state of a controller, and answers to queries about it, for worked examples.
use Rattle.std.specs.Prelude.{ℕ, [], ◌∷◌, false, true, None, Some, replicate}
use Rattle.nvme_spec.specs.World.{Namespace}
use Rattle.nvme_spec.specs.Reservation.{unreserved}
use Rattle.nvme_spec.specs.declared.access.Protection.TheVariants.{Open}
use Rattle.nvme_machine.specs.Controllers.{Controller, SubmissionQueue, new_controller}
use Rattle.nvme_machine.specs.declared.fetched.FetchedCommand.{FetchedCommand}
use Rattle.nvme_driver.specs.Drivers.{new_driver}
use Rattle.nvme_grammar.specs.Lent.{lent}
use Rattle.live_text.specs.declared.fault.Why.TheVariants.{NoController}
use Rattle.live_text.specs.declared.form.Form.TheVariants.{Looking}
use Rattle.live_text.specs.declared.looking_word.LookingWord.TheVariants.{Window as WindowWord}
use Rattle.live_views.specs.declared.shown.Shown.{Shown}
use Rattle.live_views.specs.declared.shown.Shown.TheVariants as shown

-- a submission queue at this address, with two commands that wait
abbrev pub waiting_queue : ℕ → SubmissionQueue
waiting_queue base = record { base = base; cqid = 0; head = record { size = 4; fetched = 3; waiting = 2 } }

-- a controller with each of its submission queues, and the admin completion queue
abbrev pub busy_controller : Controller
busy_controller = record (new_controller 2) {
  submission = Some (waiting_queue 10) ∷ Some (waiting_queue 11) ∷ Some (waiting_queue 12)
      ∷ Some (waiting_queue 13) ∷ Some (waiting_queue 14) ∷ [];
  completion = Some (record { base = 20; tail = record { size = 4; posted = 5; unread = 2 } })
      ∷ None ∷ None ∷ None ∷ None ∷ [];
}

-- a Read of namespace 1, with the command identifier 7
abbrev pub fetched_read : FetchedCommand
fetched_read = record {
  entry = 2 ∷ 0 ∷ 7 ∷ 0 ∷ 1 ∷ 0 ∷ 0 ∷ 0 ∷ replicate 56 0;
  queue = 1;
  marked = false;
}

-- a shared namespace of 64 blocks
abbrev pub open_namespace : Namespace
open_namespace = record {
  nsid = 1;
  first = 0;
  blocks = 64;
  shared = true;
  protection = Open;
  reservation = unreserved;
}

-- the answers about a controller
abbrev pub shown_refusal : Shown
shown_refusal = shown.Nothing (record { number = 3; why = NoController })

abbrev pub shown_form : Shown
shown_form = shown.HelpOn (Looking WindowWord)

abbrev pub shown_window : Shown
shown_window = shown.Window (record { cntlid = 2; address = 4096; bytes = lent (1 ∷ 2 ∷ 0 ∷ []) })

abbrev pub shown_register : Shown
shown_register = shown.Register (record { cntlid = 2; offset = 8; value = 0x20000 })

abbrev pub shown_registers : Shown
shown_registers = shown.Registers (record { cntlid = 2; controller = lent (new_controller 2) })

abbrev pub shown_queues : Shown
shown_queues = shown.Queues (record { cntlid = 2; controller = lent busy_controller })

abbrev pub shown_fetched : Shown
shown_fetched = shown.Fetched (record { cntlid = 2; commands = lent (fetched_read ∷ []) })

-- the answers about a driver, and about namespaces
abbrev pub shown_driver : Shown
shown_driver = shown.Driver (record { cntlid = 2; driver = lent (new_driver 5) })

abbrev pub shown_namespaces : Shown
shown_namespaces = shown.Namespaces (record { 0 = lent (open_namespace ∷ []) })

abbrev pub shown_attached : Shown
shown_attached = shown.Attached (record { 0 = lent ((2, 3) ∷ []) })

abbrev pub shown_reservation : Shown
shown_reservation = shown.Reservation (record { nsid = 1; reservation = lent unreserved; protected = 0 })

abbrev pub shown_blocks : Shown
shown_blocks = shown.Blocks (record { nsid = 1; slba = 7; count = 2; bytes = lent (1 ∷ 2 ∷ 0 ∷ []) })
