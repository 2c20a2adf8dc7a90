-- Ports, reports and requests of the worked examples.
use Rattle.std.specs.Prelude.{ℕ, Bool, false, [], ◌∷◌, replicate, None, Some, Ok}
use Rattle.nvme_driver.specs.declared.lane.Lane.TheVariants.{Io}
use Rattle.nvme_driver.specs.declared.slots.Waiting.{Waiting}
use Rattle.nvme_host.specs.declared.doorbells.Doorbells.{Doorbells}
use Rattle.nvme_host.specs.declared.facts.DeviceFacts.{DeviceFacts}
use Rattle.nvme_host.specs.declared.open_driver.OpenDriver.{OpenDriver}
use Rattle.nvme_host.specs.declared.outcome.Outcome.{Outcome}
use Rattle.nvme_host.specs.declared.recording_port.Action.{Action}
use Rattle.nvme_host.specs.declared.recording_port.Need.TheVariants.{Status}
use Rattle.nvme_host.specs.declared.recording_port.RecordingPort.{RecordingPort}
use Rattle.nvme_host.specs.declared.recording_port.Report.{Report}
use Rattle.nvme_host.specs.declared.stage.Stage.TheVariants.{Enabling, Expired}
use Rattle.nvme_host.specs.RunExamples.{idle}

-- a write of Controller Configuration, and a report of a status
abbrev pub action : Action
action = record { at = 0x14; len = 0; value = 1; kind = 2 }

abbrev pub report : ℕ → Report
report value = record { status = value; entry = replicate 16 value }

-- doorbells after five admin commands, three I/O commands, and four and two completions
abbrev pub doorbells : Doorbells
doorbells = record {
  admin_tail = 5;
  io_tail = 3;
  admin_head = record { size = 32; consumed = 4 };
  io_head = record { size = 32; consumed = 2 };
}

-- a port with one action, in a bring-up that has read one of two reports
abbrev pub port : RecordingPort
port = record {
  window = replicate 4 7;
  actions = record { items = action ∷ [] };
  doorbells = doorbells;
  stride = 8;
  reports = record { items = report 1 ∷ report 2 ∷ [] };
  reports_read = 1;
  need = Status;
  handed_out = 6;
}

-- a request of the I/O lane (queue pair) without data, by its ticket, that waits or was aborted
abbrev pub waiting : ℕ → Bool → Waiting
waiting number is_live = record { ticket = record { 0 = number }; lane = Io; received = 0; live = is_live }

-- what is known of a controller and of namespace 1, after question 9 about a namespace was asked
abbrev pub facts : ℕ → DeviceFacts
facts nsid = record {
  controller = Some (Ok (record { cntlid = 0; mdts = 0; oncs = 0; nn = 1; vwc = 1 }));
  namespaces = None ∷ Some (Ok (record { blocks = 100 })) ∷ None ∷ [];
  asked = Some (record { ticket = 9; nsid = nsid });
  identifying = None;
  host_identified = false;
}

-- the answer to question 9, by its length
abbrev pub answer : ℕ → Outcome
answer count = record { ticket = 9; len = count; dw0 = 0; code = 1; sct = 0; sc = 0 }

-- a driver that is up, with an action; one whose controller was enabled; and one of which a request took too long
abbrev pub busy : OpenDriver
busy = record idle { port = port }

abbrev pub waiting_for_ready : OpenDriver
waiting_for_ready = record idle { stage = Enabling }

abbrev pub overdue : OpenDriver
overdue = record idle { stage = Expired }
