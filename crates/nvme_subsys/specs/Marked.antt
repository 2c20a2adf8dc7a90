-- Marks of removed hosts' commands, controller by controller.
use Rattle.std.specs.Prelude.{ℕ, List, if◌then◌else◌}
use Rattle.nvme_spec.specs.declared.outcome.Marks.{Marks}
use Rattle.nvme_spec.specs.World.{World, host_of}
use Rattle.nvme_machine.specs.Controllers.{Controller, with_marks}
use Rattle.nvme_machine.specs.Subsystems.{is_host_among, marked_from}
use Rattle.nvme_machine.specs.declared.seen.Executed.{Executed}
use Rattle.nvme_machine.specs.declared.seen.Executed.TheVariants.{Posted, NoSuch, CqFull}

-- controller k, marked if its host is among the removed ones
abbrev pub marked_for : World → Marks → ℕ → Controller → Controller
marked_for w m k c = if is_host_among m.hosts.items (host_of w k) then with_marks m.nsid c else c

-- the controllers after an execution with this result
abbrev pub marks_after : World → Executed → List Controller → List Controller
marks_after w (Posted o) cs = marked_from w o.marks 1 cs
marks_after w NoSuch cs = cs
marks_after w CqFull cs = cs
