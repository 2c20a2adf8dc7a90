use Rattle.std.proofs.Common.{◌≡◌, drop}
use Rattle.std.specs.Prelude.{None}
use Rattle.nvme_fabrics.specs.Places.{best_of}
use Rattle.nvme_fabrics.proofs.choosing.free_controller.Given as goal

-- what the controllers left come to is what all of them come to
abbrev pub invariant-loop-i : goal.invariant-loop-i
invariant-loop-i l =
    best_of l.host_id None 0 l.controllers l.counts
    ≡ best_of l.host_id l.best l.i (drop l.i l.controllers) (drop l.i l.counts)
