use Rattle.std.proofs.Common.{◌≡◌, length}
use Rattle.nvme_spec.specs.Attachments.{are_controllers_above}
use Rattle.nvme_ns.proofs.spaces.Spaces.names_controllers.Given as goal

-- the remaining controllers decide
abbrev pub invariant-loop-cntlid : goal.invariant-loop-cntlid
invariant-loop-cntlid l = are_controllers_above l.self l.before l.rest ≡ are_controllers_above l.self 0 l.controllers

abbrev pub decreases-loop-cntlid : goal.decreases-loop-cntlid
decreases-loop-cntlid l = length l.rest
