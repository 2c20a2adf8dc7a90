use Rattle.std.proofs.Common.{◌≡◌, length}
use Rattle.nvme_spec.specs.Rules.{first_failure}
use Rattle.nvme_spec.specs.Attachments.{detach_each}
use Rattle.nvme_ns.proofs.spaces.Spaces.check_detachable.Given as goal

-- the remaining controllers decide
abbrev pub invariant-loop-cntlid : goal.invariant-loop-cntlid
invariant-loop-cntlid l =
    first_failure (detach_each l.self l.nsid l.rest) ≡ first_failure (detach_each l.self l.nsid l.controllers)

abbrev pub decreases-loop-cntlid : goal.decreases-loop-cntlid
decreases-loop-cntlid l = length l.rest
