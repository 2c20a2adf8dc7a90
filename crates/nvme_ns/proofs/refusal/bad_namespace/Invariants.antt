use Rattle.std.proofs.Common.{◌≡◌, [], take, drop}
use Rattle.nvme_ns.specs.declared.refusal.SetupLine.TheVariants.{Namespace}
use Rattle.nvme_ns.specs.Refusals.{first_line, namespace_breaks}
use Rattle.nvme_ns.proofs.refusal.bad_namespace.Given as goal

-- the remaining lines decide
abbrev pub invariant-loop-i : goal.invariant-loop-i
invariant-loop-i l = first_line Namespace namespace_breaks (take l.i l.namespaces) (drop l.i l.namespaces)
    ≡ first_line Namespace namespace_breaks [] l.namespaces
