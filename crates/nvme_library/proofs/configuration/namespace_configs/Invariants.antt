use Rattle.std.proofs.Common.{◌≡◌, take, map}
use Rattle.nvme_library.specs.Given.{namespace_of}
use Rattle.nvme_library.proofs.configuration.namespace_configs.Given as goal

abbrev pub invariant-loop-namespace : goal.invariant-loop-namespace
invariant-loop-namespace l = l.configs.items ≡ map namespace_of (take l.namespace-index l.namespaces)
