-- An execution by its answer and its changes, for the contract of `execute_admin`.
use Rattle.std.specs.Prelude.{ℕ, List}
use Rattle.nvme_spec.specs.World.{World}
use Rattle.nvme_spec.specs.AdminEffects.{AdminExecution}
use Rattle.nvme_admin.specs.declared.outcome.AdminOutcome.{AdminOutcome}

abbrev pub execution_of : AdminOutcome → World → List ℕ → AdminExecution
execution_of o w memory = record {
  status = o.status;
  dw0 = o.dw0;
  rule = o.rule;
  change = o.change;
  world = w;
  window = memory;
}
