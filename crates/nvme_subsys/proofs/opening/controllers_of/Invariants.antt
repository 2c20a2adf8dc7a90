use Rattle.std.proofs.Common.{◌≡◌, take, map, length}
use Rattle.std.specs.Prelude.{vec_capacity, vec_len}
use Rattle.nvme_spec.specs.declared.config.ControllerConfig.{ControllerConfig}
use Rattle.nvme_machine.specs.Controllers.{new_controller}
use Rattle.nvme_subsys.proofs.opening.controllers_of.Given as goal

-- the controllers so far, with memory for the rest
abbrev pub invariant-loop-config : goal.invariant-loop-config
invariant-loop-config l = record {
  made : l.controllers.items ≡ map (λ (k : ControllerConfig). new_controller k.cntlid) (take l.config-index l.configs);
  so_far : vec_len l.controllers ≡ l.config-index;
  room : vec_capacity l.controllers ≡ length l.configs;
}
