use Rattle.nvme_fleet.proofs.Words.{◌≡◌, ◌++◌, map, take, drop, option_map, after_reset}
use Rattle.nvme_fleet.proofs.power.reset_all.Given as goal

-- the drivers before i were reset, and the subsystem is unchanged
abbrev pub invariant-loop-i : goal.invariant-loop-i
invariant-loop-i g l = record {
  reset : l.drivers ≡ map (option_map after_reset) (take l.i l.initial.drivers) ++ drop l.i l.initial.drivers;
  state : l.subsystem.state ≡ l.initial.subsystem.state;
  medium : l.subsystem.medium ≡ l.initial.subsystem.medium;
}
