use Rattle.nvme_fleet.proofs.Words.{◌≡◌, take, map, length, vec_capacity, vec_len, opening_driver}
use Rattle.nvme_fleet.proofs.opening.drivers_of.Given as goal

-- the drivers so far, with memory for the rest
abbrev pub invariant-loop-config : goal.invariant-loop-config
invariant-loop-config l = record {
  made : l.drivers.items ≡ map opening_driver (take l.config-index l.configs);
  so_far : vec_len l.drivers ≡ l.config-index;
  room : vec_capacity l.drivers ≡ length l.configs;
}
