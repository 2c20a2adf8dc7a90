use Rattle.std.proofs.Common.{◌≡◌, ◌+◌, ◌/◌}
use Rattle.nvme_prp.specs.Walk.{list_of}
use Rattle.nvme_prp.proofs.Turns.{Reached}
use Rattle.nvme_prp.proofs.walking.walk_list.Given as goal

abbrev pub invariant-loop-j : goal.invariant-loop-j
invariant-loop-j l = record {
  count : l.pages ≡ (l.fn.rest + 4095) / 4096;
  reached :
      Reached (list_of l.fn.window l.fn.start l.fn.rest) l.fn.rest l.j l.left l.slot l.fn.parts.items l.parts.items;
}
