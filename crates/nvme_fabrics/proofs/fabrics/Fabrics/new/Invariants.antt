use Rattle.std.proofs.Common.{◌≡◌, map, take, length}
use Rattle.nvme_fabrics.specs.Sessions.{no_association}
use Rattle.nvme_fabrics.proofs.fabrics.Fabrics.new.Given as goal

-- the controllers before i have their hosts
abbrev pub invariant-loop-i : goal.invariant-loop-i
invariant-loop-i l =
    record {
      whole : length l.controllers ≡ 16;
      hosts : take l.i l.controllers ≡ map no_association (take l.i l.hosts);
    }
