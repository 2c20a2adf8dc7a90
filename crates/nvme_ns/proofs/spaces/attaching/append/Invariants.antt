use Rattle.std.proofs.Common.{◌≡◌, ◌+◌, ◌++◌, length, take, map}
use Rattle.nvme_ns.proofs.spaces.attaching.append.Given as goal

abbrev pub invariant-loop-cntlid : goal.invariant-loop-cntlid
invariant-loop-cntlid l = record {
  so_far : l.attachments.items ≡ l.fn.attachments.items ++ map (λ cntlid. (cntlid, l.nsid))
      (take l.cntlid-index l.controllers);
  counted : length l.attachments.items ≡ length l.fn.attachments.items + l.cntlid-index;
}
