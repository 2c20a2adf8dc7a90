use Rattle.std.proofs.Common.{◌≡◌}
use Rattle.nvme_prp.proofs.AllPieces.{Gathering}
use Rattle.nvme_prp.proofs.whole.gather.Given as goal

abbrev pub invariant-loop-piece : goal.invariant-loop-piece
invariant-loop-piece l = record {
  items : l.piece-items ≡ l.pieces.parts.items;
  gathering : Gathering l.window l.pieces.parts.items l.piece-index l.filled l.bytes;
}
