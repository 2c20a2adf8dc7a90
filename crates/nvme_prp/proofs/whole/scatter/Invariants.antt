use Rattle.std.proofs.Common.{◌≡◌}
use Rattle.nvme_prp.proofs.AllPieces.{Scattering}
use Rattle.nvme_prp.proofs.whole.scatter.Given as goal

abbrev pub invariant-loop-piece : goal.invariant-loop-piece
invariant-loop-piece l = record {
  items : l.piece-items ≡ l.pieces.parts.items;
  scattering : Scattering l.fn.window l.pieces.parts.items l.piece-index l.sent l.window l.bytes;
}
