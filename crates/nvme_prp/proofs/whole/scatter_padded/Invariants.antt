use Rattle.std.proofs.Common.{◌≡◌}
use Rattle.nvme_spec.specs.Transfers.{addresses}
use Rattle.nvme_prp.proofs.AllPieces.{Scattering, padded}
use Rattle.nvme_prp.proofs.whole.scatter_padded.Given as goal

abbrev pub invariant-loop-piece : goal.invariant-loop-piece
invariant-loop-piece l = record {
  items : l.piece-items ≡ l.pieces.parts.items;
  scattering : Scattering l.fn.window l.pieces.parts.items l.piece-index l.sent l.window
      (padded l.front (addresses l.pieces.parts.items));
}
