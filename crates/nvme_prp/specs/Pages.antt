-- There is at most one proof that pieces are pages, so the proof may be a ghost field of `Pieces`.
use Rattle.std.specs.Prelude.{List, [], ◌∷◌}
use denote.Struct.Props as logic
use Rattle.nvme_spec.specs.declared.pointer.Piece.{Piece}
use Rattle.nvme_spec.specs.Transfers.{ArePages}

pub ArePages-prop : (ps : List Piece) → IsProp (ArePages ps)
unfolding ArePages
ArePages-prop [] = Prim.hlevel logic.props
ArePages-prop (p ∷ []) = Prim.hlevel logic.props
ArePages-prop (p ∷ q ∷ later) = let rest = ArePages-prop (q ∷ later) in Prim.hlevel logic.props
