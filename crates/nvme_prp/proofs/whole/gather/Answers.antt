use Rattle.std.proofs.Common.{length, arith, ap, ◌∙◌, refl}
use Rattle.nvme_spec.specs.declared.pointer.Piece.{Piece}
use Rattle.nvme_prp.proofs.AllPieces.{gathering-fits, piece-fits, gathering-turn, gathering-end}
use Rattle.nvme_prp.proofs.whole.gather.Goals as goal

abbrev blank : Piece
blank = record { address = 0; len = 0 }

pub overflow_add-end : goal.overflow_add-end
overflow_add-end c =
    let inside = piece-fits _ _ _ blank c.loop-piece.invariant.items c.args.pieces.now.pages c.loop-piece-test.true in
    let room = gathering-fits _ _ _ _ _ _ blank c.loop-piece.invariant.items c.loop-piece.invariant.gathering
    c.loop-piece-test.true in
    record { fits = omega arith }

pub slice_bounds-copy_from_slice-end : goal.slice_bounds-copy_from_slice-end
slice_bounds-copy_from_slice-end c =
    let room = gathering-fits _ _ _ _ _ _ blank c.loop-piece.invariant.items c.loop-piece.invariant.gathering
    c.loop-piece-test.true in
    omega arith

pub bytes-requires : goal.bytes-requires
bytes-requires c = record {
  inside = piece-fits _ _ _ blank c.loop-piece.invariant.items c.args.pieces.now.pages c.loop-piece-test.true;
}

pub loop-piece-preserved : goal.loop-piece-preserved
loop-piece-preserved c =
    let e = c.loop-piece.invariant.items in
    let index = c.loop-piece-test.true in
    record {
      items = e;
      gathering =
          rw e
          (gathering-turn _ _ _ _ _ _ _ _ blank c.args.pieces.now.pages c.bytes.ensures.whole_len
          c.loop-piece.invariant.gathering (omega (arith, ap length e)) refl (omega arith)
          (rw e at (c.copy_from_slice.ensures.after ∙ c.bytes.ensures.bytes)));
    }

pub returns : goal.returns
returns c =
    let e = c.loop-piece.invariant.items in
    let last = c.loop-piece-test.false in
    record { bytes = gathering-end _ _ _ _ _ c.loop-piece.invariant.gathering (omega (arith, ap length e)) }
