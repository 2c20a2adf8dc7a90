use Rattle.std.proofs.Common.{length, get_or, ◌+◌, ◌≤◌, arith, ap, refl}
use Rattle.nvme_spec.specs.declared.pointer.Piece.{Piece}
use Rattle.nvme_spec.specs.Transfers.{addresses}
use Rattle.nvme_prp.proofs.AllPieces.{
  scattering-fits,
  piece-fits,
  scattering-turn,
  scattering-end,
  length-padded,
  padded-turn,
}
use Rattle.nvme_prp.proofs.PageBlocks.{addresses-short}
use Rattle.nvme_prp.proofs.whole.scatter_padded.Goals as goal

abbrev blank : Piece
blank = record { address = 0; len = 0 }

pub overflow_add-end : goal.overflow_add-end
overflow_add-end c =
    let inside = piece-fits _ _ _ blank c.loop-piece.invariant.items c.args.pieces.now.pages c.loop-piece-test.true in
    let room = scattering-fits _ _ _ _ _ _ _ blank c.loop-piece.invariant.items c.loop-piece.invariant.scattering
    c.loop-piece-test.true in
    let all = length-padded c.args.front.now (addresses c.args.pieces.now.parts.items) c.requires.size in
    let short = addresses-short _ c.args.pieces.now.pages in
    let size = ap length c.as_slice-piece-items.ensures.value in
    let few = c.as_slice-piece-items.ensures.fits in
    record { fits = omega arith }

pub bytes_mut-requires : goal.bytes_mut-requires
bytes_mut-requires c = record {
  inside = piece-fits _ _ _ blank c.loop-piece.invariant.items c.args.pieces.now.pages c.loop-piece-test.true;
}

pub loop-piece-preserved : goal.loop-piece-preserved
loop-piece-preserved c =
    let e = c.loop-piece.invariant.items in
    let index = c.loop-piece-test.true in
    let room = scattering-fits _ _ _ _ _ _ _ blank e c.loop-piece.invariant.scattering index in
    let all = length-padded c.args.front.now (addresses c.args.pieces.now.parts.items) c.requires.size in
    let within : c.loop-piece.sent + (get_or c.as_slice-piece-items.result.now c.loop-piece.piece-index blank).len
    ≤ length (addresses c.args.pieces.now.parts.items) = omega (arith, room, all) in
    record {
      items = e;
      scattering =
          rw e
          (scattering-turn _ _ _ _ _ _ _ _ _ blank c.args.pieces.now.pages c.bytes_mut.ensures.whole_len
          c.loop-piece.invariant.scattering (omega (arith, ap length e)) refl refl
          (padded-turn c.args.front.now (addresses c.args.pieces.now.parts.items) c.copy_padded.new.part
          c.loop-piece.sent _ c.min.result c.min-in-loop-piece.result (length c.bytes_mut.result.now)
          c.requires.size (rw e at within) c.min.ensures (rw e at c.min-in-loop-piece.ensures)
          (rw e at c.bytes_mut.ensures.len) c.copy_padded.ensures));
    }

pub returns : goal.returns
returns c =
    let e = c.loop-piece.invariant.items in
    let last = c.loop-piece-test.false in
    record { window = scattering-end _ _ _ _ _ _ c.loop-piece.invariant.scattering (omega (arith, ap length e)) }
