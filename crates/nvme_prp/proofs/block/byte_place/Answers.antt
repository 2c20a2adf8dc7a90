use Rattle.std.proofs.Common.{arith}
use Rattle.nvme_prp.proofs.PageBlocks.{some-pieces, lies-behind}
use Rattle.nvme_prp.proofs.BlockPlaces.{in-first, in-further}
use Rattle.nvme_prp.proofs.block.byte_place.Goals as goal

pub bounds-as_slice-0 : goal.bounds-as_slice-0
bounds-as_slice-0 c = some-pieces _ _ _ c.as_slice.ensures.value c.args.pieces.now.pages c.requires

pub returns-then-at-first-clause-block : goal.returns-then-at-first-clause-block
returns-then-at-first-clause-block c =
    in-first _ _ _ c.as_slice.ensures.value c.args.pieces.now.pages c.requires c.if-at-first.true

pub returns-else-at-first : goal.returns-else-at-first
returns-else-at-first c =
    let beyond = c.if-at-first.false in
    record {
      place = lies-behind _ _ _ _ c.as_slice.ensures.value c.args.pieces.now.pages (omega arith) c.requires;
      block = in-further _ _ _ c.as_slice.ensures.value c.args.pieces.now.pages c.requires (omega arith);
    }
