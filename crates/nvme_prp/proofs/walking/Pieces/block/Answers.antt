use Rattle.std.proofs.Common.{◌-◌, length, arith, ap, ◌∙◌}
use Rattle.std.specs.List.{slice_index_or}
use Rattle.std.proofs.lemmas.List.{append-nil}
use Rattle.nvme_prp.specs.BlockPlaces.{no_piece}
use Rattle.nvme_prp.proofs.PageBlocks.{begins, goes-on, lies-in_two, lies-in_one, addresses-short}
use Rattle.nvme_prp.proofs.walking.Pieces.block.Goals as goal

pub overflow_mul-j : goal.overflow_mul-j
overflow_mul-j c =
    let short = addresses-short _ c.args.self.now.pages in
    let size = ap length c.as_slice-parts.ensures.value in
    let few = c.as_slice-parts.ensures.fits in
    record { fits = omega (arith, c.requires.inside) }

pub overflow_add-address : goal.overflow_add-address
overflow_add-address c =
    let b =
    begins _ _ _ _ _ no_piece c.as_slice-parts.ensures.value c.args.self.now.pages c.byte_place-i.ensures.place in
    let s = b.skip_fits in let f = b.inside in
    record { fits = omega arith }

pub bounds-parts-i-else-len-ge-BLOCK : goal.bounds-parts-i-else-len-ge-BLOCK
bounds-parts-i-else-len-ge-BLOCK c =
    let part = c.if-len-ge-BLOCK.false in
    (goes-on _ _ _ _ _ _ no_piece c.as_slice-parts.ensures.value c.args.self.now.pages c.byte_place-i.ensures.place
    (omega arith) part c.requires.inside).0

pub returns-then-len-ge-BLOCK-clause-addresses : goal.returns-then-len-ge-BLOCK-clause-addresses
returns-then-len-ge-BLOCK-clause-addresses c =
    let whole = c.if-len-ge-BLOCK.true in
    lies-in_one _ _ _ _ _ 512 no_piece c.as_slice-parts.ensures.value c.args.self.now.pages c.byte_place-i.ensures.place
    (omega arith) (omega arith) c.requires.inside
    ∙ append-nil _

pub returns-then-len-ge-BLOCK-clause-lies : goal.returns-then-len-ge-BLOCK-clause-lies
returns-then-len-ge-BLOCK-clause-lies c =
    let b =
    begins _ _ _ _ _ no_piece c.as_slice-parts.ensures.value c.args.self.now.pages c.byte_place-i.ensures.place in
    let s = b.skip_fits in let f = b.inside in let whole = c.if-len-ge-BLOCK.true in
    omega arith

pub returns-else-len-ge-BLOCK-clause-addresses : goal.returns-else-len-ge-BLOCK-clause-addresses
returns-else-len-ge-BLOCK-clause-addresses c =
    let part = c.if-len-ge-BLOCK.false in
    lies-in_two _ _ _ _ _
    ((slice_index_or c.as_slice-parts.result.now c.byte_place-i.result.0 no_piece).len - c.byte_place-i.result.1)
    no_piece c.as_slice-parts.ensures.value c.args.self.now.pages c.byte_place-i.ensures.place
    (omega arith) c.requires.inside

pub returns-else-len-ge-BLOCK-clause-lies : goal.returns-else-len-ge-BLOCK-clause-lies
returns-else-len-ge-BLOCK-clause-lies c =
    let b =
    begins _ _ _ _ _ no_piece c.as_slice-parts.ensures.value c.args.self.now.pages c.byte_place-i.ensures.place in
    let s = b.skip_fits in let f = b.inside in
    let part = c.if-len-ge-BLOCK.false in
    let more = goes-on _ _ _ _ _ _ no_piece c.as_slice-parts.ensures.value c.args.self.now.pages
    c.byte_place-i.ensures.place (omega arith) part c.requires.inside in
    (omega arith, part, omega arith, more.1)
