use Rattle.std.proofs.Common.{◌≡◌, ◌*◌, ◌/◌, length, inl, arith}
use Rattle.live_views.specs.Shown.{shown_by}
use Rattle.nvme_library.proofs.LookingLines.{shows-blocks}
use Rattle.nvme_library.proofs.looking_line.answer_blocks.Goals as goal

pub returns : goal.returns
returns c =
    let place = c.args.range in
    let x = c.read_blocks-looked in
    inl (
      shown_by c.blocks_shown.result,
      shows-blocks c.args.number place.0 place.1 place.2 _ c.args.subsystem.now x.new.self _ x.new.buffer _ x.result
          c.if-count-eq0.false c.if-count-gt256.false (omega (arith, c.in-Ok.ensures))
          (omega (arith, c.in-Ok.ensures)) x.ensures.look x.ensures.calls c.blocks_shown.ensures,
      c.answer_with-2.ensures,
    )
