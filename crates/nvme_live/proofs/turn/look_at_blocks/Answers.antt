use Rattle.std.proofs.Common.{◌≡◌, ◌*◌, length, refl, ap, arith}
use Rattle.std.proofs.lemmas.List.{length-take-le}
use Rattle.nvme_fleet.specs.FleetStates.{layers_of}
use Rattle.nvme_subsys.specs.OverMedium.{over}
use Rattle.nvme_live.specs.Saying.{with_feed}
use Rattle.live_views.specs.Shown.{shown_by}
use Rattle.nvme_live.proofs.Turns.{shows-blocks}
use Rattle.nvme_live.proofs.turn.look_at_blocks.Goals as goal

pub returns : goal.returns
returns g c =
    let old = over (layers_of c.args.fleet.now.state) c.args.fleet.now.medium in
    let new = over (layers_of c.read_blocks-looked.new.self.state) c.read_blocks-looked.new.self.medium in
    let m = c.args.range.0 in
    let slba = c.args.range.1 in
    let count = c.args.range.2 in
    let bytes = c.read_blocks-looked.new.buffer in
    let long = length-take-le (512 * count) c.args.blocks.now (omega (arith, c.requires, c.if-count-gt256.false)) in
    let whole : length bytes ≡ 512 * count = omega (arith, c.read_blocks-looked.auto.buffer, long) in (
      with_feed (shown_by c.blocks_shown.result),
      shows-blocks g.M.Medium.step g.M.Medium.tells c.args.number m slba count old new _ bytes _
          c.read_blocks-looked.result _ c.if-count-eq0.false c.if-count-gt256.false (omega (arith, long)) whole
          c.read_blocks-looked.ensures.look c.read_blocks-looked.ensures.calls c.read_blocks-looked.ensures.drivers
          (ap with_feed c.blocks_shown.ensures),
      c.say.ensures,
    )
