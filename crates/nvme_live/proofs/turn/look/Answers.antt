use Rattle.std.proofs.Common.{ap}
use Rattle.nvme_fleet.specs.FleetStates.{layers_of}
use Rattle.nvme_subsys.specs.OverMedium.{over}
use Rattle.nvme_live.specs.Saying.{with_feed}
use Rattle.live_views.specs.Shown.{shown_by}
use Rattle.nvme_live.proofs.Turns.{shows-other}
use Rattle.nvme_live.proofs.turn.look.Goals as goal

pub returns-in_default : goal.returns-in_default
returns-in_default g c =
    let tells = g.M.Medium.tells in
    let l = over (layers_of c.args.fleet.now.state) c.args.fleet.now.medium in
    let answer = with_feed (shown_by c.shown_of.result) in (
      answer,
      shows-other g.M.Medium.step tells c.args.number c.args.looking l answer c.in_default.not-Blocks
          (ap with_feed c.shown_of.ensures),
      c.say.ensures,
    )
