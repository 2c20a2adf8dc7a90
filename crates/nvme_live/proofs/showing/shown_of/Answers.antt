use Rattle.std.proofs.Common.{◌∙◌, sym}
use Rattle.nvme_fleet.specs.FleetStates.{layers_of}
use Rattle.live_views.proofs.Named.{shown-of}
use Rattle.nvme_live.proofs.Turns.{shown-other}
use Rattle.nvme_live.proofs.showing.shown_of.Goals as goal

pub returns-in_default : goal.returns-in_default
returns-in_default g c =
    let n = c.args.number in
    let looking = c.args.looking in
    let l = layers_of c.args.fleet.now.state in
    shown-of n looking l.subsystem _ _ _ c.shown_in.ensures c.named.ensures c.spaces.ensures
    ∙ sym (shown-other n looking l c.in_default.not-Driver)
