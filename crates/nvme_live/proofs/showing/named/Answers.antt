use Rattle.std.proofs.Common.{◌∙◌, sym}
use Rattle.live_views.proofs.Named.{named-found, named-none}
use Rattle.nvme_live.proofs.showing.named.Goals as goal

pub returns-in-Some : goal.returns-in-Some
returns-in-Some g c =
    named-found _ c.args.fleet.now.state.subsystem c.args.looking c.in-Some.cntlid c.controller.result
    (sym c.cntlid.ensures ∙ c.in-Some.is) c.controller.ensures.none c.controller.ensures.some

pub returns-in-None : goal.returns-in-None
returns-in-None g c = named-none c.args.fleet.now.state.subsystem c.args.looking (sym c.cntlid.ensures ∙ c.in-None.is)
