use Rattle.std.proofs.Common.{◌≡◌, ◌++◌, ◌∙◌, ap, codes, decimal, sym}
use Rattle.live_views.specs.Showing.{hold_text}
use Rattle.script_text.proofs.PageLemmas.{puts_behind}
use Rattle.live_views.proofs.spaces.put_hold.Goals as goal

pub returns-in_ok-put_labelled-in-All : goal.returns-in_ok-put_labelled-in-All
returns-in_ok-put_labelled-in-All g c =
    let front = codes "type " ++ decimal c.from-in-All.result in
    let parts : hold_text c.args.hold ≡ front ++ codes " holder all" = ap hold_text c.in-All.is
    ∙ ap (λ n. (codes "type " ++ decimal n) ++ codes " holder all") (sym c.from-in-All.ensures) in
    puts_behind g.P.Page.room c.put_str-in-All.result (g.P.Page.written c.args.page.now)
    (g.P.Page.written c.put_labelled-in-All.new.page) front (codes " holder all") (hold_text c.args.hold)
    (g.P.Page.written c.put_str-in-All.new.self)
    c.in_ok-put_labelled-in-All.ensures parts c.put_str-in-All.ensures
