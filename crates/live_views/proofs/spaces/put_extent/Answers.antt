use Rattle.std.proofs.Common.{◌≡◌, ◌++◌, codes, decimal, refl}
use Rattle.live_views.proofs.Spelling.{ends}
use Rattle.live_views.proofs.spaces.put_extent.Goals as goal

pub returns : goal.returns
returns g c =
    let front = codes " first " ++ decimal c.args.first in
    let parts : codes " first " ++ decimal c.args.first ++ codes " blocks " ++ decimal c.args.blocks
    ≡ (front ++ codes " blocks ") ++ decimal c.args.blocks = refl in
    ends g.P.Page.room c.put_labelled-2.result
    (g.P.Page.written c.args.page.now) (g.P.Page.written c.put_labelled.new.page) front (codes " blocks ")
    (decimal c.args.blocks) (codes " first " ++ decimal c.args.first ++ codes " blocks " ++ decimal c.args.blocks)
    (g.P.Page.written c.put_labelled-2.new.page)
    c.in_ok-put_labelled.ensures parts c.put_labelled-2.ensures
