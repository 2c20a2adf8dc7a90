use Rattle.std.proofs.Common.{◌≡◌, ◌++◌, codes, decimal}
use Rattle.live_views.proofs.Spelling.{ends}
use Rattle.live_views.proofs.queues.put_ends.Goals as goal

pub returns : goal.returns
returns g c =
    let front = codes " head " ++ decimal c.from.result in
    let parts : codes " head " ++ decimal c.args.head ++ codes " tail " ++ decimal c.args.tail
    ≡ (front ++ codes " tail ") ++ decimal c.from-2.result = cc in
    ends g.P.Page.room c.put_labelled-2.result
    (g.P.Page.written c.args.page.now) (g.P.Page.written c.put_labelled.new.page) front (codes " tail ")
    (decimal c.from-2.result) (codes " head " ++ decimal c.args.head ++ codes " tail " ++ decimal c.args.tail)
    (g.P.Page.written c.put_labelled-2.new.page)
    c.in_ok-put_labelled.ensures parts c.put_labelled-2.ensures
