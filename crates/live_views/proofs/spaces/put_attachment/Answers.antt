use Rattle.std.proofs.Common.{◌≡◌, ◌++◌, codes, decimal}
use Rattle.live_views.specs.Showing.{attachment_text}
use Rattle.live_views.proofs.Spelling.{ends}
use Rattle.live_views.proofs.spaces.put_attachment.Goals as goal

pub returns : goal.returns
returns g c =
    let front = codes " controller " ++ decimal c.from.result in
    let parts : attachment_text c.args.attachment ≡ (front ++ codes " namespace ") ++ decimal c.from-2.result = cc in
    ends g.P.Page.room c.put_labelled-2.result (g.P.Page.written c.args.page.now)
    (g.P.Page.written c.put_labelled.new.page) front (codes " namespace ") (decimal c.from-2.result)
    (attachment_text c.args.attachment) (g.P.Page.written c.put_labelled-2.new.page)
    c.in_ok-put_labelled.ensures parts c.put_labelled-2.ensures
