use Rattle.std.proofs.Common.{◌≡◌, ◌++◌, ◌∙◌, Some, ap, codes, decimal}
use Rattle.live_views.specs.Showing.{submission_text}
use Rattle.live_views.proofs.Spelling.{after, ends, four}
use Rattle.live_views.proofs.queues.put_submission.Goals as goal

pub returns : goal.returns
returns g c =
    let old = g.P.Page.written c.args.page.now in
    let queue = ((((codes " sq " ++ decimal c.args.qid) ++ codes " place ") ++ decimal c.base.result) ++ codes " size ")
    ++ decimal c.size.result in
    let head = decimal c.head.result in
    let tail = decimal c.tail.result in
    let both = ((codes " head " ++ head) ++ codes " tail ") ++ tail in
    let flat : submission_text c.args.qid (Some c.in-Some.queue)
    ≡ (((((queue ++ codes " head ") ++ head) ++ codes " tail ") ++ tail) ++ codes " to ")
    ++ decimal c.from.result = cc in
    ends g.P.Page.room c.put_labelled.result old (g.P.Page.written c.put_ends.new.page) (queue ++ both) (codes " to ")
    (decimal c.from.result) (submission_text c.args.qid c.args.queue) (g.P.Page.written c.put_labelled.new.page)
    (after old (g.P.Page.written c.put_queue.new.page)
    (g.P.Page.written c.put_ends.new.page) queue both c.in_ok-put_queue.ensures c.in_ok-put_ends.ensures)
    (ap (submission_text c.args.qid) c.in-Some.is ∙ flat ∙ ap (λ t. (t ++ codes " to ") ++ decimal c.from.result)
    (four queue (codes " head ") head (codes " tail ") tail)) c.put_labelled.ensures
