use Rattle.std.proofs.Common.{◌≡◌, ◌++◌, ◌∷◌, ap, rules}
use Rattle.std.specs.List.{flat_map}
use Rattle.live_views.specs.Showing.{attachment_text}
use Rattle.script_text.proofs.PageLemmas.{lacks_piece, next_piece}
use Rattle.live_views.proofs.spaces.put_attachments.Goals as goal

pub loop-first-preserved : goal.loop-first-preserved
loop-first-preserved g c =
    let joined : c.loop-first.rest.now ≡ c.in-Some.first.now ∷ c.in-Some.behind.now = search rules in
    next_piece _ _ (attachment_text c.in-Some.first.now) (flat_map attachment_text c.in-Some.behind.now)
    (flat_map attachment_text c.loop-first.rest.now) _
    c.in_ok-put_attachment.ensures (ap (flat_map attachment_text) joined) c.loop-first.invariant

pub returns-in_err-put_attachment : goal.returns-in_err-put_attachment
returns-in_err-put_attachment g c =
    let joined : c.loop-first.rest.now ≡ c.in-Some.first.now ∷ c.in-Some.behind.now = search rules in
    lacks_piece g.P.Page.room c.from_residual.result (g.P.Page.written c.loop-first.page)
    (attachment_text c.in-Some.first.now) (flat_map attachment_text c.in-Some.behind.now)
    (flat_map attachment_text c.loop-first.rest.now) (g.P.Page.written c.args.page.now)
    (flat_map attachment_text c.args.attachments.now) (g.P.Page.written c.put_attachment.new.page) (search rules)
    c.in_err-put_attachment.ensures (ap (flat_map attachment_text) joined) c.loop-first.invariant
