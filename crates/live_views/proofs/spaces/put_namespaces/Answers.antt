use Rattle.std.proofs.Common.{◌≡◌, ◌++◌, ◌∷◌, ap, rules}
use Rattle.std.specs.List.{flat_map}
use Rattle.live_views.specs.Showing.{namespace_text}
use Rattle.script_text.proofs.PageLemmas.{lacks_piece, next_piece}
use Rattle.live_views.proofs.spaces.put_namespaces.Goals as goal

pub loop-first-preserved : goal.loop-first-preserved
loop-first-preserved g c =
    let joined : c.loop-first.rest.now ≡ c.in-Some.first.now ∷ c.in-Some.behind.now = search rules in
    next_piece _ _ (namespace_text c.in-Some.first.now) (flat_map namespace_text c.in-Some.behind.now)
    (flat_map namespace_text c.loop-first.rest.now) _
    c.in_ok-put_namespace.ensures (ap (flat_map namespace_text) joined) c.loop-first.invariant

pub returns-in_err-put_namespace : goal.returns-in_err-put_namespace
returns-in_err-put_namespace g c =
    let joined : c.loop-first.rest.now ≡ c.in-Some.first.now ∷ c.in-Some.behind.now = search rules in
    lacks_piece g.P.Page.room c.from_residual.result (g.P.Page.written c.loop-first.page)
    (namespace_text c.in-Some.first.now) (flat_map namespace_text c.in-Some.behind.now)
    (flat_map namespace_text c.loop-first.rest.now) (g.P.Page.written c.args.page.now)
    (flat_map namespace_text c.args.namespaces.now) (g.P.Page.written c.put_namespace.new.page) (search rules)
    c.in_err-put_namespace.ensures (ap (flat_map namespace_text) joined) c.loop-first.invariant
