use Rattle.std.proofs.Common.{◌≡◌, ◌∷◌, ap, rules}
use Rattle.std.specs.List.{flat_map}
use Rattle.library_text.specs.ConfigLines.{namespace_line}
use Rattle.script_text.proofs.PageLemmas.{lacks_piece, next_piece}
use Rattle.library_text.proofs.configuration.put_namespaces.Goals as goal

pub loop-first-preserved : goal.loop-first-preserved
loop-first-preserved g c =
    let joined : c.loop-first.rest.now ≡ c.in-Some.first.now ∷ c.in-Some.behind.now = search rules in
    next_piece _ _ (namespace_line c.in-Some.first.now) (flat_map namespace_line c.in-Some.behind.now)
    (flat_map namespace_line c.loop-first.rest.now) _
    c.in_ok-put_ended.ensures (ap (flat_map namespace_line) joined) c.loop-first.invariant

pub returns-in_err-put_ended : goal.returns-in_err-put_ended
returns-in_err-put_ended g c =
    let joined : c.loop-first.rest.now ≡ c.in-Some.first.now ∷ c.in-Some.behind.now = search rules in
    lacks_piece g.P.Page.room c.from_residual.result (g.P.Page.written c.loop-first.page)
    (namespace_line c.in-Some.first.now) (flat_map namespace_line c.in-Some.behind.now)
    (flat_map namespace_line c.loop-first.rest.now) (g.P.Page.written c.args.page.now)
    (flat_map namespace_line c.args.namespaces.now) (g.P.Page.written c.put_ended.new.page) (search rules)
    c.in_err-put_ended.ensures (ap (flat_map namespace_line) joined) c.loop-first.invariant
