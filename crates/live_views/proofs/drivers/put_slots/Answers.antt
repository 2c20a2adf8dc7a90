use Rattle.std.proofs.Common.{◌≡◌, ◌++◌, ◌∷◌, ap, rules}
use Rattle.std.specs.List.{flat_map}
use Rattle.live_views.specs.Showing.{slot_text}
use Rattle.script_text.proofs.PageLemmas.{lacks_piece, next_piece}
use Rattle.live_views.proofs.drivers.put_slots.Goals as goal

pub loop-first-preserved : goal.loop-first-preserved
loop-first-preserved g c =
    let joined : c.loop-first.rest.now ≡ c.in-Some.first.now ∷ c.in-Some.behind.now = search rules in
    next_piece _ _ (slot_text c.in-Some.first.now) (flat_map slot_text c.in-Some.behind.now)
    (flat_map slot_text c.loop-first.rest.now) _
    c.in_ok-put_slot.ensures (ap (flat_map slot_text) joined) c.loop-first.invariant

pub returns-in_err-put_slot : goal.returns-in_err-put_slot
returns-in_err-put_slot g c =
    let joined : c.loop-first.rest.now ≡ c.in-Some.first.now ∷ c.in-Some.behind.now = search rules in
    lacks_piece g.P.Page.room c.from_residual.result (g.P.Page.written c.loop-first.page)
    (slot_text c.in-Some.first.now) (flat_map slot_text c.in-Some.behind.now) (flat_map slot_text c.loop-first.rest.now)
    (g.P.Page.written c.args.page.now) (flat_map slot_text c.args.slots.now) (g.P.Page.written c.put_slot.new.page)
    (search rules)
    c.in_err-put_slot.ensures (ap (flat_map slot_text) joined) c.loop-first.invariant
