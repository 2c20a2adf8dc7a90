use Rattle.std.proofs.Common.{◌≡◌, ◌++◌, codes, decimal}
use Rattle.std.specs.List.{flat_map}
use Rattle.live_views.specs.Showing.{hold_text, registrant_text, reservation_text}
use Rattle.script_text.proofs.PageLemmas.{puts_behind}
use Rattle.live_views.proofs.Spelling.{after, more}
use Rattle.live_views.proofs.spaces.ReservationTextSpell.spell.Goals as goal

pub returns : goal.returns
returns g c =
    let old = g.P.Page.written c.args.page.now in
    let text = c.args.self.now in
    let line = codes "reservation " ++ decimal c.from.result in
    let hold = (line ++ codes " ") ++ hold_text c.hold.result in
    let generation = (hold ++ codes " generation ") ++ decimal c.from-2.result in
    let persists = (generation ++ codes " persists ") ++ c.bit_name.result.now in
    let protected = (persists ++ codes " protected ") ++ decimal c.from-3.result in
    let registrants = flat_map registrant_text c.registrants.result.now in
    let spaced = after old (g.P.Page.written c.put_labelled.new.page) (g.P.Page.written c.put_str.new.self) line
    (codes " ") c.in_ok-put_labelled.ensures c.in_ok-put_str.ensures in
    let held = after old (g.P.Page.written c.put_str.new.self) (g.P.Page.written c.put_hold.new.page)
    (line ++ codes " ") (hold_text c.hold.result) spaced c.in_ok-put_hold.ensures in
    let counted = more old (g.P.Page.written c.put_hold.new.page) (g.P.Page.written c.put_labelled-2.new.page) hold
    (codes " generation ") (decimal c.from-2.result) held c.in_ok-put_labelled-2.ensures in
    let kept = more old (g.P.Page.written c.put_labelled-2.new.page) (g.P.Page.written c.put_both.new.page) generation
    (codes " persists ") c.bit_name.result.now counted c.in_ok-put_both.ensures in
    let guarded = more old (g.P.Page.written c.put_both.new.page) (g.P.Page.written c.put_labelled-3.new.page) persists
    (codes " protected ") (decimal c.from-3.result) kept c.in_ok-put_labelled-3.ensures in
    let parts : reservation_text text.nsid text.reservation.now text.protected ≡ protected ++ registrants = cc in
    puts_behind g.P.Page.room c.put_registrants.result old
    (g.P.Page.written c.put_labelled-3.new.page) protected registrants
    (reservation_text text.nsid text.reservation.now text.protected) (g.P.Page.written c.put_registrants.new.page)
    guarded parts c.put_registrants.ensures
