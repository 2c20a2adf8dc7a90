use Rattle.std.proofs.Common.{◌≡◌, ◌++◌, ap, codes, decimal, sym}
use Rattle.live_views.specs.Showing.{pair_text, queues_text}
use Rattle.script_text.proofs.PageLemmas.{puts_behind}
use Rattle.live_views.proofs.Spelling.{after}
use Rattle.live_views.proofs.queues.QueuesTextSpell.spell.Goals as goal

pub returns : goal.returns
returns g c =
    let old = g.P.Page.written c.args.page.now in
    let controller = c.args.self.now.controller.now in
    let line = codes "queues " ++ decimal c.from.result in
    let one = after old (g.P.Page.written c.put_labelled.new.page) (g.P.Page.written c.put_pair.new.page) line
    (pair_text controller 0) c.in_ok-put_labelled.ensures c.in_ok-put_pair.ensures in
    let two = after old (g.P.Page.written c.put_pair.new.page) (g.P.Page.written c.put_pair-2.new.page)
    (line ++ pair_text controller 0) (pair_text controller 1) one c.in_ok-put_pair-2.ensures in
    let three = after old (g.P.Page.written c.put_pair-2.new.page)
    (g.P.Page.written c.put_pair-3.new.page) ((line ++ pair_text controller 0) ++ pair_text controller 1)
    (pair_text controller 2) two c.in_ok-put_pair-3.ensures in
    let four = after old (g.P.Page.written c.put_pair-3.new.page) (g.P.Page.written c.put_pair-4.new.page)
    (((line ++ pair_text controller 0) ++ pair_text controller 1) ++ pair_text controller 2)
    (pair_text controller 3) three c.in_ok-put_pair-4.ensures in
    puts_behind g.P.Page.room c.put_pair-5.result old (g.P.Page.written c.put_pair-4.new.page)
    ((((line ++ pair_text controller 0) ++ pair_text controller 1) ++ pair_text controller 2) ++ pair_text controller 3)
    (pair_text controller 4) (queues_text c.args.self.now.cntlid controller) (g.P.Page.written c.put_pair-5.new.page)
    four (ap (λ n. (((((codes "queues " ++ decimal n) ++ pair_text controller 0) ++ pair_text controller 1) ++ pair_text
    controller 2) ++ pair_text controller 3) ++ pair_text controller 4) (sym c.from.ensures)) c.put_pair-5.ensures
