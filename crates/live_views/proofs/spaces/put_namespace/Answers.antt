use Rattle.std.proofs.Common.{◌≡◌, ◌++◌, ◌∙◌, ap, codes, decimal}
use Rattle.live_views.specs.Showing.{namespace_text}
use Rattle.live_views.proofs.Spelling.{after, ends, four, more}
use Rattle.live_views.proofs.spaces.put_namespace.Goals as goal

pub returns : goal.returns
returns g c =
    let old = g.P.Page.written c.args.page.now in
    let name = codes " namespace " ++ decimal c.from.result in
    let first = decimal c.first_block.result in
    let blocks = decimal c.blocks-2.result in
    let extent = ((codes " first " ++ first) ++ codes " blocks ") ++ blocks in
    let bit = c.bit_name.result.now in
    let state = decimal c.from-2.result in
    let flat : namespace_text c.args.namespace.now
    ≡ ((((((((name ++ codes " first ") ++ first) ++ codes " blocks ") ++ blocks) ++ codes " shared ") ++ bit)
    ++ codes " protected ") ++ state) = cc in
    let placed = after old (g.P.Page.written c.put_labelled.new.page)
    (g.P.Page.written c.put_extent.new.page) name extent c.in_ok-put_labelled.ensures c.in_ok-put_extent.ensures in
    ends g.P.Page.room c.put_labelled-2.result old (g.P.Page.written c.put_both.new.page)
    (((name ++ extent) ++ codes " shared ") ++ bit) (codes " protected ") state (namespace_text c.args.namespace.now)
    (g.P.Page.written c.put_labelled-2.new.page)
    (more old (g.P.Page.written c.put_extent.new.page) (g.P.Page.written c.put_both.new.page) (name ++ extent)
    (codes " shared ") bit placed c.in_ok-put_both.ensures)
    (flat ∙ ap (λ t. (((t ++ codes " shared ") ++ bit) ++ codes " protected ") ++ state)
    (four name (codes " first ") first (codes " blocks ") blocks)) c.put_labelled-2.ensures
