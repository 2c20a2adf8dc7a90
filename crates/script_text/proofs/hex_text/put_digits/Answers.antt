use Rattle.std.proofs.Common.{◌≡◌, ◌+◌, ◌<◌, ◌++◌, ◌∙◌, length, take-append-drop, sym, ap, subst, rules}
use Rattle.std.specs.List.{flat_map}
use Rattle.std.proofs.lemmas.Grind.{flat_map-append}
use Rattle.script_text.specs.HexText.{hex_pair}
use Rattle.script_text.specs.Pages.{Adds}
use Rattle.script_text.proofs.PageLemmas.{lacks_piece, next_piece, puts_last}
use Rattle.script_text.proofs.hex_text.put_digits.Goals as goal

pub loop-chunk-preserved : goal.loop-chunk-preserved
loop-chunk-preserved g c =
    let chunk = c.in-Some.chunk.now in
    let behind = c.in-Some.behind.now in
    let ends = c.in-Some.ensures.cases in
    let joined : chunk ++ behind ≡ c.loop-chunk.rest.now =
    rw (ends.0, ends.1) (take-append-drop 128 c.loop-chunk.rest.now) in
    next_piece (g.P.Page.written c.loop-chunk.page) (g.P.Page.written c.put_str.new.self) (flat_map hex_pair chunk)
    (flat_map hex_pair behind) (flat_map hex_pair c.loop-chunk.rest.now) _
    (c.in_ok-put_str.ensures ∙ ap (λ t. g.P.Page.written c.loop-chunk.page ++ t) c.text_of_chunk.ensures)
    (ap (flat_map hex_pair) (sym joined) ∙ flat_map-append hex_pair chunk behind) c.loop-chunk.invariant

pub returns-in_err-put_str : goal.returns-in_err-put_str
returns-in_err-put_str g c =
    let chunk = c.in-Some.chunk.now in
    let behind = c.in-Some.behind.now in
    let ends = c.in-Some.ensures.cases in
    let joined : chunk ++ behind ≡ c.loop-chunk.rest.now =
    rw (ends.0, ends.1) (take-append-drop 128 c.loop-chunk.rest.now) in
    lacks_piece g.P.Page.room c.from_residual.result (g.P.Page.written c.loop-chunk.page) (flat_map hex_pair chunk)
    (flat_map hex_pair behind) (flat_map hex_pair c.loop-chunk.rest.now) (g.P.Page.written c.args.page.now)
    (flat_map hex_pair c.args.bytes.now) (g.P.Page.written c.put_str.new.self) (search rules)
    (subst (λ t. g.P.Page.room < length (g.P.Page.written c.loop-chunk.page) + length t) c.text_of_chunk.ensures
    c.in_err-put_str.ensures)
    (ap (flat_map hex_pair) (sym joined) ∙ flat_map-append hex_pair chunk behind) c.loop-chunk.invariant

pub returns : goal.returns
returns g c =
    puts_last g.P.Page.room c.put_str-2.result (g.P.Page.written c.loop-chunk.page)
    (flat_map hex_pair c.loop-chunk.rest.now) (g.P.Page.written c.args.page.now) (flat_map hex_pair c.args.bytes.now)
    (g.P.Page.written c.put_str-2.new.self)
    c.loop-chunk.invariant (subst (λ t. Adds g.P.Page.room c.put_str-2.result (g.P.Page.written c.loop-chunk.page) t
    (g.P.Page.written c.put_str-2.new.self)) c.text_of.ensures c.put_str-2.ensures)
