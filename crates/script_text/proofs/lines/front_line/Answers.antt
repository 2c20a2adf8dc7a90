use Rattle.std.proofs.Common.{◌≡◌, [], ◌∷◌, length, take, drop, sym, ap, ◌∙◌, rules}
use Rattle.std.specs.List.{prefix_len}
use Rattle.std.proofs.lemmas.List.Sums.{prefix_len-le-length}
use Rattle.script_text.specs.Lines.{is_of_line, text_lines}
use Rattle.script_text.proofs.LineLemmas.{first_line, lines_behind, no-lines, rest-is-end}
use Rattle.script_text.proofs.LineLengths.{longest-first, longest-behind}
use Rattle.script_text.proofs.lines.front_line.Goals as goal

pub split_at-requires : goal.split_at-requires
split_at-requires c = rw c.line_len.ensures (prefix_len-le-length is_of_line c.args.text.now)

pub returns-in-Some-clause-lines : goal.returns-in-Some-clause-lines
returns-in-Some-clause-lines c =
    let text = c.args.text.now in
    let n = prefix_len is_of_line text in
    let front = c.split_at.ensures.front ∙ ap (λ k. take k text) c.line_len.ensures in
    let back = c.split_at.ensures.back ∙ ap (λ k. drop k text) c.line_len.ensures in
    let parts : c.split_at.result.1.now ≡ c.in-Some.field-0-0.now ∷ c.in-Some.rest.now = search rules in
    first_line text ∙ ap (λ t. t ∷ lines_behind (drop n text)) (sym front)
    ∙ ap (λ t. c.split_at.result.0.now ∷ lines_behind t) (sym back ∙ parts)

pub returns-in-None-clause-lines : goal.returns-in-None-clause-lines
returns-in-None-clause-lines c =
    let text = c.args.text.now in
    let n = prefix_len is_of_line text in
    let front = c.split_at.ensures.front ∙ ap (λ k. take k text) c.line_len.ensures in
    let back = c.split_at.ensures.back ∙ ap (λ k. drop k text) c.line_len.ensures in
    let none : length c.split_at.result.1.now ≡ 0 = search rules in
    first_line text ∙ ap (λ t. t ∷ lines_behind (drop n text)) (sym front)
    ∙ ap (λ ls. c.split_at.result.0.now ∷ ls) (ap lines_behind (sym back) ∙ no-lines c.split_at.result.1.now none)

pub returns-in-Some-clause-end : goal.returns-in-Some-clause-end
returns-in-Some-clause-end c =
    let text = c.args.text.now in
    let n = c.line_len.result in
    let parts : c.split_at.result.1.now ≡ c.in-Some.field-0-0.now ∷ c.in-Some.rest.now = search rules in
    let whole : drop n text ≡ c.in-Some.field-0-0.now ∷ c.in-Some.rest.now = sym c.split_at.ensures.back ∙ parts in
    rest-is-end text n c.in-Some.field-0-0.now c.in-Some.rest.now whole

pub returns-in-Some-clause-longest : goal.returns-in-Some-clause-longest
returns-in-Some-clause-longest c = longest-first c.args.text.now c.split_at.result.0.now (text_lines c.in-Some.rest.now)
    (returns-in-Some-clause-lines c)

pub returns-in-None-clause-longest : goal.returns-in-None-clause-longest
returns-in-None-clause-longest c =
    longest-first c.args.text.now c.split_at.result.0.now [] (returns-in-None-clause-lines c)

pub returns-in-Some-clause-left : goal.returns-in-Some-clause-left
returns-in-Some-clause-left c = longest-behind c.args.text.now c.split_at.result.0.now (text_lines c.in-Some.rest.now)
    (returns-in-Some-clause-lines c)
