use Rattle.std.proofs.Common.{◌≡◌, ◌∷◌, length, drop, true, sym, ap, ◌∙◌, rules, arith}
use Rattle.script_text.specs.Words.{line_words, is_line_text, is_separator}
use Rattle.script_text.proofs.WordLemmas.{separator-words, separator-text}
use Rattle.script_text.proofs.FrontLemmas.{stops-end, stops-separator, front-text, front-number}
use Rattle.script_text.proofs.front.decimal_number.Goals as goal

pub returns-in-None-clause-text : goal.returns-in-None-clause-text
returns-in-None-clause-text c =
    let line = c.args.line.now in
    let k = c.in_ok-len.len in
    let front = c.in_ok-len.ensures in
    let back = c.split_at.ensures.back in
    let stop = stops-end line k (ap length (sym back) ∙ c.in-None.ensures.cases) in
    ap is_line_text back
    ∙ front-text line k c.in_ok-len.number front.within (omega (arith, c.if-len-eq0.false)) front.digits stop

pub returns-in-None-clause-words : goal.returns-in-None-clause-words
returns-in-None-clause-words c =
    let line = c.args.line.now in
    let k = c.in_ok-len.len in
    let front = c.in_ok-len.ensures in
    let back = c.split_at.ensures.back in
    let stop = stops-end line k (ap length (sym back) ∙ c.in-None.ensures.cases) in
    rw back (front-number line k c.in_ok-len.number front.within
    (omega (arith, c.if-len-eq0.false)) front.digits stop front.value front.fits)

pub returns-in-Some-clause-text : goal.returns-in-Some-clause-text
returns-in-Some-clause-text c =
    let line = c.args.line.now in
    let k = c.in_ok-len.len in
    let front = c.in_ok-len.ensures in
    let s = c.in-Some.separator.now in
    let rest = c.in-Some.rest.now in
    let apart : is_separator s ≡ true = search rules in
    let parts : c.split_at.result.1.now ≡ s ∷ rest = search rules in
    let split : drop k line ≡ s ∷ rest = sym c.split_at.ensures.back ∙ parts in
    let stop = stops-separator line k s rest split apart in
    c.behind_separators.ensures.text ∙ sym (separator-text s rest apart) ∙ ap is_line_text (sym split)
    ∙ front-text line k c.in_ok-len.number front.within (omega (arith, c.if-len-eq0.false)) front.digits stop

pub returns-in-Some-clause-words : goal.returns-in-Some-clause-words
returns-in-Some-clause-words c =
    let line = c.args.line.now in
    let k = c.in_ok-len.len in
    let front = c.in_ok-len.ensures in
    let s = c.in-Some.separator.now in
    let rest = c.in-Some.rest.now in
    let apart : is_separator s ≡ true = search rules in
    let parts : c.split_at.result.1.now ≡ s ∷ rest = search rules in
    let split : drop k line ≡ s ∷ rest = sym c.split_at.ensures.back ∙ parts in
    let stop = stops-separator line k s rest split apart in
    let behind : line_words c.behind_separators.result.now ≡ line_words (drop k line) =
    c.behind_separators.ensures.words ∙ sym (separator-words s rest apart) ∙ ap line_words (sym split) in
    rw behind (front-number line k c.in_ok-len.number front.within
    (omega (arith, c.if-len-eq0.false)) front.digits stop front.value front.fits)
