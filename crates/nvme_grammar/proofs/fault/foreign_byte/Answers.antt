use Rattle.std.proofs.Common.{◌≡◌, ◌≢◌, length, refl, sym, ◌∙◌, arith, rules}
use Rattle.std.proofs.lemmas.List.Sums.{prefix_len-le-length}
use Rattle.script_text.specs.Words.{is_text}
use Rattle.nvme_grammar.proofs.FaultLemmas.{all-pass, not-all-pass}
use Rattle.nvme_grammar.proofs.fault.foreign_byte.Goals as goal

pub returns-then-len-line-clause-none : goal.returns-then-len-line-clause-none
returns-then-len-line-clause-none c =
    let whole : c.text_len-len.result ≡ length c.args.line.now = search rules in
    λ none. all-pass is_text c.args.line.now (sym c.text_len-len.ensures ∙ whole)

pub overflow_add-result : goal.overflow_add-result
overflow_add-result c =
    let bound = prefix_len-le-length is_text c.args.line.now in
    let other : c.text_len-len.result ≢ length c.args.line.now = search rules in
    omega (arith, bound, other, c.text_len-len.ensures)

pub bounds-line-len : goal.bounds-line-len
bounds-line-len c =
    let bound = prefix_len-le-length is_text c.args.line.now in
    let other : c.text_len-len.result ≢ length c.args.line.now = search rules in
    omega (arith, bound, other, c.text_len-len.ensures)

pub returns-clause-some : goal.returns-clause-some
returns-clause-some c =
    let other : c.text_len-len.result ≢ length c.args.line.now = search rules in (
      not-all-pass is_text c.args.line.now (λ same. other (c.text_len-len.ensures ∙ same)),
      rw c.text_len-len.ensures refl,
    )
