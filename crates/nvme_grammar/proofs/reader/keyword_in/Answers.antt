use Rattle.std.proofs.Common.{None, Some, sym}
use Rattle.nvme_grammar.proofs.SentenceLemmas.{sentence-keyword}
use Rattle.nvme_grammar.proofs.reader.keyword_in.Goals as goal

pub returns-in_err-first_of-clause-none : goal.returns-in_err-first_of-clause-none
returns-in_err-first_of-clause-none c =
    let first = c.in_ok-first.first in
    let is = c.in_ok-first.ensures in
    λ none. sym (sentence-keyword c.args.line.now first.behind.now first.word.now None
    (sym c.in_err-first_of.ensures) is.text is.words)

pub returns-clause-sentence : goal.returns-clause-sentence
returns-clause-sentence c =
    let first = c.in_ok-first.first in
    let is = c.in_ok-first.ensures in
    sentence-keyword c.args.line.now first.behind.now first.word.now (Some c.in_ok-first_of.field-0)
    (sym c.in_ok-first_of.ensures) is.text is.words
