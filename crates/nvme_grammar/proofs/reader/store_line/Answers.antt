use Rattle.std.proofs.Common.{sym, rules}
use Rattle.nvme_grammar.proofs.SentenceLemmas.{sentence-store}
use Rattle.nvme_grammar.proofs.reader.store_line.Goals as goal

pub returns-in_err-bytes : goal.returns-in_err-bytes
returns-in_err-bytes c =
    let read = c.in_ok-stored.stored in
    let is = c.in_ok-stored.ensures in
    rw (sym (sentence-store c.args.line.now read is.text is.words)) (search rules)

pub returns : goal.returns
returns c =
    let read = c.in_ok-stored.stored in
    let is = c.in_ok-stored.ensures in
    rw (sym (sentence-store c.args.line.now read is.text is.words)) (search rules)
