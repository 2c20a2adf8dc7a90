use Rattle.std.proofs.Common.{sym, rules}
use Rattle.nvme_grammar.proofs.SentenceLemmas.{sentence-store}
use Rattle.nvme_grammar.proofs.reader.checked_store.Goals as goal

pub returns : goal.returns
returns c =
    let read = c.in_ok-stored.stored in
    let is = c.in_ok-stored.ensures in
    rw (sym (sentence-store c.args.line.now read is.text is.words)) (search rules)
