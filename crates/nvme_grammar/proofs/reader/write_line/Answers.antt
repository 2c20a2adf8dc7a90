use Rattle.std.proofs.Common.{sym, rules}
use Rattle.nvme_grammar.proofs.SentenceLemmas.{sentence-write}
use Rattle.nvme_grammar.proofs.reader.write_line.Goals as goal

pub returns-in_err-bytes : goal.returns-in_err-bytes
returns-in_err-bytes c =
    let read = c.in_ok-transfer.transfer in
    let is = c.in_ok-transfer.ensures in
    rw (sym (sentence-write c.args.line.now read is.text is.words)) (search rules)

pub returns : goal.returns
returns c =
    let read = c.in_ok-transfer.transfer in
    let is = c.in_ok-transfer.ensures in
    rw (sym (sentence-write c.args.line.now read is.text is.words)) (search rules)
