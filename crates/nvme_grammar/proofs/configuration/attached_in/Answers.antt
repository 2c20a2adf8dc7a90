use Rattle.std.proofs.Common.{◌≡◌, ◌<◌, None, length, refl, ap, arith, rules}
use Rattle.std.proofs.lemmas.Grind.{common_steps}
use Rattle.nvme_grammar.proofs.SentenceLemmas.{attached-numbers, attached-others, attached-sentence}
use Rattle.nvme_grammar.proofs.configuration.attached_in.Goals as goal

pub returns-in_err-cntlid : goal.returns-in_err-cntlid
returns-in_err-cntlid c =
    let read = c.numbers_in-rest in
    let is = read.ensures in
    let same : c.as_slice.result.now ≡ read.new.numbers.items = c.as_slice.ensures.value in
    let none : c.from_residual.result ≡ None = search rules in
    rw none (attached-numbers c.args.line.now read.result.now read.new.numbers.items is.text is.words is.most is.all
    (rw same at c.in_err-cntlid.ensures.none refl))

pub returns-then-is_empty : goal.returns-then-is_empty
returns-then-is_empty c =
    let read = c.numbers_in-rest in
    let is = read.ensures in
    let same : c.as_slice.result.now ≡ read.new.numbers.items = c.as_slice.ensures.value in
    let two = c.in_ok-cntlid.ensures.some in
    let none : length read.result.now ≡ 0 = search rules in
    attached-sentence c.args.line.now read.result.now read.new.numbers.items is.text is.words c.in_ok-cntlid.cntlid
    c.in_ok-cntlid.nsid (rw same at two.0) two.1 two.2 none

pub returns-else-is_empty : goal.returns-else-is_empty
returns-else-is_empty c =
    let read = c.numbers_in-rest in
    let is = read.ensures in
    let same : c.as_slice.result.now ≡ read.new.numbers.items = c.as_slice.ensures.value in
    let two = c.in_ok-cntlid.ensures.some in
    let more : 0 < length read.result.now = grind (arith, common_steps) in
    attached-others c.args.line.now read.result.now read.new.numbers.items is.text is.words
    (ap length (rw same at two.0)) is.apart more
