use Rattle.std.proofs.Common.{◌≡◌, ◌<◌, None, Some, length, arith, rules}
use Rattle.std.proofs.lemmas.Grind.{common_steps}
use Rattle.nvme_grammar.proofs.SentenceLemmas.{others-none, numbers-sentence}
use Rattle.nvme_grammar.proofs.reader.event_of.Goals as goal

pub returns-then-not-is_empty : goal.returns-then-not-is_empty
returns-then-not-is_empty c =
    let read = c.numbers_in-rest in
    let is = read.ensures in
    let more : 0 < length read.result.now = grind (arith, common_steps) in
    others-none c.args.keyword c.args.line.now read.result.now read.new.numbers.items is.text is.words
    c.requires.numeric is.apart more is.all

pub returns-in_err-event_in : goal.returns-in_err-event_in
returns-in_err-event_in c =
    let read = c.numbers_in-rest in
    let is = read.ensures in
    let asked = c.in_err-event_in.ensures in
    let end : length read.result.now ≡ 0 = search rules in
    let same : c.as_slice.result.now ≡ read.new.numbers.items = c.as_slice.ensures.value in
    let none : c.from_residual.result ≡ None = search rules in
    rw none (numbers-sentence c.args.keyword c.args.line.now read.result.now read.new.numbers.items is.text is.words
    None c.requires.numeric end asked.some (rw same at asked.none))

pub returns : goal.returns
returns c =
    let read = c.numbers_in-rest in
    let is = read.ensures in
    let asked = c.in_ok-event_in.ensures in
    let end : length read.result.now ≡ 0 = search rules in
    let same : c.as_slice.result.now ≡ read.new.numbers.items = c.as_slice.ensures.value in
    numbers-sentence c.args.keyword c.args.line.now read.result.now read.new.numbers.items is.text is.words
    (Some c.in_ok-event_in.field-0) c.requires.numeric end (rw same at asked.some) (rw same at asked.none)
