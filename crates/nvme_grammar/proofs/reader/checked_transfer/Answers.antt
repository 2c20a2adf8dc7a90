use Rattle.std.proofs.Common.{◌≡◌, true, false, refl, sym, ap, ◌∙◌}
use Rattle.std.specs.Prelude.{option_map, is_some}
use Rattle.script_text.specs.Data.{data_at}
use Rattle.nvme_grammar.specs.Reading.{line_aside}
use Rattle.nvme_grammar.proofs.SentenceLemmas.{aside-some, aside-none, sentence-write, sentence-compare}
use Rattle.nvme_grammar.proofs.reader.checked_transfer.Goals as goal

pub returns-then-is_data-clause-write : goal.returns-then-is_data-clause-write
returns-then-is_data-clause-write c =
    let read = c.in_ok-transfer.transfer in
    let is = c.in_ok-transfer.ensures in
    let judged : is_some (data_at read.blocks read.word.now) ≡ true = sym c.is_data.ensures ∙ c.if-is_data.true in
    aside-some _ (λ x. refl) (data_at read.blocks read.word.now) judged
    ∙ ap (option_map line_aside) (sentence-write c.args.line.now read is.text is.words)

pub returns-else-is_data-clause-write : goal.returns-else-is_data-clause-write
returns-else-is_data-clause-write c =
    let read = c.in_ok-transfer.transfer in
    let is = c.in_ok-transfer.ensures in
    let judged : is_some (data_at read.blocks read.word.now) ≡ false = sym c.is_data.ensures ∙ c.if-is_data.false in
    aside-none _ (λ x. refl) (data_at read.blocks read.word.now) judged
    ∙ ap (option_map line_aside) (sentence-write c.args.line.now read is.text is.words)

pub returns-then-is_data-clause-compare : goal.returns-then-is_data-clause-compare
returns-then-is_data-clause-compare c =
    let read = c.in_ok-transfer.transfer in
    let is = c.in_ok-transfer.ensures in
    let judged : is_some (data_at read.blocks read.word.now) ≡ true = sym c.is_data.ensures ∙ c.if-is_data.true in
    aside-some _ (λ x. refl) (data_at read.blocks read.word.now) judged
    ∙ ap (option_map line_aside) (sentence-compare c.args.line.now read is.text is.words)

pub returns-else-is_data-clause-compare : goal.returns-else-is_data-clause-compare
returns-else-is_data-clause-compare c =
    let read = c.in_ok-transfer.transfer in
    let is = c.in_ok-transfer.ensures in
    let judged : is_some (data_at read.blocks read.word.now) ≡ false = sym c.is_data.ensures ∙ c.if-is_data.false in
    aside-none _ (λ x. refl) (data_at read.blocks read.word.now) judged
    ∙ ap (option_map line_aside) (sentence-compare c.args.line.now read is.text is.words)
