use Rattle.std.proofs.Common.{◌≡◌, false, length, ◌∙◌, rules}
use Rattle.nvme_grammar.specs.Line.{is_comment}
use Rattle.nvme_grammar.proofs.EventLemmas.{blank_line}
use Rattle.nvme_grammar.proofs.SentenceLemmas.{line-sentence, sentence-blank}
use Rattle.nvme_grammar.proofs.line.parse_line.Goals as goal

pub returns-then-is_empty : goal.returns-then-is_empty
returns-then-is_empty c = record { line = blank_line c.args.line.now (search rules) }

pub returns-then-is_empty-2 : goal.returns-then-is_empty-2
returns-then-is_empty-2 c =
    let start = c.behind_separators-start in
    let none : length start.result.now ≡ 0 = search rules in
    let comment : is_comment c.args.line.now ≡ false = search rules in
    record {
      line = sentence-blank c.args.line.now start.result.now start.ensures.words start.ensures.text none
          ∙ line-sentence c.args.line.now comment;
    }
