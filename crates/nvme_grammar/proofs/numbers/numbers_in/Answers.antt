use Rattle.std.proofs.Common.{◌∙◌, arith}
use Rattle.std.proofs.lemmas.Grind.{common_steps}
use Rattle.script_text.specs.Words.{line_words}
use Rattle.nvme_grammar.proofs.EventLemmas.{Numbers-more}
use Rattle.nvme_grammar.proofs.numbers.numbers_in.Goals as goal

pub loop-numbers-preserved : goal.loop-numbers-preserved
loop-numbers-preserved c =
    let line = c.args.line.now in
    let before = c.loop-numbers in
    let front = c.in-Some.front in
    let is = c.in-Some.ensures in
    record {
      words = λ text.
          rw c.push.ensures.items (Numbers-more before.numbers.items (line_words line)
          (line_words before.rest.now) (line_words front.behind.now) front.number (before.invariant.words text)
          (is.words (before.invariant.text ∙ text)));
      text = is.text ∙ before.invariant.text;
      apart = is.apart;
      within = omega (arith, is.shorter, before.invariant.within);
      most = grind (arith, common_steps);
    }
