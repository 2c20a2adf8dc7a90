use Rattle.std.proofs.Common.{◌<◌, length, arith}
use Rattle.std.proofs.lemmas.List.Folds.{list_all_more}
use Rattle.std.proofs.lemmas.Int.Digits.{digits_value_more}
use Rattle.std.proofs.lemmas.Grind.{common_steps}
use Rattle.script_text.specs.Numbers.{is_digit}
use Rattle.script_text.proofs.front.front_digits.Goals as goal

pub loop-len-preserved : goal.loop-len-preserved
loop-len-preserved c =
    let line = c.args.line.now in
    let below : c.loop-len.len < length line = c.loop-len-test.true in
    record {
      within = omega arith;
      digits = rw (list_all_more (is_digit 10) line c.loop-len.len 0 below, c.loop-len.invariant.digits)
          (grind (arith, common_steps, c.in-Some.ensures));
      value = rw (digits_value_more 10 line c.loop-len.len below) (grind (arith, common_steps, c.in-Some.ensures));
      fits = grind (arith, common_steps);
    }
