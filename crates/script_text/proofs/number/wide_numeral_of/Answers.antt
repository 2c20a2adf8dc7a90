use Rattle.std.proofs.Common.{◌+◌, ◌^◌, ◌<◌, ◌≤◌, length, take, arith, rules, take_all}
use Rattle.std.proofs.lemmas.List.Folds.{list_all_more}
use Rattle.std.proofs.lemmas.Int.Digits.{digits_value_more}
use Rattle.std.proofs.lemmas.Grind.{common_steps}
use Rattle.std.specs.Str.Parse.{digits_value}
use Rattle.script_text.specs.Numbers.{is_digit}
use Rattle.script_text.proofs.NumberLemmas.{digits_value-take-le, below-too_large, below-fits}
use Rattle.script_text.proofs.number.wide_numeral_of.Goals as goal

pub loop-byte-preserved : goal.loop-byte-preserved
loop-byte-preserved c =
    let below : c.loop-byte.byte-index < length c.args.digits.now = omega arith in
    record {
      digits = rw (
        list_all_more (is_digit c.args.base) c.args.digits.now c.loop-byte.byte-index 0 below,
        c.loop-byte.invariant.digits,
      ) (grind (arith, common_steps, c.in_ok-digit.ensures));
      value = rw (digits_value_more c.args.base c.args.digits.now c.loop-byte.byte-index below)
          (grind (arith, common_steps, c.in_ok-digit.ensures));
      fits = grind (arith, common_steps);
    }

pub returns-in_err-checked_mul : goal.returns-in_err-checked_mul
returns-in_err-checked_mul c =
    let digits = c.args.digits.now in
    let next = digits_value_more c.args.base digits c.loop-byte.byte-index c.loop-byte-test.true in
    let most = digits_value-take-le c.args.base digits (c.loop-byte.byte-index + 1) (omega arith) in
    let large : 2 ^ 128 ≤ digits_value c.args.base (take (c.loop-byte.byte-index + 1) digits) =
    grind (arith, common_steps) in
    rw (below-too_large (2 ^ 128) c.args.base digits (omega arith)) (search rules)

pub returns-in_err-value : goal.returns-in_err-value
returns-in_err-value c =
    let digits = c.args.digits.now in
    let next = digits_value_more c.args.base digits c.loop-byte.byte-index c.loop-byte-test.true in
    let most = digits_value-take-le c.args.base digits (c.loop-byte.byte-index + 1) (omega arith) in
    let large : 2 ^ 128 ≤ digits_value c.args.base (take (c.loop-byte.byte-index + 1) digits) =
    grind (arith, common_steps) in
    rw (below-too_large (2 ^ 128) c.args.base digits (omega arith)) (search rules)

pub returns : goal.returns
returns c =
    let digits = c.args.digits.now in
    let whole = take_all c.loop-byte.byte-index digits (omega arith) in
    let some : 1 ≤ length digits = grind (arith, common_steps) in
    let value = rw whole at c.loop-byte.invariant.value in
    rw value (below-fits (2 ^ 128) c.args.base digits some (rw whole at c.loop-byte.invariant.digits) (omega arith))
