use Rattle.std.proofs.Common.{◌≡◌, ◌-◌, ◌^◌, ◌<◌, ◌≤◌, length, take, true}
use Rattle.std.specs.List.{list_all}
use Rattle.std.specs.Str.Parse.{digits_value}
use Rattle.script_text.specs.Numbers.{is_digit}
use Rattle.script_text.proofs.front.front_digits.Given as goal

abbrev pub invariant-loop-len : goal.invariant-loop-len
invariant-loop-len l = record {
  within : l.len ≤ length l.line;
  digits : list_all (is_digit 10) (take l.len l.line) ≡ true;
  value : l.value ≡ digits_value 10 (take l.len l.line);
  fits : l.value < 2 ^ 64;
}

abbrev pub decreases-loop-len : goal.decreases-loop-len
decreases-loop-len l = length l.line - l.len
