use Rattle.std.proofs.Common.{◌≡◌, ◌^◌, ◌<◌, take, true}
use Rattle.std.specs.List.{list_all}
use Rattle.std.specs.Str.Parse.{digits_value}
use Rattle.script_text.specs.Numbers.{is_digit}
use Rattle.script_text.proofs.number.wide_numeral_of.Given as goal

abbrev pub invariant-loop-byte : goal.invariant-loop-byte
invariant-loop-byte l = record {
  digits : list_all (is_digit l.base) (take l.byte-index l.digits) ≡ true;
  value : l.value ≡ digits_value l.base (take l.byte-index l.digits);
  fits : l.value < 2 ^ 128;
}
