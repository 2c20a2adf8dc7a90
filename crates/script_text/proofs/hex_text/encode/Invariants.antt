use Rattle.std.proofs.Common.{◌≡◌, ◌*◌, ◌++◌, length, take, drop}
use Rattle.std.specs.List.{flat_map}
use Rattle.script_text.specs.HexText.{hex_pair}
use Rattle.script_text.proofs.hex_text.encode.Given as goal

abbrev pub invariant-loop-k : goal.invariant-loop-k
invariant-loop-k l = record {
  size : length l.digits ≡ 256;
  encoded : take (64 * l.k) l.digits ++ flat_map hex_pair (drop (32 * l.k) l.bytes) ≡ flat_map hex_pair l.bytes;
}
