use Rattle.std.proofs.Common.{◌≡◌, ◌+◌, ◌*◌, ◌++◌, length, take}
use Rattle.std.specs.List.{flat_map}
use Rattle.script_text.specs.HexText.{hex_pair}
use Rattle.script_text.proofs.hex_text.encode_into.Given as goal

abbrev pub invariant-loop-chunk : goal.invariant-loop-chunk
invariant-loop-chunk l = record {
  size : length l.buffer ≡ 2 * length l.bytes;
  place : l.at + 2 * length l.rest ≡ 2 * length l.bytes;
  encoded : take l.at l.buffer ++ flat_map hex_pair l.rest ≡ flat_map hex_pair l.bytes;
}

abbrev pub decreases-loop-chunk : goal.decreases-loop-chunk
decreases-loop-chunk l = length l.rest
