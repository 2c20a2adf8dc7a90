-- The bytes of a script's word: `fill:` and one byte, or `hex:` and bytes, which zeros extend to the data of a
-- transfer.
use Rattle.std.specs.Prelude.{
  ℕ,
  ◌-◌,
  ◌*◌,
  nat_le,
  nat_eq,
  ◌&&◌,
  List,
  [],
  ◌∷◌,
  ◌++◌,
  length,
  drop,
  replicate,
  codes,
  Option,
  Some,
  None,
  Result,
  Ok,
  if◌then◌else◌,
}
use Rattle.std.specs.List.{starts_with}
use Rattle.hex.specs.Hex.{decode_of}
use Rattle.hex.specs.declared.error.FromHexError.{FromHexError}

-- the length of a transfer of 1 to 256 blocks, and the longest
abbrev pub transfer_len : ℕ → Option ℕ
transfer_len blocks = if nat_le 1 blocks && nat_le blocks 256 then Some (512 * blocks) else None

abbrev pub longest_data : ℕ
longest_data = 512 * 256

-- one byte, all over the data
abbrev pub fill_data : Option ℕ → Result (List ℕ) FromHexError → Option (List ℕ)
fill_data (Some len) (Ok (b ∷ [])) = Some (replicate len b)
fill_data None (Ok (b ∷ [])) = Some []
fill_data len read = None

-- one byte or more
abbrev pub some_bytes : Result (List ℕ) FromHexError → Option (List ℕ)
some_bytes (Ok (b ∷ bs)) = Some (b ∷ bs)
some_bytes read = None

-- bytes extended with zeros to a length that is at least theirs
abbrev pub filled_up : ℕ → List ℕ → Option (List ℕ)
filled_up len bytes = if nat_le (length bytes) len then Some (bytes ++ replicate (len - length bytes) 0) else None

-- one byte or more, extended with zeros
abbrev pub hex_data : Option ℕ → Option (List ℕ) → Option (List ℕ)
hex_data (Some len) (Some bytes) = filled_up len bytes
hex_data None (Some bytes) = Some []
hex_data len None = None

-- the bytes of a word: `hex:` and an even number of digits, at least two
unfoldable pub bytes_at : List ℕ → Option (List ℕ)
bytes_at word = if starts_with nat_eq word (codes "hex:") then some_bytes (decode_of (drop 4 word)) else None

-- the bytes of a word for a transfer of this many blocks; none for an invalid transfer
unfoldable pub data_at : ℕ → List ℕ → Option (List ℕ)
data_at blocks word =
    if starts_with nat_eq word (codes "fill:") then fill_data (transfer_len blocks) (decode_of (drop 5 word))
    else hex_data (transfer_len blocks) (bytes_at word)
