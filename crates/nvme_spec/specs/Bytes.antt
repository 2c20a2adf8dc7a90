-- Lists of bytes in which a part is replaced, for host memory, the content of a medium and data structures.
use Rattle.std.specs.Prelude.{ℕ, ◌+◌, List, ◌++◌, length, take, drop}

-- the bytes with this part at an offset
abbrev pub with_bytes : List ℕ → ℕ → List ℕ → List ℕ
with_bytes whole offset part = take offset whole ++ part ++ drop (offset + length part) whole

-- the same, cut to the old length if the part ends after it
abbrev pub with_bytes_within : List ℕ → ℕ → List ℕ → List ℕ
with_bytes_within whole offset part = take (length whole) (with_bytes whole offset part)
