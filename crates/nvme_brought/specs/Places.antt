-- The places of blocks in a room.
use Rattle.std.specs.Prelude.{ℕ, ◌+◌, ◌-◌, nat_lt, nat_le, ◌&&◌, if◌then◌else◌, Option, None, Some}

-- the place of block i among `count` blocks from `first`, if it is one of them
abbrev pub place_in : ℕ → ℕ → ℕ → Option ℕ
place_in first count i = if nat_le first i && nat_lt i (first + count) then Some (i - first) else None
