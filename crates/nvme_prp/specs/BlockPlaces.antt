-- The place of a block's 512 bytes, in one piece of its transfer or in two, for the contract of `block`.
use Rattle.std.specs.Prelude.{ℕ, ◌+◌, ◌-◌, ◌<◌, ◌≤◌, List, [], ◌∷◌, ◌++◌, nat_le, nat_lt, if◌then◌else◌}
use Rattle.std.specs.List.{range_with_len, slice_index_or}
use Rattle.nvme_spec.specs.declared.pointer.Piece.{Piece}
use Rattle.nvme_prp.specs.declared.block.BlockPlace.{BlockPlace}
use Rattle.nvme_prp.specs.declared.block.BlockPlace.TheVariants.{One, Two}

-- the addresses of its bytes, in order
abbrev pub places : BlockPlace → List ℕ
places (One a) = range_with_len a 512
places (Two a n b) = range_with_len a n ++ range_with_len b (512 - n)

-- each of them is in the window, and neither of two parts is empty
abbrev pub Lies : BlockPlace → Type 0
Lies (One a) = a + 512 ≤ 4194304
Lies (Two a n b) = (0 < n) × (n < 512) × (a + n ≤ 4194304) × (b + (512 - n) ≤ 4194304)

-- a placeholder for the piece after the last one
abbrev pub no_piece : Piece
no_piece = record { address = 0; len = 0 }

-- 512 bytes that begin `skip` bytes into a piece: they end in it, or the rest begins the next one
abbrev pub placed : Piece → Piece → ℕ → BlockPlace
placed p next skip =
    if nat_le (skip + 512) p.len then One (p.address + skip) else Two (p.address + skip) (p.len - skip) next.address

-- the place of the 512 bytes of a transfer from byte `at`
unfoldable pub place_at : List Piece → ℕ → BlockPlace
place_at [] at = One 0
place_at (p ∷ later) at =
    if nat_lt at p.len then placed p (slice_index_or later 0 no_piece) at else place_at later (at - p.len)
