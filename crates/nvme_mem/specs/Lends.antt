-- The window after a borrow of its bytes ends, for the contract of `piece_mut`.
use Rattle.std.specs.Prelude.{ℕ, List, Option}
use Rattle.std.specs.Borrow.{Lends, LendsIf, MutBor, Fml, Array, u8}
use Rattle.nvme_spec.specs.Bytes.{with_bytes_within}
use Rattle.nvme_mem.specs.contracts.window.Window.{the_row}

-- the window has the bytes that the borrow left at the address
abbrev pub LendsPart : MutBor (List ℕ) → ℕ → MutBor (List ℕ) → Fml
LendsPart window address result =
    Lends the_row (Array u8 0) window result (with_bytes_within window.now address)

-- as `LendsPart` if bytes were borrowed, else the window is unchanged
abbrev pub LendsPartIf : MutBor (List ℕ) → ℕ → Option (MutBor (List ℕ)) → Fml
LendsPartIf window address result =
    LendsIf the_row (Array u8 0) window result (with_bytes_within window.now address) window.now
