-- The parts of a cached medium, for contracts of its callers: the inner medium, the cached blocks, the capacity.
use Rattle.std.specs.Prelude.{ℕ, List}
use Rattle.nvme_medium.specs.declared.medium.Medium as medium
use Rattle.nvme_medium.specs.declared.cached.Cached.{Cached}

module _ {M : Type 0} {calls : medium.Ghosts M} where
  -- the inner medium
  abbrev pub inner_of : Cached M calls → M
  inner_of cached = cached.inner

  -- the cached blocks, each under its number
  abbrev pub blocks_kept : Cached M calls → List (ℕ × List ℕ)
  blocks_kept cached = cached.kept.entries

  -- the capacity, in blocks
  abbrev pub capacity_of : Cached M calls → ℕ
  capacity_of cached = cached.kept.cap
