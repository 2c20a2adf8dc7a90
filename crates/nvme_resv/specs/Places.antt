-- The index of a host among registrants in rising order, or the index at which to insert it.
use Rattle.std.specs.Prelude.{◌≡◌, ℕ, ◌<◌, ◌≤◌, slice_index_or, List, length}
use Rattle.nvme_spec.specs.declared.access.Registrant.{Registrant}

-- the host is at this index
pub record IsPlaceOf (registrants : List Registrant) (host i : ℕ) : Type 0 where
  pub in_range : i < length registrants
  pub is_host : (d : Registrant) → (slice_index_or registrants i d).host ≡ host

-- the hosts before this index are lower, and those from it on are higher
pub record IsGapFor (registrants : List Registrant) (host i : ℕ) : Type 0 where
  pub in_range : i ≤ length registrants
  pub lower_before : (k : ℕ) (d : Registrant) → k < i → (slice_index_or registrants k d).host < host
  pub higher_after : (k : ℕ) (d : Registrant) → i ≤ k → k < length registrants
      → host < (slice_index_or registrants k d).host
