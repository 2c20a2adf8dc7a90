-- For `laws.rt`: the parts of a driver's window do not overlap.
use Rattle.std.proofs.Common.{ℕ, ◌≤◌, ◌<◌, arith, refl, ap, inl, inr, ⊎_elim}
use Rattle.std.specs.Prelude.{◌≢◌}
use Rattle.std.proofs.lemmas.Bool.{cases_lt}
use Rattle.nvme_driver.specs.declared.lane.Lane.TheVariants.{Admin, Io}
use Rattle.nvme_driver.specs.Layout.{
  Commands,
  Completions,
  Listing,
  Holding,
  extent,
  AreApart,
  AreasLieInWindow,
  AreasAreApart,
  EntriesLieInTheirPages,
}

pub areas_lie_in_window : AreasLieInWindow
areas_lie_in_window (Commands Admin) h = omega arith
areas_lie_in_window (Commands Io) h = omega arith
areas_lie_in_window (Completions Admin) h = omega arith
areas_lie_in_window (Completions Io) h = omega arith
areas_lie_in_window (Listing slot) h = omega (arith, h)
areas_lie_in_window (Holding slot) h = omega (arith, h)

lists-apart : (s t : ℕ) → s ≢ t → AreApart (extent (Listing s)) (extent (Listing t))
lists-apart s t other =
    ⊎_elim {C = AreApart (extent (Listing s)) (extent (Listing t))}
    (λ (below : s < t). inl (omega (arith, below)))
    (λ (above : t ≤ s). inr (omega (arith, above, other)))
    (cases_lt s t)

data-apart : (s t : ℕ) → s ≢ t → AreApart (extent (Holding s)) (extent (Holding t))
data-apart s t other =
    ⊎_elim {C = AreApart (extent (Holding s)) (extent (Holding t))}
    (λ (below : s < t). inl (omega (arith, below)))
    (λ (above : t ≤ s). inr (omega (arith, above, other)))
    (cases_lt s t)

pub areas_are_apart : AreasAreApart
areas_are_apart (Commands Admin) (Commands Admin) h k other = absurd (other refl)
areas_are_apart (Commands Admin) (Commands Io) h k other = inl (omega arith)
areas_are_apart (Commands Io) (Commands Admin) h k other = inr (omega arith)
areas_are_apart (Commands Io) (Commands Io) h k other = absurd (other refl)
areas_are_apart (Commands Admin) (Completions Admin) h k other = inl (omega arith)
areas_are_apart (Commands Admin) (Completions Io) h k other = inl (omega arith)
areas_are_apart (Commands Io) (Completions Admin) h k other = inr (omega arith)
areas_are_apart (Commands Io) (Completions Io) h k other = inl (omega arith)
areas_are_apart (Completions Admin) (Commands Admin) h k other = inr (omega arith)
areas_are_apart (Completions Admin) (Commands Io) h k other = inl (omega arith)
areas_are_apart (Completions Io) (Commands Admin) h k other = inr (omega arith)
areas_are_apart (Completions Io) (Commands Io) h k other = inr (omega arith)
areas_are_apart (Completions Admin) (Completions Admin) h k other = absurd (other refl)
areas_are_apart (Completions Admin) (Completions Io) h k other = inl (omega arith)
areas_are_apart (Completions Io) (Completions Admin) h k other = inr (omega arith)
areas_are_apart (Completions Io) (Completions Io) h k other = absurd (other refl)
areas_are_apart (Commands Admin) (Listing t) h k other = inl (omega arith)
areas_are_apart (Commands Io) (Listing t) h k other = inl (omega arith)
areas_are_apart (Completions Admin) (Listing t) h k other = inl (omega arith)
areas_are_apart (Completions Io) (Listing t) h k other = inl (omega arith)
areas_are_apart (Commands Admin) (Holding t) h k other = inl (omega arith)
areas_are_apart (Commands Io) (Holding t) h k other = inl (omega arith)
areas_are_apart (Completions Admin) (Holding t) h k other = inl (omega arith)
areas_are_apart (Completions Io) (Holding t) h k other = inl (omega arith)
areas_are_apart (Listing s) (Commands Admin) h k other = inr (omega arith)
areas_are_apart (Listing s) (Commands Io) h k other = inr (omega arith)
areas_are_apart (Listing s) (Completions Admin) h k other = inr (omega arith)
areas_are_apart (Listing s) (Completions Io) h k other = inr (omega arith)
areas_are_apart (Listing s) (Listing t) h k other = lists-apart s t (λ e. other (ap Listing e))
areas_are_apart (Listing s) (Holding t) h k other = inl (omega (arith, h))
areas_are_apart (Holding s) (Commands Admin) h k other = inr (omega arith)
areas_are_apart (Holding s) (Commands Io) h k other = inr (omega arith)
areas_are_apart (Holding s) (Completions Admin) h k other = inr (omega arith)
areas_are_apart (Holding s) (Completions Io) h k other = inr (omega arith)
areas_are_apart (Holding s) (Listing t) h k other = inr (omega (arith, k))
areas_are_apart (Holding s) (Holding t) h k other = data-apart s t (λ e. other (ap Holding e))

pub entries_lie_in_their_pages : EntriesLieInTheirPages
entries_lie_in_their_pages Admin n = (omega arith, omega arith, omega arith, omega arith)
entries_lie_in_their_pages Io n = (omega arith, omega arith, omega arith, omega arith)
