-- The commands of tags, after one was set.
use Rattle.std.proofs.Common.{
  ◌≡◌,
  ℕ,
  zero,
  suc,
  ◌+◌,
  List,
  [],
  ◌∷◌,
  length,
  Option,
  None,
  Some,
  arith,
  refl,
  sym,
  ap,
  ◌∙◌,
}
use Rattle.std.specs.Prelude.{slice_get, is_none}
use Rattle.std.specs.List.{slice_set, position_from}
use Rattle.std.proofs.lemmas.Option.{none-some, same_Some}
use Rattle.std.proofs.lemmas.Iterator.Adapters.{position_from-zero}
use Rattle.nvme_transfers.specs.declared.command.Command.{Command}
use Rattle.nvme_transfers.specs.declared.transfer.Transfer.{Transfer}
use Rattle.nvme_transfers.specs.Transfers.{joined, free_tag}
use Rattle.nvme_transfers.specs.Runs.{commands_of}
use Rattle.nvme_transfers.specs.Laws.{tally}

abbrev pub at : List (Option Transfer) → ℕ → Option Transfer
at xs i = joined (slice_get xs i)

pub set-here : (xs : List (Option Transfer)) (i : ℕ) (x : Transfer) (y : Option Transfer)
    → at xs i ≡ Some x → at (slice_set xs i y) i ≡ y
set-here [] i x y h = absurd (none-some _ h)
set-here (z ∷ xs) zero x y h = refl
set-here (z ∷ xs) (suc i) x y h = set-here xs i x y h

pub set-free : (xs : List (Option Transfer)) (i : ℕ) (y : Option Transfer)
    → slice_get xs i ≡ Some None → at (slice_set xs i y) i ≡ y
set-free [] i y h = absurd (none-some _ h)
set-free (z ∷ xs) zero y h = refl
set-free (z ∷ xs) (suc i) y h = set-free xs i y h

pub set-other : (xs : List (Option Transfer)) (i j : ℕ) (y : Option Transfer)
    → (i ≡ j → ⊥) → at (slice_set xs i y) j ≡ at xs j
set-other [] i j y h = refl
set-other (z ∷ xs) zero zero y h = absurd (h refl)
set-other (z ∷ xs) zero (suc j) y h = refl
set-other (z ∷ xs) (suc i) zero y h = refl
set-other (z ∷ xs) (suc i) (suc j) y h = set-other xs i j y (λ e. h (ap suc e))

pub set-length : (xs : List (Option Transfer)) (i : ℕ) (y : Option Transfer)
    → length (slice_set xs i y) ≡ length xs
set-length [] i y = refl
set-length (z ∷ xs) zero y = refl
set-length (z ∷ xs) (suc i) y = ap suc (set-length xs i y)

found : (n : ℕ) (xs : List (Option Transfer)) (i : ℕ) → position_from is_none n xs ≡ Some i
    → (k : ℕ) × ((i ≡ n + k) × (slice_get xs k ≡ Some None))
found n [] i h = absurd (none-some _ h)
found n (None ∷ xs) i h = let e : n ≡ i = same_Some _ _ h in (0, (omega (arith, e), refl))
found n (Some x ∷ xs) i h = let r = found (n + 1) xs i h in (suc r.0, (omega (arith, r.1.0), r.1.1))

pub free-at : (xs : List (Option Transfer)) (i : ℕ) → free_tag xs ≡ Some i → slice_get xs i ≡ Some None
free-at xs i h = at-place (found 0 xs i (sym (position_from-zero is_none xs) ∙ h)) where
  at-place : (k : ℕ) × ((i ≡ 0 + k) × (slice_get xs k ≡ Some None)) → slice_get xs i ≡ Some None
  at-place r = let same : i ≡ r.0 = omega (arith, r.1.0) in rw same r.1.1

pub free-none : (xs : List (Option Transfer)) (i : ℕ) → slice_get xs i ≡ Some None → at xs i ≡ None
free-none xs i h = ap joined h

-- sums over the commands of tags
pub sum-gone : (w : Command → ℕ) (xs : List (Option Transfer)) (i : ℕ) (x : Transfer) → at xs i ≡ Some x
    → tally w (commands_of xs) ≡ w x.command + tally w (commands_of (slice_set xs i None))
sum-gone w [] i x h = absurd (none-some _ h)
sum-gone w (None ∷ xs) zero x h = absurd (none-some _ h)
sum-gone w (Some z ∷ xs) zero x h =
    ap (λ (z : Transfer). w z.command + tally w (commands_of xs)) (same_Some _ _ h)
sum-gone w (None ∷ xs) (suc i) x h = sum-gone w xs i x h
sum-gone w (Some z ∷ xs) (suc i) x h = let e = sum-gone w xs i x h in omega (arith, e)

pub commands-kept : (xs : List (Option Transfer)) (i : ℕ) (x y : Transfer) → at xs i ≡ Some x
    → y.command ≡ x.command → commands_of (slice_set xs i (Some y)) ≡ commands_of xs
commands-kept [] i x y h same = refl
commands-kept (None ∷ xs) zero x y h same = absurd (none-some _ h)
commands-kept (Some z ∷ xs) zero x y h same =
    ap (λ (c : Command). c ∷ commands_of xs) (same ∙ sym (ap (λ (t : Transfer). t.command) (same_Some _ _ h)))
commands-kept (None ∷ xs) (suc i) x y h same = commands-kept xs i x y h same
commands-kept (Some z ∷ xs) (suc i) x y h same = ap (λ cs. z.command ∷ cs) (commands-kept xs i x y h same)

pub sum-granted : (w : Command → ℕ) (xs : List (Option Transfer)) (i : ℕ) (y : Transfer)
    → slice_get xs i ≡ Some None
    → tally w (commands_of (slice_set xs i (Some y))) ≡ w y.command + tally w (commands_of xs)
sum-granted w [] i y h = absurd (none-some _ h)
sum-granted w (None ∷ xs) zero y h = refl
sum-granted w (Some z ∷ xs) zero y h = absurd (cc)
sum-granted w (None ∷ xs) (suc i) y h = sum-granted w xs i y h
sum-granted w (Some z ∷ xs) (suc i) y h = let e = sum-granted w xs i y h in omega (arith, e)
