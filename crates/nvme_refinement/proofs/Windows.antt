-- For proofs about windows: a list of bytes after a store: at its place, and before and after it.
use Rattle.nvme_refinement.proofs.Words.{
  ◌≡◌,
  ℕ,
  ◌+◌,
  ◌≤◌,
  List,
  [],
  length,
  arith,
  take,
  drop,
  inl,
  inr,
  same_lists,
  with_bytes,
  ◌<◌,
  cases_lt,
}
use Rattle.std.proofs.Common.{rules}
use Rattle.std.proofs.lemmas.List.{places}

-- the stored bytes, a part of them, and the bytes before and after
pub stored-in : (w bytes : List ℕ) (at : ℕ)
    → at ≤ length w → take (length bytes) (drop at (with_bytes w at bytes)) ≡ bytes
stored-in w bytes at fits = same_lists _ _ (search (rules, places)) (λ k d h. grind (arith, places))

pub stored-part : (w bytes : List ℕ) (at j n : ℕ) → at ≤ length w → j + n ≤ length bytes
    → take n (drop (at + j) (with_bytes w at bytes)) ≡ take n (drop j bytes)
stored-part w bytes at j n fits within = same_lists _ _ (search (rules, places)) (λ k d h. grind (arith, places))

pub stored-apart : (w bytes : List ℕ) (at from n : ℕ)
    → at + length bytes ≤ length w → (at < from + n → at + length bytes ≤ from) →
    take n (drop from (with_bytes w at bytes)) ≡ take n (drop from w)
stored-apart w bytes at from n fits apart = elim (cases_lt at (from + n)) [
  | inl overlaps ↦
      (let behind = apart overlaps in same_lists _ _ (search (rules, places)) (λ k d h. grind (arith, places)))
  | inr before ↦ same_lists _ _ (search (rules, places)) (λ k d h. grind (arith, places))
]

pub stored-none : (w : List ℕ) (at : ℕ) → with_bytes w at [] ≡ w
stored-none w at = same_lists _ _ (search (rules, places)) (λ k d h. grind (arith, places))
