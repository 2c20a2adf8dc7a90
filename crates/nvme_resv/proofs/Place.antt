-- For the answers of `search` and `set_key`: the result of a search among registrants in rising order.
use Rattle.std.proofs.Common.{
  ◌≡◌,
  ℕ,
  ◌<◌,
  ◌≤◌,
  List,
  [],
  ◌∷◌,
  false,
  length,
  get_or,
  set,
  Result,
  Ok,
  Err,
  IfOk,
  IfErr,
  sym,
  ap,
  arith,
  zero,
  suc,
  refl,
  ◌∙◌,
}
use Rattle.std.specs.List.{refill}
use Rattle.std.specs.List.Sorted.{IsSearchInRange, IsBinarySearchResult, IsNonDecreasingBy}
use Rattle.std.specs.Ordering.{nat_cmp, ordering_index}
use Rattle.std.proofs.lemmas.Cmp.{ranked}
use Rattle.std.proofs.lemmas.List.Elements.{All-from_recursion, recursion_from_All}
use Rattle.std.proofs.lemmas.Bool.Decides.{nat_tests}
use Rattle.std.proofs.Math.ListN.{length-set}
use Rattle.arrayvec.specs.ArrayVec.{ArrayVec}
use Rattle.arrayvec.proofs.ArrayVecLemmas.{items-with_items}
use Rattle.nvme_spec.specs.declared.access.Registrant.{Registrant}
use Rattle.nvme_spec.specs.Reservation.{IsRising, is_registered, with_key}
use Rattle.nvme_spec.proofs.Registrants.{set-with_key, below_test, absent}
use Rattle.nvme_resv.specs.Places.{IsPlaceOf, IsGapFor}

-- of two registrants, the one with the higher index has the higher host
pub rising_at : (xs : List Registrant) → IsRising xs → (i j : ℕ) (d : Registrant)
    → i < j → j < length xs → (get_or xs i d).host < (get_or xs j d).host
rising_at [] r i j d lt in_range = absurd (omega (arith, in_range))
rising_at (x ∷ xs) r i zero d lt in_range = absurd (omega (arith, lt))
rising_at (x ∷ xs) r zero (suc j) d lt in_range =
    All-from_recursion (λ y. x.host < y.host) xs r.0 j d (omega (arith, in_range))
rising_at (x ∷ xs) r (suc i) (suc j) d lt in_range =
    rising_at xs r.1 i j d (omega (arith, lt)) (omega (arith, in_range))

module _ (l : List Registrant) (rising : IsRising l) (host : ℕ) where
  -- the comparisons with the host rise along the list, as a binary search requires
  comparisons_rise : IsNonDecreasingBy (λ r. ordering_index (nat_cmp r.host host)) l
  comparisons_rise i j d le in_range =
      let hosts_rise : (get_or l i d).host ≤ (get_or l j d).host =
      grind (arith, rising_at l rising i j d, λ (same : i ≡ j). ap (λ k. (get_or l k d).host) same) in
      grind (arith, nat_tests)

  -- a binary search by host ends at the host, or at the gap for it
  pub searched : (r : Result ℕ ℕ) → IsSearchInRange r (length l) → IsBinarySearchResult (λ r. nat_cmp r.host host) l r
      → record { found : IfOk r (IsPlaceOf l host); absent : IfErr r (IsGapFor l host) }
  searched (Ok at) in_range equal =
      record { found = record { in_range = in_range; is_host = λ d. ranked _ host _ (sym (equal d)) }; absent = tt }
  searched (Err at) in_range parted = record {
    found = tt;
    absent = record {
      in_range = in_range;
      lower_before = λ k d lt. ranked _ host _ (sym ((parted comparisons_rise).0 k d (omega arith) lt));
      higher_after = λ k d le lt. ranked _ host _ (sym ((parted comparisons_rise).1 k d le lt));
    };
  }

  -- a write of the key at the host's place, through the vector's slice
  pub written : (i key : ℕ) → IsPlaceOf l host i → (ys : List Registrant) → ys ≡ l
      → refill (length l) l (set ys i (record { host = (get_or ys i (record { host = 0; key = 0 })).host; key = key }))
      ≡ with_key l host key
  written i key p ys same =
      let v : ArrayVec Registrant = record { items = l } in
      rw (same, p.is_host _)
      (items-with_items v (set l i (record { host = host; key = key })) (omega (arith, length-set {A = Registrant}))
      ∙ set-with_key l i host key (record { host = 0; key = 0 }) rising p.in_range (p.is_host _))

-- a host for which there is a gap is not registered
pub absent_in_gap : (l : List Registrant) (host i : ℕ) → IsGapFor l host i → is_registered l host ≡ false
absent_in_gap [] host i gap = refl
absent_in_gap (x ∷ xs) host zero gap =
    absent host (x ∷ xs)
    (recursion_from_All (λ y. host < y.host) (x ∷ xs) (λ k d m. gap.higher_after k d (omega arith) m))
absent_in_gap (x ∷ xs) host (suc i) gap =
    rw (below_test x.host host (gap.lower_before 0 x (omega arith)))
    (absent_in_gap xs host i (record {
      in_range = omega (arith, gap.in_range);
      lower_before = λ k d m. gap.lower_before (suc k) d (omega (arith, m));
      higher_after = λ k d m n. gap.higher_after (suc k) d (omega (arith, m)) (omega (arith, n));
    }))
