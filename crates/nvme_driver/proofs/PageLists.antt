-- For `laws.rt` and the answer of `place`: what stores leave of page lists.
use Rattle.std.proofs.Common.{
  ◌≡◌,
  ℕ,
  ◌+◌,
  ◌-◌,
  ◌*◌,
  ◌≤◌,
  ◌<◌,
  List,
  ◌++◌,
  length,
  take,
  drop,
  sym,
  ap,
  ◌∙◌,
  arith,
  append_assoc,
  length-append,
  ⊎_elim,
  inl,
  inr,
}
use Rattle.std.specs.Prelude.{slice_range, ◌⊎◌}
use Rattle.std.proofs.lemmas.List.{take-take, take-append-le, take_at, drop_at, drop-drop, drop-take, length-take-le}
use Rattle.std.proofs.Math.Seq.{drop-append-add}
use Rattle.std.proofs.lemmas.Bool.{cases_lt, lt-leb, le-leb, cond-true, cond-false}
use Rattle.nvme_spec.specs.Limits.{most_bytes}
use Rattle.nvme_spec.specs.Bytes.{with_bytes}
use Rattle.nvme_driver.specs.Layout.{list_page, data_area}
use Rattle.nvme_driver.specs.Pointers.{
  pages_behind,
  listed_pages,
  list_of_slot,
  stored_list,
  page_entries,
  OtherPartsStay,
  StoredListIsThere,
  StoresKeepLists,
  ListsKeepOthers,
}
use Rattle.nvme_driver.proofs.PageEntries.{length-page_entries}

-- a part after the stored bytes
part-behind : (w part : List ℕ) (at i n : ℕ) → at + length part ≤ length w → at + length part ≤ i
    → take n (drop i (with_bytes w at part)) ≡ take n (drop i w)
part-behind w part at i n fits apart =
    let front : length (take at w) ≡ at = length-take-le at w (omega arith) in
    let size : length (take at w ++ part) ≡ at + length part = length-append (take at w) part ∙ omega arith in
    let split : i ≡ length (take at w ++ part) + (i - (at + length part)) = omega arith in
    let again : at + length part + (i - (at + length part)) ≡ i = omega arith in
    ap (take n)
    (ap (λ k. drop k (with_bytes w at part)) split
    ∙ drop-append-add (take at w ++ part) (drop (at + length part) w) (i - (at + length part))
    ∙ drop-drop (i - (at + length part)) (at + length part) w
    ∙ ap (λ k. drop k w) again)

-- a part before it
part-before : (w part : List ℕ) (at i n : ℕ) → at + length part ≤ length w → i + n ≤ at
    → take n (drop i (with_bytes w at part)) ≡ take n (drop i w)
part-before w part at i n fits apart =
    let front : length (take at w) ≡ at = length-take-le at w (omega arith) in
    sym (drop-take i n (with_bytes w at part))
    ∙ ap (drop i)
    (ap (take (i + n)) (append_assoc (take at w) part (drop (at + length part) w))
    ∙ take-append-le (i + n) (take at w) (part ++ drop (at + length part) w) (omega arith)
    ∙ take-take (i + n) at w apart)
    ∙ drop-take i n w

pub part-apart : (w part : List ℕ) (at i n : ℕ) → at + length part ≤ length w → (at + length part ≤ i) ⊎ (i + n ≤ at)
    → slice_range (with_bytes w at part) i (i + n) ≡ slice_range w i (i + n)
part-apart w part at i n fits apart =
    let width : i + n - i ≡ n = omega arith in
    ap (λ k. take k (drop i (with_bytes w at part))) width
    ∙ ⊎_elim {C = take n (drop i (with_bytes w at part)) ≡ take n (drop i w)}
    (λ (behind : at + length part ≤ i). part-behind w part at i n fits behind)
    (λ (before : i + n ≤ at). part-before w part at i n fits before)
    apart
    ∙ ap (λ k. take k (drop i w)) (sym width)

-- the part itself
pub part-there : (w part : List ℕ) (at n : ℕ) → length part ≡ n → at + n ≤ length w
    → slice_range (with_bytes w at part) at (at + n) ≡ part
part-there w part at n size fits =
    let width : at + n - at ≡ n = omega arith in
    let front : length (take at w) ≡ at = length-take-le at w (omega arith) in
    ap (λ k. take k (drop at (with_bytes w at part))) width
    ∙ ap (λ xs. take n (drop at xs)) (append_assoc (take at w) part (drop (at + length part) w))
    ∙ ap (take n) (drop_at (take at w) (part ++ drop (at + length part) w) at front)
    ∙ take_at part (drop (at + length part) w) n size

pub other_parts_stay : OtherPartsStay
other_parts_stay = part-apart

-- if PRP2 is the address of a list, the whole list is stored
listed-long : (s bytes : ℕ) → 8192 < bytes → stored_list s bytes ≡ list_of_slot s bytes
listed-long s bytes long = ap (page_entries (data_area s + 4096)) (cond-false _ _ _ (lt-leb bytes 8192 long))

pub listed-few : (bytes : ℕ) → bytes ≤ most_bytes → listed_pages bytes ≤ 31
listed-few bytes most =
    ⊎_elim {C = listed_pages bytes ≤ 31}
    (λ (long : 8192 < bytes). let e : listed_pages bytes ≡ pages_behind bytes =
    cond-false _ _ _ (lt-leb bytes 8192 long) in omega arith)
    (λ (short : bytes ≤ 8192). let e : listed_pages bytes ≡ 0 =
    cond-true _ _ _ (le-leb bytes 8192 short) in omega arith)
    (cases_lt 8192 bytes)

pub length-stored_list : (s bytes : ℕ) → bytes ≤ most_bytes → length (stored_list s bytes) ≤ 248
length-stored_list s bytes most =
    let size = length-page_entries (data_area s + 4096) (listed_pages bytes) in
    let few = listed-few bytes most in
    omega arith

pub stored_list_is_there : StoredListIsThere
stored_list_is_there window s bytes r long =
    let whole = r.whole in
    let fits = r.slot_fits in
    let most = r.most in
    ap (λ xs. slice_range (with_bytes window (list_page s) xs) (list_page s) (list_page s + 8 * pages_behind bytes))
    (listed-long s bytes long)
    ∙ part-there window (list_of_slot s bytes) (list_page s) (8 * pages_behind bytes)
    (length-page_entries (data_area s + 4096) (pages_behind bytes)) (omega arith)

pub stores_keep_lists : StoresKeepLists
stores_keep_lists window s bytes at part r inside apart has long =
    let whole = r.whole in
    let fits = r.slot_fits in
    let most = r.most in
    ⊎_elim {C =
    slice_range (with_bytes window at part) (list_page s) (list_page s + 8 * pages_behind bytes) ≡ list_of_slot s bytes}
    (λ (before : at + length part ≤ list_page s).
    part-apart window part at (list_page s) (8 * pages_behind bytes) (omega arith) (inl before) ∙ has long)
    (λ (behind : list_page s + 4096 ≤ at).
    part-apart window part at (list_page s) (8 * pages_behind bytes) (omega arith) (inr (omega arith)) ∙ has long)
    apart

pub lists_keep_others : ListsKeepOthers
lists_keep_others window s bytes other others r fits most apart has =
    let size = length-stored_list other others most in
    stores_keep_lists window s bytes (list_page other) (stored_list other others) r (omega arith)
    (⊎_elim
    {C = (list_page other + length (stored_list other others) ≤ list_page s) ⊎ (list_page s + 4096 ≤ list_page other)}
    (λ (below : other < s). inl (omega arith))
    (λ (above : s ≤ other). inr (omega (arith, apart)))
    (cases_lt other s))
    has
