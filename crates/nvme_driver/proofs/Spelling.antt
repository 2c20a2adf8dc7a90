-- For the answers of `spell` and `spell_list`: bytes written one part after the other, at the front of zeros.
use Rattle.std.proofs.Common.{
  ◌≡◌,
  ℕ,
  zero,
  suc,
  ◌+◌,
  ◌-◌,
  ◌*◌,
  ◌<◌,
  ◌≤◌,
  List,
  [],
  ◌∷◌,
  ◌++◌,
  length,
  take,
  drop,
  replicate,
  refl,
  sym,
  ap,
  ◌∙◌,
  arith,
  append_assoc,
  length-append,
}
use Rattle.std.specs.Prelude.{slice_index_or}
use Rattle.std.specs.List.{flat_map}
use Rattle.std.specs.Int.{w16, w64, to_le_bytes}
use Rattle.std.proofs.lemmas.List.{append-nil, take_at, take_more, take_all, length-take-le, length-replicate}
use Rattle.std.proofs.lemmas.Grind.{flat_map-append}
use Rattle.std.proofs.Math.Seq.{drop-append-add}
use Rattle.nvme_spec.specs.Bytes.{with_bytes}
use Rattle.nvme_driver.specs.Requests.{controller_list}
use Rattle.nvme_driver.specs.Pointers.{page_entry, page_entries}
use Rattle.nvme_driver.proofs.PageEntries.{length-page_entries, entries-more}

drop-zeros : (k n : ℕ) → drop {A = ℕ} k (replicate n 0) ≡ replicate (n - k) 0
drop-zeros zero n = let e : n ≡ n - 0 = omega arith in ap (λ m. replicate m 0) e
drop-zeros (suc k) zero = let e : 0 ≡ 0 - suc k = omega arith in ap (λ m. replicate m 0) e
drop-zeros (suc k) (suc n) = let e : suc n - suc k ≡ n - k = omega arith in
    drop-zeros k n ∙ ap (λ m. replicate m 0) (sym e)

-- one more part
pub part-put : (done part : List ℕ) (at n m : ℕ) → at ≡ length done → m ≡ n - length part →
    with_bytes (done ++ replicate n 0) at part ≡ (done ++ part) ++ replicate m 0
part-put done part at n m e left =
    ap (λ xs. (xs ++ part) ++ drop (at + length part) (done ++ replicate n 0)) (take_at done (replicate n 0) at (sym e))
    ∙ ap (λ k. (done ++ part) ++ drop {A = ℕ} (k + length part) (done ++ replicate n 0)) e
    ∙ ap (λ xs. (done ++ part) ++ xs) (drop-append-add done (replicate n 0) (length part) ∙ drop-zeros (length part) n)
    ∙ ap (λ k. (done ++ part) ++ replicate k 0) (sym left)

-- numbers of two bytes
abbrev pub words : List ℕ → List ℕ
words xs = flat_map (to_le_bytes w16) xs

pub length-words : (xs : List ℕ) → length (words xs) ≡ 2 * length xs
length-words [] = refl
length-words (x ∷ xs) = length-append (to_le_bytes w16 x) (words xs) ∙ (let e = length-words xs in omega arith)

-- a Controller List fills its page
pub controller_list_length : (xs : List ℕ) → length xs ≤ 2047 → length (controller_list xs) ≡ 4096
unfolding controller_list
controller_list_length xs h =
    let a = length-append (to_le_bytes w16 (length xs) ++ words xs) (replicate (4094 - 2 * length xs) 0) in
    let b = length-append (to_le_bytes w16 (length xs)) (words xs) in
    let c : length (to_le_bytes w16 (length xs)) ≡ 2 = refl in
    let d = length-words xs in
    let e = length-replicate {A = ℕ} (4094 - 2 * length xs) 0 in
    omega (arith, a, b, c, d, e, h)

words-more : (xs : List ℕ) (i : ℕ)
    → i < length xs → words (take (i + 1) xs) ≡ words (take i xs) ++ to_le_bytes w16 (slice_index_or xs i 0)
words-more xs i h =
    ap words (take_more xs i 0 h) ∙ flat_map-append (to_le_bytes w16) (take i xs) (slice_index_or xs i 0 ∷ [])
    ∙ ap (λ ys. words (take i xs) ++ ys) (append-nil (to_le_bytes w16 (slice_index_or xs i 0)))

-- the count of a list, at the front of zeros
pub count-put : (count : ℕ) (page part : List ℕ)
    → part ≡ to_le_bytes w16 count → page ≡ with_bytes (replicate 4096 0) 0 part →
    page ≡ (to_le_bytes w16 count ++ []) ++ replicate 4094 0
count-put count page part e h =
    h ∙ ap (with_bytes (replicate 4096 0) 0) e ∙ part-put [] (to_le_bytes w16 count) 0 4096 4094 refl refl
    ∙ ap (λ xs. xs ++ replicate 4094 0) (sym (append-nil (to_le_bytes w16 count)))

-- one more identifier of a list
pub identifier-put : (count i : ℕ) (xs page part new : List ℕ) → i < length xs →
    page ≡ (to_le_bytes w16 count ++ flat_map (to_le_bytes w16) (take i xs)) ++ replicate (4094 - 2 * i) 0 →
    part ≡ to_le_bytes w16 (slice_index_or xs i 0) → new ≡ with_bytes page (2 + 2 * i) part →
    new ≡ (to_le_bytes w16 count ++ flat_map (to_le_bytes w16) (take (i + 1) xs)) ++ replicate (4094 - 2 * (i + 1)) 0
identifier-put count i xs page part new h page-is part-is e =
    let size : length (take i xs) ≡ i = length-take-le i xs (omega (arith, h)) in
    let done : 2 + 2 * i ≡ length (to_le_bytes w16 count ++ words (take i xs)) =
    sym
    (length-append (to_le_bytes w16 count) (words (take i xs)) ∙ (let k = length-words (take i xs) in omega arith)) in
    let left : 4094 - 2 * (i + 1) ≡ 4094 - 2 * i - 2 = omega arith in
    e ∙ ap (λ p. with_bytes p (2 + 2 * i) part) page-is
    ∙ ap (with_bytes ((to_le_bytes w16 count ++ words (take i xs)) ++ replicate (4094 - 2 * i) 0) (2 + 2 * i)) part-is
    ∙ part-put (to_le_bytes w16 count ++ words (take i xs)) (to_le_bytes w16 (slice_index_or xs i 0)) (2 + 2 * i)
    (4094 - 2 * i) (4094 - 2 * (i + 1)) done left
    ∙ ap (λ ys. ys ++ replicate (4094 - 2 * (i + 1)) 0)
    (sym (append_assoc (to_le_bytes w16 count) (words (take i xs)) (to_le_bytes w16 (slice_index_or xs i 0)))
    ∙ ap (λ ys. to_le_bytes w16 count ++ ys) (sym (words-more xs i h)))

-- all identifiers
pub list-spelled : (count i : ℕ) (xs page : List ℕ) → count ≡ length xs → i ≡ length xs →
    page ≡ (to_le_bytes w16 count ++ flat_map (to_le_bytes w16) (take i xs)) ++ replicate (4094 - 2 * i) 0 →
    page ≡ controller_list xs
unfolding controller_list
list-spelled count i xs page e h p =
    p ∙ ap (λ ys. (to_le_bytes w16 count ++ words ys) ++ replicate (4094 - 2 * i) 0) (take_all i xs (omega arith))
    ∙ ap (λ k. (to_le_bytes w16 k ++ words xs) ++ replicate (4094 - 2 * i) 0) e
    ∙ ap (λ k. (to_le_bytes w16 (length xs) ++ words xs) ++ replicate (4094 - 2 * k) 0) h

-- entries of a list of pages, at the front of zeros: none, or one more
pub no-entry-put : (first : ℕ) → replicate 248 0 ≡ page_entries first 0 ++ replicate 248 0
unfolding page_entries
no-entry-put first = refl

pub page-entry-put : (first i : ℕ) (bytes part new : List ℕ)
    → bytes ≡ page_entries first i ++ replicate (248 - 8 * i) 0 →
    part ≡ to_le_bytes w64 (first + 4096 * i) → new ≡ with_bytes bytes (8 * i) part →
    new ≡ page_entries first (i + 1) ++ replicate (248 - 8 * (i + 1)) 0
unfolding page_entry
page-entry-put first i bytes part new bytes-is part-is e =
    let done : 8 * i ≡ length (page_entries first i) = sym (length-page_entries first i) in
    let left : 248 - 8 * (i + 1) ≡ 248 - 8 * i - 8 = omega arith in
    e ∙ ap (λ b. with_bytes b (8 * i) part) bytes-is
    ∙ ap (with_bytes (page_entries first i ++ replicate (248 - 8 * i) 0) (8 * i)) part-is
    ∙ part-put (page_entries first i) (to_le_bytes w64 (first + 4096 * i)) (8 * i) (248 - 8 * i)
    (248 - 8 * (i + 1)) done left
    ∙ ap (λ xs. xs ++ replicate (248 - 8 * (i + 1)) 0) (sym (entries-more first i))
