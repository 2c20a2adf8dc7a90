-- For the answer of `prp_list` and the laws: the entries of the PRP list, one after the other, and read back.
use Rattle.std.proofs.Common.{
  ◌≡◌,
  ℕ,
  zero,
  suc,
  ◌+◌,
  ◌-◌,
  ◌*◌,
  ◌^◌,
  ◌<◌,
  List,
  [],
  ◌∷◌,
  ◌++◌,
  length,
  take,
  drop,
  replicate,
  refl,
  sym,
  ap,
  ◌∙◌,
  arith,
  length-append,
}
use Rattle.std.specs.Prelude.{slice_range}
use Rattle.std.specs.List.{flat_map, range_with_len}
use Rattle.std.specs.Int.{w64, from_le_bytes}
use Rattle.std.proofs.Math.Seq.{drop-append-add}
use Rattle.std.proofs.lemmas.Grind.{flat_map-append}
use Rattle.std.proofs.lemmas.List.{append-nil, take-take, take_at, drop_at, drop-drop, drop-take}
use Rattle.std.proofs.lemmas.Nat.{from_le_bytes-to_le_bytes_8}
use Rattle.nvme_spec.specs.Bytes.{with_bytes}
use Rattle.nvme_spec.specs.Memory.{qword}
use Rattle.nvme_spec.proofs.PagesJoined.{range-split}
use Rattle.nvme_data_buffers.specs.Buffers.{page_entry, page_entries, first_listed, prp_list, HasListAt}

-- the entries of n pages, from the b-th on
abbrev entries-from : ℕ → ℕ → ℕ → List ℕ
entries-from page b n = flat_map (page_entry page) (range_with_len b n)

length-entries : (page b n : ℕ) → length (entries-from page b n) ≡ 8 * n
length-entries page b zero = refl
length-entries page b (suc n) =
    let rest = length-entries page (b + 1) n in
    length-append (page_entry page b) (entries-from page (b + 1) n) ∙ omega arith

-- one more entry after them
entries-more : (page n : ℕ) → page_entries page (n + 1) ≡ page_entries page n ++ page_entry page n
entries-more page n =
    let none : 0 + n ≡ n = omega arith in
    ap (flat_map (page_entry page)) (range-split 0 n 1)
    ∙ flat_map-append (page_entry page) (range_with_len 0 n) ((0 + n) ∷ [])
    ∙ ap (λ xs. page_entries page n ++ xs) (append-nil (page_entry page (0 + n)) ∙ ap (page_entry page) none)

pub drop-zeros : (k n : ℕ) → drop {A = ℕ} k (replicate n 0) ≡ replicate (n - k) 0
drop-zeros zero n = let e : n ≡ n - 0 = omega arith in ap (λ m. replicate m 0) e
drop-zeros (suc k) zero = let e : 0 ≡ 0 - suc k = omega arith in ap (λ m. replicate m 0) e
drop-zeros (suc k) (suc n) = let e : suc n - suc k ≡ n - k = omega arith in
    drop-zeros k n ∙ ap (λ m. replicate m 0) (sym e)

-- one more entry, at the front of zeros
pub entry-put : (page i : ℕ) (bytes part : List ℕ) → bytes ≡ page_entries page i ++ replicate (248 - 8 * i) 0
    → part ≡ page_entry page i
    → with_bytes bytes (8 * i) part ≡ page_entries page (i + 1) ++ replicate (248 - 8 * (i + 1)) 0
entry-put page i bytes part bytes-is part-is =
    let entries : List ℕ = page_entries page i in
    let zeros : List ℕ = replicate (248 - 8 * i) 0 in
    let size : length entries ≡ 8 * i = length-entries page 0 i in
    let left : 248 - 8 * i - 8 ≡ 248 - 8 * (i + 1) = omega arith in
    ap (λ b. with_bytes b (8 * i) part) bytes-is
    ∙ ap (with_bytes (entries ++ zeros) (8 * i)) part-is
    ∙ ap (λ xs. (xs ++ page_entry page i) ++ drop (8 * i + 8) (entries ++ zeros)) (take_at entries zeros (8 * i) size)
    ∙ ap (λ k. (entries ++ page_entry page i) ++ drop (k + 8) (entries ++ zeros)) (sym size)
    ∙ ap (λ xs. (entries ++ page_entry page i) ++ xs)
    (drop-append-add entries zeros 8 ∙ drop-zeros 8 (248 - 8 * i) ∙ ap (λ k. replicate k 0) left)
    ∙ ap (λ xs. xs ++ replicate (248 - 8 * (i + 1)) 0) (sym (entries-more page i))

-- all entries
pub all-entries : (page i : ℕ) (bytes : List ℕ) → i ≡ 31
    → bytes ≡ page_entries page i ++ replicate (248 - 8 * i) 0 → bytes ≡ page_entries page 31
all-entries page i bytes all bytes-is =
    bytes-is ∙ ap (λ k. page_entries page k ++ replicate (248 - 8 * k) 0) all ∙ append-nil (page_entries page 31)

-- entry j of n
entry-at : (w : List ℕ) (at n page b j : ℕ) → take (8 * n) (drop at w) ≡ entries-from page b n → j < n
    → take 8 (drop (at + 8 * j) w) ≡ page_entry page (b + j)
entry-at w at zero page b j e h = absurd (omega (arith, h))
entry-at w at (suc n) page b zero e h =
    let here : at + 8 * 0 ≡ at = omega arith in
    let first : b ≡ b + 0 = omega arith in
    ap (λ k. take 8 (drop k w)) here ∙ sym (take-take 8 (8 * suc n) (drop at w) (omega arith)) ∙ ap (take 8) e
    ∙ take_at (page_entry page b) (entries-from page (b + 1) n) 8 refl ∙ ap (page_entry page) first
entry-at w at (suc n) page b (suc j) e h =
    let all : 8 * suc n ≡ 8 + 8 * n = omega arith in
    let rest : take (8 * n) (drop (at + 8) w) ≡ entries-from page (b + 1) n =
    ap (take (8 * n)) (sym (drop-drop 8 at w)) ∙ sym (drop-take 8 (8 * n) (drop at w))
    ∙ ap (λ k. drop 8 (take k (drop at w))) (sym all) ∙ ap (drop 8) e
    ∙ drop_at (page_entry page b) (entries-from page (b + 1) n) 8 refl in
    let here : at + 8 * suc j ≡ at + 8 + 8 * j = omega arith in
    let next : b + 1 + j ≡ b + suc j = omega arith in
    ap (λ k. take 8 (drop k w)) here ∙ entry-at w (at + 8) n page (b + 1) j rest (omega (arith, h))
    ∙ ap (page_entry page) next

-- the page that entry j names
pub entry-read : (w : List ℕ) (at n page j : ℕ) → slice_range w at (at + 8 * n) ≡ page_entries page n → j < n
    → page + 4096 * j < 2 ^ 64 → qword w (at + 8 * j) ≡ page + 4096 * j
unfolding qword
entry-read w at n page j e h fits =
    let all : at + 8 * n - at ≡ 8 * n = omega arith in
    let width : at + 8 * j + 8 - (at + 8 * j) ≡ 8 = omega arith in
    let none : 0 + j ≡ j = omega arith in
    ap (λ k. from_le_bytes w64 (take k (drop (at + 8 * j) w))) width
    ∙ ap (from_le_bytes w64) (entry-at w at n page 0 j (ap (λ k. take k (drop at w)) (sym all) ∙ e) h)
    ∙ ap (λ k. from_le_bytes w64 (page_entry page k)) none
    ∙ from_le_bytes-to_le_bytes_8 (page + 4096 * j) fits

-- the page that entry j of the list names
pub listed-page : (w : List ℕ) (at j : ℕ) → HasListAt w at → j < 31 → qword w (at + 8 * j) ≡ first_listed + 4096 * j
unfolding HasListAt prp_list
listed-page w at j h few = entry-read w at 31 first_listed j h few (omega (arith, few))

pub length-prp_list : length prp_list ≡ 248
unfolding prp_list
length-prp_list = length-entries first_listed 0 31
