-- For proofs about slots: the entries of a list of pages, one after the other, and read back.
use Rattle.std.proofs.Common.{
  ◌≡◌,
  ℕ,
  zero,
  suc,
  ◌+◌,
  ◌-◌,
  ◌*◌,
  ◌^◌,
  ◌<◌,
  List,
  ◌++◌,
  length,
  take,
  drop,
  refl,
  sym,
  ap,
  ◌∙◌,
  arith,
  append_assoc,
  length-append,
}
use Rattle.std.proofs.lemmas.List.{append-nil, take-take, take_at, drop_at, drop-drop, drop-take}
use Rattle.std.proofs.lemmas.Nat.{from_le_bytes-to_le_bytes_8}
use Rattle.std.specs.Int.{w64, from_le_bytes}
use Rattle.nvme_spec.specs.Memory.{qword}
use Rattle.nvme_driver.specs.Pointers.{page_entry, page_entries}

pub length-page_entry : (page : ℕ) → length (page_entry page) ≡ 8
unfolding page_entry
length-page_entry page = refl

pub length-page_entries : (page n : ℕ) → length (page_entries page n) ≡ 8 * n
unfolding page_entries
length-page_entries page zero = refl
length-page_entries page (suc n) =
    let one = length-page_entry page in
    let rest = length-page_entries (page + 4096) n in
    length-append (page_entry page) (page_entries (page + 4096) n) ∙ omega arith

-- one more entry after them
pub entries-more : (page n : ℕ) → page_entries page (n + 1) ≡ page_entries page n ++ page_entry (page + 4096 * n)
unfolding page_entries
entries-more page zero = append-nil (page_entry page) ∙ ap page_entry (omega arith)
entries-more page (suc n) =
    let count : suc n + 1 ≡ suc (n + 1) = omega arith in
    let last : page + 4096 + 4096 * n ≡ page + 4096 * suc n = omega arith in
    ap (page_entries page) count
    ∙ ap (λ xs. page_entry page ++ xs) (entries-more (page + 4096) n)
    ∙ sym (append_assoc (page_entry page) (page_entries (page + 4096) n) (page_entry (page + 4096 + 4096 * n)))
    ∙ ap (λ a. (page_entry page ++ page_entries (page + 4096) n) ++ page_entry a) last

-- entry j of n entries
pub entry-at : (w : List ℕ) (at n page j : ℕ) → take (8 * n) (drop at w) ≡ page_entries page n → j < n
    → take 8 (drop (at + 8 * j) w) ≡ page_entry (page + 4096 * j)
unfolding page_entries
entry-at w at zero page j e h = absurd (omega (arith, h))
entry-at w at (suc n) page zero e h =
    let here : at + 8 * 0 ≡ at = omega arith in
    let first : page ≡ page + 4096 * 0 = omega arith in
    ap (λ k. take 8 (drop k w)) here ∙ sym (take-take 8 (8 * suc n) (drop at w) (omega arith)) ∙ ap (take 8) e
    ∙ take_at (page_entry page) (page_entries (page + 4096) n) 8 (length-page_entry page) ∙ ap page_entry first
entry-at w at (suc n) page (suc j) e h =
    let all : 8 * suc n ≡ 8 + 8 * n = omega arith in
    let rest : take (8 * n) (drop (at + 8) w) ≡ page_entries (page + 4096) n =
    ap (take (8 * n)) (sym (drop-drop 8 at w)) ∙ sym (drop-take 8 (8 * n) (drop at w))
    ∙ ap (λ k. drop 8 (take k (drop at w))) (sym all) ∙ ap (drop 8) e
    ∙ drop_at (page_entry page) (page_entries (page + 4096) n) 8 (length-page_entry page) in
    let here : at + 8 * suc j ≡ at + 8 + 8 * j = omega arith in
    let next : page + 4096 + 4096 * j ≡ page + 4096 * suc j = omega arith in
    ap (λ k. take 8 (drop k w)) here ∙ entry-at w (at + 8) n (page + 4096) j rest (omega (arith, h))
    ∙ ap page_entry next

-- the number of an entry's bytes
pub qword-entry : (w : List ℕ) (at page : ℕ) → page < 2 ^ 64 → take 8 (drop at w) ≡ page_entry page → qword w at ≡ page
unfolding qword page_entry
qword-entry w at page fits e =
    let width : at + 8 - at ≡ 8 = omega arith in
    ap (λ k. from_le_bytes w64 (take k (drop at w))) width ∙ ap (from_le_bytes w64) e
    ∙ from_le_bytes-to_le_bytes_8 page fits
