-- For proofs about media and windows: lists of bytes in which a part is replaced, and their blocks.
use Rattle.std.proofs.Common.{
  ◌≡◌,
  ℕ,
  ◌+◌,
  ◌*◌,
  ◌≤◌,
  ◌<◌,
  List,
  ◌++◌,
  length,
  take,
  slice_range,
  rules,
  refl,
  sym,
  ◌∙◌,
  arith,
  length-append,
  length-drop,
}
use Rattle.std.proofs.lemmas.List.{length-take, length-take-le, places, same_lists}
use Rattle.nvme_spec.specs.Bytes.{with_bytes}
use Rattle.nvme_spec.specs.Blocks.{block_at, blocks_from, Torn}

pub length-with_bytes : (content : List ℕ) (at : ℕ) (bytes : List ℕ) → at + length bytes ≤ length content
    → length (with_bytes content at bytes) ≡ length content
length-with_bytes content at bytes fits = simp (length-append, length-take, length-drop) (omega arith)

-- writing the bytes that are there changes nothing
pub with_bytes-same : (content : List ℕ) (at n : ℕ)
    → at + n ≤ length content → with_bytes content at (slice_range content at (at + n)) ≡ content
with_bytes-same content at n fits = same_lists _ _ (search (rules, places)) (λ k d h. grind (arith, places))

-- two adjacent writes are one
pub with_bytes-append : (content : List ℕ) (at : ℕ) (xs ys : List ℕ) → at + length xs + length ys ≤ length content
    → with_bytes (with_bytes content at xs) (at + length xs) ys ≡ with_bytes content at (xs ++ ys)
with_bytes-append content at xs ys fits = same_lists _ _ (search (rules, places)) (λ k d h. grind (arith, places))

-- a block that is written reads as it was written
pub block_at-overwritten_same : (content : List ℕ) (i : ℕ) (block : List ℕ)
    → length block ≡ 512 → 512 * i + 512 ≤ length content → block_at (with_bytes content (512 * i) block) i ≡ block
block_at-overwritten_same content i block whole fits =
    same_lists _ _ (search (rules, places)) (λ k d h. grind (arith, places))

-- no other block changes
pub block_at-overwritten_other : (content : List ℕ) (i j : ℕ) (block : List ℕ)
    → length block ≡ 512 → 512 * i + 512 ≤ length content → (i ≡ j → ⊥)
    → block_at (with_bytes content (512 * i) block) j ≡ block_at content j
block_at-overwritten_other content i j block whole fits other =
    same_lists _ _ (search (rules, places)) (λ k d h. grind (arith, places))

-- a write that changed nothing
pub Torn-unchanged : (old new : List ℕ) (i size : ℕ) → new ≡ old → length old ≡ 512 * size → i < size → Torn i old new
Torn-unchanged old new i size same whole within = record {
  left = block_at old i;
  whole = simp (length-take, length-drop) (omega arith);
  is = same ∙ sym (with_bytes-same old (512 * i) 512 (omega arith));
}

-- the next block of a write in parts
pub with_bytes-next : (old : List ℕ) (first : ℕ) (bytes : List ℕ) (i blocks : ℕ) (now new block : List ℕ)
    → now ≡ with_bytes old (512 * first) (take (512 * i) bytes)
    → new ≡ with_bytes now (512 * (first + i)) block
    → block ≡ block_at bytes i → i < blocks → length bytes ≡ 512 * blocks → 512 * (first + blocks) ≤ length old
    → new ≡ with_bytes old (512 * first) (take (512 * (i + 1)) bytes)
with_bytes-next old first bytes i blocks now new block was is gathered within all fits =
    let len : length (take (512 * i) bytes) ≡ 512 * i = length-take-le (512 * i) bytes (omega arith) in
    let at : 512 * (first + i) ≡ 512 * first + length (take (512 * i) bytes) = omega arith in
    let long : length block ≡ 512 = rw gathered (simp (length-take, length-drop) (omega arith)) in
    let joined : with_bytes (with_bytes old (512 * first) (take (512 * i) bytes))
    (512 * first + length (take (512 * i) bytes)) block ≡ with_bytes old (512 * first) (take (512 * i) bytes ++ block) =
    with_bytes-append old (512 * first) (take (512 * i) bytes) block (omega arith) in
    let front : take (512 * i) bytes ++ block ≡ take (512 * (i + 1)) bytes =
    rw gathered (same_lists _ _ (search (rules, places)) (λ k d h. grind (arith, places))) in
    rw (is, was, at, joined, front) refl

-- one block more
pub blocks_from-more : (content : List ℕ) (first j : ℕ) → 512 * (first + j + 1) ≤ length content
    → blocks_from content first (512 * (j + 1)) ≡ blocks_from content first (512 * j) ++ block_at content (first + j)
blocks_from-more content first j fits = same_lists _ _ (search (rules, places)) (λ k d h. grind (arith, places))

-- their length, if the content is long enough
pub length-blocks_from : (content : List ℕ) (first n : ℕ) → 512 * first + n ≤ length content
    → length (blocks_from content first n) ≡ n
length-blocks_from content first n fits = simp (length-take, length-drop) (omega arith)
