-- For the answer of `compare_blocks`: blocks that are compared one after the other.
use Rattle.std.proofs.Common.{◌≡◌, ℕ, ◌+◌, ◌*◌, ◌≤◌, ◌<◌, List, ◌++◌, length, take, rules, arith, refl, sym, ap, ◌∙◌}
use Rattle.std.proofs.lemmas.List.{same_lists, places}
use Rattle.nvme_spec.specs.Blocks.{block_at, blocks_from}
use Rattle.nvme_spec.proofs.Splices.{blocks_from-more}

front-and-block : (bytes : List ℕ) (j : ℕ)
    → 512 * (j + 1) ≤ length bytes → take (512 * (j + 1)) bytes ≡ take (512 * j) bytes ++ block_at bytes j
front-and-block bytes j fits = same_lists _ _ (search (rules, places)) (λ k d h. grind (arith, places))

block-of-run : (content : List ℕ) (first j n : ℕ) → 512 * first + n ≤ length content → 512 * j + 512 ≤ n
    → block_at (blocks_from content first n) j ≡ block_at content (first + j)
block-of-run content first j n fits within = same_lists _ _ (search (rules, places)) (λ k d h. grind (arith, places))

-- the next block is the same
pub same-more : (content bytes stored brought : List ℕ) (first j : ℕ)
    → blocks_from content first (512 * j) ≡ take (512 * j) bytes → stored ≡ block_at content (first + j)
    → brought ≡ block_at bytes j
    → stored ≡ brought → 512 * (first + j + 1) ≤ length content → 512 * (j + 1) ≤ length bytes
    → blocks_from content first (512 * (j + 1)) ≡ take (512 * (j + 1)) bytes
same-more content bytes stored brought first j before stored-is brought-is same fits long =
    rw (blocks_from-more content first j fits, front-and-block bytes j long, before, ← stored-is, ← brought-is, same)
    refl

-- a block that differs decides the comparison
pub block-differs : (content bytes stored brought : List ℕ) (first j blocks : ℕ) → stored ≡ block_at content (first + j)
    → brought ≡ block_at bytes j
    → (stored ≡ brought → ⊥) → length bytes ≡ 512 * blocks → j < blocks → 512 * (first + blocks) ≤ length content
    → blocks_from content first (length bytes) ≡ bytes → ⊥
block-differs content bytes stored brought first j blocks stored-is brought-is other long more fits all =
    let part = block-of-run content first j (length bytes) (omega arith) (omega arith) in
    other (stored-is ∙ sym part ∙ ap (λ x. block_at x j) all ∙ sym brought-is)
