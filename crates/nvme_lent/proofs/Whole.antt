-- For the contracts of a medium over borrowed bytes: its blocks are the whole blocks of these bytes.
use Rattle.std.proofs.Common.{◌≡◌, ℕ, ◌+◌, ◌*◌, ◌<◌, ◌≤◌, List, length, take, drop, rules, arith}
use Rattle.std.proofs.lemmas.List.{same_lists, places}
use Rattle.nvme_spec.specs.Blocks.{block_at, blocks_from}
use Rattle.nvme_spec.specs.Bytes.{with_bytes}

-- the blocks of all bytes are the blocks of the whole blocks
pub block-inside : (items : List ℕ) (blocks i : ℕ)
    → i < blocks → block_at items i ≡ block_at (take (512 * blocks) items) i
block-inside items blocks i below = same_lists _ _ (search (rules, places)) (λ k d h. grind (arith, places))

pub blocks-inside : (items : List ℕ) (blocks first len : ℕ) → 512 * first + len ≤ 512 * blocks
    → blocks_from items first len ≡ blocks_from (take (512 * blocks) items) first len
blocks-inside items blocks first len within = same_lists _ _ (search (rules, places)) (λ k d h. grind (arith, places))

-- a write to the whole blocks is a write to the bytes
pub written-inside : (items : List ℕ) (n at : ℕ) (brought : List ℕ) → at + length brought ≤ n → n ≤ length items
    → take n (with_bytes items at brought) ≡ with_bytes (take n items) at brought
written-inside items n at brought within fits = same_lists _ _ (search (rules, places)) (λ k d h. grind (arith, places))

pub behind-stays : (items : List ℕ) (n at : ℕ) (brought : List ℕ) → at + length brought ≤ n → n ≤ length items
    → drop n (with_bytes items at brought) ≡ drop n items
behind-stays items n at brought within fits = same_lists _ _ (search (rules, places)) (λ k d h. grind (arith, places))
