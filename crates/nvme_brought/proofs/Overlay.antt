-- A content over which the blocks at hand are put: what is read there, and what a write of one leaves.
use Rattle.std.proofs.Common.{◌≡◌, ℕ, ◌+◌, ◌*◌, ◌<◌, ◌≤◌, List, length, take, max, rules, arith}
use Rattle.std.proofs.lemmas.List.{places, same_lists}
use Rattle.nvme_spec.specs.Blocks.{block_at, blocks_from}
use Rattle.nvme_spec.specs.Bytes.{with_bytes}

-- a block at hand is the block of the content
pub block-at-hand : (content room : List ℕ) (first at_hand nth : ℕ)
    → nth < at_hand → 512 * at_hand ≤ length room → 512 * (first + at_hand) ≤ length content
    → block_at room nth ≡ block_at (with_bytes content (512 * first) (take (512 * at_hand) room)) (first + nth)
block-at-hand content room first at_hand nth below fits within =
    same_lists _ _ (search (rules, places)) (λ k d h. grind (arith, places))

-- and so are adjacent ones
pub blocks-at-hand : (content room : List ℕ) (first at_hand nth len : ℕ)
    → 512 * nth + len ≤ 512 * at_hand → 512 * at_hand ≤ length room → 512 * (first + at_hand) ≤ length content
    → blocks_from room nth len
    ≡ blocks_from (with_bytes content (512 * first) (take (512 * at_hand) room)) (first + nth) len
blocks-at-hand content room first at_hand nth len below fits within =
    same_lists _ _ (search (rules, places)) (λ k d h. grind (arith, places))

-- bytes that have a place are written there, and their blocks are at hand
pub put-there : (content room left bytes : List ℕ) (first at_hand nth count later : ℕ)
    → nth ≤ at_hand → later ≡ max at_hand (nth + count) → left ≡ with_bytes room (512 * nth) bytes
    → length bytes ≡ 512 * count → 512 * at_hand ≤ length room → 512 * (nth + count) ≤ length room
    → 512 * (first + at_hand) ≤ length content → 512 * (first + nth + count) ≤ length content
    → with_bytes content (512 * first) (take (512 * later) left)
    ≡ with_bytes (with_bytes content (512 * first) (take (512 * at_hand) room)) (512 * (first + nth)) bytes
put-there content room left bytes first at_hand nth count later le more written long fits inside within there =
    rw (written, more) (same_lists _ _ (search (rules, places)) (λ k d h. grind (arith, places)))
