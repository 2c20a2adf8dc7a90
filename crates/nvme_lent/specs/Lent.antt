-- A medium over borrowed bytes, as contracts see it.
use Rattle.std.specs.Prelude.{◌≡◌, ℕ, ◌*◌, ◌/◌, List, length, take, drop, Ok}
use Rattle.std.proofs.Common.{ap, ◌∙◌, le_trans, le_of_eq, mul_comm, div-mul-le_self}
use Rattle.std.proofs.lemmas.List.{length-take-le}
use Rattle.nvme_spec.specs.Blocks.{block_at}
use Rattle.nvme_spec.specs.Bytes.{with_bytes}
use Rattle.nvme_spec.specs.MediumCalls.{MediumCall, Reads, Writes, Flushes}
use Rattle.nvme_lent.specs.Bytes.{as_lent, extent}
use Rattle.nvme_lent.specs.declared.bytes.LentBytes.{LentBytes}
use Rattle.nvme_lent.specs.declared.lent.LentMedium.{LentMedium}

-- the borrowed bytes, as they are now
abbrev pub bytes_lent : LentMedium → LentBytes
bytes_lent m = as_lent m.bytes

-- the bytes of its blocks
abbrev pub lent_bytes : LentMedium → List ℕ
lent_bytes m = take (512 * m.blocks) m.bytes.items

-- the bytes after its last block
abbrev pub tail_bytes : LentMedium → List ℕ
tail_bytes m = drop (512 * m.blocks) m.bytes.items

abbrev pub has_whole_blocks : (m : LentMedium) → length (lent_bytes m) ≡ 512 * m.blocks
has_whole_blocks m =
    let bytes : ℕ = length m.bytes.items in
    length-take-le (512 * m.blocks) m.bytes.items
    (le_trans (le_of_eq (ap (λ n. 512 * n) m.whole ∙ mul_comm 512 (bytes / 512))) (div-mul-le_self bytes 512))

-- Every call succeeds. Only a write changes anything, and only bytes of the blocks. The borrowed bytes stay at their
-- address.
abbrev pub lent_step : LentMedium → MediumCall → LentMedium → Type 0
lent_step old (Reads i answer) new = (answer ≡ Ok (block_at (lent_bytes old) i)) × (new ≡ old)
lent_step old (Writes i block answer) new =
    (answer ≡ Ok tt)
    × (lent_bytes new ≡ with_bytes (lent_bytes old) (512 * i) block) × (tail_bytes new ≡ tail_bytes old)
    × (extent (bytes_lent new) ≡ extent (bytes_lent old)) × (new.blocks ≡ old.blocks)
lent_step old (Flushes answer) new = (answer ≡ Ok tt) × (new ≡ old)
