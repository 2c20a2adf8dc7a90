-- For the answer of `MemMedium::write_blocks`: writes to memory never fail.
use Rattle.std.proofs.Common.{◌≡◌, ℕ, ◌+◌, ◌-◌, ◌*◌, ◌≤◌, List, length, refl, sym, ap, ◌∙◌, arith}
use Rattle.std.specs.Vec.{with_items}
use Rattle.std.proofs.lemmas.List.{with_items_is}
use Rattle.nvme_spec.specs.Bytes.{with_bytes}
use Rattle.nvme_spec.proofs.Splices.{length-with_bytes}
use Rattle.nvme_medium.specs.Memory.{memory_bytes, memory_step}
use Rattle.nvme_medium.specs.declared.memory.MemMedium.{MemMedium}
use borrow.Rule.Slice.PartMut.{put_mid}
use Rattle.nvme_medium.proofs.Writing.{Takes, put-is}

sized : (m : MemMedium) (i : ℕ) (block : List ℕ) → length block ≡ 512 → 512 * i + 512 ≤ length (memory_bytes m)
    → length (with_bytes (memory_bytes m) (512 * i) block) ≡ length (memory_bytes m)
sized m i block long fits = length-with_bytes (memory_bytes m) (512 * i) block (omega (arith, long, fits))

items : (m : MemMedium) (i : ℕ) (block : List ℕ) → length block ≡ 512 → 512 * i + 512 ≤ length (memory_bytes m)
    → (with_items m.bytes (with_bytes (memory_bytes m) (512 * i) block)).items
    ≡ with_bytes (memory_bytes m) (512 * i) block
items m i block long fits =
    with_items_is m.bytes (with_bytes (memory_bytes m) (512 * i) block) (sized m i block long fits ∙ sym m.bytes.ok.0)

abbrev next : (m : MemMedium) (i : ℕ) (block : List ℕ)
    → length block ≡ 512 → 512 * i + 512 ≤ length (memory_bytes m) → MemMedium
next m i block long fits = record {
  bytes = with_items m.bytes (with_bytes (memory_bytes m) (512 * i) block);
  blocks = m.blocks;
  whole = ap length (items m i block long fits) ∙ (sized m i block long fits ∙ m.whole);
  countable = m.countable;
}

pub memory-takes : Takes memory_step memory_bytes (λ m. m.blocks)
memory-takes = record {
  next = next;
  has = items;
  sized = λ m i block long fits. refl;
  writes = λ m n i block is kept. (refl, is, kept);
}

-- storing bytes among those of the medium is a write
pub items-written : (m : MemMedium) (at n : ℕ) (xs part brought : List ℕ) → xs ≡ memory_bytes m → part ≡ brought
    → length brought ≡ n → at + n ≤ length (memory_bytes m)
    → (with_items m.bytes (put_mid at (at + n - at) xs part)).items ≡ with_bytes (memory_bytes m) at brought
items-written m at n xs part brought xs-is part-is long fits =
    let put = ap (λ x. put_mid at (at + n - at) x part) xs-is ∙ ap (put_mid at (at + n - at) (memory_bytes m)) part-is
    ∙ put-is (memory_bytes m) brought at n long fits in
    ap (λ c. (with_items m.bytes c).items) put
    ∙ with_items_is m.bytes (with_bytes (memory_bytes m) at brought)
    (length-with_bytes (memory_bytes m) at brought (omega (arith, long, fits)) ∙ sym m.bytes.ok.0)
