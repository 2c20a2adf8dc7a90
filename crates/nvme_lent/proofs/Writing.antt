-- For the answers of `LentMedium`: writes to borrowed bytes never fail.
use Rattle.std.proofs.Common.{
  ◌≡◌,
  ℕ,
  ◌+◌,
  ◌-◌,
  ◌*◌,
  ◌/◌,
  ◌≤◌,
  List,
  [],
  ◌∷◌,
  length,
  take,
  drop,
  Ok,
  refl,
  sym,
  ap,
  ◌∙◌,
  arith,
}
use Rattle.std.specs.Vec.{with_items}
use Rattle.std.proofs.lemmas.List.{with_items_is}
use borrow.Rule.Slice.PartMut.{put_mid}
use denote.RawPtr.{Ptr}
use Rattle.nvme_spec.specs.Bytes.{with_bytes}
use Rattle.nvme_spec.specs.MediumCalls.{MediumCall, Calls, MakesInOrder, writes_from}
use Rattle.nvme_spec.proofs.Splices.{length-with_bytes}
use Rattle.nvme_medium.proofs.Writing.{Takes, put-is, written-at-once}
use Rattle.nvme_lent.specs.Bytes.{extent}
use Rattle.nvme_lent.specs.Lent.{bytes_lent, lent_bytes, tail_bytes, lent_step, has_whole_blocks}
use Rattle.nvme_lent.proofs.Whole.{written-inside, behind-stays}
use Rattle.nvme_lent.specs.declared.lent.LentMedium.{LentMedium}

-- a medium over the bytes of this extent, with these bytes after its last block
abbrev At : Ptr × ℕ → List ℕ → Type 0
At p behind = (m : LentMedium) × (extent (bytes_lent m) ≡ p) × (tail_bytes m ≡ behind)

abbrev step_at : (p : Ptr × ℕ) (behind : List ℕ) → At p behind → MediumCall → At p behind → Type 0
step_at p behind old call new = lent_step old.0 call new.0

fits-all : (m : LentMedium) → 512 * m.blocks ≤ length m.bytes.items
fits-all m = omega (arith, m.whole)

module _ (m : LentMedium) (i : ℕ) (block : List ℕ) (long : length block ≡ 512)
    (fits : 512 * i + 512 ≤ length (lent_bytes m)) where
  inside : 512 * i + length block ≤ 512 * m.blocks
  inside = omega (arith, long, fits, has_whole_blocks m)

  sized : length (with_bytes m.bytes.items (512 * i) block) ≡ length m.bytes.items
  sized = length-with_bytes m.bytes.items (512 * i) block (omega (arith, inside, fits-all m))

  items : (with_items m.bytes (with_bytes m.bytes.items (512 * i) block)).items
      ≡ with_bytes m.bytes.items (512 * i) block
  items = with_items_is m.bytes (with_bytes m.bytes.items (512 * i) block) (sized ∙ sym m.bytes.ok.0)

  abbrev next : LentMedium
  next = record {
    bytes = with_items m.bytes (with_bytes m.bytes.items (512 * i) block);
    blocks = m.blocks;
    whole = m.whole ∙ ap (λ n. n / 512) (sym (ap length items ∙ sized));
    countable = m.countable;
  }

  has-next : lent_bytes next ≡ with_bytes (lent_bytes m) (512 * i) block
  has-next =
      ap (take (512 * m.blocks)) items
      ∙ written-inside m.bytes.items (512 * m.blocks) (512 * i) block inside (fits-all m)

  behind-next : tail_bytes next ≡ tail_bytes m
  behind-next =
      ap (drop (512 * m.blocks)) items ∙ behind-stays m.bytes.items (512 * m.blocks) (512 * i) block inside (fits-all m)

takes_at : (p : Ptr × ℕ) (behind : List ℕ) → Takes (step_at p behind) (λ m. lent_bytes m.0) (λ m. m.0.blocks)
takes_at p behind = record {
  next = λ m i block long fits. (next m.0 i block long fits, m.1, behind-next m.0 i block long fits ∙ m.2);
  has = λ m i block long fits. has-next m.0 i block long fits;
  sized = λ m i block long fits. refl;
  writes = λ m n i block is kept. (refl, is, n.2 ∙ sym m.2, n.1 ∙ sym m.1, kept);
}

calls_at : (p : Ptr × ℕ) (behind : List ℕ) (old new : At p behind) (calls : List MediumCall)
    → Calls (step_at p behind) old calls new → Calls lent_step old.0 calls new.0
calls_at p behind old new [] made = ap (λ (m : At p behind). m.0) made
calls_at p behind old new (call ∷ calls) made = (made.0.0, made.1, calls_at p behind made.0 new calls made.2)

-- copying blocks at once has the same effect as writing them one after the other
pub lent_at_once : (first blocks : ℕ) (brought : List ℕ) (old new : LentMedium)
    → length brought ≡ 512 * blocks → 1 ≤ blocks → 512 * (first + blocks) ≤ length (lent_bytes old)
    → lent_bytes new ≡ with_bytes (lent_bytes old) (512 * first) brought → tail_bytes new ≡ tail_bytes old
    → extent (bytes_lent new) ≡ extent (bytes_lent old) → new.blocks ≡ old.blocks
    → MakesInOrder lent_step (writes_from first brought) blocks old (Ok tt) new
lent_at_once first blocks brought old new all some fits is behind there kept =
    let p = extent (bytes_lent old) in let t = tail_bytes old in
    let h = written-at-once (step_at p t) (λ m. lent_bytes m.0) (λ m. m.0.blocks) (takes_at p t) first blocks brought
    (old, refl, refl) (new, there, behind) all some fits is kept in
    record { passed = h.passed; ends = h.ends; made = calls_at p t (old, refl, refl) (new, there, behind) _ h.made }

-- bytes stored into the blocks are written there, and the bytes after the last block stay
items-put : (m : LentMedium) (at n : ℕ) (xs part brought : List ℕ) → xs ≡ m.bytes.items → part ≡ brought
    → length brought ≡ n → at + n ≤ length m.bytes.items
    → (with_items m.bytes (put_mid at (at + n - at) xs part)).items ≡ with_bytes m.bytes.items at brought
items-put m at n xs part brought xs-is part-is long fits =
    let put = ap (λ x. put_mid at (at + n - at) x part) xs-is ∙ ap (put_mid at (at + n - at) m.bytes.items) part-is
    ∙ put-is m.bytes.items brought at n long fits in
    ap (λ c. (with_items m.bytes c).items) put
    ∙ with_items_is m.bytes (with_bytes m.bytes.items at brought)
    (length-with_bytes m.bytes.items at brought (omega (arith, long, fits)) ∙ sym m.bytes.ok.0)

module _ (m : LentMedium) (at n : ℕ) (xs part brought : List ℕ) (xs-is : xs ≡ m.bytes.items) (part-is : part ≡ brought)
    (long : length brought ≡ n) (fits : at + n ≤ 512 * m.blocks) where
  within : at + n ≤ length m.bytes.items
  within = omega (arith, fits, fits-all m)

  pub blocks-put : take (512 * m.blocks) (with_items m.bytes (put_mid at (at + n - at) xs part)).items
      ≡ with_bytes (lent_bytes m) at brought
  blocks-put =
      ap (take (512 * m.blocks)) (items-put m at n xs part brought xs-is part-is long within)
      ∙ written-inside m.bytes.items (512 * m.blocks) at brought (omega (arith, fits, long)) (fits-all m)

  pub behind-put : drop (512 * m.blocks) (with_items m.bytes (put_mid at (at + n - at) xs part)).items ≡ tail_bytes m
  behind-put =
      ap (drop (512 * m.blocks)) (items-put m at n xs part brought xs-is part-is long within)
      ∙ behind-stays m.bytes.items (512 * m.blocks) at brought (omega (arith, fits, long)) (fits-all m)
