-- For the answers of `block` and `read_blocks`: a transfer, one block at a time.
use Rattle.std.proofs.Common.{
  ◌≡◌,
  ℕ,
  Bool,
  IsTrue,
  List,
  [],
  ◌++◌,
  ◌+◌,
  ◌-◌,
  ◌*◌,
  ◌≤◌,
  ◌<◌,
  length,
  drop,
  replicate,
  get_or,
  rules,
  arith,
  refl,
  sym,
  ap,
  ◌∙◌,
  length-append,
}
use Rattle.std.proofs.lemmas.List.{
  same_lists,
  places,
  length-take,
  length-drop,
  length-replicate,
  get_or-take,
  get_or-drop,
  get_or-replicate,
}
use borrow.Rule.Slice.PartMut.{put_mid}
use Rattle.nvme_spec.specs.Blocks.{block_at, blocks_from}
use Rattle.nvme_spec.proofs.Splices.{blocks_from-more}

-- the next block is put after those before it
pub put-block : (front block old : List ℕ) (at : ℕ) → length front ≡ at → length block ≡ 512 → at + 512 ≤ length old
    → put_mid at (at + 512 - at) (front ++ drop at old) block ≡ (front ++ block) ++ drop (at + 512) old
put-block front block old at long whole fits = same_lists _ _ (search (rules, places)) (λ k d h. grind (arith, places))

zeros_at : (n i k d : ℕ) → 512 * i + 512 ≤ n → k < 512 → get_or (block_at (replicate n 0) i) k d ≡ 0
zeros_at n i k d fits within =
    let below : k < 512 * i + 512 - 512 * i = omega arith in
    let in_all : 512 * i + k < n = omega arith in
    get_or-take _ _ k d below
    ∙ (get_or-drop (512 * i) (replicate n 0) k d ∙ get_or-replicate n (512 * i + k) 0 d in_all)

-- a block of zeros
pub block_at-zeros : (n i : ℕ) → 512 * i + 512 ≤ n → replicate {A = ℕ} 512 0 ≡ block_at (replicate n 0) i
block_at-zeros n i fits = same_lists _ _ (simp (length-take, length-drop, length-replicate) (omega arith)) (λ k d h.
    let within : k < 512 = omega (arith, length-replicate 512 (let z : ℕ = 0 in z)) in
    get_or-replicate 512 k 0 d within ∙ sym (zeros_at n i k d fits within))

-- the buffer's front has blocks of the content, from block `first`, and the rest has not changed
pub record HasReadFront (tells : Bool) (first blocks : ℕ) (content old now : List ℕ) : Type 0 where
  pub front : List ℕ
  pub size : length front ≡ 512 * blocks
  pub told : IsTrue tells → front ≡ blocks_from content first (512 * blocks)
  pub is : now ≡ front ++ drop (512 * blocks) old

-- no block has been read
pub no_front : (tells : Bool) (first : ℕ) (content old : List ℕ) → HasReadFront tells first 0 content old old
no_front tells first content old =
    let none : 512 * first + 512 * 0 - 512 * first ≡ 0 = omega arith in
    record { front = []; size = refl; told = λ t. rw none refl; is = refl }

-- one block more
pub one_more : (tells : Bool) (first j : ℕ) (content old now new block : List ℕ) (size : ℕ)
    → HasReadFront tells first j content old now
    → length block ≡ 512 → (IsTrue tells → block ≡ block_at content (first + j))
    → (IsTrue tells → length content ≡ 512 * size)
    → new ≡ put_mid (512 * j) (512 * j + 512 - 512 * j) now block → 512 * j + 512 ≤ length old → first + j < size
    → HasReadFront tells first (j + 1) content old new
one_more tells first j content old now new block size before long told whole is fits within =
    let at : 512 * (j + 1) ≡ 512 * j + 512 = omega arith in
    record {
      front = before.front ++ block;
      size = omega (arith, length-append before.front block, before.size);
      told = λ t.
          let enough : 512 * (first + j + 1) ≤ length content = omega (arith, whole t) in
          rw (before.told t, told t) (sym (blocks_from-more content first j enough));
      is = rw at (is ∙ ap (λ x. put_mid (512 * j) (512 * j + 512 - 512 * j) x block) before.is
          ∙ put-block before.front block old (512 * j) before.size long fits);
    }
