-- For the answer of `byte_place`: the place of a block, among pieces that are pages.
use Rattle.std.proofs.Common.{
  ◌≡◌,
  ℕ,
  suc,
  ◌+◌,
  ◌-◌,
  ◌/◌,
  ◌%◌,
  ◌<◌,
  ◌≤◌,
  List,
  [],
  ◌∷◌,
  length,
  get_or,
  sym,
  ap,
  subst,
  ◌∙◌,
  arith,
  ⊎_elim,
}
use Rattle.std.proofs.lemmas.Bool.{cases_lt, lt-ltb, le-ltb, cond-true, cond-false}
use Rattle.nvme_spec.specs.declared.pointer.Piece.{Piece}
use Rattle.nvme_spec.specs.Transfers.{addresses, ArePages}
use Rattle.nvme_prp.specs.BlockPlaces.{no_piece, placed, place_at}
use Rattle.nvme_prp.proofs.PageBlocks.{HeadStarts, addresses-size, addresses-short, later-pages, lies, ends}

-- in the first piece
near : (p : Piece) (later : List Piece) (at : ℕ)
    → at < p.len → place_at (p ∷ later) at ≡ placed p (get_or later 0 no_piece) at
unfolding place_at
near p later at h = cond-true _ _ _ (lt-ltb _ _ h)

-- after it
far : (p : Piece) (later : List Piece) (at : ℕ) → p.len ≤ at → place_at (p ∷ later) at ≡ place_at later (at - p.len)
unfolding place_at
far p later at h = cond-false _ _ _ (le-ltb _ _ h)

-- in further pieces
further : (ps : List Piece) (k : ℕ) → ArePages ps → HeadStarts ps → k + 512 ≤ length (addresses ps)
    → place_at ps k ≡ placed (get_or ps (k / 4096) no_piece) (get_or ps (k / 4096 + 1) no_piece) (k % 4096)
further [] k h s enough = let short = addresses-short [] h in absurd (omega (arith, enough, short))
further (p ∷ later) k h s enough =
    let both = later-pages p later h in
    let fits = lies p later h in
    let size = addresses-size p later in
    ⊎_elim {C = place_at (p ∷ later) k ≡ placed (get_or (p ∷ later) (k / 4096) no_piece)
    (get_or (p ∷ later) (k / 4096 + 1) no_piece) (k % 4096)}
    (λ (here : k < p.len).
    let none : k / 4096 ≡ 0 = omega arith in
    let all : k % 4096 ≡ k = omega arith in
    near p later k here
    ∙ ap (λ m. placed p (get_or later 0 no_piece) m) (sym all)
    ∙ ap (λ i. placed (get_or (p ∷ later) i no_piece) (get_or (p ∷ later) (i + 1) no_piece) (k % 4096)) (sym none))
    (λ (behind : p.len ≤ k).
    let some : 0 < length later = (let short = addresses-short later both.0 in omega arith) in
    let whole = ends p later h some in
    let full : p.len ≡ 4096 = omega arith in
    let next : suc ((k - p.len) / 4096) ≡ k / 4096 = omega arith in
    let after : suc ((k - p.len) / 4096 + 1) ≡ k / 4096 + 1 = omega arith in
    let rest : k % 4096 ≡ (k - p.len) % 4096 = omega arith in
    far p later k behind
    ∙ further later (k - p.len) both.0 both.1 (omega arith)
    ∙ ap (λ m. placed (get_or later ((k - p.len) / 4096) no_piece) (get_or later ((k - p.len) / 4096 + 1) no_piece) m)
    (sym rest)
    ∙ ap (λ i.
    placed (get_or (p ∷ later) i no_piece) (get_or (p ∷ later) (suc ((k - p.len) / 4096 + 1)) no_piece) (k % 4096)) next
    ∙ ap (λ i. placed (get_or (p ∷ later) (k / 4096) no_piece) (get_or (p ∷ later) i no_piece) (k % 4096)) after)
    (cases_lt k p.len)

-- the place of a block that begins in the first piece, as the code computes it
pub in-first : (ps xs : List Piece) (at : ℕ) → xs ≡ ps → ArePages ps → at + 512 ≤ length (addresses ps)
    → at < (get_or xs 0 no_piece).len → place_at ps at ≡ placed (get_or ps 0 no_piece) (get_or ps 1 no_piece) at
in-first [] xs at e h enough here = let short = addresses-short [] h in absurd (omega (arith, enough, short))
in-first (p ∷ later) xs at e h enough here =
    let first : (get_or xs 0 no_piece).len ≡ p.len = ap (λ ys. (get_or ys 0 no_piece).len) e in
    near p later at (omega (arith, here, first))

pub in-further : (ps xs : List Piece) (at : ℕ) → xs ≡ ps → ArePages ps → at + 512 ≤ length (addresses ps)
    → (get_or xs 0 no_piece).len ≤ at
    → place_at ps at ≡ placed (get_or ps (1 + (at - (get_or xs 0 no_piece).len) / 4096) no_piece)
    (get_or ps (1 + (at - (get_or xs 0 no_piece).len) / 4096 + 1) no_piece) ((at - (get_or xs 0 no_piece).len) % 4096)
in-further [] xs at e h enough beyond = let short = addresses-short [] h in absurd (omega (arith, enough, short))
in-further (p ∷ later) xs at e h enough beyond =
    let both = later-pages p later h in
    let size = addresses-size p later in
    let first : (get_or xs 0 no_piece).len ≡ p.len = ap (λ ys. (get_or ys 0 no_piece).len) e in
    let index : suc ((at - p.len) / 4096) ≡ 1 + (at - p.len) / 4096 = omega arith in
    let after : suc ((at - p.len) / 4096 + 1) ≡ 1 + (at - p.len) / 4096 + 1 = omega arith in
    subst (λ n. place_at (p ∷ later) at ≡ placed (get_or (p ∷ later) (1 + (at - n) / 4096) no_piece)
    (get_or (p ∷ later) (1 + (at - n) / 4096 + 1) no_piece) ((at - n) % 4096)) (sym first)
    (far p later at (omega (arith, beyond, first))
    ∙ further later (at - p.len) both.0 both.1 (omega arith)
    ∙ ap (λ i. placed (get_or (p ∷ later) i no_piece) (get_or (p ∷ later) (suc ((at - p.len) / 4096 + 1)) no_piece)
    ((at - p.len) % 4096)) index
    ∙ ap (λ i. placed (get_or (p ∷ later) (1 + (at - p.len) / 4096) no_piece) (get_or (p ∷ later) i no_piece)
    ((at - p.len) % 4096)) after)
