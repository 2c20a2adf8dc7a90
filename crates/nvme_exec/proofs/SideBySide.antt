-- For the answers of `run_at` and `blocks`: blocks of a transfer that are contiguous in one page of host memory.
use Rattle.std.proofs.Common.{
  ◌≡◌,
  ℕ,
  ◌+◌,
  ◌-◌,
  ◌*◌,
  ◌/◌,
  ◌%◌,
  ◌<◌,
  ◌≤◌,
  List,
  [],
  ◌∷◌,
  ◌++◌,
  Bool,
  true,
  false,
  length,
  min,
  take,
  drop,
  get_or,
  sym,
  ap,
  subst,
  ◌∙◌,
  refl,
  arith,
  ⊎_elim,
}
use Rattle.std.specs.Prelude.{slice_range, nat_le, if◌then◌else◌}
use Rattle.std.specs.List.{range_with_len}
use Rattle.std.proofs.lemmas.Bool.{cases_lt, lt-ltb, le-ltb, leb-true, cond-true, cond-false}
use Rattle.std.proofs.lemmas.List.{append-nil, take-map, drop-map}
use Rattle.std.proofs.lemmas.List.FromFn.{length-range_with_len}
use Rattle.std.proofs.Math.Seq.{drop-append-add}
use Rattle.nvme_spec.specs.declared.pointer.Piece.{Piece}
use Rattle.nvme_spec.specs.Blocks.{blocks_from}
use Rattle.nvme_spec.specs.Transfers.{run, addresses, gathered_bytes, ArePages}
use Rattle.nvme_spec.proofs.Runs.{piece-step, run-read}
use Rattle.nvme_prp.specs.declared.block.BlockPlace.TheVariants.{One, Two}
use Rattle.nvme_prp.specs.BlockPlaces.{no_piece, placed, place_at}
use Rattle.nvme_prp.proofs.PageBlocks.{addresses-cons, addresses-size, addresses-short, later-pages, lies, ends}
use Rattle.nvme_exec.specs.Runs.{IsRun}

-- in the first piece
near : (p : Piece) (later : List Piece) (at : ℕ)
    → at < p.len → place_at (p ∷ later) at ≡ placed p (get_or later 0 no_piece) at
unfolding place_at
near p later at h = cond-true _ _ _ (lt-ltb _ _ h)

-- after it
far : (p : Piece) (later : List Piece) (at : ℕ) → p.len ≤ at → place_at (p ∷ later) at ≡ place_at later (at - p.len)
unfolding place_at
far p later at h = cond-false _ _ _ (le-ltb _ _ h)

-- 512 bytes of a piece are in one part
is-one : (b : Bool) (x y n z a : ℕ) → (if b then One x else Two y n z) ≡ One a → (x ≡ a) × (b ≡ true)
is-one true x y n z a is = (cc, refl)
is-one false x y n z a is = absurd (cc)

-- bytes of a piece from one of its own, up to the end of its page
in-piece : (p : Piece) (later : List Piece) (at n : ℕ) → ArePages (p ∷ later) → at < p.len
    → (p.address + at) % 4096 + n ≤ 4096 → at + n ≤ length (addresses (p ∷ later)) → at + n ≤ p.len
in-piece p later at n h here page enough =
    let size = addresses-size p later in
    let fits = lies p later h in
    ⊎_elim {C = at + n ≤ p.len}
    (λ (more : 0 < length later). let whole = ends p later h more in omega arith)
    (λ (last : length later ≤ 0). let short = addresses-short later (later-pages p later h).0 in omega arith)
    (cases_lt 0 (length later))

-- `n` bytes of a transfer from byte `at` are those from address `a`, in the window
abbrev LiesFrom : List Piece → ℕ → ℕ → ℕ → Type 0
LiesFrom ps at a n = (slice_range (addresses ps) at (at + n) ≡ range_with_len a n) × (a + n ≤ 4194304)

-- bytes of a piece
piece-bytes : (p : Piece) (later : List Piece) (at n : ℕ)
    → at + n ≤ p.len → slice_range (addresses (p ∷ later)) at (at + n) ≡ range_with_len (p.address + at) n
piece-bytes p later at n fits =
    let width : at + n - at ≡ n = omega arith in
    let skipped : min at p.len ≡ at = omega arith in
    let all : min (p.len - at) n ≡ n = omega arith in
    let none : n - n ≡ 0 = omega arith in
    ap (λ k. take k (drop at (addresses (p ∷ later)))) width
    ∙ ap (λ xs. take n (drop at xs)) (addresses-cons p later)
    ∙ piece-step p (addresses later) at n
    ∙ ap (λ k. range_with_len (p.address + k) (min (p.len - k) n)
    ++ take (n - min (p.len - k) n) (drop (at - k) (addresses later))) skipped
    ∙ ap (λ k. range_with_len (p.address + at) k ++ take (n - k) (drop (at - at) (addresses later))) all
    ∙ ap (λ k. range_with_len (p.address + at) n ++ take k (drop (at - at) (addresses later))) none
    ∙ append-nil (range_with_len (p.address + at) n)

-- bytes after a piece
later-bytes : (p : Piece) (later : List Piece) (at n : ℕ) → p.len ≤ at
    → slice_range (addresses (p ∷ later)) at (at + n) ≡ slice_range (addresses later) (at - p.len) (at - p.len + n)
later-bytes p later at n behind =
    let size : length (run p) ≡ p.len = length-range_with_len p.address p.len in
    let split : at ≡ length (run p) + (at - p.len) = omega arith in
    let width : at + n - at ≡ at - p.len + n - (at - p.len) = omega arith in
    ap (λ k. take k (drop at (addresses (p ∷ later)))) width
    ∙ ap (λ xs. take (at - p.len + n - (at - p.len)) (drop at xs)) (addresses-cons p later)
    ∙ ap (λ k. take (at - p.len + n - (at - p.len)) (drop k (run p ++ addresses later))) split
    ∙ ap (take (at - p.len + n - (at - p.len))) (drop-append-add (run p) (addresses later) (at - p.len))

-- a block in one piece is in one page
pub in-page : (ps : List Piece) (at a : ℕ) → ArePages ps → at + 512 ≤ length (addresses ps) → place_at ps at ≡ One a
    → a % 4096 + 512 ≤ 4096
in-page [] at a h enough is = let short = addresses-short [] h in absurd (omega (arith, enough, short))
in-page (p ∷ later) at a h enough is =
    let size = addresses-size p later in
    let fits = lies p later h in
    ⊎_elim {C = a % 4096 + 512 ≤ 4096}
    (λ (here : at < p.len).
    let one = is-one (nat_le (at + 512) p.len) _ _ _ _ a (sym (near p later at here) ∙ is) in
    let within : at + 512 ≤ p.len = leb-true (at + 512) p.len one.1 in
    let same = one.0 in
    omega arith)
    (λ (behind : p.len ≤ at).
    in-page later (at - p.len) a (later-pages p later h).0 (omega arith) (sym (far p later at behind) ∙ is))
    (cases_lt at p.len)

-- and so are the blocks after it, up to the end of the page
pub lies-from : (ps : List Piece) (at a n : ℕ) → ArePages ps → 0 < n → at + n ≤ length (addresses ps)
    → place_at ps at ≡ One a → a % 4096 + n ≤ 4096 → LiesFrom ps at a n
lies-from [] at a n h some enough is page = let short = addresses-short [] h in
    absurd (omega (arith, some, enough, short))
lies-from (p ∷ later) at a n h some enough is page =
    let size = addresses-size p later in
    ⊎_elim {C = LiesFrom (p ∷ later) at a n}
    (λ (here : at < p.len).
    let same : p.address + at ≡ a = (is-one (nat_le (at + 512) p.len) _ _ _ _ a (sym (near p later at here) ∙ is)).0 in
    let fits = in-piece p later at n h here (subst (λ k. k % 4096 + n ≤ 4096) (sym same) page) enough in
    let lie = lies p later h in
    (piece-bytes p later at n fits ∙ ap (λ k. range_with_len k n) same, omega arith))
    (λ (behind : p.len ≤ at).
    let rest = lies-from later (at - p.len) a n (later-pages p later h).0 some (omega arith)
    (sym (far p later at behind) ∙ is) page in
    (later-bytes p later at n behind ∙ rest.0, rest.1))
    (cases_lt at p.len)

-- the run of a block in one piece
pub run-is : (ps : List Piece) (j most a blocks : ℕ) → ArePages ps → 1 ≤ most → 512 * (j + most) ≤ length (addresses ps)
    → place_at ps (512 * j) ≡ One a → blocks ≡ min most ((4096 - a % 4096) / 512)
    → IsRun ps j most (record { address = a; len = 512 * blocks })
run-is ps j most a blocks h some enough is count =
    let page = in-page ps (512 * j) a h (omega (arith, some, enough)) is in
    let one : 1 ≤ blocks = omega (arith, some, page, count) in
    let few : blocks ≤ most = omega (arith, count) in
    let fits : a % 4096 + 512 * blocks ≤ 4096 = omega (arith, page, count) in
    let lie = lies-from ps (512 * j) a (512 * blocks) h (omega (arith, one)) (omega (arith, few, enough)) is fits in
    record {
      blocks = omega arith;
      some = omega (arith, one);
      few = omega (arith, few);
      lies = lie.1;
      places = lie.0;
    }

-- its bytes are those blocks of the data
pub run-bytes : (ps : List Piece) (j most : ℕ) (p : Piece) (w bytes : List ℕ) → IsRun ps j most p
    → p.address + p.len ≤ length w → bytes ≡ slice_range w p.address (p.address + p.len) → length bytes ≡ p.len
    → bytes ≡ blocks_from (gathered_bytes w (addresses ps)) j (length bytes)
run-bytes ps j most p w bytes is inside has long =
    run-read w p.address p.len p.address p.len bytes refl refl inside has
    ∙ ap (gathered_bytes w) (sym is.places)
    ∙ slice w (addresses ps) (512 * j) p.len
    ∙ ap (λ n. blocks_from (gathered_bytes w (addresses ps)) j n) (sym long)
  where
    slice : (w at : List ℕ) (from n : ℕ)
        → gathered_bytes w (slice_range at from (from + n)) ≡ slice_range (gathered_bytes w at) from (from + n)
    slice w at from n = simp (take-map, drop-map)
