-- For the answers of `gather`, `scatter` and `scatter_padded`: a whole transfer, one piece after the other.
use Rattle.std.proofs.Common.{
  ◌≡◌,
  ℕ,
  ◌+◌,
  ◌-◌,
  ◌<◌,
  ◌≤◌,
  min,
  rules,
  List,
  [],
  ◌++◌,
  length,
  take,
  drop,
  get_or,
  refl,
  sym,
  ap,
  subst,
  ◌∙◌,
  arith,
  length-append,
  length-drop,
}
use Rattle.std.specs.Prelude.{slice_range, slice_index, replicate}
use Rattle.std.proofs.lemmas.List.{
  same_lists,
  places,
  length-replicate,
  map-append,
  drop_more,
  drop_all,
  take_all,
  drop-drop,
  length-take-le,
  append-nil,
  append_assoc,
  take_at,
}
use Rattle.std.proofs.lemmas.List.FromFn.{length-range_with_len}
use borrow.Rule.Slice.PartMut.{put_mid}
use Rattle.nvme_spec.specs.declared.pointer.Piece.{Piece}
use Rattle.nvme_spec.specs.Bytes.{with_bytes_within}
use Rattle.nvme_spec.specs.Transfers.{run, addresses, gathered_bytes, with_scattered, ArePages}
use Rattle.nvme_spec.proofs.Runs.{gathered_bytes-run, with_scattered-append, run-store}
use Rattle.nvme_prp.proofs.PageBlocks.{addresses-cons, addresses-size, front-fits}

-- What is known before piece i: the number of bytes left, and that those gathered and those to come are all.
pub record Gathering (w : List ℕ) (ps : List Piece) (i filled : ℕ) (bytes : List ℕ) : Type 0 where
  pub left : filled + length (addresses (drop i ps)) ≡ length bytes
  pub same : take filled bytes ++ gathered_bytes w (addresses (drop i ps)) ≡ gathered_bytes w (addresses ps)

next-piece : (ps : List Piece) (i : ℕ) (d : Piece)
    → i < length ps → addresses (drop i ps) ≡ run (get_or ps i d) ++ addresses (drop (i + 1) ps)
next-piece ps i d h = ap addresses (drop_more ps i d h) ∙ addresses-cons (get_or ps i d) (drop (i + 1) ps)

next-size : (ps : List Piece) (i : ℕ) (d : Piece)
    → i < length ps → length (addresses (drop i ps)) ≡ (get_or ps i d).len + length (addresses (drop (i + 1) ps))
next-size ps i d h =
    ap (λ qs. length (addresses qs)) (drop_more ps i d h) ∙ addresses-size (get_or ps i d) (drop (i + 1) ps)

-- the piece's bytes are among those left
pub gathering-room : (w : List ℕ) (ps : List Piece) (i filled : ℕ) (bytes : List ℕ) (d : Piece)
    → Gathering w ps i filled bytes → i < length ps → filled + (get_or ps i d).len ≤ length bytes
gathering-room w ps i filled bytes d g h = let size = next-size ps i d h in let left = g.left in omega arith

pub gathering-turn : (w : List ℕ) (ps : List Piece) (i filled n k : ℕ) (bytes part : List ℕ) (d : Piece)
    → ArePages ps → length w ≡ 4194304 → Gathering w ps i filled bytes → i < length ps
    → n ≡ (get_or ps i d).len → k ≡ n → part ≡ slice_range w (get_or ps i d).address ((get_or ps i d).address + n)
    → Gathering w ps (i + 1) (filled + n) (put_mid filled k bytes part)
gathering-turn w ps i filled n k bytes part d pages whole g h n-is k-is part-is =
    let p : Piece = get_or ps i d in
    let later : List ℕ = addresses (drop (i + 1) ps) in
    let size = next-size ps i d h in
    let left = g.left in
    let fit = front-fits ps i d pages h in
    let width : p.address + n - p.address ≡ n = omega arith in
    let read : part ≡ gathered_bytes w (run p) =
    part-is ∙ ap (λ m. take m (drop p.address w)) (width ∙ n-is)
    ∙ sym (gathered_bytes-run w p.address p.len (omega arith)) in
    let part-size : length part ≡ n = ap length (part-is ∙ ap (λ m. take m (drop p.address w)) width)
    ∙ length-take-le n (drop p.address w) (omega (arith, length-drop p.address w)) in
    let tail : List ℕ = drop k (drop filled bytes) in
    let front-size : length (take filled bytes) ≡ filled = length-take-le filled bytes (omega arith) in
    let done : take (filled + n) (put_mid filled k bytes part) ≡ take filled bytes ++ part =
    ap (take (filled + n)) (sym (append_assoc (take filled bytes) part tail))
    ∙ take_at (take filled bytes ++ part) tail (filled + n) (length-append (take filled bytes) part ∙ omega arith) in
    let sizes = length-append (take filled bytes) (part ++ tail) in
    let sizes-2 = length-append part tail in
    let tail-size = length-drop k (drop filled bytes) in
    let behind = length-drop filled bytes in
    record {
      left = omega arith;
      same =
          ap (λ xs. xs ++ gathered_bytes w later) done ∙ append_assoc (take filled bytes) part (gathered_bytes w later)
          ∙ ap (λ xs. take filled bytes ++ (xs ++ gathered_bytes w later)) read
          ∙ ap (λ xs. take filled bytes ++ xs)
          (sym (map-append (slice_index w) (run p) later) ∙ ap (gathered_bytes w) (sym (next-piece ps i d h)))
          ∙ g.same;
    }

nothing-left : (ps : List Piece) (i : ℕ) → length ps ≤ i → addresses (drop i ps) ≡ []
unfolding addresses
nothing-left ps i h = ap addresses (drop_all i ps h)

pub gathering-end : (w : List ℕ) (ps : List Piece) (i filled : ℕ) (bytes : List ℕ)
    → Gathering w ps i filled bytes → length ps ≤ i → bytes ≡ gathered_bytes w (addresses ps)
gathering-end w ps i filled bytes g h =
    let none = nothing-left ps i h in
    let left = g.left in
    let size = ap length none in
    sym (take_all filled bytes (omega arith)) ∙ sym (append-nil (take filled bytes))
    ∙ ap (λ xs. take filled bytes ++ gathered_bytes w xs) (sym none) ∙ g.same

-- What is known before piece i: the number of bytes left, and that storing them leaves the window as storing all bytes
-- does.
pub record Scattering (old : List ℕ) (ps : List Piece) (i with_bytes : ℕ) (w bytes : List ℕ) : Type 0 where
  pub left : with_bytes + length (addresses (drop i ps)) ≡ length bytes
  pub same : with_scattered w (addresses (drop i ps)) (drop with_bytes bytes) ≡ with_scattered old (addresses ps) bytes

pub scattering-room : (old : List ℕ) (ps : List Piece) (i with_bytes : ℕ) (w bytes : List ℕ) (d : Piece)
    → Scattering old ps i with_bytes w bytes → i < length ps → with_bytes + (get_or ps i d).len ≤ length bytes
scattering-room old ps i with_bytes w bytes d g h = let size = next-size ps i d h in let left = g.left in omega arith

pub scattering-turn : (old : List ℕ) (ps : List Piece) (i with_bytes n k : ℕ) (w bytes part : List ℕ) (d : Piece)
    → ArePages ps → length w ≡ 4194304 → Scattering old ps i with_bytes w bytes → i < length ps
    → n ≡ (get_or ps i d).len → k ≡ n → part ≡ take k (drop with_bytes bytes)
    → Scattering old ps (i + 1) (with_bytes + n) (with_bytes_within w (get_or ps i d).address part) bytes
scattering-turn old ps i with_bytes n k w bytes part d pages whole g h n-is k-is part-is =
    let p : Piece = get_or ps i d in
    let later : List ℕ = addresses (drop (i + 1) ps) in
    let size = next-size ps i d h in
    let left = g.left in
    let fit = front-fits ps i d pages h in
    let run-size : length (run p) ≡ p.len = length-range_with_len p.address p.len in
    let long : length (drop with_bytes bytes) ≡ length bytes - with_bytes = length-drop with_bytes bytes in
    let part-size : length (take p.len (drop with_bytes bytes)) ≡ p.len =
    length-take-le p.len (drop with_bytes bytes) (omega arith) in
    let one : with_bytes_within w p.address part ≡ with_scattered w (run p) (take p.len (drop with_bytes bytes)) =
    run-store w p.address p.len p.address part (take p.len (drop with_bytes bytes)) refl
    (part-is ∙ ap (λ m. take m (drop with_bytes bytes)) (k-is ∙ n-is)) part-size (omega arith) in
    let all = with_scattered-append w (run p) later (drop with_bytes bytes) (omega arith) in
    record {
      left = omega arith;
      same =
          ap (λ x. with_scattered x later (drop (with_bytes + n) bytes)) one
          ∙ ap (λ m. with_scattered (with_scattered w (run p) (take p.len (drop with_bytes bytes))) later
          (drop (with_bytes + m) bytes)) n-is
          ∙ ap (λ xs. with_scattered (with_scattered w (run p) (take p.len (drop with_bytes bytes))) later xs)
          (sym (drop-drop p.len with_bytes bytes))
          ∙ ap (λ m. with_scattered (with_scattered w (run p) (take m (drop with_bytes bytes))) later
          (drop m (drop with_bytes bytes))) (sym run-size)
          ∙ sym all ∙ ap (λ xs. with_scattered w xs (drop with_bytes bytes)) (sym (next-piece ps i d h)) ∙ g.same;
    }

pub scattering-end : (old : List ℕ) (ps : List Piece) (i with_bytes : ℕ) (w bytes : List ℕ)
    → Scattering old ps i with_bytes w bytes → length ps ≤ i → w ≡ with_scattered old (addresses ps) bytes
unfolding with_scattered
scattering-end old ps i with_bytes w bytes g h =
    ap (λ xs. with_scattered w xs (drop with_bytes bytes)) (sym (nothing-left ps i h)) ∙ g.same

-- The same facts for the pieces in a slice, as the code has them.
pub gathering-fits : (w : List ℕ) (ps xs : List Piece) (i filled : ℕ) (bytes : List ℕ) (d : Piece)
    → xs ≡ ps → Gathering w ps i filled bytes → i < length xs → filled + (get_or xs i d).len ≤ length bytes
gathering-fits w ps xs i filled bytes d e g h =
    subst (λ ys. filled + (get_or ys i d).len ≤ length bytes) (sym e)
    (gathering-room w ps i filled bytes d g (omega (arith, ap length e)))

pub scattering-fits : (old : List ℕ) (ps xs : List Piece) (i with_bytes : ℕ) (w bytes : List ℕ) (d : Piece)
    → xs ≡ ps → Scattering old ps i with_bytes w bytes → i < length xs → with_bytes + (get_or xs i d).len ≤ length bytes
scattering-fits old ps xs i with_bytes w bytes d e g h =
    subst (λ ys. with_bytes + (get_or ys i d).len ≤ length bytes) (sym e)
    (scattering-room old ps i with_bytes w bytes d g (omega (arith, ap length e)))

pub piece-fits : (ps xs : List Piece) (i : ℕ) (d : Piece) → xs ≡ ps → ArePages ps → i < length xs
    → (get_or xs i d).address + (get_or xs i d).len ≤ 4194304
piece-fits ps xs i d e pages h =
    subst (λ ys. (get_or ys i d).address + (get_or ys i d).len ≤ 4194304) (sym e)
    (front-fits ps i d pages (omega (arith, ap length e)))

-- bytes, and then zeros to the end of the transfer
abbrev pub padded : List ℕ → List ℕ → List ℕ
padded front at = front ++ replicate (length at - length front) 0

pub length-padded : (front at : List ℕ) → length front ≤ length at → length (padded front at) ≡ length at
length-padded front at fits = omega (
  arith,
  length-append front (replicate (length at - length front) 0),
  length-replicate {A = ℕ} (length at - length front) 0,
)

pub padded-part : (front at : List ℕ) (s n : ℕ) → length front ≤ length at → s + n ≤ length at
    → take n (drop s (padded front at))
    ≡ slice_range front (min s (length front)) (min (s + n) (length front))
    ++ replicate (n - length (slice_range front (min s (length front)) (min (s + n) (length front)))) 0
padded-part front at s n fits within = same_lists _ _ (search (rules, places)) (λ k d h. grind (arith, places))

-- the part of it in a piece
pub padded-turn : (front at part : List ℕ) (s n a b m : ℕ) → length front ≤ length at → s + n ≤ length at
    → a ≡ min s (length front) → b ≡ min (s + n) (length front)
    → m ≡ n → part ≡ slice_range front a b ++ replicate (m - length (slice_range front a b)) 0
    → part ≡ take n (drop s (padded front at))
padded-turn front at part s n a b m fits within from to width is =
    is ∙ ap (λ k. slice_range front a b ++ replicate (k - length (slice_range front a b)) 0) width
    ∙ ap (λ k. slice_range front k b ++ replicate (n - length (slice_range front k b)) 0) from
    ∙ ap (λ k. slice_range front (min s (length front)) k
    ++ replicate (n - length (slice_range front (min s (length front)) k)) 0) to
    ∙ sym (padded-part front at s n fits within)
