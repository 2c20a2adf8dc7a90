-- For proofs about transfers: bytes read from, and stored in, runs of addresses.
use Rattle.std.proofs.Common.{
  ◌≡◌,
  ℕ,
  zero,
  suc,
  ◌+◌,
  ◌-◌,
  ◌≤◌,
  List,
  [],
  ◌∷◌,
  ◌++◌,
  length,
  min,
  take,
  drop,
  refl,
  sym,
  ap,
  ◌∙◌,
  arith,
  length-append,
  length-drop,
  ◌<◌,
  ⊎_elim,
}
use Rattle.std.specs.Prelude.{slice_range, slice_index, slice_set}
use Rattle.std.specs.List.{range_with_len}
use Rattle.std.proofs.lemmas.List.{
  map-append,
  drop_more,
  drop_all,
  drop-append-le,
  take-append-le,
  append-nil,
  take_all,
  drop-set-lt,
  length-take-le,
  take-append-drop,
  append_assoc,
  take_more_set,
  length-set,
}
use Rattle.std.proofs.Math.Seq.{drop-append-add, take-append-add}
use Rattle.std.proofs.lemmas.Bool.{cases_lt}
use Rattle.nvme_spec.specs.declared.pointer.Piece.{Piece}
use Rattle.std.proofs.lemmas.List.FromFn.{length-range_with_len}
use Rattle.nvme_spec.specs.Bytes.{with_bytes, with_bytes_within}
use Rattle.nvme_spec.specs.Transfers.{run, gathered_bytes, with_scattered}

-- the bytes of a run are a part of the window
pub gathered_bytes-run : (w : List ℕ) (a n : ℕ)
    → a + n ≤ length w → gathered_bytes w (range_with_len a n) ≡ take n (drop a w)
gathered_bytes-run w a zero h = refl
gathered_bytes-run w a (suc n) h =
    rw (drop_more w a 0 (omega arith)) (ap (λ ys. slice_index w a ∷ ys) (gathered_bytes-run w (a + 1) n (omega arith)))

pub run-read : (w : List ℕ) (a n at len : ℕ) (bytes : List ℕ) → at ≡ a → len ≡ n → a + n ≤ length w
    → bytes ≡ slice_range w at (at + len) → bytes ≡ gathered_bytes w (range_with_len a n)
run-read w a n at len bytes at-is len-is h bytes-is =
    let width : at + len - at ≡ n = omega arith in
    bytes-is ∙ ap (λ m. take m (drop at w)) width ∙ ap (λ k. take n (drop k w)) at-is ∙ sym (gathered_bytes-run w a n h)

pub two-read : (w xs ys front back : List ℕ) → front ≡ gathered_bytes w xs → back ≡ gathered_bytes w ys
    → front ++ back ≡ gathered_bytes w (xs ++ ys)
two-read w xs ys front back front-is back-is =
    ap (λ bs. bs ++ back) front-is ∙ ap (λ bs. gathered_bytes w xs ++ bs) back-is
    ∙ sym (map-append (slice_index w) xs ys)

pub with_scattered-append : (w xs ys bs : List ℕ) → length xs ≤ length bs → with_scattered w (xs ++ ys) bs
    ≡ with_scattered (with_scattered w xs (take (length xs) bs)) ys (drop (length xs) bs)
unfolding with_scattered
with_scattered-append w [] ys bs h = refl
with_scattered-append w (x ∷ xs) ys [] h = absurd (omega arith)
with_scattered-append w (x ∷ xs) ys (b ∷ bs) h = with_scattered-append (slice_set w x b) xs ys bs (omega arith)

-- bytes stored in a run replace a part of the window
pub with_scattered-run : (w : List ℕ) (a n : ℕ) (bs : List ℕ) → length bs ≡ n → a + n ≤ length w
    → with_scattered w (range_with_len a n) bs ≡ take a w ++ (bs ++ drop (a + n) w)
unfolding with_scattered
with_scattered-run w a zero [] e h = let f : a + 0 ≡ a = omega arith in rw (f) (sym (take-append-drop a w))
with_scattered-run w a zero (b ∷ bs) e h = absurd (omega arith)
with_scattered-run w a (suc n) [] e h = absurd (omega arith)
with_scattered-run w a (suc n) (b ∷ bs) e h =
    let f : a + suc n ≡ a + 1 + n = omega arith in
    let size = length-set w a b in
    with_scattered-run (slice_set w a b) (a + 1) n bs (omega arith) (omega arith)
    ∙ ap (λ xs. xs ++ (bs ++ drop (a + 1 + n) (slice_set w a b))) (take_more_set w a b (omega arith))
    ∙ append_assoc (take a w) (b ∷ []) (bs ++ drop (a + 1 + n) (slice_set w a b))
    ∙ ap (λ xs. take a w ++ (b ∷ (bs ++ xs))) (drop-set-lt (a + 1 + n) w a b (omega arith) ∙ ap (λ k. drop k w) (sym f))

-- `with_bytes`, read from the right
pub with_bytes-is : (w : List ℕ) (a : ℕ) (bs : List ℕ) → with_bytes w a bs ≡ take a w ++ (bs ++ drop (a + length bs) w)
with_bytes-is w a bs = append_assoc (take a w) bs (drop (a + length bs) w)

length-with_bytes : (w : List ℕ) (a : ℕ) (bs : List ℕ)
    → a + length bs ≤ length w → length (with_bytes w a bs) ≡ length w
length-with_bytes w a bs h =
    let one = length-append (take a w) (bs ++ drop (a + length bs) w) in
    let two = length-append bs (drop (a + length bs) w) in
    let three = length-drop (a + length bs) w in
    let four : length (take a w) ≡ a = length-take-le a w (omega arith) in
    ap length (with_bytes-is w a bs) ∙ omega arith

within : (w : List ℕ) (a : ℕ) (bs : List ℕ) → a + length bs ≤ length w → with_bytes_within w a bs ≡ with_bytes w a bs
within w a bs h = let size = length-with_bytes w a bs h in take_all (length w) (with_bytes w a bs) (omega (arith, size))

pub run-store : (w : List ℕ) (a n at : ℕ) (lent bs : List ℕ) → at ≡ a → lent ≡ bs → length bs ≡ n → a + n ≤ length w
    → with_bytes_within w at lent ≡ with_scattered w (range_with_len a n) bs
run-store w a n at lent bs at-is lent-is size h =
    ap (λ k. with_bytes_within w k lent) at-is ∙ ap (with_bytes_within w a) lent-is ∙ within w a bs (omega arith)
    ∙ with_bytes-is w a bs
    ∙ ap (λ k. take a w ++ (bs ++ drop (a + k) w)) size ∙ sym (with_scattered-run w a n bs size h)

pub two-store : (w : List ℕ) (a n at b m bt : ℕ) (front back bs : List ℕ)
    → at ≡ a → bt ≡ b → front ≡ take n bs → back ≡ drop n bs → length bs ≡ n + m → a + n ≤ length w → b + m ≤ length w
    → with_bytes_within (with_bytes_within w at front) bt back
    ≡ with_scattered w (range_with_len a n ++ range_with_len b m) bs
two-store w a n at b m bt front back bs at-is bt-is front-is back-is size fits-front fits-back =
    let front-size : length (take n bs) ≡ n = length-take-le n bs (omega arith) in
    let back-size : length (drop n bs) ≡ m = length-drop n bs ∙ omega arith in
    let run-size : length (range_with_len a n) ≡ n = length-range_with_len a n in
    let middle : List ℕ = with_bytes_within w at front in
    let middle-is : middle ≡ with_scattered w (range_with_len a n) (take n bs) =
    run-store w a n at front (take n bs) at-is front-is front-size fits-front in
    let middle-with_bytes : middle ≡ with_bytes w a (take n bs) = ap (λ k. with_bytes_within w k front) at-is
    ∙ ap (with_bytes_within w a) front-is ∙ within w a (take n bs) (omega arith) in
    let middle-size : length middle ≡ length w =
    ap length middle-with_bytes ∙ length-with_bytes w a (take n bs) (omega arith) in
    run-store middle b m bt back (drop n bs) bt-is back-is back-size (omega arith)
    ∙ ap (λ x. with_scattered x (range_with_len b m) (drop n bs)) middle-is
    ∙ ap (λ k. with_scattered (with_scattered w (range_with_len a n) (take k bs)) (range_with_len b m) (drop k bs))
    (sym run-size)
    ∙ sym (with_scattered-append w (range_with_len a n) (range_with_len b m) bs (omega arith))

-- parts of runs
pub drop-range : (s a n : ℕ) → drop s (range_with_len a n) ≡ range_with_len (a + s) (n - s)
drop-range zero a n =
    let e : a + 0 ≡ a = omega arith in
    let f : n - 0 ≡ n = omega arith in
    rw (e, f) refl
drop-range (suc s) a zero = let f : 0 - suc s ≡ 0 = omega arith in rw (f) refl
drop-range (suc s) a (suc n) =
    let e : a + suc s ≡ a + 1 + s = omega arith in
    let f : suc n - suc s ≡ n - s = omega arith in
    rw (e, f) (drop-range s (a + 1) n)

pub take-range : (k a n : ℕ) → k ≤ n → take k (range_with_len a n) ≡ range_with_len a k
take-range zero a n h = refl
take-range (suc k) a zero h = absurd (omega arith)
take-range (suc k) a (suc n) h = ap (λ xs. a ∷ xs) (take-range k (a + 1) n (omega arith))

drop-both : (s : ℕ) (xs ys : List ℕ)
    → drop s (xs ++ ys) ≡ drop (min s (length xs)) xs ++ drop (s - min s (length xs)) ys
drop-both s xs ys =
    ⊎_elim {C = drop s (xs ++ ys) ≡ drop (min s (length xs)) xs ++ drop (s - min s (length xs)) ys}
    (λ (le : s < length xs).
    let e : min s (length xs) ≡ s = omega arith in
    let f : s - s ≡ 0 = omega arith in
    rw (e, f) (drop-append-le s xs ys (omega arith)))
    (λ (ge : length xs ≤ s).
    let e : min s (length xs) ≡ length xs = omega arith in
    let f : s ≡ length xs + (s - length xs) = omega arith in
    rw (e, drop_all (length xs) xs (omega arith))
    (ap (λ k. drop k (xs ++ ys)) f ∙ drop-append-add xs ys (s - length xs)))
    (cases_lt s (length xs))

take-both : (n : ℕ) (xs ys : List ℕ)
    → take n (xs ++ ys) ≡ take (min (length xs) n) xs ++ take (n - min (length xs) n) ys
take-both n xs ys =
    ⊎_elim {C = take n (xs ++ ys) ≡ take (min (length xs) n) xs ++ take (n - min (length xs) n) ys}
    (λ (le : n < length xs).
    let e : min (length xs) n ≡ n = omega arith in
    let f : n - n ≡ 0 = omega arith in
    rw (e, f) (take-append-le n xs ys (omega arith) ∙ sym (append-nil (take n xs))))
    (λ (ge : length xs ≤ n).
    let e : min (length xs) n ≡ length xs = omega arith in
    let f : n ≡ length xs + (n - length xs) = omega arith in
    rw (e, take_all (length xs) xs (omega arith))
    (ap (λ k. take k (xs ++ ys)) f ∙ take-append-add xs ys (n - length xs)))
    (cases_lt n (length xs))

-- The rest of a block from `skip` on: what this piece has of it, and the rest.
pub piece-step : (p : Piece) (rest : List ℕ) (skip todo : ℕ) → take todo (drop skip (run p ++ rest))
    ≡ range_with_len (p.address + min skip p.len) (min (p.len - min skip p.len) todo)
    ++ take (todo - min (p.len - min skip p.len) todo) (drop (skip - min skip p.len) rest)
piece-step p rest skip todo =
    let len = length-range_with_len p.address p.len in
    let tail = drop-range (min skip p.len) p.address p.len in
    let tail-len = length-range_with_len (p.address + min skip p.len) (p.len - min skip p.len) in
    ap (take todo)
    (drop-both skip (run p) rest ∙ ap (λ n. drop (min skip n) (run p) ++ drop (skip - min skip n) rest) len
    ∙ ap (λ xs. xs ++ drop (skip - min skip p.len) rest) tail)
    ∙ take-both todo (range_with_len (p.address + min skip p.len) (p.len - min skip p.len))
    (drop (skip - min skip p.len) rest)
    ∙ ap (λ n. take (min n todo) (range_with_len (p.address + min skip p.len) (p.len - min skip p.len))
    ++ take (todo - min n todo) (drop (skip - min skip p.len) rest)) tail-len
    ∙ ap (λ xs. xs ++ take (todo - min (p.len - min skip p.len) todo) (drop (skip - min skip p.len) rest))
    (take-range (min (p.len - min skip p.len) todo) (p.address + min skip p.len) (p.len - min skip p.len) (omega arith))
