-- Proofs of the laws in `laws/transfers.rt`.
use Rattle.std.proofs.Common.{
  ◌≡◌,
  ℕ,
  zero,
  suc,
  ◌+◌,
  ◌-◌,
  ◌*◌,
  ◌<◌,
  ◌≤◌,
  List,
  [],
  ◌∷◌,
  ◌++◌,
  length,
  take,
  drop,
  refl,
  sym,
  ap,
  ◌∙◌,
  arith,
  length-drop,
}
use Rattle.std.specs.Prelude.{slice_range, slice_index, slice_set}
use Rattle.std.proofs.lemmas.List.{
  map-append,
  drop-drop,
  take_all,
  length-take-le,
  length-map,
  length-set,
  get_or-map,
  get_or-set_same,
  get_or-set_other,
}
use Rattle.std.proofs.Math.Seq.{take-add}
use Rattle.std.proofs.lemmas.Grind.{same_number_lists}
use Rattle.nvme_spec.specs.declared.pointer.Piece.{Piece}
use Rattle.nvme_spec.specs.Pointer.{address}
use Rattle.nvme_spec.specs.Transfers.{
  addresses,
  block_addresses,
  gathered_bytes,
  with_scattered,
  gathered_blocks,
  with_scattered_blocks,
}
use Rattle.nvme_spec.specs.TransferLaws.{
  LastByteIsKept,
  OthersStay,
  BlocksMakeTheWhole,
  BlocksScatterTheWhole,
  SmallIsContiguous,
  GatheredIsScattered,
  RunIsWritten,
  ScatteringKeepsTheLength,
}
use Rattle.nvme_spec.proofs.PagesJoined.{counts, address-near}
use Rattle.nvme_spec.proofs.Runs.{gathered_bytes-run, with_scattered-append, with_scattered-run, with_bytes-is}

pub others_stay : OthersStay
unfolding with_scattered
others_stay window [] bytes a h = refl
others_stay window (p ∷ places) [] a h = refl
others_stay window (p ∷ places) (b ∷ bytes) a h =
    others_stay (slice_set window p b) places bytes a (λ i lt e. h (suc i) (omega (arith, lt)) e)
    ∙ get_or-set_other window p a b 0 (λ e. h 0 (omega arith) (sym e))

pub last_byte_is_kept : LastByteIsKept
unfolding with_scattered
last_byte_is_kept window [] bytes a k size fits last = absurd (omega (arith, last.0))
last_byte_is_kept window (p ∷ places) [] a k size fits last = absurd (omega (arith, size))
last_byte_is_kept window (p ∷ places) (b ∷ bytes) a zero size fits last =
    others_stay (slice_set window p b) places bytes a (λ i lt e. last.2 (suc i) (omega arith) (omega (arith, lt)) e)
    ∙ ap (λ q. slice_index (slice_set window q b) a) last.1 ∙ get_or-set_same window a b 0 fits
last_byte_is_kept window (p ∷ places) (b ∷ bytes) a (suc k) size fits last =
    last_byte_is_kept (slice_set window p b) places bytes a k (omega (arith, size))
    (omega (arith, fits, length-set window p b))
    (omega (arith, last.0), last.1, λ i low high e. last.2 (suc i) (omega (arith, low)) (omega (arith, high)) e)

-- block j, and those after it
next-blocks : (places : List ℕ) (j n : ℕ) → take (512 * suc n) (drop (512 * j) places)
    ≡ slice_range places (512 * j) (512 * j + 512) ++ take (512 * n) (drop (512 * (j + 1)) places)
next-blocks places j n =
    let count : 512 * suc n ≡ 512 + 512 * n = omega arith in
    let width : 512 * j + 512 - 512 * j ≡ 512 = omega arith in
    let after : 512 * j + 512 ≡ 512 * (j + 1) = omega arith in
    ap (λ k. take k (drop (512 * j) places)) count ∙ take-add 512 (512 * n) (drop (512 * j) places)
    ∙ ap (λ xs. take 512 (drop (512 * j) places) ++ take (512 * n) xs)
    (drop-drop 512 (512 * j) places ∙ ap (λ k. drop k places) after)
    ∙ ap (λ k. take k (drop (512 * j) places) ++ take (512 * n) (drop (512 * (j + 1)) places)) (sym width)

-- n blocks from block j on
pub gathered_bytes-from : (window : List ℕ) (ps : List Piece) (n j : ℕ)
    → gathered_blocks window ps j n ≡ gathered_bytes window (take (512 * n) (drop (512 * j) (addresses ps)))
gathered_bytes-from window ps zero j = refl
gathered_bytes-from window ps (suc n) j =
    ap (λ xs. gathered_bytes window (block_addresses ps j) ++ xs) (gathered_bytes-from window ps n (j + 1))
    ∙ sym
    (map-append (slice_index window) (block_addresses ps j) (take (512 * n) (drop (512 * (j + 1)) (addresses ps))))
    ∙ ap (gathered_bytes window) (sym (next-blocks (addresses ps) j n))

pub with_scattered-from : (window : List ℕ) (ps : List Piece) (n j : ℕ) (bytes : List ℕ)
    → length bytes ≡ 512 * n → 512 * (j + n) ≤ length (addresses ps) → with_scattered_blocks window ps j n bytes
    ≡ with_scattered window (take (512 * n) (drop (512 * j) (addresses ps))) bytes
unfolding with_scattered with_scattered_blocks
with_scattered-from window ps zero j bytes size enough = refl
with_scattered-from window ps (suc n) j bytes size enough =
    let here : List ℕ = block_addresses ps j in
    let later : List ℕ = take (512 * n) (drop (512 * (j + 1)) (addresses ps)) in
    let width : 512 * j + 512 - 512 * j ≡ 512 = omega arith in
    let long : length here ≡ 512 =
    ap (λ k. length (take k (drop (512 * j) (addresses ps)))) width
    ∙ length-take-le 512 (drop (512 * j) (addresses ps)) (omega (arith, length-drop (512 * j) (addresses ps))) in
    with_scattered-from (with_scattered window here (take 512 bytes)) ps n (j + 1) (drop 512 bytes)
    (omega (arith, length-drop 512 bytes)) (omega arith)
    ∙ ap (λ k. with_scattered (with_scattered window here (take k bytes)) later (drop k bytes)) (sym long)
    ∙ sym (with_scattered-append window here later bytes (omega arith))
    ∙ ap (λ xs. with_scattered window xs bytes) (sym (next-blocks (addresses ps) j n))

pub blocks_make_the_whole : BlocksMakeTheWhole
blocks_make_the_whole window ps n size =
    gathered_bytes-from window ps n 0 ∙ ap (gathered_bytes window) (take_all (512 * n) (addresses ps) (omega arith))

pub blocks_scatter_the_whole : BlocksScatterTheWhole
blocks_scatter_the_whole window ps n bytes size long =
    with_scattered-from window ps n 0 bytes long (omega arith)
    ∙ ap (λ xs. with_scattered window xs bytes) (take_all (512 * n) (addresses ps) (omega arith))

pub small_is_contiguous : SmallIsContiguous
small_is_contiguous t small fits =
    let places =
    counts (address t) t.prp1 0 t.bytes (λ k lt. ap (address t) (omega arith) ∙ address-near t k (omega (arith, lt))) in
    let width : t.prp1 + t.bytes - t.prp1 ≡ t.bytes = omega arith in (
      places,
      ap (gathered_bytes t.window) places ∙ gathered_bytes-run t.window t.prp1 t.bytes fits
          ∙ ap (λ k. take k (drop t.prp1 t.window)) (sym width),
    )

-- scattering keeps the window's length
pub length-with_scattered : (window places bytes : List ℕ) → length (with_scattered window places bytes) ≡ length window
unfolding with_scattered
length-with_scattered window [] bytes = refl
length-with_scattered window (p ∷ places) [] = refl
length-with_scattered window (p ∷ places) (b ∷ bytes) =
    length-with_scattered (slice_set window p b) places bytes ∙ length-set window p b

pub scattering_keeps_the_length : ScatteringKeepsTheLength
scattering_keeps_the_length window places bytes = length-with_scattered window places bytes

pub run_is_written : RunIsWritten
run_is_written window first bytes fits =
    with_scattered-run window first (length bytes) bytes refl fits ∙ sym (with_bytes-is window first bytes)

pub gathered_is_scattered : GatheredIsScattered
gathered_is_scattered window places bytes same distinct inside =
    same_number_lists _ _ (length-map places (slice_index (with_scattered window places bytes)) ∙ same) (λ k within.
    let short : k < length places =
    omega (arith, within, length-map places (slice_index (with_scattered window places bytes))) in
    get_or-map (slice_index (with_scattered window places bytes)) places k 0 0 short
    ∙ last_byte_is_kept window places bytes (slice_index places k) k same (inside k short)
    (short, refl, λ i later last. distinct k i later last))
