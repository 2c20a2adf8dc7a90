-- For the laws on entries: which fields of an entry its PRP entries change, and which bytes the command moves.
use Rattle.std.proofs.Common.{
  ◌≡◌,
  ℕ,
  ◌+◌,
  ◌/◌,
  ◌%◌,
  ◌^◌,
  ◌<◌,
  ◌≤◌,
  List,
  [],
  ◌∷◌,
  length,
  take,
  drop,
  slice_range,
  refl,
  sym,
  ap,
  ◌∙◌,
  arith,
  inl,
  inr,
}
use Rattle.std.specs.Prelude.{slice_index, slice_set}
use Rattle.std.specs.Int.{w32, w64, from_le_bytes, to_le_bytes}
use Rattle.std.proofs.lemmas.List.{drop-drop, drop-take, take-take, drop-set-lt, length-set}
use Rattle.std.proofs.lemmas.Nat.{from_le_bytes-to_le_bytes_8}
use Rattle.nvme_wire.specs.Submission as sqe
use Rattle.nvme_spec.specs.Bytes.{with_bytes}
use Rattle.nvme_spec.proofs.Contents.{Keeps, keeps-with_bytes, keeps-both}
use Rattle.nvme_data_buffers.specs.Entries.{with_entries}
use Rattle.nvme_data_buffers.specs.Laws.{OtherBytesStay}
use Rattle.nvme_data_buffers.specs.declared.buffer.Prps.{Prps}
use Rattle.nvme_data_buffers.proofs.Areas.{stored}

-- the first four bytes
first-bytes : (e : List ℕ) (v : ℕ) → 4 ≤ length e
    → slice_range (slice_set e 1 v) 0 4
    ≡ slice_index e 0 ∷ v ∷ slice_index e 2 ∷ slice_index e 3 ∷ []
first-bytes [] v h = absurd (omega arith)
first-bytes (a ∷ []) v h = absurd (omega (arith, h))
first-bytes (a ∷ b ∷ []) v h = absurd (omega (arith, h))
first-bytes (a ∷ b ∷ c ∷ []) v h = absurd (omega (arith, h))
first-bytes (a ∷ b ∷ c ∷ d ∷ rest) v h = refl

-- both entries, after PSDT
two-stored : (e : List ℕ) (p : Prps) → length e ≡ 64
    → Keeps 24 40 e (with_bytes (with_bytes e 24 (to_le_bytes w64 p.first)) 32 (to_le_bytes w64 p.second))
two-stored e p size =
    let one = keeps-with_bytes 24 40 e 24 (to_le_bytes w64 p.first) (omega arith) (omega arith) (omega (arith, size)) in
    keeps-both 24 40 e _ _ one
    (keeps-with_bytes 24 40 (with_bytes e 24 (to_le_bytes w64 p.first)) 32 (to_le_bytes w64 p.second) (omega arith)
    (omega arith) (omega (arith, size, one.size)))

-- the first double word, before and after
pub dword-read : (e : List ℕ) → 4 ≤ length e
    → slice_range e 0 4 ≡ slice_index e 0 ∷ slice_index e 1 ∷ slice_index e 2 ∷ slice_index e 3 ∷ []
dword-read [] h = absurd (omega arith)
dword-read (a ∷ []) h = absurd (omega (arith, h))
dword-read (a ∷ b ∷ []) h = absurd (omega (arith, h))
dword-read (a ∷ b ∷ c ∷ []) h = absurd (omega (arith, h))
dword-read (a ∷ b ∷ c ∷ d ∷ rest) h = refl

-- PSDT is bits 7:6 of byte 1
psdt-gone : (e new : List ℕ) → length e ≡ 64 → slice_index e 0 < 256
    → slice_range new 0 4 ≡ slice_range (slice_set e 1 (slice_index e 1 % 64)) 0 4 → sqe.psdt new ≡ 0
unfolding sqe.psdt
psdt-gone e new size small same =
    ap (λ xs. from_le_bytes w32 xs / 2 ^ 14 % 2 ^ 2) (same ∙ first-bytes e _ (omega (arith, size)))
    ∙ omega (arith, small)

opcode-same : (e new : List ℕ) → length e ≡ 64
    → slice_range new 0 4 ≡ slice_range (slice_set e 1 (slice_index e 1 % 64)) 0 4 → sqe.opcode new ≡ sqe.opcode e
unfolding sqe.opcode
opcode-same e new size same =
    ap (λ xs. from_le_bytes w32 xs / 2 ^ 0 % 2 ^ 8) (same ∙ first-bytes e _ (omega (arith, size)))
    ∙ omega arith
    ∙ ap (λ xs. from_le_bytes w32 xs / 2 ^ 0 % 2 ^ 8) (sym (dword-read e (omega (arith, size))))

fuse-same : (e new : List ℕ) → length e ≡ 64 → slice_index e 0 < 256
    → slice_range new 0 4 ≡ slice_range (slice_set e 1 (slice_index e 1 % 64)) 0 4 → sqe.fuse new ≡ sqe.fuse e
unfolding sqe.fuse
fuse-same e new size small same =
    ap (λ xs. from_le_bytes w32 xs / 2 ^ 8 % 2 ^ 2) (same ∙ first-bytes e _ (omega (arith, size)))
    ∙ omega (arith, small)
    ∙ ap (λ xs. from_le_bytes w32 xs / 2 ^ 8 % 2 ^ 2) (sym (dword-read e (omega (arith, size))))

cid-same : (e new : List ℕ) → length e ≡ 64 → slice_index e 0 < 256 → slice_index e 1 < 256
    → slice_range new 0 4 ≡ slice_range (slice_set e 1 (slice_index e 1 % 64)) 0 4 → sqe.cid new ≡ sqe.cid e
unfolding sqe.cid
cid-same e new size small byte same =
    ap (λ xs. from_le_bytes w32 xs / 2 ^ 16 % 2 ^ 16) (same ∙ first-bytes e _ (omega (arith, size)))
    ∙ omega (arith, small, byte)
    ∙ ap (λ xs. from_le_bytes w32 xs / 2 ^ 16 % 2 ^ 16) (sym (dword-read e (omega (arith, size))))

prp1-read : (w : List ℕ) (first second : ℕ) → length w ≡ 64 → first < 2 ^ 64
    → sqe.prp1 (with_bytes (with_bytes w 24 (to_le_bytes w64 first)) 32 (to_le_bytes w64 second)) ≡ first
unfolding sqe.prp1
prp1-read w first second size fits =
    let one : List ℕ = with_bytes w 24 (to_le_bytes w64 first) in
    let same = keeps-with_bytes 24 40 w 24 (to_le_bytes w64 first) (omega arith) (omega arith) (omega (arith, size)) in
    let k = keeps-with_bytes 32 40 one 32 (to_le_bytes w64 second) (omega arith) (omega arith)
    (omega (arith, size, same.size)) in
    ap (from_le_bytes w64) (k.others 24 8 (inl (omega arith))
    ∙ stored w (to_le_bytes w64 first) 24 (omega (arith, size)))
    ∙ from_le_bytes-to_le_bytes_8 first fits

prp2-read : (w : List ℕ) (second : ℕ) → length w ≡ 64 → second < 2 ^ 64
    → sqe.prp2 (with_bytes w 32 (to_le_bytes w64 second)) ≡ second
unfolding sqe.prp2
prp2-read w second size fits =
    ap (from_le_bytes w64) (stored w (to_le_bytes w64 second) 32 (omega (arith, size)))
    ∙ from_le_bytes-to_le_bytes_8 second fits

pub other-bytes-stay : OtherBytesStay
unfolding with_entries
other-bytes-stay e p entry first second =
    let size = entry.size in
    let small = entry.bytes 0 in
    let byte = entry.bytes 1 in
    let v : ℕ = slice_index e 1 % 64 in
    let base : List ℕ = slice_set e 1 v in
    let long : length base ≡ 64 = length-set e 1 v ∙ size in
    let k = two-stored base p long in
    let one =
    keeps-with_bytes 24 40 base 24 (to_le_bytes w64 p.first) (omega arith) (omega arith) (omega (arith, long)) in
    let dword = k.others 0 4 (inl (omega arith)) in
    record {
      size = k.size ∙ long;
      psdt = psdt-gone e _ size small dword;
      prp1 = prp1-read base p.first p.second long first;
      prp2 = prp2-read (with_bytes base 24 (to_le_bytes w64 p.first)) p.second (one.size ∙ long) second;
      opcode = opcode-same e _ size dword;
      fuse = fuse-same e _ size small dword;
      cid = cid-same e _ size small byte dword;
      front = k.others 2 22 (inl (omega arith)) ∙ ap (take 22) (drop-set-lt 2 e 1 v (omega arith));
      back = k.others 40 24 (inr (omega arith)) ∙ ap (take 24) (drop-set-lt 40 e 1 v (omega arith));
    }

-- a part of the last 24 bytes
back-part : (xs : List ℕ) (i n m : ℕ) → i + m ≡ 24 → n ≤ m
    → take n (drop (40 + i) xs) ≡ take n (drop i (slice_range xs 40 64))
back-part xs i n m all few =
    ap (take n) (sym (drop-drop i 40 xs)) ∙ sym (take-take n m (drop i (drop 40 xs)) few)
    ∙ ap (take n) (sym (drop-take i m (drop 40 xs)) ∙ ap (λ k. drop i (take k (drop 40 xs))) all)

back-same : (e new : List ℕ) (i n m : ℕ) → slice_range new 40 64 ≡ slice_range e 40 64 → i + m ≡ 24 → n ≤ m
    → take n (drop (40 + i) new) ≡ take n (drop (40 + i) e)
back-same e new i n m same all few =
    back-part new i n m all few ∙ ap (λ xs. take n (drop i xs)) same ∙ sym (back-part e i n m all few)

pub double-words : (e new : List ℕ) → slice_range new 40 64 ≡ slice_range e 40 64
    → (sqe.cdw10 new ≡ sqe.cdw10 e) × (sqe.cdw12 new ≡ sqe.cdw12 e)
unfolding sqe.cdw10 sqe.cdw12
double-words e new same = (
  ap (from_le_bytes w32) (back-same e new 0 4 24 same refl (omega arith)),
  ap (from_le_bytes w32) (back-same e new 8 4 16 same refl (omega arith)),
)
