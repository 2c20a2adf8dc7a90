-- For the answers of `from_bytes`: bytes that are read as numbers, and written again, are the same bytes.
use Rattle.std.proofs.Common.{
  ◌≡◌,
  ℕ,
  ◌+◌,
  ◌-◌,
  ◌<◌,
  ◌≤◌,
  List,
  [],
  ◌++◌,
  length,
  get_or,
  take,
  drop,
  refl,
  sym,
  arith,
  ⊎_elim,
}
use Rattle.std.specs.Prelude.{slice_range}
use Rattle.std.specs.Int.{w32, w64, from_le_bytes, to_le_bytes}
use Rattle.std.proofs.lemmas.Nat.{le_bytes_4, le_bytes_8}
use Rattle.std.proofs.lemmas.List.{length-take-le, length-drop, get_or-take, get_or-drop, get_or_past, drop_all}
use Rattle.std.proofs.lemmas.List.Folds.{drop_split}
use Rattle.std.proofs.lemmas.Bool.{cases_lt}
use Rattle.nvme_wire.specs.Submission as submission
use Rattle.nvme_wire.specs.Completion as completion

abbrev pub IsBytes : List ℕ → Type 0
IsBytes bytes = (i : ℕ) → get_or bytes i 0 < 256

part-length : (bytes : List ℕ) (i k : ℕ) → i + k ≤ length bytes → length (take k (drop i bytes)) ≡ k
part-length bytes i k h = length-take-le k (drop i bytes) (omega (arith, length-drop i bytes))

part-bytes : (bytes : List ℕ) (i k : ℕ) → i + k ≤ length bytes → IsBytes bytes → IsBytes (take k (drop i bytes))
part-bytes bytes i k h all j =
    let P : Type 0 = get_or (take k (drop i bytes)) j 0 < 256 in
    ⊎_elim {C = P}
    (λ (lt : j < k). rw (get_or-take k (drop i bytes) j 0 lt, get_or-drop i bytes j 0) (all (i + j)))
    (λ (le : k ≤ j).
    rw (get_or_past (take k (drop i bytes)) j 0 (omega (arith, part-length bytes i k h))) (omega arith))
    (cases_lt j k)

dword-bytes : (bytes : List ℕ) (i : ℕ) → i + 4 ≤ length bytes → IsBytes bytes
    → to_le_bytes w32 (from_le_bytes w32 (take 4 (drop i bytes))) ≡ take 4 (drop i bytes)
dword-bytes bytes i h all = le_bytes_4 _ _ (part-length bytes i 4 h) (part-bytes bytes i 4 h all) refl

qword-bytes : (bytes : List ℕ) (i : ℕ) → i + 8 ≤ length bytes → IsBytes bytes
    → to_le_bytes w64 (from_le_bytes w64 (take 8 (drop i bytes))) ≡ take 8 (drop i bytes)
qword-bytes bytes i h all = le_bytes_8 _ _ (part-length bytes i 8 h) (part-bytes bytes i 8 h all) refl

-- bytes i to j, followed by the bytes from j, are the bytes from i
joined : (bytes : List ℕ) (i j : ℕ) (front rest : List ℕ) → i ≤ j → front ≡ slice_range bytes i j → rest ≡ drop j bytes
    → front ++ rest ≡ drop i bytes
joined bytes i j front rest h e f = rw (e, f) (sym (drop_split bytes i j h))

dword : (bytes : List ℕ) (i j : ℕ) (rest : List ℕ) → i + 4 ≡ j → j ≤ length bytes → IsBytes bytes → rest ≡ drop j bytes
    → to_le_bytes w32 (from_le_bytes w32 (slice_range bytes i j)) ++ rest ≡ drop i bytes
dword bytes i j rest e h all f =
    let width : j - i ≡ 4 = omega arith in
    joined bytes i j (to_le_bytes w32 (from_le_bytes w32 (slice_range bytes i j))) rest (omega arith)
    (rw (width) (dword-bytes bytes i (omega arith) all)) f

qword : (bytes : List ℕ) (i j : ℕ) (rest : List ℕ) → i + 8 ≡ j → j ≤ length bytes → IsBytes bytes → rest ≡ drop j bytes
    → to_le_bytes w64 (from_le_bytes w64 (slice_range bytes i j)) ++ rest ≡ drop i bytes
qword bytes i j rest e h all f =
    let width : j - i ≡ 8 = omega arith in
    joined bytes i j (to_le_bytes w64 (from_le_bytes w64 (slice_range bytes i j))) rest (omega arith)
    (rw (width) (qword-bytes bytes i (omega arith) all)) f

pub submission-read : (bytes : List ℕ) → length bytes ≡ 64 → IsBytes bytes
    → submission.spelled (submission.read bytes) ≡ bytes
submission-read bytes h all =
    dword bytes 0 4 _ refl (omega arith) all
    (dword bytes 4 8 _ refl (omega arith) all
    (dword bytes 8 12 _ refl (omega arith) all
    (dword bytes 12 16 _ refl (omega arith) all
    (qword bytes 16 24 _ refl (omega arith) all
    (qword bytes 24 32 _ refl (omega arith) all
    (qword bytes 32 40 _ refl (omega arith) all
    (dword bytes 40 44 _ refl (omega arith) all
    (dword bytes 44 48 _ refl (omega arith) all
    (dword bytes 48 52 _ refl (omega arith) all
    (dword bytes 52 56 _ refl (omega arith) all
    (dword bytes 56 60 _ refl (omega arith) all
    (dword bytes 60 64 [] refl (omega arith) all (sym (drop_all 64 bytes (omega arith)))))))))))))))

pub completion-read : (bytes : List ℕ) → length bytes ≡ 16 → IsBytes bytes
    → completion.spelled (completion.read bytes) ≡ bytes
completion-read bytes h all =
    dword bytes 0 4 _ refl (omega arith) all
    (dword bytes 4 8 _ refl (omega arith) all
    (dword bytes 8 12 _ refl (omega arith) all
    (dword bytes 12 16 [] refl (omega arith) all (sym (drop_all 16 bytes (omega arith))))))
