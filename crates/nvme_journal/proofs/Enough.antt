-- What a journal keeps of data is all that commands read of them.
use Rattle.std.proofs.Common.{
  ◌≡◌,
  ◌≤◌,
  ◌+◌,
  ◌*◌,
  ◌-◌,
  ◌++◌,
  ℕ,
  zero,
  suc,
  true,
  false,
  List,
  ◌∷◌,
  Option,
  None,
  Some,
  length,
  map,
  refl,
  sym,
  ap,
  ◌∙◌,
  arith,
}
use Rattle.std.specs.Prelude.{drop, take}
use Rattle.std.specs.Int.{w16, from_le_bytes}
use Rattle.std.specs.List.{range_with_len}
use Rattle.std.proofs.lemmas.List.{drop-append-le, drop-take, length-drop, length-take-le, take-append-le, take-take}
use Rattle.nvme_wire.specs.Entry.{word_at}
use Rattle.nvme_wire.specs.Submission.{opcode}
use Rattle.nvme_spec.specs.declared.command.Command.{Command}
use Rattle.nvme_spec.specs.declared.command.Command.TheVariants.{
  ReservationRegister,
  ReservationAcquire,
  ReservationRelease,
}
use Rattle.nvme_spec.specs.AdminRules.{list_count, listed_controllers}
use Rattle.nvme_spec.specs.Commands.{command_of, data_length_of, is_one_of, reserving}
use Rattle.nvme_data_buffers.specs.Entries.{moved}
use Rattle.nvme_journal.specs.Records.{kept_length, lasts}
use Rattle.nvme_journal.specs.Laws.{KeptDataAreEnough, KeptListsAreEnough, TwoBytesAreEnough}

-- I/O commands.

few : (o : Option Command) (e : List ℕ) → is_one_of o reserving ≡ true → data_length_of o e ≤ 16
few (Some ReservationRegister) e h = omega arith
few (Some ReservationAcquire) e h = omega arith
few (Some ReservationRelease) e h = omega arith
few (Some command) e h = absurd (cc (h))
few None e h = absurd (cc (h))

pub kept_data_are_enough : KeptDataAreEnough
unfolding lasts moved kept_length
kept_data_are_enough e sent h = take-take (data_length_of (command_of (opcode e)) e) 16 sent
    (few (command_of (opcode e)) e h)

-- Lists of controllers.

-- bytes in front of n are those of the first n, whatever follows these
front : (sent more : List ℕ) (n i k : ℕ) → i + k ≤ n → n ≤ length sent
    → take k (drop i (take n sent ++ more)) ≡ take k (drop i sent)
front sent more n i k within there =
    let size : length (take n sent) ≡ n = length-take-le n sent there in
    let same : i + (n - i) ≡ n = omega (arith, within) in
    let rest : drop i (take n sent) ≡ take (n - i) (drop i sent) =
    ap (λ m. drop i (take m sent)) (sym same) ∙ drop-take i (n - i) sent in
    let left : length (drop i (take n sent)) ≡ n - i = length-drop i (take n sent) ∙ ap (λ m. m - i) size in
    ap (take k) (drop-append-le i (take n sent) more (omega (arith, within, size)))
    ∙ take-append-le k (drop i (take n sent)) more (omega (arith, within, left))
    ∙ ap (take k) rest ∙ take-take k (n - i) (drop i sent) (omega (arith, within))

two : (i : ℕ) → i + 2 - i ≡ 2
two i = omega arith

same-word : (sent more : List ℕ) (n i : ℕ) → i + 2 ≤ n → n ≤ length sent
    → word_at (take n sent ++ more) i ≡ word_at sent i
same-word sent more n i within there =
    ap (from_le_bytes w16) (ap (λ k. take k (drop i (take n sent ++ more))) (two i)
    ∙ front sent more n i 2 within there ∙ sym (ap (λ k. take k (drop i sent)) (two i)))

same-words : (sent more : List ℕ) (n a count : ℕ) → 2 + 2 * (a + count) ≤ n → n ≤ length sent
    → map (λ i. word_at (take n sent ++ more) (2 + 2 * i)) (range_with_len a count)
    ≡ map (λ i. word_at sent (2 + 2 * i)) (range_with_len a count)
same-words sent more n a zero within there = refl
same-words sent more n a (suc count) within there =
    ap (λ x. x ∷ map (λ i. word_at (take n sent ++ more) (2 + 2 * i)) (range_with_len (a + 1) count))
    (same-word sent more n (2 + 2 * a) (omega (arith, within)) there)
    ∙ ap (λ xs. word_at sent (2 + 2 * a) ∷ xs) (same-words sent more n (a + 1) count (omega (arith, within)) there)

same-count : (sent more : List ℕ) (n : ℕ) → 2 ≤ n → n ≤ length sent
    → list_count (take n sent ++ more) ≡ list_count sent
unfolding list_count
same-count sent more n within there = same-word sent more n 0 within there

pub kept_lists_are_enough : KeptListsAreEnough
unfolding listed_controllers kept_length
kept_lists_are_enough sent more there =
    let n = 2 + 2 * list_count sent in
    ap (λ c. map (λ i. word_at (take n sent ++ more) (2 + 2 * i)) (range_with_len 0 c))
    (same-count sent more n (omega arith) there)
    ∙ same-words sent more n 0 (list_count sent) (omega arith) there

-- Their length.

short : (sent : List ℕ) → 2 ≤ length sent → word_at (take 2 sent) 0 ≡ word_at sent 0
short sent there = ap (from_le_bytes w16) (take-take 2 2 sent (omega arith))

pub two_bytes_are_enough : TwoBytesAreEnough
unfolding kept_length list_count
two_bytes_are_enough true sent there = ap (λ c. 2 + 2 * c) (short sent there)
two_bytes_are_enough false sent there = refl
