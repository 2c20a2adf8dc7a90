-- For the laws on data from the controller: which bytes of a buffer are those of its command.
use Rattle.std.proofs.Common.{
  ◌≡◌,
  ℕ,
  ◌+◌,
  ◌-◌,
  ◌≤◌,
  true,
  false,
  List,
  ◌++◌,
  length,
  take,
  drop,
  replicate,
  slice_range,
  nat_eq,
  refl,
  sym,
  ap,
  ◌∙◌,
  arith,
  Some,
}
use Rattle.std.proofs.Math.Seq.{take-append-add}
use Rattle.std.proofs.lemmas.Bool.{and_parts, eqb-true, false≢true}
use Rattle.std.proofs.lemmas.List.{drop_at, drop-drop, drop-take, length-replicate, length-take-le}
use Rattle.nvme_wire.specs.Submission.{opcode}
use Rattle.nvme_spec.specs.Bytes.{with_bytes}
use Rattle.nvme_spec.specs.Commands.{command_of, data_length_of}
use Rattle.nvme_spec.specs.declared.command.Command.TheVariants.{Read}
use Rattle.nvme_spec.proofs.Runs.{with_bytes-is}
use Rattle.nvme_spec.proofs.Splices.{length-with_bytes}
use Rattle.nvme_data_buffers.specs.Buffers.{start}
use Rattle.nvme_data_buffers.specs.Entries.{moved, is_filled}
use Rattle.nvme_data_buffers.specs.Laws.{NothingOldIsReturned, FilledAreReads}
use Rattle.nvme_data_buffers.proofs.Areas.{stored, data-lie-in-their-buffer, buffer-within}
use Rattle.nvme_data_buffers.proofs.Listed.{drop-zeros}

-- what is stored over zeros, and the zeros after it
over-zeros : (w returned : List ℕ) (at size : ℕ) → at + size ≤ length w → length returned ≤ size
    → slice_range (with_bytes (with_bytes w at (replicate size 0)) at returned) at (at + size)
    ≡ returned ++ replicate (size - length returned) 0
over-zeros w returned at size fits few =
    let zeros : List ℕ = replicate size 0 in
    let cleared : List ℕ = with_bytes w at zeros in
    let new : List ℕ = with_bytes cleared at returned in
    let wide : length zeros ≡ size = length-replicate size 0 in
    let whole = length-with_bytes w at zeros (omega (arith, fits, wide)) in
    let m : ℕ = size - length returned in
    let rest : List ℕ = drop (at + length returned) cleared in
    let width : at + size - at ≡ size = omega arith in
    let parts : size ≡ length returned + m = omega (arith, few) in
    let front : length (take at cleared) ≡ at = length-take-le at cleared (omega (arith, fits, whole)) in
    let is-cleared : take size (drop at cleared) ≡ zeros =
    ap (λ k. take k (drop at cleared)) (sym width) ∙ ap (λ k. slice_range cleared at (at + k)) (sym wide)
    ∙ stored w zeros at (omega (arith, fits, wide)) in
    ap (λ k. take k (drop at new)) width
    ∙ ap (take size)
    (ap (drop at) (with_bytes-is cleared at returned) ∙ drop_at (take at cleared) (returned ++ rest) at front)
    ∙ ap (λ k. take k (returned ++ rest)) parts ∙ take-append-add returned rest m
    ∙ ap (λ xs. returned ++ take m xs) (sym (drop-drop (length returned) at cleared))
    ∙ ap (λ xs. returned ++ xs) (sym (drop-take (length returned) m (drop at cleared))
    ∙ ap (λ k. drop (length returned) (take k (drop at cleared))) (sym parts) ∙ ap (drop (length returned)) is-cleared
    ∙ drop-zeros (length returned) size)

pub nothing-old-is-returned : NothingOldIsReturned
nothing-old-is-returned window returned b size whole fit few =
    let lies = data-lie-in-their-buffer b size fit in
    let until = lies.until in
    let end = buffer-within b in
    over-zeros window returned (start b size) size (omega (arith, until, end, whole)) few

-- a Read of as many bytes
read-of : (e : List ℕ) (size : ℕ) → opcode e ≡ 2 → data_length_of (command_of (opcode e)) e ≡ size
    → (command_of (opcode e) ≡ Some Read) × (data_length_of (Some Read) e ≡ size)
unfolding command_of
read-of e size is-read same =
    let c : command_of (opcode e) ≡ Some Read = ap command_of is-read in
    (c, ap (λ x. data_length_of x e) (sym c) ∙ same)

pub filled-are-reads : FilledAreReads
unfolding is_filled moved
filled-are-reads true e size h = absurd (false≢true h)
filled-are-reads false e size h =
    let both = and_parts (nat_eq (opcode e) 2) (nat_eq (moved false e) size) h in
    let r = read-of e size (eqb-true _ _ both.0) (eqb-true _ _ both.1) in
    (refl, r.0, r.1)
