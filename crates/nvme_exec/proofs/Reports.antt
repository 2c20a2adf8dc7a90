-- For the answer of `report`: the front of a report, and the zeros after it.
use Rattle.std.proofs.Common.{
  ◌≡◌,
  ℕ,
  ◌-◌,
  ◌*◌,
  ◌≤◌,
  min,
  true,
  false,
  cond,
  List,
  [],
  ◌∷◌,
  ◌++◌,
  length,
  take,
  rules,
  arith,
  refl,
  sym,
  ap,
  ◌∙◌,
  length-append,
}
use Rattle.std.specs.Prelude.{replicate, Option, None, Some, IsSome}
use Rattle.std.specs.List.{flat_map}
use Rattle.std.proofs.lemmas.List.{same_lists, places}
use Rattle.std.proofs.lemmas.Grind.{common_steps}
use Rattle.nvme_spec.specs.World.{Namespace}
use Rattle.nvme_spec.specs.Execution.{report_of}
use Rattle.nvme_spec.proofs.Reporting.{length-report_data}
use Rattle.nvme_spec.specs.Reservation.{Reservation, is_registered}
use Rattle.nvme_spec.specs.Report.{ControllerHost, reported_controllers, header, entry_of, entry, report, report_data}

length-header : (r : Reservation) (ks : List ControllerHost) → length (header r ks) ≡ 64
unfolding header
length-header r ks = grind (arith, common_steps)

length-entry : (r : Reservation) (k : ControllerHost) → length (entry r k) ≡ 64
unfolding entry_of
length-entry r k = grind (arith, common_steps)

length-entries : (r : Reservation) (ks : List ControllerHost) → length (flat_map (entry r) ks) ≡ 64 * length ks
length-entries r [] = refl
length-entries r (k ∷ ks) =
    omega (arith, length-append (entry r k) (flat_map (entry r) ks), length-entry r k, length-entries r ks)

fewer : (r : Reservation) (ks : List ControllerHost) → length (reported_controllers r ks) ≤ length ks
fewer r [] = omega arith
fewer r (k ∷ ks) =
    elim (is_registered r.registrants k.1) as (λ b.
    length (cond b (k ∷ reported_controllers r ks) (reported_controllers r ks)) ≤ length (k ∷ ks)) [
      | true ↦ (let h = fewer r ks in omega (arith, h))
      | false ↦ (let h = fewer r ks in omega (arith, h))
    ]

-- a report of up to 16 controllers has at most 1,088 bytes
short : (r : Reservation) (ks : List ControllerHost) → length ks ≤ 16 → length (report r ks) ≤ 1088
short r ks few =
    omega (
      arith,
      few,
      length-append (header r ks) (flat_map (entry r) (reported_controllers r ks)),
      length-header r ks,
      length-entries r (reported_controllers r ks),
      fewer r ks,
    )

cut : (bytes : List ℕ) (size : ℕ) → length bytes ≤ 1088
    → take size bytes ++ replicate (size - length bytes) 0
    ≡ (take (min size 1088) bytes ++ replicate (min size 1088 - length bytes) 0) ++ replicate (size - min size 1088) 0
cut bytes size small = same_lists _ _ (search (rules, places)) (λ k d h. grind (arith, places))

front-and-zeros : (r : Reservation) (ks : List ControllerHost) (size : ℕ) → length ks ≤ 16
    → report_data r ks size ≡ report_data r ks (min size 1088) ++ replicate (size - min size 1088) 0
unfolding report_data
front-and-zeros r ks size few = cut (report r ks) size (short r ks few)

-- the report of a namespace
pub report-padded : (o : Option Namespace) (ks : List ControllerHost) (size : ℕ) → IsSome o → length ks ≤ 16
    → report_of o ks size ≡ report_of o ks (min size 1088) ++ replicate (size - min size 1088) 0
report-padded None ks size named few = absurd (cc)
report-padded (Some n) ks size named few = front-and-zeros n.reservation ks size few

pub report-size : (o : Option Namespace) (ks : List ControllerHost) (size : ℕ)
    → IsSome o → length (report_of o ks size) ≡ size
report-size None ks size named = absurd (cc)
report-size (Some n) ks size named = length-report_data n.reservation ks size

-- the data that are stored: this front, then zeros
pub padded-front : (o : Option Namespace) (ks : List ControllerHost) (size k total : ℕ) (front : List ℕ)
    → IsSome o → length ks ≤ 16 → total ≡ size → k ≡ min size 1088
    → front ≡ report_of o ks k → front ++ replicate (total - length front) 0 ≡ report_of o ks size
padded-front o ks size k total front named few all is same =
    let long : length front ≡ min size 1088 = ap length same ∙ report-size o ks k named ∙ is in
    ap (λ n. front ++ replicate (total - n) 0) long
    ∙ ap (λ n. front ++ replicate (n - min size 1088) 0) all
    ∙ ap (λ xs. xs ++ replicate (size - min size 1088) 0) (same ∙ ap (report_of o ks) is)
    ∙ sym (report-padded o ks size named few)
