-- For the contract of `check_range`: if the range rule passes, all blocks of the plan are in the namespace.
use Rattle.std.proofs.Common.{◌≡◌, ℕ, ◌+◌, ◌≤◌, Bool, true, false, not, List, None, Some, Ok, Err, refl, arith}
use Rattle.std.specs.Prelude.{nat_le, OnOk, if◌then◌else◌}
use Rattle.std.proofs.lemmas.Bool.{leb-true}
use Rattle.nvme_spec.specs.declared.command.Command.{Command}
use Rattle.nvme_spec.specs.declared.command.Command.TheVariants.{
  Flush,
  ReservationRegister,
  ReservationReport,
  ReservationAcquire,
  ReservationRelease,
}
use Rattle.nvme_wire.specs.declared.status.Status.{Status}
use Rattle.nvme_spec.specs.Commands.{plan_of}
use Rattle.nvme_spec.specs.Rules.{Judgement, denial_by, judgement_by}
use Rattle.nvme_spec.specs.IoRules.{range_rule}
use Rattle.nvme_spec.specs.World.{Namespace}

abbrev judged : Bool → ℕ → Status → Judgement
judged fails number why = denial_by number (if fails then Some why else None)

passes : (b : Bool) (number : ℕ) (why : Status) → judged (not b) number why ≡ Ok tt → b ≡ true
passes true number why h = refl
passes false number why h = absurd (cc)

below : (end blocks number : ℕ) (why : Status) → judged (not (nat_le end blocks)) number why ≡ Ok tt → end ≤ blocks
below end blocks number why h = leb-true end blocks (passes (nat_le end blocks) number why h)

-- `OnOk` holds if its fact follows from a judgement that passes
pub on_ok : {P : Type 0} (j : Judgement) → (j ≡ Ok tt → P) → OnOk j P
on_ok (Ok tt) p = p refl
on_ok (Err denial) p = tt

pub plan_in_range : (command : Command) (n : Namespace) (e : List ℕ)
    → judgement_by (range_rule (Some command) (Some n) e) ≡ Ok tt
    → (plan_of command e).first + (plan_of command e).blocks ≤ n.blocks
unfolding judgement_by range_rule
plan_in_range Flush n e h = omega arith
plan_in_range ReservationRegister n e h = omega arith
plan_in_range ReservationReport n e h = omega arith
plan_in_range ReservationAcquire n e h = omega arith
plan_in_range ReservationRelease n e h = omega arith
plan_in_range command n e h = below _ _ _ _ h
