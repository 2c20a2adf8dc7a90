-- For the answer of `act_on_reservation`: the data of an admitted command are those that were gathered.
use Rattle.std.proofs.Common.{◌≡◌, ℕ, List, Some, ap, sym, ◌∙◌}
use Rattle.nvme_wire.specs.Submission.{nsid}
use Rattle.nvme_spec.specs.Commands.{data_length_of}
use Rattle.nvme_spec.specs.Transfers.{addresses, gathered_bytes}
use Rattle.nvme_spec.specs.World.{World, host_of, namespace_of}
use Rattle.nvme_spec.specs.DataRules.{data_in}
use Rattle.nvme_spec.specs.IoData.{data_of, outcome_in, reservation_outcome}
use Rattle.nvme_exec.specs.declared.admission.Admission.{Admission}
use Rattle.nvme_exec.specs.Admitted.{IsAdmitted}

-- the data of the command in its host's memory
pub data-is : (w : World) (cntlid : ℕ) (window e : List ℕ) (a : Admission) → IsAdmitted w cntlid window e a
    → data_of window e ≡ gathered_bytes window (addresses a.pieces.now.parts.items)
data-is w cntlid window e a h =
    ap (λ k. data_in (data_length_of k e) window e) h.command ∙ ap (gathered_bytes window) (sym h.placed)

-- the outcome for its reservation
pub outcome-is : (w : World) (cntlid : ℕ) (window e keys : List ℕ) (a : Admission) → IsAdmitted w cntlid window e a
    → keys ≡ gathered_bytes window (addresses a.pieces.now.parts.items)
    → reservation_outcome w cntlid e (data_of window e)
    ≡ outcome_in (Some a.plan.kind) (namespace_of w (nsid e)) (Some a.host) e keys
unfolding reservation_outcome
outcome-is w cntlid window e keys a h is =
    ap (λ c. outcome_in c (namespace_of w (nsid e)) (host_of w cntlid) e (data_of window e)) h.command
    ∙ ap (λ x. outcome_in (Some a.plan.kind) (namespace_of w (nsid e)) x e (data_of window e)) h.host
    ∙ ap (λ k. outcome_in (Some a.plan.kind) (namespace_of w (nsid e)) (Some a.host) e k)
    (data-is w cntlid window e a h ∙ sym is)
