-- For the answers of `carry_out`: an admitted command has the effect of its definition.
use Rattle.std.proofs.Common.{
  ◌≡◌,
  ℕ,
  ◌+◌,
  Bool,
  List,
  [],
  length,
  take,
  Option,
  Some,
  None,
  Ok,
  Err,
  refl,
  sym,
  ap,
  subst,
  ◌∙◌,
  arith,
}
use Rattle.std.proofs.lemmas.List.{take_all}
use Rattle.nvme_wire.specs.Submission.{nsid}
use Rattle.nvme_wire.specs.declared.status.Status.{Status}
use Rattle.nvme_spec.specs.declared.command.Command.{Command}
use Rattle.nvme_spec.specs.declared.command.Command.TheVariants.{
  Flush,
  Write,
  Read,
  Compare,
  WriteZeroes,
  ReservationRegister,
  ReservationReport,
  ReservationAcquire,
  ReservationRelease,
}
use Rattle.nvme_spec.specs.declared.command.CommandKind.{CommandKind}
use Rattle.nvme_spec.specs.declared.command.CommandKind.TheVariants.{OnBlocks, OnReservation, OnReport}
use Rattle.nvme_spec.specs.declared.outcome.Outcome.{Outcome}
use Rattle.nvme_spec.specs.declared.verdict.Plan.{Plan}
use Rattle.nvme_spec.specs.Blocks.{Device}
use Rattle.nvme_spec.specs.Reservation as resv
use Rattle.nvme_spec.specs.Commands.{kind_of, plan_of, block_count, data_length}
use Rattle.nvme_spec.specs.Transfers.{addresses, gathered_bytes, with_scattered}
use Rattle.nvme_spec.specs.World.{World, Namespace, namespace_of}
use Rattle.nvme_spec.specs.DataRules.{data_addresses}
use Rattle.nvme_spec.specs.IoData.{data_of, action_outcome, outcome_in, reservation_outcome}
use Rattle.nvme_spec.specs.Execution.{
  Scene,
  scene,
  PerformsAs,
  start_of,
  medium_block,
  report_of,
  world_after,
  no_marks,
  marks_of,
  removed_by,
  is_preempt_and_abort,
}
use Rattle.nvme_spec.specs.BlockCommands.{BlockEffect}
use Rattle.nvme_spec.specs.Statuses as status
use Rattle.nvme_exec.specs.declared.admission.Admission.{Admission}
use Rattle.nvme_exec.specs.Admitted.{IsAdmitted}
use Rattle.nvme_exec.specs.Carrying.{ActsAt, IsCarriedOut, IsUnrefused, Removes}
use Rattle.nvme_exec.proofs.Data.{data-is, outcome-is}

-- only reservation commands have an outcome for a reservation
no-action : (command : Command) (r : resv.Reservation) (host : ℕ) (e keys : List ℕ)
    → (kind_of command ≡ OnReservation → ⊥) → action_outcome command r host e keys ≡ None
unfolding action_outcome
no-action ReservationRegister r host e keys h = absurd (h refl)
no-action ReservationAcquire r host e keys h = absurd (h refl)
no-action ReservationRelease r host e keys h = absurd (h refl)
no-action command r host e keys h = refl

no-outcome : (command : Command) (n : Option Namespace) (host : ℕ) (e keys : List ℕ)
    → (kind_of command ≡ OnReservation → ⊥) → outcome_in (Some command) n (Some host) e keys ≡ None
no-outcome command None host e keys h = refl
no-outcome command (Some n) host e keys h = no-action command n.reservation host e keys h

-- only a reservation command has an outcome of the reservation
pub unreserved : (w : World) (cntlid : ℕ) (window e : List ℕ) (a : Admission)
    → IsAdmitted w cntlid window e a → (kind_of a.plan.kind ≡ OnReservation → ⊥)
    → reservation_outcome w cntlid e (data_of window e) ≡ None
unreserved w cntlid window e a h other =
    outcome-is w cntlid window e _ a h refl ∙ no-outcome a.plan.kind (namespace_of w (nsid e)) a.host e _ other

-- such a command marks nothing
no-marks : (command : Command) (e : List ℕ) → (kind_of command ≡ OnReservation → ⊥)
    → is_preempt_and_abort command e ≡ is_preempt_and_abort Flush e
no-marks ReservationRegister e h = absurd (h refl)
no-marks ReservationAcquire e h = absurd (h refl)
no-marks ReservationRelease e h = absurd (h refl)
no-marks command e h = refl

unmarked : (command : Command) (e : List ℕ) (outcome : Option resv.ActionOutcome)
    → (kind_of command ≡ OnReservation → ⊥) → no_marks ≡ marks_of command e outcome
unmarked command e outcome h = sym (rw (no-marks command e h) refl)

-- the answer with this status
abbrev answered : Status → Outcome
answered why = record { status = why; dw0 = 0; rule = 0; marks = no_marks }

-- the blocks of a command are those of its entry
aimed : (tells : Bool) (command : Command) (w : World) (e sent : List ℕ) (first blocks : ℕ) (before after : Device)
    (answer : Status) (returned : List ℕ)
    → first ≡ start_of (namespace_of w (nsid e)) + (plan_of command e).first → blocks ≡ (plan_of command e).blocks
    → BlockEffect tells command first blocks sent before after answer returned
    → BlockEffect tells command (medium_block w e) (block_count e) sent before after answer returned
aimed tells Write w e sent first blocks before after answer returned f b h = rw f at h
aimed tells Read w e sent first blocks before after answer returned f b h = rw (f, b) at h
aimed tells Compare w e sent first blocks before after answer returned f b h = rw f at h
aimed tells WriteZeroes w e sent first blocks before after answer returned f b h = rw (f, b) at h
aimed tells command w e sent first blocks before after answer returned f b h = h

-- kinds differ
not-reservation-blocks : (k : CommandKind) → k ≡ OnBlocks → k ≡ OnReservation → ⊥
not-reservation-blocks k a b = cc

not-reservation-report : (k : CommandKind) → k ≡ OnReport → k ≡ OnReservation → ⊥
not-reservation-report k a b = cc

-- a command on blocks
pub blocks-done : (tells : Bool) (w : World) (cntlid : ℕ) (window new e : List ℕ) (a : Admission)
    (before after : Device) (answer : Status) (outcome : Outcome)
    → IsAdmitted w cntlid window e a → kind_of a.plan.kind ≡ OnBlocks
    → ActsAt tells a.plan.kind a.extent.first a.extent.blocks
    (addresses a.pieces.now.parts.items) before after window new answer
    → outcome ≡ answered answer
    → IsCarriedOut tells a.plan.kind cntlid e (scene w window before) (scene w new after) outcome
blocks-done tells w cntlid window new e a before after answer outcome h k acts is =
    let other = not-reservation-blocks (kind_of a.plan.kind) k in
    let old_scene : Scene = scene w window before in
    let new_scene : Scene = scene w new after in
    let first_is = h.first ∙ ap (λ (p : Plan). start_of (namespace_of w (nsid e)) + p.first) h.planned in
    let blocks_is = h.blocks ∙ ap (λ (p : Plan). p.blocks) h.planned in
    let effect = aimed tells a.plan.kind w e (gathered_bytes window (addresses a.pieces.now.parts.items)) a.extent.first
    a.extent.blocks before after answer acts.returned first_is blocks_is acts.effect in
    rw is (record {
      performed = record {
        returned = acts.returned;
        effect = subst (λ kind. PerformsAs kind tells a.plan.kind cntlid e
            (data_of window e) old_scene new_scene answer acts.returned) (sym k)
            (record {
              world = refl;
              effect = subst (λ sent. BlockEffect tells a.plan.kind (medium_block w e)
                  (block_count e) sent before after answer acts.returned) (sym (data-is w cntlid window e a h)) effect;
            });
        window = acts.window ∙ ap (λ at. with_scattered window (take (length acts.returned) at) acts.returned) h.placed;
        dw0 = refl;
        rule = refl;
        marks = unmarked a.plan.kind e (reservation_outcome w cntlid e (data_of window e)) other;
      };
      unrefused = rw (unreserved w cntlid window e a h other) tt;
    })

-- only Report reports
report-kind : (command : Command) → kind_of command ≡ OnReport → command ≡ ReservationReport
report-kind ReservationReport h = refl
report-kind command h = absurd (cc)

-- a report
pub report-done : (tells : Bool) (w : World) (cntlid n : ℕ) (window new e : List ℕ) (a : Admission) (device : Device)
    (outcome : Outcome)
    → IsAdmitted w cntlid window e a → kind_of a.plan.kind ≡ OnReport → n ≡ nsid e
    → new ≡ with_scattered window (addresses a.pieces.now.parts.items)
    (report_of (namespace_of w n) w.controllers a.plan.bytes)
    → length (report_of (namespace_of w n) w.controllers a.plan.bytes) ≡ a.plan.bytes
    → outcome ≡ answered status.successful_completion
    → IsCarriedOut tells a.plan.kind cntlid e (scene w window device) (scene w new device) outcome
report-done tells w cntlid n window new e a device outcome h k n-is stored size is =
    let other = not-reservation-report (kind_of a.plan.kind) k in
    let old_scene : Scene = scene w window device in
    let new_scene : Scene = scene w new device in
    let report : List ℕ = report_of (namespace_of w n) w.controllers a.plan.bytes in
    let kind_is : a.plan.kind ≡ ReservationReport = report-kind a.plan.kind k in
    let bytes_is : a.plan.bytes ≡ data_length ReservationReport e =
    ap (λ (p : Plan). p.bytes) h.planned ∙ ap (λ c. data_length c e) kind_is in
    let all : take (length report) (addresses a.pieces.now.parts.items) ≡ addresses a.pieces.now.parts.items = take_all
    (length report) (addresses a.pieces.now.parts.items) (omega (arith, h.bytes, size, bytes-of a e h.planned)) in
    rw is (record {
      performed = record {
        returned = report;
        effect = subst (λ kind. PerformsAs kind tells a.plan.kind cntlid e
            (data_of window e) old_scene new_scene status.successful_completion report) (sym k)
            (record {
              answered = refl;
              world = refl;
              device = refl;
              data_back = ap (λ m. report_of (namespace_of w m) w.controllers a.plan.bytes) n-is
                  ∙ ap (report_of (namespace_of w (nsid e)) w.controllers) bytes_is;
            });
        window = stored ∙ ap (λ at. with_scattered window at report) (sym all ∙ ap (take (length report)) h.placed);
        dw0 = refl;
        rule = refl;
        marks = unmarked a.plan.kind e (reservation_outcome w cntlid e (data_of window e)) other;
      };
      unrefused = rw (unreserved w cntlid window e a h other) tt;
    })
  where
    bytes-of : (a : Admission) (e : List ℕ) → a.plan ≡ plan_of a.plan.kind e → a.plan.bytes ≡ data_length a.plan.kind e
    bytes-of a e planned = ap (λ (p : Plan). p.bytes) planned

pub unrefused-by : (o : Option resv.ActionOutcome) (removed : List ℕ) → Removes o removed → IsUnrefused o
unrefused-by None removed r = tt
unrefused-by (Some (Ok t)) removed r = refl
unrefused-by (Some (Err why)) removed r = absurd r

pub removed-is : (o : Option resv.ActionOutcome) (removed : List ℕ) → Removes o removed → removed ≡ removed_by o
removed-is None removed r = absurd r
removed-is (Some (Ok t)) removed r = r
removed-is (Some (Err why)) removed r = absurd r

-- no data for the host
nothing : (window at : List ℕ) → window ≡ with_scattered window (take 0 at) []
unfolding with_scattered
nothing window at = refl

-- a reservation command
pub reservation-done : (tells : Bool) (w new : World) (cntlid : ℕ) (window e : List ℕ) (a : Admission) (device : Device)
    (outcome : Outcome)
    → kind_of a.plan.kind ≡ OnReservation
    → IsUnrefused (reservation_outcome w cntlid e (data_of window e))
    → new ≡ world_after w (nsid e) (reservation_outcome w cntlid e (data_of window e))
    → outcome ≡ record {
      status = status.successful_completion;
      dw0 = 0;
      rule = 0;
      marks = marks_of a.plan.kind e (reservation_outcome w cntlid e (data_of window e));
    }
    → IsCarriedOut tells a.plan.kind cntlid e (scene w window device) (scene new window device) outcome
reservation-done tells w new cntlid window e a device outcome k unrefused world is =
    let old_scene : Scene = scene w window device in
    let new_scene : Scene = scene new window device in
    rw is (record {
      performed = record {
        returned = [];
        effect = subst (λ kind. PerformsAs kind tells a.plan.kind cntlid e
            (data_of window e) old_scene new_scene status.successful_completion []) (sym k)
            (record { answered = refl; world = world; device = refl; data_back = refl });
        window = nothing window (data_addresses (data_length a.plan.kind e) window e);
        dw0 = refl;
        rule = refl;
        marks = refl;
      };
      unrefused = unrefused;
    })
