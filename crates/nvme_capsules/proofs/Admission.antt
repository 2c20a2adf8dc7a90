-- For `only_admitted`: only commands that a connection may send are ready, or wait for their data.
use Rattle.std.proofs.Common.{◌≡◌, Bool, true, false, cond, None, Some, Result, Ok, refl, sym, subst, ◌∙◌}
use Rattle.nvme_wire.specs.declared.status.Status.{Status}
use Rattle.nvme_responses.specs.declared.refused.Refused.{Refused}
use Rattle.nvme_responses.specs.Responses.{accepted, after_accept, has}
use Rattle.nvme_responses.specs.States.{State as Responses}
use Rattle.nvme_responses.proofs.Steps.{Came, Refuses, Takes, comes}
use Rattle.nvme_transfers.specs.States.{State as Transfers}
use Rattle.nvme_capsules.specs.declared.capsule.Capsule.{Capsule}
use Rattle.nvme_capsules.specs.declared.connect_stage.ConnectStage.{ConnectStage}
use Rattle.nvme_capsules.specs.declared.connect_stage.ConnectStage.TheVariants as stage
use Rattle.nvme_capsules.specs.declared.outcome.Outcome.{Outcome}
use Rattle.nvme_capsules.specs.declared.outcome.Outcome.TheVariants as outcome
use Rattle.nvme_capsules.specs.Capsules.{cid_of, is_connect, precedes_proof, refusal, refusal_of_any}
use Rattle.nvme_capsules.specs.Outcomes.{planned, settled}
use Rattle.nvme_capsules.specs.Laws.{IsAdmitted, OnlyAdmittedAreReady, OnlyAdmittedWait}
use Rattle.nvme_capsules.specs.Runs.{State, outcome_at}
use Rattle.nvme_capsules.specs.Statuses.{
  authentication_required,
  command_id_conflict,
  command_sequence_error,
  transient_transport_error,
}
use Rattle.nvme_capsules.proofs.Plans.{HasInCapsule, IsRefused, Plan, Returns, WaitsFor, plan}

-- a command that is not refused
pub record Passes (now : ConnectStage) (c : Capsule) (b : Bool) : Type 0 where
  pub sound : c.is_sound ≡ true
  pub new : b ≡ false
  pub connects : now ≡ stage.NotConnected → is_connect c.entry ≡ true
  pub proves : now ≡ stage.Authenticating → precedes_proof c.entry ≡ true

pub record PassesAny (c : Capsule) (b : Bool) : Type 0 where
  pub sound : c.is_sound ≡ true
  pub new : b ≡ false

passes-any : (c : Capsule) (b : Bool) → refusal_of_any c b ≡ None → PassesAny c b
passes-any c b h = by c.is_sound refl h where
  by-conflict : (x : Bool) → b ≡ x → c.is_sound ≡ true → cond x (Some command_id_conflict) None ≡ None
      → PassesAny c b
  by-conflict true e sound h = absurd (cc)
  by-conflict false e sound h = record { sound = sound; new = e }

  by : (x : Bool) → c.is_sound ≡ x
      → cond x (cond b (Some command_id_conflict) None) (Some transient_transport_error) ≡ None → PassesAny c b
  by true e h = by-conflict b refl e h
  by false e h = absurd (cc)

if-passes : (c : Capsule) (b x : Bool) (status : Status) → cond x (refusal_of_any c b) (Some status) ≡ None
    → PassesAny c b × (x ≡ true)
if-passes c b true status h = (passes-any c b h, refl)
if-passes c b false status h = absurd (cc)

passes : (now : ConnectStage) (c : Capsule) (b : Bool) → refusal now c b ≡ None → Passes now c b
passes stage.NotConnected c b h =
    let p = if-passes c b (is_connect c.entry) command_sequence_error h in
    record {
      sound = p.0.sound;
      new = p.0.new;
      connects = λ e. p.1;
      proves = λ e. absurd (cc);
    }
passes stage.Authenticating c b h =
    let p = if-passes c b (precedes_proof c.entry) authentication_required h in
    record {
      sound = p.0.sound;
      new = p.0.new;
      connects = λ e. absurd (cc);
      proves = λ e. p.1;
    }
passes stage.Connected c b h =
    let p = passes-any c b h in
    record { sound = p.sound; new = p.new; connects = λ e. absurd (cc); proves = λ e. absurd (cc) }

-- an outcome with which a command continues
abbrev GoesOn : Outcome → Type 0
GoesOn (outcome.Breaks fatal) = ⊥
GoesOn (outcome.Refused status) = ⊥
GoesOn (outcome.Waits bytes) = Unit {0}
GoesOn (outcome.Ready d) = Unit {0}

goes-on : (t : Transfers) (c : Capsule) (o : Outcome) → GoesOn (settled t o c) → GoesOn o
goes-on t c (outcome.Breaks fatal) h = h
goes-on t c (outcome.Refused status) h = h
goes-on t c (outcome.Waits bytes) h = tt
goes-on t c (outcome.Ready d) h = tt

plan-passes : (now : ConnectStage) (c : Capsule) (b : Bool) (o : Outcome) → Plan now c b o → GoesOn o → Passes now c b
plan-passes now c b o (IsRefused status e) h =
    absurd (subst GoesOn e h)
plan-passes now c b o (WaitsFor bytes none at e) h = passes now c b none
plan-passes now c b o (HasInCapsule begin bytes none at e) h = passes now c b none
plan-passes now c b o (Returns bytes none at e) h = passes now c b none

admits : (s : State) (now : ConnectStage) (c : Capsule) → GoesOn (outcome_at s now c) → IsAdmitted s now c
admits s now c h =
    by (accepted s.responses (cid_of c.entry)) (after_accept s.responses (cid_of c.entry))
    (comes s.responses (cid_of c.entry)) h where
      by-plan : (b : Bool) → has s.responses.outstanding (cid_of c.entry) ≡ b
          → GoesOn (settled s.transfers (planned (Ok b) now c) c) → IsAdmitted s now c
      by-plan b e h =
          let p = plan-passes now c b (planned (Ok b) now c) (plan now c b)
          (goes-on s.transfers c (planned (Ok b) now c) h) in
          record { sound = p.sound; new = e ∙ p.new; connects = p.connects; proves = p.proves }

      by : (r : Result Bool Refused) (t : Responses) → Came s.responses (cid_of c.entry) r t
          → GoesOn (settled s.transfers (planned r now c) c) → IsAdmitted s now c
      by r t (Refuses e is same) h =
          absurd (subst (λ r. GoesOn (settled s.transfers (planned r now c) c)) is h)
      by r t (Takes opened room is same) h =
          by-plan (has s.responses.outstanding (cid_of c.entry)) refl
          (subst (λ r. GoesOn (settled s.transfers (planned r now c) c)) is h)

pub only-admitted-are-ready : OnlyAdmittedAreReady
only-admitted-are-ready s now c d e = admits s now c (subst GoesOn (sym e) tt)

pub only-admitted-wait : OnlyAdmittedWait
only-admitted-wait s now c bytes e = admits s now c (subst GoesOn (sym e) tt)
