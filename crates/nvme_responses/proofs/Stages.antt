-- What a run has left of stage, size and flow control.
use Rattle.std.proofs.Common.{◌≡◌, ℕ, Bool, List, [], ◌∷◌, Option, None, Some, Result, Ok, Err, refl, sym, subst, ◌∙◌}
use Rattle.nvme_responses.specs.declared.refused.Refused.{Refused}
use Rattle.nvme_responses.specs.declared.reply.Response.{Response}
use Rattle.nvme_responses.specs.declared.stage.Stage.{Stage}
use Rattle.nvme_responses.specs.declared.stage.Stage.TheVariants as stage
use Rattle.nvme_responses.specs.States.{State}
use Rattle.nvme_responses.specs.Responses.{accepted, with_command, response, without_if, ended_by}
use Rattle.nvme_responses.specs.Runs.{
  Call,
  Accepts,
  Responds,
  Forgets,
  Connects,
  Ends,
  Stops,
  state_after,
  sqsize_after,
  is_disabled_after,
}
use Rattle.nvme_responses.specs.Laws.{Speaks, Listens}

-- a field that commands and responses leave alone
pub accept-keeps : {A : Type 0} (of : State → A)
    → ((s : State) (head : ℕ) (xs : List ℕ) → of (record s { head = head; outstanding = xs }) ≡ of s)
    → (r : Result Bool Refused) (s : State) (cid : ℕ) → of (with_command r s cid) ≡ of s
accept-keeps of same (Ok b) s cid = same s _ _
accept-keeps of same (Err e) s cid = refl

pub respond-keeps : {A : Type 0} (of : State → A)
    → ((s : State) (xs : List ℕ) → of (record s { outstanding = xs }) ≡ of s)
    → (o : Option Response) (s : State) (cid : ℕ) → of (without_if o s cid) ≡ of s
respond-keeps of same None s cid = refl
respond-keeps of same (Some e) s cid = same s _

pub sizes : (run : List Call) → (state_after run).sqsize ≡ sqsize_after run
sizes [] = refl
sizes (Accepts cid ∷ run) =
    accept-keeps (λ s. s.sqsize) (λ s h xs. refl) (accepted (state_after run) cid) (state_after run) cid ∙ sizes run
sizes (Responds r ∷ run) =
    respond-keeps (λ s. s.sqsize) (λ s xs. refl) (response (state_after run) r) (state_after run) r.cid ∙ sizes run
sizes (Forgets cid ∷ run) = sizes run
sizes (Connects sqsize disabled ∷ run) = refl
sizes (Ends ∷ run) = sizes run
sizes (Stops ∷ run) = sizes run

pub disabled-is : (run : List Call) → (state_after run).is_flow_control_disabled ≡ is_disabled_after run
disabled-is [] = refl
disabled-is (Accepts cid ∷ run) =
    accept-keeps (λ s. s.is_flow_control_disabled) (λ s h xs. refl) (accepted (state_after run) cid) (state_after run)
    cid ∙ disabled-is run
disabled-is (Responds r ∷ run) =
    respond-keeps (λ s. s.is_flow_control_disabled) (λ s xs. refl) (response (state_after run) r) (state_after run)
    r.cid ∙ disabled-is run
disabled-is (Forgets cid ∷ run) = disabled-is run
disabled-is (Connects sqsize disabled ∷ run) = refl
disabled-is (Ends ∷ run) = disabled-is run
disabled-is (Stops ∷ run) = disabled-is run

pub accept-stage : (r : Result Bool Refused) (s : State) (cid : ℕ) → (with_command r s cid).stage ≡ s.stage
accept-stage = accept-keeps (λ s. s.stage) (λ s h xs. refl)

pub respond-stage : (o : Option Response) (s : State) (cid : ℕ) → (without_if o s cid).stage ≡ s.stage
respond-stage = respond-keeps (λ s. s.stage) (λ s xs. refl)

abbrev pub Talks : Stage → Type 0
Talks stage.Open = Unit {0}
Talks stage.Ending = Unit {0}
Talks stage.Ended = ⊥

ended-talks : (g : Stage) → Talks g → Talks (ended_by g)
ended-talks stage.Open h = tt
ended-talks stage.Ending h = tt
ended-talks stage.Ended h = h

pub talks : (run : List Call) → Speaks run → Talks (state_after run).stage
talks [] h = tt
talks (Accepts cid ∷ run) h =
    subst Talks (sym (accept-stage (accepted (state_after run) cid) (state_after run) cid)) (talks run h)
talks (Responds r ∷ run) h =
    subst Talks (sym (respond-stage (response (state_after run) r) (state_after run) r.cid)) (talks run h)
talks (Forgets cid ∷ run) h = talks run h
talks (Connects sqsize disabled ∷ run) h = talks run h
talks (Ends ∷ run) h = ended-talks (state_after run).stage (talks run h)
talks (Stops ∷ run) h = absurd h

pub opens : (run : List Call) → Listens run → (state_after run).stage ≡ stage.Open
opens [] h = refl
opens (Accepts cid ∷ run) h =
    accept-stage (accepted (state_after run) cid) (state_after run) cid ∙ opens run h
opens (Responds r ∷ run) h = respond-stage (response (state_after run) r) (state_after run) r.cid ∙ opens run h
opens (Forgets cid ∷ run) h = opens run h
opens (Connects sqsize disabled ∷ run) h = opens run h
opens (Ends ∷ run) h = absurd h
opens (Stops ∷ run) h = absurd h
