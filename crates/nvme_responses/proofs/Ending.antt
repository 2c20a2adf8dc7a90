-- Refusals change nothing, and nothing comes after the end.
use Rattle.std.proofs.Common.{◌≡◌, ℕ, false, List, [], ◌∷◌, ◌++◌, Option, None, Some, refl, sym, ap, subst, ◌∙◌}
use Rattle.std.proofs.lemmas.List.{append-nil}
use Rattle.nvme_responses.specs.declared.stage.Stage.{Stage}
use Rattle.nvme_responses.specs.declared.stage.Stage.TheVariants as stage
use Rattle.nvme_responses.specs.States.{State}
use Rattle.nvme_responses.specs.Responses.{
  accepted,
  accepted_by,
  with_command,
  response,
  response_by,
  without_if,
  place,
  without,
  is_there,
  ended_by,
}
use Rattle.nvme_responses.specs.Runs.{
  Call,
  Accepts,
  Responds,
  Forgets,
  Connects,
  Ends,
  Stops,
  after,
  state_after,
  accepted_if,
  accepts,
  commands,
  response_if,
  responds,
  responses,
}
use Rattle.nvme_responses.specs.Laws.{RefusedKeeps, NoAnswerKeeps, NothingDroppedKeeps, EndIsFinal, StopIsFinal}
use Rattle.nvme_responses.proofs.Stages.{accept-stage, respond-stage}

pub refused-keeps : RefusedKeeps
refused-keeps s cid e h = ap (λ r. with_command r s cid) h

pub no-answer-keeps : NoAnswerKeeps
no-answer-keeps s r h = ap (λ o. without_if o s r.cid) h

pub nothing-dropped-keeps : NothingDroppedKeeps
nothing-dropped-keeps s cid h = by (place s.outstanding cid) h where
  by : (o : Option ℕ) → is_there o ≡ false → record s { outstanding = without o s.outstanding } ≡ s
  by None h = refl
  by (Some i) h = absurd (cc)

-- ---- after the end

abbrev pub Closed : Stage → Type 0
Closed stage.Open = ⊥
Closed stage.Ending = Unit {0}
Closed stage.Ended = Unit {0}

pub ended-closed : (g : Stage) → Closed (ended_by g)
ended-closed stage.Open = tt
ended-closed stage.Ending = tt
ended-closed stage.Ended = tt

pub stays-closed : (s : State) (call : Call) → Closed s.stage → Closed (after s call).stage
stays-closed s (Accepts cid) h = subst Closed (sym (accept-stage (accepted s cid) s cid)) h
stays-closed s (Responds r) h = subst Closed (sym (respond-stage (response s r) s r.cid)) h
stays-closed s (Forgets cid) h = h
stays-closed s (Connects sqsize disabled) h = h
stays-closed s Ends h = ended-closed s.stage
stays-closed s Stops h = tt

none-accepted : (s : State) (call : Call) → Closed s.stage → accepts s call ≡ []
none-accepted s (Accepts cid) h = by s.stage h where
  by : (g : Stage) → Closed g → accepted_if (accepted_by g s cid) cid ≡ []
  by stage.Open h = absurd h
  by stage.Ending h = refl
  by stage.Ended h = refl
none-accepted s (Responds r) h = refl
none-accepted s (Forgets cid) h = refl
none-accepted s (Connects sqsize disabled) h = refl
none-accepted s Ends h = refl
none-accepted s Stops h = refl

closed-after : (later run : List Call) → Closed (state_after run).stage → Closed (state_after (later ++ run)).stage
closed-after [] run h = h
closed-after (call ∷ later) run h = stays-closed (state_after (later ++ run)) call (closed-after later run h)

no-more : (later run : List Call) → Closed (state_after run).stage → commands (later ++ run) ≡ commands run
no-more [] run h = refl
no-more (call ∷ later) run h =
    ap (λ xs. commands (later ++ run) ++ xs)
    (none-accepted (state_after (later ++ run)) call (closed-after later run h))
    ∙ append-nil (commands (later ++ run)) ∙ no-more later run h

pub end-is-final : EndIsFinal
end-is-final later run =
    no-more later (Ends ∷ run) (ended-closed (state_after run).stage) ∙ append-nil (commands run)

-- ---- after a stop

stays-ended : (s : State) (call : Call) → s.stage ≡ stage.Ended → (after s call).stage ≡ stage.Ended
stays-ended s (Accepts cid) h = accept-stage (accepted s cid) s cid ∙ h
stays-ended s (Responds r) h = respond-stage (response s r) s r.cid ∙ h
stays-ended s (Forgets cid) h = h
stays-ended s (Connects sqsize disabled) h = h
stays-ended s Ends h = ap ended_by h
stays-ended s Stops h = refl

none-answered : (s : State) (call : Call) → s.stage ≡ stage.Ended → responds s call ≡ []
none-answered s (Accepts cid) h = refl
none-answered s (Responds r) h = ap (λ g. response_if (response_by g s r)) h
none-answered s (Forgets cid) h = refl
none-answered s (Connects sqsize disabled) h = refl
none-answered s Ends h = refl
none-answered s Stops h = refl

ended-after : (later run : List Call) → (state_after run).stage ≡ stage.Ended
    → (state_after (later ++ run)).stage ≡ stage.Ended
ended-after [] run h = h
ended-after (call ∷ later) run h = stays-ended (state_after (later ++ run)) call (ended-after later run h)

no-answers : (later run : List Call) → (state_after run).stage ≡ stage.Ended
    → responses (later ++ run) ≡ responses run
no-answers [] run h = refl
no-answers (call ∷ later) run h =
    ap (λ xs. responses (later ++ run) ++ xs)
    (none-answered (state_after (later ++ run)) call (ended-after later run h))
    ∙ append-nil (responses (later ++ run)) ∙ no-answers later run h

pub stop-is-final : StopIsFinal
stop-is-final later run = record {
  commands_then = no-more later (Stops ∷ run) tt ∙ append-nil (commands run);
  responses_then = no-answers later (Stops ∷ run) refl ∙ append-nil (responses run);
}
