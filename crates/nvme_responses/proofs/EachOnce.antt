-- Each command has one response, has none yet, or was dropped.
use Rattle.std.proofs.Common.{◌≡◌, ℕ, ◌+◌, Bool, List, [], ◌∷◌, Option, None, Some, Result, Ok, Err, arith, refl, ap}
use Rattle.nvme_responses.specs.declared.refused.Refused.{Refused}
use Rattle.nvme_responses.specs.declared.reply.Reply.{Reply}
use Rattle.nvme_responses.specs.declared.reply.Response.{Response}
use Rattle.nvme_responses.specs.States.{State}
use Rattle.nvme_responses.specs.Responses.{accepted, with_command, place, without, response, after_respond}
use Rattle.nvme_responses.specs.Runs.{
  Call,
  Accepts,
  Responds,
  Forgets,
  Connects,
  Ends,
  Stops,
  state_after,
  accepted_if,
  commands,
  response_if,
  responses,
  dropped_if,
  dropped,
}
use Rattle.nvme_responses.specs.Laws.{tally, EachOnce}
use Rattle.nvme_responses.proofs.Tallies.{tally-append, tally-without}
use Rattle.nvme_responses.proofs.Steps.{Answered, Nothing, Gives, answers, taken_out}

pub accept-weight : (w : ℕ → ℕ) (s : State) (cid : ℕ) (r : Result Bool Refused)
    → tally w (with_command r s cid).outstanding ≡ tally w s.outstanding + tally w (accepted_if r cid)
accept-weight w s cid (Ok b) = tally-append w s.outstanding (cid ∷ [])
accept-weight w s cid (Err e) = omega arith

pub respond-weight : (w : ℕ → ℕ) (s : State) (r : Reply) → tally w s.outstanding
    ≡ tally (λ (e : Response). w e.cid) (response_if (response s r)) + tally w (after_respond s r).outstanding
respond-weight w s r = by (response s r) (after_respond s r) (answers s r) where
  by : (o : Option Response) (t : State) → Answered s r o t
      → tally w s.outstanding ≡ tally (λ (e : Response). w e.cid) (response_if o) + tally w t.outstanding
  by o t (Nothing oi ti) = rw (oi, ti) (omega arith)
  by o t (Gives i found oi ti) =
      let a = tally-without w s.outstanding r.cid i found in
      let b : tally (λ (e : Response). w e.cid) (response_if o) ≡ w r.cid + 0 =
      ap (λ o. tally (λ (e : Response). w e.cid) (response_if o)) oi in
      let d : tally w t.outstanding ≡ tally w (taken_out s i).outstanding =
      ap (λ (t : State). tally w t.outstanding) ti in
      omega (arith, a, b, d)

pub forget-weight : (w : ℕ → ℕ) (xs : List ℕ) (cid : ℕ) (o : Option ℕ) → place xs cid ≡ o
    → tally w xs ≡ tally w (dropped_if o cid) + tally w (without o xs)
forget-weight w xs cid None found = omega arith
forget-weight w xs cid (Some i) found = let a = tally-without w xs cid i found in omega (arith, a)

pub each-once : EachOnce
each-once [] w = refl
each-once (call ∷ run) w = by call (each-once run w) where
  by : (call : Call)
      → tally w (commands run) ≡ tally (λ (e : Response). w e.cid) (responses run)
      + (tally w (state_after run).outstanding + tally w (dropped run))
      → tally w (commands (call ∷ run)) ≡ tally (λ (e : Response). w e.cid) (responses (call ∷ run))
      + (tally w (state_after (call ∷ run)).outstanding + tally w (dropped (call ∷ run)))
  by (Accepts cid) h =
      let a = accept-weight w (state_after run) cid (accepted (state_after run) cid) in
      let b = tally-append w (commands run) (accepted_if (accepted (state_after run) cid) cid) in
      let d = tally-append (λ (e : Response). w e.cid) (responses run) [] in
      let e = tally-append w (dropped run) [] in
      omega (arith, a, b, d, e, h)
  by (Responds r) h =
      let a = respond-weight w (state_after run) r in
      let b = tally-append w (commands run) [] in
      let d = tally-append (λ (e : Response). w e.cid) (responses run) (response_if (response (state_after run) r)) in
      let e = tally-append w (dropped run) [] in
      omega (arith, a, b, d, e, h)
  by (Forgets cid) h =
      let a = forget-weight w (state_after run).outstanding cid (place (state_after run).outstanding cid) refl in
      let b = tally-append w (commands run) [] in
      let d = tally-append (λ (e : Response). w e.cid) (responses run) [] in
      let e = tally-append w (dropped run) (dropped_if (place (state_after run).outstanding cid) cid) in
      omega (arith, a, b, d, e, h)
  by (Connects sqsize disabled) h =
      let b = tally-append w (commands run) [] in
      let d = tally-append (λ (e : Response). w e.cid) (responses run) [] in
      let e = tally-append w (dropped run) [] in
      omega (arith, b, d, e, h)
  by Ends h =
      let b = tally-append w (commands run) [] in
      let d = tally-append (λ (e : Response). w e.cid) (responses run) [] in
      let e = tally-append w (dropped run) [] in
      omega (arith, b, d, e, h)
  by Stops h =
      let b = tally-append w (commands run) [] in
      let d = tally-append (λ (e : Response). w e.cid) (responses run) [] in
      let e = tally-append w (dropped run) (state_after run).outstanding in
      omega (arith, b, d, e, h)
