-- What each call does, by cases.
use Rattle.std.proofs.Common.{◌≡◌, ℕ, Bool, true, false, cond, Option, None, Some, Result, Ok, Err, refl, ap}
use Rattle.nvme_responses.specs.declared.refused.Refused.{Refused}
use Rattle.nvme_responses.specs.declared.refused.Refused.TheVariants as refused
use Rattle.nvme_responses.specs.declared.reply.Reply.{Reply}
use Rattle.nvme_responses.specs.declared.reply.Response.{Response}
use Rattle.nvme_responses.specs.declared.stage.Stage.{Stage}
use Rattle.nvme_responses.specs.declared.stage.Stage.TheVariants as stage
use Rattle.nvme_responses.specs.States.{State}
use Rattle.nvme_responses.specs.Responses.{
  has,
  is_full,
  accepted,
  accepted_by,
  with_command,
  after_accept,
  place,
  without,
  is_there,
  response_of,
  response_by,
  response,
  without_if,
  after_respond,
}

-- a command comes: it is refused, or accepted on an open connection whose queue is not full
pub data Came (s : State) (cid : ℕ) (r : Result Bool Refused) (t : State) : Type 0 where
  Refuses : (e : Refused) → r ≡ Err e → t ≡ s → Came s cid r t
  Takes : s.stage ≡ stage.Open → is_full s ≡ false → r ≡ Ok (has s.outstanding cid)
      → t ≡ with_command (Ok (has s.outstanding cid)) s cid → Came s cid r t

pub comes : (s : State) (cid : ℕ) → Came s cid (accepted s cid) (after_accept s cid)
comes s cid = by-stage s.stage refl where
  by-full : (full : Bool) → is_full s ≡ full → s.stage ≡ stage.Open
      → Came s cid (cond full (Err refused.Full) (Ok (has s.outstanding cid)))
      (with_command (cond full (Err refused.Full) (Ok (has s.outstanding cid))) s cid)
  by-full true e is = Refuses refused.Full refl refl
  by-full false e is = Takes is e refl refl

  by-stage : (g : Stage) → s.stage ≡ g → Came s cid (accepted_by g s cid) (with_command (accepted_by g s cid) s cid)
  by-stage stage.Open e = by-full (is_full s) refl e
  by-stage stage.Ending e = Refuses refused.Ended refl refl
  by-stage stage.Ended e = Refuses refused.Ended refl refl

-- the state without one command
abbrev pub taken_out : State → ℕ → State
taken_out s i = record s { outstanding = without (Some i) s.outstanding }

-- an answer: no command waits for it, or one gets its response
pub data Answered (s : State) (r : Reply) (o : Option Response) (t : State) : Type 0 where
  Nothing : o ≡ None → t ≡ s → Answered s r o t
  Gives : (i : ℕ) → place s.outstanding r.cid ≡ Some i → o ≡ Some (response_of s r) → t ≡ taken_out s i
      → Answered s r o t

pub answers : (s : State) (r : Reply) → Answered s r (response s r) (after_respond s r)
answers s r = by-stage s.stage where
  by-place : (o : Option ℕ) → place s.outstanding r.cid ≡ o
      → Answered s r (cond (is_there o) (Some (response_of s r)) None)
      (without_if (cond (is_there o) (Some (response_of s r)) None) s r.cid)
  by-place None e = Nothing refl refl
  by-place (Some i) e = Gives i e refl (ap (λ o. record s { outstanding = without o s.outstanding }) e)

  by-stage : (g : Stage) → Answered s r (response_by g s r) (without_if (response_by g s r) s r.cid)
  by-stage stage.Open = by-place (place s.outstanding r.cid) refl
  by-stage stage.Ending = by-place (place s.outstanding r.cid) refl
  by-stage stage.Ended = Nothing refl refl
