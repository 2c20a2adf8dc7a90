-- For the answer of `run`: a run continues by one step, and its calls of the medium by those of the step.
use Rattle.std.proofs.Common.{◌∙◌, ℕ, ◌+◌, ◌<◌, get_or, Bool, List, [], ◌∷◌, ◌++◌, length, take, refl, sym, ap, subst}
use Rattle.std.proofs.lemmas.List.{take_more, append-nil, append_assoc}
use Rattle.nvme_spec.specs.MediumCalls.{MediumCall, MakesCalls}
use Rattle.nvme_spec.proofs.MediumCalls.{calls-joined}
use Rattle.nvme_machine.specs.declared.event.Event.{Event}
use Rattle.nvme_machine.specs.declared.seen.Seen.{Seen}
use Rattle.nvme_machine.specs.Subsystems.{Subsystem, Step, Run}
use Rattle.nvme_machine.specs.EventCalls.{AreCallsOfStep, AreCallsOfRun}
use Rattle.nvme_subsys.specs.OverMedium.{OverMedium}

more : (tells : Bool) (events : List Event) (seen : List Seen) (old mid new : Subsystem) (event : Event) (last : Seen)
    → Run tells old events seen mid → Step tells mid event last new
    → Run tells old (events ++ event ∷ []) (seen ++ last ∷ []) new
more tells [] [] old mid new event last ran step =
    (new, subst (λ (s : Subsystem). Step tells s event last new) ran step, refl)
more tells [] (s ∷ seen) old mid new event last ran step = absurd ran
more tells (e ∷ events) [] old mid new event last ran step = absurd ran
more tells (e ∷ events) (s ∷ seen) old mid new event last ran step =
    (ran.0, ran.1, more tells events seen ran.0 mid new event last ran.2 step)

-- over the front of a list of events
pub run-next : (tells : Bool) (events : List Event) (i : ℕ) (d : Event) (seen : List Seen) (old mid new : Subsystem)
    (last : Seen) → i < length events
    → Run tells old (take i events) seen mid → Step tells mid (get_or events i d) last new
    → Run tells old (take (i + 1) events) (seen ++ last ∷ []) new
run-next tells events i d seen old mid new last inside ran step =
    rw (take_more events i d inside) (more tells (take i events) seen old mid new (get_or events i d) last ran step)

-- The calls of a run continue by those of a step.
more-calls : (tells : Bool) (events : List Event) (seen : List Seen) (old mid new : Subsystem) (event : Event)
    (last : Seen) (calls later : List MediumCall)
    → AreCallsOfRun tells old events seen mid calls → AreCallsOfStep tells mid event last new later
    → AreCallsOfRun tells old (events ++ event ∷ []) (seen ++ last ∷ []) new (calls ++ later)
more-calls tells [] [] old mid new event last calls later ran step = (
  new,
  later,
  [],
  subst (λ (s : Subsystem). AreCallsOfStep tells s event last new later) ran.0 step,
  (refl, refl),
  ap (λ cs. cs ++ later) ran.1 ∙ sym (append-nil later),
)
more-calls tells [] (s ∷ seen) old mid new event last calls later ran step = absurd ran
more-calls tells (e ∷ events) [] old mid new event last calls later ran step = absurd ran
more-calls tells (e ∷ events) (s ∷ seen) old mid new event last calls later
    (m, here, behind, first, rest, joined) step = (
      m,
      here,
      behind ++ later,
      first,
      more-calls tells events seen m mid new event last behind later rest step,
      ap (λ cs. cs ++ later) joined ∙ append_assoc here behind later,
    )

-- over the front of a list of events
pub calls-next : {M : Type 0} (step : M → MediumCall → M → Type 0) (tells : Bool) (events : List Event) (i : ℕ)
    (d : Event) (seen : List Seen) (old mid new : OverMedium Subsystem M) (last : Seen) → i < length events
    → MakesCalls step (AreCallsOfRun tells old.state (take i events) seen mid.state) old.medium mid.medium
    → MakesCalls step (AreCallsOfStep tells mid.state (get_or events i d) last new.state) mid.medium new.medium
    → MakesCalls step (AreCallsOfRun tells old.state (take (i + 1) events) (seen ++ last ∷ []) new.state)
    old.medium new.medium
calls-next step tells events i d seen old mid new last inside ran next = record {
  calls = ran.calls ++ next.calls;
  are = rw (take_more events i d inside)
      (more-calls tells (take i events) seen old.state mid.state new.state
      (get_or events i d) last ran.calls next.calls ran.are next.are);
  made = calls-joined step ran.calls next.calls old.medium mid.medium new.medium ran.made next.made;
}
