-- For `examples/placing_results.rt`: events, placed commands and whole turns.
use Rattle.std.proofs.Common.{◌≡◌, ℕ, List, [], ◌∷◌, ◌==◌, true, ap, subst, ◌∙◌}
use Rattle.nvme_spec.specs.MediumCalls.{Calls, MakesCalls}
use Rattle.nvme_lent.specs.OwnOrLent.{step_of}
use Rattle.nvme_machine.specs.declared.bare.BareSeen.{BareSeen}
use Rattle.nvme_machine.specs.declared.seen.Seen.TheVariants.{NoController}
use Rattle.nvme_machine.specs.Bare.{seen_with}
use Rattle.nvme_machine.specs.Controllers.{after_store}
use Rattle.nvme_machine.specs.EventCalls.{CallingAt}
use Rattle.nvme_machine.specs.Subsystems.{controller_at}
use Rattle.nvme_library.specs.Answers.{answer_of, plain}
use Rattle.nvme_library.specs.Events.{Cycling, Reacting}
use Rattle.nvme_library.specs.Holding.{Inside}
use Rattle.nvme_library.specs.Placing.{PlacesTo, not_placed}
use Rattle.nvme_library.specs.PlacingResults.{
  EventsHaveResults,
  PlacingsHaveCodes,
  PlacingsLeaveTheMedium,
  TurnsHaveCodes,
}
use Rattle.nvme_library.specs.Submitting.{Finishes, SubmitsTo}
use Rattle.nvme_library.specs.declared.answer.Answer.{Answer}
use Rattle.nvme_library.specs.declared.placing.Placed.{Placed}

pub events_have_results : EventsHaveResults
events_have_results = record {
  stays_open = λ s answer h. h;
  cycled = λ old new answer h.
      let p : (seen : BareSeen) × (answer ≡ answer_of seen) × Cycling old seen new = h in
      (p.1 ∙ ap answer_of p.2.0, p.2.1, p.2.2);
  unmarked = λ k i old new h. h.marked;
  no_call = λ k i old new seen none h.
      let m : MakesCalls step_of (CallingAt (controller_at old.state k) true old.state k i (seen_with h.marks seen)
      new.state) old.medium new.medium = h.calls in
      let p : (seen_with h.marks seen ≡ NoController) × (new.state ≡ old.state) × (m.calls ≡ []) =
      subst (λ c. CallingAt c true old.state k i (seen_with h.marks seen) new.state m.calls) none m.are in
      subst (λ calls. Calls step_of old.medium calls new.medium) p.2 m.made;
}

pub placings_have_codes : PlacingsHaveCodes
placings_have_codes = record {
  closed = λ k qid at entry bytes placed new h. h;
  stays_open = λ k qid at entry bytes placed old h. h;
  no_controller = λ k qid at entry bytes placed old new none h.
      subst (λ c. PlacesTo c k qid entry at bytes old placed new) none h;
  no_turn = λ k qid at entry bytes placed old new h. h;
  always_open = λ k qid at entry bytes placed old h. h;
}

pub placings_leave_the_medium : PlacingsLeaveTheMedium
placings_leave_the_medium = record {
  cycled = λ old new h. let p : (seen : BareSeen) × Cycling old seen new = h in p.1.2;
  stored = λ k at old new h.
      let p : (seen : BareSeen) × Reacting k (after_store at (7 ∷ [])) old seen new = h in p.1.1;
}

-- a command that was not taken, since there is no such controller
not-taken : (k : ℕ) (placed : Placed) (old fetched new : Inside) (answer : Answer) (before left : List ℕ)
    → (placed ≡ not_placed 17) × (fetched ≡ old) → Finishes (placed.what == 4) k placed fetched answer before left new
    → (answer ≡ plain 17) × (left ≡ before) × (new ≡ old)
not-taken k placed old fetched new answer before left p h =
    let q : (answer ≡ plain (not_placed 17).what) × (left ≡ before) × (new ≡ fetched) =
    subst (λ (x : Placed). Finishes (x.what == 4) k x fetched answer before left new) p.0 h in
    (q.0, q.1, q.2 ∙ p.1)

pub turns_have_codes : TurnsHaveCodes
turns_have_codes = record {
  no_subsystem = λ k qid entry before left answer new h. h;
  stays_open = λ k qid entry before left answer old h. h;
  no_controller = λ k qid entry before left answer old new none h.
      let p : SubmitsTo k qid entry old answer before left new = h in
      not-taken k p.placed old p.fetched new answer before left
      (subst (λ c. PlacesTo c k qid entry 0 [] old p.placed p.fetched) none p.places) p.finishes;
  executed = λ k placed old new answer before left h. h;
}
