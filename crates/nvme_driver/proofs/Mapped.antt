-- For `nvme_fleet`: bringing up over one port is bringing up over another, if each call of the one is that call of the
-- other.
use Rattle.std.proofs.Common.{
  ◌≡◌,
  ℕ,
  zero,
  suc,
  Bool,
  true,
  false,
  List,
  [],
  ◌∷◌,
  Option,
  None,
  Some,
  Result,
  sym,
  ap,
  subst,
}
use Rattle.std.specs.Prelude.{MatchOption}
use Rattle.nvme_wire.specs.declared.sqe.fields.SqeFields.{SqeFields}
use Rattle.nvme_wire.specs.declared.status.Status.{Status}
use Rattle.nvme_driver.specs.declared.faults.UpFault.{UpFault}
use Rattle.nvme_driver.specs.declared.lane.Lane.TheVariants.{Admin}
use Rattle.nvme_driver.specs.Calls.{Call, Turns, Calls}
use Rattle.nvme_driver.specs.Drivers.{Driver, Ends}
use Rattle.nvme_driver.specs.Polls.{look}
use Rattle.nvme_driver.specs.Rises.{
  Awaits,
  Rises,
  Creates,
  CreatesBoth,
  CreatesSubmissions,
  Hears,
  create_completion_queue,
  create_submission_queue,
  start_calls,
  started,
  is_ready,
  fault_of,
  own_of,
  sent,
  send_calls,
  heard_calls,
}

-- Each state of one port is seen as a state of the other. While a property holds, its calls are calls there and keep
-- the property.
pub record IsMapped {S T : Type 0} (f : S → T) (step : S → Call → S → Type 0) (there : T → Call → T → Type 0)
    (Fact : S → Type 0) : Type 0 where
  pub call : (call : Call) (p q : S) → Fact p → step p call q → there (f p) call (f q) × Fact q

pub calls-mapped : {S T : Type 0} (f : S → T) (step : S → Call → S → Type 0) (there : T → Call → T → Type 0)
    (Fact : S → Type 0) → IsMapped f step there Fact
    → (calls : List Call) (old new : S) → Fact old → Calls step old calls new
    → Calls there (f old) calls (f new) × Fact new
calls-mapped f step there Fact m [] old new fact h = (ap f h, subst Fact (sym h) fact)
calls-mapped f step there Fact m (call ∷ calls) old new fact (mid, one, rest) =
    let a = m.call call old mid fact one in
    let r = calls-mapped f step there Fact m calls mid new a.1 rest in
    ((f mid, a.0, r.0), r.1)

found-mapped : {S T A : Type 0} (f : S → T) (Fact : S → Type 0) (o answer : Option A) (mid new : S) (P Q : Type 0)
    → Fact mid → (P → Q × Fact new) → MatchOption o P (λ found. (answer ≡ Some found) × (new ≡ mid))
    → MatchOption o Q (λ found. (answer ≡ Some found) × (f new ≡ f mid)) × Fact new
found-mapped f Fact None answer mid new P Q fact g h = g h
found-mapped f Fact (Some found) answer mid new P Q fact g h = ((h.0, ap f h.1), subst Fact (sym h.1) fact)

awaits-mapped : {S T : Type 0} (f : S → T) (step : S → Call → S → Type 0) (there : T → Call → T → Type 0)
    (Fact : S → Type 0) → IsMapped f step there Fact
    → (e : Ends) (n : ℕ) (old new : S) (answer : Option (List ℕ))
    → Fact old → Awaits step e n old answer new → Awaits there e n (f old) answer (f new) × Fact new
unfolding Awaits
awaits-mapped f step there Fact m e zero old new answer fact h = ((h.0, ap f h.1), subst Fact (sym h.1) fact)
awaits-mapped f step there Fact m e (suc n) old new answer fact (mid, seen, calls, next) =
    let a = calls-mapped f step there Fact m (Turns ∷ look Admin e seen ∷ []) old mid fact calls in
    let r = found-mapped f Fact (own_of e seen) answer mid new _ _ a.1
    (awaits-mapped f step there Fact m e n mid new answer a.1) next in
    ((f mid, seen, a.0, r.0), r.1)

hears-mapped : {S T : Type 0} (f : S → T) (step : S → Call → S → Type 0) (there : T → Call → T → Type 0)
    (Fact : S → Type 0) → IsMapped f step there Fact
    → (d d' : Driver) (answer : Option (List ℕ)) (old new : S) (result : Option Status)
    → Fact old → Hears step d answer old result d' new → Hears there d answer (f old) result d' (f new) × Fact new
hears-mapped f step there Fact m d d' None old new result fact h =
    ((h.0, h.1, ap f h.2), subst Fact (sym h.2) fact)
hears-mapped f step there Fact m d d' (Some entry) old new result fact h =
    let r = calls-mapped f step there Fact m (heard_calls d.admin entry) old new fact h.2 in
    ((h.0, h.1, r.0), r.1)

creates-mapped : {S T : Type 0} (f : S → T) (step : S → Call → S → Type 0) (there : T → Call → T → Type 0)
    (Fact : S → Type 0) → IsMapped f step there Fact
    → (command : SqeFields) (d d' : Driver) (old new : S) (result : Option Status)
    → Fact old → Creates step command d old result d' new
    → Creates there command d (f old) result d' (f new) × Fact new
unfolding Creates
creates-mapped f step there Fact m command d d' old new result fact
    (rung, answer, seen, sends, awaits, hears) =
    let a = calls-mapped f step there Fact m (send_calls d.admin command) old rung fact sends in
    let b = awaits-mapped f step there Fact m (sent d).admin 4 rung seen answer a.1 awaits in
    let e = hears-mapped f step there Fact m (sent d) d' answer seen new result b.1 hears in
    ((f rung, answer, f seen, a.0, b.0, e.0), e.1)

submissions-mapped : {S T : Type 0} (f : S → T) (step : S → Call → S → Type 0) (there : T → Call → T → Type 0)
    (Fact : S → Type 0) → IsMapped f step there Fact
    → (fault : Option UpFault) (d d' : Driver) (old new : S) (result : Result (Unit {0}) UpFault)
    → Fact old → CreatesSubmissions step fault d old result d' new
    → CreatesSubmissions there fault d (f old) result d' (f new) × Fact new
submissions-mapped f step there Fact m (Some fault) d d' old new result fact h =
    ((h.0, h.1, ap f h.2), subst Fact (sym h.2) fact)
submissions-mapped f step there Fact m None d d' old new result fact (answer, left, creates, concludes) =
    let a =
    creates-mapped f step there Fact m create_submission_queue d left old new answer fact creates in
    ((answer, left, a.0, concludes), a.1)

pub both-mapped : {S T : Type 0} (f : S → T) (step : S → Call → S → Type 0) (there : T → Call → T → Type 0)
    (Fact : S → Type 0) → IsMapped f step there Fact
    → (ready : Bool) (d d' : Driver) (old new : S) (result : Result (Unit {0}) UpFault)
    → Fact old → CreatesBoth step ready d old result d' new
    → CreatesBoth there ready d (f old) result d' (f new) × Fact new
both-mapped f step there Fact m false d d' old new result fact h =
    ((h.0, h.1, ap f h.2), subst Fact (sym h.2) fact)
both-mapped f step there Fact m true d d' old new result fact (answer, left, mid, creates, submissions) =
    let a =
    creates-mapped f step there Fact m create_completion_queue d left old mid answer fact creates in
    let b =
    submissions-mapped f step there Fact m (fault_of answer) left d' mid new result a.1 submissions in
    ((answer, left, f mid, a.0, b.0), b.1)

pub rises-mapped : {S T : Type 0} (f : S → T) (step : S → Call → S → Type 0) (there : T → Call → T → Type 0)
    (Fact : S → Type 0) → IsMapped f step there Fact
    → (d d' : Driver) (old new : S) (result : Result (Unit {0}) UpFault)
    → Fact old → Rises step d old result d' new → Rises there d (f old) result d' (f new) × Fact new
unfolding Rises
rises-mapped f step there Fact m d d' old new result fact (value, on, starts, both) =
    let a = calls-mapped f step there Fact m (start_calls value) old on fact starts in
    let b = both-mapped f step there Fact m (is_ready value) (started d) d' on new result a.1 both in
    ((value, f on, a.0, b.0), b.1)
