-- For the answers of `bring_up`: a controller comes up, step by step.
use Rattle.std.proofs.Common.{
  ◌≡◌,
  ℕ,
  ◌<◌,
  List,
  refl,
  ap,
  sym,
  ◌∙◌,
  arith,
  zero,
  suc,
  true,
  false,
  Option,
  Some,
  None,
  Result,
  Ok,
  Err,
  subst,
  MatchOption,
}
use Rattle.nvme_wire.specs.declared.sqe.fields.SqeFields.{SqeFields}
use Rattle.nvme_wire.specs.declared.status.Status.{Status}
use Rattle.nvme_wire.specs.Completion.{status}
use Rattle.nvme_driver.specs.declared.faults.UpFault.{UpFault}
use Rattle.nvme_driver.specs.declared.faults.UpFault.TheVariants.{NotReady}
use Rattle.nvme_driver.specs.declared.state.State.TheVariants.{Up}
use Rattle.nvme_driver.specs.Calls.{Call, Turns, Calls}
use Rattle.nvme_driver.specs.declared.lane.Lane.TheVariants.{Admin}
use Rattle.nvme_driver.specs.Drivers.{Driver, Ends}
use Rattle.nvme_driver.specs.Polls.{look}
use Rattle.nvme_driver.specs.Rises.{
  Awaits,
  own_of,
  sent,
  send_calls,
  heard_own,
  heard_calls,
  Creates,
  fault_of,
  start_calls,
  is_ready,
  started,
  create_completion_queue,
  create_submission_queue,
  Rises,
}

-- without turns there is no answer
pub awaits-none : {S : Type 0} (step : S → Call → S → Type 0) (e : Ends) (n : ℕ) (old : S)
    → n ≡ 0 → Awaits step e n old None old
unfolding Awaits
awaits-none step e n old is = rw is (refl, refl)

-- the look after this turn finds the answer
pub awaits-found : {S : Type 0} (step : S → Call → S → Type 0) (e : Ends) (n : ℕ) (old turned new : S)
    (seen : Option (List ℕ)) (found : List ℕ) → 0 < n → step old Turns turned → step turned (look Admin e seen) new
    → own_of e seen ≡ Some found → Awaits step e n old (Some found) new
unfolding Awaits
awaits-found step e zero old turned new seen found p h k is = let b : ⊥ = omega (arith, p) in absurd b
awaits-found step e (suc n) old turned new seen found p h k is =
    (new, seen, (turned, h, (new, k, refl)), rw is (refl, refl))

-- the look after this turn does not find it yet
pub awaits-more : {S : Type 0} (step : S → Call → S → Type 0) (e : Ends) (n m : ℕ) (old turned mid new : S)
    (seen answer : Option (List ℕ)) → n ≡ suc m → step old Turns turned → step turned (look Admin e seen) mid
    → own_of e seen ≡ None → Awaits step e m mid answer new → Awaits step e n old answer new
unfolding Awaits
awaits-more step e n m old turned mid new seen answer same h k is r =
    rw same (mid, seen, (turned, h, (mid, k, refl)), rw is r)

-- a command of the driver's own without an answer, and with one
pub creates-none : {S : Type 0} (step : S → Call → S → Type 0) (command : SqeFields)
    (d d' : Driver) (ends : Ends) (old rung new : S) → d' ≡ sent d →
    Calls step old (send_calls d.admin command) rung → ends ≡ d'.admin
    → Awaits step ends 4 rung None new → Creates step command d old None d' new
unfolding Creates
creates-none step command d d' ends old rung new e h is k = (
  rung,
  None,
  new,
  h,
  subst (λ x. Awaits step x 4 rung None new) (is ∙ ap (λ (x : Driver). x.admin) e) k,
  (refl, e, refl),
)

pub creates-some : {S : Type 0} (step : S → Call → S → Type 0) (command : SqeFields)
    (d d1 d' : Driver) (ends : Ends) (old rung seen new : S) (e : List ℕ) (s : Status) → d1 ≡ sent d →
    Calls step old (send_calls d.admin command) rung → ends ≡ d1.admin
    → Awaits step ends 4 rung (Some e) seen →
    d' ≡ heard_own d1 e → Calls step seen (heard_calls d1.admin e) new → s ≡ status e
    → Creates step command d old (Some s) d' new
unfolding Creates
creates-some step command d d1 d' ends old rung seen new e s p h same k q t is = (
  rung,
  Some e,
  seen,
  h,
  subst (λ x. Awaits step x 4 rung (Some e) seen) (same ∙ ap (λ (x : Driver). x.admin) p) k,
  (ap Some is, q ∙ ap (λ x. heard_own x e) p, subst (λ (x : Driver). Calls step seen (heard_calls x.admin e) new) p t),
)

-- the outcome of a judged answer
judged-fault : (o : Option UpFault) (r : Result (Unit {0}) UpFault) (f : UpFault)
    → MatchOption o (r ≡ Ok tt) (λ g. r ≡ Err g) → r ≡ Err f → o ≡ Some f
judged-fault None r f h e = absurd (cc (h, e))
judged-fault (Some g) r f h e = search (h, e)

judged-fine : (o : Option UpFault) (r : Result (Unit {0}) UpFault) → MatchOption o (r ≡ Ok tt) (λ g. r ≡ Err g)
    → r ≡ Ok tt → o ≡ None
judged-fine None r h e = refl
judged-fine (Some g) r h e = absurd (cc (h, e))

-- the controller is not ready
pub rises-not : {S : Type 0} (step : S → Call → S → Type 0) (d d' : Driver) (old new : S) →
    (value : ℕ) × (false ≡ is_ready value) × Calls step old (start_calls value) new → d' ≡ started d →
    Rises step d old (Err NotReady) d' new
unfolding Rises
rises-not step d d' old new h e = (h.0, new, h.2, rw (sym h.1) (refl, e, refl))

-- a command that creates the intended queue
creating : {S : Type 0} (step : S → Call → S → Type 0) (q r : SqeFields) (d d' : Driver)
    (old new : S) (answer : Option Status) →
    q ≡ r → Creates step q d old answer d' new → Creates step r d old answer d' new
creating step q r d d' old new answer e h = subst (λ x. Creates step x d old answer d' new) e h

-- it is ready, and the first command failed
pub rises-first : {S : Type 0} (step : S → Call → S → Type 0) (d d1 d2 : Driver) (old on new : S)
    (q : SqeFields) (answer : Option Status) (j r : Result (Unit {0}) UpFault) (f : UpFault) →
    (value : ℕ) × (true ≡ is_ready value) × Calls step old (start_calls value) on → d1 ≡ started d →
    q ≡ create_completion_queue → Creates step q d1 on answer d2 new →
    MatchOption (fault_of answer) (j ≡ Ok tt) (λ g. j ≡ Err g) → j ≡ Err f → r ≡ Err f →
    Rises step d old r d2 new
unfolding Rises
rises-first step d d1 d2 old on new q answer j r f h e q-is k judged is r-is =
    let fault : fault_of answer ≡ Some f = judged-fault (fault_of answer) j f judged is in
    let made = creating step q create_completion_queue d1 d2 on new answer q-is k in (
      h.0,
      on,
      h.2,
      rw (sym h.1) (
        answer,
        d2,
        new,
        subst (λ x. Creates step create_completion_queue x on answer d2 new) e made,
        rw fault (r-is, refl, refl),
      ),
    )

-- the first command succeeded, and the second failed
pub rises-second : {S : Type 0} (step : S → Call → S → Type 0) (d d1 d2 d3 : Driver)
    (old on mid new : S) (q1 q2 : SqeFields) (a1 a2 : Option Status) (j1 j2 r : Result (Unit {0}) UpFault)
    (f : UpFault) →
    (value : ℕ) × (true ≡ is_ready value) × Calls step old (start_calls value) on → d1 ≡ started d →
    q1 ≡ create_completion_queue → Creates step q1 d1 on a1 d2 mid →
    MatchOption (fault_of a1) (j1 ≡ Ok tt) (λ g. j1 ≡ Err g) → j1 ≡ Ok tt →
    q2 ≡ create_submission_queue → Creates step q2 d2 mid a2 d3 new →
    MatchOption (fault_of a2) (j2 ≡ Ok tt) (λ g. j2 ≡ Err g) → j2 ≡ Err f → r ≡ Err f →
    Rises step d old r d3 new
unfolding Rises
rises-second step d d1 d2 d3 old on mid new q1 q2 a1 a2 j1 j2 r f h e q1-is k judged is q2-is k2
    judged2 is2 r-is =
    let none : fault_of a1 ≡ None = judged-fine (fault_of a1) j1 judged is in
    let fault : fault_of a2 ≡ Some f = judged-fault (fault_of a2) j2 f judged2 is2 in
    let made = creating step q1 create_completion_queue d1 d2 on mid a1 q1-is k in (
      h.0,
      on,
      h.2,
      rw (sym h.1) (
        a1,
        d2,
        mid,
        subst (λ x. Creates step create_completion_queue x on a1 d2 mid) e made,
        rw none
            (a2, d3, creating step q2 create_submission_queue d2 d3 mid new a2 q2-is k2, rw fault (r-is, refl)),
      ),
    )

-- both succeeded
pub rises-up : {S : Type 0} (step : S → Call → S → Type 0) (d d1 d2 d3 d' : Driver)
    (old on mid new : S) (q1 q2 : SqeFields) (a1 a2 : Option Status) (j1 j2 : Result (Unit {0}) UpFault) →
    (value : ℕ) × (true ≡ is_ready value) × Calls step old (start_calls value) on → d1 ≡ started d →
    q1 ≡ create_completion_queue → Creates step q1 d1 on a1 d2 mid →
    MatchOption (fault_of a1) (j1 ≡ Ok tt) (λ g. j1 ≡ Err g) → j1 ≡ Ok tt →
    q2 ≡ create_submission_queue → Creates step q2 d2 mid a2 d3 new →
    MatchOption (fault_of a2) (j2 ≡ Ok tt) (λ g. j2 ≡ Err g) → j2 ≡ Ok tt → d' ≡ record d3 { state = Up } →
    Rises step d old (Ok tt) d' new
unfolding Rises
rises-up step d d1 d2 d3 d' old on mid new q1 q2 a1 a2 j1 j2 h e q1-is k judged is q2-is k2 judged2 is2 d-is =
    let none : fault_of a1 ≡ None = judged-fine (fault_of a1) j1 judged is in
    let fine : fault_of a2 ≡ None = judged-fine (fault_of a2) j2 judged2 is2 in
    let made = creating step q1 create_completion_queue d1 d2 on mid a1 q1-is k in (
      h.0,
      on,
      h.2,
      rw (sym h.1) (
        a1,
        d2,
        mid,
        subst (λ x. Creates step create_completion_queue x on a1 d2 mid) e made,
        rw none
            (a2, d3, creating step q2 create_submission_queue d2 d3 mid new a2 q2-is k2, rw fine (refl, d-is)),
      ),
    )
