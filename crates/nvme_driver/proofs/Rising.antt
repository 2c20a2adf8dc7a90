-- For `nvme_fleet`: bringing up has one outcome if each call has one, shown for two outcomes from the same state.
use Rattle.std.proofs.Common.{
  ◌≡◌,
  ◌≤◌,
  ℕ,
  zero,
  suc,
  Bool,
  true,
  false,
  List,
  [],
  ◌∷◌,
  ◌++◌,
  take,
  Option,
  None,
  Some,
  Result,
  sym,
  ap,
  subst,
  ◌∙◌,
  arith,
}
use Rattle.std.specs.Prelude.{MatchOption}
use Rattle.nvme_wire.specs.declared.sqe.fields.SqeFields.{SqeFields}
use Rattle.nvme_wire.specs.declared.status.Status.{Status}
use Rattle.nvme_driver.specs.declared.faults.UpFault.{UpFault}
use Rattle.nvme_driver.specs.declared.lane.Lane.{Lane}
use Rattle.nvme_driver.specs.declared.lane.Lane.TheVariants.{Admin}
use Rattle.nvme_driver.specs.Calls.{Call, Reads, Turns, Sees, Calls}
use Rattle.nvme_driver.specs.Drivers.{Driver, Ends}
use Rattle.nvme_driver.specs.Polls.{look, head_of, phase_of}
use Rattle.nvme_driver.specs.Rises.{
  Awaits,
  Rises,
  Creates,
  CreatesBoth,
  CreatesSubmissions,
  Concludes,
  Hears,
  create_completion_queue,
  create_submission_queue,
  csts,
  start_calls,
  started,
  is_ready,
  fault_of,
  own_of,
  sent,
  send_calls,
  heard_calls,
}

-- A count never falls over a call; a call over which it stays has one outcome, a read one value, and a look one result.
pub record IsSure {S : Type 0} (step : S → Call → S → Type 0) (count : S → ℕ) (base : ℕ) : Type 0 where
  pub grows : (call : Call) (p q : S) → step p call q → count p ≤ count q
  pub alone : (call : Call) (p q r : S) → count p ≡ base → count q ≡ base → count r ≡ base → step p call q
      → step p call r → r ≡ q
  pub value : (offset v u : ℕ) (p q r : S) → count p ≡ base → count q ≡ base → count r ≡ base
      → step p (Reads offset v) q → step p (Reads offset u) r → u ≡ v
  pub seen : (lane : Lane) (head : ℕ) (expected : Bool) (x y : Option (List ℕ)) (p q r : S) → count p ≡ base
      → count q ≡ base → count r ≡ base → step p (Sees lane head expected x) q → step p (Sees lane head expected y) r
      → y ≡ x

between : (a b c : ℕ) → a ≤ b → b ≤ c → (n : ℕ) → a ≡ n → c ≡ n → b ≡ n
between a b c low high n first last = omega (arith, low, high, first, last)

-- Calls.

calls-grow : {S : Type 0} (step : S → Call → S → Type 0) (count : S → ℕ) (base : ℕ)
    → IsSure step count base → (calls : List Call) (old new : S) → Calls step old calls new → count old ≤ count new
calls-grow step count base m [] old new h = let e = ap count h in omega (arith, e)
calls-grow step count base m (call ∷ calls) old new (mid, one, rest) =
    let a = m.grows call old mid one in
    let b = calls-grow step count base m calls mid new rest in
    omega (arith, a, b)

calls-alone : {S : Type 0} (step : S → Call → S → Type 0) (count : S → ℕ) (base : ℕ) → IsSure step count base
    → (calls : List Call) (old new other : S) → count old ≡ base → count new ≡ base → count other ≡ base
    → Calls step old calls new → Calls step old calls other → other ≡ new
calls-alone step count base m [] old new other a b c h g = g ∙ sym h
calls-alone step count base m (call ∷ calls) old new other a b c (mid, one, rest) (mid', one', rest') =
    let p = between (count old) (count mid) (count new) (m.grows call old mid one)
    (calls-grow step count base m calls mid new rest) base a b in
    let q = between (count old) (count mid') (count other) (m.grows call old mid' one')
    (calls-grow step count base m calls mid' other rest') base a c in
    let same : mid' ≡ mid = m.alone call old mid mid' a p q one one' in
    calls-alone step count base m calls mid new other p b c rest (subst (λ x. Calls step x calls other) same rest')

-- those that end with a read
reads-alone : {S : Type 0} (step : S → Call → S → Type 0) (count : S → ℕ) (base : ℕ)
    → IsSure step count base → (calls : List Call) (offset v u : ℕ) (old new other : S)
    → count old ≡ base → count new ≡ base → count other ≡ base
    → Calls step old (calls ++ Reads offset v ∷ []) new → Calls step old (calls ++ Reads offset u ∷ []) other → u ≡ v
reads-alone step count base m [] offset v u old new other a b c (mid, one, rest) (mid', one', rest') =
    m.value offset v u old mid mid' a (sym (ap count rest) ∙ b) (sym (ap count rest') ∙ c) one one'
reads-alone step count base m (call ∷ calls) offset v u old new other a b c (mid, one, rest) (mid', one', rest') =
    let p = between (count old) (count mid) (count new) (m.grows call old mid one)
    (calls-grow step count base m (calls ++ Reads offset v ∷ []) mid new rest) base a b in
    let q = between (count old) (count mid') (count other) (m.grows call old mid' one')
    (calls-grow step count base m (calls ++ Reads offset u ∷ []) mid' other rest') base a c in
    let same : mid' ≡ mid = m.alone call old mid mid' a p q one one' in
    reads-alone step count base m calls offset v u mid new other p b c rest
    (subst (λ x. Calls step x (calls ++ Reads offset u ∷ []) other) same rest')

-- Waiting.

-- a turn and a look
turned-alone : {S : Type 0} (step : S → Call → S → Type 0) (count : S → ℕ) (base : ℕ) → IsSure step count base
    → (e : Ends) (x y : Option (List ℕ)) (old new other : S)
    → count old ≡ base → count new ≡ base → count other ≡ base → Calls step old (Turns ∷ look Admin e x ∷ []) new
    → Calls step old (Turns ∷ look Admin e y ∷ []) other → (y ≡ x) × (other ≡ new)
turned-alone step count base m e x y old new other a b c (mid, one, (last, two, same))
    (mid', one', (last', two', same')) =
    let p = between (count old) (count mid) (count new) (m.grows Turns old mid one)
    (calls-grow step count base m (look Admin e x ∷ []) mid new (last, two, same)) base a b in
    let q = between (count old) (count mid') (count other) (m.grows Turns old mid' one')
    (calls-grow step count base m (look Admin e y ∷ []) mid' other (last', two', same')) base a c in
    let first : mid' ≡ mid = m.alone Turns old mid mid' a p q one one' in
    let there = subst (λ z. step z (look Admin e y) last') first two' in
    let l = sym (ap count same) ∙ b in
    let l' = sym (ap count same') ∙ c in
    let seen : y ≡ x = m.seen Admin (head_of e) (phase_of e) x y mid last last' p l l' two there in
    let after : last' ≡ last = m.alone (look Admin e x) mid last last' p l l' two
    (subst (λ z. step mid (look Admin e z) last') seen there) in
    (seen, same' ∙ after ∙ sym same)

found-grows : {S A : Type 0} (count : S → ℕ) (o answer : Option A) (mid new : S) (P : Type 0)
    → (P → count mid ≤ count new) → MatchOption o P (λ found. (answer ≡ Some found) × (new ≡ mid))
    → count mid ≤ count new
found-grows count None answer mid new P g h = g h
found-grows count (Some found) answer mid new P g h = let e = ap count h.1 in omega (arith, e)

awaits-grow : {S : Type 0} (step : S → Call → S → Type 0) (count : S → ℕ) (base : ℕ)
    → IsSure step count base → (e : Ends) (n : ℕ) (old new : S) (answer : Option (List ℕ))
    → Awaits step e n old answer new → count old ≤ count new
unfolding Awaits
awaits-grow step count base m e zero old new answer h = let e = ap count h.1 in omega (arith, e)
awaits-grow step count base m e (suc n) old new answer (mid, seen, calls, next) =
    let a = calls-grow step count base m (Turns ∷ look Admin e seen ∷ []) old mid calls in
    let b =
    found-grows count (own_of e seen) answer mid new _ (awaits-grow step count base m e n mid new answer) next in
    omega (arith, a, b)

found-alone : {S A : Type 0} (o answer answer' : Option A) (mid new other : S) (P Q : Type 0)
    → (P → Q → (answer' ≡ answer) × (other ≡ new)) → MatchOption o P (λ found. (answer ≡ Some found) × (new ≡ mid))
    → MatchOption o Q (λ found. (answer' ≡ Some found) × (other ≡ mid)) → (answer' ≡ answer) × (other ≡ new)
found-alone None answer answer' mid new other P Q both h g = both h g
found-alone (Some found) answer answer' mid new other P Q both h g = (g.0 ∙ sym h.0, g.1 ∙ sym h.1)

awaits-alone : {S : Type 0} (step : S → Call → S → Type 0) (count : S → ℕ) (base : ℕ)
    → IsSure step count base → (e : Ends) (n : ℕ) (old new other : S) (answer answer' : Option (List ℕ))
    → count old ≡ base → count new ≡ base → count other ≡ base → Awaits step e n old answer new
    → Awaits step e n old answer' other → (answer' ≡ answer) × (other ≡ new)
unfolding Awaits
awaits-alone step count base m e zero old new other answer answer' a b c h g = (g.0 ∙ sym h.0, g.1 ∙ sym h.1)
awaits-alone step count base m e (suc n) old new other answer answer' a b c (mid, seen, calls, next)
    (mid', seen', calls', next') =
    let p = between (count old) (count mid) (count new)
    (calls-grow step count base m (Turns ∷ look Admin e seen ∷ []) old mid calls) (found-grows count
    (own_of e seen) answer mid new _ (awaits-grow step count base m e n mid new answer) next) base a b in
    let q = between (count old) (count mid') (count other)
    (calls-grow step count base m (Turns ∷ look Admin e seen' ∷ []) old mid' calls') (found-grows count
    (own_of e seen') answer' mid' other _ (awaits-grow step count base m e n mid' other answer') next') base a c in
    let same = turned-alone step count base m e seen seen' old mid mid' a p q calls calls' in
    found-alone (own_of e seen) answer answer' mid new other _ _
    (awaits-alone step count base m e n mid new other answer answer' p b c) next
    (subst (λ s. MatchOption (own_of e s) (Awaits step e n mid answer' other)
    (λ found. (answer' ≡ Some found) × (other ≡ mid))) same.0
    (subst (λ x. MatchOption (own_of e seen') (Awaits step e n x answer' other)
    (λ found. (answer' ≡ Some found) × (other ≡ x))) same.1 next'))

-- A command of the driver's own.

hears-grow : {S : Type 0} (step : S → Call → S → Type 0) (count : S → ℕ) (base : ℕ)
    → IsSure step count base → (d d' : Driver) (answer : Option (List ℕ)) (old new : S) (result : Option Status)
    → Hears step d answer old result d' new → count old ≤ count new
hears-grow step count base m d d' None old new result h = let e = ap count h.2 in omega (arith, e)
hears-grow step count base m d d' (Some entry) old new result h =
    calls-grow step count base m (heard_calls d.admin entry) old new h.2

-- its result, and the driver and the state after it
abbrev Same : {S A : Type 0} → A → A → Driver → Driver → S → S → Type 0
Same result result' d d' new other = (result' ≡ result) × (d' ≡ d) × (other ≡ new)

hears-alone : {S : Type 0} (step : S → Call → S → Type 0) (count : S → ℕ) (base : ℕ) → IsSure step count base
    → (d d' d'' : Driver) (answer : Option (List ℕ)) (old new other : S) (result result' : Option Status)
    → count old ≡ base → count new ≡ base → count other ≡ base → Hears step d answer old result d' new
    → Hears step d answer old result' d'' other → Same result result' d' d'' new other
hears-alone step count base m d d' d'' None old new other result result' a b c h g =
    (g.0 ∙ sym h.0, g.1 ∙ sym h.1, g.2 ∙ sym h.2)
hears-alone step count base m d d' d'' (Some entry) old new other result result' a b c h g = (
  g.0 ∙ sym h.0,
  g.1 ∙ sym h.1,
  calls-alone step count base m (heard_calls d.admin entry) old new other a b c h.2 g.2,
)

creates-grow : {S : Type 0} (step : S → Call → S → Type 0) (count : S → ℕ) (base : ℕ) → IsSure step count base
    → (command : SqeFields) (d d' : Driver) (old new : S) (result : Option Status)
    → Creates step command d old result d' new → count old ≤ count new
unfolding Creates
creates-grow step count base m command d d' old new result (rung, answer, seen, sends, awaits, hears) =
    let a = calls-grow step count base m (send_calls d.admin command) old rung sends in
    let b = awaits-grow step count base m (sent d).admin 4 rung seen answer awaits in
    let c = hears-grow step count base m (sent d) d' answer seen new result hears in
    omega (arith, a, b, c)

creates-alone : {S : Type 0} (step : S → Call → S → Type 0) (count : S → ℕ) (base : ℕ) → IsSure step count base
    → (command : SqeFields) (d d' d'' : Driver) (old new other : S)
    (result result' : Option Status)
    → count old ≡ base → count new ≡ base → count other ≡ base → Creates step command d old result d' new
    → Creates step command d old result' d'' other → Same result result' d' d'' new other
unfolding Creates
creates-alone {S} step count base m command d d' d'' old new other result result' a b c
    (rung, answer, seen, sends, awaits, hears) (rung', answer', seen', sends', awaits', hears') =
    let one = calls-grow step count base m (send_calls d.admin command) old rung sends in
    let two = awaits-grow step count base m (sent d).admin 4 rung seen answer awaits in
    let three = hears-grow step count base m (sent d) d' answer seen new result hears in
    let one' = calls-grow step count base m (send_calls d.admin command) old rung' sends' in
    let two' = awaits-grow step count base m (sent d).admin 4 rung' seen' answer' awaits' in
    let three' = hears-grow step count base m (sent d) d'' answer' seen' other result' hears' in
    let p : count rung ≡ base = omega (arith, one, two, three, a, b) in
    let q : count seen ≡ base = omega (arith, one, two, three, a, b) in
    let p' : count rung' ≡ base = omega (arith, one', two', three', a, c) in
    let q' : count seen' ≡ base = omega (arith, one', two', three', a, c) in
    let same : rung' ≡ rung =
    calls-alone step count base m (send_calls d.admin command) old rung rung' a p p' sends sends' in
    let found = awaits-alone step count base m (sent d).admin 4 rung seen seen' answer answer' p q q' awaits
    (subst (λ x. Awaits step (sent d).admin 4 x answer' seen') same awaits') in
    hears-alone step count base m (sent d) d' d'' answer seen new other result result' q b c hears
    (subst (λ x. Hears step (sent d) answer x result' d'' other) found.1
    (subst (λ x. Hears step (sent d) x seen' result' d'' other) found.0 hears'))

-- Both queues.

concludes-alone : (fault : Option UpFault) (result result' : Result (Unit {0}) UpFault) (d d' d'' : Driver)
    → Concludes fault result d d' → Concludes fault result' d d'' → (result' ≡ result) × (d'' ≡ d')
concludes-alone None result result' d d' d'' h g = (g.0 ∙ sym h.0, g.1 ∙ sym h.1)
concludes-alone (Some fault) result result' d d' d'' h g = (g.0 ∙ sym h.0, g.1 ∙ sym h.1)

submissions-grow : {S : Type 0} (step : S → Call → S → Type 0) (count : S → ℕ) (base : ℕ) → IsSure step count base
    → (fault : Option UpFault) (d d' : Driver) (old new : S) (result : Result (Unit {0}) UpFault)
    → CreatesSubmissions step fault d old result d' new → count old ≤ count new
submissions-grow step count base m (Some fault) d d' old new result h = let e = ap count h.2 in omega (arith, e)
submissions-grow step count base m None d d' old new result (answer, left, creates, concludes) =
    creates-grow step count base m create_submission_queue d left old new answer creates

submissions-alone : {S : Type 0} (step : S → Call → S → Type 0) (count : S → ℕ) (base : ℕ)
    → IsSure step count base → (fault : Option UpFault) (d d' d'' : Driver) (old new other : S)
    (result result' : Result (Unit {0}) UpFault)
    → count old ≡ base → count new ≡ base → count other ≡ base → CreatesSubmissions step fault d old result d' new
    → CreatesSubmissions step fault d old result' d'' other
    → Same result result' d' d'' new other
submissions-alone step count base m (Some fault) d d' d'' old new other result result' a b c h g =
    (g.0 ∙ sym h.0, g.1 ∙ sym h.1, g.2 ∙ sym h.2)
submissions-alone step count base m None d d' d'' old new other result result' a b c
    (answer, left, creates, concludes) (answer', left', creates', concludes') =
    let one = creates-alone step count base m create_submission_queue d left left' old new other answer answer' a
    b c creates creates' in
    let two = concludes-alone (fault_of answer) result result' left d' d'' concludes
    (subst (λ x. Concludes (fault_of answer) result' x d'') one.1
    (subst (λ x. Concludes (fault_of x) result' left' d'') one.0 concludes')) in
    (two.0, two.1, one.2)

both-grow : {S : Type 0} (step : S → Call → S → Type 0) (count : S → ℕ) (base : ℕ) → IsSure step count base
    → (ready : Bool) (d d' : Driver) (old new : S) (result : Result (Unit {0}) UpFault)
    → CreatesBoth step ready d old result d' new → count old ≤ count new
both-grow step count base m false d d' old new result h = let e = ap count h.2 in omega (arith, e)
both-grow step count base m true d d' old new result (answer, left, mid, creates, submissions) =
    let a = creates-grow step count base m create_completion_queue d left old mid answer creates in
    let b = submissions-grow step count base m (fault_of answer) left d' mid new result submissions in
    omega (arith, a, b)

both-alone : {S : Type 0} (step : S → Call → S → Type 0) (count : S → ℕ) (base : ℕ)
    → IsSure step count base → (ready : Bool) (d d' d'' : Driver) (old new other : S)
    (result result' : Result (Unit {0}) UpFault) → count old ≡ base → count new ≡ base → count other ≡ base
    → CreatesBoth step ready d old result d' new → CreatesBoth step ready d old result' d'' other
    → Same result result' d' d'' new other
both-alone step count base m false d d' d'' old new other result result' a b c h g =
    (g.0 ∙ sym h.0, g.1 ∙ sym h.1, g.2 ∙ sym h.2)
both-alone step count base m true d d' d'' old new other result result' a b c
    (answer, left, mid, creates, submissions) (answer', left', mid', creates', submissions') =
    let p = between (count old) (count mid) (count new)
    (creates-grow step count base m create_completion_queue d left old mid answer creates)
    (submissions-grow step count base m (fault_of answer) left d' mid new result submissions) base a b in
    let q = between (count old) (count mid') (count other)
    (creates-grow step count base m create_completion_queue d left' old mid' answer' creates')
    (submissions-grow step count base m (fault_of answer') left' d'' mid' other result' submissions') base a c in
    let one = creates-alone step count base m create_completion_queue d left left' old mid mid' answer answer' a p
    q creates creates' in
    submissions-alone step count base m
    (fault_of answer) left d' d'' mid new other result result' p b c submissions
    (subst (λ x. CreatesSubmissions step (fault_of answer) left x result' d'' other) one.2
    (subst (λ x. CreatesSubmissions step (fault_of answer) x mid' result' d'' other) one.1
    (subst (λ x. CreatesSubmissions step (fault_of x) left' mid' result' d'' other) one.0 submissions')))

-- Bringing up.

-- the calls of a start, before the read
abbrev before_read : List Call
before_read = take 11 (start_calls 0)

pub rises-alone : {S : Type 0} (step : S → Call → S → Type 0) (count : S → ℕ) (base : ℕ)
    → IsSure step count base → (d d' d'' : Driver) (old new other : S)
    (result result' : Result (Unit {0}) UpFault) → count old ≡ base → count new ≡ base → count other ≡ base
    → Rises step d old result d' new → Rises step d old result' d'' other
    → Same result result' d' d'' new other
unfolding Rises
rises-alone step count base m d d' d'' old new other result result' a b c (value, on, starts, both)
    (value', on', starts', both') =
    let p = between (count old) (count on) (count new) (calls-grow step count base m (start_calls value) old on starts)
    (both-grow step count base m (is_ready value) (started d) d' on new result both) base a b in
    let q =
    between (count old) (count on') (count other) (calls-grow step count base m (start_calls value') old on' starts')
    (both-grow step count base m (is_ready value') (started d) d'' on' other result' both') base a c in
    let read : value' ≡ value =
    reads-alone step count base m before_read csts value value' old on on' a p q starts starts' in
    let same : on' ≡ on = calls-alone step count base m (start_calls value) old on on' a p q starts
    (subst (λ v. Calls step old (start_calls v) on') read starts') in
    both-alone step count base m (is_ready value) (started d) d' d'' on new other result result' p b c both
    (subst (λ x. CreatesBoth step (is_ready value) (started d) x result' d'' other) same
    (subst (λ v. CreatesBoth step (is_ready v) (started d) on' result' d'' other) read both'))

-- And the requests of the driver stay as they are.

hears-keeps : {S : Type 0} (step : S → Call → S → Type 0) (d d' : Driver) (answer : Option (List ℕ)) (old new : S)
    (result : Option Status) → Hears step d answer old result d' new → (d'.slots ≡ d.slots) × (d'.next ≡ d.next)
hears-keeps step d d' None old new result h = (ap (λ (x : Driver). x.slots) h.1, ap (λ (x : Driver). x.next) h.1)
hears-keeps step d d' (Some entry) old new result h =
    (ap (λ (x : Driver). x.slots) h.1, ap (λ (x : Driver). x.next) h.1)

creates-keeps : {S : Type 0} (step : S → Call → S → Type 0) (command : SqeFields) (d d' : Driver)
    (old new : S) (result : Option Status) → Creates step command d old result d' new
    → (d'.slots ≡ d.slots) × (d'.next ≡ d.next)
unfolding Creates
creates-keeps step command d d' old new result (rung, answer, seen, sends, awaits, hears) =
    hears-keeps step (sent d) d' answer seen new result hears

concludes-keeps : (fault : Option UpFault) (result : Result (Unit {0}) UpFault) (d d' : Driver)
    → Concludes fault result d d' → (d'.slots ≡ d.slots) × (d'.next ≡ d.next)
concludes-keeps None result d d' h = (ap (λ (x : Driver). x.slots) h.1, ap (λ (x : Driver). x.next) h.1)
concludes-keeps (Some fault) result d d' h = (ap (λ (x : Driver). x.slots) h.1, ap (λ (x : Driver). x.next) h.1)

submissions-keep : {S : Type 0} (step : S → Call → S → Type 0)
    (fault : Option UpFault) (d d' : Driver) (old new : S) (result : Result (Unit {0}) UpFault)
    → CreatesSubmissions step fault d old result d' new
    → (d'.slots ≡ d.slots) × (d'.next ≡ d.next)
submissions-keep step (Some fault) d d' old new result h =
    (ap (λ (x : Driver). x.slots) h.1, ap (λ (x : Driver). x.next) h.1)
submissions-keep step None d d' old new result (answer, left, creates, concludes) =
    let a = creates-keeps step create_submission_queue d left old new answer creates in
    let b = concludes-keeps (fault_of answer) result left d' concludes in
    (b.0 ∙ a.0, b.1 ∙ a.1)

both-keep : {S : Type 0} (step : S → Call → S → Type 0) (ready : Bool) (d d' : Driver)
    (old new : S) (result : Result (Unit {0}) UpFault) → CreatesBoth step ready d old result d' new
    → (d'.slots ≡ d.slots) × (d'.next ≡ d.next)
both-keep step false d d' old new result h = (ap (λ (x : Driver). x.slots) h.1, ap (λ (x : Driver). x.next) h.1)
both-keep step true d d' old new result (answer, left, mid, creates, submissions) =
    let a = creates-keeps step create_completion_queue d left old mid answer creates in
    let b = submissions-keep step (fault_of answer) left d' mid new result submissions in
    (b.0 ∙ a.0, b.1 ∙ a.1)

pub rises-keeps : {S : Type 0} (step : S → Call → S → Type 0) (d d' : Driver) (old new : S)
    (result : Result (Unit {0}) UpFault) → Rises step d old result d' new
    → (d'.slots ≡ d.slots) × (d'.next ≡ d.next)
unfolding Rises
rises-keeps step d d' old new result (value, on, starts, both) =
    both-keep step (is_ready value) (started d) d' on new result both
