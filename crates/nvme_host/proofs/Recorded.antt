-- For the proof of the law `calls`: calls of a port that records them determine it, and so does a bring-up.
use Rattle.std.proofs.Common.{
  ◌≡◌,
  ℕ,
  zero,
  suc,
  Bool,
  true,
  false,
  List,
  [],
  ◌∷◌,
  ◌++◌,
  Option,
  Some,
  None,
  Result,
  refl,
  sym,
  ap,
  subst,
  ◌∙◌,
}
use Rattle.std.specs.Prelude.{MatchOption}
use Rattle.nvme_wire.specs.declared.sqe.fields.SqeFields.{SqeFields}
use Rattle.nvme_wire.specs.declared.status.Status.{Status}
use Rattle.nvme_driver.specs.declared.faults.UpFault.{UpFault}
use Rattle.nvme_driver.specs.Calls.{Call, Stores, Writes, Reads, Turns, Sees, Loads, Calls}
use Rattle.nvme_driver.specs.Layout.{submission_queue, completion_queue}
use Rattle.nvme_driver.specs.declared.lane.Lane.TheVariants.{Admin, Io}
use Rattle.nvme_driver.specs.Drivers.{Driver, Ends, cc as configuration}
use Rattle.nvme_driver.specs.Polls.{head_of, look, phase_of, seen_in}
use Rattle.nvme_driver.specs.Rises.{
  Rises,
  Awaits,
  Creates,
  CreatesBoth,
  CreatesSubmissions,
  Concludes,
  Hears,
  start_calls,
  sent,
  started,
  is_ready,
  fault_of,
  heard_calls,
  send_calls,
  own_of,
  zero_page,
  aqa,
  admin_sizes,
  asq_low,
  asq_high,
  acq_low,
  acq_high,
  enabling,
  csts,
}
use Rattle.nvme_host.specs.declared.recording_port.RecordingPort.{RecordingPort}
use Rattle.nvme_host.specs.Recording.{Records, IsSamePort}

-- two ports with the fields of a third
pub same-port : (want p q : RecordingPort) → IsSamePort want p → IsSamePort want q → p ≡ q
same-port want p q a b =
    let window = a.window ∙ sym b.window in
    let actions = a.actions ∙ sym b.actions in
    let doorbells = a.doorbells ∙ sym b.doorbells in
    let stride = a.stride ∙ sym b.stride in
    let reports = a.reports ∙ sym b.reports in
    let reports_read = a.reports_read ∙ sym b.reports_read in
    let need = a.need ∙ sym b.need in
    let handed_out = a.handed_out ∙ sym b.handed_out in
    λ i. record {
      window = window i;
      actions = record { items = actions i };
      doorbells = doorbells i;
      stride = stride i;
      reports = record { items = reports i };
      reports_read = reports_read i;
      need = need i;
      handed_out = handed_out i;
    }

-- calls of the port
one-call : (call : Call) (old p q : RecordingPort) → Records old call p → Records old call q → p ≡ q
one-call (Stores at part) old p q a b = same-port _ p q a b
one-call (Writes offset v) old p q a b = same-port _ p q a b
one-call (Reads offset v) old p q a b = same-port _ p q a.1 b.1
one-call Turns old p q a b = same-port _ p q a b
one-call (Sees lane head expected seen) old p q a b = a.1 ∙ sym b.1
one-call (Loads at part) old p q a b = a.1 ∙ sym b.1

pub all-calls : (calls : List Call) (old p q : RecordingPort) → Calls Records old calls p
    → Calls Records old calls q → p ≡ q
all-calls [] old p q a b = a ∙ sym b
all-calls (call ∷ calls) old p q a b =
    all-calls calls b.0 p q
    (subst (λ (m : RecordingPort). Calls Records m calls p) (one-call call old a.0 b.0 a.1 b.1) a.2) b.2

calls-split : (xs ys : List Call) (old new : RecordingPort) → Calls Records old (xs ++ ys) new
    → (mid : RecordingPort) × Calls Records old xs mid × Calls Records mid ys new
calls-split [] ys old new c = (old, refl, c)
calls-split (x ∷ xs) ys old new c =
    let rest = calls-split xs ys c.0 new c.2 in (rest.0, (c.0, c.1, rest.1), rest.2)

-- a bring-up
looks-alike : (e : Ends) (old p q : RecordingPort) (a b : Option (List ℕ))
    → Calls Records old (Turns ∷ look Admin e a ∷ []) p → Calls Records old (Turns ∷ look Admin e b ∷ []) q
    → (a ≡ b) × (p ≡ q)
looks-alike e old p q a b (m, turn, (r, sees, same)) (k, turned, (s, saw, alike)) =
    let mid : m ≡ k = one-call Turns old m k turn turned in (
      sees.0 ∙ (ap (λ (x : RecordingPort). seen_in Admin (head_of e) (phase_of e) x.window) mid ∙ sym saw.0),
      same ∙ (sees.1 ∙ (mid ∙ sym (alike ∙ saw.1))),
    )

waits-by : (o : Option (List ℕ)) (e : Ends) (n : ℕ) (mid p q : RecordingPort) (a b : Option (List ℕ))
    → (Awaits Records e n mid a p → Awaits Records e n mid b q → (a ≡ b) × (p ≡ q))
    → MatchOption o (Awaits Records e n mid a p) (λ found. (a ≡ Some found) × (p ≡ mid))
    → MatchOption o (Awaits Records e n mid b q) (λ found. (b ≡ Some found) × (q ≡ mid))
    → (a ≡ b) × (p ≡ q)
waits-by None e n mid p q a b k x y = k x y
waits-by (Some entry) e n mid p q a b k x y = (x.0 ∙ sym y.0, x.1 ∙ sym y.1)

waits : (e : Ends) (n : ℕ) (old p q : RecordingPort) (a b : Option (List ℕ))
    → Awaits Records e n old a p → Awaits Records e n old b q → (a ≡ b) × (p ≡ q)
unfolding Awaits
waits e zero old p q a b x y = (x.0 ∙ sym y.0, x.1 ∙ sym y.1)
waits e (suc n) old p q a b (m, seen, calls, next) (k, saw, called, later) =
    let c = looks-alike e old m k seen saw calls called in
    waits-by (own_of e saw) e n k p q a b (waits e n k p q a b)
    (subst (λ (r : RecordingPort). MatchOption (own_of e saw) (Awaits Records e n r a p)
    (λ found. (a ≡ Some found) × (p ≡ r))) c.1
    (subst (λ (o : Option (List ℕ)). MatchOption (own_of e o) (Awaits Records e n m a p)
    (λ found. (a ≡ Some found) × (p ≡ m))) c.0 next)) later

-- what a part of a bring-up leaves
pub record SameStep {A : Type 0} (a b : A) (d e : Driver) (p q : RecordingPort) : Type 0 where
  pub result : a ≡ b
  pub driver : d ≡ e
  pub port : p ≡ q

hears : (d : Driver) (answer : Option (List ℕ)) (old p q : RecordingPort) (a b : Option Status) (e f : Driver)
    → Hears Records d answer old a e p → Hears Records d answer old b f q → SameStep a b e f p q
hears d None old p q a b e f x y =
    record { result = x.0 ∙ sym y.0; driver = x.1 ∙ sym y.1; port = x.2 ∙ sym y.2 }
hears d (Some entry) old p q a b e f x y = record {
  result = x.0 ∙ sym y.0;
  driver = x.1 ∙ sym y.1;
  port = all-calls (heard_calls d.admin entry) old p q x.2 y.2;
}

creates : (command : SqeFields) (d : Driver) (old p q : RecordingPort) (a b : Option Status) (e f : Driver)
    → Creates Records command d old a e p → Creates Records command d old b f q
    → SameStep a b e f p q
unfolding Creates
creates command d old p q a b e f (rung, answer, seen, sends, awaits, hears-it)
    (ring, other, saw, sent_, awaited, heard) =
    let one = all-calls (send_calls d.admin command) old rung ring sends sent_ in
    let two = waits (sent d).admin 4 ring seen saw answer other
    (subst (λ (r : RecordingPort). Awaits Records (sent d).admin 4 r answer seen) one awaits) awaited in
    hears (sent d) other saw p q a b e f
    (subst (λ (r : RecordingPort). Hears Records (sent d) other r a e p) two.1
    (subst (λ (x : Option (List ℕ)). Hears Records (sent d) x seen a e p) two.0 hears-it)) heard

concludes : (o : Option UpFault) (r s : Result (Unit {0}) UpFault) (d e f : Driver)
    → Concludes o r d e → Concludes o s d f → (r ≡ s) × (e ≡ f)
concludes None r s d e f x y = (x.0 ∙ sym y.0, x.1 ∙ sym y.1)
concludes (Some fault) r s d e f x y = (x.0 ∙ sym y.0, x.1 ∙ sym y.1)

submissions : (o : Option UpFault) (d : Driver) (old p q : RecordingPort) (r s : Result (Unit {0}) UpFault)
    (e f : Driver)
    → CreatesSubmissions Records o d old r e p
    → CreatesSubmissions Records o d old s f q
    → SameStep r s e f p q
submissions (Some fault) d old p q r s e f x y =
    record { result = x.0 ∙ sym y.0; driver = x.1 ∙ sym y.1; port = x.2 ∙ sym y.2 }
submissions None d old p q r s e f (answer, left, made, ends_so) (other, rest, makes, ends_as) =
    let c = creates _ d old p q answer other left rest made makes in
    let k = concludes (fault_of other) r s rest e f
    (subst (λ (l : Driver). Concludes (fault_of other) r l e) c.driver
    (subst (λ (x : Option Status). Concludes (fault_of x) r left e) c.result ends_so)) ends_as in
    record { result = k.0; driver = k.1; port = c.port }

both-queues : (b : Bool) (d : Driver) (old p q : RecordingPort) (r s : Result (Unit {0}) UpFault) (e f : Driver)
    → CreatesBoth Records b d old r e p → CreatesBoth Records b d old s f q
    → SameStep r s e f p q
both-queues false d old p q r s e f x y =
    record { result = x.0 ∙ sym y.0; driver = x.1 ∙ sym y.1; port = x.2 ∙ sym y.2 }
both-queues true d old p q r s e f (answer, left, mid, made, more) (other, rest, middle, makes, others) =
    let c = creates _ d old mid middle answer other left rest made makes in
    submissions (fault_of other) rest middle p q r s e f
    (subst (λ (m : RecordingPort). CreatesSubmissions Records (fault_of other) rest m r e p) c.port
    (subst (λ (l : Driver). CreatesSubmissions Records (fault_of other) l mid r e p) c.driver
    (subst (λ (x : Option Status). CreatesSubmissions Records (fault_of x) left mid r e p) c.result
    more))) others

-- the calls of a start before the status is read
first-calls : List Call
first-calls =
    Writes configuration 0
    ∷ Stores (submission_queue Admin) zero_page
    ∷ Stores (completion_queue Admin) zero_page
    ∷ Stores (submission_queue Io) zero_page
    ∷ Stores (completion_queue Io) zero_page
    ∷ Writes aqa admin_sizes
    ∷ Writes asq_low (submission_queue Admin)
    ∷ Writes asq_high 0
    ∷ Writes acq_low (completion_queue Admin)
    ∷ Writes acq_high 0
    ∷ Writes configuration enabling
    ∷ []

starts : (v w : ℕ) (old p q : RecordingPort) → Calls Records old (start_calls v) p
    → Calls Records old (start_calls w) q → (v ≡ w) × (p ≡ q)
unfolding first-calls
starts v w old p q a b =
    let x = calls-split first-calls (Reads csts v ∷ []) old p a in
    let y = calls-split first-calls (Reads csts w ∷ []) old q b in
    let mid : x.0 ≡ y.0 = all-calls first-calls old x.0 y.0 x.1 y.1 in
    let moved = subst (λ (m : RecordingPort). Calls Records m (Reads csts v ∷ []) p) mid x.2 in
    let value : v ≡ w = moved.1.0 ∙ sym y.2.1.0 in (
      value,
      all-calls (Reads csts w ∷ []) y.0 p q
          (subst (λ (n : ℕ). Calls Records y.0 (Reads csts n ∷ []) p) value moved) y.2,
    )

pub rises : (d : Driver) (old p q : RecordingPort) (r s : Result (Unit {0}) UpFault) (e f : Driver)
    → Rises Records d old r e p → Rises Records d old s f q
    → SameStep r s e f p q
unfolding Rises
rises d old p q r s e f (value, on, calls, made) (status, ready, begins, makes) =
    let c = starts value status old on ready calls begins in
    both-queues (is_ready status) (started d) ready p q r s e f
    (subst (λ (m : RecordingPort). CreatesBoth Records (is_ready status) (started d) m r e p) c.1
    (subst (λ (n : ℕ). CreatesBoth Records (is_ready n) (started d) on r e p) c.0 made)) makes
