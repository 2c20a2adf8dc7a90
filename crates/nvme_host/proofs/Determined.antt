-- Proof of the law `calls`: two outcomes of a call are equal, field by field.
use Rattle.std.proofs.Common.{
  ◌≡◌,
  ℕ,
  ◌+◌,
  ◌≤◌,
  ◌<◌,
  nat_lt,
  Bool,
  true,
  false,
  List,
  [],
  ◌∷◌,
  ◌++◌,
  length,
  take,
  drop,
  Option,
  Some,
  None,
  Result,
  Ok,
  Err,
  refl,
  sym,
  ap,
  subst,
  ◌∙◌,
  arith,
  ⊎_elim,
}
use Rattle.std.specs.Prelude.{OnOk, OnErr, IfOk, IfErr}
use Rattle.std.proofs.lemmas.Bool.{cases_lt}
use Rattle.std.proofs.lemmas.List.{take-append-drop}
use Rattle.nvme_device.specs.declared.status.Awaited.{Awaited}
use Rattle.nvme_device.specs.declared.capabilities.Capabilities.{Capabilities}
use Rattle.nvme_driver.specs.declared.faults.PlaceRefusal.{PlaceRefusal}
use Rattle.nvme_driver.specs.declared.faults.UpFault.{UpFault}
use Rattle.nvme_driver.specs.declared.lane.Lane.{Lane}
use Rattle.nvme_driver.specs.declared.request.Request.{Request}
use Rattle.nvme_driver.specs.declared.slots.Waiting.{Waiting}
use Rattle.nvme_driver.specs.declared.ticket.Ticket.{Ticket}
use Rattle.nvme_driver.specs.Calls.{Writes, Calls}
use Rattle.nvme_spec.specs.Memory.{window_size}
use Rattle.nvme_driver.specs.Drivers.{
  Driver,
  cc as configuration,
  is_down,
  place_refusal,
  ring_calls,
  reset_calls,
}
use Rattle.nvme_driver.specs.HostCommands.{IsCommandPlaced, command_refusal, command_stores, placed_command}
use Rattle.nvme_driver.specs.Requests.{Asked, asked_of}
use Rattle.nvme_driver.specs.Polls.{IsOldest, IsNotBelow, handed_len, polled}
use Rattle.nvme_driver.specs.Rises.{Rises}
use Rattle.nvme_host.specs.declared.outcome.Outcome.{Outcome}
use Rattle.nvme_host.specs.declared.outcome.Placed.{Placed}
use Rattle.nvme_host.specs.declared.open_driver.OpenDriver.{OpenDriver}
use Rattle.nvme_host.specs.declared.completions.CompletionData.{CompletionData}
use Rattle.nvme_host.specs.declared.recording_port.RecordingPort.{RecordingPort}
use Rattle.nvme_host.specs.Outcomes.{bring_up_outcome, outcome_of, placed_of}
use Rattle.nvme_host.specs.Calls.{
  Polled,
  PollingUnless,
  Placing,
  Commanding,
  AskingIf,
  RingingUnless,
  ResettingUnless,
  ShuttingUnless,
  ExpiringUnless,
  ExpiringIf,
  waits,
  Judging,
  CheckingStatusBy,
  ReportingCompletion,
  DriverBringsUp,
  BringingUpUnless,
  stage_after,
  after_step,
  shutting_down,
}
use Rattle.nvme_host.specs.Refusals.{blocked_by, stopped_by, bring_up_refusal}
use Rattle.nvme_host.specs.Recording.{Records, IsSamePort, left_out, with_actions, without_reports}
use Rattle.nvme_host.specs.Facts.{learned, with_command, with_question}
use Rattle.nvme_host.specs.Stages.{awaited_in}
use Rattle.nvme_host.specs.Completions.{StoringCompletionUnless, StoringCompletion, StoringDataUnless}
use Rattle.nvme_host.proofs.Recorded.{SameStep, same-port, all-calls, rises}
use Rattle.nvme_host.specs.Determined.{HasDistinctTickets, HasItsData, TakingsAreDetermined, CallsAreDetermined}

-- what two open drivers have in common
record Same (p q : OpenDriver) : Type 0 where
  driver : p.driver ≡ q.driver
  port : p.port ≡ q.port
  stage : p.stage ≡ q.stage
  capabilities : p.capabilities ≡ q.capabilities
  facts : p.facts ≡ q.facts

same : (p q : OpenDriver) → Same p q → p ≡ q
same p q s =
    let driver = s.driver in
    let port = s.port in
    let stage = s.stage in
    let capabilities = s.capabilities in
    let facts = s.facts in
    λ i. record {
      driver = driver i;
      port = port i;
      stage = stage i;
      capabilities = capabilities i;
      facts = facts i;
    }

-- a refusal changes nothing
refused : {A : Type 0} (old new other : OpenDriver) (one two code : A)
    → (one ≡ code) × (new ≡ old) → (two ≡ code) × (other ≡ old) → (one ≡ two) × (new ≡ other)
refused old new other one two code p q = (p.0 ∙ sym q.0, p.1 ∙ sym q.1)

-- placing
record SameCall (d e : Driver) (p q : RecordingPort) : Type 0 where
  driver : d ≡ e
  port : p ≡ q

some-is : {A : Type 0} (x y : A) → Some x ≡ Some y → x ≡ y
some-is x y h = cc

-- the result of a placing, by the first test that refuses it and the next ticket
placed-result : (verdict : Option PlaceRefusal) (next : ℕ) (r s : Result Ticket PlaceRefusal)
    → IfErr r (λ refusal. verdict ≡ Some refusal)
    → IfOk r (λ ticket. (verdict ≡ None) × (ticket ≡ record { 0 = next }))
    → IfErr s (λ refusal. verdict ≡ Some refusal)
    → IfOk s (λ ticket. (verdict ≡ None) × (ticket ≡ record { 0 = next }))
    → r ≡ s
placed-result verdict next (Ok t) (Ok u) a b c d = ap (λ (x : Ticket). Ok x) (b.1 ∙ sym d.1)
placed-result verdict next (Ok t) (Err f) a b c d = let e = sym b.0 ∙ c in absurd (cc (e))
placed-result verdict next (Err f) (Ok u) a b c d = let e = sym d.0 ∙ a in absurd (cc (e))
placed-result verdict next (Err f) (Err g) a b c d = ap (λ (x : PlaceRefusal). Err x) (some-is f g (sym a ∙ c))

-- placing a request is placing its command
is-placed : (old : OpenDriver) (asked : Asked) (d e : Driver) (p q : RecordingPort)
    → IsCommandPlaced Records old.driver asked old.port d p → IsCommandPlaced Records old.driver asked old.port e q
    → SameCall d e p q
is-placed old asked d e p q a b =
    let slot : a.0 ≡ b.0 = some-is a.0 b.0 (sym a.1 ∙ b.1) in
    record {
      driver = a.2 ∙ (ap (λ (n : ℕ). placed_command old.driver asked n) slot ∙ sym b.2);
      port = all-calls (command_stores old.driver asked b.0) old.port p q
          (subst (λ (n : ℕ). Calls Records old.port (command_stores old.driver asked n) p) slot a.3) b.3;
    }

placed-same : (old new other : OpenDriver) (asked : Asked) (r : Result Ticket PlaceRefusal)
    → OnErr r ((new.driver ≡ old.driver) × (new.port ≡ old.port))
    → OnOk r (IsCommandPlaced Records old.driver asked old.port new.driver new.port)
    → OnErr r ((other.driver ≡ old.driver) × (other.port ≡ old.port))
    → OnOk r (IsCommandPlaced Records old.driver asked old.port other.driver other.port)
    → SameCall new.driver other.driver new.port other.port
placed-same old new other asked (Ok t) a b c d =
    is-placed old asked new.driver other.driver new.port other.port b d
placed-same old new other asked (Err f) a b c d =
    record { driver = a.0 ∙ sym c.0; port = a.1 ∙ sym c.1 }

placed-both : (old new other : OpenDriver) (asked : Asked) (r s : Result Ticket PlaceRefusal) → r ≡ s
    → OnErr r ((new.driver ≡ old.driver) × (new.port ≡ old.port))
    → OnOk r (IsCommandPlaced Records old.driver asked old.port new.driver new.port)
    → OnErr s ((other.driver ≡ old.driver) × (other.port ≡ old.port))
    → OnOk s (IsCommandPlaced Records old.driver asked old.port other.driver other.port)
    → SameCall new.driver other.driver new.port other.port
placed-both old new other asked r s e a b c d =
    placed-same old new other asked s
    (subst (λ (x : Result Ticket PlaceRefusal). OnErr x ((new.driver ≡ old.driver) × (new.port ≡ old.port))) e a)
    (subst (λ (x : Result Ticket PlaceRefusal). OnOk x
    (IsCommandPlaced Records old.driver asked old.port new.driver new.port)) e b)
    c d

placing : (refusal : Option ℕ) (request : Request) (old : OpenDriver) (one two : Placed) (new other : OpenDriver)
    → Placing refusal old request one new → Placing refusal old request two other → (one ≡ two) × (new ≡ other)
placing (Some code) request old one two new other p q = refused old new other one two _ p q
placing None request old one two new other p q =
    let r = placed-result (place_refusal old.driver request) old.driver.next p.result q.result p.refused p.issued
    q.refused q.issued in
    let s = placed-both old new other (asked_of request) p.result q.result r p.unchanged p.placed q.unchanged
    q.placed in (
      p.gives ∙ (ap placed_of r ∙ sym q.gives),
      same new other (record {
        driver = s.driver;
        port = s.port;
        stage = p.stage ∙ sym q.stage;
        capabilities = p.capabilities ∙ sym q.capabilities;
        facts = p.facts ∙ sym q.facts;
      }),
    )

commanding : (refusal : Option ℕ) (identifies : Bool) (asked : Asked) (old : OpenDriver) (one two : Placed)
    (new other : OpenDriver)
    → Commanding refusal old identifies asked one new → Commanding refusal old identifies asked two other
    → (one ≡ two) × (new ≡ other)
commanding (Some code) identifies asked old one two new other p q = refused old new other one two _ p q
commanding None identifies asked old one two new other p q =
    let r = placed-result (command_refusal old.driver asked) old.driver.next p.result q.result p.refused p.issued
    q.refused q.issued in
    let s = placed-both old new other asked p.result q.result r p.unchanged p.placed q.unchanged q.placed in
    let outcome : one ≡ two = p.gives ∙ (ap placed_of r ∙ sym q.gives) in (
      outcome,
      same new other (record {
        driver = s.driver;
        port = s.port;
        stage = p.stage ∙ sym q.stage;
        capabilities = p.capabilities ∙ sym q.capabilities;
        facts = p.facts ∙ (ap (λ (x : Placed). with_command old.facts identifies x) outcome ∙ sym q.facts);
      }),
    )

asking : (b : Bool) (nsid : ℕ) (old : OpenDriver) (one two : Placed) (new other : OpenDriver)
    → AskingIf b old nsid one new → AskingIf b old nsid two other → (one ≡ two) × (new ≡ other)
asking true nsid old one two new other p q = refused old new other one two _ p q
asking false nsid old one two new other p q =
    let by = placing (stopped_by old) _ old one two p.mid q.mid p.placed q.placed in
    let placed = by.0 in let mid = by.1 in (
      by.0,
      same new other (record {
        driver = p.driver ∙ (ap (λ (h : OpenDriver). h.driver) mid ∙ sym q.driver);
        port = p.port ∙ (ap (λ (h : OpenDriver). h.port) mid ∙ sym q.port);
        stage = p.stage ∙ (ap (λ (h : OpenDriver). h.stage) mid ∙ sym q.stage);
        capabilities = p.capabilities ∙ (ap (λ (h : OpenDriver). h.capabilities) mid ∙ sym q.capabilities);
        facts = p.facts ∙ ((λ i. with_question (mid i).facts (placed i) nsid) ∙ sym q.facts);
      }),
    )

-- ringing, resetting, shutting down
ringing : (o : Option ℕ) (old : OpenDriver) (one two : ℕ) (new other : OpenDriver)
    → RingingUnless o old one new → RingingUnless o old two other → (one ≡ two) × (new ≡ other)
ringing (Some code) old one two new other p q = refused old new other one two code p q
ringing None old one two new other p q = (
  p.gives ∙ sym q.gives,
  same new other (record {
    driver = p.driver ∙ sym q.driver;
    port = all-calls (ring_calls old.driver) old.port new.port other.port p.calls q.calls;
    stage = p.stage ∙ sym q.stage;
    capabilities = p.capabilities ∙ sym q.capabilities;
    facts = p.facts ∙ sym q.facts;
  }),
)

resetting : (o : Option ℕ) (old : OpenDriver) (one two : ℕ) (new other : OpenDriver)
    → ResettingUnless o old one new → ResettingUnless o old two other → (one ≡ two) × (new ≡ other)
resetting (Some code) old one two new other p q = refused old new other one two code p q
resetting None old one two new other p q =
    let mid = all-calls reset_calls old.port p.mid q.mid p.calls q.calls in (
      p.gives ∙ sym q.gives,
      same new other (record {
        driver = p.driver ∙ sym q.driver;
        port = same-port (without_reports q.mid) new.port other.port
            (subst (λ (m : RecordingPort). IsSamePort (without_reports m) new.port) mid p.port) q.port;
        stage = p.stage ∙ sym q.stage;
        capabilities = p.capabilities ∙ sym q.capabilities;
        facts = p.facts ∙ sym q.facts;
      }),
    )

shutting : (o : Option ℕ) (old : OpenDriver) (one two : ℕ) (new other : OpenDriver)
    → ShuttingUnless o old one new → ShuttingUnless o old two other → (one ≡ two) × (new ≡ other)
shutting (Some code) old one two new other p q = refused old new other one two code p q
shutting None old one two new other p q = (
  p.gives ∙ sym q.gives,
  same new other (record {
    driver = p.driver ∙ sym q.driver;
    port = all-calls (Writes configuration shutting_down ∷ []) old.port new.port other.port p.calls q.calls;
    stage = p.stage ∙ sym q.stage;
    capabilities = p.capabilities ∙ sym q.capabilities;
    facts = p.facts ∙ sym q.facts;
  }),
)

expiring : (o : Option ℕ) (t : ℕ) (old : OpenDriver) (one two : ℕ) (new other : OpenDriver)
    → ExpiringUnless o old t one new → ExpiringUnless o old t two other → (one ≡ two) × (new ≡ other)
expiring (Some code) t old one two new other p q = refused old new other one two code p q
expiring None t old one two new other p q = by-waiting (waits t old.driver.slots) p q
  where
    by-waiting : (b : Bool) → ExpiringIf b old one new → ExpiringIf b old two other → (one ≡ two) × (new ≡ other)
    by-waiting true p q = (p.0 ∙ sym q.0, p.1 ∙ sym q.1)
    by-waiting false p q = (p.0 ∙ sym q.0, p.1 ∙ sym q.1)

-- what the device shows
judging : (cap : ℕ) (old : OpenDriver) (one two : _) (new other : OpenDriver)
    → Judging old cap one new → Judging old cap two other → (one ≡ two) × (new ≡ other)
judging cap old one two new other p q =
    let port = p.port ∙ sym q.port in
    let capabilities = p.capabilities ∙ sym q.capabilities in (
      p.gives ∙ sym q.gives,
      p.kept ∙ ((λ i. record old { port = port i; capabilities = capabilities i }) ∙ sym q.kept),
    )

checking : (a : Option Awaited) (c : Option Capabilities) (status elapsed_ms : ℕ) (old : OpenDriver) (one two : ℕ)
    (new other : OpenDriver)
    → CheckingStatusBy a c old status elapsed_ms one new → CheckingStatusBy a c old status elapsed_ms two other
    → (one ≡ two) × (new ≡ other)
checking None c status elapsed_ms old one two new other p q = refused old new other one two 33 p q
checking (Some a) None status elapsed_ms old one two new other p q = refused old new other one two 20 p q
checking (Some a) (Some c) status elapsed_ms old one two new other p q =
    let port = same-port _ new.port other.port p.port q.port in
    let stage = p.stage ∙ sym q.stage in
    (p.gives ∙ sym q.gives, p.kept ∙ ((λ i. record old { port = port i; stage = stage i }) ∙ sym q.kept))

reporting : (bytes : List ℕ) (old : OpenDriver) (one two : ℕ) (new other : OpenDriver)
    → ReportingCompletion old bytes one new → ReportingCompletion old bytes two other → (one ≡ two) × (new ≡ other)
reporting bytes old one two new other p q =
    let port = same-port _ new.port other.port p.port q.port in
    (p.gives ∙ sym q.gives, p.kept ∙ ((λ i. record old { port = port i }) ∙ sym q.kept))

-- only the window changes
over-window : (old new other : OpenDriver) → new.port.window ≡ other.port.window
    → new.port ≡ record old.port { window = new.port.window } → new ≡ record old { port = new.port }
    → other.port ≡ record old.port { window = other.port.window } → other ≡ record old { port = other.port }
    → new ≡ other
over-window old new other window p new-is q other-is =
    let port : new.port ≡ other.port = p ∙ ((λ i. record old.port { window = window i }) ∙ sym q) in
    new-is ∙ ((λ i. record old { port = port i }) ∙ sym other-is)

stored : (o : Option ℕ) (lane : Lane) (entry : List ℕ) (old : OpenDriver) (one two : CompletionData)
    (new other : OpenDriver)
    → StoringCompletionUnless o lane old entry one new → StoringCompletionUnless o lane old entry two other
    → (one ≡ two) × (new ≡ other)
stored (Some code) lane entry old one two new other p q = refused old new other one two _ p q
stored None lane entry old one two new other p q =
    (p.gives ∙ sym q.gives, over-window old new other (p.window ∙ sym q.window) p.port p.kept q.port q.kept)

storing : (lane : Option Lane) (entry : List ℕ) (old : OpenDriver) (one two : CompletionData) (new other : OpenDriver)
    → StoringCompletion lane old entry one new → StoringCompletion lane old entry two other
    → (one ≡ two) × (new ≡ other)
storing None entry old one two new other p q = refused old new other one two _ p q
storing (Some lane) entry old one two new other p q = stored (blocked_by old) lane entry old one two new other p q

storing-data : (o : Option ℕ) (at : ℕ) (part : List ℕ) (old : OpenDriver) (one two : ℕ) (new other : OpenDriver)
    → StoringDataUnless o old at part one new → StoringDataUnless o old at part two other
    → (one ≡ two) × (new ≡ other)
storing-data (Some code) at part old one two new other p q = refused old new other one two code p q
storing-data None at part old one two new other p q =
    ⊎_elim {C = (one ≡ two) × (new ≡ other)}
    (λ (out : window_size < at + length part).
    let a = p.outside out in let b = q.outside out in
    (a.0 ∙ sym b.0, over-window old new other (a.1 ∙ sym b.1) p.port p.kept q.port q.kept))
    (λ (fits : at + length part ≤ window_size).
    let a = p.inside fits in let b = q.inside fits in
    (a.0 ∙ sym b.0, over-window old new other (a.1 ∙ sym b.1) p.port p.kept q.port q.kept))
    (cases_lt window_size (at + length part))

-- lists that have the same front and the same rest
same-list : {A : Type 0} (n m : ℕ) (xs ys : List A) → n ≡ m → take n xs ≡ take n ys → drop m xs ≡ drop m ys → xs ≡ ys
same-list n m xs ys e front rest =
    let behind : drop n xs ≡ drop n ys =
    ap (λ k. drop k xs) e ∙ (rest ∙ sym (ap (λ k. drop k ys) e)) in
    sym (take-append-drop n xs) ∙ ((λ i. front i ++ behind i) ∙ take-append-drop n ys)

taking : TakingsAreDetermined
taking old before one two after afterwards new other p q =
    ⊎_elim {C = (one ≡ two) × (new ≡ other) × (after ≡ afterwards)}
    (λ (short : length before < length old.port.actions.items).
    let a = p.refused short in let b = q.refused short in
    let port = same-port old.port new.port other.port a.2 b.2 in
    (a.0 ∙ sym b.0, p.kept ∙ ((λ i. record old { port = port i }) ∙ sym q.kept), a.1 ∙ sym b.1))
    (λ (fits : length old.port.actions.items ≤ length before).
    let a = p.taken fits in let b = q.taken fits in
    let port = same-port (with_actions old.port []) new.port other.port a.3 b.3 in
    let count : one ≡ two = a.0 ∙ sym b.0 in (
      count,
      p.kept ∙ ((λ i. record old { port = port i }) ∙ sym q.kept),
      same-list one one after afterwards refl
          (a.1 ∙ (sym b.1 ∙ ap (λ k. take k afterwards) (sym count)))
          (a.2 ∙ (ap (λ k. drop k before) count ∙ (sym b.2 ∙ ap (λ k. drop k afterwards) (sym count)))),
    ))
    (cases_lt (length before) (length old.port.actions.items))

driver-brings-up : (b : Bool) (old new other : OpenDriver) (r s : Result (Unit {0}) UpFault)
    → is_down old.driver.state ≡ b → DriverBringsUp old r new → DriverBringsUp old s other
    → SameStep r s new.driver other.driver new.port other.port
driver-brings-up true old new other r s down p q =
    let start = same-port _ p.start q.start p.begun q.begun in
    rises old.driver q.start new.port other.port r s new.driver other.driver
    (subst (λ (m : RecordingPort). Rises Records old.driver m r new.driver new.port) start
    (p.rises down)) (q.rises down)
driver-brings-up false old new other r s down p q =
    let start = same-port _ p.start q.start p.begun q.begun in
    let a = p.already down in let b = q.already down in
    record { result = a.0 ∙ sym b.0; driver = a.1 ∙ sym b.1; port = a.2 ∙ (start ∙ sym b.2) }

bringing : (o : Option ℕ) (old : OpenDriver) (one two : Outcome) (new other : OpenDriver)
    → BringingUpUnless o old one new → BringingUpUnless o old two other → (one ≡ two) × (new ≡ other)
bringing (Some code) old one two new other p q = refused old new other one two _ p q
bringing None old one two new other p q =
    let c = driver-brings-up (is_down old.driver.state) old p.mid q.mid p.result q.result refl p.bring_up q.bring_up in
    let port = c.port in let result = c.result in (
      p.gives ∙ ((λ i. bring_up_outcome (port i).need (result i)) ∙ sym q.gives),
      same new other (record {
        driver = p.driver ∙ (c.driver ∙ sym q.driver);
        port = same-port (after_step q.mid.port.need (left_out q.mid.port old.port.handed_out)) new.port other.port
            (subst (λ (m : RecordingPort). IsSamePort (after_step m.need
            (left_out m old.port.handed_out)) new.port) port
            p.port) q.port;
        stage = p.stage ∙ ((λ i. stage_after (port i).need (result i)) ∙ sym q.stage);
        capabilities = p.capabilities ∙ sym q.capabilities;
        facts = p.facts ∙ sym q.facts;
      }),
    )

-- polling
one-ticket : (a b : Ticket) → a.0 ≤ b.0 → b.0 ≤ a.0 → a ≡ b
one-ticket a b p q = let e : a.0 ≡ b.0 = omega (arith, p, q) in λ i. record { 0 = e i }

oldest-same : (slots : List (Option Waiting)) (a b : Option ℕ) → HasDistinctTickets slots → IsOldest slots a
    → IsOldest slots b → a ≡ b
oldest-same slots None None distinct p q = refl
oldest-same slots None (Some s) distinct p q = let e = sym (p s) ∙ q.1 in absurd (cc (e))
oldest-same slots (Some s) None distinct p q = let e = sym (q s) ∙ p.1 in absurd (cc (e))
oldest-same slots (Some s) (Some r) distinct p q =
    let low : p.0.0 ≤ q.0.0 = subst (λ (x : Option Ticket). IsNotBelow p.0 x) q.1 (p.2 r) in
    let high : q.0.0 ≤ p.0.0 = subst (λ (x : Option Ticket). IsNotBelow q.0 x) p.1 (q.2 s) in
    let ticket : q.0 ≡ p.0 = one-ticket q.0 p.0 high low in
    ap (λ (n : ℕ). Some n) (distinct s r p.0 p.1 (q.1 ∙ ap (λ (t : Ticket). Some t) ticket))

polled-same : (old : OpenDriver) (before : List ℕ) (one two : Outcome) (new other : OpenDriver)
    (buffer bytes : List ℕ)
    → HasDistinctTickets old.driver.slots → HasItsData old
    → Polled old before one new buffer → Polled old before two other bytes
    → (one ≡ two) × (new ≡ other) × (buffer ≡ bytes)
polled-same old before one two new other buffer bytes distinct data_there p q =
    let a = p.polled in let b = q.polled in
    let oldest : a.0 ≡ b.0 = oldest-same old.driver.slots a.0 b.0 distinct a.1 b.1 in
    let w = old.port.window in let d = old.driver in
    let answer : p.answer ≡ q.answer = a.2 ∙ (ap (λ o. (polled d o w).answer) oldest ∙ sym b.2) in
    let outcome : one ≡ two = p.gives ∙ (ap outcome_of answer ∙ sym q.gives) in
    let driver : new.driver ≡ other.driver = a.3 ∙ (ap (λ o. (polled d o w).driver) oldest ∙ sym b.3) in
    let port = all-calls (polled d b.0 w).calls old.port new.port other.port
    (subst (λ (o : Option ℕ). Calls Records old.port (polled d o w).calls new.port) oldest a.4) b.4 in
    let n = length (polled d b.0 w).bytes in
    let front : take n buffer ≡ (polled d b.0 w).bytes =
    subst (λ (o : Option ℕ). take (length (polled d o w).bytes) buffer ≡ (polled d o w).bytes) oldest a.5 in
    let count : n ≡ handed_len q.answer = data_there b.0 ∙ ap handed_len (sym b.2) in
    let rest : drop (handed_len q.answer) buffer ≡ drop (handed_len q.answer) before =
    subst (λ x. drop (handed_len x) buffer ≡ drop (handed_len x) before) answer p.behind in
    let all : buffer ≡ bytes =
    same-list n (handed_len q.answer) buffer bytes count (front ∙ sym b.5) (rest ∙ sym q.behind) in (
      outcome,
      same new other (record {
        driver = driver;
        port = port;
        stage = p.stage ∙ sym q.stage;
        capabilities = p.capabilities ∙ sym q.capabilities;
        facts = p.facts ∙ ((λ i. learned old.facts (outcome i) (all i)) ∙ sym q.facts);
      }),
      all,
    )

polling : (o : Option ℕ) (old : OpenDriver) (before : List ℕ) (one two : Outcome) (new other : OpenDriver)
    (buffer bytes : List ℕ)
    → HasDistinctTickets old.driver.slots → HasItsData old
    → PollingUnless o old before one new buffer → PollingUnless o old before two other bytes
    → (one ≡ two) × (new ≡ other) × (buffer ≡ bytes)
polling (Some code) old before one two new other buffer bytes distinct data_there p q =
    (p.0 ∙ sym q.0, p.1 ∙ sym q.1, p.2 ∙ sym q.2)
polling None old before one two new other buffer bytes distinct data_there p q =
    polled-same old before one two new other buffer bytes distinct data_there p q

pub calls_are_determined : CallsAreDetermined
calls_are_determined = record {
  placing = λ refusal request old one two new other p q. placing refusal request old one two new other p q;
  commanding = λ refusal identifies asked old one two new other p q.
      commanding refusal identifies asked old one two new other p q;
  asking = λ nsid old one two new other p q. asking (nat_lt 64 nsid) nsid old one two new other p q;
  polling = λ old before one two new other buffer bytes distinct data_there p q.
      polling (blocked_by old) old before one two new other buffer bytes distinct data_there p q;
  ringing = λ old one two new other p q. ringing (stopped_by old) old one two new other p q;
  resetting = λ old one two new other p q. resetting (blocked_by old) old one two new other p q;
  shutting_down = λ old one two new other p q. shutting (stopped_by old) old one two new other p q;
  expiring = λ t old one two new other p q. expiring (stopped_by old) t old one two new other p q;
  bringing_up = λ old one two new other p q. bringing (bring_up_refusal old) old one two new other p q;
  taking = taking;
  judging = λ cap old one two new other p q. judging cap old one two new other p q;
  checking = λ status elapsed_ms old one two new other p q.
      checking (awaited_in old.stage) old.capabilities status elapsed_ms old one two new other p q;
  reporting = λ bytes old one two new other p q. reporting bytes old one two new other p q;
  storing = λ lane entry old one two new other p q. storing lane entry old one two new other p q;
  storing_data = λ at part old one two new other p q. storing-data (blocked_by old) at part old one two new other p q;
}
