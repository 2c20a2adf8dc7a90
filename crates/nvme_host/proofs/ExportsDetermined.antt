-- Proof of the law `exports_are_determined`: two outcomes of an export are equal, by the law `calls` if a driver is
-- open.
use Rattle.std.proofs.Common.{
  ◌≡◌,
  ℕ,
  ◌+◌,
  ◌≤◌,
  ◌<◌,
  Bool,
  List,
  length,
  Option,
  Some,
  None,
  refl,
  sym,
  ap,
  ◌∙◌,
  ⊎_elim,
}
use Rattle.std.proofs.lemmas.Bool.{cases_lt}
use Rattle.nvme_spec.specs.Memory.{window_size, zeros}
use Rattle.nvme_driver.specs.declared.request.Request.{Request}
use Rattle.nvme_driver.specs.Requests.{Asked}
use Rattle.nvme_host.specs.declared.devices.Limits.{Limits}
use Rattle.nvme_host.specs.declared.outcome.Outcome.{Outcome}
use Rattle.nvme_host.specs.declared.outcome.Placed.{Placed}
use Rattle.nvme_host.specs.declared.open_driver.OpenDriver.{OpenDriver}
use Rattle.nvme_host.specs.declared.completions.CompletionData.{CompletionData}
use Rattle.nvme_host.specs.Calls.{
  Ringing,
  Resetting,
  ShuttingDown,
  Expiring,
  CheckingStatus,
  ReportingCompletion,
}
use Rattle.nvme_host.specs.Completions.{Loads, StoringData, lane_of}
use Rattle.nvme_host.specs.Determined.{IsDetermined}
use Rattle.nvme_host.specs.Exports.{
  Places,
  Sends,
  Asks,
  Does,
  BringsUp,
  Judges,
  StoresCompletion,
}
use Rattle.nvme_host.specs.ExportsDetermined.{
  NewDriversAreEqual,
  OpeningsAreDetermined,
  PollsOfHandlesAreDetermined,
  TakingsOfHandlesAreDetermined,
  LoadsAreDetermined,
  ExportsAreDetermined,
}
use Rattle.nvme_host.specs.Holding.{Inside}
use Rattle.nvme_host.proofs.Determined.{calls_are_determined}
use Rattle.nvme_host.proofs.Recorded.{same-port}

-- without an open driver: one answer, and none is open
closed : {A : Type 0} (one two code : A) (new other : Option Inside)
    → (one ≡ code) × (new ≡ None) → (two ≡ code) × (other ≡ None) → (one ≡ two) × (new ≡ other)
closed one two code new other p q = (p.0 ∙ sym q.0, p.1 ∙ sym q.1)

-- with an open driver: what the call of that name does
opened : {A : Type 0} (one two : A) (new other : OpenDriver) → (one ≡ two) × (new ≡ other)
    → (one ≡ two) × (Some new ≡ Some other)
opened one two new other p = (p.0, ap (λ (h : OpenDriver). Some h) p.1)

new-drivers : NewDriversAreEqual
new-drivers bytes first h k p q =
    let driver = p.driver ∙ sym q.driver in
    let port = same-port _ h.port k.port p.port q.port in
    let stage = p.stage ∙ sym q.stage in
    let capabilities = p.capabilities ∙ sym q.capabilities in
    let facts = p.facts ∙ sym q.facts in
    λ i. record {
      driver = driver i;
      port = port i;
      stage = stage i;
      capabilities = capabilities i;
      facts = facts i;
    }

opening : OpeningsAreDetermined
opening None first one two None None p q = (λ e. refl, λ e. p ∙ sym q)
opening None first one two None (Some k) p q =
    (λ e. absurd (let s = sym p ∙ (e ∙ q.0) in cc (s)), λ e. absurd (cc (e)))
opening None first one two (Some h) None p q =
    (λ e. absurd (let s = sym p.0 ∙ (e ∙ q) in cc (s)), λ e. absurd (cc (e)))
opening None first one two (Some h) (Some k) p q =
    (λ e. ap (λ (o : OpenDriver). Some o) (new-drivers zeros first h k p.1 q.1), λ e. p.0 ∙ sym q.0)
opening (Some old) first one two new other p q = (λ e. p.1 ∙ sym q.1, λ e. p.0 ∙ sym q.0)

polling : PollsOfHandlesAreDetermined
polling None before one two new other buffer bytes fine p q = (p.0 ∙ sym q.0, p.1 ∙ sym q.1, p.2 ∙ sym q.2)
polling (Some old) before one two None other buffer bytes fine p q = absurd p
polling (Some old) before one two (Some new) None buffer bytes fine p q = absurd q
polling (Some old) before one two (Some new) (Some other) buffer bytes fine p q =
    let r = calls_are_determined.polling old before one two new other buffer bytes fine.0 fine.1 p q in
    (r.0, ap (λ (h : OpenDriver). Some h) r.1, r.2)

placing : (refusal : OpenDriver → Option ℕ) (request : Request) (old : Option Inside) (one two : Placed)
    (new other : Option Inside)
    → Places refusal request old one new → Places refusal request old two other → (one ≡ two) × (new ≡ other)
placing refusal request None one two new other p q = closed one two _ new other p q
placing refusal request (Some old) one two None other p q = absurd p
placing refusal request (Some old) one two (Some new) None p q = absurd q
placing refusal request (Some old) one two (Some new) (Some other) p q =
    opened one two new other (calls_are_determined.placing (refusal old) request old one two new other p q)

sending : (refusal : OpenDriver → Option ℕ) (identifies : Bool) (asked : OpenDriver → Asked) (old : Option Inside)
    (one two : Placed) (new other : Option Inside)
    → Sends refusal identifies asked old one new → Sends refusal identifies asked old two other
    → (one ≡ two) × (new ≡ other)
sending refusal identifies asked None one two new other p q = closed one two _ new other p q
sending refusal identifies asked (Some old) one two None other p q = absurd p
sending refusal identifies asked (Some old) one two (Some new) None p q = absurd q
sending refusal identifies asked (Some old) one two (Some new) (Some other) p q =
    opened one two new other
    (calls_are_determined.commanding (refusal old) identifies (asked old) old one two new other p q)

asking : (nsid : ℕ) (old : Option Inside) (one two : Placed) (new other : Option Inside)
    → Asks nsid old one new → Asks nsid old two other → (one ≡ two) × (new ≡ other)
asking nsid None one two new other p q = closed one two _ new other p q
asking nsid (Some old) one two None other p q = absurd p
asking nsid (Some old) one two (Some new) None p q = absurd q
asking nsid (Some old) one two (Some new) (Some other) p q =
    opened one two new other (calls_are_determined.asking nsid old one two new other p q)

doing : (call : OpenDriver → ℕ → OpenDriver → Type 0) → IsDetermined call
    → (old : Option Inside) (one two : ℕ) (new other : Option Inside)
    → Does call old one new → Does call old two other → (one ≡ two) × (new ≡ other)
doing call determined None one two new other p q = closed one two _ new other p q
doing call determined (Some old) one two None other p q = absurd p
doing call determined (Some old) one two (Some new) None p q = absurd q
doing call determined (Some old) one two (Some new) (Some other) p q =
    opened one two new other (determined old one two new other p q)

bringing : (old : Option Inside) (one two : Outcome) (new other : Option Inside)
    → BringsUp old one new → BringsUp old two other → (one ≡ two) × (new ≡ other)
bringing None one two new other p q = closed one two _ new other p q
bringing (Some old) one two None other p q = absurd p
bringing (Some old) one two (Some new) None p q = absurd q
bringing (Some old) one two (Some new) (Some other) p q =
    opened one two new other (calls_are_determined.bringing_up old one two new other p q)

judging : (cap : ℕ) (old : Option Inside) (one two : Limits) (new other : Option Inside)
    → Judges cap old one new → Judges cap old two other → (one ≡ two) × (new ≡ other)
judging cap None one two new other p q = closed one two _ new other p q
judging cap (Some old) one two None other p q = absurd p
judging cap (Some old) one two (Some new) None p q = absurd q
judging cap (Some old) one two (Some new) (Some other) p q =
    opened one two new other (calls_are_determined.judging cap old one two new other p q)

taking : TakingsOfHandlesAreDetermined
taking None before one two after afterwards new other p q = (p.0 ∙ sym q.0, p.1 ∙ sym q.1, p.2 ∙ sym q.2)
taking (Some old) before one two after afterwards None other p q = absurd p
taking (Some old) before one two after afterwards (Some new) None p q = absurd q
taking (Some old) before one two after afterwards (Some new) (Some other) p q =
    let r = calls_are_determined.taking old before one two after afterwards new other p q in
    (r.0, r.2, ap (λ (h : OpenDriver). Some h) r.1)

storing : (queue : ℕ) (entry : List ℕ) (old : Option Inside) (one two : CompletionData) (new other : Option Inside)
    → StoresCompletion queue entry old one new → StoresCompletion queue entry old two other
    → (one ≡ two) × (new ≡ other)
storing queue entry None one two new other p q = closed one two _ new other p q
storing queue entry (Some old) one two None other p q = absurd p
storing queue entry (Some old) one two (Some new) None p q = absurd q
storing queue entry (Some old) one two (Some new) (Some other) p q =
    opened one two new other (calls_are_determined.storing (lane_of queue) entry old one two new other p q)

loaded : (window : List ℕ) (at : ℕ) (before : List ℕ) (one two : ℕ) (after afterwards : List ℕ)
    → Loads window at before one after → Loads window at before two afterwards → (one ≡ two) × (after ≡ afterwards)
loaded window at before one two after afterwards p q =
    ⊎_elim {C = (one ≡ two) × (after ≡ afterwards)}
    (λ (out : window_size < at + length before).
    let a = p.outside out in let b = q.outside out in (a.0 ∙ sym b.0, a.1 ∙ sym b.1))
    (λ (fits : at + length before ≤ window_size).
    let a = p.inside fits in let b = q.inside fits in (a.0 ∙ sym b.0, a.1 ∙ sym b.1))
    (cases_lt window_size (at + length before))

loading : LoadsAreDetermined
loading None at before one two after afterwards p q = (p.0 ∙ sym q.0, p.1 ∙ sym q.1)
loading (Some h) at before one two after afterwards p q =
    loaded h.port.window at before one two after afterwards p q

pub exports_are_determined : ExportsAreDetermined
exports_are_determined = record {
  new = new-drivers;
  opening = opening;
  polling = polling;
  placing = λ refusal request old one two new other p q. placing refusal request old one two new other p q;
  sending = λ refusal identifies asked old one two new other p q.
      sending refusal identifies asked old one two new other p q;
  asking = λ nsid old one two new other p q. asking nsid old one two new other p q;
  ringing = λ old one two new other p q. doing Ringing calls_are_determined.ringing old one two new other p q;
  resetting = λ old one two new other p q. doing Resetting calls_are_determined.resetting old one two new other p q;
  shutting_down = λ old one two new other p q.
      doing ShuttingDown calls_are_determined.shutting_down old one two new other p q;
  expiring = λ t old one two new other p q.
      doing (λ h. Expiring h t) (calls_are_determined.expiring t) old one two new other p q;
  checking = λ csts elapsed_ms old one two new other p q.
      doing (λ h. CheckingStatus h csts elapsed_ms) (calls_are_determined.checking csts elapsed_ms)
      old one two new other p q;
  reporting = λ bytes old one two new other p q.
      doing (λ h. ReportingCompletion h bytes) (calls_are_determined.reporting bytes) old one two new other p q;
  storing_data = λ at part old one two new other p q.
      doing (λ h. StoringData h at part) (calls_are_determined.storing_data at part) old one two new other p q;
  bringing_up = λ old one two new other p q. bringing old one two new other p q;
  judging = λ cap old one two new other p q. judging cap old one two new other p q;
  taking = taking;
  storing = λ queue entry old one two new other p q. storing queue entry old one two new other p q;
  loading = loading;
}
