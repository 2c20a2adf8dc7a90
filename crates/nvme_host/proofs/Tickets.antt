-- Proof of the laws on tickets: each call keeps three counts of a ticket.
use Rattle.std.proofs.Common.{
  ◌≡◌,
  ℕ,
  zero,
  suc,
  ◌+◌,
  ◌≤◌,
  nat_lt,
  Bool,
  true,
  false,
  List,
  [],
  ◌∷◌,
  ◌++◌,
  Option,
  Some,
  None,
  refl,
  sym,
  ap,
  subst,
  ◌∙◌,
  arith,
}
use Rattle.std.specs.Prelude.{◌&&◌, not, if◌then◌else◌}
use Rattle.std.proofs.lemmas.Bool.{eq-eqb}
use Rattle.nvme_device.specs.declared.status.Awaited.{Awaited}
use Rattle.nvme_device.specs.declared.capabilities.Capabilities.{Capabilities}
use Rattle.nvme_spec.specs.declared.command.Command.{Command}
use Rattle.nvme_device.specs.declared.admission.Admission.{Admission}
use Rattle.nvme_device.specs.declared.admission.Span.{Span}
use Rattle.nvme_device.specs.declared.admission.Admission.TheVariants as admission
use Rattle.nvme_device.specs.declared.controller.ControllerFault.{ControllerFault}
use Rattle.nvme_device.specs.declared.controller.ControllerFault.TheVariants as controller
use Rattle.nvme_device.specs.declared.namespace.NamespaceFault.{NamespaceFault}
use Rattle.nvme_device.specs.declared.namespace.NamespaceFault.TheVariants as namespace
use Rattle.nvme_driver.specs.declared.lane.Lane.{Lane}
use Rattle.nvme_driver.specs.declared.request.Request.{Request}
use Rattle.nvme_driver.specs.declared.request.Request.TheVariants.{Identify}
use Rattle.nvme_driver.specs.declared.slots.Waiting.{Waiting}
use Rattle.nvme_driver.specs.Requests.{Asked}
use Rattle.nvme_driver.specs.declared.ticket.Ticket.{Ticket}
use Rattle.nvme_driver.specs.Drivers.{Driver}
use Rattle.nvme_driver.specs.Polls.{aborted_at, aborted_ticket}
use Rattle.nvme_driver.specs.Once as once
use Rattle.nvme_driver.specs.Once.{times, borne}
use Rattle.nvme_driver.proofs.Once as driver
use Rattle.nvme_host.specs.declared.outcome.Outcome.{Outcome}
use Rattle.nvme_host.specs.declared.outcome.Placed.{Placed}
use Rattle.nvme_host.specs.declared.open_driver.OpenDriver.{OpenDriver}
use Rattle.nvme_host.specs.declared.completions.CompletionData.{CompletionData}
use Rattle.nvme_host.specs.Outcomes.{refused, with_code}
use Rattle.nvme_host.specs.Calls.{
  Placing,
  Commanding,
  AskingIf,
  PollingUnless,
  RingingUnless,
  ResettingUnless,
  ShuttingUnless,
  ExpiringUnless,
  ExpiringIf,
  waits,
  BringingUpUnless,
  CheckingStatusBy,
}
use Rattle.nvme_host.specs.Devices.{controller_code, namespace_code, admission_code}
use Rattle.nvme_host.specs.Facts.{admission_on, needs_identifier}
use Rattle.nvme_host.specs.Refusals.{
  blocked_by,
  stopped_by,
  bring_up_refusal,
  first_of,
  identifier_refusal,
  request_refusal,
}
use Rattle.nvme_host.specs.Completions.{StoringCompletion, StoringCompletionUnless, StoringDataUnless}
use Rattle.nvme_host.specs.declared.stage.Stage.{Stage}
use Rattle.nvme_host.specs.declared.stage.Stage.TheVariants as at
use Rattle.nvme_host.specs.Stages.{awaited_in, stage_refusal}
use Rattle.nvme_host.specs.Runs.{
  Use,
  Places,
  Identifies,
  Commands,
  Asks,
  Polls,
  Rings,
  Resets,
  ShutsDown,
  Expires,
  BringsUp,
  Judges,
  ChecksStatus,
  ReportsCompletion,
  StoresCompletion,
  StoresData,
  TakesActions,
  Tickets,
  no_tickets,
  both,
  given_by,
  delivered_by,
  Used,
  Uses,
  IsIdle,
  live_borne,
  ResetsAbort,
  DeliversGivenTicketsOnce,
}
use Rattle.nvme_host.specs.Determined.{RunsHaveDistinctTickets}
use Rattle.nvme_host.proofs.Counts.{
  Counts,
  quiet,
  stays,
  unchanged,
  none-left,
  placed-by,
  placed-command-by,
  some-is,
  by-poll,
}

-- the number of a refusal gives no ticket
abbrev pub IsRefusal : Option ℕ → Type 0
IsRefusal None = Unit {0}
IsRefusal (Some code) = given_by (refused code) ≡ no_tickets

stage-refuses : (stage : Stage) → IsRefusal (stage_refusal stage)
stage-refuses at.Unknown = refl
stage-refuses at.Disabling = refl
stage-refuses at.Disabled = refl
stage-refuses at.Enabling = refl
stage-refuses at.Enabled = refl
stage-refuses at.Running = tt
stage-refuses at.Expired = refl
stage-refuses at.ShuttingDown = refl
stage-refuses at.ShutDown = refl

pub stopped-refuses : (pending : Bool) (stage : Stage)
    → IsRefusal (if pending then Some 19 else stage_refusal stage)
stopped-refuses true stage = refl
stopped-refuses false stage = stage-refuses stage

controller-refuses : (fault : ControllerFault) → IsRefusal (Some (controller_code fault))
controller-refuses controller.NotIo = refl
controller-refuses controller.EntrySize = refl

namespace-refuses : (fault : NamespaceFault) → IsRefusal (Some (namespace_code fault))
namespace-refuses namespace.NotThere = refl
namespace-refuses namespace.BlockSize = refl
namespace-refuses namespace.Metadata = refl

admission-refuses : (a : Admission) → IsRefusal (admission_code a)
admission-refuses admission.Admitted = tt
admission-refuses admission.ControllerNotAsked = refl
admission-refuses (admission.Controller fault) = controller-refuses fault
admission-refuses admission.NamespaceNotAsked = refl
admission-refuses (admission.Namespace fault) = namespace-refuses fault
admission-refuses admission.NotSupported = refl
admission-refuses admission.TooLong = refl
admission-refuses admission.PastTheEnd = refl

identifier-refuses : (b : Bool) → IsRefusal (if b then Some 66 else None)
identifier-refuses true = refl
identifier-refuses false = tt

first-refuses : (a b : Option ℕ) → IsRefusal a → IsRefusal b → IsRefusal (first_of a b)
first-refuses None b x y = y
first-refuses (Some code) b x y = x

request-refuses : (h : OpenDriver) (nsid : ℕ) (command : Command) (span : Span)
    → IsRefusal (first_of (admission_code (admission_on h.facts nsid command span))
    (identifier_refusal h.facts command))
request-refuses h nsid command span =
    first-refuses (admission_code (admission_on h.facts nsid command span)) (identifier_refusal h.facts command)
    (admission-refuses (admission_on h.facts nsid command span))
    (identifier-refuses (needs_identifier command && not h.facts.host_identified))

placing : (t : ℕ) (refusal : Option ℕ) (old new : OpenDriver) (request : Request) (outcome : Placed) (x : Tickets)
    → IsRefusal refusal → Placing refusal old request outcome new → x ≡ given_by outcome
    → Counts t old.driver new.driver x
placing t (Some code) old new request outcome x silent p are =
    unchanged t old new x p.1 (are ∙ (ap given_by p.0 ∙ silent))
placing t None old new request outcome x silent p are =
    placed-by t old new request p.result x p.unchanged p.issued p.placed (are ∙ ap given_by p.gives)

commanding : (t : ℕ) (refusal : Option ℕ) (old new : OpenDriver) (identifies : Bool) (asked : Asked) (outcome : Placed)
    (x : Tickets)
    → IsRefusal refusal → Commanding refusal old identifies asked outcome new → x ≡ given_by outcome
    → Counts t old.driver new.driver x
commanding t (Some code) old new identifies asked outcome x silent p are =
    unchanged t old new x p.1 (are ∙ (ap given_by p.0 ∙ silent))
commanding t None old new identifies asked outcome x silent p are =
    placed-command-by t old new asked p.result x p.unchanged p.issued p.placed (are ∙ ap given_by p.gives)

asking : (t : ℕ) (b : Bool) (old new : OpenDriver) (nsid : ℕ) (outcome : Placed) (x : Tickets)
    → AskingIf b old nsid outcome new → x ≡ given_by outcome → Counts t old.driver new.driver x
asking t true old new nsid outcome x a are = unchanged t old new x a.1 (are ∙ ap given_by a.0)
asking t false old new nsid outcome x a are =
    subst (λ (d : Driver). Counts t old.driver d x) (sym a.driver)
    (placing t (stopped_by old) old a.mid _ outcome x (stopped-refuses _ _) a.placed are)

-- polling
blocked-silent : (b : Bool) (code : ℕ) → (if b then Some 19 else None) ≡ Some code
    → delivered_by (with_code code) ≡ no_tickets
blocked-silent true code e =
    let is : 19 ≡ code = some-is 19 code e in subst (λ (n : ℕ). delivered_by (with_code n) ≡ no_tickets) is refl
blocked-silent false code e = absurd (cc (e))

polling : (t : ℕ) (o : Option ℕ)
    → ((code : ℕ) → o ≡ Some code → delivered_by (with_code code) ≡ no_tickets)
    → (old new : OpenDriver) (before buffer : List ℕ) (outcome : Outcome) (x : Tickets)
    → PollingUnless o old before outcome new buffer → x ≡ delivered_by outcome → Counts t old.driver new.driver x
polling t (Some code) silent old new before buffer outcome x p are =
    unchanged t old new x p.1 (are ∙ (ap delivered_by p.0 ∙ silent code refl))
polling t None silent old new before buffer outcome x p are =
    let by = p.polled in
    subst (λ (y : Tickets). Counts t old.driver new.driver y) (sym (are ∙ ap delivered_by p.gives))
    (by-poll t old.driver new.driver p.answer by.0 old.port.window (by.1, by.3) by.2)

-- the other calls
ringing : (t : ℕ) (o : Option ℕ) (old new : OpenDriver) (code : ℕ) (x : Tickets)
    → RingingUnless o old code new → x ≡ no_tickets → Counts t old.driver new.driver x
ringing t (Some reason) old new code x r none = unchanged t old new x r.1 none
ringing t None old new code x r none = stays t old.driver new.driver x r.driver none

after-reset : (t : ℕ) (old new : OpenDriver) (x : Tickets) → once.Happens once.Resets old.driver new.driver
    → x ≡ no_tickets → (live_borne t new.driver.slots ≡ 0) × Counts t old.driver new.driver x
after-reset t old new x h none =
    let all = driver.step t once.Resets old.driver new.driver h in
    let l : live_borne t new.driver.slots ≡ 0 =
    ap (λ (d : Driver). live_borne t d.slots) h ∙ none-left t old.driver.slots in
    let u = ap (λ (d : Driver). driver.ungiven t d.next) h in
    let g = ap (λ (y : Tickets). times t y.given) none in
    let d = ap (λ (y : Tickets). times t y.done) none in
    let a = ap (λ (y : Tickets). times t y.aborted) none in
    (l, record { given = omega (arith, g, u); held = omega (arith, g, d, a, all, u); live = omega (arith, d, l, u) })

resetting : (t : ℕ) (o : Option ℕ) (old new : OpenDriver) (code : ℕ) (x : Tickets)
    → ResettingUnless o old code new → x ≡ no_tickets → Counts t old.driver new.driver x
resetting t (Some reason) old new code x r none = unchanged t old new x r.1 none
resetting t None old new code x r none = (after-reset t old new x r.driver none).1

shutting : (t : ℕ) (o : Option ℕ) (old new : OpenDriver) (code : ℕ) (x : Tickets)
    → ShuttingUnless o old code new → x ≡ no_tickets → Counts t old.driver new.driver x
shutting t (Some reason) old new code x r none = unchanged t old new x r.1 none
shutting t None old new code x r none = stays t old.driver new.driver x r.driver none

expiring : (t : ℕ) (o : Option ℕ) (ticket : ℕ) (old new : OpenDriver) (code : ℕ) (x : Tickets)
    → ExpiringUnless o old ticket code new → x ≡ no_tickets → Counts t old.driver new.driver x
expiring t (Some reason) ticket old new code x e none = unchanged t old new x e.1 none
expiring t None ticket old new code x e none = by-waiting (waits ticket old.driver.slots) e
  where
    by-waiting : (b : Bool) → ExpiringIf b old code new → Counts t old.driver new.driver x
    by-waiting true e = stays t old.driver new.driver x (ap (λ (h : OpenDriver). h.driver) e.1) none
    by-waiting false e = unchanged t old new x e.1 none

bringing : (t : ℕ) (o : Option ℕ) (old new : OpenDriver) (outcome : Outcome) (x : Tickets)
    → BringingUpUnless o old outcome new → x ≡ no_tickets → Counts t old.driver new.driver x
bringing t (Some code) old new outcome x b none = unchanged t old new x b.1 none
bringing t None old new outcome x b none =
    quiet t old.driver new.driver x (ap (λ (y : Driver). y.slots) b.driver ∙ b.bring_up.slots)
    (ap (λ (y : Driver). y.next) b.driver ∙ b.bring_up.next) none

checking : (t : ℕ) (a : Option Awaited) (c : Option Capabilities) (old new : OpenDriver) (csts elapsed_ms code : ℕ)
    (x : Tickets)
    → CheckingStatusBy a c old csts elapsed_ms code new → x ≡ no_tickets → Counts t old.driver new.driver x
checking t None c old new csts elapsed_ms code x w none = unchanged t old new x w.1 none
checking t (Some a) None old new csts elapsed_ms code x w none = unchanged t old new x w.1 none
checking t (Some a) (Some c) old new csts elapsed_ms code x w none =
    stays t old.driver new.driver x (ap (λ (h : OpenDriver). h.driver) w.kept) none

stored : (t : ℕ) (o : Option ℕ) (lane : Lane) (old new : OpenDriver) (entry : List ℕ) (outcome : CompletionData)
    (x : Tickets)
    → StoringCompletionUnless o lane old entry outcome new → x ≡ no_tickets → Counts t old.driver new.driver x
stored t (Some code) lane old new entry outcome x s none = unchanged t old new x s.1 none
stored t None lane old new entry outcome x s none =
    stays t old.driver new.driver x (ap (λ (h : OpenDriver). h.driver) s.kept) none

storing : (t : ℕ) (lane : Option Lane) (old new : OpenDriver) (entry : List ℕ) (outcome : CompletionData) (x : Tickets)
    → StoringCompletion lane old entry outcome new → x ≡ no_tickets → Counts t old.driver new.driver x
storing t None old new entry outcome x s none = unchanged t old new x s.1 none
storing t (Some lane) old new entry outcome x s none = stored t (blocked_by old) lane old new entry outcome x s none

storing-data : (t : ℕ) (o : Option ℕ) (old new : OpenDriver) (at : ℕ) (part : List ℕ) (code : ℕ) (x : Tickets)
    → StoringDataUnless o old at part code new → x ≡ no_tickets → Counts t old.driver new.driver x
storing-data t (Some reason) old new at part code x s none = unchanged t old new x s.1 none
storing-data t None old new at part code x s none =
    stays t old.driver new.driver x (ap (λ (h : OpenDriver). h.driver) s.kept) none

step : (t : ℕ) (call : Use) (old : OpenDriver) (x : Tickets) (new : OpenDriver) → Used call old x new
    → Counts t old.driver new.driver x
step t (Places nsid command span request) old x new u =
    placing t (request_refusal old nsid command span) old new request u.0 x
    (first-refuses (stopped_by old) _ (stopped-refuses _ _)
    (request-refuses old nsid command span)) u.1 u.2
step t (Identifies cns nsid) old x new u =
    placing t (stopped_by old) old new (Identify cns nsid) u.0 x (stopped-refuses _ _) u.1 u.2
step t (Commands identifies asked) old x new u =
    commanding t (stopped_by old) old new identifies asked u.0 x (stopped-refuses _ _) u.1 u.2
step t (Asks nsid) old x new u = asking t (nat_lt 64 nsid) old new nsid u.0 x u.1 u.2
step t Polls old x new u = polling t (blocked_by old) (blocked-silent _) old new u.0 u.2 u.1 x u.3 u.4
step t Rings old x new u = ringing t (stopped_by old) old new u.0.0 x u.0.1 u.1
step t Resets old x new u = resetting t (blocked_by old) old new u.0.0 x u.0.1 u.1
step t ShutsDown old x new u = shutting t (stopped_by old) old new u.0.0 x u.0.1 u.1
step t (Expires ticket) old x new u = expiring t (stopped_by old) ticket old new u.0.0 x u.0.1 u.1
step t BringsUp old x new u = bringing t (bring_up_refusal old) old new u.0.0 x u.0.1 u.1
step t (Judges cap) old x new u =
    stays t old.driver new.driver x (ap (λ (h : OpenDriver). h.driver) u.0.1.kept) u.1
step t (ChecksStatus csts elapsed_ms) old x new u =
    checking t (awaited_in old.stage) old.capabilities old new csts elapsed_ms u.0.0 x u.0.1 u.1
step t (ReportsCompletion bytes) old x new u =
    stays t old.driver new.driver x (ap (λ (h : OpenDriver). h.driver) u.0.1.kept) u.1
step t (StoresCompletion lane entry) old x new u = storing t lane old new entry u.0.0 x u.0.1 u.1
step t (StoresData at part) old x new u = storing-data t (blocked_by old) old new at part u.0.0 x u.0.1 u.1
step t TakesActions old x new u =
    stays t old.driver new.driver x (ap (λ (h : OpenDriver). h.driver) u.0.3.kept) u.1

times-append : (t : ℕ) (us vs : List ℕ) → times t (us ++ vs) ≡ times t us + times t vs
times-append t [] vs = omega arith
times-append t (u ∷ us) vs = let h = times-append t us vs in omega (arith, h)

joined : (t : ℕ) (a b c : Driver) (x y : Tickets) → Counts t a b x → Counts t b c y → Counts t a c (both x y)
joined t a b c x y p q =
    let g = times-append t x.given y.given in
    let d = times-append t x.done y.done in
    let f = times-append t x.aborted y.aborted in
    let given = p.given in let given' = q.given in
    let held = p.held in let held' = q.held in
    let live = p.live in let live' = q.live in
    record {
      given = omega (arith, g, given, given');
      held = omega (arith, g, d, f, held, held');
      live = omega (arith, d, live, live');
    }

run : (t : ℕ) (uses : List Use) (old : OpenDriver) (x : Tickets) (new : OpenDriver) → Uses uses old x new
    → Counts t old.driver new.driver x
run t [] old x new u = unchanged t old new x u.1 u.0
run t (call ∷ later) old x new u =
    let mid = u.0 in let first = u.1 in let rest = u.2 in
    subst (λ (y : Tickets). Counts t old.driver new.driver y) (sym u.4)
    (joined t old.driver mid.driver new.driver first rest (step t call old first mid u.3)
    (run t later mid rest new u.5))

-- no request waits at first
none-borne : (t : ℕ) (h : OpenDriver) → IsIdle h → borne t h.driver.slots ≡ 0
none-borne t h idle = ap (borne t) idle

at-most-one : (b : Bool) → (if b then 0 else 1) ≤ 1
at-most-one true = omega arith
at-most-one false = omega arith

pub delivers_given_tickets_once : DeliversGivenTicketsOnce
delivers_given_tickets_once uses x old new t idle u =
    let k = run t uses old x new u in
    let held = k.held in let given = k.given in
    let none = none-borne t old idle in
    let few : driver.ungiven t old.driver.next ≤ 1 = at-most-one (nat_lt t old.driver.next) in
    (omega (arith, held, none), omega (arith, given, few))

-- a reset whose code is 0 was made
was-reset : (b : Bool) (old new : OpenDriver)
    → ResettingUnless (if b then Some 19 else None) old 0 new → once.Happens once.Resets old.driver new.driver
was-reset true old new r = absurd (cc (r.0))
was-reset false old new r = r.driver

pub resets_abort : ResetsAbort
resets_abort earlier later before after old mid reset new t idle b r a given =
    let one = run t earlier old before mid b in
    let given1 = one.given in let held1 = one.held in
    let cut = after-reset t mid reset no_tickets (was-reset _ mid reset r) refl in
    let gone = cut.0 in
    let given2 = cut.1.given in let held2 = cut.1.held in
    let two = run t later reset after new a in
    let given3 = two.given in let held3 = two.held in let live3 = two.live in
    let none = none-borne t old idle in
    let few : driver.ungiven t old.driver.next ≤ 1 = at-most-one (nat_lt t old.driver.next) in
    record {
      done = omega (arith, given, given1, few, given2, gone, live3);
      fate = omega (arith, given, given1, held1, few, given2, held2, gone, given3, held3, live3, none);
      waits = omega (arith, given, given1, few, given2, gone, live3);
    }

-- the slots of aborted requests
bears-one : (t : Ticket) (x : Option Waiting) → aborted_ticket x ≡ Some t → once.bears t.0 x ≡ 1
bears-one t x e =
    let w = driver.aborted-is x t e in
    ap (once.bears t.0) w.1 ∙ ap (λ (b : Bool). if b then 1 else 0)
    (eq-eqb w.0.ticket.0 t.0 (ap (λ (u : Ticket). u.0) w.2))

borne-at : (t : Ticket) (slots : List (Option Waiting)) (k : ℕ) → aborted_at slots k ≡ Some t → 1 ≤ borne t.0 slots
borne-at t [] k e = absurd (cc (e))
borne-at t (x ∷ xs) zero e = let h = bears-one t x e in omega (arith, h)
borne-at t (x ∷ xs) (suc k) e = let h = borne-at t xs k e in omega (arith, h)

one-slot : (t : Ticket) (slots : List (Option Waiting)) (j k : ℕ) → borne t.0 slots ≤ 1
    → aborted_at slots j ≡ Some t → aborted_at slots k ≡ Some t → j ≡ k
one-slot t [] j k few a b = absurd (cc (a))
one-slot t (x ∷ xs) zero zero few a b = refl
one-slot t (x ∷ xs) zero (suc k) few a b =
    let h = bears-one t x a in let more = borne-at t xs k b in absurd (omega (arith, few, h, more))
one-slot t (x ∷ xs) (suc j) zero few a b =
    let h = bears-one t x b in let more = borne-at t xs j a in absurd (omega (arith, few, h, more))
one-slot t (x ∷ xs) (suc j) (suc k) few a b =
    ap (λ (n : ℕ). suc n) (one-slot t xs j k (omega (arith, few)) a b)

pub runs_have_distinct_tickets : RunsHaveDistinctTickets
runs_have_distinct_tickets uses x old new idle u j k t a b =
    let c = run t.0 uses old x new u in
    let held = c.held in let given = c.given in
    let none = none-borne t.0 old idle in
    let few : driver.ungiven t.0 old.driver.next ≤ 1 = at-most-one (nat_lt t.0 old.driver.next) in
    one-slot t new.driver.slots j k (omega (arith, held, given, none, few)) a b
