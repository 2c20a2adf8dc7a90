-- For the law `layers_are_determined` and others: without a fault of the medium, each list of events has one run of
-- both layers.
use Rattle.nvme_fleet.proofs.Words.{
  ◌≡◌,
  ◌⊎◌,
  inl,
  inr,
  ◌<◌,
  ◌≤◌,
  ℕ,
  zero,
  suc,
  ◌-◌,
  ◌^◌,
  Bool,
  true,
  false,
  List,
  [],
  ◌∷◌,
  Option,
  None,
  Some,
  Result,
  Ok,
  Err,
  refl,
  sym,
  ap,
  subst,
  ◌∙◌,
  arith,
  option_map,
  slice_get,
  slice_set,
  if◌then◌else◌,
  replicate,
  cases_Bool,
  eqb-true,
  none-some,
  same_Some,
  Answer,
  NotUp,
  PlaceRefusal,
  PollFault,
  UpFault,
  Request,
  Waiting,
  Ticket,
  Driver,
  after_reset,
  new_driver,
  stores_of,
  IsNotBelow,
  IsOldest,
  aborted_at,
  waiting_at,
  Event,
  Subsystem,
  FleetEvent,
  BringUp,
  Place,
  Ring,
  Fetch,
  Execute,
  Poll,
  Reset,
  RawStore,
  RawWrite32,
  PowerCycle,
  FleetSeen,
  Reply,
  DriverCall,
  CallStep,
  ComesUp,
  Does,
  DoesIfAny,
  Places,
  Polls,
  Ran,
  Rings,
  events_of,
  events_of_calls,
  reset_events,
  ring_events,
  window_at,
  Layers,
  fleet_in,
  opening_driver,
  Applies,
  AppliesRaw,
  CallsAt,
  Cycles,
  Happens,
  driver_at,
  with_driver,
  HasTicketsOnce,
  HaveTicketsOnce,
  LayersRunIsUnique,
  OpeningHasTicketsOnce,
  TicketsStayOnce,
  polled,
  Call,
  Rises,
  Seen,
  Turns,
  Sees,
  Loads,
  eqb,
  common_steps,
}
use Rattle.nvme_driver.specs.Drivers.{placed}
use Rattle.nvme_driver.specs.Once as once
use Rattle.nvme_driver.specs.Once.{bears, borne}
use Rattle.nvme_driver.proofs.Once as once_proofs
use Rattle.nvme_driver.proofs.Rising.{IsSure, rises-alone, rises-keeps}
use Rattle.nvme_machine.specs.declared.event.Event.TheVariants as event
use Rattle.nvme_machine.specs.declared.seen.Seen.TheVariants as given
use Rattle.nvme_machine.proofs.Determined as machine
use Rattle.nvme_machine.specs.Subsystems as machine_specs
use Rattle.nvme_fleet.specs.declared.driver_call.DriverCall.TheVariants as call
use Rattle.nvme_fleet.specs.Layers.{Run, Step}
use Rattle.nvme_driver.specs.Polls.{Poll as PollOf}
use Rattle.nvme_fleet.proofs.Bytes.{runs_of_mailboxes}
use Rattle.nvme_fleet.proofs.Mirrored.{AreQuiet, IsQuiet}
use Rattle.nvme_refinement.proofs.Orders.{pending-other}
use Rattle.nvme_refinement.proofs.PlainCalls.{IsPlain, plain-polled}
use Rattle.nvme_mailbox.proofs.Determined.{failures_never_fall, step-alone, step-counts}
use Rattle.nvme_mailbox.proofs.Lists.{from-map}

-- A ticket is in at most one slot.

keeps-once : (what : once.Event) (d d' : Driver) → once.Happens what d d' → HasTicketsOnce d → HasTicketsOnce d'
keeps-once what d d' h one t = let k = once_proofs.step t what d d' h in let few = one t in omega (arith, k, few)

-- a driver whose slots and next ticket stay
same-slots : (d d' : Driver) → d' ≡ d → once.Happens once.Stays d d'
same-slots d d' e = (ap (λ (x : Driver). x.slots) e, ap (λ (x : Driver). x.next) e)

-- the effect of a driver's call on its requests
does-once : (tells : Bool) (k : ℕ) (what : DriverCall) (d d' : Driver) (old new : Subsystem) (x : FleetSeen)
    → Does tells k what d old x d' new → (e : once.Event) × once.Happens e d d'
does-once tells k call.BringUp d d' old new x (Ok u, is, h) =
    (once.Stays, rises-keeps (CallStep tells k) d d' old new (Ok u) h)
does-once tells k call.BringUp d d' old new x (Err fault, is, h) = (once.Stays, same-slots d d' h.0)
does-once tells k (call.Place request) d d' old new x (Ok ticket, is, (slot, free, made, ran)) =
    (once.Places request slot, (free, made))
does-once tells k (call.Place request) d d' old new x (Err why, is, h) = (once.Stays, same-slots d d' h.0)
does-once tells k call.Ring d d' old new x (Ok u, is, h) = (once.Stays, same-slots d d' h.0)
does-once tells k call.Ring d d' old new x (Err why, is, h) = (once.Stays, same-slots d d' h.0)
does-once tells k call.Poll d d' old new x (result, is, h) =
    (once.Polls h.oldest (window_at old k), (h.is_oldest, h.driver))
does-once tells k call.Reset d d' old new x (is, h) = (once.Resets, h.0)

-- an element of a list in which one place is set
set-get : (xs : List (Option Driver)) (n : ℕ) (e : Option Driver) (i : ℕ) (y : Option Driver)
    → slice_get (slice_set xs n e) i ≡ Some y → (e ≡ y) ⊎ (slice_get xs i ≡ Some y)
set-get [] n e i y h = inr h
set-get (x ∷ xs) zero e zero y h = inl (same_Some _ _ h)
set-get (x ∷ xs) zero e (suc i) y h = inr h
set-get (x ∷ xs) (suc n) e zero y h = inr h
set-get (x ∷ xs) (suc n) e (suc i) y h = set-get xs n e i y h

with-get : (xs : List (Option Driver)) (k : ℕ) (e : Option Driver) (i : ℕ) (y : Option Driver)
    → slice_get (with_driver xs k e) i ≡ Some y → (e ≡ y) ⊎ (slice_get xs i ≡ Some y)
with-get xs zero e i y h = inr h
with-get xs (suc n) e i y h = set-get xs n e i y h

at-once : (l : Layers) (k : ℕ) (d : Driver) → HaveTicketsOnce l → driver_at l.drivers k ≡ Some (Some d)
    → HasTicketsOnce d
at-once l zero d all at = absurd (none-some _ at)
at-once l (suc n) d all at = all n d at

any-once : (tells : Bool) (k : ℕ) (what : DriverCall) (o e : Option Driver) (old new : Subsystem) (x : FleetSeen)
    → ((d : Driver) → o ≡ Some d → HasTicketsOnce d) → DoesIfAny tells k what o old x e new
    → (d : Driver) → e ≡ Some d → HasTicketsOnce d
any-once tells k what None e old new x one h d is = absurd (none-some _ (sym h.1 ∙ is))
any-once tells k what (Some f) e old new x one (d', made, h) d is =
    let e = does-once tells k what f d' old new x h in
    subst HasTicketsOnce (same_Some _ _ (sym made ∙ is)) (keeps-once e.0 f d' e.1 (one f refl))

driver-once : (o e : Option Driver) (tells : Bool) (old new : Layers) (k : ℕ) (what : DriverCall) (x : FleetSeen)
    → driver_at old.drivers k ≡ Some o → new.drivers ≡ with_driver old.drivers k e
    → DoesIfAny tells k what o old.subsystem x e new.subsystem → HaveTicketsOnce old → HaveTicketsOnce new
driver-once o e tells old new k what x at drivers h all i d found =
    elim (with-get old.drivers k e i (Some d) (ap (λ ds. slice_get ds i) (sym drivers) ∙ found)) [
      | inl here ↦ any-once tells k what o e old.subsystem new.subsystem x
          (λ f is. at-once old k f all (at ∙ ap Some is)) h d here
      | inr there ↦ all i d there
    ]

calls-once : (o : Option (Option Driver)) (tells : Bool) (old new : Layers) (k : ℕ) (what : DriverCall) (x : FleetSeen)
    → driver_at old.drivers k ≡ o → CallsAt o tells old k what x new → HaveTicketsOnce old → HaveTicketsOnce new
calls-once None tells old new k what x at h all = subst HaveTicketsOnce (sym h.1) all
calls-once (Some o) tells old new k what x at (e, drivers, h) all =
    driver-once o e tells old new k what x at drivers h all

applies-once : (tells : Bool) (old new : Layers) (e : Event) (x : FleetSeen)
    → Applies tells old e x new → HaveTicketsOnce old → HaveTicketsOnce new
applies-once tells old new e x h all i d found = all i d (ap (λ ds. slice_get ds i) (sym h.drivers) ∙ found)

raw-once : (o : Option (Option Driver)) (tells : Bool) (old new : Layers) (e : Event) (x : FleetSeen)
    → AppliesRaw o tells old e x new → HaveTicketsOnce old → HaveTicketsOnce new
raw-once None tells old new e x h all = subst HaveTicketsOnce (sym h.1) all
raw-once (Some None) tells old new e x h all = applies-once tells old new e x h all
raw-once (Some (Some d)) tells old new e x h all = subst HaveTicketsOnce (sym h.1) all

cycles-once : (tells : Bool) (old new : Layers) (x : FleetSeen) → Cycles tells old x new → HaveTicketsOnce old
    → HaveTicketsOnce new
cycles-once tells old new x h all i d found = by r.0 r.1 r.2
  where
    r : (o : Option Driver) × (slice_get old.drivers i ≡ Some o) × (Some d ≡ option_map after_reset o)
    r = from-map (option_map after_reset) old.drivers i (Some d) (ap (λ ds. slice_get ds i) (sym h.drivers) ∙ found)

    by : (o : Option Driver) → slice_get old.drivers i ≡ Some o → Some d ≡ option_map after_reset o → HasTicketsOnce d
    by None at is = absurd (none-some _ (sym is))
    by (Some c) at is = keeps-once once.Resets c d (same_Some _ _ is) (all i c at)

pub happens-once : (tells : Bool) (old new : Layers) (e : FleetEvent) (x : FleetSeen)
    → Happens tells old e x new → HaveTicketsOnce old → HaveTicketsOnce new
happens-once tells old new (BringUp k) x h all =
    calls-once (driver_at old.drivers k) tells old new k call.BringUp x refl h all
happens-once tells old new (Place k request) x h all =
    calls-once (driver_at old.drivers k) tells old new k (call.Place request) x refl h all
happens-once tells old new (Ring k) x h all =
    calls-once (driver_at old.drivers k) tells old new k call.Ring x refl h all
happens-once tells old new (Fetch k q) x h all = applies-once tells old new (event.Fetch k q) x h all
happens-once tells old new (Execute k i) x h all = applies-once tells old new (event.Execute k i) x h all
happens-once tells old new (Poll k) x h all =
    calls-once (driver_at old.drivers k) tells old new k call.Poll x refl h all
happens-once tells old new (Reset k) x h all =
    calls-once (driver_at old.drivers k) tells old new k call.Reset x refl h all
happens-once tells old new (RawStore k address bytes) x h all =
    raw-once (driver_at old.drivers k) tells old new (event.Store k address bytes) x h all
happens-once tells old new (RawWrite32 k offset v) x h all =
    raw-once (driver_at old.drivers k) tells old new (event.Write32 k offset v) x h all
happens-once tells old new PowerCycle x h all = cycles-once tells old new x h all

pub tickets_stay_once : TicketsStayOnce
tickets_stay_once tells old new [] [] run all = subst HaveTicketsOnce (sym run) all
tickets_stay_once tells old new (e ∷ events) (x ∷ later) (mid, step, rest) all =
    tickets_stay_once tells mid new events later rest (happens-once tells old mid e x.seen step.below all)
tickets_stay_once tells old new events later run all = absurd run

-- The opening.

none-borne : (t n : ℕ) → borne t (replicate n None) ≡ 0
none-borne t zero = refl
none-borne t (suc n) = let h = none-borne t n in omega (arith, h)

opened-one : (raw : Bool) (d : Driver) → (if raw then None else Some (new_driver 1)) ≡ Some d → HasTicketsOnce d
opened-one true d h = absurd (none-some _ h)
opened-one false d h = subst HasTicketsOnce (same_Some _ _ h) (λ t. grind (arith, common_steps, none-borne t 24))

pub opening_has_tickets_once : OpeningHasTicketsOnce
opening_has_tickets_once c v i d found = let k = from-map opening_driver c.controllers i (Some d) found in
    opened-one k.0.raw d (sym k.2)

-- The oldest aborted request is one.

borne-twice : (d : Driver) (i j : ℕ) (v w : Waiting) → HasTicketsOnce d → eqb j i ≡ false
    → waiting_at d.slots i ≡ Some v → waiting_at d.slots j ≡ Some w → v.ticket.0 ≡ w.ticket.0 → ⊥
borne-twice d i j v w one apart here there same =
    let b = once_proofs.taken v.ticket.0 (slice_set d.slots i None) j w (pending-other d.slots i j apart ∙ there) in
    grind (arith, common_steps, once_proofs.taken v.ticket.0 d.slots i v here, b, same, one v.ticket.0)

oldest-slot : (d : Driver) (i j : ℕ) (t u : Ticket) → HasTicketsOnce d → aborted_at d.slots i ≡ Some t
    → aborted_at d.slots j ≡ Some u → t.0 ≤ u.0 → u.0 ≤ t.0 → j ≡ i
oldest-slot d i j t u one here there low high =
    let a = once_proofs.aborted-is (waiting_at d.slots i) t here in
    let b = once_proofs.aborted-is (waiting_at d.slots j) u there in
    let same : a.0.ticket.0 ≡ b.0.ticket.0 =
    ap (λ (x : Ticket). x.0) a.2 ∙ omega (arith, low, high) ∙ sym (ap (λ (x : Ticket). x.0) b.2) in
    elim (cases_Bool (eqb j i))
    [ inl is ↦ eqb-true j i is | inr apart ↦ absurd (borne-twice d i j a.0 b.0 one apart a.1 b.1 same) ]

oldest-alone : (d : Driver) (o p : Option ℕ) → HasTicketsOnce d → IsOldest d.slots o → IsOldest d.slots p → p ≡ o
oldest-alone d None None one h g = refl
oldest-alone d None (Some j) one h g = absurd (none-some _ (sym (h j) ∙ g.1))
oldest-alone d (Some i) None one h g = absurd (none-some _ (sym (g i) ∙ h.1))
oldest-alone d (Some i) (Some j) one h g =
    ap Some
    (oldest-slot d i j h.0 g.0 one h.1 g.1 (subst (IsNotBelow h.0) g.1 (h.2 j)) (subst (IsNotBelow g.0) h.1 (g.2 i)))

-- The subsystem has one outcome.

abbrev pub count : Subsystem → ℕ
count s = s.device.failures

-- before and after two runs nothing has failed
pub record AreCalm (old new other : Subsystem) : Type 0 where
  pub one : count new ≡ count old
  pub two : count other ≡ count old
  pub below : count old < 2 ^ 64 - 1

pub low : (s : Subsystem) (base : ℕ) → count s ≡ base → base < 2 ^ 64 - 1 → count s < 2 ^ 64 - 1
low s base is below = subst (λ n. n < 2 ^ 64 - 1) (sym is) below

values : (v u : ℕ) → given.Value u ∷ [] ≡ given.Value v ∷ [] → u ≡ v
values v u h = cc

sure : (k base : ℕ) → base < 2 ^ 64 - 1 → IsSure (CallStep true k) count base
sure k base below = record {
  grows = λ c p q h. machine.failures_never_fall true p q (events_of k c) h.given h.run;
  alone = λ c p q r a b e h g.
      (machine.run_is_unique p r (events_of k c) g.given g.run (e ∙ sym a) (low p base a below)).1
      ∙ sym (machine.run_is_unique p q (events_of k c) h.given h.run (b ∙ sym a) (low p base a below)).1;
  value = λ offset v u p q r a b e h g.
      values v u (sym g.answers
      ∙ (machine.run_is_unique p r (event.Read32 k offset ∷ []) g.given g.run (e ∙ sym a) (low p base a below)).0
      ∙ sym (machine.run_is_unique p q (event.Read32 k offset ∷ []) h.given h.run (b ∙ sym a) (low p base a below)).0
      ∙ h.answers);
  seen = λ lane head expected x y p q r a b e h g. g.answers ∙ sym h.answers;
}

-- A subsystem mapped to another one, in which all that executes nothing happens as well, and each bring-up.
pub record IsCarried (g : Subsystem → Subsystem) : Type 0 where
  pub window : (s : Subsystem) (k : ℕ) → window_at (g s) k ≡ window_at s k
  pub step : (e : Event) (p q : Subsystem) (x : Seen) → IsQuiet e → machine_specs.Step true p e x q
      → machine_specs.Step true (g p) e x (g q)
  pub run : (events : List Event) (given : List Seen) (p q : Subsystem)
      → AreQuiet events → machine_specs.Run true p events given q → machine_specs.Run true (g p) events given (g q)
  pub rises : (k : ℕ) (d d' : Driver) (p q : Subsystem) (result : Result (Unit {0}) UpFault)
      → Rises (CallStep true k) d p result d' q → Rises (CallStep true k) d (g p) result d' (g q)

quiet-calls : (k : ℕ) (calls : List Call) → IsPlain calls → AreQuiet (events_of_calls k calls)
quiet-calls k [] plain = tt
quiet-calls k (Turns ∷ calls) plain = absurd plain
quiet-calls k (Sees lane head expected seen ∷ calls) plain = quiet-calls k calls plain
quiet-calls k (Loads at part ∷ calls) plain = quiet-calls k calls plain
quiet-calls k (one ∷ calls) plain = (tt, quiet-calls k calls plain)

-- The mapped events have the same outcome.

ran-alone : (g : Subsystem → Subsystem) → IsCarried g → (old new other : Subsystem) (events : List Event)
    → AreQuiet events → AreCalm (g old) (g new) other → Ran true old events new → Ran true (g old) events other
    → other ≡ g new
ran-alone g c old new other events quiet calm h k =
    (machine.run_is_unique (g old) other events k.0 k.1 calm.two calm.below).1
    ∙ sym (machine.run_is_unique (g old) (g new) events h.0 (c.run events h.0 old new quiet h.1) calm.one calm.below).1

abbrev Same : (Subsystem → Subsystem) → Driver → Driver → Subsystem → Subsystem → Type 0
Same g d d' new other = (d' ≡ d) × (other ≡ g new)

up-alone : (g : Subsystem → Subsystem)
    → IsCarried g → (k : ℕ) (d d' d'' : Driver) (old new other : Subsystem) (result : Result (Unit {0}) UpFault)
    → AreCalm (g old) (g new) other → ComesUp true k d old result d' new → ComesUp true k d (g old) result d'' other
    → Same g d' d'' new other
up-alone g c k d d' d'' old new other (Ok u) calm h also =
    let r = rises-alone (CallStep true k) count (count (g old)) (sure k (count (g old)) calm.below)
    d d' d'' (g old) (g new) other (Ok u) (Ok u) refl calm.one calm.two (c.rises k d d' old new (Ok u) h) also in
    (r.1, r.2)
up-alone g c k d d' d'' old new other (Err fault) calm h also = (also.0 ∙ sym h.0, also.1 ∙ sym (ap g h.1))

place-alone : (g : Subsystem → Subsystem) → IsCarried g
    → (k : ℕ) (request : Request) (d d' d'' : Driver) (old new other : Subsystem) (result : Result Ticket PlaceRefusal)
    → AreCalm (g old) (g new) other
    → Places true k request d old result d' new → Places true k request d (g old) result d'' other
    → Same g d' d'' new other
place-alone g c k request d d' d'' old new other (Ok ticket) calm (slot, free, is, ran) (slot', free', is', ran') =
    let same : slot' ≡ slot = same_Some _ _ (sym free' ∙ free) in (
      is' ∙ ap (placed d request) same ∙ sym is,
      ran-alone g c old new other
          (events_of_calls k (stores_of d request slot)) (quiet-calls k (stores_of d request slot) tt) calm ran
          (subst (λ n. Ran true (g old) (events_of_calls k (stores_of d request n)) other) same ran'),
    )
place-alone g c k request d d' d'' old new other (Err why) calm h also = (also.0 ∙ sym h.0, also.1 ∙ sym (ap g h.1))

ring-alone : (g : Subsystem → Subsystem)
    → IsCarried g → (k : ℕ) (d d' d'' : Driver) (old new other : Subsystem) (result : Result (Unit {0}) NotUp)
    → AreCalm (g old) (g new) other → Rings true k d old result d' new → Rings true k d (g old) result d'' other
    → Same g d' d'' new other
ring-alone g c k d d' d'' old new other (Ok u) calm h also =
    (also.0 ∙ sym h.0, ran-alone g c old new other (ring_events k d) (tt, (tt, tt)) calm h.1 also.1)
ring-alone g c k d d' d'' old new other (Err e) calm h also = (also.0 ∙ sym h.0, also.1 ∙ sym (ap g h.1))

poll-alone : (g : Subsystem → Subsystem)
    → IsCarried g → (k : ℕ) (d d' d'' : Driver) (old new other : Subsystem) (result : Result (Option Answer) PollFault)
    → AreCalm (g old) (g new) other → HasTicketsOnce d
    → Polls true k d old result d' new → Polls true k d (g old) result d'' other → Same g d' d'' new other
poll-alone g c k d d' d'' old new other result calm one h also =
    let x : PollOf = polled d h.oldest (window_at old k) in
    let oldest : also.oldest ≡ h.oldest = oldest-alone d h.oldest also.oldest one h.is_oldest also.is_oldest in
    let same : polled d also.oldest (window_at (g old) k) ≡ x = λ j. polled d (oldest j) (c.window old k j) in (
      also.driver ∙ ap (λ (y : PollOf). y.driver) same ∙ sym h.driver,
      ran-alone g c old new other
          (events_of_calls k x.calls) (quiet-calls k x.calls (plain-polled d h.oldest (window_at old k))) calm h.ran
          (subst (λ (y : PollOf). Ran true (g old) (events_of_calls k y.calls) other) same also.ran),
    )

does-alone : (g : Subsystem → Subsystem)
    → IsCarried g → (k : ℕ) (what : DriverCall) (d d' d'' : Driver) (old new other : Subsystem) (x : FleetSeen)
    → AreCalm (g old) (g new) other → HasTicketsOnce d → Does true k what d old x d' new
    → Does true k what d (g old) x d'' other → Same g d' d'' new other
does-alone g c k call.BringUp d d' d'' old new other x calm one (result, is, h) (result', is', also) =
    up-alone g c k d d' d'' old new other result calm h
    (subst (λ r. ComesUp true k d (g old) r d'' other) (let same : result' ≡ result = cc in same) also)
does-alone g c k (call.Place request) d d' d'' old new other x calm one (result, is, h) (result', is', also) =
    place-alone g c k request d d' d'' old new other result calm h
    (subst (λ r. Places true k request d (g old) r d'' other) (let same : result' ≡ result = cc in same) also)
does-alone g c k call.Ring d d' d'' old new other x calm one (result, is, h) (result', is', also) =
    ring-alone g c k d d' d'' old new other result calm h
    (subst (λ r. Rings true k d (g old) r d'' other) (let same : result' ≡ result = cc in same) also)
does-alone g c k call.Poll d d' d'' old new other x calm one (result, is, h) (result', is', also) =
    poll-alone g c k d d' d'' old new other result calm one h
    (subst (λ r. Polls true k d (g old) r d'' other) (let same : result' ≡ result = cc in same) also)
does-alone g c k call.Reset d d' d'' old new other x calm one (is, h) (is', also) =
    (also.0 ∙ sym h.0, ran-alone g c old new other (reset_events k) (tt, tt) calm h.1 also.1)

any-alone : (g : Subsystem → Subsystem)
    → IsCarried g → (k : ℕ) (what : DriverCall) (o e f : Option Driver) (old new other : Subsystem) (x : FleetSeen)
    → AreCalm (g old) (g new) other → ((d : Driver) → o ≡ Some d → HasTicketsOnce d)
    → DoesIfAny true k what o old x e new → DoesIfAny true k what o (g old) x f other → (f ≡ e) × (other ≡ g new)
any-alone g c k what None e f old new other x calm one h also = (also.1 ∙ sym h.1, also.2 ∙ sym (ap g h.2))
any-alone g c k what (Some d) e f old new other x calm one (d', made, h) (d'', made', also) =
    let r = does-alone g c k what d d' d'' old new other x calm (one d refl) h also in
    (made' ∙ ap Some r.0 ∙ sym made, r.1)

-- both layers, mapped
abbrev pub carried : (Subsystem → Subsystem) → Layers → Layers
carried g l = record l { subsystem = g l.subsystem }

together : (g : Subsystem → Subsystem) (new other : Layers) → other.subsystem ≡ g new.subsystem
    → other.drivers ≡ new.drivers → other ≡ carried g new
together g new other s d = λ i. record { subsystem = s i; drivers = d i }

calls-alone : (g : Subsystem → Subsystem)
    → IsCarried g → (o : Option (Option Driver)) (old new other : Layers) (k : ℕ) (what : DriverCall) (x : FleetSeen)
    → AreCalm (g old.subsystem) (g new.subsystem) other.subsystem → driver_at old.drivers k ≡ o
    → HaveTicketsOnce old → CallsAt o true old k what x new → CallsAt o true (carried g old) k what x other
    → other ≡ carried g new
calls-alone g c None old new other k what x calm at all h also = also.1 ∙ ap (carried g) (sym h.1)
calls-alone g c (Some o) old new other k what x calm at all (e, drivers, h) (f, drivers', also) =
    let r = any-alone g c k what o e f old.subsystem new.subsystem other.subsystem x calm
    (λ d is. at-once old k d all (at ∙ ap Some is)) h also in
    together g new other r.1 (drivers' ∙ ap (with_driver old.drivers k) r.0 ∙ sym drivers)

applies-alone : (g : Subsystem → Subsystem) (old new other : Layers) (e : Event) (x : FleetSeen)
    → ((y : Seen) → machine_specs.Step true old.subsystem e y new.subsystem
    → machine_specs.Step true (g old.subsystem) e y (g new.subsystem))
    → AreCalm (g old.subsystem) (g new.subsystem) other.subsystem → Applies true old e x new
    → Applies true (carried g old) e x other → other ≡ carried g new
applies-alone g old new other e x seen calm h also =
    together g new other
    ((machine.step-alone (g old.subsystem) other.subsystem e also.given also.step calm.two calm.below).1 ∙ sym
    (machine.step-alone (g old.subsystem) (g new.subsystem) e h.given (seen h.given h.step) calm.one calm.below).1)
    (also.drivers ∙ sym h.drivers)

raw-alone : (g : Subsystem → Subsystem)
    → IsCarried g → (o : Option (Option Driver)) (old new other : Layers) (e : Event) (x : FleetSeen)
    → IsQuiet e → AreCalm (g old.subsystem) (g new.subsystem) other.subsystem → AppliesRaw o true old e x new
    → AppliesRaw o true (carried g old) e x other → other ≡ carried g new
raw-alone g c None old new other e x quiet calm h also = also.1 ∙ ap (carried g) (sym h.1)
raw-alone g c (Some None) old new other e x quiet calm h also =
    applies-alone g old new other e x (λ y s. c.step e old.subsystem new.subsystem y quiet s) calm h also
raw-alone g c (Some (Some d)) old new other e x quiet calm h also = also.1 ∙ ap (carried g) (sym h.1)

-- an execution is mapped if its step is
pub happens-alike : (g : Subsystem → Subsystem)
    → IsCarried g → (old new other : Layers) (e : FleetEvent) (x : FleetSeen)
    → ((k i : ℕ) → e ≡ Execute k i → (y : Seen) → machine_specs.Step true old.subsystem (event.Execute k i) y
    new.subsystem → machine_specs.Step true (g old.subsystem) (event.Execute k i) y (g new.subsystem))
    → AreCalm (g old.subsystem) (g new.subsystem) other.subsystem → HaveTicketsOnce old → Happens true old e x new
    → Happens true (carried g old) e x other → other ≡ carried g new
happens-alike g c old new other (BringUp k) x seen calm all h also =
    calls-alone g c (driver_at old.drivers k) old new other k call.BringUp x calm refl all h also
happens-alike g c old new other (Place k request) x seen calm all h also =
    calls-alone g c (driver_at old.drivers k) old new other k (call.Place request) x calm refl all h also
happens-alike g c old new other (Ring k) x seen calm all h also =
    calls-alone g c (driver_at old.drivers k) old new other k call.Ring x calm refl all h also
happens-alike g c old new other (Fetch k q) x seen calm all h also = applies-alone g old new other (event.Fetch k q) x
    (λ y s. c.step (event.Fetch k q) old.subsystem new.subsystem y tt s) calm h also
happens-alike g c old new other (Execute k i) x seen calm all h also =
    applies-alone g old new other (event.Execute k i) x (seen k i refl) calm h also
happens-alike g c old new other (Poll k) x seen calm all h also =
    calls-alone g c (driver_at old.drivers k) old new other k call.Poll x calm refl all h also
happens-alike g c old new other (Reset k) x seen calm all h also =
    calls-alone g c (driver_at old.drivers k) old new other k call.Reset x calm refl all h also
happens-alike g c old new other (RawStore k address bytes) x seen calm all h also =
    raw-alone g c (driver_at old.drivers k) old new other (event.Store k address bytes) x tt calm h also
happens-alike g c old new other (RawWrite32 k offset v) x seen calm all h also =
    raw-alone g c (driver_at old.drivers k) old new other (event.Write32 k offset v) x tt calm h also
happens-alike g c old new other PowerCycle x seen calm all h also =
    together g new other
    (also.cycled ∙ sym (c.step event.PowerCycle old.subsystem new.subsystem given.Cycled tt (refl, h.cycled)).1)
    (also.drivers ∙ sym h.drivers)

pub happens-alone : (old new other : Layers) (e : FleetEvent) (x : FleetSeen)
    → AreCalm old.subsystem new.subsystem other.subsystem → HaveTicketsOnce old → Happens true old e x new
    → Happens true old e x other → other ≡ new
happens-alone old new other e x calm all h also =
    let itself : IsCarried (λ s. s) = record {
      window = λ s k. refl;
      step = λ e p q x quiet h. h;
      run = λ events given p q quiet h. h;
      rises = λ k d d' p q result h. h;
    } in
    happens-alike (λ s. s) itself old new other e x (λ k i is y s. s) calm all h also

-- One event.

pub step-counted : (old new : Layers) (e : FleetEvent) (reply : Reply)
    → Step true old e reply new → count old.subsystem ≤ count new.subsystem
unfolding fleet_in
step-counted old new e reply step = step-counts true (fleet_in old) (fleet_in new) e reply step.mailboxes

pub run-counted : (old new : Layers) (events : List FleetEvent) (replies : List Reply) → Run true old events replies new
    → count old.subsystem ≤ count new.subsystem
unfolding fleet_in
run-counted old new events replies run = failures_never_fall true (fleet_in old) (fleet_in new) events replies
    (runs_of_mailboxes true old new events replies run)

pub layers-alone : (old new other : Layers) (e : FleetEvent) (reply reply' : Reply)
    → AreCalm old.subsystem new.subsystem other.subsystem → HaveTicketsOnce old → Step true old e reply new
    → Step true old e reply' other
    → (reply' ≡ reply) × (other ≡ new)
unfolding fleet_in
layers-alone old new other e reply reply' calm all h g =
    let two = step-alone (fleet_in old) (fleet_in other) e reply' g.mailboxes calm.two calm.below in
    let same : reply' ≡ reply =
    two.0 ∙ sym (step-alone (fleet_in old) (fleet_in new) e reply h.mailboxes calm.one calm.below).0 in (
      same,
      happens-alone old new other e reply.seen calm all h.below
          (subst (λ (r : Reply). Happens true old e r.seen other) same g.below),
    )

pub layers_run_is_unique : LayersRunIsUnique
layers_run_is_unique old new other [] [] [] all h g a b below = (refl, g ∙ sym h)
layers_run_is_unique old new other [] [] (y ∷ others) all h g a b below = absurd g
layers_run_is_unique old new other (e ∷ events) (x ∷ later) [] all h g a b below = absurd g
layers_run_is_unique old new other (e ∷ events) (x ∷ later) (y ∷ others) all (mid, step, rest)
    (mid', step', rest') a b below =
    let p = step-counted old mid e x step in
    let q = run-counted mid new events later rest in
    let p' = step-counted old mid' e y step' in
    let q' = run-counted mid' other events others rest' in
    let calm : AreCalm old.subsystem mid.subsystem mid'.subsystem =
    record { one = omega (arith, p, q, a); two = omega (arith, p', q', b); below = below } in
    let one = layers-alone old mid mid' e x y calm all step step' in
    let r = layers_run_is_unique mid new other events later others
    (happens-once true old mid e x.seen step.below all) rest (subst (λ l. Run true l events others other) one.1 rest')
    (a ∙ sym calm.one) (b ∙ sym calm.one) (low mid.subsystem (count old.subsystem) calm.one below) in
    ((λ i. one.0 i ∷ r.0 i), r.1)
layers_run_is_unique old new other events replies others all h g a b below = absurd h
