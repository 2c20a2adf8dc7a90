-- For laws of fleets: bytes of namespaces change only by executions, which are one event of the subsystem each; and
-- every event leaves the windows of other hosts.
use Rattle.nvme_fleet.proofs.Words.{
  fault_free_step,
  ◌≡◌,
  ◌≢◌,
  ◌⊎◌,
  inl,
  inr,
  ℕ,
  Bool,
  true,
  false,
  List,
  [],
  ◌∷◌,
  Option,
  None,
  Some,
  Result,
  Ok,
  Err,
  refl,
  sym,
  ap,
  subst,
  ◌∙◌,
  option_map,
  AllByRecursion,
  Device,
  IsLaidOut,
  bytes_of,
  may_write,
  World,
  UpFault,
  Call,
  Turns,
  Sees,
  Loads,
  Driver,
  stores_of,
  Rises,
  IsMapped,
  rises-mapped,
  Event,
  Seen,
  Cycled,
  Controller,
  with_marks,
  Subsystem,
  controller_at,
  FleetEvent,
  BringUp,
  Place,
  Ring,
  Fetch,
  Execute,
  Poll,
  Reset,
  RawStore,
  RawWrite32,
  PowerCycle,
  FleetSeen,
  OfItsHost,
  Reply,
  DriverCall,
  FencedEventsWriteNothing,
  LayoutStays,
  OthersWindowsStay,
  RunsOfMailboxes,
  is_laid_out,
  namespace_bytes,
  CallStep,
  Does,
  DoesIfAny,
  events_of,
  events_of_calls,
  reset_events,
  ring_events,
  window_at,
  window_of,
  Site,
  Fleet,
  Is,
  Moment,
  Layers,
  fleet_in,
  AppliesRaw,
  CallsAt,
  driver_at,
  polled,
  all-joined,
}
use Rattle.nvme_machine.specs.declared.event.Event.TheVariants as event
use Rattle.nvme_machine.specs.Controllers.{power_cycled}
use Rattle.nvme_machine.specs.Runs.{IsMarkedBy}
use Rattle.nvme_machine.specs.Subsystems as machine
use Rattle.nvme_machine.proofs.Fencing as fencing
use Rattle.nvme_machine.proofs.Layouts as layouts
use Rattle.nvme_machine.proofs.Others.{cycled-at, others_change_in_marks_alone}
use Rattle.nvme_fleet.specs.declared.driver_call.DriverCall.TheVariants as call
use Rattle.nvme_fleet.specs.Bytes.{FencingHolds, LeavesReservation, PermissionsStay}
use Rattle.nvme_fleet.specs.Layers.{Step}
use Rattle.nvme_mailbox.proofs.Existing.{other-site}
use Rattle.nvme_mailbox.proofs.Secrecy.{of-each}

-- Runs of the mailboxes.
pub runs_of_mailboxes : RunsOfMailboxes
runs_of_mailboxes tells old new [] [] run = ap fleet_in run
runs_of_mailboxes tells old new (e ∷ events) (reply ∷ later) run =
    (let s = run.1 in (fleet_in run.0, s.mailboxes, runs_of_mailboxes tells run.0 new events later run.2))
runs_of_mailboxes tells old new events later run = absurd run

-- All events except executions and power cycles leave access state and medium.

pub record IsSameSite (old new : Layers) : Type 0 where
  pub world : new.subsystem.world ≡ old.subsystem.world
  pub device : new.subsystem.device ≡ old.subsystem.device

pub same-site : (old new : Layers) (m : Moment) (reply : Reply) → m.fleet.site ≡ (fleet_in old).site
    → Is m reply (fleet_in new) → IsSameSite old new
unfolding fleet_in
same-site old new m reply same h =
    let e : (fleet_in new).site ≡ (fleet_in old).site = ap (λ (f : Fleet). f.site) h.1 ∙ same in
    record { world = ap (λ (s : Site). s.world) e; device = ap (λ (s : Site). s.device) e }

pub by-event : (tells : Bool) (old new : Layers) (e : FleetEvent) (reply : Reply) (P : Type 0)
    → Step tells old e reply new → (IsSameSite old new → P)
    → ((k i : ℕ) → e ≡ Execute k i → (given : Seen)
    → machine.Step tells old.subsystem (event.Execute k i) given new.subsystem → P)
    → (e ≡ PowerCycle → machine.Step tells old.subsystem event.PowerCycle Cycled new.subsystem → P) → P
by-event tells old new (Execute k i) reply P s alone executes cycles =
    (let b = s.below in executes k i refl b.given b.step)
by-event tells old new PowerCycle reply P s alone executes cycles = (let b = s.below in cycles refl (refl, b.cycled))
by-event tells old new event reply P s alone executes cycles = alone
    (same-site old new (fault_free_step (fleet_in old) event) reply (other-site (fleet_in old) event tt) s.mailboxes)

pub fenced_events_write_nothing : FencedEventsWriteNothing
fenced_events_write_nothing old new e reply n laid step may =
    by-event true old new e reply (namespace_bytes new n ≡ namespace_bytes old n) step
    (λ same. let w = same.world in let d = same.device in (ap (λ x. bytes_of x new.subsystem.device.content n) w
    ∙ ap (λ (x : Device). bytes_of old.subsystem.world x.content n) d))
    (λ k i is given one.
    layouts.fenced_events_write_nothing old.subsystem new.subsystem (event.Execute k i) given n laid one
    (subst (OfItsHost (λ j. may_write old.subsystem.world j n ≡ false)) is may))
    (λ is one. layouts.fenced_events_write_nothing old.subsystem new.subsystem event.PowerCycle Cycled n laid one tt)

pub layout_stays : LayoutStays
layout_stays old new e reply laid step =
    by-event true old new e reply (is_laid_out new) step
    (λ same. let w = same.world in let d = same.device in subst (λ x. IsLaidOut x new.subsystem.device.content) (sym w)
    (subst (λ (x : Device). IsLaidOut old.subsystem.world x.content) (sym d) laid))
    (λ k i is given one. layouts.layout_stays old.subsystem new.subsystem (event.Execute k i) given laid one)
    (λ is one. layouts.layout_stays old.subsystem new.subsystem event.PowerCycle Cycled laid one)

pub permissions_stay : PermissionsStay
permissions_stay tells old new e reply n step leaves k =
    by-event tells old new e reply (may_write new.subsystem.world k n ≡ may_write old.subsystem.world k n) step
    (λ same. ap (λ x. may_write x k n) same.world)
    (λ j i is given one. fencing.permissions_stay tells old.subsystem new.subsystem (event.Execute j i) given n one
    (subst (LeavesReservation n old) is leaves, λ forgets. forgets) k)
    (λ is one. fencing.permissions_stay tells old.subsystem new.subsystem event.PowerCycle Cycled n one
    ((λ allowed. allowed), subst (LeavesReservation n old) is leaves) k)

pub still-fenced : (v w : World) (n : ℕ) (events : List FleetEvent) → ((k : ℕ) → may_write w k n ≡ may_write v k n)
    → AllByRecursion (OfItsHost (λ k. may_write v k n ≡ false)) events
    → AllByRecursion (OfItsHost (λ k. may_write w k n ≡ false)) events
still-fenced v w n events same h =
    of-each (λ k. may_write v k n ≡ false) (λ k. may_write w k n ≡ false) (λ k fenced. same k ∙ fenced) events h

pub fencing_holds : FencingHolds
fencing_holds old new [] [] n laid run fenced =
    (ap (λ l. namespace_bytes l n) run, λ k. ap (λ (l : Layers). may_write l.subsystem.world k n) run)
fencing_holds old new (e ∷ events) (reply ∷ later) n laid (mid, leaves, step, rest) fenced =
    let may = permissions_stay true old mid e reply n step leaves in
    let r = fencing_holds mid new events later n (layout_stays old mid e reply laid step) rest
    (still-fenced old.subsystem.world mid.subsystem.world n events may fenced.1) in
    (r.0 ∙ fenced_events_write_nothing old mid e reply n laid step fenced.0, λ k. r.1 k ∙ may k)
fencing_holds old new events later n laid run fenced = absurd run

-- The windows of other hosts.

marked-window : (n : ℕ) (o : Option Controller) → window_of (option_map (with_marks n) o) ≡ window_of o
marked-window n None = refl
marked-window n (Some c) = refl

cycled-window : (o : Option Controller) → window_of (option_map power_cycled o) ≡ window_of o
cycled-window None = refl
cycled-window (Some c) = refl

other-window : (w : World) (x : Seen) (e : Event) (j : ℕ) (old new : Option Controller)
    → (new ≡ old) ⊎ IsMarkedBy w x j old new ⊎ ((e ≡ event.PowerCycle) × (new ≡ option_map power_cycled old))
    → window_of new ≡ window_of old
other-window w x e j old new (inl same) = ap window_of same
other-window w x e j old new (inr (inl m)) = ap window_of m.marked ∙ marked-window m.outcome.marks.nsid old
other-window w x e j old new (inr (inr h)) = ap window_of h.1 ∙ cycled-window old

step-window : (tells : Bool) (old new : Subsystem) (e : Event) (x : Seen) (j : ℕ)
    → machine.Step tells old e x new → j ≢ machine.controller_of e → window_at new j ≡ window_at old j
step-window tells old new e x j step other = other-window new.world x e j (controller_at old j) (controller_at new j)
    (others_change_in_marks_alone tells old new e x step j other)

abbrev AreOf : ℕ → List Event → Type 0
AreOf k events = AllByRecursion (λ e. machine.controller_of e ≡ k) events

ran-window : (tells : Bool) (k j : ℕ) (events : List Event) (given : List Seen) (old new : Subsystem)
    → j ≢ k → AreOf k events → machine.Run tells old events given new → window_at new j ≡ window_at old j
ran-window tells k j [] [] old new other own run = ap (λ s. window_at s j) run
ran-window tells k j (e ∷ events) (x ∷ given) old new other own (mid, step, rest) =
    ran-window tells k j events given mid new other own.1 rest
    ∙ step-window tells old mid e x j step (λ is. other (is ∙ own.0))
ran-window tells k j events given old new other own run = absurd run

of-call : (k : ℕ) (one : Call) → AreOf k (events_of k one)
of-call k Turns = (refl, (refl, tt))
of-call k (Sees lane head expected seen) = tt
of-call k (Loads at part) = tt
of-call k one = (refl, tt)

of-calls : (k : ℕ) (calls : List Call) → AreOf k (events_of_calls k calls)
of-calls k [] = tt
of-calls k (one ∷ calls) = all-joined (λ e. machine.controller_of e ≡ k) (events_of k one) (events_of_calls k calls)
    (of-call k one) (of-calls k calls)

rises-window : (tells : Bool) (k j : ℕ) (d d' : Driver) (old new : Subsystem) (result : Result (Unit {0}) UpFault)
    → j ≢ k → Rises (CallStep tells k) d old result d' new → window_at new j ≡ window_at old j
rises-window tells k j d d' old new result other h =
    let m : IsMapped (λ (s : Subsystem). s) (CallStep tells k) (CallStep tells k)
    (λ s. window_at s j ≡ window_at old j) = record {
      call = λ one p q fact over.
          (over, ran-window tells k j (events_of k one) over.given p q other (of-call k one) over.run ∙ fact);
    } in
    let r = rises-mapped (λ (s : Subsystem). s) (CallStep tells k) (CallStep tells k)
    (λ s. window_at s j ≡ window_at old j) m d d' old new result refl h in
    r.1

does-window : (tells : Bool) (k j : ℕ) (what : DriverCall) (d d' : Driver) (old new : Subsystem) (x : FleetSeen)
    → j ≢ k → Does tells k what d old x d' new → window_at new j ≡ window_at old j
does-window tells k j call.BringUp d d' old new x other (Ok u, is, h) =
    rises-window tells k j d d' old new (Ok u) other h
does-window tells k j call.BringUp d d' old new x other (Err fault, is, h) = ap (λ s. window_at s j) h.1
does-window tells k j (call.Place request) d d' old new x other (Ok ticket, is, (slot, free, made, ran)) =
    ran-window tells k j (events_of_calls k (stores_of d request slot)) ran.0 old new other
    (of-calls k (stores_of d request slot)) ran.1
does-window tells k j (call.Place request) d d' old new x other (Err why, is, h) = ap (λ s. window_at s j) h.1
does-window tells k j call.Ring d d' old new x other (Ok u, is, (same, ran)) =
    ran-window tells k j (ring_events k d) ran.0 old new other (refl, (refl, tt)) ran.1
does-window tells k j call.Ring d d' old new x other (Err why, is, h) = ap (λ s. window_at s j) h.1
does-window tells k j call.Poll d d' old new x other (result, is, h) =
    (let r = h.ran in ran-window tells k j (events_of_calls k (polled d h.oldest (window_at old k)).calls) r.0 old new
    other (of-calls k (polled d h.oldest (window_at old k)).calls) r.1)
does-window tells k j call.Reset d d' old new x other (is, h) =
    (let r = h.1 in ran-window tells k j (reset_events k) r.0 old new other (refl, tt) r.1)

any-window : (tells : Bool) (k j : ℕ) (what : DriverCall) (o e : Option Driver) (old new : Subsystem) (x : FleetSeen)
    → j ≢ k → DoesIfAny tells k what o old x e new → window_at new j ≡ window_at old j
any-window tells k j what None e old new x other h = ap (λ s. window_at s j) h.2
any-window tells k j what (Some d) e old new x other (d', is, h) = does-window tells k j what d d' old new x other h

calls-window : (o : Option (Option Driver)) (tells : Bool) (old new : Layers) (k j : ℕ) (what : DriverCall)
    (x : FleetSeen) → j ≢ k → CallsAt o tells old k what x new → window_at new.subsystem j ≡ window_at old.subsystem j
calls-window None tells old new k j what x other h = ap (λ (l : Layers). window_at l.subsystem j) h.1
calls-window (Some d) tells old new k j what x other (e, is, h) =
    any-window tells k j what d e old.subsystem new.subsystem x other h

raw-window : (o : Option (Option Driver)) (tells : Bool) (old new : Layers) (e : Event) (x : FleetSeen) (j : ℕ)
    → j ≢ machine.controller_of e → AppliesRaw o tells old e x new
    → window_at new.subsystem j ≡ window_at old.subsystem j
raw-window None tells old new e x j other h = ap (λ (l : Layers). window_at l.subsystem j) h.1
raw-window (Some None) tells old new e x j other h =
    step-window tells old.subsystem new.subsystem e h.given j h.step other
raw-window (Some (Some d)) tells old new e x j other h = ap (λ (l : Layers). window_at l.subsystem j) h.1

pub others_windows_stay : OthersWindowsStay
others_windows_stay tells old new (BringUp k) reply s j other =
    calls-window (driver_at old.drivers k) tells old new k j call.BringUp reply.seen other s.below
others_windows_stay tells old new (Place k request) reply s j other =
    calls-window (driver_at old.drivers k) tells old new k j (call.Place request) reply.seen other s.below
others_windows_stay tells old new (Ring k) reply s j other =
    calls-window (driver_at old.drivers k) tells old new k j call.Ring reply.seen other s.below
others_windows_stay tells old new (Fetch k q) reply s j other =
    step-window tells old.subsystem new.subsystem (event.Fetch k q) s.below.given j s.below.step other
others_windows_stay tells old new (Execute k i) reply s j other =
    step-window tells old.subsystem new.subsystem (event.Execute k i) s.below.given j s.below.step other
others_windows_stay tells old new (Poll k) reply s j other =
    calls-window (driver_at old.drivers k) tells old new k j call.Poll reply.seen other s.below
others_windows_stay tells old new (Reset k) reply s j other =
    calls-window (driver_at old.drivers k) tells old new k j call.Reset reply.seen other s.below
others_windows_stay tells old new (RawStore k address bytes) reply s j other =
    raw-window (driver_at old.drivers k) tells old new (event.Store k address bytes) reply.seen j other s.below
others_windows_stay tells old new (RawWrite32 k offset v) reply s j other =
    raw-window (driver_at old.drivers k) tells old new (event.Write32 k offset v) reply.seen j other s.below
others_windows_stay tells old new PowerCycle reply s j other =
    ap window_of (cycled-at old.subsystem new.subsystem j s.below.cycled)
    ∙ cycled-window (controller_at old.subsystem j)
