-- For laws of secrecy: hosts of a fleet that may not read a namespace learn nothing of its bytes.
use Rattle.nvme_mailbox.proofs.Words.{
  AllByRecursion,
  fault_free_step,
  ◌≡◌,
  ◌<◌,
  ◌-◌,
  ◌^◌,
  ℕ,
  Bool,
  true,
  false,
  List,
  [],
  ◌∷◌,
  Option,
  None,
  Some,
  Ok,
  refl,
  sym,
  ap,
  subst,
  ◌∙◌,
  slice_get,
  opcode,
  AdminCommand,
  Verdict,
  Allowed,
  Denied,
  Device,
  reserving,
  IsLaidOut,
  may_read,
  Judgement,
  World,
  Lane,
  Admin,
  Io,
  Asked,
  FetchedCommand,
  Executed,
  Controller,
  QueuePair,
  open_pair,
  queues_of,
  FinishesOne,
  FinishesOver,
  Setting,
  scene_in,
  DifferIn,
  after_completion,
  Mirrors,
  command_execution_over,
  answers-over,
  performs,
  differ-still,
  FleetEvent,
  Execute,
  PowerCycle,
  OfItsHost,
  Reply,
  FetchedItem,
  Mailbox,
  lane_of,
  RequestComesTo,
  RequestComesToAs,
  IoRequestComesTo,
  RequestExecution,
  Site,
  admin_judgement,
  admin_request_execution,
  admin_request_execution_by,
  command_entry,
  io_verdict,
  scene_at,
  Allows,
  Forgets,
  LeavesReservation,
  Moment,
  ExecutesAt,
  ExecutesItem,
  ExecutesRaw,
  Fleet,
  Is,
  Raw,
  Step,
  WithDriver,
  after_answer,
  after_execution,
  after_raw,
  host_at,
  power_cycled,
  setting_of,
  settled,
  IsRegular,
  WasTaken,
  FencedReading,
  FencedReadingIsSame,
  MayNotRead,
  site_over,
}
use Rattle.nvme_mailbox.specs.Fleets.{Host}
use Rattle.nvme_spec.specs.AdminCommands as admin_commands
use Rattle.nvme_mailbox.specs.IoCommands.{command_at}
use Rattle.nvme_mailbox.specs.Secrecy.{over}
use Rattle.nvme_mailbox.proofs.Determined.{run_is_unique}
use Rattle.nvme_mailbox.proofs.Existing.{admin-leaves, IsOther, allowed-passes, other-elsewhere, other-site}
use Rattle.nvme_mailbox.proofs.Fenced.{extents-stay, plainly, reading-stays, step-acts}
use Rattle.nvme_mailbox.proofs.Regular.{BringsItsOwn, step-regular, taken-brings}
use Rattle.nvme_mailbox.proofs.Taken.{at-place}

-- a property of the hosts of events in one world is one in the next
of-one : (P Q : ℕ → Type 0) → ((k : ℕ) → P k → Q k) → (e : FleetEvent) → OfItsHost P e → OfItsHost Q e
of-one P Q f PowerCycle h = tt
of-one P Q f e h = f _ h

pub of-each : (P Q : ℕ → Type 0) → ((k : ℕ) → P k → Q k) → (events : List FleetEvent)
    → AllByRecursion (OfItsHost P) events → AllByRecursion (OfItsHost Q) events
of-each P Q f [] h = tt
of-each P Q f (e ∷ events) h = (of-one P Q f e h.0, of-each P Q f events h.1)

-- The answer to a request over one medium is possible over the other.

abbrev request_execution_over : Device → RequestExecution → RequestExecution
request_execution_over d r = record { outcome = r.outcome; bytes = r.bytes; left = site_over d r.left }

same-device : (n : ℕ) (w : World) (old new d : Device) → DifferIn n w old d → new ≡ old → DifferIn n w new d
same-device n w old new d differ is = subst (λ x. DifferIn n w x d) (sym is) differ

admin-by-over : (j : Judgement) (command : Option AdminCommand) (s : Site) (k : ℕ) (a : Asked) (d : Device)
    → request_execution_over d (admin_request_execution_by j command s k a)
    ≡ admin_request_execution_by j command (site_over d s) k a
admin-by-over (Ok u) (Some command) s k a d = refl
admin-by-over j command s k a d = refl

admin-over : (s : Site) (k : ℕ) (a : Asked) (d : Device)
    → request_execution_over d (admin_request_execution s k a) ≡ admin_request_execution (site_over d s) k a
unfolding admin_request_execution
admin-over s k a d =
    admin-by-over (admin_judgement s.world k a) (admin_commands.command_of (opcode (command_entry a))) s k a d

io-over : (v : Verdict) (n k : ℕ) (a : Asked) (marked : Bool) (s : Site) (r : RequestExecution) (d : Device)
    → io_verdict s.world k a marked ≡ v → IsLaidOut s.world s.device.content → DifferIn n s.world s.device d
    → may_read s.world k n ≡ false → BringsItsOwn a → IoRequestComesTo v true k a s r
    → Mirrors n s.world r.left.device (λ x. IoRequestComesTo v true k a (site_over d s) (request_execution_over x r))
io-over (Denied number why) n k a marked s r d is laid differ fenced brings h = (
  d,
  ap (request_execution_over d) h,
  same-device n s.world s.device r.left.device d differ (ap (λ (x : RequestExecution). x.left.device) h),
)
io-over (Allowed plan) n k a marked s r d is laid differ fenced brings h =
    let p = allowed-passes s k a marked plan is in
    let m = performs n (scene_at s) k (command_entry a) a.sent plan.kind
    (scene_at r.left) d r.outcome.status h.returned laid differ fenced p (brings plan.kind p.named) h.effect in (
      m.0,
      record {
        returned = h.returned;
        effect = m.1;
        dw0 = h.dw0;
        rule = h.rule;
        marks = h.marks;
        data_back = h.data_back;
      },
      m.2,
    )

lane-over : (lane : Lane) (n k : ℕ) (a : Asked) (marked : Bool) (s : Site) (r : RequestExecution) (d : Device)
    → IsLaidOut s.world s.device.content → DifferIn n s.world s.device d
    → may_read s.world k n ≡ false → BringsItsOwn a → RequestComesToAs lane true k a marked s r
    → Mirrors n s.world r.left.device
    (λ x. RequestComesToAs lane true k a marked (site_over d s) (request_execution_over x r))
lane-over Admin n k a marked s r d laid differ fenced brings h = (
  d,
  ap (request_execution_over d) h ∙ admin-over s k a d,
  same-device n s.world s.device r.left.device d differ
      (ap (λ (x : RequestExecution). x.left.device) h ∙ (admin-leaves s k a).device),
)
lane-over Io n k a marked s r d laid differ fenced brings h =
    io-over (io_verdict s.world k a marked) n k a marked s r d refl laid differ fenced brings h

-- Events that do not reach the medium.

abbrev MirrorsStep : ℕ → Fleet → Fleet → (Device → Type 0) → Type 0
MirrorsStep n old new does = Mirrors n old.site.world new.site.device does

stays : (n : ℕ) (old new : Fleet) (d : Device) → DifferIn n old.site.world old.site.device d → new.site ≡ old.site
    → DifferIn n old.site.world new.site.device d
stays n old new d differ is =
    same-device n old.site.world old.site.device new.site.device d differ (ap (λ (s : Site). s.device) is)

whole : (n : ℕ) (old new : Fleet) (d : Device) → DifferIn n old.site.world old.site.device d → new ≡ old
    → DifferIn n old.site.world new.site.device d
whole n old new d differ is = stays n old new d differ (ap (λ (f : Fleet). f.site) is)

-- Executions.

item-over : (o : Option FetchedItem) (n : ℕ) (old new : Fleet) (k : ℕ) (m : Mailbox) (i : ℕ) (reply : Reply)
    (d : Device) → IsLaidOut old.site.world old.site.device.content
    → DifferIn n old.site.world old.site.device d → may_read old.site.world k n ≡ false
    → ((x : FetchedItem) → o ≡ Some x → WasTaken x.item) → ExecutesItem o true old k m i reply new
    → MirrorsStep n old new (λ x. ExecutesItem o true (over d old) k m i reply (over x new))
unfolding RequestComesTo settled after_answer
item-over None n old new k m i reply d laid differ fenced held h =
    (d, (h.0, ap (over d) h.1), whole n old new d differ h.1)
item-over (Some y) n old new k m i reply d laid differ fenced held h =
    let a = lane-over (lane_of y.item) n k y.item.asked y.marked old.site h.execution d laid differ fenced
    (taken-brings y.item (held y refl)) h.comes_to in (
      a.0,
      record {
        execution = request_execution_over a.0 h.execution;
        comes_to = a.1;
        gives = h.gives;
        leaves = ap (over a.0) h.leaves ∙ same a.0 h.execution;
      },
      subst (λ (f : Fleet). DifferIn n old.site.world f.site.device a.0) (sym h.leaves) a.2,
    )
  where
    same : (x : Device) (r : RequestExecution)
        → over x (after_execution old k m i y r) ≡ after_execution (over d old) k m i y (request_execution_over x r)
    same x r = refl

abbrev setting_over : Device → Setting → Setting
setting_over d s = record { controller = s.controller; world = s.world; device = d }

pair-over : (o : Option QueuePair) (n i : ℕ) (t : FetchedCommand) (old new : Setting) (executed : Executed) (d : Device)
    → IsLaidOut old.world old.device.content → DifferIn n old.world old.device d
    → may_read old.world old.controller.cntlid n ≡ false → FinishesOver o true i t old executed new
    → Mirrors n old.world new.device (λ x. FinishesOver o true i t (setting_over d old) executed (setting_over x new))
unfolding after_completion
pair-over None n i t old new executed d laid differ fenced h = (
  d,
  (h.0, ap (setting_over d) h.1),
  same-device n old.world old.device new.device d differ (ap (λ (s : Setting). s.device) h.1),
)
pair-over (Some p) n i t old new executed d laid differ fenced h =
    let m = answers-over n (queues_of old.controller) old.controller.cntlid t
    (scene_in old) h.execution d laid differ fenced h.comes_to in (
      m.0,
      record {
        execution = command_execution_over m.0 h.execution;
        comes_to = m.1;
        gives = h.gives;
        controller = h.controller;
        world = h.world;
        device = refl;
      },
      same-device n old.world h.execution.left.device new.device m.0 m.2 h.device,
    )

one-over : (o : Option FetchedCommand) (n i : ℕ) (old new : Setting) (executed : Executed) (d : Device)
    → IsLaidOut old.world old.device.content → DifferIn n old.world old.device d
    → may_read old.world old.controller.cntlid n ≡ false → FinishesOne o true i old executed new
    → Mirrors n old.world new.device (λ x. FinishesOne o true i (setting_over d old) executed (setting_over x new))
one-over None n i old new executed d laid differ fenced h = (
  d,
  (h.0, ap (setting_over d) h.1),
  same-device n old.world old.device new.device d differ (ap (λ (s : Setting). s.device) h.1),
)
one-over (Some t) n i old new executed d laid differ fenced h =
    pair-over (open_pair old.controller t) n i t old new executed d laid differ fenced h

command-over : (n : ℕ) (old new : Fleet) (k : ℕ) (c : Controller) (i : ℕ) (reply : Reply) (d : Device)
    → IsLaidOut old.site.world old.site.device.content
    → DifferIn n old.site.world old.site.device d → may_read old.site.world c.cntlid n ≡ false
    → ExecutesRaw true old k c i reply new
    → MirrorsStep n old new (λ x. ExecutesRaw true (over d old) k c i reply (over x new))
unfolding settled
command-over n old new k c i reply d laid differ fenced h =
    let m =
    one-over (slice_get c.fetched i) n i (setting_of old c) h.left h.executed d laid differ fenced h.executes in (
      m.0,
      record {
        executed = h.executed;
        left = setting_over m.0 h.left;
        executes = m.1;
        gives = h.gives;
        leaves = ap (over m.0) h.leaves ∙ same m.0 h.executed h.left;
      },
      subst (λ (f : Fleet). DifferIn n old.site.world f.site.device m.0) (sym h.leaves) m.2,
    )
  where
    same : (x : Device) (executed : Executed) (left : Setting)
        → over x (after_raw old k executed left) ≡ after_raw (over d old) k executed (setting_over x left)
    same x executed left = refl

executes-over : (o : Option Host) (n : ℕ) (old new : Fleet) (k i : ℕ) (reply : Reply) (d : Device)
    → IsRegular old → DifferIn n old.site.world old.site.device d
    → may_read old.site.world k n ≡ false → host_at old k ≡ o → ExecutesAt o true old k i reply new
    → MirrorsStep n old new (λ x. ExecutesAt o true (over d old) k i reply (over x new))
executes-over None n old new k i reply d regular differ fenced at h =
    (d, (h.0, ap (over d) h.1), whole n old new d differ h.1)
executes-over (Some (WithDriver m)) n old new k i reply d regular differ fenced at h =
    item-over (slice_get m.fetched i) n old new k m i reply d regular.laid differ fenced
    (λ x found. at-place old k i m x regular.taken at found) h
executes-over (Some (Raw c)) n old new k i reply d regular differ fenced at h =
    command-over n old new k c i reply d regular.laid differ
    (ap (λ j. may_read old.site.world j n) (regular.numbers k (Raw c) at) ∙ fenced) h

-- Events.

cycles : (n : ℕ) (old new : Fleet) (reply : Reply) (d : Device) → DifferIn n old.site.world old.site.device d
    → Step true old PowerCycle reply new
    → MirrorsStep n old new (λ x. Step true (over d old) PowerCycle reply (over x new))
unfolding power_cycled
cycles n old new reply d differ h = (
  d,
  (h.0, ap (over d) h.1),
  same-device n old.site.world old.site.device new.site.device d differ (ap (λ (f : Fleet). f.site.device) h.1),
)

other-over : (f : Fleet) (event : FleetEvent) → IsOther event → (d : Device) (reply : Reply) (new : Fleet)
    → Is (fault_free_step f event) reply new → Is (fault_free_step (over d f) event) reply (over d new)
other-over f event other d reply new h =
    let e = sym (other-elsewhere f event (site_over d f.site) other) in
    let s = other-site f event other in (
      h.0 ∙ ap (λ (m : Moment). m.reply) e,
      ap (over d) h.1 ∙ (λ i. record { site = site_over d (s i); hosts = (fault_free_step f event).fleet.hosts })
          ∙ ap (λ (m : Moment). m.fleet) e,
    )

pub step-over : (n : ℕ) (old new : Fleet) (event : FleetEvent) (reply : Reply) (d : Device)
    → IsRegular old → DifferIn n old.site.world old.site.device d
    → OfItsHost (λ k. may_read old.site.world k n ≡ false) event → Step true old event reply new
    → MirrorsStep n old new (λ x. Step true (over d old) event reply (over x new))
unfolding host_at
step-over n old new (Execute k i) reply d regular differ fenced h =
    executes-over (host_at old k) n old new k i reply d regular differ fenced refl h
step-over n old new PowerCycle reply d regular differ fenced h = cycles n old new reply d differ h
step-over n old new event reply d regular differ fenced h = (
  d,
  other-over old event tt d reply new h,
  stays n old new d differ (ap (λ (f : Fleet). f.site) h.1 ∙ other-site old event tt),
)

-- Runs.

reserves-over : (n : ℕ) (f : Fleet) (d : Device) (event : FleetEvent) → Allows reserving (over d f) event n
    → Allows reserving f event n
unfolding host_at command_at
reserves-over n f d (Execute k i) h = record { command = h.command; found = h.found; is = h.is; allowed = h.allowed }
reserves-over n f d event h = h

forgets-over : (n : ℕ) (f : Fleet) (d : Device) (event : FleetEvent) → Forgets (over d f) event n → Forgets f event n
forgets-over n f d PowerCycle h = h
forgets-over n f d other h = h

leaves-over : (n : ℕ) (f : Fleet) (d : Device) (event : FleetEvent)
    → LeavesReservation n f event → LeavesReservation n (over d f) event
leaves-over n f d event quiet = (λ h. quiet.0 (reserves-over n f d event h), λ h. quiet.1 (forgets-over n f d event h))

pub still : (old new : World) (n : ℕ) (events : List FleetEvent) → ((k : ℕ) → may_read new k n ≡ may_read old k n)
    → MayNotRead old n events → MayNotRead new n events
still old new n events same h =
    of-each (λ k. may_read old k n ≡ false) (λ k. may_read new k n ≡ false) (λ k fenced. same k ∙ fenced) events h

pub fenced_reading : FencedReading
fenced_reading old new d [] [] n regular differ run fenced =
    (d, ap (over d) run, subst (λ (f : Fleet). DifferIn n f.site.world f.site.device d) (sym run) differ)
fenced_reading old new d (event ∷ events) (x ∷ later) n regular differ run fenced =
    let mid : Fleet = run.0 in
    let one = step-over n old mid event x d regular differ fenced.0 run.2 in
    let same = extents-stay old mid event (step-acts true old mid event x run.2) in
    let rest = fenced_reading mid new one.0 events later n (step-regular old mid event x run.2 regular)
    (differ-still n old.site.world mid.site.world mid.site.device one.0 same one.2) run.3
    (still old.site.world mid.site.world n events (reading-stays true old mid event x n run.2 run.1) fenced.1) in
    (rest.0, (over one.0 mid, leaves-over n old d event run.1, one.1, rest.1), rest.2)
fenced_reading old new d events later n regular differ run fenced = absurd run

pub fenced_reading_is_same : FencedReadingIsSame
fenced_reading_is_same old new other d events replies others n regular differ run fenced second calm quiet below =
    let r = fenced_reading old new d events replies n regular differ run fenced in
    let last : Device = r.0 in
    let start : d.failures ≡ old.site.device.failures = differ.failures in
    let low : d.failures < 2 ^ 64 - 1 = subst (λ m. m < 2 ^ 64 - 1) (sym start) below in
    let one = run_is_unique (over d old)
    (over last new) events replies (plainly (LeavesReservation n) true (over d old) (over last new) events replies r.1)
    (r.2.failures ∙ calm ∙ sym start) low in
    let two = run_is_unique (over d old) other events others second (quiet ∙ sym start) low in
    let same : other ≡ over last new = two.1 ∙ sym one.1 in
    let device : other.site.device ≡ last = ap (λ (f : Fleet). f.site.device) same in (
      two.0 ∙ sym one.0,
      same ∙ ap (λ x. over x new) (sym device),
      subst (λ x. DifferIn n new.site.world new.site.device x) (sym device) r.2,
    )
