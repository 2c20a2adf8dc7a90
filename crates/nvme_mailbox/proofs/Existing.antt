-- For the law `run_is_determined` and others: without a fault, each list of events has a run, from each fleet whose
-- namespaces are on its medium.
use Rattle.nvme_mailbox.proofs.Words.{
  ◌≡◌,
  ℕ,
  ◌*◌,
  ◌≤◌,
  ◌==◌,
  Bool,
  true,
  List,
  [],
  ◌∷◌,
  length,
  Option,
  None,
  Some,
  Ok,
  refl,
  sym,
  ap,
  ◌∙◌,
  arith,
  length-append,
  length-drop,
  slice_get,
  replicate,
  opcode,
  Command,
  WriteZeroes,
  AdminCommand,
  Verdict,
  Allowed,
  Denied,
  with_bytes,
  Judgement,
  action_rule,
  medium_block,
  IsLaidOut,
  extent_of,
  HasPassed,
  planned,
  passes,
  cycle_keeps_places,
  Lane,
  Admin,
  Io,
  Asked,
  FetchedCommand,
  Controller,
  QueuePair,
  queues_of,
  open_pair,
  Setting,
  FinishesOne,
  FinishesOver,
  scene_in,
  CommandComesTo,
  command-becomes,
  still,
  answer-extents,
  answer-size,
  FleetEvent,
  BringUp,
  Place,
  Ring,
  Fetch,
  Execute,
  Poll,
  Reset,
  RawStore,
  RawWrite32,
  PowerCycle,
  FleetSeen,
  FetchedItem,
  Mailbox,
  lane_of,
  MailboxReaction,
  Site,
  RequestExecution,
  scene_at,
  IsServed,
  IoRequestComesTo,
  RequestComesToAs,
  RequestComesTo,
  action_of,
  io_judgement,
  io_verdict,
  admin_judgement,
  admin_request_execution_by,
  admin_request_execution,
  command_entry,
  WithDriver,
  Raw,
  Fleet,
  Moment,
  Step,
  host_at,
  with_host,
  power_cycled,
  settled,
  called_at,
  raw_at,
  fetched_at,
  ExecutesItem,
  ExecutesAt,
  setting_of,
  served,
  performance_of,
  io_request_execution,
  request_execution_as,
  request_execution,
  executing_item,
  raw_over,
  raw_one,
  raw_execution,
  executing,
  fault_free_step,
  failures_in,
  RunExists,
  Device,
  HasSameReservations,
  same-reservations,
}
use Rattle.nvme_spec.specs.declared.command.Command.TheVariants.{Write}
use Rattle.nvme_spec.specs.declared.verdict.Plan.{Plan}
use Rattle.nvme_spec.specs.Commands as io_commands
use Rattle.nvme_spec.specs.AdminCommands as admin_commands
use Rattle.nvme_spec.proofs.FaultFree as spec
use Rattle.nvme_spec.proofs.Fencing.{performs-rest}
use Rattle.nvme_machine.specs.FaultFree.{fault_free_command_execution}
use Rattle.nvme_machine.proofs.Determined as machine_proofs
use Rattle.nvme_mailbox.specs.Fleets.{Host}
use Rattle.std.proofs.lemmas.List.{length-take}

-- what an admin command leaves
pub record AdminLeaves (s left : Site) : Type 0 where
  pub device : left.device ≡ s.device
  pub reservations : HasSameReservations s.world left.world

pub admin-leaves : (s : Site) (k : ℕ) (a : Asked) → AdminLeaves s (admin_request_execution s k a).left
unfolding admin_request_execution
admin-leaves s k a = by (admin_judgement s.world k a) (admin_commands.command_of (opcode (command_entry a)))
  where
    by : (j : Judgement) (command : Option AdminCommand)
        → AdminLeaves s (admin_request_execution_by j command s k a).left
    by (Ok u) (Some command) =
        record {
          device = refl;
          reservations = still s.world _ (command-becomes s.world (command_entry a) a.sent command);
        }
    by j command = record { device = refl; reservations = same-reservations s.world s.world refl }

-- The namespaces are at the same places on the medium, which is at least as long.
pub record StillLies (old new : Site) : Type 0 where
  pub extents : (n : ℕ) → extent_of new.world n ≡ extent_of old.world n
  pub size : length old.device.content ≤ length new.device.content

pub lies-still : (old new : Site) → StillLies old new → IsLaidOut old.world old.device.content
    → IsLaidOut new.world new.device.content
lies-still old new same laid = record {
  within = λ n x is. let fits = laid.within n x (sym (same.extents n) ∙ is) in let size = same.size in
      omega (arith, fits, size);
  apart = λ n m x y other p q. laid.apart n m x y other (sym (same.extents n) ∙ p) (sym (same.extents m) ∙ q);
}

lies-same : (old new : Site) → new ≡ old → StillLies old new
lies-same old new e = record {
  extents = λ n. ap (λ (s : Site). extent_of s.world n) e;
  size = let f = ap (λ (s : Site). length s.device.content) e in omega (arith, f);
}

-- bytes that replace some within a content leave it no shorter
put-in : (content : List ℕ) (at : ℕ) (bytes : List ℕ)
    → at ≤ length content → length content ≤ length (with_bytes content at bytes)
put-in content at bytes fits = simp (length-append, length-take, length-drop) (omega arith)

-- the facts about an allowed I/O command
pub allowed-passes : (s : Site) (k : ℕ) (a : Asked) (marked : Bool) (plan : Plan)
    → io_verdict s.world k a marked ≡ Allowed plan → HasPassed s.world k (command_entry a) plan.kind
unfolding io_judgement
allowed-passes s k a marked plan is =
    let p = planned (io_judgement s.world k a marked) (io_commands.command_of (opcode (command_entry a)))
    (command_entry a) plan is in
    passes s.world k (command_entry a) marked (action_rule (action_of s.world k a) ∷ []) plan.kind p.passed p.named

served-size : (command : Command) (k : ℕ) (a : Asked) (s : Site) → IsLaidOut s.world s.device.content
    → HasPassed s.world k (command_entry a) command
    → length s.device.content ≤ length (performance_of command k a s).content
served-size Write k a s laid p =
    let fits = spec.range-fits s.world s.device.content k (command_entry a) laid p.attached p.fits in
    put-in s.device.content (512 * medium_block s.world (command_entry a)) a.sent (omega (arith, fits))
served-size WriteZeroes k a s laid p =
    let fits = spec.range-fits s.world s.device.content k (command_entry a) laid p.attached p.fits in
    put-in s.device.content (512 * medium_block s.world (command_entry a))
    (replicate (512 * io_commands.block_count (command_entry a)) 0) (omega (arith, fits))
served-size command k a s laid p = omega arith

served-is : (command : Command) (k : ℕ) (a : Asked) (s : Site) → IsLaidOut s.world s.device.content
    → HasPassed s.world k (command_entry a) command
    → IsServed true command k a s (served command k a s (performance_of command k a s))
served-is command k a s laid p = record {
  returned = (performance_of command k a s).returned;
  effect = spec.performs command k (command_entry a) a.sent [] (scene_at s) laid p;
  dw0 = refl;
  rule = refl;
  marks = refl;
  data_back = refl;
}

served-lies : (command : Command) (k : ℕ) (a : Asked) (s : Site) → IsLaidOut s.world s.device.content
    → HasPassed s.world k (command_entry a) command
    → StillLies s (served command k a s (performance_of command k a s)).left
served-lies command k a s laid p =
    let r = served command k a s (performance_of command k a s) in
    let same = performs-rest true command k (command_entry a) a.sent (scene_at s) (scene_at r.left) r.outcome.status _
    (spec.performs command k (command_entry a) a.sent [] (scene_at s) laid p) in
    record { extents = same.layout.extents; size = served-size command k a s laid p }

-- an execution exists, with what it leaves
record Responds (lane : Lane) (k : ℕ) (a : Asked) (marked : Bool) (s : Site) (r : RequestExecution) : Type 0 where
  comes_to : RequestComesToAs lane true k a marked s r
  lies : StillLies s r.left
  calm : r.left.device.failures ≡ s.device.failures

io-responds : (v : Verdict) (k : ℕ) (a : Asked) (marked : Bool) (s : Site) → IsLaidOut s.world s.device.content
    → io_verdict s.world k a marked ≡ v
    → IoRequestComesTo v true k a s (io_request_execution v k a s) × StillLies s (io_request_execution v k a s).left
    × ((io_request_execution v k a s).left.device.failures ≡ s.device.failures)
io-responds (Denied number why) k a marked s laid is = (refl, lies-same s s refl, refl)
io-responds (Allowed plan) k a marked s laid is =
    let p = allowed-passes s k a marked plan is in
    (served-is plan.kind k a s laid p, served-lies plan.kind k a s laid p, refl)

responds : (lane : Lane) (k : ℕ) (a : Asked) (marked : Bool) (s : Site) → IsLaidOut s.world s.device.content
    → Responds lane k a marked s (request_execution_as lane k a marked s)
responds Admin k a marked s laid =
    let h = admin-leaves s k a in
    record {
      comes_to = refl;
      lies = record {
        extents = h.reservations.extents.extents;
        size = omega (arith, ap (λ (d : Device). length d.content) h.device);
      };
      calm = ap (λ (d : Device). d.failures) h.device;
    }
responds Io k a marked s laid =
    let r = io-responds (io_verdict s.world k a marked) k a marked s laid refl in
    record { comes_to = r.0; lies = r.1; calm = r.2 }

-- what an event must achieve: it exists, the namespaces stay, and no call has failed
record Comes (Is : Type 0) (f : Fleet) (m : Moment) : Type 0 where
  step : Is
  lies : StillLies f.site m.fleet.site
  calm : failures_in m.fleet ≡ failures_in f

abbrev Steps : Fleet → FleetEvent → Type 0
Steps f event = Comes (Step true f event (fault_free_step f event).reply (fault_free_step f event).fleet) f
    (fault_free_step f event)

item-executes : (o : Option FetchedItem) (f : Fleet) (k : ℕ) (m : Mailbox) (i : ℕ)
    → IsLaidOut f.site.world f.site.device.content
    → Comes (ExecutesItem o true f k m i (executing_item o f k m i).reply (executing_item o f k m i).fleet) f
    (executing_item o f k m i)
unfolding RequestComesTo request_execution settled
item-executes None f k m i laid = record { step = (refl, refl); lies = lies-same f.site f.site refl; calm = refl }
item-executes (Some x) f k m i laid =
    let r = responds (lane_of x.item) k x.item.asked x.marked f.site laid in
    record {
      step = record {
        execution = request_execution_as (lane_of x.item) k x.item.asked x.marked f.site;
        comes_to = r.comes_to;
        gives = refl;
        leaves = refl;
      };
      lies = r.lies;
      calm = r.calm;
    }

raw-over : (o : Option QueuePair) (i : ℕ) (t : FetchedCommand) (s : Setting) → IsLaidOut s.world s.device.content
    → FinishesOver o true i t s (raw_over o i t s).executed (raw_over o i t s).left
    × StillLies (record { world = s.world; device = s.device })
    (record { world = (raw_over o i t s).left.world; device = (raw_over o i t s).left.device })
    × ((raw_over o i t s).left.device.failures ≡ s.device.failures)
unfolding CommandComesTo
raw-over None i t s laid = ((refl, refl), lies-same _ _ refl, refl)
raw-over (Some p) i t s laid =
    let a = fault_free_command_execution (queues_of s.controller) s.controller.cntlid t (scene_in s) in
    let is = machine_proofs.answers (queues_of s.controller) s.controller.cntlid t (scene_in s) laid in
    let z = answer-size (t.queue == 0) (queues_of s.controller) s.controller.cntlid t (scene_in s) a laid is in (
      record { execution = a; comes_to = is; gives = refl; controller = refl; world = refl; device = refl },
      record {
        extents = (answer-extents (t.queue == 0) true (queues_of s.controller) s.controller.cntlid t
            (scene_in s) a is).extents;
        size = omega (arith, z);
      },
      machine_proofs.calm-answer (queues_of s.controller) s.controller.cntlid t (scene_in s),
    )

raw-one : (o : Option FetchedCommand) (i : ℕ) (s : Setting) → IsLaidOut s.world s.device.content
    → FinishesOne o true i s (raw_one o i s).executed (raw_one o i s).left
    × StillLies (record { world = s.world; device = s.device })
    (record { world = (raw_one o i s).left.world; device = (raw_one o i s).left.device })
    × ((raw_one o i s).left.device.failures ≡ s.device.failures)
raw-one None i s laid = ((refl, refl), lies-same _ _ refl, refl)
raw-one (Some t) i s laid = raw-over (open_pair s.controller t) i t s laid

executes : (o : Option Host) (f : Fleet) (k i : ℕ) → IsLaidOut f.site.world f.site.device.content
    → Comes (ExecutesAt o true f k i (executing o f k i).reply (executing o f k i).fleet) f (executing o f k i)
unfolding settled
executes None f k i laid = record { step = (refl, refl); lies = lies-same f.site f.site refl; calm = refl }
executes (Some (WithDriver m)) f k i laid = item-executes (slice_get m.fetched i) f k m i laid
executes (Some (Raw c)) f k i laid =
    let r = raw-one (slice_get c.fetched i) i (setting_of f c) laid in
    record {
      step = record {
        executed = (raw_execution i (setting_of f c)).executed;
        left = (raw_execution i (setting_of f c)).left;
        executes = r.0;
        gives = refl;
        leaves = refl;
      };
      lies = r.1;
      calm = r.2;
    }

-- every other event depends only on the hosts, and works over any site
abbrev pub elsewhere : Site → Moment → Moment
elsewhere s m = record { fleet = record { site = s; hosts = m.fleet.hosts }; reply = m.reply }

called-elsewhere : (o : Option Host) (f : Fleet) (s : Site) (k : ℕ) (call : Mailbox → MailboxReaction)
    → called_at o (record f { site = s }) k call ≡ elsewhere s (called_at o f k call)
unfolding with_host
called-elsewhere (Some (WithDriver m)) f s k call = refl
called-elsewhere o f s k call = refl

raw-elsewhere : (o : Option Host) (f : Fleet) (s : Site) (k : ℕ) (change : Controller → Controller) (what : FleetSeen)
    → raw_at o (record f { site = s }) k change what ≡ elsewhere s (raw_at o f k change what)
unfolding with_host
raw-elsewhere (Some (Raw c)) f s k change what = refl
raw-elsewhere o f s k change what = refl

fetched-elsewhere : (o : Option Host) (f : Fleet) (s : Site) (k q : ℕ)
    → fetched_at o (record f { site = s }) k q ≡ elsewhere s (fetched_at o f k q)
unfolding with_host
fetched-elsewhere (Some (Raw c)) f s k q = refl
fetched-elsewhere o f s k q = refl

-- neither an execution nor a power cycle
abbrev pub IsOther : FleetEvent → Type 0
IsOther (Execute k i) = ⊥
IsOther PowerCycle = ⊥
IsOther event = Unit {0}

pub other-elsewhere : (f : Fleet) (event : FleetEvent) (s : Site)
    → IsOther event → fault_free_step (record f { site = s }) event ≡ elsewhere s (fault_free_step f event)
unfolding host_at
other-elsewhere f (BringUp k) s h = called-elsewhere (host_at f k) f s k _
other-elsewhere f (Place k request) s h = called-elsewhere (host_at f k) f s k _
other-elsewhere f (Ring k) s h = called-elsewhere (host_at f k) f s k _
other-elsewhere f (Fetch k q) s h = fetched-elsewhere (host_at f k) f s k q
other-elsewhere f (Execute k i) s h = absurd h
other-elsewhere f (Poll k) s h = called-elsewhere (host_at f k) f s k _
other-elsewhere f (Reset k) s h = called-elsewhere (host_at f k) f s k _
other-elsewhere f (RawStore k address bytes) s h = raw-elsewhere (host_at f k) f s k _ _
other-elsewhere f (RawWrite32 k offset v) s h = raw-elsewhere (host_at f k) f s k _ _
other-elsewhere f PowerCycle s h = absurd h

-- so it leaves the medium and the world
pub other-site : (f : Fleet) (event : FleetEvent) → IsOther event → (fault_free_step f event).fleet.site ≡ f.site
other-site f event h = ap (λ (m : Moment). m.fleet.site) (other-elsewhere f event f.site h)

cycled-steps : (f : Fleet) → Steps f PowerCycle
unfolding power_cycled
cycled-steps f = let places = cycle_keeps_places f.site.world in
    record { step = (refl, refl); lies = record { extents = places.extents; size = omega arith }; calm = refl }

steps : (f : Fleet) (event : FleetEvent) → IsLaidOut f.site.world f.site.device.content → Steps f event
steps f (Execute k i) laid = executes (host_at f k) f k i laid
steps f PowerCycle laid = cycled-steps f
steps f event laid =
    let e = other-site f event tt in
    record {
      step = (refl, refl);
      lies = lies-same f.site (fault_free_step f event).fleet.site e;
      calm = ap (λ (s : Site). s.device.failures) e;
    }

pub run_exists : RunExists
run_exists old [] laid = (refl, refl)
run_exists old (event ∷ events) laid =
    let one = steps old event laid in
    let next : Fleet = (fault_free_step old event).fleet in
    let rest = run_exists next events (lies-still old.site next.site one.lies laid) in
    ((next, one.step, rest.0), rest.1 ∙ one.calm)
