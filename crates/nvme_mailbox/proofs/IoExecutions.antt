-- For laws of fencing and requests: the rules decide how an I/O command of a fleet is executed, and how it changes
-- reservations.
use Rattle.nvme_mailbox.proofs.Words.{
  ◌≡◌,
  ◌⊎◌,
  inl,
  inr,
  ℕ,
  ◌==◌,
  Bool,
  true,
  false,
  List,
  Option,
  None,
  Some,
  Ok,
  refl,
  sym,
  ap,
  subst,
  ◌∙◌,
  slice_get,
  if◌then◌else◌,
  none-some,
  same_Some,
  opcode,
  nsid,
  Status,
  Command,
  ReservationRegister,
  ReservationReport,
  ReservationAcquire,
  ReservationRelease,
  Outcome,
  Verdict,
  Allowed,
  Denied,
  command_of,
  is_one_of,
  reserving,
  Scene,
  ExecutesBy,
  Performs,
  world_after,
  cycled_world,
  World,
  planned,
  Lane,
  Admin,
  Io,
  FetchedCommand,
  Executed,
  Posted,
  Controller,
  QueuePair,
  queues_of,
  open_pair,
  CommandComesTo,
  CommandComesToAs,
  CommandExecution,
  Setting,
  FinishesOne,
  FinishesOver,
  scene_in,
  HasSameReservations,
  same-reservations,
  admin-keeps,
  io-answer,
  FleetEvent,
  Execute,
  PowerCycle,
  Reply,
  FetchedItem,
  Mailbox,
  lane_of,
  plain,
  Site,
  RequestExecution,
  scene_at,
  RequestComesTo,
  RequestComesToAs,
  IoRequestComesTo,
  io_verdict,
  WithDriver,
  Raw,
  Fleet,
  host_at,
  settled,
  site_of,
  setting_of,
  ExecutesItem,
  ExecutesRaw,
  ExecutesAt,
  IoCommand,
  asked_command,
  raw_command,
  asked_by,
  sent_by,
  command_in,
  AreNumbered,
  IsExecutedBy,
  verdict_on,
  ExecutedAsThePolicyAllows,
  Step,
  power_cycled,
}
use Rattle.nvme_mailbox.specs.Fleets.{Host}
use Rattle.nvme_spec.specs.IoData as spec
use Rattle.nvme_event.specs.declared.seen.FleetSeen.TheVariants.{Executed as ExecutedSeen}
use Rattle.nvme_mailbox.specs.IoCommands.{asked_in, command_at}
use Rattle.nvme_mailbox.proofs.Existing.{admin-leaves, other-site}

-- What each event of a fleet leaves of access state and medium.

-- What an event leaves: the old state, that after an execution's answer, or what persists over a power cycle.
pub data Leaves (tells : Bool) (old new : Fleet) (event : FleetEvent) : Type 0 where
  AsItWas : new.site ≡ old.site → Leaves tells old new event
  ByRequest : (k i : ℕ) → event ≡ Execute k i → (m : Mailbox) → (x : FetchedItem) → (r : RequestExecution)
      → host_at old k ≡ Some (WithDriver m) → slice_get m.fetched i ≡ Some x
      → RequestComesTo tells k x old.site r → new.site ≡ r.left → Leaves tells old new event
  ByCommand : (k i : ℕ) → event ≡ Execute k i → (c : Controller) → (t : FetchedCommand) → (a : CommandExecution)
      → host_at old k ≡ Some (Raw c) → slice_get c.fetched i ≡ Some t
      → CommandComesTo tells (queues_of c) c.cntlid t (scene_in (setting_of old c)) a
      → new.site ≡ record { world = a.left.world; device = a.left.device } → Leaves tells old new event
  PowerLost : event ≡ PowerCycle → new.site ≡ record { world = cycled_world old.site.world; device = old.site.device }
      → Leaves tells old new event

whole : (tells : Bool) (old new : Fleet) (event : FleetEvent) → new ≡ old → Leaves tells old new event
whole tells old new event e = AsItWas (ap (λ (f : Fleet). f.site) e)

item : (o : Option FetchedItem) (tells : Bool) (old new : Fleet) (k : ℕ) (m : Mailbox) (i : ℕ) (reply : Reply)
    → host_at old k ≡ Some (WithDriver m) → slice_get m.fetched i ≡ o
    → ExecutesItem o tells old k m i reply new → Leaves tells old new (Execute k i)
unfolding settled
item None tells old new k m i reply at found h = whole tells old new (Execute k i) h.1
item (Some x) tells old new k m i reply at found h =
    ByRequest k i refl m x h.execution at found h.comes_to (ap (λ (f : Fleet). f.site) h.leaves)

over : (o : Option QueuePair) (tells : Bool) (old new : Fleet) (k : ℕ) (c : Controller) (i : ℕ) (t : FetchedCommand)
    (executed : Executed) (left : Setting) → host_at old k ≡ Some (Raw c) → slice_get c.fetched i ≡ Some t
    → FinishesOver o tells i t (setting_of old c) executed left → new.site ≡ site_of left
    → Leaves tells old new (Execute k i)
over None tells old new k c i t executed left at found h leaves = AsItWas (leaves ∙ ap site_of h.1)
over (Some p) tells old new k c i t executed left at found h leaves =
    ByCommand k i refl c t h.execution at found h.comes_to
    (leaves ∙ λ j. record { world = h.world j; device = h.device j })

one : (o : Option FetchedCommand) (tells : Bool) (old new : Fleet) (k : ℕ) (c : Controller) (i : ℕ)
    (executed : Executed) (left : Setting) → host_at old k ≡ Some (Raw c) → slice_get c.fetched i ≡ o
    → FinishesOne o tells i (setting_of old c) executed left → new.site ≡ site_of left
    → Leaves tells old new (Execute k i)
one None tells old new k c i executed left at found h leaves = AsItWas (leaves ∙ ap site_of h.1)
one (Some t) tells old new k c i executed left at found h leaves =
    over (open_pair c t) tells old new k c i t executed left at found h leaves

raw : (tells : Bool) (old new : Fleet) (k : ℕ) (c : Controller) (i : ℕ) (reply : Reply)
    → host_at old k ≡ Some (Raw c) → ExecutesRaw tells old k c i reply new → Leaves tells old new (Execute k i)
unfolding settled
raw tells old new k c i reply at h = one (slice_get c.fetched i) tells old new k c i h.executed h.left at refl
    h.executes (ap (λ (f : Fleet). f.site) h.leaves)

executes : (o : Option Host) (tells : Bool) (old new : Fleet) (k i : ℕ) (reply : Reply)
    → host_at old k ≡ o → ExecutesAt o tells old k i reply new → Leaves tells old new (Execute k i)
executes None tells old new k i reply at h = whole tells old new (Execute k i) h.1
executes (Some (WithDriver m)) tells old new k i reply at h =
    item (slice_get m.fetched i) tells old new k m i reply at refl h
executes (Some (Raw c)) tells old new k i reply at h = raw tells old new k c i reply at h

cycles : (tells : Bool) (old new : Fleet) → new ≡ power_cycled old → Leaves tells old new PowerCycle
unfolding power_cycled
cycles tells old new h = PowerLost refl (ap (λ (f : Fleet). f.site) h)

pub leaves : (tells : Bool) (old new : Fleet) (event : FleetEvent) (reply : Reply)
    → Step tells old event reply new → Leaves tells old new event
leaves tells old new (Execute k i) reply h = executes (host_at old k) tells old new k i reply refl h
leaves tells old new PowerCycle reply h = cycles tells old new h.1
leaves tells old new event reply h = AsItWas (ap (λ (f : Fleet). f.site) h.1 ∙ other-site old event tt)

-- An answer is that of the rules.

abbrev pub site_left : Scene → Site
site_left s = record { world = s.world; device = s.device }

-- the effect of a command does not depend on other bytes of host memory
unseen : (tells : Bool) (command : Command) (k : ℕ) (e sent : List ℕ) (old new : Scene) (answer : Status)
    (returned : List ℕ) → Performs tells command k e sent old new answer returned
    → Performs tells command k e sent (scene_at (site_left old)) (scene_at (site_left new)) answer returned
unseen tells ReservationReport k e sent old new answer returned h =
    record { answered = h.answered; world = h.world; device = h.device; data_back = h.data_back }
unseen tells ReservationRegister k e sent old new answer returned h =
    record { answered = h.answered; world = h.world; device = h.device; data_back = h.data_back }
unseen tells ReservationAcquire k e sent old new answer returned h =
    record { answered = h.answered; world = h.world; device = h.device; data_back = h.data_back }
unseen tells ReservationRelease k e sent old new answer returned h =
    record { answered = h.answered; world = h.world; device = h.device; data_back = h.data_back }
unseen tells command k e sent old new answer returned h = record { world = h.world; effect = h.effect }

request-as : (v : Verdict) (tells : Bool) (k : ℕ) (y : FetchedItem) (s : Site) (r : RequestExecution)
    → IoRequestComesTo v tells k y.item.asked s r
    → IsExecutedBy v tells k (asked_command s.world k y) s r.outcome r.left
request-as (Denied number why) tells k y s r h =
    (ap (λ (x : RequestExecution). x.outcome) h, ap (λ (x : RequestExecution). x.left) h)
request-as (Allowed plan) tells k y s r h =
    record { returned = h.returned; effect = h.effect; dw0 = h.dw0; rule = h.rule; marks = h.marks }

command-as : (v : Verdict) (tells : Bool) (c : Controller) (t : FetchedCommand) (s : Site) (left : Scene)
    (outcome : Outcome)
    → ExecutesBy v tells c.cntlid t.entry
    (record { world = s.world; window = c.window; device = s.device }) left outcome
    → IsExecutedBy v tells c.cntlid (raw_command s.world c t) s outcome (site_left left)
command-as (Denied number why) tells c t s left outcome h = (h.1, ap site_left h.0)
command-as (Allowed plan) tells c t s left outcome h = record {
  returned = h.returned;
  effect = unseen tells plan.kind c.cntlid t.entry (spec.data_of c.window t.entry)
      (record { world = s.world; window = c.window; device = s.device }) left outcome.status h.returned h.effect;
  dw0 = h.dw0;
  rule = h.rule;
  marks = h.marks;
}

-- The execution of one command.

abbrev Does : Bool → Fleet → ℕ → IoCommand → Outcome → Fleet → Type 0
Does tells old k x outcome new = IsExecutedBy (verdict_on x) tells k x old.site outcome new.site

same-outcome : (a b : Outcome) → plain (ExecutedSeen (Posted a)) ≡ plain (ExecutedSeen (Posted b)) → b ≡ a
same-outcome a b h = let e = ap (λ (r : Reply). r.seen) h in cc

posted-alone : (executed : Executed) (outcome : Outcome)
    → plain (ExecutedSeen (Posted outcome)) ≡ plain (ExecutedSeen executed) → executed ≡ Posted outcome
posted-alone executed outcome h = let e = ap (λ (r : Reply). r.seen) h in cc

moved : (tells : Bool) (old new : Fleet) (k : ℕ) (x y : IoCommand) (a b : Outcome) (left : Site)
    → y ≡ x → a ≡ b → new.site ≡ left → IsExecutedBy (verdict_on y) tells k y old.site a left → Does tells old k x b new
moved tells old new k x y a b left same gives leaves h =
    subst (λ s. IsExecutedBy (verdict_on x) tells k x old.site b s) (sym leaves)
    (subst (λ o. IsExecutedBy (verdict_on x) tells k x old.site o left) gives
    (subst (λ z. IsExecutedBy (verdict_on z) tells k z old.site a left) same h))

lane-does : (lane : Lane) (tells : Bool) (old new : Fleet) (k : ℕ) (y : FetchedItem) (r : RequestExecution)
    (x : IoCommand) (outcome : Outcome) → RequestComesToAs lane tells k y.item.asked y.marked old.site r
    → asked_in lane old.site.world k y ≡ Some x → r.outcome ≡ outcome → new.site ≡ r.left
    → Does tells old k x outcome new
lane-does Admin tells old new k y r x outcome h found gives leaves = absurd (none-some _ found)
lane-does Io tells old new k y r x outcome h found gives leaves =
    moved tells old new k x (asked_command old.site.world k y) r.outcome outcome r.left
    (same_Some _ _ found) gives leaves
    (request-as (io_verdict old.site.world k y.item.asked y.marked) tells k y old.site r h)

item-does : (o : Option FetchedItem) (tells : Bool) (old new : Fleet) (k : ℕ) (m : Mailbox) (i : ℕ) (x : IoCommand)
    (outcome : Outcome)
    → ExecutesItem o tells old k m i (plain (ExecutedSeen (Posted outcome))) new → asked_by old.site.world k o ≡ Some x
    → Does tells old k x outcome new
unfolding RequestComesTo settled
item-does None tells old new k m i x outcome h found = absurd (none-some _ found)
item-does (Some y) tells old new k m i x outcome h found =
    lane-does (lane_of y.item) tells old new k y h.execution x outcome h.comes_to found
    (same-outcome outcome h.execution.outcome h.gives) (ap (λ (f : Fleet). f.site) h.leaves)

pub is-io : (admin : Bool) (x y : IoCommand) → (if admin then None else Some y) ≡ Some x → (admin ≡ false) × (y ≡ x)
is-io true x y h = absurd (none-some _ h)
is-io false x y h = (refl, same_Some _ _ h)

over-does : (o : Option QueuePair) (tells : Bool) (old new : Fleet) (c : Controller) (i : ℕ) (t : FetchedCommand)
    (executed : Executed) (left : Setting) (x : IoCommand) (outcome : Outcome)
    → FinishesOver o tells i t (setting_of old c) executed left → executed ≡ Posted outcome → new.site ≡ site_of left
    → sent_by old.site.world c (Some t) ≡ Some x → Does tells old c.cntlid x outcome new
over-does None tells old new c i t executed left x outcome h posted leaves found = let e = sym h.0 ∙ posted in absurd cc
over-does (Some p) tells old new c i t executed left x outcome h posted leaves found =
    let io = is-io (t.queue == 0) x (raw_command old.site.world c t) found in
    let a : CommandExecution = h.execution in
    let answer = io-answer tells (queues_of c) c.cntlid t (scene_in (setting_of old c)) a io.0 h.comes_to in
    let e : Posted a.outcome ≡ Posted outcome = sym h.gives ∙ posted in
    let w = h.world in
    let v = h.device in
    moved tells old new c.cntlid x (raw_command old.site.world c t) a.outcome outcome (site_left a.left) io.1 (cc)
    (leaves ∙ λ k. record { world = w k; device = v k })
    (command-as (spec.io_verdict old.site.world c.cntlid t.entry t.marked c.window) tells c t old.site a.left
    a.outcome answer.1)

one-does : (o : Option FetchedCommand) (tells : Bool) (old new : Fleet) (c : Controller) (i : ℕ) (executed : Executed)
    (left : Setting) (x : IoCommand) (outcome : Outcome)
    → FinishesOne o tells i (setting_of old c) executed left → executed ≡ Posted outcome → new.site ≡ site_of left
    → sent_by old.site.world c o ≡ Some x → Does tells old c.cntlid x outcome new
one-does None tells old new c i executed left x outcome h posted leaves found = absurd (none-some _ found)
one-does (Some t) tells old new c i executed left x outcome h posted leaves found =
    over-does (open_pair c t) tells old new c i t executed left x outcome h posted leaves found

executes-does : (o : Option Host) (tells : Bool) (old new : Fleet) (k i : ℕ) (x : IoCommand) (outcome : Outcome)
    → AreNumbered old → host_at old k ≡ o
    → ExecutesAt o tells old k i (plain (ExecutedSeen (Posted outcome))) new → command_in o old.site.world k i ≡ Some x
    → Does tells old k x outcome new
unfolding settled
executes-does None tells old new k i x outcome all at h found = absurd (none-some _ found)
executes-does (Some (WithDriver m)) tells old new k i x outcome all at h found =
    item-does (slice_get m.fetched i) tells old new k m i x outcome h found
executes-does (Some (Raw c)) tells old new k i x outcome all at h found =
    subst (λ n. Does tells old n x outcome new) (all k (Raw c) at)
    (one-does (slice_get c.fetched i) tells old new c i h.executed h.left x outcome h.executes
    (posted-alone h.executed outcome h.gives) (ap (λ (f : Fleet). f.site) h.leaves) found)

pub executed_as_the_policy_allows : ExecutedAsThePolicyAllows
unfolding command_at
executed_as_the_policy_allows tells old new k i x outcome all step found =
    executes-does (host_at old k) tells old new k i x outcome all refl step found

-- What it leaves of the reservations: all, or all except the one that an allowed reservation command has changed.
pub record ActsOn (k : ℕ) (x : IoCommand) (old new : World) : Type 0 where
  pub is_one : is_one_of (command_of (opcode x.entry)) reserving ≡ true
  pub allowed : x.judgement ≡ Ok tt
  pub leaves : new ≡ world_after old (nsid x.entry) (spec.reservation_outcome old k x.entry x.sent)

performed : (tells : Bool) (command : Command) (k : ℕ) (e sent : List ℕ) (old new : Scene) (answer : Status)
    (returned : List ℕ) → Performs tells command k e sent old new answer returned
    → (new.world ≡ old.world) ⊎ ((is_one_of (Some command) reserving ≡ true)
    × (new.world ≡ world_after old.world (nsid e) (spec.reservation_outcome old.world k e sent)))
performed tells ReservationRegister k e sent old new answer returned h = inr (refl, h.world)
performed tells ReservationAcquire k e sent old new answer returned h = inr (refl, h.world)
performed tells ReservationRelease k e sent old new answer returned h = inr (refl, h.world)
performed tells command k e sent old new answer returned h = inl h.world

pub world-left : (v : Verdict) (tells : Bool) (k : ℕ) (x : IoCommand) (old new : Site) (outcome : Outcome)
    → verdict_on x ≡ v → IsExecutedBy v tells k x old outcome new
    → HasSameReservations old.world new.world ⊎ ActsOn k x old.world new.world
world-left (Denied number why) tells k x old new outcome is h =
    inl (same-reservations old.world new.world (ap (λ (s : Site). s.world) h.1))
world-left (Allowed plan) tells k x old new outcome is h =
    let p = planned x.judgement (command_of (opcode x.entry)) x.entry plan is in
    elim (performed tells plan.kind k x.entry x.sent (scene_at old) (scene_at new) outcome.status h.returned h.effect) [
      | inl same ↦ inl (same-reservations old.world new.world same)
      | inr acts ↦ inr
          (record { is_one = ap (λ o. is_one_of o reserving) p.named ∙ acts.0; allowed = p.passed; leaves = acts.1 })
    ]

-- What any event leaves of them.
pub data Acts (old new : Fleet) (event : FleetEvent) : Type 0 where
  Rests : HasSameReservations old.site.world new.site.world → Acts old new event
  Reserves : (k i number : ℕ) → event ≡ Execute k i → (x : IoCommand) → command_at old k i ≡ Some x
      → (AreNumbered old → number ≡ k) → ActsOn number x old.site.world new.site.world → Acts old new event
  Loses : event ≡ PowerCycle → new.site.world ≡ cycled_world old.site.world → Acts old new event

rests : (old new : Fleet) (event : FleetEvent) (left : World)
    → new.site.world ≡ left → HasSameReservations old.site.world left → Acts old new event
rests old new event left leaves h = Rests (subst (HasSameReservations old.site.world) (sym leaves) h)

reserves : (old new : Fleet) (event : FleetEvent) (k i number : ℕ) (x : IoCommand) (left : World)
    → event ≡ Execute k i → command_at old k i ≡ Some x → (AreNumbered old → number ≡ k) → new.site.world ≡ left
    → HasSameReservations old.site.world left ⊎ ActsOn number x old.site.world left → Acts old new event
reserves old new event k i number x left is found numbered leaves (inl h) = rests old new event left leaves h
reserves old new event k i number x left is found numbered leaves (inr h) =
    Reserves k i number is x found numbered
    (record { is_one = h.is_one; allowed = h.allowed; leaves = leaves ∙ h.leaves })

by-lane : (lane : Lane) (tells : Bool) (old new : Fleet) (event : FleetEvent) (k i : ℕ) (y : FetchedItem)
    (r : RequestExecution) → event ≡ Execute k i → command_at old k i ≡ asked_in lane old.site.world k y
    → RequestComesToAs lane tells k y.item.asked y.marked old.site r → new.site ≡ r.left → Acts old new event
by-lane Admin tells old new event k i y r is found h leaves =
    rests old new event r.left.world (ap (λ (s : Site). s.world) leaves)
    (subst (λ (z : RequestExecution). HasSameReservations old.site.world z.left.world) (sym h)
    (admin-leaves old.site k y.item.asked).reservations)
by-lane Io tells old new event k i y r is found h leaves =
    let x : IoCommand = asked_command old.site.world k y in
    reserves old new event k i k x r.left.world is found (λ all. refl) (ap (λ (s : Site). s.world) leaves)
    (world-left (verdict_on x) tells k x old.site r.left r.outcome refl
    (request-as (verdict_on x) tells k y old.site r h))

by-queue : (admin : Bool) (tells : Bool) (old new : Fleet) (event : FleetEvent) (k i : ℕ) (c : Controller)
    (t : FetchedCommand) (a : CommandExecution) → event ≡ Execute k i
    → command_at old k i ≡ (if admin then None else Some (raw_command old.site.world c t))
    → host_at old k ≡ Some (Raw c)
    → CommandComesToAs admin tells (queues_of c) c.cntlid t (scene_in (setting_of old c)) a
    → new.site ≡ record { world = a.left.world; device = a.left.device } → Acts old new event
by-queue true tells old new event k i c t a is found at h leaves =
    rests old new event a.left.world (ap (λ (s : Site). s.world) leaves)
    (subst (λ (z : CommandExecution). HasSameReservations old.site.world z.left.world) (sym h)
    (let r = admin-keeps old.site.world (queues_of c) c.cntlid c.window t.entry in r))
by-queue false tells old new event k i c t a is found at h leaves =
    let x : IoCommand = raw_command old.site.world c t in
    reserves old new event k i c.cntlid x a.left.world is found (λ all. all k (Raw c) at)
    (ap (λ (s : Site). s.world) leaves)
    (world-left (verdict_on x) tells c.cntlid x old.site (site_left a.left) a.outcome refl
    (command-as (verdict_on x) tells c t old.site a.left a.outcome h.1))

pub acts : (tells : Bool) (old new : Fleet) (event : FleetEvent) → Leaves tells old new event → Acts old new event
unfolding RequestComesTo CommandComesTo command_at
acts tells old new event (AsItWas e) =
    Rests (same-reservations old.site.world new.site.world (ap (λ (s : Site). s.world) e))
acts tells old new event (ByRequest k i is m y r at found h leaves) = by-lane (lane_of y.item) tells old new event k i y
    r is (ap (λ o. command_in o old.site.world k i) at ∙ ap (λ o. asked_by old.site.world k o) found) h leaves
acts tells old new event (ByCommand k i is c t a at found h leaves) = by-queue (t.queue == 0) tells old new event k i c
    t a is (ap (λ o. command_in o old.site.world k i) at ∙ ap (λ o. sent_by old.site.world c o) found) at h leaves
acts tells old new event (PowerLost is e) = Loses is (ap (λ (s : Site). s.world) e)
