-- For laws of mailboxes: a property of each host of a fleet holds in every run, if moves and marks keep it for a
-- mailbox, and if it holds for a raw host with any controller.
use Rattle.nvme_mailbox.proofs.Words.{
  ◌≡◌,
  ℕ,
  zero,
  suc,
  ◌+◌,
  Bool,
  true,
  false,
  List,
  [],
  ◌∷◌,
  Option,
  None,
  Some,
  refl,
  sym,
  subst,
  ◌∙◌,
  option_map,
  slice_get,
  slice_set,
  if◌then◌else◌,
  none-some,
  same_Some,
  Marks,
  World,
  host_of,
  Controller,
  is_host_among,
  FleetEvent,
  Reply,
  Mailbox,
  Site,
  WithDriver,
  Raw,
  Fleet,
  Step,
  Run,
  replaced,
  host_at,
  with_host,
  host_cycled,
  marked,
  marked_from,
  settled,
  ap,
  inl,
  inr,
  ◌⊎◌,
  QueueChange,
  Keep,
  FetchedCommand,
  Executed,
  CommandExecution,
  QueuePair,
  open_pair,
  after_queue_change,
  after_posting,
  Setting,
  FinishesOne,
  FinishesOver,
  after_completion,
  store-id,
  write-id,
  fetch-id,
  BringUp,
  Place,
  Ring,
  Fetch,
  Execute,
  Poll,
  Reset,
  RawStore,
  RawWrite32,
  PowerCycle,
  FleetSeen,
  FetchedItem,
  MailboxReaction,
  Is,
  power_cycled,
  called_at,
  raw_at,
  fetched_at,
  ExecutesItem,
  ExecutesAt,
  setting_of,
  site_of,
  marks_in,
  refusal,
  lane_at,
}
use Rattle.nvme_mailbox.specs.Fleets.{Host, delivered}
use Rattle.nvme_mailbox.proofs.Apart.{cycled-at}
use Rattle.nvme_event.specs.declared.seen.FleetSeen.TheVariants as seen
use Rattle.nvme_mailbox.proofs.Moves.{
  Move,
  May,
  moved,
  Clear,
  cycle-quiet,
  HandUp,
  Answer,
  IsMove,
  IsPlain,
  reply_of,
  rises,
  takes,
  rings,
  fetches,
  polls,
  clears,
  reset-quiet,
}

-- The effect of an event of a fleet: nothing, a move of one mailbox, a change of one raw host's controller, which keeps
-- its identifier, or a loss of power.

-- Controllers keep their identifiers.

change-id : (change : QueueChange) (c : Controller) → (after_queue_change change c).cntlid ≡ c.cntlid
unfolding after_queue_change
change-id Keep c = refl
change-id change c = refl

answer-id : (i : ℕ) (t : FetchedCommand) (p : QueuePair) (a : CommandExecution) (c : Controller)
    → (after_completion i t p a c).cntlid ≡ c.cntlid
unfolding after_completion after_posting
answer-id i t p a c =
    change-id a.change (after_posting i t p a.outcome.status a.outcome.dw0 (record c { window = a.left.window }))

over-id : (o : Option QueuePair) (tells : Bool) (i : ℕ) (t : FetchedCommand) (old : Setting) (executed : Executed)
    (new : Setting) → FinishesOver o tells i t old executed new
    → new.controller.cntlid ≡ old.controller.cntlid
over-id None tells i t old executed new h = ap (λ (s : Setting). s.controller.cntlid) h.1
over-id (Some p) tells i t old executed new h =
    ap (λ (c : Controller). c.cntlid) h.controller ∙ answer-id i t p h.execution old.controller

pub one-id : (o : Option FetchedCommand) (tells : Bool) (i : ℕ) (old : Setting) (executed : Executed) (new : Setting)
    → FinishesOne o tells i old executed new
    → new.controller.cntlid ≡ old.controller.cntlid
one-id None tells i old executed new h = ap (λ (s : Setting). s.controller.cntlid) h.1
one-id (Some t) tells i old executed new h = over-id (open_pair old.controller t) tells i t old executed new h

-- Events.

-- one host changes, by an execution with this site and these marks, or by another event
abbrev pub becomes : Option (Site × Marks) → Fleet → ℕ → Host → Fleet
becomes None f k h = with_host f k h
becomes (Some (left, marks)) f k h = settled f k left h marks

abbrev pub IsPoll : FleetEvent → Type 0
IsPoll (Poll k) = Unit {0}
IsPoll other = ⊥

-- the events of a move: only a poll delivers an answer
abbrev pub IsFor : FleetEvent → Move → Type 0
IsFor event (HandUp lane first rest) = IsPoll event
IsFor event other = Unit {0}

abbrev IsBare : Reply → Type 0
IsBare reply = reply.bytes ≡ []

pub data Comes (old : Fleet) (event : FleetEvent) (reply : Reply) (new : Fleet) : Type 0 where
  Rests : reply.bytes ≡ [] → new ≡ old → Comes old event reply new
  Moves : (k : ℕ) → (m : Mailbox) → (v : Move) → (how : Option (Site × Marks)) → host_at old k ≡ Some (WithDriver m)
      → May v m → IsFor event v → reply ≡ reply_of v m
      → new ≡ becomes how old k (WithDriver (moved v m)) → Comes old event reply new
  Bares : (k : ℕ) → (c d : Controller) → (how : Option (Site × Marks)) → host_at old k ≡ Some (Raw c)
      → d.cntlid ≡ c.cntlid → reply.bytes ≡ [] → new ≡ becomes how old k (Raw d) → Comes old event reply new
  Cycles : reply.bytes ≡ [] → new ≡ power_cycled old → Comes old event reply new

bare : (r reply : Reply) → reply ≡ r → IsBare r → IsBare reply
bare r reply is b = ap (λ (x : Reply). x.bytes) is ∙ b

each-for : (event : FleetEvent) (v : Move) → IsPlain v → IsFor event v
each-for event (HandUp lane first rest) p = absurd p
each-for event other p = tt

reacts : (old new : Fleet) (event : FleetEvent) (k : ℕ) (m : Mailbox) (r : MailboxReaction) (reply : Reply)
    → IsMove (IsFor event) m r → host_at old k ≡ Some (WithDriver m) → Is (delivered old k r) reply new
    → Comes old event reply new
reacts old new event k m r reply x at h =
    Moves k m x.move None at x.may x.of (h.0 ∙ ap (λ (y : MailboxReaction). y.reply) x.is)
    (h.1 ∙ ap (λ (y : MailboxReaction). with_host old k (WithDriver y.mailbox)) x.is)

called : (o : Option Host) (old new : Fleet) (event : FleetEvent) (k : ℕ) (call : Mailbox → MailboxReaction)
    (reply : Reply) → ((m : Mailbox) → IsMove (IsFor event) m (call m)) → host_at old k ≡ o
    → Is (called_at o old k call) reply new → Comes old event reply new
called (Some (WithDriver m)) old new event k call reply moves at h =
    reacts old new event k m (call m) reply (moves m) at h
called None old new event k call reply moves at h = Rests (bare _ reply h.0 refl) h.1
called (Some (Raw c)) old new event k call reply moves at h = Rests (bare _ reply h.0 refl) h.1

fetched : (o : Option Host) (old new : Fleet) (k q : ℕ) (reply : Reply)
    → host_at old k ≡ o → Is (fetched_at o old k q) reply new → Comes old (Fetch k q) reply new
fetched None old new k q reply at h = Rests (bare _ reply h.0 refl) h.1
fetched (Some (WithDriver m)) old new k q reply at h =
    reacts old new (Fetch k q) k m _ reply (fetches (IsFor (Fetch k q)) (each-for (Fetch k q)) (lane_at q) m) at h
fetched (Some (Raw c)) old new k q reply at h = Bares k c _ None at (fetch-id q c) (bare _ reply h.0 refl) h.1

raw : (o : Option Host) (old new : Fleet) (event : FleetEvent) (k : ℕ) (change : Controller → Controller)
    (what : FleetSeen) (reply : Reply) → ((c : Controller) → (change c).cntlid ≡ c.cntlid) → host_at old k ≡ o
    → Is (raw_at o old k change what) reply new → Comes old event reply new
raw None old new event k change what reply same at h = Rests (bare _ reply h.0 refl) h.1
raw (Some (WithDriver m)) old new event k change what reply same at h = Rests (bare _ reply h.0 refl) h.1
raw (Some (Raw c)) old new event k change what reply same at h =
    Bares k c (change c) None at (same c) (bare _ reply h.0 refl) h.1

item : (o : Option FetchedItem) (tells : Bool) (old new : Fleet) (k : ℕ) (m : Mailbox) (i : ℕ) (reply : Reply)
    → slice_get m.fetched i ≡ o → host_at old k ≡ Some (WithDriver m) → ExecutesItem o tells old k m i reply new
    → Comes old (Execute k i) reply new
item None tells old new k m i reply found at h = Rests (bare _ reply h.0 refl) h.1
item (Some x) tells old new k m i reply found at h =
    Moves k m (Answer i x h.execution) (Some (h.execution.left, h.execution.outcome.marks)) at found tt h.gives h.leaves

executes : (o : Option Host) (tells : Bool) (old new : Fleet) (k i : ℕ) (reply : Reply)
    → host_at old k ≡ o → ExecutesAt o tells old k i reply new → Comes old (Execute k i) reply new
executes None tells old new k i reply at h = Rests (bare _ reply h.0 refl) h.1
executes (Some (WithDriver m)) tells old new k i reply at h =
    item (slice_get m.fetched i) tells old new k m i reply refl at h
executes (Some (Raw c)) tells old new k i reply at h =
    Bares k c h.left.controller (Some (site_of h.left, marks_in h.executed)) at
    (one-id (slice_get c.fetched i) tells i (setting_of old c) h.executed h.left h.executes)
    (bare _ reply h.gives refl) h.leaves

pub comes : (tells : Bool) (old new : Fleet) (event : FleetEvent) (reply : Reply)
    → Step tells old event reply new → Comes old event reply new
comes tells old new (BringUp k) reply h =
    called (host_at old k) old new (BringUp k) k _ reply (rises (IsFor (BringUp k)) (each-for (BringUp k))) refl h
comes tells old new (Place k request) reply h = called (host_at old k) old new (Place k request) k _ reply
    (λ m. takes (IsFor (Place k request)) (each-for (Place k request)) (refusal m request) m request refl tt) refl h
comes tells old new (Ring k) reply h =
    called (host_at old k) old new (Ring k) k _ reply (rings (IsFor (Ring k)) (each-for (Ring k))) refl h
comes tells old new (Fetch k q) reply h = fetched (host_at old k) old new k q reply refl h
comes tells old new (Execute k i) reply h = executes (host_at old k) tells old new k i reply refl h
comes tells old new (Poll k) reply h = called (host_at old k) old new (Poll k) k _ reply
    (polls (IsFor (Poll k)) (each-for (Poll k)) (λ lane first rest. tt)) refl h
comes tells old new (Reset k) reply h = called (host_at old k) old new (Reset k) k _ reply
    (λ m. clears (IsFor (Reset k)) (each-for (Reset k)) m seen.Reset reset-quiet) refl h
comes tells old new (RawStore k address bytes) reply h =
    raw (host_at old k) old new (RawStore k address bytes) k _ _ reply (store-id address bytes.now) refl h
comes tells old new (RawWrite32 k offset v) reply h =
    raw (host_at old k) old new (RawWrite32 k offset v) k _ _ reply (write-id offset v) refl h
comes tells old new PowerCycle reply h = Cycles (bare _ reply h.0 refl) h.1

-- only a poll returns bytes
pub polls-alone : (tells : Bool) (old new : Fleet) (event : FleetEvent) (reply : Reply)
    → Step tells old event reply new → (reply.bytes ≡ []) ⊎ IsPoll event
polls-alone tells old new event reply h = by (comes tells old new event reply h)
  where
    moves : (v : Move) (m : Mailbox) → IsFor event v → IsBare (reply_of v m) ⊎ IsPoll event
    moves (HandUp lane first rest) m of = inr of
    moves other m of = inl refl

    by : Comes old event reply new → IsBare reply ⊎ IsPoll event
    by (Rests none e) = inl none
    by (Moves k m v how at may of gives e) = subst (λ r. IsBare r ⊎ IsPoll event) (sym gives) (moves v m of)
    by (Bares k c d how at same none e) = inl none
    by (Cycles none e) = inl none

pub record Keeps (P : ℕ → Host → Type 0) : Type 0 where
  pub move : (k : ℕ) → (v : Move) → (m : Mailbox) → May v m → P k (WithDriver m) → P k (WithDriver (moved v m))
  pub marks : (k n : ℕ) → (h : Host) → P k h → P k (marked n h)
  pub raw : (k : ℕ) → (c d : Controller) → d.cntlid ≡ c.cntlid → P k (Raw c) → P k (Raw d)

abbrev pub Each : (ℕ → Host → Type 0) → Fleet → Type 0
Each P f = (k : ℕ) → (h : Host) → host_at f k ≡ Some h → P k h

-- Lists.

All : (ℕ → Host → Type 0) → List Host → Type 0
All P hs = (j : ℕ) (h : Host) → slice_get hs j ≡ Some h → P j h

all-set : (P : ℕ → Host → Type 0) (hs : List Host) (i : ℕ) (x : Host) → All P hs → P i x → All P (slice_set hs i x)
unfolding All
all-set P [] i x all is j h at = absurd (cc)
all-set P (y ∷ ys) zero x all is zero h at = subst (P zero) (same_Some _ _ at) is
all-set P (y ∷ ys) zero x all is (suc j) h at = all (suc j) h at
all-set P (y ∷ ys) (suc i) x all is zero h at = all zero h at
all-set P (y ∷ ys) (suc i) x all is (suc j) h at = all-set (λ n. P (suc n)) ys i x (λ n g e. all (suc n) g e) is j h at

all-marked : (P : ℕ → Host → Type 0) → ((k n : ℕ) → (h : Host) → P k h → P k (marked n h))
    → (w : World) (m : Marks) (k : ℕ) (hs : List Host) → All P hs → All P (marked_from w m k hs)
unfolding All
all-marked P marks w m k [] all j h at = absurd (cc)
all-marked P marks w m k (x ∷ xs) all zero h at =
    subst (P zero) (same_Some _ _ at) (maybe (is_host_among m.hosts.items (host_of w k)))
  where
    maybe : (b : Bool) → P zero (if b then marked m.nsid x else x)
    maybe true = marks zero m.nsid x (all zero x refl)
    maybe false = all zero x refl
all-marked P marks w m k (x ∷ xs) all (suc j) h at =
    all-marked (λ n. P (suc n)) (λ n i g e. marks (suc n) i g e) w m (k + 1) xs (λ n g e. all (suc n) g e) j h at

-- Fleets.

listed : (P : ℕ → Host → Type 0) (f : Fleet) → Each P f → All (λ n. P (suc n)) f.hosts
unfolding All host_at
listed P f all j h at = all (suc j) h at

each-listed : (P : ℕ → Host → Type 0) (f : Fleet) → All (λ n. P (suc n)) f.hosts → Each P f
unfolding All host_at
each-listed P f all zero h at = absurd (cc)
each-listed P f all (suc j) h at = all j h at

all-replaced : (P : ℕ → Host → Type 0) (hs : List Host) (k : ℕ) (x : Host) → All (λ n. P (suc n)) hs → P k x
    → All (λ n. P (suc n)) (replaced hs k x)
all-replaced P hs zero x all is = all
all-replaced P hs (suc i) x all is = all-set (λ n. P (suc n)) hs i x all is

put : (P : ℕ → Host → Type 0) (f : Fleet) (k : ℕ) (x : Host) → Each P f → P k x → Each P (with_host f k x)
unfolding with_host
put P f k x all is = each-listed P (with_host f k x) (all-replaced P f.hosts k x (listed P f all) is)

settles : (P : ℕ → Host → Type 0) → Keeps P → (f : Fleet) (k : ℕ) (left : Site) (x : Host) (m : Marks)
    → Each P f → P k x → Each P (settled f k left x m)
unfolding settled
settles P keeps f k left x m all is =
    each-listed P (settled f k left x m)
    (all-marked (λ n. P (suc n)) (λ k n h e. keeps.marks (suc k) n h e) left.world m 1 (replaced f.hosts k x)
    (all-replaced P f.hosts k x (listed P f all) is))

-- Events.

cycled-one : (P : ℕ → Host → Type 0) → Keeps P → (k : ℕ) (o : Option Host) → ((h : Host) → o ≡ Some h → P k h)
    → (h : Host) → option_map host_cycled o ≡ Some h → P k h
cycled-one P keeps k None all h at = absurd (none-some _ at)
cycled-one P keeps k (Some (WithDriver m)) all h at =
    subst (P k) (same_Some _ _ at) (keeps.move k (Clear seen.Cycled) m cycle-quiet (all (WithDriver m) refl))
cycled-one P keeps k (Some (Raw c)) all h at = subst (P k) (same_Some _ _ at) (keeps.raw k c _ refl (all (Raw c) refl))

pub step-keeps : (P : ℕ → Host → Type 0)
    → Keeps P → (tells : Bool) (old new : Fleet) (event : FleetEvent) (reply : Reply)
    → Step tells old event reply new → Each P old → Each P new
step-keeps P keeps tells old new event reply h all = by (comes tells old new event reply h)
  where
    becoming : (how : Option (Site × Marks)) (k : ℕ) (x : Host) → P k x → Each P (becomes how old k x)
    becoming None k x is = put P old k x all is
    becoming (Some (left, marks)) k x is = settles P keeps old k left x marks all is

    by : Comes old event reply new → Each P new
    by (Rests none e) = subst (Each P) (sym e) all
    by (Moves k m v how at may of gives e) =
        subst (Each P) (sym e)
        (becoming how k (WithDriver (moved v m)) (keeps.move k v m may (all k (WithDriver m) at)))
    by (Bares k c d how at same none e) =
        subst (Each P) (sym e) (becoming how k (Raw d) (keeps.raw k c d same (all k (Raw c) at)))
    by (Cycles none e) =
        subst (Each P) (sym e) (λ k x at. cycled-one P keeps k (host_at old k) (all k) x (sym (cycled-at old k) ∙ at))

-- Runs.
pub run-keeps : (P : ℕ → Host → Type 0)
    → Keeps P → (tells : Bool) (old new : Fleet) (events : List FleetEvent) (replies : List Reply)
    → Run tells old events replies new → Each P old → Each P new
run-keeps P keeps tells old new [] [] run all = subst (Each P) (sym run) all
run-keeps P keeps tells old new (event ∷ events) (reply ∷ later) (mid, step, rest) all =
    run-keeps P keeps tells mid new events later rest (step-keeps P keeps tells old mid event reply step all)
run-keeps P keeps tells old new events replies run all = absurd run
