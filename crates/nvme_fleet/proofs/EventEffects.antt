-- For the answers of the events in `member`: what each event leaves of both layers of a fleet.
use Rattle.nvme_fleet.proofs.Words.{
  AppliesRaw,
  Bool,
  CallsAt,
  Controller,
  DoesIfAny,
  Driver,
  DriverCall,
  Event,
  Executed,
  ExecutesItem,
  ExecutesOne,
  FetchedCommand,
  Fleet,
  FleetSeen,
  FleetState,
  IfNone,
  IfSome,
  Is,
  IsCalled,
  IsOfHost,
  IsSome,
  IsSoundFleet,
  IsThere,
  KeepsOthers,
  List,
  NoSuch,
  None,
  Option,
  Raw,
  Reaction,
  ReactsAs,
  Reply,
  Seen,
  Setting,
  Some,
  SoundBy,
  Store,
  Subsystem,
  WithDriver,
  Write32,
  [],
  after_fetch,
  after_store,
  after_write32,
  ap,
  arith,
  at-place,
  called,
  controller_at,
  controller_in,
  controller_of,
  data_len,
  driver_at,
  executed-back,
  false,
  fetched_at,
  fleet_in,
  fleet_of,
  get_or,
  host_at,
  host_by,
  hosts_of,
  is_some,
  layers_of,
  length,
  mailbox,
  marks_after,
  marks_in,
  none-some,
  plain,
  raw_fetch,
  raw_moment,
  reaction_to,
  refl,
  reply_in,
  same_Some,
  setting_of,
  settled,
  site_of,
  slice_get,
  slice_get_read,
  slice_get_within,
  slice_set,
  stored_seen,
  subst,
  suc,
  sym,
  told,
  true,
  with_driver,
  with_host,
  wrote,
  zero,
  ℕ,
  ◌+◌,
  ◌-◌,
  ◌<◌,
  ◌∙◌,
  ◌∷◌,
  ◌≡◌,
  ◌≤◌,
  drop,
  refill-all,
  take,
  ◌++◌,
  new_controller,
  Layers,
  common_steps,
}
use Rattle.nvme_machine.specs.declared.seen.Seen.TheVariants as given
use Rattle.nvme_machine.specs.Subsystems.{Step, ExecutesAt, with_controller}
use Rattle.nvme_subsys.proofs.Numbers as numbers
use Rattle.nvme_event.specs.declared.seen.FleetSeen.TheVariants as seen
use Rattle.nvme_mailbox.specs.Fleets as mailboxes
use Rattle.nvme_mailbox.specs.Fleets.{Host}
use Rattle.nvme_refinement.proofs.ExecuteStep.{execution_is_a_step, execution_is_a_fleet_step}
use Rattle.nvme_refinement.proofs.FetchStep.{fetch_is_a_step}
use Rattle.nvme_refinement.proofs.PostStep.{nothing_to_execute}
use Rattle.nvme_fleet.proofs.Seats.{IsSeat, has-driver, has-settled, host-same, reseated, seat}
use Rattle.std.proofs.lemmas.Option.{slice_get-get_or}

-- The result of an event of the subsystem has no data.
told-plain : (x : Seen) (buffer : List ℕ) → reply_in (told x) buffer ≡ plain (told x)
told-plain x buffer = grind (arith, common_steps)

told-short : (x : Seen) → data_len (told x) ≡ 0
told-short x = grind (arith, common_steps)

-- Without a controller there is no host and no driver.

no-host : (ds : List (Option Driver)) (cs : List Controller) (i : ℕ)
    → slice_get cs i ≡ None → slice_get (hosts_of ds cs) i ≡ None
no-host [] cs i h = refl
no-host (d ∷ ds) [] i h = refl
no-host (d ∷ ds) (c ∷ cs) zero h = absurd (cc)
no-host (d ∷ ds) (c ∷ cs) (suc i) h = no-host ds cs i h

pub host-none : (a : FleetState) (k : ℕ) → controller_at a.subsystem k ≡ None → host_at (fleet_of a) k ≡ None
unfolding fleet_in host_at controller_at
host-none a zero h = refl
host-none a (suc n) h = no-host a.drivers a.subsystem.controllers n h

no-driver : (ds : List (Option Driver)) (cs : List Controller) (i : ℕ) → length ds ≡ length cs → slice_get cs i ≡ None
    → slice_get ds i ≡ None
no-driver [] cs i long h = refl
no-driver (d ∷ ds) [] i long h = absurd (omega (arith, long))
no-driver (d ∷ ds) (c ∷ cs) zero long h = absurd (cc)
no-driver (d ∷ ds) (c ∷ cs) (suc i) long h = no-driver ds cs i (omega (arith, long)) h

pub driver-none : (a : FleetState) (k : ℕ) → IsSoundFleet a → controller_at a.subsystem k ≡ None
    → driver_at a.drivers k ≡ None
unfolding controller_at
driver-none a zero s h = refl
driver-none a (suc n) s h = no-driver a.drivers a.subsystem.controllers n s.pairs h

-- And a controller is at its place.

pub is-there : (s : Subsystem) (k : ℕ) (c : Controller) → controller_at s k ≡ Some c → IsThere s k
unfolding controller_at
is-there s zero c h = absurd (cc)
is-there s (suc n) c h = let lt = slice_get_within s.controllers n c h in (omega arith, omega (arith, lt))

pub place-is : (k : ℕ) → 1 ≤ k → k ≡ k - 1 + 1
place-is k h = omega (arith, h)

pub place-below : (s : Subsystem) (k : ℕ) → IsThere s k → k - 1 < length s.controllers
place-below s k h = omega (arith, h.0, h.1)

found-there : (s : Subsystem) (k : ℕ) → IsThere s k → controller_at s k ≡ Some (controller_in s (k - 1))
found-there s k there = at-place s k (k - 1) (controller_in s (k - 1)) (place-is k there.0)
    (slice_get-get_or s.controllers (k - 1) (new_controller 0) (place-below s k there))

pub controller-is-in : (s : Subsystem) (k : ℕ) (c : Controller)
    → controller_at s k ≡ Some c → controller_in s (k - 1) ≡ c
controller-is-in s k c h = same_Some (controller_in s (k - 1)) c (sym (found-there s k (is-there s k c h)) ∙ h)

-- what is borrowed of it
pub is-some-there : {A : Type 0} (o : Option A) (s : Subsystem) (k : ℕ)
    → IsThere s k → IfNone o (controller_at s k ≡ None) → IsSome o
is-some-there (Some x) s k there h = refl
is-some-there None s k there h = absurd (none-some _ (sym h ∙ found-there s k there))

pub lent-there : {A : Type 0} (f : A → Controller) (o : Option A) (x : A) (s : Subsystem) (k : ℕ)
    → o ≡ Some x → IfSome o (λ y. controller_at s k ≡ Some (f y)) → controller_in s (k - 1) ≡ f x
lent-there f o x s k is h =
    controller-is-in s k (f x) (subst (λ p. IfSome p (λ y. controller_at s k ≡ Some (f y))) is h)

-- the driver that is borrowed from the place of a controller
pub record IsFound (a : FleetState) (k : ℕ) (d : Option Driver) : Type 0 where
  pub there : IsThere a.subsystem k
  pub driver : driver_at a.drivers k ≡ Some d
  pub seat : IsSeat a k d (controller_in a.subsystem (k - 1))

pub found-at : (a old : FleetState) (k n : ℕ) (d : Option Driver)
    → a ≡ old → IsSoundFleet a → (n ≡ k - 1) × IsThere old.subsystem k → d ≡ get_or a.drivers n d → IsFound a k d
found-at a old k n d same s some is =
    let there : IsThere a.subsystem k = subst (λ (t : FleetState). IsThere t.subsystem k) (sym same) some.1 in
    let next : k ≡ suc (k - 1) = omega (arith, there.0) in
    let read = slice_get_read a.drivers (length a.drivers) (k - 1) d refl (omega (arith, s.pairs, there.0, there.1))
    (subst (λ m. d ≡ get_or a.drivers m d) some.0 is) in
    let at : driver_at a.drivers k ≡ Some d = ap (driver_at a.drivers) next ∙ read in
    record {
      there = there;
      driver = at;
      seat = seat a k d (controller_in a.subsystem (k - 1)) s at (found-there a.subsystem k there);
    }

-- The fleet after one event of the subsystem.

abbrev pub with-subsystem : FleetState → Subsystem → FleetState
with-subsystem a s = record a { subsystem = s }

pub record HasApplied (P : Reply → Fleet → Type 0) (a : FleetState) (new : Subsystem) (what : FleetSeen) : Type 0 where
  pub step : P (reply_in what a.buffer) (fleet_of (with-subsystem a new))
  pub sound : IsSoundFleet (with-subsystem a new)
  pub fits : data_len what ≤ length a.buffer

has-applied : (P : Reply → Fleet → Type 0) (a : FleetState) (new : Subsystem) (x : Seen)
    → P (plain (told x)) (fleet_of (with-subsystem a new)) → IsSoundFleet (with-subsystem a new)
    → HasApplied P a new (told x)
has-applied P a new x step sound = record {
  step = subst (λ r. P r (fleet_of (with-subsystem a new))) (sym (told-plain x a.buffer)) step;
  sound = sound;
  fits = let e = told-short x in omega (arith, e);
}

same-given : (P : Reply → Fleet → Type 0) (a : FleetState) (new : Subsystem) (x y : Seen)
    → x ≡ y → HasApplied P a new (told y) → HasApplied P a new (told x)
same-given P a new x y e h = subst (λ z. HasApplied P a new (told z)) (sym e) h

still : (P : Reply → Fleet → Type 0) (a : FleetState) (new : Subsystem) (x y : Seen)
    → x ≡ y → new ≡ a.subsystem → IsSoundFleet a → P (plain (told y)) (fleet_of a) → HasApplied P a new (told x)
still P a new x y e same s step =
    same-given P a new x y e (subst (λ n. HasApplied P a n (told y)) (sym same) (has-applied P a a.subsystem y step s))

-- A fetch.

fetch-gives : (q : ℕ) (c : Controller) → (after_fetch q c).seen ≡ given.Fetched (raw_fetch c q)
unfolding after_fetch
fetch-gives q c = grind (arith, common_steps)

-- it is the step of the host, and keeps its driver sound
record HasFetched (f g : Fleet) (k q : ℕ) (d : Option Driver) (c : Controller) : Type 0 where
  step : g ≡ with_host f k (host_by d (after_fetch q c).controller)
      → Is (fetched_at (Some (host_by d c)) f k q) (plain (seen.Fetched (raw_fetch c q))) g
  sound : SoundBy d (after_fetch q c).controller

has-fetched : (f g : Fleet) (k q : ℕ) (d : Option Driver) (c : Controller) → SoundBy d c → HasFetched f g k q d c
has-fetched f g k q None c s = record { step = λ h. (refl, h); sound = tt }
has-fetched f g k q (Some d) c s =
    let r = fetch_is_a_step d c q s in
    record { step = λ h. (sym r.gives, h ∙ ap (λ m. with_host f k (WithDriver m)) (sym r.mail)); sound = r.sound }

pub fetched-if : (o : Option Controller) (a : FleetState) (new : Subsystem) (k q : ℕ) (x : Seen)
    → controller_at a.subsystem k ≡ o → IsSoundFleet a → ReactsAs o a.subsystem k (after_fetch q) x new
    → HasApplied (λ r f. Is (fetched_at (host_at (fleet_of a) k) (fleet_of a) k q) r f) a new (told x)
fetched-if None a new k q x at s h =
    still _ a new x given.NoController h.0 h.1 s
    (subst (λ o. Is (fetched_at o (fleet_of a) k q) (plain seen.NoController) (fleet_of a))
    (sym (host-none a k at)) (refl, refl))
fetched-if (Some c) a new k q x at s h =
    let d = has-driver a k c s at in
    let t = seat a k d.0 c s d.1 at in
    let b : FleetState = with-subsystem a new in
    let f = has-fetched (fleet_of a) (fleet_of b) k q d.0 c t.sound in
    let r = reseated a b k d.0 (after_fetch q c).controller s f.sound (sym t.kept) h.1 refl refl in
    same-given _ a new x (given.Fetched (raw_fetch c q)) (h.0 ∙ fetch-gives q c)
    (has-applied _ a new (given.Fetched (raw_fetch c q))
    (subst (λ o. Is (fetched_at o (fleet_of a) k q) (plain (seen.Fetched (raw_fetch c q))) (fleet_of b)) (sym t.host)
    (f.step r.fleet)) r.sound)

-- An execution.

-- the driver stays, the controller changes, and the hosts that this removes are marked
settles : (tells : Bool) (a : FleetState) (new : Subsystem)
    (k n : ℕ) (d : Option Driver) (c : Controller) (x : Seen) (executed : Executed) (left : Setting)
    → IsSoundFleet a → IsThere a.subsystem k → IsSeat a k d c → SoundBy d left.controller
    → x ≡ given.Executed executed → new ≡ numbers.with_outcome executed (numbers.after-set a.subsystem (k - 1) left)
    → mailboxes.ExecutesAt (host_at (fleet_of a) k) tells (fleet_of a) k n (plain (seen.Executed executed))
    (settled (fleet_of a) k (site_of left) (host_by d left.controller) (marks_in executed))
    → HasApplied (λ r f. mailboxes.ExecutesAt (host_at (fleet_of a) k) tells (fleet_of a) k n r f) a new (told x)
settles tells a new k n d c x executed left s there t sound gives leaves step =
    let at = ap (λ cs. (let b : Subsystem = record {
      world = left.world;
      device = left.device;
      controllers = marks_after left.world executed cs;
    } in b)) (sym (numbers.replaced-at a.subsystem.controllers k (k - 1) left.controller (place-is k there.0))) in
    let r = has-settled a (with-subsystem a new) k d executed left s sound t.kept refl (leaves ∙ at) in
    same-given _ a new x (given.Executed executed) gives (has-applied _ a new (given.Executed executed)
    (subst (mailboxes.ExecutesAt (host_at (fleet_of a) k) tells (fleet_of a) k n (plain (seen.Executed executed)))
    (sym r.fleet) step) r.sound)

-- of a host with this driver, if it has one, whose controller has fetched this command, if it exists
executed-by : (d : Option Driver)
    (o : Option FetchedCommand) (tells : Bool) (a : FleetState) (new : Subsystem) (k n : ℕ) (x : Seen)
    → slice_get (controller_in a.subsystem (k - 1)).fetched n ≡ o → IsSoundFleet a → IsThere a.subsystem k
    → IsSeat a k d (controller_in a.subsystem (k - 1)) → (controller_in a.subsystem (k - 1)).cntlid ≡ k
    → ExecutesAt (controller_at a.subsystem k) tells a.subsystem k n x new
    → HasApplied (λ r f. mailboxes.ExecutesAt (host_at (fleet_of a) k) tells (fleet_of a) k n r f) a new (told x)
unfolding fleet_in
executed-by None o tells a new k n x at s there t named h =
    let c : Controller = controller_in a.subsystem (k - 1) in
    let f : Fleet = fleet_of a in
    let e = executed-back tells a.subsystem k (k - 1) c n x new (place-is k there.0)
    (slice_get-get_or a.subsystem.controllers (k - 1) (new_controller 0) (place-below a.subsystem k there)) named h in
    settles tells a new k n None c x e.executed e.left s there t tt e.gives e.leaves
    (subst (λ y. mailboxes.ExecutesAt y tells f k n (plain (seen.Executed e.executed))
    (settled f k (site_of e.left) (host_by None e.left.controller) (marks_in e.executed))) (sym t.host)
    (record { executed = e.executed; left = e.left; executes = e.executes; gives = refl; leaves = refl }))
executed-by (Some d) (Some command) tells a new k n x at s there t named h =
    let c : Controller = controller_in a.subsystem (k - 1) in
    let f : Fleet = fleet_of a in
    let e = executed-back tells a.subsystem k (k - 1) c n x new (place-is k there.0)
    (slice_get-get_or a.subsystem.controllers (k - 1) (new_controller 0) (place-below a.subsystem k there)) named h in
    let r = execution_is_a_step tells d n command (setting_of f c) e.executed e.left t.sound at e.executes in
    settles tells a new k n (Some d) c x e.executed e.left s there t r.sound e.gives e.leaves
    (execution_is_a_fleet_step tells f k d c n command e.executed e.left t.sound named t.host at e.executes)
executed-by (Some d) None tells a new k n x at s there t named h =
    let c : Controller = controller_in a.subsystem (k - 1) in
    let f : Fleet = fleet_of a in
    let one : ExecutesOne (slice_get c.fetched n) tells a.subsystem k c n x new =
    subst (λ o. ExecutesAt o tells a.subsystem k n x new) (found-there a.subsystem k there) h in
    let none : ExecutesOne None tells a.subsystem k c n x new =
    subst (λ o. ExecutesOne o tells a.subsystem k c n x new) at one in
    still _ a new x (given.Executed NoSuch) none.0 none.1 s
    (subst (λ y. mailboxes.ExecutesAt y tells f k n (plain (seen.Executed NoSuch)) f) (sym t.host)
    (subst (λ y. ExecutesItem y tells f k (mailbox d c) n (plain (seen.Executed NoSuch)) f)
    (sym (nothing_to_execute d c n at)) (refl, refl)))

pub executed-there : (tells : Bool) (a : FleetState) (new : Subsystem) (k n : ℕ) (x : Seen)
    → IsSoundFleet a → IsThere a.subsystem k → (controller_in a.subsystem (k - 1)).cntlid ≡ k
    → ExecutesAt (controller_at a.subsystem k) tells a.subsystem k n x new
    → HasApplied (λ r f. mailboxes.ExecutesAt (host_at (fleet_of a) k) tells (fleet_of a) k n r f) a new (told x)
executed-there tells a new k n x s there named h =
    let c : Controller = controller_in a.subsystem (k - 1) in
    let d = has-driver a k c s (found-there a.subsystem k there) in
    executed-by d.0 (slice_get c.fetched n) tells a new k n x refl s there
    (seat a k d.0 c s d.1 (found-there a.subsystem k there)) named h

-- An event of a raw host.

stored-gives : (address : ℕ) (bytes : List ℕ) (c : Controller)
    → told (let r : Reaction = after_store address bytes c in r.seen) ≡ stored_seen address bytes
unfolding after_store
stored-gives address bytes c = grind (arith, common_steps)

changes : (a : FleetState)
    (new : Subsystem) (k : ℕ) (d : Option Driver) (f : Controller → Reaction) (what : FleetSeen) (x : Seen)
    → IsSoundFleet a → IsThere a.subsystem k → IsSeat a k d (controller_in a.subsystem (k - 1)) → is_some d ≡ false
    → ((c : Controller) → told (f c).seen ≡ what) → ReactsAs (controller_at a.subsystem k) a.subsystem k f x new
    → HasApplied (λ r g. Is (mailboxes.raw_at (host_at (fleet_of a) k) (fleet_of a) k (λ c. (f c).controller) what) r g)
    a new (told x)
changes a new k d f what x s there held none gives h =
    let c : Controller = controller_in a.subsystem (k - 1) in
    let b : FleetState = with-subsystem a new in
    let t : IsSeat a k None c = subst (λ e. IsSeat a k e c) (grind (arith, common_steps, none)) held in
    let r = subst (λ o. ReactsAs o a.subsystem k f x new) (found-there a.subsystem k there) h in
    let p = reseated a b k None (f c).controller s tt (sym t.kept) r.1 refl refl in
    has-applied _ a new x
    (subst (λ o. Is (mailboxes.raw_at o (fleet_of a) k (λ y. (f y).controller) what) (plain (told x)) (fleet_of b))
    (sym t.host) (ap plain (ap told r.0 ∙ gives c), p.fleet)) p.sound

pub applied-raw : (tells : Bool) (a : FleetState) (new : Subsystem) (k : ℕ) (d : Option Driver) (event : Event)
    (x : Seen) → IsSoundFleet a → IsFound a k d → is_some d ≡ false → controller_of event ≡ k → IsOfHost event
    → Step tells a.subsystem event x new → HasApplied (λ r f. Is (raw_moment (fleet_of a) event) r f) a new (told x)
applied-raw tells a new k d event x s at none own host h = by event own host h
  where
    by : (e : Event) → controller_of e ≡ k → IsOfHost e → Step tells a.subsystem e x new
        → HasApplied (λ r f. Is (raw_moment (fleet_of a) e) r f) a new (told x)
    by (Store j address bytes) same h step =
        let t = subst (λ n. IsFound a n d) (sym same) at in changes a new j d (after_store address bytes.now)
        (stored_seen address bytes.now) x s t.there t.seat none (stored-gives address bytes.now) step
    by (Write32 j offset v) same h step = let t = subst (λ n. IsFound a n d) (sym same) at in
        changes a new j d (wrote offset v) seen.Wrote x s t.there t.seat none (λ c. refl) step
    by e same h step = absurd h

-- a host with a driver is refused
refuses : (d : Option Driver) (a : FleetState) (k : ℕ) (c : Controller) (change : Controller → Controller)
    (what : FleetSeen) → IsSeat a k d c → is_some d ≡ true
    → Is (mailboxes.raw_at (host_at (fleet_of a) k) (fleet_of a) k change what) (plain seen.NotRaw) (fleet_of a)
refuses None a k c change what t some = absurd (cc)
refuses (Some d) a k c change what t some = subst
    (λ o. Is (mailboxes.raw_at o (fleet_of a) k change what) (plain seen.NotRaw) (fleet_of a)) (sym t.host) (refl, refl)

pub refused-raw : (a : FleetState) (k : ℕ) (d : Option Driver) (event : Event) → IsFound a k d → is_some d ≡ true
    → controller_of event ≡ k → IsOfHost event → Is (raw_moment (fleet_of a) event) (plain seen.NotRaw) (fleet_of a)
refused-raw a k d event at some own host = by event own host
  where
    by : (e : Event) → controller_of e ≡ k → IsOfHost e
        → Is (raw_moment (fleet_of a) e) (plain seen.NotRaw) (fleet_of a)
    by (Store j address bytes) same h = let t = subst (λ n. IsFound a n d) (sym same) at in refuses d a j _
        (λ (y : Controller). (after_store address bytes.now y).controller) (stored_seen address bytes.now) t.seat some
    by (Write32 j offset v) same h = let t = subst (λ n. IsFound a n d) (sym same) at in
        refuses d a j _ (after_write32 offset v) seen.Wrote t.seat some
    by e same h = absurd h

-- the same in the subsystem
pub refused-below : (tells : Bool) (l : Layers) (k : ℕ) (d : Option Driver) (event : Event)
    → driver_at l.drivers k ≡ Some d → is_some d ≡ true → AppliesRaw (driver_at l.drivers k) tells l event seen.NotRaw l
refused-below tells l k None event at some = absurd (cc)
refused-below tells l k (Some d) event at some =
    subst (λ o. AppliesRaw o tells l event seen.NotRaw l) (sym at) (refl, refl)

pub missed-below : (tells : Bool) (l : Layers) (k : ℕ) (event : Event)
    → driver_at l.drivers k ≡ None → AppliesRaw (driver_at l.drivers k) tells l event seen.NoController l
missed-below tells l k event at = subst (λ o. AppliesRaw o tells l event seen.NoController l) (sym at) (refl, refl)

pub applied-below : (tells : Bool)
    (l : Layers) (new : Subsystem) (k : ℕ) (d : Option Driver) (event : Event) (x : Seen) (what : FleetSeen)
    → driver_at l.drivers k ≡ Some d → is_some d ≡ false → Step tells l.subsystem event x new → what ≡ told x
    → AppliesRaw (driver_at l.drivers k) tells l event what (record { subsystem = new; drivers = l.drivers })
applied-below tells l new k None event x what at none step is =
    subst (λ o. AppliesRaw o tells l event what (record { subsystem = new; drivers = l.drivers })) (sym at)
    (record { given = x; step = step; gives = is; drivers = refl })
applied-below tells l new k (Some d) event x what at none step is = absurd (cc)

-- A driver's call.

-- a call is a step of the host's mailbox, and leaves its driver sound
record HasCalled (f g : Fleet) (k : ℕ) (h : Host) (call : DriverCall) (reply : Reply) (e : Option Driver)
    (x : Controller) : Type 0 where
  step : host_at f k ≡ Some h → g ≡ with_host f k (host_by e x)
      → Is (mailboxes.called_at (Some h) f k (reaction_to call)) reply g
  sound : SoundBy e x

has-called : (f g : Fleet) (k : ℕ) (d e : Option Driver) (c x : Controller) (call : DriverCall) (reply : Reply)
    → SoundBy d c → IsCalled d c call e x reply → HasCalled f g k (host_by d c) call reply e x
has-called f g k None e c x call reply s is = record {
  step = λ at h. (is.2, h ∙ (λ j. with_host f k (host_by (is.0 j) (is.1 j))) ∙ host-same f k (Raw c) at);
  sound = subst (λ p. SoundBy p x) (sym is.0) tt;
}
has-called f g k (Some d) e c x call reply s (y, same, step) = record {
  step = λ at h. (
    sym step.gives,
    h ∙ ap (λ z. with_host f k (host_by z x)) same ∙ ap (λ m. with_host f k (WithDriver m)) (sym step.mail),
  );
  sound = subst (λ p. SoundBy p x) (sym same) step.sound;
}

pub record HasDelivered (tells : Bool) (old new : FleetState) (k : ℕ) (call : DriverCall)
    (what : FleetSeen) : Type 0 where
  pub step : Is (called (fleet_of old) k (reaction_to call)) (reply_in what new.buffer) (fleet_of new)
  pub sound : IsSoundFleet new
  pub below : CallsAt (driver_at old.drivers k) tells (layers_of old) k call what (layers_of new)

delivered : (tells : Bool) (a b : FleetState) (k : ℕ) (d e : Option Driver) (call : DriverCall) (what : FleetSeen)
    → IsSoundFleet a → IsFound a k d → b.drivers ≡ slice_set a.drivers (k - 1) e
    → IsCalled d (controller_in a.subsystem (k - 1)) call e (controller_in b.subsystem (k - 1)) (reply_in what b.buffer)
    → b.subsystem.world ≡ a.subsystem.world → b.subsystem.device ≡ a.subsystem.device
    → KeepsOthers (k - 1) a.subsystem b.subsystem → length b.buffer ≡ length a.buffer → b.filled ≡ a.filled
    → DoesIfAny tells k call d a.subsystem what e b.subsystem → HasDelivered tells a b k call what
unfolding with_controller
delivered tells a b k d e call what s at drivers calls world device others long filled does =
    let i : ℕ = k - 1 in
    let is = place-is k at.there.0 in
    let x : Controller = controller_in b.subsystem i in
    let t = at.seat in
    let h = has-called (fleet_of a) (fleet_of b) k d e (controller_in a.subsystem i) x call
    (reply_in what b.buffer) t.sound calls in
    let set = numbers.replaced-at a.subsystem.controllers k i x is in
    let next : suc i ≡ k = omega (arith, is) in
    let put = drivers ∙ ap (λ n. with_driver a.drivers n e) next in
    let r = reseated a b k e x s h.sound put
    (others ∙ (λ j. record { world = world j; device = device j; controllers = sym set j })) long filled in
    record {
      step = subst
          (λ o. Is (mailboxes.called_at o (fleet_of a) k (reaction_to call)) (reply_in what b.buffer) (fleet_of b))
          (sym t.host) (h.step t.host r.fleet);
      sound = r.sound;
      below = subst (λ o. CallsAt o tells (layers_of a) k call what (layers_of b)) (sym at.driver) (e, put, does);
    }

-- after the borrowed driver and buffer are put back
pub delivered-at : (tells : Bool) (a old : FleetState)
    (new : Subsystem) (buffer : List ℕ) (len k n : ℕ) (d e : Option Driver) (call : DriverCall) (what : FleetSeen)
    → a ≡ old → IsSoundFleet a → (n ≡ k - 1) × IsThere old.subsystem k
    → d ≡ get_or a.drivers n d
    → IsCalled d (controller_in a.subsystem (k - 1)) call e (controller_in new (k - 1)) (reply_in what buffer)
    → new.world ≡ a.subsystem.world → new.device ≡ a.subsystem.device → KeepsOthers (k - 1) a.subsystem new
    → length buffer ≡ length a.buffer → len ≡ length buffer → DoesIfAny tells k call d a.subsystem what e new
    → HasDelivered tells old (record {
      subsystem = new;
      drivers = slice_set a.drivers n e;
      buffer = take len (buffer ++ drop (length buffer) a.buffer);
      filled = a.filled;
    }) k call what
delivered-at tells a old new buffer len k n d e call what same s some is calls world device others long whole does =
    let b : FleetState =
    record { subsystem = new; drivers = slice_set a.drivers n e; buffer = buffer; filled = a.filled } in
    subst (λ xs. HasDelivered tells old (record b { buffer = xs }) k call what)
    (sym (refill-all len a.buffer buffer whole))
    (subst (λ o. HasDelivered tells o b k call what) same
    (delivered tells a b k d e call what s (found-at a old k n d same s some is)
    (ap (λ m. slice_set a.drivers m e) some.0) calls world device others long refl does))

pub missed-call : (tells : Bool) (l : Layers) (k : ℕ) (call : DriverCall)
    → driver_at l.drivers k ≡ None → CallsAt (driver_at l.drivers k) tells l k call seen.NoController l
missed-call tells l k call at = subst (λ o. CallsAt o tells l k call seen.NoController l) (sym at) (refl, refl)
