-- For `EventEffects` and `PowerStep`: hosts by their numbers: a driver and its controller in a fleet, the mailbox of
-- both, and the fleet after they change.
use Rattle.nvme_fleet.proofs.Words.{
  Bool,
  Controller,
  CqFull,
  Driver,
  Executed,
  Fleet,
  FleetState,
  IsSoundFleet,
  List,
  Marks,
  NoSuch,
  Option,
  Posted,
  Setting,
  Some,
  SoundBy,
  World,
  [],
  ap,
  arith,
  controller_at,
  driver_at,
  fleet_in,
  fleet_of,
  host_at,
  host_by,
  host_of,
  hosts_of,
  if◌then◌else◌,
  is_host_among,
  length,
  length-after,
  length-set,
  marked,
  marked_from,
  marks_after,
  marks_in,
  no_marks,
  none-some,
  refl,
  same_Some,
  settled,
  site_of,
  slice_get,
  slice_set,
  subst,
  sym,
  with_driver,
  with_host,
  with_marks,
  ℕ,
  ◌+◌,
  ◌∙◌,
  ◌∷◌,
  ◌≡◌,
  Subsystem,
  false,
  suc,
  true,
  zero,
  None,
  WithDriver,
  get_or,
  slice_get_within,
}
use Rattle.nvme_mailbox.proofs.Lists.{got-back}
use Rattle.nvme_machine.specs.Subsystems as machine
use Rattle.nvme_machine.proofs.Denials.{not_one}
use Rattle.nvme_mailbox.specs.Fleets as mailboxes
use Rattle.nvme_mailbox.specs.Fleets.{Host}
use Rattle.nvme_refinement.proofs.MarkStep.{marks_are_steps}
use Rattle.std.proofs.lemmas.Option.{slice_get-get_or}

-- Hosts by their places: those of a list of drivers and a list of controllers.

-- a host is at the place of its driver and its controller
pub hosts-get : (ds : List (Option Driver)) (cs : List Controller) (i : ℕ) (d : Option Driver) (c : Controller)
    → slice_get ds i ≡ Some d → slice_get cs i ≡ Some c
    → slice_get (hosts_of ds cs) i ≡ Some (host_by d c)
hosts-get (x ∷ ds) (y ∷ cs) zero d c h g =
    λ j. Some (host_by ((same_Some _ _ h) j) ((same_Some _ _ g) j))
hosts-get (x ∷ ds) (y ∷ cs) (suc i) d c h g = hosts-get ds cs i d c h g
hosts-get ds cs i d c h g = absurd (cc)

pub hosts-set : (ds : List (Option Driver)) (cs : List Controller) (i : ℕ) (d : Option Driver) (c : Controller)
    → hosts_of (slice_set ds i d) (slice_set cs i c) ≡ slice_set (hosts_of ds cs) i (host_by d c)
hosts-set [] cs i d c = refl
hosts-set (x ∷ ds) [] zero d c = refl
hosts-set (x ∷ ds) [] (suc i) d c = refl
hosts-set (x ∷ ds) (y ∷ cs) zero d c = refl
hosts-set (x ∷ ds) (y ∷ cs) (suc i) d c = ap (λ hs. host_by x y ∷ hs) (hosts-set ds cs i d c)

-- A controller's marks reach its host, and keep it sound.
pub mark-host : (d : Option Driver) (c : Controller) (n : ℕ)
    → SoundBy d c → host_by d (with_marks n c) ≡ marked n (host_by d c)
mark-host None c n s = refl
mark-host (Some d) c n s = let m = marks_are_steps d c n s in ap WithDriver m.mail

pub mark-sound : (d : Option Driver) (c : Controller) (n : ℕ) → SoundBy d c → SoundBy d (with_marks n c)
mark-sound None c n s = tt
mark-sound (Some d) c n s = let m = marks_are_steps d c n s in m.sound

pub hosts-marked : (w : World) (m : Marks) (k : ℕ) (ds : List (Option Driver)) (cs : List Controller)
    → ((i : ℕ) (d : Option Driver) (c : Controller) → slice_get ds i ≡ Some d → slice_get cs i ≡ Some c → SoundBy d c)
    → hosts_of ds (machine.marked_from w m k cs) ≡ marked_from w m k (hosts_of ds cs)
hosts-marked w m k (d ∷ ds) (c ∷ cs) s = λ j.
    by (is_host_among m.hosts.items (host_of w k)) j ∷ hosts-marked w m (k + 1) ds cs (λ i e x h g. s (suc i) e x h g) j
  where
    by : (b : Bool)
        → host_by d (if b then with_marks m.nsid c else c) ≡ (if b then marked m.nsid (host_by d c) else host_by d c)
    by true = mark-host d c m.nsid (s 0 d c refl refl)
    by false = refl
hosts-marked w m k ds cs s = refl

-- all drivers are sound with their controllers
abbrev pub AllSound : List (Option Driver) → List Controller → Type 0
AllSound ds cs =
    (i : ℕ) (d : Option Driver) (c : Controller) → slice_get ds i ≡ Some d → slice_get cs i ≡ Some c → SoundBy d c

-- one before the others
all-cons : (y : Option Driver) (z : Controller) (ds : List (Option Driver)) (cs : List Controller)
    → SoundBy y z → AllSound ds cs → AllSound (y ∷ ds) (z ∷ cs)
all-cons y z ds cs n s zero d c h g = subst (λ p. SoundBy p c) (same_Some _ _ h) (subst (SoundBy y) (same_Some _ _ g) n)
all-cons y z ds cs n s (suc j) d c h g = s j d c h g

-- one driver and its controller are replaced
all-set : (ds : List (Option Driver)) (cs : List Controller) (i : ℕ) (e : Option Driver) (x : Controller)
    → AllSound ds cs → SoundBy e x → AllSound (slice_set ds i e) (slice_set cs i x)
all-set [] cs i e x s n = λ j d c h g. absurd (cc)
all-set (y ∷ ds) [] i e x s n = λ j d c h g. absurd (cc)
all-set (y ∷ ds) (z ∷ cs) zero e x s n = all-cons e x ds cs n (λ k p q a b. s (suc k) p q a b)
all-set (y ∷ ds) (z ∷ cs) (suc i) e x s n =
    all-cons y z (slice_set ds i e) (slice_set cs i x) (s zero y z refl refl)
    (all-set ds cs i e x (λ k p q a b. s (suc k) p q a b) n)

-- The lists of a fleet after the k-th driver and controller are replaced.
record AreSet (ds : List (Option Driver)) (cs : List Controller) (k : ℕ) (e : Option Driver)
    (x : Controller) : Type 0 where
  hosts : hosts_of (with_driver ds k e) (machine.replaced cs k x) ≡ mailboxes.replaced (hosts_of ds cs) k (host_by e x)
  pairs : length (with_driver ds k e) ≡ length (machine.replaced cs k x)
  sound : AllSound (with_driver ds k e) (machine.replaced cs k x)

are-set : (ds : List (Option Driver)) (cs : List Controller) (k : ℕ) (e : Option Driver) (x : Controller)
    → length ds ≡ length cs → AllSound ds cs → SoundBy e x → AreSet ds cs k e x
are-set ds cs zero e x pairs s n = record { hosts = refl; pairs = pairs; sound = s }
are-set ds cs (suc i) e x pairs s n = record {
  hosts = hosts-set ds cs i e x;
  pairs = length-set ds i e ∙ pairs ∙ sym (length-set cs i x);
  sound = all-set ds cs i e x s n;
}

-- A driver and its controller.
pub record IsSeat (a : FleetState) (k : ℕ) (d : Option Driver) (c : Controller) : Type 0 where
  pub host : host_at (fleet_of a) k ≡ Some (host_by d c)
  pub sound : SoundBy d c
  pub kept : with_driver a.drivers k d ≡ a.drivers

pub seat : (a : FleetState) (k : ℕ) (d : Option Driver) (c : Controller)
    → IsSoundFleet a → driver_at a.drivers k ≡ Some d → controller_at a.subsystem k ≡ Some c → IsSeat a k d c
unfolding fleet_in host_at controller_at
seat a zero d c s h g = absurd (none-some _ h)
seat a (suc i) d c s h g = record {
  host = hosts-get a.drivers a.subsystem.controllers i d c h g;
  sound = s.sound i d c h g;
  kept = got-back a.drivers i d h;
}

-- each controller has a place for a driver
pub has-driver : (a : FleetState) (k : ℕ) (c : Controller) → IsSoundFleet a → controller_at a.subsystem k ≡ Some c
    → (d : Option Driver) × (driver_at a.drivers k ≡ Some d)
unfolding controller_at
has-driver a zero c s h = absurd (none-some _ h)
has-driver a (suc i) c s h = (
  get_or a.drivers i None,
  slice_get-get_or a.drivers i None (omega (arith, s.pairs, slice_get_within a.subsystem.controllers i c h)),
)

-- A fleet after they change.
pub record IsReseated (a b : FleetState) (k : ℕ) (e : Option Driver) (x : Controller) : Type 0 where
  pub fleet : fleet_of b ≡ with_host (fleet_of a) k (host_by e x)
  pub sound : IsSoundFleet b

pub reseated : (a b : FleetState) (k : ℕ) (e : Option Driver) (x : Controller) → IsSoundFleet a → SoundBy e x
    → b.drivers ≡ with_driver a.drivers k e → b.subsystem ≡ machine.with_controller a.subsystem k x
    → length b.buffer ≡ length a.buffer → b.filled ≡ a.filled → IsReseated a b k e x
unfolding fleet_in with_host machine.with_controller
reseated a b k e x s n ds subsystem long same =
    let set = are-set a.drivers a.subsystem.controllers k e x s.pairs s.sound n in
    record {
      fleet = (λ j. fleet_in (record { subsystem = subsystem j; drivers = ds j }))
          ∙ ap (λ hs. (let f : Fleet = record (fleet_of a) { hosts = hs } in f)) set.hosts;
      sound = record {
        pairs = ap length ds ∙ set.pairs ∙ sym (ap (λ (t : Subsystem). length t.controllers) subsystem);
        sound = subst (λ ys. AllSound ys b.subsystem.controllers) (sym ds)
            (subst (λ (t : Subsystem). AllSound (with_driver a.drivers k e) t.controllers) (sym subsystem) set.sound);
        room = long ∙ s.room;
        fits = omega (arith, long, s.fits, same);
      };
    }

-- a host that is replaced by itself
pub host-same : (f : Fleet) (k : ℕ) (h : Host) → host_at f k ≡ Some h → with_host f k h ≡ f
unfolding host_at with_host
host-same f zero h at = refl
host-same f (suc i) h at = ap (λ hs. (let g : Fleet = record f { hosts = hs } in g)) (got-back f.hosts i h at)

-- Marks.

mark-one : (b : Bool) (n : ℕ) (d : Option Driver) (c : Controller)
    → SoundBy d c → SoundBy d (if b then with_marks n c else c)
mark-one true n d c s = mark-sound d c n s
mark-one false n d c s = s

all-marked : (w : World) (m : Marks) (k : ℕ) (ds : List (Option Driver)) (cs : List Controller)
    → AllSound ds cs → AllSound ds (machine.marked_from w m k cs)
all-marked w m k [] cs s = λ j d c h g. absurd (cc)
all-marked w m k (y ∷ ds) [] s = λ j d c h g. absurd (cc)
all-marked w m k (y ∷ ds) (z ∷ cs) s =
    all-cons y (if is_host_among m.hosts.items (host_of w k) then with_marks m.nsid z else z) ds
    (machine.marked_from w m (k + 1) cs)
    (mark-one (is_host_among m.hosts.items (host_of w k)) m.nsid y z (s zero y z refl refl))
    (all-marked w m (k + 1) ds cs (λ i p q a b. s (suc i) p q a b))

all-after : (w : World) (x : Executed) (ds : List (Option Driver)) (cs : List Controller)
    → AllSound ds cs → AllSound ds (marks_after w x cs)
all-after w (Posted o) ds cs s = all-marked w o.marks 1 ds cs s
all-after w other ds cs s = s

-- if no host is removed, none is marked
unmarked : (w : World) (k : ℕ) (hs : List Host) → marked_from w no_marks k hs ≡ hs
unmarked w k [] = refl
unmarked w k (h ∷ hs) =
    ap (λ b. (if b then marked 0 h else h) ∷ marked_from w no_marks (k + 1) hs) (not_one (host_of w k))
    ∙ ap (λ rest. h ∷ rest) (unmarked w (k + 1) hs)

-- the hosts after an execution
hosts-after : (w : World) (ds : List (Option Driver)) (cs : List Controller) (x : Executed)
    → AllSound ds cs → hosts_of ds (marks_after w x cs) ≡ marked_from w (marks_in x) 1 (hosts_of ds cs)
hosts-after w ds cs (Posted o) s = hosts-marked w o.marks 1 ds cs s
hosts-after w ds cs NoSuch s = sym (unmarked w 1 (hosts_of ds cs))
hosts-after w ds cs CqFull s = sym (unmarked w 1 (hosts_of ds cs))

-- A fleet after an execution of a controller, whose driver stays.
pub record IsSettled (a b : FleetState) (k : ℕ) (d : Option Driver) (x : Executed) (left : Setting) : Type 0 where
  pub fleet : fleet_of b ≡ settled (fleet_of a) k (site_of left) (host_by d left.controller) (marks_in x)
  pub sound : IsSoundFleet b

pub has-settled : (a b : FleetState) (k : ℕ) (d : Option Driver) (x : Executed) (left : Setting) → IsSoundFleet a
    → SoundBy d left.controller → with_driver a.drivers k d ≡ a.drivers → b ≡ record a { subsystem = b.subsystem }
    → b.subsystem ≡ record {
      world = left.world;
      device = left.device;
      controllers = marks_after left.world x (machine.replaced a.subsystem.controllers k left.controller);
    } → IsSettled a b k d x left
unfolding fleet_in settled
has-settled a b k d x left s n kept only subsystem =
    let w : World = left.world in
    let cs : List Controller = machine.replaced a.subsystem.controllers k left.controller in
    let set = are-set a.drivers a.subsystem.controllers k d left.controller s.pairs s.sound n in
    let all : AllSound a.drivers cs = subst (λ ds. AllSound ds cs) kept set.sound in
    subst (λ y. IsSettled a y k d x left)
    (sym (only ∙ ap (λ z. (let y : FleetState = record a { subsystem = z } in y)) subsystem)) (record {
      fleet = ap (λ hs. (let f : Fleet = record { site = site_of left; hosts = hs } in f))
          (hosts-after w a.drivers cs x all
          ∙ ap (marked_from w (marks_in x) 1) (ap (λ ds. hosts_of ds cs) (sym kept) ∙ set.hosts));
      sound = record {
        pairs = ap length (sym kept) ∙ set.pairs ∙ sym (length-after w x cs);
        sound = all-after w x a.drivers cs all;
        room = s.room;
        fits = s.fits;
      };
    })
