-- For laws of fencing: the permissions to write, over runs of a fleet.
use Rattle.nvme_mailbox.proofs.Words.{
  ◌≡◌,
  ◌⊎◌,
  inl,
  inr,
  ℕ,
  ◌==◌,
  Bool,
  true,
  List,
  [],
  ◌∷◌,
  refl,
  sym,
  ap,
  subst,
  ◌∙◌,
  cases_Bool,
  eqb-true,
  eqb-false,
  nsid,
  reserving,
  reservation_outcome,
  Device,
  reservation_of,
  may_write,
  may_read,
  cycled_world,
  World,
  host_of,
  IsReserved,
  is-reserved,
  cycle_keeps_places,
  HasSameExtents,
  Cycled,
  IsFleeting,
  Subsystem,
  after_power_cycle,
  FleetEvent,
  Reply,
  Fleet,
  Step,
  Run,
  IoCommand,
  Allows,
  Forgets,
  OnlyAllowedActionsReserve,
  LeavesReservation,
  PermissionsStay,
  RunWhere,
}
use Rattle.nvme_machine.specs.declared.event.Event.TheVariants as machine_event
use Rattle.nvme_machine.proofs.Fencing.{may-still, read-still}
use Rattle.nvme_machine.proofs.Layouts as machine
use Rattle.nvme_mailbox.proofs.IoExecutions.{ActsOn, Acts, Rests, Reserves, Loses, acts, leaves}

-- a reservation command leaves all of a world except its own reservation
pub reserved : (w v : World) (x : IoCommand) (k : ℕ) → ActsOn k x w v → IsReserved (nsid x.entry) w v
reserved w v x k h = subst (IsReserved (nsid x.entry) w) (sym h.leaves)
    (is-reserved w (nsid x.entry) (reservation_outcome w k x.entry x.sent))

pub hosts-stay : (old new : Fleet) (event : FleetEvent) → Acts old new event → (k : ℕ)
    → host_of new.site.world k ≡ host_of old.site.world k
hosts-stay old new event (Rests h) k = let e = h.extents in e.hosts k
hosts-stay old new event (Reserves j i number is x found numbered h) k =
    (reserved old.site.world new.site.world x number h).layout.hosts k
hosts-stay old new event (Loses is world) k = let places = cycle_keeps_places old.site.world in
    ap (λ w. host_of w k) world ∙ places.hosts k

-- the namespaces stay at their places
pub extents-stay : (old new : Fleet) (event : FleetEvent)
    → Acts old new event → HasSameExtents old.site.world new.site.world
extents-stay old new event (Rests h) = h.extents
extents-stay old new event (Reserves j i number is x found numbered h) =
    let l = (reserved old.site.world new.site.world x number h).layout in
    record { hosts = l.hosts; extents = l.extents }
extents-stay old new event (Loses is world) =
    let places = cycle_keeps_places old.site.world in
    subst (HasSameExtents old.site.world) (sym world) (record { hosts = places.hosts; extents = places.extents })

-- a power cycle keeps a reservation, unless it does not persist
cycled-or : (w : World) (d : Device) (n : ℕ)
    → (reservation_of (cycled_world w) n ≡ reservation_of w n) ⊎ IsFleeting (reservation_of w n)
unfolding after_power_cycle
cycled-or w d n =
    let s : Subsystem = record { world = w; device = d; controllers = [] } in
    elim (machine.only_allowed_actions_reserve true s (after_power_cycle s) machine_event.PowerCycle Cycled n
    (refl, refl)) [
      | inl same ↦ inl same
      | inr (inl allowed) ↦ absurd allowed
      | inr (inr fleeting) ↦ inr fleeting
    ]

action : (old new : Fleet) (event : FleetEvent) (n : ℕ) → Acts old new event
    → (reservation_of new.site.world n ≡ reservation_of old.site.world n) ⊎ Allows reserving old event n
    ⊎ Forgets old event n
action old new event n (Rests h) = inl (h.reservations n)
action old new event n (Reserves k i number is x found numbered h) =
    elim (cases_Bool (nsid x.entry == n)) [
      | inl here ↦ inr (inl (subst (λ e. Allows reserving old e n) (sym is)
          (record {
            command = x;
            found = found;
            is = record { names = eqb-true (nsid x.entry) n here; is_one = h.is_one };
            allowed = h.allowed;
          })))
      | inr there ↦ (let r = reserved old.site.world new.site.world x number h in
          inl (r.others n (λ same. eqb-false (nsid x.entry) n there (sym same))))
    ]
action old new event n (Loses is world) = elim (cycled-or old.site.world old.site.device n) [
  | inl same ↦ inl (ap (λ w. reservation_of w n) world ∙ same)
  | inr fleeting ↦ inr (inr (subst (λ e. Forgets old e n) (sym is) fleeting))
]

pub step-acts : (tells : Bool) (old new : Fleet) (event : FleetEvent) (reply : Reply)
    → Step tells old event reply new → Acts old new event
step-acts tells old new event reply step = acts tells old new event (leaves tells old new event reply step)

pub only_allowed_actions_reserve : OnlyAllowedActionsReserve
only_allowed_actions_reserve tells old new event reply n step =
    action old new event n (step-acts tells old new event reply step)

-- so a permission stays, if it depends on hosts and reservations
permission-stays : (may : World → ℕ → ℕ → Bool) → ((v w : World) → (n k : ℕ) → host_of w k ≡ host_of v k
    → reservation_of w n ≡ reservation_of v n → may w k n ≡ may v k n)
    → (tells : Bool) (old new : Fleet) (event : FleetEvent) (reply : Reply) (n : ℕ) → Step tells old event reply new
    → LeavesReservation n old event → (k : ℕ) → may new.site.world k n ≡ may old.site.world k n
permission-stays may still tells old new event reply n step quiet k =
    let h = step-acts tells old new event reply step in
    elim (action old new event n h) [
      | inl reservation ↦ still old.site.world new.site.world n k (hosts-stay old new event h k) reservation
      | inr (inl allowed) ↦ absurd (quiet.0 allowed)
      | inr (inr forgotten) ↦ absurd (quiet.1 forgotten)
    ]

pub reading-stays : (tells : Bool) (old new : Fleet) (event : FleetEvent) (reply : Reply) (n : ℕ)
    → Step tells old event reply new → LeavesReservation n old event
    → (k : ℕ) → may_read new.site.world k n ≡ may_read old.site.world k n
reading-stays tells old new event reply n step quiet k =
    permission-stays may_read read-still tells old new event reply n step quiet k

pub permissions_stay : PermissionsStay
permissions_stay tells old new [] [] n run k = ap (λ (f : Fleet). may_write f.site.world k n) run
permissions_stay tells old new (event ∷ events) (x ∷ later) n run k =
    permissions_stay tells run.0 new events later n run.3 k
    ∙ permission-stays may_write may-still tells old run.0 event x n run.2 run.1 k
permissions_stay tells old new events later n run k = absurd run

-- a run in which each event has a property is a run
pub plainly : (P : Fleet → FleetEvent → Type 0) (tells : Bool) (old new : Fleet) (events : List FleetEvent)
    (replies : List Reply) → RunWhere P tells old events replies new → Run tells old events replies new
plainly P tells old new (event ∷ events) (x ∷ later) run = (run.0, run.2, plainly P tells run.0 new events later run.3)
plainly P tells old new events later run = run
