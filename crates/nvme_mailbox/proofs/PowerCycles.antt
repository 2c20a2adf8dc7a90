-- For `nvme_fleet`: the effect of a power cycle on drivers, and what persists.
use Rattle.nvme_mailbox.proofs.Words.{
  ◌≡◌,
  inl,
  inr,
  ℕ,
  Bool,
  true,
  false,
  [],
  ◌∷◌,
  refl,
  sym,
  ap,
  subst,
  ◌∙◌,
  arith,
  false≢true,
  reservation_of,
  World,
  IsFleeting,
  FleetEvent,
  PowerCycle,
  Reply,
  Mailbox,
  reset,
  Fleet,
  Step,
  held_tickets,
  is_ticket,
  times,
  Forgets,
  LeavesReservation,
  ReservesNothing,
}
use Rattle.nvme_machine.specs.PowerCycles.{Persists}
use Rattle.nvme_mailbox.proofs.Answered.{done_is_its_execution, reset_clears}
use Rattle.nvme_mailbox.proofs.Apart.{hosts_are_apart}
use Rattle.nvme_mailbox.proofs.Fenced.{only_allowed_actions_reserve}
use Rattle.nvme_mailbox.proofs.Refused as refused
use Rattle.nvme_mailbox.proofs.Secrecy.{fenced_reading, fenced_reading_is_same}
use Rattle.nvme_mailbox.proofs.TicketRuns.{held-weigh, resets}
use Rattle.nvme_mailbox.specs.PowerCycles.{
  DoneSincePower,
  FencingOutlastsPower,
  IsAborted,
  PersistenceLasts,
  PowerAborts,
  RepliesOutlastPower,
  SecrecyOutlastsPower,
}
use Rattle.nvme_machine.proofs.PowerCycles.{persists-still}

-- Drivers.

-- a reset aborts exactly the requests that were held
exactly : (m : Mailbox) (t : ℕ) → times t (reset m).mailbox.aborted ≡ times t (held_tickets m)
exactly m t =
    let f = resets (is_ticket t) m in
    omega (arith, held-weigh (is_ticket t) m, f.waits, f.answered, f.aborts)

pub power_aborts : PowerAborts
power_aborts tells old new reply step k m at =
    let one = hosts_are_apart tells old new PowerCycle reply step k m at in (
      one.mailbox,
      one.host,
      subst (IsAborted m) (sym one.moves.1)
          (record { down = refl; clear = reset_clears m; aborted = refl; exactly = exactly m; next = refl }),
    )

pub done_since_power : DoneSincePower
done_since_power tells before old mid new cycle first events replies run k m at reply step ticket dw0 len status says =
    let one = power_aborts tells before old cycle first k m at in
    done_is_its_execution tells old mid new events replies run k one.0 one.1 one.2.clear reply step ticket dw0
    len status says

-- Reservations.

pub fleeting : (w : World) (n : ℕ) → Persists w n → IsFleeting (reservation_of w n) → ⊥
fleeting w n p h = let clear : p.reservation.ptpl ≡ false = subst IsFleeting p.there h in false≢true (sym clear ∙ p.set)

unforgotten : (n : ℕ) (f : Fleet) (e : FleetEvent) → Persists f.site.world n → Forgets f e n → ⊥
unforgotten n f PowerCycle p h = fleeting f.site.world n p h
unforgotten n f other p h = h

-- an event leaves it
pub left-so : (n : ℕ) (f : Fleet) (e : FleetEvent) → Persists f.site.world n → ReservesNothing n f e
    → LeavesReservation n f e
left-so n f e p quiet = (quiet, unforgotten n f e p)

pub stays-reserved : (tells : Bool) (old new : Fleet) (e : FleetEvent) (reply : Reply) (n : ℕ)
    → Step tells old e reply new → LeavesReservation n old e
    → reservation_of new.site.world n ≡ reservation_of old.site.world n
stays-reserved tells old new e reply n step quiet = elim (only_allowed_actions_reserve tells old new e reply n step) [
  | inl same ↦ same
  | inr (inl allowed) ↦ absurd (quiet.0 allowed)
  | inr (inr forgotten) ↦ absurd (quiet.1 forgotten)
]

pub persistence_lasts : PersistenceLasts
persistence_lasts tells old new [] [] n p run = (run, ap (λ (f : Fleet). reservation_of f.site.world n) run)
persistence_lasts tells old new (e ∷ events) (x ∷ later) n p (mid, allowed, step, behind) =
    let quiet = left-so n old e p allowed in
    let same = stays-reserved tells old mid e x n step quiet in
    let rest =
    persistence_lasts tells mid new events later n (persists-still old.site.world mid.site.world n same p) behind in
    ((mid, quiet, step, rest.0), rest.1 ∙ same)
persistence_lasts tells old new events later n p run = absurd run

pub fencing_outlasts_power : FencingOutlastsPower
fencing_outlasts_power tells old mid new events replies n k i x outcome all p shut run found is step =
    refused.fencing_holds tells old mid new events replies n k i x outcome all shut
    (persistence_lasts tells old mid events replies n p run).0 found is step

pub secrecy_outlasts_power : SecrecyOutlastsPower
secrecy_outlasts_power old new medium events replies n regular differ p run shut =
    fenced_reading old new medium events replies n regular differ
    (persistence_lasts true old new events replies n p run).0 shut

pub replies_outlast_power : RepliesOutlastPower
replies_outlast_power old new other medium events replies others n regular differ p run shut second calm quiet low =
    let lasts = persistence_lasts true old new events replies n p run in
    fenced_reading_is_same old new other medium events replies others n regular differ lasts.0 shut second
    calm quiet low
