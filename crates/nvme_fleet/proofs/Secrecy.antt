-- Proof of the law `fenced_hosts_learn_nothing`: what hosts that may not read a namespace learn of its bytes, for both
-- layers.
use Rattle.nvme_fleet.proofs.Words.{
  ◌≡◌,
  ◌<◌,
  ◌-◌,
  ◌^◌,
  ℕ,
  true,
  List,
  [],
  ◌∷◌,
  sym,
  ap,
  subst,
  ◌∙◌,
  arith,
  Device,
  DifferIn,
  differ-still,
  FleetEvent,
  Reply,
  Layers,
  fleet_in,
  LeavesReservation,
  RunWhere,
  Fleet,
  IsRegular,
  LayersReadTheSame,
  MayNotRead,
  layers_over,
  HaveTicketsOnce,
}
use Rattle.nvme_fleet.specs.Bytes as bytes
use Rattle.nvme_fleet.proofs.Bytes.{runs_of_mailboxes}
use Rattle.nvme_mailbox.proofs.Fenced.{extents-stay, reading-stays, step-acts}
use Rattle.nvme_mailbox.proofs.Regular.{step-regular}
use Rattle.nvme_fleet.proofs.LayersOver.{step-leads}
use Rattle.nvme_fleet.proofs.Unique.{count, happens-once, run-counted, step-counted}
use Rattle.nvme_fleet.specs.Layers as layers
use Rattle.nvme_mailbox.proofs.Secrecy.{fenced_reading_is_same, still}

below : (P : Fleet → FleetEvent → Type 0) (old new : Layers) (events : List FleetEvent) (replies : List Reply)
    → bytes.RunWhere (λ l. P (fleet_in l)) old events replies new
    → RunWhere P true (fleet_in old) events replies (fleet_in new)
below P old new [] [] run = ap fleet_in run
below P old new (event ∷ events) (x ∷ later) run =
    (let s = run.2 in (fleet_in run.0, run.1, s.mailboxes, below P run.0 new events later run.3))
below P old new events later run = absurd run

plain-run : (P : Layers → FleetEvent → Type 0) (old new : Layers) (events : List FleetEvent) (replies : List Reply)
    → bytes.RunWhere P old events replies new → layers.Run true old events replies new
plain-run P old new [] [] run = run
plain-run P old new (event ∷ events) (x ∷ later) run = (run.0, run.2, plain-run P run.0 new events later run.3)
plain-run P old new events later run = absurd run

-- event by event the second run is the first one over another medium
leads : (n : ℕ) (old new other : Layers) (m : Device) (events : List FleetEvent) (replies : List Reply)
    → IsRegular (fleet_in old) → HaveTicketsOnce old → DifferIn n old.subsystem.world old.subsystem.device m
    → bytes.RunWhere (λ l. LeavesReservation n (fleet_in l)) old events replies new
    → MayNotRead old.subsystem.world n events → layers.Run true (layers_over m old) events replies other
    → count new.subsystem ≡ count old.subsystem → count other.subsystem ≡ count old.subsystem
    → count old.subsystem < 2 ^ 64 - 1 → (left : Device) × (other ≡ layers_over left new)
unfolding fleet_in
leads n old new other m [] [] regular tickets differ run fenced second a b low =
    (m, second ∙ ap (layers_over m) (sym run))
leads n old new other m (event ∷ events) (x ∷ later) regular tickets differ (mid, quiet, step, rest) fenced
    (mid', step', rest') a b low =
    let q = run-counted mid new events later (plain-run _ mid new events later rest) in
    let q' = run-counted mid' other events later rest' in
    let one : count mid.subsystem ≡ count old.subsystem = omega (arith, step-counted old mid event x step, q, a) in
    let two : count mid'.subsystem ≡ count old.subsystem =
    omega (arith, step-counted (layers_over m old) mid' event x step', q', b, differ.failures) in
    let led = step-leads n old mid mid' m event x one two low tickets regular differ fenced.0 step step' in
    let same = extents-stay (fleet_in old) (fleet_in mid) event
    (step-acts true (fleet_in old) (fleet_in mid) event x step.mailboxes) in
    leads n mid new other led.0 events later (step-regular (fleet_in old) (fleet_in mid) event x step.mailboxes regular)
    (happens-once true old mid event x.seen step.below tickets)
    (differ-still n old.subsystem.world mid.subsystem.world mid.subsystem.device led.0 same led.2) rest
    (still old.subsystem.world mid.subsystem.world n events
    (reading-stays true (fleet_in old) (fleet_in mid) event x n step.mailboxes quiet) fenced.1)
    (subst (λ l. layers.Run true l events later other) led.1 rest') (a ∙ sym one) (b ∙ sym one)
    (subst (λ c. c < 2 ^ 64 - 1) (sym one) low)
leads n old new other m events later regular tickets differ run fenced second a b low = absurd run

pub layers_read_the_same : LayersReadTheSame
unfolding fleet_in
layers_read_the_same old new other d events replies others n regular tickets differ run fenced second calm quiet low =
    let r = fenced_reading_is_same (fleet_in old) (fleet_in new) (fleet_in other) d events replies others n regular
    differ (below (LeavesReservation n) old new events replies run) fenced
    (runs_of_mailboxes true (layers_over d old) other events others second) calm quiet low in
    let l = leads n old new other d events replies regular tickets differ run fenced
    (subst (λ given. layers.Run true (layers_over d old) events given other) r.0 second) calm quiet low in
    (r.0, l.1 ∙ ap (λ x. layers_over x new) (sym (ap (λ (x : Layers). x.subsystem.device) l.1)), r.2)
