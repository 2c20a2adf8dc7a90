-- For `Secrecy` and `MixedRuns`: both layers over another medium: the effect of an event on them, apart from the
-- medium.
use Rattle.nvme_fleet.proofs.Words.{
  fault_free_step,
  ◌≡◌,
  ◌<◌,
  ◌-◌,
  ◌^◌,
  ℕ,
  true,
  false,
  sym,
  ap,
  subst,
  ◌∙◌,
  Device,
  may_read,
  DifferIn,
  over,
  Subsystem,
  after_power_cycle,
  controller_at,
  FleetEvent,
  Execute,
  PowerCycle,
  FleetSeen,
  OfItsHost,
  Reply,
  Layers,
  fleet_in,
  Applies,
  Happens,
  IsRegular,
  layers_over,
  HaveTicketsOnce,
  refl,
}
use Rattle.nvme_machine.specs.declared.event.Event.TheVariants as event
use Rattle.nvme_machine.proofs.Secrecy as machine
use Rattle.nvme_fleet.specs.Layers.{Step}
use Rattle.nvme_fleet.proofs.Bytes.{same-site}
use Rattle.nvme_mailbox.proofs.Existing.{IsOther, other-site}
use Rattle.nvme_fleet.proofs.Mirrored.{quiet-over, quiet-run, rises-over}
use Rattle.nvme_fleet.proofs.Unique.{AreCalm, IsCarried, count, happens-alike, happens-alone}

over-carried : (m : Device) → IsCarried (over m)
unfolding controller_at
over-carried m = record {
  window = λ s k. refl;
  step = λ e p q x quiet h. quiet-over true e p q x m quiet h;
  run = λ events given p q quiet h. quiet-run true events given p q m quiet h;
  rises = λ k d d' p q result h. rises-over k m d d' p q result h;
}

-- One event over both media, without faults.
record AreBoth (n : ℕ) (old new other : Layers) (m : Device) : Type 0 where
  one : count new.subsystem ≡ count old.subsystem
  two : count other.subsystem ≡ count old.subsystem
  below : count old.subsystem < 2 ^ 64 - 1
  tickets : HaveTicketsOnce old
  regular : IsRegular (fleet_in old)
  differ : DifferIn n old.subsystem.world old.subsystem.device m

-- the other is the same over some medium, which still differs only there
abbrev pub IsLed : ℕ → Layers → Layers → Layers → Type 0
IsLed n old new other =
    (left : Device) × (other ≡ layers_over left new) × DifferIn n old.subsystem.world new.subsystem.device left

-- all events except executions leave the medium
quietly : (n : ℕ) (old new other : Layers) (m : Device) (e : FleetEvent) (x : FleetSeen) → AreBoth n old new other m
    → new.subsystem.device ≡ old.subsystem.device → ((k i : ℕ) → e ≡ Execute k i → ⊥) → Happens true old e x new
    → Happens true (layers_over m old) e x other → IsLed n old new other
quietly n old new other m e x both same apart h g =
    let start : m.failures ≡ count old.subsystem = both.differ.failures in
    let calm : AreCalm (over m old.subsystem) (over m new.subsystem) other.subsystem =
    record { one = refl; two = both.two ∙ sym start; below = subst (λ c. c < 2 ^ 64 - 1) (sym start) both.below } in (
      m,
      happens-alike (over m) (over-carried m) old new other e x
          (λ k i is y s. absurd (apart k i is)) calm both.tickets h g,
      subst (λ d. DifferIn n old.subsystem.world d m) (sym same) both.differ,
    )

executes : (n : ℕ) (old new other : Layers) (m : Device) (k i : ℕ) (x : FleetSeen)
    → AreBoth n old new other m → may_read old.subsystem.world k n ≡ false → Applies true old (event.Execute k i) x new
    → Happens true (layers_over m old) (Execute k i) x other → IsLed n old new other
unfolding fleet_in
executes n old new other m k i x both fenced h g =
    let o = machine.step-over n old.subsystem new.subsystem
    (event.Execute k i) h.given m both.regular.laid both.differ fenced h.step in
    let calm : AreCalm (over m old.subsystem) (over o.0 new.subsystem) other.subsystem =
    record {
      one = o.2.failures ∙ both.one ∙ sym both.differ.failures;
      two = both.two ∙ sym both.differ.failures;
      below = subst (λ c. c < 2 ^ 64 - 1) (sym both.differ.failures) both.below;
    } in (
      o.0,
      happens-alone (layers_over m old) (layers_over o.0 new) other (Execute k i) x calm both.tickets
          (record { given = h.given; step = o.1; gives = h.gives; drivers = h.drivers }) g,
      o.2,
    )

leads : (n : ℕ) (old new other : Layers) (m : Device) (e : FleetEvent) (reply : Reply) → AreBoth n old new other m
    → OfItsHost (λ k. may_read old.subsystem.world k n ≡ false) e → Step true old e reply new
    → Happens true (layers_over m old) e reply.seen other → IsLed n old new other
unfolding after_power_cycle
leads n old new other m (Execute k i) reply both fenced s g =
    executes n old new other m k i reply.seen both fenced s.below g
leads n old new other m PowerCycle reply both fenced s g =
    let below = s.below in quietly n old new other m PowerCycle reply.seen both
    (ap (λ (t : Subsystem). t.device) below.cycled) (λ k i is. cc) s.below g
leads n old new other m e reply both fenced s g =
    let same =
    same-site old new (fault_free_step (fleet_in old) e) reply (other-site (fleet_in old) e tt) s.mailboxes in
    quietly n old new other m e reply.seen both same.device (λ k i is. subst IsOther is tt) s.below g

pub step-leads : (n : ℕ) (old new other : Layers) (m : Device) (e : FleetEvent) (reply : Reply)
    → count new.subsystem ≡ count old.subsystem → count other.subsystem ≡ count old.subsystem
    → count old.subsystem < 2 ^ 64 - 1
    → HaveTicketsOnce old → IsRegular (fleet_in old) → DifferIn n old.subsystem.world old.subsystem.device m
    → OfItsHost (λ k. may_read old.subsystem.world k n ≡ false) e → Step true old e reply new
    → Step true (layers_over m old) e reply other → IsLed n old new other
step-leads n old new other m e reply one two below tickets regular differ fenced s g =
    leads n old new other m e reply
    (record { one = one; two = two; below = below; tickets = tickets; regular = regular; differ = differ })
    fenced s g.below
