-- For `of_fleets.rt`: each premise of the laws of fleets holds for the events that it intends, and for no others.
use Rattle.std.proofs.Common.{◌≡◌, ◌≢◌, ◌⊎◌, inl, inr, ◌↔◌, ◌∷◌, [], ℕ, true, List, Some, ◌==◌, refl, subst}
use Rattle.std.proofs.lemmas.Bool.{eqb-true, eq-eqb}
use Rattle.nvme_spec.specs.declared.command.Command.{Command}
use Rattle.nvme_spec.specs.declared.command.Command.TheVariants.{ReservationRegister}
use Rattle.nvme_spec.specs.World.{host_of}
use Rattle.nvme_event.specs.declared.event.FleetEvent.{FleetEvent}
use Rattle.nvme_event.specs.declared.event.FleetEvent.TheVariants.{
  BringUp,
  Place,
  Ring,
  Fetch,
  Execute,
  Poll,
  Reset,
  RawStore,
  RawWrite32,
  PowerCycle,
}
use Rattle.nvme_event.specs.Events.{OfItsHost, controller_of}
use Rattle.nvme_mailbox.specs.Fencing.{IsAllowedAt}
use Rattle.nvme_mailbox.specs.Fleets.{Fleet}
use Rattle.nvme_mailbox.specs.Preempting.{Registers}
use Rattle.nvme_premises.specs.FleetEvents.{
  AllowsByExecution,
  AllowsIsExecution,
  ConcernsItsController,
  ForgetsIsPowerCycle,
  OfItsHostIsOfIt,
  RegistersByExecution,
  RegistersIsExecution,
}

-- if an event is an execution of an allowed command, then so is the execution with its numbers
allowed-as : (commands : List Command) (f : Fleet) (k i n : ℕ) → AllowsByExecution commands f (Execute k i) n
    → IsAllowedAt commands f k i n
allowed-as commands f k i n x =
    let e : Execute k i ≡ Execute x.cntlid x.index = x.is in
    let same : x.cntlid ≡ k = cc in
    let place : x.index ≡ i = cc in
    subst (λ j. IsAllowedAt commands f j i n) same (subst (λ j. IsAllowedAt commands f x.cntlid j n) place x.allowed)

pub allows_is_execution : AllowsIsExecution
allows_is_execution commands f (BringUp k) n = ((λ h. absurd h), (λ x. absurd (cc)))
allows_is_execution commands f (Place k request) n = ((λ h. absurd h), (λ x. absurd (cc)))
allows_is_execution commands f (Ring k) n = ((λ h. absurd h), (λ x. absurd (cc)))
allows_is_execution commands f (Fetch k q) n = ((λ h. absurd h), (λ x. absurd (cc)))
allows_is_execution commands f (Execute k i) n =
    ((λ h. record { cntlid = k; index = i; is = refl; allowed = h }), allowed-as commands f k i n)
allows_is_execution commands f (Poll k) n = ((λ h. absurd h), (λ x. absurd (cc)))
allows_is_execution commands f (Reset k) n = ((λ h. absurd h), (λ x. absurd (cc)))
allows_is_execution commands f (RawStore k address bytes) n = ((λ h. absurd h), (λ x. absurd (cc)))
allows_is_execution commands f (RawWrite32 k offset v) n = ((λ h. absurd h), (λ x. absurd (cc)))
allows_is_execution commands f PowerCycle n = ((λ h. absurd h), (λ x. absurd (cc)))

pub forgets_is_power_cycle : ForgetsIsPowerCycle
forgets_is_power_cycle f (BringUp k) n = ((λ h. absurd h), (λ x. absurd (cc)))
forgets_is_power_cycle f (Place k request) n = ((λ h. absurd h), (λ x. absurd (cc)))
forgets_is_power_cycle f (Ring k) n = ((λ h. absurd h), (λ x. absurd (cc)))
forgets_is_power_cycle f (Fetch k q) n = ((λ h. absurd h), (λ x. absurd (cc)))
forgets_is_power_cycle f (Execute k i) n = ((λ h. absurd h), (λ x. absurd (cc)))
forgets_is_power_cycle f (Poll k) n = ((λ h. absurd h), (λ x. absurd (cc)))
forgets_is_power_cycle f (Reset k) n = ((λ h. absurd h), (λ x. absurd (cc)))
forgets_is_power_cycle f (RawStore k address bytes) n = ((λ h. absurd h), (λ x. absurd (cc)))
forgets_is_power_cycle f (RawWrite32 k offset v) n = ((λ h. absurd h), (λ x. absurd (cc)))
forgets_is_power_cycle f PowerCycle n = ((λ h. (refl, h)), (λ x. x.1))

registered-as : (n host : ℕ) (f : Fleet) (k i : ℕ) → RegistersByExecution n host f (Execute k i)
    → Registers n host f (Execute k i)
registered-as n host f k i x =
    let e : Execute k i ≡ Execute x.cntlid x.index = x.is in
    let same : x.cntlid ≡ k = cc in
    let place : x.index ≡ i = cc in (
      subst (λ j. host_of f.site.world j ≡ Some host) same x.own,
      subst (λ j. IsAllowedAt (ReservationRegister ∷ []) f j i n) same
          (subst (λ j. IsAllowedAt (ReservationRegister ∷ []) f x.cntlid j n) place x.allowed),
    )

pub registers_is_execution : RegistersIsExecution
registers_is_execution n host f (BringUp k) = ((λ h. absurd h), (λ x. absurd (cc)))
registers_is_execution n host f (Place k request) = ((λ h. absurd h), (λ x. absurd (cc)))
registers_is_execution n host f (Ring k) = ((λ h. absurd h), (λ x. absurd (cc)))
registers_is_execution n host f (Fetch k q) = ((λ h. absurd h), (λ x. absurd (cc)))
registers_is_execution n host f (Execute k i) =
    ((λ h. record { cntlid = k; index = i; is = refl; own = h.0; allowed = h.1 }), registered-as n host f k i)
registers_is_execution n host f (Poll k) = ((λ h. absurd h), (λ x. absurd (cc)))
registers_is_execution n host f (Reset k) = ((λ h. absurd h), (λ x. absurd (cc)))
registers_is_execution n host f (RawStore k address bytes) = ((λ h. absurd h), (λ x. absurd (cc)))
registers_is_execution n host f (RawWrite32 k offset v) = ((λ h. absurd h), (λ x. absurd (cc)))
registers_is_execution n host f PowerCycle = ((λ h. absurd h), (λ x. absurd (cc)))

equal : (a b : ℕ) → ((a == b) ≡ true) ↔ (a ≡ b)
equal a b = (eqb-true a b, eq-eqb a b)

pub concerns_its_controller : ConcernsItsController
concerns_its_controller (BringUp k) j = ((λ h. absurd (cc)), (λ h. equal k j))
concerns_its_controller (Place k request) j = ((λ h. absurd (cc)), (λ h. equal k j))
concerns_its_controller (Ring k) j = ((λ h. absurd (cc)), (λ h. equal k j))
concerns_its_controller (Fetch k q) j = ((λ h. absurd (cc)), (λ h. equal k j))
concerns_its_controller (Execute k i) j = ((λ h. absurd (cc)), (λ h. equal k j))
concerns_its_controller (Poll k) j = ((λ h. absurd (cc)), (λ h. equal k j))
concerns_its_controller (Reset k) j = ((λ h. absurd (cc)), (λ h. equal k j))
concerns_its_controller (RawStore k address bytes) j = ((λ h. absurd (cc)), (λ h. equal k j))
concerns_its_controller (RawWrite32 k offset v) j = ((λ h. absurd (cc)), (λ h. equal k j))
concerns_its_controller PowerCycle j = ((λ h. refl), (λ h. absurd (h refl)))

-- a property of the controller that an event names, if the event is no power cycle
named-or-power : (P : ℕ → Type 0) (event : FleetEvent)
    → (event ≢ PowerCycle) → (P (controller_of event) → OfItsHost P event)
    → ((event ≡ PowerCycle) ⊎ ((event ≢ PowerCycle) × P (controller_of event))) → OfItsHost P event
named-or-power P event other said x = elim x [
  | inl e ↦ absurd (other e)
  | inr h ↦ said h.1
]

of-it : (P : ℕ → Type 0) (event : FleetEvent)
    → OfItsHost P event ↔ ((event ≡ PowerCycle) ⊎ ((event ≢ PowerCycle) × P (controller_of event)))
of-it P (BringUp k) = let other : BringUp k ≢ PowerCycle = (λ e. absurd (cc)) in
    ((λ h. inr (other, h)), named-or-power P (BringUp k) other (λ h. h))
of-it P (Place k request) = let other : Place k request ≢ PowerCycle = (λ e. absurd (cc)) in
    ((λ h. inr (other, h)), named-or-power P (Place k request) other (λ h. h))
of-it P (Ring k) = let other : Ring k ≢ PowerCycle = (λ e. absurd (cc)) in
    ((λ h. inr (other, h)), named-or-power P (Ring k) other (λ h. h))
of-it P (Fetch k q) = let other : Fetch k q ≢ PowerCycle = (λ e. absurd (cc)) in
    ((λ h. inr (other, h)), named-or-power P (Fetch k q) other (λ h. h))
of-it P (Execute k i) = let other : Execute k i ≢ PowerCycle = (λ e. absurd (cc)) in
    ((λ h. inr (other, h)), named-or-power P (Execute k i) other (λ h. h))
of-it P (Poll k) = let other : Poll k ≢ PowerCycle = (λ e. absurd (cc)) in
    ((λ h. inr (other, h)), named-or-power P (Poll k) other (λ h. h))
of-it P (Reset k) = let other : Reset k ≢ PowerCycle = (λ e. absurd (cc)) in
    ((λ h. inr (other, h)), named-or-power P (Reset k) other (λ h. h))
of-it P (RawStore k address bytes) = let other : RawStore k address bytes ≢ PowerCycle = (λ e. absurd (cc)) in
    ((λ h. inr (other, h)), named-or-power P (RawStore k address bytes) other (λ h. h))
of-it P (RawWrite32 k offset v) = let other : RawWrite32 k offset v ≢ PowerCycle = (λ e. absurd (cc)) in
    ((λ h. inr (other, h)), named-or-power P (RawWrite32 k offset v) other (λ h. h))
of-it P PowerCycle = ((λ h. inl refl), (λ x. tt))

pub of_its_host_is_of_it : OfItsHostIsOfIt
of_its_host_is_of_it holds event = of-it (λ k. holds k ≡ true) event
