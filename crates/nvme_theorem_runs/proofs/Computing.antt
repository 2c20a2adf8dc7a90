-- For all example runs: tests of the premises that compute, each of which implies its premise; and a run without a
-- fault each of whose events passes a test.
use Rattle.std.specs.List.{AllByRecursion}
use Rattle.std.specs.Prelude.{not, slice_get, ◌&&◌}
use Rattle.std.proofs.Common.{
  Bool,
  List,
  None,
  Option,
  Some,
  [],
  ap,
  false,
  refl,
  subst,
  sym,
  true,
  ℕ,
  ◌++◌,
  ◌==◌,
  ◌∙◌,
  ◌∷◌,
  ◌≡◌,
}
use Rattle.std.proofs.lemmas.Bool.{eq-eqb}
use Rattle.std.proofs.lemmas.List.{append-nil}
use Rattle.nvme_spec.specs.declared.command.Command.{Command}
use Rattle.nvme_spec.specs.declared.verdict.Verdict.{Verdict}
use Rattle.nvme_spec.specs.declared.verdict.Verdict.TheVariants.{Allowed, Denied}
use Rattle.nvme_spec.specs.Commands.{is_one_of, reserving}
use Rattle.nvme_spec.specs.IoData.{io_verdict}
use Rattle.nvme_spec.specs.Layout.{IsLaidOut, reservation_of}
use Rattle.nvme_spec.specs.Pointer.{address, next}
use Rattle.nvme_spec.specs.Reservation.{Reservation}
use Rattle.nvme_spec.specs.Rules.{test}
use Rattle.nvme_spec.specs.World.{World}
use Rattle.nvme_machine.specs.declared.event.Event.{Event}
use Rattle.nvme_machine.specs.declared.event.Event.TheVariants.{Execute, Fetch, PowerCycle, Read32, Store, Write32}
use Rattle.nvme_machine.specs.declared.fetched.FetchedCommand.{FetchedCommand}
use Rattle.nvme_machine.specs.declared.seen.Executed.TheVariants.{Posted}
use Rattle.nvme_machine.specs.declared.seen.Seen.{Seen}
use Rattle.nvme_machine.specs.declared.seen.Seen.TheVariants.{Executed}
use Rattle.nvme_machine.specs.AllowedCalls.{CallsWhere}
use Rattle.nvme_machine.specs.Controllers.{Controller, names}
use Rattle.nvme_machine.specs.EventCalls.{AreCallsOfStep}
use Rattle.nvme_machine.specs.FaultFree.{fault_free_left, fault_free_seen, fault_free_step}
use Rattle.nvme_machine.specs.FaultFreeCalls.{event_calls, fault_free_calls}
use Rattle.nvme_machine.specs.Fencing.{
  Allows,
  Forgets,
  IsAllowedAt,
  IsFleeting,
  LeavesReservation,
  ReservesNothing,
  RunWhere,
}
use Rattle.nvme_machine.specs.Preempted.{RunKeeping, place_after}
use Rattle.nvme_machine.specs.Subsystems.{OfItsController, Run, Subsystem, controller_at, controller_of}
use Rattle.nvme_machine.proofs.CallLaws.{run_calls_exist}
use Rattle.nvme_machine.proofs.Determined.{run_exists, steps}
use Rattle.nvme_machine.proofs.Layouts.{layout_stays}
use Rattle.nvme_theorem_runs.proofs.Laying.{laid}

-- an allowed command is one of these
abbrev pub passes : List Command → Verdict → Bool
passes commands (Allowed plan) = is_one_of (Some plan.kind) commands
passes commands (Denied number why) = false

abbrev pub command_allows : List Command → World → ℕ → List ℕ → ℕ → Option FetchedCommand → Bool
command_allows commands w k window n None = false
command_allows commands w k window n (Some t) =
    names n t && passes commands (io_verdict w k t.entry t.marked window)

abbrev pub controller_allows : List Command → World → ℕ → ℕ → ℕ → Option Controller → Bool
controller_allows commands w k i n None = false
controller_allows commands w k i n (Some c) = command_allows commands w k c.window n (slice_get c.fetched i)

abbrev pub allows_now : List Command → Subsystem → Event → ℕ → Bool
allows_now commands s (Execute k i) n = controller_allows commands s.world k i n (controller_at s k)
allows_now commands s other n = false

allowed-not : (commands : List Command) (s : Subsystem) (k i n : ℕ)
    → controller_allows commands s.world k i n (controller_at s k) ≡ false → IsAllowedAt commands s k i n → ⊥
allowed-not commands s k i n e x =
    let here : controller_allows commands s.world k i n (Some x.controller) ≡ false = subst
    (λ o. controller_allows commands s.world k i n o ≡ false) x.at e in
    let one : command_allows commands s.world k x.controller.window n (Some x.command) ≡ false =
    subst (λ o. command_allows commands s.world k x.controller.window n o ≡ false) x.found here in
    let named : passes commands (io_verdict s.world k x.command.entry x.command.marked x.controller.window) ≡ false =
    subst (λ b. (b && passes commands (io_verdict s.world k x.command.entry x.command.marked x.controller.window)) ≡
    false) x.named one in
    let passed : passes commands (Allowed x.allowed.plan) ≡ false = subst (λ v. passes commands v ≡ false)
    x.allowed.allowed named in
    let is : is_one_of (Some x.allowed.plan.kind) commands ≡ true = x.allowed.is_one in
    absurd (cc)

-- no event allows one of these
pub no-allowing : (commands : List Command) (n : ℕ) (s : Subsystem) (event : Event)
    → allows_now commands s event n ≡ false → Allows commands s event n → ⊥
no-allowing commands n s (Execute k i) e x = allowed-not commands s k i n e x
no-allowing commands n s (Store k address bytes) e x = x
no-allowing commands n s (Write32 k offset v) e x = x
no-allowing commands n s (Read32 k offset) e x = x
no-allowing commands n s (Fetch k q) e x = x
no-allowing commands n s PowerCycle e x = x

abbrev pub fleeting : Option Reservation → Bool
fleeting None = false
fleeting (Some r) = not r.ptpl

abbrev pub forgets_now : Subsystem → Event → ℕ → Bool
forgets_now s PowerCycle n = fleeting (reservation_of s.world n)
forgets_now s other n = false

open-twice : (b : Bool) → not b ≡ false → b ≡ false → ⊥
open-twice true e x = absurd (cc)
open-twice false e x = absurd (cc)

pub lasting : (o : Option Reservation) → fleeting o ≡ false → IsFleeting o → ⊥
lasting None e x = x
lasting (Some r) e x = open-twice r.ptpl e x

pub no-forgetting : (n : ℕ) (s : Subsystem) (event : Event) → forgets_now s event n ≡ false → Forgets s event n → ⊥
no-forgetting n s PowerCycle e x = lasting (reservation_of s.world n) e x
no-forgetting n s (Execute k i) e x = x
no-forgetting n s (Store k address bytes) e x = x
no-forgetting n s (Write32 k offset v) e x = x
no-forgetting n s (Read32 k offset) e x = x
no-forgetting n s (Fetch k q) e x = x

-- an event leaves the reservation of a namespace, and executes no reservation command on it
abbrev pub reserves_nothing : ℕ → Subsystem → Event → Bool
reserves_nothing n s event = not (allows_now reserving s event n)

abbrev pub leaves : ℕ → Subsystem → Event → Bool
leaves n s event = reserves_nothing n s event && not (forgets_now s event n)

pub negated : (b : Bool) → not b ≡ true → b ≡ false
negated true e = absurd (cc)
negated false e = refl

pub both : (a b : Bool) → (a && b) ≡ true → (a ≡ true) × (b ≡ true)
both true true e = (refl, refl)
both true false e = absurd (cc)
both false b e = absurd (cc)

pub reserving-nothing : (n : ℕ) (s : Subsystem) (event : Event) → reserves_nothing n s event ≡ true
    → ReservesNothing n s event
reserving-nothing n s event e x = no-allowing reserving n s event (negated (allows_now reserving s event n) e) x

pub leaving : (n : ℕ) (s : Subsystem) (event : Event) → leaves n s event ≡ true → LeavesReservation n s event
leaving n s event e =
    let parts = both (reserves_nothing n s event) (not (forgets_now s event n)) e in
    (reserving-nothing n s event parts.0, no-forgetting n s event (negated (forgets_now s event n) parts.1))

-- each event of the run without a fault passes a test in the state before it
abbrev pub all_along : (Subsystem → Event → Bool) → Subsystem → List Event → Bool
all_along test s [] = true
all_along test s (event ∷ events) = test s event && all_along test (fault_free_step s event).left events

pub run-where : (test : Subsystem → Event → Bool) (P : Subsystem → Event → Type 0)
    → ((s : Subsystem) (event : Event) → test s event ≡ true → P s event)
    → (s : Subsystem) (events : List Event) → IsLaidOut s.world s.device.content → all_along test s events ≡ true
    → RunWhere P s events (fault_free_seen s events) (fault_free_left s events)
run-where test P so s [] laid e = refl
run-where test P so s (event ∷ events) laid e =
    let next = (fault_free_step s event).left in
    let step = steps s event laid in
    let parts = both (test s event) (all_along test next events) e in (
      next,
      so s event parts.0,
      step,
      run-where test P so next events
          (layout_stays s next event (fault_free_step s event).seen laid step) parts.1,
    )

-- the run without a fault
pub plain-run : (s : Subsystem) (events : List Event) → IsLaidOut s.world s.device.content
    → Run true s events (fault_free_seen s events) (fault_free_left s events)
plain-run s events laid = (run_exists s events laid).0

-- lists whose first bytes are 0 and 1
abbrev pub first_of : List ℕ → ℕ
first_of [] = 2
first_of (x ∷ xs) = x

zero-is-one : ◌≡◌ {A = ℕ} 0 1 → ⊥
zero-is-one e = absurd (cc)

pub apart : (xs ys : List ℕ) → first_of xs ≡ 0 → first_of ys ≡ 1 → xs ≡ ys → ⊥
apart xs ys a b same = zero-is-one (sym a ∙ ap first_of same ∙ b)

-- no event is of a host that passes this test
abbrev pub none_passes : (ℕ → Bool) → List Event → Bool
none_passes test [] = true
none_passes test (PowerCycle ∷ events) = none_passes test events
none_passes test (event ∷ events) = not (test (controller_of event)) && none_passes test events

host-of : (test : ℕ → Bool) (event : Event) → test (controller_of event) ≡ false
    → OfItsController (λ k. test k ≡ false) event
host-of test (Store k address bytes) e = e
host-of test (Write32 k offset v) e = e
host-of test (Read32 k offset) e = e
host-of test (Fetch k q) e = e
host-of test (Execute k i) e = e
host-of test PowerCycle e = tt

pub no-host : (test : ℕ → Bool) (events : List Event) → none_passes test events ≡ true
    → AllByRecursion (OfItsController (λ k. test k ≡ false)) events
no-host test [] e = tt
no-host test (PowerCycle ∷ events) e = (tt, no-host test events e)
no-host test (event ∷ events) e =
    let parts = both (not (test (controller_of event))) (none_passes test events) e in
    (host-of test event (negated (test (controller_of event)) parts.0), no-host test events parts.1)

-- numbers that a test distinguishes
pub distinct : (n m : ℕ) → (n == m) ≡ false → n ≡ m → ⊥
distinct n m other same = let e : (n == m) ≡ true = eq-eqb n m same in absurd (cc)

-- where a command is after a run
abbrev pub place_if : Option ℕ → (ℕ → Option ℕ) → Option ℕ
place_if None next = None
place_if (Some l) next = next l

abbrev pub followed : Subsystem → ℕ → ℕ → List Event → Option ℕ
followed s j m [] = Some m
followed s j m (event ∷ events) = place_if (place_after s j m event)
    (λ l. followed (fault_free_step s event).left j l events)

some-place : (o : Option ℕ) (next : ℕ → Option ℕ) (l : ℕ) → place_if o next ≡ Some l → (place : ℕ) × (o ≡ Some place)
    × (next place ≡ Some l)
some-place None next l e = absurd (cc)
some-place (Some place) next l e = (place, refl, e)

pub run-keeping : (j : ℕ) (s : Subsystem) (m : ℕ) (events : List Event) (l : ℕ) → IsLaidOut s.world s.device.content
    → followed s j m events ≡ Some l
    → RunKeeping true j s m events (fault_free_seen s events) (fault_free_left s events) l
run-keeping j s m [] l laid e = let same : l ≡ m = cc in (refl, same)
run-keeping j s m (event ∷ events) l laid e =
    let next = (fault_free_step s event).left in
    let step = steps s event laid in
    let p = some-place (place_after s j m event) (λ place. followed next j place events) l e in (
      next,
      p.0,
      step,
      p.1,
      run-keeping j next p.0 events l (layout_stays s next event (fault_free_step s event).seen
          laid step) p.2,
    )

-- the rule that denied what an event executed; 0, if none did
abbrev pub rule_of : Seen → ℕ
rule_of (Executed (Posted outcome)) = outcome.rule
rule_of other = 0

-- The calls of an event over a medium without faults.
pub step-calls : (s : Subsystem) (event : Event) → IsLaidOut s.world s.device.content
    → AreCallsOfStep true s event (fault_free_step s event).seen (fault_free_step s event).left (event_calls s event)
step-calls s event laid =
    let r = (run_calls_exist s (event ∷ []) laid).0 in
    let own : r.1 ≡ event_calls s event = sym (append-nil r.1) ∙ ap (λ cs. r.1 ++ cs) (sym r.4.1) ∙ sym r.5
    ∙ append-nil (event_calls s event) in
    subst (λ cs. AreCallsOfStep true s event (fault_free_step s event).seen (fault_free_step s event).left cs) own
    (subst (λ mid. AreCallsOfStep true s event (fault_free_step s event).seen mid r.1) (sym r.4.0) r.3)

pub calls-where : (test : Subsystem → Event → Bool) (P : Subsystem → Event → Type 0)
    → ((s : Subsystem) (event : Event) → test s event ≡ true → P s event)
    → (s : Subsystem) (events : List Event) → IsLaidOut s.world s.device.content → all_along test s events ≡ true
    → CallsWhere P true s events (fault_free_seen s events) (fault_free_left s events) (fault_free_calls s events)
calls-where test P so s [] laid e = (refl, refl)
calls-where test P so s (event ∷ events) laid e =
    let next = (fault_free_step s event).left in
    let parts = both (test s event) (all_along test next events) e in
    let rest = layout_stays s next event (fault_free_step s event).seen laid (steps s event laid) in (
      next,
      event_calls s event,
      fault_free_calls next events,
      so s event parts.0,
      step-calls s event laid,
      calls-where test P so next events rest parts.1,
      refl,
    )

pub left-laid : (s : Subsystem) (events : List Event) → IsLaidOut s.world s.device.content
    → IsLaidOut (fault_free_left s events).world (fault_free_left s events).device.content
left-laid s [] laid = laid
left-laid s (event ∷ events) laid =
    left-laid (fault_free_step s event).left events (layout_stays s (fault_free_step s event).left event
    (fault_free_step s event).seen laid (steps s event laid))
