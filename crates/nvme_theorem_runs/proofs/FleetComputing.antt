-- For example runs of fleets: tests of the premises that compute, and runs without a fault.
use Rattle.std.specs.List.{AllByRecursion}
use Rattle.std.specs.Prelude.{not, ◌&&◌}
use Rattle.std.proofs.Common.{
  Bool,
  Err,
  List,
  None,
  Ok,
  Option,
  Some,
  [],
  ap,
  false,
  refl,
  subst,
  suc,
  sym,
  true,
  zero,
  ℕ,
  ◌==◌,
  ◌∙◌,
  ◌∷◌,
  ◌≡◌,
}
use Rattle.std.proofs.lemmas.Bool.{eq-eqb}
use Rattle.std.proofs.lemmas.Option.{same_Some}
use Rattle.nvme_wire.specs.Submission.{nsid, opcode}
use Rattle.nvme_spec.specs.declared.command.Command.{Command}
use Rattle.nvme_spec.specs.declared.command.Command.TheVariants.{ReservationRegister}
use Rattle.nvme_spec.specs.Commands.{command_of, is_one_of, reserving}
use Rattle.nvme_spec.specs.Layout.{IsLaidOut, reservation_of}
use Rattle.nvme_spec.specs.Reservation.{Reservation}
use Rattle.nvme_spec.specs.Rules.{Judgement}
use Rattle.nvme_machine.specs.declared.seen.Executed.TheVariants.{Posted}
use Rattle.nvme_event.specs.declared.event.FleetEvent.{FleetEvent}
use Rattle.nvme_event.specs.declared.event.FleetEvent.TheVariants.{
  BringUp,
  Execute,
  Fetch,
  Place,
  Poll,
  PowerCycle,
  RawStore,
  RawWrite32,
  Reset,
  Ring,
}
use Rattle.nvme_event.specs.declared.seen.FleetSeen.{FleetSeen}
use Rattle.nvme_event.specs.Replies.{Reply}
use Rattle.nvme_mailbox.specs.FaultFree.{fault_free_left, fault_free_replies, fault_free_step}
use Rattle.nvme_mailbox.specs.Fencing.{Allows, Forgets, IsAllowedAt, LeavesReservation, ReservesNothing, RunWhere}
use Rattle.nvme_mailbox.specs.Fleets.{Fleet, Host, Raw, Run, Step, WithDriver, host_at, numbered}
use Rattle.nvme_mailbox.specs.IoCommands.{BearsItsNumber, IoCommand, command_at}
use Rattle.nvme_mailbox.specs.Mailboxes.{Mailbox}
use Rattle.nvme_mailbox.specs.Preempting.{LeavesOutside}
use Rattle.nvme_mailbox.specs.Regular.{IsRegular, WasTaken}
use Rattle.nvme_mailbox.specs.Tickets.{waiting}
use Rattle.nvme_mailbox.proofs.Existing.{run_exists}
use Rattle.nvme_mailbox.proofs.Regular.{step-regular}
use Rattle.nvme_theorem_runs.specs.Cluster.{cluster}
use Rattle.nvme_theorem_runs.specs.Fleets.{duo, up}
use Rattle.nvme_theorem_runs.proofs.Computing.{both, fleeting, lasting, negated}
use Rattle.nvme_theorem_runs.proofs.Laying.{laid}
use Rattle.nvme_event.specs.declared.seen.FleetSeen.TheVariants as seen

abbrev pub is_passed : Judgement → Bool
is_passed (Ok u) = true
is_passed (Err denial) = false

abbrev pub command_passes : List Command → ℕ → Option IoCommand → Bool
command_passes commands n None = false
command_passes commands n (Some x) = (nsid x.entry == n) && (is_one_of (command_of (opcode x.entry)) commands &&
    is_passed x.judgement)

abbrev pub allows_now : List Command → Fleet → FleetEvent → ℕ → Bool
allows_now commands f (Execute k i) n = command_passes commands n (command_at f k i)
allows_now commands f other n = false

allowed-not : (commands : List Command) (f : Fleet) (k i n : ℕ) → command_passes commands n (command_at f k i) ≡ false
    → IsAllowedAt commands f k i n → ⊥
allowed-not commands f k i n e x =
    let c = x.command in
    let one : command_passes commands n (Some c) ≡ false = subst (λ o. command_passes commands n o ≡ false) x.found e in
    let named : (is_one_of (command_of (opcode c.entry)) commands && is_passed c.judgement) ≡ false =
    subst (λ b. (b && (is_one_of (command_of (opcode c.entry)) commands && is_passed c.judgement)) ≡ false)
    (eq-eqb (nsid c.entry) n x.is.names) one in
    let kind : is_passed c.judgement ≡ false = subst (λ b. (b && is_passed c.judgement) ≡ false) x.is.is_one named in
    let passed : is_passed (Ok tt) ≡ false = subst (λ j. is_passed j ≡ false) x.allowed kind in
    absurd (cc)

pub no-allowing : (commands : List Command) (n : ℕ) (f : Fleet) (event : FleetEvent)
    → allows_now commands f event n ≡ false → Allows commands f event n → ⊥
no-allowing commands n f (Execute k i) e x = allowed-not commands f k i n e x
no-allowing commands n f (BringUp k) e x = x
no-allowing commands n f (Place k what) e x = x
no-allowing commands n f (Ring k) e x = x
no-allowing commands n f (Fetch k q) e x = x
no-allowing commands n f (Poll k) e x = x
no-allowing commands n f (Reset k) e x = x
no-allowing commands n f (RawStore k address bytes) e x = x
no-allowing commands n f (RawWrite32 k offset v) e x = x
no-allowing commands n f PowerCycle e x = x

abbrev pub forgets_now : Fleet → FleetEvent → ℕ → Bool
forgets_now f PowerCycle n = fleeting (reservation_of f.site.world n)
forgets_now f other n = false

pub no-forgetting : (n : ℕ) (f : Fleet) (event : FleetEvent) → forgets_now f event n ≡ false → Forgets f event n → ⊥
no-forgetting n f PowerCycle e x = lasting (reservation_of f.site.world n) e x
no-forgetting n f (Execute k i) e x = x
no-forgetting n f (BringUp k) e x = x
no-forgetting n f (Place k what) e x = x
no-forgetting n f (Ring k) e x = x
no-forgetting n f (Fetch k q) e x = x
no-forgetting n f (Poll k) e x = x
no-forgetting n f (Reset k) e x = x
no-forgetting n f (RawStore k address bytes) e x = x
no-forgetting n f (RawWrite32 k offset v) e x = x

abbrev pub reserves_nothing : ℕ → Fleet → FleetEvent → Bool
reserves_nothing n f event = not (allows_now reserving f event n)

abbrev pub leaves : ℕ → Fleet → FleetEvent → Bool
leaves n f event = reserves_nothing n f event && not (forgets_now f event n)

pub reserving-nothing : (n : ℕ) (f : Fleet) (event : FleetEvent) → reserves_nothing n f event ≡ true
    → ReservesNothing n f event
reserving-nothing n f event e x = no-allowing reserving n f event (negated (allows_now reserving f event n) e) x

pub leaving : (n : ℕ) (f : Fleet) (event : FleetEvent) → leaves n f event ≡ true → LeavesReservation n f event
leaving n f event e =
    let parts = both (reserves_nothing n f event) (not (forgets_now f event n)) e in
    (reserving-nothing n f event parts.0, no-forgetting n f event (negated (forgets_now f event n) parts.1))

-- no event registers a host
abbrev pub registers_none : ℕ → ℕ → Fleet → FleetEvent → Bool
registers_none n host f event = not (allows_now (ReservationRegister ∷ []) f event n)

pub leaving-outside : (n host : ℕ) (f : Fleet) (event : FleetEvent) → registers_none n host f event ≡ true
    → LeavesOutside n host f event
leaving-outside n host f (Execute k i) e x = no-allowing (ReservationRegister ∷ []) n f (Execute k i)
    (negated (allows_now (ReservationRegister ∷ []) f (Execute k i) n) e) x.1
leaving-outside n host f (BringUp k) e x = x
leaving-outside n host f (Place k what) e x = x
leaving-outside n host f (Ring k) e x = x
leaving-outside n host f (Fetch k q) e x = x
leaving-outside n host f (Poll k) e x = x
leaving-outside n host f (Reset k) e x = x
leaving-outside n host f (RawStore k address bytes) e x = x
leaving-outside n host f (RawWrite32 k offset v) e x = x
leaving-outside n host f PowerCycle e x = x

-- Runs.

pub steps : (f : Fleet) (event : FleetEvent) → IsLaidOut f.site.world f.site.device.content
    → Step true f event (fault_free_step f event).reply (fault_free_step f event).fleet
steps f event laid =
    let r = (run_exists f (event ∷ []) laid).0 in
    subst (λ next. Step true f event (fault_free_step f event).reply next) (sym r.2) r.1

pub next-regular : (f : Fleet) (event : FleetEvent) → IsRegular f → IsRegular (fault_free_step f event).fleet
next-regular f event regular = step-regular f (fault_free_step f event).fleet event (fault_free_step f event).reply
    (steps f event regular.laid) regular

pub left-regular : (f : Fleet) (events : List FleetEvent) → IsRegular f → IsRegular (fault_free_left f events)
left-regular f [] regular = regular
left-regular f (event ∷ events) regular = left-regular (fault_free_step f event).fleet events
    (next-regular f event regular)

-- with the states that are computed between the events
unfoldable pub computed_run : (f : Fleet) (events : List FleetEvent) → IsRegular f
    → Run true f events (fault_free_replies f events) (fault_free_left f events)
computed_run f [] regular = refl
computed_run f (event ∷ events) regular = (
  (fault_free_step f event).fleet,
  steps f event regular.laid,
  computed_run (fault_free_step f event).fleet events (next-regular f event regular),
)

abbrev pub all_along : (Fleet → FleetEvent → Bool) → Fleet → List FleetEvent → Bool
all_along test f [] = true
all_along test f (event ∷ events) = test f event && all_along test (fault_free_step f event).fleet events

pub run-where : (test : Fleet → FleetEvent → Bool) (P : Fleet → FleetEvent → Type 0)
    → ((f : Fleet) (event : FleetEvent) → test f event ≡ true → P f event)
    → (f : Fleet) (events : List FleetEvent) → IsRegular f → all_along test f events ≡ true
    → RunWhere P true f events (fault_free_replies f events) (fault_free_left f events)
run-where test P so f [] regular e = refl
run-where test P so f (event ∷ events) regular e =
    let next = (fault_free_step f event).fleet in
    let parts = both (test f event) (all_along test next events) e in (
      next,
      so f event parts.0,
      steps f event regular.laid,
      run-where test P so next events
          (next-regular f event regular) parts.1,
    )

-- the rule that denied what an event executed; 0, if none did
abbrev pub rule_seen : FleetSeen → ℕ
rule_seen (seen.Executed (Posted outcome)) = outcome.rule
rule_seen other = 0

abbrev pub rule_in : Reply → ℕ
rule_in r = rule_seen r.seen

-- The fleets of the examples.

two-at : (f : Fleet) (first second : Mailbox) → f.hosts ≡ WithDriver first ∷ WithDriver second ∷ []
    → (P : ℕ → Host → Type 0) → P 1 (WithDriver first) → P 2 (WithDriver second)
    → (k : ℕ) (h : Host) → numbered f.hosts k ≡ Some h → P k h
two-at f first second hosts P one two k h e = by k (sym (ap (λ hs. numbered hs k) hosts) ∙ e)
  where
    by : (k : ℕ) → numbered (WithDriver first ∷ WithDriver second ∷ []) k ≡ Some h → P k h
    by zero e = absurd (cc)
    by (suc zero) e = subst (P 1) (same_Some (WithDriver first) h e) one
    by (suc (suc zero)) e = subst (P 2) (same_Some (WithDriver second) h e) two
    by (suc (suc (suc k))) e = absurd (cc)

nothing-taken : AllByRecursion WasTaken (waiting up)
unfolding waiting
nothing-taken = tt

abbrev holds_taken : ℕ → Host → Type 0
holds_taken k (WithDriver m) = AllByRecursion WasTaken (waiting m)
holds_taken k (Raw c) = Unit {0}

pub duo-regular : (r : Reservation) → IsRegular (duo r)
unfolding duo host_at cluster
duo-regular r = record {
  laid = laid r [] [];
  numbers = λ k h e. two-at (duo r) up up refl BearsItsNumber tt tt k h e;
  taken = λ k m e. two-at (duo r) up up refl holds_taken nothing-taken nothing-taken k (WithDriver m) e;
}
