-- For laws about runs: what any event leaves of the world and of the bytes on the medium.
use Rattle.std.proofs.Common.{
  ◌≡◌,
  ◌⊎◌,
  inl,
  inr,
  ℕ,
  ◌==◌,
  ◌&&◌,
  not,
  Bool,
  true,
  false,
  List,
  length,
  Option,
  None,
  Some,
  refl,
  sym,
  ap,
  subst,
  ◌∙◌,
  arith,
}
use Rattle.std.specs.Prelude.{if◌then◌else◌, option_map, slice_get}
use Rattle.std.proofs.lemmas.Bool.{eq-eqb}
use Rattle.nvme_wire.specs.Submission.{nsid}
use Rattle.nvme_spec.specs.declared.command.Command.{Command}
use Rattle.nvme_spec.specs.declared.queues.Queues.{Queues}
use Rattle.nvme_spec.specs.Commands.{altering, reserving}
use Rattle.nvme_spec.specs.Reservation.{Reservation, unreserved}
use Rattle.nvme_spec.specs.World.{World}
use Rattle.nvme_spec.specs.Power.{cycled_reservation, cycled_world}
use Rattle.nvme_spec.specs.Execution.{Scene}
use Rattle.nvme_spec.specs.Layout.{extent_of, bytes_at, bytes_of, IsLaidOut, reservation_of, may_write}
use Rattle.nvme_spec.specs.ExecutionLaws.{IsAllowed}
use Rattle.nvme_spec.proofs.Fencing as spec
use Rattle.nvme_spec.proofs.Power.{cycle_keeps_places, cycled-reservation-at}
use Rattle.nvme_machine.specs.declared.event.Event.{Event}
use Rattle.nvme_machine.specs.declared.event.Event.TheVariants.{Execute, PowerCycle}
use Rattle.nvme_machine.specs.declared.fetched.FetchedCommand.{FetchedCommand}
use Rattle.nvme_machine.specs.declared.seen.Seen.{Seen}
use Rattle.nvme_machine.specs.Controllers.{Controller, names, queues_of}
use Rattle.nvme_machine.specs.CommandExecutions.{CommandExecution, CommandComesTo, CommandComesToAs}
use Rattle.nvme_machine.specs.Subsystems.{
  Subsystem,
  Step,
  OfItsController,
  controller_at,
  with_controller,
  scene_of,
  after_execution,
  after_power_cycle,
}
use Rattle.nvme_machine.specs.Fencing.{
  namespace_bytes,
  IsAllowedAt,
  Allows,
  IsFleeting,
  Forgets,
  OnlyAllowedWritesWrite,
  OnlyAllowedActionsReserve,
  LayoutStays,
  FencedEventsWriteNothing,
}
use Rattle.nvme_machine.proofs.AdminWorlds.{HasSameExtents, same-extents, admin-keeps}
use Rattle.nvme_machine.proofs.StepCases.{StepCase, Unchanged, Reacted, Completed, PowerCycled, step-case}

-- What an answer leaves.

-- one of these I/O commands on the namespace, which all rules let pass
pub record AllowsOne (commands : List Command) (k : ℕ) (t : FetchedCommand) (s : Scene) (n : ℕ) : Type 0 where
  pub named : names n t ≡ true
  pub allowed : IsAllowed commands s.world k t.entry t.marked s.window

named-so : (n : ℕ) (t : FetchedCommand) → (t.queue == 0) ≡ false → nsid t.entry ≡ n → names n t ≡ true
named-so n t io is = ap (λ b. not b && (nsid t.entry == n)) io ∙ eq-eqb (nsid t.entry) n is

pub answer-extents : (admin : Bool) (tells : Bool) (queues : Queues) (k : ℕ) (t : FetchedCommand) (s : Scene)
    (a : CommandExecution) → CommandComesToAs admin tells queues k t s a → HasSameExtents s.world a.left.world
answer-extents true tells queues k t s a h =
    let kept = admin-keeps s.world queues k s.window t.entry in
    subst (λ (x : CommandExecution). HasSameExtents s.world x.left.world) (sym h) kept.extents
answer-extents false tells queues k t s a h =
    let r = spec.execution_keeps_the_rest tells k t.entry t.marked s a.left a.outcome h.1 in
    let l = r.layout in
    record { hosts = l.hosts; extents = l.extents }

pub answer-size : (admin : Bool) (queues : Queues) (k : ℕ) (t : FetchedCommand) (s : Scene) (a : CommandExecution)
    → IsLaidOut s.world s.device.content → CommandComesToAs admin true queues k t s a
    → length a.left.device.content ≡ length s.device.content
answer-size true queues k t s a laid h = ap (λ (x : CommandExecution). length x.left.device.content) h
answer-size false queues k t s a laid h = let r =
    spec.layout_stays k t.entry t.marked s a.left a.outcome laid h.1 in r.0

-- an admin command changes no byte
pub admin-bytes : (queues : Queues) (k : ℕ) (t : FetchedCommand) (s : Scene) (a : CommandExecution) (n : ℕ)
    → CommandComesToAs true true queues k t s a
    → bytes_of a.left.world a.left.device.content n ≡ bytes_of s.world s.device.content n
admin-bytes queues k t s a n h =
    let kept = answer-extents true true queues k t s a h in
    ap (λ x. bytes_at a.left.device.content x) (kept.extents n)
    ∙ ap (λ (x : CommandExecution). bytes_at x.left.device.content (extent_of s.world n)) h

answer-bytes : (admin : Bool) (queues : Queues) (k : ℕ) (t : FetchedCommand) (s : Scene) (a : CommandExecution) (n : ℕ)
    → (t.queue == 0) ≡ admin → IsLaidOut s.world s.device.content → CommandComesToAs admin true queues k t s a
    → (bytes_of a.left.world a.left.device.content n ≡ bytes_of s.world s.device.content n) ⊎ AllowsOne altering k t s n
answer-bytes true queues k t s a n io laid h = inl (admin-bytes queues k t s a n h)
answer-bytes false queues k t s a n io laid h =
    elim (spec.only_allowed_writes_write k t.entry t.marked s a.left a.outcome n laid h.1) [
      | inl same ↦ inl same
      | inr x ↦ inr (record { named = named-so n t io x.0; allowed = x.1 })
    ]

answer-fenced : (admin : Bool) (queues : Queues) (k : ℕ) (t : FetchedCommand) (s : Scene) (a : CommandExecution) (n : ℕ)
    → IsLaidOut s.world s.device.content → CommandComesToAs admin true queues k t s a
    → may_write s.world k n ≡ false
    → bytes_of a.left.world a.left.device.content n ≡ bytes_of s.world s.device.content n
answer-fenced true queues k t s a n laid h fenced = admin-bytes queues k t s a n h
answer-fenced false queues k t s a n laid h fenced =
    spec.fenced_commands_write_nothing k t.entry t.marked s a.left a.outcome n laid h.1 fenced

answer-reserves : (admin : Bool) (tells : Bool) (queues : Queues) (k : ℕ) (t : FetchedCommand) (s : Scene)
    (a : CommandExecution) (n : ℕ) → (t.queue == 0) ≡ admin → CommandComesToAs admin tells queues k t s a
    → (reservation_of a.left.world n ≡ reservation_of s.world n) ⊎ AllowsOne reserving k t s n
answer-reserves true tells queues k t s a n io h =
    let kept = admin-keeps s.world queues k s.window t.entry in
    inl (ap (λ (x : CommandExecution). reservation_of x.left.world n) h ∙ kept.reservations n)
answer-reserves false tells queues k t s a n io h =
    elim (spec.only_allowed_actions_reserve tells k t.entry t.marked s a.left a.outcome n h.1) [
      | inl same ↦ inl same
      | inr x ↦ inr (record { named = named-so n t io x.0; allowed = x.1 })
    ]

-- What an event leaves: the answer of the command that it executes, a power cycle, or the old state.
pub data Leaves (tells : Bool) (old new : Subsystem) (event : Event) : Type 0 where
  AsItWas : new.world ≡ old.world → new.device ≡ old.device → Leaves tells old new event
  AfterExecution : (k i : ℕ) → event ≡ Execute k i → (c : Controller) → (t : FetchedCommand) → (a : CommandExecution)
      → controller_at old k ≡ Some c → slice_get c.fetched i ≡ Some t
      → CommandComesTo tells (queues_of c) k t (scene_of old c) a → new.world ≡ a.left.world
      → new.device ≡ a.left.device → Leaves tells old new event
  PowerLost : event ≡ PowerCycle → new.world ≡ cycled_world old.world → new.device ≡ old.device
      → Leaves tells old new event

left-by : (tells : Bool) (old new : Subsystem) (event : Event) (seen : Seen)
    → StepCase tells old new event seen → Leaves tells old new event
unfolding with_controller after_execution after_power_cycle
left-by tells old new event seen (Unchanged e) =
    AsItWas (ap (λ (s : Subsystem). s.world) e) (ap (λ (s : Subsystem). s.device) e)
left-by tells old new event seen (Reacted c at e) =
    AsItWas (ap (λ (s : Subsystem). s.world) e) (ap (λ (s : Subsystem). s.device) e)
left-by tells old new event seen (Completed k i is c t p at found room h) =
    AfterExecution k i is c t h.execution at found h.comes_to (ap (λ (s : Subsystem). s.world) h.leaves)
    (ap (λ (s : Subsystem). s.device) h.leaves)
left-by tells old new event seen (PowerCycled is e) =
    PowerLost is (ap (λ (s : Subsystem). s.world) e) (ap (λ (s : Subsystem). s.device) e)

pub leaves : (tells : Bool) (old new : Subsystem) (event : Event) (seen : Seen)
    → Step tells old event seen new → Leaves tells old new event
leaves tells old new event seen h = left-by tells old new event seen (step-case tells old new event seen h)

cycled-extents : (w : World) → HasSameExtents w (cycled_world w)
cycled-extents w =
    let places = cycle_keeps_places w in
    record { hosts = places.hosts; extents = places.extents }

extents-left : (tells : Bool) (old new : Subsystem) (event : Event)
    → Leaves tells old new event → HasSameExtents old.world new.world
unfolding CommandComesTo
extents-left tells old new event (AsItWas world device) = same-extents old.world new.world world
extents-left tells old new event (AfterExecution k i is c t a at found answers world device) =
    subst (λ w. HasSameExtents old.world w) (sym world)
    (answer-extents (t.queue == 0) tells (queues_of c) k t (scene_of old c) a answers)
extents-left tells old new event (PowerLost is world device) =
    subst (λ w. HasSameExtents old.world w) (sym world) (cycled-extents old.world)

pub step-extents : (tells : Bool) (old new : Subsystem) (event : Event) (seen : Seen)
    → Step tells old event seen new → HasSameExtents old.world new.world
step-extents tells old new event seen h = extents-left tells old new event (leaves tells old new event seen h)

size-left : (old new : Subsystem) (event : Event) → IsLaidOut old.world old.device.content → Leaves true old new event
    → length new.device.content ≡ length old.device.content
unfolding CommandComesTo
size-left old new event laid (AsItWas world device) = ap (λ d. length d.content) device
size-left old new event laid (AfterExecution k i is c t a at found answers world device) =
    ap (λ d. length d.content) device ∙ answer-size (t.queue == 0) (queues_of c) k t (scene_of old c) a laid answers
size-left old new event laid (PowerLost is world device) = ap (λ d. length d.content) device

pub layout_stays : LayoutStays
layout_stays old new event seen laid step =
    let same = step-extents true old new event seen step in
    let size = size-left old new event laid (leaves true old new event seen step) in
    record {
      within = λ n x is. let fits = laid.within n x (sym (same.extents n) ∙ is) in omega (arith, fits, size);
      apart = λ n m x y other p q. laid.apart n m x y other (sym (same.extents n) ∙ p) (sym (same.extents m) ∙ q);
    }

-- the bytes of a namespace after an answer
pub same-bytes : (new : Subsystem) (a : CommandExecution) (n : ℕ) → new.world ≡ a.left.world
    → new.device ≡ a.left.device → namespace_bytes new n ≡ bytes_of a.left.world a.left.device.content n
same-bytes new a n world device =
    ap (λ w. bytes_of w new.device.content n) world ∙ ap (λ d. bytes_of a.left.world d.content n) device

unchanged : (old new : Subsystem) (n : ℕ) → new.world ≡ old.world → new.device ≡ old.device
    → namespace_bytes new n ≡ namespace_bytes old n
unchanged old new n world device =
    ap (λ w. bytes_of w new.device.content n) world ∙ ap (λ d. bytes_of old.world d.content n) device

pub cycled-bytes : (old new : Subsystem) (n : ℕ) → new.world ≡ cycled_world old.world → new.device ≡ old.device
    → namespace_bytes new n ≡ namespace_bytes old n
cycled-bytes old new n world device =
    let places = cycle_keeps_places old.world in
    ap (λ w. bytes_of w new.device.content n) world ∙ ap (λ d. bytes_of (cycled_world old.world) d.content n) device
    ∙ ap (λ x. bytes_at old.device.content x) (places.extents n)

allows : (commands : List Command) (old : Subsystem) (event : Event) (n k i : ℕ)
    → event ≡ Execute k i → IsAllowedAt commands old k i n → Allows commands old event n
allows commands old event n k i is h = subst (λ e. Allows commands old e n) (sym is) h

writes-left : (old new : Subsystem) (event : Event) (n : ℕ) → IsLaidOut old.world old.device.content
    → Leaves true old new event
    → (namespace_bytes new n ≡ namespace_bytes old n) ⊎ Allows altering old event n
unfolding CommandComesTo
writes-left old new event n laid (AsItWas world device) = inl (unchanged old new n world device)
writes-left old new event n laid (AfterExecution k i is c t a at found answers world device) =
    elim (answer-bytes (t.queue == 0) (queues_of c) k t (scene_of old c) a n refl laid answers) [
      | inl same ↦ inl (same-bytes new a n world device ∙ same)
      | inr x ↦ inr (allows altering old event n k i is
          (record { controller = c; command = t; at = at; found = found; named = x.named; allowed = x.allowed }))
    ]
writes-left old new event n laid (PowerLost is world device) = inl (cycled-bytes old new n world device)

pub only_allowed_writes_write : OnlyAllowedWritesWrite
only_allowed_writes_write old new event seen n laid step =
    writes-left old new event n laid (leaves true old new event seen step)

-- a power cycle keeps a reservation, unless it does not persist
persists-or : (b : Bool) (r : Reservation)
    → r.ptpl ≡ b → (Some (if b then r else unreserved) ≡ Some r) ⊎ IsFleeting (Some r)
persists-or true r is = inl refl
persists-or false r is = inr is

keeps-or : (o : Option Reservation) → (option_map cycled_reservation o ≡ o) ⊎ IsFleeting o
keeps-or None = inl refl
keeps-or (Some r) = persists-or r.ptpl r refl

forgets : (old : Subsystem) (event : Event) (n : ℕ) → event ≡ PowerCycle → IsFleeting (reservation_of old.world n)
    → Forgets old event n
forgets old event n is h = subst (λ e. Forgets old e n) (sym is) h

reserves-left : (tells : Bool) (old new : Subsystem) (event : Event) (n : ℕ) → Leaves tells old new event
    → (reservation_of new.world n ≡ reservation_of old.world n) ⊎ Allows reserving old event n ⊎ Forgets old event n
unfolding CommandComesTo
reserves-left tells old new event n (AsItWas world device) = inl (ap (λ w. reservation_of w n) world)
reserves-left tells old new event n (AfterExecution k i is c t a at found answers world device) =
    elim (answer-reserves (t.queue == 0) tells (queues_of c) k t (scene_of old c) a n refl answers) [
      | inl same ↦ inl (ap (λ w. reservation_of w n) world ∙ same)
      | inr x ↦ inr (inl (allows reserving old event n k i is
          (record { controller = c; command = t; at = at; found = found; named = x.named; allowed = x.allowed })))
    ]
reserves-left tells old new event n (PowerLost is world device) = elim (keeps-or (reservation_of old.world n)) [
  | inl same ↦ inl (ap (λ w. reservation_of w n) world ∙ cycled-reservation-at old.world n ∙ same)
  | inr fleeting ↦ inr (inr (forgets old event n is fleeting))
]

pub only_allowed_actions_reserve : OnlyAllowedActionsReserve
only_allowed_actions_reserve tells old new event seen n step =
    reserves-left tells old new event n (leaves tells old new event seen step)

fenced-left : (old new : Subsystem) (event : Event) (n : ℕ) → IsLaidOut old.world old.device.content
    → OfItsController (λ k. may_write old.world k n ≡ false) event → Leaves true old new event
    → namespace_bytes new n ≡ namespace_bytes old n
unfolding CommandComesTo
fenced-left old new event n laid fenced (AsItWas world device) = unchanged old new n world device
fenced-left old new event n laid fenced (AfterExecution k i is c t a at found answers world device) =
    same-bytes new a n world device
    ∙ answer-fenced (t.queue == 0) (queues_of c) k t (scene_of old c) a n laid answers
    (subst (OfItsController (λ x. may_write old.world x n ≡ false)) is fenced)
fenced-left old new event n laid fenced (PowerLost is world device) = cycled-bytes old new n world device

pub fenced_events_write_nothing : FencedEventsWriteNothing
fenced_events_write_nothing old new event seen n laid step fenced =
    fenced-left old new event n laid fenced (leaves true old new event seen step)
