-- For the answers of all events and the laws on calls: which events of a fleet make which calls of the medium.
use Rattle.nvme_fleet.proofs.Words.{
  ◌≡◌,
  ◌∙◌,
  ℕ,
  ◌+◌,
  Bool,
  Err,
  Ok,
  Result,
  Some,
  None,
  Option,
  true,
  List,
  [],
  ◌∷◌,
  ◌++◌,
  refl,
  sym,
  ap,
  subst,
  slice_set,
  append-nil,
  append_assoc,
  MediumCall,
  MakesCalls,
  Event,
  Seen,
  Subsystem,
  submission_entry,
  PlaceRefusal,
  Request,
  Waiting,
  Ticket,
  Call,
  Stores,
  Driver,
  ends,
  entry_fields,
  put_ends,
  with_ends,
  command_place,
  data_area,
  list_page,
  stored_list,
  Asked,
  asked_of,
  ExecutesNothing,
  FleetEvent,
  FleetSeen,
  Reply,
  Layers,
  fleet_in,
  AppliesCalling,
  AreCallsOfRun,
  AreCallsOfStep,
  HappensCalling,
  LayerCallsAreOfARun,
  LayerCallsAreOfAStep,
  DoesIfAny,
  Places,
  Ran,
  events_of_calls,
  CallsAt,
  Happens,
  driver_at,
  told,
  AreCallsOfTurn,
  IsOfHost,
}
use Rattle.nvme_spec.proofs.MediumCalls.{calls-joined}
use Rattle.nvme_machine.specs.declared.event.Event.TheVariants.{Fetch, Execute, PowerCycle}
use Rattle.nvme_machine.specs.EventCalls as machine
use Rattle.nvme_machine.proofs.EventCalls.{calls_are_of_a_step}
use Rattle.nvme_driver.specs.Drivers.{lane_of}
use Rattle.nvme_event.specs.declared.event.FleetEvent.TheVariants as fleet
use Rattle.nvme_mailbox.specs.Fleets as mailboxes
use Rattle.nvme_fleet.specs.declared.driver_call.DriverCall.TheVariants as call

-- a host only stores and writes
pub hosts-execute-nothing : (event : Event) → IsOfHost event → ExecutesNothing event
hosts-execute-nothing (Execute k i) h = absurd h
hosts-execute-nothing PowerCycle h = absurd h
hosts-execute-nothing event h = tt

pub applies-calling : {M : Type 0} (step : M → MediumCall → M → Type 0) (tells : Bool) (old new : Layers)
    (event : Event) (given : Seen) (what : FleetSeen) (before after : M) → new.drivers ≡ old.drivers → what ≡ told given
    → MakesCalls step (machine.AreCallsOfStep tells old.subsystem event given new.subsystem) before after
    → MakesCalls step (AppliesCalling tells old event what new) before after
applies-calling step tells old new event given what before after drivers gives h = record {
  calls = h.calls;
  are = record { given = given; step = h.are; gives = gives; drivers = drivers };
  made = h.made;
}

-- the calls of a turn are those of its two events
pub turn-joined : {M : Type 0} (step : M → MediumCall → M → Type 0) (tells : Bool) (k : ℕ) (a b c : Subsystem)
    (x y : Seen) (m n o : M)
    → MakesCalls step (machine.AreCallsOfStep tells a (Fetch k 0) x b) m n
    → MakesCalls step (machine.AreCallsOfStep tells b (Execute k 0) y c) n o
    → MakesCalls step (AreCallsOfTurn tells k a c) m o
turn-joined step tells k a b c x y m n o first last = record {
  calls = first.calls ++ last.calls;
  are = (
    x ∷ y ∷ [],
    (
      b,
      first.calls,
      last.calls,
      first.are,
      (c, last.calls, [], last.are, (refl, refl), sym (append-nil last.calls)),
      refl,
    ),
  );
  made = calls-joined step first.calls last.calls m n o first.made last.made;
}

-- the reply of an event
pub replied : {M : Type 0} (step : M → MediumCall → M → Type 0) (tells : Bool) (old new : Layers) (event : FleetEvent)
    (what : FleetSeen) (bytes : List ℕ) (before after : M)
    → mailboxes.Step tells (fleet_in old) event (let r : Reply = record { seen = what; bytes = bytes } in r)
    (fleet_in new) → MakesCalls step (HappensCalling tells old event what new) before after
    → MakesCalls step
    (AreCallsOfStep tells old event (let r : Reply = record { seen = what; bytes = bytes } in r) new) before after
replied step tells old new event what bytes before after mail h = record {
  calls = h.calls;
  are = record { mailboxes = mail; below = h.are };
  made = h.made;
}

-- These calls are those of a step, and of a run.

below-of : (tells : Bool) (old new : Layers) (event : FleetEvent) (what : FleetSeen) (calls : List MediumCall)
    → HappensCalling tells old event what new calls → Happens tells old event what new
below-of tells old new (fleet.Execute k i) what calls h = record {
  given = h.given;
  step = calls_are_of_a_step tells old.subsystem new.subsystem (Execute k i) h.given calls h.step;
  gives = h.gives;
  drivers = h.drivers;
}
below-of tells old new event what calls h = h.0

pub layer_calls_are_of_a_step : LayerCallsAreOfAStep
layer_calls_are_of_a_step tells old new event reply calls h =
    record { mailboxes = h.mailboxes; below = below-of tells old new event reply.seen calls h.below }

pub layer_calls_are_of_a_run : LayerCallsAreOfARun
layer_calls_are_of_a_run tells old new [] [] calls h = h.0
layer_calls_are_of_a_run tells old new (event ∷ events) (reply ∷ later) calls (mid, here, behind, step, run, joined) = (
  mid,
  layer_calls_are_of_a_step tells old mid event reply here step,
  layer_calls_are_of_a_run tells mid new events later behind run,
)
layer_calls_are_of_a_run tells old new events later calls h = absurd h

-- The calls of a run continue by those of a step.
pub more-calls : (tells : Bool) (events : List FleetEvent) (replies : List Reply) (old mid new : Layers)
    (event : FleetEvent) (last : Reply) (calls later : List MediumCall)
    → AreCallsOfRun tells old events replies mid calls → AreCallsOfStep tells mid event last new later
    → AreCallsOfRun tells old (events ++ event ∷ []) (replies ++ last ∷ []) new (calls ++ later)
more-calls tells [] [] old mid new event last calls later ran step = (
  new,
  later,
  [],
  subst (λ (l : Layers). AreCallsOfStep tells l event last new later) ran.0 step,
  (refl, refl),
  ap (λ cs. cs ++ later) ran.1 ∙ sym (append-nil later),
)
more-calls tells (e ∷ events) (r ∷ replies) old mid new event last calls later
    (m, here, behind, first, rest, joined) step = (
      m,
      here,
      behind ++ later,
      first,
      more-calls tells events replies m mid new event last behind later rest step,
      ap (λ cs. cs ++ later) joined ∙ append_assoc here behind later,
    )
more-calls tells events replies old mid new event last calls later ran step = absurd ran

pub calls-more : {M : Type 0} (step : M → MediumCall → M → Type 0) (tells : Bool) (events : List FleetEvent)
    (replies : List Reply) (old mid new : Layers) (event : FleetEvent) (last : Reply) (before between after : M)
    → MakesCalls step (AreCallsOfRun tells old events replies mid) before between
    → MakesCalls step (AreCallsOfStep tells mid event last new) between after
    → MakesCalls step (AreCallsOfRun tells old (events ++ event ∷ []) (replies ++ last ∷ []) new) before after
calls-more step tells events replies old mid new event last before between after ran next = record {
  calls = ran.calls ++ next.calls;
  are = more-calls tells events replies old mid new event last ran.calls next.calls ran.are next.are;
  made = calls-joined step ran.calls next.calls before between after ran.made next.made;
}

-- A placing depends on the request's fields.

abbrev placed_as : Asked → Driver → ℕ → Driver
placed_as asked d slot =
    with_ends asked.command.lane (put_ends (ends asked.command.lane d))
    (record d {
      next = d.next + 1;
      slots = slice_set d.slots slot (Some (let w : Waiting = record {
        ticket = record { 0 = d.next };
        lane = asked.command.lane;
        received = asked.received;
        live = true;
      } in w));
    })

abbrev stores_as : Asked → Driver → ℕ → List Call
stores_as asked d slot =
    Stores (data_area slot) asked.sent
    ∷ Stores (list_page slot) (stored_list slot asked.moved)
    ∷ Stores (command_place asked.command.lane (ends asked.command.lane d).tail.put)
    (submission_entry (entry_fields asked slot))
    ∷ []

places-alike : (tells : Bool) (k : ℕ)
    (r q : Request) (d : Driver) (old : Subsystem) (result : Result Ticket PlaceRefusal) (d' : Driver) (new : Subsystem)
    → asked_of r ≡ asked_of q → Places tells k r d old result d' new → Places tells k q d old result d' new
places-alike tells k r q d old (Ok ticket) d' new same (slot, free, is, ran) = (
  slot,
  free,
  is ∙ ap (λ a. placed_as a d slot) same,
  subst (λ a. Ran tells old (events_of_calls k (stores_as a d slot)) new) same ran,
)
places-alike tells k r q d old (Err why) d' new same h = h

does-alike : (o : Option Driver) (tells : Bool) (k : ℕ) (r q : Request) (old : Subsystem) (what : FleetSeen)
    (e : Option Driver) (new : Subsystem) → asked_of r ≡ asked_of q
    → DoesIfAny tells k (call.Place r) o old what e new → DoesIfAny tells k (call.Place q) o old what e new
does-alike None tells k r q old what e new same h = h
does-alike (Some d) tells k r q old what e new same (d', is, (result, gives, places)) =
    (d', is, (result, gives, places-alike tells k r q d old result d' new same places))

called-alike : (o : Option (Option Driver)) (tells : Bool) (old : Layers) (k : ℕ) (r q : Request) (what : FleetSeen)
    (new : Layers) → asked_of r ≡ asked_of q
    → CallsAt o tells old k (call.Place r) what new → CallsAt o tells old k (call.Place q) what new
called-alike None tells old k r q what new same h = h
called-alike (Some d) tells old k r q what new same (e, is, does) =
    (e, is, does-alike d tells k r q old.subsystem what e new.subsystem same does)

pub placed-alike : (tells : Bool) (old new : Layers) (k : ℕ) (r q : Request) (what : FleetSeen)
    → lane_of q ≡ lane_of r → asked_of q ≡ asked_of r
    → Happens tells old (fleet.Place k r) what new → Happens tells old (fleet.Place k q) what new
placed-alike tells old new k r q what lane asked h =
    called-alike (driver_at old.drivers k) tells old k r q what new (sym asked) h
