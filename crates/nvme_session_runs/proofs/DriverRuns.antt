-- For `drivers.rt`: the example runs of hosts with drivers, in both layers.
use Rattle.std.proofs.Common.{
  ◌≡◌,
  ◌≤◌,
  ◌<◌,
  ◌+◌,
  ◌-◌,
  ◌^◌,
  ◌∙◌,
  ℕ,
  zero,
  suc,
  true,
  false,
  List,
  [],
  ◌∷◌,
  length,
  None,
  Some,
  Option,
  Bool,
  Ok,
  refl,
  sym,
  ap,
  subst,
  arith,
}
use Rattle.std.specs.Prelude.{is_none, replicate, slice_range, take}
use Rattle.std.proofs.lemmas.Bool.{false≢true}
use Rattle.nvme_wire.specs.Submission as entry
use Rattle.nvme_wire.specs.Completion.{completion_entry}
use Rattle.nvme_wire.specs.Submission.{submission_entry, submission_of}
use Rattle.nvme_wire.specs.declared.sqe.fields.SqeFields.{SqeFields}
use Rattle.nvme_spec.specs.Bytes.{with_bytes}
use Rattle.nvme_spec.proofs.Splices.{length-with_bytes}
use Rattle.nvme_driver.proofs.PageLists.{part-there}
use Rattle.nvme_driver.specs.Layout.{data_area, list_page}
use Rattle.nvme_machine.specs.declared.fetched.FetchedCommand.{FetchedCommand}
use Rattle.nvme_spec.specs.Memory as memory
use Rattle.nvme_spec.specs.World.{World, opening_world}
use Rattle.nvme_spec.specs.Power.{cycled_world}
use Rattle.nvme_driver.specs.declared.answer.Answer.TheVariants.{Aborted}
use Rattle.nvme_driver.specs.declared.lane.Lane.TheVariants.{Admin, Io}
use Rattle.nvme_driver.specs.declared.request.Request.{Request}
use Rattle.nvme_driver.specs.declared.request.Request.TheVariants.{Flush}
use Rattle.nvme_driver.specs.declared.slots.Waiting.{Waiting}
use Rattle.nvme_driver.specs.Drivers.{
  Driver,
  after_reset,
  ends,
  entry_fields,
  entry_of,
  free_slot,
  new_driver,
  place_refusal,
  placed,
  reset_calls,
  ring_calls,
  stores_of,
}
use Rattle.nvme_driver.specs.Polls.{IsNotBelow, IsOldest, aborted_at, freed, waiting_at}
use Rattle.nvme_driver.specs.Pointers.{page_entries}
use Rattle.nvme_driver.specs.Requests.{asked_of}
use Rattle.nvme_driver.specs.Rises.{create_completion_queue, create_submission_queue}
use Rattle.nvme_machine.specs.declared.seen.Fetched.TheVariants.{Took}
use Rattle.nvme_machine.specs.declared.seen.Seen.TheVariants as below
use Rattle.nvme_machine.specs.Controllers.{Controller, after_fetch, new_controller, power_cycled}
use Rattle.nvme_event.specs.declared.event.FleetEvent.TheVariants.{BringUp, Fetch, Place, Poll, Ring}
use Rattle.nvme_event.specs.declared.seen.FleetSeen.TheVariants as seen
use Rattle.nvme_mailbox.specs.Deliveries.{plain}
use Rattle.nvme_mailbox.specs.Deliveries as mail
use Rattle.nvme_mailbox.specs.Fleets.{raw_fetch}
use Rattle.nvme_refinement.specs.Sound.{EndsFit, Sound, mailbox}
use Rattle.nvme_refinement.specs.Steps.{IsStep, after_calls}
use Rattle.nvme_refinement.proofs.FetchStep.{fetch_is_a_step}
use Rattle.nvme_refinement.proofs.LaneWindows.{each-lane}
use Rattle.nvme_refinement.proofs.Opening.{opening_is_sound}
use Rattle.nvme_refinement.proofs.OwnCommands.{first-cid, first-size, length-completion, second-cid, second-size}
use Rattle.nvme_refinement.proofs.PlaceStep.{place_is_a_step}
use Rattle.nvme_refinement.proofs.PollStep.{poll_is_a_step}
use Rattle.nvme_refinement.proofs.Resetting.{reset_is_a_step}
use Rattle.nvme_refinement.proofs.RingStep.{ring_is_a_step}
use Rattle.nvme_refinement.proofs.Rising.{
  IsOwn,
  OwnCommand,
  Rises,
  risen-both,
  risen-mail,
  risen_controller,
  risen_driver,
  up_window,
}
use Rattle.nvme_refinement.proofs.TurnStep.{own_completion, says-own}
use Rattle.nvme_refinement.specs.Views.{box}
use Rattle.nvme_fleet.specs.FleetStates.{Layers}
use Rattle.nvme_fleet.proofs.Unique.{layers_run_is_unique, opening_has_tickets_once, tickets_stay_once}
use Rattle.nvme_machine.specs.Subsystems.{controller_at, opening}
use Rattle.nvme_fleet.specs.Layers.{Run, Step}
use Rattle.nvme_theorem_runs.proofs.Unfolding.{computing}
use Rattle.nvme_theorem_runs.specs.Cluster.{blocks, fetched_of, pair}
use Rattle.nvme_session_runs.proofs.DriverEvents.{cycles, fetches, places, polls, resets, rings, rises, two}
use Rattle.nvme_session_runs.proofs.DriverRises.{comes_up}
use Rattle.nvme_session_runs.specs.DriverLayers.{DriversAtWork, RunOfAnyTickets, events, fetched_flush, opened, replies}

-- The driver that has come up, and its controller.

abbrev own : ℕ → SqeFields → OwnCommand
own n f = record { command = submission_entry f; completion = completion_entry (own_completion n (submission_entry f)) }

is-own : (n : ℕ) (f : SqeFields) → n < 32 → length (submission_entry f) ≡ 64 → entry.cid (submission_entry f) ≡ 24
    → IsOwn (own n f)
is-own n f small size named = record {
  command = size;
  completion = length-completion (own_completion n (submission_entry f));
  phase = (says-own n (submission_entry f) small named).phase;
}

abbrev made : OwnCommand
made = own 0 create_completion_queue

abbrev joined : OwnCommand
joined = own 1 create_submission_queue

abbrev pub up_driver : Driver
up_driver = risen_driver (new_driver 1)

abbrev pub up_controller : Controller
up_controller = risen_controller 1 (up_window memory.zeros made joined)

rises-so : Rises (new_driver 1) (new_controller 1) made joined
rises-so = record {
  sound = (opening_is_sound 1 1).sound;
  down = refl;
  command = is-own 0 create_completion_queue (omega arith) first-size first-cid;
  later = is-own 1 create_submission_queue (omega arith) second-size second-cid;
}

up-sound : Sound up_driver up_controller
up-sound = record {
  both = risen-both 1 (new_driver 1) (new_controller 1) made joined rises-so;
  fits = each-lane Admin (λ l. EndsFit (ends l up_driver)) (record { tail = refl; head = refl })
      (record { tail = refl; head = refl });
  sizes = rises-so.sound.sizes;
  up = λ u. record {
    admin = record { fetched = 2; waiting = 0; posted = 2; unread = 0 };
    io = record { fetched = 0; waiting = 0; posted = 0; unread = 0 };
    submission = refl;
    completion = refl;
    fetched = tt;
    ready = refl;
    enabled = refl;
  };
  down = λ u. absurd (cc);
}

rising : IsStep (mail.brought_up (mailbox (new_driver 1) (new_controller 1))) up_driver up_controller
    (plain (seen.Up (Ok tt)))
rising = record {
  sound = up-sound;
  mail = sym (risen-mail 1 (new_driver 1) (new_controller 1) made joined rises-so);
  gives = refl;
}

-- The states between the events.

abbrev pub request : Request
request = Flush 1

abbrev pub asked : Driver
asked = placed up_driver request 0

abbrev pub asked_by : Controller
asked_by = after_calls (stores_of up_driver request 0) up_controller

abbrev pub rung : Controller
rung = after_calls (ring_calls asked) asked_by

abbrev pub fetched : Controller
fetched = (after_fetch 1 rung).controller

abbrev pub down : Driver
down = after_reset asked

abbrev pub off : Controller
off = after_calls reset_calls fetched

abbrev pub delivered : Driver
delivered = freed down 0

admitted : (place_refusal up_driver request ≡ None) × (free_slot up_driver ≡ Some 0)
admitted = (refl, refl)

written : submission_of (entry_of request 0) ≡ entry_fields (asked_of request) 0
unfolding submission_entry entry.opcode entry.cid entry.nsid entry.prp1 entry.prp2 entry.cdw10 entry.cdw11 entry.cdw12
    entry.cdw13 entry.cdw14 entry.cdw15
written = refl

placing : IsStep (mail.placed (mailbox up_driver up_controller) request) asked asked_by
    (plain (seen.Placed (Ok (record { 0 = 1 }))))
placing = place_is_a_step up_driver up_controller request 0 up-sound admitted.0 admitted.1 written

ringing : IsStep (mail.rung (mailbox asked asked_by)) asked rung (plain (seen.Rung (Ok tt)))
ringing = ring_is_a_step asked asked_by placing.sound

takes : (raw_fetch rung 1 ≡ Took) × ((after_fetch 1 rung).seen ≡ below.Fetched Took)
unfolding computing submission_entry page_entries
takes = (refl, refl)

fetching : IsStep (mail.fetched 1 (mailbox asked rung)) asked fetched (plain (seen.Fetched Took))
fetching =
    subst (λ what. IsStep (mail.fetched 1 (mailbox asked rung)) asked fetched (plain (seen.Fetched what))) takes.0
    (fetch_is_a_step asked rung 1 ringing.sound)

resetting : IsStep (mail.reset (mailbox asked fetched)) down off (plain seen.Reset)
resetting = reset_is_a_step asked fetched fetching.sound

none-aborted : (n k : ℕ) → aborted_at (replicate n None) k ≡ None
none-aborted zero k = refl
none-aborted (suc n) zero = refl
none-aborted (suc n) (suc k) = none-aborted n k

oldest : IsOldest down.slots (Some 0)
oldest = (record { 0 = 1 }, refl, by)
  where
    by : (k : ℕ) → IsNotBelow (record { 0 = 1 }) (aborted_at down.slots k)
    by zero = omega arith
    by (suc k) = subst (IsNotBelow (record { 0 = 1 })) (sym (none-aborted 23 k)) tt

polling : IsStep (mail.polled (mailbox down off)) delivered off
    (plain (seen.Polled (Ok (Some (Aborted (record { 0 = 1 }))))))
polling = poll_is_a_step down off (Some 0) resetting.sound oldest

-- The run.

abbrev pub world : World
world = opening_world pair

abbrev pub other_driver : Driver
other_driver = new_driver 1

abbrev pub at : Driver → Controller → Layers
at d c = two world blocks other_driver (new_controller 2) d c

abbrev pub ended : Layers
ended = two (cycled_world world) blocks (after_reset other_driver) (power_cycled (new_controller 2))
    (after_reset delivered) (power_cycled off)

opened-as : at (new_driver 1) (new_controller 1) ≡ opened
unfolding opening
opened-as = refl

few : blocks.failures < 2 ^ 64 - 1
few = omega arith

rising-step : Step true opened (BringUp 1) (plain (seen.Up (Ok tt))) (at up_driver up_controller)
rising-step = subst (λ l. Step true l (BringUp 1) (plain (seen.Up (Ok tt))) (at up_driver up_controller)) opened-as
    (rises world blocks other_driver (new_controller 2) (new_driver 1) up_driver (new_controller 1) up_controller
    (comes_up world blocks (new_controller 2)) rising)

placing-step : Step true (at up_driver up_controller) (Place 1 request)
    (plain (seen.Placed (Ok (record { 0 = 1 })))) (at asked asked_by)
placing-step = places world blocks other_driver (new_controller 2) up_driver up_controller request 0 admitted.1 placing

ringing-step : Step true (at asked asked_by) (Ring 1) (plain (seen.Rung (Ok tt))) (at asked rung)
ringing-step = rings world blocks other_driver (new_controller 2) asked asked_by ringing

fetching-step : Step true (at asked rung) (Fetch 1 1) (plain (seen.Fetched Took)) (at asked fetched)
fetching-step = fetches world blocks other_driver (new_controller 2) asked rung 1 Took takes.1 fetching

pub begins : Run true opened (take 4 events) (take 4 replies) (at asked fetched)
begins = (
  at up_driver up_controller,
  rising-step,
  (at asked asked_by, placing-step, (at asked rung, ringing-step, (at asked fetched, fetching-step, refl))),
)

pub run : Run true opened events replies ended
run =
    let e = other_driver in
    let x = new_controller 2 in (
      at up_driver up_controller,
      rising-step,
      (
        at asked asked_by,
        placing-step,
        (
          at asked rung,
          ringing-step,
          (
            at asked fetched,
            fetching-step,
            (
              at down off,
              resets world blocks e x asked fetched resetting,
              (
                at delivered off,
                polls world blocks e x down off 0 oldest polling.mail polling.gives,
                (ended, cycles world blocks e x delivered off polling.sound (opening_is_sound 1 2).sound, refl),
              ),
            ),
          ),
        ),
      ),
    )

-- The command in the memory of the controller: after the stores of the data and of the list, which are empty.
abbrev stored : List ℕ
stored = with_bytes (with_bytes up_controller.window (data_area 0) []) (list_page 0) []

long : (w : List ℕ) → length w ≡ 4194304
    → length (with_bytes (with_bytes w (data_area 0) []) (list_page 0) []) ≡ 4194304
long w whole =
    let first = length-with_bytes w (data_area 0) [] (omega (arith, whole)) ∙ whole in
    length-with_bytes (with_bytes w (data_area 0) []) (list_page 0) [] (omega (arith, first)) ∙ first

stored-long : length stored ≡ 4194304
stored-long = long up_controller.window up-sound.both.window

fits : (n : ℕ) → n ≡ 4194304 → 0x2000 + 64 ≤ n
fits n e = omega (arith, e)

entry-long : length (entry_of request 0) ≡ 64
unfolding submission_entry
entry-long = refl

taken : fetched.fetched ≡ record {
  entry = slice_range (with_bytes stored 0x2000 (entry_of request 0)) 0x2000 (0x2000 + 64);
  queue = 1;
  marked = false;
} ∷ []
unfolding computing submission_entry page_entries
taken = refl

has-flush : fetched_of (at asked fetched).subsystem 1 ≡ fetched_flush ∷ []
unfolding controller_at
has-flush = taken
    ∙ ap (λ bytes. (let t : FetchedCommand = record { entry = bytes; queue = 1; marked = false } in t) ∷ [])
    (part-there stored (entry_of request 0) 0x2000 64 entry-long (fits (length stored) stored-long))

pub drivers_at_work : DriversAtWork
unfolding opening
drivers_at_work = record {
  once = opening_has_tickets_once pair blocks;
  between = at asked fetched;
  begins = begins;
  fetched = has-flush;
  left = ended;
  run = run;
  drivers = refl;
  kept = tickets_stay_once true opened ended events replies run (opening_has_tickets_once pair blocks);
  alone = λ other others h calm.
      layers_run_is_unique opened ended other events replies others (opening_has_tickets_once pair blocks) run h refl
      calm few;
}

-- A driver that is down and has two aborted requests with ticket 1.

abbrev twin : Option Waiting
twin = Some (record { ticket = record { 0 = 1 }; lane = Io; received = 0; live = false })

abbrev twins : Driver
twins = record (new_driver 1) { next = 2; slots = twin ∷ twin ∷ replicate 22 None }

twins-oldest : (k : ℕ) → IsNotBelow (record { 0 = 1 }) (aborted_at twins.slots k)
twins-oldest zero = omega arith
twins-oldest (suc zero) = omega arith
twins-oldest (suc (suc k)) = subst (IsNotBelow (record { 0 = 1 })) (sym (none-aborted 22 k)) tt

-- either is the oldest, and the mailbox is the same without it
either : ((mail.polled (mailbox twins (new_controller 1))).mailbox ≡ mailbox (freed twins 0) (new_controller 1))
    × ((mail.polled (mailbox twins (new_controller 1))).mailbox ≡ mailbox (freed twins 1) (new_controller 1))
unfolding box
either = (refl, refl)

delivery : (mail.polled (mailbox twins (new_controller 1))).reply
    ≡ plain (seen.Polled (Ok (Some (Aborted (record { 0 = 1 })))))
unfolding box
delivery = refl

first-freed : Step true (at twins (new_controller 1)) (Poll 1)
    (plain (seen.Polled (Ok (Some (Aborted (record { 0 = 1 })))))) (at (freed twins 0) (new_controller 1))
first-freed = polls world blocks other_driver (new_controller 2) twins (new_controller 1) 0
    (record { 0 = 1 }, refl, twins-oldest) either.0 delivery

second-freed : Step true (at twins (new_controller 1)) (Poll 1)
    (plain (seen.Polled (Ok (Some (Aborted (record { 0 = 1 })))))) (at (freed twins 1) (new_controller 1))
second-freed = polls world blocks other_driver (new_controller 2) twins (new_controller 1) 1
    (record { 0 = 1 }, refl, twins-oldest) either.1 delivery

-- whether the first slot of the first driver is free
abbrev is_free : List (Option Driver) → Bool
is_free [] = false
is_free (None ∷ drivers) = false
is_free (Some d ∷ drivers) = is_none (waiting_at d.slots 0)

pub run_needs_tickets_once : RunOfAnyTickets → ⊥
run_needs_tickets_once law =
    let delivered = plain (seen.Polled (Ok (Some (Aborted (record { 0 = 1 }))))) in
    let same = law (at twins (new_controller 1)) (at (freed twins 0) (new_controller 1))
    (at (freed twins 1) (new_controller 1)) (Poll 1 ∷ []) (delivered ∷ []) (delivered ∷ [])
    (at (freed twins 0) (new_controller 1), first-freed, refl)
    (at (freed twins 1) (new_controller 1), second-freed, refl) refl refl few in
    false≢true (ap (λ (l : Layers). is_free l.drivers) same.1)
