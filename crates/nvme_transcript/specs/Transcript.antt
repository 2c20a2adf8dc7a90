-- The transcript: one line for each event.
use Rattle.std.specs.Prelude.{
  ℕ,
  ◌^◌,
  ◌-◌,
  false,
  List,
  [],
  ◌∷◌,
  ◌++◌,
  codes,
  length,
  Option,
  Some,
  None,
  Result,
  Ok,
  Err,
}
use Rattle.std.specs.List.{flat_map, zip}
use Rattle.std.specs.Fmt.{decimal, digits, padded_integral, format_spec}
use Rattle.nvme_wire.specs.StatusNames.{status_text}
use Rattle.nvme_event.specs.declared.event.FleetEvent.{FleetEvent}
use Rattle.nvme_event.specs.declared.event.FleetEvent.TheVariants as event
use Rattle.nvme_event.specs.declared.seen.FleetSeen.{FleetSeen}
use Rattle.nvme_event.specs.declared.seen.FleetSeen.TheVariants as seen
use Rattle.nvme_event.specs.Events.{controller_of}
use Rattle.nvme_event.specs.Replies.{Reply}
use Rattle.nvme_machine.specs.declared.seen.Fetched.{Fetched}
use Rattle.nvme_machine.specs.declared.seen.Fetched.TheVariants.{Took, Idle}
use Rattle.nvme_machine.specs.declared.seen.Executed.{Executed}
use Rattle.nvme_machine.specs.declared.seen.Executed.TheVariants.{Posted, NoSuch, CqFull}
use Rattle.nvme_driver.specs.FaultNames.{up_fault_text, refusal_text, poll_fault_text}
use Rattle.nvme_driver.specs.declared.faults.NotUp.{NotUp}
use Rattle.nvme_driver.specs.declared.faults.PlaceRefusal.{PlaceRefusal}
use Rattle.nvme_driver.specs.declared.faults.UpFault.{UpFault}
use Rattle.nvme_driver.specs.declared.faults.PollFault.{PollFault}
use Rattle.nvme_driver.specs.declared.ticket.Ticket.{Ticket}
use Rattle.nvme_driver.specs.declared.answer.Answer.{Answer}
use Rattle.nvme_driver.specs.declared.answer.Answer.TheVariants.{Done, Aborted}
use Rattle.script_text.specs.HexText.{hex_or_dash, without_trailing_zeros}

abbrev pub controller_text : FleetEvent → List ℕ
controller_text e = decimal (controller_of e)

-- the controller, with the queue of a fetch or the place of an execution
abbrev pub subject_text : FleetEvent → List ℕ
subject_text (event.Fetch cntlid qid) = decimal cntlid ++ codes " " ++ decimal qid
subject_text (event.Execute cntlid i) = decimal cntlid ++ codes " " ++ decimal i
subject_text e = controller_text e

-- a double word in eight hexadecimal digits
abbrev pub double_word_text : ℕ → List ℕ
double_word_text n = padded_integral (format_spec 32 0 4 8 (2 ^ 64 - 1)) false [] (digits 16 false n)

-- the number of bytes, and the bytes in hexadecimal without their trailing zeros; nothing if there are none
abbrev pub data_text : List ℕ → List ℕ
data_text [] = []
data_text (b ∷ bs) = codes " " ++ decimal (length (b ∷ bs)) ++ codes " "
    ++ hex_or_dash (without_trailing_zeros (b ∷ bs))

abbrev pub answer_text : Answer → List ℕ → List ℕ
answer_text (Done ticket status dw0 len) bytes =
    decimal ticket.0 ++ codes " " ++ status_text status ++ codes " " ++ double_word_text dw0 ++ data_text bytes
answer_text (Aborted ticket) bytes = decimal ticket.0 ++ codes " aborted"

abbrev pub up_text : Result (Unit {0}) UpFault → List ℕ
up_text (Ok up) = codes "ok"
up_text (Err fault) = up_fault_text fault

abbrev pub fetched_text : Fetched → List ℕ
fetched_text Took = codes "took"
fetched_text Idle = codes "idle"

abbrev pub executed_text : Executed → List ℕ
executed_text (Posted outcome) = codes "posted " ++ status_text outcome.status ++ codes " " ++ decimal outcome.rule
executed_text NoSuch = codes "none"
executed_text CqFull = codes "full"

-- the result of a poll, and its data
abbrev pub polled_text : Result (Option Answer) PollFault → List ℕ → List ℕ
polled_text (Ok (Some answer)) bytes = answer_text answer bytes
polled_text (Ok None) bytes = codes "nothing"
polled_text (Err fault) bytes = poll_fault_text fault

-- the results of bringing a controller up, of placing a request, and of ringing
abbrev pub brought_text : List ℕ → Result (Unit {0}) UpFault → List ℕ
brought_text c up = codes "up " ++ c ++ codes " " ++ up_text up

abbrev pub placed_text : List ℕ → Result Ticket PlaceRefusal → List ℕ
placed_text c (Ok ticket) = codes "placed " ++ c ++ codes " " ++ decimal ticket.0
placed_text c (Err refusal) = codes "refused " ++ c ++ codes " " ++ refusal_text refusal

abbrev pub rung_text : List ℕ → Result (Unit {0}) NotUp → List ℕ
rung_text c (Ok rung) = codes "rung " ++ c
rung_text c (Err fault) = codes "rung " ++ c ++ codes " NotUp"

-- the result of an event, by its controller and its subject, and its data
abbrev pub seen_text : List ℕ → List ℕ → FleetSeen → List ℕ → List ℕ
seen_text c s (seen.Up up) bytes = brought_text c up
seen_text c s (seen.Placed placed) bytes = placed_text c placed
seen_text c s (seen.Rung rung) bytes = rung_text c rung
seen_text c s (seen.Fetched fetched) bytes = codes "fetch " ++ s ++ codes " " ++ fetched_text fetched
seen_text c s (seen.Executed executed) bytes = codes "execute " ++ s ++ codes " " ++ executed_text executed
seen_text c s (seen.Polled polled) bytes = codes "poll " ++ c ++ codes " " ++ polled_text polled bytes
seen_text c s seen.Reset bytes = codes "reset " ++ c
seen_text c s seen.Stored bytes = codes "stored " ++ c
seen_text c s seen.Outside bytes = codes "outside " ++ c
seen_text c s seen.Wrote bytes = codes "wrote32 " ++ c
seen_text c s seen.Cycled bytes = codes "powercycle"
seen_text c s seen.NoController bytes = codes "nocontroller " ++ c
seen_text c s seen.NoDriver bytes = codes "nodriver " ++ c
seen_text c s seen.NotRaw bytes = codes "notraw " ++ c

-- the text of an event's line
abbrev pub event_text : FleetEvent → FleetSeen → List ℕ → List ℕ
event_text e what bytes = seen_text (controller_text e) (subject_text e) what bytes

abbrev pub seen_line : FleetEvent → FleetSeen → List ℕ → List ℕ
seen_line e what bytes = event_text e what bytes ++ 10 ∷ []

-- the line of an event and its reply
abbrev pub line_of : FleetEvent → Reply → List ℕ
line_of e reply = seen_line e reply.seen reply.bytes

-- the lines of events and their replies
abbrev pub transcript : List FleetEvent → List Reply → List ℕ
transcript events replies = flat_map (λ (p : FleetEvent × Reply). line_of p.0 p.1) (zip events replies)
