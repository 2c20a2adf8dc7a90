-- Results for C.
use Rattle.std.specs.Prelude.{ℕ, Option, None, Some, Result, Ok, Err}
use Rattle.nvme_driver.specs.declared.answer.Answer.{Answer}
use Rattle.nvme_driver.specs.declared.answer.Answer.TheVariants.{Done, Aborted}
use Rattle.nvme_driver.specs.declared.faults.PollFault.{PollFault}
use Rattle.nvme_driver.specs.declared.faults.PollFault.TheVariants.{NotUp, UnknownCommand}
use Rattle.nvme_driver.specs.declared.faults.PlaceRefusal.{PlaceRefusal}
use Rattle.nvme_driver.specs.declared.faults.PlaceRefusal.TheVariants.{
  NotReady,
  BadRequest,
  NoSlot,
  RingFull,
  TicketsExhausted,
}
use Rattle.nvme_driver.specs.declared.faults.UpFault.{UpFault}
use Rattle.nvme_driver.specs.declared.faults.UpFault.TheVariants as up
use Rattle.nvme_driver.specs.declared.ticket.Ticket.{Ticket}
use Rattle.nvme_host.specs.declared.outcome.Outcome.{Outcome}
use Rattle.nvme_host.specs.declared.outcome.Placed.{Placed}
use Rattle.nvme_host.specs.declared.recording_port.Need.{Need}
use Rattle.nvme_host.specs.declared.recording_port.Need.TheVariants.{Nothing, Status, Completion}

-- a result without further fields
abbrev pub with_code : ℕ → Outcome
with_code code = record { ticket = 0; len = 0; dw0 = 0; code = code; sct = 0; sc = 0 }

-- of a poll
abbrev pub outcome_of : Result (Option Answer) PollFault → Outcome
outcome_of (Ok None) = with_code 3
outcome_of (Ok (Some (Done ticket status word len))) =
    record { ticket = ticket.0; len = len; dw0 = word; code = 1; sct = status.sct; sc = status.sc }
outcome_of (Ok (Some (Aborted ticket))) = record (with_code 2) { ticket = ticket.0 }
outcome_of (Err NotUp) = with_code 26
outcome_of (Err UnknownCommand) = with_code 31

-- of a bring-up, which continues once it has what it needs
abbrev pub finished_outcome : Result (Unit {0}) UpFault → Outcome
finished_outcome (Ok u) = with_code 0
finished_outcome (Err up.AlreadyUp) = with_code 22
finished_outcome (Err up.NotReady) = with_code 23
finished_outcome (Err up.NoAnswer) = with_code 24
finished_outcome (Err (up.Refused status)) = record (with_code 25) { sct = status.sct; sc = status.sc }

abbrev pub bring_up_outcome : Need → Result (Unit {0}) UpFault → Outcome
bring_up_outcome Nothing result = finished_outcome result
bring_up_outcome Status result = with_code 4
bring_up_outcome Completion result = with_code 5

-- of a placing
abbrev pub refused : ℕ → Placed
refused code = record { ticket = 0; code = code }

abbrev pub placed_of : Result Ticket PlaceRefusal → Placed
placed_of (Ok ticket) = record { ticket = ticket.0; code = 0 }
placed_of (Err NotReady) = refused 26
placed_of (Err BadRequest) = refused 27
placed_of (Err NoSlot) = refused 28
placed_of (Err RingFull) = refused 29
placed_of (Err TicketsExhausted) = refused 30
