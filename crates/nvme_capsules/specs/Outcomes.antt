-- What becomes of a command (NVM Express Base Specification 2.0, Connect Command; NVMe/TCP Transport Specification 1.0,
-- Command Capsule, Ready to Transfer).
use Rattle.std.specs.Prelude.{ℕ, Bool, Option, Some, None, Result, Ok, Err}
use Rattle.nvme_pdu.specs.declared.fatal.Fatal.{Fatal}
use Rattle.nvme_wire.specs.declared.status.Status.{Status}
use Rattle.nvme_responses.specs.declared.refused.Refused.{Refused}
use Rattle.nvme_transfers.specs.declared.command.Command.{Command}
use Rattle.nvme_transfers.specs.declared.command.Refused.{Refused as Unwanted}
use Rattle.nvme_transfers.specs.States.{State as Transfers}
use Rattle.nvme_transfers.specs.Transfers.{admitted, after_begin}
use Rattle.nvme_capsules.specs.declared.capsule.Capsule.{Capsule}
use Rattle.nvme_capsules.specs.declared.connect_stage.ConnectStage.{ConnectStage}
use Rattle.nvme_capsules.specs.declared.connect_stage.ConnectStage.TheVariants as stage
use Rattle.nvme_capsules.specs.declared.data_place.DataPlace.{DataPlace}
use Rattle.nvme_capsules.specs.declared.data_place.DataPlace.TheVariants as place
use Rattle.nvme_capsules.specs.declared.outcome.Data.TheVariants as data_of
use Rattle.nvme_capsules.specs.declared.outcome.Outcome.{Outcome}
use Rattle.nvme_capsules.specs.declared.outcome.Outcome.TheVariants as outcome
use Rattle.nvme_capsules.specs.Capsules.{refusal}
use Rattle.nvme_capsules.specs.DataPlaces.{data_place}
use Rattle.nvme_capsules.specs.Statuses.{command_sequence_error}

-- PDU Sequence Error
abbrev pub out_of_sequence : Fatal
out_of_sequence = record { status = 2; field = 0 }

-- The data of Connect are in its capsule.
abbrev pub on_request : ConnectStage → ℕ → Outcome
on_request stage.NotConnected bytes = outcome.Refused command_sequence_error
on_request stage.Authenticating bytes = outcome.Waits bytes
on_request stage.Connected bytes = outcome.Waits bytes

abbrev pub at_place : ConnectStage → Result DataPlace Status → Outcome
at_place s (Err status) = outcome.Refused status
at_place s (Ok (place.InCapsule begin bytes)) = outcome.Ready (data_of.InCapsule begin bytes)
at_place s (Ok (place.FromController bytes)) = outcome.Ready (data_of.FromController bytes)
at_place s (Ok (place.OnRequest bytes)) = on_request s bytes

abbrev pub placed : ConnectStage → Capsule → Outcome
placed s c = at_place s (data_place c.entry c.data_length)

abbrev pub unless_refused : Option Status → ConnectStage → Capsule → Outcome
unless_refused (Some status) s c = outcome.Refused status
unless_refused None s c = placed s c

-- by whether the queue has accepted the command, before its wait for data begins
abbrev pub planned : Result Bool Refused → ConnectStage → Capsule → Outcome
planned (Ok is_conflict) s c = unless_refused (refusal s c is_conflict) s c
planned (Err e) s c = outcome.Breaks out_of_sequence

abbrev pub command_of : Capsule → ℕ → Command
command_of c bytes = record { entry = c.entry; length = bytes }

abbrev pub begun : Result (Unit {0}) Unwanted → ℕ → Outcome
begun (Ok u) bytes = outcome.Waits bytes
begun (Err e) bytes = outcome.Breaks out_of_sequence

-- what has become of it then
abbrev pub settled : Transfers → Outcome → Capsule → Outcome
settled t (outcome.Breaks fatal) c = outcome.Breaks fatal
settled t (outcome.Refused status) c = outcome.Refused status
settled t (outcome.Waits bytes) c = begun (admitted t (command_of c bytes)) bytes
settled t (outcome.Ready d) c = outcome.Ready d

abbrev pub transfers_after : Transfers → Outcome → Capsule → Transfers
transfers_after t (outcome.Breaks fatal) c = t
transfers_after t (outcome.Refused status) c = t
transfers_after t (outcome.Waits bytes) c = after_begin t (command_of c bytes)
transfers_after t (outcome.Ready d) c = t
