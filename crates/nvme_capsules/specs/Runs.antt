-- Runs of any calls for one connection, the newest call first, and what became of its commands.
use Rattle.std.specs.Prelude.{ℕ, Bool, if◌then◌else◌, List, [], ◌∷◌, ◌++◌, map, Result, Ok, Err}
use Rattle.nvme_wire.specs.declared.status.Status.{Status}
use Rattle.nvme_responses.specs.declared.reply.Reply.{Reply}
use Rattle.nvme_responses.specs.States.{State as Responses}
use Rattle.nvme_responses.specs.Responses.{
  accepted,
  after_accept,
  after_connect,
  after_end,
  after_forget,
  after_respond,
  after_stop,
  none as no_commands,
}
use Rattle.nvme_responses.specs.Runs as responses
use Rattle.nvme_transfers.specs.declared.command.Command.{Command}
use Rattle.nvme_transfers.specs.declared.command.Refused.{Refused as Unwanted}
use Rattle.nvme_transfers.specs.declared.part.Part.{Part}
use Rattle.nvme_transfers.specs.States.{State as Transfers}
use Rattle.nvme_transfers.specs.Transfers.{admitted, after_part, after_request, ended, none as no_transfers}
use Rattle.nvme_transfers.specs.Runs as transfers
use Rattle.nvme_transfers.specs.Runs.{Whole, completes}
use Rattle.nvme_capsules.specs.declared.capsule.Capsule.{Capsule}
use Rattle.nvme_capsules.specs.declared.connect_stage.ConnectStage.{ConnectStage}
use Rattle.nvme_capsules.specs.declared.outcome.Data.{Data}
use Rattle.nvme_capsules.specs.declared.outcome.Outcome.{Outcome}
use Rattle.nvme_capsules.specs.declared.outcome.Outcome.TheVariants as outcome
use Rattle.nvme_capsules.specs.Capsules.{cid_of}
use Rattle.nvme_capsules.specs.Outcomes.{command_of, planned, settled, transfers_after}
use Rattle.nvme_capsules.specs.Statuses.{transient_transport_error}

-- the commands of a connection
pub record State : Type 0 where
  -- those without a response
  pub responses : Responses
  -- those without all their data
  pub transfers : Transfers

-- A capsule comes to a connection that is so far, or a part of the data that an R2T asks for; an R2T is asked for; a
-- command gets its response, or is dropped; Connect has succeeded; no more commands are accepted; or nothing is
-- answered any more.
pub data Call : Type 0 where
  Comes : ConnectStage → Capsule → Call
  Brings : Part → Call
  Requests : Call
  Responds : Reply → Call
  Forgets : ℕ → Call
  Connects : ℕ → Bool → Call
  Ends : Call
  Stops : Call

abbrev pub planned_at : State → ConnectStage → Capsule → Outcome
planned_at s now c = planned (accepted s.responses (cid_of c.entry)) now c

abbrev pub outcome_at : State → ConnectStage → Capsule → Outcome
outcome_at s now c = settled s.transfers (planned_at s now c) c

abbrev pub after : State → Call → State
after s (Comes now c) = record {
  responses = after_accept s.responses (cid_of c.entry);
  transfers = transfers_after s.transfers (planned_at s now c) c;
}
after s (Brings p) = record s { transfers = after_part s.transfers p }
after s Requests = record s { transfers = after_request s.transfers }
after s (Responds r) = record s { responses = after_respond s.responses r }
after s (Forgets cid) = record s { responses = after_forget s.responses cid }
after s (Connects sqsize disabled) = record s { responses = after_connect s.responses sqsize disabled }
after s Ends = record { responses = after_end s.responses; transfers = ended }
after s Stops = record { responses = after_stop s.responses; transfers = ended }

-- a connection of which nothing has come
abbrev pub state_after : List Call → State
state_after [] = record { responses = no_commands; transfers = no_transfers }
state_after (call ∷ run) = after (state_after run) call

-- ---- the calls that concern responses, and those that concern data

abbrev pub response_calls : List Call → List responses.Call
response_calls [] = []
response_calls (Comes now c ∷ run) = responses.Accepts (cid_of c.entry) ∷ response_calls run
response_calls (Brings p ∷ run) = response_calls run
response_calls (Requests ∷ run) = response_calls run
response_calls (Responds r ∷ run) = responses.Responds r ∷ response_calls run
response_calls (Forgets cid ∷ run) = responses.Forgets cid ∷ response_calls run
response_calls (Connects sqsize disabled ∷ run) = responses.Connects sqsize disabled ∷ response_calls run
response_calls (Ends ∷ run) = responses.Ends ∷ response_calls run
response_calls (Stops ∷ run) = responses.Stops ∷ response_calls run

abbrev pub begins : Outcome → Capsule → List transfers.Call → List transfers.Call
begins (outcome.Breaks fatal) c calls = calls
begins (outcome.Refused status) c calls = calls
begins (outcome.Waits bytes) c calls = transfers.Begins (command_of c bytes) ∷ calls
begins (outcome.Ready d) c calls = calls

abbrev pub transfer_calls : List Call → List transfers.Call
transfer_calls [] = []
transfer_calls (Comes now c ∷ run) = begins (planned_at (state_after run) now c) c (transfer_calls run)
transfer_calls (Brings p ∷ run) = transfers.Takes p ∷ transfer_calls run
transfer_calls (Requests ∷ run) = transfers.Requests ∷ transfer_calls run
transfer_calls (Responds r ∷ run) = transfer_calls run
transfer_calls (Forgets cid ∷ run) = transfer_calls run
transfer_calls (Connects sqsize disabled ∷ run) = transfer_calls run
transfer_calls (Ends ∷ run) = transfers.Ends ∷ transfer_calls run
transfer_calls (Stops ∷ run) = transfers.Ends ∷ transfer_calls run

-- ---- the commands that were accepted, by their identifiers

abbrev pub commands : List Call → List ℕ
commands run = responses.commands (response_calls run)

-- ---- the commands that are ready, in their order

-- with its capsule, or with the data that its host has sent in answer to R2T
pub data Ready : Type 0 where
  AtOnce : Capsule → Data → Ready
  Later : Whole → Ready

abbrev pub cid_of_ready : Ready → ℕ
cid_of_ready (AtOnce c d) = cid_of c.entry
cid_of_ready (Later w) = cid_of w.command.entry

abbrev pub ready_if : Outcome → Capsule → List Ready
ready_if (outcome.Breaks fatal) c = []
ready_if (outcome.Refused status) c = []
ready_if (outcome.Waits bytes) c = []
ready_if (outcome.Ready d) c = AtOnce c d ∷ []

-- those whose data are as they were sent
abbrev pub sound : List Whole → List Ready
sound [] = []
sound (w ∷ ws) = if w.is_sound then Later w ∷ sound ws else sound ws

abbrev pub readies : List Call → Call → List Ready
readies run (Comes now c) = ready_if (outcome_at (state_after run) now c) c
readies run (Brings p) = sound (completes (transfer_calls run) (transfers.Takes p))
readies run Requests = []
readies run (Responds r) = []
readies run (Forgets cid) = []
readies run (Connects sqsize disabled) = []
readies run Ends = []
readies run Stops = []

abbrev pub ready : List Call → List Ready
ready [] = []
ready (call ∷ run) = ready run ++ readies run call

-- ---- the commands that are answered and not executed, in their order

pub record Refusal : Type 0 where
  pub cid : ℕ
  pub status : Status

abbrev pub refused_if : Outcome → Capsule → List Refusal
refused_if (outcome.Breaks fatal) c = []
refused_if (outcome.Refused status) c = record { cid = cid_of c.entry; status = status } ∷ []
refused_if (outcome.Waits bytes) c = []
refused_if (outcome.Ready d) c = []

abbrev pub unsound : List Whole → List Refusal
unsound [] = []
unsound (w ∷ ws) =
    if w.is_sound then unsound ws
    else record { cid = cid_of w.command.entry; status = transient_transport_error } ∷ unsound ws

abbrev pub refuses : List Call → Call → List Refusal
refuses run (Comes now c) = refused_if (outcome_at (state_after run) now c) c
refuses run (Brings p) = unsound (completes (transfer_calls run) (transfers.Takes p))
refuses run Requests = []
refuses run (Responds r) = []
refuses run (Forgets cid) = []
refuses run (Connects sqsize disabled) = []
refuses run Ends = []
refuses run Stops = []

abbrev pub refused : List Call → List Refusal
refused [] = []
refused (call ∷ run) = refused run ++ refuses run call

-- ---- the commands that ended with the connection, by their identifiers

abbrev pub unwanted_if : Result (Unit {0}) Unwanted → Capsule → List ℕ
unwanted_if (Ok u) c = []
unwanted_if (Err e) c = cid_of c.entry ∷ []

-- one that has ended the connection, since it could not wait for its data
abbrev pub unwanted_by : Transfers → Outcome → Capsule → List ℕ
unwanted_by t (outcome.Breaks fatal) c = []
unwanted_by t (outcome.Refused status) c = []
unwanted_by t (outcome.Waits bytes) c = unwanted_if (admitted t (command_of c bytes)) c
unwanted_by t (outcome.Ready d) c = []

abbrev pub unwants : List Call → Call → List ℕ
unwants run (Comes now c) = unwanted_by (state_after run).transfers (planned_at (state_after run) now c) c
unwants run (Brings p) = []
unwants run Requests = []
unwants run (Responds r) = []
unwants run (Forgets cid) = []
unwants run (Connects sqsize disabled) = []
unwants run Ends = []
unwants run Stops = []

abbrev pub unwanted : List Call → List ℕ
unwanted [] = []
unwanted (call ∷ run) = unwanted run ++ unwants run call

abbrev pub cid_of_command : Command → ℕ
cid_of_command c = cid_of c.entry

-- those that waited for their data, and those that could not
abbrev pub lost : List Call → List ℕ
lost run = map cid_of_command (transfers.dropped (transfer_calls run)) ++ unwanted run

-- ---- the commands that wait for their data, by their identifiers

abbrev pub waiting : State → List ℕ
waiting s = map cid_of_command (transfers.in_flight s.transfers)
