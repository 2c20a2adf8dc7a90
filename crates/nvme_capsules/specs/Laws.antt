-- Laws over any run of calls: what becomes of each command of a connection, and that it has its own data.
use Rattle.std.specs.Prelude.{◌≡◌, ◌≢◌, ℕ, ◌+◌, ◌<◌, ◌≤◌, Bool, true, false, List, [], ◌∷◌, ◌++◌, Some, Err}
use Rattle.nvme_fabrics.specs.declared.session.Session.{Session}
use Rattle.nvme_fabrics.specs.declared.session.Session.TheVariants as session
use Rattle.nvme_responses.specs.declared.refused.Refused.{Refused}
use Rattle.nvme_responses.specs.declared.reply.Reply.{Reply}
use Rattle.nvme_responses.specs.declared.reply.Response.{Response}
use Rattle.nvme_responses.specs.Laws.{Speaks, done, is, tally}
use Rattle.nvme_responses.specs.Responses.{accepted, has, response}
use Rattle.nvme_transfers.specs.declared.command.Command.{Command}
use Rattle.nvme_transfers.specs.Laws.{IsWhole}
use Rattle.nvme_capsules.specs.declared.capsule.Capsule.{Capsule}
use Rattle.nvme_capsules.specs.declared.connect_stage.ConnectStage.{ConnectStage}
use Rattle.nvme_capsules.specs.declared.connect_stage.ConnectStage.TheVariants as stage
use Rattle.nvme_capsules.specs.declared.destination.Destination.TheVariants as destination_of
use Rattle.nvme_capsules.specs.declared.outcome.Data.{Data}
use Rattle.nvme_capsules.specs.declared.outcome.Data.TheVariants as data_of
use Rattle.nvme_capsules.specs.declared.outcome.Outcome.TheVariants as outcome
use Rattle.nvme_capsules.specs.Capsules.{cid_of, is_connect, precedes_proof}
use Rattle.nvme_capsules.specs.DataPlaces.{direction_of, most_data, sgl_address_of, sgl_identifier_of, sgl_length_of}
use Rattle.nvme_capsules.specs.Destinations.{destination}
use Rattle.nvme_capsules.specs.Runs.{
  AtOnce,
  Call,
  Comes,
  Ends,
  Later,
  Ready,
  Refusal,
  State,
  after,
  cid_of_ready,
  commands,
  lost,
  outcome_at,
  ready,
  refused,
  response_calls,
  state_after,
  waiting,
}

-- ---- each command has one outcome

-- Each command that was accepted is ready, refused, waits for its data, or ended with the connection. None is so twice,
-- and nothing else is.
abbrev pub OneOutcome : Type 0
OneOutcome = (run : List Call) (weight : ℕ → ℕ)
    → tally weight (commands run)
    ≡ tally (λ (r : Ready). weight (cid_of_ready r)) (ready run)
    + (tally (λ (r : Refusal). weight r.cid) (refused run)
    + (tally weight (waiting (state_after run)) + tally weight (lost run)))

-- how many commands with an identifier are ready or refused
abbrev pub settled_count : List Call → ℕ → ℕ
settled_count run cid =
    tally (λ (r : Ready). is cid (cid_of_ready r)) (ready run)
    + tally (λ (r : Refusal). is cid r.cid) (refused run)

-- Each of them can be answered once, until the connection is stopped.
abbrev pub EachCanBeAnswered : Type 0
EachCanBeAnswered = (run : List Call) (r : Reply)
    → done (response_calls run) r.cid < settled_count run r.cid → Speaks (response_calls run)
    → (e : Response) × (response (state_after run).responses r ≡ Some e)

-- ---- own data

-- the data that go to the controller: as many as the SGL says, at least one
pub record IsSized (e : List ℕ) (bytes : ℕ) : Type 0 where
  pub direction : direction_of e ≡ 1
  pub size : bytes ≡ sgl_length_of e
  pub some : 1 ≤ bytes
  pub most : bytes ≤ most_data

-- Those in a capsule are its own: they begin where the SGL says, and end within it.
pub record IsInCapsule (c : Capsule) (begin bytes : ℕ) : Type 0 where
  pub sized : IsSized c.entry bytes
  pub identifier : sgl_identifier_of c.entry ≡ 0x01
  pub begins : begin ≡ sgl_address_of c.entry
  pub within : begin + bytes ≤ c.data_length

-- The controller returns nothing, or at most as many bytes as the SGL says.
pub record IsReturned (e : List ℕ) (bytes : ℕ) : Type 0 where
  pub direction : 1 ≤ bytes → direction_of e ≡ 2
  pub size : 1 ≤ bytes → bytes ≡ sgl_length_of e
  pub most : bytes ≤ most_data

-- An R2T asks for as many bytes as the SGL of the command says.
pub record IsAsked (c : Command) : Type 0 where
  pub sized : IsSized c.entry c.length
  pub identifier : sgl_identifier_of c.entry ≡ 0x5a

abbrev pub HasOwn : Ready → Type 0
HasOwn (AtOnce c (data_of.InCapsule begin bytes)) = IsInCapsule c begin bytes
HasOwn (AtOnce c (data_of.FromController bytes)) = IsReturned c.entry bytes
HasOwn (Later w) = IsWhole w × ((w.is_sound ≡ true) × IsAsked w.command)

abbrev pub AllHaveOwn : List Ready → Type 0
AllHaveOwn [] = Unit {0}
AllHaveOwn (r ∷ rs) = HasOwn r × AllHaveOwn rs

-- Each command that is ready has exactly its own data.
abbrev pub OwnData : Type 0
OwnData = (run : List Call) → AllHaveOwn (ready run)

-- ---- which commands are admitted

-- Its data are as they were sent, no other command without a response has its identifier, and the connection is one
-- that may send it.
pub record IsAdmitted (s : State) (now : ConnectStage) (c : Capsule) : Type 0 where
  pub sound : c.is_sound ≡ true
  pub new : has s.responses.outstanding (cid_of c.entry) ≡ false
  pub connects : now ≡ stage.NotConnected → is_connect c.entry ≡ true
  pub proves : now ≡ stage.Authenticating → precedes_proof c.entry ≡ true

abbrev pub OnlyAdmittedAreReady : Type 0
OnlyAdmittedAreReady = (s : State) (now : ConnectStage) (c : Capsule) (d : Data)
    → outcome_at s now c ≡ outcome.Ready d → IsAdmitted s now c

abbrev pub OnlyAdmittedWait : Type 0
OnlyAdmittedWait = (s : State) (now : ConnectStage) (c : Capsule) (bytes : ℕ)
    → outcome_at s now c ≡ outcome.Waits bytes → IsAdmitted s now c

-- ---- refusals and the end

-- a command that the queue has no room for changes nothing
abbrev pub NoRoomKeeps : Type 0
NoRoomKeeps = (s : State) (now : ConnectStage) (c : Capsule) (e : Refused)
    → accepted s.responses (cid_of c.entry) ≡ Err e → after s (Comes now c) ≡ s

-- Nothing is ready or refused after the end.
pub record IsOver (later run : List Call) : Type 0 where
  pub ready_then : ready (later ++ (Ends ∷ run)) ≡ ready run
  pub refused_then : refused (later ++ (Ends ∷ run)) ≡ refused run

abbrev pub EndIsFinal : Type 0
EndIsFinal = (later run : List Call) → IsOver later run

-- ---- destinations

-- A command is for a queue of a controller only if its connection is that queue.
abbrev pub AdminQueueIsOwn : Type 0
AdminQueueIsOwn = (live : Session) (e : List ℕ) (has_queue : Bool) (index : ℕ)
    → destination live e has_queue ≡ destination_of.Admin index → live ≡ session.Queue index 0

abbrev pub IoQueueIsOwn : Type 0
IoQueueIsOwn = (live : Session) (e : List ℕ) (has_queue : Bool) (index qid : ℕ)
    → destination live e has_queue ≡ destination_of.Io index qid → (live ≡ session.Queue index qid) × (qid ≢ 0)
