-- Laws over any run of calls: each command gets at most one response, its own.
use Rattle.std.specs.Prelude.{
  ◌≡◌,
  ◌⊎◌,
  ℕ,
  ◌+◌,
  ◌%◌,
  ◌^◌,
  ◌<◌,
  ◌≤◌,
  Bool,
  true,
  false,
  ◌==◌,
  if◌then◌else◌,
  List,
  [],
  ◌∷◌,
  ◌++◌,
  length,
  Contains,
  Some,
  None,
  Ok,
  Err,
}
use Rattle.nvme_wire.specs.Entry.{word_at, dword_at, bits}
use Rattle.nvme_wire.specs.declared.status.Status.{Status}
use Rattle.nvme_responses.specs.declared.refused.Refused.{Refused}
use Rattle.nvme_responses.specs.declared.reply.Reply.{Reply}
use Rattle.nvme_responses.specs.declared.reply.Response.{Response}
use Rattle.nvme_responses.specs.Entries.{entry, without_do_not_retry, has_do_not_retry, status_field}
use Rattle.nvme_responses.specs.States.{State}
use Rattle.nvme_responses.specs.Responses.{
  accepted,
  after_accept,
  response,
  after_respond,
  is_outstanding,
  after_forget,
}
use Rattle.nvme_responses.specs.Runs.{
  Call,
  Accepts,
  Responds,
  Forgets,
  Connects,
  Ends,
  Stops,
  state_after,
  commands,
  responses,
  dropped,
  sqsize_after,
  is_disabled_after,
  counted,
}

-- ---- each once

-- The sum of a weight over a list. Two lists whose sums are the same for any weight have the same elements, each as
-- often.
abbrev pub tally : {A : Type 0} → (A → ℕ) → List A → ℕ
tally weight [] = 0
tally weight (x ∷ xs) = weight x + tally weight xs

-- Each command that was accepted has one response with its identifier, has none yet, or was dropped. No response is
-- lost, doubled, or that of another command.
abbrev pub EachOnce : Type 0
EachOnce = (run : List Call) (weight : ℕ → ℕ)
    → tally weight (commands run)
    ≡ tally (λ (e : Response). weight e.cid) (responses run)
    + (tally weight (state_after run).outstanding + tally weight (dropped run))

-- ---- own responses

abbrev pub is : ℕ → ℕ → ℕ
is cid c = if c == cid then 1 else 0

-- how many commands of an identifier came, and how many of them were answered or dropped
abbrev pub came : List Call → ℕ → ℕ
came run cid = tally (is cid) (commands run)

abbrev pub done : List Call → ℕ → ℕ
done run cid = tally (λ (e : Response). is cid e.cid) (responses run) + tally (is cid) (dropped run)

-- a command of an identifier has come, and was neither answered nor dropped
abbrev pub Waits : List Call → ℕ → Type 0
Waits run cid = done run cid < came run cid

-- A response is that of a command which waits. It has its identifier and outcome.
pub record IsOwn (run : List Call) (r : Reply) (e : Response) : Type 0 where
  pub waits : Waits run r.cid
  pub cid : e.cid ≡ r.cid
  pub dw0 : e.dw0 ≡ r.dw0
  pub dw1 : e.dw1 ≡ r.dw1
  pub status : e.status ≡ status_field r.status

abbrev pub OwnResponses : Type 0
OwnResponses = (run : List Call) (r : Reply) (e : Response) → response (state_after run) r ≡ Some e → IsOwn run r e

-- the connection was not stopped
abbrev pub Speaks : List Call → Type 0
Speaks [] = Unit {0}
Speaks (Accepts cid ∷ run) = Speaks run
Speaks (Responds r ∷ run) = Speaks run
Speaks (Forgets cid ∷ run) = Speaks run
Speaks (Connects sqsize disabled ∷ run) = Speaks run
Speaks (Ends ∷ run) = Speaks run
Speaks (Stops ∷ run) = ⊥

-- A command that waits can be answered, until the connection is stopped.
abbrev pub WaitingAreAnswered : Type 0
WaitingAreAnswered = (run : List Call) (r : Reply) → Waits run r.cid → Speaks run
    → (e : Response) × (response (state_after run) r ≡ Some e)

-- ---- which commands are accepted

-- nor was it ended
abbrev pub Listens : List Call → Type 0
Listens [] = Unit {0}
Listens (Accepts cid ∷ run) = Listens run
Listens (Responds r ∷ run) = Listens run
Listens (Forgets cid ∷ run) = Listens run
Listens (Connects sqsize disabled ∷ run) = Listens run
Listens (Ends ∷ run) = ⊥
Listens (Stops ∷ run) = ⊥

-- the commands that came, and those that were answered or dropped
abbrev pub all_done : List Call → ℕ
all_done run = length (responses run) + length (dropped run)

-- fewer commands wait than the queue has entries, and fewer than 64
pub record HasRoom (run : List Call) : Type 0 where
  pub in_queue : length (commands run) < all_done run + (sqsize_after run + 1)
  pub in_list : length (commands run) < all_done run + 64

-- A command is accepted if the queue has room.
abbrev pub RoomIsGiven : Type 0
RoomIsGiven = (run : List Call) (cid : ℕ) → Listens run → HasRoom run
    → (is_conflict : Bool) × (accepted (state_after run) cid ≡ Ok is_conflict)

-- One is accepted only then.
abbrev pub NoneBeyond : Type 0
NoneBeyond = (run : List Call) (cid : ℕ) (is_conflict : Bool) → accepted (state_after run) cid ≡ Ok is_conflict
    → HasRoom run

-- At most 64 commands wait.
abbrev pub AtMost64 : Type 0
AtMost64 = (run : List Call) → length (commands run) ≤ all_done run + 64

-- It is a conflict exactly if another command with its identifier waits.
abbrev pub ConflictsAreFound : Type 0
ConflictsAreFound = (run : List Call) (cid : ℕ) (is_conflict : Bool)
    → accepted (state_after run) cid ≡ Ok is_conflict
    → ((is_conflict ≡ true) × Waits run cid) ⊎ ((is_conflict ≡ false) × (came run cid ≡ done run cid))

-- ---- SQHD

-- The head is the number of commands since Connect, and itself, modulo the number of entries. Each response has it,
-- unless flow control is disabled.
pub record IsCounted (run : List Call) : Type 0 where
  pub head : (state_after run).head ≡ counted run % (sqsize_after run + 1)
  pub sqhd : (r : Reply) (e : Response) → response (state_after run) r ≡ Some e
      → e.sqhd ≡ (if is_disabled_after run then 0xffff else counted run % (sqsize_after run + 1))

abbrev pub HeadIsCounted : Type 0
HeadIsCounted = (run : List Call) → IsCounted run

-- ---- refusals and the end

-- a refused command changes nothing
abbrev pub RefusedKeeps : Type 0
RefusedKeeps = (s : State) (cid : ℕ) (e : Refused) → accepted s cid ≡ Err e → after_accept s cid ≡ s

-- nor does an answer without a command
abbrev pub NoAnswerKeeps : Type 0
NoAnswerKeeps = (s : State) (r : Reply) → response s r ≡ None → after_respond s r ≡ s

-- nor does it to drop no command
abbrev pub NothingDroppedKeeps : Type 0
NothingDroppedKeeps = (s : State) (cid : ℕ) → is_outstanding s cid ≡ false → after_forget s cid ≡ s

-- After the end no command is accepted, whatever is called. After a stop none is answered either.
abbrev pub EndIsFinal : Type 0
EndIsFinal = (later run : List Call) → commands (later ++ (Ends ∷ run)) ≡ commands run

pub record IsOver (later run : List Call) : Type 0 where
  pub commands_then : commands (later ++ (Stops ∷ run)) ≡ commands run
  pub responses_then : responses (later ++ (Stops ∷ run)) ≡ responses run

abbrev pub StopIsFinal : Type 0
StopIsFinal = (later run : List Call) → IsOver later run

-- ---- the bytes of a response

pub record Fits (e : Response) : Type 0 where
  pub dw0 : e.dw0 < 2 ^ 32
  pub dw1 : e.dw1 < 2 ^ 32
  pub sqhd : e.sqhd < 2 ^ 16
  pub cid : e.cid < 2 ^ 16
  pub status : e.status < 2 ^ 16

-- The fields where the standard has them, and SQID 0.
pub record IsReadBack (e : Response) : Type 0 where
  pub size : length (entry e) ≡ 16
  pub dw0 : dword_at (entry e) 0 ≡ e.dw0
  pub dw1 : dword_at (entry e) 4 ≡ e.dw1
  pub sqhd : word_at (entry e) 8 ≡ e.sqhd
  pub sqid : word_at (entry e) 10 ≡ 0
  pub cid : word_at (entry e) 12 ≡ e.cid
  pub status : word_at (entry e) 14 ≡ e.status

abbrev pub EntriesAreReadBack : Type 0
EntriesAreReadBack = (e : Response) → Fits e → IsReadBack e

-- The fields of a status: the phase tag in bit 0, SC in bits 8:1, SCT in bits 11:9, CRD and More, and Do Not Retry.
pub record IsStatus (s : Status) (field : ℕ) : Type 0 where
  pub fits : field < 2 ^ 16
  pub phase : bits field 0 0 ≡ 0
  pub sc : bits field 8 1 ≡ s.sc
  pub sct : bits field 11 9 ≡ s.sct
  pub retry : bits field 14 12 ≡ 0
  pub do_not_retry : bits field 15 15 ≡ (if has_do_not_retry s then 1 else 0)

abbrev pub StatusesAreReadBack : Type 0
StatusesAreReadBack = (s : Status) → s.sct < 2 ^ 3 → s.sc < 2 ^ 8 → IsStatus s (status_field s)

-- A status without Do Not Retry is Success, or one after which the same command may succeed.
abbrev pub FewMayRetry : Type 0
FewMayRetry = (s : Status) → has_do_not_retry s ≡ false → Contains without_do_not_retry s
