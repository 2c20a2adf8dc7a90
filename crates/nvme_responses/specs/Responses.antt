-- Which commands have no response yet, and how each gets one (NVM Express Base Specification 2.0, Fabrics Connect
-- Command, Submission Queue Flow Control).
use Rattle.std.specs.Prelude.{
  ℕ,
  ◌+◌,
  Bool,
  true,
  false,
  ◌||◌,
  ◌==◌,
  nat_lt,
  nat_le,
  if◌then◌else◌,
  List,
  [],
  ◌∷◌,
  ◌++◌,
  length,
  take,
  position,
  Option,
  Some,
  None,
  Result,
  Ok,
  Err,
}
use Rattle.std.specs.List.{list_any, swap_remove}
use Rattle.nvme_responses.specs.declared.refused.Refused.{Refused}
use Rattle.nvme_responses.specs.declared.refused.Refused.TheVariants as refused
use Rattle.nvme_responses.specs.declared.reply.Reply.{Reply}
use Rattle.nvme_responses.specs.declared.reply.Response.{Response}
use Rattle.nvme_responses.specs.declared.responses.Responses.{Responses}
use Rattle.nvme_responses.specs.declared.stage.Stage.{Stage}
use Rattle.nvme_responses.specs.declared.stage.Stage.TheVariants as stage
use Rattle.nvme_responses.specs.Entries.{status_field}
use Rattle.nvme_responses.specs.States.{State}

-- ---- what C holds, whatever numbers it has

abbrev pub stage_of : ℕ → Stage
stage_of number =
    if number == 0 then stage.Open
    else (if number == 1 then stage.Ending else stage.Ended)

-- n, or the limit
abbrev pub most : ℕ → ℕ → ℕ
most limit n = if nat_lt n limit then n else limit

abbrev pub seen : Responses → State
seen r = record {
  sqsize = r.sqsize;
  head = r.head;
  is_flow_control_disabled = r.is_flow_control_disabled;
  stage = stage_of r.stage;
  outstanding = take (most 64 r.count) r.outstanding;
}

-- nothing has come
abbrev pub none : State
none = record {
  sqsize = 0;
  head = 0;
  is_flow_control_disabled = false;
  stage = stage.Open;
  outstanding = [];
}

-- ---- the head of the queue

-- the next entry of a queue, after the last one the first
abbrev pub following : ℕ → ℕ → ℕ
following sqsize head = if nat_lt head sqsize then head + 1 else 0

-- SQHD is reserved without flow control
abbrev pub sqhd : State → ℕ
sqhd s = if s.is_flow_control_disabled then 0xffff else s.head

-- ---- a command comes

abbrev pub has : List ℕ → ℕ → Bool
has outstanding cid = list_any (λ c. c == cid) outstanding

-- as many commands have no response as the queue has entries, or 64
abbrev pub is_full : State → Bool
is_full s = nat_le 64 (length s.outstanding) || nat_lt s.sqsize (length s.outstanding)

abbrev pub accepted_by : Stage → State → ℕ → Result Bool Refused
accepted_by stage.Open s cid = if is_full s then Err refused.Full else Ok (has s.outstanding cid)
accepted_by stage.Ending s cid = Err refused.Ended
accepted_by stage.Ended s cid = Err refused.Ended

-- whether its identifier is that of another command without a response, or why it is refused
abbrev pub accepted : State → ℕ → Result Bool Refused
accepted s cid = accepted_by s.stage s cid

abbrev pub with_command : Result Bool Refused → State → ℕ → State
with_command (Ok is_conflict) s cid = record s {
  head = following s.sqsize s.head;
  outstanding = s.outstanding ++ cid ∷ [];
}
with_command (Err e) s cid = s

abbrev pub after_accept : State → ℕ → State
after_accept s cid = with_command (accepted s cid) s cid

-- ---- a command gets its response, or is dropped

abbrev pub place : List ℕ → ℕ → Option ℕ
place outstanding cid = position (λ c. c == cid) outstanding

-- the last command takes the place of the one that is taken out
abbrev pub without : Option ℕ → List ℕ → List ℕ
without None outstanding = outstanding
without (Some i) outstanding = swap_remove outstanding i 0

abbrev pub is_there : Option ℕ → Bool
is_there None = false
is_there (Some i) = true

abbrev pub is_outstanding : State → ℕ → Bool
is_outstanding s cid = is_there (place s.outstanding cid)

abbrev pub after_forget : State → ℕ → State
after_forget s cid = record s { outstanding = without (place s.outstanding cid) s.outstanding }

abbrev pub response_of : State → Reply → Response
response_of s r = record {
  dw0 = r.dw0;
  dw1 = r.dw1;
  sqhd = sqhd s;
  cid = r.cid;
  status = status_field r.status;
}

abbrev pub response_by : Stage → State → Reply → Option Response
response_by stage.Open s r = if is_outstanding s r.cid then Some (response_of s r) else None
response_by stage.Ending s r = if is_outstanding s r.cid then Some (response_of s r) else None
response_by stage.Ended s r = None

abbrev pub response : State → Reply → Option Response
response s r = response_by s.stage s r

abbrev pub without_if : Option Response → State → ℕ → State
without_if None s cid = s
without_if (Some e) s cid = after_forget s cid

abbrev pub after_respond : State → Reply → State
after_respond s r = without_if (response s r) s r.cid

-- ---- Connect, and the end

-- Connect is the first command that the queue counts
abbrev pub after_connect : State → ℕ → Bool → State
after_connect s sqsize is_flow_control_disabled = record s {
  sqsize = sqsize;
  head = following sqsize 0;
  is_flow_control_disabled = is_flow_control_disabled;
}

abbrev pub ended_by : Stage → Stage
ended_by stage.Open = stage.Ending
ended_by stage.Ending = stage.Ending
ended_by stage.Ended = stage.Ended

abbrev pub after_end : State → State
after_end s = record s { stage = ended_by s.stage }

abbrev pub after_stop : State → State
after_stop s = record s { stage = stage.Ended; outstanding = [] }
