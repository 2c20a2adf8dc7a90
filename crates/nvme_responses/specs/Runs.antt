-- Runs of any calls for one connection, the newest call first, and what became of commands in them.
use Rattle.std.specs.Prelude.{ℕ, ◌+◌, Bool, false, List, [], ◌∷◌, ◌++◌, Option, Some, None, Result, Ok, Err}
use Rattle.nvme_responses.specs.declared.refused.Refused.{Refused}
use Rattle.nvme_responses.specs.declared.reply.Reply.{Reply}
use Rattle.nvme_responses.specs.declared.reply.Response.{Response}
use Rattle.nvme_responses.specs.States.{State}
use Rattle.nvme_responses.specs.Responses.{
  none,
  accepted,
  after_accept,
  response,
  after_respond,
  place,
  after_forget,
  after_connect,
  after_end,
  after_stop,
}

-- A command comes, gets its response, or is dropped; Connect has succeeded, with SQSIZE and whether it disables flow
-- control; no more commands are accepted; or nothing is answered any more.
pub data Call : Type 0 where
  Accepts : ℕ → Call
  Responds : Reply → Call
  Forgets : ℕ → Call
  Connects : ℕ → Bool → Call
  Ends : Call
  Stops : Call

abbrev pub after : State → Call → State
after s (Accepts cid) = after_accept s cid
after s (Responds r) = after_respond s r
after s (Forgets cid) = after_forget s cid
after s (Connects sqsize disabled) = after_connect s sqsize disabled
after s Ends = after_end s
after s Stops = after_stop s

abbrev pub state_after : List Call → State
state_after [] = none
state_after (call ∷ run) = after (state_after run) call

-- ---- the identifiers of the commands that were accepted, in their order

abbrev pub accepted_if : Result Bool Refused → ℕ → List ℕ
accepted_if (Ok is_conflict) cid = cid ∷ []
accepted_if (Err e) cid = []

abbrev pub accepts : State → Call → List ℕ
accepts s (Accepts cid) = accepted_if (accepted s cid) cid
accepts s (Responds r) = []
accepts s (Forgets cid) = []
accepts s (Connects sqsize disabled) = []
accepts s Ends = []
accepts s Stops = []

abbrev pub commands : List Call → List ℕ
commands [] = []
commands (call ∷ run) = commands run ++ accepts (state_after run) call

-- ---- the responses, in their order

abbrev pub response_if : Option Response → List Response
response_if None = []
response_if (Some e) = e ∷ []

abbrev pub responds : State → Call → List Response
responds s (Accepts cid) = []
responds s (Responds r) = response_if (response s r)
responds s (Forgets cid) = []
responds s (Connects sqsize disabled) = []
responds s Ends = []
responds s Stops = []

abbrev pub responses : List Call → List Response
responses [] = []
responses (call ∷ run) = responses run ++ responds (state_after run) call

-- ---- the identifiers of the commands that were dropped

abbrev pub dropped_if : Option ℕ → ℕ → List ℕ
dropped_if None cid = []
dropped_if (Some i) cid = cid ∷ []

abbrev pub drops : State → Call → List ℕ
drops s (Accepts cid) = []
drops s (Responds r) = []
drops s (Forgets cid) = dropped_if (place s.outstanding cid) cid
drops s (Connects sqsize disabled) = []
drops s Ends = []
drops s Stops = s.outstanding

abbrev pub dropped : List Call → List ℕ
dropped [] = []
dropped (call ∷ run) = dropped run ++ drops (state_after run) call

-- ---- what Connect has said last

abbrev pub sqsize_by : Call → ℕ → ℕ
sqsize_by (Accepts cid) sqsize = sqsize
sqsize_by (Responds r) sqsize = sqsize
sqsize_by (Forgets cid) sqsize = sqsize
sqsize_by (Connects new disabled) sqsize = new
sqsize_by Ends sqsize = sqsize
sqsize_by Stops sqsize = sqsize

-- SQSIZE: a queue of one entry before Connect
abbrev pub sqsize_after : List Call → ℕ
sqsize_after [] = 0
sqsize_after (call ∷ run) = sqsize_by call (sqsize_after run)

abbrev pub disabled_by : Call → Bool → Bool
disabled_by (Accepts cid) disabled = disabled
disabled_by (Responds r) disabled = disabled
disabled_by (Forgets cid) disabled = disabled
disabled_by (Connects sqsize new) disabled = new
disabled_by Ends disabled = disabled
disabled_by Stops disabled = disabled

abbrev pub is_disabled_after : List Call → Bool
is_disabled_after [] = false
is_disabled_after (call ∷ run) = disabled_by call (is_disabled_after run)

-- how many commands were accepted since Connect, which is the first of them

abbrev pub one_if : Result Bool Refused → ℕ
one_if (Ok is_conflict) = 1
one_if (Err e) = 0

abbrev pub counted_by : State → Call → ℕ → ℕ
counted_by s (Accepts cid) n = n + one_if (accepted s cid)
counted_by s (Responds r) n = n
counted_by s (Forgets cid) n = n
counted_by s (Connects sqsize disabled) n = 1
counted_by s Ends n = n
counted_by s Stops n = n

abbrev pub counted : List Call → ℕ
counted [] = 0
counted (call ∷ run) = counted_by (state_after run) call (counted run)
