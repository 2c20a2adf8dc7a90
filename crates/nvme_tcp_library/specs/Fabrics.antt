-- The effect of each export on the associations of a handle and on a session. If none are open, nothing happens.
use Rattle.std.specs.Prelude.{
  ◌≡◌,
  ℕ,
  ◌+◌,
  ◌*◌,
  ◌^◌,
  Bool,
  List,
  [],
  ◌∷◌,
  slice_get,
  Option,
  Some,
  None,
}
use Rattle.nvme_wire.specs.declared.status.Status.{Status}
use Rattle.nvme_fabrics.specs.declared.fabrics.Fabrics.{Fabrics}
use Rattle.nvme_fabrics.specs.Commands.{command_of, fabrics_after, session_after}
use Rattle.nvme_fabrics.specs.Sessions.{
  Outcome,
  authenticated,
  closed as without_connection,
  connect,
  ended,
  ended_session,
  live,
  no_associations,
}
use Rattle.nvme_tcp_library.specs.declared.answers.Executed.{Executed}
use Rattle.nvme_tcp_library.specs.declared.answers.FabricsAnswer.{FabricsAnswer}
use Rattle.nvme_tcp_library.specs.declared.opening.HostId.{HostId}
use Rattle.nvme_tcp_library.specs.declared.sessions.RawJudged.{RawJudged}
use Rattle.nvme_tcp_library.specs.declared.sessions.RawSession.{RawSession}
use Rattle.nvme_tcp_library.specs.Answers.{answer_seen, closed, executed_seen, not_executed}
use Rattle.nvme_tcp_library.specs.Sessions.{judged_of, session_of, session_seen}

-- ---- opening

abbrev pub host_in : Option HostId → Option ℕ
host_in None = None
host_in (Some h) = Some (h.high * 2 ^ 64 + h.low)

abbrev pub host_at : List HostId → ℕ → Option ℕ
host_at hosts index = host_in (slice_get hosts index)

-- the hosts of 16 controllers: the last ones may not be there
abbrev pub hosts_of : List HostId → List (Option ℕ)
hosts_of hosts =
    host_at hosts 0 ∷ host_at hosts 1 ∷ host_at hosts 2 ∷ host_at hosts 3
    ∷ host_at hosts 4 ∷ host_at hosts 5 ∷ host_at hosts 6 ∷ host_at hosts 7
    ∷ host_at hosts 8 ∷ host_at hosts 9 ∷ host_at hosts 10 ∷ host_at hosts 11
    ∷ host_at hosts 12 ∷ host_at hosts 13 ∷ host_at hosts 14 ∷ host_at hosts 15 ∷ []

-- there are no associations, or memory was refused
abbrev pub OpensInto : List HostId → Bool → ℕ → Option Fabrics → Type 0
OpensInto hosts has_keys code None = code ≡ 27
OpensInto hosts has_keys code (Some f) = (code ≡ 0) × (f ≡ no_associations (hosts_of hosts) has_keys)

abbrev pub Opens : List HostId → Bool → Option Fabrics → ℕ → Option Fabrics → Type 0
Opens hosts has_keys (Some f) code new = (code ≡ 22) × (new ≡ Some f)
Opens hosts has_keys None code new = OpensInto hosts has_keys code new

-- there are more hosts than controllers
abbrev pub IsTooMany : Option Fabrics → ℕ → Option Fabrics → Type 0
IsTooMany (Some f) code new = (code ≡ 22) × (new ≡ Some f)
IsTooMany None code new = (code ≡ 25) × (new ≡ None)

-- ---- Connect and authentication

-- the outcome of a call on a session
abbrev pub Leaves : RawSession → Outcome → FabricsAnswer → RawSession → Option Fabrics → Type 0
Leaves s o answer new_s new =
    (answer ≡ answer_seen o.answer) × (new_s ≡ session_seen s.connection o.session) × (new ≡ Some o.fabrics)

abbrev pub Connects : RawSession → List ℕ → List ℕ → RawJudged → Option Fabrics → FabricsAnswer → RawSession
    → Option Fabrics → Type 0
Connects s e d j None answer new_s new = (answer ≡ closed) × (new_s ≡ s) × (new ≡ None)
Connects s e d j (Some f) answer new_s new =
    Leaves s (connect f (session_of s) s.connection e d (judged_of j)) answer new_s new

abbrev pub Authenticates : RawSession → Bool → Status → Option Fabrics → FabricsAnswer → RawSession → Option Fabrics
    → Type 0
Authenticates s is_enabled created None answer new_s new = (answer ≡ closed) × (new_s ≡ s) × (new ≡ None)
Authenticates s is_enabled created (Some f) answer new_s new =
    Leaves s (authenticated f (session_of s) s.connection is_enabled created) answer new_s new

-- ---- other commands, and ends

abbrev pub Executes : RawSession → List ℕ → Option Fabrics → Executed → RawSession → Option Fabrics → Type 0
Executes s e None answer new_s new = (answer ≡ not_executed closed) × (new_s ≡ s) × (new ≡ None)
Executes s e (Some f) answer new_s new =
    (answer ≡ executed_seen (command_of (live f (session_of s) s.connection) e))
    × (new_s ≡ session_seen s.connection (session_after f (session_of s) s.connection e))
    × (new ≡ Some (fabrics_after f (session_of s) s.connection e))

abbrev pub Closes : RawSession → Option Fabrics → ℕ → RawSession → Option Fabrics → Type 0
Closes s None code new_s new = (code ≡ 16) × (new_s ≡ s) × (new ≡ None)
Closes s (Some f) code new_s new =
    (code ≡ 0) × (new_s ≡ session_seen s.connection ended_session)
    × (new ≡ Some (without_connection f (session_of s) s.connection))

abbrev pub Ends : ℕ → Option Fabrics → ℕ → Option Fabrics → Type 0
Ends index None code new = (code ≡ 16) × (new ≡ None)
Ends index (Some f) code new = (code ≡ 0) × (new ≡ Some (ended f index))
