-- What C sees of each call is determined, apart from an opening for which memory is refused.
use Rattle.std.specs.Prelude.{◌≡◌, ◌≢◌, ℕ, Bool, List, Option}
use Rattle.nvme_wire.specs.declared.status.Status.{Status}
use Rattle.nvme_capsules.specs.declared.capsule.Capsule.{Capsule}
use Rattle.nvme_connection.specs.declared.connection.Connection.{Connection as Value}
use Rattle.nvme_connection.specs.Connections.{Connection}
use Rattle.nvme_fabrics.specs.declared.fabrics.Fabrics.{Fabrics}
use Rattle.nvme_responses.specs.declared.responses.Responses.{Responses}
use Rattle.nvme_responses.specs.Responses.{seen}
use Rattle.nvme_transfers.specs.declared.part.Part.{Part}
use Rattle.nvme_transfers.specs.States.{State as Transfers}
use Rattle.nvme_tcp_library.specs.declared.capsules.CapsuleTaken.{CapsuleTaken}
use Rattle.nvme_tcp_library.specs.declared.connections.Taken.{Taken}
use Rattle.nvme_tcp_library.specs.declared.opening.HostId.{HostId}
use Rattle.nvme_tcp_library.specs.declared.parts.PartTaken.{PartTaken}
use Rattle.nvme_tcp_library.specs.declared.sessions.RawJudged.{RawJudged}
use Rattle.nvme_tcp_library.specs.declared.sessions.RawSession.{RawSession}
use Rattle.nvme_tcp_library.specs.Capsules as capsules
use Rattle.nvme_tcp_library.specs.Connections.{TakesSeen}
use Rattle.nvme_tcp_library.specs.Fabrics.{Authenticates, Closes, Connects, Ends, Executes, IsTooMany, Opens}
use Rattle.nvme_tcp_library.specs.Transfers as transfers

-- a call whose result, and what it leaves, are determined
abbrev pub IsDetermined : {A B : Type 0} → (A → B → Type 0) → Type 0
IsDetermined {A} {B} call =
    (one two : A) (new other : B) → call one new → call two other → (one ≡ two) × (new ≡ other)

-- the same, if memory is not refused
abbrev pub IsDeterminedWithMemory : {B : Type 0} → (ℕ → B → Type 0) → Type 0
IsDeterminedWithMemory {B} call =
    (one two : ℕ) (new other : B) → one ≢ 27 → two ≢ 27 → call one new → call two other
    → (one ≡ two) × (new ≡ other)

-- a call on a session
abbrev pub IsDeterminedOnSession : {A B : Type 0} → (A → RawSession → B → Type 0) → Type 0
IsDeterminedOnSession {A} {B} call =
    (one two : A) (new_s other_s : RawSession) (new other : B) → call one new_s new → call two other_s other
    → (one ≡ two) × (new_s ≡ other_s) × (new ≡ other)

pub record FabricsAreDetermined : Type 0 where
  pub opening : (hosts : List HostId) (has_keys : Bool) (old : Option Fabrics)
      → IsDeterminedWithMemory (Opens hosts has_keys old)
  pub refusing : (old : Option Fabrics) → IsDetermined (IsTooMany old)
  pub connecting : (s : RawSession) (e d : List ℕ) (j : RawJudged) (old : Option Fabrics)
      → IsDeterminedOnSession (Connects s e d j old)
  pub authenticating : (s : RawSession) (is_enabled : Bool) (created : Status) (old : Option Fabrics)
      → IsDeterminedOnSession (Authenticates s is_enabled created old)
  pub executing : (s : RawSession) (e : List ℕ) (old : Option Fabrics) → IsDeterminedOnSession (Executes s e old)
  pub closing : (s : RawSession) (old : Option Fabrics) → IsDeterminedOnSession (Closes s old)
  pub ending : (index : ℕ) (old : Option Fabrics) → IsDetermined (Ends index old)

-- The room of the data is left as well.
abbrev pub StoringIsDetermined : Type 0
StoringIsDetermined =
    (p : Part) (bytes room : List ℕ) (old : Option Transfers) (one two : PartTaken) (new_room other_room : List ℕ)
    (new other : Option Transfers) → transfers.Stores p bytes room old one new_room new
    → transfers.Stores p bytes room old two other_room other
    → (one ≡ two) × (new_room ≡ other_room) × (new ≡ other)

pub record TransfersAreDetermined : Type 0 where
  pub opening : (old : Option Transfers) → IsDeterminedWithMemory (transfers.Opens old)
  pub ending : (old : Option Transfers) → IsDetermined (transfers.Ends old)
  pub beginning : (e : List ℕ) (bytes : ℕ) (old : Option Transfers) → IsDetermined (transfers.Begins e bytes old)
  pub asking : (old : Option Transfers) → IsDetermined (transfers.Asks old)
  pub taking : (p : Part) (old : Option Transfers) → IsDetermined (transfers.Takes p old)
  pub storing : StoringIsDetermined

-- The responses are determined as far as their queue shows.
abbrev pub CapsulesAreDetermined : Type 0
CapsulesAreDetermined =
    (s : RawSession) (c : Capsule) (responses : Responses) (old : Option Transfers) (one two : CapsuleTaken)
    (left other_left : Responses) (new other : Option Transfers) → capsules.Takes s c responses old one left new
    → capsules.Takes s c responses old two other_left other
    → (one ≡ two) × (seen left ≡ seen other_left) × (new ≡ other)

-- What C sees of bytes that are taken. The place of data counts only if there are data.
pub record IsSameTaking (one two : Taken) : Type 0 where
  pub count : one.count ≡ two.count
  pub what : one.what ≡ two.what
  pub field : one.field ≡ two.field
  pub status : one.status ≡ two.status

abbrev pub TakingsAreDetermined : Type 0
TakingsAreDetermined =
    (c : Connection) (bytes : List ℕ) (one two : Taken) (new other : Value) → TakesSeen c bytes one new
    → TakesSeen c bytes two other → IsSameTaking one two
