-- Why a command is refused before its data matter (NVM Express Base Specification 2.0, Connect Command, In-band
-- Authentication; NVMe/TCP Transport Specification 1.0, Data Digest).
use Rattle.std.specs.Prelude.{
  ℕ,
  Bool,
  ◌&&◌,
  ◌||◌,
  ◌==◌,
  if◌then◌else◌,
  List,
  Option,
  Some,
  None,
}
use Rattle.nvme_wire.specs.Entry.{word_at}
use Rattle.nvme_wire.specs.declared.status.Status.{Status}
use Rattle.nvme_fabrics.specs.declared.session.Session.{Session}
use Rattle.nvme_fabrics.specs.declared.session.Session.TheVariants as session
use Rattle.nvme_capsules.specs.declared.capsule.Capsule.{Capsule}
use Rattle.nvme_capsules.specs.declared.connect_stage.ConnectStage.{ConnectStage}
use Rattle.nvme_capsules.specs.declared.connect_stage.ConnectStage.TheVariants as stage
use Rattle.nvme_capsules.specs.DataPlaces.{fctype_of, is_fabrics}
use Rattle.nvme_capsules.specs.Statuses.{
  command_id_conflict,
  command_sequence_error,
  transient_transport_error,
  authentication_required,
}

-- CID
abbrev pub cid_of : List ℕ → ℕ
cid_of e = word_at e 2

abbrev pub is_connect : List ℕ → Bool
is_connect e = is_fabrics e && (fctype_of e == 0x01)

-- Authentication Send, Authentication Receive, Disconnect
abbrev pub precedes_proof : List ℕ → Bool
precedes_proof e =
    is_fabrics e && ((fctype_of e == 0x05) || ((fctype_of e == 0x06) || (fctype_of e == 0x08)))

-- how far a connection is with its Connect
abbrev pub stage_of : Session → ConnectStage
stage_of session.NotConnected = stage.NotConnected
stage_of (session.Authenticating r index) = stage.Authenticating
stage_of (session.Queue index qid) = stage.Connected
stage_of session.Discovery = stage.Connected
stage_of session.Ended = stage.Connected

-- the data are as they were sent, and no other command without a response has the identifier
abbrev pub refusal_of_any : Capsule → Bool → Option Status
refusal_of_any c is_conflict =
    if c.is_sound then (if is_conflict then Some command_id_conflict else None) else Some transient_transport_error

-- Connect comes first. With keys the host has to prove who it is before it sends anything else.
abbrev pub refusal : ConnectStage → Capsule → Bool → Option Status
refusal stage.NotConnected c is_conflict =
    if is_connect c.entry then refusal_of_any c is_conflict else Some command_sequence_error
refusal stage.Authenticating c is_conflict =
    if precedes_proof c.entry then refusal_of_any c is_conflict else Some authentication_required
refusal stage.Connected c is_conflict = refusal_of_any c is_conflict
