-- The Fabrics commands other than Connect (NVM Express Base Specification 2.0, Fabrics Command Set).
use Rattle.std.specs.Prelude.{
  ℕ,
  ◌%◌,
  Bool,
  not,
  ◌&&◌,
  ◌||◌,
  ◌==◌,
  if◌then◌else◌,
  List,
  [],
  ◌∷◌,
  get_or,
  Result,
  Ok,
  Err,
}
use Rattle.nvme_wire.specs.Entry.{word_at, dword_at}
use Rattle.nvme_fabrics.specs.declared.answer.Answer.{Answer}
use Rattle.nvme_fabrics.specs.declared.command.Command.{Command}
use Rattle.nvme_fabrics.specs.declared.command.Command.TheVariants as command
use Rattle.nvme_fabrics.specs.declared.fabrics.Fabrics.{Fabrics}
use Rattle.nvme_fabrics.specs.declared.session.Session.{Session}
use Rattle.nvme_fabrics.specs.declared.session.Session.TheVariants as session
use Rattle.nvme_fabrics.specs.Answers.{
  checked,
  invalid_opcode,
  invalid_field,
  command_sequence,
  incompatible_format,
  invalid_queue_type,
  authentication_required,
}
use Rattle.nvme_fabrics.specs.Sessions.{live, closed, without_io_queues_at}

-- FCTYPE, RECFMT, ATTRIB, OFST, and CC.EN of the value of a Property Set
abbrev pub fctype_of : List ℕ → ℕ
fctype_of e = get_or e 4 0

abbrev pub has_eight_bytes : List ℕ → Bool
has_eight_bytes e = get_or e 40 0 % 8 == 1

abbrev pub ofst_of : List ℕ → ℕ
ofst_of e = dword_at e 44

abbrev pub enables : List ℕ → Bool
enables e = not (get_or e 48 0 % 2 == 0)

-- CAP, of 8 bytes; VS, CC and CSTS, of 4
abbrev pub is_property : List ℕ → Bool
is_property e =
    ((ofst_of e == 0) && has_eight_bytes e)
    || (((ofst_of e == 0x08) || ((ofst_of e == 0x14) || (ofst_of e == 0x1c))) && not (has_eight_bytes e))

abbrev pub get_property : List ℕ → Result Command Answer
get_property e = checked ((invalid_field, is_property e) ∷ []) command.GetProperty

-- CC is the only property that a host sets
abbrev pub set_property : List ℕ → Result Command Answer
set_property e =
    checked ((invalid_field, (ofst_of e == 0x14) && not (has_eight_bytes e)) ∷ []) command.SetProperty

abbrev pub disconnect : List ℕ → Result Command Answer
disconnect e = checked ((incompatible_format, word_at e 40 == 0) ∷ []) command.Disconnect

-- of an Admin Queue
abbrev pub admin_command : List ℕ → Result Command Answer
admin_command e =
    if fctype_of e == 0 then set_property e
    else (if fctype_of e == 4 then get_property e
    else (if fctype_of e == 5 then Ok command.Authenticate
    else (if fctype_of e == 8 then Err invalid_queue_type else Err invalid_opcode)))

-- of an I/O queue
abbrev pub io_command : List ℕ → Result Command Answer
io_command e =
    if (fctype_of e == 0) || (fctype_of e == 4) then Err invalid_queue_type
    else (if fctype_of e == 5 then Ok command.Authenticate
    else (if fctype_of e == 8 then disconnect e else Err invalid_opcode))

-- before the host has authenticated itself
abbrev pub early_command : List ℕ → Result Command Answer
early_command e =
    if fctype_of e == 5 then Ok command.Authenticate
    else (if fctype_of e == 8 then Ok command.Disconnect else Err authentication_required)

abbrev pub session_command : Session → List ℕ → Result Command Answer
session_command session.NotConnected e = Err command_sequence
session_command session.Ended e = Err command_sequence
session_command (session.Authenticating r index) e = early_command e
session_command session.Discovery e = admin_command e
session_command (session.Queue index qid) e = if qid == 0 then admin_command e else io_command e

-- Authentication Receive is always the caller's, and a second Connect is refused.
unfoldable pub command_of : Session → List ℕ → Result Command Answer
command_of s e =
    if fctype_of e == 6 then Ok command.Authenticate
    else (if fctype_of e == 1 then Err command_sequence else session_command s e)

-- the controller after a Property Set of CC
abbrev pub reset_by : Fabrics → Session → List ℕ → Fabrics
reset_by f (session.Queue index qid) e = if enables e then f else without_io_queues_at f index
reset_by f session.NotConnected e = f
reset_by f (session.Authenticating r index) e = f
reset_by f session.Discovery e = f
reset_by f session.Ended e = f

abbrev pub fabrics_by : Fabrics → Session → ℕ → List ℕ → Result Command Answer → Fabrics
fabrics_by f s k e (Ok command.Disconnect) = closed f s k
fabrics_by f s k e (Ok command.SetProperty) = reset_by f (live f s k) e
fabrics_by f s k e (Ok command.GetProperty) = f
fabrics_by f s k e (Ok command.Authenticate) = f
fabrics_by f s k e (Err a) = f

abbrev pub session_by : Session → Result Command Answer → Session
session_by s (Ok command.Disconnect) = session.Ended
session_by s (Ok command.SetProperty) = s
session_by s (Ok command.GetProperty) = s
session_by s (Ok command.Authenticate) = s
session_by s (Err a) = s

-- what a command leaves
abbrev pub fabrics_after : Fabrics → Session → ℕ → List ℕ → Fabrics
fabrics_after f s k e = fabrics_by f s k e (command_of (live f s k) e)

abbrev pub session_after : Fabrics → Session → ℕ → List ℕ → Session
session_after f s k e = session_by s (command_of (live f s k) e)
