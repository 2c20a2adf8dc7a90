-- A controller's end of a connection, byte by byte (NVMe/TCP Transport Specification 1.0, Connection Establishment, and
-- Error Handling Model). Its state, what one byte changes, and how the digests of a whole PDU are judged.
use Rattle.std.specs.Prelude.{
  ℕ,
  ◌==◌,
  Bool,
  true,
  false,
  not,
  ◌||◌,
  if◌then◌else◌,
  nat_lt,
  List,
  [],
  ◌∷◌,
  ◌++◌,
  length,
  take,
  get_or,
  Option,
  Some,
  None,
  Result,
  Ok,
  Err,
}
use Rattle.nvme_pdu.specs.declared.agreed.Agreed.{Agreed}
use Rattle.nvme_pdu.specs.declared.fatal.Fatal.{Fatal}
use Rattle.nvme_pdu.specs.declared.fields.HostData.{HostData}
use Rattle.nvme_pdu.specs.declared.kind.Kind.{Kind}
use Rattle.nvme_pdu.specs.declared.kind.Kind.TheVariants.{IcReq, H2cTermReq, H2cData}
use Rattle.nvme_pdu.specs.declared.layout.PduLayout.{PduLayout}
use Rattle.nvme_pdu.specs.Agreeing.{agreed_of}
use Rattle.nvme_pdu.specs.Fields.{host_data}
use Rattle.nvme_pdu.specs.Layouts.{layout_of}
use Rattle.nvme_pdu.specs.Wholes.{Parts, parts_of}
use Rattle.nvme_connection.specs.declared.judged.Judged.{Judged}
use Rattle.nvme_connection.specs.declared.stage.Stage.{Stage}
use Rattle.nvme_connection.specs.declared.stage.Stage.TheVariants.{Taking, Whole, Complete, Ended}

-- The connection: its stage, whether ICReq was granted, what was agreed on, and the bytes so far of the PDU in hand.
pub record Connection : Type 0 where
  pub stage : Stage
  pub is_open : Bool
  pub agreed : Agreed
  pub unit : List ℕ

-- A PDU that is complete: its layout, its parts, and whether its data are as the host sent them
pub record Pdu : Type 0 where
  pub layout : PduLayout
  pub parts : Parts
  pub is_sound : Bool

-- A PDU is complete; or a rule is broken, and the termination request has this reason and repeats these bytes.
pub data Outcome : Type 0 where
  Completes : (pdu : Pdu) → Outcome
  Breaks : (fatal : Fatal) → (repeated : List ℕ) → Outcome

abbrev pub Step : Type 0
Step = Connection × Option Outcome

abbrev pub quiet : Connection → Step
quiet c = (c, None)

-- PDU Sequence Error, Header Digest Error
abbrev pub out_of_sequence : Fatal
out_of_sequence = record { status = 2; field = 0 }

abbrev pub wrong_header_digest : Fatal
wrong_header_digest = record { status = 3; field = 0 }

-- the connection at a stage, with these bytes in hand
abbrev pub at_stage : Stage → Connection → List ℕ → Connection
at_stage stage c unit = record { stage = stage; is_open = c.is_open; agreed = c.agreed; unit = unit }

-- nothing has come of a first PDU
abbrev pub begin : Connection
begin = record {
  stage = Taking;
  is_open = false;
  agreed = record { header_digests = false; data_digests = false; alignment = 0 };
  unit = [];
}

-- C2HTermReq repeats at most 128 bytes
abbrev pub broken : Connection → List ℕ → Fatal → Step
broken c unit fatal = (at_stage Ended c unit, Some (Breaks fatal (take 128 unit)))

-- ICReq is the first PDU, and only the first.
abbrev pub is_in_turn : Connection → List ℕ → Bool
is_in_turn c unit = if c.is_open then not (get_or unit 0 0 == 0) else get_or unit 0 0 == 0

abbrev pub laid : Connection → List ℕ → Result PduLayout Fatal → Step
laid c unit (Ok l) = quiet (at_stage (if nat_lt (length unit) l.length then Taking else Whole) c unit)
laid c unit (Err fatal) = broken c unit fatal

-- these bytes of a PDU have come
unfoldable pub reached : Connection → List ℕ → Step
reached c unit =
    if nat_lt (length unit) 8 then quiet (at_stage Taking c unit)
    else (if is_in_turn c unit then laid c unit (layout_of c.agreed (take 8 unit))
    else broken c unit out_of_sequence)

-- A byte comes. A connection that has ended, or whose PDU has not been judged, does not take it.
abbrev pub after_in : Stage → Connection → ℕ → Step
after_in Taking c b = reached c (c.unit ++ b ∷ [])
after_in Complete c b = reached c (b ∷ [])
after_in Whole c b = quiet c
after_in Ended c b = quiet c

abbrev pub after : Connection → ℕ → Step
after c b = after_in c.stage c b

-- ---- a whole PDU is judged

abbrev pub pdu : Connection → PduLayout → Bool → Pdu
pdu c l is_sound = record { layout = l; parts = parts_of l c.unit; is_sound = is_sound }

abbrev pub complete : Connection → PduLayout → Bool → Step
complete c l is_sound = (at_stage Complete c c.unit, Some (Completes (pdu c l is_sound)))

abbrev pub opened : Connection → Agreed → Connection
opened c a = record { stage = Complete; is_open = true; agreed = a; unit = c.unit }

abbrev pub granted : Connection → PduLayout → Bool → Result Agreed Fatal → Step
granted c l is_sound (Ok a) = (opened c a, Some (Completes (pdu c l is_sound)))
granted c l is_sound (Err fatal) = broken c c.unit fatal

abbrev pub addressed : Connection → PduLayout → Bool → Result HostData Fatal → Step
addressed c l is_sound (Ok fields) = complete c l is_sound
addressed c l is_sound (Err fatal) = broken c c.unit fatal

-- ICReq opens the connection, and H2CTermReq ends it. Their fields and those of H2CData are checked.
abbrev pub completed : Kind → Connection → PduLayout → Bool → Step
completed IcReq c l is_sound = granted c l is_sound (agreed_of (take 128 c.unit))
completed H2cTermReq c l is_sound = (at_stage Ended c c.unit, Some (Completes (pdu c l is_sound)))
completed H2cData c l is_sound = addressed c l is_sound (host_data (take 24 c.unit) l.data_length)
completed other c l is_sound = complete c l is_sound

abbrev pub is_right : Bool → Bool → Bool
is_right there right = not there || right

-- A wrong digest of the header ends the connection, one of the data spoils this PDU alone.
abbrev pub judged_by : Connection → Judged → Result PduLayout Fatal → Step
judged_by c j (Ok l) =
    if is_right l.header_digest j.header then completed l.kind c l (is_right l.data_digest j.«data»)
    else broken c c.unit wrong_header_digest
judged_by c j (Err fatal) = broken c c.unit fatal

abbrev pub judged_in : Stage → Connection → Judged → Step
judged_in Whole c j = judged_by c j (layout_of c.agreed (take 8 c.unit))
judged_in other c j = quiet c

abbrev pub judged : Connection → Judged → Step
judged c j = judged_in c.stage c j

-- A complete PDU breaks a rule of a layer above.
abbrev pub refused_in : Stage → Connection → Fatal → Step
refused_in Complete c fatal = broken c c.unit fatal
refused_in other c fatal = quiet c

abbrev pub refused : Connection → Fatal → Step
refused c fatal = refused_in c.stage c fatal
