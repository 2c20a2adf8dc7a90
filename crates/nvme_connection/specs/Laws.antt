-- What follows of a connection's bytes, for any function that judges digests.
use Rattle.std.specs.Prelude.{
  ◌≡◌,
  ℕ,
  ◌<◌,
  ◌≤◌,
  ◌⊎◌,
  true,
  false,
  List,
  [],
  ◌∷◌,
  ◌++◌,
  length,
  take,
  drop,
  Some,
  Ok,
  Err,
}
use Rattle.nvme_pdu.specs.declared.fatal.Fatal.{Fatal}
use Rattle.nvme_pdu.specs.declared.kind.Kind.TheVariants.{CapsuleCmd}
use Rattle.nvme_pdu.specs.declared.layout.PduLayout.{PduLayout}
use Rattle.nvme_pdu.specs.Layouts.{layout_of}
use Rattle.nvme_pdu.specs.Wholes.{Parts, Fit, parts_of, whole_of}
use Rattle.nvme_connection.specs.declared.stage.Stage.{Stage}
use Rattle.nvme_connection.specs.declared.stage.Stage.TheVariants.{Taking, Whole, Complete, Ended}
use Rattle.nvme_connection.specs.Connections.{
  Connection,
  Outcome,
  Completes,
  Breaks,
  at_stage,
  is_in_turn,
  is_right,
  judged,
  out_of_sequence,
}
use Rattle.nvme_connection.specs.Streams.{
  Judge,
  after_bytes,
  after_stream,
  data_in,
  outcomes,
  settled,
  settling,
  stream,
  taken,
}

-- ---- cuts

abbrev pub after_pieces : Judge → Connection → List (List ℕ) → Connection
after_pieces right c [] = c
after_pieces right c (p ∷ ps) = after_pieces right (after_stream right c p) ps

abbrev pub of_pieces : Judge → Connection → List (List ℕ) → List Outcome
of_pieces right c [] = []
of_pieces right c (p ∷ ps) = stream right c p ++ of_pieces right (after_stream right c p) ps

abbrev pub joined : List (List ℕ) → List ℕ
joined [] = []
joined (p ∷ ps) = p ++ joined ps

-- How the bytes are cut makes no difference.
pub record IsFramed (right : Judge) (c : Connection) (pieces : List (List ℕ)) : Type 0 where
  pub same : of_pieces right c pieces ≡ stream right c (joined pieces)
  pub after : after_pieces right c pieces ≡ after_stream right c (joined pieces)

abbrev pub Framing : Type 0
Framing = (right : Judge) (c : Connection) (pieces : List (List ℕ)) → IsFramed right c pieces

-- One call, the judgement if the PDU is whole then, and the bytes that the call has left: that is the stream.
pub record IsCall (right : Judge) (c : Connection) (bytes : List ℕ) : Type 0 where
  pub same : stream right c bytes
      ≡ outcomes c bytes ++ (settling right (after_bytes c bytes)
      ++ stream right (settled right (after_bytes c bytes)) (drop (taken c bytes) bytes))
  pub after : after_stream right c bytes ≡ after_stream right (settled right (after_bytes c bytes)) (drop
      (taken c bytes) bytes)

abbrev pub IsJudged : Stage → Type 0
IsJudged Whole = ⊥
IsJudged other = Unit {0}

abbrev pub CallsAreTheStream : Type 0
CallsAreTheStream = (right : Judge) (c : Connection) (bytes : List ℕ) → IsJudged c.stage → IsCall right c bytes

-- ---- PDU by PDU

-- these bytes are a PDU with this layout, in its turn
pub record IsUnit (c : Connection) (unit : List ℕ) (l : PduLayout) : Type 0 where
  pub is : layout_of c.agreed (take 8 unit) ≡ Ok l
  pub in_turn : is_in_turn c unit ≡ true
  pub common : 8 ≤ length unit
  pub whole : length unit ≡ l.length

-- the bytes are the beginning of a PDU, which lacks some
pub record IsBegun (c : Connection) (bytes : List ℕ) : Type 0 where
  pub layout : PduLayout
  pub is : layout_of c.agreed (take 8 bytes) ≡ Ok layout
  pub in_turn : is_in_turn c bytes ≡ true
  pub common : 8 ≤ length bytes
  pub short : length bytes < layout.length

-- nothing is complete, and no rule is broken
abbrev pub IsShort : Connection → List ℕ → Type 0
IsShort c bytes = (c.stage ≡ Ended) ⊎ ((length bytes < 8) ⊎ IsBegun c bytes)

-- the reason why a PDU with this beginning is refused
abbrev pub IsFault : Connection → List ℕ → Fatal → Type 0
IsFault c head fatal =
    ((is_in_turn c head ≡ false) × (fatal ≡ out_of_sequence))
    ⊎ ((is_in_turn c head ≡ true) × (layout_of c.agreed head ≡ Err fatal))

-- the connection takes bytes, the first eight are at fault, and nothing after them counts
pub record Refuses (c : Connection) (bytes : List ℕ) (o : Outcome) (os : List Outcome) : Type 0 where
  pub head : List ℕ
  pub rest : List ℕ
  pub fatal : Fatal
  pub on : c.stage ≡ Ended → ⊥
  pub parts : bytes ≡ head ++ rest
  pub eight : length head ≡ 8
  pub fault : IsFault c head fatal
  pub told : o ≡ Breaks fatal head
  pub last : os ≡ []

-- the connection takes bytes, a PDU comes first, and what it is judged to is the first outcome
pub record TakesOne (right : Judge) (c : Connection) (bytes : List ℕ) (o : Outcome) (others : Connection → List ℕ
    → Type 0) : Type 0 where
  pub unit : List ℕ
  pub rest : List ℕ
  pub layout : PduLayout
  pub on : c.stage ≡ Ended → ⊥
  pub parts : bytes ≡ unit ++ rest
  pub is : IsUnit c unit layout
  pub told : (judged (at_stage Whole c unit) (right unit)).1 ≡ Some o
  pub next : others (judged (at_stage Whole c unit) (right unit)).0 rest

-- these bytes have these outcomes, read PDU by PDU
abbrev pub Reads : Judge → List Outcome → Connection → List ℕ → Type 0
Reads right [] c bytes = IsShort c bytes
Reads right (o ∷ os) c bytes = TakesOne right c bytes o (Reads right os) ⊎ Refuses c bytes o os

-- between two PDUs
abbrev pub IsBetween : Stage → List ℕ → Type 0
IsBetween Taking unit = unit ≡ []
IsBetween Complete unit = Unit {0}
IsBetween Ended unit = Unit {0}
IsBetween Whole unit = ⊥

-- All bytes are read PDU by PDU, and nothing else is completed or refused.
abbrev pub StreamsAreRead : Type 0
StreamsAreRead = (right : Judge) (c : Connection) (bytes : List ℕ) → IsBetween c.stage c.unit
    → Reads right (stream right c bytes) c bytes

-- In one way only.
abbrev pub ReadingsAreOne : Type 0
ReadingsAreOne = (right : Judge) (os : List Outcome) (c : Connection) (bytes : List ℕ) → IsBetween c.stage c.unit
    → Reads right os c bytes → os ≡ stream right c bytes

-- ---- own bytes

-- A command that is put together of parts is complete with these parts, whatever came before and comes after.
abbrev pub CommandsKeepTheirBytes : Type 0
CommandsKeepTheirBytes = (right : Judge) (c : Connection) (l : PduLayout) (p : Parts) (rest : List ℕ)
    → IsBetween c.stage c.unit → (c.stage ≡ Ended → ⊥)
    → Fit l p → IsUnit c (whole_of l p) l → l.kind ≡ CapsuleCmd
    → is_right l.header_digest (right (whole_of l p)).header ≡ true
    → stream right c (whole_of l p ++ rest)
    ≡ Completes (record { layout = l; parts = p; is_sound = is_right l.data_digest (right (whole_of l p)).«data» })
    ∷ stream right (at_stage Complete c (whole_of l p)) rest

-- The data that calls of `take` report, put together, are those of the PDU that is complete then.
abbrev pub DataAreOwn : Type 0
DataAreOwn = (c : Connection) (unit : List ℕ) (l : PduLayout) → IsUnit c unit l
    → data_in c.agreed unit ≡ (parts_of l unit).bytes

-- A connection that has ended takes nothing, and nothing comes of it.
pub record IsOver (right : Judge) (c : Connection) (bytes : List ℕ) : Type 0 where
  pub none : taken c bytes ≡ 0
  pub same : after_stream right c bytes ≡ c
  pub nothing : stream right c bytes ≡ []

abbrev pub EndsAreFinal : Type 0
EndsAreFinal = (right : Judge) (c : Connection) (bytes : List ℕ) → c.stage ≡ Ended → IsOver right c bytes
