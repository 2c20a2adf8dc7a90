-- Bytes of a connection in their order, and what comes of them.
use Rattle.std.specs.Prelude.{
  ℕ,
  suc,
  ◌+◌,
  ◌-◌,
  List,
  [],
  ◌∷◌,
  ◌++◌,
  length,
  nat_lt,
  if◌then◌else◌,
  slice_range,
  take,
  Option,
  Some,
  None,
  option_to_list,
  Result,
  Ok,
  Err,
}
use Rattle.std.specs.Result.{result_ok}
use Rattle.nvme_pdu.specs.declared.agreed.Agreed.{Agreed}
use Rattle.nvme_pdu.specs.declared.fatal.Fatal.{Fatal}
use Rattle.nvme_pdu.specs.declared.layout.PduLayout.{PduLayout}
use Rattle.nvme_pdu.specs.Layouts.{layout_of}
use Rattle.nvme_connection.specs.declared.judged.Judged.{Judged}
use Rattle.nvme_connection.specs.declared.stage.Stage.{Stage}
use Rattle.nvme_connection.specs.declared.stage.Stage.TheVariants.{Taking, Whole, Complete, Ended}
use Rattle.nvme_connection.specs.Connections.{Connection, Outcome, after, judged}

-- ---- bytes alone: the connection after them, what breaks, and how many of them it takes

abbrev pub after_bytes : Connection → List ℕ → Connection
after_bytes c [] = c
after_bytes c (b ∷ bs) = after_bytes (after c b).0 bs

abbrev pub outcomes : Connection → List ℕ → List Outcome
outcomes c [] = []
outcomes c (b ∷ bs) = option_to_list (after c b).1 ++ outcomes (after c b).0 bs

-- whether another byte is taken
abbrev pub one_if_taken : Stage → ℕ → ℕ
one_if_taken Taking n = suc n
one_if_taken Complete n = suc n
one_if_taken Whole n = 0
one_if_taken Ended n = 0

abbrev pub taken : Connection → List ℕ → ℕ
taken c [] = 0
taken c (b ∷ bs) = one_if_taken c.stage (taken (after c b).0 bs)

-- ---- the bytes of a host, each whole PDU judged at once

-- which digests of a PDU are right, by its bytes: any function
abbrev pub Judge : Type 0
Judge = List ℕ → Judged

-- what the judgement adds, if a PDU is whole
abbrev pub settled : Judge → Connection → Connection
settled right c = (judged c (right c.unit)).0

abbrev pub settling : Judge → Connection → List Outcome
settling right c = option_to_list (judged c (right c.unit)).1

abbrev pub after_byte : Judge → Connection → ℕ → Connection
after_byte right c b = settled right (after c b).0

abbrev pub of_byte : Judge → Connection → ℕ → List Outcome
of_byte right c b = option_to_list (after c b).1 ++ settling right (after c b).0

abbrev pub after_stream : Judge → Connection → List ℕ → Connection
after_stream right c [] = c
after_stream right c (b ∷ bs) = after_stream right (after_byte right c b) bs

abbrev pub stream : Judge → Connection → List ℕ → List Outcome
stream right c [] = []
stream right c (b ∷ bs) = of_byte right c b ++ stream right (after_byte right c b) bs

-- ---- the part of each byte

-- the data so far of a PDU of which these bytes have come
abbrev pub data_laid : List ℕ → Result PduLayout Fatal → List ℕ
data_laid unit (Ok l) = slice_range unit l.data_offset (l.data_offset + l.data_length)
data_laid unit (Err fatal) = []

unfoldable pub data_in : Agreed → List ℕ → List ℕ
data_in a unit = if nat_lt (length unit) 8 then [] else data_laid unit (layout_of a (take 8 unit))

-- the bytes so far of the PDU to which the next byte belongs
abbrev pub in_hand_at : Stage → List ℕ → List ℕ
in_hand_at Complete unit = []
in_hand_at other unit = unit

abbrev pub in_hand : Connection → List ℕ
in_hand c = in_hand_at c.stage c.unit

-- ---- the PDU in hand

-- its layout, once eight bytes have come and until it is judged
abbrev pub layout_at : Stage → Connection → Option PduLayout
layout_at Taking c = if nat_lt (length c.unit) 8 then None else result_ok (layout_of c.agreed (take 8 c.unit))
layout_at Whole c = result_ok (layout_of c.agreed (take 8 c.unit))
layout_at Complete c = None
layout_at Ended c = None

abbrev pub layout_in_hand : Connection → Option PduLayout
layout_in_hand c = layout_at c.stage c

-- how many bytes it wants: up to the eighth, then all that it lacks
abbrev pub wanted_by : ℕ → Option PduLayout → ℕ
wanted_by n (Some l) = l.length - n
wanted_by n None = 8 - n

abbrev pub wanted_at : Stage → Connection → ℕ
wanted_at Taking c = wanted_by (length c.unit) (layout_in_hand c)
wanted_at Complete c = 8
wanted_at Whole c = 0
wanted_at Ended c = 0

abbrev pub wanted : Connection → ℕ
wanted c = wanted_at c.stage c
