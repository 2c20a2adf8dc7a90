-- What a value of the code represents, and what a call of it says.
use Rattle.std.specs.Prelude.{
  ◌≡◌,
  ℕ,
  ◌+◌,
  ◌<◌,
  ◌≤◌,
  true,
  List,
  [],
  ◌∷◌,
  ◌++◌,
  length,
  take,
  slice_range,
  nat_lt,
  if◌then◌else◌,
  option_to_list,
  Option,
  Some,
  None,
  Ok,
}
use Rattle.nvme_pdu.specs.declared.fatal.Fatal.{Fatal}
use Rattle.nvme_pdu.specs.declared.layout.PduLayout.{PduLayout}
use Rattle.nvme_pdu.specs.Layouts.{layout_of}
use Rattle.nvme_connection.specs.declared.connection.Connection.{Connection as Value}
use Rattle.nvme_connection.specs.declared.judged.Verdict.{Verdict}
use Rattle.nvme_connection.specs.declared.judged.Verdict.TheVariants as verdicts
use Rattle.nvme_connection.specs.declared.stage.Stage.TheVariants.{Taking, Whole}
use Rattle.nvme_connection.specs.declared.taken.Taken.{Taken}
use Rattle.nvme_connection.specs.Connections.{Connection, Outcome, Completes, Breaks, Step, at_stage, is_in_turn, pdu}
use Rattle.nvme_connection.specs.Streams.{after_bytes, outcomes, taken, data_in, in_hand}

-- this is the layout of the PDU in hand
pub record IsLaid (c : Connection) (l : PduLayout) : Type 0 where
  pub is : layout_of c.agreed (take 8 c.unit) ≡ Ok l
  pub in_turn : is_in_turn c c.unit ≡ true
  pub common : 8 ≤ length c.unit
  pub within : length c.unit ≤ l.length

-- The value is this connection. Of the PDU in hand it keeps the number of its bytes and the first 128, which include
-- each header.
pub record Holds (v : Value) (c : Connection) : Type 0 where
  pub stage : v.stage ≡ c.stage
  pub is_open : v.is_open ≡ c.is_open
  pub agreed : v.agreed ≡ c.agreed
  pub count : v.count ≡ length c.unit
  pub kept : take v.count v.kept ≡ take 128 c.unit
  pub laid : c.stage ≡ Taking → 8 ≤ length c.unit → IsLaid c v.layout × (length c.unit < v.layout.length)
  pub whole : c.stage ≡ Whole → IsLaid c v.layout × (length c.unit ≡ v.layout.length)

-- the reason of a breach, and what its termination request repeats
abbrev pub breach_of : Connection → Option Fatal → List Outcome
breach_of c (Some fatal) = Breaks fatal (take 128 c.unit) ∷ []
breach_of c None = []

-- Of the bytes given, those from `data_begin` to `data_end` are data of the PDU in hand, and come next after
-- `data_offset` others.
pub record AreData (c : Connection) (bytes : List ℕ) (t : Taken) : Type 0 where
  pub offset : t.data_offset ≡ (if nat_lt t.data_begin t.data_end then length (data_in c.agreed (in_hand c)) else 0)
  pub next : data_in c.agreed (in_hand (after_bytes c bytes)) ≡ data_in c.agreed (in_hand c)
      ++ slice_range bytes t.data_begin t.data_end
  pub within : (t.data_begin ≤ t.data_end) × (t.data_end ≤ t.count)

-- the PDU in hand is whole, or lacks bytes
abbrev pub settled_by : Connection → PduLayout → Connection
settled_by c l = at_stage (if nat_lt (length c.unit) l.length then Taking else Whole) c c.unit

-- a verdict on a PDU: it is complete, or breaks a rule
abbrev pub verdict_of : Connection → Option Verdict → Option Outcome
verdict_of c (Some (verdicts.Completes l is_sound)) = Some (Completes (pdu c l is_sound))
verdict_of c (Some (verdicts.Breaks fatal)) = Some (Breaks fatal (take 128 c.unit))
verdict_of c None = None

-- what a call of `take` does: the connection after all the bytes, how many are taken, the breach if there is one, and
-- the data
pub record Takes (c : Connection) (bytes : List ℕ) (t : Taken) (v : Value) : Type 0 where
  pub next : Holds v (after_bytes c bytes)
  pub count : t.count ≡ taken c bytes
  pub breach : outcomes c bytes ≡ breach_of (after_bytes c bytes) t.breach
  pub are_data : AreData c bytes t

-- ---- what the functions within a call say

-- whatever PDU the bytes so far are of, its first ones are kept with these
pub record IsKept (count : ℕ) (kept bytes : List ℕ) (new_count : ℕ) (new_kept : List ℕ) : Type 0 where
  pub counted : new_count ≡ count + length bytes
  pub first : (unit : List ℕ) → count ≡ length unit → take count kept ≡ take 128 unit
      → take new_count new_kept ≡ take 128 (unit ++ bytes)

-- the value has kept the bytes so far, but has not looked at them
pub record Gathers (v : Value) (c : Connection) : Type 0 where
  pub stage : v.stage ≡ Taking
  pub is_open : v.is_open ≡ c.is_open
  pub agreed : v.agreed ≡ c.agreed
  pub count : v.count ≡ length c.unit
  pub kept : take v.count v.kept ≡ take 128 c.unit

-- a step is made
pub record Makes (step : Step) (breach : Option Fatal) (v : Value) : Type 0 where
  pub next : Holds v step.0
  pub told : option_to_list step.1 ≡ breach_of step.0 breach

-- a whole PDU is judged so
pub record Judges (step : Step) (c : Connection) (verdict : Verdict) (v : Value) : Type 0 where
  pub next : Holds v step.0
  pub told : verdict_of c (Some verdict) ≡ step.1

-- these bytes are all taken
pub record Covers (c : Connection) (bytes : List ℕ) (breach : Option Fatal) (v : Value) : Type 0 where
  pub next : Holds v (after_bytes c bytes)
  pub told : outcomes c bytes ≡ breach_of (after_bytes c bytes) breach
  pub all : taken c bytes ≡ length bytes

-- none of these is
pub record Stops (c : Connection) (bytes : List ℕ) : Type 0 where
  pub next : after_bytes c bytes ≡ c
  pub told : outcomes c bytes ≡ []
  pub none : taken c bytes ≡ 0
