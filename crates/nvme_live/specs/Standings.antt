-- The states of a session, and the effect of a line on them.
use Rattle.std.specs.Prelude.{◌≡◌, ◌+◌, ℕ, Bool, List, [], ◌∷◌, ◌++◌, codes, Option, None, Some}
use Rattle.std.specs.Fmt.{decimal}
use Rattle.nvme_spec.specs.Blocks.{Device}
use Rattle.nvme_spec.specs.Configuration.{Capacity, config_fault}
use Rattle.nvme_spec.specs.declared.config.ConfigFault.{ConfigFault}
use Rattle.nvme_fleet.specs.FleetStates.{Layers, opening_layers}
use Rattle.nvme_grammar.specs.declared.line.Line.{Line}
use Rattle.nvme_grammar.specs.declared.line.Line.TheVariants.{Start}
use Rattle.nvme_program.specs.FailureTexts.{config_fault_text}
use Rattle.nvme_program.specs.RuleTexts.{rule_text}
use Rattle.nvme_ns.specs.declared.refusal.BrokenRule.{BrokenRule}
use Rattle.live_text.specs.Faults.{refusal}
use Rattle.live_text.specs.declared.fault.Why.TheVariants.{BehindStart}
use Rattle.nvme_lines.specs.LineTexts.{reading_text}
use Rattle.live_text.specs.declared.asking.Asked.{Asked}
use Rattle.live_text.specs.declared.asking.Asked.TheVariants.{Fails, Nothing, Looks, Parses, Sets, Does}
use Rattle.nvme_live.specs.Answers.{AnswersLine}
use Rattle.live_text.specs.Asking.{asked}
use Rattle.nvme_live.specs.Saying.{LacksRoom, with_feed}
use Rattle.nvme_live.specs.SetUps.{SetUp, numbered_reason, with_line}
use Rattle.live_views.specs.Showing.{early_text}

-- The state of a session: it has this configuration so far; or it runs; or its configuration was refused with this
-- fault, at the line `start` with this number, and the session is over.
pub data Standing : Type 0 where
  Setting : SetUp → Standing
  Running : Layers → Standing
  Over : ℕ → ConfigFault → Standing

-- Whether the text of an answer may not fit, by the state of the session and the kind of line: only if it is longer
-- than a text may be. The answer to a line without effect, or to a setup line, is `ok`, and always fits; so does
-- `started`, so that only a refusal of `start` may not fit.
abbrev pub MayLackRoom : Standing → Asked → List ℕ → Type 0
MayLackRoom (Setting s) (Fails why) answer = LacksRoom answer
MayLackRoom (Setting s) Nothing answer = ⊥
MayLackRoom (Setting s) (Looks looking) answer = LacksRoom answer
MayLackRoom (Setting s) (Parses line) answer = LacksRoom answer
MayLackRoom (Setting s) (Sets Start) answer = LacksRoom answer
MayLackRoom (Setting s) (Sets line) answer = ⊥
MayLackRoom (Setting s) (Does event) answer = LacksRoom answer
MayLackRoom (Running l) (Fails why) answer = LacksRoom answer
MayLackRoom (Running l) Nothing answer = ⊥
MayLackRoom (Running l) (Looks looking) answer = LacksRoom answer
MayLackRoom (Running l) (Parses line) answer = LacksRoom answer
MayLackRoom (Running l) (Sets line) answer = LacksRoom answer
MayLackRoom (Running l) (Does event) answer = LacksRoom answer
MayLackRoom (Over k fault) asks answer = ⊥

-- the line at fault, by its number, and the broken rule
abbrev pub reason_text : Option (ℕ × BrokenRule) → List ℕ
reason_text None = []
reason_text (Some reason) = codes "; line " ++ decimal reason.0 ++ codes ": " ++ rule_text reason.1

-- the answer to the n-th line, `start`, if the configuration has this fault, for this reason
abbrev pub refused_text : ℕ → ConfigFault → Option (ℕ × BrokenRule) → List ℕ
refused_text n fault reason =
    codes "refused line " ++ decimal n ++ codes ": " ++ config_fault_text fault ++ reason_text reason

abbrev pub started_text : List ℕ
started_text = codes "started"

-- The answer to `start`, and the state after it, by the first fault of the configuration over this medium.
abbrev pub Starts : Option ConfigFault → Capacity → Device → ℕ → SetUp → List ℕ → Standing → Type 0
Starts None size d n s answer new =
    (answer ≡ with_feed started_text) × (new ≡ Running (opening_layers s.configuration d))
Starts (Some fault) size d n s answer new =
    (answer ≡ with_feed (refused_text n fault (numbered_reason s size))) × (new ≡ Over n fault)

-- a line of the grammar that is `start` or precedes it
abbrev pub SetsBy : Capacity → Device → ℕ → SetUp → Line → List ℕ → Standing → Type 0
SetsBy size d n s Start answer new =
    Starts (config_fault s.configuration size) size d n s answer new
SetsBy size d n s line answer new = (answer ≡ with_feed (codes "ok")) × (new ≡ Setting (with_line n s line))

-- the answer to a line before `start`, and the state after it
abbrev pub Settles : Capacity → Device → ℕ → SetUp → Asked → List ℕ → Standing → Type 0
Settles size d n s (Fails why) answer new = (answer ≡ with_feed (refusal n why)) × (new ≡ Setting s)
Settles size d n s Nothing answer new = (answer ≡ with_feed (codes "ok")) × (new ≡ Setting s)
Settles size d n s (Looks looking) answer new = (answer ≡ with_feed (early_text n looking)) × (new ≡ Setting s)
Settles size d n s (Parses line) answer new = (answer ≡ with_feed (reading_text line)) × (new ≡ Setting s)
Settles size d n s (Sets line) answer new = SetsBy size d n s line answer new
Settles size d n s (Does event) answer new = (answer ≡ with_feed (refusal n BehindStart)) × (new ≡ Setting s)

-- the answer to the n-th line, and the state of the session after it; when it is over, no further line is read
abbrev pub Turn : Bool → Capacity → Device → ℕ → Standing → Asked → List ℕ → Standing → Type 0
Turn tells size d n (Setting s) asks answer new = Settles size d n s asks answer new
Turn tells size d n (Running old) asks answer new =
    (later : Layers) × AnswersLine tells n asks old answer later × (new ≡ Running later)
Turn tells size d n (Over k fault) asks answer new = ⊥

-- the answer to the n-th line, by its bytes
abbrev pub TurnOf : Bool → Capacity → Device → ℕ → Standing → List ℕ → List ℕ → Standing → Type 0
TurnOf tells size d n old line answer new = Turn tells size d n old (asked line) answer new

-- Lines from the n-th, in order, with their answers, for some definition of a turn. There is one state of the
-- session between two lines.
abbrev pub LineByLine : {S : Type 0} → (ℕ → S → List ℕ → List ℕ → S → Type 0) → ℕ → S → List (List ℕ)
    → List (List ℕ) → S → Type 0
LineByLine Turns n old [] [] new = new ≡ old
LineByLine {S} Turns n old (line ∷ lines) (answer ∷ answers) new =
    (mid : S) × Turns n old line answer mid × LineByLine Turns (n + 1) mid lines answers new
LineByLine Turns n old [] (answer ∷ answers) new = ⊥
LineByLine Turns n old (line ∷ lines) [] new = ⊥

abbrev pub Session : Bool → Capacity → Device → ℕ → Standing → List (List ℕ) → List (List ℕ) → Standing → Type 0
Session tells size d n old lines answers new = LineByLine (TurnOf tells size d) n old lines answers new
