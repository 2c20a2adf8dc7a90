-- A session over streams: the lines read, the answers, and how it ended. Answering a line, reading one and sending an
-- answer are parameters: as calls of a medium and streams, or for known bytes alone.
use Rattle.std.specs.Prelude.{
  ◌≡◌,
  ◌⊎◌,
  ◌≤◌,
  ◌<◌,
  ◌+◌,
  ◌-◌,
  ◌^◌,
  ℕ,
  Bool,
  List,
  [],
  ◌∷◌,
  length,
  Option,
  None,
  Some,
  Result,
  Ok,
  Err,
}
use Rattle.nvme_spec.specs.Blocks.{Device}
use Rattle.nvme_spec.specs.Configuration.{Capacity}
use Rattle.nvme_fleet.specs.FleetStates.{Layers}
use Rattle.nvme_live.specs.SetUps.{IsCrowded, SetUp}
use Rattle.nvme_grammar.specs.declared.line.Line.{Line}
use Rattle.nvme_grammar.specs.declared.line.Line.TheVariants.{Start}
use Rattle.nvme_program.specs.declared.fault.ScriptFault.{ScriptFault}
use Rattle.nvme_program.specs.declared.fault.ScriptFault.TheVariants.{Syntax, Config, TooLong, NoMemory, Read, Write}
use Rattle.live_text.specs.declared.asking.Asked.TheVariants.{Sets}
use Rattle.live_text.specs.Asking.{asked}
use Rattle.nvme_subsys.specs.OverMedium.{OverMedium}
use Rattle.nvme_live.specs.Standings.{MayLackRoom, Standing, Setting, Running, Over, TurnOf, LineByLine}
use Rattle.script_text.specs.Writing.{Broken, Sending, Sent}
use Rattle.nvme_live.specs.Streams.{Came, Ended, Failed, LineCall}

-- these lines were read in order, each by one call, and no other call was made
abbrev pub ReadsLines : {R : Type 0} → (R → LineCall → R → Type 0) → R → List (List ℕ) → R → Type 0
ReadsLines Reads old [] new = new ≡ old
ReadsLines {R} Reads old (line ∷ lines) new = (mid : R) × Reads old (Came line) mid × ReadsLines Reads mid lines new

-- exactly these answers were sent, in order
abbrev pub SendsAll : {W : Type 0} → (W → Sending → W → Type 0) → W → List (List ℕ) → W → Type 0
SendsAll Sends old [] new = new ≡ old
SendsAll {W} Sends old (answer ∷ answers) new = (mid : W) × Sends old (Sent answer) mid × SendsAll Sends mid answers new

-- Exactly these lines were read, each with one answer, in order. The next line has this number.
pub record Converses {S R W : Type 0} (Turns : ℕ → S → List ℕ → List ℕ → S → Type 0) (Reads : R → LineCall → R → Type 0)
    (Sends : W → Sending → W → Type 0) (n : ℕ) (old : S) (next : ℕ) (new : S) (unread left : R) (before after : W)
    : Type 0 where
  pub lines : List (List ℕ)
  pub answers : List (List ℕ)
  pub counted : next ≡ n + length lines
  pub taken : ReadsLines Reads unread lines left
  pub went : LineByLine Turns n old lines answers new
  pub sent : SendsAll Sends before answers after

-- The session ended at the end of the input: the last call returned no further line.
pub record Ends {S R W : Type 0} (Turns : ℕ → S → List ℕ → List ℕ → S → Type 0) (Reads : R → LineCall → R → Type 0)
    (Sends : W → Sending → W → Type 0) (n : ℕ) (old new : S) (unread left : R) (before after : W) : Type 0 where
  pub next : ℕ
  pub end : R
  pub conversed : Converses Turns Reads Sends n old next new unread end before after
  pub ended : Reads end Ended left

-- The session stopped at a line whose answer was not sent, in one of these ways; the line has had its effect.
pub record Stops {S R W : Type 0} (Turns : ℕ → S → List ℕ → List ℕ → S → Type 0) (Reads : R → LineCall → R → Type 0)
    (Sends : W → Sending → W → Type 0) (Unsent : S → List ℕ → W → List ℕ → W → Type 0) (n : ℕ) (old new : S)
    (unread left : R) (before after : W) : Type 0 where
  pub next : ℕ
  pub mid : S
  pub between : R
  pub written : W
  pub conversed : Converses Turns Reads Sends n old next mid unread between before written
  pub line : List ℕ
  pub taken : Reads between (Came line) left
  pub answer : List ℕ
  pub turn : Turns next mid line answer new
  pub unsent : Unsent mid line written answer after

-- a write of it, or its flush, failed
abbrev pub BreaksOff : {S R W : Type 0} → (ℕ → S → List ℕ → List ℕ → S → Type 0) → (R → LineCall → R → Type 0)
    → (W → Sending → W → Type 0) → ℕ → S → S → R → R → W → W → Type 0
BreaksOff Turns Reads Sends n old new unread left before after =
    Stops Turns Reads Sends (λ mid line w answer z. Sends w (Broken answer) z) n old new unread left before after

-- its text does not fit, since it is longer than a text may be, and nothing was called
abbrev pub FindsNoRoom : {S R W : Type 0} → (ℕ → S → List ℕ → List ℕ → S → Type 0) → (R → LineCall → R → Type 0)
    → (W → Sending → W → Type 0) → (S → Standing) → ℕ → S → S → R → R → W → W → Type 0
FindsNoRoom Turns Reads Sends standing n old new unread left before after =
    Stops Turns Reads Sends (λ mid line w answer z. MayLackRoom (standing mid) (asked line) answer × (z ≡ w)) n old
    new unread left before after

-- The session stopped at a call of the input that failed, and read no line.
pub record Unread {S R W : Type 0} (Turns : ℕ → S → List ℕ → List ℕ → S → Type 0) (Reads : R → LineCall → R → Type 0)
    (Sends : W → Sending → W → Type 0) (n : ℕ) (old new : S) (unread left : R) (before after : W) : Type 0 where
  pub next : ℕ
  pub between : R
  pub conversed : Converses Turns Reads Sends n old next new unread between before after
  pub failed : Reads between Failed left

-- The session stopped because it can count no more lines, and read no further one.
pub record Uncounted {S R W : Type 0} (Turns : ℕ → S → List ℕ → List ℕ → S → Type 0) (Reads : R → LineCall → R → Type 0)
    (Sends : W → Sending → W → Type 0) (n : ℕ) (old new : S) (unread left : R) (before after : W) : Type 0 where
  pub next : ℕ
  pub conversed : Converses Turns Reads Sends n old next new unread left before after
  pub many : 2 ^ 64 - 1 ≤ next

-- The n-th line, in this state of a session, can be answered, and then the session runs: for `start`, its configuration
-- has no fault.
abbrev pub CanRun : {S : Type 0} → (ℕ → S → List ℕ → List ℕ → S → Type 0) → (S → Standing) → ℕ → S → List ℕ → Type 0
CanRun {S} Turns standing n old line =
    (answer : List ℕ) × (later : S) × Turns n old line answer later × (l : Layers) × (standing later ≡ Running l)

-- a line at which memory can be refused, in this state of a session: `start`, if the session can run, or a setup line
-- beyond the limit
abbrev pub CanStarve : Standing → Line → Type 0 → Type 0
CanStarve (Setting s) line Runs = ((line ≡ Start) × Runs) ⊎ IsCrowded s line
CanStarve (Running l) line Runs = ⊥
CanStarve (Over k fault) line Runs = ⊥

-- The session stopped at a line for which memory was refused. The line is a `start` of a configuration without a fault,
-- or a setup line beyond the limit. It is not answered, and changed nothing.
pub record Starves {S R W : Type 0} (Turns : ℕ → S → List ℕ → List ℕ → S → Type 0) (Reads : R → LineCall → R → Type 0)
    (Sends : W → Sending → W → Type 0) (standing : S → Standing) (n : ℕ) (old new : S) (unread left : R)
    (before after : W) : Type 0 where
  pub next : ℕ
  pub between : R
  pub conversed : Converses Turns Reads Sends n old next new unread between before after
  pub line : List ℕ
  pub taken : Reads between (Came line) left
  pub says : Line
  pub sets : asked line ≡ Sets says
  pub starved : CanStarve (standing new) says (CanRun Turns standing next new line)

-- the fault that ends a session in this state, after it has begun
abbrev pub EndsBy : {S R W : Type 0} → ScriptFault → (ℕ → S → List ℕ → List ℕ → S → Type 0)
    → (R → LineCall → R → Type 0) → (W → Sending → W → Type 0) → (S → Standing) → ℕ → S → S → R → R → W → W → Type 0
EndsBy (Config k fault) Turns Reads Sends standing n old new unread left before after =
    (next : ℕ) × Converses Turns Reads Sends n old next new unread left before after × (standing new ≡ Over k fault)
EndsBy Read Turns Reads Sends standing n old new unread left before after =
    Unread Turns Reads Sends n old new unread left before after
    ⊎ Uncounted Turns Reads Sends n old new unread left before after
EndsBy Write Turns Reads Sends standing n old new unread left before after =
    BreaksOff Turns Reads Sends n old new unread left before after
EndsBy NoMemory Turns Reads Sends standing n old new unread left before after =
    Starves Turns Reads Sends standing n old new unread left before after
    ⊎ FindsNoRoom Turns Reads Sends standing n old new unread left before after
EndsBy (Syntax k) Turns Reads Sends standing n old new unread left before after = ⊥
EndsBy TooLong Turns Reads Sends standing n old new unread left before after = ⊥

-- the state of a session, without a medium and over one
abbrev pub alone : Standing → Standing
alone standing = standing

abbrev pub standing_over : {M : Type 0} → OverMedium Standing M → Standing
standing_over s = s.state

-- Lines before `start` were answered, and then `start` was read, which has this number and is not answered yet.
pub record ComesToStart {R W : Type 0} (Reads : R → LineCall → R → Type 0) (Sends : W → Sending → W → Type 0)
    (tells : Bool) (size : Capacity) (d : Device) (k : ℕ) (old new : SetUp) (unread left : R) (before after : W)
    : Type 0 where
  pub between : R
  pub conversed : Converses (TurnOf tells size d) Reads Sends 1 (Setting old) k (Setting new) unread between
      before after
  pub line : List ℕ
  pub taken : Reads between (Came line) left
  pub starts : asked line ≡ Sets Start
  pub countable : k < 2 ^ 64 - 1

-- the line `start` was just read: a property of the state of the source before that
abbrev pub FromStart : {R : Type 0} → (R → LineCall → R → Type 0) → R → (R → Type 0) → Type 0
FromStart {R} Reads now From =
    (line : List ℕ) → (between : R) → Reads between (Came line) now → asked line ≡ Sets Start → From between

-- The result of the lines before `start`, over any medium.
abbrev pub SetsUp : {R W : Type 0} → (R → LineCall → R → Type 0) → (W → Sending → W → Type 0)
    → Result (Option ℕ) ScriptFault → SetUp → SetUp → R → R → W → W → Type 0
SetsUp Reads Sends (Ok None) old new unread left before after = (tells : Bool) (size : Capacity) (d : Device)
    → Ends (TurnOf tells size d) Reads Sends 1 (Setting old) (Setting new) unread left before after
SetsUp Reads Sends (Ok (Some k)) old new unread left before after = (tells : Bool) (size : Capacity) (d : Device)
    → ComesToStart Reads Sends tells size d k old new unread left before after
SetsUp Reads Sends (Err fault) old new unread left before after = (tells : Bool) (size : Capacity) (d : Device)
    → EndsBy fault (TurnOf tells size d) Reads Sends alone 1 (Setting old) (Setting new) unread left before after
