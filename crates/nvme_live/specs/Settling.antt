-- The result of a line before `start`.
use Rattle.std.specs.Prelude.{◌≡◌, ◌⊎◌, ℕ, List, Result, Ok, Err}
use Rattle.nvme_spec.specs.Blocks.{Device}
use Rattle.nvme_spec.specs.Configuration.{Capacity}
use Rattle.nvme_live.specs.SetUps.{IsCrowded, SetUp}
use Rattle.nvme_grammar.specs.declared.line.Line.{Line}
use Rattle.nvme_grammar.specs.declared.line.Line.TheVariants.{Start}
use Rattle.nvme_program.specs.declared.fault.ScriptFault.{ScriptFault}
use Rattle.nvme_program.specs.declared.fault.ScriptFault.TheVariants.{Syntax, Config, TooLong, NoMemory, Read, Write}
use Rattle.live_text.specs.declared.asking.Asked.{Asked}
use Rattle.live_text.specs.declared.asking.Asked.TheVariants.{Sets}
use Rattle.nvme_live.specs.declared.setting.Settled.{Settled}
use Rattle.nvme_live.specs.declared.setting.Settled.TheVariants.{Answered, Started}
use Rattle.nvme_live.specs.Standings.{MayLackRoom, Setting, Settles}
use Rattle.script_text.specs.Writing.{Broken, Sending, Sent}

-- over any medium this is the answer to the n-th line, and the configuration after it
abbrev pub SettlesAlike : ℕ → SetUp → Asked → List ℕ → SetUp → Type 0
SettlesAlike n old asks answer new = (size : Capacity) (d : Device) → Settles size d n old asks answer (Setting new)

-- A line before the session runs was answered; or it is `start`, and nothing was written yet; or its answer was not
-- written whole, not flushed, or did not fit; or there are too many lines of its kind, and memory for it was refused.
abbrev pub Comes : {W : Type 0} → (W → Sending → W → Type 0) → Result Settled ScriptFault → ℕ → SetUp → Asked → SetUp
    → W → W → Type 0
Comes Sends (Ok Answered) n old asks new before after =
    (answer : List ℕ) × SettlesAlike n old asks answer new × Sends before (Sent answer) after
Comes Sends (Ok Started) n old asks new before after = (asks ≡ Sets Start) × (new ≡ old) × (after ≡ before)
Comes Sends (Err Write) n old asks new before after =
    (answer : List ℕ) × SettlesAlike n old asks answer new × Sends before (Broken answer) after
Comes Sends (Err NoMemory) n old asks new before after =
    ((line : Line) × (asks ≡ Sets line) × IsCrowded old line × (new ≡ old) × (after ≡ before))
    ⊎ ((answer : List ℕ) × SettlesAlike n old asks answer new × MayLackRoom (Setting old) asks answer
    × (after ≡ before))
Comes Sends (Err (Syntax k)) n old asks new before after = ⊥
Comes Sends (Err (Config k fault)) n old asks new before after = ⊥
Comes Sends (Err TooLong) n old asks new before after = ⊥
Comes Sends (Err Read) n old asks new before after = ⊥
