-- The answer to a line after the fleet is opened, and its effect.
use Rattle.std.specs.Prelude.{
  ◌≡◌,
  ◌*◌,
  ◌==◌,
  ◌||◌,
  nat_lt,
  Bool,
  ℕ,
  List,
  length,
  codes,
  Option,
  None,
  Some,
  Result,
  if◌then◌else◌,
}
use Rattle.nvme_event.specs.declared.event.FleetEvent.{FleetEvent}
use Rattle.nvme_event.specs.Replies.{Reply}
use Rattle.nvme_fleet.specs.FleetStates.{Layers}
use Rattle.nvme_fleet.specs.Layers.{Step}
use Rattle.nvme_transcript.specs.Transcript.{line_of}
use Rattle.nvme_spec.specs.World.{namespace_of}
use Rattle.nvme_spec.specs.declared.medium.MediumFault.{MediumFault}
use Rattle.nvme_subsys.specs.Looking.{Reads, block_in}
use Rattle.live_text.specs.Faults.{refusal}
use Rattle.live_text.specs.declared.fault.Why.TheVariants.{BeforeStart, OutsideNamespace}
use Rattle.live_text.specs.declared.looking.Looking.{Looking}
use Rattle.live_text.specs.declared.looking.Looking.TheVariants as look
use Rattle.nvme_lines.specs.LineTexts.{reading_text}
use Rattle.live_text.specs.declared.asking.Asked.{Asked}
use Rattle.live_text.specs.declared.asking.Asked.TheVariants.{Fails, Nothing, Looks, Parses, Sets, Does}
use Rattle.nvme_live.specs.Saying.{with_feed}
use Rattle.live_views.specs.Looks.{read_text}
use Rattle.nvme_live.specs.Looks.{shown_text}
use Rattle.script_text.specs.Writing.{Sending}
use Rattle.nvme_live.specs.Streams.{Says}
use Rattle.nvme_program.specs.declared.fault.ScriptFault.{ScriptFault}

-- An event was applied, and the answer is its line of the transcript.
pub record Happens (tells : Bool) (old : Layers) (event : FleetEvent) (answer : List ℕ) (new : Layers) : Type 0 where
  pub reply : Reply
  pub step : Step tells old event reply new
  pub says : answer ≡ line_of event reply

-- `count` blocks were read from block `first` of the medium, and the answer shows them or the fault. Nothing changed
-- except the medium's failure count, and that only if a call failed.
pub record LooksAtBlocks (tells : Bool) (n m slba count first : ℕ) (old : Layers) (answer : List ℕ) (new : Layers)
    : Type 0 where
  pub bytes : List ℕ
  pub result : Result (Unit {0}) MediumFault
  pub whole : length bytes ≡ 512 * count
  pub reads : Reads tells first old.subsystem bytes result new.subsystem
  pub drivers : new.drivers ≡ old.drivers
  pub says : answer ≡ with_feed (read_text n m slba count bytes result)

-- The answer to a query of blocks. `None` if the query is refused, because it is for no block or more than 256, or the
-- namespace does not have all of them; otherwise their first block of the medium.
abbrev pub ShowsBlocks : Option ℕ → Bool → ℕ → ℕ → ℕ → ℕ → Layers → List ℕ → Layers → Type 0
ShowsBlocks None tells n m slba count old answer new =
    (answer ≡ with_feed (refusal n OutsideNamespace)) × (new ≡ old)
ShowsBlocks (Some first) tells n m slba count old answer new =
    LooksAtBlocks tells n m slba count first old answer new

abbrev pub block_of : ℕ → ℕ → ℕ → Layers → Option ℕ
block_of m slba count l =
    if (count == 0) || nat_lt 256 count then None else block_in (namespace_of l.subsystem.world m) slba count

-- the answer to a query, which changes nothing
abbrev pub Shows : Bool → ℕ → Looking → Layers → List ℕ → Layers → Type 0
Shows tells n (look.Blocks m slba count) old answer new =
    ShowsBlocks (block_of m slba count old) tells n m slba count old answer new
Shows tells n looking old answer new = (answer ≡ with_feed (shown_text n looking old)) × (new ≡ old)

-- the answer to the n-th line, and its effect
abbrev pub AnswersLine : Bool → ℕ → Asked → Layers → List ℕ → Layers → Type 0
AnswersLine tells n (Fails why) old answer new = (answer ≡ with_feed (refusal n why)) × (new ≡ old)
AnswersLine tells n Nothing old answer new = (answer ≡ with_feed (codes "ok")) × (new ≡ old)
AnswersLine tells n (Looks looking) old answer new = Shows tells n looking old answer new
AnswersLine tells n (Parses line) old answer new = (answer ≡ with_feed (reading_text line)) × (new ≡ old)
AnswersLine tells n (Sets line) old answer new = (answer ≡ with_feed (refusal n BeforeStart)) × (new ≡ old)
AnswersLine tells n (Does event) old answer new = Happens tells old event answer new

-- An answer has this property, and was sent or not according to the result.
abbrev pub Answered : {W : Type 0} → (W → Sending → W → Type 0) → (List ℕ → Type 0) → Result (Unit {0}) ScriptFault
    → (List ℕ → Type 0) → W → W → Type 0
Answered Sends MayBe result Of before after =
    (answer : List ℕ) × Of answer × Says Sends MayBe result answer before after
