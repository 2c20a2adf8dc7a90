-- The answer to a line over a medium, and the calls that it makes there: an event makes exactly its own calls, a query
-- of blocks reads just these, and no other line makes any.
use Rattle.std.specs.Prelude.{◌≡◌, ◌*◌, Bool, ℕ, List, length, codes, Option, None, Some, Result}
use Rattle.nvme_event.specs.declared.event.FleetEvent.{FleetEvent}
use Rattle.nvme_event.specs.Replies.{Reply}
use Rattle.nvme_fleet.specs.FleetStates.{Layers}
use Rattle.nvme_fleet.specs.LayerCalls.{AreCallsOfStep}
use Rattle.nvme_transcript.specs.Transcript.{line_of}
use Rattle.nvme_spec.specs.Blocks.{Device}
use Rattle.nvme_spec.specs.Configuration.{Capacity}
use Rattle.nvme_spec.specs.MediumCalls.{MediumCall, MakesCalls, MakesInOrder, reads_from}
use Rattle.nvme_spec.specs.declared.medium.MediumFault.{MediumFault}
use Rattle.nvme_subsys.specs.Looking.{Reads}
use Rattle.nvme_subsys.specs.OverMedium.{OverMedium, over}
use Rattle.live_text.specs.Faults.{refusal}
use Rattle.live_text.specs.declared.fault.Why.TheVariants.{BeforeStart, OutsideNamespace}
use Rattle.live_text.specs.declared.looking.Looking.{Looking}
use Rattle.live_text.specs.declared.looking.Looking.TheVariants as look
use Rattle.nvme_lines.specs.LineTexts.{reading_text}
use Rattle.live_text.specs.declared.asking.Asked.{Asked}
use Rattle.live_text.specs.declared.asking.Asked.TheVariants.{Fails, Nothing, Looks, Parses, Sets, Does}
use Rattle.nvme_live.specs.Answers.{block_of}
use Rattle.live_text.specs.Asking.{asked}
use Rattle.nvme_live.specs.Saying.{with_feed}
use Rattle.live_views.specs.Looks.{read_text}
use Rattle.nvme_live.specs.Looks.{shown_text}
use Rattle.nvme_live.specs.Standings.{Standing, Setting, Running, Over, Settles}

-- An event happened, by exactly its calls, and the answer is its line with its result.
pub record HappensBy {M : Type 0} (step : M → MediumCall → M → Type 0) (tells : Bool) (old : OverMedium Layers M)
    (event : FleetEvent) (answer : List ℕ) (new : OverMedium Layers M) : Type 0 where
  pub reply : Reply
  pub calls : MakesCalls step (AreCallsOfStep tells old.state event reply new.state) old.medium new.medium
  pub says : answer ≡ line_of event reply

-- Blocks of the medium were read, from this one, with one call each, up to the first that failed.
pub record LooksAtBlocksBy {M : Type 0} (step : M → MediumCall → M → Type 0) (tells : Bool)
    (n m slba count first : ℕ) (old : OverMedium Layers M) (answer : List ℕ) (new : OverMedium Layers M) : Type 0 where
  pub bytes : List ℕ
  pub result : Result (Unit {0}) MediumFault
  pub whole : length bytes ≡ 512 * count
  pub reads : Reads tells first old.state.subsystem bytes result new.state.subsystem
  pub calls : MakesInOrder step (reads_from first bytes) count old.medium result new.medium
  pub drivers : new.state.drivers ≡ old.state.drivers
  pub says : answer ≡ with_feed (read_text n m slba count bytes result)

-- A query of blocks, at this place of the medium, if they exist; otherwise it is refused, and no call is made.
abbrev pub ShowsBlocksBy : {M : Type 0} → (M → MediumCall → M → Type 0) → Option ℕ → Bool → ℕ → ℕ → ℕ → ℕ
    → OverMedium Layers M → List ℕ → OverMedium Layers M → Type 0
ShowsBlocksBy step None tells n m slba count old answer new =
    (answer ≡ with_feed (refusal n OutsideNamespace)) × (new ≡ old)
ShowsBlocksBy step (Some first) tells n m slba count old answer new =
    LooksAtBlocksBy step tells n m slba count first old answer new

-- the answer to a query
abbrev pub ShowsBy : {M : Type 0} → (M → MediumCall → M → Type 0) → Bool → ℕ → Looking → OverMedium Layers M → List ℕ
    → OverMedium Layers M → Type 0
ShowsBy step tells n (look.Blocks m slba count) old answer new =
    ShowsBlocksBy step (block_of m slba count old.state) tells n m slba count old answer new
ShowsBy step tells n looking old answer new = (answer ≡ with_feed (shown_text n looking old.state)) × (new ≡ old)

-- the answer to the n-th line after the fleet is opened
abbrev pub AnswersLineBy : {M : Type 0} → (M → MediumCall → M → Type 0) → Bool → ℕ → Asked → OverMedium Layers M
    → List ℕ → OverMedium Layers M → Type 0
AnswersLineBy step tells n (Fails why) old answer new = (answer ≡ with_feed (refusal n why)) × (new ≡ old)
AnswersLineBy step tells n Nothing old answer new = (answer ≡ with_feed (codes "ok")) × (new ≡ old)
AnswersLineBy step tells n (Looks looking) old answer new = ShowsBy step tells n looking old answer new
AnswersLineBy step tells n (Parses line) old answer new = (answer ≡ with_feed (reading_text line)) × (new ≡ old)
AnswersLineBy step tells n (Sets line) old answer new = (answer ≡ with_feed (refusal n BeforeStart)) × (new ≡ old)
AnswersLineBy step tells n (Does event) old answer new = HappensBy step tells old event answer new

-- The answer to the n-th line, and the states of the session and its medium after it. Before the fleet is opened, no
-- call is made.
abbrev pub TurnBy : {M : Type 0} → (M → MediumCall → M → Type 0) → Bool → Capacity → Device → ℕ → Standing → M → Asked
    → List ℕ → OverMedium Standing M → Type 0
TurnBy step tells size d n (Setting s) medium asks answer new =
    Settles size d n s asks answer new.state × (new.medium ≡ medium)
TurnBy step tells size d n (Running old) medium asks answer new =
    (later : Layers) × AnswersLineBy step tells n asks (over old medium) answer (over later new.medium)
    × (new.state ≡ Running later)
TurnBy step tells size d n (Over k fault) medium asks answer new = ⊥

-- the same, by the bytes of the line
abbrev pub TurnOver : {M : Type 0} → (M → MediumCall → M → Type 0) → Bool → Capacity → Device → ℕ
    → OverMedium Standing M
    → List ℕ → List ℕ → OverMedium Standing M → Type 0
TurnOver step tells size d n old line answer new =
    TurnBy step tells size d n old.state old.medium (asked line) answer new
