-- Each export has one outcome, whether a driver is open or not; a poll only if no two aborted requests have one ticket,
-- and if the data of its answer are in the window.
use Rattle.std.specs.Prelude.{◌≡◌, ℕ, Bool, List, Option, IfSome}
use Rattle.nvme_driver.specs.declared.request.Request.{Request}
use Rattle.nvme_driver.specs.Requests.{Asked}
use Rattle.nvme_host.specs.declared.outcome.Outcome.{Outcome}
use Rattle.nvme_host.specs.declared.open_driver.OpenDriver.{OpenDriver}
use Rattle.nvme_host.specs.declared.recording_port.Action.{Action}
use Rattle.nvme_host.specs.Calls.{
  IsNew,
  Ringing,
  Resetting,
  ShuttingDown,
  Expiring,
  CheckingStatus,
  ReportingCompletion,
}
use Rattle.nvme_host.specs.Completions.{StoringData}
use Rattle.nvme_host.specs.Determined.{HasDistinctTickets, HasItsData}
use Rattle.nvme_host.specs.Exports.{
  Opens,
  Polls,
  Places,
  Sends,
  Asks,
  Does,
  BringsUp,
  Judges,
  TakesActions,
  StoresCompletion,
  LoadsFrom,
}
use Rattle.nvme_host.specs.Holding.{Inside}

-- an export with one outcome, for each handle
abbrev pub HandleIsDetermined : {A : Type 0} → (Option Inside → A → Option Inside → Type 0) → Type 0
HandleIsDetermined {A} export =
    (old : Option Inside) (one two : A) (new other : Option Inside) → export old one new → export old two other
    → (one ≡ two) × (new ≡ other)

abbrev pub NewDriversAreEqual : Type 0
NewDriversAreEqual = (bytes : List ℕ) (first : ℕ) (h k : OpenDriver) → IsNew bytes first h → IsNew bytes first k → h ≡ k

-- memory may be refused: the code says what is open, and what is open says the code
abbrev pub OpeningsAreDetermined : Type 0
OpeningsAreDetermined =
    (old : Option Inside) (first one two : ℕ) (new other : Option Inside)
    → Opens old first one new → Opens old first two other
    → (one ≡ two → new ≡ other) × (new ≡ other → one ≡ two)

abbrev pub PollsOfHandlesAreDetermined : Type 0
PollsOfHandlesAreDetermined =
    (old : Option Inside) (before : List ℕ) (one two : Outcome) (new other : Option Inside) (buffer bytes : List ℕ)
    → IfSome old (λ h. HasDistinctTickets h.driver.slots × HasItsData h)
    → Polls old before one new buffer → Polls old before two other bytes
    → (one ≡ two) × (new ≡ other) × (buffer ≡ bytes)

abbrev pub TakingsOfHandlesAreDetermined : Type 0
TakingsOfHandlesAreDetermined =
    (old : Option Inside) (before : List Action) (one two : ℕ) (after afterwards : List Action)
    (new other : Option Inside)
    → TakesActions old before one after new → TakesActions old before two afterwards other
    → (one ≡ two) × (after ≡ afterwards) × (new ≡ other)

abbrev pub LoadsAreDetermined : Type 0
LoadsAreDetermined =
    (old : Option Inside) (at : ℕ) (before : List ℕ) (one two : ℕ) (after afterwards : List ℕ)
    → LoadsFrom old at before one after → LoadsFrom old at before two afterwards
    → (one ≡ two) × (after ≡ afterwards)

pub record ExportsAreDetermined : Type 0 where
  pub new : NewDriversAreEqual
  pub opening : OpeningsAreDetermined
  pub polling : PollsOfHandlesAreDetermined
  pub placing : (refusal : OpenDriver → Option ℕ) (request : Request)
      → HandleIsDetermined (λ old placed new. Places refusal request old placed new)
  pub sending : (refusal : OpenDriver → Option ℕ) (identifies : Bool) (asked : OpenDriver → Asked)
      → HandleIsDetermined (λ old placed new. Sends refusal identifies asked old placed new)
  pub asking : (nsid : ℕ) → HandleIsDetermined (λ old placed new. Asks nsid old placed new)
  pub ringing : HandleIsDetermined (λ old code new. Does Ringing old code new)
  pub resetting : HandleIsDetermined (λ old code new. Does Resetting old code new)
  pub shutting_down : HandleIsDetermined (λ old code new. Does ShuttingDown old code new)
  pub expiring : (t : ℕ) → HandleIsDetermined (λ old code new. Does (λ h. Expiring h t) old code new)
  pub checking : (csts elapsed_ms : ℕ)
      → HandleIsDetermined (λ old code new. Does (λ h. CheckingStatus h csts elapsed_ms) old code new)
  pub reporting : (bytes : List ℕ)
      → HandleIsDetermined (λ old code new. Does (λ h. ReportingCompletion h bytes) old code new)
  pub storing_data : (at : ℕ) (part : List ℕ)
      → HandleIsDetermined (λ old code new. Does (λ h. StoringData h at part) old code new)
  pub bringing_up : HandleIsDetermined (λ old outcome new. BringsUp old outcome new)
  pub judging : (cap : ℕ) → HandleIsDetermined (λ old limits new. Judges cap old limits new)
  pub taking : TakingsOfHandlesAreDetermined
  pub storing : (queue : ℕ) (entry : List ℕ)
      → HandleIsDetermined (λ old outcome new. StoresCompletion queue entry old outcome new)
  pub loading : LoadsAreDetermined
