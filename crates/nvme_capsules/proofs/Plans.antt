-- What becomes of a command that was accepted, by cases.
use Rattle.std.proofs.Common.{◌≡◌, ℕ, Bool, Option, None, Some, Result, Ok, Err, refl}
use Rattle.nvme_wire.specs.declared.status.Status.{Status}
use Rattle.nvme_capsules.specs.declared.capsule.Capsule.{Capsule}
use Rattle.nvme_capsules.specs.declared.connect_stage.ConnectStage.{ConnectStage}
use Rattle.nvme_capsules.specs.declared.connect_stage.ConnectStage.TheVariants as stage
use Rattle.nvme_capsules.specs.declared.data_place.DataPlace.{DataPlace}
use Rattle.nvme_capsules.specs.declared.data_place.DataPlace.TheVariants as place
use Rattle.nvme_capsules.specs.declared.outcome.Data.TheVariants as data_of
use Rattle.nvme_capsules.specs.declared.outcome.Outcome.{Outcome}
use Rattle.nvme_capsules.specs.declared.outcome.Outcome.TheVariants as outcome
use Rattle.nvme_capsules.specs.Capsules.{refusal}
use Rattle.nvme_capsules.specs.DataPlaces.{data_place}
use Rattle.nvme_capsules.specs.Outcomes.{at_place, on_request, placed, planned, unless_refused}
use Rattle.nvme_capsules.specs.Statuses.{command_sequence_error}

-- it is refused, waits for data, or is ready
pub data Plan (now : ConnectStage) (c : Capsule) (b : Bool) (o : Outcome) : Type 0 where
  IsRefused : (status : Status) → o ≡ outcome.Refused status → Plan now c b o
  WaitsFor : (bytes : ℕ) → refusal now c b ≡ None → data_place c.entry c.data_length ≡ Ok (place.OnRequest bytes)
      → o ≡ outcome.Waits bytes → Plan now c b o
  HasInCapsule : (begin bytes : ℕ) → refusal now c b ≡ None
      → data_place c.entry c.data_length ≡ Ok (place.InCapsule begin bytes)
      → o ≡ outcome.Ready (data_of.InCapsule begin bytes) → Plan now c b o
  Returns : (bytes : ℕ) → refusal now c b ≡ None → data_place c.entry c.data_length ≡ Ok (place.FromController bytes)
      → o ≡ outcome.Ready (data_of.FromController bytes) → Plan now c b o

asks : (now : ConnectStage) (c : Capsule) (b : Bool) (bytes : ℕ) → refusal now c b ≡ None
    → data_place c.entry c.data_length ≡ Ok (place.OnRequest bytes) → (other : ConnectStage)
    → Plan now c b (on_request other bytes)
asks now c b bytes none at stage.NotConnected = IsRefused command_sequence_error refl
asks now c b bytes none at stage.Authenticating = WaitsFor bytes none at refl
asks now c b bytes none at stage.Connected = WaitsFor bytes none at refl

places : (now : ConnectStage) (c : Capsule) (b : Bool) → refusal now c b ≡ None → Plan now c b (placed now c)
places now c b none = by (data_place c.entry c.data_length) refl where
  by : (r : Result DataPlace Status) → data_place c.entry c.data_length ≡ r → Plan now c b (at_place now r)
  by (Err status) at = IsRefused status refl
  by (Ok (place.InCapsule begin bytes)) at = HasInCapsule begin bytes none at refl
  by (Ok (place.FromController bytes)) at = Returns bytes none at refl
  by (Ok (place.OnRequest bytes)) at = asks now c b bytes none at now

pub plan : (now : ConnectStage) (c : Capsule) (b : Bool) → Plan now c b (planned (Ok b) now c)
plan now c b = by (refusal now c b) refl where
  by : (o : Option Status) → refusal now c b ≡ o → Plan now c b (unless_refused o now c)
  by (Some status) e = IsRefused status refl
  by None e = places now c b e
