-- For `fleet_calls.rt`: calls of the medium that a fleet's events make: only executions make some.
use Rattle.std.specs.Prelude.{[], ◌∷◌, ◌≡◌, ℕ, List, Bool}
use Rattle.nvme_spec.specs.MediumCalls.{MediumCall}
use Rattle.nvme_driver.specs.declared.request.Request.{Request}
use Rattle.nvme_event.specs.declared.event.FleetEvent.TheVariants.{
  BringUp,
  Place,
  Ring,
  Fetch,
  Poll,
  Reset,
  RawStore,
  RawWrite32,
  PowerCycle,
}
use Rattle.nvme_event.specs.declared.seen.FleetSeen.{FleetSeen}
use Rattle.nvme_fleet.specs.FleetStates.{Layers}
use Rattle.nvme_fleet.specs.Layers.{Happens}
use Rattle.nvme_fleet.specs.LayerCalls.{HappensCalling}

pub fleet_quiet_events_up : (tells : Bool) → (before after : Layers) → (k : ℕ) → (what : FleetSeen)
    → (calls : List MediumCall) → HappensCalling tells before (BringUp k) what after calls → calls ≡ []
fleet_quiet_events_up tells before after k what calls x =
    let both : Happens tells before (BringUp k) what after × (calls ≡ []) = x in both.1

pub fleet_quiet_events_placed : (tells : Bool) → (before after : Layers) → (k : ℕ) → (request : Request)
    → (what : FleetSeen) → (calls : List MediumCall) → HappensCalling tells before (Place k request) what after calls
    → calls ≡ []
fleet_quiet_events_placed tells before after k request what calls x =
    let both : Happens tells before (Place k request) what after × (calls ≡ []) = x in both.1

pub fleet_quiet_events_rung : (tells : Bool) → (before after : Layers) → (k : ℕ) → (what : FleetSeen)
    → (calls : List MediumCall) → HappensCalling tells before (Ring k) what after calls → calls ≡ []
fleet_quiet_events_rung tells before after k what calls x =
    let both : Happens tells before (Ring k) what after × (calls ≡ []) = x in both.1

pub fleet_quiet_events_fetched : (tells : Bool) → (before after : Layers) → (k : ℕ) → (q : ℕ) → (what : FleetSeen)
    → (calls : List MediumCall) → HappensCalling tells before (Fetch k q) what after calls → calls ≡ []
fleet_quiet_events_fetched tells before after k q what calls x =
    let both : Happens tells before (Fetch k q) what after × (calls ≡ []) = x in both.1

pub fleet_quiet_events_polled : (tells : Bool) → (before after : Layers) → (k : ℕ) → (what : FleetSeen)
    → (calls : List MediumCall) → HappensCalling tells before (Poll k) what after calls → calls ≡ []
fleet_quiet_events_polled tells before after k what calls x =
    let both : Happens tells before (Poll k) what after × (calls ≡ []) = x in both.1

pub fleet_quiet_events_reset : (tells : Bool) → (before after : Layers) → (k : ℕ) → (what : FleetSeen)
    → (calls : List MediumCall) → HappensCalling tells before (Reset k) what after calls → calls ≡ []
fleet_quiet_events_reset tells before after k what calls x =
    let both : Happens tells before (Reset k) what after × (calls ≡ []) = x in both.1

pub fleet_quiet_events_written : (tells : Bool) → (before after : Layers) → (k : ℕ) → (offset v : ℕ)
    → (what : FleetSeen) → (calls : List MediumCall)
    → HappensCalling tells before (RawWrite32 k offset v) what after calls → calls ≡ []
fleet_quiet_events_written tells before after k offset v what calls x =
    let both : Happens tells before (RawWrite32 k offset v) what after × (calls ≡ []) = x in both.1

pub fleet_quiet_events_cycled : (tells : Bool) → (before after : Layers) → (what : FleetSeen)
    → (calls : List MediumCall) → HappensCalling tells before PowerCycle what after calls → calls ≡ []
fleet_quiet_events_cycled tells before after what calls x =
    let both : Happens tells before PowerCycle what after × (calls ≡ []) = x in both.1

pub fleet_quiet_effects_up : (tells : Bool) → (before after : Layers) → (k : ℕ) → (what : FleetSeen)
    → (calls : List MediumCall) → HappensCalling tells before (BringUp k) what after calls
    → Happens tells before (BringUp k) what after
fleet_quiet_effects_up tells before after k what calls x =
    let both : Happens tells before (BringUp k) what after × (calls ≡ []) = x in both.0

pub fleet_quiet_effects_placed : (tells : Bool) → (before after : Layers) → (k : ℕ) → (request : Request)
    → (what : FleetSeen) → (calls : List MediumCall) → HappensCalling tells before (Place k request) what after calls
    → Happens tells before (Place k request) what after
fleet_quiet_effects_placed tells before after k request what calls x =
    let both : Happens tells before (Place k request) what after × (calls ≡ []) = x in both.0

pub fleet_quiet_effects_rung : (tells : Bool) → (before after : Layers) → (k : ℕ) → (what : FleetSeen)
    → (calls : List MediumCall) → HappensCalling tells before (Ring k) what after calls
    → Happens tells before (Ring k) what after
fleet_quiet_effects_rung tells before after k what calls x =
    let both : Happens tells before (Ring k) what after × (calls ≡ []) = x in both.0

pub fleet_quiet_effects_fetched : (tells : Bool) → (before after : Layers) → (k : ℕ) → (q : ℕ) → (what : FleetSeen)
    → (calls : List MediumCall) → HappensCalling tells before (Fetch k q) what after calls
    → Happens tells before (Fetch k q) what after
fleet_quiet_effects_fetched tells before after k q what calls x =
    let both : Happens tells before (Fetch k q) what after × (calls ≡ []) = x in both.0

pub fleet_quiet_effects_polled : (tells : Bool) → (before after : Layers) → (k : ℕ) → (what : FleetSeen)
    → (calls : List MediumCall) → HappensCalling tells before (Poll k) what after calls
    → Happens tells before (Poll k) what after
fleet_quiet_effects_polled tells before after k what calls x =
    let both : Happens tells before (Poll k) what after × (calls ≡ []) = x in both.0

pub fleet_quiet_effects_reset : (tells : Bool) → (before after : Layers) → (k : ℕ) → (what : FleetSeen)
    → (calls : List MediumCall) → HappensCalling tells before (Reset k) what after calls
    → Happens tells before (Reset k) what after
fleet_quiet_effects_reset tells before after k what calls x =
    let both : Happens tells before (Reset k) what after × (calls ≡ []) = x in both.0

pub fleet_quiet_effects_written : (tells : Bool) → (before after : Layers) → (k : ℕ) → (offset v : ℕ)
    → (what : FleetSeen) → (calls : List MediumCall)
    → HappensCalling tells before (RawWrite32 k offset v) what after calls
    → Happens tells before (RawWrite32 k offset v) what after
fleet_quiet_effects_written tells before after k offset v what calls x =
    let both : Happens tells before (RawWrite32 k offset v) what after × (calls ≡ []) = x in both.0

pub fleet_quiet_effects_cycled : (tells : Bool) → (before after : Layers) → (what : FleetSeen)
    → (calls : List MediumCall) → HappensCalling tells before PowerCycle what after calls
    → Happens tells before PowerCycle what after
fleet_quiet_effects_cycled tells before after what calls x =
    let both : Happens tells before PowerCycle what after × (calls ≡ []) = x in both.0

pub fleet_quiet_stores_calls : (tells : Bool) → (before after : Layers) → (k address : ℕ) → (what : FleetSeen)
    → (calls : List MediumCall)
    → HappensCalling tells before (RawStore k address (record { ref_ptr = (0, 0); now = 7 ∷ [] })) what after calls
    → calls ≡ []
fleet_quiet_stores_calls tells before after k address what calls x =
    let both : Happens tells before (RawStore k address (record { ref_ptr = (0, 0); now = 7 ∷ [] })) what after
    × (calls ≡ []) = x in both.1

pub fleet_quiet_stores_effect : (tells : Bool) → (before after : Layers) → (k address : ℕ) → (what : FleetSeen)
    → (calls : List MediumCall)
    → HappensCalling tells before (RawStore k address (record { ref_ptr = (0, 0); now = 7 ∷ [] })) what after calls
    → Happens tells before (RawStore k address (record { ref_ptr = (0, 0); now = 7 ∷ [] })) what after
fleet_quiet_stores_effect tells before after k address what calls x =
    let both : Happens tells before (RawStore k address (record { ref_ptr = (0, 0); now = 7 ∷ [] })) what after
    × (calls ≡ []) = x in both.0
