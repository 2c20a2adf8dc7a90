-- For the answers of `run_event` and of sessions: the effect of an event and its line depend on its bytes, not on their
-- address.
use Rattle.std.proofs.Common.{◌≡◌, ℕ, Bool, List, Option, None, Some, refl, sym, subst}
use Rattle.std.specs.Borrow.{Bor}
use Rattle.nvme_driver.specs.declared.request.Request.{Request}
use Rattle.nvme_driver.specs.declared.request.Request.TheVariants as request
use Rattle.nvme_driver.specs.declared.faults.PlaceRefusal.{PlaceRefusal}
use Rattle.nvme_event.specs.declared.event.FleetEvent.{FleetEvent}
use Rattle.nvme_event.specs.declared.event.FleetEvent.TheVariants.{Place, RawStore}
use Rattle.nvme_event.specs.Replies.{Reply}
use Rattle.nvme_mailbox.specs.Mailboxes.{Mailbox}
use Rattle.nvme_mailbox.specs.Deliveries.{MailboxReaction, placed, placed_by, refusal}
use Rattle.nvme_mailbox.specs.Fleets.{Host, WithDriver, Raw, Fleet, Moment, Is, Step, called_at, host_at}
use Rattle.nvme_spec.specs.MediumCalls.{MediumCall}
use Rattle.nvme_driver.specs.Drivers.{Driver, lane_of}
use Rattle.nvme_driver.specs.Requests.{asked_of}
use Rattle.nvme_machine.specs.declared.event.Event.TheVariants.{Store}
use Rattle.nvme_event.specs.declared.seen.FleetSeen.{FleetSeen}
use Rattle.nvme_fleet.specs.FleetStates.{Layers, fleet_in}
use Rattle.nvme_fleet.specs.LayerCalls.{AreCallsOfStep, HappensCalling}
use Rattle.nvme_fleet.specs.Layers.{AppliesRaw, driver_at}
use Rattle.nvme_fleet.proofs.LayerCalls.{placed-alike}
use Rattle.nvme_grammar.specs.Lent.{lent}
use Rattle.nvme_transcript.specs.Transcript.{line_of}
use Rattle.nvme_grammar.specs.Lent.{request_by_value, event_by_value}

-- a request is placed in the same way at whatever address its data are
placed-by_value : (m : Mailbox) (r : Request) → placed m (request_by_value r) ≡ placed m r
placed-by_value m (request.Write nsid slba bytes) = by (refusal m (request.Write nsid slba bytes))
  where
    by : (o : Option PlaceRefusal) → placed_by o m (request_by_value (request.Write nsid slba bytes))
        ≡ placed_by o m (request.Write nsid slba bytes)
    by None = refl
    by (Some why) = refl
placed-by_value m (request.Compare nsid slba bytes) = by (refusal m (request.Compare nsid slba bytes))
  where
    by : (o : Option PlaceRefusal) → placed_by o m (request_by_value (request.Compare nsid slba bytes))
        ≡ placed_by o m (request.Compare nsid slba bytes)
    by None = refl
    by (Some why) = refl
placed-by_value m (request.Attach nsid list) = by (refusal m (request.Attach nsid list))
  where
    by : (o : Option PlaceRefusal)
        → placed_by o m (request_by_value (request.Attach nsid list)) ≡ placed_by o m (request.Attach nsid list)
    by None = refl
    by (Some why) = refl
placed-by_value m (request.Detach nsid list) = by (refusal m (request.Detach nsid list))
  where
    by : (o : Option PlaceRefusal)
        → placed_by o m (request_by_value (request.Detach nsid list)) ≡ placed_by o m (request.Detach nsid list)
    by None = refl
    by (Some why) = refl
placed-by_value m r = refl

called-same : (h : Option Host) (f : Fleet) (k : ℕ) (a b : Mailbox → MailboxReaction)
    → ((m : Mailbox) → a m ≡ b m) → called_at h f k a ≡ called_at h f k b
called-same None f k a b same = refl
called-same (Some (WithDriver m)) f k a b same = rw (same m) refl
called-same (Some (Raw c)) f k a b same = refl

pub Step-by_value : (tells : Bool) (old : Fleet) (event : FleetEvent) (reply : Reply) (new : Fleet)
    → Step tells old event reply new → Step tells old (event_by_value event) reply new
Step-by_value tells old (Place k r) reply new s =
    subst (λ (x : Moment). Is x reply new) (sym (called-same (host_at old k) old k (λ m. placed m (request_by_value r))
    (λ m. placed m r) (λ m. placed-by_value m r))) s
Step-by_value tells old event reply new s = s

-- the line of an event is the same
pub line-by_value : (event : FleetEvent) (reply : Reply) → line_of (event_by_value event) reply ≡ line_of event reply
line-by_value (Place k r) reply = placed-line k r reply
  where
    placed-line : (k : ℕ) (r : Request) (reply : Reply)
        → line_of (Place k (request_by_value r)) reply ≡ line_of (Place k r) reply
    placed-line k r reply = refl
line-by_value event reply = refl

-- Its command and data are the same.
lane-by_value : (r : Request) → lane_of (request_by_value r) ≡ lane_of r
lane-by_value (request.Read nsid slba blocks) = refl
lane-by_value r = refl

asked-by_value : (r : Request) → asked_of (request_by_value r) ≡ asked_of r
asked-by_value (request.Read nsid slba blocks) = refl
asked-by_value r = refl

stored-by_value : (o : Option (Option Driver)) (tells : Bool) (old : Layers) (k address : ℕ) (bytes : Bor (List ℕ))
    (what : FleetSeen) (new : Layers)
    → AppliesRaw o tells old (Store k address bytes) what new
    → AppliesRaw o tells old (Store k address (lent bytes.now)) what new
stored-by_value None tells old k address bytes what new h = h
stored-by_value (Some None) tells old k address bytes what new h =
    record { given = h.given; step = h.step; gives = h.gives; drivers = h.drivers }
stored-by_value (Some (Some d)) tells old k address bytes what new h = h

below-by_value : (tells : Bool) (old new : Layers) (event : FleetEvent) (what : FleetSeen) (calls : List MediumCall)
    → HappensCalling tells old event what new calls → HappensCalling tells old (event_by_value event) what new calls
below-by_value tells old new (Place k r) what calls h =
    (placed-alike tells old new k r (request_by_value r) what (lane-by_value r) (asked-by_value r) h.0, h.1)
below-by_value tells old new (RawStore k address bytes) what calls h =
    (stored-by_value (driver_at old.drivers k) tells old k address bytes what new h.0, h.1)
below-by_value tells old new event what calls h = h

-- and the calls of an event
pub calls-by_value : (tells : Bool) (old new : Layers) (event : FleetEvent) (reply : Reply) (calls : List MediumCall)
    → AreCallsOfStep tells old event reply new calls → AreCallsOfStep tells old (event_by_value event) reply new calls
calls-by_value tells old new event reply calls h = record {
  mailboxes = Step-by_value tells (fleet_in old) event reply (fleet_in new) h.mailboxes;
  below = below-by_value tells old new event reply.seen calls h.below;
}
