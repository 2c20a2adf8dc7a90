-- For `capsules_differ`: outcomes and destinations are read back.
use Rattle.std.proofs.Common.{◌≡◌, refl, sym, ap, ◌∙◌}
use Rattle.std.specs.Prelude.{◌==◌, if◌then◌else◌}
use Rattle.nvme_fabrics.specs.declared.session.Session.TheVariants as session
use Rattle.nvme_capsules.specs.declared.destination.Destination.{Destination}
use Rattle.nvme_capsules.specs.declared.destination.Destination.TheVariants as destination_of
use Rattle.nvme_capsules.specs.declared.outcome.Data.TheVariants as data_of
use Rattle.nvme_capsules.specs.declared.outcome.Outcome.{Outcome}
use Rattle.nvme_capsules.specs.declared.outcome.Outcome.TheVariants as outcome
use Rattle.nvme_tcp_library.specs.declared.capsules.CapsuleTaken.{CapsuleTaken}
use Rattle.nvme_tcp_library.specs.declared.capsules.DestinationSeen.{DestinationSeen}
use Rattle.nvme_tcp_library.specs.Capsules.{destination_seen, outcome_seen}
use Rattle.nvme_tcp_library.specs.Laws.{DestinationsDiffer, LiveSessionsServe, OutcomesDiffer}

outcome_read : CapsuleTaken → Outcome
outcome_read t =
    if t.what == 40 then outcome.Breaks (record { status = t.fatal; field = t.field })
    else (if t.outcome == 1 then outcome.Refused (record { sct = t.sct; sc = t.sc })
    else (if t.outcome == 2 then outcome.Waits t.length
    else (if t.outcome == 3 then outcome.Ready (data_of.InCapsule t.begin t.length)
    else outcome.Ready (data_of.FromController t.length))))

outcomes-read : (o : Outcome) → outcome_read (outcome_seen o) ≡ o
unfolding outcome_read
outcomes-read (outcome.Breaks fatal) = refl
outcomes-read (outcome.Refused status) = refl
outcomes-read (outcome.Waits bytes) = refl
outcomes-read (outcome.Ready (data_of.InCapsule begin bytes)) = refl
outcomes-read (outcome.Ready (data_of.FromController bytes)) = refl

pub outcomes-differ : OutcomesDiffer
outcomes-differ one other e = sym (outcomes-read one) ∙ ap outcome_read e ∙ outcomes-read other

destination_read : DestinationSeen → Destination
destination_read d =
    if d.kind == 0 then destination_of.Fabrics
    else (if d.kind == 1 then destination_of.Discovery
    else (if d.kind == 2 then destination_of.Admin d.index
    else (if d.kind == 3 then destination_of.Io d.index d.qid
    else destination_of.Refused (record { sct = d.sct; sc = d.sc }))))

destinations-read : (d : Destination) → destination_read (destination_seen d) ≡ d
unfolding destination_read
destinations-read destination_of.Fabrics = refl
destinations-read destination_of.Discovery = refl
destinations-read (destination_of.Admin index) = refl
destinations-read (destination_of.Io index qid) = refl
destinations-read (destination_of.Refused status) = refl

pub destinations-differ : DestinationsDiffer
destinations-differ one other e = sym (destinations-read one) ∙ ap destination_read e ∙ destinations-read other

pub live-sessions-serve : LiveSessionsServe
live-sessions-serve session.NotConnected e has_queue = refl
live-sessions-serve (session.Authenticating r index) e has_queue = refl
live-sessions-serve (session.Queue index qid) e has_queue = refl
live-sessions-serve session.Discovery e has_queue = refl
live-sessions-serve session.Ended e has_queue = refl
