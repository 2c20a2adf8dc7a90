-- For `own_queue`: the destination of a command is the queue that its connection is.
use Rattle.std.proofs.Common.{◌≡◌, ℕ, Bool, true, false, cond, List, refl, ap, subst}
use Rattle.std.specs.Prelude.{◌==◌, ◌≢◌}
use Rattle.std.proofs.lemmas.Bool.{eqb-false, eqb-true}
use Rattle.nvme_fabrics.specs.declared.session.Session.{Session}
use Rattle.nvme_fabrics.specs.declared.session.Session.TheVariants as session
use Rattle.nvme_capsules.specs.declared.destination.Destination.{Destination}
use Rattle.nvme_capsules.specs.declared.destination.Destination.TheVariants as destination_of
use Rattle.nvme_capsules.specs.DataPlaces.{is_fabrics}
use Rattle.nvme_capsules.specs.Destinations.{destination, within}
use Rattle.nvme_capsules.specs.Laws.{AdminQueueIsOwn, IoQueueIsOwn}

-- a destination that is a queue is this one
abbrev pub IsQueue : Session → Destination → Type 0
IsQueue live destination_of.Fabrics = Unit {0}
IsQueue live destination_of.Discovery = Unit {0}
IsQueue live (destination_of.Admin index) = live ≡ session.Queue index 0
IsQueue live (destination_of.Io index qid) = (live ≡ session.Queue index qid) × (qid ≢ 0)
IsQueue live (destination_of.Refused status) = Unit {0}

in-queue : (index qid : ℕ) (b : Bool) → (qid == 0) ≡ b
    → IsQueue (session.Queue index qid) (cond b (destination_of.Admin index) (destination_of.Io index qid))
in-queue index qid true e = ap (session.Queue index) (eqb-true qid 0 e)
in-queue index qid false e = (refl, eqb-false qid 0 e)

in-session : (live : Session) (has_queue : Bool) → IsQueue live (within live has_queue)
in-session session.NotConnected has_queue = tt
in-session (session.Authenticating r index) has_queue = tt
in-session (session.Queue index qid) true = in-queue index qid (qid == 0) refl
in-session (session.Queue index qid) false = tt
in-session session.Discovery has_queue = tt
in-session session.Ended has_queue = tt

pub is-queue : (live : Session) (e : List ℕ) (has_queue : Bool) → IsQueue live (destination live e has_queue)
is-queue live e has_queue = by (is_fabrics e) where
  by : (b : Bool) → IsQueue live (cond b destination_of.Fabrics (within live has_queue))
  by true = tt
  by false = in-session live has_queue

pub admin-queue-is-own : AdminQueueIsOwn
admin-queue-is-own live e has_queue index is = subst (IsQueue live) is (is-queue live e has_queue)

pub io-queue-is-own : IoQueueIsOwn
io-queue-is-own live e has_queue index qid is = subst (IsQueue live) is (is-queue live e has_queue)
