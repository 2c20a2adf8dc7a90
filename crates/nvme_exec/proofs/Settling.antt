-- For the answers of `act` and `act_on_reservation`: the outcome of a reservation command for its reservation.
use Rattle.std.proofs.Common.{◌≡◌, ℕ, ◌≤◌, List, length, Result, Option, Some, None, Ok, Err, refl, ap, ◌∙◌}
use Rattle.std.specs.Prelude.{option_map}
use Rattle.nvme_wire.specs.declared.status.Status.{Status}
use Rattle.nvme_spec.specs.declared.command.Command.{Command}
use Rattle.nvme_spec.specs.Reservation as resv
use Rattle.nvme_spec.specs.World.{World, Namespace, host_of, namespace_of, with_reservation}
use Rattle.nvme_spec.specs.IoData.{action_outcome, outcome_in}
use Rattle.nvme_spec.specs.Execution.{HasKnownRegistrants, world_after}
use Rattle.nvme_spec.proofs.Hosts.{room}
use Rattle.nvme_spec.proofs.Worlds.{same-reservation, of_named, host-known}
use Rattle.nvme_resv.specs.declared.change.Change.{Change}
use Rattle.nvme_resv.specs.Answers.{HasRoomFor}
use Rattle.nvme_exec.specs.Carrying.{FollowsSome, Settles, Removes}

settles : (outcome : Option resv.ActionOutcome) (w : World) (n : ℕ) (space : Namespace) (result : Result Change Status)
    (next : resv.Reservation) → namespace_of w n ≡ Some space
    → FollowsSome outcome space.reservation result next → Settles outcome n w result (with_reservation w n next)
settles None w n space result next found a = absurd a
settles (Some (Ok new)) w n space result next found a = (a.0, ap (with_reservation w n) a.1)
settles (Some (Err refusal)) w n space result next found a =
    (a.0, ap (with_reservation w n) a.1 ∙ same-reservation w n space found)

settles-at : (command : Command) (w : World) (n host : ℕ) (e keys : List ℕ) (r next : resv.Reservation)
    (result : Result Change Status) (found : Option Namespace) → namespace_of w n ≡ found
    → option_map (λ (n : Namespace). n.reservation) found ≡ Some r
    → FollowsSome (action_outcome command r host e keys) r result next
    → Settles (outcome_in (Some command) found (Some host) e keys) n w result (with_reservation w n next)
settles-at command w n host e keys r next result None is named a = absurd (cc)
settles-at command w n host e keys r next result (Some space) is named a =
    let same : r ≡ space.reservation = cc in
    settles (action_outcome command space.reservation host e keys) w n space result next is (rw same at a)

-- a command of this kind, on the namespace whose reservation was borrowed
pub settles-for : (command kind : Command) (w : World) (m n host : ℕ) (e keys : List ℕ) (r next : resv.Reservation)
    (result : Result Change Status) → kind ≡ command → m ≡ n
    → option_map (λ (n : Namespace). n.reservation) (namespace_of w m) ≡ Some r
    → FollowsSome (action_outcome command r host e keys) r result next
    → Settles (outcome_in (Some kind) (namespace_of w n) (Some host) e keys) n w result (with_reservation w m next)
settles-for command kind w m n host e keys r next result k is named a =
    let here = rw is at named in
    rw (k, is) (settles-at command w n host e keys r next result (namespace_of w n) refl here a)

room-at : (w : World) (cntlid host n : ℕ) (r : resv.Reservation) (found : Option Namespace)
    → namespace_of w n ≡ found → option_map (λ (n : Namespace). n.reservation) found ≡ Some r
    → host_of w cntlid ≡ Some host → length w.controllers ≤ 16 → resv.IsRising r.registrants → HasKnownRegistrants w
    → HasRoomFor r host
room-at w cntlid host n r None is named configured few rising known = absurd (cc)
room-at w cntlid host n r (Some space) is named configured few rising known =
    let same : space.reservation ≡ r = cc in
    let all = of_named _ w n space known is in
    room w.controllers r.registrants host rising (rw same at all) (host-known w cntlid host configured) few

-- the host of a controller has room if all registrants are such hosts
pub room-for : (w : World) (cntlid host n : ℕ) (r : resv.Reservation)
    → option_map (λ (n : Namespace). n.reservation) (namespace_of w n) ≡ Some r
    → host_of w cntlid ≡ Some host → length w.controllers ≤ 16 → resv.IsRising r.registrants → HasKnownRegistrants w
    → HasRoomFor r host
room-for w cntlid host n r named configured few rising known =
    room-at w cntlid host n r (namespace_of w n) refl named configured few rising known

-- the removed hosts, the refusal, and the world after it

removed-by : (outcome : Option resv.ActionOutcome) (n : ℕ) (w new : World) (change : Change)
    → Settles outcome n w (Ok change) new → Removes outcome change.removed.items
removed-by None n w new change s = s
removed-by (Some (Ok t)) n w new change s =
    let same : change ≡ record { removed = record { items = t.removed } } = cc (s.0) in
    ap (λ (c : Change). c.removed.items) same
removed-by (Some (Err why)) n w new change s = absurd (cc (s.0))

pub removed : (outcome other : Option resv.ActionOutcome) (n : ℕ) (w new : World) (result : Result Change Status)
    (change : Change) → outcome ≡ other → result ≡ Ok change
    → Settles other n w result new → Removes outcome change.removed.items
removed outcome other n w new result change is done s = rw is (removed-by other n w new change (rw done at s))

refused-by : (outcome : Option resv.ActionOutcome) (n : ℕ) (w new : World) (why : Status)
    → Settles outcome n w (Err why) new → outcome ≡ Some (Err why)
refused-by None n w new why s = absurd s
refused-by (Some (Ok t)) n w new why s = absurd (cc (s.0))
refused-by (Some (Err reason)) n w new why s = let same : why ≡ reason = cc (s.0) in rw same refl

pub refused : (outcome other : Option resv.ActionOutcome) (n : ℕ) (w new : World) (result : Result Change Status)
    (why : Status) → outcome ≡ other → result ≡ Err why
    → Settles other n w result new → outcome ≡ Some (Err why)
refused outcome other n w new result why is done s = is ∙ refused-by other n w new why (rw done at s)

left-by : (outcome : Option resv.ActionOutcome) (n : ℕ) (w new : World) (result : Result Change Status)
    → Settles outcome n w result new → new ≡ world_after w n outcome
left-by None n w new result s = absurd s
left-by (Some (Ok t)) n w new result s = s.1
left-by (Some (Err why)) n w new result s = s.1

pub left : (outcome other : Option resv.ActionOutcome) (n : ℕ) (w new : World) (result : Result Change Status)
    → outcome ≡ other → Settles other n w result new → new ≡ world_after w n outcome
left outcome other n w new result is s = rw is (left-by other n w new result s)
