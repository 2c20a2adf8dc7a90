-- Fencing over the wire: from the host of an event's controller to what its reservations let the event do.
use Rattle.std.proofs.Common.{
  ◌≡◌,
  inl,
  inr,
  ℕ,
  ◌+◌,
  Bool,
  IsTrue,
  true,
  false,
  List,
  [],
  Option,
  None,
  Some,
  sym,
  ap,
  subst,
  ◌∙◌,
}
use Rattle.nvme_spec.specs.declared.access.Group.{Group}
use Rattle.nvme_spec.specs.declared.access.Group.TheVariants.{Read as Reading, Write as Writing}
use Rattle.nvme_spec.specs.Commands.{altering}
use Rattle.nvme_spec.specs.IoRules.{permits_group}
use Rattle.nvme_spec.specs.Layout.{IsLaidOut, may_read, may_write}
use Rattle.nvme_spec.specs.MediumCalls.{MediumCall}
use Rattle.nvme_spec.specs.World.{World as Access, host_of, namespace_of}
use Rattle.nvme_machine.specs.declared.event.Event.{Event}
use Rattle.nvme_machine.specs.declared.event.Event.TheVariants.{Store, Write32, Read32, Fetch, Execute, PowerCycle}
use Rattle.nvme_machine.specs.declared.seen.Seen.{Seen}
use Rattle.nvme_machine.specs.EventCalls.{AreCallsOfRun, AreCallsOfStep, ExecutesNothing}
use Rattle.nvme_machine.specs.Fencing.{namespace_bytes, Allows}
use Rattle.nvme_machine.specs.Subsystems.{Subsystem, OfItsController, controller_of}
use Rattle.nvme_machine.proofs.EventCalls.{calls_are_of_a_step}
use Rattle.nvme_machine.proofs.Layouts.{only_allowed_writes_write}
use Rattle.nvme_machine.proofs.MixedRuns.{
  run-extents,
  run-laid,
  fencing_holds_of_each_event,
  secrecy_holds_of_each_event,
}
use Rattle.nvme_fabrics.specs.Runs.{Input}
use Rattle.nvme_target.specs.Causes.{
  Cause,
  Commands,
  Ending,
  Connecting,
  Proving,
  Accessing,
  LosingPower,
  connection_in,
  MayCause,
}
use Rattle.nvme_target.specs.Laws.{
  FencingHoldsOverTheWire,
  SecrecyHoldsOverTheWire,
  TargetItselfTouchesNothing,
  HostsStay,
}
use Rattle.nvme_target.proofs.Owners.{events_are_of_named_hosts}

of-it : (P : ℕ → Type 0) (event : Event) → P (controller_of event) → OfItsController P event
of-it P (Store k address bytes) h = h
of-it P (Write32 k offset v) h = h
of-it P (Read32 k offset) h = h
of-it P (Fetch k q) h = h
of-it P (Execute k i) h = h
of-it P PowerCycle h = tt

-- a controller's permission is that of its host
of-host : (w : Access) (k n host : ℕ) (group : Group) → host_of w k ≡ Some host
    → permits_group (namespace_of w n) (Some host) group ≡ false
    → permits_group (namespace_of w n) (host_of w k) group ≡ false
of-host w k n host group is denied = ap (λ h. permits_group (namespace_of w n) h group) is ∙ denied

not-written : (w : Access) (k n host : ℕ) → host_of w k ≡ Some host
    → permits_group (namespace_of w n) (Some host) Writing ≡ false → may_write w k n ≡ false
unfolding may_write
not-written w k n host is denied = of-host w k n host Writing is denied

not-read : (w : Access) (k n host : ℕ) → host_of w k ≡ Some host
    → permits_group (namespace_of w n) (Some host) Reading ≡ false → may_read w k n ≡ false
unfolding may_read
not-read w k n host is denied = of-host w k n host Reading is denied

pub hosts_stay : HostsStay
hosts_stay tells hosts old new front later event seen calls cut same index =
    same index ∙ sym ((run-extents tells old cut.now front cut.given cut.before cut.first).hosts (index + 1))

pub fencing_holds_over_the_wire : FencingHoldsOverTheWire
fencing_holds_over_the_wire hosts has_keys inputs cause event k n tells old new front later seen calls same cut of_k
    may =
    let there = hosts_stay tells hosts old new front later event seen calls cut same in
    let found = events_are_of_named_hosts hosts has_keys inputs cause event k cut.now.world there of_k may in (
      found,
      λ fenced. fencing_holds_of_each_event tells old new front later event seen calls n cut
          (of-it (λ k. may_write cut.now.world k n ≡ false) event
          (not-written cut.now.world (controller_of event) n found.host found.is fenced)),
    )

pub secrecy_holds_over_the_wire : SecrecyHoldsOverTheWire
secrecy_holds_over_the_wire hosts has_keys inputs cause event k n old new front later seen calls medium same laid cut
    of_k may =
    let there = hosts_stay true hosts old new front later event seen calls cut same in
    let found = events_are_of_named_hosts hosts has_keys inputs cause event k cut.now.world there of_k may in (
      found,
      λ fenced differ. secrecy_holds_of_each_event old new front later event seen calls n medium laid cut
          (of-it (λ k. may_read cut.now.world k n ≡ false) event
          (not-read cut.now.world (controller_of event) n found.host found.is fenced)) differ,
    )

-- What the target does itself.

allows-nothing : (s : Subsystem) (event : Event) (n : ℕ) → ExecutesNothing event → Allows altering s event n → ⊥
allows-nothing s (Store k address bytes) n h x = x
allows-nothing s (Write32 k offset v) n h x = x
allows-nothing s (Read32 k offset) n h x = x
allows-nothing s (Fetch k q) n h x = x
allows-nothing s (Execute k i) n h x = h
allows-nothing s PowerCycle n h x = x

calls-nothing : (tells : Bool) (now next : Subsystem) (event : Event) (gives : Seen) (own : List MediumCall)
    → ExecutesNothing event → AreCallsOfStep tells now event gives next own → own ≡ []
calls-nothing tells now next (Store k address bytes) gives own h step = step.1
calls-nothing tells now next (Write32 k offset v) gives own h step = step.1
calls-nothing tells now next (Read32 k offset) gives own h step = step.1
calls-nothing tells now next (Fetch k q) gives own h step = step.1
calls-nothing tells now next (Execute k i) gives own h step = absurd h
calls-nothing tells now next PowerCycle gives own h step = step.2

keeps-bytes : (tells : Bool) (n : ℕ) (old now next : Subsystem) (front : List Event) (event : Event) (given : List Seen)
    (gives : Seen) (before own : List MediumCall) → ExecutesNothing event
    → AreCallsOfRun tells old front given now before → AreCallsOfStep tells now event gives next own
    → IsTrue tells → IsLaidOut old.world old.device.content → namespace_bytes next n ≡ namespace_bytes now n
keeps-bytes true n old now next front event given gives before own quiet run step told laid =
    elim (only_allowed_writes_write now next event gives n (run-laid old now front given before run laid)
    (calls_are_of_a_step true now next event gives own step)) [
      | inl same ↦ same
      | inr x ↦ absurd (allows-nothing now event n quiet x)
    ]
keeps-bytes false n old now next front event given gives before own quiet run step told laid = absurd (cc)

quiet-cause : (hosts : List (Option ℕ)) (has_keys : Bool) (inputs : List Input) (cause : Cause) (event : Event)
    → connection_in cause ≡ None → MayCause hosts has_keys inputs cause event → ExecutesNothing event
quiet-cause hosts has_keys inputs (Commands k) event none may = absurd (cc)
quiet-cause hosts has_keys inputs (Ending k) event none may = absurd (cc)
quiet-cause hosts has_keys inputs (Connecting k e d j) event none may = absurd (cc)
quiet-cause hosts has_keys inputs (Proving k is_enabled) event none may = absurd (cc)
quiet-cause hosts has_keys inputs (Accessing index) event none (inl write) = subst ExecutesNothing (sym write.2) tt
quiet-cause hosts has_keys inputs (Accessing index) event none (inr read) = subst ExecutesNothing (sym read.1) tt
quiet-cause hosts has_keys inputs LosingPower event none may = subst ExecutesNothing (sym may) tt

pub target_itself_touches_nothing : TargetItselfTouchesNothing
target_itself_touches_nothing hosts has_keys inputs cause event n tells old new front later seen calls cut none may =
    let quiet = quiet-cause hosts has_keys inputs cause event none may in record {
      bytes = keeps-bytes tells n old cut.now cut.next front event cut.given cut.gives cut.before cut.own quiet
          cut.first cut.then_this;
      silent = calls-nothing tells cut.now cut.next event cut.gives cut.own quiet cut.then_this;
    }
