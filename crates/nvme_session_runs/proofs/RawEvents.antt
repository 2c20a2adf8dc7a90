-- For the example runs of sessions: the events of a fleet of one raw host, in both layers. None of them makes a call of
-- the medium.
use Rattle.std.proofs.Common.{◌≡◌, ◌∙◌, ℕ, true, false, List, [], ◌∷◌, None, Some, refl, sym, ap, subst}
use Rattle.std.specs.Prelude.{if◌then◌else◌, slice_get}
use Rattle.std.specs.Borrow.{Bor}
use Rattle.nvme_spec.specs.declared.outcome.Marks.{Marks}
use Rattle.nvme_spec.specs.Blocks.{Device}
use Rattle.nvme_spec.specs.Execution.{Scene, no_marks}
use Rattle.nvme_spec.specs.Power.{cycled_world}
use Rattle.nvme_spec.specs.World.{World, host_of}
use Rattle.nvme_machine.specs.declared.fetched.FetchedCommand.{FetchedCommand}
use Rattle.nvme_machine.specs.declared.seen.Executed.TheVariants.{Posted}
use Rattle.nvme_machine.specs.declared.seen.Fetched.{Fetched}
use Rattle.nvme_machine.specs.declared.seen.Seen.TheVariants as below
use Rattle.nvme_machine.specs.Calling.{AreCallsOfExecution}
use Rattle.nvme_machine.specs.CommandExecutions.{CommandComesTo, CommandExecution}
use Rattle.nvme_machine.specs.Controllers.{
  Controller,
  QueuePair,
  after_fetch,
  after_store,
  after_write32,
  open_pair,
  power_cycled,
  queues_of,
}
use Rattle.nvme_machine.specs.EventCalls.{CallingOne, CallingOver, CompletesCalling}
use Rattle.nvme_machine.specs.Executing.{Finishes, FinishesOne, FinishesOver, Setting, setting}
use Rattle.nvme_machine.specs.Subsystems as machine
use Rattle.nvme_machine.specs.Subsystems.{
  Completes,
  Subsystem,
  after_completion,
  after_execution,
  after_power_cycle,
  controller_at,
  with_controller,
}
use Rattle.nvme_machine.proofs.Denials.{not_one, unmarked}
use Rattle.nvme_event.specs.declared.event.FleetEvent.{FleetEvent}
use Rattle.nvme_event.specs.declared.event.FleetEvent.TheVariants.{
  Execute,
  Fetch,
  PowerCycle,
  RawStore,
  RawWrite32,
  Ring,
}
use Rattle.nvme_event.specs.declared.seen.FleetSeen.TheVariants as seen
use Rattle.nvme_event.specs.Replies.{Reply}
use Rattle.nvme_mailbox.specs.Deliveries.{plain}
use Rattle.nvme_mailbox.specs.Fleets as fleets
use Rattle.nvme_mailbox.specs.Fleets.{
  ExecutesRaw,
  Fleet,
  Host,
  Raw,
  host_at,
  marked,
  marked_from,
  raw_fetch,
  settled,
  site_of,
  stored_seen,
  with_host,
}
use Rattle.nvme_fleet.specs.FleetStates.{Layers, fleet_in}
use Rattle.nvme_fleet.specs.LayerCalls.{AreCallsOfStep}

-- a subsystem of one controller, and its raw host
abbrev pub alone : World → Device → Controller → Layers
alone w d c = record {
  subsystem = record { world = w; device = d; controllers = c ∷ [] };
  drivers = None ∷ [];
}

-- an event, without a call of the medium
abbrev pub Goes : Layers → FleetEvent → Reply → Layers → Type 0
Goes old event reply new = AreCallsOfStep true old event reply new []

pub writes : (w : World) (d : Device) (c : Controller) (offset v : ℕ)
    → Goes (alone w d c) (RawWrite32 1 offset v) (plain seen.Wrote) (alone w d (after_write32 offset v c))
unfolding fleet_in host_at with_host controller_at with_controller
writes w d c offset v = record {
  mailboxes = (refl, refl);
  below = (record { given = below.Wrote; step = (refl, refl); gives = refl; drivers = refl }, refl);
}

pub stores : (w : World) (d : Device) (c : Controller) (address : ℕ) (bytes : Bor (List ℕ))
    → stored_seen address bytes.now ≡ seen.Stored → (after_store address bytes.now c).seen ≡ below.Stored
    → Goes (alone w d c) (RawStore 1 address bytes) (plain seen.Stored)
    (alone w d (after_store address bytes.now c).controller)
unfolding fleet_in host_at with_host controller_at with_controller
stores w d c address bytes fits stored = record {
  mailboxes = (ap plain (sym fits), refl);
  below = (record { given = below.Stored; step = (sym stored, refl); gives = refl; drivers = refl }, refl);
}

pub fetches : (w : World) (d : Device) (c : Controller) (q : ℕ) (what : Fetched)
    → raw_fetch c q ≡ what → (after_fetch q c).seen ≡ below.Fetched what
    → Goes (alone w d c) (Fetch 1 q) (plain (seen.Fetched what)) (alone w d (after_fetch q c).controller)
unfolding fleet_in host_at with_host controller_at with_controller
fetches w d c q what takes fetched = record {
  mailboxes = (ap (λ x. plain (seen.Fetched x)) (sym takes), refl);
  below = (record { given = below.Fetched what; step = (sym fetched, refl); gives = refl; drivers = refl }, refl);
}

pub rings : (w : World) (d : Device) (c : Controller)
    → Goes (alone w d c) (Ring 1) (plain seen.NoDriver) (alone w d c)
unfolding fleet_in host_at
rings w d c = record { mailboxes = (refl, refl); below = ((None, refl, (refl, refl, refl)), refl) }

pub cycles : (w : World) (d : Device) (c : Controller)
    → Goes (alone w d c) PowerCycle (plain seen.Cycled) (alone (cycled_world w) d (power_cycled c))
unfolding fleet_in fleets.power_cycled after_power_cycle
cycles w d c = record {
  mailboxes = (refl, refl);
  below = (
    record {
      gives = refl;
      ran = (below.Cycled ∷ [], ((alone (cycled_world w) d (power_cycled c)).subsystem, (refl, refl), refl));
      cycled = refl;
      drivers = refl;
    },
    refl,
  );
}

-- Without marks the host stays.
one-host : (w : World) (m : Marks) (h : Host) → m ≡ no_marks → marked_from w m 1 (h ∷ []) ≡ h ∷ []
one-host w m h none =
    ap (λ x. marked_from w x 1 (h ∷ [])) none
    ∙ ap (λ b. (if b then marked 0 h else h) ∷ []) (not_one (host_of w 1))

one-controller : (w : World) (m : Marks) (c : Controller)
    → m ≡ no_marks → machine.marked_from w m 1 (c ∷ []) ≡ c ∷ []
one-controller w m c none = ap (λ x. machine.marked_from w x 1 (c ∷ [])) none ∙ unmarked w 1 (c ∷ [])

-- An admin command that marks nothing is executed.
pub executes : (w : World) (d : Device) (c : Controller) (entry : List ℕ) (p : QueuePair) (a : CommandExecution)
    → slice_get c.fetched 0 ≡ Some (record { entry = entry; queue = 0; marked = false })
    → open_pair c (record { entry = entry; queue = 0; marked = false }) ≡ Some p → c.cntlid ≡ 1
    → a.outcome.marks ≡ no_marks
    → CommandComesTo true (queues_of c) 1 (record { entry = entry; queue = 0; marked = false })
    (record { world = w; window = c.window; device = d }) a
    → Goes (alone w d c) (Execute 1 0) (plain (seen.Executed (Posted a.outcome)))
    (alone a.left.world a.left.device
    (after_completion 0 (record { entry = entry; queue = 0; marked = false }) p a c))
unfolding fleet_in host_at settled controller_at after_execution AreCallsOfExecution
executes w d c entry p a found opens named none comes =
    let t : FetchedCommand = record { entry = entry; queue = 0; marked = false } in
    let next : Controller = after_completion 0 t p a c in
    let old : Layers = alone w d c in
    let new : Layers = alone a.left.world a.left.device next in
    let left : Setting = setting next a.left.world a.left.device in
    let scene : Scene = record { world = w; window = c.window; device = d } in
    let finishes : Finishes true 0 t p (setting c w d) (Posted a.outcome) left = record {
      execution = a;
      comes_to = subst (λ k. CommandComesTo true (queues_of c) k t scene a) (sym named) comes;
      gives = refl;
      controller = refl;
      world = refl;
      device = refl;
    } in
    let hosts = ap (λ hs. (let f : Fleet = record { site = site_of left; hosts = hs } in f))
    (sym (one-host a.left.world a.outcome.marks (Raw next) none)) in
    let raw : ExecutesRaw true (fleet_in old) 1 c 0 (plain (seen.Executed (Posted a.outcome))) (fleet_in new) = record {
      executed = Posted a.outcome;
      left = left;
      executes = subst (λ o. FinishesOne o true 0 (setting c w d) (Posted a.outcome) left) (sym found)
          (subst (λ o. FinishesOver o true 0 t (setting c w d) (Posted a.outcome) left) (sym opens) finishes);
      gives = refl;
      leaves = hosts;
    } in
    let completes : Completes true old.subsystem 1 c 0 t p (below.Executed (Posted a.outcome)) new.subsystem = record {
      execution = a;
      comes_to = comes;
      gives = refl;
      leaves = ap
          (λ cs. (let s : Subsystem = record { world = a.left.world; device = a.left.device; controllers = cs } in s))
          (sym (one-controller a.left.world a.outcome.marks next none));
    } in
    let calls : CompletesCalling true old.subsystem 1 c 0 t p (below.Executed (Posted a.outcome)) new.subsystem [] =
    record { completes = completes; are = refl } in
    record {
      mailboxes = raw;
      below = record {
        given = below.Executed (Posted a.outcome);
        step = subst (λ o. CallingOne o true old.subsystem 1 c 0 (below.Executed (Posted a.outcome)) new.subsystem [])
            (sym found) (subst (λ o. CallingOver o true old.subsystem 1 c 0 t (below.Executed (Posted a.outcome))
            new.subsystem []) (sym opens) calls);
        gives = refl;
        drivers = refl;
      };
    }
