-- For the example runs of drivers: the events of a fleet of two hosts with drivers, in both layers. The first host's
-- events are those here, and a power cycle.
use Rattle.std.proofs.Common.{◌≡◌, ℕ, true, List, [], ◌∷◌, Some, Ok, refl, sym, ap}
use Rattle.nvme_spec.specs.Blocks.{Device}
use Rattle.nvme_spec.specs.Power.{cycled_world}
use Rattle.nvme_spec.specs.World.{World}
use Rattle.nvme_driver.specs.declared.answer.Answer.TheVariants.{Aborted}
use Rattle.nvme_driver.specs.declared.request.Request.{Request}
use Rattle.nvme_driver.specs.declared.state.State.TheVariants.{Up}
use Rattle.nvme_driver.specs.Calls.{Call, Loads, Reads, Sees, Stores, Turns, Writes}
use Rattle.nvme_driver.specs.Drivers.{
  Driver,
  after_reset,
  free_slot,
  placed,
  reset_calls,
  ring_calls,
  stores_of,
}
use Rattle.nvme_driver.specs.Polls.{IsOldest, aborted_at, freed, ticket_of}
use Rattle.nvme_driver.specs.Rises.{Rises}
use Rattle.nvme_machine.specs.declared.seen.Fetched.{Fetched}
use Rattle.nvme_machine.specs.declared.seen.Seen.TheVariants as below
use Rattle.nvme_machine.specs.Controllers.{Controller, after_fetch, after_store, after_write32, power_cycled}
use Rattle.nvme_machine.specs.Subsystems.{Subsystem, after_power_cycle, controller_at, with_controller}
use Rattle.nvme_event.specs.declared.event.FleetEvent.TheVariants.{
  BringUp,
  Fetch,
  Place,
  Poll,
  PowerCycle,
  Reset,
  Ring,
}
use Rattle.nvme_event.specs.declared.seen.FleetSeen.TheVariants as seen
use Rattle.nvme_event.specs.Replies.{Reply}
use Rattle.nvme_mailbox.specs.Deliveries as mail
use Rattle.nvme_mailbox.specs.Deliveries.{plain}
use Rattle.nvme_mailbox.specs.Fleets as fleets
use Rattle.nvme_mailbox.specs.Fleets.{Fleet, Is, WithDriver, delivered, host_at, raw_fetch, with_host}
use Rattle.nvme_refinement.specs.Sound.{Sound, mailbox}
use Rattle.nvme_refinement.specs.Steps.{IsStep, after_calls}
use Rattle.nvme_fleet.specs.DriverEvents.{CallStep, Ran, events_of_calls}
use Rattle.nvme_fleet.specs.FleetStates.{Layers, fleet_in}
use Rattle.nvme_fleet.specs.Layers.{Step}
use Rattle.nvme_fleet.proofs.PowerStep.{are-cycled, are-reset, resets-ran}

-- a subsystem of two controllers, and their hosts' drivers
abbrev pub under : World → Device → Controller → Controller → Subsystem
under w v x c = record { world = w; device = v; controllers = c ∷ x ∷ [] }

abbrev pub two : World → Device → Driver → Controller → Driver → Controller → Layers
two w v e x d c = record { subsystem = under w v x c; drivers = Some d ∷ Some e ∷ [] }

-- Stores and register writes of controller 1.
abbrev pub AreWrites : List Call → Type 0
AreWrites [] = Unit {0}
AreWrites (Stores address bytes ∷ calls) = AreWrites calls
AreWrites (Writes offset v ∷ calls) = AreWrites calls
AreWrites (Reads offset v ∷ calls) = ⊥
AreWrites (Turns ∷ calls) = ⊥
AreWrites (Sees lane head expected seen ∷ calls) = ⊥
AreWrites (Loads at part ∷ calls) = ⊥

pub ran-calls : (w : World) (v : Device) (x : Controller) (calls : List Call) (c : Controller) → AreWrites calls
    → Ran true (under w v x c) (events_of_calls 1 calls) (under w v x (after_calls calls c))
unfolding controller_at with_controller
ran-calls w v x [] c h = ([], refl)
ran-calls w v x (Stores address bytes ∷ calls) c h =
    let next = (after_store address bytes c).controller in
    let later = ran-calls w v x calls next h in
    ((after_store address bytes c).seen ∷ later.0, (under w v x next, (refl, refl), later.1))
ran-calls w v x (Writes offset n ∷ calls) c h =
    let next = after_write32 offset n c in
    let later = ran-calls w v x calls next h in
    (below.Wrote ∷ later.0, (under w v x next, (refl, refl), later.1))
ran-calls w v x (Reads offset n ∷ calls) c h = absurd h
ran-calls w v x (Turns ∷ calls) c h = absurd h
ran-calls w v x (Sees lane head expected seen ∷ calls) c h = absurd h
ran-calls w v x (Loads at part ∷ calls) c h = absurd h

-- A call of the first driver, in the mailboxes.
delivers : (w : World) (v : Device) (e : Driver) (x : Controller) (d d' : Driver) (c c' : Controller)
    (r : mail.MailboxReaction) (reply : Reply) → r.mailbox ≡ mailbox d' c' → r.reply ≡ reply
    → Is (delivered (fleet_in (two w v e x d c)) 1 r) reply (fleet_in (two w v e x d' c'))
unfolding fleet_in with_host
delivers w v e x d d' c c' r reply same gives = (
  sym gives,
  ap (λ m. (let f : Fleet = record {
    site = record { world = w; device = v };
    hosts = WithDriver m ∷ WithDriver (mailbox e x) ∷ [];
  } in f)) (sym same),
)

pub rises : (w : World) (v : Device) (e : Driver) (x : Controller) (d d' : Driver) (c c' : Controller)
    → Rises (CallStep true 1) d (under w v x c) (Ok tt) d' (under w v x c')
    → IsStep (mail.brought_up (mailbox d c)) d' c' (plain (seen.Up (Ok tt)))
    → Step true (two w v e x d c) (BringUp 1) (plain (seen.Up (Ok tt))) (two w v e x d' c')
unfolding fleet_in host_at
rises w v e x d d' c c' comes s = record {
  mailboxes = delivers w v e x d d' c c' (mail.brought_up (mailbox d c)) (plain (seen.Up (Ok tt))) s.mail s.gives;
  below = (Some d', refl, (d', refl, (Ok tt, refl, comes)));
}

pub places : (w : World) (v : Device) (e : Driver) (x : Controller) (d : Driver) (c : Controller) (request : Request)
    (slot : ℕ) → free_slot d ≡ Some slot
    → IsStep (mail.placed (mailbox d c) request) (placed d request slot) (after_calls (stores_of d request slot) c)
    (plain (seen.Placed (Ok (record { 0 = d.next }))))
    → Step true (two w v e x d c) (Place 1 request) (plain (seen.Placed (Ok (record { 0 = d.next }))))
    (two w v e x (placed d request slot) (after_calls (stores_of d request slot) c))
unfolding fleet_in host_at
places w v e x d c request slot free s = record {
  mailboxes = delivers w v e x d (placed d request slot) c (after_calls (stores_of d request slot) c)
      (mail.placed (mailbox d c) request) (plain (seen.Placed (Ok (record { 0 = d.next })))) s.mail s.gives;
  below = (
    Some (placed d request slot),
    refl,
    (
      placed d request slot,
      refl,
      (
        Ok (record { 0 = d.next }),
        refl,
        (slot, free, refl, ran-calls w v x (stores_of d request slot) c tt),
      ),
    ),
  );
}

pub rings : (w : World) (v : Device) (e : Driver) (x : Controller) (d : Driver) (c : Controller)
    → IsStep (mail.rung (mailbox (record d { state = Up }) c)) (record d { state = Up })
    (after_calls (ring_calls (record d { state = Up })) c) (plain (seen.Rung (Ok tt)))
    → Step true (two w v e x (record d { state = Up }) c) (Ring 1) (plain (seen.Rung (Ok tt)))
    (two w v e x (record d { state = Up }) (after_calls (ring_calls (record d { state = Up })) c))
unfolding fleet_in host_at
rings w v e x d c s =
    let up : Driver = record d { state = Up } in
    record {
      mailboxes = delivers w v e x up up c (after_calls (ring_calls up) c) (mail.rung (mailbox up c))
          (plain (seen.Rung (Ok tt))) s.mail s.gives;
      below = (Some up, refl, (up, refl, (Ok tt, refl, (refl, ran-calls w v x (ring_calls up) c tt))));
    }

pub fetches : (w : World) (v : Device) (e : Driver) (x : Controller) (d : Driver) (c : Controller) (q : ℕ)
    (what : Fetched) → (after_fetch q c).seen ≡ below.Fetched what
    → IsStep (mail.fetched q (mailbox d c)) d (after_fetch q c).controller (plain (seen.Fetched what))
    → Step true (two w v e x d c) (Fetch 1 q) (plain (seen.Fetched what))
    (two w v e x d (after_fetch q c).controller)
unfolding fleet_in host_at controller_at with_controller
fetches w v e x d c q what takes s = record {
  mailboxes = delivers w v e x d d c (after_fetch q c).controller (mail.fetched q (mailbox d c))
      (plain (seen.Fetched what)) s.mail s.gives;
  below = record { given = below.Fetched what; step = (sym takes, refl); gives = refl; drivers = refl };
}

pub resets : (w : World) (v : Device) (e : Driver) (x : Controller) (d : Driver) (c : Controller)
    → IsStep (mail.reset (mailbox d c)) (after_reset d) (after_calls reset_calls c) (plain seen.Reset)
    → Step true (two w v e x d c) (Reset 1) (plain seen.Reset)
    (two w v e x (after_reset d) (after_calls reset_calls c))
unfolding fleet_in host_at
resets w v e x d c s = record {
  mailboxes = delivers w v e x d (after_reset d) c (after_calls reset_calls c) (mail.reset (mailbox d c))
      (plain seen.Reset) s.mail s.gives;
  below = (
    Some (after_reset d),
    refl,
    (after_reset d, refl, (refl, (refl, ran-calls w v x reset_calls c tt))),
  );
}

-- A poll that delivers the aborted request of a slot.
pub polls : (w : World) (v : Device) (e : Driver) (x : Controller) (d : Driver) (c : Controller) (slot : ℕ)
    → IsOldest d.slots (Some slot)
    → (mail.polled (mailbox d c)).mailbox ≡ mailbox (freed d slot) c
    → (mail.polled (mailbox d c)).reply
    ≡ plain (seen.Polled (Ok (Some (Aborted (ticket_of (aborted_at d.slots slot))))))
    → Step true (two w v e x d c) (Poll 1)
    (plain (seen.Polled (Ok (Some (Aborted (ticket_of (aborted_at d.slots slot)))))))
    (two w v e x (freed d slot) c)
unfolding fleet_in host_at
polls w v e x d c slot oldest same gives = record {
  mailboxes = delivers w v e x d (freed d slot) c c (mail.polled (mailbox d c))
      (plain (seen.Polled (Ok (Some (Aborted (ticket_of (aborted_at d.slots slot))))))) same gives;
  below = (
    Some (freed d slot),
    refl,
    (
      freed d slot,
      refl,
      (
        Ok (Some (Aborted (ticket_of (aborted_at d.slots slot)))),
        refl,
        record {
          oldest = Some slot;
          is_oldest = oldest;
          gives = refl;
          driver = refl;
          ran = ([], refl);
          consumes = refl;
        },
      ),
    ),
  );
}

-- A power cycle, and then a reset by both drivers.
pub cycles : (w : World) (v : Device) (e : Driver) (x : Controller) (d : Driver) (c : Controller)
    → Sound d c → Sound e x
    → Step true (two w v e x d c) PowerCycle (plain seen.Cycled)
    (two (cycled_world w) v (after_reset e) (power_cycled x) (after_reset d) (power_cycled c))
unfolding fleet_in fleets.power_cycled after_power_cycle
cycles w v e x d c s t =
    let old : Subsystem = under w v x c in
    let ran = resets-ran true (after_power_cycle old) 1 (Some d ∷ Some e ∷ []) (are-cycled old) in
    let first = are-reset d c s in
    let second = are-reset e x t in
    record {
      mailboxes = (
        refl,
        λ i. (let f : Fleet = record {
          site = record { world = cycled_world w; device = v };
          hosts = WithDriver (first.mail i) ∷ WithDriver (second.mail i) ∷ [];
        } in f),
      );
      below = record {
        gives = refl;
        ran = (below.Cycled ∷ ran.0, (after_power_cycle old, (refl, refl), ran.1));
        cycled = refl;
        drivers = refl;
      };
    }
