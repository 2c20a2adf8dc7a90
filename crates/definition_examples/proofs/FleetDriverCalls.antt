-- For `fleet_driver_calls.rt`: calls of a host's driver, if it has one.
use Rattle.std.specs.Prelude.{◌≡◌, Option, None, Some}
use Rattle.nvme_driver.specs.Drivers.{Driver}
use Rattle.nvme_machine.specs.Controllers.{Controller}
use Rattle.nvme_event.specs.declared.seen.FleetSeen.TheVariants.{NoDriver}
use Rattle.nvme_event.specs.Replies.{Reply}
use Rattle.nvme_mailbox.specs.Deliveries.{plain}
use Rattle.nvme_refinement.specs.Sound.{mailbox}
use Rattle.nvme_refinement.specs.Steps.{IsStep}
use Rattle.nvme_fleet.specs.FleetStates.{IsCalled, reaction_to}

pub fleet_driverless_calls_driver : (c d : Controller) → (call : _) → (e : Option Driver) → (reply : Reply)
    → IsCalled None c call e d reply → e ≡ None
fleet_driverless_calls_driver c d call e reply x =
    let all : (e ≡ None) × (d ≡ c) × (reply ≡ plain NoDriver) = x in all.0

pub fleet_driverless_calls_controller : (c d : Controller) → (call : _) → (e : Option Driver) → (reply : Reply)
    → IsCalled None c call e d reply → d ≡ c
fleet_driverless_calls_controller c d call e reply x =
    let all : (e ≡ None) × (d ≡ c) × (reply ≡ plain NoDriver) = x in all.1

pub fleet_driverless_calls_reply : (c d : Controller) → (call : _) → (e : Option Driver) → (reply : Reply)
    → IsCalled None c call e d reply → reply ≡ plain NoDriver
fleet_driverless_calls_reply c d call e reply x =
    let all : (e ≡ None) × (d ≡ c) × (reply ≡ plain NoDriver) = x in all.2

pub fleet_mailbox_calls_step : (f : Driver) → (c d : Controller) → (call : _) → (e : Option Driver) → (reply : Reply)
    → IsCalled (Some f) c call e d reply → (g : Driver) × (e ≡ Some g)
    × IsStep (reaction_to call (mailbox f c)) g d reply
fleet_mailbox_calls_step f c d call e reply x = x
