-- The lines of a worked example.
use Rattle.std.specs.Prelude.{ℕ, List, [], ◌∷◌, codes}
use Rattle.nvme_driver.specs.declared.request.Request.TheVariants.{Read}
use Rattle.nvme_event.specs.declared.event.FleetEvent.{FleetEvent}
use Rattle.nvme_event.specs.declared.event.FleetEvent.TheVariants.{BringUp, Place}

-- a controller, a namespace and a start
abbrev pub example_setup : List (List ℕ)
example_setup = codes "controller 1 host 0xa1" ∷ codes "namespace 1 blocks 64 shared" ∷ codes "attached 1 1"
    ∷ codes "start" ∷ []

-- two events
abbrev pub example_events : List (List ℕ)
example_events = codes "up 1" ∷ codes "read 1 1 0 1" ∷ []

-- their events
abbrev pub example_asked : List FleetEvent
example_asked = BringUp 1 ∷ Place 1 (Read 1 0 1) ∷ []
