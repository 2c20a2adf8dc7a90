-- Runs of any inputs over any number of connections, the newest input first, for the laws.
use Rattle.std.specs.Prelude.{ℕ, Bool, ◌==◌, if◌then◌else◌, List, [], ◌∷◌, Option}
use Rattle.nvme_wire.specs.declared.status.Status.{Status}
use Rattle.nvme_fabrics.specs.declared.fabrics.Fabrics.{Fabrics}
use Rattle.nvme_fabrics.specs.declared.session.Judged.{Judged}
use Rattle.nvme_fabrics.specs.declared.session.Session.{Session}
use Rattle.nvme_fabrics.specs.declared.session.Session.TheVariants as session
use Rattle.nvme_fabrics.specs.Sessions.{no_associations, connect, authenticated, closed, ended}
use Rattle.nvme_fabrics.specs.Commands.{fabrics_after, session_after}

-- the associations, and what each connection is
pub record World : Type 0 where
  pub fabrics : Fabrics
  pub sessions : ℕ → Session

-- An input: a Connect with its entry and its data, a host that has authenticated itself, another Fabrics command, the
-- end of a connection, or the end of the association of a controller.
pub data Input : Type 0 where
  Connects : ℕ → List ℕ → List ℕ → Judged → Input
  Authenticates : ℕ → Bool → Status → Input
  Executes : ℕ → List ℕ → Input
  Closes : ℕ → Input
  Ends : ℕ → Input

abbrev pub with_session : (ℕ → Session) → ℕ → Session → ℕ → Session
with_session sessions k s other = if other == k then s else sessions other

abbrev pub moved : World → ℕ → Fabrics → Session → World
moved w k f s = record { fabrics = f; sessions = with_session w.sessions k s }

abbrev pub after : World → Input → World
after w (Connects k e d j) =
    moved w k (connect w.fabrics (w.sessions k) k e d j).fabrics (connect w.fabrics (w.sessions k) k e d j).session
after w (Authenticates k is_enabled created) =
    moved w k (authenticated w.fabrics (w.sessions k) k is_enabled created).fabrics
    (authenticated w.fabrics (w.sessions k) k is_enabled created).session
after w (Executes k e) =
    moved w k (fabrics_after w.fabrics (w.sessions k) k e) (session_after w.fabrics (w.sessions k) k e)
after w (Closes k) = moved w k (closed w.fabrics (w.sessions k) k) session.Ended
after w (Ends index) = record w { fabrics = ended w.fabrics index }

-- no host has connected yet
abbrev pub beginning : List (Option ℕ) → Bool → World
beginning hosts has_keys =
    record { fabrics = no_associations hosts has_keys; sessions = λ k. session.NotConnected }

abbrev pub world_after : List (Option ℕ) → Bool → List Input → World
world_after hosts has_keys [] = beginning hosts has_keys
world_after hosts has_keys (input ∷ before) = after (world_after hosts has_keys before) input
