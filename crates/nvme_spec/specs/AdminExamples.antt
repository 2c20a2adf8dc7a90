-- Worlds, queues and windows of the worked examples of admin commands.
use Rattle.std.specs.Prelude.{ℕ, true, false, List, [], ◌∷◌, ◌++◌, length, flat_map, Some, None, Err}
use Rattle.std.specs.Int.{w16, to_le_bytes}
use Rattle.nvme_wire.specs.declared.status.Status.{Status}
use Rattle.nvme_spec.specs.declared.access.Hold.TheVariants.{One}
use Rattle.nvme_spec.specs.declared.queues.Queues.{Queues}
use Rattle.nvme_spec.specs.Rules.{Judgement}
use Rattle.nvme_spec.specs.World.{World, opening_world, with_reservation}
use Rattle.nvme_spec.specs.ReservationExamples.{state, a1}
use Rattle.nvme_spec.specs.Examples.{cluster}

abbrev pub denied : ℕ → Status → Judgement
denied number answer = Err (record { rule = number; status = answer })

-- four controllers of three hosts, and two namespaces
unfoldable pub cluster_world : World
cluster_world = opening_world cluster

-- the same, after host a1h acquired namespace 1 with Write Exclusive
unfoldable pub reserved_world : World
reserved_world = with_reservation (opening_world cluster) 1 (state (a1 0x11 ∷ []) (One 1 0xa1) 1)

-- I/O completion queue 1 and the admin queues
abbrev pub one_completion_queue : Queues
one_completion_queue = record {
  cq = true ∷ true ∷ false ∷ false ∷ false ∷ [];
  sq = Some 0 ∷ None ∷ None ∷ None ∷ None ∷ [];
}

-- also I/O submission queue 1, whose completions go to it
abbrev pub one_queue_pair : Queues
one_queue_pair = record {
  cq = true ∷ true ∷ false ∷ false ∷ false ∷ [];
  sq = Some 0 ∷ Some 1 ∷ None ∷ None ∷ None ∷ [];
}

-- a window that begins with a Controller List
unfoldable pub listing : List ℕ → List ℕ
listing controllers = to_le_bytes w16 (length controllers) ++ flat_map (to_le_bytes w16) controllers
