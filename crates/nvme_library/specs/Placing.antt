-- A host places a command: it stores the entry and the data, writes the tail doorbell, and the controller fetches.
use Rattle.std.specs.Prelude.{
  ◌≡◌,
  ◌+◌,
  ℕ,
  false,
  List,
  [],
  ◌∷◌,
  ◌++◌,
  length,
  Option,
  Some,
  None,
  Result,
  Ok,
  Err,
  slice_range,
  slice_set,
}
use Rattle.nvme_spec.specs.Bytes.{with_bytes}
use Rattle.nvme_machine.specs.declared.bare.BareSeen.{BareSeen}
use Rattle.nvme_machine.specs.Controllers.{
  Controller,
  SubmissionQueue,
  submission_at,
  after_store,
  wrote,
  after_fetch,
}
use Rattle.nvme_machine.specs.Subsystems.{controller_at, with_controller}
use Rattle.nvme_library.specs.declared.placing.Placed.{Placed}
use Rattle.nvme_library.specs.declared.turn.Turn.{Turn}
use Rattle.nvme_library.specs.Answers.{answer_of}
use Rattle.nvme_library.specs.Events.{Event, Reacting}
use Rattle.nvme_library.specs.Holding.{Inside}
use Rattle.nvme_library.specs.Turns.{place_of, tail_doorbell}

-- an event happens, with any result
abbrev pub Does : Event → Inside → Inside → Type 0
Does E old new = (seen : BareSeen) × E old seen new

-- the host stores the data, if there are any
abbrev pub StoresData : ℕ → ℕ → List ℕ → Inside → Inside → Type 0
StoresData k at [] old new = new ≡ old
StoresData k at (byte ∷ rest) old new = Does (Reacting k (after_store at (byte ∷ rest))) old new

-- the events: the host stores the entry and the data, writes the tail doorbell, and the controller fetches
pub record Fetching (k qid : ℕ) (turn : Turn) (entry : List ℕ) (at : ℕ) (bytes : List ℕ) (old : Inside)
    (seen : BareSeen) (new : Inside) : Type 0 where
  pub stored : Inside
  pub filled : Inside
  pub rung : Inside
  pub stores : Does (Reacting k (after_store turn.entry_at entry)) old stored
  pub fills : StoresData k at bytes stored filled
  pub rings : Does (Reacting k (wrote (tail_doorbell qid) turn.tail)) filled rung
  pub fetches : Reacting k (after_fetch qid) rung seen new

abbrev pub not_placed : ℕ → Placed
not_placed what = record { entry_at = 0; index = 0; tail = 0; what = what }

abbrev pub placed_by : Turn → ℕ → Placed
placed_by turn what = record { entry_at = turn.entry_at; index = turn.index; tail = turn.tail; what = what }

-- these four events one after the other, three if there are no data, and no others
pub record PlacesAt (k qid : ℕ) (turn : Turn) (entry : List ℕ) (at : ℕ) (bytes : List ℕ) (old : Inside)
    (placed : Placed) (new : Inside) : Type 0 where
  pub seen : BareSeen
  pub fetches : Fetching k qid turn entry at bytes old seen new
  pub placed_is : placed ≡ placed_by turn (answer_of seen).what

-- if no turn is possible, nothing happens, and the result gives the reason
abbrev pub PlacesBy : Result Turn ℕ → ℕ → ℕ → List ℕ → ℕ → List ℕ → Inside → Placed → Inside → Type 0
PlacesBy (Err why) k qid entry at bytes old placed new = (placed ≡ not_placed why) × (new ≡ old)
PlacesBy (Ok turn) k qid entry at bytes old placed new = PlacesAt k qid turn entry at bytes old placed new

abbrev pub PlacesTo : Option Controller → ℕ → ℕ → List ℕ → ℕ → List ℕ → Inside → Placed → Inside → Type 0
PlacesTo None k qid entry at bytes old placed new = (placed ≡ not_placed 17) × (new ≡ old)
PlacesTo (Some c) k qid entry at bytes old placed new =
    PlacesBy (place_of c qid at (length bytes)) k qid entry at bytes old placed new

-- A host places a command with data, and its controller fetches it.
abbrev pub Places : ℕ → ℕ → List ℕ → ℕ → List ℕ → Option Inside → Placed → Option Inside → Type 0
Places k qid entry at bytes None placed new = (placed ≡ not_placed 16) × (new ≡ None)
Places k qid entry at bytes (Some old) placed None = ⊥
Places k qid entry at bytes (Some old) placed (Some new) =
    PlacesTo (controller_at old.state k) k qid entry at bytes old placed new

-- A controller that has taken a command: it is the last of those that were fetched, with these bytes, of this queue and
-- not marked. The memory has the entry and the data, and the head of the queue is its tail. All else is as before.
abbrev pub with_command : ℕ → Turn → List ℕ → ℕ → List ℕ → SubmissionQueue → Controller → Controller
with_command qid turn entry at bytes queue c = record c {
  window = with_bytes (with_bytes c.window turn.entry_at entry) at bytes;
  submission = slice_set c.submission qid (Some (record queue { head = record queue.head { fetched = turn.tail } }));
  fetched = c.fetched ++ record { entry = entry; queue = qid; marked = false } ∷ [];
}

-- The command was taken: of the subsystem only this controller has changed, and as stated. The entry and the data are
-- in the memory.
pub record IsTaken (k qid : ℕ) (turn : Turn) (entry : List ℕ) (at : ℕ) (bytes : List ℕ) (c : Controller) (old : Inside)
    (placed : Placed) (new : Inside) : Type 0 where
  pub took : placed ≡ placed_by turn 4
  pub index : turn.index ≡ length c.fetched
  pub queue : SubmissionQueue
  pub found : submission_at c qid ≡ Some queue
  pub left : Controller
  pub left_is : left ≡ with_command qid turn entry at bytes queue c
  pub state : new.state ≡ with_controller old.state k left
  pub medium : new.medium ≡ old.medium
  pub entry_stands : slice_range left.window turn.entry_at (turn.entry_at + 64) ≡ entry
  pub data_stand : slice_range left.window at (at + length bytes) ≡ bytes

-- if a turn is possible, the command is taken
abbrev pub TakesBy : Controller → Result Turn ℕ → ℕ → ℕ → List ℕ → ℕ → List ℕ → Inside → Placed → Inside → Type 0
TakesBy c (Err why) k qid entry at bytes old placed new = Unit {0}
TakesBy c (Ok turn) k qid entry at bytes old placed new = IsTaken k qid turn entry at bytes c old placed new

abbrev pub TakesTo : Option Controller → ℕ → ℕ → List ℕ → ℕ → List ℕ → Inside → Placed → Inside → Type 0
TakesTo None k qid entry at bytes old placed new = Unit {0}
TakesTo (Some c) k qid entry at bytes old placed new =
    TakesBy c (place_of c qid at (length bytes)) k qid entry at bytes old placed new

-- A command that can be placed is taken.
abbrev pub AlwaysTakes : ℕ → ℕ → List ℕ → ℕ → List ℕ → Option Inside → Placed → Option Inside → Type 0
AlwaysTakes k qid entry at bytes None placed new = Unit {0}
AlwaysTakes k qid entry at bytes (Some old) placed None = ⊥
AlwaysTakes k qid entry at bytes (Some old) placed (Some new) =
    TakesTo (controller_at old.state k) k qid entry at bytes old placed new
