-- For the examples of polls over memory that a device writes: a driver that waits for the answer of a Flush, two
-- devices, and a port.
use Rattle.std.specs.Prelude.{
  ◌≤◌,
  ℕ,
  zero,
  suc,
  true,
  List,
  [],
  ◌∷◌,
  ◌++◌,
  replicate,
  take,
  drop,
  Option,
  Some,
  Result,
  Ok,
}
use Rattle.nvme_spec.specs.Bytes.{with_bytes}
use Rattle.nvme_wire.specs.Completion.{sq_head}
use Rattle.nvme_wire.specs.declared.status.Status.{Status}
use Rattle.nvme_driver.specs.declared.lane.Lane.TheVariants.{Io}
use Rattle.nvme_driver.specs.declared.slots.Waiting.{Waiting}
use Rattle.nvme_driver.specs.declared.answer.Answer.{Answer}
use Rattle.nvme_driver.specs.declared.answer.Answer.TheVariants.{Done}
use Rattle.nvme_driver.specs.declared.faults.PollFault.{PollFault}
use Rattle.nvme_driver.specs.Calls.{Call, Stores, Writes, Reads, Turns, Sees, Loads}
use Rattle.nvme_driver.specs.Layout.{head_doorbell}
use Rattle.nvme_driver.specs.Drivers.{Driver, ends}
use Rattle.nvme_driver.specs.Polls.{Poll, consumed, consumed_ends, head_of}
use Rattle.nvme_driver.specs.Examples.{io_completion, reading_driver, up_driver}
use Rattle.nvme_driver.specs.Ports.{IsLoaded, IsSeen, Memory}
use Rattle.definition_examples.specs.DriverExamples.{one_request}

abbrev pub flush : Waiting
flush = one_request 1 true

abbrev pub flushing_driver : Driver
flushing_driver = record up_driver {
  io = reading_driver.io;
  slots = Some flush ∷ [];
}

-- the answer that a poll delivers: success, with this result
abbrev pub success : Status
success = record { sct = 0; sc = 0 }

abbrev pub flushed : ℕ → Result (Option Answer) PollFault
flushed result = Ok (Some (Done (record { 0 = 1 }) success result 0))

-- and the poll that delivers it from this entry
abbrev pub flush_poll : List ℕ → ℕ → Poll
flush_poll entry result = record {
  answer = flushed result;
  driver = consumed flushing_driver Io entry;
  calls = Writes (head_doorbell Io) (head_of (consumed_ends (ends Io flushing_driver) (sq_head entry))) ∷ [];
  bytes = [];
}

-- zeros, as many as reach past the queues. It is not an `abbrev`, so that no proof computes its bytes
unfoldable pub zeros : List ℕ
zeros = replicate 0x4000 0

-- memory with an entry at the front of the I/O completion queue
abbrev pub with_answer : List ℕ → List ℕ
with_answer entry = with_bytes zeros 0x3000 entry

-- the answer of the Flush
abbrev pub flush_completion : List ℕ
flush_completion = io_completion 1 0

-- The first device answers after moment 0.
abbrev pub answered_once : ℕ → List ℕ
answered_once zero = replicate 16 0
answered_once (suc t) = flush_completion

abbrev pub settling : Memory
settling t = with_answer (answered_once t)

-- The second one changes its answer after moment 1: result 9, status Invalid Field in Command.
abbrev pub changed_completion : List ℕ
changed_completion = (9 ∷ replicate 7 0) ++ 1 ∷ 0 ∷ 1 ∷ 0 ∷ 0 ∷ 0 ∷ 5 ∷ 0 ∷ []

abbrev pub answered_twice : ℕ → List ℕ
answered_twice zero = replicate 16 0
answered_twice (suc zero) = flush_completion
answered_twice (suc (suc t)) = changed_completion

abbrev pub changing : Memory
changing t = with_answer (answered_twice t)

-- what a look reads while the answer changes
abbrev pub torn_completion : List ℕ
torn_completion = take 12 changed_completion ++ drop 12 flush_completion

abbrev pub torn_driver : Driver
torn_driver = consumed flushing_driver Io torn_completion

-- a port over such memory, whose state is the moment
abbrev pub Watches : Memory → ℕ → Call → ℕ → Type 0
Watches m from (Stores address bytes) to = from ≤ to
Watches m from (Writes offset v) to = from ≤ to
Watches m from (Reads offset v) to = from ≤ to
Watches m from Turns to = from ≤ to
Watches m from (Sees lane head expected seen) to = (from ≤ to) × IsSeen m from to lane head expected seen
Watches m from (Loads at part) to = (from ≤ to) × IsLoaded m from to at part
