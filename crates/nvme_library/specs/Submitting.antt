-- One command from its entry to its completion: the events of a host's turn, in order.
use Rattle.std.specs.Prelude.{◌≡◌, ◌==◌, ℕ, Bool, true, false, List, [], Option, Some, None, Result, Ok, Err}
use Rattle.nvme_wire.specs.Completion.{completion_entry}
use Rattle.nvme_wire.specs.Submission.{cid}
use Rattle.nvme_spec.specs.Queues.{phase_tag}
use Rattle.nvme_machine.specs.Controllers.{Controller, CompletionQueue, completion_at}
use Rattle.nvme_machine.specs.Subsystems.{controller_at}
use Rattle.nvme_library.specs.declared.answer.Answer.{Answer}
use Rattle.nvme_library.specs.declared.completing.Completed.{Completed}
use Rattle.nvme_library.specs.declared.placing.Placed.{Placed}
use Rattle.nvme_library.specs.declared.turn.Turn.{Turn}
use Rattle.nvme_library.specs.Answers.{plain, closed}
use Rattle.nvme_library.specs.Completing.{CompletesBy}
use Rattle.nvme_library.specs.Events.{Executing}
use Rattle.nvme_library.specs.Holding.{Inside}
use Rattle.nvme_library.specs.Placing.{PlacesTo}
use Rattle.nvme_library.specs.Turns.{turn_of}

-- if the command was taken, its completion is consumed; else the answer gives the reason
abbrev pub Finishes : Bool → ℕ → Placed → Inside → Answer → List ℕ → List ℕ → Inside → Type 0
Finishes false k placed old answer before left new = (answer ≡ plain placed.what) × (left ≡ before) × (new ≡ old)
Finishes true k placed old answer before left new = (result : Completed)
    × CompletesBy (Executing k placed.index) k placed.index old result before left new × (answer ≡ result.answer)

-- a host's turn: it places the command, without data, and consumes its completion
pub record SubmitsTo (k qid : ℕ) (entry : List ℕ) (old : Inside) (answer : Answer) (before left : List ℕ)
    (new : Inside) : Type 0 where
  pub placed : Placed
  pub fetched : Inside
  pub places : PlacesTo (controller_at old.state k) k qid entry 0 [] old placed fetched
  pub finishes : Finishes (placed.what == 4) k placed fetched answer before left new

-- A command is submitted to a controller, its completion consumed, and its status answered.
abbrev pub Submits : ℕ → ℕ → List ℕ → Option Inside → Answer → List ℕ → List ℕ → Option Inside → Type 0
Submits k qid entry None answer before left new = (answer ≡ closed) × (left ≡ before) × (new ≡ None)
Submits k qid entry (Some old) answer before left None = ⊥
Submits k qid entry (Some old) answer before left (Some new) = SubmitsTo k qid entry old answer before left new

-- The command was answered: the result is that its completion was posted, and the buffer has the completion queue entry
-- with this command's identifier. The entry has the submission queue's identifier and its head after the command, the
-- next phase tag, and Dword 0 and the status of the answer.
pub record IsAnswered (c : Controller) (qid : ℕ) (turn : Turn) (entry : List ℕ) (answer : Answer) (left : List ℕ)
    : Type 0 where
  pub posted : answer.what ≡ 6
  pub queue : CompletionQueue
  pub at : completion_at c turn.cqid ≡ Some queue
  pub bytes : left ≡ completion_entry (record {
    dw0 = answer.value;
    sq_head = turn.tail;
    sq_id = qid;
    cid = cid entry;
    phase = phase_tag queue.tail.size queue.tail.posted;
    status = record { sct = answer.sct; sc = answer.sc };
  })

-- if a turn is possible, the command is answered
abbrev pub AnswersBy : Controller → Result Turn ℕ → ℕ → List ℕ → Answer → List ℕ → Type 0
AnswersBy c (Err why) qid entry answer left = Unit {0}
AnswersBy c (Ok turn) qid entry answer left = IsAnswered c qid turn entry answer left

abbrev pub AnswersAt : Option Controller → ℕ → List ℕ → Answer → List ℕ → Type 0
AnswersAt None qid entry answer left = Unit {0}
AnswersAt (Some c) qid entry answer left = AnswersBy c (turn_of c qid) qid entry answer left

-- A turn always ends with the completion of its command.
abbrev pub AlwaysAnswers : ℕ → ℕ → List ℕ → Option Inside → Answer → List ℕ → Type 0
AlwaysAnswers k qid entry None answer left = Unit {0}
AlwaysAnswers k qid entry (Some old) answer left = AnswersAt (controller_at old.state k) qid entry answer left
