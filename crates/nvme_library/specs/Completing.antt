-- A fetched command is executed, and its host consumes the completion.
use Rattle.std.specs.Prelude.{◌≡◌, ℕ, true, List, Option, Some, None, slice_get}
use Rattle.nvme_spec.specs.Registers.{is_ready}
use Rattle.nvme_spec.specs.Queues.{after_post}
use Rattle.nvme_machine.specs.declared.bare.BareExecuted.TheVariants.{Posted}
use Rattle.nvme_machine.specs.declared.bare.BareSeen.{BareSeen}
use Rattle.nvme_machine.specs.declared.bare.BareSeen.TheVariants.{Executed}
use Rattle.nvme_machine.specs.declared.fetched.FetchedCommand.{FetchedCommand}
use Rattle.nvme_machine.specs.Controllers.{
  Controller,
  QueuePair,
  completion_at,
  completion_of,
  open_pair,
  wrote,
}
use Rattle.nvme_machine.specs.Subsystems.{Subsystem, controller_at}
use Rattle.nvme_library.specs.declared.answer.Answer.{Answer}
use Rattle.nvme_library.specs.declared.completing.Completed.{Completed}
use Rattle.nvme_library.specs.declared.turn.Reply.{Reply}
use Rattle.nvme_library.specs.Answers.{answer_of, plain}
use Rattle.nvme_library.specs.Events.{Event, Reacting, Executing}
use Rattle.nvme_library.specs.Holding.{Inside}
use Rattle.nvme_library.specs.Looking.{LoadsFrom}
use Rattle.nvme_library.specs.Placing.{Does}
use Rattle.nvme_library.specs.Turns.{reply_of, next_slot, tail_of, head_doorbell}

-- the host reads the completion, which changes nothing, and writes the head doorbell
pub record Consuming (k : ℕ) (reply : Reply) (old : Inside) (before left : List ℕ) (new : Inside) : Type 0 where
  pub loads : (answer : ℕ) × LoadsFrom (controller_at old.state k) reply.completion_at before answer left
  pub rings : Does (Reacting k (wrote (head_doorbell reply.cqid) reply.head)) old new

-- a completion is consumed if one was posted; else nothing more happens
abbrev pub Consumes : BareSeen → Option Reply → ℕ → Inside → List ℕ → List ℕ → Inside → Type 0
Consumes (Executed (Posted o)) (Some reply) k old before left new = Consuming k reply old before left new
Consumes seen other k old before left new = (left ≡ before) × (new ≡ old)

abbrev pub completed_without : Answer → Completed
completed_without answer = record { answer = answer; head = 0; cqid = 0 }

-- the result, with the completion queue and the head that was written to its doorbell
abbrev pub completed_by : BareSeen → Option Reply → Completed
completed_by (Executed (Posted o)) (Some reply) =
    record { answer = answer_of (Executed (Posted o)); head = reply.head; cqid = reply.cqid }
completed_by seen other = completed_without (answer_of seen)

-- a command is executed in this way, and its completion consumed
pub record Completing (Way : Event) (k : ℕ) (reply : Option Reply) (old : Inside) (result : Completed)
    (before left : List ℕ) (new : Inside) : Type 0 where
  pub seen : BareSeen
  pub executed : Inside
  pub executes : Way old seen executed
  pub consumes : Consumes seen reply k executed before left new
  pub result_is : result ≡ completed_by seen reply

-- the place of its completion
abbrev pub reply_at : Option Controller → ℕ → Option Reply
reply_at None i = None
reply_at (Some c) i = reply_of c i

abbrev pub CompletesBy : Event → ℕ → ℕ → Inside → Completed → List ℕ → List ℕ → Inside → Type 0
CompletesBy Way k i old result before left new =
    Completing Way k (reply_at (controller_at old.state k) i) old result before left new

-- The i-th fetched command is executed, and its completion consumed: these two events, or the execution alone if
-- nothing was posted.
abbrev pub Completes : ℕ → ℕ → Option Inside → Completed → List ℕ → List ℕ → Option Inside → Type 0
Completes k i None result before left new = (result ≡ completed_without (plain 16)) × (left ≡ before) × (new ≡ None)
Completes k i (Some old) result before left None = ⊥
Completes k i (Some old) result before left (Some new) = CompletesBy (Executing k i) k i old result before left new

-- A controller whose host has consumed the completion: if it is ready, the completion queue is the old one with one
-- completion more, and none is unread.
pub record IsConsumed (k : ℕ) (c : Controller) (p : QueuePair) (new : Subsystem) : Type 0 where
  pub left : Controller
  pub at : controller_at new k ≡ Some left
  pub consumed : is_ready c.registers.state ≡ true → completion_at left p.submission.cqid
      ≡ Some (record p.completion { tail = record (after_post p.completion.tail) { unread = 0 } })

-- The command was completed: the result is that its completion was posted, and the buffer has the completion queue
-- entry, with the identifier and the submission queue of this command, and Dword 0 and the status of the answer.
pub record IsCompleted (k : ℕ) (c : Controller) (t : FetchedCommand) (p : QueuePair) (result : Completed)
    (left : List ℕ) (new : Subsystem) : Type 0 where
  pub posted : result.answer.what ≡ 6
  pub queue : result.cqid ≡ p.submission.cqid
  pub head : result.head ≡ next_slot p.completion.tail.size (tail_of p.completion)
  pub bytes : left ≡ completion_of t p (record { sct = result.answer.sct; sc = result.answer.sc }) result.answer.value
  pub consumed : IsConsumed k c p new

-- if the completion of a command can be posted, the command is completed
abbrev pub AnswersOver : Option QueuePair → ℕ → Controller → FetchedCommand → Completed → List ℕ → Inside → Type 0
AnswersOver None k c t result left new = Unit {0}
AnswersOver (Some p) k c t result left new = IsCompleted k c t p result left new.state

abbrev pub AnswersOne : Option FetchedCommand → ℕ → Controller → Completed → List ℕ → Inside → Type 0
AnswersOne None k c result left new = Unit {0}
AnswersOne (Some t) k c result left new = AnswersOver (open_pair c t) k c t result left new

abbrev pub AnswersIn : Option Controller → ℕ → ℕ → Completed → List ℕ → Inside → Type 0
AnswersIn None k i result left new = Unit {0}
AnswersIn (Some c) k i result left new = AnswersOne (slice_get c.fetched i) k c result left new

-- A fetched command whose completion queue has room is completed.
abbrev pub AlwaysCompletes : ℕ → ℕ → Option Inside → Completed → List ℕ → Option Inside → Type 0
AlwaysCompletes k i None result left new = Unit {0}
AlwaysCompletes k i (Some old) result left None = ⊥
AlwaysCompletes k i (Some old) result left (Some new) = AnswersIn (controller_at old.state k) k i result left new
