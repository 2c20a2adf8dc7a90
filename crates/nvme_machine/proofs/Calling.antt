-- Proof of the law `calls_are_of_executions`: a command that is denied, or came from the admin queue, makes no call.
use Rattle.std.proofs.Common.{◌≡◌, ℕ, ◌==◌, Bool, true, false, List, [], Option, None, Some, Err, subst}
use Rattle.std.specs.Prelude.{if◌then◌else◌, slice_get}
use Rattle.std.proofs.lemmas.Bool.{eq-eqb}
use Rattle.nvme_wire.specs.Submission.{opcode}
use Rattle.nvme_spec.specs.declared.verdict.Denial.{Denial}
use Rattle.nvme_spec.specs.MediumCalls.{MediumCall}
use Rattle.nvme_spec.specs.CommandCalls.{AreCallsBy}
use Rattle.nvme_spec.specs.Commands.{command_of}
use Rattle.nvme_spec.specs.AdminRules.{admin_judgement}
use Rattle.nvme_spec.specs.IoData.{io_judgement}
use Rattle.nvme_spec.specs.Execution.{Scene}
use Rattle.nvme_spec.specs.declared.queues.Queues.{Queues}
use Rattle.nvme_machine.specs.declared.fetched.FetchedCommand.{FetchedCommand}
use Rattle.nvme_machine.specs.declared.seen.Executed.{Executed}
use Rattle.nvme_machine.specs.Controllers.{QueuePair, queues_of, open_pair}
use Rattle.nvme_machine.specs.CommandExecutions.{CommandExecution, judgement}
use Rattle.nvme_machine.specs.Executing.{Setting, scene_in, FinishesOver, FinishesOne}
use Rattle.nvme_machine.specs.Calling.{
  AreCallsAs,
  AreCallsOfExecution,
  AreCallsOver,
  AreCallsOne,
  CallsAreOfAnExecution,
  DeniedMakesNoCall,
  AdminMakesNoCall,
}
use Rattle.nvme_machine.proofs.Denials.{denied-verdict}

of-over : (o : Option QueuePair) (tells : Bool) (i : ℕ) (t : FetchedCommand) (old new : Setting) (executed : Executed)
    (calls : List MediumCall)
    → AreCallsOver o tells i t old executed new calls → FinishesOver o tells i t old executed new
of-over None tells i t old new executed calls h = (h.0, h.1)
of-over (Some p) tells i t old new executed calls h = h.finishes

of-one : (o : Option FetchedCommand) (tells : Bool) (i : ℕ) (old new : Setting) (executed : Executed)
    (calls : List MediumCall)
    → AreCallsOne o tells i old executed new calls → FinishesOne o tells i old executed new
of-one None tells i old new executed calls h = (h.0, h.1)
of-one (Some t) tells i old new executed calls h =
    of-over (open_pair old.controller t) tells i t old new executed calls h

pub calls_are_of_an_execution : CallsAreOfAnExecution
calls_are_of_an_execution tells i old new executed calls h =
    of-one (slice_get old.controller.fetched i) tells i old new executed calls h

-- a command makes no call unless its answer allows one
none-over : (o : Option QueuePair) (tells : Bool) (i : ℕ) (t : FetchedCommand) (old new : Setting) (executed : Executed)
    (calls : List MediumCall)
    → ((a : CommandExecution) → AreCallsOfExecution old.controller.cntlid t (scene_in old) a calls → calls ≡ [])
    → AreCallsOver o tells i t old executed new calls → calls ≡ []
none-over None tells i t old new executed calls none h = h.2
none-over (Some p) tells i t old new executed calls none h = none h.finishes.execution h.are

none-nth : (tells : Bool) (i : ℕ) (t : FetchedCommand) (old new : Setting) (executed : Executed)
    (calls : List MediumCall) (o : Option FetchedCommand)
    → ((a : CommandExecution) → AreCallsOfExecution old.controller.cntlid t (scene_in old) a calls → calls ≡ [])
    → AreCallsOne o tells i old executed new calls → o ≡ Some t → calls ≡ []
none-nth tells i t old new executed calls o none h found =
    let one : AreCallsOne (Some t) tells i old executed new calls =
    subst (λ x. AreCallsOne x tells i old executed new calls) found h in
    none-over (open_pair old.controller t) tells i t old new executed calls none one

denied-calls : (s : Scene) (queues : Queues) (k : ℕ) (t : FetchedCommand) (d : Denial) (calls : List MediumCall)
    → judgement queues k t s ≡ Err d
    → (a : CommandExecution) → AreCallsOfExecution k t s a calls → calls ≡ []
unfolding AreCallsOfExecution judgement
denied-calls s queues k t d calls f a h =
    elim (t.queue == 0) as (λ b. AreCallsAs b k t s a calls
    → (if b then admin_judgement s.world queues k t.entry s.window
    else io_judgement s.world k t.entry t.marked s.window) ≡ Err d
    → calls ≡ []) [
      | true ↦ λ x y. x
      | false ↦ λ x y. subst (λ v. AreCallsBy v s.world s.window t.entry a.outcome.status a.left.window calls)
          (denied-verdict (io_judgement s.world k t.entry t.marked s.window) (command_of (opcode t.entry)) t.entry d y)
          x
    ] h f

admin-calls : (s : Scene) (k : ℕ) (t : FetchedCommand) (calls : List MediumCall) → t.queue ≡ 0 → (a : CommandExecution)
    → AreCallsOfExecution k t s a calls → calls ≡ []
unfolding AreCallsOfExecution
admin-calls s k t calls io a h = subst (λ b. AreCallsAs b k t s a calls) (eq-eqb t.queue 0 io) h

pub denied_makes_no_call : DeniedMakesNoCall
denied_makes_no_call tells i old new executed calls t denial h found refused =
    none-nth tells i t old new executed calls (slice_get old.controller.fetched i)
    (denied-calls (scene_in old) (queues_of old.controller) old.controller.cntlid t denial calls refused) h found

pub admin_makes_no_call : AdminMakesNoCall
admin_makes_no_call tells i old new executed calls t h found io =
    none-nth tells i t old new executed calls (slice_get old.controller.fetched i)
    (admin-calls (scene_in old) old.controller.cntlid t calls io) h found
