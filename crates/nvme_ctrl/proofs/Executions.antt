-- For the answer of `execute_into`: from the parts of an execution to the whole.
use Rattle.std.proofs.Common.{
  ◌≡◌,
  ◌≢◌,
  ℕ,
  ◌+◌,
  ◌<◌,
  ◌≤◌,
  Bool,
  List,
  [],
  ◌∷◌,
  length,
  zero,
  suc,
  Some,
  refl,
  sym,
  ap,
  subst,
  ◌∙◌,
  arith,
}
use Rattle.std.specs.Prelude.{slice_get, IsSome}
use Rattle.std.proofs.lemmas.Bool.{eq-eqb, ne_eqb}
use Rattle.nvme_wire.specs.declared.status.Status.{Status}
use Rattle.nvme_spec.specs.declared.outcome.Outcome.{Outcome}
use Rattle.nvme_spec.specs.declared.queues.Queues.{Queues}
use Rattle.nvme_spec.specs.declared.queues.QueueChange.{QueueChange}
use Rattle.nvme_spec.specs.declared.queues.QueueChange.TheVariants.{Keep, MakeCq, MakeSq, DropCq, DropSq}
use Rattle.std.specs.List.{AllByRecursion}
use Rattle.nvme_spec.specs.World.{World, Namespace}
use Rattle.nvme_spec.specs.QueueChanges.{Suits}
use Rattle.nvme_spec.specs.Execution.{Scene, Executes, HasKnownRegistrants, no_marks}
use Rattle.nvme_spec.specs.MediumCalls.{MediumCall, MakesCalls}
use Rattle.nvme_spec.specs.CommandCalls.{AreCallsBy}
use Rattle.nvme_spec.specs.IoData.{io_verdict}
use Rattle.nvme_spec.specs.AdminEffects.{AdminExecution, admin_execution}
use Rattle.nvme_spec.proofs.QueueChanges.{admin_changes_suit}
use Rattle.nvme_spec.proofs.StatusLaws.{admin_execution_fits}
use Rattle.nvme_spec.proofs.Hosts.{AreKnown}
use Rattle.nvme_exec.specs.Carrying.{CanExecute}
use Rattle.nvme_machine.specs.declared.fetched.FetchedCommand.{FetchedCommand}
use Rattle.nvme_machine.specs.declared.seen.Executed.TheVariants.{Posted}
use Rattle.nvme_machine.specs.Controllers.{
  Controller,
  QueuePair,
  queues_of,
  open_pair,
  after_posting,
  after_queue_change,
}
use Rattle.nvme_machine.specs.CommandExecutions.{
  CommandExecution,
  CommandComesTo,
  CommandComesToAs,
  admin_command_execution,
}
use Rattle.nvme_machine.specs.Subsystems.{after_completion}
use Rattle.nvme_machine.specs.Executing.{Setting, FinishesOver, FinishesOne, ExecutesNth, scene_in, Finishes}
use Rattle.nvme_machine.specs.Calling.{AreCallsAs, AreCallsOfExecution, AreCallsOver, AreCallsOne, AreCallsNth}
use Rattle.nvme_machine.proofs.AdminWorlds.{
  Becomes,
  HasSameReservations,
  admin-becomes,
  admin-keeps,
  all-still,
  same-controllers,
}
use Rattle.nvme_ctrl.specs.Executions.{LiesInMemory}

-- a new queue that suits the queues is in host memory
pub suits-lies : (queues : Queues) (change : QueueChange) → Suits queues change → LiesInMemory change
suits-lies queues Keep h = tt
suits-lies queues (MakeCq qid size base) h = h.1
suits-lies queues (MakeSq qid size base cqid) h = h.1
suits-lies queues (DropCq qid) h = tt
suits-lies queues (DropSq qid) h = tt

pub admin-lies : (w : World) (queues : Queues) (k : ℕ) (e window : List ℕ) (x : AdminExecution)
    → admin_execution w queues k e window ≡ x → LiesInMemory x.change
admin-lies w queues k e window x is = subst (λ (y : AdminExecution). LiesInMemory y.change) is
    (suits-lies queues _ (admin_changes_suit w queues k e window))

pub admin-fits : (w : World) (queues : Queues) (k : ℕ) (e window : List ℕ) (x : AdminExecution)
    → admin_execution w queues k e window ≡ x → x.status.sct < 8
admin-fits w queues k e window x is =
    subst (λ (y : AdminExecution). y.status.sct < 8) is (admin_execution_fits w queues k e window).0

-- an admin command keeps the preconditions of an execution
pub admin-ready : (w : World) (size : ℕ) (queues : Queues) (k : ℕ) (e window : List ℕ) (x : AdminExecution)
    → admin_execution w queues k e window ≡ x → CanExecute w size k → CanExecute x.world size k
admin-ready w size queues k e window x is ready = subst (λ (y : AdminExecution). CanExecute y.world size k) is (record {
  configured = subst (λ o. IsSome o) (sym (kept.extents.hosts k)) ready.configured;
  within = all-still (λ n. n.first + n.blocks ≤ size) (λ n b h. h) w _ becomes ready.within;
  known = known;
})
  where
    becomes : Becomes w (admin_execution w queues k e window).world
    becomes = admin-becomes w queues k window e

    kept : HasSameReservations w (admin_execution w queues k e window).world
    kept = admin-keeps w queues k window e

    known : HasKnownRegistrants (admin_execution w queues k e window).world
    known =
        subst (λ ks. AllByRecursion (λ (n : Namespace). AreKnown ks n.reservation.registrants)
        (admin_execution w queues k e window).world.namespaces) (sym (same-controllers w _ becomes))
        (all-still (λ n. AreKnown w.controllers n.reservation.registrants) (λ n b h. h) w _ becomes ready.known)

-- the answer of an admin command, over any medium
pub admin-answers : (tells : Bool) (queues : Queues) (k : ℕ) (t : FetchedCommand) (s : Scene) (o : Outcome)
    (change : QueueChange) (w : World) (window : List ℕ) → t.queue ≡ 0
    → admin_execution s.world queues k t.entry s.window
    ≡ record { status = o.status; dw0 = o.dw0; rule = o.rule; change = change; world = w; window = window }
    → o.marks ≡ no_marks
    → CommandComesTo tells queues k t s
    (record { outcome = o; change = change; left = record { world = w; window = window; device = s.device } })
unfolding CommandComesTo
admin-answers tells queues k t s o change w window io is marks =
    subst (λ b. CommandComesToAs b tells queues k t s
    (record { outcome = o; change = change; left = record { world = w; window = window; device = s.device } }))
    (sym (eq-eqb t.queue 0 io))
    ((λ i. record {
      outcome = record { status = o.status; dw0 = o.dw0; rule = o.rule; marks = marks i };
      change = change;
      left = record { world = w; window = window; device = s.device };
    })
    ∙ ap (admin_command_execution s) (sym is))

pub io-answers : (tells : Bool) (queues : Queues) (k : ℕ) (t : FetchedCommand) (s : Scene) (o : Outcome) (left : Scene)
    → t.queue ≢ 0
    → Executes tells k t.entry t.marked s left o
    → CommandComesTo tells queues k t s (record { outcome = o; change = Keep; left = left })
unfolding CommandComesTo
io-answers tells queues k t s o left io h =
    subst (λ b. CommandComesToAs b tells queues k t s (record { outcome = o; change = Keep; left = left }))
    (sym (ne_eqb t.queue 0 io)) (refl, h)

-- the i-th command exists
pub is-there : {A : Type 0} (xs : List A) (i : ℕ) (x : A) → slice_get xs i ≡ Some x → i < length xs
is-there [] i x h = absurd (cc)
is-there (y ∷ xs) zero x h = omega arith
is-there (y ∷ xs) (suc i) x h = let later = is-there xs i x h in omega (arith, later)

-- the parts of an execution make up the whole
finishes : (tells : Bool) (i : ℕ) (old new : Setting) (t : FetchedCommand) (p : QueuePair) (a : CommandExecution)
    (c d : Controller)
    → CommandComesTo tells (queues_of old.controller) old.controller.cntlid t (scene_in old) a
    → c ≡ record old.controller { window = a.left.window } → d ≡ after_posting i t p a.outcome.status a.outcome.dw0 c
    → new.controller ≡ after_queue_change a.change d
    → new.world ≡ a.left.world → new.device ≡ a.left.device
    → Finishes tells i t p old (Posted a.outcome) new
unfolding after_completion
finishes tells i old new t p a c d answers window posted queues world device = record {
  execution = a;
  comes_to = answers;
  gives = refl;
  controller = queues
      ∙ ap (after_queue_change a.change) (posted ∙ ap (after_posting i t p a.outcome.status a.outcome.dw0) window);
  world = world;
  device = device;
}

pub executes-nth : (tells : Bool) (i : ℕ) (old new : Setting) (t : FetchedCommand) (p : QueuePair)
    (a : CommandExecution) (c d : Controller)
    → slice_get old.controller.fetched i ≡ Some t → open_pair old.controller t ≡ Some p
    → CommandComesTo tells (queues_of old.controller) old.controller.cntlid t (scene_in old) a
    → c ≡ record old.controller { window = a.left.window } → d ≡ after_posting i t p a.outcome.status a.outcome.dw0 c
    → new.controller ≡ after_queue_change a.change d
    → new.world ≡ a.left.world → new.device ≡ a.left.device
    → ExecutesNth tells i old (Posted a.outcome) new
executes-nth tells i old new t p a c d found pair answers window posted queues world device =
    subst (λ o. FinishesOne o tells i old (Posted a.outcome) new) (sym found)
    (subst (λ o. FinishesOver o tells i t old (Posted a.outcome) new) (sym pair)
    (finishes tells i old new t p a c d answers window posted queues world device))

-- the answer's calls are the calls of the execution
pub calls-nth : {M : Type 0} (step : M → MediumCall → M → Type 0) (before after : M) (tells : Bool) (i : ℕ)
    (old new : Setting) (t : FetchedCommand) (p : QueuePair) (a : CommandExecution) (c d : Controller)
    → slice_get old.controller.fetched i ≡ Some t → open_pair old.controller t ≡ Some p
    → CommandComesTo tells (queues_of old.controller) old.controller.cntlid t (scene_in old) a
    → c ≡ record old.controller { window = a.left.window } → d ≡ after_posting i t p a.outcome.status a.outcome.dw0 c
    → new.controller ≡ after_queue_change a.change d
    → new.world ≡ a.left.world → new.device ≡ a.left.device
    → MakesCalls step (AreCallsOfExecution old.controller.cntlid t (scene_in old) a) before after
    → MakesCalls step (AreCallsNth tells i old (Posted a.outcome) new) before after
unfolding finishes
calls-nth step before after tells i old new t p a c d found pair answers window posted queues world device
    makes = record {
      calls = makes.calls;
      are = subst (λ o. AreCallsOne o tells i old (Posted a.outcome) new makes.calls) (sym found)
          (subst (λ o. AreCallsOver o tells i t old (Posted a.outcome) new makes.calls) (sym pair)
          (record {
            finishes = finishes tells i old new t p a c d answers window posted queues world device;
            are = makes.are;
          }));
      made = makes.made;
    }

-- an admin command makes no calls
pub admin-calls : {M : Type 0} (step : M → MediumCall → M → Type 0) (m : M) (k : ℕ) (t : FetchedCommand) (s : Scene)
    (a : CommandExecution) → t.queue ≡ 0
    → MakesCalls step (AreCallsOfExecution k t s a) m m
unfolding AreCallsOfExecution
admin-calls step m k t s a admin = record {
  calls = [];
  are = subst (λ b. AreCallsAs b k t s a []) (sym (eq-eqb t.queue 0 admin)) refl;
  made = refl;
}

-- an I/O command makes the calls of its answer
pub io-calls : {M : Type 0} (step : M → MediumCall → M → Type 0) (before after : M) (k : ℕ) (t : FetchedCommand)
    (s : Scene) (o : Outcome) (left : Scene) → t.queue ≢ 0
    → MakesCalls step (AreCallsBy (io_verdict s.world k t.entry t.marked s.window) s.world s.window t.entry o.status
    left.window) before after
    → MakesCalls step (AreCallsOfExecution k t s (record { outcome = o; change = Keep; left = left })) before after
unfolding AreCallsOfExecution
io-calls step before after k t s o left io makes = record {
  calls = makes.calls;
  are = subst (λ b. AreCallsAs b k t s (record { outcome = o; change = Keep; left = left }) makes.calls)
      (sym (ne_eqb t.queue 0 io)) makes.are;
  made = makes.made;
}

-- the identifier stays
pub posting-cntlid : (change : QueueChange) (i : ℕ) (t : FetchedCommand) (p : QueuePair) (s : Status) (first : ℕ)
    (c d e : Controller) → d ≡ after_posting i t p s first c → e ≡ after_queue_change change d → e.cntlid ≡ c.cntlid
unfolding after_posting after_queue_change
posting-cntlid change i t p s first c d e posted queues =
    ap (λ (x : Controller). x.cntlid) queues ∙ by change ∙ ap (λ (x : Controller). x.cntlid) posted
  where
    by : (change : QueueChange) → (after_queue_change change d).cntlid ≡ d.cntlid
    by Keep = refl
    by (MakeCq qid size base) = refl
    by (MakeSq qid size base cqid) = refl
    by (DropCq qid) = refl
    by (DropSq qid) = refl

pub admin-controllers : (w : World) (queues : Queues) (k : ℕ) (e window : List ℕ) (x : AdminExecution)
    → admin_execution w queues k e window ≡ x → x.world.controllers ≡ w.controllers
admin-controllers w queues k e window x is = subst (λ (y : AdminExecution). y.world.controllers ≡ w.controllers) is
    (same-controllers w _ (admin-becomes w queues k window e))
