-- For `executed_commands_move_their_own`: from the events of a subsystem to the data of a command.
use Rattle.std.proofs.Common.{
  ◌≡◌,
  inl,
  inr,
  ℕ,
  ◌+◌,
  ◌≤◌,
  Bool,
  true,
  false,
  cond,
  List,
  [],
  ◌∷◌,
  length,
  take,
  Option,
  None,
  Some,
  Ok,
  refl,
  sym,
  ap,
  subst,
  ◌∙◌,
  arith,
}
use Rattle.std.specs.Prelude.{◌==◌, nat_le, option_map, slice_get, slice_range}
use Rattle.std.proofs.lemmas.List.{length-take}
use Rattle.nvme_wire.specs.Submission.{opcode}
use Rattle.nvme_spec.specs.declared.outcome.Outcome.{Outcome}
use Rattle.nvme_spec.specs.declared.queues.Queues.{Queues}
use Rattle.nvme_spec.specs.declared.queues.QueueChange.TheVariants.{Keep}
use Rattle.nvme_spec.specs.declared.verdict.Verdict.TheVariants.{Allowed}
use Rattle.nvme_spec.specs.AdminCommands.{command_of}
use Rattle.nvme_spec.specs.AdminRules.{admin_judgement}
use Rattle.nvme_spec.specs.Bytes.{with_bytes}
use Rattle.nvme_spec.specs.Execution.{Executes, Scene}
use Rattle.nvme_spec.specs.IoData.{io_verdict}
use Rattle.nvme_spec.specs.Memory.{window_size}
use Rattle.nvme_machine.specs.declared.fetched.FetchedCommand.{FetchedCommand}
use Rattle.nvme_machine.specs.declared.seen.Executed.TheVariants.{Posted}
use Rattle.nvme_machine.specs.declared.seen.Seen.TheVariants.{Executed, Outside, Stored}
use Rattle.nvme_machine.specs.CommandExecutions.{CommandComesTo, CommandComesToAs, CommandExecution}
use Rattle.nvme_machine.specs.Controllers.{
  Controller,
  QueuePair,
  after_posting,
  after_queue_change,
  after_store,
  completion_of,
  completion_slot,
  open_pair,
  queues_of,
  reaction,
  with_marks,
}
use Rattle.nvme_machine.specs.Subsystems.{
  Completes,
  ExecutesAt,
  ExecutesOne,
  ExecutesOver,
  ReactsAs,
  Subsystem,
  after_completion,
  after_execution,
  controller_at,
  numbered,
  replaced,
  scene_of,
  with_controller,
}
use Rattle.nvme_machine.proofs.Others.{executed-at, marks-numbered}
use Rattle.nvme_machine.proofs.Staying.{replaced-same}
use Rattle.nvme_data_buffers.specs.Buffers.{capacity, start}
use Rattle.nvme_data_buffers.specs.Entries.{moved, placed}
use Rattle.nvme_data_buffers.specs.Executions.{AdminMovesOwnData, MovesOwnData}
use Rattle.nvme_data_buffers.specs.Stores.{after_stores}
use Rattle.nvme_data_buffers.proofs.Executions.{admin-executions-move-own-data, executions-move-own-data}
use Rattle.nvme_data_buffers.proofs.OwnData.{moves-as-many}
use Rattle.nvme_data_buffers.proofs.Stores.{is-buffer, returned-data-stay}
use Rattle.nvme_target.specs.OwnData.{
  AdmittedDataFit,
  BuffersHoldWhatWasReturned,
  ExecutedAdminCommandsMoveTheirOwn,
  ExecutedCommandsMoveTheirOwn,
  FetchedCommandsArePlaced,
  Holds,
  StoresGiveData,
  completion_store,
}

-- ---- a store of data

at-here : (s : Subsystem) (k : ℕ) (c d : Controller) → controller_at s k ≡ Some c
    → controller_at (with_controller s k d) k ≡ Some d
unfolding controller_at with_controller
at-here s k c d h = replaced-same s.controllers k c d h

stored-window : (c : Controller) (address : ℕ) (bytes : List ℕ) → (after_store address bytes c).seen ≡ Stored
    → (after_store address bytes c).controller ≡ record c { window = with_bytes c.window address bytes }
unfolding after_store
stored-window c address bytes h = by (nat_le (address + length bytes) window_size) h where
  by : (b : Bool)
      → (cond b (reaction (record c { window = with_bytes c.window address bytes }) Stored) (reaction c Outside)).seen
      ≡ Stored
      → (cond b (reaction (record c { window = with_bytes c.window address bytes }) Stored)
      (reaction c Outside)).controller ≡ record c { window = with_bytes c.window address bytes }
  by true h = refl
  by false h = absurd (cc)

pub stores-give-data : StoresGiveData
stores-give-data tells old new k c b bytes at whole list step =
    let address = start b (length bytes.now) in
    let reacts : ReactsAs (Some c) old k (after_store address bytes.now) Stored new =
    subst (λ o. ReactsAs o old k (after_store address bytes.now) Stored new) at step in
    let is : (after_store address bytes.now c).controller
    ≡ record c { window = with_bytes c.window address bytes.now } =
    stored-window c address bytes.now (sym reacts.0) in
    let d : Controller = record c { window = with_bytes c.window address bytes.now } in
    record {
      controller = d;
      is = ap (λ s. controller_at s k) (reacts.1 ∙ ap (with_controller old k) is) ∙ at-here old k c d at;
      has = record { before = c.window; stores = []; whole = whole; list = list; elsewhere = tt; is = refl };
      fetched = refl;
    }

pub fetched-commands-are-placed : FetchedCommandsArePlaced
fetched-commands-are-placed e b size queue marked whole within =
    record { queue = refl; whole = whole; entry = refl; within = within }

pub admitted-data-fit : AdmittedDataFit
admitted-data-fit size few = few

-- ---- an execution

-- one that posted a completion was of a command with room for it
pub record Ran (tells : Bool) (old : Subsystem) (k : ℕ) (c : Controller) (i : ℕ) (t : FetchedCommand)
    (outcome : Outcome) (new : Subsystem) : Type 0 where
  pub pair : QueuePair
  pub room : open_pair c t ≡ Some pair
  pub completes : Completes tells old k c i t pair (Executed (Posted outcome)) new

ran-over : (o : Option QueuePair) (tells : Bool) (old : Subsystem) (k : ℕ) (c : Controller) (i : ℕ)
    (t : FetchedCommand) (outcome : Outcome) (new : Subsystem) → open_pair c t ≡ o
    → ExecutesOver o tells old k c i t (Executed (Posted outcome)) new → Ran tells old k c i t outcome new
ran-over None tells old k c i t outcome new is h = let e = h.0 in absurd (cc)
ran-over (Some p) tells old k c i t outcome new is h = record { pair = p; room = is; completes = h }

ran : (tells : Bool) (old : Subsystem) (k : ℕ) (c : Controller) (i : ℕ) (t : FetchedCommand) (outcome : Outcome)
    (new : Subsystem) → controller_at old k ≡ Some c → slice_get c.fetched i ≡ Some t
    → ExecutesAt (controller_at old k) tells old k i (Executed (Posted outcome)) new
    → Ran tells old k c i t outcome new
ran tells old k c i t outcome new at found step =
    let one : ExecutesOne (slice_get c.fetched i) tells old k c i (Executed (Posted outcome)) new =
    subst (λ o. ExecutesAt o tells old k i (Executed (Posted outcome)) new) at step in
    ran-over (open_pair c t) tells old k c i t outcome new refl
    (subst (λ o. ExecutesOne o tells old k c i (Executed (Posted outcome)) new) found one)

of-queue : (is_admin tells : Bool) (queues : Queues) (k : ℕ) (t : FetchedCommand) (s : Scene) (a : CommandExecution)
    → (t.queue == 0) ≡ is_admin → CommandComesTo tells queues k t s a
    → CommandComesToAs is_admin tells queues k t s a
unfolding CommandComesTo
of-queue is_admin tells queues k t s a is h = subst (λ b. CommandComesToAs b tells queues k t s a) is h

same-outcome : (a b : Outcome) → Executed (Posted a) ≡ Executed (Posted b) → a ≡ b
same-outcome a b h = cc

whole-execution : (a : CommandExecution) (outcome : Outcome) → outcome ≡ a.outcome → a.change ≡ Keep
    → a ≡ record { outcome = outcome; change = Keep; left = a.left }
whole-execution a outcome same keeps =
    ap (λ q. record { outcome = a.outcome; change = q; left = a.left }) keeps
    ∙ ap (λ o. record { outcome = o; change = Keep; left = a.left }) (sym same)

pub executed-commands-move-their-own : ExecutedCommandsMoveTheirOwn
executed-commands-move-their-own tells old new k i c t e sent b plan outcome at found is has allowed step =
    let r = ran tells old k c i t outcome new at found step in
    let a = r.completes.execution in
    let io = of-queue false tells (queues_of c) k t (scene_of old c) a is.queue r.completes.comes_to in
    let same : outcome ≡ a.outcome = same-outcome outcome a.outcome r.completes.gives in
    let executes : Executes tells k t.entry t.marked (scene_of old c) a.left outcome =
    subst (λ o. Executes tells k t.entry t.marked (scene_of old c) a.left o) (sym same) io.1 in
    let by_entry : MovesOwnData tells plan k (placed false e b (length sent)) sent b (scene_of old c) a.left outcome =
    executions-move-own-data tells k t.marked (scene_of old c) a.left outcome plan has.before e sent b has.stores
    has.whole has.list is.whole is.within has.elsewhere has.is
    (subst (λ p. io_verdict old.world k p t.marked c.window ≡ Allowed plan) is.entry allowed)
    (subst (λ p. Executes tells k p t.marked (scene_of old c) a.left outcome) is.entry executes) in
    record {
      left = a.left;
      pair = r.pair;
      room = r.room;
      moves = subst (λ p. MovesOwnData tells plan k p sent b (scene_of old c) a.left outcome) (sym is.entry) by_entry;
      leaves = r.completes.leaves
          ∙ ap (λ (x : CommandExecution). after_execution old k c i t r.pair x) (whole-execution a outcome same io.0);
    }

pub executed-admin-commands-move-their-own : ExecutedAdminCommandsMoveTheirOwn
executed-admin-commands-move-their-own tells old new k i c t e sent b command outcome at found is has allowed named
    step =
    let r = ran tells old k c i t outcome new at found step in
    let comes =
    of-queue true tells (queues_of c) k t (scene_of old c) r.completes.execution is.queue r.completes.comes_to in
    let by_entry : AdminMovesOwnData old.world (queues_of c) k command (placed true e b (length sent)) c.window sent b =
    admin-executions-move-own-data old.world (queues_of c) k command has.before c.window e sent b has.stores has.whole
    has.list is.whole is.within has.elsewhere has.is
    (subst (λ p. admin_judgement old.world (queues_of c) k p c.window ≡ Ok tt) is.entry allowed)
    (subst (λ p. command_of (opcode p) ≡ Some command) is.entry named) in
    record {
      pair = r.pair;
      room = r.room;
      moves = subst (λ p. AdminMovesOwnData old.world (queues_of c) k command p c.window sent b) (sym is.entry)
          by_entry;
      leaves = r.completes.leaves ∙ ap (λ (x : CommandExecution). after_execution old k c i t r.pair x) comes;
    }

-- ---- what an answer returns

HoldsIn : Option Controller → ℕ → List ℕ → Type 0
HoldsIn None at bytes = ⊥
HoldsIn (Some c) at bytes = slice_range c.window at (at + length bytes) ≡ bytes

holds-marked : (n : ℕ) (o o' : Option Controller) (at : ℕ) (bytes : List ℕ) → o' ≡ option_map (with_marks n) o
    → HoldsIn o at bytes → HoldsIn o' at bytes
unfolding HoldsIn
holds-marked n None o' at bytes is h = absurd h
holds-marked n (Some c) o' at bytes is h = subst (λ x. HoldsIn x at bytes) (sym is) h

to-holds : (s : Subsystem) (k at : ℕ) (bytes : List ℕ) → HoldsIn (controller_at s k) at bytes → Holds s k at bytes
unfolding HoldsIn
to-holds s k at bytes h = by (controller_at s k) refl h where
  by : (o : Option Controller) → controller_at s k ≡ o → HoldsIn o at bytes → Holds s k at bytes
  by None is h = absurd h
  by (Some c) is h = record { controller = c; is = is; has = h }

own-end : (s : Subsystem) (k : ℕ) (c end : Controller) (at : ℕ) (bytes : List ℕ) → controller_at s k ≡ Some c
    → slice_range end.window at (at + length bytes) ≡ bytes
    → HoldsIn (numbered (replaced s.controllers k end) k) at bytes
unfolding HoldsIn controller_at
own-end s k c end at bytes here held =
    subst (λ o. HoldsIn o at bytes) (sym (replaced-same s.controllers k c end here)) held

take-few : (n : ℕ) (xs : List ℕ) → length (take n xs) ≤ n
take-few n xs = let is = length-take n xs in omega (arith, is)

-- the window of the controller itself after an execution that changes no queue
window-after : (i : ℕ) (t : FetchedCommand) (p : QueuePair) (outcome : Outcome) (left : Scene) (c : Controller)
    → (after_completion i t p (record { outcome = outcome; change = Keep; left = left }) c).window
    ≡ with_bytes left.window (completion_slot p.completion) (completion_of t p outcome.status outcome.dw0)
unfolding after_completion after_queue_change after_posting
window-after i t p outcome left c = refl

pub buffers-hold-what-was-returned : BuffersHoldWhatWasReturned
buffers-hold-what-was-returned tells old new k i c t e sent b plan outcome qid at whole is m elsewhere =
    let a : CommandExecution = record { outcome = outcome; change = Keep; left = m.left } in
    let end : Controller = after_completion i t m.pair a c in
    let returned : List ℕ = take (moved false t.entry) m.moves.returned in
    let address : ℕ = start b (length sent) in
    let moves : moved false t.entry ≡ moved false e =
    ap (moved false) is.entry ∙ moves-as-many false e b (length sent) is.whole in
    let few : length returned ≤ moved false t.entry = take-few (moved false t.entry) m.moves.returned in
    let some : 1 ≤ capacity b = omega (arith, is.within.some, is.within.enough, is.within.fit) in
    let stay : slice_range (after_stores (with_bytes c.window address returned)
    (completion_store m.pair t outcome qid ∷ [])) address (address + length returned) ≡ returned =
    returned-data-stay c.window returned b (length sent) (completion_store m.pair t outcome qid ∷ []) whole
    (is-buffer b some) is.within.fit (omega (arith, few, moves, is.within.enough)) (elsewhere, tt) in
    let held : slice_range end.window address (address + length returned) ≡ returned =
    ap (λ w. slice_range w address (address + length returned))
    (window-after i t m.pair outcome m.left c
    ∙ ap (λ w. with_bytes w (completion_slot m.pair.completion)
    (completion_of t m.pair outcome.status outcome.dw0)) m.moves.window) ∙ stay in
    let own : HoldsIn (numbered (replaced old.controllers k end) k) address returned =
    own-end old k c end address returned at held in
    let now = executed-at old new k c i t m.pair a k m.leaves in
    to-holds new k address returned
    (subst (λ o. HoldsIn o address returned) (sym now)
    (elim (marks-numbered m.left.world outcome.marks (replaced old.controllers k end) k) [
      | inl kept ↦ subst (λ o. HoldsIn o address returned) (sym kept) own
      | inr marked ↦ holds-marked outcome.marks.nsid (numbered (replaced old.controllers k end) k) _ address returned
          marked.marked own
    ]))
