-- For laws about preemption: the fetched commands of a preempted host.
use Rattle.std.proofs.Common.{
  ◌≡◌,
  ℕ,
  zero,
  suc,
  ◌+◌,
  ◌==◌,
  ◌&&◌,
  not,
  Bool,
  true,
  false,
  List,
  [],
  ◌∷◌,
  map,
  Option,
  None,
  Some,
  Ok,
  Err,
  refl,
  sym,
  ap,
  subst,
  ◌∙◌,
  arith,
}
use Rattle.std.specs.Prelude.{if◌then◌else◌, slice_get}
use Rattle.std.proofs.lemmas.Bool.{eqb-true, eq-eqb, false≢true}
use Rattle.std.proofs.lemmas.Option.{same_Some}
use Rattle.nvme_wire.specs.Submission.{opcode, nsid}
use Rattle.nvme_spec.specs.declared.command.Command.{Command}
use Rattle.nvme_spec.specs.declared.command.Command.TheVariants.{ReservationAcquire}
use Rattle.nvme_spec.specs.declared.outcome.Marks.{Marks}
use Rattle.nvme_spec.specs.declared.outcome.Outcome.{Outcome}
use Rattle.nvme_spec.specs.declared.queues.Queues.{Queues}
use Rattle.nvme_spec.specs.declared.verdict.Verdict.{Verdict}
use Rattle.nvme_spec.specs.declared.verdict.Verdict.TheVariants.{Allowed, Denied}
use Rattle.nvme_spec.specs.World.{World, host_of}
use Rattle.nvme_spec.specs.Commands.{command_of, action}
use Rattle.nvme_spec.specs.Rules.{Judgement, judgement_by}
use Rattle.nvme_spec.specs.IoRules.{mark_rule, conclusion}
use Rattle.nvme_spec.specs.IoData.{io_judgement, io_verdict, reservation_outcome, data_of}
use Rattle.nvme_spec.specs.Statuses as status
use Rattle.nvme_spec.specs.AdminRules.{admin_judgement}
use Rattle.nvme_spec.specs.Execution.{Scene, ExecutesBy, marks_on, marks_of, removed_by, no_marks}
use Rattle.nvme_spec.proofs.Passing.{has-passed}
use Rattle.nvme_machine.specs.declared.fetched.FetchedCommand.{FetchedCommand}
use Rattle.nvme_machine.specs.Controllers.{Controller, names, with_mark, with_marks, queues_of}
use Rattle.nvme_machine.specs.CommandExecutions.{CommandExecution, judgement}
use Rattle.nvme_machine.specs.Subsystems.{
  Subsystem,
  controller_at,
  scene_of,
  after_completion,
  after_execution,
  marked_from,
  is_host_among,
  numbered,
  replaced,
}
use Rattle.nvme_machine.specs.Marking.{MarkedIsAborted, AllMarked, PreemptedCommandsAreMarked}
use Rattle.nvme_machine.proofs.Denials.{completion, io-answer, denied_changes_its_entry_alone}

aborted : (s : Scene) (k : ℕ) (t : FetchedCommand) → t.marked ≡ true
    → io_judgement s.world k t.entry t.marked s.window
    ≡ Err (record { rule = 1; status = status.command_aborted_due_to_preempt_and_abort })
unfolding io_judgement mark_rule judgement_by
aborted s k t h = rw h refl

io-judged : (s : Scene) (queues : Queues) (k : ℕ) (t : FetchedCommand)
    → (t.queue == 0) ≡ false → judgement queues k t s ≡ io_judgement s.world k t.entry t.marked s.window
unfolding judgement
io-judged s queues k t io =
    ap (λ b. if b then admin_judgement s.world queues k t.entry s.window
    else io_judgement s.world k t.entry t.marked s.window) io

pub marked_is_aborted : MarkedIsAborted
marked_is_aborted tells old new k i c t p seen step waits marked io =
    denied_changes_its_entry_alone tells old new k i c t p _ seen step waits
    (io-judged (scene_of old c) (queues_of c) k t io ∙ aborted (scene_of old c) k t marked)

-- The commands that marks name are marked.

mark-one : (n : ℕ) (x t : FetchedCommand) → with_mark n x ≡ t → names n t ≡ true → t.marked ≡ true
mark-one n x t is named = by (names n x) refl is
  where
    by : (b : Bool) → names n x ≡ b → (if b then record x { marked = true } else x) ≡ t → t.marked ≡ true
    by true e f = sym (ap (λ (y : FetchedCommand). y.marked) f)
    by false e f = absurd (false≢true (sym e ∙ ap (names n) f ∙ named))

mark-list : (n : ℕ) (ts : List FetchedCommand) (i : ℕ) (t : FetchedCommand)
    → slice_get (map (with_mark n) ts) i ≡ Some t → names n t ≡ true → t.marked ≡ true
mark-list n [] i t is named = absurd (cc)
mark-list n (x ∷ ts) zero t is named = let same : with_mark n x ≡ t = cc in mark-one n x t same named
mark-list n (x ∷ ts) (suc i) t is named = mark-list n ts i t is named

mark-at : (w : World) (m : Marks) (cs : List Controller) (j i h : ℕ) (d : Controller)
    → h ≡ j + i → slice_get (marked_from w m j cs) i ≡ Some d
    → is_host_among m.hosts.items (host_of w h) ≡ true → AllMarked m.nsid d
mark-at w m [] j i h d at is one = absurd (cc)
mark-at w m (c ∷ cs) j zero h d at is one =
    let same : h ≡ j = omega (arith, at) in
    let this : is_host_among m.hosts.items (host_of w j) ≡ true =
    sym (ap (λ x. is_host_among m.hosts.items (host_of w x)) same) ∙ one in
    let c_is : with_marks m.nsid c ≡ d =
    same_Some _ _ (ap (λ b. Some (if b then with_marks m.nsid c else c)) (sym this) ∙ is) in
    subst (AllMarked m.nsid) c_is (λ i t at named. mark-list m.nsid c.fetched i t at named)
mark-at w m (c ∷ cs) j (suc i) h d at is one = mark-at w m cs (j + 1) i h d (omega (arith, at)) is one

mark-numbered : (w : World) (m : Marks) (cs : List Controller) (h : ℕ) (d : Controller)
    → numbered (marked_from w m 1 cs) h ≡ Some d
    → is_host_among m.hosts.items (host_of w h) ≡ true → AllMarked m.nsid d
mark-numbered w m cs zero d is one = absurd (cc)
mark-numbered w m cs (suc i) d is one = mark-at w m cs 1 i (suc i) d (omega arith) is one

-- The marks of a Preempt and Abort that is not denied.

allowed-verdict : (j : Judgement) (o : Option Command) (e : List ℕ) (command : Command) → j ≡ Ok tt → o ≡ Some command
    → (plan : _) × (conclusion j o e ≡ Allowed plan)
allowed-verdict (Err d) o e command is named = absurd (cc)
allowed-verdict (Ok u) None e command is named = absurd (cc)
allowed-verdict (Ok u) (Some c) e command is named = (_, refl)

marks-by : (tells : Bool) (v : Verdict) (s left : Scene) (k : ℕ) (t : FetchedCommand) (o : Outcome)
    → io_verdict s.world k t.entry t.marked s.window ≡ v
    → ExecutesBy v tells k t.entry s left o → io_judgement s.world k t.entry t.marked s.window ≡ Ok tt
    → command_of (opcode t.entry) ≡ Some ReservationAcquire
    → o.marks ≡ marks_of ReservationAcquire t.entry (reservation_outcome s.world k t.entry (data_of s.window t.entry))
marks-by tells (Denied number why) s left k t o is h passed named =
    let p = allowed-verdict (io_judgement s.world k t.entry t.marked s.window)
    (command_of (opcode t.entry)) t.entry ReservationAcquire passed named in
    absurd (let same : Allowed p.0 ≡ Denied number why = sym p.1 ∙ is in cc)
marks-by tells (Allowed plan) s left k t o is h passed named =
    let p = has-passed s.world k t.entry t.marked s.window plan is in
    let kind : plan.kind ≡ ReservationAcquire = same_Some _ _ (sym p.named ∙ named) in
    h.marks
    ∙ ap (λ (x : Command). marks_of x t.entry (reservation_outcome s.world k t.entry (data_of s.window t.entry))) kind

preempts : (e : List ℕ) (o : Option _)
    → action e ≡ 2 → marks_of ReservationAcquire e o ≡ marks_on (nsid e) (removed_by o)
preempts e o two = ap (λ b. if b then marks_on (nsid e) (removed_by o) else no_marks) (eq-eqb (action e) 2 two)

-- if some host is removed, all its commands are named
among-marks : (n : ℕ) (hosts : List ℕ) (host : Option ℕ) → is_host_among hosts host ≡ true
    → (is_host_among (marks_on n hosts).hosts.items host ≡ true) × ((marks_on n hosts).nsid ≡ n)
among-marks n [] None h = absurd (false≢true h)
among-marks n [] (Some x) h = absurd (false≢true h)
among-marks n (y ∷ ys) host h = (h, refl)

pub io_name : (n : ℕ) (t : FetchedCommand) → names n t ≡ true → ((t.queue == 0) ≡ false) × (nsid t.entry ≡ n)
io_name n t h = by (t.queue == 0) h
  where
    by : (b : Bool) → (not b && (nsid t.entry == n)) ≡ true → (b ≡ false) × (nsid t.entry ≡ n)
    by true f = absurd (cc)
    by false f = (refl, eqb-true (nsid t.entry) n f)

pub preempted_commands_are_marked : PreemptedCommandsAreMarked
unfolding after_execution controller_at
preempted_commands_are_marked tells old new k i n c t p seen step waits named command two allowed other d
    there removed =
    let done = completion tells old new k i c t p seen step waits in
    let a : CommandExecution = done.execution in
    let s : Scene = scene_of old c in
    let io = io_name n t named in
    let world : new.world ≡ a.left.world = ap (λ (x : Subsystem). x.world) done.leaves in
    let answer = io-answer tells (queues_of c) k t s a io.0 done.comes_to in
    let out = reservation_outcome old.world k t.entry (data_of c.window t.entry) in
    let are : a.outcome.marks ≡ marks_on (nsid t.entry) (removed_by out) =
    marks-by tells (io_verdict s.world k t.entry t.marked s.window) s a.left k t a.outcome refl answer.1
    (sym (io-judged s (queues_of c) k t io.0) ∙ allowed) command
    ∙ preempts t.entry out two in
    let named_all = among-marks (nsid t.entry) (removed_by out) (host_of new.world other) removed in
    let one : is_host_among a.outcome.marks.hosts.items (host_of a.left.world other) ≡ true =
    ap (λ w. is_host_among a.outcome.marks.hosts.items (host_of w other)) (sym world)
    ∙ ap (λ (m : Marks). is_host_among m.hosts.items (host_of new.world other)) are ∙ named_all.0 in
    let placed :
    numbered (marked_from a.left.world a.outcome.marks 1 (replaced old.controllers k (after_completion i t p a c)))
    other ≡ Some d =
    ap (λ (x : Subsystem). controller_at x other) (sym done.leaves) ∙ there in
    subst (λ x. AllMarked x d) (ap (λ (m : Marks). m.nsid) are ∙ named_all.1 ∙ io.1)
    (mark-numbered a.left.world a.outcome.marks
    (replaced old.controllers k (after_completion i t p a c)) other d placed one)
