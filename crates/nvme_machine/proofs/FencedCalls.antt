-- Proofs of the laws about fenced hosts' calls, about a Flush, which is one flush call, and about the order of calls.
use Rattle.std.proofs.Common.{
  ◌≡◌,
  ◌⊎◌,
  inl,
  inr,
  ℕ,
  ◌+◌,
  ◌<◌,
  ◌≤◌,
  ◌==◌,
  ◌&&◌,
  not,
  Bool,
  true,
  false,
  List,
  [],
  ◌∷◌,
  ◌++◌,
  append_assoc,
  Some,
  Ok,
  Err,
  refl,
  sym,
  ap,
  subst,
  ◌∙◌,
  arith,
}
use Rattle.std.specs.Prelude.{slice_get, option_map}
use Rattle.std.specs.List.{AllByRecursion}
use Rattle.std.proofs.lemmas.Bool.{eqb-true, eqb-false, cases_Bool, false≢true}
use Rattle.std.proofs.lemmas.Option.{same_Some}
use Rattle.nvme_wire.specs.Submission.{nsid}
use Rattle.nvme_wire.specs.declared.status.Status.{Status}
use Rattle.nvme_spec.specs.declared.command.Command.{Command}
use Rattle.nvme_spec.specs.declared.command.Command.TheVariants.{Flush}
use Rattle.nvme_spec.specs.declared.outcome.Outcome.{Outcome}
use Rattle.nvme_spec.specs.declared.verdict.Plan.{Plan}
use Rattle.nvme_spec.specs.declared.verdict.Verdict.{Verdict}
use Rattle.nvme_spec.specs.declared.verdict.Verdict.TheVariants.{Allowed}
use Rattle.nvme_spec.specs.CommandCalls.{AreCallsBy, AreCallsOf}
use Rattle.nvme_spec.specs.BlockCommands.{answer_of}
use Rattle.nvme_spec.specs.IoData.{io_verdict}
use Rattle.nvme_spec.specs.Layout.{Extent, AreApart, extent_of, may_read, may_write}
use Rattle.nvme_spec.specs.MediumCalls.{MediumAnswer, MediumCall, Reads, Writes, Flushes}
use Rattle.nvme_spec.specs.Statuses as status
use Rattle.nvme_spec.specs.World.{World, Namespace, namespace_of}
use Rattle.nvme_machine.specs.declared.event.Event.{Event}
use Rattle.nvme_machine.specs.declared.event.Event.TheVariants.{Execute}
use Rattle.nvme_machine.specs.declared.fetched.FetchedCommand.{FetchedCommand}
use Rattle.nvme_machine.specs.declared.seen.Executed.TheVariants.{Posted}
use Rattle.nvme_machine.specs.declared.seen.Seen.TheVariants.{Executed}
use Rattle.nvme_machine.specs.Calling.{AreCallsAs, AreCallsOfExecution}
use Rattle.nvme_machine.specs.Controllers.{Controller, QueuePair, names, open_pair}
use Rattle.nvme_machine.specs.EventCalls.{CompletesCalling, CallingOver, CallingOne, CallingAt}
use Rattle.nvme_machine.specs.Fencing.{IsAllowedAt}
use Rattle.nvme_machine.specs.Subsystems.{Subsystem, OfItsController, Step, controller_at, scene_of}
use Rattle.nvme_machine.specs.AllowedCalls.{
  IsCallOf,
  MayCall,
  IsReading,
  FencedCommandsCallNothing,
  HaveTheirOwn,
  KeepsOff,
  FencedHostsWriteNoBlock,
  IsOneFlush,
  FlushReachesTheMedium,
  CallsAreInOrder,
}
use Rattle.nvme_machine.proofs.AllowedCalls.{all-joined, all-mapped, all-of-none, calls_are_allowed}
use Rattle.nvme_machine.proofs.EventCalls.{calls_are_of_a_step}
use Rattle.nvme_machine.proofs.Fencing.{permissions_stay, still-fenced}
use Rattle.nvme_machine.proofs.Layouts.{step-extents}

-- A fenced command.

names-one : (n m : ℕ) (t u : FetchedCommand) → u ≡ t → names n t ≡ true → names m u ≡ true → m ≡ n
names-one n m t u same x y =
    sym (second (t.queue == 0) (nsid t.entry) m (ap (λ (z : FetchedCommand). names m z) (sym same) ∙ y))
    ∙ second (t.queue == 0) (nsid t.entry) n x
  where
    second : (b : Bool) (i j : ℕ) → (not b && (i == j)) ≡ true → i ≡ j
    second true i j h = absurd (false≢true h)
    second false i j h = eqb-true i j h

module _ (s : Subsystem) (k i n : ℕ) (c : Controller) (t : FetchedCommand) (at : controller_at s k ≡ Some c)
    (found : slice_get c.fetched i ≡ Some t) (on : names n t ≡ true) where
  -- an allowed command here is that command
  same-namespace : {commands : List Command} (m : ℕ) → IsAllowedAt commands s k i m → m ≡ n
  same-namespace m a =
      let one : a.controller ≡ c = same_Some _ _ (sym a.at ∙ at) in
      let two : a.command ≡ t =
      same_Some _ _ (sym a.found ∙ ap (λ (x : Controller). slice_get x.fetched i) one ∙ found) in
      names-one n m t a.command two on a.named

  fenced-call : may_write s.world k n ≡ false → (call : MediumCall) → IsCallOf s k i call → IsReading call
  fenced-call fenced (Reads b answer) may = tt
  fenced-call fenced (Writes b bytes answer) (m, w) =
      let is = w.block.is in
      absurd (false≢true (sym fenced ∙ ap (λ x. may_write s.world k x) (sym (same-namespace m is)) ∙ w.permitted))
  fenced-call fenced (Flushes answer) (m, w) =
      absurd (false≢true (sym fenced ∙ ap (λ x. may_write s.world k x) (sym (same-namespace m w.is)) ∙ w.permitted))

  no-call : may_write s.world k n ≡ false → may_read s.world k n ≡ false → (call : MediumCall) → IsCallOf s k i call → ⊥
  no-call fenced blind (Reads b answer) (m, r) =
      let is = r.block.is in
      false≢true (sym blind ∙ ap (λ x. may_read s.world k x) (sym (same-namespace m is)) ∙ r.permitted)
  no-call fenced blind (Writes b bytes answer) may = fenced-call fenced (Writes b bytes answer) may
  no-call fenced blind (Flushes answer) may = fenced-call fenced (Flushes answer) may

none-at-all : {A : Type 0} (xs : List A) → AllByRecursion (λ x. ⊥) xs → xs ≡ []
none-at-all [] h = refl
none-at-all (x ∷ xs) h = absurd h.0

pub fenced_commands_call_nothing : FencedCommandsCallNothing
fenced_commands_call_nothing tells old new k i n c t seen calls made at found on fenced =
    let all = calls_are_allowed tells old new (Execute k i) seen calls made in (
      all-mapped (IsCallOf old k i) IsReading calls (fenced-call old k i n c t at found on fenced) all,
      λ blind. none-at-all calls
          (all-mapped (IsCallOf old k i) (λ x. ⊥) calls (no-call old k i n c t at found on fenced blind) all),
    )

-- Fenced hosts, over a run.

known-extent : (w : World) (m : ℕ) (space : Namespace)
    → namespace_of w m ≡ Some space → extent_of w m ≡ Some (record { first = space.first; blocks = space.blocks })
unfolding extent_of
known-extent w m space named = ap
    (λ o. option_map (λ (x : Namespace). (let e : Extent = record { first = x.first; blocks = x.blocks } in e)) o) named

apart-from : (x y : Extent) (b : ℕ) → AreApart x y → y.first ≤ b → b < y.first + y.blocks
    → (b < x.first) ⊎ (x.first + x.blocks ≤ b)
apart-from x y b (inl before) low high = inr (omega (arith, before, low))
apart-from x y b (inr behind) low high = inl (omega (arith, behind, high))

pub elsewhere : (s : Subsystem) (event : Event) (n : ℕ) (x : Extent) → HaveTheirOwn s.world
    → extent_of s.world n ≡ Some x → OfItsController (λ k. may_write s.world k n ≡ false) event → (call : MediumCall)
    → MayCall s event call → KeepsOff x call
elsewhere s (Execute k i) n x own is fenced (Reads b answer) may = tt
elsewhere s (Execute k i) n x own is fenced (Flushes answer) may = tt
elsewhere s (Execute k i) n x own is fenced (Writes b bytes answer) (m, w) =
    let block = w.block in
    let y : Extent = record { first = block.space.first; blocks = block.space.blocks } in
    let place = block.place in
    let inside = block.inside in
    elim (cases_Bool (m == n)) [
      | inl here ↦ (let same : m ≡ n = eqb-true m n here in
          absurd (false≢true (sym fenced ∙ ap (λ z. may_write s.world k z) (sym same) ∙ w.permitted)))
      | inr there ↦ apart-from x y b
          (own n m x y (λ same. eqb-false m n there (sym same)) is (known-extent s.world m block.space block.there))
          (omega (arith, place)) (omega (arith, place, inside))
    ]
elsewhere s event n x own is fenced call may = absurd may

pub fenced_hosts_write_no_block : FencedHostsWriteNoBlock
fenced_hosts_write_no_block tells old new [] [] calls n x own is run fenced = all-of-none (KeepsOff x) calls run.1
fenced_hosts_write_no_block tells old new [] (seen ∷ later) calls n x own is run fenced = absurd run
fenced_hosts_write_no_block tells old new (event ∷ events) [] calls n x own is run fenced = absurd run
fenced_hosts_write_no_block tells old new (event ∷ events) (seen ∷ later) calls n x own is
    (mid, here, behind, quiet, made, rest, joined) fenced =
    let step : Step tells old event seen mid = calls_are_of_a_step tells old mid event seen here made in
    let same = step-extents tells old mid event seen step in
    let kept : HaveTheirOwn mid.world =
    λ a b y z other p q. own a b y z other (sym (same.extents a) ∙ p) (sym (same.extents b) ∙ q) in
    subst (AllByRecursion (KeepsOff x)) (sym joined)
    (all-joined (KeepsOff x) here behind
    (all-mapped (MayCall old event) (KeepsOff x) here (elsewhere old event n x own is fenced.0)
    (calls_are_allowed tells old mid event seen here made))
    (fenced_hosts_write_no_block tells mid new events later behind n x kept (same.extents n ∙ is) rest
    (still-fenced old.world mid.world n events (permissions_stay tells old mid event seen n step quiet) fenced.1)))

-- A Flush.

flush-passed : (answer : MediumAnswer) (s : Status) → s ≡ answer_of answer status.write_fault
    → s ≡ status.successful_completion → answer ≡ Ok tt
flush-passed (Ok tt) s is ok = refl
flush-passed (Err fault) s is ok = absurd (differ (sym is ∙ ok))
  where
    differ : status.write_fault ≡ status.successful_completion → ⊥
    differ h = let e : status.write_fault.sct ≡ status.successful_completion.sct = ap (λ (x : Status). x.sct) h in
        omega (arith, e)

one-flush : (kind : Command) (first blocks : ℕ) (sent : List ℕ) (stored : ℕ → List ℕ → Type 0) (outcome : Outcome)
    (calls : List MediumCall) → kind ≡ Flush
    → AreCallsOf kind first blocks sent stored outcome.status calls → IsOneFlush outcome calls
one-flush kind first blocks sent stored outcome calls is h =
    let f : AreCallsOf Flush first blocks sent stored outcome.status calls =
    subst (λ x. AreCallsOf x first blocks sent stored outcome.status calls) is h in
    record {
      answer = f.answer;
      alone = f.are;
      answered = f.reached;
      passed = flush-passed f.answer outcome.status f.reached;
    }

flush-by : (v : Verdict) (w : World) (memory e : List ℕ) (outcome : Outcome) (after : List ℕ) (calls : List MediumCall)
    (plan : Plan) → v ≡ Allowed plan → plan.kind ≡ Flush
    → AreCallsBy v w memory e outcome.status after calls → IsOneFlush outcome calls
flush-by v w memory e outcome after calls plan is flush h =
    one-flush plan.kind _ _ _ _ outcome calls flush
    (subst (λ x. AreCallsBy x w memory e outcome.status after calls) is h)

posted-one : (x y : Outcome) → Executed (Posted x) ≡ Executed (Posted y) → x ≡ y
posted-one x y h = cc

flush-completes : (tells : Bool) (old : Subsystem) (k : ℕ) (c : Controller) (i : ℕ) (t : FetchedCommand) (p : QueuePair)
    (outcome : Outcome) (new : Subsystem) (calls : List MediumCall) (plan : Plan)
    → CompletesCalling tells old k c i t p (Executed (Posted outcome)) new calls → (t.queue == 0) ≡ false
    → io_verdict old.world k t.entry t.marked c.window ≡ Allowed plan → plan.kind ≡ Flush → IsOneFlush outcome calls
unfolding AreCallsOfExecution
flush-completes tells old k c i t p outcome new calls plan h io is flush =
    let a = h.completes.execution in
    let same : outcome ≡ a.outcome = posted-one outcome a.outcome h.completes.gives in
    subst (λ o. IsOneFlush o calls) (sym same)
    (flush-by (io_verdict old.world k t.entry t.marked c.window) old.world c.window t.entry a.outcome a.left.window
    calls plan is flush (subst (λ b. AreCallsAs b k t (scene_of old c) a calls) io h.are))

pub flush_reaches_the_medium : FlushReachesTheMedium
flush_reaches_the_medium tells old new k i c t p plan outcome calls made waits io is flush =
    let one : CallingOne (slice_get c.fetched i) tells old k c i (Executed (Posted outcome)) new calls =
    subst (λ o. CallingAt o tells old k i (Executed (Posted outcome)) new calls) waits.at made in
    let over : CallingOver (open_pair c t) tells old k c i t (Executed (Posted outcome)) new calls =
    subst (λ o. CallingOne o tells old k c i (Executed (Posted outcome)) new calls) waits.found one in
    let done : CompletesCalling tells old k c i t p (Executed (Posted outcome)) new calls =
    subst (λ o. CallingOver o tells old k c i t (Executed (Posted outcome)) new calls) waits.room over in
    flush-completes tells old k c i t p outcome new calls plan done io is flush

-- The order of calls.
pub calls_are_in_order : CallsAreInOrder
calls_are_in_order tells old new [] later event [] calls h = absurd h
calls_are_in_order tells old new [] later event (x ∷ rest) calls (mid, here, behind, step, run, joined) = record {
  given = [];
  gives = x;
  rest = rest;
  told = refl;
  now = old;
  next = mid;
  before = [];
  own = here;
  behind = behind;
  first = (refl, refl);
  then_this = step;
  then_those = run;
  joined = joined;
}
calls_are_in_order tells old new (e ∷ front) later event [] calls h = absurd h
calls_are_in_order tells old new (e ∷ front) later event (x ∷ seen) calls (mid, here, behind, step, run, joined) =
    let r = calls_are_in_order tells mid new front later event seen behind run in
    record {
      given = x ∷ r.given;
      gives = r.gives;
      rest = r.rest;
      told = ap (λ xs. x ∷ xs) r.told;
      now = r.now;
      next = r.next;
      before = here ++ r.before;
      own = r.own;
      behind = r.behind;
      first = (mid, here, r.before, step, r.first, refl);
      then_this = r.then_this;
      then_those = r.then_those;
      joined = joined ∙ ap (λ cs. here ++ cs) r.joined ∙ sym (append_assoc here r.before (r.own ++ r.behind));
    }
