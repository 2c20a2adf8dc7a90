-- Proofs of the laws about allowed calls: each call of the medium is one of a command that all rules let pass.
use Rattle.std.proofs.Common.{
  ◌≡◌,
  inl,
  inr,
  ℕ,
  zero,
  suc,
  ◌+◌,
  ◌*◌,
  ◌<◌,
  ◌≤◌,
  ◌==◌,
  ◌&&◌,
  ◌||◌,
  not,
  Bool,
  true,
  false,
  List,
  [],
  ◌∷◌,
  ◌++◌,
  Option,
  None,
  Some,
  Ok,
  Err,
  replicate,
  refl,
  sym,
  ap,
  subst,
  ◌∙◌,
  arith,
}
use Rattle.std.specs.Prelude.{slice_get, is_some}
use Rattle.std.specs.List.{AllByRecursion}
use Rattle.std.proofs.lemmas.Bool.{leb-true, eq-eqb}
use Rattle.nvme_wire.specs.Submission.{nsid}
use Rattle.nvme_wire.specs.declared.status.Status.{Status}
use Rattle.nvme_spec.specs.declared.command.Command.{Command}
use Rattle.nvme_spec.specs.declared.command.Command.TheVariants.{
  Flush,
  Write,
  Read,
  Compare,
  WriteZeroes,
  ReservationRegister,
  ReservationReport,
  ReservationAcquire,
  ReservationRelease,
}
use Rattle.nvme_spec.specs.declared.verdict.Plan.{Plan}
use Rattle.nvme_spec.specs.declared.verdict.Verdict.{Verdict}
use Rattle.nvme_spec.specs.declared.verdict.Verdict.TheVariants.{Allowed, Denied}
use Rattle.nvme_spec.specs.Blocks.{block_at}
use Rattle.nvme_spec.specs.CommandCalls.{AreCallsBy, AreCallsOf}
use Rattle.nvme_spec.specs.BlockCommands.{ComparesUpTo}
use Rattle.nvme_spec.specs.Commands.{altering, readers, is_one_of, block_count, starting_lba}
use Rattle.nvme_spec.specs.Execution.{medium_block, start_of}
use Rattle.nvme_spec.specs.IoData.{data_of, io_verdict}
use Rattle.nvme_spec.specs.IoRules.{has_blocks_below}
use Rattle.nvme_spec.specs.Layout.{may_read, may_write}
use Rattle.nvme_spec.specs.MediumCalls.{MediumAnswer, MediumCall, EndsAt, course, passing, reads_from, writes_from}
use Rattle.nvme_spec.specs.World.{World, Namespace, is_attached, namespace_of}
use Rattle.nvme_spec.proofs.Passing.{HasPassed, has-passed, not_false, some_of}
use Rattle.nvme_machine.specs.declared.event.Event.{Event}
use Rattle.nvme_machine.specs.declared.event.Event.TheVariants.{Execute, PowerCycle}
use Rattle.nvme_machine.specs.declared.fetched.FetchedCommand.{FetchedCommand}
use Rattle.nvme_machine.specs.declared.seen.Seen.{Seen}
use Rattle.nvme_machine.specs.CommandExecutions.{CommandExecution}
use Rattle.nvme_machine.specs.Calling.{AreCallsAs, AreCallsOfExecution}
use Rattle.nvme_machine.specs.Controllers.{Controller, QueuePair, names, open_pair}
use Rattle.nvme_machine.specs.EventCalls.{CallingOver, CallingOne, CallingAt, AreCallsOfStep}
use Rattle.nvme_machine.specs.Fencing.{IsAllowedAt}
use Rattle.nvme_machine.specs.Subsystems.{Subsystem, controller_at, scene_of}
use Rattle.nvme_machine.specs.AllowedCalls.{
  NamesBlock,
  IsCallOf,
  MayCall,
  CallsAreAllowed,
  ComesFrom,
  CallsOfRunsAreAllowed,
  written_by,
}
use Rattle.nvme_machine.proofs.EventCalls.{calls_are_of_a_step}

-- Lists.

pub all-joined : {A : Type 0} (P : A → Type 0) (xs ys : List A) → AllByRecursion P xs → AllByRecursion P ys
    → AllByRecursion P (xs ++ ys)
all-joined P [] ys h g = g
all-joined P (x ∷ xs) ys h g = (h.0, all-joined P xs ys h.1 g)

pub all-of-none : {A : Type 0} (P : A → Type 0) (xs : List A) → xs ≡ [] → AllByRecursion P xs
all-of-none P xs h = subst (AllByRecursion P) (sym h) tt

pub all-mapped : {A : Type 0} (P Q : A → Type 0) (xs : List A) → ((x : A) → P x → Q x) → AllByRecursion P xs
    → AllByRecursion Q xs
all-mapped P Q [] f h = tt
all-mapped P Q (x ∷ xs) f h = (f x h.0, all-mapped P Q xs f h.1)

-- The calls of a transfer: each is one of its blocks.

-- some calls succeeded, and the next one may have failed
abbrev EndsWithin : ℕ → ℕ → MediumAnswer → Type 0
EndsWithin blocks passed (Ok done) = passed ≤ blocks
EndsWithin blocks passed (Err fault) = passed < blocks

all-passing : (P : MediumCall → Type 0) (call : ℕ → MediumAnswer → MediumCall) (blocks : ℕ)
    → ((j : ℕ) (r : MediumAnswer) → j < blocks → P (call j r)) → (n : ℕ)
    → n ≤ blocks → AllByRecursion P (passing call n)
all-passing P call blocks f zero h = tt
all-passing P call blocks f (suc n) h = all-joined P (passing call n) (call n (Ok tt) ∷ [])
    (all-passing P call blocks f n (omega (arith, h))) (f n (Ok tt) (omega (arith, h)), tt)

all-course : (P : MediumCall → Type 0) (call : ℕ → MediumAnswer → MediumCall) (blocks passed : ℕ)
    (answer : MediumAnswer) → ((j : ℕ) (r : MediumAnswer) → j < blocks → P (call j r)) → EndsWithin blocks passed answer
    → AllByRecursion P (course call passed answer)
all-course P call blocks passed (Ok done) f h = all-passing P call blocks f passed h
all-course P call blocks passed (Err fault) f h =
    all-joined P (passing call passed) (call passed (Err fault) ∷ [])
    (all-passing P call blocks f passed (omega (arith, h))) (f passed (Err fault) h, tt)

ends-within : (blocks passed : ℕ) (answer : MediumAnswer)
    → EndsAt blocks passed answer → EndsWithin blocks passed answer
ends-within blocks passed (Ok done) h = omega (arith, h)
ends-within blocks passed (Err fault) h = h

compares-within : (blocks passed : ℕ) (bytes read : List ℕ) (answer : MediumAnswer) (answered : Status)
    → ComparesUpTo blocks bytes passed read answer answered → EndsWithin blocks passed answer
compares-within blocks passed bytes read (Ok done) answered (inl h) = omega (arith, h.0)
compares-within blocks passed bytes read (Ok done) answered (inr h) = h.0
compares-within blocks passed bytes read (Err fault) answered h = h.0

-- One command.

or-false : (b : Bool) → (b || false) ≡ false → b ≡ false
or-false true h = h
or-false false h = h

-- the namespace of a command on a range, and that the range is in it
record LiesIn (w : World) (e : List ℕ) : Type 0 where
  space : Namespace
  named : namespace_of w (nsid e) ≡ Some space
  fits : starting_lba e + block_count e ≤ space.blocks

lies-in : (w : World) (k : ℕ) (e : List ℕ) → (is_some (namespace_of w (nsid e)) && is_attached w k (nsid e)) ≡ true
    → not (has_blocks_below (namespace_of w (nsid e)) (starting_lba e + block_count e)) ≡ false → LiesIn w e
lies-in w k e attached below =
    let s = some_of (namespace_of w (nsid e)) (is_attached w k (nsid e)) attached in
    record {
      space = s.0;
      named = s.1;
      fits = leb-true _ _
          (not_false _ (ap (λ o. not (has_blocks_below o (starting_lba e + block_count e))) (sym s.1) ∙ below));
    }

module _ (s : Subsystem) (k i : ℕ) (c : Controller) (t : FetchedCommand) (at : controller_at s k ≡ Some c)
    (found : slice_get c.fetched i ≡ Some t) (io : (t.queue == 0) ≡ false) where
  named : names (nsid t.entry) t ≡ true
  named = ap (λ b. not b && (nsid t.entry == nsid t.entry)) io ∙ eq-eqb (nsid t.entry) (nsid t.entry) refl

  module _ (plan : Plan) (allowed : io_verdict s.world k t.entry t.marked c.window ≡ Allowed plan) where
    one-of : (commands : List Command) → is_one_of (Some plan.kind) commands ≡ true
        → IsAllowedAt commands s k i (nsid t.entry)
    one-of commands is = record {
      controller = c;
      command = t;
      at = at;
      found = found;
      named = named;
      allowed = record { plan = plan; allowed = allowed; is_one = is };
    }

    names-block : (commands : List Command) (is : is_one_of (Some plan.kind) commands ≡ true)
        → LiesIn s.world t.entry → (j : ℕ)
        → j < block_count t.entry → NamesBlock commands s k i (nsid t.entry) (medium_block s.world t.entry + j)
    unfolding one-of
    names-block commands is l j below =
        let start : medium_block s.world t.entry ≡ l.space.first + starting_lba t.entry =
        ap (λ o. start_of o + starting_lba t.entry) l.named in
        let fits = l.fits in
        record {
          is = one-of commands is;
          space = l.space;
          there = l.named;
          nth = j;
          below = below;
          inside = omega (arith, fits, below);
          place = omega (arith, start);
        }

    writes-block : is_one_of (Some plan.kind) altering ≡ true → LiesIn s.world t.entry
        → may_write s.world k (nsid t.entry) ≡ true → (bytes : List ℕ) → bytes ≡ written_by plan.kind c.window t.entry
        → (j : ℕ) (r : MediumAnswer)
        → j < block_count t.entry → IsCallOf s k i (writes_from (medium_block s.world t.entry) bytes j r)
    unfolding names-block
    writes-block is l may bytes same j r below = (
      nsid t.entry,
      record { block = names-block altering is l j below; permitted = may; has = ap (λ xs. block_at xs j) same },
    )

    reads-block : is_one_of (Some plan.kind) readers ≡ true → LiesIn s.world t.entry
        → may_read s.world k (nsid t.entry) ≡ true → (read : List ℕ)
        → (j : ℕ) (r : MediumAnswer)
        → j < block_count t.entry → IsCallOf s k i (reads_from (medium_block s.world t.entry) read j r)
    reads-block is l may read j r below =
        (nsid t.entry, record { block = names-block readers is l j below; permitted = may })

    of-command : (kind : Command) (stored : ℕ → List ℕ → Type 0) (answered : Status) (calls : List MediumCall)
        → plan.kind ≡ kind → HasPassed s.world k t.entry kind
        → AreCallsOf kind (medium_block s.world t.entry) (block_count t.entry)
        (data_of c.window t.entry) stored answered calls → AllByRecursion (IsCallOf s k i) calls
    unfolding may_write may_read
    of-command Flush stored answered calls is p h =
        subst (AllByRecursion (IsCallOf s k i)) (sym h.are) (
          (
            nsid t.entry,
            record {
              is = one-of (Flush ∷ []) (ap (λ x. is_one_of (Some x) (Flush ∷ [])) is);
              permitted = not_false _ p.permitted;
            },
          ),
          tt,
        )
    of-command Write stored answered calls is p h =
        let l = lies-in s.world k t.entry p.attached p.fits in
        subst (AllByRecursion (IsCallOf s k i)) (sym h.are)
        (all-course (IsCallOf s k i) (writes_from (medium_block s.world t.entry) (data_of c.window t.entry))
        (block_count t.entry) h.passed h.answer
        (writes-block (ap (λ x. is_one_of (Some x) altering) is) l (not_false _ p.permitted) (data_of c.window t.entry)
        (ap (λ x. written_by x c.window t.entry) (sym is)))
        (ends-within (block_count t.entry) h.passed h.answer h.reached.0))
    of-command WriteZeroes stored answered calls is p h =
        let l = lies-in s.world k t.entry p.attached p.fits in
        subst (AllByRecursion (IsCallOf s k i)) (sym h.are)
        (all-course (IsCallOf s k i) (writes_from (medium_block s.world t.entry)
        (replicate (512 * block_count t.entry) 0)) (block_count t.entry) h.passed h.answer
        (writes-block (ap (λ x. is_one_of (Some x) altering) is) l (not_false _ p.permitted)
        (replicate (512 * block_count t.entry) 0) (ap (λ x. written_by x c.window t.entry) (sym is)))
        (ends-within (block_count t.entry) h.passed h.answer h.reached.0))
    of-command Read stored answered calls is p h =
        let l = lies-in s.world k t.entry p.attached p.fits in
        subst (AllByRecursion (IsCallOf s k i)) (sym h.are)
        (all-course (IsCallOf s k i) (reads_from (medium_block s.world t.entry) h.read)
        (block_count t.entry) h.passed h.answer
        (reads-block (ap (λ x. is_one_of (Some x) readers) is) l (not_false _ (or-false _ p.permitted)) h.read)
        (ends-within (block_count t.entry) h.passed h.answer h.reached.0))
    of-command Compare stored answered calls is p h =
        let l = lies-in s.world k t.entry p.attached p.fits in
        subst (AllByRecursion (IsCallOf s k i)) (sym h.are)
        (all-course (IsCallOf s k i) (reads_from (medium_block s.world t.entry) h.read)
        (block_count t.entry) h.passed h.answer
        (reads-block (ap (λ x. is_one_of (Some x) readers) is) l (not_false _ (or-false _ p.permitted)) h.read)
        (compares-within (block_count t.entry) h.passed (data_of c.window t.entry) h.read h.answer answered h.reached))
    of-command ReservationRegister stored answered calls is p h = all-of-none (IsCallOf s k i) calls h.are
    of-command ReservationReport stored answered calls is p h = all-of-none (IsCallOf s k i) calls h.are
    of-command ReservationAcquire stored answered calls is p h = all-of-none (IsCallOf s k i) calls h.are
    of-command ReservationRelease stored answered calls is p h = all-of-none (IsCallOf s k i) calls h.are

  of-verdict : (v : Verdict) (answered : Status) (after : List ℕ) (calls : List MediumCall)
      → io_verdict s.world k t.entry t.marked c.window ≡ v
      → AreCallsBy v s.world c.window t.entry answered after calls → AllByRecursion (IsCallOf s k i) calls
  of-verdict (Denied number why) answered after calls is h = all-of-none (IsCallOf s k i) calls h
  of-verdict (Allowed plan) answered after calls is h =
      of-command plan is plan.kind _ answered calls refl (has-passed s.world k t.entry t.marked c.window plan is) h

of-answer : (admin : Bool) (s : Subsystem) (k i : ℕ) (c : Controller) (t : FetchedCommand) (a : CommandExecution)
    (calls : List MediumCall) → controller_at s k ≡ Some c → slice_get c.fetched i ≡ Some t → (t.queue == 0) ≡ admin
    → AreCallsAs admin k t (scene_of s c) a calls → AllByRecursion (IsCallOf s k i) calls
of-answer true s k i c t a calls at found io h = all-of-none (IsCallOf s k i) calls h
of-answer false s k i c t a calls at found io h =
    of-verdict s k i c t at found io
    (io_verdict s.world k t.entry t.marked c.window) a.outcome.status a.left.window calls refl h

-- An event.

of-over : (o : Option QueuePair) (tells : Bool) (s : Subsystem) (k : ℕ) (c : Controller) (i : ℕ) (t : FetchedCommand)
    (seen : Seen) (new : Subsystem) (calls : List MediumCall) → controller_at s k ≡ Some c
    → slice_get c.fetched i ≡ Some t → CallingOver o tells s k c i t seen new calls
    → AllByRecursion (IsCallOf s k i) calls
unfolding AreCallsOfExecution
of-over None tells s k c i t seen new calls at found h = all-of-none (IsCallOf s k i) calls h.2
of-over (Some p) tells s k c i t seen new calls at found h =
    of-answer (t.queue == 0) s k i c t h.completes.execution calls at found refl h.are

of-one : (o : Option FetchedCommand) (tells : Bool) (s : Subsystem) (k : ℕ) (c : Controller) (i : ℕ) (seen : Seen)
    (new : Subsystem) (calls : List MediumCall) → controller_at s k ≡ Some c → slice_get c.fetched i ≡ o
    → CallingOne o tells s k c i seen new calls → AllByRecursion (IsCallOf s k i) calls
of-one None tells s k c i seen new calls at found h = all-of-none (IsCallOf s k i) calls h.2
of-one (Some t) tells s k c i seen new calls at found h =
    of-over (open_pair c t) tells s k c i t seen new calls at found h

of-at : (o : Option Controller) (tells : Bool) (s : Subsystem)
    (k i : ℕ) (seen : Seen) (new : Subsystem) (calls : List MediumCall)
    → controller_at s k ≡ o → CallingAt o tells s k i seen new calls → AllByRecursion (IsCallOf s k i) calls
of-at None tells s k i seen new calls at h = all-of-none (IsCallOf s k i) calls h.2
of-at (Some c) tells s k i seen new calls at h = of-one (slice_get c.fetched i) tells s k c i seen new calls at refl h

pub calls_are_allowed : CallsAreAllowed
calls_are_allowed tells old new (Execute k i) seen calls h =
    of-at (controller_at old k) tells old k i seen new calls refl h
calls_are_allowed tells old new PowerCycle seen calls h = all-of-none (MayCall old PowerCycle) calls h.2
calls_are_allowed tells old new event seen calls h = all-of-none (MayCall old event) calls h.1

-- A run.

behind-it : (tells : Bool) (old mid : Subsystem) (event : Event) (seen : Seen) (here : List MediumCall)
    (events : List Event) (call : MediumCall) → AreCallsOfStep tells old event seen mid here
    → ComesFrom tells mid events call → ComesFrom tells old (event ∷ events) call
behind-it tells old mid event seen here events call step c = record {
  front = event ∷ c.front;
  event = c.event;
  later = c.later;
  split = ap (λ es. event ∷ es) c.split;
  given = seen ∷ c.given;
  now = c.now;
  reached = (mid, calls_are_of_a_step tells old mid event seen here step, c.reached);
  may = c.may;
}

pub calls_of_runs_are_allowed : CallsOfRunsAreAllowed
calls_of_runs_are_allowed tells old new [] [] calls h = all-of-none (ComesFrom tells old []) calls h.1
calls_of_runs_are_allowed tells old new [] (seen ∷ later) calls h = absurd h
calls_of_runs_are_allowed tells old new (event ∷ events) [] calls h = absurd h
calls_of_runs_are_allowed tells old new (event ∷ events) (seen ∷ later) calls (mid, here, behind, step, run, joined) =
    subst (AllByRecursion (ComesFrom tells old (event ∷ events))) (sym joined)
    (all-joined (ComesFrom tells old (event ∷ events)) here behind
    (all-mapped (MayCall old event) (ComesFrom tells old (event ∷ events)) here
    (λ call may. record {
      front = [];
      event = event;
      later = events;
      split = refl;
      given = [];
      now = old;
      reached = refl;
      may = may;
    }) (calls_are_allowed tells old mid event seen here step))
    (all-mapped (ComesFrom tells mid events) (ComesFrom tells old (event ∷ events)) behind
    (λ call c. behind-it tells old mid event seen here events call step c)
    (calls_of_runs_are_allowed tells mid new events later behind run)))
