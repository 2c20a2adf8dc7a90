-- For laws about preemption: preempted commands are never executed.
use Rattle.std.proofs.Common.{
  ◌≡◌,
  ◌≢◌,
  inl,
  inr,
  ℕ,
  zero,
  suc,
  ◌+◌,
  ◌-◌,
  ◌<◌,
  ◌≤◌,
  ◌==◌,
  ◌||◌,
  ◌&&◌,
  nat_lt,
  Bool,
  true,
  false,
  cond,
  not,
  List,
  [],
  ◌∷◌,
  length,
  filter,
  take,
  Option,
  None,
  Some,
  refl,
  sym,
  ap,
  subst,
  ◌∙◌,
  arith,
}
use Rattle.std.specs.Prelude.{if◌then◌else◌, slice_get, remove, option_map, nat_le}
use Rattle.std.proofs.lemmas.Bool.{eqb-true, eqb-false, eq-eqb, cases_Bool, ltb-true, ltb-false}
use Rattle.std.proofs.lemmas.Option.{none-some, same_Some}
use Rattle.nvme_spec.specs.declared.queues.QueueChange.{QueueChange}
use Rattle.nvme_spec.specs.declared.queues.QueueChange.TheVariants.{Keep, MakeCq, MakeSq, DropCq, DropSq}
use Rattle.nvme_spec.specs.declared.registers.RegEffect.{RegEffect}
use Rattle.nvme_spec.specs.declared.registers.RegEffect.TheVariants.{Nothing, Enable, Disable, Shutdown, SqTail, CqHead}
use Rattle.nvme_spec.specs.Bytes.{with_bytes}
use Rattle.nvme_spec.specs.Memory.{window_size}
use Rattle.nvme_spec.specs.Registers.{after_write}
use Rattle.nvme_spec.specs.AdminEffects.{admin_execution}
use Rattle.nvme_machine.specs.declared.event.Event.{Event}
use Rattle.nvme_machine.specs.declared.event.Event.TheVariants.{Store, Write32, Read32, Fetch, Execute, PowerCycle}
use Rattle.nvme_machine.specs.declared.fetched.FetchedCommand.{FetchedCommand}
use Rattle.nvme_machine.specs.declared.seen.Seen.{Seen}
use Rattle.nvme_machine.specs.declared.seen.Seen.TheVariants.{Stored, Outside}
use Rattle.nvme_machine.specs.Controllers.{
  Controller,
  SubmissionQueue,
  QueuePair,
  with_mark,
  with_marks,
  queues_of,
  open_pair,
  after_store,
  after_write32,
  after_fetch,
  fetched_from,
  fetchable,
  taking_effect,
  after_queue_change,
  after_posting,
  reaction,
}
use Rattle.nvme_machine.specs.CommandExecutions.{CommandExecution, CommandComesTo, CommandComesToAs}
use Rattle.nvme_machine.specs.Subsystems.{
  Subsystem,
  Step,
  Completes,
  ExecutesAt,
  ExecutesOne,
  ExecutesOver,
  controller_at,
  controller_of,
  after_completion,
  replaced,
  scene_of,
}
use Rattle.nvme_machine.specs.Runs.{IsStill}
use Rattle.nvme_machine.specs.Preempted.{
  empties,
  is_emptied,
  change_of,
  is_dropped,
  moved_up,
  place_posted,
  place_over,
  place_one,
  place_executed,
  place_after,
  StandsAt,
  CommandsAreFollowed,
  RunKeeping,
  PreemptedStaysOut,
}
use Rattle.nvme_machine.proofs.Others.{executed-at, at-marked, replaced-same, survives}
use Rattle.nvme_machine.proofs.Staying.{got-map, still-marked, got-front}
use Rattle.nvme_machine.proofs.StepCases.{reaction_of}
use Rattle.nvme_machine.proofs.Marking.{io_name, marked_is_aborted, preempted_commands_are_marked}

-- and so in the list of a controller
abbrev AtOf : Option Controller → FetchedCommand → ℕ → Type 0
AtOf o t l = (d : Controller) × (o ≡ Some d) × StandsAt t d.fetched l

as-it-is : (t : FetchedCommand) (commands : List FetchedCommand) (l : ℕ)
    → slice_get commands l ≡ Some t → StandsAt t commands l
as-it-is t commands l found =
    record { found_as = t; found = found; still = record { entry = refl; queue = refl; marked = λ h. h } }

-- Places.

removed-before : {A : Type 0} (xs : List A) (i l : ℕ) (x : A) → i ≤ l → slice_get xs (suc l) ≡ Some x
    → slice_get (remove xs i) l ≡ Some x
removed-before [] i l x low h = absurd (cc)
removed-before (y ∷ xs) zero l x low h = h
removed-before (y ∷ xs) (suc i) zero x low h = absurd (omega (arith, low))
removed-before (y ∷ xs) (suc i) (suc l) x low h = removed-before xs i l x (omega (arith, low)) h

removed-behind : {A : Type 0} (xs : List A) (i m : ℕ) (x : A) → m < i → slice_get xs m ≡ Some x
    → slice_get (remove xs i) m ≡ Some x
removed-behind [] i m x low h = absurd (cc)
removed-behind (y ∷ xs) zero m x low h = absurd (omega (arith, low))
removed-behind (y ∷ xs) (suc i) zero x low h = h
removed-behind (y ∷ xs) (suc i) (suc m) x low h = removed-behind xs i m x (omega (arith, low)) h

removed-at : {A : Type 0} (xs : List A) (i m : ℕ) (x : A) → i ≢ m → slice_get xs m ≡ Some x
    → slice_get (remove xs i) (if nat_lt i m then m - 1 else m) ≡ Some x
removed-at xs i m x other h = by (nat_lt i m) refl
  where
    by : (b : Bool) → nat_lt i m ≡ b → slice_get (remove xs i) (if b then m - 1 else m) ≡ Some x
    by true e =
        let low = ltb-true i m e in
        let next : m ≡ suc (m - 1) = omega (arith, low) in
        removed-before xs i (m - 1) x (omega (arith, low)) (ap (slice_get xs) (sym next) ∙ h)
    by false e = let high = ltb-false i m e in removed-behind xs i m x (omega (arith, high, other)) h

filtered-at : {A : Type 0} (p : A → Bool) (xs : List A) (m : ℕ) (x : A) → p x ≡ true → slice_get xs m ≡ Some x
    → slice_get (filter p xs) (length (filter p (take m xs))) ≡ Some x
filtered-at p [] m x kept h = absurd (cc)
filtered-at p (y ∷ xs) zero x kept h =
    let same : y ≡ x = cc in
    ap (λ b. slice_get (cond b (y ∷ filter p xs) (filter p xs)) zero) (ap p same ∙ kept) ∙ h
filtered-at p (y ∷ xs) (suc m) x kept h = put (p y) (filtered-at p xs m x kept h)
  where
    put : (b : Bool) → slice_get (filter p xs) (length (filter p (take m xs))) ≡ Some x
        → slice_get (cond b (y ∷ filter p xs) (filter p xs))
        (length (cond b (y ∷ filter p (take m xs)) (filter p (take m xs)))) ≡ Some x
    put true r = r
    put false r = r

-- An execution.

changed-at : (change : QueueChange) (c : Controller) (t : FetchedCommand) (m : ℕ)
    → slice_get c.fetched m ≡ Some t → is_dropped change (Some t) ≡ false
    → slice_get (after_queue_change change c).fetched (moved_up change c.fetched m) ≡ Some t
unfolding after_queue_change
changed-at Keep c t m found stays = found
changed-at (MakeCq qid size at) c t m found stays = found
changed-at (MakeSq qid size at to) c t m found stays = found
changed-at (DropCq qid) c t m found stays = found
changed-at (DropSq qid) c t m found stays =
    filtered-at (λ (u : FetchedCommand). not (u.queue == qid)) c.fetched m t (ap not stays) found

unless : (b d : Bool) (x l : ℕ) → (if b || d then None else Some x) ≡ Some l → (b ≡ false) × (d ≡ false) × (x ≡ l)
unless true d x l h = absurd (none-some _ h)
unless false true x l h = absurd (none-some _ h)
unless false false x l h = (refl, refl, same_Some _ _ h)

posted-at : (change : QueueChange) (i m l : ℕ) (t u : FetchedCommand) (p : QueuePair) (a : CommandExecution)
    (c : Controller) → a.change ≡ change → slice_get c.fetched m ≡ Some t → place_posted change i c.fetched m ≡ Some l
    → slice_get (after_completion i u p a c).fetched l ≡ Some t
unfolding after_completion after_posting
posted-at change i m l t u p a c is found place =
    let r = unless (m == i) (is_dropped change (slice_get c.fetched m)) _ l place in
    let other : i ≢ m = λ e. eqb-false m i r.0 (sym e) in
    let before : Controller =
    after_posting i u p a.outcome.status a.outcome.dw0 (record c { window = a.left.window }) in
    let stood = removed-at c.fetched i m t other found in
    let done =
    changed-at change before t (if nat_lt i m then m - 1 else m) stood (ap (is_dropped change) (sym found) ∙ r.1) in
    ap (λ x. slice_get (after_queue_change x before).fetched l) is
    ∙ ap (λ x. slice_get (after_queue_change change before).fetched x) (sym r.2) ∙ done

pub change-is : (tells : Bool) (s : Subsystem) (k : ℕ) (c : Controller) (u : FetchedCommand) (a : CommandExecution)
    → CommandComesTo tells (queues_of c) k u (scene_of s c) a → a.change ≡ change_of s k c u
unfolding CommandComesTo
change-is tells s k c u a h = by (u.queue == 0) h
  where
    by : (b : Bool) → CommandComesToAs b tells (queues_of c) k u (scene_of s c) a
        → a.change ≡ (if b then (admin_execution s.world (queues_of c) k u.entry c.window).change else Keep)
    by true g = ap (λ (x : CommandExecution). x.change) g
    by false g = g.0

-- marks leave it at its place
marked-at : (t : FetchedCommand) (l n : ℕ) (d : Controller) → StandsAt t d.fetched l
    → StandsAt t (with_marks n d).fetched l
marked-at t l n d at = record {
  found_as = with_mark n at.found_as;
  found = got-map (with_mark n) d.fetched l ∙ ap (option_map (with_mark n)) at.found;
  still = still-marked n t at.found_as at.still;
}

completed : (tells : Bool) (old new : Subsystem) (k : ℕ) (c : Controller) (i m l : ℕ) (u t : FetchedCommand)
    (p : QueuePair) (seen : Seen) → Completes tells old k c i u p seen new → controller_at old k ≡ Some c
    → slice_get c.fetched m ≡ Some t → place_posted (change_of old k c u) i c.fetched m ≡ Some l
    → AtOf (controller_at new k) t l
unfolding controller_at
completed tells old new k c i m l u t p seen h at found place =
    let a : CommandExecution = h.execution in
    let end : Controller = after_completion i u p a c in
    let m = at-marked (λ d. StandsAt t d.fetched l) (marked-at t l) a.left.world a.outcome.marks
    (replaced old.controllers k end) k (
      end,
      replaced-same old.controllers k c end at,
      as-it-is t end.fetched l
          (posted-at (change_of old k c u) i m l t u p a c (change-is tells old k c u a h.comes_to) found place),
    ) in
    (m.0, executed-at old new k c i u p a k h.leaves ∙ m.1, m.2)

-- if nothing happens
unchanged-at : (old new : Subsystem) (k : ℕ) (c : Controller) (t : FetchedCommand) (m l : ℕ) → new ≡ old
    → controller_at old k ≡ Some c → slice_get c.fetched m ≡ Some t → Some m ≡ Some l → AtOf (controller_at new k) t l
unchanged-at old new k c t m l same at found place = (
  c,
  ap (λ s. controller_at s k) same ∙ at,
  as-it-is t c.fetched l (ap (slice_get c.fetched) (sym (same_Some _ _ place)) ∙ found),
)

over-at : (o : Option QueuePair) (tells : Bool) (old new : Subsystem) (k : ℕ) (c : Controller) (i m l : ℕ)
    (u t : FetchedCommand) (seen : Seen) → ExecutesOver o tells old k c i u seen new → controller_at old k ≡ Some c
    → slice_get c.fetched m ≡ Some t → place_over o (change_of old k c u) i c.fetched m ≡ Some l
    → AtOf (controller_at new k) t l
over-at None tells old new k c i m l u t seen h at found place = unchanged-at old new k c t m l h.1 at found place
over-at (Some p) tells old new k c i m l u t seen h at found place =
    completed tells old new k c i m l u t p seen h at found place

one-at : (o : Option FetchedCommand) (tells : Bool) (old new : Subsystem) (k : ℕ) (c : Controller) (i m l : ℕ)
    (t : FetchedCommand) (seen : Seen) → ExecutesOne o tells old k c i seen new → controller_at old k ≡ Some c
    → slice_get c.fetched m ≡ Some t → place_one o old k c i m ≡ Some l → AtOf (controller_at new k) t l
one-at None tells old new k c i m l t seen h at found place = unchanged-at old new k c t m l h.1 at found place
one-at (Some u) tells old new k c i m l t seen h at found place =
    over-at (open_pair c u) tells old new k c i m l u t seen h at found place

executed : (tells : Bool) (old new : Subsystem) (k : ℕ) (c : Controller) (i m l : ℕ) (t : FetchedCommand) (seen : Seen)
    → ExecutesAt (controller_at old k) tells old k i seen new → controller_at old k ≡ Some c
    → slice_get c.fetched m ≡ Some t → place_executed (controller_at old k) old k i m ≡ Some l
    → AtOf (controller_at new k) t l
executed tells old new k c i m l t seen h at found place =
    one-at (slice_get c.fetched i) tells old new k c i m l t seen
    (subst (λ o. ExecutesAt o tells old k i seen new) at h) at found
    (ap (λ o. place_executed o old k i m) (sym at) ∙ place)

-- Reactions.

stored-at : (address : ℕ) (bytes : List ℕ) (c : Controller)
    → (after_store address bytes c).controller.fetched ≡ c.fetched
unfolding after_store
stored-at address bytes c = by (nat_le (address + length bytes) window_size)
  where
    by : (b : Bool) → (if b then reaction (record c { window = with_bytes c.window address bytes }) Stored
        else reaction c Outside).controller.fetched ≡ c.fetched
    by true = refl
    by false = refl

took-at : (q : ℕ) (c : Controller) (t : FetchedCommand) (m : ℕ) (o : Option SubmissionQueue)
    → slice_get c.fetched m ≡ Some t → slice_get (fetched_from q c o).controller.fetched m ≡ Some t
took-at q c t m None found = found
took-at q c t m (Some queue) found = got-front c.fetched _ m t found

fetched-at : (q : ℕ) (c : Controller) (t : FetchedCommand) (m : ℕ)
    → slice_get c.fetched m ≡ Some t → slice_get (after_fetch q c).controller.fetched m ≡ Some t
unfolding after_fetch
fetched-at q c t m found = took-at q c t m (fetchable c q) found

effect-at : (effect : RegEffect) (c : Controller)
    → empties effect ≡ false → (taking_effect effect c).fetched ≡ c.fetched
unfolding taking_effect
effect-at Nothing c e = refl
effect-at Enable c e = absurd (cc)
effect-at Disable c e = absurd (cc)
effect-at Shutdown c e = refl
effect-at (SqTail q v) c e = refl
effect-at (CqHead q v) c e = refl

wrote-at : (offset v : ℕ) (c : Controller) → empties (after_write c.registers offset v).effect ≡ false
    → (after_write32 offset v c).fetched ≡ c.fetched
unfolding after_write32
wrote-at offset v c e = effect-at (after_write c.registers offset v).effect
    (record c { registers = (after_write c.registers offset v).registers }) e

-- an event that leaves the commands of controller j at their places
abbrev Keeps : ℕ → Event → Type 0
Keeps j (Execute k i) = k ≢ j
Keeps j PowerCycle = ⊥
Keeps j event = Unit {0}

kept : (tells : Bool) (old new : Subsystem) (event : Event) (seen : Seen) → Step tells old event seen new
    → (j m l : ℕ) (c : Controller) (t : FetchedCommand) → controller_at old j ≡ Some c → slice_get c.fetched m ≡ Some t
    → Some m ≡ Some l → Keeps j event
    → (controller_of event ≡ j → slice_get (reaction_of event c).controller.fetched m ≡ Some t)
    → AtOf (controller_at new j) t l
kept tells old new event seen step j m l c t at found place keeps reacts =
    elim (survives (λ d. StandsAt t d.fetched m) ⊥ tells old new event seen step j c at (record {
      marks = marked-at t m;
      stays = as-it-is t c.fetched m found;
      reacts = λ same. inl (as-it-is t _ m (reacts same));
      finishes = λ k i u p a is same here room answers.
          (let apart : k ≢ j = subst (Keeps j) is keeps in absurd (apart same));
      cycles = λ is. (let none : ⊥ = subst (Keeps j) is keeps in absurd none);
    })) [
      | inl s ↦ subst (λ x. AtOf (controller_at new j) t x) (same_Some _ _ place) s
      | inr none ↦ absurd none
    ]

-- the condition of a write, for its own controller and for another
own-write : (b : Bool) (m l : ℕ) → (if b then None else Some m) ≡ Some l → (b ≡ false) × (Some m ≡ Some l)
own-write true m l h = absurd (none-some _ h)
own-write false m l h = (refl, h)

pub commands_are_followed : CommandsAreFollowed
unfolding place_after
commands_are_followed tells old new (Store k address bytes) seen step j m l c t at found place =
    kept tells old new (Store k address bytes) seen step j m l c t at found place tt
    (λ same. ap (λ xs. slice_get xs m) (stored-at address bytes.now c) ∙ found)
commands_are_followed tells old new (Read32 k offset) seen step j m l c t at found place =
    kept tells old new (Read32 k offset) seen step j m l c t at found place tt (λ same. found)
commands_are_followed tells old new (Fetch k q) seen step j m l c t at found place =
    kept tells old new (Fetch k q) seen step j m l c t at found place tt (λ same. fetched-at q c t m found)
commands_are_followed tells old new (Write32 k offset v) seen step j m l c t at found place =
    let r = own-write (k == j && is_emptied (controller_at old j) offset v) m l place in
    kept tells old new (Write32 k offset v) seen step j m l c t at found r.1 tt
    (λ same. (let quiet : empties (after_write c.registers offset v).effect ≡ false =
    ap (λ o. is_emptied o offset v) (sym at)
    ∙ sym (ap (λ b. b && is_emptied (controller_at old j) offset v) (eq-eqb k j same)) ∙ r.0 in
    ap (λ xs. slice_get xs m) (wrote-at offset v c quiet) ∙ found))
commands_are_followed tells old new (Execute k i) seen step j m l c t at found place = elim (cases_Bool (k == j)) [
  | inl here ↦ (let same : k ≡ j = eqb-true k j here in
      let there : place_executed (controller_at old j) old j i m ≡ Some l =
      ap (λ b. if b then place_executed (controller_at old j) old j i m else Some m) (sym here) ∙ place in
      executed tells old new j c i m l t seen
      (subst (λ x. Step tells old (Execute x i) seen new) same step) at found there)
  | inr there ↦ (let other = eqb-false k j there in
      let stays : Some m ≡ Some l =
      ap (λ b. if b then place_executed (controller_at old j) old j i m else Some m) (sym there) ∙ place in
      kept tells old new (Execute k i) seen step j m l c t at found stays other (λ same. found))
]
commands_are_followed tells old new PowerCycle seen step j m l c t at found place = absurd (none-some _ place)

-- Runs.

still-both : (t u v : FetchedCommand) → IsStill t u → IsStill u v → IsStill t v
still-both t u v p q =
    record { entry = q.entry ∙ p.entry; queue = q.queue ∙ p.queue; marked = λ h. q.marked (p.marked h) }

followed :
    (tells : Bool) (j : ℕ) (old new : Subsystem) (m l : ℕ) (events : List Event) (seen : List Seen) (t : FetchedCommand)
    → RunKeeping tells j old m events seen new l → AtOf (controller_at old j) t m → AtOf (controller_at new j) t l
followed tells j old new m l [] [] t run at =
    subst (λ s. AtOf (controller_at s j) t l) (sym run.0) (subst (λ x. AtOf (controller_at old j) t x) (sym run.1) at)
followed tells j old new m l [] (x ∷ later) t run at = absurd run
followed tells j old new m l (event ∷ events) [] t run at = absurd run
followed tells j old new m l (event ∷ events) (x ∷ later) t run at =
    let here = at.2 in
    let next = commands_are_followed tells old run.0 event x run.2 j m run.1 at.0 here.found_as at.1 here.found run.3 in
    let there = next.2 in
    followed tells j run.0 new run.1 l events later t run.4 (
      next.0,
      next.1,
      record {
        found_as = there.found_as;
        found = there.found;
        still = still-both t here.found_as there.found_as here.still there.still;
      },
    )

pub preempted_stays_out : PreemptedStaysOut
preempted_stays_out tells n old mid new k i c t preempts j m d u at found named removed events seen l run last e v q
    answer step waits =
    let all = preempted_commands_are_marked tells old mid k i n c t preempts.pair preempts.seen preempts.step
    preempts.waits preempts.named preempts.acquires preempts.aborts preempts.allowed j d at removed in
    let end = followed tells j mid new m l events seen u run (d, at, as-it-is u d.fetched m found) in
    let stood = end.2 in
    let controller : end.0 ≡ e = same_Some _ _ (sym end.1 ∙ waits.at) in
    let command : stood.found_as ≡ v =
    same_Some _ _ (sym stood.found ∙ ap (λ (x : Controller). slice_get x.fetched l) controller ∙ waits.found) in
    let still : IsStill u v = subst (IsStill u) command stood.still in
    let io = io_name n u named in
    marked_is_aborted tells new last j l e v q answer step waits (still.marked (all m u found named))
    (ap (λ x. x == 0) still.queue ∙ io.0)
