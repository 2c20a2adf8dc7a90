-- For laws about runs: how a fetched command leaves its list.
use Rattle.std.proofs.Common.{
  ◌≡◌,
  ◌≢◌,
  ◌⊎◌,
  inl,
  inr,
  ℕ,
  zero,
  suc,
  ◌+◌,
  ◌==◌,
  Bool,
  true,
  false,
  cond,
  not,
  List,
  [],
  ◌∷◌,
  ◌++◌,
  length,
  map,
  filter,
  Option,
  None,
  Some,
  refl,
  sym,
  ap,
  subst,
  ◌∙◌,
}
use Rattle.std.specs.Prelude.{if◌then◌else◌, slice_get, slice_set, remove, option_map, nat_le}
use Rattle.std.proofs.lemmas.Bool.{eqb-true}
use Rattle.nvme_spec.specs.declared.queues.Queues.{Queues}
use Rattle.nvme_spec.specs.declared.queues.QueueChange.{QueueChange}
use Rattle.nvme_spec.specs.declared.queues.QueueChange.TheVariants.{Keep, MakeCq, MakeSq, DropCq, DropSq}
use Rattle.nvme_spec.specs.declared.registers.RegEffect.{RegEffect}
use Rattle.nvme_spec.specs.declared.registers.RegEffect.TheVariants.{Nothing, Enable, Disable, Shutdown, SqTail, CqHead}
use Rattle.nvme_spec.specs.Bytes.{with_bytes}
use Rattle.nvme_spec.specs.Memory.{window_size}
use Rattle.nvme_spec.specs.Registers.{after_write}
use Rattle.nvme_spec.specs.Execution.{Scene}
use Rattle.nvme_spec.specs.AdminEffects.{admin_execution}
use Rattle.nvme_machine.specs.declared.event.Event.{Event}
use Rattle.nvme_machine.specs.declared.event.Event.TheVariants.{Store, Write32, Fetch, Execute}
use Rattle.nvme_machine.specs.declared.fetched.FetchedCommand.{FetchedCommand}
use Rattle.nvme_machine.specs.declared.seen.Seen.TheVariants.{Stored, Outside}
use Rattle.nvme_machine.specs.Controllers.{
  Controller,
  SubmissionQueue,
  QueuePair,
  names,
  with_mark,
  with_marks,
  queues_of,
  after_store,
  after_write32,
  after_fetch,
  fetched_from,
  fetchable,
  taking_effect,
  after_queue_change,
  after_posting,
  reaction,
}
use Rattle.nvme_machine.specs.CommandExecutions.{CommandExecution, CommandComesTo, CommandComesToAs}
use Rattle.nvme_machine.specs.Subsystems.{Subsystem, controller_of, after_completion, scene_of}
use Rattle.nvme_machine.specs.Runs.{IsStill, StandsIn, Deletes, IsReset, TakesOut, FetchedStays}
pub use Rattle.nvme_machine.proofs.Others.{replaced-same, same_place}
use Rattle.nvme_machine.proofs.Others.{survives}
use Rattle.nvme_machine.proofs.StepCases.{reaction_of}

stands : (t : FetchedCommand) (d : Controller) (m : ℕ) → slice_get d.fetched m ≡ Some t → StandsIn t d
stands t d m found =
    record { place = m; found_as = t; found = found; still = record { entry = refl; queue = refl; marked = λ h. h } }

-- lists whose elements are marked
pub got-map : {A B : Type 0} (f : A → B) (xs : List A) (i : ℕ) → slice_get (map f xs) i ≡ option_map f (slice_get xs i)
got-map f [] i = refl
got-map f (x ∷ xs) zero = refl
got-map f (x ∷ xs) (suc i) = got-map f xs i

pub still-marked : (n : ℕ) (t u : FetchedCommand) → IsStill t u → IsStill t (with_mark n u)
still-marked n t u s = elim (names n u) as (λ b. IsStill t (if b then record u { marked = true } else u)) [
  | true ↦ record { entry = s.entry; queue = s.queue; marked = λ h. refl }
  | false ↦ s
]

stands-marked : (n : ℕ) (t : FetchedCommand) (d : Controller) → StandsIn t d → StandsIn t (with_marks n d)
stands-marked n t d s = record {
  place = s.place;
  found_as = with_mark n s.found_as;
  found = got-map (with_mark n) d.fetched s.place ∙ ap (option_map (with_mark n)) s.found;
  still = still-marked n t s.found_as s.still;
}

-- lists that grow or shrink
pub got-front : {A : Type 0} (xs ys : List A) (i : ℕ) (x : A)
    → slice_get xs i ≡ Some x → slice_get (xs ++ ys) i ≡ Some x
got-front [] ys i x h = absurd (cc)
got-front (y ∷ xs) ys zero x h = h
got-front (y ∷ xs) ys (suc i) x h = got-front xs ys i x h

got-removed : {A : Type 0} (xs : List A) (i m : ℕ) (x : A) → i ≢ m → slice_get xs m ≡ Some x
    → (l : ℕ) × (slice_get (remove xs i) l ≡ Some x)
got-removed [] i m x other h = absurd (cc)
got-removed (y ∷ xs) zero zero x other h = absurd (other refl)
got-removed (y ∷ xs) zero (suc m) x other h = (m, h)
got-removed (y ∷ xs) (suc i) zero x other h = (zero, h)
got-removed (y ∷ xs) (suc i) (suc m) x other h = let r = got-removed xs i m x (λ e. other (ap suc e)) h in
    (suc r.0, r.1)

got-filtered : {A : Type 0} (p : A → Bool) (xs : List A) (m : ℕ) (x : A) → p x ≡ true → slice_get xs m ≡ Some x
    → (l : ℕ) × (slice_get (filter p xs) l ≡ Some x)
got-filtered p [] m x kept h = absurd (cc)
got-filtered p (y ∷ xs) zero x kept h =
    let same : y ≡ x = cc in
    let holds : p y ≡ true = ap p same ∙ kept in
    (zero, ap (λ b. slice_get (cond b (y ∷ filter p xs) (filter p xs)) zero) holds ∙ h)
got-filtered p (y ∷ xs) (suc m) x kept h = put (p y) (got-filtered p xs m x kept h)
  where
    put : (b : Bool) → (l : ℕ) × (slice_get (filter p xs) l ≡ Some x)
        → (l : ℕ) × (slice_get (cond b (y ∷ filter p xs) (filter p xs)) l ≡ Some x)
    put true r = (suc r.0, r.1)
    put false r = r

-- After a store, a fetch, or an access to a register.

stored : (address : ℕ) (bytes : List ℕ) (c : Controller) (t : FetchedCommand) (m : ℕ)
    → slice_get c.fetched m ≡ Some t → StandsIn t (after_store address bytes c).controller
unfolding after_store
stored address bytes c t m found = by (nat_le (address + length bytes) window_size)
  where
    by : (b : Bool) → StandsIn t (if b then reaction (record c { window = with_bytes c.window address bytes }) Stored
        else reaction c Outside).controller
    by true = stands t (record c { window = with_bytes c.window address bytes }) m found
    by false = stands t c m found

took : (q : ℕ) (c : Controller) (t : FetchedCommand) (m : ℕ) (o : Option SubmissionQueue)
    → slice_get c.fetched m ≡ Some t → StandsIn t (fetched_from q c o).controller
took q c t m None found = stands t c m found
took q c t m (Some queue) found = stands t _ m (got-front c.fetched _ m t found)

took-one : (q : ℕ) (c : Controller) (t : FetchedCommand) (m : ℕ)
    → slice_get c.fetched m ≡ Some t → StandsIn t (after_fetch q c).controller
unfolding after_fetch
took-one q c t m found = took q c t m (fetchable c q) found

effects : (effect : RegEffect) (c : Controller) (t : FetchedCommand) (m : ℕ)
    → slice_get c.fetched m ≡ Some t → StandsIn t (taking_effect effect c) ⊎ IsReset effect
unfolding taking_effect
effects Nothing c t m found = inl (stands t c m found)
effects Enable c t m found = inr tt
effects Disable c t m found = inr tt
effects Shutdown c t m found = inl (stands t c m found)
effects (SqTail q v) c t m found = inl (stands t _ m found)
effects (CqHead q v) c t m found = inl (stands t _ m found)

wrote : (offset v : ℕ) (c : Controller) (t : FetchedCommand) (m : ℕ) → slice_get c.fetched m ≡ Some t
    → StandsIn t (after_write32 offset v c) ⊎ IsReset (after_write c.registers offset v).effect
unfolding after_write32
wrote offset v c t m found = effects (after_write c.registers offset v).effect
    (record c { registers = (after_write c.registers offset v).registers }) t m found

reacted : (old : Subsystem) (event : Event) (c : Controller) (j m : ℕ) (t : FetchedCommand)
    → slice_get c.fetched m ≡ Some t → controller_of event ≡ j
    → StandsIn t (reaction_of event c).controller ⊎ TakesOut old c j m t event
reacted old (Store k address bytes) c j m t found same = inl (stored address bytes.now c t m found)
reacted old (Fetch k q) c j m t found same = inl (took-one q c t m found)
reacted old (Write32 k offset v) c j m t found same = elim (wrote offset v c t m found) [
  | inl s ↦ inl s
  | inr reset ↦ inr (same, reset)
]
reacted old event c j m t found same = inl (stands t c m found)

-- After an execution.

changes-queues : (change : QueueChange) (c : Controller) (t : FetchedCommand) (m : ℕ)
    → slice_get c.fetched m ≡ Some t → StandsIn t (after_queue_change change c) ⊎ (change ≡ DropSq t.queue)
unfolding after_queue_change
changes-queues Keep c t m found = inl (stands t c m found)
changes-queues (MakeCq qid size at) c t m found = inl (stands t _ m found)
changes-queues (MakeSq qid size at to) c t m found = inl (stands t _ m found)
changes-queues (DropCq qid) c t m found = inl (stands t _ m found)
changes-queues (DropSq qid) c t m found = by (t.queue == qid) refl
  where
    by : (b : Bool) → (t.queue == qid) ≡ b → StandsIn t (record c {
      submission = slice_set c.submission qid None;
      fetched = filter (λ u. not (u.queue == qid)) c.fetched;
    }) ⊎ (DropSq qid ≡ DropSq t.queue)
    by true e = inr (ap DropSq (sym (eqb-true t.queue qid e)))
    by false e =
        let r = got-filtered (λ (u : FetchedCommand). not (u.queue == qid)) c.fetched m t (ap not e) found in
        inl (stands t _ r.0 r.1)

pub changing : (tells : Bool) (s : Scene) (queues : Queues) (k : ℕ) (u : FetchedCommand) (a : CommandExecution)
    → CommandComesTo tells queues k u s a
    → (a.change ≡ Keep)
    ⊎ (((u.queue == 0) ≡ true) × (a.change ≡ (admin_execution s.world queues k u.entry s.window).change))
unfolding CommandComesTo
changing tells s queues k u a h = by (u.queue == 0) refl h
  where
    by : (b : Bool) → (u.queue == 0) ≡ b → CommandComesToAs b tells queues k u s a → (a.change ≡ Keep)
        ⊎ (((u.queue == 0) ≡ true) × (a.change ≡ (admin_execution s.world queues k u.entry s.window).change))
    by true e g = inr (e, ap (λ (x : CommandExecution). x.change) g)
    by false e g = inl g.0

finishes : (tells : Bool) (s : Scene) (k : ℕ) (c : Controller) (i m : ℕ) (u t : FetchedCommand)
    (p : QueuePair) (a : CommandExecution) → CommandComesTo tells (queues_of c) k u s a → slice_get c.fetched i ≡ Some u
    → slice_get c.fetched m ≡ Some t → i ≢ m
    → StandsIn t (after_completion i u p a c) ⊎ Deletes s c k i t.queue
unfolding after_posting after_completion
finishes tells s k c i m u t p a answers here found other =
    let r = got-removed c.fetched i m t other found in
    elim (changes-queues a.change
    (after_posting i u p a.outcome.status a.outcome.dw0 (record c { window = a.left.window })) t r.0 r.1) [
      | inl stays ↦ inl stays
      | inr drops ↦ elim (changing tells s (queues_of c) k u a answers) [
        | inl keeps ↦ absurd (cc)
        | inr admin ↦ inr (record { command = u; found = here; is_admin = admin.0; deletes = sym admin.1 ∙ drops })
      ]
    ]

executed : (tells : Bool) (old : Subsystem) (event : Event) (k i j m : ℕ) (c : Controller) (u t : FetchedCommand)
    (p : QueuePair) (a : CommandExecution) → event ≡ Execute k i → k ≡ j → slice_get c.fetched i ≡ Some u
    → CommandComesTo tells (queues_of c) k u (scene_of old c) a → slice_get c.fetched m ≡ Some t
    → StandsIn t (after_completion i u p a c) ⊎ TakesOut old c j m t event
executed tells old event k i j m c u t p a is same here answers found = elim (same_place i m) [
  | inl own ↦ inr (subst (TakesOut old c j m t) (sym is) (same, inl own))
  | inr other ↦ elim (finishes tells (scene_of old c) k c i m u t p a answers here found other) [
    | inl s ↦ inl s
    | inr d ↦ inr (subst (TakesOut old c j m t) (sym is) (same, inr d))
  ]
]

pub fetched_stays : FetchedStays
fetched_stays tells old new event seen step j m c t at found =
    survives (StandsIn t) (TakesOut old c j m t event) tells old new event seen step j c at (record {
      marks = λ n d s. stands-marked n t d s;
      stays = stands t c m found;
      reacts = reacted old event c j m t found;
      finishes = λ k i u p a is same here room answers.
          executed tells old event k i j m c u t p a is same here answers found;
      cycles = λ is. inr (subst (TakesOut old c j m t) (sym is) tt);
    })
