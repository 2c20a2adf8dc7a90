-- For laws about runs: every fetched command has its queues, in every run.
use Rattle.std.proofs.Common.{
  ◌≡◌,
  ◌≢◌,
  ◌⊎◌,
  inl,
  inr,
  ℕ,
  zero,
  suc,
  ◌+◌,
  ◌==◌,
  nat_lt,
  Bool,
  true,
  false,
  cond,
  not,
  ◌&&◌,
  List,
  [],
  ◌∷◌,
  ◌++◌,
  length,
  map,
  filter,
  Option,
  None,
  Some,
  refl,
  sym,
  ap,
  subst,
  ◌∙◌,
  arith,
}
use Rattle.std.specs.Prelude.{if◌then◌else◌, slice_get, slice_set, slice_index_or, remove, option_map, is_some, nat_le}
use Rattle.std.specs.List.{list_any}
use Rattle.std.proofs.lemmas.Bool.{or_parts, eqb-false, false≢true, ltb-false}
use Rattle.std.proofs.lemmas.Option.{none-some, same_Some}
use Rattle.nvme_wire.specs.declared.status.Status.{Status}
use Rattle.nvme_spec.specs.declared.queues.QueueChange.{QueueChange}
use Rattle.nvme_spec.specs.declared.queues.QueueChange.TheVariants.{Keep, MakeCq, MakeSq, DropCq, DropSq}
use Rattle.nvme_spec.specs.declared.registers.RegEffect.{RegEffect}
use Rattle.nvme_spec.specs.declared.registers.RegEffect.TheVariants.{Nothing, Enable, Disable, Shutdown, SqTail, CqHead}
use Rattle.nvme_spec.specs.declared.registers.AdminQueues.{AdminQueues}
use Rattle.nvme_spec.specs.declared.config.ControllerConfig.{ControllerConfig}
use Rattle.nvme_spec.specs.Bytes.{with_bytes}
use Rattle.nvme_spec.specs.World.{World}
use Rattle.nvme_spec.specs.Queues.{
  completion_room,
  after_post as posted_one,
  after_fetch as fetched_one,
  empty_completion_tail,
  empty_submission_head,
}
use Rattle.nvme_spec.specs.ExistingQueues.{completes_to}
use Rattle.nvme_spec.specs.QueueChanges.{Suits}
use Rattle.nvme_spec.specs.AdminEffects.{admin_execution}
use Rattle.nvme_spec.specs.Memory.{window_size}
use Rattle.nvme_spec.specs.Registers as register
use Rattle.nvme_spec.specs.Registers.{after_write}
use Rattle.nvme_spec.specs.Execution.{Scene}
use Rattle.nvme_spec.proofs.QueueChanges.{admin_changes_suit}
use Rattle.nvme_machine.specs.declared.fetched.FetchedCommand.{FetchedCommand}
use Rattle.nvme_machine.specs.declared.seen.Seen.TheVariants.{Stored, Outside}
use Rattle.nvme_machine.specs.CommandExecutions.{CommandExecution, CommandComesTo}
use Rattle.nvme_machine.specs.Subsystems.{opening, after_completion, controller_at}
use Rattle.nvme_machine.specs.Controllers.{
  new_controller,
  no_submission_queues,
  without_queues,
  admin_submission_queue,
  admin_completion_queue,
  with_admin_queues,
  with_tail,
  with_head,
  taking_effect,
  fetchable,
  may_fetch,
  if_waiting,
  fetched_from,
  head_entry,
  reaction,
  after_store,
  after_write32,
  has_read,
  after_fetch,
  Controller,
  SubmissionQueue,
  CompletionQueue,
  QueuePair,
  names,
  with_mark,
  with_marks,
  queues_of,
  submission_at,
  completion_at,
  pair_of,
  if_room,
  open_pair,
  after_queue_change,
  after_posting,
}
use Rattle.nvme_machine.specs.Wiring.{IsWired, OpeningIsWired, WiringStays, WaitsWhereFull}
use Rattle.nvme_machine.proofs.Everywhere.{Keeps, step-keeps}
use Rattle.nvme_machine.proofs.Staying.{changing}

-- Lists of optional queues.

pub set-either : {A : Type 0} (xs : List (Option A)) (q r : ℕ) (y : Option A) (s : A)
    → slice_index_or (slice_set xs q y) r None ≡ Some s → (y ≡ Some s) ⊎ (slice_index_or xs r None ≡ Some s)
set-either [] q r y s h = inr h
set-either (x ∷ xs) zero zero y s h = inl h
set-either (x ∷ xs) zero (suc r) y s h = inr h
set-either (x ∷ xs) (suc q) zero y s h = inr h
set-either (x ∷ xs) (suc q) (suc r) y s h = set-either xs q r y s h

pub set-some : {A : Type 0} (xs : List (Option A)) (q r : ℕ) (z s : A) → slice_index_or xs r None ≡ Some s
    → (x : A) × (slice_index_or (slice_set xs q (Some z)) r None ≡ Some x)
set-some [] q r z s h = (s, h)
set-some (x ∷ xs) zero zero z s h = (z, refl)
set-some (x ∷ xs) zero (suc r) z s h = (s, h)
set-some (x ∷ xs) (suc q) zero z s h = (s, h)
set-some (x ∷ xs) (suc q) (suc r) z s h = set-some xs q r z s h

pub set-other : {A : Type 0} (xs : List (Option A)) (q r : ℕ) (y : Option A)
    → r ≢ q → slice_index_or (slice_set xs q y) r None ≡ slice_index_or xs r None
set-other [] q r y other = refl
set-other (x ∷ xs) zero zero y other = absurd (other refl)
set-other (x ∷ xs) zero (suc r) y other = refl
set-other (x ∷ xs) (suc q) zero y other = refl
set-other (x ∷ xs) (suc q) (suc r) y other = set-other xs q r y (λ e. other (ap suc e))

exists-at : {A : Type 0} (xs : List (Option A)) (q : ℕ)
    → slice_index_or (map (λ (o : Option A). is_some o) xs) q false ≡ true
    → (x : A) × (slice_index_or xs q None ≡ Some x)
exists-at [] q h = absurd (false≢true h)
exists-at (None ∷ xs) zero h = absurd (false≢true h)
exists-at (Some x ∷ xs) zero h = (x, refl)
exists-at (x ∷ xs) (suc q) h = exists-at xs q h

pub is-there : {A : Type 0} (xs : List (Option A)) (q : ℕ) (x : A) → slice_index_or xs q None ≡ Some x
    → slice_index_or (map (λ (o : Option A). is_some o) xs) q false ≡ true
is-there [] q x h = absurd (cc)
is-there (o ∷ xs) zero x h = ap is_some h
is-there (o ∷ xs) (suc q) x h = is-there xs q x h

pub unused-at : (qid : ℕ) (xs : List (Option SubmissionQueue)) (q : ℕ) (s : SubmissionQueue)
    → list_any
    (completes_to qid) (map (λ (o : Option SubmissionQueue). option_map (λ (x : SubmissionQueue). x.cqid) o) xs) ≡ false
    → slice_index_or xs q None ≡ Some s → (s.cqid == qid) ≡ false
unused-at qid [] q s h is = absurd (cc)
unused-at qid (None ∷ xs) zero s h is = absurd (cc)
unused-at qid (Some x ∷ xs) zero s h is = let same : x ≡ s = cc in
    ap (λ (y : SubmissionQueue). y.cqid == qid) (sym same) ∙ (or_parts (x.cqid == qid) _ h).0
unused-at qid (x ∷ xs) (suc q) s h is =
    unused-at qid xs q s (or_parts (completes_to qid (option_map (λ (y : SubmissionQueue). y.cqid) x)) _ h).1 is

got-behind : {A : Type 0} (xs : List A) (i l : ℕ) (x : A) → slice_get (remove xs i) l ≡ Some x
    → (m : ℕ) × (slice_get xs m ≡ Some x)
got-behind [] zero l x h = absurd (cc)
got-behind [] (suc i) l x h = absurd (cc)
got-behind (y ∷ xs) zero l x h = (suc l, h)
got-behind (y ∷ xs) (suc i) zero x h = (zero, h)
got-behind (y ∷ xs) (suc i) (suc l) x h = let r = got-behind xs i l x h in (suc r.0, r.1)

-- what is known of a change of the queues
abbrev Allows : Controller → QueueChange → Type 0
Allows c Keep = Unit {0}
Allows c (MakeCq qid size at) = Unit {0}
Allows c (MakeSq qid size at to) = (x : CompletionQueue) × (completion_at c to ≡ Some x)
Allows c (DropCq qid) = (q : ℕ) → (s : SubmissionQueue) → submission_at c q ≡ Some s → (s.cqid == qid) ≡ false
Allows c (DropSq qid) = Unit {0}

suits-allows : (c : Controller) (change : QueueChange) → Suits (queues_of c) change → Allows c change
suits-allows c Keep h = tt
suits-allows c (MakeCq qid size at) h = tt
suits-allows c (MakeSq qid size at to) h = exists-at c.completion to h.2
suits-allows c (DropCq qid) h = λ q s is. unused-at qid c.submission q s h.2 is
suits-allows c (DropSq qid) h = tt

pub admin-allowed : (w : World) (k : ℕ) (c : Controller) (e window : List ℕ)
    → Allows c (admin_execution w (queues_of c) k e window).change
admin-allowed w k c e window = suits-allows c _ (admin_changes_suit w (queues_of c) k e window)

-- A queue without room is full.

room-none : (p : Option QueuePair) → if_room p ≡ None → (x : QueuePair)
    → p ≡ Some x → completion_room x.completion.tail ≡ 0
room-none None h x is = absurd (cc)
room-none (Some y) h x is =
    let same : y ≡ x = cc in
    ap (λ (z : QueuePair). completion_room z.completion.tail) (sym same)
    ∙ by (nat_lt 0 (completion_room y.completion.tail)) refl h
  where
    by : (b : Bool) → nat_lt 0 (completion_room y.completion.tail) ≡ b → (if b then Some y else None) ≡ None
        → completion_room y.completion.tail ≡ 0
    by true e f = absurd (cc)
    by false e f = let none = ltb-false 0 (completion_room y.completion.tail) e in omega (arith, none)

pub waits_where_full : WaitsWhereFull
unfolding open_pair
waits_where_full c wired i t found none =
    let s = wired.fetched i t found in
    let x = wired.completes t.queue s.0 s.1 in
    let pair : pair_of c (submission_at c t.queue) ≡ Some (record { submission = s.0; completion = x.0 }) =
    ap (pair_of c) s.1 ∙ ap (option_map (λ (z : CompletionQueue). record { submission = s.0; completion = z })) x.1 in (
      s.0,
      x.0,
      s.1,
      x.1,
      room-none (pair_of c (submission_at c t.queue)) none (record { submission = s.0; completion = x.0 }) pair,
    )

-- Changes that keep a controller wired.

abbrev cqid_of : Option SubmissionQueue → ℕ
cqid_of None = 0
cqid_of (Some q) = q.cqid

pub some_waiting : (b : Bool) (x s : SubmissionQueue) → (if b then Some x else None) ≡ Some s → Some x ≡ Some s
some_waiting true x s g = g
some_waiting false x s g = absurd (cc)

-- the same queues, and some of the commands
fewer : (c d : Controller) → IsWired c → d.submission ≡ c.submission → d.completion ≡ c.completion
    → ((i : ℕ) → (t : FetchedCommand) → slice_get d.fetched i ≡ Some t
    → (m : ℕ) × (u : FetchedCommand) × (slice_get c.fetched m ≡ Some u) × (t.queue ≡ u.queue)) → IsWired d
fewer c d w s x sub = record {
  fetched = λ i t found.
      let r = sub i t found in
      let q = w.fetched r.0 r.1 r.2 in
      (q.0, ap (λ xs. slice_index_or xs t.queue None) s ∙ ap (λ n. submission_at c n) r.3 ∙ q.1);
  completes = λ q y is.
      let r = w.completes q y (sym (ap (λ xs. slice_index_or xs q None) s) ∙ is) in
      (r.0, ap (λ xs. slice_index_or xs y.cqid None) x ∙ r.1);
}

marked-queue : (n : ℕ) (u : FetchedCommand) → (with_mark n u).queue ≡ u.queue
marked-queue n u = elim (names n u) as (λ b. (if b then record u { marked = true } else u).queue ≡ u.queue) [
  | true ↦ refl
  | false ↦ refl
]

from-map : (n : ℕ) (ts : List FetchedCommand) (i : ℕ) (t : FetchedCommand) → slice_get (map (with_mark n) ts) i ≡ Some t
    → (m : ℕ) × (u : FetchedCommand) × (slice_get ts m ≡ Some u) × (t.queue ≡ u.queue)
from-map n [] i t h = absurd (cc)
from-map n (u ∷ ts) zero t h = let same : with_mark n u ≡ t = cc in
    (zero, u, refl, ap (λ (x : FetchedCommand). x.queue) (sym same) ∙ marked-queue n u)
from-map n (u ∷ ts) (suc i) t h = let r = from-map n ts i t h in (suc r.0, r.1, r.2, r.3)

wired-marked : (n : ℕ) (c : Controller) → IsWired c → IsWired (with_marks n c)
wired-marked n c w = fewer c (with_marks n c) w refl refl (λ i t found. from-map n c.fetched i t found)

-- the queues are replaced one by one
posted : (i : ℕ) (t : FetchedCommand) (p : QueuePair) (why : Status) (first : ℕ) (c : Controller)
    → IsWired c → IsWired (after_posting i t p why first c)
unfolding after_posting
posted i t p why first c w = record {
  fetched = λ l u found. let r = got-behind c.fetched i l u found in w.fetched r.0 u r.1;
  completes = λ q s is. let r = w.completes q s is in set-some c.completion p.submission.cqid s.cqid
      (record p.completion { tail = posted_one p.completion.tail }) r.0 r.1;
}

filter-step : {A : Type 0} (p : A → Bool) (y : A) (xs : List A) (x : A)
    → ((l : ℕ) → slice_get (filter p xs) l ≡ Some x → (m : ℕ) × (slice_get xs m ≡ Some x) × (p x ≡ true))
    → (b : Bool) → p y ≡ b → (l : ℕ) → slice_get (cond b (y ∷ filter p xs) (filter p xs)) l ≡ Some x
    → (m : ℕ) × (slice_get (y ∷ xs) m ≡ Some x) × (p x ≡ true)
filter-step p y xs x rest true e zero g = let same : y ≡ x = cc in (zero, g, ap p (sym same) ∙ e)
filter-step p y xs x rest true e (suc l) g = let r = rest l g in (suc r.0, r.1, r.2)
filter-step p y xs x rest false e l g = let r = rest l g in (suc r.0, r.1, r.2)

from-filter : {A : Type 0} (p : A → Bool) (xs : List A) (i : ℕ) (x : A) → slice_get (filter p xs) i ≡ Some x
    → (m : ℕ) × (slice_get xs m ≡ Some x) × (p x ≡ true)
from-filter p [] i x h = absurd (cc)
from-filter p (y ∷ xs) i x h = filter-step p y xs x (λ l g. from-filter p xs l x g) (p y) refl i h

not_true : (b : Bool) → not b ≡ true → b ≡ false
not_true true h = absurd (cc)
not_true false h = refl

changed : (change : QueueChange) (c : Controller) → IsWired c → Allows c change → IsWired (after_queue_change change c)
unfolding after_queue_change
changed Keep c w a = w
changed (MakeCq qid size at) c w a = record {
  fetched = w.fetched;
  completes = λ q s is. let r = w.completes q s is in
      set-some c.completion qid s.cqid (record { base = at; tail = empty_completion_tail size }) r.0 r.1;
}
changed (MakeSq qid size at to) c w a = record {
  fetched = λ i t found. let r = w.fetched i t found in
      set-some c.submission qid t.queue (record { base = at; cqid = to; head = empty_submission_head size }) r.0 r.1;
  completes = λ q s is. elim (set-either c.submission qid q
      (Some (record { base = at; cqid = to; head = empty_submission_head size })) s is) [
        | inl new ↦ (let same : to ≡ s.cqid = ap cqid_of new in (a.0, ap (λ n. completion_at c n) (sym same) ∙ a.1))
        | inr old ↦ w.completes q s old
      ];
}
changed (DropCq qid) c w a = record {
  fetched = w.fetched;
  completes = λ q s is.
      let r = w.completes q s is in
      (r.0, set-other c.completion qid s.cqid None (eqb-false s.cqid qid (a q s is)) ∙ r.1);
}
changed (DropSq qid) c w a = record {
  fetched = λ i t found.
      let f = from-filter (λ (u : FetchedCommand). not (u.queue == qid)) c.fetched i t found in
      let r = w.fetched f.0 t f.1 in
      (r.0, set-other c.submission qid t.queue None (eqb-false t.queue qid (not_true (t.queue == qid) f.2)) ∙ r.1);
  completes = λ q s is. elim (set-either c.submission qid q None s is) [
    | inl none ↦ absurd (cc)
    | inr old ↦ w.completes q s old
  ];
}

allows-posted : (change : QueueChange) (i : ℕ) (t : FetchedCommand) (p : QueuePair) (why : Status) (first : ℕ)
    (c : Controller) → Allows c change → Allows (after_posting i t p why first c) change
unfolding after_posting
allows-posted Keep i t p why first c a = tt
allows-posted (MakeCq qid size at) i t p why first c a = tt
allows-posted (MakeSq qid size at to) i t p why first c a =
    set-some c.completion p.submission.cqid to (record p.completion { tail = posted_one p.completion.tail }) a.0 a.1
allows-posted (DropCq qid) i t p why first c a = a
allows-posted (DropSq qid) i t p why first c a = tt

-- the same, if only the window differs
allows-window : (change : QueueChange) (c : Controller) (window : List ℕ)
    → Allows c change → Allows (record c { window = window }) change
allows-window Keep c window a = tt
allows-window (MakeCq qid size at) c window a = tt
allows-window (MakeSq qid size at to) c window a = a
allows-window (DropCq qid) c window a = a
allows-window (DropSq qid) c window a = tt

with-window : (c : Controller) (window : List ℕ) → IsWired c → IsWired (record c { window = window })
with-window c window w = record { fetched = w.fetched; completes = w.completes }

allows-answer : (tells : Bool) (s : Scene) (k : ℕ) (c : Controller) (u : FetchedCommand) (a : CommandExecution)
    → (a.change ≡ Keep)
    ⊎ (((u.queue == 0) ≡ true) × (a.change ≡ (admin_execution s.world (queues_of c) k u.entry s.window).change))
    → Allows c a.change
allows-answer tells s k c u a (inl keeps) = subst (Allows c) (sym keeps) tt
allows-answer tells s k c u a (inr admin) = subst (Allows c) (sym admin.1) (admin-allowed s.world k c u.entry s.window)

finishes : (tells : Bool) (s : Scene)
    (k : ℕ) (c : Controller) (i : ℕ) (u : FetchedCommand) (p : QueuePair) (a : CommandExecution)
    → CommandComesTo tells (queues_of c) k u s a → IsWired c → IsWired (after_completion i u p a c)
unfolding after_completion
finishes tells s k c i u p a answers w =
    let allows = allows-answer tells s k c u a (changing tells s (queues_of c) k u a answers) in
    let d : Controller = record c { window = a.left.window } in
    changed a.change (after_posting i u p a.outcome.status a.outcome.dw0 d)
    (posted i u p a.outcome.status a.outcome.dw0 d (with-window c a.left.window w))
    (allows-posted a.change i u p a.outcome.status a.outcome.dw0 d (allows-window a.change c a.left.window allows))

-- Register writes.

set-mapped : {A : Type 0} (f : A → A) (xs : List (Option A)) (q r : ℕ) (s : A) → slice_index_or xs r None ≡ Some s
    → (x : A) × (slice_index_or (slice_set xs q (option_map f (slice_index_or xs q None))) r None ≡ Some x)
set-mapped f [] q r s h = (s, h)
set-mapped f (o ∷ xs) zero zero s h = (f s, ap (option_map f) h)
set-mapped f (o ∷ xs) zero (suc r) s h = (s, h)
set-mapped f (o ∷ xs) (suc q) zero s h = (s, h)
set-mapped f (o ∷ xs) (suc q) (suc r) s h = set-mapped f xs q r s h

pub mapped-back : {A : Type 0} (f : A → A) (xs : List (Option A)) (q r : ℕ) (s : A)
    → slice_index_or (slice_set xs q (option_map f (slice_index_or xs q None))) r None ≡ Some s
    → (z : A) × (slice_index_or xs r None ≡ Some z) × ((s ≡ z) ⊎ (s ≡ f z))
mapped-back f [] q r s h = (s, h, inl refl)
mapped-back f (None ∷ xs) zero zero s h = absurd (cc)
mapped-back f (Some z ∷ xs) zero zero s h = let same : f z ≡ s = cc in (z, refl, inr (sym same))
mapped-back f (o ∷ xs) zero (suc r) s h = (s, h, inl refl)
mapped-back f (o ∷ xs) (suc q) zero s h = (s, h, inl refl)
mapped-back f (o ∷ xs) (suc q) (suc r) s h = mapped-back f xs q r s h

pub first-alone : {A : Type 0} (x : A) (q : ℕ) (s : A)
    → slice_index_or (Some x ∷ None ∷ None ∷ None ∷ None ∷ []) q None ≡ Some s → x ≡ s
first-alone x zero s h = cc
first-alone x (suc zero) s h = absurd (cc)
first-alone x (suc (suc zero)) s h = absurd (cc)
first-alone x (suc (suc (suc zero))) s h = absurd (cc)
first-alone x (suc (suc (suc (suc zero)))) s h = absurd (cc)
first-alone x (suc (suc (suc (suc (suc q))))) s h = absurd (cc)

pub none-alone : (q : ℕ) (s : SubmissionQueue) → slice_index_or no_submission_queues q None ≡ Some s → ⊥
none-alone zero s h = none-some _ h
none-alone (suc zero) s h = none-some _ h
none-alone (suc (suc zero)) s h = none-some _ h
none-alone (suc (suc (suc zero))) s h = none-some _ h
none-alone (suc (suc (suc (suc zero)))) s h = none-some _ h
none-alone (suc (suc (suc (suc (suc q))))) s h = none-some _ h

without : (c : Controller) → IsWired (without_queues c)
without c = record { fetched = λ i t h. absurd (none-some _ h); completes = λ q s h. absurd (none-alone q s h) }

with-admin : (o : Option AdminQueues) (c : Controller) → IsWired (with_admin_queues o c)
with-admin None c = without c
with-admin (Some a) c = record {
  fetched = λ i t h. absurd (none-some _ h);
  completes = λ q s h.
      let same = first-alone (admin_submission_queue a) q s h in
      let at : 0 ≡ s.cqid = ap (λ (x : SubmissionQueue). x.cqid) same in
      (admin_completion_queue a, ap (λ n. completion_at (with_admin_queues (Some a) c) n) (sym at));
}

effects : (effect : RegEffect) (c : Controller) → IsWired c → IsWired (taking_effect effect c)
unfolding taking_effect
effects Nothing c w = w
effects Shutdown c w = w
effects Disable c w = without c
effects Enable c w = with-admin (register.admin_queues c.registers) c
effects (SqTail q v) c w = record {
  fetched = λ i t h. let r = w.fetched i t h in set-mapped (with_tail v) c.submission q t.queue r.0 r.1;
  completes = λ m s h.
      let z = mapped-back (with_tail v) c.submission q m s h in
      let r = w.completes m z.0 z.1 in
      let same : s.cqid ≡ z.0.cqid = elim z.2 [
        | inl e ↦ ap (λ (x : SubmissionQueue). x.cqid) e
        | inr e ↦ ap (λ (x : SubmissionQueue). x.cqid) e
      ] in
      (r.0, ap (λ n. completion_at c n) same ∙ r.1);
}
effects (CqHead q v) c w = record {
  fetched = w.fetched;
  completes = λ m s h. let r = w.completes m s h in set-mapped (with_head v) c.completion q s.cqid r.0 r.1;
}

-- Fetches.

pub fetchable-at : (c : Controller) (q : ℕ) (s : SubmissionQueue) → fetchable c q ≡ Some s → submission_at c q ≡ Some s
unfolding fetchable
fetchable-at c q s h = by (may_fetch c.registers.state && nat_lt (length c.fetched) 64) h
  where
    waiting : (o : Option SubmissionQueue) → if_waiting o ≡ Some s → o ≡ Some s
    waiting None g = g
    waiting (Some x) g = some_waiting (nat_lt 0 x.head.waiting) x s g

    by : (b : Bool) → (if b then if_waiting (submission_at c q) else None) ≡ Some s → submission_at c q ≡ Some s
    by true g = waiting (submission_at c q) g
    by false g = absurd (none-some _ g)

last-or : (xs : List FetchedCommand) (x : FetchedCommand) (i : ℕ) (t : FetchedCommand)
    → slice_get (xs ++ x ∷ []) i ≡ Some t → (slice_get xs i ≡ Some t) ⊎ (x ≡ t)
last-or [] x zero t h = inr cc
last-or [] x (suc i) t h = inl h
last-or (y ∷ xs) x zero t h = inl h
last-or (y ∷ xs) x (suc i) t h = last-or xs x i t h

took : (q : ℕ) (c : Controller) → IsWired c → (o : Option SubmissionQueue)
    → fetchable c q ≡ o → IsWired (fetched_from q c o).controller
took q c w None is = w
took q c w (Some queue) is =
    let here = fetchable-at c q queue is in
    let next : SubmissionQueue = record queue { head = fetched_one queue.head } in
    record {
      fetched =
          λ i t h. elim (last-or c.fetched (record { entry = head_entry c queue; queue = q; marked = false }) i t h) [
            | inl old ↦ (let r = w.fetched i t old in set-some c.submission q t.queue next r.0 r.1)
            | inr new ↦ set-some c.submission q t.queue next queue
                (ap (λ (x : FetchedCommand). submission_at c x.queue) (sym new) ∙ here)
          ];
      completes = λ m s h. elim (set-either c.submission q m (Some next) s h) [
        | inl new ↦ (let same : next.cqid ≡ s.cqid = ap cqid_of new in let r = w.completes q queue here in
            (r.0, ap (λ n. completion_at c n) (sym same) ∙ r.1))
        | inr old ↦ w.completes m s old
      ];
    }

action-fetch : (q : ℕ) (c : Controller) → IsWired c → IsWired (after_fetch q c).controller
unfolding after_fetch
action-fetch q c w = took q c w (fetchable c q) refl

action-write : (offset v : ℕ) (c : Controller) → IsWired c → IsWired (after_write32 offset v c)
unfolding after_write32
action-write offset v c w = effects
    (after_write c.registers offset v).effect (record c { registers = (after_write c.registers offset v).registers })
    (record { fetched = w.fetched; completes = w.completes })

action-read : (offset : ℕ) (c : Controller) → IsWired c → IsWired (has_read offset c).controller
action-read offset c w = w

action-store : (address : ℕ) (bytes : List ℕ) (c : Controller)
    → IsWired c → IsWired (after_store address bytes c).controller
unfolding after_store
action-store address bytes c w = elim (nat_le (address + length bytes) window_size) as (λ b. IsWired (if b then reaction
    (record c { window = with_bytes c.window address bytes }) Stored else reaction c Outside).controller) [
      | true ↦ with-window c (with_bytes c.window address bytes) w
      | false ↦ w
    ]

-- All controllers.

keeps_wired : Keeps IsWired
keeps_wired = record {
  marks = λ n c w. wired-marked n c w;
  store = λ address bytes c w. action-store address bytes c w;
  write = λ offset v c w. action-write offset v c w;
  fetch = λ q c w. action-fetch q c w;
  cycle = λ c w. record { fetched = λ i t h. absurd (none-some _ h); completes = λ q s h. absurd (none-alone q s h) };
  finish = λ tells w d k i c t p a room answers wired.
      finishes tells (record { world = w; window = c.window; device = d }) k c i t p a answers wired;
}

pub wiring_stays : WiringStays
wiring_stays tells old new event seen step wired = step-keeps IsWired keeps_wired tells old new event seen step wired

-- The opening.

new_is_wired : (k : ℕ) → IsWired (new_controller k)
new_is_wired k = record { fetched = λ i t h. absurd (none-some _ h); completes = λ q s h. absurd (none-alone q s h) }

all-new : (ks : List ControllerConfig) (i : ℕ) (d : Controller)
    → slice_get (map (λ (k : ControllerConfig). new_controller k.cntlid) ks) i ≡ Some d → IsWired d
all-new [] i d h = absurd (none-some _ h)
all-new (k ∷ ks) zero d h = subst IsWired (same_Some _ _ h) (new_is_wired k.cntlid)
all-new (k ∷ ks) (suc i) d h = all-new ks i d h

pub opening_is_wired : OpeningIsWired
unfolding opening controller_at
opening_is_wired c m zero d h = absurd (none-some _ h)
opening_is_wired c m (suc i) d h = all-new c.controllers i d h
