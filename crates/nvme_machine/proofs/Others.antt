-- For laws about runs: an event on one controller changes at most marks of the others.
use Rattle.std.proofs.Common.{
  ◌≡◌,
  ◌≢◌,
  ◌⊎◌,
  inl,
  inr,
  ℕ,
  zero,
  suc,
  ◌+◌,
  ◌==◌,
  Bool,
  true,
  false,
  List,
  [],
  ◌∷◌,
  Option,
  Some,
  refl,
  sym,
  ap,
  subst,
  ◌∙◌,
  arith,
}
use Rattle.std.specs.Prelude.{if◌then◌else◌, slice_get, slice_set, option_map, map}
use Rattle.nvme_spec.specs.declared.outcome.Marks.{Marks}
use Rattle.nvme_spec.specs.World.{World, host_of}
use Rattle.std.proofs.lemmas.Bool.{eqb-true, eqb-false, cases_Bool}
use Rattle.std.proofs.lemmas.Option.{slice_get-map, same_Some}
use Rattle.nvme_machine.specs.declared.event.Event.{Event}
use Rattle.nvme_machine.specs.declared.event.Event.TheVariants.{Execute, PowerCycle}
use Rattle.nvme_machine.specs.declared.fetched.FetchedCommand.{FetchedCommand}
use Rattle.nvme_machine.specs.declared.seen.Seen.{Seen}
use Rattle.nvme_machine.specs.Controllers.{
  Controller,
  QueuePair,
  Reaction,
  queues_of,
  power_cycled,
  with_marks,
  open_pair,
}
use Rattle.nvme_machine.specs.CommandExecutions.{CommandExecution, CommandComesTo}
use Rattle.nvme_machine.specs.Subsystems.{
  Subsystem,
  Step,
  controller_at,
  controller_of,
  scene_of,
  with_controller,
  after_completion,
  after_execution,
  after_power_cycle,
  numbered,
  replaced,
  marked_from,
  is_host_among,
}
use Rattle.nvme_machine.specs.Runs.{IsMarkedBy, OthersChangeInMarksAlone}
use Rattle.nvme_machine.proofs.StepCases.{StepCase, Unchanged, Reacted, Completed, PowerCycled, reaction_of, step-case}

-- controller k after marking
pub record IsMarked (w : World) (m : Marks) (k : ℕ) (old new : Option Controller) : Type 0 where
  pub removed : is_host_among m.hosts.items (host_of w k) ≡ true
  pub marked : new ≡ option_map (with_marks m.nsid) old

one-marked : (w : World) (m : Marks) (k : ℕ) (c : Controller) (b : Bool) → is_host_among m.hosts.items (host_of w k) ≡ b
    → (Some (if b then with_marks m.nsid c else c) ≡ Some c)
    ⊎ IsMarked w m k (Some c) (Some (if b then with_marks m.nsid c else c))
one-marked w m k c true is = inr (record { removed = is; marked = refl })
one-marked w m k c false is = inl refl

marks-place : (w : World) (m : Marks) (j : ℕ) (cs : List Controller) (i k : ℕ) → k ≡ j + i
    → (slice_get (marked_from w m j cs) i ≡ slice_get cs i)
    ⊎ IsMarked w m k (slice_get cs i) (slice_get (marked_from w m j cs) i)
marks-place w m j [] i k at = inl refl
marks-place w m j (c ∷ cs) zero k at =
    let same : j ≡ k = omega (arith, at) in
    subst (λ x. (slice_get (marked_from w m j (c ∷ cs)) zero ≡ Some c)
    ⊎ IsMarked w m x (Some c) (slice_get (marked_from w m j (c ∷ cs)) zero)) same
    (one-marked w m j c (is_host_among m.hosts.items (host_of w j)) refl)
marks-place w m j (c ∷ cs) (suc i) k at = marks-place w m (j + 1) cs i k (omega (arith, at))

pub marks-numbered : (w : World) (m : Marks) (cs : List Controller) (k : ℕ)
    → (numbered (marked_from w m 1 cs) k ≡ numbered cs k)
    ⊎ IsMarked w m k (numbered cs k) (numbered (marked_from w m 1 cs) k)
marks-numbered w m cs zero = inl refl
marks-numbered w m cs (suc i) = marks-place w m 1 cs i (suc i) (omega arith)

pub set-other : (cs : List Controller) (i j : ℕ) (c : Controller)
    → i ≢ j → slice_get (slice_set cs j c) i ≡ slice_get cs i
set-other [] i j c other = refl
set-other (x ∷ cs) zero zero c other = absurd (other refl)
set-other (x ∷ cs) zero (suc j) c other = refl
set-other (x ∷ cs) (suc i) zero c other = refl
set-other (x ∷ cs) (suc i) (suc j) c other = set-other cs i j c (λ e. other (ap suc e))

pub replaced-other : (cs : List Controller) (k other : ℕ) (c : Controller)
    → other ≢ k → numbered (replaced cs k c) other ≡ numbered cs other
replaced-other cs zero other c h = refl
replaced-other cs (suc k) zero c h = refl
replaced-other cs (suc k) (suc i) c h = set-other cs i k c (λ e. h (ap suc e))

set-same : (cs : List Controller) (i : ℕ) (c d : Controller)
    → slice_get cs i ≡ Some c → slice_get (slice_set cs i d) i ≡ Some d
set-same [] i c d h = absurd (cc)
set-same (x ∷ cs) zero c d h = refl
set-same (x ∷ cs) (suc i) c d h = set-same cs i c d h

pub replaced-same : (cs : List Controller) (k : ℕ) (c d : Controller)
    → numbered cs k ≡ Some c → numbered (replaced cs k d) k ≡ Some d
replaced-same cs zero c d h = absurd (cc)
replaced-same cs (suc i) c d h = set-same cs i c d h

pub same_place : (i m : ℕ) → (i ≡ m) ⊎ (i ≢ m)
same_place i m = elim (cases_Bool (i == m)) [
  | inl e ↦ inl (eqb-true i m e)
  | inr e ↦ inr (eqb-false i m e)
]

-- the k-th controller after an execution
pub executed-at : (old new : Subsystem) (k : ℕ) (c : Controller) (i : ℕ) (t : FetchedCommand) (p : QueuePair)
    (a : CommandExecution) (other : ℕ) → new ≡ after_execution old k c i t p a
    → controller_at new other ≡ numbered
    (marked_from a.left.world a.outcome.marks 1 (replaced old.controllers k (after_completion i t p a c))) other
unfolding after_execution controller_at
executed-at old new k c i t p a other e = ap (λ s. controller_at s other) e

-- the k-th controller after a power cycle
cycled-numbered : (cs : List Controller) (k : ℕ)
    → numbered (map power_cycled cs) k ≡ option_map power_cycled (numbered cs k)
cycled-numbered cs zero = refl
cycled-numbered cs (suc i) = slice_get-map power_cycled cs i

pub cycled-at : (old new : Subsystem) (k : ℕ)
    → new ≡ after_power_cycle old → controller_at new k ≡ option_map power_cycled (controller_at old k)
unfolding after_power_cycle controller_at
cycled-at old new k e = ap (λ s. controller_at s k) e ∙ cycled-numbered old.controllers k

-- what may change of another controller than that of the event
abbrev Changes : Subsystem → Subsystem → Event → Seen → ℕ → Type 0
Changes old new event seen other =
    (controller_at new other ≡ controller_at old other)
    ⊎ IsMarkedBy new.world seen other (controller_at old other) (controller_at new other)
    ⊎ ((event ≡ PowerCycle) × (controller_at new other ≡ option_map power_cycled (controller_at old other)))

changes : (tells : Bool) (old new : Subsystem) (event : Event) (seen : Seen) → StepCase tells old new event seen
    → (other : ℕ) → other ≢ controller_of event → Changes old new event seen other
unfolding with_controller after_execution controller_at
changes tells old new event seen (Unchanged e) other apart = inl (ap (λ s. controller_at s other) e)
changes tells old new event seen (Reacted c at e) other apart =
    inl (ap (λ s. controller_at s other) e
    ∙ (let a : Reaction = reaction_of event c in
    replaced-other old.controllers (controller_of event) other a.controller apart))
changes tells old new event seen (Completed k i is c t p at found room h) other apart =
    let a : CommandExecution = h.execution in
    let end : Controller = after_completion i t p a c in
    let new_at = executed-at old new k c i t p a other h.leaves in
    let same = replaced-other old.controllers k other end (subst (λ e. other ≢ controller_of e) is apart) in
    let world : a.left.world ≡ new.world = sym (ap (λ (s : Subsystem). s.world) h.leaves) in
    elim (marks-numbered a.left.world a.outcome.marks (replaced old.controllers k end) other) [
      | inl kept ↦ inl (new_at ∙ kept ∙ same)
      | inr m ↦ inr (inl (record {
        outcome = a.outcome;
        gives = h.gives;
        removed = ap (λ w. is_host_among a.outcome.marks.hosts.items (host_of w other)) (sym world) ∙ m.removed;
        marked = new_at ∙ m.marked ∙ ap (option_map (with_marks a.outcome.marks.nsid)) same;
      }))
    ]
changes tells old new event seen (PowerCycled is e) other apart = inr (inr (is, cycled-at old new other e))

pub others_change_in_marks_alone : OthersChangeInMarksAlone
others_change_in_marks_alone tells old new event seen step other apart =
    changes tells old new event seen (step-case tells old new event seen step) other apart

-- A property of a controller, over a step. Marks keep it, and each other event of the controller keeps it too, unless
-- there is an exception E.
pub record Survives (Q : Controller → Type 0) (E : Type 0) (tells : Bool) (old : Subsystem) (event : Event) (j : ℕ)
    (c : Controller) : Type 0 where
  pub marks : (n : ℕ) → (d : Controller) → Q d → Q (with_marks n d)
  pub stays : Q c
  pub reacts : controller_of event ≡ j → Q (reaction_of event c).controller ⊎ E
  pub finishes : (k i : ℕ) → (t : FetchedCommand) → (p : QueuePair) → (a : CommandExecution) → event ≡ Execute k i
      → k ≡ j → slice_get c.fetched i ≡ Some t → open_pair c t ≡ Some p
      → CommandComesTo tells (queues_of c) k t (scene_of old c) a → Q (after_completion i t p a c) ⊎ E
  pub cycles : event ≡ PowerCycle → Q (power_cycled c) ⊎ E

abbrev pub Has : (Controller → Type 0) → Option Controller → Type 0
Has Q o = (d : Controller) × (o ≡ Some d) × Q d

pub at-marked : (Q : Controller → Type 0) → ((n : ℕ) → (d : Controller) → Q d → Q (with_marks n d))
    → (w : World) (m : Marks) (cs : List Controller) (j : ℕ)
    → Has Q (numbered cs j) → Has Q (numbered (marked_from w m 1 cs) j)
at-marked Q marks w m cs j s = elim (marks-numbered w m cs j) [
  | inl same ↦ (s.0, same ∙ s.1, s.2)
  | inr x ↦ (with_marks m.nsid s.0, x.marked ∙ ap (option_map (with_marks m.nsid)) s.1, marks m.nsid s.0 s.2)
]

at-replaced : (Q : Controller → Type 0) (E : Type 0) (cs : List Controller) (k j : ℕ) (b x c : Controller)
    → numbered cs k ≡ Some b → numbered cs j ≡ Some c → (k ≡ j → c ≡ b → Q x ⊎ E) → Q c
    → Has Q (numbered (replaced cs k x) j) ⊎ E
at-replaced Q E cs k j b x c there at own kept = elim (same_place k j) [
  | inl same ↦ elim (own same (same_Some _ _ (sym at ∙ ap (numbered cs) (sym same) ∙ there))) [
    | inl q ↦ inl (x, subst (λ n. numbered (replaced cs n x) j ≡ Some x) (sym same) (replaced-same cs j c x at), q)
    | inr e ↦ inr e
  ]
  | inr other ↦ inl (c, replaced-other cs k j x (λ e. other (sym e)) ∙ at, kept)
]

survives-by : (Q : Controller → Type 0) (E : Type 0) (tells : Bool) (old new : Subsystem) (event : Event) (seen : Seen)
    → StepCase tells old new event seen → (j : ℕ) (c : Controller) → controller_at old j ≡ Some c
    → Survives Q E tells old event j c → Has Q (controller_at new j) ⊎ E
unfolding with_controller controller_at
survives-by Q E tells old new event seen (Unchanged e) j c at s =
    inl (c, ap (λ x. controller_at x j) e ∙ at, s.stays)
survives-by Q E tells old new event seen (Reacted b there e) j c at s =
    let own : controller_of event ≡ j → c ≡ b → Q (reaction_of event b).controller ⊎ E =
    λ same is. (let x : Survives Q E tells old event j b = subst (Survives Q E tells old event j) is s in
    x.reacts same) in
    elim (at-replaced Q E old.controllers (controller_of event) j b (reaction_of event b).controller c there at own
    s.stays) [
      | inl r ↦ inl (r.0, ap (λ x. controller_at x j) e ∙ r.1, r.2)
      | inr taken ↦ inr taken
    ]
survives-by Q E tells old new event seen (Completed k i is b t p there found room h) j c at s =
    let a : CommandExecution = h.execution in
    let end : Controller = after_completion i t p a b in
    let own : k ≡ j → c ≡ b → Q end ⊎ E =
    λ same here. (let x : Survives Q E tells old event j b = subst (Survives Q E tells old event j) here s in
    x.finishes k i t p a is same found room h.comes_to) in
    elim (at-replaced Q E old.controllers k j b end c there at own s.stays) [
      | inl r ↦ (let m =
          at-marked Q s.marks a.left.world a.outcome.marks (replaced old.controllers k end) j (r.0, r.1, r.2) in
          inl (m.0, executed-at old new k b i t p a j h.leaves ∙ m.1, m.2))
      | inr taken ↦ inr taken
    ]
survives-by Q E tells old new event seen (PowerCycled is e) j c at s = elim (s.cycles is) [
  | inl q ↦ inl (power_cycled c, cycled-at old new j e ∙ ap (option_map power_cycled) at, q)
  | inr taken ↦ inr taken
]

pub survives : (Q : Controller → Type 0) (E : Type 0) (tells : Bool) (old new : Subsystem) (event : Event) (seen : Seen)
    → Step tells old event seen new → (j : ℕ) (c : Controller) → controller_at old j ≡ Some c
    → Survives Q E tells old event j c → Has Q (controller_at new j) ⊎ E
survives Q E tells old new event seen step j c at s =
    survives-by Q E tells old new event seen (step-case tells old new event seen step) j c at s
