-- For invariants of controllers: what each event keeps of a controller holds of every controller in every run.
use Rattle.std.proofs.Common.{
  ◌≡◌,
  ◌⊎◌,
  inl,
  inr,
  ℕ,
  zero,
  suc,
  Bool,
  List,
  [],
  ◌∷◌,
  Option,
  None,
  Some,
  refl,
  sym,
  subst,
  ◌∙◌,
}
use Rattle.std.specs.Prelude.{slice_get, slice_set, option_map}
use Rattle.std.proofs.lemmas.Option.{none-some, same_Some}
use Rattle.nvme_spec.specs.declared.outcome.Marks.{Marks}
use Rattle.nvme_spec.specs.Blocks.{Device}
use Rattle.nvme_spec.specs.World.{World}
use Rattle.nvme_machine.specs.declared.event.Event.{Event}
use Rattle.nvme_machine.specs.declared.event.Event.TheVariants.{Store, Write32, Fetch}
use Rattle.nvme_machine.specs.declared.fetched.FetchedCommand.{FetchedCommand}
use Rattle.nvme_machine.specs.declared.seen.Seen.{Seen}
use Rattle.nvme_machine.specs.Controllers.{
  Controller,
  QueuePair,
  power_cycled,
  queues_of,
  open_pair,
  with_marks,
  after_store,
  after_write32,
  after_fetch,
}
use Rattle.nvme_machine.specs.CommandExecutions.{CommandExecution, CommandComesTo}
use Rattle.nvme_machine.specs.Subsystems.{
  Subsystem,
  Step,
  Run,
  controller_at,
  controller_of,
  with_controller,
  after_completion,
  after_execution,
  numbered,
  replaced,
  marked_from,
}
use Rattle.nvme_machine.proofs.Others.{marks-numbered, cycled-at}
use Rattle.nvme_machine.proofs.StepCases.{StepCase, Unchanged, Reacted, Completed, PowerCycled, reaction_of, step-case}

-- what every action on a controller keeps
pub record Keeps (P : Controller → Type 0) : Type 0 where
  pub marks : (n : ℕ) → (c : Controller) → P c → P (with_marks n c)
  pub store : (address : ℕ) → (bytes : List ℕ) → (c : Controller) → P c → P (after_store address bytes c).controller
  pub write : (offset v : ℕ) → (c : Controller) → P c → P (after_write32 offset v c)
  pub fetch : (q : ℕ) → (c : Controller) → P c → P (after_fetch q c).controller
  pub cycle : (c : Controller) → P c → P (power_cycled c)
  pub finish : (tells : Bool) → (w : World) → (d : Device) → (k i : ℕ) → (c : Controller) → (t : FetchedCommand)
      → (p : QueuePair) → (a : CommandExecution) → open_pair c t ≡ Some p
      → CommandComesTo tells (queues_of c) k t (record { world = w; window = c.window; device = d }) a → P c
      → P (after_completion i t p a c)

abbrev All : (Controller → Type 0) → List Controller → Type 0
All P cs = (k : ℕ) → (c : Controller) → numbered cs k ≡ Some c → P c

-- a property that all controllers of a subsystem have
abbrev pub Everywhere : (Controller → Type 0) → Subsystem → Type 0
Everywhere P s = (k : ℕ) → (c : Controller) → controller_at s k ≡ Some c → P c

got-set : (cs : List Controller) (i j : ℕ) (x d : Controller) → slice_get (slice_set cs i x) j ≡ Some d
    → (x ≡ d) ⊎ (slice_get cs j ≡ Some d)
got-set [] i j x d h = inr h
got-set (c ∷ cs) zero zero x d h = inl cc
got-set (c ∷ cs) zero (suc j) x d h = inr h
got-set (c ∷ cs) (suc i) zero x d h = inr h
got-set (c ∷ cs) (suc i) (suc j) x d h = got-set cs i j x d h

all-replaced : (P : Controller → Type 0) (cs : List Controller) (k : ℕ) (x : Controller)
    → All P cs → P x → All P (replaced cs k x)
all-replaced P cs zero x all w j d h = all j d h
all-replaced P cs (suc i) x all w zero d h = all zero d h
all-replaced P cs (suc i) x all w (suc j) d h = elim (got-set cs i j x d h) [
  | inl same ↦ subst P same w
  | inr old ↦ all (suc j) d old
]

is-marked : (P : Controller → Type 0) → Keeps P → (n : ℕ) (o : Option Controller) (d : Controller)
    → ((c : Controller) → o ≡ Some c → P c) → option_map (with_marks n) o ≡ Some d → P d
is-marked P keeps n None d all h = absurd (none-some _ h)
is-marked P keeps n (Some c) d all h = subst P (same_Some _ _ h) (keeps.marks n c (all c refl))

all-marked : (P : Controller → Type 0) → Keeps P → (w : World) (m : Marks) (cs : List Controller)
    → All P cs → All P (marked_from w m 1 cs)
all-marked P keeps w m cs all k d h = elim (marks-numbered w m cs k) [
  | inl same ↦ all k d (sym same ∙ h)
  | inr x ↦ is-marked P keeps m.nsid (numbered cs k) d (all k) (sym x.marked ∙ h)
]

is-cycled : (P : Controller → Type 0) → Keeps P → (o : Option Controller) (d : Controller)
    → ((c : Controller) → o ≡ Some c → P c) → option_map power_cycled o ≡ Some d → P d
is-cycled P keeps None d all h = absurd (none-some _ h)
is-cycled P keeps (Some c) d all h = subst P (same_Some _ _ h) (keeps.cycle c (all c refl))

reaction-keeps : (P : Controller → Type 0) → Keeps P → (event : Event) (c : Controller)
    → P c → P (reaction_of event c).controller
reaction-keeps P keeps (Store k address bytes) = keeps.store address bytes.now
reaction-keeps P keeps (Write32 k offset v) = keeps.write offset v
reaction-keeps P keeps (Fetch k q) = keeps.fetch q
reaction-keeps P keeps event = λ c p. p

case-keeps : (P : Controller → Type 0) → Keeps P
    → (tells : Bool) (old new : Subsystem) (event : Event) (seen : Seen)
    → StepCase tells old new event seen → Everywhere P old → Everywhere P new
unfolding with_controller controller_at after_execution
case-keeps P keeps tells old new event seen (Unchanged same) all = subst (Everywhere P) (sym same) all
case-keeps P keeps tells old new event seen (Reacted c at is) all = subst (Everywhere P) (sym is)
    (all-replaced P old.controllers (controller_of event) (reaction_of event c).controller all
    (reaction-keeps P keeps event c (all (controller_of event) c at)))
case-keeps P keeps tells old new event seen (Completed k i is c t p at found room h) all =
    let a : CommandExecution = h.execution in
    subst (Everywhere P) (sym h.leaves)
    (all-marked P keeps a.left.world a.outcome.marks (replaced old.controllers k (after_completion i t p a c))
    (all-replaced P old.controllers k (after_completion i t p a c) all
    (keeps.finish tells old.world old.device k i c t p a room h.comes_to (all k c at))))
case-keeps P keeps tells old new event seen (PowerCycled is same) all = λ k d at.
    is-cycled P keeps (controller_at old k) d (all k) (sym (cycled-at old new k same) ∙ at)

pub step-keeps : (P : Controller → Type 0)
    → Keeps P → (tells : Bool) (old new : Subsystem) (event : Event) (seen : Seen)
    → Step tells old event seen new → Everywhere P old → Everywhere P new
step-keeps P keeps tells old new event seen h all =
    case-keeps P keeps tells old new event seen (step-case tells old new event seen h) all

pub run-keeps : (P : Controller → Type 0)
    → Keeps P → (tells : Bool) (old new : Subsystem) (events : List Event) (seen : List Seen)
    → Run tells old events seen new → Everywhere P old → Everywhere P new
run-keeps P keeps tells old new [] [] run all = subst (Everywhere P) (sym run) all
run-keeps P keeps tells old new [] (x ∷ later) run all = absurd run
run-keeps P keeps tells old new (event ∷ events) [] run all = absurd run
run-keeps P keeps tells old new (event ∷ events) (x ∷ later) run all =
    run-keeps P keeps tells run.0 new events later run.2 (step-keeps P keeps tells old run.0 event x run.1 all)
