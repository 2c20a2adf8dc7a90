-- For the answers of most calls: controllers by their identifiers and by their places.
use Rattle.std.proofs.Common.{
  ◌≡◌,
  ℕ,
  zero,
  suc,
  ◌+◌,
  ◌≤◌,
  ◌<◌,
  get_or,
  Bool,
  List,
  [],
  ◌∷◌,
  ◌++◌,
  length,
  take,
  drop,
  Option,
  None,
  Some,
  refl,
  sym,
  ap,
  subst,
  ◌∙◌,
  arith,
}
use Rattle.std.specs.Prelude.{slice_get, slice_set}
use Rattle.std.proofs.lemmas.Grind.{common_steps}
use Rattle.std.proofs.lemmas.Option.{slice_get_read}
use Rattle.nvme_spec.specs.Blocks.{Device}
use Rattle.nvme_spec.specs.World.{World}
use Rattle.nvme_spec.specs.MediumCalls.{MediumCall, MakesCalls}
use Rattle.nvme_machine.specs.declared.fetched.FetchedCommand.{FetchedCommand}
use Rattle.nvme_machine.specs.declared.seen.Executed as executed
use Rattle.nvme_machine.specs.declared.seen.Executed.TheVariants.{Posted, NoSuch, CqFull}
use Rattle.nvme_machine.specs.declared.seen.Seen.{Seen}
use Rattle.nvme_machine.specs.declared.seen.Seen.TheVariants.{NoController, Executed}
use Rattle.nvme_machine.specs.Controllers.{Controller, QueuePair, queues_of, Reaction, reaction, open_pair}
use Rattle.nvme_machine.specs.CommandExecutions.{CommandComesTo}
use Rattle.nvme_machine.specs.Subsystems.{
  Subsystem,
  numbered,
  replaced,
  controller_at,
  with_controller,
  marked_from,
  after_completion,
  after_execution,
  scene_of,
  ReactsAs,
  Reacts,
  ExecutesAt,
  ExecutesOne,
  ExecutesOver,
}
use Rattle.nvme_machine.specs.Executing.{Setting, setting, FinishesOver, FinishesOne, ExecutesNth}
use Rattle.nvme_machine.specs.Calling.{AreCallsOfExecution, AreCallsOver, AreCallsOne, AreCallsNth}
use Rattle.nvme_machine.specs.EventCalls.{CallingOver, CallingOne, CallingAt}
use Rattle.nvme_subsys.specs.Marked.{marks_after}

-- Places.

numbered-at : (cs : List Controller) (k i : ℕ) → k ≡ i + 1 → numbered cs k ≡ slice_get cs i
numbered-at cs zero i h = absurd (omega (arith, h))
numbered-at cs (suc n) i h = let same : n ≡ i = omega (arith, h) in ap (slice_get cs) same

pub replaced-at : (cs : List Controller) (k i : ℕ) (c : Controller) → k ≡ i + 1 → replaced cs k c ≡ slice_set cs i c
replaced-at cs zero i c h = absurd (omega (arith, h))
replaced-at cs (suc n) i c h = let same : n ≡ i = omega (arith, h) in ap (λ m. slice_set cs m c) same

pub at-place : (s : Subsystem) (k i : ℕ) (c : Controller) → k ≡ i + 1 → slice_get s.controllers i ≡ Some c
    → controller_at s k ≡ Some c
unfolding controller_at
at-place s k i c h found = numbered-at s.controllers k i h ∙ found

nothing-at : (cs : List Controller) (i : ℕ) → length cs ≤ i → slice_get cs i ≡ None
nothing-at [] i h = refl
nothing-at (c ∷ cs) zero h = absurd (omega arith)
nothing-at (c ∷ cs) (suc i) h = nothing-at cs i (omega arith)

-- the controller that was read at a place
pub found-at : (w : World) (d : Device) (items : List Controller) (s : Subsystem) (place : ℕ) (x : Controller)
    → (let t : Subsystem = record { world = w; device = d; controllers = items } in t) ≡ s
    → place < length s.controllers → x ≡ get_or items place x → slice_get items place ≡ Some x
found-at w d items s place x view inside is =
    slice_get_read items (length items) place x refl
    (subst (λ (t : Subsystem). place < length t.controllers) (sym view) inside) is

-- no controller has the identifier 0, or one past the last
pub none-at-zero : (s : Subsystem) → controller_at s 0 ≡ None
unfolding controller_at
none-at-zero s = refl

pub none-past : (s : Subsystem) (k i : ℕ) → k ≡ i + 1 → length s.controllers ≤ i → controller_at s k ≡ None
unfolding controller_at
none-past s k i h past = numbered-at s.controllers k i h ∙ nothing-at s.controllers i past

-- A controller that reacts to an event.

pub reacts : (old : Subsystem) (k i : ℕ) (c d : Controller) (f : Controller → Reaction) (seen : Seen)
    → k ≡ i + 1 → slice_get old.controllers i ≡ Some c
    → f c ≡ reaction d seen → Reacts old k f seen (record old { controllers = slice_set old.controllers i d })
unfolding with_controller
reacts old k i c d f seen h found is =
    subst (λ o. ReactsAs o old k f seen (record old { controllers = slice_set old.controllers i d }))
    (sym (at-place old k i c h found)) (
      ap (λ (r : Reaction). r.seen) (sym is),
      ap (λ cs. record old { controllers = cs }) (sym (replaced-at old.controllers k i d h)
          ∙ ap (λ (r : Reaction). replaced old.controllers k r.controller) (sym is)),
    )

pub set-same : (cs : List Controller) (i : ℕ) (c : Controller) → slice_get cs i ≡ Some c → slice_set cs i c ≡ cs
set-same [] i c e = absurd (cc)
set-same (x ∷ cs) zero c e = let same : x ≡ c = cc in ap (λ y. y ∷ cs) (sym same)
set-same (x ∷ cs) (suc i) c e = ap (λ ys. x ∷ ys) (set-same cs i c e)

-- a reaction that leaves the controller unchanged leaves the subsystem unchanged
pub reacts-still : (old : Subsystem) (k i : ℕ) (c : Controller) (f : Controller → Reaction) (seen : Seen)
    → k ≡ i + 1 → slice_get old.controllers i ≡ Some c
    → f c ≡ reaction c seen → Reacts old k f seen old
unfolding with_controller
reacts-still old k i c f seen h found is =
    subst (λ o. ReactsAs o old k f seen old) (sym (at-place old k i c h found)) (
      ap (λ (r : Reaction). r.seen) (sym is),
      ap (λ cs. record old { controllers = cs }) (sym (ap (λ (r : Reaction). replaced old.controllers k r.controller) is
          ∙ replaced-at old.controllers k i c h ∙ set-same old.controllers i c found)),
    )

pub misses : (old : Subsystem) (k : ℕ) (f : Controller → Reaction)
    → controller_at old k ≡ None → Reacts old k f NoController old
misses old k f none = subst (λ o. ReactsAs o old k f NoController old) (sym none) (refl, refl)

-- A controller that executes a command.

abbrev pub after-set : Subsystem → ℕ → Setting → Subsystem
after-set old i s =
    record { world = s.world; device = s.device; controllers = slice_set old.controllers i s.controller }

-- with the marks of a posted command
abbrev pub with_outcome : executed.Executed → Subsystem → Subsystem
with_outcome x s = record s { controllers = marks_after s.world x s.controllers }

pub none-executes : (tells : Bool) (old : Subsystem) (k i : ℕ)
    → controller_at old k ≡ None → ExecutesAt (controller_at old k) tells old k i NoController old
none-executes tells old k i none = subst (λ o. ExecutesAt o tells old k i NoController old) (sym none) (refl, refl)

-- an execution that changes nothing leaves the subsystem unchanged
stays : (old : Subsystem) (place : ℕ) (c : Controller) (x : executed.Executed) (s : Setting)
    → slice_get old.controllers place ≡ Some c → s ≡ setting c old.world old.device
    → (y : executed.Executed) → x ≡ y → with_outcome y (after-set old place (setting c old.world old.device)) ≡ old
    → with_outcome x (after-set old place s) ≡ old
stays old place c x s found is y same e =
    ap (λ z. with_outcome z (after-set old place s)) same ∙ ap (λ z. with_outcome y (after-set old place z)) is ∙ e

whole : (old : Subsystem) (place : ℕ) (c : Controller) → slice_get old.controllers place ≡ Some c
    → after-set old place (setting c old.world old.device) ≡ old
whole old place c found = ap (λ cs. record old { controllers = cs }) (set-same old.controllers place c found)

over : (o : Option QueuePair) (tells : Bool)
    (old : Subsystem) (k place : ℕ) (c : Controller) (i : ℕ) (t : FetchedCommand) (x : executed.Executed) (s : Setting)
    → k ≡ place + 1 → slice_get old.controllers place ≡ Some c → c.cntlid ≡ k
    → FinishesOver o tells i t (setting c old.world old.device) x s
    → ExecutesOver o tells old k c i t (Executed x) (with_outcome x (after-set old place s))
unfolding after_execution
over None tells old k place c i t x s at found named h =
    (ap Executed h.0, stays old place c x s found h.1 CqFull h.0 (whole old place c found))
over (Some p) tells old k place c i t x s at found named h = record {
  execution = h.execution;
  comes_to = subst (λ n. CommandComesTo tells (queues_of c) n t (scene_of old c) h.execution) named h.comes_to;
  gives = ap Executed h.gives;
  leaves =
      ap (λ y. with_outcome y (after-set old place s)) h.gives
      ∙ (λ j. record {
        world = h.world j;
        device = h.device j;
        controllers = marked_from (h.world j) h.execution.outcome.marks 1 ((ap (λ d. slice_set old.controllers place d)
            h.controller ∙ sym (replaced-at old.controllers k place (after_completion i t p h.execution c) at)) j);
      });
}

one : (o : Option FetchedCommand) (tells : Bool) (old : Subsystem) (k place : ℕ) (c : Controller) (i : ℕ)
    (x : executed.Executed) (s : Setting) → k ≡ place + 1 → slice_get old.controllers place ≡ Some c → c.cntlid ≡ k
    → FinishesOne o tells i (setting c old.world old.device) x s
    → ExecutesOne o tells old k c i (Executed x) (with_outcome x (after-set old place s))
one None tells old k place c i x s at found named h =
    (ap Executed h.0, stays old place c x s found h.1 NoSuch h.0 (whole old place c found))
one (Some t) tells old k place c i x s at found named h =
    over (open_pair c t) tells old k place c i t x s at found named h

pub executes : (tells : Bool) (old : Subsystem) (k place : ℕ) (c : Controller) (i : ℕ) (x : executed.Executed)
    (s : Setting) → k ≡ place + 1 → slice_get old.controllers place ≡ Some c → c.cntlid ≡ k
    → ExecutesNth tells i (setting c old.world old.device) x s
    → ExecutesAt (controller_at old k) tells old k i (Executed x) (with_outcome x (after-set old place s))
executes tells old k place c i x s at found named h =
    subst (λ o. ExecutesAt o tells old k i (Executed x) (with_outcome x (after-set old place s)))
    (sym (at-place old k place c at found))
    (one (slice_get c.fetched i) tells old k place c i x s at found named h)

-- and the calls that it makes of the medium
calling-over : (o : Option QueuePair) (tells : Bool) (old : Subsystem) (k place : ℕ) (c : Controller) (i : ℕ)
    (t : FetchedCommand) (x : executed.Executed) (s : Setting) (calls : List MediumCall) → k ≡ place + 1
    → slice_get old.controllers place ≡ Some c → c.cntlid ≡ k
    → AreCallsOver o tells i t (setting c old.world old.device) x s calls
    → CallingOver o tells old k c i t (Executed x) (with_outcome x (after-set old place s)) calls
unfolding over
calling-over None tells old k place c i t x s calls at found named h =
    (ap Executed h.0, stays old place c x s found h.1 CqFull h.0 (whole old place c found), h.2)
calling-over (Some p) tells old k place c i t x s calls at found named h = record {
  completes = over (Some p) tells old k place c i t x s at found named h.finishes;
  are = subst (λ n. AreCallsOfExecution n t (scene_of old c) h.finishes.execution calls) named h.are;
}

calling-one : (o : Option FetchedCommand) (tells : Bool) (old : Subsystem) (k place : ℕ) (c : Controller) (i : ℕ)
    (x : executed.Executed) (s : Setting) (calls : List MediumCall) → k ≡ place + 1
    → slice_get old.controllers place ≡ Some c → c.cntlid ≡ k
    → AreCallsOne o tells i (setting c old.world old.device) x s calls
    → CallingOne o tells old k c i (Executed x) (with_outcome x (after-set old place s)) calls
calling-one None tells old k place c i x s calls at found named h =
    (ap Executed h.0, stays old place c x s found h.1 NoSuch h.0 (whole old place c found), h.2)
calling-one (Some t) tells old k place c i x s calls at found named h =
    calling-over (open_pair c t) tells old k place c i t x s calls at found named h

pub calling : {M : Type 0} (step : M → MediumCall → M → Type 0) (before after : M) (tells : Bool) (old : Subsystem)
    (k place : ℕ) (c : Controller) (i : ℕ) (x : executed.Executed) (s : Setting) → k ≡ place + 1
    → slice_get old.controllers place ≡ Some c → c.cntlid ≡ k
    → MakesCalls step (AreCallsNth tells i (setting c old.world old.device) x s) before after
    → MakesCalls step
    (CallingAt (controller_at old k) tells old k i (Executed x) (with_outcome x (after-set old place s))) before after
calling step before after tells old k place c i x s at found named h = record {
  calls = h.calls;
  are = subst (λ o. CallingAt o tells old k i (Executed x) (with_outcome x (after-set old place s)) h.calls)
      (sym (at-place old k place c at found))
      (calling-one (slice_get c.fetched i) tells old k place c i x s h.calls at found named h.are);
  made = h.made;
}

pub none-calling : {M : Type 0} (step : M → MediumCall → M → Type 0) (m : M) (tells : Bool) (old : Subsystem) (k i : ℕ)
    → controller_at old k ≡ None
    → MakesCalls step (CallingAt (controller_at old k) tells old k i NoController old) m m
none-calling step m tells old k i none = record {
  calls = [];
  are = subst (λ o. CallingAt o tells old k i NoController old []) (sym none) (refl, refl, refl);
  made = refl;
}

-- And back: an execution in the subsystem is one of its controller, with the marks of its outcome.
pub record IsExecutedAs (P : executed.Executed → Setting → Type 0) (old : Subsystem) (place : ℕ) (seen : Seen)
    (new : Subsystem) : Type 0 where
  pub executed : executed.Executed
  pub left : Setting
  pub gives : seen ≡ Executed executed
  pub executes : P executed left
  pub leaves : new ≡ with_outcome executed (after-set old place left)

over-back : (o : Option QueuePair) (tells : Bool)
    (old : Subsystem) (k place : ℕ) (c : Controller) (i : ℕ) (t : FetchedCommand) (seen : Seen) (new : Subsystem)
    → k ≡ place + 1 → slice_get old.controllers place ≡ Some c → c.cntlid ≡ k
    → ExecutesOver o tells old k c i t seen new
    → IsExecutedAs (FinishesOver o tells i t (setting c old.world old.device)) old place seen new
unfolding after_execution
over-back None tells old k place c i t seen new at found named h = record {
  executed = CqFull;
  left = setting c old.world old.device;
  gives = h.0;
  executes = (refl, refl);
  leaves = h.1 ∙ sym (whole old place c found);
}
over-back (Some p) tells old k place c i t seen new at found named h = record {
  executed = Posted h.execution.outcome;
  left = setting (after_completion i t p h.execution c) h.execution.left.world h.execution.left.device;
  gives = h.gives;
  executes = record {
    execution = h.execution;
    comes_to = subst (λ n. CommandComesTo tells (queues_of c) n t (scene_of old c) h.execution) (sym named) h.comes_to;
    gives = refl;
    controller = refl;
    world = refl;
    device = refl;
  };
  leaves = h.leaves
      ∙ ap (λ cs. (let b : Subsystem = record {
        world = h.execution.left.world;
        device = h.execution.left.device;
        controllers = marked_from h.execution.left.world h.execution.outcome.marks 1 cs;
      } in b))
      (replaced-at old.controllers k place (after_completion i t p h.execution c) at);
}

one-back : (o : Option FetchedCommand) (tells : Bool) (old : Subsystem) (k place : ℕ) (c : Controller) (i : ℕ)
    (seen : Seen) (new : Subsystem) → k ≡ place + 1 → slice_get old.controllers place ≡ Some c → c.cntlid ≡ k
    → ExecutesOne o tells old k c i seen new
    → IsExecutedAs (FinishesOne o tells i (setting c old.world old.device)) old place seen new
one-back None tells old k place c i seen new at found named h = record {
  executed = NoSuch;
  left = setting c old.world old.device;
  gives = h.0;
  executes = (refl, refl);
  leaves = h.1 ∙ sym (whole old place c found);
}
one-back (Some t) tells old k place c i seen new at found named h =
    over-back (open_pair c t) tells old k place c i t seen new at found named h

pub executed-back : (tells : Bool) (old : Subsystem) (k place : ℕ) (c : Controller) (i : ℕ) (seen : Seen)
    (new : Subsystem) → k ≡ place + 1 → slice_get old.controllers place ≡ Some c → c.cntlid ≡ k
    → ExecutesAt (controller_at old k) tells old k i seen new
    → IsExecutedAs (ExecutesNth tells i (setting c old.world old.device)) old place seen new
executed-back tells old k place c i seen new at found named h =
    one-back (slice_get c.fetched i) tells old k place c i seen new at found named
    (subst (λ o. ExecutesAt o tells old k i seen new) (at-place old k place c at found) h)

-- a `Vec` after a slice of all its elements was borrowed
pub refill-all : {A : Type 0} (n : ℕ) (xs ws : List A) → n ≡ length ws → take n (ws ++ drop (length ws) xs) ≡ ws
refill-all n xs ws long = grind (arith, common_steps)
