-- For `queues.rt`: the example runs of queues, computed.
use Rattle.std.specs.Prelude.{is_some, not, slice_get, slice_index_or, ◌&&◌}
use Rattle.std.proofs.Common.{
  Bool,
  List,
  None,
  Option,
  Some,
  [],
  ap,
  arith,
  false,
  inl,
  inr,
  length,
  refl,
  subst,
  suc,
  sym,
  true,
  zero,
  ℕ,
  ◌==◌,
  ◌∙◌,
  ◌∷◌,
  ◌≡◌,
}
use Rattle.std.proofs.lemmas.Bool.{false≢true}
use Rattle.std.proofs.lemmas.Option.{same_Some}
use Rattle.nvme_spec.specs.Layout.{IsLaidOut}
use Rattle.nvme_spec.specs.Memory.{window_size}
use Rattle.nvme_spec.specs.Pointer.{address}
use Rattle.nvme_spec.specs.Queues.{empty_submission_head}
use Rattle.nvme_spec.specs.RegisterLaws.{IsConsistent}
use Rattle.nvme_spec.specs.Configuration.{script_capacity}
use Rattle.nvme_spec.proofs.Openings.{opening_is_laid_out}
use Rattle.nvme_machine.specs.declared.event.Event.{Event}
use Rattle.nvme_machine.specs.declared.event.Event.TheVariants.{Execute, Fetch, PowerCycle, Read32, Store, Write32}
use Rattle.nvme_machine.specs.declared.fetched.FetchedCommand.{FetchedCommand}
use Rattle.nvme_machine.specs.declared.seen.Executed.TheVariants.{Posted}
use Rattle.nvme_machine.specs.declared.seen.Seen.TheVariants.{Cycled, Executed, Outside, Stored, Value, Wrote}
use Rattle.nvme_machine.specs.Controllers.{
  CompletionQueue,
  Controller,
  QueuePair,
  SubmissionQueue,
  completion_at,
  no_submission_queues,
  open_pair,
  submission_at,
}
use Rattle.nvme_machine.specs.FaultFree.{fault_free_left, fault_free_seen, fault_free_step}
use Rattle.nvme_machine.specs.Posted.{PostedEntry, RunSparing, StandsUnread, TakesEntry}
use Rattle.nvme_machine.specs.Preempted.{place_after}
use Rattle.nvme_machine.specs.Runs.{StandsIn, TakesOut, Waits}
use Rattle.nvme_machine.specs.Subsystems.{Run, Step, Subsystem, controller_at, opening}
use Rattle.nvme_machine.specs.Windows.{AllHaveTheirWindows, HasItsWindow, LiesInside, SubmitsInside}
use Rattle.nvme_machine.specs.Wiring.{IsWired}
use Rattle.nvme_machine.proofs.Determined.{steps}
use Rattle.nvme_machine.proofs.Layouts.{layout_stays}
use Rattle.nvme_machine.proofs.Posted.{posted_is_unread, unread_stands_over_runs}
use Rattle.nvme_machine.proofs.Windows.{length-zeros, opening_has_its_windows, windows_keep_their_length}
use Rattle.nvme_machine.proofs.Wirings.{waits_where_full}
use Rattle.nvme_theorem_runs.specs.Cluster.{
  blocks,
  cluster,
  done,
  fetched_in,
  fetched_of,
  flush,
  held_by_a1,
  is_up,
  pair,
  ready,
  zeroes,
  zeros,
}
use Rattle.nvme_theorem_runs.specs.Queues.{
  PostedAtWork,
  StayingAtWork,
  StayingOfAnyCommand,
  StayingOverAnyEvent,
  UnreadOverAnyRun,
  WaitingAtWork,
  WaitingOfAnyController,
  WindowsAtWork,
  WindowsOfAnyLength,
  entry,
  full,
  opened,
  posted,
  sparing_events,
  waiting,
  waiting_controller,
  waiting_events,
  whole,
  whole_pair,
  whole_queues,
  window_events,
}
use Rattle.nvme_theorem_runs.proofs.Computing.{both, distinct, followed, left-laid, negated, plain-run, run-keeping}
use Rattle.nvme_theorem_runs.proofs.Laying.{fits, laid}
use Rattle.nvme_theorem_runs.proofs.Unfolding.{computing}

-- Fetched commands.

waiting-laid : IsLaidOut waiting.world waiting.device.content
waiting-laid = laid (held_by_a1 1) [] (zeroes 1 ∷ zeroes 2 ∷ [])

staying-facts : (followed waiting 2 1 waiting_events ≡ Some 0)
    × (fetched_of (fault_free_left waiting waiting_events) 2 ≡ zeroes 2 ∷ [])
    × (fetched_of (fault_free_step waiting (Write32 2 0x14 0)).left 2 ≡ [])
    × (fetched_of (fault_free_step waiting PowerCycle).left 2 ≡ [])
    × TakesOut waiting waiting_controller 2 0 (zeroes 1) (Write32 2 0x14 0)
    × (controller_at waiting 2 ≡ Some waiting_controller) × (slice_get waiting_controller.fetched 0 ≡ Some (zeroes 1))
    × (fetched_of (fault_free_step waiting (Execute 2 0)).left 2 ≡ zeroes 2 ∷ [])
unfolding computing waiting_events place_after
staying-facts = (refl, refl, refl, refl, (refl, tt), refl, refl, refl)

no-doorbell : TakesOut waiting waiting_controller 2 0 (zeroes 1) (Write32 2 0x1008 1) → ⊥
unfolding computing
no-doorbell x = x.1

not-here : (k j : ℕ) (P : Type 0) → (k == j) ≡ false → (k ≡ j) × P → ⊥
not-here k j P other x = distinct k j other x.0

pub staying_at_work : StayingAtWork
staying_at_work = record {
  run = run-keeping 2 waiting 1 waiting_events 0 waiting-laid staying-facts.0;
  moved = staying-facts.1;
  executed = (refl, inl refl);
  reset = staying-facts.4;
  emptied = staying-facts.2;
  power = tt;
  lost = staying-facts.3;
  store = λ x. x;
  doorbell = no-doorbell;
  read = λ x. x;
  fetch = λ x. x;
  others = not-here 1 2 _ refl;
  another_reset = not-here 1 2 _ refl;
}

-- a controller without fetched commands
none-stands : (o : Option Controller) (t : FetchedCommand) → fetched_in o ≡ []
    → ((d : Controller) × (o ≡ Some d) × StandsIn t d) → ⊥
none-stands o t none x =
    let is : x.0.fetched ≡ [] = sym (ap fetched_in x.1) ∙ none in
    let found : slice_get [] x.2.place ≡ Some x.2.found_as = subst
    (λ (ts : List FetchedCommand). slice_get ts x.2.place ≡ Some x.2.found_as) is x.2.found in
    nothing-found x.2.place x.2.found_as found
  where
    nothing-found : (i : ℕ) (t : FetchedCommand) → slice_get {X = FetchedCommand} [] i ≡ Some t → ⊥
    nothing-found zero t e = absurd (cc)
    nothing-found (suc i) t e = absurd (cc)

first-facts : (controller_at waiting 1 ≡ Some (ready 1 zeros []))
    × (fetched_of (fault_free_step waiting (Fetch 1 1)).left 1 ≡ [])
unfolding computing
first-facts = (refl, refl)

pub staying_needs_a_command : StayingOfAnyCommand → ⊥
staying_needs_a_command law =
    let event : Event = Fetch 1 1 in
    let next = fault_free_step waiting event in
    elim (law true waiting next.left event next.seen (steps waiting event waiting-laid) 1 0 (ready 1 zeros [])
    (zeroes 1) first-facts.0) [
      | inl stands ↦ none-stands (controller_at next.left 1) (zeroes 1) first-facts.1 stands
      | inr takes ↦ absurd takes
    ]

pub staying_needs_what_takes : StayingOverAnyEvent → ⊥
staying_needs_what_takes law =
    let event : Event = PowerCycle in
    let next = fault_free_step waiting event in
    let stands = law true waiting next.left event next.seen (steps waiting event waiting-laid) 2 0 waiting_controller
    (zeroes 1) staying-facts.5 staying-facts.6 in
    none-stands (controller_at next.left 2) (zeroes 1) staying-facts.3 stands

-- Windows.

only-one : {A : Type 0} (q : ℕ) (x y : A) → slice_index_or (None ∷ Some x ∷ None ∷ None ∷ None ∷ []) q None ≡ Some y
    → x ≡ y
only-one zero x y e = absurd (cc)
only-one (suc zero) x y e = same_Some x y e
only-one (suc (suc zero)) x y e = absurd (cc)
only-one (suc (suc (suc zero))) x y e = absurd (cc)
only-one (suc (suc (suc (suc zero)))) x y e = absurd (cc)
only-one (suc (suc (suc (suc (suc q))))) x y e = absurd (cc)

consistent : IsConsistent is_up
unfolding computing
consistent = record {
  state = refl;
  queues = record {
    submission = record { size = (omega arith, omega arith); page = refl; inside = omega arith };
    completion = record { size = (omega arith, omega arith); page = refl; inside = omega arith };
  };
}

submits : SubmitsInside whole_queues.submission
submits = (
  record { size = (omega arith, omega arith); page = refl; inside = omega arith },
  record { size = (omega arith, omega arith); fetched = omega arith; waiting = omega arith },
)

lies : LiesInside whole_queues.completion
lies = (
  record { size = (omega arith, omega arith); page = refl; inside = omega arith },
  record { size = (omega arith, omega arith); posted = omega arith; unread = omega arith },
)

whole-window : (k : ℕ) → HasItsWindow (whole k)
whole-window k = record {
  window = length-zeros;
  registers = consistent;
  submission = λ q s e. subst SubmitsInside (only-one q whole_queues.submission s e) submits;
  completion = λ q x e. subst LiesInside (only-one q whole_queues.completion x e) lies;
}

pair-windows : AllHaveTheirWindows whole_pair
unfolding controller_at whole_pair cluster
pair-windows zero c e = absurd (cc)
pair-windows (suc zero) c e = subst HasItsWindow (same_Some (whole 1) c e) (whole-window 1)
pair-windows (suc (suc zero)) c e = subst HasItsWindow (same_Some (whole 2) c e) (whole-window 2)
pair-windows (suc (suc (suc k))) c e = absurd (cc)

-- Posted completions.

pair-laid : IsLaidOut whole_pair.world whole_pair.device.content
unfolding whole_pair cluster
pair-laid = laid (held_by_a1 1) [] []

pair-waits : Waits whole_pair 1 0 (whole 1) (flush 1) whole_queues
unfolding computing whole_pair
pair-waits = record { at = refl; found = refl; room = refl }

pair-seen : (fault_free_step whole_pair (Execute 1 0)).seen ≡ Executed (Posted done)
unfolding computing whole_pair
pair-seen = refl

unread-there : (d : Controller) × (controller_at posted 1 ≡ Some d) × StandsUnread entry d
unread-there = posted_is_unread true whole_pair posted 1 0 (whole 1) (flush 1) whole_queues done
    (subst (λ seen. Step true whole_pair (Execute 1 0) seen posted) pair-seen
    (steps whole_pair (Execute 1 0) pair-laid)) pair-waits pair-windows

posted-windows : AllHaveTheirWindows posted
posted-windows = windows_keep_their_length true whole_pair posted (Execute 1 0 ∷ [])
    ((fault_free_step whole_pair (Execute 1 0)).seen ∷ [])
    (plain-run whole_pair (Execute 1 0 ∷ []) pair-laid) pair-windows

posted-laid : IsLaidOut posted.world posted.device.content
posted-laid = left-laid whole_pair (Execute 1 0 ∷ []) pair-laid

-- an event takes no entry of a controller, since it is another's or changes nothing
abbrev spares : ℕ → Event → Bool
spares j (Store k address bytes) = not (k == j)
spares j (Write32 k offset v) = not (k == j)
spares j (Execute k i) = not (k == j)
spares j (Read32 k offset) = true
spares j (Fetch k q) = true
spares j PowerCycle = false

spared : (s : Subsystem) (j : ℕ) (c : Controller) (e : PostedEntry) (event : Event) → spares j event ≡ true
    → TakesEntry s j c e event → ⊥
spared s j c e (Store k address bytes) h x = distinct k j (negated (k == j) h) x.0
spared s j c e (Write32 k offset v) h x = distinct k j (negated (k == j) h) x.0
spared s j c e (Execute k i) h x = distinct k j (negated (k == j) h) x.0
spared s j c e (Read32 k offset) h x = x
spared s j c e (Fetch k q) h x = x
spared s j c e PowerCycle h x = absurd (cc)

all_spare : ℕ → List Event → Bool
all_spare j [] = true
all_spare j (event ∷ events) = spares j event && all_spare j events

sparing : (j : ℕ) (e : PostedEntry) (s : Subsystem) (events : List Event) → IsLaidOut s.world s.device.content
    → all_spare j events ≡ true
    → RunSparing true j e s events (fault_free_seen s events) (fault_free_left s events)
unfolding all_spare
sparing j e s [] on h = refl
sparing j e s (event ∷ events) on h =
    let next = (fault_free_step s event).left in
    let step = steps s event on in
    let parts = both (spares j event) (all_spare j events) h in (
      next,
      step,
      (λ c at. spared s j c e event parts.0),
      sparing j e next events
          (layout_stays s next event (fault_free_step s event).seen on step) parts.1,
    )

spare-so : all_spare 1 sparing_events ≡ true
unfolding all_spare sparing_events
spare-so = refl

pub posted_at_work : PostedAtWork
posted_at_work =
    let there = unread-there in
    let run = sparing 1 entry posted sparing_events posted-laid spare-so in
    record {
      windows = posted-windows;
      controller = there.0;
      at = there.1;
      stands = there.2;
      run = run;
      holds = unread_stands_over_runs true posted (fault_free_left posted sparing_events) sparing_events
          (fault_free_seen posted sparing_events) 1 entry run
          posted-windows there.0 there.1 there.2;
    }

has_queue : Option Controller → Bool
has_queue None = false
has_queue (Some c) = is_some (completion_at c 1)

reset-posted : has_queue (controller_at (fault_free_left posted (Write32 1 0x14 0 ∷ [])) 1) ≡ false
unfolding computing whole_pair has_queue
reset-posted = refl

pub posted_needs_a_sparing_run : UnreadOverAnyRun → ⊥
unfolding has_queue
posted_needs_a_sparing_run law =
    let there = unread-there in
    let events : List Event = Write32 1 0x14 0 ∷ [] in
    let d = law true posted (fault_free_left posted events) events (fault_free_seen posted events) 1 entry
    (plain-run posted events posted-laid) posted-windows
    there.0 there.1 there.2 in
    let has : has_queue (Some d.0) ≡ true = ap (λ (o : Option CompletionQueue). is_some o) d.2.at in
    false≢true (sym reset-posted ∙ ap has_queue d.1 ∙ has)

-- Windows from an opening.

opened-laid : IsLaidOut opened.world opened.device.content
unfolding opening
opened-laid = opening_is_laid_out pair (script_capacity 2) blocks.content refl fits

opened-seen : fault_free_seen opened window_events ≡ Stored ∷ Outside ∷ Wrote ∷ Value 0x00030003 ∷ Cycled ∷ []
unfolding computing opening window_events
opened-seen = refl

pub windows_at_work : WindowsAtWork
windows_at_work =
    let run = subst (λ seen. Run true opened window_events seen (fault_free_left opened window_events)) opened-seen
    (plain-run opened window_events opened-laid) in
    record {
      opening = opening_has_its_windows pair blocks;
      seen = opened-seen;
      run = run;
      holds = windows_keep_their_length true opened (fault_free_left opened window_events) window_events _ run
          (opening_has_its_windows pair blocks);
    }

short-window : (controller_at waiting 2 ≡ Some waiting_controller) × (length waiting_controller.window ≡ 832)
unfolding computing
short-window = (refl, refl)

pub windows_need_their_length : WindowsOfAnyLength → ⊥
windows_need_their_length law =
    let whole_one = law true waiting waiting [] [] refl 2 waiting_controller short-window.0 in
    let is : 832 ≡ window_size = sym short-window.1 ∙ whole_one.window in
    distinct 832 4194304 refl is

-- Commands that wait.

full-wired : IsWired full
full-wired = record {
  fetched = fetches;
  completes = λ q s e. (
    _,
    subst (λ (x : SubmissionQueue). completion_at full x.cqid ≡ Some
        (record { base = 768; tail = record { size = 4; posted = 3; unread = 3 } })) (only-one q _ s e) refl,
  );
}
  where
    fetches : (i : ℕ) → (t : FetchedCommand) → slice_get full.fetched i ≡ Some t → (s : SubmissionQueue)
        × (submission_at full t.queue ≡ Some s)
    fetches zero t e = (
      _,
      subst (λ (u : FetchedCommand). submission_at full u.queue ≡ Some
          (record { base = 512; cqid = 1; head = empty_submission_head 4 })) (same_Some (zeroes 2) t e) refl,
    )
    fetches (suc zero) t e = absurd (cc)
    fetches (suc (suc i)) t e = absurd (cc)

full-waits : (open_pair full (zeroes 2) ≡ None) × ((p : QueuePair)
    × (open_pair (ready 2 zeros (zeroes 2 ∷ [])) (zeroes 2) ≡ Some p))
unfolding computing
full-waits = (refl, (_, refl))

pub waiting_at_work : WaitingAtWork
waiting_at_work =
    let r = waits_where_full full full-wired 0 (zeroes 2) refl full-waits.0 in
    record { wired = full-wired; waits = full-waits.0; room = full-waits.1; holds = r }

abbrev bare : Controller
bare = record (ready 2 zeros (zeroes 2 ∷ [])) { submission = no_submission_queues }

bare-waits : open_pair bare (zeroes 2) ≡ None
unfolding computing
bare-waits = refl

pub waiting_needs_the_queues : WaitingOfAnyController → ⊥
waiting_needs_the_queues law =
    let r = law bare 0 (zeroes 2) refl bare-waits in
    let none : None ≡ Some r.0 = r.1 in
    absurd (cc)
