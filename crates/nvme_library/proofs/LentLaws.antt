-- For `laws.rt`: what calls leave of the bytes that a C program provides.
use Rattle.std.proofs.Common.{
  ◌≡◌,
  ℕ,
  zero,
  suc,
  List,
  [],
  ◌∷◌,
  ◌++◌,
  ◌==◌,
  Bool,
  false,
  length,
  Option,
  None,
  Some,
  Result,
  Ok,
  Err,
  refl,
  sym,
  ap,
  subst,
  ◌∙◌,
  true,
  arith,
}
use Rattle.std.proofs.lemmas.List.{append-nil}
use Rattle.nvme_spec.specs.declared.medium.MediumFault.{MediumFault}
use Rattle.nvme_spec.specs.FaultFreeCalls.{content_step}
use Rattle.nvme_spec.specs.MediumCalls.{MediumAnswer, MediumCall, Calls, passing, course, reads_from}
use Rattle.nvme_lent.specs.CallLaws.{AreReads}
use Rattle.nvme_lent.specs.OwnOrLent.{bytes_of, step_of, extent_of, IsInMemory}
use Rattle.nvme_lent.specs.declared.either.OwnOrLent.{OwnOrLent}
use Rattle.nvme_lent.proofs.CallLaws.{lent_bytes_stay, bytes_follow, reads_leave}
use Rattle.nvme_machine.specs.declared.bare.BareExecuted.TheVariants.{Posted}
use Rattle.nvme_machine.specs.declared.bare.BareSeen.{BareSeen}
use Rattle.nvme_machine.specs.declared.bare.BareSeen.TheVariants.{Executed}
use Rattle.nvme_machine.specs.declared.event.Event.TheVariants.{Execute}
use Rattle.nvme_machine.specs.Bare.{seen_with}
use Rattle.nvme_machine.specs.Controllers.{Controller}
use Rattle.nvme_machine.specs.Subsystems.{controller_at}
use Rattle.nvme_machine.proofs.CallLaws.{run_calls_are_computed}
use Rattle.nvme_subsys.specs.Looking.{LooksBy}
use Rattle.nvme_library.specs.declared.answer.Answer.{Answer}
use Rattle.nvme_library.specs.declared.completing.Completed.{Completed}
use Rattle.nvme_library.specs.declared.placing.Placed.{Placed}
use Rattle.nvme_library.specs.declared.turn.Reply.{Reply}
use Rattle.nvme_library.specs.declared.turn.Turn.{Turn}
use Rattle.nvme_library.specs.Completing.{CompletesBy, Consumes, reply_at}
use Rattle.nvme_library.specs.Events.{Executing}
use Rattle.nvme_library.specs.Holding.{Inside}
use Rattle.nvme_library.specs.LentLaws.{
  ExecutionsStayInPlace,
  TurnsStayInPlace,
  ExecutionsReachTheBytes,
  BytesStayTheContent,
  PowerCyclesLeaveTheMedium,
  LooksLeaveTheMedium,
}
use Rattle.nvme_library.specs.Placing.{PlacesBy, PlacesTo, StoresData}
use Rattle.nvme_library.specs.Submitting.{Finishes}
use Rattle.nvme_library.specs.Turns.{place_of}

pub executions_stay_in_place : ExecutionsStayInPlace
executions_stay_in_place cntlid i old new seen h = lent_bytes_stay old.medium new.medium h.calls.calls h.calls.made

pub executions_reach_the_bytes : ExecutionsReachTheBytes
executions_reach_the_bytes cntlid i old new seen memory h = (
  h.marks,
  record {
    calls = h.calls.calls;
    are = h.calls.are;
    made = bytes_follow old.medium new.medium h.calls.calls memory h.calls.made;
  },
)

pub bytes_stay_the_content : BytesStayTheContent
bytes_stay_the_content cntlid i old new seen memory h laid before after is =
    let calls = h.calls.calls in
    let made : Calls content_step old.state.device.content calls (bytes_of new.medium) =
    subst (λ c. Calls content_step c calls (bytes_of new.medium)) is
    (bytes_follow old.medium new.medium calls memory h.calls.made) in
    (run_calls_are_computed old.state new.state (Execute cntlid i ∷ []) (seen_with h.marks seen ∷ []) calls
    (bytes_of new.medium) laid
    (new.state, calls, [], h.calls.are, (refl, refl), sym (append-nil calls)) made (after ∙ sym before)
    (omega (arith, before))).1

-- A turn: the events before and after the execution make no call.

consumed : (seen : BareSeen) (reply : Option Reply) (k : ℕ) (old new : Inside) (before left : List ℕ)
    → Consumes seen reply k old before left new → extent_of new.medium ≡ extent_of old.medium
consumed (Executed (Posted o)) (Some reply) k old new before left h = ap extent_of h.rings.1.1
consumed other reply k old new before left h = ap (λ (s : Inside). extent_of s.medium) h.1

completed : (k i : ℕ) (old new : Inside) (result : Completed) (before left : List ℕ)
    → CompletesBy (Executing k i) k i old result before left new → extent_of new.medium ≡ extent_of old.medium
completed k i old new result before left h =
    consumed h.seen (reply_at (controller_at old.state k) i) k h.executed new before left h.consumes
    ∙ executions_stay_in_place k i old h.executed h.seen h.executes

finished : (b : Bool) (k : ℕ) (placed : Placed) (old new : Inside) (answer : Answer) (before left : List ℕ)
    → Finishes b k placed old answer before left new → extent_of new.medium ≡ extent_of old.medium
finished false k placed old new answer before left h = ap (λ (s : Inside). extent_of s.medium) h.2
finished true k placed old new answer before left h = completed k placed.index old new h.0 before left h.1

filled : (bytes : List ℕ) (k at : ℕ) (old new : Inside) → StoresData k at bytes old new → new.medium ≡ old.medium
filled [] k at old new h = ap (λ (s : Inside). s.medium) h
filled (byte ∷ rest) k at old new h = h.1.1

placed-by : (r : Result Turn ℕ) (k qid : ℕ) (entry : List ℕ) (at : ℕ) (bytes : List ℕ) (old new : Inside)
    (placed : Placed) → PlacesBy r k qid entry at bytes old placed new → new.medium ≡ old.medium
placed-by (Err why) k qid entry at bytes old new placed h = ap (λ (s : Inside). s.medium) h.1
placed-by (Ok turn) k qid entry at bytes old new placed h =
    let f = h.fetches in
    f.fetches.1 ∙ f.rings.1.1 ∙ filled bytes k at f.stored f.filled f.fills ∙ f.stores.1.1

placed-to : (o : Option Controller) (k qid : ℕ) (entry : List ℕ) (at : ℕ) (bytes : List ℕ) (old new : Inside)
    (placed : Placed) → PlacesTo o k qid entry at bytes old placed new → new.medium ≡ old.medium
placed-to None k qid entry at bytes old new placed h = ap (λ (s : Inside). s.medium) h.1
placed-to (Some c) k qid entry at bytes old new placed h =
    placed-by (place_of c qid at (length bytes)) k qid entry at bytes old new placed h

pub turns_stay_in_place : TurnsStayInPlace
turns_stay_in_place k qid entry old new answer before left h =
    finished (h.placed.what == 4) k h.placed h.fetched new answer before left h.finishes
    ∙ ap extent_of (placed-to (controller_at old.state k) k qid entry 0 [] old h.fetched h.placed h.places)

-- Reads of blocks make only read calls.

are-reads-both : (xs ys : List MediumCall) → AreReads xs → AreReads ys → AreReads (xs ++ ys)
are-reads-both [] ys h g = g
are-reads-both (x ∷ xs) ys h g = (h.0, are-reads-both xs ys h.1 g)

passing-reads : (first : ℕ) (left : List ℕ) (n : ℕ) → AreReads (passing (reads_from first left) n)
passing-reads first left zero = tt
passing-reads first left (suc n) = are-reads-both (passing (reads_from first left) n)
    (reads_from first left n (Ok tt) ∷ []) (passing-reads first left n) (tt, tt)

course-reads : (first : ℕ) (left : List ℕ) (n : ℕ) (answer : MediumAnswer)
    → AreReads (course (reads_from first left) n answer)
course-reads first left n (Ok done) = passing-reads first left n
course-reads first left n (Err fault) = are-reads-both (passing (reads_from first left) n)
    (reads_from first left n (Err fault) ∷ []) (passing-reads first left n) (tt, tt)

looked : (content : List ℕ) (place : Option ℕ) (count : ℕ) (buffer left : List ℕ) (old new : OwnOrLent)
    (result : Option (Result (Unit {0}) MediumFault))
    → IsInMemory old → LooksBy step_of true content place count buffer left old result new → new ≡ old
looked content None count buffer left old new result memory h = h.2
looked content (Some first) count buffer left old new None memory h = absurd h
looked content (Some first) count buffer left old new (Some answer) memory h =
    reads_leave old new (course (reads_from first left) h.passed answer) memory
    (course-reads first left h.passed answer) h.made

pub power_cycles_leave_the_medium : PowerCyclesLeaveTheMedium
power_cycles_leave_the_medium old new seen h = h.2

pub looks_leave_the_medium : LooksLeaveTheMedium
looks_leave_the_medium nsid slba count old new buffer left result memory h =
    looked _ _ count buffer left old.medium new.medium result memory h.calls
