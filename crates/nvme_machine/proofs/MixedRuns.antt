-- Proof of the law `fencing_holds_of_each_event`: what is fenced is fenced at each single event of a run.
use Rattle.std.proofs.Common.{
  ◌≡◌,
  ◌<◌,
  ◌-◌,
  ◌^◌,
  ℕ,
  Bool,
  IsTrue,
  true,
  false,
  List,
  [],
  ◌∷◌,
  Some,
  refl,
  sym,
  ap,
  subst,
  ◌∙◌,
}
use Rattle.std.specs.List.{AllByRecursion}
use Rattle.nvme_spec.specs.Blocks.{Device}
use Rattle.nvme_spec.specs.Layout.{Extent, IsLaidOut, extent_of, may_read, may_write}
use Rattle.nvme_spec.specs.MediumCalls.{MediumCall}
use Rattle.nvme_machine.specs.declared.event.Event.{Event}
use Rattle.nvme_machine.specs.declared.event.Event.TheVariants.{Execute}
use Rattle.nvme_machine.specs.declared.seen.Seen.{Seen}
use Rattle.nvme_machine.specs.AllowedCalls.{HaveTheirOwn, IsReading, KeepsOff, MayCall}
use Rattle.nvme_machine.specs.EventCalls.{AreCallsOfRun, AreCallsOfStep}
use Rattle.nvme_machine.specs.Fencing.{namespace_bytes}
use Rattle.nvme_machine.specs.MixedRuns.{
  CanBeSame,
  ExecutesOn,
  FencingHoldsOfEachEvent,
  IsSame,
  SecrecyHoldsOfEachEvent,
}
use Rattle.nvme_machine.specs.Secrecy.{over, DifferIn}
use Rattle.nvme_machine.specs.Subsystems.{Subsystem, Step, OfItsController}
use Rattle.nvme_machine.proofs.AdminWorlds.{HasSameExtents, same-extents}
use Rattle.nvme_machine.proofs.AllowedCalls.{all-mapped, calls_are_allowed}
use Rattle.nvme_machine.proofs.Determined.{run_is_unique}
use Rattle.nvme_machine.proofs.EventCalls.{calls_are_of_a_step}
use Rattle.nvme_machine.proofs.FencedCalls.{elsewhere, fenced_commands_call_nothing}
use Rattle.nvme_machine.proofs.Layouts.{fenced_events_write_nothing, layout_stays, step-extents}
use Rattle.nvme_machine.proofs.Secrecy.{differ-still, step-over}

-- The state after a run.

pub run-extents : (tells : Bool) (old new : Subsystem) (events : List Event) (seen : List Seen)
    (calls : List MediumCall) → AreCallsOfRun tells old events seen new calls
    → HasSameExtents old.world new.world
run-extents tells old new [] [] calls h = same-extents old.world new.world (ap (λ (s : Subsystem). s.world) h.0)
run-extents tells old new [] (x ∷ later) calls h = absurd h
run-extents tells old new (event ∷ events) [] calls h = absurd h
run-extents tells old new (event ∷ events) (x ∷ later) calls (mid, here, behind, step, run, joined) =
    let one = step-extents tells old mid event x (calls_are_of_a_step tells old mid event x here step) in
    let rest = run-extents tells mid new events later behind run in
    record { hosts = λ k. rest.hosts k ∙ one.hosts k; extents = λ n. rest.extents n ∙ one.extents n }

pub run-laid : (old new : Subsystem) (events : List Event) (seen : List Seen) (calls : List MediumCall)
    → AreCallsOfRun true old events seen new calls
    → IsLaidOut old.world old.device.content → IsLaidOut new.world new.device.content
run-laid old new [] [] calls h laid = subst (λ (s : Subsystem). IsLaidOut s.world s.device.content) (sym h.0) laid
run-laid old new [] (x ∷ later) calls h laid = absurd h
run-laid old new (event ∷ events) [] calls h laid = absurd h
run-laid old new (event ∷ events) (x ∷ later) calls (mid, here, behind, step, run, joined) laid =
    run-laid mid new events later behind run
    (layout_stays old mid event x laid (calls_are_of_a_step true old mid event x here step))

-- Writing.

bytes-stay : (tells : Bool) (n : ℕ) (old now next : Subsystem) (front : List Event) (event : Event) (given : List Seen)
    (gives : Seen) (before own : List MediumCall)
    → AreCallsOfRun tells old front given now before → AreCallsOfStep tells now event gives next own
    → OfItsController (λ k. may_write now.world k n ≡ false) event
    → IsTrue tells → IsLaidOut old.world old.device.content → namespace_bytes next n ≡ namespace_bytes now n
bytes-stay true n old now next front event given gives before own run step fenced told laid =
    fenced_events_write_nothing now next event gives n (run-laid old now front given before run laid)
    (calls_are_of_a_step true now next event gives own step) fenced
bytes-stay false n old now next front event given gives before own run step fenced told laid = absurd (cc)

blocks-stay : (tells : Bool) (n : ℕ) (old now next : Subsystem) (front : List Event) (event : Event) (given : List Seen)
    (gives : Seen) (before own : List MediumCall)
    → AreCallsOfRun tells old front given now before → AreCallsOfStep tells now event gives next own
    → OfItsController (λ k. may_write now.world k n ≡ false) event
    → (x : Extent) → HaveTheirOwn old.world → extent_of old.world n ≡ Some x → AllByRecursion (KeepsOff x) own
blocks-stay tells n old now next front event given gives before own run step fenced x apart is =
    let same = run-extents tells old now front given before run in
    let kept : HaveTheirOwn now.world =
    λ a b y z other p q. apart a b y z other (sym (same.extents a) ∙ p) (sym (same.extents b) ∙ q) in
    all-mapped (MayCall now event) (KeepsOff x) own (elsewhere now event n x kept (same.extents n ∙ is) fenced)
    (calls_are_allowed tells now next event gives own step)

-- a command on the namespace
on-it : (tells : Bool) (n : ℕ) (now next : Subsystem) (event : Event) (gives : Seen) (own : List MediumCall)
    → AreCallsOfStep tells now event gives next own
    → OfItsController (λ k. may_write now.world k n ≡ false) event → (run : ExecutesOn n now event)
    → AllByRecursion IsReading own × (may_read now.world run.cntlid n ≡ false → own ≡ [])
on-it tells n now next event gives own step fenced run =
    let one : AreCallsOfStep tells now (Execute run.cntlid run.index) gives next own =
    subst (λ e. AreCallsOfStep tells now e gives next own) run.is step in
    let writes : may_write now.world run.cntlid n ≡ false =
    subst (OfItsController (λ k. may_write now.world k n ≡ false)) run.is fenced in
    fenced_commands_call_nothing tells now next run.cntlid run.index n run.controller run.command gives own one run.at
    run.found run.named writes

pub fencing_holds_of_each_event : FencingHoldsOfEachEvent
fencing_holds_of_each_event tells old new front later event seen calls n cut fenced = record {
  bytes = bytes-stay tells n old cut.now cut.next front event cut.given cut.gives cut.before cut.own cut.first
      cut.then_this fenced;
  blocks = blocks-stay tells n old cut.now cut.next front event cut.given cut.gives cut.before cut.own cut.first
      cut.then_this fenced;
  reads = λ run. (on-it tells n cut.now cut.next event cut.gives cut.own cut.then_this fenced run).0;
  silent = λ run. (on-it tells n cut.now cut.next event cut.gives cut.own cut.then_this fenced run).1;
}

-- Reading.

pub can-be-same : (n : ℕ) (now next : Subsystem) (event : Event) (gives : Seen) (medium : Device)
    → IsLaidOut now.world now.device.content → Step true now event gives next
    → OfItsController (λ k. may_read now.world k n ≡ false) event → DifferIn n now.world now.device medium
    → CanBeSame n now event gives next medium
can-be-same n now next event gives medium laid step fenced differ =
    let one = step-over n now next event gives medium laid differ fenced step in (
      one.0,
      one.1,
      differ-still n now.world next.world next.device one.0 (step-extents true now next event gives step) one.2,
    )

same-seen : (x y : Seen) → (x ∷ []) ≡ (y ∷ []) → x ≡ y
same-seen x y h = cc

pub is-same : (n : ℕ) (now next : Subsystem) (event : Event) (gives : Seen) (medium : Device)
    → DifferIn n now.world now.device medium → CanBeSame n now event gives next medium
    → IsSame n now event gives next medium
is-same n now next event gives medium differ (last, mirrored, still) other others second calm quiet below =
    let start : medium.failures ≡ now.device.failures = differ.failures in
    let low : medium.failures < 2 ^ 64 - 1 = subst (λ m. m < 2 ^ 64 - 1) (sym start) below in
    let one = run_is_unique (over medium now) (over last next) (event ∷ []) (gives ∷ [])
    (over last next, mirrored, refl) (still.failures ∙ calm ∙ sym start) low in
    let two =
    run_is_unique (over medium now) other (event ∷ []) (others ∷ []) (other, second, refl) (quiet ∙ sym start) low in
    let same : other ≡ over last next = two.1 ∙ sym one.1 in
    let device : other.device ≡ last = ap (λ (s : Subsystem). s.device) same in (
      same-seen others gives (two.0 ∙ sym one.0),
      same ∙ ap (λ x. over x next) (sym device),
      subst (λ x. DifferIn n next.world next.device x) (sym device) still,
    )

pub secrecy_holds_of_each_event : SecrecyHoldsOfEachEvent
secrecy_holds_of_each_event old new front later event seen calls n medium laid cut fenced differ =
    let there = run-laid old cut.now front cut.given cut.before cut.first laid in
    let step : Step true cut.now event cut.gives cut.next =
    calls_are_of_a_step true cut.now cut.next event cut.gives cut.own cut.then_this in
    let possible = can-be-same n cut.now cut.next event cut.gives medium there step fenced differ in
    (possible, is-same n cut.now cut.next event cut.gives medium differ possible)
