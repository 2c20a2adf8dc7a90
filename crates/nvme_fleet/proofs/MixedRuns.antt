-- Proof of the law `fencing_holds_of_each_event`: what is fenced is fenced at each single event of a run of a fleet.
use Rattle.nvme_fleet.proofs.Words.{
  ◌≡◌,
  ◌<◌,
  ◌-◌,
  ◌^◌,
  ℕ,
  Bool,
  IsTrue,
  true,
  false,
  List,
  [],
  ◌∷◌,
  ◌++◌,
  Some,
  refl,
  sym,
  ap,
  subst,
  ◌∙◌,
  AllByRecursion,
  Device,
  Extent,
  extent_of,
  may_read,
  may_write,
  MediumCall,
  HaveTheirOwn,
  IsReading,
  KeepsOff,
  DifferIn,
  HasSameExtents,
  same-extents,
  all-mapped,
  differ-still,
  FleetEvent,
  Execute,
  OfItsHost,
  Reply,
  MayCall,
  is_laid_out,
  namespace_bytes,
  Layers,
  fleet_in,
  Fleet,
  AreCallsOfRun,
  AreCallsOfStep,
  IsRegular,
  layers_over,
  HaveTicketsOnce,
}
use Rattle.std.proofs.Common.{append_assoc}
use Rattle.nvme_fleet.specs.Layers.{Step}
use Rattle.nvme_fleet.specs.MixedRuns.{
  CanBeSame,
  EachEventIsReached,
  ExecutesOn,
  FencingHoldsOfEachEvent,
  IsSame,
  SecrecyHoldsOfEachEvent,
}
use Rattle.nvme_mailbox.specs.Secrecy.{over}
use Rattle.nvme_fleet.proofs.AllowedCalls.{calls_are_allowed, extents-stay, fenced_commands_call_nothing, keeps-off}
use Rattle.nvme_fleet.proofs.Bytes.{fenced_events_write_nothing, layout_stays, runs_of_mailboxes}
use Rattle.nvme_mailbox.proofs.Determined.{run_is_unique}
use Rattle.nvme_fleet.proofs.LayerCalls.{layer_calls_are_of_a_run, layer_calls_are_of_a_step}
use Rattle.nvme_fleet.proofs.LayersOver.{step-leads}
use Rattle.nvme_mailbox.proofs.Regular.{regularity_stays}
use Rattle.nvme_mailbox.proofs.Secrecy.{step-over}
use Rattle.nvme_fleet.proofs.Unique.{tickets_stay_once}

-- The state after a run.

pub each_event_is_reached : EachEventIsReached
each_event_is_reached tells old new [] later event [] calls h = absurd h
each_event_is_reached tells old new [] later event (x ∷ rest) calls (mid, here, behind, step, run, joined) = record {
  given = [];
  gives = x;
  rest = rest;
  told = refl;
  now = old;
  next = mid;
  before = [];
  own = here;
  behind = behind;
  first = (refl, refl);
  then_this = step;
  then_those = run;
  joined = joined;
}
each_event_is_reached tells old new (e ∷ front) later event [] calls h = absurd h
each_event_is_reached tells old new (e ∷ front) later event (x ∷ replies) calls (mid, here, behind, step, run, joined) =
    let r = each_event_is_reached tells mid new front later event replies behind run in
    record {
      given = x ∷ r.given;
      gives = r.gives;
      rest = r.rest;
      told = ap (λ xs. x ∷ xs) r.told;
      now = r.now;
      next = r.next;
      before = here ++ r.before;
      own = r.own;
      behind = r.behind;
      first = (mid, here, r.before, step, r.first, refl);
      then_this = r.then_this;
      then_those = r.then_those;
      joined = joined ∙ ap (λ cs. here ++ cs) r.joined ∙ sym (append_assoc here r.before (r.own ++ r.behind));
    }

run-extents : (tells : Bool) (old new : Layers) (events : List FleetEvent) (replies : List Reply)
    (calls : List MediumCall) → AreCallsOfRun tells old events replies new calls
    → HasSameExtents old.subsystem.world new.subsystem.world
run-extents tells old new [] [] calls h =
    same-extents old.subsystem.world new.subsystem.world (ap (λ (l : Layers). l.subsystem.world) h.0)
run-extents tells old new (event ∷ events) (x ∷ later) calls (mid, here, behind, step, run, joined) =
    let one = extents-stay tells old mid event x (layer_calls_are_of_a_step tells old mid event x here step) in
    let rest = run-extents tells mid new events later behind run in
    record { hosts = λ k. rest.hosts k ∙ one.hosts k; extents = λ n. rest.extents n ∙ one.extents n }
run-extents tells old new events later calls h = absurd h

run-laid : (old new : Layers) (events : List FleetEvent) (replies : List Reply) (calls : List MediumCall)
    → AreCallsOfRun true old events replies new calls
    → is_laid_out old → is_laid_out new
run-laid old new [] [] calls h laid = subst is_laid_out (sym h.0) laid
run-laid old new (event ∷ events) (x ∷ later) calls (mid, here, behind, step, run, joined) laid =
    run-laid mid new events later behind run
    (layout_stays old mid event x laid (layer_calls_are_of_a_step true old mid event x here step))
run-laid old new events later calls h laid = absurd h

-- Writing.

bytes-stay : (tells : Bool) (n : ℕ) (old now next : Layers) (front : List FleetEvent) (event : FleetEvent)
    (given : List Reply) (gives : Reply) (before own : List MediumCall)
    → AreCallsOfRun tells old front given now before → AreCallsOfStep tells now event gives next own
    → OfItsHost (λ k. may_write now.subsystem.world k n ≡ false) event
    → IsTrue tells → is_laid_out old → namespace_bytes next n ≡ namespace_bytes now n
bytes-stay true n old now next front event given gives before own run step fenced told laid =
    fenced_events_write_nothing now next event gives n (run-laid old now front given before run laid)
    (layer_calls_are_of_a_step true now next event gives own step) fenced
bytes-stay false n old now next front event given gives before own run step fenced told laid = absurd (cc)

blocks-stay : (tells : Bool) (n : ℕ) (old now next : Layers) (front : List FleetEvent) (event : FleetEvent)
    (given : List Reply) (gives : Reply) (before own : List MediumCall)
    → AreCallsOfRun tells old front given now before → AreCallsOfStep tells now event gives next own
    → OfItsHost (λ k. may_write now.subsystem.world k n ≡ false) event
    → (x : Extent) → HaveTheirOwn old.subsystem.world → extent_of old.subsystem.world n ≡ Some x
    → AllByRecursion (KeepsOff x) own
blocks-stay tells n old now next front event given gives before own run step fenced x apart is =
    let same = run-extents tells old now front given before run in
    let kept : HaveTheirOwn now.subsystem.world =
    λ a b y z other p q. apart a b y z other (sym (same.extents a) ∙ p) (sym (same.extents b) ∙ q) in
    all-mapped (MayCall now event) (KeepsOff x) own (keeps-off now event n x kept (same.extents n ∙ is) fenced)
    (calls_are_allowed tells now next event gives own step)

-- a command on the namespace
on-it : (tells : Bool) (n : ℕ) (now next : Layers) (event : FleetEvent) (gives : Reply) (own : List MediumCall)
    → AreCallsOfStep tells now event gives next own
    → OfItsHost (λ k. may_write now.subsystem.world k n ≡ false) event → (run : ExecutesOn n now event)
    → AllByRecursion IsReading own × (may_read now.subsystem.world run.cntlid n ≡ false → own ≡ [])
on-it tells n now next event gives own step fenced run =
    let one : AreCallsOfStep tells now (Execute run.cntlid run.index) gives next own =
    subst (λ e. AreCallsOfStep tells now e gives next own) run.is step in
    let writes : may_write now.subsystem.world run.cntlid n ≡ false =
    subst (OfItsHost (λ k. may_write now.subsystem.world k n ≡ false)) run.is fenced in
    fenced_commands_call_nothing tells now next run.cntlid run.index n run.controller run.command gives own one run.at
    run.found run.named writes

pub fencing_holds_of_each_event : FencingHoldsOfEachEvent
fencing_holds_of_each_event tells old new front later event replies calls n cut fenced = record {
  bytes = bytes-stay tells n old cut.now cut.next front event cut.given cut.gives cut.before cut.own cut.first
      cut.then_this fenced;
  blocks = blocks-stay tells n old cut.now cut.next front event cut.given cut.gives cut.before cut.own cut.first
      cut.then_this fenced;
  reads = λ run. (on-it tells n cut.now cut.next event cut.gives cut.own cut.then_this fenced run).0;
  silent = λ run. (on-it tells n cut.now cut.next event cut.gives cut.own cut.then_this fenced run).1;
}

-- Reading.

can-be-same : (n : ℕ) (now next : Layers) (event : FleetEvent) (gives : Reply) (medium : Device)
    → IsRegular (fleet_in now) → Step true now event gives next
    → OfItsHost (λ k. may_read now.subsystem.world k n ≡ false) event
    → DifferIn n now.subsystem.world now.subsystem.device medium → CanBeSame n now event gives next medium
unfolding fleet_in
can-be-same n now next event gives medium regular step fenced differ =
    let one = step-over n (fleet_in now) (fleet_in next) event gives medium regular differ fenced step.mailboxes in (
      one.0,
      one.1,
      differ-still n now.subsystem.world next.subsystem.world next.subsystem.device one.0
          (extents-stay true now next event gives step) one.2,
    )

is-same : (n : ℕ) (now next : Layers) (event : FleetEvent) (gives : Reply) (medium : Device)
    → IsRegular (fleet_in now) → HaveTicketsOnce now → Step true now event gives next
    → OfItsHost (λ k. may_read now.subsystem.world k n ≡ false) event
    → DifferIn n now.subsystem.world now.subsystem.device medium → CanBeSame n now event gives next medium
    → IsSame n now event gives next medium
unfolding fleet_in
is-same n now next event gives medium regular tickets step fenced differ (last, mirrored, still) other another second
    calm quiet below =
    let start : medium.failures ≡ now.subsystem.device.failures = differ.failures in
    let low : medium.failures < 2 ^ 64 - 1 = subst (λ m. m < 2 ^ 64 - 1) (sym start) below in
    let one = run_is_unique (over medium (fleet_in now)) (over last (fleet_in next)) (event ∷ []) (gives ∷ [])
    (over last (fleet_in next), mirrored, refl) (still.failures ∙ calm ∙ sym start) low in
    let two = run_is_unique (over medium (fleet_in now)) (fleet_in other) (event ∷ []) (another ∷ [])
    (fleet_in other, second.mailboxes, refl) (quiet ∙ sym start) low in
    let same : another ≡ gives = cc (one.0, two.0) in
    let led = step-leads n now next other medium event gives calm quiet below tickets regular differ fenced step
    (subst (λ r. Step true (layers_over medium now) event r other) same second) in
    let device : other.subsystem.device ≡ led.0 = ap (λ (l : Layers). l.subsystem.device) led.1 in
    let holds : other.subsystem.device ≡ last = ap (λ (f : Fleet). f.site.device) (two.1 ∙ sym one.1) in (
      same,
      led.1 ∙ ap (λ x. layers_over x next) (sym device),
      subst (λ x. DifferIn n next.subsystem.world next.subsystem.device x) (sym holds) still,
    )

pub secrecy_holds_of_each_event : SecrecyHoldsOfEachEvent
secrecy_holds_of_each_event old new front later event replies calls n medium regular tickets cut fenced differ =
    let run = layer_calls_are_of_a_run true old cut.now front cut.given cut.before cut.first in
    let there : IsRegular (fleet_in cut.now) = regularity_stays (fleet_in old) (fleet_in cut.now) front cut.given
    (runs_of_mailboxes true old cut.now front cut.given run) regular in
    let step : Step true cut.now event cut.gives cut.next =
    layer_calls_are_of_a_step true cut.now cut.next event cut.gives cut.own cut.then_this in
    let possible = can-be-same n cut.now cut.next event cut.gives medium there step fenced differ in (
      possible,
      is-same n cut.now cut.next event cut.gives medium there
          (tickets_stay_once true old cut.now front cut.given run tickets) step fenced differ possible,
    )
