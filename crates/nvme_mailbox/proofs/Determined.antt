-- For the law `run_is_determined` and others: without a fault of the medium, each list of events has one run.
use Rattle.nvme_mailbox.proofs.Words.{
  ◌≡◌,
  ℕ,
  ◌-◌,
  ◌^◌,
  ◌<◌,
  ◌≤◌,
  Bool,
  true,
  ◌==◌,
  [],
  ◌∷◌,
  Option,
  None,
  Some,
  refl,
  sym,
  ap,
  subst,
  ◌∙◌,
  arith,
  slice_get,
  Command,
  Verdict,
  Allowed,
  Denied,
  Lane,
  Admin,
  Io,
  Asked,
  FetchedCommand,
  Executed,
  Posted,
  Controller,
  QueuePair,
  queues_of,
  open_pair,
  after_completion,
  Setting,
  FinishesOne,
  FinishesOver,
  scene_in,
  CommandComesTo,
  CommandExecution,
  FleetEvent,
  Execute,
  Reply,
  FetchedItem,
  Mailbox,
  lane_of,
  plain,
  Site,
  RequestExecution,
  scene_at,
  IsServed,
  IoRequestComesTo,
  RequestComesToAs,
  RequestComesTo,
  io_verdict,
  bytes_with,
  command_entry,
  WithDriver,
  Raw,
  Fleet,
  Is,
  Step,
  host_at,
  settled,
  after_execution,
  after_raw,
  ExecutesItem,
  ExecutesRaw,
  ExecutesAt,
  setting_of,
  served,
  performance_of,
  io_request_execution,
  request_execution_as,
  request_execution,
  executing_item,
  RawExecution,
  raw_over,
  raw_one,
  executing,
  fault_free_step,
  fault_free_replies,
  fault_free_left,
  failures_in,
  FailuresNeverFall,
  RunIsUnique,
  Device,
}
use Rattle.nvme_mailbox.proofs.Existing.{admin-leaves}
use Rattle.nvme_mailbox.proofs.IoExecutions.{Leaves, AsItWas, ByRequest, ByCommand, PowerLost, leaves}
use Rattle.nvme_mailbox.specs.Fleets.{Host}
use Rattle.nvme_spec.proofs.FaultFree as spec
use Rattle.nvme_machine.proofs.Determined as machine_proofs
use Rattle.nvme_event.specs.declared.seen.FleetSeen.TheVariants.{Executed as ExecutedSeen}

-- The failure count never falls.

io-counts : (v : Verdict) (tells : Bool) (k : ℕ) (a : Asked) (s : Site) (r : RequestExecution)
    → IoRequestComesTo v tells k a s r
    → s.device.failures ≤ r.left.device.failures
io-counts (Denied number why) tells k a s r h = let e = ap (λ (x : RequestExecution). x.left.device.failures) h in
    omega (arith, e)
io-counts (Allowed plan) tells k a s r h =
    spec.performs-count tells plan.kind k (command_entry a) a.sent (scene_at s)
    (scene_at r.left) r.outcome.status h.returned h.effect

execution-counts : (lane : Lane) (tells : Bool) (k : ℕ) (a : Asked) (marked : Bool) (s : Site) (r : RequestExecution)
    → RequestComesToAs lane tells k a marked s r → s.device.failures ≤ r.left.device.failures
execution-counts Admin tells k a marked s r h = let e = ap (λ (x : RequestExecution). x.left.device.failures) h
    ∙ ap (λ (d : Device). d.failures) (admin-leaves s k a).device in omega (arith, e)
execution-counts Io tells k a marked s r h = io-counts (io_verdict s.world k a marked) tells k a s r h

site-counts : (tells : Bool) (old new : Fleet) (event : FleetEvent)
    → Leaves tells old new event → failures_in old ≤ failures_in new
unfolding RequestComesTo CommandComesTo
site-counts tells old new event (AsItWas e) = let same = ap (λ (s : Site). s.device.failures) e in omega (arith, same)
site-counts tells old new event (ByRequest k i is m x r at found comes left) =
    omega (
      arith,
      ap (λ (s : Site). s.device.failures) left,
      execution-counts (lane_of x.item) tells k x.item.asked x.marked old.site r comes,
    )
site-counts tells old new event (ByCommand k i is c t a at found comes left) =
    let less =
    machine_proofs.answer-counts (t.queue == 0) tells (queues_of c) c.cntlid t (scene_in (setting_of old c)) a comes in
    omega (arith, ap (λ (s : Site). s.device.failures) left, less)
site-counts tells old new event (PowerLost is left) = let e = ap (λ (s : Site). s.device.failures) left in
    omega (arith, e)

pub step-counts : (tells : Bool) (old new : Fleet) (event : FleetEvent) (reply : Reply)
    → Step tells old event reply new → failures_in old ≤ failures_in new
step-counts tells old new event reply h = site-counts tells old new event (leaves tells old new event reply h)

pub failures_never_fall : FailuresNeverFall
failures_never_fall tells old new [] [] run = let e = ap failures_in run in omega (arith, e)
failures_never_fall tells old new (event ∷ events) (x ∷ later) run =
    omega (arith, step-counts tells old run.0 event x run.1, failures_never_fall tells run.0 new events later run.2)
failures_never_fall tells old new events later run = absurd run

-- Without a fault, an execution is that of the function.

served-alone : (command : Command) (k : ℕ) (a : Asked) (s : Site) (r : RequestExecution) → IsServed true command k a s r
    → r.left.device.failures ≡ s.device.failures → s.device.failures < 2 ^ 64 - 1
    → r ≡ served command k a s (performance_of command k a s)
served-alone command k a s r h same below =
    let so = spec.is-so command k (command_entry a) a.sent (scene_at s) (scene_at r.left) r.outcome.status h.returned
    (spec.calm (scene_at s) (scene_at r.left) same below) h.effect in
    λ i. record {
      outcome = record { status = so.status i; dw0 = h.dw0 i; rule = h.rule i; marks = h.marks i };
      bytes = (h.data_back ∙ ap (λ x. bytes_with x h.returned) so.status
          ∙ ap (bytes_with (performance_of command k a s).status) so.returned_so) i;
      left = record { world = so.world i; device = record { content = so.content i; failures = same i } };
    }

io-alone : (v : Verdict) (k : ℕ) (a : Asked) (s : Site) (r : RequestExecution) → IoRequestComesTo v true k a s r
    → r.left.device.failures ≡ s.device.failures → s.device.failures < 2 ^ 64 - 1 → r ≡ io_request_execution v k a s
io-alone (Denied number why) k a s r h same below = h
io-alone (Allowed plan) k a s r h same below = served-alone plan.kind k a s r h same below

execution-alone : (lane : Lane) (k : ℕ) (a : Asked) (marked : Bool) (s : Site) (r : RequestExecution)
    → RequestComesToAs lane true k a marked s r
    → r.left.device.failures ≡ s.device.failures → s.device.failures < 2 ^ 64 - 1
    → r ≡ request_execution_as lane k a marked s
execution-alone Admin k a marked s r h same below = h
execution-alone Io k a marked s r h same below = io-alone (io_verdict s.world k a marked) k a s r h same below

item-alone : (o : Option FetchedItem) (old new : Fleet) (k : ℕ) (m : Mailbox) (i : ℕ) (reply : Reply)
    → ExecutesItem o true old k m i reply new
    → failures_in new ≡ failures_in old → failures_in old < 2 ^ 64 - 1 → Is (executing_item o old k m i) reply new
unfolding RequestComesTo request_execution settled
item-alone None old new k m i reply h same below = h
item-alone (Some x) old new k m i reply h same below =
    let so = execution-alone (lane_of x.item) k x.item.asked x.marked old.site h.execution h.comes_to
    (sym (ap failures_in h.leaves) ∙ same) below in (
      h.gives ∙ ap (λ (r : RequestExecution). plain (ExecutedSeen (Posted r.outcome))) so,
      h.leaves ∙ ap (λ r. after_execution old k m i x r) so,
    )

-- the result and the state of a raw host's controller are those of the function
abbrev IsRaw : Executed → Setting → RawExecution → Type 0
IsRaw executed left x = (executed ≡ x.executed) × (left ≡ x.left)

over-alone : (o : Option QueuePair) (i : ℕ) (t : FetchedCommand) (old : Setting) (executed : Executed) (new : Setting)
    → FinishesOver o true i t old executed new → new.device.failures ≡ old.device.failures
    → old.device.failures < 2 ^ 64 - 1
    → IsRaw executed new (raw_over o i t old)
over-alone None i t old executed new h same below = h
over-alone (Some p) i t old executed new h same below =
    let quiet : h.execution.left.device.failures ≡ old.device.failures = sym (ap (λ d. d.failures) h.device) ∙ same in
    let so = machine_proofs.answer-alone (queues_of old.controller) old.controller.cntlid t
    (scene_in old) h.execution h.comes_to quiet below in
    let c = h.controller ∙ ap (λ a. after_completion i t p a old.controller) so in
    let w = h.world ∙ ap (λ (a : CommandExecution). a.left.world) so in
    let d = h.device ∙ ap (λ (a : CommandExecution). a.left.device) so in (
      h.gives ∙ ap (λ (a : CommandExecution). Posted a.outcome) so,
      λ j. record { controller = c j; world = w j; device = d j },
    )

one-alone : (o : Option FetchedCommand) (i : ℕ) (old : Setting) (executed : Executed) (new : Setting)
    → FinishesOne o true i old executed new → new.device.failures ≡ old.device.failures
    → old.device.failures < 2 ^ 64 - 1
    → IsRaw executed new (raw_one o i old)
one-alone None i old executed new h same below = h
one-alone (Some t) i old executed new h same below =
    over-alone (open_pair old.controller t) i t old executed new h same below

raw-alone : (old new : Fleet) (k : ℕ) (c : Controller) (i : ℕ) (reply : Reply) → ExecutesRaw true old k c i reply new
    → failures_in new ≡ failures_in old → failures_in old < 2 ^ 64 - 1
    → Is (executing (Some (Raw c)) old k i) reply new
unfolding settled
raw-alone old new k c i reply h same below =
    let so = one-alone (slice_get c.fetched i) i (setting_of old c) h.executed h.left h.executes
    (sym (ap failures_in h.leaves) ∙ same) below in
    (h.gives ∙ ap (λ x. plain (ExecutedSeen x)) so.0, h.leaves ∙ (λ j. after_raw old k (so.0 j) (so.1 j)))

executes-alone : (o : Option Host) (old new : Fleet) (k i : ℕ) (reply : Reply) → ExecutesAt o true old k i reply new
    → failures_in new ≡ failures_in old → failures_in old < 2 ^ 64 - 1 → Is (executing o old k i) reply new
executes-alone None old new k i reply h same below = h
executes-alone (Some (WithDriver m)) old new k i reply h same below =
    item-alone (slice_get m.fetched i) old new k m i reply h same below
executes-alone (Some (Raw c)) old new k i reply h same below = raw-alone old new k c i reply h same below

pub step-alone : (old new : Fleet) (event : FleetEvent) (reply : Reply) → Step true old event reply new
    → failures_in new ≡ failures_in old → failures_in old < 2 ^ 64 - 1 → Is (fault_free_step old event) reply new
step-alone old new (Execute k i) reply h same below = executes-alone (host_at old k) old new k i reply h same below
step-alone old new event reply h same below = h

pub run_is_unique : RunIsUnique
run_is_unique old new [] [] run same below = (refl, run)
run_is_unique old new (event ∷ events) (s ∷ replies) run same below =
    let b = failures_never_fall true run.0 new events replies run.2 in
    let p : failures_in run.0 ≡ failures_in old = omega (arith, step-counts true old run.0 event s run.1, b, same) in
    let one = step-alone old run.0 event s run.1 p below in
    let rest =
    run_is_unique run.0 new events replies run.2 (same ∙ sym p) (subst (λ n. n < 2 ^ 64 - 1) (sym p) below) in (
      (λ i. one.0 i ∷ (rest.0 ∙ ap (λ f. fault_free_replies f events) one.1) i),
      rest.1 ∙ ap (λ f. fault_free_left f events) one.1,
    )
run_is_unique old new events replies run same below = absurd run
