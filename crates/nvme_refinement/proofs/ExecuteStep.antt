-- For `laws.rt` and `nvme_fleet`: an execution of a command of either lane (queue pair) is the step of the mailbox.
use Rattle.nvme_refinement.proofs.Words.{
  same_Some,
  ◌≡◌,
  ℕ,
  ◌^◌,
  ◌<◌,
  ◌==◌,
  Bool,
  List,
  Some,
  refl,
  sym,
  ap,
  subst,
  ◌∙◌,
  arith,
  slice_get,
  FitsCompletion,
  Outcome,
  Verdict,
  Allowed,
  Denied,
  Keep,
  Scene,
  ExecutesBy,
  Fits,
  execution_fits,
  Lane,
  Admin,
  Io,
  queue_id,
  Driver,
  FetchedCommand,
  Executed,
  Controller,
  QueuePair,
  open_pair,
  queues_of,
  CommandExecution,
  CommandComesToAs,
  CommandComesTo,
  Setting,
  ExecutesNth,
  Finishes,
  FinishesOver,
  FinishesOne,
  scene_in,
  FetchedItem,
  RequestComesTo,
  Sound,
  mailbox,
  lane_of_queue,
  IsAnsweredInItsSlot,
  IsExecuted,
  request_execution_with,
  IoExecutionIsAStep,
  AdminExecutionIsAStep,
  ExecutionIsAStep,
  None,
  plain,
  Fleet,
  WithDriver,
  Completes,
  ExecutesItem,
  ExecutesAt,
  settled,
  site_of,
  setting_of,
  marks_in,
  ExecutionIsAFleetStep,
  NoExecutionIsAFleetStep,
  common_steps,
}
use Rattle.nvme_refinement.proofs.OneLane.{running}
use Rattle.nvme_spec.specs.IoData as spec
use Rattle.nvme_refinement.proofs.PostStep.{
  known,
  open-is,
  pair_in,
  fields_of,
  item_at,
  found-at,
  posting_has_room,
  posting_is_a_step,
  nothing_to_execute,
}
use Rattle.nvme_refinement.proofs.HeldStep.{held-known}
use Rattle.nvme_refinement.proofs.AdminStep.{admin_answers_its_request, admin-fits}
use Rattle.nvme_refinement.proofs.AnswerStep.{answers_its_request}
use Rattle.nvme_event.specs.declared.seen.FleetSeen.TheVariants.{Executed as ExecutedSeen}

-- Dword 0 of an I/O command's completion.

executes-zero : (v : Verdict) (tells : Bool) (k : ℕ) (x : List ℕ) (old new : Scene) (o : Outcome)
    → ExecutesBy v tells k x old new o → o.dw0 ≡ 0
executes-zero (Denied number why) tells k x old new o h = ap (λ z. z.dw0) h.1
executes-zero (Allowed plan) tells k x old new o h = h.dw0

pub completion-fits : (lane : Lane) (d : Driver) (c : Controller) (i : ℕ) (t : FetchedCommand) (p : QueuePair)
    (a : CommandExecution) → Sound d c → slice_get c.fetched i ≡ Some t → t.queue ≡ queue_id lane
    → open_pair c t ≡ Some p → Fits a.outcome.status × (a.outcome.dw0 < 2 ^ 32) → FitsCompletion (fields_of t p a)
completion-fits lane d c i t p a s g q e f =
    let k = known d c i t s g in
    let same : p ≡ pair_in (lane_of_queue t.queue) c =
    same_Some p (pair_in (lane_of_queue t.queue) c) (sym e ∙ open-is (lane_of_queue t.queue) d c i t k) in
    let within = (held-known lane d c i t s g (ap lane_of_queue q ∙ lane-back lane)).within in
    search (
      arith,
      f,
      q,
      queue-small lane,
      within,
      ap (λ (z : QueuePair). z.submission.head.fetched) same,
      (running (lane_of_queue t.queue) d c s k.up).fetched,
    )
  where
    queue-small : (l : Lane) → queue_id l < 2
    queue-small l = grind (arith, common_steps)

    lane-back : (l : Lane) → lane_of_queue (queue_id l) ≡ l
    lane-back l = grind (arith, common_steps)

-- the answer of a command of this queue
of-queue : (n : ℕ) (tells : Bool) (t : FetchedCommand) (old : Setting) (a : CommandExecution)
    → t.queue ≡ n → CommandComesTo tells (queues_of old.controller) old.controller.cntlid t (scene_in old) a
    → CommandComesToAs (n == 0) tells (queues_of old.controller) old.controller.cntlid t (scene_in old) a
unfolding CommandComesTo
of-queue n tells t old a q h =
    subst (λ n. CommandComesToAs (n == 0) tells (queues_of old.controller) old.controller.cntlid t (scene_in old) a) q h

-- an answer whose data are in its slot, and whose fields fit its completion
pub record IsPostable (tells : Bool) (d : Driver) (t : FetchedCommand) (p : QueuePair) (old : Setting) (x : FetchedItem)
    (a : CommandExecution) : Type 0 where
  pub keeps : a.change ≡ Keep
  pub slot : IsAnsweredInItsSlot tells d old.controller t x old.world old.device old.controller.cntlid a
  pub fits_so : FitsCompletion (fields_of t p a)

pub finished : (tells : Bool) (d : Driver) (i : ℕ) (t : FetchedCommand) (p : QueuePair) (old : Setting)
    (executed : Executed) (new : Setting) → Sound d old.controller
    → slice_get old.controller.fetched i ≡ Some t → open_pair old.controller t ≡ Some p
    → (h : Finishes tells i t p old executed new)
    → IsPostable tells d t p old (item_at d old.controller t) h.execution → IsExecuted tells d i old executed new
finished tells d i t p old executed new s g e h x =
    let y = x.slot in
    let r = posting_is_a_step d old.controller i t p h.execution s g e
    (record { bytes = y.bytes; queues = x.keeps; window = y.window; few = y.few; whole = y.whole; fits = x.fits_so }) in
    let same : item_at d old.controller t ≡ r.item =
    same_Some (item_at d old.controller t) r.item (sym (found-at d old.controller i t g) ∙ r.found) in
    record {
      item = r.item;
      execution = request_execution_with d t h.execution y.bytes;
      found = r.found;
      comes_to = subst (λ (z : FetchedItem). RequestComesTo tells old.controller.cntlid z
          (record { world = old.world; device = old.device }) (request_execution_with d t h.execution y.bytes))
          same y.comes_to;
      gives = h.gives;
      sound = subst (Sound d) (sym h.controller) r.sound;
      mail = ap (mailbox d) h.controller ∙ r.mail;
      world = h.world;
      device = h.device;
    }

-- the command of a lane's execution, if its completion queue has room
pub finishes : (tells : Bool) (d : Driver) (i : ℕ) (t : FetchedCommand) (old : Setting) (executed : Executed)
    (new : Setting) → (s : Sound d old.controller)
    → (g : slice_get old.controller.fetched i ≡ Some t) → ExecutesNth tells i old executed new
    → (p : QueuePair) × (open_pair old.controller t ≡ Some p) × Finishes tells i t p old executed new
finishes tells d i t old executed new s g h =
    let room = posting_has_room d old.controller i t s g in (
      room.0,
      room.1,
      subst (λ o. FinishesOver o tells i t old executed new) room.1
          (subst (λ o. FinishesOne o tells i old executed new) g h),
    )

io-postable : (tells : Bool) (d : Driver) (i : ℕ) (t : FetchedCommand) (p : QueuePair) (old : Setting)
    (a : CommandExecution) → Sound d old.controller → slice_get old.controller.fetched i ≡ Some t → t.queue ≡ 1
    → open_pair old.controller t ≡ Some p
    → CommandComesTo tells (queues_of old.controller) old.controller.cntlid t (scene_in old) a
    → IsPostable tells d t p old (item_at d old.controller t) a
io-postable tells d i t p old a s g q e h =
    let n = of-queue 1 tells t old a q h in
    let f = found-at d old.controller i t g in
    let small = execution_fits tells old.controller.cntlid t.entry t.marked (scene_in old) a.left a.outcome n.1 in
    let zero = executes-zero (spec.io_verdict old.world old.controller.cntlid t.entry t.marked old.controller.window)
    tells old.controller.cntlid t.entry (scene_in old) a.left a.outcome n.1 in
    record {
      keeps = n.0;
      slot = answers_its_request tells d old.controller i t
          (item_at d old.controller t) old.world old.device old.controller.cntlid a s g f q n.1;
      fits_so = completion-fits Io d old.controller i t p a s g q e (small, omega (arith, zero));
    }

pub io_execution_is_a_step : IoExecutionIsAStep
io_execution_is_a_step tells d i t old executed new s g q h =
    let f = finishes tells d i t old executed new s g h in
    finished tells d i t f.0 old executed new s g f.1 f.2
    (io-postable tells d i t f.0 old f.2.execution s g q f.1 f.2.comes_to)

-- Of the admin lane.

admin-postable : (tells : Bool) (d : Driver) (i : ℕ) (t : FetchedCommand) (p : QueuePair) (old : Setting)
    (a : CommandExecution) → Sound d old.controller → slice_get old.controller.fetched i ≡ Some t → t.queue ≡ 0
    → open_pair old.controller t ≡ Some p
    → CommandComesTo tells (queues_of old.controller) old.controller.cntlid t (scene_in old) a
    → IsPostable tells d t p old (item_at d old.controller t) a
admin-postable tells d i t p old a s g q e h =
    let n = of-queue 0 tells t old a q h in
    let f = found-at d old.controller i t g in
    let y = admin_answers_its_request tells d old.controller i t
    (item_at d old.controller t) old.world old.device old.controller.cntlid a s g f q n in
    record {
      keeps = y.0;
      slot = y.1;
      fits_so = completion-fits Admin d old.controller i t p a s g q e
          (admin-fits d old.controller i t old.world old.device old.controller.cntlid a s g q n);
    }

pub admin_execution_is_a_step : AdminExecutionIsAStep
admin_execution_is_a_step tells d i t old executed new s g q h =
    let f = finishes tells d i t old executed new s g h in
    finished tells d i t f.0 old executed new s g f.1 f.2
    (admin-postable tells d i t f.0 old f.2.execution s g q f.1 f.2.comes_to)

-- Of either lane.

pub execution_is_a_step : ExecutionIsAStep
execution_is_a_step tells d i t old executed new s g h =
    by-lane (lane_of_queue t.queue) (known d old.controller i t s g).queue
  where
    by-lane : (lane : Lane) → t.queue ≡ queue_id lane → IsExecuted tells d i old executed new
    by-lane Admin q = admin_execution_is_a_step tells d i t old executed new s g q h
    by-lane Io q = io_execution_is_a_step tells d i t old executed new s g q h

-- An execution of a controller that has a driver is the step of its fleet.

-- the fleet after the execution
abbrev after : Fleet → ℕ → Driver → Executed → Setting → Fleet
after f k d executed left = settled f k (site_of left) (WithDriver (mailbox d left.controller)) (marks_in executed)

completes : (tells : Bool) (f : Fleet) (k : ℕ) (d : Driver) (c : Controller) (i : ℕ) (executed : Executed)
    (left : Setting) → c.cntlid ≡ k → (r : IsExecuted tells d i (setting_of f c) executed left)
    → Completes tells f k (mailbox d c) i r.item (plain (ExecutedSeen executed)) (after f k d executed left)
completes tells f k d c i executed left e r = record {
  execution = r.execution;
  comes_to = subst (λ n. RequestComesTo tells n r.item f.site r.execution) e r.comes_to;
  gives = ap (λ x. plain (ExecutedSeen x)) r.gives;
  leaves = λ j.
      settled f k (record { world = r.world j; device = r.device j }) (WithDriver (r.mail j)) (marks_in (r.gives j));
}

pub execution_is_a_fleet_step : ExecutionIsAFleetStep
execution_is_a_fleet_step tells f k d c i t executed left s e host g h =
    let r = execution_is_a_step tells d i t (setting_of f c) executed left s g h in
    let y : ExecutesItem (slice_get (mailbox d c).fetched i) tells f k (mailbox d c) i (plain (ExecutedSeen executed))
    (after f k d executed left) =
    subst (λ o. ExecutesItem o tells f k (mailbox d c) i (plain (ExecutedSeen executed)) (after f k d executed left))
    (sym r.found) (completes tells f k d c i executed left e r) in
    subst (λ o. ExecutesAt o tells f k i (plain (ExecutedSeen executed)) (after f k d executed left)) (sym host) y

pub no_execution_is_a_fleet_step : NoExecutionIsAFleetStep
no_execution_is_a_fleet_step tells f k d c i executed left host g h =
    let none : FinishesOne None tells i (setting_of f c) executed left =
    subst (λ o. FinishesOne o tells i (setting_of f c) executed left) g h in
    let y : ExecutesItem (slice_get (mailbox d c).fetched i) tells f k (mailbox d c) i
    (plain (ExecutedSeen executed)) f =
    subst (λ o. ExecutesItem o tells f k (mailbox d c) i (plain (ExecutedSeen executed)) f)
    (sym (nothing_to_execute d c i g)) (ap (λ x. plain (ExecutedSeen x)) none.0, refl) in
    (none.1, subst (λ o. ExecutesAt o tells f k i (plain (ExecutedSeen executed)) f) (sym host) y)
