-- For `RiseStep`: a driver's own command, at a controller that it is bringing up: put and rung, fetched and executed in
-- one turn, found and consumed.
use Rattle.nvme_refinement.proofs.Words.{
  ◌≡◌,
  ℕ,
  ◌+◌,
  ◌*◌,
  ◌%◌,
  ◌/◌,
  ◌<◌,
  Bool,
  true,
  false,
  List,
  [],
  ◌∷◌,
  length,
  Option,
  None,
  Some,
  refl,
  sym,
  ap,
  subst,
  ◌∙◌,
  arith,
  slice_range,
  MatchOption,
  if◌then◌else◌,
  eq-eqb,
  SqeFields,
  Status,
  submission_entry,
  cid as command_cid,
  Completion,
  completion_entry,
  FitsCompletion,
  sq_head,
  sq_id,
  phase,
  status,
  completion_is_read_back,
  QueueChange,
  with_bytes,
  Device,
  World,
  phase_tag,
  slot_of,
  after_tail_doorbell,
  after_head_doorbell,
  Scene,
  admin_execution,
  Admin,
  Call,
  Turns,
  Awaits,
  command_place,
  tail_doorbell,
  Ends,
  Driver,
  put_ends,
  tail_of,
  consumed_ends,
  is_new,
  sent,
  send_calls,
  heard_calls,
  own_of,
  look,
  new_in,
  answers_own,
  Creates,
  Hears,
  FetchedCommand,
  Controller,
  SubmissionQueue,
  CompletionQueue,
  QueuePair,
  queues_of,
  after_write32,
  after_fetch,
  fetchable,
  open_pair,
  after_posting,
  after_queue_change,
  CommandExecution,
  CommandComesTo,
  admin_command_execution,
  after_completion,
  Setting,
  setting,
  part-there,
  after_calls,
  LinkStep,
  with_controller,
}
use Rattle.nvme_wire.specs.Completion.{cid}
use Rattle.nvme_spec.specs.Statuses as done
use Rattle.nvme_refinement.proofs.Registering.{tail-written, head-written}
use Rattle.nvme_refinement.proofs.StartStep.{running, stored-at, calls-are}
use Rattle.nvme_refinement.proofs.OwnCommands.{only_change, length-completion}

-- It is put and rung.

-- the controller after this tail was written
abbrev rung : ℕ → ℕ → ℕ → Option SubmissionQueue → Option CompletionQueue → List ℕ → Controller
rung k n v s x w = record (running k n 0 s x 0 w) {
  submission =
      Some (record { base = 0; cqid = 0; head = after_tail_doorbell (record { size = 8; fetched = n; waiting = 0 }) v })
      ∷ s ∷ None ∷ None ∷ None ∷ [];
}

-- It is fetched and executed.

-- the entry at the head of the queue
abbrev pub at_head : ℕ → List ℕ → List ℕ
at_head n w = slice_range w (0 + 64 * (n % 8)) (0 + 64 * (n % 8) + 64)

abbrev pub own_completion : ℕ → List ℕ → Completion
own_completion n e = record {
  dw0 = 0;
  sq_head = (n + 1) % 8;
  sq_id = 0;
  cid = command_cid e;
  phase = phase_tag 32 n;
  status = done.successful_completion;
}

-- the controller after its completion was posted, without the change of the queues
abbrev pub answered_by : ℕ → ℕ → Option SubmissionQueue → Option CompletionQueue → List ℕ → List ℕ → Controller
answered_by k n s x w e = record (running k ((n + 1) % 8) 0 s x 1
    (with_bytes w (0x1000 + 16 * (n % 32)) (completion_entry (own_completion n e)))) {
      completion = Some (record { base = 0x1000; tail = record { size = 32; posted = (n + 1) % 64; unread = 1 } }) ∷ x
          ∷ None ∷ None ∷ None ∷ [];
    }

turn-is : (tells : Bool) (k n : ℕ) (s : Option SubmissionQueue) (x : Option CompletionQueue) (w : List ℕ)
    (world : World) (device : Device) (change : QueueChange) (new : Setting)
    → LinkStep tells (setting (running k n 1 s x 0 w) world device) Turns new
    → admin_execution world (queues_of (running k n 1 s x 0 w)) k (at_head n w) w ≡ only_change change world w
    → new ≡ setting (after_queue_change change (answered_by k n s x w (at_head n w))) world device
unfolding after_fetch fetchable open_pair CommandComesTo after_completion after_posting
turn-is tells k n s x w world device change new (executed, h) adm =
    let here : Scene = record { world = world; window = w; device = device } in
    let is : h.execution ≡ admin_command_execution here (only_change change world w) =
    h.comes_to ∙ ap (admin_command_execution here) adm in
    let t : FetchedCommand = record { entry = at_head n w; queue = 0; marked = false } in
    let p : QueuePair = record {
      submission = record { base = 0; cqid = 0; head = record { size = 8; fetched = (n + 1) % 8; waiting = 0 } };
      completion = record { base = 0x1000; tail = record { size = 32; posted = n; unread = 0 } };
    } in
    let c = h.controller
    ∙ ap (λ (a : CommandExecution). after_completion 0 t p a (after_fetch 0 (running k n 1 s x 0 w)).controller) is in
    let v = h.device ∙ ap (λ (a : CommandExecution). a.left.device) is in
    λ i. record { controller = c i; world = (h.world ∙ ap (λ (a : CommandExecution). a.left.world) is) i; device = v i }

-- Its completion is found.

abbrev pub ends_at : ℕ → Ends
ends_at n = record { tail = record { size = 8; put = n; unheard = 0 }; head = record { size = 32; consumed = n } }

own-fits : (n : ℕ) (e : List ℕ) → command_cid e ≡ 24 → FitsCompletion (own_completion n e)
own-fits n e h = omega (arith, h)

own-phase : (n : ℕ) → n < 32 → phase_tag 32 n ≡ true
own-phase n h = let e : n / 32 % 2 ≡ 0 = omega (arith, h) in rw e refl

-- the fields of its bytes
pub record SaysOwn (n : ℕ) (b : List ℕ) : Type 0 where
  pub phase : phase b ≡ true
  pub queue : sq_id b ≡ 0
  pub command : cid b ≡ 24
  pub head : sq_head b ≡ (n + 1) % 8
  pub status : status b ≡ done.successful_completion

pub says-own : (n : ℕ) (e : List ℕ) → n < 32 → command_cid e ≡ 24 → SaysOwn n (completion_entry (own_completion n e))
says-own n e h i =
    let r = completion_is_read_back (own_completion n e) (own-fits n e i) in
    record {
      phase = ap (λ (c : Completion). c.phase) r ∙ own-phase n h;
      queue = ap (λ (c : Completion). c.sq_id) r;
      command = ap (λ (c : Completion). c.cid) r ∙ i;
      head = ap (λ (c : Completion). c.sq_head) r;
      status = ap (λ (c : Completion). c.status) r;
    }

-- the ends after it is put
abbrev pub ends_put : ℕ → Ends
ends_put n = put_ends (ends_at n)

pub seen-is : (n : ℕ) (w e : List ℕ) → n < 32 → length w ≡ 4194304 → command_cid e ≡ 24
    → new_in Admin (ends_put n) (with_bytes w (0x1000 + 16 * (n % 32)) (completion_entry (own_completion n e)))
    ≡ Some (completion_entry (own_completion n e))
seen-is n w e h size i =
    let b : List ℕ = completion_entry (own_completion n e) in
    let says = says-own n e h i in
    let new : is_new (ends_put n) b ≡ true = rw (says.phase, own-phase n h) refl in
    ap (λ f. if is_new (ends_put n) f then Some f else None)
    (part-there w b (0x1000 + 16 * (n % 32)) 16 (length-completion (own_completion n e)) (omega (arith, size)))
    ∙ ap (λ t. if t then Some b else None) new

pub own-is : (n : ℕ) (e : List ℕ) → n < 32 → command_cid e ≡ 24
    → own_of (ends_put n) (Some (completion_entry (own_completion n e))) ≡ Some (completion_entry (own_completion n e))
own-is n e h i =
    let b : List ℕ = completion_entry (own_completion n e) in
    let says = says-own n e h i in
    let own : answers_own (ends_put n) b ≡ true =
    rw (says.queue, says.command, says.head) (eq-eqb ((n + 1) % 8) (slot_of 8 ((n + 1) % 8)) (omega arith)) in
    ap (λ t. if t then Some b else None) own

found-is : (n : ℕ) (w e : List ℕ) → n < 32 → length w ≡ 4194304 → command_cid e ≡ 24
    → own_of (ends_put n)
    (new_in Admin (ends_put n) (with_bytes w (0x1000 + 16 * (n % 32)) (completion_entry (own_completion n e))))
    ≡ Some (completion_entry (own_completion n e))
found-is n w e h size i = ap (own_of (ends_put n)) (seen-is n w e h size i) ∙ own-is n e h i

-- one turn is enough
one-turn : {S : Type 0} (step : S → Call → S → Type 0) (e : Ends) (old new : S) (answer : Option (List ℕ))
    (found : List ℕ) (P : S → Type 0) → Awaits step e 4 old answer new
    → ((turned mid : S) (seen : Option (List ℕ)) → step old Turns turned → step turned (look Admin e seen) mid
    → (own_of e seen ≡ Some found) × P mid)
    → (answer ≡ Some found) × P new
unfolding Awaits
one-turn step e old new answer found P (mid, seen, (turned, turn, (last, looks, same)), m) f =
    let x = f turned mid seen turn (subst (step turned (look Admin e seen)) (sym same) looks) in
    let r = subst
    (λ o. MatchOption o (Awaits step e 3 mid answer new) (λ found. (answer ≡ Some found) × (new ≡ mid))) x.0 m in
    (r.0, subst P (sym r.1) x.1)

-- It is consumed.

-- the controller after its head doorbell was written
abbrev pub heard_by : ℕ → ℕ → Option SubmissionQueue → Option CompletionQueue → List ℕ → List ℕ → Controller
heard_by k n s x w e = record (answered_by k n s x w e) {
  completion = Some (record {
    base = 0x1000;
    tail = after_head_doorbell (record { size = 32; posted = (n + 1) % 64; unread = 1 }) (slot_of 32 ((n + 1) % 64));
  }) ∷ x ∷ None ∷ None ∷ None ∷ [];
}

-- the driver, with these ends of its admin lane
abbrev pub with_admin : Ends → Driver → Driver
with_admin e d = record d { admin = e }

-- the ends after it was consumed
abbrev pub ends_heard : ℕ → Ends
ends_heard n = consumed_ends (ends_put n) ((n + 1) % 8)

-- A round of one command, and its effect.
pub record Round (n k : ℕ) (s : Option SubmissionQueue) (x : Option CompletionQueue) (w e : List ℕ) (d : Driver)
    (old : Setting) (result : Option Status) (d' : Driver) (new : Setting) : Type 0 where
  pub answered : result ≡ Some done.successful_completion
  pub driver : d' ≡ with_admin (ends_heard n) d
  pub setting_is : new ≡ with_controller old (heard_by k n s x w e)

-- the window after it is put
abbrev pub put_window : ℕ → List ℕ → List ℕ → List ℕ
put_window n w e = with_bytes w (command_place Admin n) e

pub round : (tells : Bool) (n k : ℕ) (s s' : Option SubmissionQueue) (x x' : Option CompletionQueue) (w : List ℕ)
    (world : World) (device : Device) (f : SqeFields) (change : QueueChange)
    (d d' : Driver) (new : Setting) (result : Option Status)
    → n < 7 → length w ≡ 4194304 → length (submission_entry f) ≡ 64 → command_cid (submission_entry f) ≡ 24
    → length (put_window n w (submission_entry f)) ≡ 4194304
    → at_head n (put_window n w (submission_entry f)) ≡ submission_entry f
    → rung k n (tail_of (ends_put n)) s x (put_window n w (submission_entry f))
    ≡ running k n 1 s x 0 (put_window n w (submission_entry f))
    → admin_execution world (queues_of (running k n 1 s x 0 (put_window n w (submission_entry f)))) k
    (submission_entry f) (put_window n w (submission_entry f))
    ≡ only_change change world (put_window n w (submission_entry f))
    → after_queue_change change (answered_by k n s x (put_window n w (submission_entry f)) (submission_entry f))
    ≡ answered_by k n s' x' (put_window n w (submission_entry f)) (submission_entry f)
    → Creates (LinkStep tells) f (with_admin (ends_at n) d)
    (setting (running k n 0 s x 0 w) world device) result d' new
    → Round n k s' x' (put_window n w (submission_entry f)) (submission_entry f) d
    (setting (running k n 0 s x 0 w) world device) result d' new
unfolding Creates
round tells n k s s' x x' w world device f change d d' new result small long size named whole there ready works queues
    (put, answer, seen, sends, awaits, hears) =
    let e : List ℕ = submission_entry f in
    let v : List ℕ = put_window n w (submission_entry f) in
    let b : List ℕ = completion_entry (own_completion n (submission_entry f)) in
    let a : put ≡ setting (running k n 1 s x 0 (put_window n w (submission_entry f))) world device =
    calls-are tells (send_calls (ends_at n) f) _ put tt sends
    ∙ ap (λ c. setting c world device) (ap (after_write32 (tail_doorbell Admin) (tail_of (ends_put n)))
    (stored-at (command_place Admin n) e (running k n 0 s x 0 w) (omega (arith, small, size)))
    ∙ tail-written Admin (running k n 0 s x 0 v) (tail_of (ends_put n)) refl refl (omega arith) ∙ ready) in
    let awaited =
    subst (λ p. Awaits (LinkStep tells) (ends_put n) 4 p answer seen) a awaits in
    let turned = one-turn (LinkStep tells) (ends_put n) _ seen answer b
    (λ m. m ≡ setting (answered_by k n s' x' (put_window n w (submission_entry f)) (submission_entry f)) world device)
    awaited
    (λ mid after saw turn looks.
    let m : mid
    ≡ setting (answered_by k n s' x' (put_window n w (submission_entry f)) (submission_entry f)) world device =
    turn-is tells k n s x v world device change mid turn
    (ap (λ z. admin_execution world (queues_of (running k n 1 s x 0 (put_window n w (submission_entry f)))) k z
    (put_window n w (submission_entry f))) there ∙ works)
    ∙ ap (λ z. setting (after_queue_change change (answered_by k n s x (put_window n w (submission_entry f)) z))
    world device) there
    ∙ ap (λ c. setting c world device) queues in (
      ap (own_of (ends_put n)) (looks.0 ∙ ap (λ (p : Setting). new_in Admin (ends_put n) p.controller.window) m)
          ∙ found-is n v e (omega (arith, small)) whole named,
      looks.1 ∙ m,
    )) in
    let r = subst (λ z. Hears (LinkStep tells) (sent (with_admin (ends_at n) d)) z seen result d' new) turned.0 hears in
    let says = says-own n e (omega (arith, small)) named in
    record {
      answered = r.0 ∙ ap Some says.status;
      driver = r.1 ∙ ap (λ h. with_admin (consumed_ends (ends_put n) h) d) says.head;
      setting_is = calls-are tells (heard_calls (ends_put n) b) seen new tt r.2
          ∙ ap (λ q. with_controller q (after_calls (heard_calls (ends_put n) b) q.controller)) turned.1
          ∙ ap (λ c. setting c world device)
          (head-written Admin (answered_by k n s' x' v e) (slot_of 32 ((n + 1) % 64)) refl refl (omega arith));
    }
