-- For `laws.rt` and `nvme_fleet`: bringing up is a step of the mailbox: two rounds of a command of the driver's own.
use Rattle.nvme_refinement.proofs.Words.{
  ◌≡◌,
  ℕ,
  ◌<◌,
  Bool,
  true,
  false,
  List,
  length,
  None,
  Result,
  Ok,
  refl,
  sym,
  ap,
  subst,
  ◌∙◌,
  arith,
  SqeFields,
  submission_entry,
  cid as command_cid,
  completion_entry,
  with_bytes,
  value_at,
  Admin,
  Up,
  UpFault,
  Calls,
  Driver,
  ends,
  is_up,
  Rises,
  Creates,
  CreatesBoth,
  CreatesSubmissions,
  create_completion_queue,
  create_submission_queue,
  csts,
  is_ready,
  fault_of,
  start_calls,
  started,
  Concludes,
  Controller,
  after_queue_change,
  Setting,
  setting,
  brought_up,
  recounted,
  Mailbox,
  Sound,
  IsOff,
  EndsFit,
  mailbox,
  LinkStep,
  BringUpIsAStep,
  with_controller,
  part-there,
}
use Rattle.nvme_refinement.proofs.LaneWindows.{each-lane}
use Rattle.nvme_refinement.proofs.Places.{no-way}
use Rattle.nvme_refinement.proofs.Rising.{
  Rises as RisesFrom,
  IsOwn,
  OwnCommand,
  own_window,
  zeroed-size,
  made_completions,
  made_submissions,
  risen_driver,
  risen_controller,
  risen-both,
  risen-mail,
}
use Rattle.nvme_refinement.proofs.StartStep.{
  running,
  zeroed_all,
  setting_calls,
  calls-are,
  value-is,
  started-is,
  ready-value,
}
use Rattle.nvme_refinement.proofs.OwnCommands.{
  first_change,
  second_change,
  completions-made,
  submissions-made,
  first-cid,
  second-cid,
  first-size,
  second-size,
  length-completion,
}
use Rattle.nvme_refinement.proofs.TurnStep.{round, own_completion, says-own, with_admin, ends_at, put_window}
use Rattle.nvme_spec.proofs.Splices.{length-with_bytes}

-- the n-th such command, with its completion
abbrev own : ℕ → SqeFields → OwnCommand
own n f = record { command = submission_entry f; completion = completion_entry (own_completion n (submission_entry f)) }

is-own : (n : ℕ) (f : SqeFields) → n < 32 → length (submission_entry f) ≡ 64 → command_cid (submission_entry f) ≡ 24
    → IsOwn (own n f)
is-own n f h size i = record {
  command = size;
  completion = length-completion (own_completion n (submission_entry f));
  phase = (says-own n (submission_entry f) h i).phase;
}

-- the window after it was answered
abbrev answered_window : ℕ → SqeFields → List ℕ → List ℕ
answered_window n f w = own_window n w (own n f)

-- It is started: the queue pages are zeroed, and it is ready.
record Started (k : ℕ) (old : Setting) (value : ℕ) (on : Setting) : Type 0 where
  ready : value ≡ 1
  setting_is : on ≡ setting (running k 0 0 None None 0 (zeroed_all old.controller.window)) old.world old.device

started-setting : (tells : Bool) (value : ℕ) (old on : Setting) → IsOff old.controller
    → Calls (LinkStep tells) old (start_calls value) on → Started old.controller.cntlid old value on
started-setting tells value old on o h = record {
  ready = value-is tells setting_calls csts value old on tt h
      ∙ ap (λ (c : Controller). value_at c.registers csts) (started-is old.controller o)
      ∙ ready-value old.controller.cntlid 0 0 0 None None (zeroed_all old.controller.window);
  setting_is = calls-are tells (start_calls value) old on tt h ∙ ap (with_controller old) (started-is old.controller o);
}

-- The controller and the driver after both were answered.
abbrev first_window : List ℕ → List ℕ
first_window w = answered_window 0 create_completion_queue (zeroed_all w)

abbrev last_window : List ℕ → List ℕ
last_window w = answered_window 1 create_submission_queue (first_window w)

-- both rounds, one after the other
record RoundsAre (k : ℕ) (d : Driver) (old : Setting) (result : Result (Unit {0}) UpFault) (d' : Driver)
    (new : Setting) : Type 0 where
  answered : result ≡ Ok tt
  driver : d' ≡ risen_driver d
  setting_is : new ≡ setting (risen_controller k (last_window old.controller.window)) old.world old.device

first-size-of : (w : List ℕ) → length w ≡ 4194304 → length (first_window w) ≡ 4194304
first-size-of w l =
    let e : List ℕ = submission_entry create_completion_queue in
    let z = zeroed-size w l in
    let p : length (with_bytes (zeroed_all w) 0 e) ≡ 4194304 =
    length-with_bytes (zeroed_all w) 0 e (omega (arith, z, first-size)) ∙ z in
    length-with_bytes (with_bytes (zeroed_all w) 0 e) 4096 (completion_entry (own_completion 0 e))
    (omega (arith, p, length-completion (own_completion 0 e))) ∙ p

second-part : (tells : Bool) (k : ℕ) (d d' : Driver) (old mid new : Setting) (result : Result (Unit {0}) UpFault)
    (left : Driver) → length old.controller.window ≡ 4194304
    → left ≡ with_admin (ends_at 1) (started d)
    → mid ≡ setting (running k 1 0 None made_completions 0 (first_window old.controller.window)) old.world old.device
    → CreatesSubmissions (LinkStep tells) None left mid result d' new → RoundsAre k d old result d' new
unfolding after_queue_change
second-part tells k d d' old mid new result left long l m (answer, over, creates, concludes) =
    let w : List ℕ = first_window old.controller.window in
    let e : List ℕ = submission_entry create_submission_queue in
    let z = first-size-of old.controller.window long in
    let h = subst (λ z. Creates (LinkStep tells) create_submission_queue z
    (setting (running k 1 0 None made_completions 0 w) old.world old.device) answer over new) l
    (subst (λ z. Creates (LinkStep tells) create_submission_queue left z answer over new) m creates) in
    let r = round tells 1 k None made_submissions made_completions made_completions w old.world old.device
    create_submission_queue second_change (started d) over new answer (omega arith) z second-size second-cid
    (length-with_bytes w 64 e (omega (arith, z, second-size)) ∙ z) (part-there w e 64 64 second-size (omega (arith, z)))
    refl (submissions-made old.world k (put_window 1 w e)) refl h in
    let c = subst (λ z. Concludes (fault_of z) result over d') r.answered concludes in
    record {
      answered = c.0;
      driver = c.1 ∙ ap (λ (z : Driver). record z { state = Up }) r.driver;
      setting_is = r.setting_is;
    }

both-parts : (tells : Bool) (k : ℕ) (d d' : Driver) (old on new : Setting) (result : Result (Unit {0}) UpFault)
    → length old.controller.window ≡ 4194304
    → on ≡ setting (running k 0 0 None None 0 (zeroed_all old.controller.window)) old.world old.device
    → CreatesBoth (LinkStep tells) true (started d) on result d' new → RoundsAre k d old result d' new
unfolding after_queue_change
both-parts tells k d d' old on new result long o (answer, left, mid, creates, submissions) =
    let w : List ℕ = zeroed_all old.controller.window in
    let e : List ℕ = submission_entry create_completion_queue in
    let z = zeroed-size old.controller.window long in
    let h =
    subst (λ z. Creates (LinkStep tells) create_completion_queue (started d) z answer left mid) o creates in
    let r = round tells 0 k None None None made_completions w old.world old.device create_completion_queue first_change
    (started d) left mid answer (omega arith) z first-size first-cid
    (length-with_bytes w 0 e (omega (arith, z, first-size)) ∙ z)
    (part-there w e 0 64 first-size (omega (arith, z))) refl (completions-made old.world k (put_window 0 w e)) refl h in
    second-part tells k d d' old mid new result left long r.driver r.setting_is
    (subst (λ z. CreatesSubmissions (LinkStep tells) (fault_of z) left mid result d' new)
    r.answered submissions)

rises-are : (tells : Bool) (d d' : Driver) (old new : Setting) (result : Result (Unit {0}) UpFault)
    → IsOff old.controller → length old.controller.window ≡ 4194304
    → Rises (LinkStep tells) d old result d' new → RoundsAre old.controller.cntlid d old result d' new
unfolding Rises
rises-are tells d d' old new result o long (value, on, starts, both) =
    let s = started-setting tells value old on o starts in
    both-parts tells old.controller.cntlid d d' old on new result long s.setting_is
    (subst (λ v. CreatesBoth (LinkStep tells) (is_ready v) (started d) on result d' new) s.ready both)

-- The result.
abbrev RisesSo : Driver → Controller → Type 0
RisesSo d c = RisesFrom d c (own 0 create_completion_queue) (own 1 create_submission_queue)

risen-sound : (k : ℕ) (d : Driver) (c : Controller)
    → RisesSo d c → Sound (risen_driver d) (risen_controller k (last_window c.window))
risen-sound k d c h = record {
  both = risen-both k d c (own 0 create_completion_queue) (own 1 create_submission_queue) h;
  fits = each-lane Admin (λ l. EndsFit (ends l (risen_driver d))) (record { tail = refl; head = refl })
      (record { tail = refl; head = refl });
  sizes = h.sound.sizes;
  up = λ u. record {
    admin = record { fetched = 2; waiting = 0; posted = 2; unread = 0 };
    io = record { fetched = 0; waiting = 0; posted = 0; unread = 0 };
    submission = refl;
    completion = refl;
    fetched = tt;
    ready = refl;
    enabled = refl;
  };
  down = λ u. absurd (no-way true u refl);
}

came-up : (m : Mailbox)
    → m.up ≡ false → (brought_up m).mailbox ≡ record m { up = true; admin = recounted m.admin; io = recounted m.io }
came-up m h = rw h refl

pub bring_up_is_a_step : BringUpIsAStep
bring_up_is_a_step tells d d' old new result s h rises =
    let r = rises-are tells d d' old new result (s.down (ap is_up h)) s.both.window rises in
    let f : RisesSo d old.controller = record {
      sound = s;
      down = h;
      command = is-own 0 create_completion_queue (omega arith) first-size first-cid;
      later = is-own 1 create_submission_queue (omega arith) second-size second-cid;
    } in
    record {
      answered = r.answered;
      sound = rw (r.driver, r.setting_is) (risen-sound old.controller.cntlid d old.controller f);
      mail = came-up (mailbox d old.controller) (ap is_up h)
          ∙ sym (ap (λ z. mailbox z new.controller) r.driver
          ∙ ap (mailbox (risen_driver d)) (ap (λ (q : Setting). q.controller) r.setting_is)
          ∙ risen-mail old.controller.cntlid d old.controller (own 0 create_completion_queue)
          (own 1 create_submission_queue) f);
      cntlid = ap (λ (q : Setting). q.controller.cntlid) r.setting_is;
      world = ap (λ (q : Setting). q.world) r.setting_is;
      device = ap (λ (q : Setting). q.device) r.setting_is;
    }
