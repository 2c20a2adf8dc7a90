-- For the example runs of drivers: a driver comes up. Its controller creates both I/O queues, each after one turn.
use Rattle.std.proofs.Common.{
  ◌≡◌,
  ◌<◌,
  ◌+◌,
  ◌*◌,
  ◌%◌,
  ◌++◌,
  ◌∙◌,
  ℕ,
  true,
  false,
  List,
  [],
  ◌∷◌,
  length,
  Option,
  None,
  Some,
  Ok,
  refl,
  sym,
  ap,
  subst,
  arith,
}
use Rattle.std.specs.Prelude.{MatchOption}
use Rattle.nvme_wire.specs.Completion.{completion_entry}
use Rattle.nvme_wire.specs.Submission.{submission_entry}
use Rattle.nvme_wire.specs.Submission as entry
use Rattle.nvme_wire.specs.declared.sqe.fields.SqeFields.{SqeFields}
use Rattle.nvme_spec.specs.declared.queues.QueueChange.{QueueChange}
use Rattle.nvme_spec.specs.AdminEffects.{admin_execution}
use Rattle.nvme_spec.specs.Blocks.{Device}
use Rattle.nvme_spec.specs.Bytes.{with_bytes}
use Rattle.nvme_spec.specs.Execution.{Scene}
use Rattle.nvme_spec.specs.Memory as memory
use Rattle.nvme_spec.specs.Queues.{slot_of}
use Rattle.nvme_spec.specs.Statuses.{successful_completion}
use Rattle.nvme_spec.specs.World.{World}
use Rattle.nvme_spec.proofs.Splices.{length-with_bytes}
use Rattle.nvme_driver.specs.declared.lane.Lane.TheVariants.{Admin}
use Rattle.nvme_driver.specs.Calls.{Call, Calls, Loads, Reads, Sees, Stores, Turns, Writes}
use Rattle.nvme_driver.specs.Drivers.{Driver, new_driver, tail_of}
use Rattle.nvme_driver.specs.Layout.{command_place, tail_doorbell}
use Rattle.nvme_driver.specs.Polls.{consumed_ends, look}
use Rattle.nvme_driver.specs.Rises.{
  Awaits,
  Creates,
  CreatesBoth,
  CreatesSubmissions,
  Rises,
  create_completion_queue,
  create_submission_queue,
  csts,
  heard_calls,
  send_calls,
  start_calls,
  started,
}
use Rattle.nvme_driver.proofs.PageLists.{part-there}
use Rattle.nvme_machine.specs.declared.fetched.FetchedCommand.{FetchedCommand}
use Rattle.nvme_machine.specs.declared.seen.Executed.TheVariants.{Posted}
use Rattle.nvme_machine.specs.declared.seen.Seen.TheVariants as below
use Rattle.nvme_machine.specs.CommandExecutions.{CommandComesTo, CommandExecution, admin_command_execution}
use Rattle.nvme_machine.specs.Controllers.{
  CompletionQueue,
  Controller,
  QueuePair,
  SubmissionQueue,
  after_fetch,
  after_posting,
  after_queue_change,
  after_store,
  after_write32,
  fetchable,
  new_controller,
  open_pair,
  queues_of,
}
use Rattle.nvme_machine.specs.Subsystems.{
  Completes,
  Subsystem,
  after_completion,
  after_execution,
  controller_at,
  with_controller,
}
use Rattle.nvme_machine.proofs.Denials.{unmarked}
use Rattle.nvme_refinement.specs.Sound.{IsOff}
use Rattle.nvme_refinement.specs.Steps.{after_calls}
use Rattle.nvme_refinement.proofs.Opening.{opening_is_sound}
use Rattle.nvme_refinement.proofs.OwnCommands.{
  completions-made,
  first-cid,
  first-size,
  first_change,
  length-completion,
  only_change,
  second-cid,
  second-size,
  second_change,
  submissions-made,
}
use Rattle.nvme_refinement.proofs.Registering.{head-written, tail-written}
use Rattle.nvme_refinement.proofs.Rising.{
  made_completions,
  made_submissions,
  risen_controller,
  risen_driver,
  zeroed-size,
}
use Rattle.nvme_refinement.proofs.StartStep.{
  ready-value,
  running,
  setting_calls,
  started-is,
  stored-at,
  zeroed_all,
}
use Rattle.nvme_refinement.proofs.TurnStep.{
  answered_by,
  at_head,
  ends_at,
  ends_heard,
  ends_put,
  heard_by,
  own-is,
  own_completion,
  put_window,
  says-own,
  seen-is,
  with_admin,
}
use Rattle.nvme_fleet.specs.DriverEvents.{CallStep}
use Rattle.nvme_session_runs.proofs.DriverEvents.{AreWrites, under}

-- Stores and register writes, and then other calls.
calls-then : (w : World) (v : Device) (x : Controller) (calls : List Call) (c : Controller) (rest : List Call)
    (new : Subsystem) → AreWrites calls → Calls (CallStep true 1) (under w v x (after_calls calls c)) rest new
    → Calls (CallStep true 1) (under w v x c) (calls ++ rest) new
unfolding controller_at with_controller
calls-then w v x [] c rest new h later = later
calls-then w v x (Stores address bytes ∷ calls) c rest new h later =
    let next = (after_store address bytes c).controller in (
      under w v x next,
      record {
        given = (after_store address bytes c).seen ∷ [];
        run = (under w v x next, (refl, refl), refl);
        answers = tt;
      },
      calls-then w v x calls next rest new h later,
    )
calls-then w v x (Writes offset n ∷ calls) c rest new h later =
    let next = after_write32 offset n c in (
      under w v x next,
      record { given = below.Wrote ∷ []; run = (under w v x next, (refl, refl), refl); answers = tt },
      calls-then w v x calls next rest new h later,
    )
calls-then w v x (Reads offset n ∷ calls) c rest new h later = absurd h
calls-then w v x (Turns ∷ calls) c rest new h later = absurd h
calls-then w v x (Sees lane head expected seen ∷ calls) c rest new h later = absurd h
calls-then w v x (Loads at part ∷ calls) c rest new h later = absurd h

-- The controller is started, and its status is read.
abbrev page_window : List ℕ
page_window = zeroed_all memory.zeros

abbrev idle : Controller
idle = running 1 0 0 None None 0 page_window

is-off : IsOff (new_controller 1)
is-off = record { submission = refl; completion = refl; fetched = refl; off = refl; disabled = refl }

starts : (w : World) (v : Device) (x : Controller)
    → Calls (CallStep true 1) (under w v x (new_controller 1)) (start_calls 1) (under w v x idle)
unfolding controller_at with_controller
starts w v x =
    let read : CallStep true 1 (under w v x idle) (Reads csts 1) (under w v x idle) = record {
      given = below.Value 1 ∷ [];
      run = (under w v x idle, (sym (ap below.Value (ready-value 1 0 0 0 None None page_window)), refl), refl);
      answers = refl;
    } in
    let reads : Calls (CallStep true 1) (under w v x idle) (Reads csts 1 ∷ []) (under w v x idle) =
    (under w v x idle, read, refl) in
    calls-then w v x setting_calls (new_controller 1) (Reads csts 1 ∷ []) (under w v x idle) tt
    (subst (λ c. Calls (CallStep true 1) (under w v x c) (Reads csts 1 ∷ []) (under w v x idle))
    (sym (started-is (new_controller 1) is-off)) reads)

-- A turn: the command is fetched and executed.
turns : (w : World) (v : Device) (x : Controller) (n : ℕ) (s s' : Option SubmissionQueue)
    (y y' : Option CompletionQueue) (window e : List ℕ) (change : QueueChange)
    → at_head n window ≡ e
    → admin_execution w (queues_of (running 1 n 1 s y 0 window)) 1 e window ≡ only_change change w window
    → after_queue_change change (answered_by 1 n s y window e) ≡ answered_by 1 n s' y' window e
    → CallStep true 1 (under w v x (running 1 n 1 s y 0 window)) Turns (under w v x (answered_by 1 n s' y' window e))
unfolding after_fetch fetchable open_pair CommandComesTo after_completion after_posting after_execution controller_at
    with_controller
turns w v x n s s' y y' window e change there works queues =
    let c : Controller = running 1 n 1 s y 0 window in
    let taken : Controller = (after_fetch 0 c).controller in
    let t : FetchedCommand = record { entry = at_head n window; queue = 0; marked = false } in
    let p : QueuePair = record {
      submission = record { base = 0; cqid = 0; head = record { size = 8; fetched = (n + 1) % 8; waiting = 0 } };
      completion = record { base = 0x1000; tail = record { size = 32; posted = n; unread = 0 } };
    } in
    let here : Scene = record { world = w; window = window; device = v } in
    let a : CommandExecution = admin_command_execution here (only_change change w window) in
    let works_so = ap (λ z. admin_execution w (queues_of (running 1 n 1 s y 0 window)) 1 z window) there ∙ works in
    let same : answered_by 1 n s' y' window e
    ≡ after_queue_change change (answered_by 1 n s y window (at_head n window)) =
    sym (ap (λ z. after_queue_change change (answered_by 1 n s y window z)) there ∙ queues) in
    let next : Controller = after_completion 0 t p a taken in
    let all = ap (λ cs. (let z : Subsystem = record { world = w; device = v; controllers = cs } in z))
    (ap (λ z. z ∷ x ∷ []) same ∙ sym (unmarked w 1 (next ∷ x ∷ []))) in
    let done : Completes true (under w v x taken) 1 taken 0 t p (below.Executed (Posted a.outcome))
    (under w v x (answered_by 1 n s' y' window e)) = record {
      execution = a;
      comes_to = ap (admin_command_execution here) (sym works_so);
      gives = refl;
      leaves = all;
    } in
    record {
      given = (after_fetch 0 c).seen ∷ below.Executed (Posted a.outcome) ∷ [];
      run = (
        under w v x taken,
        (refl, refl),
        (under w v x (answered_by 1 n s' y' window e), done, refl),
      );
      answers = tt;
    }

-- A queue is created by a command of the driver's own, the n-th.
creates : (w : World) (v : Device) (x : Controller) (n : ℕ) (s s' : Option SubmissionQueue)
    (y y' : Option CompletionQueue) (window : List ℕ) (f : SqeFields) (change : QueueChange) (d : Driver)
    → n < 7 → length window ≡ 4194304 → length (submission_entry f) ≡ 64 → entry.cid (submission_entry f) ≡ 24
    → length (put_window n window (submission_entry f)) ≡ 4194304
    → at_head n (put_window n window (submission_entry f)) ≡ submission_entry f
    → after_write32 (tail_doorbell Admin) (tail_of (ends_put n)) (running 1 n 0 s y 0 (put_window n window
    (submission_entry f))) ≡ running 1 n 1 s y 0 (put_window n window (submission_entry f))
    → admin_execution w (queues_of (running 1 n 1 s y 0 (put_window n window (submission_entry f)))) 1
    (submission_entry f) (put_window n window (submission_entry f))
    ≡ only_change change w (put_window n window (submission_entry f))
    → after_queue_change change (answered_by 1 n s y (put_window n window (submission_entry f)) (submission_entry f))
    ≡ answered_by 1 n s' y' (put_window n window (submission_entry f)) (submission_entry f)
    → Creates (CallStep true 1) f (with_admin (ends_at n) d) (under w v x (running 1 n 0 s y 0
    window)) (Some successful_completion) (with_admin (ends_heard n) d)
    (under w v x (heard_by 1 n s' y' (put_window n window (submission_entry f)) (submission_entry f)))
unfolding Creates Awaits controller_at
creates w v x n s s' y y' window f change d small long size named whole there rung works queues =
    let e : List ℕ = submission_entry f in
    let put : List ℕ = put_window n window e in
    let b : List ℕ = completion_entry (own_completion n e) in
    let says = says-own n e (omega (arith, small)) named in
    let mid : Subsystem = under w v x (answered_by 1 n s' y' put e) in
    let stored : (after_store (command_place Admin n) e (running 1 n 0 s y 0 window)).controller
    ≡ running 1 n 0 s y 0 put =
    stored-at (command_place Admin n) e (running 1 n 0 s y 0 window) (omega (arith, small, size)) in
    let sends = calls-then w v x (send_calls (ends_at n) f) (running 1 n 0 s y 0 window) []
    (under w v x (running 1 n 1 s y 0 put)) tt
    (ap (under w v x) (sym (ap (after_write32 (tail_doorbell Admin) (tail_of (ends_put n))) stored ∙ rung))) in
    let turn = turns w v x n s s' y y' put e change there works queues in
    let sees : CallStep true 1 mid (look Admin (ends_put n) (Some b)) mid = record {
      given = [];
      run = refl;
      answers = sym (seen-is n put e (omega (arith, small)) whole named);
    } in
    let awaits = subst (λ o. MatchOption o (Awaits (CallStep true 1) (ends_put n) 3 mid (Some b) mid)
    (λ found. (Some b ≡ Some found) × (mid ≡ mid))) (sym (own-is n e (omega (arith, small)) named)) (refl, refl) in
    let hears = calls-then w v x (heard_calls (ends_put n) b) (answered_by 1 n s' y' put e) []
    (under w v x (heard_by 1 n s' y' put e)) tt
    (ap (under w v x) (sym (head-written Admin (answered_by 1 n s' y' put e) (slot_of 32 ((n + 1) % 64)) refl refl
    (omega arith)))) in (
      under w v x (running 1 n 1 s y 0 put),
      Some b,
      mid,
      sends,
      (mid, Some b, (mid, turn, (mid, sees, refl)), awaits),
      (
        sym (ap Some says.status),
        ap (λ h. with_admin (consumed_ends (ends_put n) h) d) (sym says.head),
        hears,
      ),
    )

-- Both queues.
abbrev first : List ℕ
first = submission_entry create_completion_queue

abbrev second : List ℕ
second = submission_entry create_submission_queue

abbrev first_window : List ℕ
first_window = with_bytes (put_window 0 page_window first) 0x1000 (completion_entry (own_completion 0 first))

abbrev last_window : List ℕ
last_window = with_bytes (put_window 1 first_window second) 0x1010 (completion_entry (own_completion 1 second))

window-long : length memory.zeros ≡ 4194304
window-long = (opening_is_sound 1 1).sound.both.window

page-long : length page_window ≡ 4194304
page-long = zeroed-size memory.zeros window-long

put-long : length (put_window 0 page_window first) ≡ 4194304
put-long = length-with_bytes page_window 0 first (omega (arith, page-long, first-size)) ∙ page-long

first-long : length first_window ≡ 4194304
first-long = length-with_bytes (put_window 0 page_window first) 4096 (completion_entry (own_completion 0 first))
    (omega (arith, put-long, length-completion (own_completion 0 first))) ∙ put-long

rung-first : after_write32 (tail_doorbell Admin) (tail_of (ends_put 0))
    (running 1 0 0 None None 0 (put_window 0 page_window first))
    ≡ running 1 0 1 None None 0 (put_window 0 page_window first)
rung-first = tail-written Admin (running 1 0 0 None None 0 (put_window 0 page_window first)) (tail_of (ends_put 0)) refl
    refl (omega arith)

rung-second : after_write32 (tail_doorbell Admin) (tail_of (ends_put 1))
    (running 1 1 0 None made_completions 0 (put_window 1 first_window second))
    ≡ running 1 1 1 None made_completions 0 (put_window 1 first_window second)
rung-second = tail-written Admin (running 1 1 0 None made_completions 0 (put_window 1 first_window second))
    (tail_of (ends_put 1)) refl refl (omega arith)

creates-first : (w : World) (v : Device) (x : Controller)
    → Creates (CallStep true 1) create_completion_queue (started (new_driver 1))
    (under w v x idle) (Some successful_completion) (with_admin (ends_at 1) (started (new_driver 1)))
    (under w v x (running 1 1 0 None made_completions 0 first_window))
unfolding after_queue_change
creates-first w v x = creates w v x 0 None None None made_completions page_window create_completion_queue first_change
    (started (new_driver 1)) (omega arith) page-long first-size first-cid put-long
    (part-there page_window first 0 64 first-size (omega (arith, page-long))) rung-first
    (completions-made w 1 (put_window 0 page_window first)) refl

creates-second : (w : World) (v : Device) (x : Controller)
    → Creates (CallStep true 1) create_submission_queue
    (with_admin (ends_at 1) (started (new_driver 1))) (under w v x (running 1 1 0 None made_completions 0 first_window))
    (Some successful_completion) (with_admin (ends_at 2) (started (new_driver 1)))
    (under w v x (risen_controller 1 last_window))
unfolding after_queue_change
creates-second w v x = creates w v x 1 None made_submissions made_completions made_completions first_window
    create_submission_queue second_change (started (new_driver 1)) (omega arith) first-long second-size second-cid
    (length-with_bytes first_window 64 second (omega (arith, first-long, second-size)) ∙ first-long)
    (part-there first_window second 64 64 second-size (omega (arith, first-long))) rung-second
    (submissions-made w 1 (put_window 1 first_window second)) refl

pub comes_up : (w : World) (v : Device) (x : Controller)
    → Rises (CallStep true 1) (new_driver 1) (under w v x (new_controller 1)) (Ok tt)
    (risen_driver (new_driver 1)) (under w v x (risen_controller 1 last_window))
unfolding Rises
comes_up w v x =
    let mid : Subsystem = under w v x (running 1 1 0 None made_completions 0 first_window) in
    let submissions : CreatesSubmissions (CallStep true 1) None
    (with_admin (ends_at 1) (started (new_driver 1))) mid (Ok tt) (risen_driver (new_driver 1))
    (under w v x (risen_controller 1 last_window)) = (
      Some successful_completion,
      with_admin (ends_at 2) (started (new_driver 1)),
      creates-second w v x,
      (refl, refl),
    ) in
    let both : CreatesBoth (CallStep true 1) true (started (new_driver 1)) (under w v x idle)
    (Ok tt) (risen_driver (new_driver 1)) (under w v x (risen_controller 1 last_window)) = (
      Some successful_completion,
      with_admin (ends_at 1) (started (new_driver 1)),
      mid,
      creates-first w v x,
      submissions,
    ) in
    (1, under w v x idle, starts w v x, both)
