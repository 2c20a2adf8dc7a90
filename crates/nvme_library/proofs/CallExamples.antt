-- For `examples.rt`: calls of the medium, by computing.
use Rattle.std.proofs.Common.{
  ◌≡◌,
  ℕ,
  ◌*◌,
  List,
  [],
  ◌∷◌,
  ◌++◌,
  take,
  None,
  Ok,
  Some,
  refl,
  sym,
  ap,
  subst,
  ◌∙◌,
  true,
  arith,
}
use Rattle.std.specs.Prelude.{replicate, slice_range}
use Rattle.std.proofs.lemmas.List.{append-nil}
use Rattle.nvme_wire.specs.Completion.{completion_entry}
use Rattle.nvme_wire.specs.Submission.{cdw10, cdw11, cdw12, cid, fuse, nsid, opcode, prp1, prp2, psdt}
use Rattle.nvme_spec.specs.Commands.{block_count, command_of, starting_lba}
use Rattle.nvme_spec.specs.Configuration.{config_fault, first_config_fault, script_capacity}
use Rattle.nvme_spec.specs.DataRules.{data_addresses, pointer_rule}
use Rattle.nvme_spec.specs.Entries.{command_entry, transfer_entry}
use Rattle.nvme_spec.specs.Execution.{no_marks}
use Rattle.nvme_spec.specs.FaultFree.{fault_free_execution}
use Rattle.nvme_spec.specs.FaultFreeCalls.{command_calls}
use Rattle.nvme_spec.specs.IoData.{action_outcome, action_rule, io_judgement, reservation_outcome}
use Rattle.nvme_spec.specs.IoRules.{
  attachment_rule,
  field_rule,
  form_rule,
  mark_rule,
  nsid_rule,
  opcode_rule,
  protection_rule,
  range_rule,
  reservation_rule,
}
use Rattle.nvme_spec.specs.Layout.{IsLaidOut}
use Rattle.nvme_spec.specs.MediumCalls.{Calls, Reads, Flushes}
use Rattle.nvme_spec.specs.Memory.{qword}
use Rattle.nvme_spec.specs.Pointer.{fault_of, first_fault}
use Rattle.nvme_spec.specs.Rules.{judgement_by}
use Rattle.nvme_spec.specs.Transfers.{addresses, with_scattered}
use Rattle.nvme_spec.specs.World.{host_of, is_attached, namespace_of, opening_world}
use Rattle.nvme_spec.proofs.Openings.{opening_is_laid_out}
use Rattle.nvme_spec.specs.Blocks.{blocks_from}
use Rattle.nvme_spec.specs.Bytes.{with_bytes}
use Rattle.nvme_brought.specs.Brought.{room_bytes, with_room, content_of, FlushesIf}
use Rattle.nvme_brought.specs.declared.medium.BroughtMedium.{BroughtMedium}
use Rattle.nvme_brought.specs.declared.room.Room.{Room}
use Rattle.nvme_lent.specs.OwnOrLent.{bytes_of, device_of, step_of, IsInMemory}
use Rattle.nvme_lent.specs.declared.either.OwnOrLent.{OwnOrLent}
use Rattle.nvme_lent.specs.declared.either.OwnOrLent.TheVariants.{Own, Lent, Brought}
use Rattle.nvme_lent.proofs.CallLaws.{bytes_follow}
use Rattle.nvme_machine.specs.declared.event.Event.TheVariants.{Execute}
use Rattle.nvme_machine.specs.Bare.{seen_with}
use Rattle.nvme_machine.specs.CallLaws.{IsFlushAt}
use Rattle.nvme_machine.specs.Controllers.{after_posting, after_queue_change, open_pair}
use Rattle.nvme_machine.specs.EventCalls.{AreCallsOfStep}
use Rattle.nvme_machine.specs.Examples.{a_flush, small}
use Rattle.nvme_machine.specs.FaultFree.{fault_free_command_execution, fault_free_step}
use Rattle.nvme_machine.specs.FaultFreeCalls.{event_calls}
use Rattle.nvme_machine.specs.Subsystems.{Subsystem, Step, after_completion, after_execution, controller_at}
use Rattle.nvme_machine.proofs.CallLaws.{flushed_is_one_flush, run_calls_exist}
use Rattle.nvme_machine.proofs.Determined.{steps}
use Rattle.nvme_subsys.specs.OverMedium.{over}
use Rattle.nvme_library.specs.CallExamples.{
  CyclingMakesNoCall,
  ExecutingMakesItsCalls,
  FlushesOverADisk,
  LooksAtFirst,
  LooksMakeTheirReads,
  after,
  flushing,
  is_done,
  writing,
}
use Rattle.nvme_library.specs.Events.{Executing}
use Rattle.nvme_library.specs.Over.{over_device}
use Rattle.nvme_library.proofs.LentLaws.{bytes_stay_the_content, looks_leave_the_medium}

-- all definitions that executions compute with: unfolding this one unfolds them
unfoldable computing : Unit {0}
unfolding completion_entry cdw10 cdw11 cdw12 cid fuse nsid opcode prp1 prp2 psdt block_count command_of starting_lba
    data_addresses pointer_rule command_entry transfer_entry fault_free_execution command_calls
    action_outcome action_rule
    io_judgement reservation_outcome attachment_rule field_rule form_rule mark_rule nsid_rule opcode_rule
    protection_rule
    range_rule reservation_rule qword fault_of first_fault judgement_by addresses with_scattered host_of is_attached
    namespace_of opening_world after_posting after_queue_change open_pair fault_free_command_execution after_completion
    after_execution controller_at flushing writing
computing = tt

fits : first_config_fault small 2 ≡ None
unfolding config_fault
fits = refl

flushing-laid : IsLaidOut flushing.world flushing.device.content
unfolding flushing
flushing-laid = opening_is_laid_out small (script_capacity 2) _ refl fits

writing-laid : IsLaidOut writing.world writing.device.content
unfolding writing
writing-laid = opening_is_laid_out small (script_capacity 2) _ refl fits

-- An execution.

its-calls : (s : Subsystem) → IsLaidOut s.world s.device.content
    → AreCallsOfStep true s (Execute 1 0) (fault_free_step s (Execute 1 0)).seen (after s) (event_calls s (Execute 1 0))
its-calls s laid =
    let r = (run_calls_exist s (Execute 1 0 ∷ []) laid).0 in
    let own : r.1 ≡ event_calls s (Execute 1 0) =
    sym (append-nil r.1) ∙ ap (λ cs. r.1 ++ cs) (sym r.4.1) ∙ sym r.5 ∙ append-nil (event_calls s (Execute 1 0)) in
    subst (λ cs. AreCallsOfStep true s (Execute 1 0) (fault_free_step s (Execute 1 0)).seen (after s) cs) own
    (subst (λ mid. AreCallsOfStep true s (Execute 1 0) (fault_free_step s (Execute 1 0)).seen mid r.1) (sym r.4.0) r.3)

flush-seen : (fault_free_step flushing (Execute 1 0)).seen ≡ seen_with no_marks is_done
unfolding computing
flush-seen = refl

flush-calls : event_calls flushing (Execute 1 0) ≡ Flushes (Ok tt) ∷ []
unfolding computing
flush-calls = refl

flush-step : (m : OwnOrLent) → IsInMemory m → step_of m (Flushes (Ok tt)) m
flush-step (Own m) memory = (refl, refl)
flush-step (Lent m) memory = (refl, refl)
flush-step (Brought m) memory = absurd memory

executes-by : (m : OwnOrLent) → step_of m (Flushes (Ok tt)) m
    → Executing 1 0 (over flushing m) is_done (over (after flushing) m)
executes-by m flushes = record {
  marks = no_marks;
  marked = refl;
  executes = subst (λ seen. Step true flushing (Execute 1 0) seen (after flushing)) flush-seen
      (steps flushing (Execute 1 0) flushing-laid);
  calls = record {
    calls = Flushes (Ok tt) ∷ [];
    are = subst
        (λ seen. AreCallsOfStep true flushing (Execute 1 0) seen (after flushing) (Flushes (Ok tt) ∷ [])) flush-seen
        (subst (λ cs. AreCallsOfStep true flushing (Execute 1 0) (fault_free_step flushing (Execute 1 0)).seen
        (after flushing) cs) flush-calls
        (its-calls flushing flushing-laid));
    made = (m, flushes, refl);
  };
}

executes : (m : OwnOrLent) → IsInMemory m → Executing 1 0 (over flushing m) is_done (over (after flushing) m)
executes m memory = executes-by m (flush-step m memory)

is-flush : IsFlushAt flushing 1 0
unfolding computing
is-flush = record { controller = _; command = a_flush; at = refl; found = refl; io = refl; is = refl }

flush-leaves : (m other : OwnOrLent) → IsInMemory m
    → Executing 1 0 (over flushing m) is_done (over (after flushing) other) → bytes_of other ≡ bytes_of m
flush-leaves m other memory h =
    let one = flushed_is_one_flush true flushing (after flushing) 1 0 _ h.calls.calls h.calls.are is-flush refl in
    let made = bytes_follow m other (Flushes (Ok tt) ∷ []) memory
    (subst (λ cs. Calls step_of m cs other) one h.calls.made) in
    made.2 ∙ made.1.1

quiet : (writing.device.failures ≡ 0) × ((after writing).device.failures ≡ 0)
    × ((after writing).device.content ≡ replicate 1024 0)
unfolding computing
quiet = (refl, refl, refl)

pub executing_makes_its_calls : ExecutingMakesItsCalls
executing_makes_its_calls = record {
  flushes = executes;
  no_write = λ m other memory differ h. differ (flush-leaves m other memory h);
  writes = λ m other memory is h. bytes_stay_the_content 1 0 (over writing m)
      (over (after writing) other) is_done memory h writing-laid quiet.0 quiet.1 is ∙ quiet.2;
}

-- An execution over a room.

-- a room without a block at hand puts nothing over a content
puts-nothing : (content : List ℕ) (r : Room) → r.first ≡ 0 → r.at_hand ≡ 0 → with_room content r ≡ content
puts-nothing content r first none = λ j. with_bytes content (512 * first j) (take (512 * none j) (room_bytes r))

-- the medium with this room
abbrev having-room : (m : BroughtMedium) (r : Room) → r.first ≡ 0 → r.at_hand ≡ 0 → BroughtMedium
having-room m r first none = record {
  disk = m.disk;
  room = r;
  failures = m.failures;
  countable = m.countable;
  within = omega (arith, first, none);
}

unfailed : flushing.device.failures ≡ 0
unfolding computing
unfailed = refl

kept : (after flushing).device ≡ flushing.device
unfolding computing
kept = refl

pub flushes_over_a_disk : FlushesOverADisk
flushes_over_a_disk m r nothing failures is first none flushes =
    let b : BroughtMedium = having-room m r first none in let content = flushing.device.content in
    let same : content_of b ≡ content_of m = puts-nothing m.disk.content.bytes r first none
    ∙ sym (puts-nothing m.disk.content.bytes m.room nothing.first nothing.at_hand) in
    let device : flushing.device ≡ device_of (Brought m) =
    λ j. record { content = sym is j; failures = (unfailed ∙ sym failures) j } in
    let other : flushing.device ≡ device_of (Brought b) =
    device ∙ (λ j. record { content = sym same j; failures = m.failures }) in (
      record {
        earlier = m.room;
        before = over flushing (Brought b);
        after = over (after flushing) (Brought b);
        old_is = device;
        brings = record {
          room_is = refl;
          earlier_is = refl;
          content = same ∙ sym (puts-nothing (content_of m) r first none);
          blocks = refl;
          failures = refl;
        };
        before_is = ap (over_device flushing) other;
        executes = executes-by (Brought b) (subst (λ f. FlushesIf f b (Ok tt) b) (sym flushes) (refl, refl));
        after_is = kept ∙ other;
        gives = record { room_is = refl; nothing = nothing; content = sym same; blocks = refl; failures = refl };
        new_is = ap (over_device (after flushing)) (kept ∙ device);
      },
      (λ j. take (512 * none j) (room_bytes r)) ∙ sym (λ j. blocks_from content (first j) (512 * none j)),
    )

-- A power cycle.

pub cycling_makes_no_call : CyclingMakesNoCall
cycling_makes_no_call = record {
  leaves = λ s. (refl, refl, refl);
  no_write = λ s other differ h. differ (ap bytes_of h.2);
}

-- Reads of blocks.

read-step : (m : OwnOrLent) → IsInMemory m → bytes_of m ≡ flushing.device.content
    → step_of m (Reads 0 (Ok (replicate 512 1))) m
unfolding flushing
read-step (Own m) memory is = (ap (λ bytes. Ok (slice_range bytes 0 512)) (sym is), refl)
read-step (Lent m) memory is = (ap (λ bytes. Ok (slice_range bytes 0 512)) (sym is), refl)
read-step (Brought m) memory is = absurd memory

looks : (m : OwnOrLent) → IsInMemory m → bytes_of m ≡ flushing.device.content
    → LooksAtFirst m (replicate 512 1) m
unfolding computing
looks m memory is = record {
  looks = record {
    read = λ told. refl;
    content = λ told. refl;
    count = record { done = λ h. refl; failed = λ h. absurd (cc) };
    world = refl;
    controllers = refl;
  };
  calls = record {
    passed = 1;
    ends = refl;
    made = (m, read-step m memory is, refl);
    read = λ told. refl;
    behind = refl;
    long = refl;
  };
}

first_byte : List ℕ → ℕ
first_byte [] = 0
first_byte (x ∷ xs) = x

looked-bytes : (m other : OwnOrLent) → LooksAtFirst m (replicate 512 2) other
    → replicate {A = ℕ} 512 2 ≡ replicate 512 1
unfolding computing
looked-bytes m other h = h.looks.read refl

pub looks_make_their_reads : LooksMakeTheirReads
unfolding first_byte
looks_make_their_reads = record {
  reads = looks;
  no_other_bytes = λ m other h. two-is-one (ap first_byte (looked-bytes m other h));
  no_write = λ m other memory differ h. differ (ap bytes_of (looks_leave_the_medium 1 0 1 (over flushing m)
      (over flushing other) (replicate 512 7) (replicate 512 1) (Some (Ok tt)) memory h));
}
  where
    two-is-one : ◌≡◌ {A = ℕ} 2 1 → ⊥
    two-is-one e = absurd (cc)
