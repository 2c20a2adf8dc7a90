-- Proofs of the laws in `laws/calls.rt`: the calls of every I/O command.
use Rattle.std.proofs.Common.{
  ◌≡◌,
  inl,
  inr,
  ℕ,
  suc,
  ◌+◌,
  ◌*◌,
  ◌≤◌,
  ◌<◌,
  not,
  Bool,
  true,
  false,
  List,
  [],
  ◌∷◌,
  length,
  take,
  replicate,
  get_or,
  Some,
  Ok,
  Err,
  refl,
  sym,
  ap,
  subst,
  ◌∙◌,
  arith,
}
use Rattle.std.specs.Str.{bytes_eq}
use Rattle.std.proofs.lemmas.Bool.{cases_Bool, false≢true}
use Rattle.std.proofs.lemmas.List.{take_all, length-replicate}
use Rattle.std.proofs.lemmas.Option.{same_Some}
use Rattle.std.proofs.lemmas.Slice.Eq.{bytes_eq-Decides}
use Rattle.nvme_wire.specs.Submission.{opcode}
use Rattle.nvme_wire.specs.declared.status.Status.{Status}
use Rattle.nvme_spec.specs.declared.command.Command.{Command}
use Rattle.nvme_spec.specs.declared.command.Command.TheVariants.{
  Flush,
  Write,
  Read,
  Compare,
  WriteZeroes,
  ReservationRegister,
  ReservationReport,
  ReservationAcquire,
  ReservationRelease,
}
use Rattle.nvme_spec.specs.declared.medium.MediumFault.{MediumFault as Fault}
use Rattle.nvme_spec.specs.declared.outcome.Outcome.{Outcome}
use Rattle.nvme_spec.specs.declared.verdict.Verdict.{Verdict}
use Rattle.nvme_spec.specs.declared.verdict.Verdict.TheVariants.{Allowed, Denied}
use Rattle.nvme_spec.specs.Blocks.{Device, block_at, blocks_from}
use Rattle.nvme_spec.specs.CallLaws.{
  ExecutionsHaveCalls,
  PassingCallsAreUnique,
  PassingCallsExist,
  DeniedIsNoSuccess,
  FlushedIsOneFlush,
}
use Rattle.nvme_spec.specs.CommandCalls.{AreCallsBy, AreCallsOf, AreCallsOfEntry}
use Rattle.nvme_spec.specs.BlockCommands.{ComparesUpTo, answer_of, compared, reads_of, blocks_compared, passing_calls}
use Rattle.nvme_spec.specs.Commands.{opcode_of, command_of, data_length, data_length_of, block_count}
use Rattle.nvme_spec.specs.DataRules.{data_addresses}
use Rattle.nvme_spec.specs.Effects.{ReadEffect, WriteEffect, CompareEffect, FlushEffect}
use Rattle.nvme_spec.specs.Execution.{Scene, ExecutesBy, Performs, medium_block}
use Rattle.nvme_spec.specs.FaultFree.{performance_of, performed, fault_free_by, fault_free_execution}
use Rattle.nvme_spec.specs.FaultFreeCalls.{content_step, calls_by, command_calls}
use Rattle.nvme_spec.specs.IoData.{data_of, io_verdict}
use Rattle.nvme_spec.specs.Layout.{IsLaidOut}
use Rattle.nvme_spec.specs.MediumCalls.{
  MediumAnswer,
  MediumCall,
  Flushes,
  Calls,
  EndsAt,
  course,
  passing,
  reads_from,
  writes_from,
}
use Rattle.nvme_spec.specs.StatusLaws.{is_same, denials}
use Rattle.nvme_spec.specs.Statuses as status
use Rattle.nvme_spec.specs.Transfers.{with_scattered}
use Rattle.nvme_spec.specs.World.{World}
use Rattle.nvme_spec.proofs.Contents.{length-data_in}
use Rattle.nvme_spec.proofs.Denials.{Refuses, VerdictRefuses, verdict-refuses}
use Rattle.nvme_spec.proofs.FaultFree.{range-fits}
use Rattle.nvme_spec.proofs.PassingCalls.{
  AreFound,
  reads-pass,
  reads-find,
  reads-same,
  reads-made,
  writes-pass,
  all-written,
  compared-all,
  compared-up-to,
  compares,
  block-of-run,
  run-of-blocks,
}
use Rattle.nvme_spec.proofs.Passing.{HasPassed, has-passed}
use Rattle.nvme_spec.proofs.Splices.{length-blocks_from}
use Rattle.nvme_spec.proofs.StatusLaws.{of-each}

-- Successful calls write one list of bytes.

written-alone : (first blocks passed : ℕ) (bytes content left : List ℕ) (answer : MediumAnswer)
    (calls : List MediumCall) → calls ≡ course (writes_from first bytes) passed answer
    → EndsAt blocks passed answer → Calls content_step content calls left
    → calls ≡ passing (writes_from first bytes) blocks
written-alone first blocks passed bytes content left answer calls is ends made =
    let ok =
    writes-pass first passed bytes content left answer (subst (λ cs. Calls content_step content cs left) is made) in
    let all : passed ≡ blocks = subst (EndsAt blocks passed) ok ends in
    is ∙ (ap (course (writes_from first bytes) passed) ok ∙ ap (passing (writes_from first bytes)) all)

-- successful reads return the blocks of the content
record Reading (first passed : ℕ) (read content : List ℕ) (answer : MediumAnswer)
    (calls : List MediumCall) : Type 0 where
  ok : answer ≡ Ok tt
  found : AreFound first passed read content
  are : calls ≡ passing (reads_of first content) passed

reading : (first passed : ℕ) (read content left : List ℕ) (answer : MediumAnswer) (calls : List MediumCall)
    → calls ≡ course (reads_from first read) passed answer
    → Calls content_step content calls left → Reading first passed read content answer calls
reading first passed read content left answer calls is made =
    let own : Calls content_step content (course (reads_from first read) passed answer) left =
    subst (λ cs. Calls content_step content cs left) is made in
    let ok = reads-pass first passed read content left answer own in
    let found = reads-find first passed read content left
    (subst (λ a. Calls content_step content (course (reads_from first read) passed a) left) ok own) in
    record {
      ok = ok;
      found = found.1;
      are = is ∙ (ap (course (reads_from first read) passed) ok ∙ reads-same first passed read content found.1);
    }

alone : (command : Command) (first blocks : ℕ) (sent : List ℕ) (stored : ℕ → List ℕ → Type 0) (answered : Status)
    (content left : List ℕ) (calls : List MediumCall)
    → AreCallsOf command first blocks sent stored answered calls → Calls content_step content calls left
    → calls ≡ passing_calls command first blocks sent content
alone Flush first blocks sent stored answered content left calls h made =
    let own : Calls content_step content (Flushes h.answer ∷ []) left =
    subst (λ cs. Calls content_step content cs left) h.are made in
    let passed = own.1 in
    h.are ∙ ap (λ a. Flushes a ∷ []) passed.0
alone Write first blocks sent stored answered content left calls h made =
    let r = h.reached in written-alone first blocks h.passed sent content left h.answer calls h.are r.0 made
alone WriteZeroes first blocks sent stored answered content left calls h made =
    let r = h.reached in
    written-alone first blocks h.passed (replicate (512 * blocks) 0) content left h.answer calls h.are r.0 made
alone Read first blocks sent stored answered content left calls h made =
    let r = h.reached in
    let own = reading first h.passed h.read content left h.answer calls h.are made in
    let all : h.passed ≡ blocks = subst (EndsAt blocks h.passed) own.ok r.0 in
    own.are ∙ ap (passing (reads_of first content)) all
alone Compare first blocks sent stored answered content left calls h made =
    let own = reading first h.passed h.read content left h.answer calls h.are made in
    let found = own.found in
    let ends : ComparesUpTo blocks sent h.passed h.read (Ok tt) answered =
    subst (λ a. ComparesUpTo blocks sent h.passed h.read a answered) own.ok h.reached in
    own.are ∙ ap (passing (reads_of first content)) (elim ends [
      | inl all ↦ (let count = all.0 in all.0 ∙ sym (compared-all first sent content blocks
          (λ k below. sym (found k (omega (arith, below, count))) ∙ all.1 k (omega (arith, below, count)))))
      | inr some ↦ (let d = some.1 in
          let last = d.last in
          let few = some.0 in
          d.last ∙ sym (compared-up-to first sent content d.same blocks (omega (arith, last, few))
          (λ k below. sym (found k (omega (arith, below, last))) ∙ d.front k below)
          (λ same. d.differs (found d.same (omega (arith, last)) ∙ same))))
    ])
alone ReservationRegister first blocks sent stored answered content left calls h made = h.are
alone ReservationReport first blocks sent stored answered content left calls h made = h.are
alone ReservationAcquire first blocks sent stored answered content left calls h made = h.are
alone ReservationRelease first blocks sent stored answered content left calls h made = h.are

by-alone : (v : Verdict) (e : List ℕ) (s : Scene) (answered : Status) (after left : List ℕ) (calls : List MediumCall)
    → AreCallsBy v s.world s.window e answered after calls
    → Calls content_step s.device.content calls left → calls ≡ calls_by v e s
by-alone (Denied number why) e s answered after left calls h made = h
by-alone (Allowed plan) e s answered after left calls h made =
    alone plan.kind _ _ _ _ answered s.device.content left calls h made

pub passing_calls_are_unique : PassingCallsAreUnique
unfolding command_calls
passing_calls_are_unique k e marked s answered after calls left h made =
    by-alone (io_verdict s.world k e marked s.window) e s answered after left calls h made

-- And these blocks exist.

whole-data : (command : Command) (window e : List ℕ) → command_of (opcode e) ≡ Some command
    → length (data_of window e) ≡ data_length_of (Some command) e
whole-data command window e named =
    length-data_in (data_length_of (command_of (opcode e)) e) window e ∙ ap (λ o. data_length_of o e) named

compare-calls : (first blocks : ℕ) (sent content : List ℕ) (stored : ℕ → List ℕ → Type 0) (b : Bool)
    → bytes_eq (blocks_from content first (length sent)) sent ≡ b → length sent ≡ 512 * blocks
    → 512 * (first + blocks) ≤ length content → AreCallsOf Compare first blocks sent stored (compared b)
    (passing (reads_of first content) (blocks_compared first sent content blocks))
compare-calls first blocks sent content stored true is whole fits =
    let d = bytes_eq-Decides (blocks_from content first (length sent)) sent in
    let all = d.0 is in
    let same : (k : ℕ) → k < blocks → block_at content (first + k) ≡ block_at sent k =
    λ k below.
    sym (block-of-run content first k (length sent) (omega (arith, whole, fits)) (omega (arith, whole, below)))
    ∙ ap (λ x. block_at x k) all in
    record {
      read = sent;
      passed = blocks;
      answer = Ok tt;
      reached = inl (refl, (λ k below. refl), refl);
      are = ap (passing (reads_of first content)) (compared-all first sent content blocks same)
          ∙ sym (reads-same first blocks sent content (λ k below. sym (same k below)));
    }
compare-calls first blocks sent content stored false is whole fits = elim (compares first sent content blocks) [
  | inl all ↦ (let d = bytes_eq-Decides (blocks_from content first (length sent)) sent in
      let run = run-of-blocks first sent content blocks fits (omega (arith, whole)) all
      ∙ take_all (512 * blocks) sent (omega (arith, whole)) in
      absurd (false≢true (sym is ∙ d.1 (ap (blocks_from content first) whole ∙ run))))
  | inr d ↦ (let low = d.below in
      let read : List ℕ = blocks_from content first (512 * (d.at + 1)) in
      let found : AreFound first (d.at + 1) read content =
      λ k below. block-of-run content first k (512 * (d.at + 1)) (omega (arith, low, fits)) (omega (arith, below)) in
      record {
        read = read;
        passed = d.at + 1;
        answer = Ok tt;
        reached = inr (
          omega (arith, low),
          record {
            same = d.at;
            last = refl;
            whole = length-blocks_from content first (512 * (d.at + 1)) (omega (arith, low, fits));
            front = λ k below. found k (omega (arith, below)) ∙ d.front k below;
            differs = λ same. d.differs (sym (found d.at (omega arith)) ∙ same);
          },
          refl,
        );
        are =
            ap (passing (reads_of first content)) (compared-up-to first sent content d.at blocks low d.front d.differs)
            ∙ sym (reads-same first (d.at + 1) read content found);
      })
]

exist : (command : Command) (k : ℕ) (e : List ℕ) (s : Scene) → IsLaidOut s.world s.device.content
    → HasPassed s.world k e command
    → AreCallsOfEntry command s.world s.window e (performance_of command k e s).status
    (performed command k e s (performance_of command k e s)).left.window
    (passing_calls command (medium_block s.world e) (block_count e) (data_of s.window e) s.device.content)
exist Flush k e s laid p = record { read = []; passed = 0; answer = Ok tt; reached = refl; are = refl }
exist Write k e s laid p =
    record { read = []; passed = block_count e; answer = Ok tt; reached = (refl, refl); are = refl }
exist WriteZeroes k e s laid p =
    record { read = []; passed = block_count e; answer = Ok tt; reached = (refl, refl); are = refl }
exist Read k e s laid p =
    let content : List ℕ = s.device.content in
    let first : ℕ = medium_block s.world e in
    let blocks : ℕ = block_count e in
    let fits = range-fits s.world content k e laid p.attached p.fits in
    let read : List ℕ = blocks_from content first (512 * blocks) in
    let size : length read ≡ 512 * blocks = length-blocks_from content first (512 * blocks) fits in
    record {
      read = read;
      passed = blocks;
      answer = Ok tt;
      reached = (
        refl,
        refl,
        (size, ap (λ n. with_scattered s.window (take n (data_addresses (data_length Read e) s.window e)) read) size),
      );
      are = sym (reads-same first blocks read content
          (λ j below. block-of-run content first j (512 * blocks) fits (omega (arith, below))));
    }
exist Compare k e s laid p =
    let fits = range-fits s.world s.device.content k e laid p.attached p.fits in
    compare-calls (medium_block s.world e) (block_count e) (data_of s.window e) s.device.content _
    (bytes_eq (blocks_from s.device.content (medium_block s.world e) (length (data_of s.window e)))
    (data_of s.window e)) refl (whole-data Compare s.window e p.named) (omega (arith, fits))
exist ReservationRegister k e s laid p = record { read = []; passed = 0; answer = Ok tt; reached = tt; are = refl }
exist ReservationReport k e s laid p = record { read = []; passed = 0; answer = Ok tt; reached = tt; are = refl }
exist ReservationAcquire k e s laid p = record { read = []; passed = 0; answer = Ok tt; reached = tt; are = refl }
exist ReservationRelease k e s laid p = record { read = []; passed = 0; answer = Ok tt; reached = tt; are = refl }

made-by : (command : Command) (k : ℕ) (e : List ℕ) (s : Scene) → IsLaidOut s.world s.device.content
    → HasPassed s.world k e command
    → Calls content_step s.device.content
    (passing_calls command (medium_block s.world e) (block_count e) (data_of s.window e) s.device.content)
    (performance_of command k e s).content
made-by Flush k e s laid p = (s.device.content, (refl, refl), refl)
made-by Write k e s laid p =
    let fits = range-fits s.world s.device.content k e laid p.attached p.fits in
    all-written (medium_block s.world e) (block_count e) (data_of s.window e) s.device.content
    (whole-data Write s.window e p.named) (omega (arith, fits))
made-by WriteZeroes k e s laid p =
    let fits = range-fits s.world s.device.content k e laid p.attached p.fits in
    let zero : ℕ = 0 in
    all-written (medium_block s.world e) (block_count e) (replicate (512 * block_count e) zero) s.device.content
    (length-replicate (512 * block_count e) zero) (omega (arith, fits))
made-by Read k e s laid p = reads-made (medium_block s.world e) (block_count e) s.device.content
made-by Compare k e s laid p =
    reads-made (medium_block s.world e)
    (blocks_compared (medium_block s.world e) (data_of s.window e) s.device.content (block_count e)) s.device.content
made-by ReservationRegister k e s laid p = refl
made-by ReservationReport k e s laid p = refl
made-by ReservationAcquire k e s laid p = refl
made-by ReservationRelease k e s laid p = refl

pub passing_calls_exist : PassingCallsExist
unfolding fault_free_execution command_calls
passing_calls_exist k e marked s laid = by-verdict (io_verdict s.world k e marked s.window) refl
  where
    by-verdict : (v : Verdict) → io_verdict s.world k e marked s.window ≡ v
        → AreCallsBy v s.world s.window e (fault_free_by v k e s).outcome.status (fault_free_by v k e s).left.window
        (calls_by v e s)
        × Calls content_step s.device.content (calls_by v e s) (fault_free_by v k e s).left.device.content
    by-verdict (Denied number why) is = (refl, refl)
    by-verdict (Allowed plan) is =
        let p = has-passed s.world k e marked s.window plan is in
        (exist plan.kind k e s laid p, made-by plan.kind k e s laid p)

-- Each execution has calls, whatever its medium does.

a-fault : Fault
a-fault = record {}

one-block : (e : List ℕ) → 1 ≤ block_count e
unfolding block_count
one-block e = omega arith

-- some writes succeeded, then this status is answered
record Ends (blocks : ℕ) (fault answered : Status) : Type 0 where
  passed : ℕ
  answer : MediumAnswer
  ends : EndsAt blocks passed answer
  answers : answered ≡ answer_of answer fault

write-ends : (tells : Bool) (first blocks : ℕ) (bytes : List ℕ) (old new : Device) (answer : Status)
    → 1 ≤ blocks → WriteEffect tells first bytes old new answer → Ends blocks status.write_fault answer
write-ends tells first blocks bytes old new answer more (inl done) =
    (let c = done.0 in record { passed = blocks; answer = Ok tt; ends = refl; answers = c.answered })
write-ends tells first blocks bytes old new answer more (inr stopped) =
    (let f = stopped.0 in record { passed = 0; answer = Err a-fault; ends = omega (arith, more); answers = f.answered })

-- these are calls of a command
abbrev Some-calls : Command → Scene → List ℕ → Status → List ℕ → Type 0
Some-calls command old e answer after =
    (calls : List MediumCall) × AreCallsOfEntry command old.world old.window e answer after calls

flush-some : (tells : Bool) (old new : Scene) (e : List ℕ) (answer : Status)
    → FlushEffect tells old.device new.device answer → Some-calls Flush old e answer new.window
flush-some tells old new e answer (same, inl done) =
    (Flushes (Ok tt) ∷ [], record { read = []; passed = 0; answer = Ok tt; reached = done.answered; are = refl })
flush-some tells old new e answer (same, inr failed) = (
  Flushes (Err a-fault) ∷ [],
  record { read = []; passed = 0; answer = Err a-fault; reached = failed.answered; are = refl },
)

-- the blocks that were read are stored
abbrev Is-stored : Scene → Scene → List ℕ → List ℕ → Type 0
Is-stored old new e returned = new.window
    ≡ with_scattered old.window (take (length returned) (data_addresses (data_length Read e) old.window e)) returned

stored-so : (old new : Scene) (e returned : List ℕ) (blocks : ℕ)
    → length returned ≡ 512 * blocks → Is-stored old new e returned
    → new.window
    ≡ with_scattered old.window (take (512 * blocks) (data_addresses (data_length Read e) old.window e)) returned
stored-so old new e returned blocks size h =
    h ∙ ap (λ n. with_scattered old.window (take n (data_addresses (data_length Read e) old.window e)) returned) size

read-some : (tells : Bool) (old new : Scene) (e : List ℕ) (answer : Status) (returned : List ℕ)
    → ReadEffect tells (medium_block old.world e) (512 * block_count e) old.device new.device answer returned
    → Is-stored old new e returned → Some-calls Read old e answer new.window
read-some tells old new e answer returned (same, inl done) stored =
    let c = done.0 in (
      course (reads_from (medium_block old.world e) returned) (block_count e) (Ok tt),
      record {
        read = returned;
        passed = block_count e;
        answer = Ok tt;
        reached = (refl, c.answered, (done.1, stored-so old new e returned (block_count e) done.1 stored));
        are = refl;
      },
    )
read-some tells old new e answer returned (same, inr failed) stored =
    let c = failed.0 in
    let f = failed.1 in
    let low = f.within in (
      course (reads_from (medium_block old.world e) returned) f.at (Err a-fault),
      record {
        read = returned;
        passed = f.at;
        answer = Err a-fault;
        reached = (omega (arith, low), c.answered, (f.size, stored-so old new e returned f.at f.size stored));
        are = refl;
      },
    )

-- a block that differs from these bytes
record Other (bytes : List ℕ) : Type 0 where
  block : List ℕ
  size : length block ≡ 512
  differs : block ≡ bytes → ⊥

ones-differ : (n : ℕ) → replicate (n + 1) (let one : ℕ = 1 in one) ≡ replicate (n + 1) 0 → ⊥
ones-differ n h = let e = ap (λ (xs : List ℕ). get_or xs 0 0) h in no n e
  where
    no : (n : ℕ) → get_or (replicate (n + 1) (let one : ℕ = 1 in one)) 0 0 ≡ get_or (replicate (n + 1) 0) 0 0 → ⊥
    no n e = let next : n + 1 ≡ suc n = omega arith in
        one-is-zero (subst (λ m. get_or (replicate m (let one : ℕ = 1 in one)) 0 0 ≡ get_or (replicate m 0) 0 0) next e)
      where
        one-is-zero : (let one : ℕ = 1 in one) ≡ 0 → ⊥
        one-is-zero e = omega (arith, e)

other-than : (bytes : List ℕ) → Other bytes
other-than bytes =
    let zero : ℕ = 0 in
    let one : ℕ = 1 in
    let d = bytes_eq-Decides (replicate 512 zero) bytes in
    elim (cases_Bool (bytes_eq (replicate 512 zero) bytes)) [
      | inl same ↦ record {
        block = replicate 512 one;
        size = length-replicate 512 one;
        differs = λ e. ones-differ 511 (e ∙ sym (d.0 same));
      }
      | inr other ↦ record {
        block = replicate 512 zero;
        size = length-replicate 512 zero;
        differs = λ e. false≢true (sym other ∙ d.1 e);
      }
    ]

first-block : (block : List ℕ) → length block ≡ 512 → block_at block 0 ≡ block
first-block block size = take_all 512 block (omega (arith, size))

compare-some : (tells : Bool) (old new : Scene) (e sent : List ℕ) (answer : Status)
    → CompareEffect tells (medium_block old.world e) sent old.device new.device answer → sent ≡ data_of old.window e
    → Some-calls Compare old e answer new.window
compare-some tells old new e sent answer (same, inl done) is =
    let c = done.0 in (
      course (reads_from (medium_block old.world e) (data_of old.window e)) (block_count e) (Ok tt),
      record {
        read = data_of old.window e;
        passed = block_count e;
        answer = Ok tt;
        reached = inl (refl, (λ k below. refl), c.answered);
        are = refl;
      },
    )
compare-some tells old new e sent answer (same, inr (inl differ)) is =
    let c = differ.0 in
    let o = other-than (block_at (data_of old.window e) 0) in (
      course (reads_from (medium_block old.world e) o.block) 1 (Ok tt),
      record {
        read = o.block;
        passed = 1;
        answer = Ok tt;
        reached = inr (
          one-block e,
          record {
            same = 0;
            last = refl;
            whole = o.size;
            front = λ k below. absurd (omega (arith, below));
            differs = λ h. o.differs (sym (first-block o.block o.size) ∙ h);
          },
          c.answered,
        );
        are = refl;
      },
    )
compare-some tells old new e sent answer (same, inr (inr failed)) is =
    let c = failed.0 in
    let more = one-block e in (
      course (reads_from (medium_block old.world e) []) 0 (Err a-fault),
      record {
        read = [];
        passed = 0;
        answer = Err a-fault;
        reached = (omega (arith, more), (λ k below. absurd (omega (arith, below))), c.answered);
        are = refl;
      },
    )

none-some : (command : Command) (old new : Scene) (e : List ℕ) (answer : Status)
    → AreCallsOfEntry command old.world old.window e answer new.window [] → Some-calls command old e answer new.window
none-some command old new e answer h = ([], h)

some-calls : (command : Command) (tells : Bool) (k : ℕ) (e : List ℕ) (old new : Scene) (answer : Status)
    (returned : List ℕ) → Performs tells command k e (data_of old.window e) old new answer returned
    → new.window
    ≡ with_scattered old.window (take (length returned) (data_addresses (data_length command e) old.window e)) returned
    → Some-calls command old e answer new.window
some-calls Flush tells k e old new answer returned h stored = let f = h.effect in flush-some tells old new e answer f.0
some-calls Write tells k e old new answer returned h stored =
    let f = h.effect in
    let w = write-ends tells _ (block_count e) _ old.device new.device answer (one-block e) f.0 in (
      course (writes_from (medium_block old.world e) (data_of old.window e)) w.passed w.answer,
      record { read = []; passed = w.passed; answer = w.answer; reached = (w.ends, w.answers); are = refl },
    )
some-calls WriteZeroes tells k e old new answer returned h stored =
    let f = h.effect in
    let w = write-ends tells _ (block_count e) _ old.device new.device answer (one-block e) f.0 in (
      course (writes_from (medium_block old.world e) (replicate (512 * block_count e) 0)) w.passed w.answer,
      record { read = []; passed = w.passed; answer = w.answer; reached = (w.ends, w.answers); are = refl },
    )
some-calls Read tells k e old new answer returned h stored = read-some tells old new e answer returned h.effect stored
some-calls Compare tells k e old new answer returned h stored = let f = h.effect in
    compare-some tells old new e (data_of old.window e) answer f.0 refl
some-calls ReservationRegister tells k e old new answer returned h stored =
    none-some _ old new e answer (record { read = []; passed = 0; answer = Ok tt; reached = tt; are = refl })
some-calls ReservationReport tells k e old new answer returned h stored =
    none-some _ old new e answer (record { read = []; passed = 0; answer = Ok tt; reached = tt; are = refl })
some-calls ReservationAcquire tells k e old new answer returned h stored =
    none-some _ old new e answer (record { read = []; passed = 0; answer = Ok tt; reached = tt; are = refl })
some-calls ReservationRelease tells k e old new answer returned h stored =
    none-some _ old new e answer (record { read = []; passed = 0; answer = Ok tt; reached = tt; are = refl })

by-some : (v : Verdict) (tells : Bool) (k : ℕ) (e : List ℕ) (old new : Scene) (o : Outcome)
    → ExecutesBy v tells k e old new o
    → (calls : List MediumCall) × AreCallsBy v old.world old.window e o.status new.window calls
by-some (Denied number why) tells k e old new o h = ([], refl)
by-some (Allowed plan) tells k e old new o h =
    some-calls plan.kind tells k e old new o.status h.returned h.effect h.window

pub executions_have_calls : ExecutionsHaveCalls
executions_have_calls tells k e marked old new o h =
    by-some (io_verdict old.world k e marked old.window) tells k e old new o h

-- A Flush.

pub denied_is_no_success : DeniedIsNoSuccess
denied_is_no_success w k e marked window number why is ok =
    let refuses : Refuses why = subst VerdictRefuses is (verdict-refuses w k e marked window) in
    false≢true (of-each (λ x. not (is_same x status.successful_completion)) denials status.successful_completion refl
    (subst Refuses ok refuses))

named-flush : (e : List ℕ) → opcode e ≡ opcode_of Flush → command_of (opcode e) ≡ Some Flush
unfolding command_of
named-flush e h = ap command_of h

flush-passed : (answer : MediumAnswer) (s : Status) → s ≡ answer_of answer status.write_fault
    → s ≡ status.successful_completion → answer ≡ Ok tt
flush-passed (Ok tt) s is ok = refl
flush-passed (Err fault) s is ok = absurd (differ (sym is ∙ ok))
  where
    differ : status.write_fault ≡ status.successful_completion → ⊥
    differ h = let e : status.write_fault.sct ≡ status.successful_completion.sct = ap (λ (x : Status). x.sct) h in
        omega (arith, e)

one-flush : (kind : Command) (w : World) (memory e : List ℕ) (answered : Status) (after : List ℕ)
    (calls : List MediumCall) → kind ≡ Flush → AreCallsOfEntry kind w memory e answered after calls
    → answered ≡ status.successful_completion → calls ≡ Flushes (Ok tt) ∷ []
one-flush kind w memory e answered after calls is h ok =
    let f : AreCallsOfEntry Flush w memory e answered after calls =
    subst (λ x. AreCallsOfEntry x w memory e answered after calls) is h in
    f.are ∙ ap (λ a. Flushes a ∷ []) (flush-passed f.answer answered f.reached ok)

pub flushed_is_one_flush : FlushedIsOneFlush
flushed_is_one_flush tells k e marked old new o calls executes are flush ok =
    by-verdict (io_verdict old.world k e marked old.window) refl executes are
  where
    by-verdict : (v : Verdict) → io_verdict old.world k e marked old.window ≡ v → ExecutesBy v tells k e old new o
        → AreCallsBy v old.world old.window e o.status new.window calls
        → calls ≡ Flushes (Ok tt) ∷ []
    by-verdict (Denied number why) is done h =
        absurd (denied_is_no_success old.world k e marked old.window number why is
        (sym (ap (λ (x : Outcome). x.status) done.1) ∙ ok))
    by-verdict (Allowed plan) is done h =
        let p = has-passed old.world k e marked old.window plan is in
        one-flush plan.kind old.world old.window e o.status new.window calls
        (same_Some _ _ (sym p.named ∙ named-flush e flush)) h ok
