-- For the answer of `act_on_blocks`: the effect of a command on blocks, by the answers of its calls.
use Rattle.std.proofs.Common.{
  ◌≡◌,
  ℕ,
  ◌*◌,
  Bool,
  true,
  false,
  IsTrue,
  List,
  [],
  length,
  take,
  replicate,
  Result,
  Ok,
  Err,
  inl,
  inr,
  refl,
  sym,
  ap,
  ◌∙◌,
  arith,
}
use Rattle.std.specs.Prelude.{OnOk, OnErr, IfOk, ◌↔◌}
use Rattle.nvme_wire.specs.declared.status.Status.{Status}
use Rattle.nvme_spec.specs.declared.command.Command.{Command}
use Rattle.nvme_spec.specs.declared.command.Command.TheVariants.{Flush, Write, Read, Compare, WriteZeroes}
use Rattle.nvme_spec.specs.Bytes.{with_bytes}
use Rattle.nvme_spec.specs.Blocks.{Device, Told, CountsFaults, StopsWriting, blocks_from}
use Rattle.nvme_spec.specs.Effects.{KeepsBlocks, FlushEffect, WriteEffect, CompareEffect, HasSameFront}
use Rattle.nvme_spec.specs.Transfers.{gathered_bytes, with_scattered}
use Rattle.nvme_spec.specs.BlockCommands.{BlockEffect, answer_of}
use Rattle.nvme_spec.specs.Statuses as status
use Rattle.nvme_exec.specs.Reading.{HasReadBlocks, StoppedReading}
use Rattle.nvme_exec.specs.Carrying.{ActsAt, comparison_answer}

-- no data for the host
silent : (tells : Bool) (command : Command) (first blocks : ℕ) (addresses window : List ℕ) (before after : Device)
    (answer : Status)
    → BlockEffect tells command first blocks (gathered_bytes window addresses) before after answer []
    → ActsAt tells command first blocks addresses before after window window answer
unfolding with_scattered
silent tells command first blocks addresses window before after answer e =
    record { returned = []; effect = e; window = refl }

flush-effect : {E : Type 0} (tells : Bool) (before after : Device) (r : Result (Unit {0}) E) (answer : Status)
    → KeepsBlocks tells before after
    → CountsFaults before.failures after.failures r → answer ≡ answer_of r status.write_fault
    → FlushEffect tells before after answer
flush-effect tells before after (Ok u) answer kept count is =
    (kept, inl (record { answered = is; failures = count.done refl }))
flush-effect tells before after (Err e) answer kept count is =
    (kept, inr (record { answered = is; failures = count.failed refl }))

pub flushed-at : {E : Type 0} (tells : Bool) (command : Command) (first blocks : ℕ) (addresses window : List ℕ)
    (before after : Device) (r : Result (Unit {0}) E) (answer : Status)
    → command ≡ Flush → KeepsBlocks tells before after → CountsFaults before.failures after.failures r
    → answer ≡ answer_of r status.write_fault
    → ActsAt tells command first blocks addresses before after window window answer
flushed-at tells command first blocks addresses window before after r answer k kept count is =
    rw k (silent tells Flush first blocks addresses window before after answer
    (flush-effect tells before after r answer kept count is, refl))

write-effect : {E : Type 0} (tells : Bool) (first : ℕ) (bytes : List ℕ) (before after : Device)
    (r : Result (Unit {0}) E) (answer : Status)
    → OnOk r (Told tells (after.content ≡ with_bytes before.content (512 * first) bytes))
    → OnErr r (Told tells (StopsWriting first bytes before.content after.content))
    → CountsFaults before.failures after.failures r → answer ≡ answer_of r status.write_fault
    → WriteEffect tells first bytes before after answer
write-effect tells first bytes before after (Ok u) answer ok err count is =
    inl (record { answered = is; failures = count.done refl }, ok)
write-effect tells first bytes before after (Err e) answer ok err count is =
    inr (record { answered = is; failures = count.failed refl }, err)

pub written-at : {E : Type 0} (tells : Bool) (command : Command) (first blocks : ℕ) (addresses window : List ℕ)
    (before after : Device) (r : Result (Unit {0}) E) (answer : Status)
    → command ≡ Write
    → OnOk r (Told tells (after.content ≡ with_bytes before.content (512 * first) (gathered_bytes window addresses)))
    → OnErr r (Told tells (StopsWriting first (gathered_bytes window addresses) before.content after.content))
    → CountsFaults before.failures after.failures r → answer ≡ answer_of r status.write_fault
    → ActsAt tells command first blocks addresses before after window window answer
written-at tells command first blocks addresses window before after r answer k ok err count is =
    rw k (silent tells Write first blocks addresses window before after answer
    (write-effect tells first (gathered_bytes window addresses) before after r answer ok err count is, refl))

pub zeroed-at : {E : Type 0} (tells : Bool) (command : Command) (first blocks : ℕ) (addresses window : List ℕ)
    (before after : Device) (r : Result (Unit {0}) E) (answer : Status)
    → command ≡ WriteZeroes
    → OnOk r (Told tells (after.content ≡ with_bytes before.content (512 * first) (replicate (512 * blocks) 0)))
    → OnErr r (Told tells (StopsWriting first (replicate (512 * blocks) 0) before.content after.content))
    → CountsFaults before.failures after.failures r → answer ≡ answer_of r status.write_fault
    → ActsAt tells command first blocks addresses before after window window answer
zeroed-at tells command first blocks addresses window before after r answer k ok err count is =
    rw k (silent tells WriteZeroes first blocks addresses window before after answer
    (write-effect tells first (replicate (512 * blocks) 0) before after r answer ok err count is, refl))

pub read-at : {E : Type 0} (tells : Bool) (command : Command) (first blocks : ℕ) (addresses old new : List ℕ)
    (before after : Device) (r : Result (Unit {0}) E) (answer : Status)
    → command ≡ Read
    → OnOk r (HasReadBlocks tells before.content first blocks addresses old new)
    → OnErr r (StoppedReading tells before.content first blocks addresses old new)
    → KeepsBlocks tells before after → CountsFaults before.failures after.failures r
    → answer ≡ answer_of r status.unrecovered_read_error
    → ActsAt tells command first blocks addresses before after old new answer
read-at tells command first blocks addresses old new before after (Ok u) answer k ok err kept count is = rw k (record {
  returned = ok.read;
  effect = (kept, inl (record { answered = is; failures = count.done refl }, ok.size, ok.told));
  window = ok.window ∙ ap (λ n. with_scattered old (take n addresses) ok.read) (sym ok.size);
})
read-at tells command first blocks addresses old new before after (Err e) answer k ok err kept count is =
    let front = err.front in
    rw k (record {
      returned = front.read;
      effect = (
        kept,
        inr (
          record { answered = is; failures = count.failed refl },
          record { at = err.at; within = omega (arith, err.within); size = front.size; is = front.told },
        ),
      );
      window = front.window ∙ ap (λ n. with_scattered old (take n addresses) front.read) (sym front.size);
    })

compare-effect : {E : Type 0} (tells : Bool) (first : ℕ) (bytes : List ℕ) (before after : Device) (r : Result Bool E)
    (answer : Status)
    → IfOk r (λ same. Told tells (IsTrue same ↔ (blocks_from before.content first (length bytes) ≡ bytes)))
    → OnErr r (Told tells (HasSameFront first bytes before.content))
    → KeepsBlocks tells before after → CountsFaults before.failures after.failures r → answer ≡ comparison_answer r
    → CompareEffect tells first bytes before after answer
compare-effect tells first bytes before after (Ok true) answer same err kept count is =
    (kept, inl (record { answered = is; failures = count.done refl }, λ told. (same told).0 refl))
compare-effect tells first bytes before after (Ok false) answer same err kept count is =
    (kept, inr (inl (record { answered = is; failures = count.done refl }, λ told all. no ((same told).1 all))))
  where
    no : IsTrue false → ⊥
    no h = absurd (cc)
compare-effect tells first bytes before after (Err e) answer same err kept count is =
    (kept, inr (inr (record { answered = is; failures = count.failed refl }, err)))

pub compared-at : {E : Type 0} (tells : Bool) (command : Command) (first blocks : ℕ) (addresses window : List ℕ)
    (before after : Device) (r : Result Bool E) (answer : Status)
    → command ≡ Compare
    → IfOk r (λ same. Told tells (IsTrue same
    ↔ (blocks_from before.content first (length (gathered_bytes window addresses)) ≡ gathered_bytes window addresses)))
    → OnErr r (Told tells (HasSameFront first (gathered_bytes window addresses) before.content))
    → KeepsBlocks tells before after → CountsFaults before.failures after.failures r → answer ≡ comparison_answer r
    → ActsAt tells command first blocks addresses before after window window answer
compared-at tells command first blocks addresses window before after r answer k same err kept count is =
    rw k (silent tells Compare first blocks addresses window before after answer
    (compare-effect tells first (gathered_bytes window addresses) before after r answer same err kept count is, refl))
