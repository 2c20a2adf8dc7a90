-- For `own_data.rt`: the example run of a command's own data, computed over any memory.
use Rattle.std.proofs.Common.{
  ◌≡◌,
  inl,
  inr,
  ℕ,
  zero,
  suc,
  ◌+◌,
  ◌<◌,
  Bool,
  true,
  false,
  List,
  [],
  ◌∷◌,
  length,
  take,
  Some,
  refl,
  sym,
  ap,
  subst,
  ◌∙◌,
  arith,
}
use Rattle.std.specs.Prelude.{nat_lt, slice_index, ◌&&◌}
use Rattle.std.proofs.lemmas.Bool.{ltb-true}
use Rattle.std.proofs.lemmas.Option.{same_Some}
use Rattle.nvme_spec.specs.declared.command.Command.{Command}
use Rattle.nvme_spec.specs.declared.command.Command.TheVariants.{Read, Write}
use Rattle.nvme_spec.specs.declared.verdict.Verdict.TheVariants.{Allowed}
use Rattle.nvme_spec.specs.Blocks.{Device, blocks_from}
use Rattle.nvme_spec.specs.Bytes.{with_bytes}
use Rattle.nvme_spec.specs.Effects.{ReadEffect, WriteEffect}
use Rattle.nvme_spec.specs.IoData.{io_verdict}
use Rattle.nvme_spec.specs.Layout.{IsLaidOut}
use Rattle.nvme_spec.specs.Memory.{window_size}
use Rattle.nvme_spec.specs.Statuses.{successful_completion}
use Rattle.nvme_spec.proofs.Splices.{length-with_bytes}
use Rattle.nvme_machine.specs.declared.event.Event.TheVariants.{Execute}
use Rattle.nvme_machine.specs.declared.seen.Executed.TheVariants.{Posted}
use Rattle.nvme_machine.specs.declared.seen.Seen.TheVariants.{Executed}
use Rattle.nvme_spec.specs.Queues.{empty_completion_tail}
use Rattle.nvme_machine.specs.Controllers.{Controller, QueuePair, completion_of}
use Rattle.nvme_machine.specs.FaultFree.{fault_free_step}
use Rattle.nvme_machine.specs.Subsystems.{Step, controller_at}
use Rattle.nvme_machine.proofs.Determined.{steps}
use Rattle.nvme_data_buffers.specs.Areas.{Commands}
use Rattle.nvme_data_buffers.specs.Buffers.{HasList, start}
use Rattle.nvme_data_buffers.specs.Entries.{moved, with_entries}
use Rattle.nvme_data_buffers.specs.Queues.{completion_queue, submission_queue}
use Rattle.nvme_data_buffers.specs.Stores.{IsElsewhere}
use Rattle.nvme_data_buffers.specs.declared.buffer.DataBuffer.TheVariants.{AtOnce}
use Rattle.nvme_target.specs.OwnData.{HasData, Holds, IsPlaced, MovesItsOwn, completion_store}
use Rattle.nvme_target.proofs.OwnData.{buffers-hold-what-was-returned, executed-commands-move-their-own}
use Rattle.nvme_theorem_runs.specs.Cluster.{blocks, cluster, done, held_by_a1}
use Rattle.nvme_theorem_runs.specs.OwnData.{
  OwnDataAtWork,
  OwnDataOfAnyMemory,
  OwnReadAtWork,
  OwnWriteAtWork,
  block_of,
  connected,
  executed,
  for_a_block,
  meantime,
  plan_of,
  read,
  served,
  stored,
  write,
}
use Rattle.nvme_theorem_runs.proofs.Computing.{both, distinct, left-laid, plain-run}
use Rattle.nvme_theorem_runs.proofs.Laying.{laid}
use Rattle.nvme_theorem_runs.proofs.Unfolding.{computing}

served-laid : (e window : List ℕ) → IsLaidOut (served e window).world (served e window).device.content
unfolding served cluster
served-laid e window = laid (held_by_a1 1) [] []

-- the controller after the events before the execution
abbrev waiting : List ℕ → List ℕ → ℕ → Controller
waiting e window byte = record (connected e window 1) {
  window = with_bytes (with_bytes window (start AtOnce 512) (block_of byte)) (submission_queue 1 + 64) write;
}

there : (e window : List ℕ) (byte : ℕ) → controller_at (stored e window byte) 1 ≡ Some (waiting e window byte)
unfolding computing served meantime write
there e window byte = refl

-- ---- the entries

all_bytes : List ℕ → Bool
all_bytes [] = true
all_bytes (x ∷ xs) = nat_lt x 256 && all_bytes xs

each-byte : (xs : List ℕ) → all_bytes xs ≡ true → (i : ℕ) → slice_index xs i < 256
unfolding all_bytes
each-byte [] h i = omega arith
each-byte (x ∷ xs) h zero = ltb-true x 256 (both (nat_lt x 256) (all_bytes xs) h).0
each-byte (x ∷ xs) h (suc i) = each-byte xs (both (nat_lt x 256) (all_bytes xs) h).1 i

abbrev IsBlockEntry : List ℕ → Type 0
IsBlockEntry e = (all_bytes e ≡ true) × (length e ≡ 64) × (moved false e ≡ 512)

a-write : IsBlockEntry write
unfolding all_bytes computing write moved
a-write = (refl, refl, refl)

a-read : IsBlockEntry read
unfolding all_bytes computing read moved
a-read = (refl, refl, refl)

is-placed : (e : List ℕ) → IsBlockEntry e → IsPlaced false (for_a_block e) e AtOnce 512
is-placed e is =
    let moves : moved false e ≡ 512 = is.2 in
    record {
      queue = refl;
      whole = record { size = is.1; bytes = each-byte e is.0 };
      entry = refl;
      within = record { some = omega (arith, moves); enough = omega (arith, moves); fit = omega arith };
    }

next-entry : IsElsewhere AtOnce (record { area = Commands 1; at = submission_queue 1 + 64; part = write })
next-entry =
    let size : length write ≡ 64 = a-write.1 in
    record {
      is = omega arith;
      no_buffer = λ e. absurd (cc);
      no_list = λ e. absurd (cc);
      inside = record { from = omega arith; until = omega (arith, size) };
    }

has-data : (e window : List ℕ) (byte : ℕ) → length window ≡ window_size → HasList window
    → HasData (waiting e window byte) AtOnce (block_of byte)
has-data e window byte whole list = record {
  before = window;
  stores = record { area = Commands 1; at = submission_queue 1 + 64; part = write } ∷ [];
  whole = whole;
  list = list;
  elsewhere = (next-entry, tt);
  is = refl;
}

-- ---- the execution

-- what computing gives for a command
record Runs (command : Command) (e window : List ℕ) (byte : ℕ) : Type 0 where
  pub is : IsBlockEntry e
  pub allowed : io_verdict (stored e window byte).world 1 (for_a_block e).entry false (waiting e window byte).window
      ≡ Allowed (plan_of command)
  pub seen : (fault_free_step (stored e window byte) (Execute 1 0)).seen ≡ Executed (Posted done)

write-runs : (window : List ℕ) (byte : ℕ) → Runs Write write window byte
unfolding computing served meantime write with_entries moved
write-runs window byte = record { is = a-write; allowed = refl; seen = refl }

read-runs : (window : List ℕ) (byte : ℕ) → Runs Read read window byte
unfolding computing served meantime read write with_entries moved
read-runs window byte = record { is = a-read; allowed = refl; seen = refl }

executes : (command : Command) (e window : List ℕ) (byte : ℕ) → Runs command e window byte
    → Step true (stored e window byte) (Execute 1 0) (Executed (Posted done)) (executed e window byte)
executes command e window byte r =
    subst (λ seen. Step true (stored e window byte) (Execute 1 0) seen (executed e window byte)) r.seen
    (steps (stored e window byte) (Execute 1 0) (left-laid (served e window) (meantime byte) (served-laid e window)))

abbrev Moves : Command → List ℕ → List ℕ → ℕ → ℕ → Type 0
Moves command e window byte value =
    MovesItsOwn true (stored e window byte) (executed e window byte) 1 0 (waiting e window byte) (for_a_block e) AtOnce
    (block_of value) (plan_of command) done

moves-own : (command : Command) (e window : List ℕ) (byte : ℕ) → length window ≡ window_size → HasList window
    → Runs command e window byte → Moves command e window byte byte
moves-own command e window byte whole list r =
    executed-commands-move-their-own true (stored e window byte) (executed e window byte) 1 0 (waiting e window byte)
    (for_a_block e) e (block_of byte) AtOnce (plan_of command) done (there e window byte) refl (is-placed e r.is)
    (has-data e window byte whole list) r.allowed (executes command e window byte r)

moving : (command : Command) (e window : List ℕ) (byte : ℕ) → length window ≡ window_size → HasList window
    → Runs command e window byte → OwnDataAtWork command e window byte
moving command e window byte whole list r = record {
  run = plain-run (served e window) (meantime byte) (served-laid e window);
  controller = waiting e window byte;
  at = there e window byte;
  found = refl;
  placed = is-placed e r.is;
  has = has-data e window byte whole list;
  allowed = r.allowed;
  step = executes command e window byte r;
  moves = moves-own command e window byte whole list r;
}

-- ---- a Write

-- one that succeeded has written
wrote : (old new : Device) (bytes : List ℕ) → WriteEffect true 0 bytes old new successful_completion
    → new.content ≡ with_bytes old.content 0 bytes
wrote old new bytes (inl all) = all.1 refl
wrote old new bytes (inr fault) = absurd (distinct 0 2 refl (ap (λ s. s.sct) fault.0.answered))

block-after : (window : List ℕ) (byte value : ℕ) → Moves Write write window byte value
    → (executed write window byte).device.content ≡ with_bytes blocks.content 0 (block_of value)
unfolding computing served meantime write with_entries moved
block-after window byte value m =
    ap (λ s. s.device.content) m.leaves ∙ wrote blocks m.left.device (block_of value) m.moves.effect.effect.0

pub writing_at_work : (window : List ℕ) → (byte : ℕ) → length window ≡ window_size → HasList window
    → OwnWriteAtWork window byte
writing_at_work window byte whole list = record {
  moving = moving Write write window byte whole list (write-runs window byte);
  block = block-after window byte byte (moves-own Write write window byte whole list (write-runs window byte));
}

-- ---- a Read

read-back : (old new : Device) (returned : List ℕ)
    → ReadEffect true 0 512 old new successful_completion returned → returned ≡ blocks_from old.content 0 512
read-back old new returned (kept, inl all) = all.2 refl
read-back old new returned (kept, inr fault) = absurd (distinct 0 2 refl (ap (λ s. s.sct) fault.0.answered))

block-1 : take 512 (blocks_from blocks.content 0 512) ≡ block_of 1
block-1 = refl

back : (window : List ℕ) (byte : ℕ) (m : Moves Read read window byte byte)
    → take (moved false (for_a_block read).entry) m.moves.returned ≡ block_of 1
unfolding computing served meantime read write with_entries moved
back window byte m =
    ap (take 512) (read-back blocks m.left.device m.moves.returned m.moves.effect.effect) ∙ block-1

-- its completion is posted in the first slot of its completion queue
abbrev own_pair : QueuePair
own_pair = record {
  submission = record { base = submission_queue 1; cqid = 1; head = record { size = 4; fetched = 1; waiting = 1 } };
  completion = record { base = completion_queue 1; tail = empty_completion_tail 4 };
}

pair-is : (window : List ℕ) (byte : ℕ) (m : Moves Read read window byte byte) → own_pair ≡ m.pair
unfolding computing read
pair-is window byte m = same_Some own_pair m.pair m.room

completion-size : length (completion_of (for_a_block read) own_pair successful_completion 0) ≡ 16
unfolding computing read
completion-size = refl

own-slot : IsElsewhere AtOnce (completion_store own_pair (for_a_block read) done 1)
own-slot =
    let size : length (completion_of (for_a_block read) own_pair successful_completion 0) ≡ 16 = completion-size in
    record {
      is = omega arith;
      no_buffer = λ e. absurd (cc);
      no_list = λ e. absurd (cc);
      inside = record { from = omega arith; until = omega (arith, size) };
    }

elsewhere : (window : List ℕ) (byte : ℕ) (m : Moves Read read window byte byte)
    → IsElsewhere AtOnce (completion_store m.pair (for_a_block read) done 1)
elsewhere window byte m =
    subst (λ p. IsElsewhere AtOnce (completion_store p (for_a_block read) done 1)) (pair-is window byte m) own-slot

stays-whole : (e window : List ℕ) (byte : ℕ) → length window ≡ window_size
    → length (waiting e window byte).window ≡ window_size
stays-whole e window byte whole =
    let loaded = with_bytes window (start AtOnce 512) (block_of byte) in
    let size : length write ≡ 64 = a-write.1 in
    let first : length loaded ≡ length window =
    length-with_bytes window (start AtOnce 512) (block_of byte) (omega (arith, whole)) in
    length-with_bytes loaded (submission_queue 1 + 64) write (omega (arith, whole, first, size)) ∙ first ∙ whole

pub reading_at_work : (window : List ℕ) → (byte : ℕ) → length window ≡ window_size → HasList window
    → OwnReadAtWork window byte
unfolding moving
reading_at_work window byte whole list =
    let r = read-runs window byte in
    let m = moves-own Read read window byte whole list r in
    let apart = elsewhere window byte m in
    let c = waiting read window byte in
    record {
      moving = moving Read read window byte whole list r;
      elsewhere = apart;
      block = subst (Holds (executed read window byte) 1 (start AtOnce 512)) (back window byte m)
          (buffers-hold-what-was-returned true (stored read window byte) (executed read window byte) 1 0 c
          (for_a_block read) read (block_of byte) AtOnce (plan_of Read) done 1 (there read window byte)
          (stays-whole read window byte whole) (is-placed read r.is) m apart);
    }

-- ---- why data have to be stored

-- with other data the block would differ
first-bytes : (slice_index (with_bytes blocks.content 0 (block_of 7)) 0 ≡ 7)
    × (slice_index (with_bytes blocks.content 0 (block_of 8)) 0 ≡ 8)
first-bytes = (refl, refl)

pub own_data_need_a_store : (window : List ℕ) → length window ≡ window_size → HasList window → OwnDataOfAnyMemory → ⊥
own_data_need_a_store window whole list law =
    let r = write-runs window 8 in
    let own = block-after window 8 8 (moves-own Write write window 8 whole list r) in
    let other = block-after window 8 7 (law true (stored write window 8) (executed write window 8) 1 0
    (waiting write window 8) (for_a_block write) write (block_of 7) AtOnce (plan_of Write) done
    (there write window 8) refl (is-placed write r.is) r.allowed (executes Write write window 8 r)) in
    distinct 7 8 refl (sym first-bytes.0 ∙ ap (λ b. slice_index b 0) (sym other ∙ own) ∙ first-bytes.1)
