-- For the answers of `OwnOrLent`: calls of the medium inside are its own calls.
use Rattle.std.proofs.Common.{ℕ, Bool, List, [], ◌∷◌, ap}
use Rattle.nvme_spec.specs.MediumCalls.{MediumAnswer, MediumCall, Calls, MakesInOrder}
use Rattle.nvme_medium.specs.Memory.{memory_step}
use Rattle.nvme_medium.specs.Reading.{ReadsBlocks}
use Rattle.nvme_medium.specs.declared.memory.MemMedium.{MemMedium}
use Rattle.nvme_brought.specs.Brought.{brought_step}
use Rattle.nvme_brought.specs.declared.medium.BroughtMedium.{BroughtMedium}
use Rattle.nvme_lent.specs.Lent.{lent_step}
use Rattle.nvme_lent.specs.OwnOrLent.{step_of}
use Rattle.nvme_lent.specs.declared.lent.LentMedium.{LentMedium}
use Rattle.nvme_lent.specs.declared.either.OwnOrLent.TheVariants.{Own, Lent, Brought}

own-calls : (old new : MemMedium) (calls : List MediumCall) → Calls memory_step old calls new
    → Calls step_of (Own old) calls (Own new)
own-calls old new [] made = ap Own made
own-calls old new (call ∷ calls) made = (Own made.0, made.1, own-calls made.0 new calls made.2)

lent-calls : (old new : LentMedium) (calls : List MediumCall)
    → Calls lent_step old calls new → Calls step_of (Lent old) calls (Lent new)
lent-calls old new [] made = ap Lent made
lent-calls old new (call ∷ calls) made = (Lent made.0, made.1, lent-calls made.0 new calls made.2)

brought-calls : (old new : BroughtMedium) (calls : List MediumCall)
    → Calls brought_step old calls new → Calls step_of (Brought old) calls (Brought new)
brought-calls old new [] made = ap Brought made
brought-calls old new (call ∷ calls) made = (Brought made.0, made.1, brought-calls made.0 new calls made.2)

pub own-reads : (tells : Bool) (content : List ℕ) (first count : ℕ) (buffer left : List ℕ) (old new : MemMedium)
    (answer : MediumAnswer)
    → ReadsBlocks memory_step tells content first count buffer left old answer new
    → ReadsBlocks step_of tells content first count buffer left (Own old) answer (Own new)
own-reads tells content first count buffer left old new answer h = record {
  passed = h.passed;
  ends = h.ends;
  made = own-calls old new _ h.made;
  read = h.read;
  behind = h.behind;
  long = h.long;
}

pub lent-reads : (tells : Bool) (content : List ℕ) (first count : ℕ) (buffer left : List ℕ) (old new : LentMedium)
    (answer : MediumAnswer)
    → ReadsBlocks lent_step tells content first count buffer left old answer new
    → ReadsBlocks step_of tells content first count buffer left (Lent old) answer (Lent new)
lent-reads tells content first count buffer left old new answer h = record {
  passed = h.passed;
  ends = h.ends;
  made = lent-calls old new _ h.made;
  read = h.read;
  behind = h.behind;
  long = h.long;
}

pub brought-reads : (tells : Bool) (content : List ℕ) (first count : ℕ) (buffer left : List ℕ) (old new : BroughtMedium)
    (answer : MediumAnswer)
    → ReadsBlocks brought_step tells content first count buffer left old answer new
    → ReadsBlocks step_of tells content first count buffer left (Brought old) answer (Brought new)
brought-reads tells content first count buffer left old new answer h = record {
  passed = h.passed;
  ends = h.ends;
  made = brought-calls old new _ h.made;
  read = h.read;
  behind = h.behind;
  long = h.long;
}

pub own-writes : (call : ℕ → MediumAnswer → MediumCall) (count : ℕ) (old new : MemMedium) (answer : MediumAnswer)
    → MakesInOrder memory_step call count old answer new
    → MakesInOrder step_of call count (Own old) answer (Own new)
own-writes call count old new answer h = record { passed = h.passed; ends = h.ends; made = own-calls old new _ h.made }

pub lent-writes : (call : ℕ → MediumAnswer → MediumCall) (count : ℕ) (old new : LentMedium) (answer : MediumAnswer)
    → MakesInOrder lent_step call count old answer new
    → MakesInOrder step_of call count (Lent old) answer (Lent new)
lent-writes call count old new answer h =
    record { passed = h.passed; ends = h.ends; made = lent-calls old new _ h.made }

pub brought-writes : (call : ℕ → MediumAnswer → MediumCall) (count : ℕ) (old new : BroughtMedium)
    (answer : MediumAnswer) → MakesInOrder brought_step call count old answer new
    → MakesInOrder step_of call count (Brought old) answer (Brought new)
brought-writes call count old new answer h =
    record { passed = h.passed; ends = h.ends; made = brought-calls old new _ h.made }
