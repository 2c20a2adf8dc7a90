-- Configurations of the worked examples, and their statements.
use Rattle.std.specs.Prelude.{◌≡◌, ℕ, [], ◌∷◌, replicate, false, Option, None, Some}
use Rattle.nvme_spec.specs.Configuration.{Configuration, script_capacity}
use Rattle.nvme_medium.specs.declared.memory.MemMedium.{MemMedium}
use Rattle.nvme_lent.specs.OwnOrLent.{bytes_of, lent_of, IsInMemory}
use Rattle.nvme_lent.specs.declared.bytes.LentBytes.{LentBytes}
use Rattle.nvme_lent.specs.declared.either.OwnOrLent.{OwnOrLent}
use Rattle.nvme_lent.specs.declared.either.OwnOrLent.TheVariants.{Own}
use Rattle.nvme_machine.specs.Subsystems.{opening}
use Rattle.nvme_subsys.specs.OverMedium.{over}
use Rattle.nvme_library.specs.declared.answer.Answer.{Answer}
use Rattle.nvme_library.specs.Answers.{closed}
use Rattle.nvme_library.specs.Events.{Cycling, Happens}
use Rattle.nvme_library.specs.Holding.{Inside}
use Rattle.nvme_library.specs.Opening.{OpensOver}
use Rattle.nvme_library.specs.Turns.{data_fault}

-- a controller of this host, and a namespace of one block
abbrev pub one_block : ℕ → Configuration
one_block host = record {
  controllers = record { cntlid = 1; host = host; raw = false } ∷ [];
  namespaces = record { nsid = 1; blocks = 1; shared = false } ∷ [];
  attached = [];
}

-- The controller of host 5 opens over any medium of one block in memory.
abbrev pub OneBlockOpens : Type 0
OneBlockOpens =
    (m : OwnOrLent) → IsInMemory m → bytes_of m ≡ replicate 512 7
    → OpensOver (one_block 5) (replicate 512 7) (script_capacity 1) (lent_of m)
    (over (opening (one_block 5) (record { content = replicate 512 7; failures = 0 })) m)

-- It does not open over a medium without blocks, nor does a controller of host 0.
abbrev pub NoBlockDoesNotOpen : Type 0
NoBlockDoesNotOpen =
    (lent : Option LentBytes) → (new : Inside) → OpensOver (one_block 5) [] (script_capacity 0) lent new → ⊥

abbrev pub HostlessDoesNotOpen : Type 0
HostlessDoesNotOpen =
    (lent : Option LentBytes) → (new : Inside)
    → OpensOver (one_block 0) (replicate 512 7) (script_capacity 1) lent new → ⊥

-- A copy of the borrowed bytes is not a medium over them, whatever the configuration; a medium of its own blocks
-- borrows none.
abbrev pub CopyIsNotLent : Type 0
CopyIsNotLent =
    (c : Configuration) → (bytes : LentBytes) → (new : Inside) → (copy : MemMedium) → new.medium ≡ Own copy
    → OpensOver c bytes.items (script_capacity 1) (Some bytes) new → ⊥

-- Data that end before the slot of an entry, or begin after it, can be stored with it. Data that share a byte with it
-- can't, nor can data that leave the memory; no data can always.
pub record DataAreApart : Type 0 where
  pub none : data_fault 0x2000 0x2000 0 ≡ None
  pub before : data_fault 0x2000 0x1fff 1 ≡ None
  pub after : data_fault 0x2000 0x2040 1 ≡ None
  pub first : data_fault 0x2000 0x1fff 2 ≡ Some 51
  pub last : data_fault 0x2000 0x203f 1 ≡ Some 51
  pub past : data_fault 0x2000 4194303 2 ≡ Some 18

-- An event on a closed handle is answered `closed` and leaves it closed; no other answer comes, and it does not open.
pub record ClosedStaysClosed : Type 0 where
  pub happens : Happens Cycling None closed None
  pub answered : (answer : Answer) → (new : Option Inside) → Happens Cycling None answer new → answer ≡ closed
  pub stays : (answer : Answer) → (new : Option Inside) → Happens Cycling None answer new → new ≡ None
