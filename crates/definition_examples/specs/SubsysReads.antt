-- Statements of worked examples: reads of a namespace's blocks from the medium.
use Rattle.std.specs.Prelude.{◌≡◌, ℕ, true, List, length, Option, None, Some, Result, Ok}
use Rattle.nvme_spec.specs.declared.medium.MediumFault.{MediumFault as Fault}
use Rattle.nvme_spec.specs.FaultFreeCalls.{content_step}
use Rattle.nvme_spec.specs.MediumCalls.{MediumAnswer}
use Rattle.nvme_medium.specs.Reading.{ReadsBlocks}
use Rattle.nvme_machine.specs.Subsystems.{Subsystem}
use Rattle.nvme_subsys.specs.Looking.{Looks, LooksBy, Reads}

-- Without its block, nothing is read. A read of block 5 has a result, and gives the bytes of the medium.
pub record BlockReadsHaveResults : Type 0 where
  pub no_block : (old new : Subsystem) (bytes : List ℕ) (result : Option (Result (Unit {0}) Fault))
      → Looks true None old bytes result new → (result ≡ None) × (new ≡ old)
  pub no_result : (old new : Subsystem) (bytes : List ℕ) → Looks true (Some 5) old bytes None new → ⊥
  pub a_result : (old new : Subsystem) (bytes : List ℕ) → Looks true (Some 5) old bytes (Some (Ok tt)) new
      → Reads true 5 old bytes (Ok tt) new

-- Two successful reads of the same blocks give the same bytes, and leave the same subsystem.
pub record AreSameReads (bytes other : List ℕ) (left also : Subsystem) : Type 0 where
  pub same_bytes : bytes ≡ other
  pub same_subsystem : left ≡ also

abbrev pub BlockReadsAreDetermined : Type 0
BlockReadsAreDetermined =
    (first : ℕ) (old left also : Subsystem) (bytes other : List ℕ) → length bytes ≡ length other
    → Reads true first old bytes (Ok tt) left → Reads true first old other (Ok tt) also
    → AreSameReads bytes other left also

-- The calls: none without the block, and buffer and medium stay.
pub record BlockReadsHaveCalls : Type 0 where
  pub no_block : (content old new buffer left : List ℕ) (result : Option MediumAnswer)
      → LooksBy content_step true content None 1 buffer left old result new
      → (result ≡ None) × (left ≡ buffer) × (new ≡ old)
  pub no_result : (content old new buffer left : List ℕ)
      → LooksBy content_step true content (Some 5) 1 buffer left old None new → ⊥
  pub a_result : (content old new buffer left : List ℕ) (answer : MediumAnswer)
      → LooksBy content_step true content (Some 5) 1 buffer left old (Some answer) new
      → ReadsBlocks content_step true content 5 1 buffer left old answer new
