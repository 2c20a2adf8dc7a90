-- Statements of worked examples: the codes of openings, and what is open after them.
use Rattle.std.specs.Prelude.{◌≡◌, ◌/◌, ℕ, List, length, Option, Some, None}
use Rattle.nvme_spec.specs.Configuration.{Configuration, capacity, config_fault}
use Rattle.nvme_medium.specs.Memory.{whole_blocks}
use Rattle.nvme_brought.specs.declared.disk.Disk.{Disk}
use Rattle.nvme_lent.specs.OwnOrLent.{failures_of, lent_of}
use Rattle.nvme_lent.specs.declared.bytes.LentBytes.{LentBytes}
use Rattle.nvme_library.specs.Holding.{Inside}
use Rattle.nvme_library.specs.Opening.{HasLastState, Opens, OpensDisk, OpensOver, OpensWithout}

-- A program of version 3 without an open subsystem: code 0 if the subsystem is then open over its bytes or its disk.
-- Code 27 may come for any configuration.
pub record OpeningsCanSucceed : Type 0 where
  pub over_bytes : (most : ℕ) (c : Configuration) (bytes : List ℕ) (lent : Option LentBytes) (new : Inside)
      → OpensOver c (whole_blocks bytes) (capacity most (length bytes / 512)) lent new
      → Opens 3 None most c bytes lent 0 (Some new)
  pub over_disk : (most : ℕ) (c : Configuration) (disk : Disk) (new : Inside)
      → OpensWithout c disk.content.bytes (capacity most disk.blocks) new
      → OpensDisk 3 None most c disk 0 (Some new)
  pub no_memory : (most : ℕ) (c : Configuration) (bytes : List ℕ) (lent : Option LentBytes)
      → Opens 3 None most c bytes lent 27 None

-- Another version is answered 21, and an open subsystem 22: nothing changes. An accepted configuration is refused only
-- if memory is.
pub record OpeningsAreRefused : Type 0 where
  pub older : (held new : Option Inside) (most : ℕ) (c : Configuration) (bytes : List ℕ) (lent : Option LentBytes)
      (answer : ℕ) → Opens 2 held most c bytes lent answer new → (answer ≡ 21) × (new ≡ held)
  pub newer : (held new : Option Inside) (most : ℕ) (c : Configuration) (disk : Disk) (answer : ℕ)
      → OpensDisk 4 held most c disk answer new → (answer ≡ 21) × (new ≡ held)
  pub open_over_bytes : (old : Inside) (new : Option Inside) (most : ℕ) (c : Configuration) (bytes : List ℕ)
      (lent : Option LentBytes) (answer : ℕ) → Opens 3 (Some old) most c bytes lent answer new
      → (answer ≡ 22) × (new ≡ Some old)
  pub open_over_disk : (old : Inside) (new : Option Inside) (most : ℕ) (c : Configuration) (disk : Disk) (answer : ℕ)
      → OpensDisk 3 (Some old) most c disk answer new → (answer ≡ 22) × (new ≡ Some old)
  pub accepted : (most : ℕ) (c : Configuration) (bytes : List ℕ) (lent : Option LentBytes) (answer : ℕ)
      → config_fault c (capacity most (length bytes / 512)) ≡ None
      → Opens 3 None most c bytes lent answer None → answer ≡ 27

-- What is open is over the borrowed bytes, or over a disk of which no call has failed. The bytes that a close returns
-- have the blocks of the last state.
pub record OpenOnesHaveTheirMedium : Type 0 where
  pub over_bytes : (most : ℕ) (c : Configuration) (bytes : List ℕ) (lent : Option LentBytes) (answer : ℕ)
      (new : Inside) → Opens 3 None most c bytes lent answer (Some new)
      → (answer ≡ 0) × (lent_of new.medium ≡ lent)
  pub over_disk : (most : ℕ) (c : Configuration) (disk : Disk) (answer : ℕ) (new : Inside)
      → OpensDisk 3 None most c disk answer (Some new) → (answer ≡ 0) × (failures_of new.medium ≡ 0)
  pub returned : (s : Inside) (bytes : LentBytes) → HasLastState (Some s) (Some bytes)
      → whole_blocks bytes.items ≡ s.state.device.content
