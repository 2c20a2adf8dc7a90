-- The subsystem and the borrowed bytes after opening and closing.
use Rattle.std.specs.Prelude.{
  ◌≡◌,
  ◌⊎◌,
  ◌/◌,
  ◌==◌,
  length,
  ℕ,
  List,
  Bool,
  true,
  false,
  Option,
  Some,
  None,
  IfSome,
  if◌then◌else◌,
}
use Rattle.nvme_spec.specs.declared.config.ConfigFault.{ConfigFault}
use Rattle.nvme_spec.specs.declared.config.ConfigFault.TheVariants.{BadId, BadSize, TooMany, DoesNotFit, NoMemory}
use Rattle.nvme_spec.specs.Configuration.{Capacity, Configuration, capacity, config_fault}
use Rattle.nvme_medium.specs.Memory.{whole_blocks}
use Rattle.nvme_brought.specs.declared.disk.Disk.{Disk}
use Rattle.nvme_lent.specs.OwnOrLent.{bytes_of, failures_of, lent_of, IsInMemory, NothingIsAtHand}
use Rattle.nvme_lent.specs.declared.bytes.LentBytes.{LentBytes}
use Rattle.nvme_machine.specs.Subsystems.{opening}
use Rattle.nvme_library.specs.Holding.{Inside}

abbrev pub fault_number : ConfigFault → ℕ
fault_number BadId = 23
fault_number BadSize = 24
fault_number TooMany = 25
fault_number DoesNotFit = 26
fault_number NoMemory = 27

-- the configuration is opened over a medium of these blocks, of which no call has failed
pub record OpensOn (c : Configuration) (blocks : List ℕ) (size : Capacity) (new : Inside) : Type 0 where
  pub accepted : config_fault c size ≡ None
  pub state : new.state ≡ opening c (record { content = blocks; failures = 0 })
  pub bytes : bytes_of new.medium ≡ blocks

-- they are in memory, and are the borrowed bytes themselves if there are any
pub record OpensOver (c : Configuration) (blocks : List ℕ) (size : Capacity) (lent : Option LentBytes) (new : Inside)
    : Type 0 where
  pub on : OpensOn c blocks size new
  pub memory : IsInMemory new.medium
  pub over : lent_of new.medium ≡ lent

-- they are brought for each command, and none is at hand
pub record OpensWithout (c : Configuration) (blocks : List ℕ) (size : Capacity) (new : Inside) : Type 0 where
  pub on : OpensOn c blocks size new
  pub nothing : NothingIsAtHand new.medium
  pub unfailed : failures_of new.medium ≡ 0

-- the first fault of the configuration, or memory was refused
abbrev pub IsFault : Configuration → Capacity → ConfigFault → Type 0
IsFault c size fault = (config_fault c size ≡ Some fault) ⊎ (fault ≡ NoMemory)

-- no subsystem was open: one is now, or the answer is an error
abbrev pub OpensNew : (Inside → Type 0) → Configuration → Capacity → ℕ → Option Inside → Type 0
OpensNew Is c size answer (Some new) = (answer ≡ 0) × Is new
OpensNew Is c size answer None = (fault : ConfigFault) × (answer ≡ fault_number fault) × IsFault c size fault

-- a subsystem is open already: it stays, and no other is opened
abbrev pub OpensFrom : Option Inside → (Inside → Type 0) → Configuration → Capacity → ℕ → Option Inside → Type 0
OpensFrom (Some old) Is c size answer new = (answer ≡ 22) × (new ≡ Some old)
OpensFrom None Is c size answer new = OpensNew Is c size answer new

-- first, a caller built for another version is refused
abbrev pub OpensAs : Bool → Option Inside → (Inside → Type 0) → Configuration → Capacity → ℕ → Option Inside → Type 0
OpensAs false old Is c size answer new = (answer ≡ 21) × (new ≡ old)
OpensAs true old Is c size answer new = OpensFrom old Is c size answer new

-- A configuration is opened over the whole blocks of these bytes, as a copy or in place, or the answer is an error and
-- nothing changed. A namespace has at most `most` blocks.
abbrev pub Opens : ℕ → Option Inside → ℕ → Configuration → List ℕ → Option LentBytes → ℕ → Option Inside → Type 0
Opens version old most c bytes lent answer new =
    let size = capacity most (length bytes / 512) in
    OpensAs (version == 3) old (OpensOver c (whole_blocks bytes) size lent) c size answer new

-- The same over a disk, of which no block is at hand.
abbrev pub OpensDisk : ℕ → Option Inside → ℕ → Configuration → Disk → ℕ → Option Inside → Type 0
OpensDisk version old most c disk answer new =
    let size = capacity most disk.blocks in
    OpensAs (version == 3) old (OpensWithout c disk.content.bytes size) c size answer new

-- The borrowed bytes that an opening returns: none if it succeeded, since the medium uses them; else all, unchanged.
abbrev pub returned_by : ℕ → LentBytes → Option LentBytes
returned_by answer bytes = if answer == 0 then None else Some bytes

-- those that a close returns: the borrowed ones, as the medium has them
abbrev pub lent_by : Option Inside → Option LentBytes
lent_by None = None
lent_by (Some inside) = lent_of inside.medium

-- their whole blocks are those of the state, as the events have left them
abbrev pub HasLastState : Option Inside → Option LentBytes → Type 0
HasLastState held returned =
    IfSome held (λ inside. IfSome returned (λ bytes. whole_blocks bytes.items ≡ inside.state.device.content))
