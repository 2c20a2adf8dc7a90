use Rattle.std.proofs.Common.{◌≡◌, inl, inr, ap, refl, arith}
use Rattle.nvme_machine.specs.declared.event.Event.TheVariants.{Read32}
use Rattle.nvme_machine.specs.Subsystems.{controller_of}
use Rattle.nvme_target.specs.Causes.{IsAccess}
use Rattle.nvme_target.specs.Examples.{resets, executes}
use Rattle.nvme_target.proofs.examples.target_itself.Goals as goal

foreign-reset : IsAccess 0 (resets 2) → ⊥
foreign-reset (inl write) = let at : 2 ≡ 1 = ap controller_of write.2 in omega (arith, at)
foreign-reset (inr read) = let at : 2 ≡ 1 = ap controller_of read.1 in omega (arith, at)

foreign-read : IsAccess 0 (Read32 2 0x1c) → ⊥
foreign-read (inl write) = let at : 2 ≡ 1 = ap controller_of write.2 in omega (arith, at)
foreign-read (inr read) = let at : 2 ≡ 1 = ap controller_of read.1 in omega (arith, at)

never-executes : IsAccess 0 (executes 1) → ⊥
never-executes (inl write) = absurd (cc)
never-executes (inr read) = absurd (cc)

pub returns-clause-reset : goal.returns-clause-reset
returns-clause-reset c = inl (0x14, 0, refl)

pub returns-clause-status : goal.returns-clause-status
returns-clause-status c = inr (0x1c, refl)

pub returns-clause-status_of_another : goal.returns-clause-status_of_another
returns-clause-status_of_another c r = foreign-read r

pub returns-clause-of_another : goal.returns-clause-of_another
returns-clause-of_another c r = foreign-reset r

pub returns-clause-execution : goal.returns-clause-execution
returns-clause-execution c r = never-executes r

pub returns-clause-power : goal.returns-clause-power
returns-clause-power c = refl

pub returns-clause-no_power : goal.returns-clause-no_power
returns-clause-no_power c e = let at : 1 ≡ 0 = ap controller_of e in omega (arith, at)
