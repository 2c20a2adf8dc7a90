-- Statements of `laws.rt`: what the contracts of the calls say together of the bytes that a C program provides.
use Rattle.std.specs.Prelude.{◌≡◌, ℕ, List, Option, Result, true}
use Rattle.nvme_spec.specs.declared.medium.MediumFault.{MediumFault}
use Rattle.nvme_spec.specs.declared.outcome.Marks.{Marks}
use Rattle.nvme_spec.specs.FaultFreeCalls.{content_step}
use Rattle.nvme_spec.specs.MediumCalls.{MakesCalls}
use Rattle.nvme_spec.specs.Layout.{IsLaidOut}
use Rattle.nvme_lent.specs.OwnOrLent.{bytes_of, extent_of, IsInMemory}
use Rattle.nvme_machine.specs.declared.bare.BareSeen.{BareSeen}
use Rattle.nvme_machine.specs.Bare.{seen_with}
use Rattle.nvme_machine.specs.EventCalls.{CallingAt}
use Rattle.nvme_machine.specs.Subsystems.{controller_at}
use Rattle.nvme_library.specs.declared.answer.Answer.{Answer}
use Rattle.nvme_library.specs.Events.{Executing, Cycling}
use Rattle.nvme_library.specs.Holding.{Inside}
use Rattle.nvme_library.specs.Looking.{LooksAt}
use Rattle.nvme_library.specs.Submitting.{SubmitsTo}

-- An execution, and a host's turn, leave the borrowed bytes at their address, with their length.
abbrev pub ExecutionsStayInPlace : Type 0
ExecutionsStayInPlace =
    (cntlid i : ℕ) → (old new : Inside) → (seen : BareSeen) → Executing cntlid i old seen new
    → extent_of new.medium ≡ extent_of old.medium

abbrev pub TurnsStayInPlace : Type 0
TurnsStayInPlace =
    (k qid : ℕ) → (entry : List ℕ) → (old new : Inside) → (answer : Answer) → (before left : List ℕ)
    → SubmitsTo k qid entry old answer before left new → extent_of new.medium ≡ extent_of old.medium

-- Blocks in memory are after an execution what the calls of its command leave.
abbrev pub ExecutionsReachTheBytes : Type 0
ExecutionsReachTheBytes =
    (cntlid i : ℕ) → (old new : Inside) → (seen : BareSeen) → IsInMemory old.medium → Executing cntlid i old seen new
    → (marks : Marks) × MakesCalls content_step
    (CallingAt (controller_at old.state cntlid) true old.state cntlid i (seen_with marks seen) new.state)
    (bytes_of old.medium) (bytes_of new.medium)

-- If blocks in memory have the content of the state, and no call has failed, they have it after an execution too.
abbrev pub BytesStayTheContent : Type 0
BytesStayTheContent =
    (cntlid i : ℕ) → (old new : Inside) → (seen : BareSeen) → IsInMemory old.medium → Executing cntlid i old seen new
    → IsLaidOut old.state.world old.state.device.content → old.state.device.failures ≡ 0
    → new.state.device.failures ≡ 0 → bytes_of old.medium ≡ old.state.device.content
    → bytes_of new.medium ≡ new.state.device.content

-- A power cycle, and a read of blocks in memory, leave the medium unchanged.
abbrev pub PowerCyclesLeaveTheMedium : Type 0
PowerCyclesLeaveTheMedium = (old new : Inside) → (seen : BareSeen) → Cycling old seen new → new.medium ≡ old.medium

abbrev pub LooksLeaveTheMedium : Type 0
LooksLeaveTheMedium =
    (nsid slba count : ℕ) → (old new : Inside) → (buffer left : List ℕ)
    → (result : Option (Result (Unit {0}) MediumFault)) → IsInMemory old.medium
    → LooksAt nsid slba count old buffer left result new → new.medium ≡ old.medium
