-- The data of any command: their addresses by its two PRP entries, and the rule that tests these (Base Specification:
-- Data Pointer of the Common Command Format, Physical Region Page Entry and List).
use Rattle.std.specs.Prelude.{ℕ, ◌==◌, true, if◌then◌else◌, List, [], ◌∷◌, Option, None, Some}
use Rattle.nvme_wire.specs.Submission.{prp1, prp2}
use Rattle.nvme_wire.specs.declared.status.Status.{Status}
use Rattle.nvme_spec.specs.declared.pointer.DataFault.{DataFault}
use Rattle.nvme_spec.specs.declared.pointer.DataFault.TheVariants.{Offset, Outside}
use Rattle.nvme_spec.specs.Pointer.{Transfer, transfer, pointer_fault}
use Rattle.nvme_spec.specs.Transfers.{addresses, pieces_of, gathered_bytes}
use Rattle.nvme_spec.specs.Rules.{Rule, Test, test}
use Rattle.nvme_spec.specs.Statuses as status

-- the transfer of the data
abbrev pub data_transfer : ℕ → List ℕ → List ℕ → Transfer
data_transfer bytes window e = transfer window (prp1 e) (prp2 e) bytes

-- the addresses of the data
unfoldable pub data_addresses : ℕ → List ℕ → List ℕ → List ℕ
data_addresses bytes window e = addresses (pieces_of (data_transfer bytes window e))

-- the data in host memory
abbrev pub data_in : ℕ → List ℕ → List ℕ → List ℕ
data_in bytes window e = gathered_bytes window (data_addresses bytes window e)

abbrev pub fault_status : DataFault → Status
fault_status Offset = status.prp_offset_invalid
fault_status Outside = status.data_transfer_error

abbrev pub fault_tests : Option DataFault → List Test
fault_tests None = []
fault_tests (Some fault) = test true (fault_status fault) ∷ []

-- the fault of the data pointer, if the command has data
abbrev pub data_fault : ℕ → List ℕ → List ℕ → Option DataFault
data_fault bytes window e = if bytes == 0 then None else pointer_fault (data_transfer bytes window e)

-- 10: the data pointer has a fault
unfoldable pub pointer_rule : ℕ → List ℕ → List ℕ → Rule
pointer_rule bytes window e = record { number = 10; tests = fault_tests (data_fault bytes window e) }
