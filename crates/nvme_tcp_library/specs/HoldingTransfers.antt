-- What a handle of C owns: nothing, or the commands of a connection on the heap with the right to free their memory.
use Rattle.std.specs.Prelude.{Option, Some, None}
use base.Fml.{Fml, ftrue}
use denote.RattleType.{RattleType}
use denote.RawPtr.{Ptr}
use Rattle.std.specs.Box.Ownership.{box_owns}
use Rattle.std.specs.Global.{Global}
use Rattle.std.specs.contracts.impls.GlobalAllocator.TheImpl.{ghosts}
use Rattle.nvme_transfers.specs.contracts.transfers.Transfers as transfers

-- commands
abbrev pub Row : RattleType
Row = transfers.the_row

-- as contracts see them: those that have an R2T, and those that wait for theirs
abbrev pub Inside : Type 0
Inside = Row.Denot

abbrev pub holds : Global → Ptr → Option Inside → Fml
holds alloc at None = ftrue
holds alloc at (Some inside) = box_owns (ghosts.dealloc_token alloc) Row at inside
