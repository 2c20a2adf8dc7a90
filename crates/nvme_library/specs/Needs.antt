-- What a fetched command needs of the medium, for C.
use Rattle.std.specs.Prelude.{ℕ, Option, Some, None, slice_get}
use Rattle.nvme_machine.specs.declared.fetched.FetchedCommand.{FetchedCommand}
use Rattle.nvme_machine.specs.declared.need.Need.{Need}
use Rattle.nvme_machine.specs.declared.need.Need.TheVariants as need
use Rattle.nvme_machine.specs.Controllers.{Controller}
use Rattle.nvme_machine.specs.Needs.{need_of}
use Rattle.nvme_machine.specs.Subsystems.{Subsystem, controller_at}
use Rattle.nvme_spec.specs.World.{World}
use Rattle.nvme_library.specs.declared.needs.Needed.{Needed}
use Rattle.nvme_library.specs.Holding.{Inside}

abbrev pub told : Need → Needed
told need.Nothing = record { first = 0; blocks = 0; what = 0; kind = 0 }
told (need.Read first blocks) = record { first = first; blocks = blocks; what = 0; kind = 1 }
told (need.Write first blocks) = record { first = first; blocks = blocks; what = 0; kind = 2 }
told (need.Zero first blocks) = record { first = first; blocks = blocks; what = 0; kind = 3 }
told need.Flush = record { first = 0; blocks = 0; what = 0; kind = 4 }

abbrev pub without_need : ℕ → Needed
without_need what = record { first = 0; blocks = 0; what = what; kind = 0 }

abbrev pub needed_of : World → ℕ → Option FetchedCommand → Needed
needed_of w cntlid None = without_need 7
needed_of w cntlid (Some t) = told (need_of w cntlid t)

abbrev pub needed_of_its : World → ℕ → ℕ → Option Controller → Needed
needed_of_its w cntlid i None = without_need 17
needed_of_its w cntlid i (Some c) = needed_of w cntlid (slice_get c.fetched i)

-- what the i-th fetched command needs, or which of controller and command does not exist
abbrev pub needed_at : Subsystem → ℕ → ℕ → Needed
needed_at s cntlid i = needed_of_its s.world cntlid i (controller_at s cntlid)

abbrev pub needed_in : Option Inside → ℕ → ℕ → Needed
needed_in None cntlid i = without_need 16
needed_in (Some s) cntlid i = needed_at s.state cntlid i
