-- For `examples/disk_results.rt`: what a program does with a disk.
use Rattle.std.proofs.Common.{◌≡◌, ℕ, List, [], ap, ◌∙◌}
use Rattle.nvme_brought.specs.Brought.{with_room}
use Rattle.nvme_machine.specs.declared.bare.BareSeen.{BareSeen}
use Rattle.nvme_machine.specs.declared.event.Event.TheVariants.{PowerCycle}
use Rattle.nvme_machine.specs.EventCalls.{ExecutesNothing}
use Rattle.nvme_machine.specs.Subsystems.{after_power_cycle}
use Rattle.nvme_library.specs.DiskLaws.{IsAsOn, Serves, ServesAll, Without}
use Rattle.nvme_library.specs.DiskResults.{DisksAreServed, OpenOnesAreWhole, RoomsServeNeeds}
use Rattle.nvme_library.specs.Events.{Stepping}
use Rattle.nvme_library.specs.Holding.{Inside}
use Rattle.nvme_library.specs.Over.{ExecutingOver}

pub rooms_serve_needs : RoomsServeNeeds
rooms_serve_needs = record {
  nothing = λ room. tt;
  read_blocks = λ room h. h;
  written_blocks = λ room h. h;
}

cycled : (disk disk' : List ℕ) (old new : Inside) (seen : BareSeen)
    → Serves (Without PowerCycle) disk old seen disk' new
    → (disk' ≡ disk) × (new.state ≡ after_power_cycle old.state) × (new.medium ≡ old.medium)
cycled disk disk' old new seen h =
    let p : ExecutesNothing PowerCycle × Stepping PowerCycle old seen new × (disk' ≡ disk) = h in
    (p.2, p.1.0.1, p.1.1)

pub disks_are_served : DisksAreServed
disks_are_served = record {
  cycled = cycled;
  over_a_room = λ k i room left disk disk' old new seen h.
      let p : IsAsOn disk room × ExecutingOver k i room old seen left new × (disk' ≡ with_room disk left) = h in
      (p.0, p.1);
  nothing = λ disk disk' old new h. h;
  one_cycle = λ disk disk' old new seen h.
      let p : (mid : Inside) × (between : List ℕ) × Serves (Without PowerCycle) disk old seen between mid
      × ServesAll [] between mid [] disk' new = h in
      let first = cycled disk p.1 old p.0 seen p.2 in
      let last : (disk' ≡ p.1) × (new ≡ p.0) = p.3 in
      (last.0 ∙ first.0, ap (λ (s : Inside). s.medium) last.1 ∙ first.2);
  too_few = λ seen later h. h;
  too_many = λ bare bares h. h;
}

pub open_ones_are_whole : OpenOnesAreWhole
open_ones_are_whole s h = h
