-- For the answers of `over.rt`: a room that is refused comes back, and an open subsystem stays whole.
use Rattle.std.proofs.Common.{◌≡◌, ℕ, sym, ap, ◌∙◌, subst, true, inl, inr}
use Rattle.nvme_brought.specs.declared.room.Room.{Room}
use Rattle.nvme_lent.specs.Bringing.{IsRefused}
use Rattle.nvme_lent.specs.declared.either.NotBrought.{NotBrought}
use Rattle.nvme_lent.specs.declared.either.NotBrought.TheVariants.{InMemory, Outside}
use Rattle.nvme_lent.specs.declared.either.OwnOrLent.{OwnOrLent}
use Rattle.nvme_lent.specs.declared.either.OwnOrLent.TheVariants.{Own, Lent, Brought}
use Rattle.nvme_machine.specs.declared.event.Event.TheVariants.{Execute}
use Rattle.nvme_machine.specs.Bare.{seen_with}
use Rattle.nvme_machine.specs.Subsystems.{Subsystem, controller_at, numbered}
use Rattle.nvme_library.specs.declared.over.ExecutedOver.{ExecutedOver}
use Rattle.nvme_library.specs.Holding.{Inside}
use Rattle.nvme_library.specs.Over.{ExecutesIn}
use Rattle.nvme_library.specs.Whole.{AreWhole}
use Rattle.nvme_library.proofs.Whole.{step_keeps_whole}

abbrev pub refused_room : NotBrought → Room
refused_room (InMemory room) = room
refused_room (Outside room) = room

pub refused-is : (room : Room) (m : OwnOrLent) (why : NotBrought) → IsRefused room m why → refused_room why ≡ room
refused-is room (Own m) why h = ap refused_room h
refused-is room (Lent m) why h = ap refused_room h
refused-is room (Brought m) why h = ap refused_room h.0

-- wholeness is of the controllers alone
pub whole-same : (s t : Subsystem) → t.controllers ≡ s.controllers → AreWhole s → AreWhole t
unfolding controller_at
whole-same s t same all = λ k c at. all k c (ap (λ cs. numbered cs k) (sym same) ∙ at)

pub over_whole : (k i : ℕ) (room left : Room) (old new : Inside) (result : ExecutedOver)
    → ExecutesIn k i room old result left new → AreWhole old.state → AreWhole new.state
over_whole k i room left old new result (inl w) whole =
    let e = w.executes in
    whole-same e.after.state new.state (ap (λ (s : Subsystem). s.controllers) e.new_is)
    (step_keeps_whole true e.before.state e.after.state (Execute k i) (seen_with e.executes.marks w.seen)
    e.executes.executes
    (whole-same old.state e.before.state (ap (λ (s : Subsystem). s.controllers) e.before_is) whole))
over_whole k i room left old new result (inr w) whole =
    subst (λ (s : Inside). AreWhole s.state) (sym w.new_is) whole
