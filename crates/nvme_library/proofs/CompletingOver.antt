-- For `nvmesim_complete_over`: a command over brought blocks ends with its completion too.
use Rattle.std.proofs.Common.{◌≡◌, inl, inr, ℕ, List, length, Some, sym, ap, subst}
use Rattle.nvme_brought.specs.declared.room.Room.{Room}
use Rattle.nvme_lent.specs.Bringing.{IsRefused}
use Rattle.nvme_lent.specs.declared.either.NotBrought.{NotBrought}
use Rattle.nvme_lent.specs.declared.either.OwnOrLent.{OwnOrLent}
use Rattle.nvme_lent.specs.declared.either.OwnOrLent.TheVariants.{Own, Lent, Brought}
use Rattle.nvme_machine.specs.Subsystems.{Subsystem, controller_at}
use Rattle.nvme_library.specs.declared.completing_over.CompletedOver.{CompletedOver}
use Rattle.nvme_library.specs.Completing.{reply_at}
use Rattle.nvme_library.specs.CompletingOver.{AnswersUnlessRefused, CompletesIn, room_of}
use Rattle.nvme_library.specs.Holding.{Inside}
use Rattle.nvme_library.specs.Whole.{AreWhole}
use Rattle.nvme_library.proofs.Consuming.{
  consumed_is_completed,
  consumes-whole,
  executes-whole,
  same-controllers,
}
use Rattle.nvme_library.proofs.OverRooms.{whole-same}

pub refused-room : (room : Room) (m : OwnOrLent) (why : NotBrought) → IsRefused room m why → room_of why ≡ room
refused-room room (Own m) why h = ap room_of h
refused-room room (Lent m) why h = ap room_of h
refused-room room (Brought m) why h = ap room_of h.0

pub over_answers : (k i : ℕ) (room left : Room) (old new : Inside) (result : CompletedOver) (before bytes : List ℕ)
    → AreWhole old.state → length before ≡ 16 → CompletesIn k i room old result before bytes left new
    → AnswersUnlessRefused k i room (Some old) result bytes (Some new)
over_answers k i room left old new result before bytes whole long (inr w) = inl (w.why, w.refused)
over_answers k i room left old new result before bytes whole long (inl w) =
    let h = w.completes in
    let e = h.executes in
    let first = ap (λ (s : Subsystem). s.controllers) e.before_is in
    let last = ap (λ (s : Subsystem). s.controllers) e.new_is in
    inr (consumed_is_completed (controller_at old.state k) k i e.before e.after h.executed new h.seen
    result.completed before bytes (whole-same old.state e.before.state first whole)
    (same-controllers old.state e.before.state k first) long e.executes last h.consumes h.result_is)

pub over_stays_whole : (k i : ℕ) (room left : Room) (old new : Inside) (result : CompletedOver)
    (before bytes : List ℕ) → CompletesIn k i room old result before bytes left new → AreWhole old.state
    → AreWhole new.state
over_stays_whole k i room left old new result before bytes (inr w) whole =
    subst (λ (s : Inside). AreWhole s.state) (sym w.new_is) whole
over_stays_whole k i room left old new result before bytes (inl w) whole =
    let h = w.completes in
    let e = h.executes in
    let first = ap (λ (s : Subsystem). s.controllers) e.before_is in
    let last = ap (λ (s : Subsystem). s.controllers) e.new_is in
    consumes-whole h.seen (reply_at (controller_at old.state k) i) k h.executed new before bytes h.consumes
    (whole-same e.after.state h.executed.state last (executes-whole k i e.before e.after h.seen e.executes
    (whole-same old.state e.before.state first whole)))
