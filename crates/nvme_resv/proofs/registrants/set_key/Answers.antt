use Rattle.std.proofs.Common.{lit<, inl, inr, ◌∙◌, false, ◌≡◌}
use Rattle.nvme_spec.specs.Reservation.{is_registered}
use Rattle.nvme_spec.proofs.Registrants.{insert-with_key}
use Rattle.nvme_resv.specs.Places.{IsPlaceOf, IsGapFor}
use Rattle.nvme_resv.proofs.Place.{written, absent_in_gap}
use Rattle.nvme_resv.proofs.registrants.set_key.Goals as goal

pub insert-requires : goal.insert-requires
insert-requires c =
    let gap : IsGapFor c.args.registrants.now.items c.args.host c.in-Err.i =
    rw c.deref.ensures.0 at c.in-Err.ensures.absent in
    let none : is_registered c.args.registrants.now.items c.args.host ≡ false = absent_in_gap _ _ _ gap in
    (lit< tt, (gap.in_range, elim c.requires.room [ inl there ↦ cc (none, there) | inr few ↦ few ]))

pub returns-in-Ok : goal.returns-in-Ok
returns-in-Ok c =
    let place : IsPlaceOf c.args.registrants.now.items c.args.host c.in-Ok.i =
    rw c.deref.ensures.0 at c.in-Ok.ensures.found in
    written _ c.requires.rising c.args.host c.in-Ok.i c.args.key place _ c.deref_mut.ensures.value

pub returns-in-Err : goal.returns-in-Err
returns-in-Err c =
    let gap : IsGapFor c.args.registrants.now.items c.args.host c.in-Err.i =
    rw c.deref.ensures.0 at c.in-Err.ensures.absent in
    c.insert.ensures.items ∙ insert-with_key _ _ c.args.host c.args.key gap.in_range gap.lower_before gap.higher_after
