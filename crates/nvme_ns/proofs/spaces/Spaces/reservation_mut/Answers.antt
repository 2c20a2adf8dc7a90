use Rattle.std.proofs.Common.{◌≡◌, refl, sym, ap, ◌∙◌, Some, ◌==◌}
use Rattle.std.specs.Prelude.{position, option_map}
use Rattle.nvme_spec.specs.Reservation.{Reservation}
use Rattle.nvme_spec.specs.World.{namespace_of}
use Rattle.nvme_ns.proofs.Changing.{found_placed, found-at_place, with_namespace-placed}
use Rattle.nvme_ns.proofs.spaces.Spaces.reservation_mut.Goals as goal

pub unwrap-index-requires : goal.unwrap-index-requires
unfolding namespace_of
unwrap-index-requires c =
    rw (c.index_of.ensures, c.deref.ensures.0)
    (found_placed (λ n. n.nsid == c.args.nsid) c.self.inside.namespaces.items (rw (← c.self.view_is) at c.requires))

pub returns : goal.returns
unfolding namespace_of
returns c =
    let table = c.self.inside.namespaces.items in
    let n = c.unwrap.result.now in
    let place : position (λ m. m.nsid == c.args.nsid) table ≡ Some c.unwrap-index.result =
    ap (position (λ m. m.nsid == c.args.nsid)) (sym c.deref.ensures.0) ∙ sym c.index_of.ensures
    ∙ c.unwrap-index.ensures in
    let here = rw c.unwrap.ensures at c.get_mut.ensures.value in
    let written = λ (w : Reservation).
    with_namespace-placed (λ m. record m { reservation = w }) c.args.nsid table c.unwrap-index.result n place here in
    let found = found-at_place (λ m. m.nsid == c.args.nsid) table c.unwrap-index.result n place in (
      (
        refl,
        λ w. rw (← c.self.view_is) (λ i. record {
          controllers = c.self.inside.controllers.items;
          namespaces = written w i;
          attachments = c.self.inside.attachments.items;
        }),
      ),
      record {
        writes_back = tt;
        value = rw (← c.self.view_is, c.reservation_mut.ensures.value)
            (ap (option_map (λ m. m.reservation)) (found ∙ ap Some (sym here)));
      },
    )
