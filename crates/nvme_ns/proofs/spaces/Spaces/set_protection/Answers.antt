use Rattle.std.proofs.Common.{◌≡◌, sym, ap, ◌∙◌, Some, ◌==◌}
use Rattle.std.specs.Prelude.{position}
use Rattle.nvme_spec.specs.World.{Namespace, namespace_of}
use Rattle.nvme_ns.proofs.Changing.{found_placed, with_namespace-placed}
use Rattle.nvme_ns.proofs.spaces.Spaces.set_protection.Goals as goal

pub unwrap-index-requires : goal.unwrap-index-requires
unfolding namespace_of
unwrap-index-requires c =
    rw (c.index_of.ensures, c.deref.ensures.0)
    (found_placed (λ n. n.nsid == c.args.nsid) c.self.inside.namespaces.items (rw (← c.self.view_is) at c.requires))

pub returns : goal.returns
returns c =
    let table = c.self.inside.namespaces.items in
    let n = c.unwrap.result.now in
    let place : position (λ m. m.nsid == c.args.nsid) table ≡ Some c.unwrap-index.result =
    ap (position (λ m. m.nsid == c.args.nsid)) (sym c.deref.ensures.0) ∙ sym c.index_of.ensures
    ∙ c.unwrap-index.ensures in
    let here = rw c.unwrap.ensures at c.get_mut.ensures.value in
    let written = with_namespace-placed (λ (m : Namespace). record m { protection = c.args.protection }) c.args.nsid
    table c.unwrap-index.result n place here in
    rw (← c.self.view_is, c.set_protection.ensures)
    (λ i. record {
      controllers = c.self.inside.controllers.items;
      namespaces = written i;
      attachments = c.self.inside.attachments.items;
    })
