use Rattle.std.proofs.Common.{Ok, sym, ◌∙◌}
use Rattle.std.proofs.lemmas.Result.{err_from_is_err_and}
use Rattle.nvme_ns.proofs.Attaching.{list-refuses-detaching, refuses-detaching, detaches, filtered}
use Rattle.nvme_ns.proofs.spaces.Spaces.detach.Goals as goal

pub returns-in_err-check_list-clause-refused : goal.returns-in_err-check_list-clause-refused
returns-in_err-check_list-clause-refused c =
    let p = err_from_is_err_and c.from_residual.result c.from_residual.ensures.1 in
    rw (p.1, p.2) (list-refuses-detaching c.args.self.now c.args.nsid c.args.controllers.now
    c.in_err-check_list.field-0.0 (sym c.check_list.ensures ∙ c.in_err-check_list.was {u = tt}))

pub returns-in_err-check_detachable-clause-refused : goal.returns-in_err-check_detachable-clause-refused
returns-in_err-check_detachable-clause-refused c =
    let p = err_from_is_err_and c.from_residual-in_err-check_detachable.result
    c.from_residual-in_err-check_detachable.ensures.1 in
    rw (p.1, p.2)
    (refuses-detaching c.args.self.now c.args.nsid c.args.controllers.now c.in_err-check_detachable.field-0.0
    (sym c.check_list.ensures ∙ c.in_ok-check_list.was {u = tt})
    (sym c.check_detachable.ensures ∙ c.in_err-check_detachable.was {u = tt}))

pub pair_table-self-inside-requires : goal.pair_table-self-inside-requires
pair_table-self-inside-requires c =
    rw (c.deref.ensures.0, c.remove.ensures) (filtered _ c.self.inside.attachments.items c.self.invariant.2).0

pub invariant_of-self : goal.invariant_of-self
invariant_of-self c = (
  c.self.invariant.0,
  c.self.invariant.1,
  rw c.remove.ensures (filtered _ c.self.inside.attachments.items c.self.invariant.2),
  c.self.invariant.3,
  rw (← c.deref.ensures.0) c.pair_table-self-inside.ensures,
)

pub returns-clause-detached : goal.returns-clause-detached
returns-clause-detached c =
    detaches c.args.self.now c.args.nsid c.args.controllers.now
    (sym c.check_list.ensures ∙ c.in_ok-check_list.was {u = tt})
    (sym c.check_detachable.ensures ∙ c.in_ok-check_detachable.was {u = tt})
    ∙ rw (← c.self.view_is) (λ i. Ok (record {
      controllers = c.self.inside.controllers.items;
      namespaces = c.self.inside.namespaces.items;
      attachments = sym c.remove.ensures i;
    }))
