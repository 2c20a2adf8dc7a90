use Rattle.std.proofs.Common.{Ok, sym, ap, ◌∙◌}
use Rattle.std.proofs.lemmas.Result.{err_from_is_err_and}
use Rattle.nvme_spec.specs.World.{World}
use Rattle.nvme_ns.proofs.Attaching.{list-refuses-attaching, refuses-attaching, attaches, attached-table, room}
use Rattle.nvme_ns.proofs.spaces.Spaces.attach.Goals as goal

pub returns-in_err-check_list-clause-refused : goal.returns-in_err-check_list-clause-refused
returns-in_err-check_list-clause-refused c =
    let p = err_from_is_err_and c.from_residual.result c.from_residual.ensures.1 in
    rw (p.1, p.2) (list-refuses-attaching c.args.self.now c.args.nsid c.args.controllers.now
    c.in_err-check_list.field-0.0 (sym c.check_list.ensures ∙ c.in_err-check_list.was {u = tt}))

pub returns-in_err-check_attachable-clause-refused : goal.returns-in_err-check_attachable-clause-refused
returns-in_err-check_attachable-clause-refused c =
    let p = err_from_is_err_and c.from_residual-in_err-check_attachable.result
    c.from_residual-in_err-check_attachable.ensures.1 in
    rw (p.1, p.2)
    (refuses-attaching c.args.self.now c.args.nsid c.args.controllers.now c.in_err-check_attachable.field-0.0
    (sym c.check_list.ensures ∙ c.in_ok-check_list.was {u = tt})
    (sym c.check_attachable.ensures.judged ∙ c.in_err-check_attachable.was {u = tt}))

pub append-requires : goal.append-requires
append-requires c =
    record {
      room = room c.self.inside.attachments.items c.args.controllers.now c.args.nsid
          (attached-table c.args.self.now c.args.nsid c.args.controllers.now c.self.inside.controllers.items
          c.self.inside.attachments.items
          (ap (λ (w : World). w.controllers) c.self.view_is) (ap (λ (w : World). w.attachments) c.self.view_is)
          c.self.invariant.1 c.self.invariant.2 c.check_attachable.ensures.known
          (sym c.check_list.ensures ∙ c.in_ok-check_list.was {u = tt})
          (sym c.check_attachable.ensures.judged ∙ c.in_ok-check_attachable.was {u = tt}));
    }

pub pair_table-self-inside-requires : goal.pair_table-self-inside-requires
pair_table-self-inside-requires c =
    let table = attached-table c.args.self.now c.args.nsid c.args.controllers.now c.self.inside.controllers.items
    c.self.inside.attachments.items
    (ap (λ (w : World). w.controllers) c.self.view_is) (ap (λ (w : World). w.attachments) c.self.view_is)
    c.self.invariant.1 c.self.invariant.2 c.check_attachable.ensures.known
    (sym c.check_list.ensures ∙ c.in_ok-check_list.was {u = tt})
    (sym c.check_attachable.ensures.judged ∙ c.in_ok-check_attachable.was {u = tt}) in
    rw (c.deref.ensures.0, c.append.ensures) table.0

pub invariant_of-self : goal.invariant_of-self
invariant_of-self c =
    let table = attached-table c.args.self.now c.args.nsid c.args.controllers.now c.self.inside.controllers.items
    c.self.inside.attachments.items
    (ap (λ (w : World). w.controllers) c.self.view_is) (ap (λ (w : World). w.attachments) c.self.view_is)
    c.self.invariant.1 c.self.invariant.2 c.check_attachable.ensures.known
    (sym c.check_list.ensures ∙ c.in_ok-check_list.was {u = tt})
    (sym c.check_attachable.ensures.judged ∙ c.in_ok-check_attachable.was {u = tt}) in (
      c.self.invariant.0,
      c.self.invariant.1,
      rw c.append.ensures table,
      c.self.invariant.3,
      rw (← c.deref.ensures.0) c.pair_table-self-inside.ensures,
    )

pub returns-clause-attached : goal.returns-clause-attached
returns-clause-attached c =
    attaches c.args.self.now c.args.nsid c.args.controllers.now
    (sym c.check_list.ensures ∙ c.in_ok-check_list.was {u = tt})
    (sym c.check_attachable.ensures.judged ∙ c.in_ok-check_attachable.was {u = tt})
    ∙ rw (← c.self.view_is) (λ i. Ok (record {
      controllers = c.self.inside.controllers.items;
      namespaces = c.self.inside.namespaces.items;
      attachments = sym c.append.ensures i;
    }))
