use Rattle.std.proofs.Common.{◌≡◌, take, Ok, Err, Some, sym, ap, ◌∙◌, arith}
use Rattle.nvme_pdu.specs.Fields.{host_data}
use Rattle.nvme_connection.specs.declared.stage.Stage.TheVariants.{Complete}
use Rattle.nvme_connection.specs.Connections.{addressed}
use Rattle.nvme_connection.specs.Holding.{verdict_of}
use Rattle.nvme_connection.proofs.Verdicts.{judges-by, over-holds, whole-kept}
use Rattle.nvme_connection.proofs.connection.Connection.address.Goals as goal

pub returns-in-Ok : goal.returns-in-Ok
returns-in-Ok c = record {
  judges = λ d h.
      let self = c.args.self.now in
      let kept : c.copy_from_slice.new.self ≡ take 24 d.unit = c.copy_from_slice.ensures.after
      ∙ whole-kept self d 24 h (sym h.stage ∙ c.requires.stage) (omega arith) in
      judges-by (addressed d self.layout c.args.is_sound (host_data (take 24 d.unit) self.layout.data_length))
      (addressed d self.layout c.args.is_sound (Ok c.in-Ok.field-0)) d c.completes.result _
      (ap (addressed d self.layout c.args.is_sound) (ap (λ x. host_data x self.layout.data_length) (sym kept)
      ∙ sym c.of.ensures ∙ c.in-Ok.is)) (record {
        next = over-holds self d Complete self.is_open self.agreed d.is_open d.agreed h tt h.is_open h.agreed;
        told = ap (λ x. verdict_of d (Some x)) c.completes.ensures;
      });
}

pub returns-in-Err : goal.returns-in-Err
returns-in-Err c = record {
  judges = λ d h.
      let self = c.args.self.now in
      let kept : c.copy_from_slice.new.self ≡ take 24 d.unit = c.copy_from_slice.ensures.after
      ∙ whole-kept self d 24 h (sym h.stage ∙ c.requires.stage) (omega arith) in
      judges-by (addressed d self.layout c.args.is_sound (host_data (take 24 d.unit) self.layout.data_length))
      (addressed d self.layout c.args.is_sound (Err c.in-Err.fatal)) d c.break_by.result c.break_by.new.self
      (ap (addressed d self.layout c.args.is_sound) (ap (λ x. host_data x self.layout.data_length) (sym kept)
      ∙ sym c.of.ensures ∙ c.in-Err.is))
      (c.break_by.ensures.judges d h);
}
