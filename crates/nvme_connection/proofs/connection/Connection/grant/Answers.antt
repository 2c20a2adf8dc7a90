use Rattle.std.proofs.Common.{rules, ◌≡◌, length, take, true, Ok, Err, Some, sym, ap, refl, ◌∙◌}
use Rattle.nvme_pdu.specs.Agreeing.{agreed_of}
use Rattle.nvme_connection.specs.declared.stage.Stage.TheVariants.{Complete}
use Rattle.nvme_connection.specs.Connections.{granted}
use Rattle.nvme_connection.specs.Holding.{verdict_of}
use Rattle.nvme_connection.proofs.Verdicts.{judges-by, over-holds, request-kept}
use Rattle.nvme_connection.proofs.connection.Connection.grant.Goals as goal

pub returns-in-Ok : goal.returns-in-Ok
returns-in-Ok c = record {
  judges = λ d h.
      let self = c.args.self.now in
      let size : length self.kept ≡ 128 = search rules in
      let kept = request-kept self d h (sym h.stage ∙ c.requires.stage) c.requires.kind size in
      judges-by (granted d self.layout c.args.is_sound (agreed_of (take 128 d.unit)))
      (granted d self.layout c.args.is_sound (Ok c.in-Ok.agreed)) d c.completes.result _
      (ap (granted d self.layout c.args.is_sound) (ap agreed_of (sym kept) ∙ sym c.of.ensures.exact
      ∙ c.in-Ok.is)) (record {
        next = over-holds self d Complete true c.in-Ok.agreed true c.in-Ok.agreed h tt refl refl;
        told = ap (λ x. verdict_of d (Some x)) c.completes.ensures;
      });
}

pub returns-in-Err : goal.returns-in-Err
returns-in-Err c = record {
  judges = λ d h.
      let self = c.args.self.now in
      let size : length self.kept ≡ 128 = search rules in
      let kept = request-kept self d h (sym h.stage ∙ c.requires.stage) c.requires.kind size in
      judges-by (granted d self.layout c.args.is_sound (agreed_of (take 128 d.unit)))
      (granted d self.layout c.args.is_sound (Err c.in-Err.fatal)) d c.break_by.result c.break_by.new.self
      (ap (granted d self.layout c.args.is_sound) (ap agreed_of (sym kept) ∙ sym c.of.ensures.exact ∙ c.in-Err.is))
      (c.break_by.ensures.judges d h);
}
