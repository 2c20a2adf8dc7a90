use Rattle.std.proofs.Common.{Some, sym, ap, subst}
use Rattle.nvme_pdu.specs.declared.kind.Kind.{Kind}
use Rattle.nvme_pdu.specs.declared.kind.Kind.TheVariants.{H2cTermReq}
use Rattle.nvme_connection.specs.declared.stage.Stage.TheVariants.{Complete, Ended}
use Rattle.nvme_connection.specs.Connections.{completed, complete}
use Rattle.nvme_connection.specs.Holding.{Judges, verdict_of}
use Rattle.nvme_connection.proofs.Verdicts.{judges-by, other-kind, over-holds}
use Rattle.nvme_connection.proofs.connection.Connection.complete.Goals as goal

pub returns-in-IcReq : goal.returns-in-IcReq
returns-in-IcReq c = record {
  judges = λ d h.
      subst (λ (k : Kind). Judges (completed k d c.args.self.now.layout c.args.is_sound) d c.grant.result
      c.grant.new.self) (sym c.in-IcReq.is) (c.grant.ensures.judges d h);
}

pub returns-in-H2cData : goal.returns-in-H2cData
returns-in-H2cData c = record {
  judges = λ d h.
      subst (λ (k : Kind). Judges (completed k d c.args.self.now.layout c.args.is_sound) d c.address.result
      c.address.new.self) (sym c.in-H2cData.is) (c.address.ensures.judges d h);
}

pub returns-in-H2cTermReq : goal.returns-in-H2cTermReq
returns-in-H2cTermReq c = record {
  judges = λ d h.
      let self = c.args.self.now in
      judges-by (completed self.layout.kind d self.layout c.args.is_sound)
      (completed H2cTermReq d self.layout c.args.is_sound) d c.completes.result _
      (ap (λ (k : Kind). completed k d self.layout c.args.is_sound) c.in-H2cTermReq.is) (record {
        next = over-holds self d Ended self.is_open self.agreed d.is_open d.agreed h tt h.is_open h.agreed;
        told = ap (λ x. verdict_of d (Some x)) c.completes.ensures;
      });
}

pub returns-in_default : goal.returns-in_default
returns-in_default c = record {
  judges = λ d h.
      let self = c.args.self.now in
      judges-by (completed self.layout.kind d self.layout c.args.is_sound)
      (complete d self.layout c.args.is_sound) d c.completes-in_default.result _
      (other-kind self.layout.kind d self.layout c.args.is_sound c.in_default.not-IcReq c.in_default.not-H2cTermReq
      c.in_default.not-H2cData) (record {
        next = over-holds self d Complete self.is_open self.agreed d.is_open d.agreed h tt h.is_open h.agreed;
        told = ap (λ x. verdict_of d (Some x)) c.completes-in_default.ensures;
      });
}
