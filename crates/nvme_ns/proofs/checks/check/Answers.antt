use Rattle.std.proofs.Common.{Some, ap, sym, arith, ◌∙◌}
use Rattle.nvme_spec.specs.Configuration.{capacity}
use Rattle.nvme_ns.specs.Configured.{configuration}
use Rattle.nvme_ns.proofs.Refusals.{accepted, fault-of-reason, no-fault}
use Rattle.nvme_ns.proofs.checks.check.Goals as goal

pub returns-in-Some-clause-fault : goal.returns-in-Some-clause-fault
returns-in-Some-clause-fault c =
    fault-of-reason (configuration c.args.config.now) (capacity c.args.max_blocks c.args.medium_blocks) c.in-Some.reason
    (sym c.refusal_of.ensures ∙ c.in-Some.is) ∙ ap Some (sym c.fault.ensures)

pub returns-in-None-clause-passed : goal.returns-in-None-clause-passed
returns-in-None-clause-passed c = no-fault (configuration c.args.config.now)
    (capacity c.args.max_blocks c.args.medium_blocks) (sym c.refusal_of.ensures ∙ c.in-None.is)

pub returns-in-None-clause-numbered : goal.returns-in-None-clause-numbered
returns-in-None-clause-numbered c = (accepted (configuration c.args.config.now)
    (capacity c.args.max_blocks c.args.medium_blocks) (sym c.refusal_of.ensures ∙ c.in-None.is)).numbered

pub returns-in-None-clause-known : goal.returns-in-None-clause-known
returns-in-None-clause-known c = (accepted (configuration c.args.config.now)
    (capacity c.args.max_blocks c.args.medium_blocks) (sym c.refusal_of.ensures ∙ c.in-None.is)).known

pub returns-in-None-clause-attached : goal.returns-in-None-clause-attached
returns-in-None-clause-attached c = (accepted (configuration c.args.config.now)
    (capacity c.args.max_blocks c.args.medium_blocks) (sym c.refusal_of.ensures ∙ c.in-None.is)).attached

pub returns-in-None-clause-counts : goal.returns-in-None-clause-counts
returns-in-None-clause-counts c = (accepted (configuration c.args.config.now)
    (capacity c.args.max_blocks c.args.medium_blocks) (sym c.refusal_of.ensures ∙ c.in-None.is)).counts

pub returns-in-None-clause-fits : goal.returns-in-None-clause-fits
returns-in-None-clause-fits c = (accepted (configuration c.args.config.now)
    (capacity c.args.max_blocks c.args.medium_blocks) (sym c.refusal_of.ensures ∙ c.in-None.is)).fits

pub returns-in-None-clause-total : goal.returns-in-None-clause-total
returns-in-None-clause-total c =
    let fine = accepted (configuration c.args.config.now) (capacity c.args.max_blocks c.args.medium_blocks)
    (sym c.refusal_of.ensures ∙ c.in-None.is) in
    omega (arith, fine.fits)
