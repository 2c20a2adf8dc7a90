use Rattle.std.proofs.Common.{◌≡◌, rules, sym, ◌∙◌, Some}
use Rattle.nvme_spec.specs.Rules.{judgement_by}
use Rattle.nvme_spec.specs.IoRules.{range_rule}
use Rattle.nvme_policy.proofs.InRange.{plan_in_range, on_ok}
use Rattle.nvme_policy.proofs.rules.check_range.Goals as goal

pub returns-clause-in_range : goal.returns-clause-in_range
unfolding range_rule
returns-clause-in_range c =
    let judged : c.deny_if.result
    ≡ judgement_by (range_rule (Some c.args.command) (Some c.args.namespace.now) c.args.sqe.now) = search rules in
    on_ok c.deny_if.result
    (λ passed. plan_in_range c.args.command c.args.namespace.now c.args.sqe.now (sym judged ∙ passed))
