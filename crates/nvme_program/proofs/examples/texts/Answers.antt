use Rattle.std.proofs.Common.{refl}
use Rattle.std.specs.Fmt.{digits}
use Rattle.nvme_program.specs.RuleTexts.{rule_text}
use Rattle.nvme_program.proofs.examples.texts.Goals as goal

pub returns-clause-controller : goal.returns-clause-controller
unfolding rule_text digits
returns-clause-controller c = refl

pub returns-clause-size : goal.returns-clause-size
unfolding rule_text digits
returns-clause-size c = refl

pub returns-clause-attachment : goal.returns-clause-attachment
unfolding rule_text digits
returns-clause-attachment c = refl
