use Rattle.definition_examples.proofs.CoreNotices.{
  core_notice_counts_rise,
  core_notice_counts_equal,
  core_notice_counts_above_last,
}
use Rattle.definition_examples.proofs.core_notices.core_notice_counts.Goals as goal

pub returns-clause-rise : goal.returns-clause-rise
returns-clause-rise c = core_notice_counts_rise

pub returns-clause-equal : goal.returns-clause-equal
returns-clause-equal c = core_notice_counts_equal

pub returns-clause-above_last : goal.returns-clause-above_last
returns-clause-above_last c = core_notice_counts_above_last
