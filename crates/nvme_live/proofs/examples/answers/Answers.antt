use Rattle.nvme_live.proofs.StreamExamples.{at_once, failed, flush_failed, flushed_first, in_parts, twice, unflushed}
use Rattle.nvme_live.proofs.examples.answers.Goals as goal

pub returns-clause-at_once : goal.returns-clause-at_once
returns-clause-at_once c = at_once

pub returns-clause-in_parts : goal.returns-clause-in_parts
returns-clause-in_parts c = in_parts

pub returns-clause-unflushed : goal.returns-clause-unflushed
returns-clause-unflushed c = unflushed

pub returns-clause-flushed_first : goal.returns-clause-flushed_first
returns-clause-flushed_first c = flushed_first

pub returns-clause-twice : goal.returns-clause-twice
returns-clause-twice c = twice

pub returns-clause-failed : goal.returns-clause-failed
returns-clause-failed c = failed

pub returns-clause-flush_failed : goal.returns-clause-flush_failed
returns-clause-flush_failed c = flush_failed
