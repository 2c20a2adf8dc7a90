use Rattle.nvme_medium.proofs.FileLaws.{calls-in-parts, files_have_blocks_alone, flushes_are_syncs}
use Rattle.nvme_medium.proofs.laws.file_calls_are_parts.Goals as goal

pub returns-clause-behind : goal.returns-clause-behind
returns-clause-behind g c = λ old new calls made. calls-in-parts g.F.RawFile.step (λ m. m.file) old new calls made

pub returns-clause-blocks : goal.returns-clause-blocks
returns-clause-blocks g c = files_have_blocks_alone

pub returns-clause-syncs : goal.returns-clause-syncs
returns-clause-syncs g c = flushes_are_syncs
