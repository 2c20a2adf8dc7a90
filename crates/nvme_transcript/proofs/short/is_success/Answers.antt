use Rattle.std.proofs.Common.{rules}
use Rattle.nvme_transcript.proofs.ShortLemmas.{success_text}
use Rattle.nvme_transcript.proofs.short.is_success.Goals as goal

pub returns-then-status-eq0 : goal.returns-then-status-eq0
returns-then-status-eq0 c = λ is. success_text c.args.status (search rules) (search rules)
