use Rattle.std.proofs.Common.{rules}
use Rattle.script_text.proofs.FillLemmas.{fill_data-sized}
use Rattle.script_text.proofs.data.filled.Goals as goal

pub returns-in_err-ok : goal.returns-in_err-ok
returns-in_err-ok c = rw (fill_data-sized c.args.len c.args.digits.now) (search rules)
