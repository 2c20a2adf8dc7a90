use Rattle.std.proofs.Common.{rules}
use Rattle.script_text.proofs.FillLemmas.{fill_data-sized}
use Rattle.script_text.proofs.data.is_byte.Goals as goal

pub returns-in-Err : goal.returns-in-Err
returns-in-Err c = rw (fill_data-sized c.args.len c.args.digits.now) (search rules)
