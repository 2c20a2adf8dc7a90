use Rattle.std.proofs.Common.{rules}
use Rattle.library_text.proofs.PuttingLemmas.{execute-short}
use Rattle.library_text.proofs.event.put_execute.Goals as goal

pub put_short-requires : goal.put_short-requires
put_short-requires c = execute-short c.args.cntlid c.args.i (search rules) c.requires
