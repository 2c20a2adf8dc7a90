use Rattle.std.proofs.Common.{rules}
use Rattle.library_text.proofs.PuttingLemmas.{write32-short}
use Rattle.library_text.proofs.event.put_write32.Goals as goal

pub put_short-requires : goal.put_short-requires
put_short-requires c =
    write32-short c.args.cntlid c.args.offset c.args.value (search rules) (search rules) (search rules)
