use Rattle.std.proofs.Common.{rules}
use Rattle.library_text.proofs.PuttingLemmas.{fetch-short}
use Rattle.library_text.proofs.event.put_fetch.Goals as goal

pub put_short-requires : goal.put_short-requires
put_short-requires c = fetch-short c.args.cntlid c.args.qid (search rules) (search rules)
