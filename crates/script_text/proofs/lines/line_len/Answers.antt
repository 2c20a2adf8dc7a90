use Rattle.script_text.proofs.LineLemmas.{line-found, line-not_found}
use Rattle.script_text.proofs.lines.line_len.Goals as goal

pub returns-in-Some : goal.returns-in-Some
returns-in-Some c = line-found c.args.text.now c.in-Some.place c.in-Some.ensures

pub returns-in-None : goal.returns-in-None
returns-in-None c = line-not_found c.args.text.now c.in-None.ensures
