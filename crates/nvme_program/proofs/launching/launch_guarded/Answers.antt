use Rattle.std.proofs.Common.{Some, ap, map}
use Rattle.std.specs.String.{string_bytes}
use Rattle.nvme_program.proofs.Guarded.{words_fail}
use Rattle.nvme_program.proofs.launching.launch_guarded.Goals as goal

pub returns-in-Err-clause-ends : goal.returns-in-Err-clause-ends
returns-in-Err-clause-ends g c = words_fail g.S.System.step g.S.Image.Medium _ g.S.Script.Source g.R.Runner
    (map string_bytes c.args.words.now) (map string_bytes c.behind_option-behind.result.now) c.in-Err.failure
    c.args.system.now c.args.runner.now
    _ c.refuse_words.new.runner c.behind_option-behind.ensures c.in-Err.ensures.refused c.in-Err.ensures.memory
    (ap Some c.refuse_words.ensures.same, c.refuse_words.ensures.tells)
