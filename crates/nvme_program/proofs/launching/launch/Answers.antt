use Rattle.std.proofs.Common.{List, ℕ, Bor, ap, map, option_map, sym, ◌∙◌}
use Rattle.std.specs.String.{string_bytes}
use Rattle.nvme_program.proofs.ProgramEnds.{words_are_taken}
use Rattle.nvme_program.proofs.launching.launch.Goals as goal

pub returns-in-Some-clause-ends : goal.returns-in-Some-clause-ends
returns-in-Some-clause-ends g c = words_are_taken g.S.System.step g.S.Image.Medium _ g.S.Script.Source g.R.Runner
    (map string_bytes c.args.words.now) _ _ c.args.system.now c.args.runner.now _ c.run_image.new.system
    c.run_image.new.runner c.in-Ok.ensures.taken
    (ap (option_map (λ (path : Bor (List ℕ)). path.now)) (sym c.in-Some.is) ∙ c.in-Ok.ensures.named.image)
    c.in-Ok.ensures.named.script c.run_image.ensures.ends

pub returns-in-None-clause-ends : goal.returns-in-None-clause-ends
returns-in-None-clause-ends g c = words_are_taken g.S.System.step g.S.Image.Medium _ g.S.Script.Source g.R.Runner
    (map string_bytes c.args.words.now) _ _ c.args.system.now c.args.runner.now _ c.run_scratch.new.system
    c.run_scratch.new.runner c.in-Ok.ensures.taken
    (ap (option_map (λ (path : Bor (List ℕ)). path.now)) (sym c.in-None.is) ∙ c.in-Ok.ensures.named.image)
    c.in-Ok.ensures.named.script c.run_scratch.ensures.ends
