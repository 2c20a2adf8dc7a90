use Rattle.std.proofs.Common.{refl, sym, ◌∙◌}
use Rattle.nvme_grammar.proofs.ReadingLemmas.{Says-started, Says-nothing}
use Rattle.nvme_grammar.proofs.script.Script.finish.Goals as goal

pub returns-then-is_some-clause-says : goal.returns-then-is_some-clause-says
returns-then-is_some-clause-says c =
    λ lines h. Says-started c.args.self lines h (sym c.is_some.ensures ∙ c.if-is_some.true)

pub returns-clause-says : goal.returns-clause-says
returns-clause-says c = λ lines h. Says-nothing c.args.self _ lines h (sym c.is_some.ensures ∙ c.if-is_some.false)
    c.clear.ensures.items c.clear-2.ensures.items c.clear-3.ensures.items refl
