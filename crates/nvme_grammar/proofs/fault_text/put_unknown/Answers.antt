use Rattle.std.proofs.Common.{◌++◌, codes, refl}
use Rattle.nvme_grammar.specs.FaultTexts.{nearest_text, shown_word, unknown_text}
use Rattle.script_text.proofs.PageLemmas.{puts_behind}
use Rattle.nvme_grammar.proofs.fault_text.put_unknown.Goals as goal

pub returns : goal.returns
returns g c =
    puts_behind g.P.Page.room c.put_nearest.result (g.P.Page.written c.args.page.now)
    (g.P.Page.written c.put_word_between.new.page)
    (codes "there is no line '" ++ shown_word c.args.word.now ++ codes "'") (nearest_text c.args.nearest)
    (unknown_text c.args.word.now c.args.nearest) (g.P.Page.written c.put_nearest.new.page)
    c.in_ok-put_word_between.ensures refl c.put_nearest.ensures
