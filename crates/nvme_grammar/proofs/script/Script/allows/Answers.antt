use Rattle.std.proofs.Common.{◌∙◌}
use Rattle.nvme_grammar.specs.Lent.{event_by_value}
use Rattle.nvme_grammar.proofs.ReadingLemmas.{fits-event, fits-setup, not-none}
use Rattle.nvme_grammar.proofs.script.Script.allows.Goals as goal

pub returns-in-Event : goal.returns-in-Event
returns-in-Event c = λ lines h.
    rw c.in-Event.is (c.is_some.ensures ∙ fits-event c.args.self.now lines (event_by_value c.in-Event.field-0) h)

pub returns-in-Controller : goal.returns-in-Controller
returns-in-Controller c = λ lines h. not-none c.args.self.now.start c.is_none.result c.is_none.ensures
    ∙ fits-setup c.args.self.now lines c.args.line.now h c.in-Controller.is
