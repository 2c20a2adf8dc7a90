use Rattle.std.proofs.Common.{◌∙◌, ◌++◌, List, ℕ, ap, subst}
use Rattle.library_text.specs.Putting.{PutsIf}
use Rattle.library_text.proofs.PuttingLemmas.{if-puts}
use Rattle.library_text.proofs.putting.put_text.Goals as goal

pub returns-in-Ok-put_ended : goal.returns-in-Ok-put_ended
returns-in-Ok-put_ended g c =
    let is = c.as_bytes.ensures ∙ c.in-Ok-put_ended.ensures
    ∙ ap (λ t. t ++ (g.T.Spell.spelled c.args.value.now ++ c.args.end.now)) c.in-Ok.ensures in
    subst (λ (t : List ℕ). PutsIf t c.put_bytes.result c.args.buffer.now c.put_bytes.new.buffer) is
    (if-puts c.as_bytes.result.now c.args.buffer.now c.put_bytes.new.buffer c.put_bytes.result c.put_bytes.ensures)
