use Rattle.script_text.proofs.TrimLemmas.{trailing-zero, trailing-other}
use Rattle.script_text.proofs.hex_text.trimmed.Goals as goal

pub loop-last-preserved : goal.loop-last-preserved
loop-last-preserved c =
    let zero_goes = trailing-zero c.in-Some.front.now in
    let ends = c.in-Some.ensures.cases.0 in
    cc

pub returns-then-last-ne0 : goal.returns-then-last-ne0
returns-then-last-ne0 c =
    let stays = trailing-other c.in-Some.front.now c.in-Some.last.now c.if-last-ne0.true in
    let ends = c.in-Some.ensures.cases.0 in
    cc
