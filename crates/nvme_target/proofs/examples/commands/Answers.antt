use Rattle.std.proofs.Common.{◌≡◌, ◌+◌, sym, ◌∙◌, refl, arith}
use Rattle.nvme_fabrics.specs.declared.session.Session.TheVariants as session
use Rattle.nvme_target.proofs.ExampleSessions.{live-8, live-9, closed-8, ended-8}
use Rattle.nvme_target.proofs.examples.commands.Goals as goal

pub returns-clause-own : goal.returns-clause-own
returns-clause-own c = record { index = 0; qid = 1; is = live-8; at = refl }

pub returns-clause-of_another : goal.returns-clause-of_another
returns-clause-of_another c q =
    let same : session.Queue 0 1 ≡ session.Queue q.index q.qid = sym live-8 ∙ q.is in
    let here : 0 ≡ q.index = cc in
    let at : 2 ≡ q.index + 1 = q.at in omega (arith, here, at)

pub returns-clause-power : goal.returns-clause-power
returns-clause-power c q = let at : 0 ≡ q.index + 1 = q.at in omega (arith, at)

pub returns-clause-no_queue : goal.returns-clause-no_queue
returns-clause-no_queue c q =
    let same : session.NotConnected ≡ session.Queue q.index q.qid = sym live-9 ∙ q.is in absurd (cc)

pub returns-clause-closed : goal.returns-clause-closed
returns-clause-closed c q =
    let same : session.Ended ≡ session.Queue q.index q.qid = sym closed-8 ∙ q.is in absurd (cc)

pub returns-clause-ended : goal.returns-clause-ended
returns-clause-ended c q =
    let same : session.Ended ≡ session.Queue q.index q.qid = sym ended-8 ∙ q.is in absurd (cc)
