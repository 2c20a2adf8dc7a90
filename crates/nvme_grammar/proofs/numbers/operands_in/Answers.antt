use Rattle.nvme_grammar.proofs.EventLemmas.{asks_protect, asks_report}
use Rattle.nvme_grammar.proofs.numbers.operands_in.Goals as goal

pub returns-in_ok-state-in-Protect-clause-some : goal.returns-in_ok-state-in-Protect-clause-some
returns-in_ok-state-in-Protect-clause-some c =
    let asked = c.in_ok-state-in-Protect in
    let is = asked.ensures.some in
    λ words h. rw c.in-Protect.is (asks_protect c.args.nsid asked.state is.1 words (rw is.0 at h))

pub returns-in_ok-dwords-in-Report-clause-some : goal.returns-in_ok-dwords-in-Report-clause-some
returns-in_ok-dwords-in-Report-clause-some c =
    let asked = c.in_ok-dwords-in-Report in
    let is = asked.ensures.some in
    λ words h. rw c.in-Report.is (asks_report c.args.nsid asked.dwords is.1 words (rw is.0 at h))
