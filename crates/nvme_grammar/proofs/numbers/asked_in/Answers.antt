use Rattle.std.proofs.Common.{refl}
use Rattle.nvme_grammar.specs.Lent.{request_by_value}
use Rattle.nvme_grammar.proofs.EventLemmas.{places, front_bits}
use Rattle.nvme_grammar.proofs.numbers.asked_in.Goals as goal

pub returns-in_err-cntlid-clause-none : goal.returns-in_err-cntlid-clause-none
returns-in_err-cntlid-clause-none c =
    λ none. front_bits c.args.keyword c.args.numbers.now (c.in_err-cntlid.ensures.none refl)

pub returns-clause-some : goal.returns-clause-some
returns-clause-some c =
    let front = c.in_ok-cntlid in
    let is = front.ensures.some in
    λ words h. places c.args.keyword front.cntlid front.nsid front.operands.now
    (request_by_value c.in_ok-request.request) is.1 is.2 c.in_ok-request.ensures.some words (rw is.0 at h)
