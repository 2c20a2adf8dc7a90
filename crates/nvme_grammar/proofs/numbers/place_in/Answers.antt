use Rattle.nvme_grammar.proofs.EventLemmas.{says_read, says_zeroes, says_flush, says_protection}
use Rattle.nvme_grammar.proofs.numbers.place_in.Goals as goal

pub returns-in_ok-cntlid-in-Read-clause-some : goal.returns-in_ok-cntlid-in-Read-clause-some
returns-in_ok-cntlid-in-Read-clause-some c =
    let asked = c.in_ok-cntlid-in-Read in
    let is = asked.ensures.some in
    λ words h.
    rw c.in-Read.is (says_read asked.cntlid is.1 asked.nsid is.2 asked.slba asked.blocks is.3 words (rw is.0 at h))

pub returns-in_ok-cntlid-in-Zeroes-clause-some : goal.returns-in_ok-cntlid-in-Zeroes-clause-some
returns-in_ok-cntlid-in-Zeroes-clause-some c =
    let asked = c.in_ok-cntlid-in-Zeroes in
    let is = asked.ensures.some in
    λ words h.
    rw c.in-Zeroes.is (says_zeroes asked.cntlid is.1 asked.nsid is.2 asked.slba asked.blocks is.3 words (rw is.0 at h))

pub returns-in_ok-cntlid-in-Flush-clause-some : goal.returns-in_ok-cntlid-in-Flush-clause-some
returns-in_ok-cntlid-in-Flush-clause-some c =
    let asked = c.in_ok-cntlid-in-Flush in
    let is = asked.ensures.some in
    λ words h. rw c.in-Flush.is (says_flush asked.cntlid is.1 asked.nsid is.2 words (rw is.0 at h))

pub returns-in_ok-cntlid-in-Protection-clause-some : goal.returns-in_ok-cntlid-in-Protection-clause-some
returns-in_ok-cntlid-in-Protection-clause-some c =
    let asked = c.in_ok-cntlid-in-Protection in
    let is = asked.ensures.some in
    λ words h. rw c.in-Protection.is (says_protection asked.cntlid is.1 asked.nsid is.2 words (rw is.0 at h))
