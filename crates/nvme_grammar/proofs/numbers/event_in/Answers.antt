use Rattle.std.proofs.Common.{◌≡◌, rules}
use Rattle.nvme_grammar.proofs.EventLemmas.{
  says_up,
  says_ring,
  says_poll,
  says_reset,
  says_fetch,
  says_execute,
  says_identify,
  says_write32,
  says_power_cycle,
}
use Rattle.nvme_grammar.proofs.numbers.event_in.Goals as goal

pub returns-in_ok-alone_in-in-Up-clause-some : goal.returns-in_ok-alone_in-in-Up-clause-some
returns-in_ok-alone_in-in-Up-clause-some c =
    let is = c.in_ok-alone_in-in-Up.ensures.some in
    λ words h. rw c.in-Up.is (says_up c.in_ok-alone_in-in-Up.field-0 is.1 words (rw is.0 at h))

pub returns-in_ok-alone_in-in-Ring-clause-some : goal.returns-in_ok-alone_in-in-Ring-clause-some
returns-in_ok-alone_in-in-Ring-clause-some c =
    let is = c.in_ok-alone_in-in-Ring.ensures.some in
    λ words h. rw c.in-Ring.is (says_ring c.in_ok-alone_in-in-Ring.field-0 is.1 words (rw is.0 at h))

pub returns-in_ok-alone_in-in-Poll-clause-some : goal.returns-in_ok-alone_in-in-Poll-clause-some
returns-in_ok-alone_in-in-Poll-clause-some c =
    let is = c.in_ok-alone_in-in-Poll.ensures.some in
    λ words h. rw c.in-Poll.is (says_poll c.in_ok-alone_in-in-Poll.field-0 is.1 words (rw is.0 at h))

pub returns-in_ok-alone_in-in-Reset-clause-some : goal.returns-in_ok-alone_in-in-Reset-clause-some
returns-in_ok-alone_in-in-Reset-clause-some c =
    let is = c.in_ok-alone_in-in-Reset.ensures.some in
    λ words h. rw c.in-Reset.is (says_reset c.in_ok-alone_in-in-Reset.field-0 is.1 words (rw is.0 at h))

pub returns-in_ok-cntlid-in-Fetch-clause-some : goal.returns-in_ok-cntlid-in-Fetch-clause-some
returns-in_ok-cntlid-in-Fetch-clause-some c =
    let pair = c.in_ok-cntlid-in-Fetch in
    let is = pair.ensures.some in
    λ words h. rw c.in-Fetch.is (says_fetch pair.cntlid is.1 pair.queue is.2 words (rw is.0 at h))

pub returns-in_ok-cntlid-in-Execute-clause-some : goal.returns-in_ok-cntlid-in-Execute-clause-some
returns-in_ok-cntlid-in-Execute-clause-some c =
    let pair = c.in_ok-cntlid-in-Execute in
    let is = pair.ensures.some in
    let same : c.from.result ≡ pair.index = search rules in
    λ words h. rw (c.in-Execute.is, same) (says_execute pair.cntlid is.1 pair.index is.2 words (rw is.0 at h))

pub returns-in_ok-cntlid-in-Identify-clause-some : goal.returns-in_ok-cntlid-in-Identify-clause-some
returns-in_ok-cntlid-in-Identify-clause-some c =
    let asked = c.in_ok-cntlid-in-Identify in
    let is = asked.ensures.some in
    λ words h. rw c.in-Identify.is (says_identify asked.cntlid is.1 asked.cns asked.nsid is.2 is.3 words (rw is.0 at h))

pub returns-in_ok-cntlid-in-Write32-clause-some : goal.returns-in_ok-cntlid-in-Write32-clause-some
returns-in_ok-cntlid-in-Write32-clause-some c =
    let asked = c.in_ok-cntlid-in-Write32 in
    let is = asked.ensures.some in
    λ words h. rw c.in-Write32.is (says_write32 asked.cntlid is.1 asked.offset asked.value is.2 words (rw is.0 at h))

pub returns-in-PowerCycle-clause-some : goal.returns-in-PowerCycle-clause-some
returns-in-PowerCycle-clause-some c =
    λ words h. rw c.in-PowerCycle.is (says_power_cycle c.args.numbers.now (search rules) words h)
