use Rattle.std.proofs.Common.{sym}
use Rattle.nvme_grammar.proofs.EventLemmas.{asks_register, asks_acquire, asks_release}
use Rattle.nvme_grammar.proofs.numbers.reservation_in.Goals as goal

pub returns-in_ok-iekey-in-Register-clause-some : goal.returns-in_ok-iekey-in-Register-clause-some
returns-in_ok-iekey-in-Register-clause-some c =
    let asked = c.in_ok-action-in-Register in
    let is = asked.ensures.some in
    let bit = c.in_ok-iekey-in-Register in
    λ words h. rw c.in-Register.is (asks_register c.args.nsid asked.action asked.iekey asked.cptpl asked.crkey
    asked.nrkey bit.iekey is.1 is.2 (sym bit.ensures) words (rw is.0 at h))

pub returns-in_ok-action-in-Acquire-clause-some : goal.returns-in_ok-action-in-Acquire-clause-some
returns-in_ok-action-in-Acquire-clause-some c =
    let asked = c.in_ok-action-in-Acquire in
    let is = asked.ensures.some in
    λ words h. rw c.in-Acquire.is
    (asks_acquire c.args.nsid asked.action asked.rtype asked.crkey asked.prkey is.1 is.2 words (rw is.0 at h))

pub returns-in_ok-action-in-Release-clause-some : goal.returns-in_ok-action-in-Release-clause-some
returns-in_ok-action-in-Release-clause-some c =
    let asked = c.in_ok-action-in-Release in
    let is = asked.ensures.some in
    λ words h.
    rw c.in-Release.is (asks_release c.args.nsid asked.action asked.rtype asked.crkey is.1 is.2 words (rw is.0 at h))
