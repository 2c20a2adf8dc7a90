use Rattle.std.proofs.Common.{arith, ◌-◌, ◌≡◌, ◌+◌, ◌<◌, suc, sym, ◌∙◌, Some, None}
use Rattle.nvme_driver.specs.Rises.{own_of}
use Rattle.nvme_driver.proofs.Risen.{awaits-none, awaits-found, awaits-more}
use Rattle.nvme_driver.proofs.driver.bring_up.await_answer.Goals as goal

pub returns-in-Some-clause-awaits : goal.returns-in-Some-clause-awaits
returns-in-Some-clause-awaits g c =
    let e : own_of c.args.ends c.next_if_new-seen.result ≡ Some c.in-Some.entry = sym c.own_of.ensures ∙ c.in-Some.is in
    let p : 0 < 4 - c.loop.counter = omega (arith, c.loop-test.true) in
    c.loop.invariant.rest _ _
    (awaits-found _ _ (4 - c.loop.counter) _ _ _ _ _ p c.turn.ensures.step c.next_if_new-seen.ensures.step e)

pub loop-preserved : goal.loop-preserved
loop-preserved g c =
    let e : own_of c.args.ends c.next_if_new-seen.result ≡ None = sym c.own_of.ensures ∙ c.in_default.is in
    let p : 4 - c.loop.counter ≡ suc (4 - (c.loop.counter + 1)) = omega (arith, c.loop-test.true) in
    record {
      rest = λ answer new h. c.loop.invariant.rest _ _
          (awaits-more _ _ (4 - c.loop.counter) (4 - (c.loop.counter + 1)) _ _ _ _ _ _ p c.turn.ensures.step
          c.next_if_new-seen.ensures.step e h);
      links = c.next_if_new-seen.ensures.links ∙ c.turn.ensures.links ∙ c.loop.invariant.links;
    }

pub returns-clause-awaits : goal.returns-clause-awaits
returns-clause-awaits g c =
    let z : 4 - c.loop.counter ≡ 0 = omega (arith, c.loop-test.false) in
    c.loop.invariant.rest _ _ (awaits-none _ _ (4 - c.loop.counter) _ z)
