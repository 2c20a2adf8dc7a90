use Rattle.std.proofs.Common.{rules, ◌≤◌, ◌∙◌, length, None, Ok, Some, [], refl, sym, subst, arith}
use Rattle.nvme_spec.specs.Limits.{most_bytes}
use Rattle.nvme_driver.specs.Drivers.{Driver}
use Rattle.nvme_driver.specs.Polls.{IsOldest, IsPolled}
use Rattle.nvme_driver.proofs.Looking.{polls-nothing, polls-one}
use Rattle.nvme_driver.proofs.driver.Driver.poll_into.Goals as goal

pub returns-in-Some-clause-polls : goal.returns-in-Some-clause-polls
returns-in-Some-clause-polls g c = record {
  window = [];
  oldest = Some c.in-Some.slot;
  is_oldest = search rules;
  gives = search rules;
  driver = search rules;
  calls = search rules;
  front = search rules;
  size = search rules;
}

pub returns-in_default-found-clause-polls : goal.returns-in_default-found-clause-polls
returns-in_default-found-clause-polls g c =
    let e = c.oldest_aborted.ensures.driver in
    let oldest =
    subst (λ (d : Driver). IsOldest d.slots None) (sym e) (c.oldest_aborted.ensures.none c.in_default.is) in
    let up = sym c.is_up.ensures ∙ c.if-not-is_up.false in
    subst (λ (d : Driver). IsPolled g.P.Port.step d c.args.port.now (Ok None) c.oldest_aborted.new.self c.found.new.port
    c.args.buffer.now) e
    (polls-nothing g.P.Port.step c.oldest_aborted.new.self _ _ _ _ _ c.found.result oldest up c.in_default-found.is refl
    refl c.found.ensures.calls)

pub returns-clause-polls : goal.returns-clause-polls
returns-clause-polls g c =
    let e = c.oldest_aborted.ensures.driver in
    let oldest =
    subst (λ (d : Driver). IsOldest d.slots None) (sym e) (c.oldest_aborted.ensures.none c.in_default.is) in
    let up = sym c.is_up.ensures ∙ c.if-not-is_up.false in
    let room : most_bytes ≤ length c.hand_up.new.buffer = omega (arith, c.requires, c.hand_up.ensures.whole) in
    subst
    (λ (d : Driver). IsPolled g.P.Port.step d c.args.port.now c.hand_up.result c.hand_up.new.self
    c.hand_up.new.port c.hand_up.new.buffer) e
    (polls-one g.P.Port.step c.oldest_aborted.new.self _ _ _ _ c.hand_up.result c.hand_up.new.buffer c.found.result
    c.in-Some-found.found oldest up c.in-Some-found.is c.in-Some-found.ensures.new
    c.in-Some-found.ensures.size c.found.ensures.calls c.hand_up.ensures.answer c.hand_up.ensures.driver
    c.hand_up.ensures.calls c.hand_up.ensures.most room c.hand_up.ensures.slot)
