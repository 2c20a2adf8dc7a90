use Rattle.std.proofs.Common.{◌≡◌, ◌≤◌, length, take, true, false, Some, Ok, Err, sym, ap, ◌∙◌, arith, subst}
use Rattle.nvme_pdu.specs.Layouts.{layout_of}
use Rattle.nvme_connection.specs.Connections.{out_of_sequence, is_in_turn, reached}
use Rattle.nvme_connection.specs.Holding.{IsLaid, Makes}
use Rattle.nvme_connection.proofs.Facts.{facts}
use Rattle.nvme_connection.proofs.Kept.{some-kept}
use Rattle.nvme_connection.proofs.Gathering.{short-made, broken-made, out-of-turn, at-fault, laid-made}
use Rattle.nvme_connection.proofs.connection.Connection.lay_out.Goals as goal

pub returns-then-self-lt8-clause-makes : goal.returns-then-self-lt8-clause-makes
returns-then-self-lt8-clause-makes c = λ d g. short-made c.args.self.now d g (omega
    (arith, sym g.count, c.if-self-lt8.true))

pub returns-then-not-is_in_turn-clause-makes : goal.returns-then-not-is_in_turn-clause-makes
returns-then-not-is_in_turn-clause-makes c = λ d g.
    let long : 8 ≤ length d.unit = omega (arith, sym g.count, c.if-self-lt8.false) in
    let turn : is_in_turn d d.unit ≡ false = sym (c.is_in_turn.ensures d g (omega (arith, long)))
    ∙ c.if-not-is_in_turn.true in
    subst (λ f. Makes (reached d d.unit) (Some f) c.end.new.self) (sym c.end.ensures.fatal)
    (broken-made c.end.new.self d out_of_sequence (out-of-turn d long turn) (c.end.ensures.ends d g))

pub returns-in-Ok-clause-makes : goal.returns-in-Ok-clause-makes
returns-in-Ok-clause-makes c = λ d g.
    let long : 8 ≤ length d.unit = omega (arith, sym g.count, c.if-self-lt8.false) in
    let turn : is_in_turn d d.unit ≡ true = sym (c.is_in_turn.ensures d g (omega (arith, long)))
    ∙ c.if-not-is_in_turn.false in
    let head : take 8 c.args.self.now.kept ≡ take 8 d.unit = some-kept _ d.unit c.args.self.now.count 8 (omega
    (arith, c.if-self-lt8.false)) (omega arith) g.kept in
    let same : layout_of c.args.self.now.agreed c.head.result
    ≡ layout_of d.agreed (take 8 d.unit) = ap (λ a. layout_of a c.head.result) g.agreed
    ∙ ap (layout_of d.agreed) (c.head.ensures ∙ head) in
    let is : layout_of d.agreed (take 8 d.unit) ≡ Ok c.in-Ok.layout = sym same ∙ sym c.of.ensures.exact ∙ c.in-Ok.is in
    let laid : IsLaid d c.in-Ok.layout = record {
      is = is;
      in_turn = turn;
      common = long;
      within = omega (
        arith,
        (facts _ _ _ is).long,
        c.requires.few,
        sym g.count,
      );
    } in
    laid-made c.args.self.now c.in-Ok.layout d laid g (omega (
      arith,
      (facts _ _ _ is).long,
      c.requires.few,
      sym g.count,
    ))

pub returns-in-Err-clause-makes : goal.returns-in-Err-clause-makes
returns-in-Err-clause-makes c = λ d g.
    let long : 8 ≤ length d.unit = omega (arith, sym g.count, c.if-self-lt8.false) in
    let turn : is_in_turn d d.unit ≡ true = sym (c.is_in_turn.ensures d g (omega (arith, long)))
    ∙ c.if-not-is_in_turn.false in
    let head : take 8 c.args.self.now.kept ≡ take 8 d.unit = some-kept _ d.unit c.args.self.now.count 8 (omega
    (arith, c.if-self-lt8.false)) (omega arith) g.kept in
    let same : layout_of c.args.self.now.agreed c.head.result
    ≡ layout_of d.agreed (take 8 d.unit) = ap (λ a. layout_of a c.head.result) g.agreed
    ∙ ap (layout_of d.agreed) (c.head.ensures ∙ head) in
    let is : layout_of d.agreed (take 8 d.unit) ≡ Err c.in-Err.fatal = sym same ∙ sym c.of.ensures.exact
    ∙ c.in-Err.is in
    subst (λ f. Makes (reached d d.unit) (Some f) c.end-in-Err.new.self) (sym c.end-in-Err.ensures.fatal)
    (broken-made c.end-in-Err.new.self d c.in-Err.fatal (at-fault d c.in-Err.fatal long turn is)
    (c.end-in-Err.ensures.ends d g))
