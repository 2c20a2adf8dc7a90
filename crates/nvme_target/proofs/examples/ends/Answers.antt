use Rattle.std.proofs.Common.{◌≡◌, ◌+◌, List, ◌∷◌, sym, ap, subst, ◌∙◌, refl, arith}
use Rattle.nvme_fabrics.specs.declared.session.Session.TheVariants as session
use Rattle.nvme_fabrics.specs.Examples.{two_queues, other_command}
use Rattle.nvme_fabrics.specs.Runs.{Input, Executes, Closes}
use Rattle.nvme_target.specs.Causes.{MayEnd}
use Rattle.nvme_target.proofs.ExampleSessions.{now, lives, live-8}
use Rattle.nvme_target.proofs.examples.ends.Goals as goal

last-same : (a b : Input) (xs ys : List Input) → (a ∷ xs) ≡ (b ∷ ys) → a ≡ b
last-same a b xs ys h = cc

rest-same : (a b : Input) (xs ys : List Input) → (a ∷ xs) ≡ (b ∷ ys) → xs ≡ ys
rest-same a b xs ys h = cc

pub returns-clause-own : goal.returns-clause-own
returns-clause-own c = record {
  last = Closes 8;
  before = two_queues;
  are = refl;
  ends = refl;
  queue = record { index = 0; qid = 1; is = live-8; at = refl };
}

pub returns-clause-disconnected : goal.returns-clause-disconnected
returns-clause-disconnected c = record {
  last = Executes 8 (other_command 8 0);
  before = two_queues;
  are = refl;
  ends = refl;
  queue = record { index = 0; qid = 1; is = live-8; at = refl };
}

pub returns-clause-of_another : goal.returns-clause-of_another
returns-clause-of_another c was =
    let before = rest-same _ _ _ _ was.are in
    let same : session.Queue 0 1 ≡ session.Queue was.queue.index was.queue.qid =
    sym live-8 ∙ ap (λ xs. lives (now xs) 8) before ∙ was.queue.is in
    let here : 0 ≡ was.queue.index = cc in
    let at : 2 ≡ was.queue.index + 1 = was.queue.at in omega (arith, here, at)

pub returns-clause-not_this : goal.returns-clause-not_this
returns-clause-not_this c was =
    let last = last-same _ _ _ _ was.are in
    let other : 8 ≡ 7 = subst (MayEnd 7) (sym last) was.ends in omega (arith, other)

pub returns-clause-later : goal.returns-clause-later
returns-clause-later c was =
    let last = last-same _ _ _ _ was.are in
    let other : 7 ≡ 8 = subst (MayEnd 8) (sym last) was.ends in omega (arith, other)

pub returns-clause-by_the_target : goal.returns-clause-by_the_target
returns-clause-by_the_target c was =
    let last = last-same _ _ _ _ was.are in subst (MayEnd 8) (sym last) was.ends
