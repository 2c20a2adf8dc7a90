use Rattle.std.proofs.Common.{◌≡◌, ◌≤◌, refl, arith}
use Rattle.nvme_capsules.proofs.examples.own_data.Goals as goal

pub returns-clause-inside : goal.returns-clause-inside
returns-clause-inside c = record {
  sized = record { direction = refl; size = refl; some = omega arith; most = omega arith };
  identifier = refl;
  begins = refl;
  within = omega arith;
}

pub returns-clause-too_short : goal.returns-clause-too_short
returns-clause-too_short c h = let w : 8 ≤ 7 = h.within in omega (arith, w)

pub returns-clause-of_another_place : goal.returns-clause-of_another_place
returns-clause-of_another_place c h = let b : 0 ≡ 1 = h.begins in omega (arith, b)

pub returns-clause-asked_for : goal.returns-clause-asked_for
returns-clause-asked_for c h = let i : 90 ≡ 1 = h.identifier in omega (arith, i)

pub returns-clause-returned : goal.returns-clause-returned
returns-clause-returned c = record { direction = λ some. refl; size = λ some. refl; most = omega arith }

pub returns-clause-none : goal.returns-clause-none
returns-clause-none c = record {
  direction = λ some. absurd (omega (arith, some));
  size = λ some. absurd (omega (arith, some));
  most = omega arith;
}

pub returns-clause-more : goal.returns-clause-more
returns-clause-more c h = let s : 9 ≡ 8 = h.size (omega arith) in omega (arith, s)

pub returns-clause-written : goal.returns-clause-written
returns-clause-written c h = let d : 1 ≡ 2 = h.direction (omega arith) in omega (arith, d)

pub returns-clause-too_many : goal.returns-clause-too_many
returns-clause-too_many c h = let m : 131073 ≤ 131072 = h.most in omega (arith, m)
