use Rattle.std.proofs.Common.{refl, arith}
use Rattle.nvme_medium.proofs.examples.two_blocks_are_read.Goals as goal

pub returns-clause-both : goal.returns-clause-both
returns-clause-both c = record {
  passed = 2;
  ends = refl;
  made = (_, refl, (_, refl, refl));
  read = λ told. refl;
  behind = refl;
  long = refl;
}

pub returns-clause-first : goal.returns-clause-first
returns-clause-first c = λ fault. record {
  passed = 1;
  ends = omega arith;
  made = (_, refl, (_, refl, refl));
  read = λ told. refl;
  behind = refl;
  long = refl;
}

pub returns-clause-none : goal.returns-clause-none
returns-clause-none c = λ fault. record {
  passed = 0;
  ends = omega arith;
  made = (_, refl, refl);
  read = λ told. refl;
  behind = refl;
  long = refl;
}
