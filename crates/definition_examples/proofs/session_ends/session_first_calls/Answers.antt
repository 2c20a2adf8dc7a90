use Rattle.std.proofs.Common.{[], refl, inl, arith}
use Rattle.definition_examples.proofs.session_ends.session_first_calls.Goals as goal

pub returns-clause-ended : goal.returns-clause-ended
returns-clause-ended c s tells size d = record {
  next = 1;
  end = [];
  conversed = record { lines = []; answers = []; counted = refl; taken = refl; went = refl; sent = refl };
  ended = refl;
}

pub returns-clause-failed : goal.returns-clause-failed
returns-clause-failed c s tells size d = inl (record {
  next = 1;
  between = [];
  conversed = record { lines = []; answers = []; counted = refl; taken = refl; went = refl; sent = refl };
  failed = refl;
})

pub returns-clause-start : goal.returns-clause-start
returns-clause-start c s line says tells size d = record {
  between = [];
  conversed = record { lines = []; answers = []; counted = refl; taken = refl; went = refl; sent = refl };
  line = line;
  taken = refl;
  starts = says;
  countable = omega arith;
}
