use Rattle.std.proofs.Common.{◌≤◌, refl, arith}
use Rattle.nvme_data_buffers.proofs.store_examples.elsewhere.Goals as goal

pub returns-clause-completion : goal.returns-clause-completion
returns-clause-completion c = record {
  is = omega arith;
  no_buffer = λ e. absurd (cc);
  no_list = λ e. absurd (cc);
  inside = record { from = omega arith; until = omega arith };
}

pub returns-clause-data : goal.returns-clause-data
returns-clause-data c = record {
  is = tt;
  no_buffer = λ e. absurd (cc);
  no_list = λ e. absurd (cc);
  inside = record { from = omega arith; until = omega arith };
}

pub returns-clause-own : goal.returns-clause-own
returns-clause-own c other = other.no_buffer refl

pub returns-clause-list : goal.returns-clause-list
returns-clause-list c other = other.no_list refl

pub returns-clause-before : goal.returns-clause-before
returns-clause-before c other = let from : 16384 ≤ 16383 = other.inside.from in omega (arith, from)

pub returns-clause-after : goal.returns-clause-after
returns-clause-after c other = let until : 4194305 ≤ 4194304 = other.inside.until in omega (arith, until)
