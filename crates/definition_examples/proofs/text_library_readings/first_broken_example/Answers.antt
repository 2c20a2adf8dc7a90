use Rattle.std.proofs.Common.{refl}
use Rattle.nvme_grammar.proofs.OnLiterals.{lines_on_literals}
use Rattle.nvme_ns.specs.Refusals.{refusal_of}
use Rattle.nvme_ns.specs.declared.refusal.SetupLine.TheVariants.{Controller}
use Rattle.definition_examples.proofs.text_library_readings.first_broken_example.Goals as goal

pub returns-clause-broken : goal.returns-clause-broken
unfolding lines_on_literals refusal_of
returns-clause-broken c = record {
  line = Controller 0;
  begins = record { spelled = refl; placed = (refl, tt) };
  first = refl;
  fault_is = refl;
  number = refl;
}
