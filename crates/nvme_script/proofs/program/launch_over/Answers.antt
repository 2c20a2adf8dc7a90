use Rattle.std.proofs.Common.{List, [], ◌∷◌, ap, refl}
use Rattle.std.specs.Borrow.{GName}
use Rattle.nvme_script.specs.ProgramRuns.{ScriptProgramEnds}
use Rattle.nvme_script.proofs.program.launch_over.Goals as goal

abbrev first : GName → List GName → GName
first other [] = other
first other (name ∷ names) = name

abbrev second : GName → List GName → GName
second other [] = other
second other (name ∷ []) = other
second other (name ∷ next ∷ names) = next

pub returns-clause-ends : goal.returns-clause-ends
unfolding ScriptProgramEnds
returns-clause-ends g c = (
  c.args.streams.now,
  c.launch.new.runner,
  refl,
  refl,
  c.requires.allowed,
  refl,
  refl,
  rw c.after_any_size.ensures at c.launch.ensures.ends,
)

pub returns-clause-input : goal.returns-clause-input
returns-clause-input g c = ap (first c.args.streams.now.input_name) c.launch.ensures.links

pub returns-clause-output : goal.returns-clause-output
returns-clause-output g c = ap (second c.args.streams.now.output_name) c.launch.ensures.links
