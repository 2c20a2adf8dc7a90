use Rattle.definition_examples.proofs.example_values.example_claims.Goals as goal

pub returns-clause-answers : goal.returns-clause-answers
returns-clause-answers c claim size d n old new other text before left right after another once one two =
    (claim size d n old new other text before left right after another once one two).1
