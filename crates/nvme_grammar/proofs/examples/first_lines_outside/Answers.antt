use Rattle.std.proofs.Common.{refl, lit<}
use Rattle.std.proofs.lemmas.Bool.{false≢true}
use Rattle.nvme_grammar.proofs.OnLiterals.{lines_on_literals}
use Rattle.nvme_grammar.proofs.ScriptLemmas.{IsFirstOutside-at}
use Rattle.nvme_grammar.proofs.examples.first_lines_outside.Goals as goal

pub returns-clause-cut : goal.returns-clause-cut
unfolding lines_on_literals
returns-clause-cut c = IsFirstOutside-at _ 4 (lit< tt)
    (record { spelled = refl; placed = (refl, (refl, (refl, (refl, tt)))) }) (λ b. false≢true b.spelled)

pub returns-clause-second_start : goal.returns-clause-second_start
unfolding lines_on_literals
returns-clause-second_start c = IsFirstOutside-at _ 4 (lit< tt)
    (record { spelled = refl; placed = (refl, (refl, (refl, (refl, tt)))) }) (λ b. false≢true b.placed.1.1.1.1.0)

pub returns-clause-late_setup : goal.returns-clause-late_setup
unfolding lines_on_literals
returns-clause-late_setup c = IsFirstOutside-at _ 4 (lit< tt)
    (record { spelled = refl; placed = (refl, (refl, (refl, (refl, tt)))) }) (λ b. false≢true b.placed.1.1.1.1.0)

pub returns-clause-early_event : goal.returns-clause-early_event
unfolding lines_on_literals
returns-clause-early_event c = IsFirstOutside-at _ 3 (lit< tt)
    (record { spelled = refl; placed = (refl, (refl, (refl, tt))) }) (λ b. false≢true b.placed.1.1.1.0)
