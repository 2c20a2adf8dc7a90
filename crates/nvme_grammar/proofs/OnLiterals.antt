-- For examples: the definitions that compute the lines of a literal text.
use Rattle.std.specs.Prelude.{⊤}
use Rattle.script_text.proofs.OnLiterals.{words_on_literals}
use Rattle.nvme_grammar.specs.Line.{line_at, sentence}
use Rattle.nvme_grammar.specs.Keywords.{keyword_of, nearest_to}
use Rattle.nvme_grammar.specs.Near.{is_meant}
use Rattle.nvme_grammar.specs.Beginnings.{begins_script}
use Rattle.nvme_grammar.specs.LineFaults.{fault_of}

unfoldable pub faults_on_literals : ⊤
unfolding fault_of keyword_of nearest_to is_meant words_on_literals
faults_on_literals = tt

unfoldable pub lines_on_literals : ⊤
unfolding line_at sentence keyword_of words_on_literals
lines_on_literals = tt

unfoldable pub beginnings_on_literals : ⊤
unfolding begins_script keyword_of words_on_literals
beginnings_on_literals = tt
