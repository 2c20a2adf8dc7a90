use Rattle.std.proofs.Common.{◌≡◌, length}
use Rattle.std.specs.List.{find}
use Rattle.nvme_grammar.specs.Near.{is_meant}
use Rattle.live_text.specs.LookingWords.{word_text, nearest_to}
use Rattle.live_text.proofs.looking_word.LookingWord.nearest.Given as goal

abbrev pub invariant-loop-first : goal.invariant-loop-first
invariant-loop-first l = find (λ k. is_meant l.word (word_text k)) l.words ≡ nearest_to l.word

abbrev pub decreases-loop-first : goal.decreases-loop-first
decreases-loop-first l = length l.words
