use Rattle.std.proofs.Common.{◌≡◌, length}
use Rattle.std.specs.List.{find}
use Rattle.std.specs.Str.{bytes_eq}
use Rattle.live_text.specs.LookingWords.{word_text, looking_word_of}
use Rattle.live_text.proofs.looking_word.LookingWord.of.Given as goal

abbrev pub invariant-loop-first : goal.invariant-loop-first
invariant-loop-first l = find (λ k. bytes_eq l.word (word_text k)) l.words ≡ looking_word_of l.word

abbrev pub decreases-loop-first : goal.decreases-loop-first
decreases-loop-first l = length l.words
