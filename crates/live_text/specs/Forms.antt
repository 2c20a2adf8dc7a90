-- The forms of a session's lines, by their first words: those of scripts, and queries.
use Rattle.std.specs.Prelude.{ℕ, List, Option, option_map}
use Rattle.std.specs.Option.{option_or}
use Rattle.nvme_grammar.specs.Keywords as line
use Rattle.live_text.specs.LookingWords as looking
use Rattle.live_text.specs.declared.form.Form.{Form}
use Rattle.live_text.specs.declared.form.Form.TheVariants as form

abbrev pub form_text : Form → List ℕ
form_text (form.Line keyword) = line.form_text keyword
form_text (form.Looking word) = looking.form_text word

-- the form of the lines with this first word
abbrev pub form_at : List ℕ → Option Form
form_at word =
    option_or (option_map form.Looking (looking.looking_word_of word)) (option_map form.Line (line.keyword_of word))
