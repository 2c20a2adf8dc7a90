-- For the answer of `judged`: a text that is checked.
use Rattle.std.proofs.Common.{◌≡◌, ◌≤◌, ℕ, List, [], ◌∷◌, length, None, subst, refl, arith}
use Rattle.script_text.specs.Lines.{text_lines}
use Rattle.nvme_spec.specs.Configuration.{Capacity, Configuration, config_fault}
use Rattle.nvme_grammar.specs.Script.{Begins}
use Rattle.nvme_ns.specs.Refusals.{refusal_of}
use Rattle.nvme_ns.proofs.Refusals.{no-fault}
use Rattle.library_text.specs.Reading.{IsSound, Refuses, RefusesLines, set_up}
use Rattle.library_text.specs.declared.refused.Refused.{Refused}
use Rattle.library_text.specs.declared.refused.Refused.TheVariants.{TooLong, Line, Rule, Event, Empty, NoMemory}

pub sound-lines : (raw : List (List ℕ)) (size : Capacity) (c : Configuration)
    → Begins raw → c ≡ set_up raw → refusal_of c size ≡ None → IsSound raw size
sound-lines raw size c begins read fine =
    (begins, subst (λ (k : Configuration). config_fault k size ≡ None) read (no-fault c size fine))

-- a fault of a text's lines is a fault of the text
pub refused-text : (text : List ℕ) (size : Capacity) (r : Refused)
    → length text ≤ 4194304 → RefusesLines (text_lines text) size r → Refuses text size r
refused-text text size TooLong few wrong = absurd wrong
refused-text text size (Line n fault) few wrong = (few, wrong)
refused-text text size (Rule n fault broken) few wrong = (few, wrong)
refused-text text size (Event n column) few wrong = (few, wrong)
refused-text text size Empty few wrong = (few, wrong)
refused-text text size NoMemory few wrong = (few, wrong)

pub none-left : {A : Type 0} (xs : List A) → length xs ≡ 0 → xs ≡ []
none-left [] none = refl
none-left (x ∷ xs) none = absurd (omega (arith, none))
