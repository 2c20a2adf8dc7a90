-- For the answers of all `put_..` functions here: texts of many parts.
use Rattle.std.proofs.Common.{◌≡◌, ◌∙◌, ℕ, Result, List, ◌++◌, ap, append_assoc, sym}
use Rattle.script_text.specs.Pages.{Adds}
use Rattle.script_text.proofs.PageLemmas.{puts_behind}

pub after : (old page next text piece : List ℕ) → page ≡ old ++ text → next ≡ page ++ piece
    → next ≡ old ++ (text ++ piece)
after old page next text piece before put = put ∙ ap (λ t. t ++ piece) before ∙ append_assoc old text piece

-- a label and the part after it, appended to a text
pub more : (old page next text label piece : List ℕ) → page ≡ old ++ text → next ≡ page ++ (label ++ piece)
    → next ≡ old ++ ((text ++ label) ++ piece)
more old page next text label piece before put =
    after old page next text (label ++ piece) before put ∙ ap (λ t. old ++ t) (sym (append_assoc text label piece))

pub ends : {E : Type 0} (room : ℕ) (result : Result (Unit {0}) E) (old page text label piece whole new : List ℕ)
    → page ≡ old ++ text → whole ≡ (text ++ label) ++ piece → Adds room result page (label ++ piece) new
    → Adds room result old whole new
ends room result old page text label piece whole new before parts adds =
    puts_behind room result old page text (label ++ piece) whole new before (parts ∙ append_assoc text label piece) adds

-- four parts appended one by one, or joined and then appended
pub four : (q a b c d : List ℕ) → (((q ++ a) ++ b) ++ c) ++ d ≡ q ++ (((a ++ b) ++ c) ++ d)
four q a b c d =
    ap (λ t. (t ++ c) ++ d) (append_assoc q a b) ∙ ap (λ t. t ++ d) (append_assoc q (a ++ b) c)
    ∙ append_assoc q ((a ++ b) ++ c) d
