-- For sessions: lines that begin with `?` change nothing.
use Rattle.std.proofs.Common.{◌≡◌, ℕ, Bool, true, false, List, length, Option, None, Some, refl}
use Rattle.std.specs.Prelude.{nat_lt, if◌then◌else◌}
use Rattle.nvme_grammar.specs.Line.{line_at}
use Rattle.nvme_grammar.specs.declared.line.Line.{Line}
use Rattle.live_text.specs.Looking.{is_looking, looking_at, text_in}
use Rattle.live_text.specs.declared.asking.Asked.TheVariants.{Fails}
use Rattle.live_text.specs.declared.fault.Why.TheVariants.{LongText}
use Rattle.live_text.specs.declared.looking.Looking.{Looking}
use Rattle.live_text.specs.Asking.{asked, is_mark, look_asked, mark_asked, text_said}

look-mark : (line : List ℕ) (o : Option Looking) → is_mark (look_asked line o) ≡ true
look-mark line None = refl
look-mark line (Some looking) = refl

said-mark : (text : List ℕ) (o : Option Line) → is_mark (text_said text o) ≡ true
said-mark text None = refl
said-mark text (Some says) = refl

text-mark : (text : List ℕ) (o : Option Line) (t : Bool)
    → is_mark (if t then Fails LongText else text_said text o) ≡ true
text-mark text o true = refl
text-mark text o false = said-mark text o

mark-mark : (line : List ℕ) (o : Option (List ℕ)) → is_mark (mark_asked line o) ≡ true
mark-mark line None = look-mark line (looking_at line)
mark-mark line (Some text) = text-mark text (line_at text) (nat_lt 262208 (length text))

pub asked-look : (line : List ℕ) → is_looking line ≡ true → is_mark (asked line) ≡ true
unfolding asked
asked-look line is_so = by (nat_lt 1048576 (length line)) refl
  where
    by : (t : Bool) → nat_lt 1048576 (length line) ≡ t → is_mark (asked line) ≡ true
    by true e = rw e refl
    by false e = rw (e, is_so) (mark-mark line (text_in line))
