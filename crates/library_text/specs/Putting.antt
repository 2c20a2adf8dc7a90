-- The result of putting a text into a buffer: the length of the text, or why it was not put.
use Rattle.std.specs.Prelude.{
  ◌≡◌,
  ◌⊎◌,
  ◌<◌,
  ◌≤◌,
  ℕ,
  nat_le,
  Bool,
  true,
  false,
  List,
  ◌++◌,
  length,
  drop,
  Result,
  Ok,
  Err,
}
use Rattle.script_text.specs.Pages.{most_text}
use Rattle.library_text.specs.declared.putting.Unput.{Unput}
use Rattle.library_text.specs.declared.putting.Unput.TheVariants.{NoRoom, NoMemory}

-- the buffer begins with the text, or is unchanged
abbrev pub PutsWhere : Bool → List ℕ → Result ℕ Unput → List ℕ → List ℕ → Type 0
PutsWhere true text result old new = (result ≡ Ok (length text)) × (new ≡ text ++ drop (length text) old)
PutsWhere false text result old new = (result ≡ Err NoRoom) × (new ≡ old)

-- the buffer begins with the text if that fits, and is otherwise unchanged
abbrev pub Puts : List ℕ → Result ℕ Unput → List ℕ → List ℕ → Type 0
Puts text result old new = PutsWhere (nat_le (length text) (length old)) text result old new

-- The same for a text that is assembled in memory, which may be refused. A text of more than 262,240 bytes does not
-- fit.
abbrev pub PutsIf : List ℕ → Result ℕ Unput → List ℕ → List ℕ → Type 0
PutsIf text (Ok n) old new = (n ≡ length text) × (length text ≤ length old) × (new ≡ text ++ drop (length text) old)
PutsIf text (Err NoRoom) old new = ((length old < length text) ⊎ (most_text < length text)) × (new ≡ old)
PutsIf text (Err NoMemory) old new = new ≡ old

-- the maximum length of a short text
abbrev pub most_short : ℕ
most_short = 96
