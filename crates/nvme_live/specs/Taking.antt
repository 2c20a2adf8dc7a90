-- The lines of a session, taken one after the other from the bytes that a reader has left.
use Rattle.std.specs.Prelude.{
  ◌≡◌,
  ◌≢◌,
  ◌⊎◌,
  ◌+◌,
  ◌<◌,
  ◌≤◌,
  ℕ,
  Bool,
  List,
  [],
  ◌∷◌,
  ◌++◌,
  length,
  take,
  true,
  false,
  Option,
  Some,
  IfSome,
}
use Rattle.std.specs.List.{All}
use Rattle.std.specs.Io.KnownBytes.{Consumes, IsAtEnd, Keeps}
use Rattle.script_text.specs.Lines.{text_lines}
use Rattle.live_text.specs.Asking.{line_limit}
use Rattle.nvme_live.specs.declared.reading.Part.{Part}
use Rattle.nvme_live.specs.declared.reading.Part.TheVariants.{Middle, Last, Nothing}

-- none of these bytes is a line feed
abbrev pub IsOfLine : List ℕ → Type 0
IsOfLine bytes = All (λ b. b ≢ 10) bytes

-- A line was taken, and the line feed after it. The last line of all may lack it, and is not empty then.
pub record TakesLine (old : Option (List ℕ)) (line : List ℕ) (new : Option (List ℕ)) : Type 0 where
  pub of_line : IsOfLine line
  pub taken : Consumes old new (line ++ 10 ∷ []) ⊎ ((line ≢ []) × Consumes old new line × IfSome old (λ _. IsAtEnd new))

-- exactly these lines were taken, in order
abbrev pub TakesLines : Option (List ℕ) → List (List ℕ) → Option (List ℕ) → Type 0
TakesLines old [] new = new ≡ old
TakesLines old (line ∷ lines) new = (mid : Option (List ℕ)) × TakesLine old line mid × TakesLines mid lines new

-- the first bytes of a line were taken, and no line feed
pub record TakesFront (old new : Option (List ℕ)) : Type 0 where
  pub bytes : List ℕ
  pub of_line : IsOfLine bytes
  pub taken : Consumes old new bytes

-- the stored part of a line: all of it, or one byte more than a line may have
unfoldable pub kept : List ℕ → List ℕ
kept line = take (line_limit + 1) line

-- the part of a line at the front of bytes: its length without and with the line feed
abbrev pub IsCut : Part → List ℕ → ℕ → ℕ → Type 0
IsCut Middle bytes len all = (len ≡ length bytes) × (all ≡ length bytes) × (0 < len) × IsOfLine bytes
IsCut Last bytes len all = (all ≤ length bytes) × (len ≤ length bytes) × IsOfLine (take len bytes)
    × (take all bytes ≡ take len bytes ++ 10 ∷ [])
IsCut Nothing bytes len all = (len ≡ 0) × (all ≡ 0) × (length bytes ≡ 0)

-- the result of one look at the input: the bytes taken, and the line before and after
abbrev pub TakesPart : Part → Option (List ℕ) → Option (List ℕ) → List ℕ → List ℕ → Type 0
TakesPart Middle old new before after =
    (bytes : List ℕ) × IsOfLine bytes × (bytes ≢ []) × Consumes old new bytes × (after ≡ kept (before ++ bytes))
TakesPart Last old new before after =
    (bytes : List ℕ) × IsOfLine bytes × Consumes old new (bytes ++ 10 ∷ []) × (after ≡ kept (before ++ bytes))
TakesPart Nothing old new before after = IsAtEnd old × Keeps old new × (after ≡ before)

-- the result of reading a line: a line was taken, and this part is stored; or there was none
abbrev pub ReadsLine : Bool → Option (List ℕ) → Option (List ℕ) → List ℕ → Type 0
ReadsLine true old new line = (whole : List ℕ) × TakesLine old whole new × (line ≡ kept whole)
ReadsLine false old new line = IsAtEnd old × Keeps old new × (line ≡ [])

-- the lines of a text: the parts between its line feeds, without an empty one after the last
abbrev pub without_empty_last : List (List ℕ) → List (List ℕ)
without_empty_last [] = []
without_empty_last ([] ∷ []) = []
without_empty_last (line ∷ lines) = line ∷ without_empty_last lines

abbrev pub session_lines : List ℕ → List (List ℕ)
session_lines text = without_empty_last (text_lines text)

-- known bytes, taken to their end, have exactly these lines
abbrev pub LinesAreKnown : Type 0
LinesAreKnown = (text : List ℕ) (lines : List (List ℕ)) → TakesLines (Some text) lines (Some [])
    → lines ≡ session_lines text
