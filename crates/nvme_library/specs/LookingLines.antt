-- The answer to a query line: the text of a session over the same subsystem.
use Rattle.std.specs.Prelude.{
  ◌≡◌,
  ◌⊎◌,
  ◌*◌,
  ◌==◌,
  ◌||◌,
  nat_lt,
  ℕ,
  Bool,
  true,
  false,
  List,
  [],
  ◌∷◌,
  ◌++◌,
  length,
  Option,
  None,
  Some,
  Result,
}
use Rattle.nvme_spec.specs.declared.medium.MediumFault.{MediumFault}
use Rattle.live_text.specs.Asking.{asked}
use Rattle.live_text.specs.Faults.{refusal}
use Rattle.live_text.specs.Looking.{is_looking}
use Rattle.live_text.specs.declared.asking.Asked.{Asked}
use Rattle.live_text.specs.declared.asking.Asked.TheVariants.{Fails, Looks, Parses}
use Rattle.live_text.specs.declared.fault.Why.TheVariants.{OutsideNamespace}
use Rattle.live_text.specs.declared.looking.Looking.{Looking}
use Rattle.live_text.specs.declared.looking.Looking.TheVariants as look
use Rattle.live_views.specs.Looks.{looked_text, subsystem_text}
use Rattle.nvme_lines.specs.LineTexts.{reading_text}
use Rattle.nvme_library.specs.Holding.{Inside}
use Rattle.nvme_library.specs.Looking.{LooksAt}
use Rattle.nvme_library.specs.Written.{Writes, without_text}
use Rattle.nvme_library.specs.declared.written.Written.{Written}

-- blocks are read, with one call each
pub record ShowsBlocks (n m slba count : ℕ) (old : Inside) (text : List ℕ) (new : Inside) : Type 0 where
  pub room : List ℕ
  pub bytes : List ℕ
  pub looked : Option (Result (Unit {0}) MediumFault)
  pub whole : length bytes ≡ 512 * count
  pub looks : LooksAt m slba count old room bytes looked new
  pub says : text ≡ looked_text n m slba count bytes looked

-- a query of no block, or of too many, reads nothing
abbrev pub ShowsUnless : Bool → ℕ → ℕ → ℕ → ℕ → Inside → List ℕ → Inside → Type 0
ShowsUnless true n m slba count old text new = (text ≡ refusal n OutsideNamespace) × (new ≡ old)
ShowsUnless false n m slba count old text new = ShowsBlocks n m slba count old text new

-- what the n-th line shows, a query
abbrev pub Shows : ℕ → Looking → Inside → List ℕ → Inside → Type 0
Shows n (look.Blocks m slba count) old text new =
    ShowsUnless ((count == 0) || nat_lt 256 count) n m slba count old text new
Shows n looking old text new = (text ≡ subsystem_text n looking old.state) × (new ≡ old)

-- the text that answers the n-th line
abbrev pub Says : ℕ → Asked → Inside → List ℕ → Inside → Type 0
Says n (Fails why) old text new = (text ≡ refusal n why) × (new ≡ old)
Says n (Looks looking) old text new = Shows n looking old text new
Says n (Parses line) old text new = (text ≡ reading_text line) × (new ≡ old)
Says n asks old text new = ⊥

-- The text and a line feed are put into the buffer, if they fit and there is memory. Memory may also be refused before
-- anything is read.
abbrev pub Answers : ℕ → Asked → Inside → Written → List ℕ → List ℕ → Inside → Type 0
Answers n asks old w before after new =
    ((text : List ℕ) × Says n asks old text new × Writes (text ++ 10 ∷ []) w before after)
    ⊎ ((w ≡ without_text 27) × (after ≡ before) × (new ≡ old))

-- a line that does not begin with `?` is not answered
abbrev pub AnswersIf : Bool → ℕ → List ℕ → Inside → Written → List ℕ → List ℕ → Inside → Type 0
AnswersIf false n line old w before after new = (w ≡ without_text 34) × (after ≡ before) × (new ≡ old)
AnswersIf true n line old w before after new = Answers n (asked line) old w before after new

-- the n-th line is answered, if a subsystem is open
abbrev pub AnswersLine : ℕ → List ℕ → Option Inside → Written → List ℕ → List ℕ → Option Inside → Type 0
AnswersLine n line None w before after held = (w ≡ without_text 16) × (after ≡ before) × (held ≡ None)
AnswersLine n line (Some old) w before after None = ⊥
AnswersLine n line (Some old) w before after (Some new) = AnswersIf (is_looking line) n line old w before after new
