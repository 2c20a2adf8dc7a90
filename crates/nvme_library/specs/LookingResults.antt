-- Statements of worked examples: the codes of loads, of reads of blocks and of query lines, and what they leave.
use Rattle.std.specs.Prelude.{
  ◌≡◌,
  ◌⊎◌,
  ℕ,
  false,
  List,
  [],
  ◌∷◌,
  ◌++◌,
  replicate,
  slice_range,
  Option,
  Some,
  None,
}
use Rattle.nvme_spec.specs.World.{namespace_of}
use Rattle.nvme_grammar.specs.declared.line.Line.{Line}
use Rattle.live_text.specs.Faults.{refusal}
use Rattle.live_text.specs.Looking.{is_looking}
use Rattle.live_text.specs.declared.asking.Asked.TheVariants.{Fails, Parses}
use Rattle.live_text.specs.declared.fault.Why.{Why}
use Rattle.nvme_lines.specs.LineTexts.{reading_text}
use Rattle.nvme_machine.specs.Controllers.{Controller}
use Rattle.nvme_machine.specs.Subsystems.{controller_at}
use Rattle.nvme_library.specs.Holding.{Inside}
use Rattle.nvme_library.specs.Looking.{Loads, LoadsFrom, LooksHeld}
use Rattle.nvme_library.specs.LookingLines.{Answers, AnswersLine, Says}
use Rattle.nvme_library.specs.Written.{Writes, without_text}
use Rattle.nvme_library.specs.declared.written.Written.{Written}

-- Loads of a byte: the buffer has it, or the code says why not and the buffer is unchanged. The last address is
-- 4194303.
pub record LoadsHaveCodes : Type 0 where
  pub closed : (k at answer : ℕ) (before after : List ℕ) → Loads None k at before answer after
      → (answer ≡ 16) × (after ≡ before)
  pub no_controller : (s : Inside) (k at answer : ℕ) (before after : List ℕ) → controller_at s.state k ≡ None
      → Loads (Some s) k at before answer after → (answer ≡ 17) × (after ≡ before)
  pub inside : (c : Controller) (answer : ℕ) (after : List ℕ) → LoadsFrom (Some c) 8 (7 ∷ []) answer after
      → (answer ≡ 0) × (after ≡ slice_range c.window 8 9)
  pub outside : (c : Controller) (answer : ℕ) (after : List ℕ) → LoadsFrom (Some c) 4194304 (7 ∷ []) answer after
      → (answer ≡ 18) × (after ≡ 7 ∷ [])

-- Reads of one block that read nothing: the code says why, and buffer and subsystem are unchanged.
pub record LooksHaveCodes : Type 0 where
  pub not_whole : (held new : Option Inside) (nsid slba answer : ℕ) (after : List ℕ)
      → LooksHeld held nsid slba (7 ∷ []) answer after new → (answer ≡ 19) × (after ≡ 7 ∷ []) × (new ≡ held)
  pub closed : (new : Option Inside) (nsid slba answer : ℕ) (after : List ℕ)
      → LooksHeld None nsid slba (replicate 512 7) answer after new
      → (answer ≡ 16) × (after ≡ replicate 512 7) × (new ≡ None)
  pub stays_open : (s : Inside) (nsid slba answer : ℕ) (after : List ℕ)
      → LooksHeld (Some s) nsid slba (replicate 512 7) answer after None → ⊥
  pub no_namespace : (s new : Inside) (nsid slba answer : ℕ) (after : List ℕ)
      → namespace_of s.state.world nsid ≡ None → LooksHeld (Some s) nsid slba (replicate 512 7) answer after (Some new)
      → (answer ≡ 18) × (after ≡ replicate 512 7) × (new ≡ s)

-- Lines: a refused query and a `?line` query show their text and change nothing. A line feed follows the text. Memory
-- may be refused with code 27, any other line is refused with 34, and any without a subsystem with 16.
pub record LinesHaveCodes : Type 0 where
  pub refused : (n : ℕ) (why : Why) (old new : Inside) (text : List ℕ) → Says n (Fails why) old text new
      → (text ≡ refusal n why) × (new ≡ old)
  pub parsed : (n : ℕ) (line : Line) (old new : Inside) (text : List ℕ) → Says n (Parses line) old text new
      → (text ≡ reading_text line) × (new ≡ old)
  pub with_line_feed : (n : ℕ) (why : Why) (old new : Inside) (w : Written) (before after : List ℕ)
      → Answers n (Fails why) old w before after new
      → Writes (refusal n why ++ 10 ∷ []) w before after ⊎ (w ≡ without_text 27)
  pub no_query : (n : ℕ) (line : List ℕ) (old new : Inside) (w : Written) (before after : List ℕ)
      → is_looking line ≡ false → AnswersLine n line (Some old) w before after (Some new)
      → (w ≡ without_text 34) × (after ≡ before) × (new ≡ old)
  pub closed : (n : ℕ) (line : List ℕ) (new : Option Inside) (w : Written) (before after : List ℕ)
      → AnswersLine n line None w before after new → (w ≡ without_text 16) × (after ≡ before) × (new ≡ None)
  pub stays_open : (n : ℕ) (line : List ℕ) (old : Inside) (w : Written) (before after : List ℕ)
      → AnswersLine n line (Some old) w before after None → ⊥
