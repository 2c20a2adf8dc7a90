-- For laws of sessions: the lines of known bytes.
use Rattle.std.proofs.Common.{
  ◌≡◌,
  ◌≢◌,
  ℕ,
  Bool,
  true,
  false,
  List,
  [],
  ◌∷◌,
  ◌++◌,
  None,
  Some,
  inl,
  inr,
  refl,
  sym,
  ap,
  ◌∙◌,
  append_assoc,
  append-nil,
}
use Rattle.std.specs.Prelude.{◌⊎◌, ◌==◌, IfSome}
use Rattle.std.specs.Io.KnownBytes.{Consumes, IsAtEnd}
use Rattle.std.proofs.lemmas.Bool.{ne_eqb}
use Rattle.std.proofs.lemmas.Option.{same_Some}
use Rattle.std.proofs.lemmas.List.Elements.{All-head, All-tail}
use Rattle.script_text.specs.Lines.{text_lines}
use Rattle.nvme_live.specs.Taking.{IsOfLine, LinesAreKnown, TakesLines, session_lines, without_empty_last}

pub behind-feed : (line rest : List ℕ) → IsOfLine line → text_lines (line ++ 10 ∷ rest) ≡ line ∷ text_lines rest
behind-feed [] rest of_line = refl
behind-feed (b ∷ line) rest of_line =
    let other : (b == 10) ≡ false = ne_eqb b 10 (All-head (λ x. x ≢ 10) b line of_line) in
    let more = behind-feed line rest (All-tail (λ x. x ≢ 10) b line of_line) in
    rw (other, more) refl

without-feed : (line : List ℕ) → IsOfLine line → text_lines line ≡ line ∷ []
without-feed [] of_line = refl
without-feed (b ∷ line) of_line =
    let other : (b == 10) ≡ false = ne_eqb b 10 (All-head (λ x. x ≢ 10) b line of_line) in
    let more = without-feed line (All-tail (λ x. x ≢ 10) b line of_line) in
    rw (other, more) refl

not-last : (line next : List ℕ) (lines : List (List ℕ))
    → without_empty_last (line ∷ next ∷ lines) ≡ line ∷ without_empty_last (next ∷ lines)
not-last [] next lines = refl
not-last (b ∷ line) next lines = refl

-- each text has a first line
pub some-line : (text : List ℕ) → (next : List ℕ) × (lines : List (List ℕ)) × (text_lines text ≡ next ∷ lines)
some-line [] = ([], [], refl)
some-line (x ∷ xs) = by (x == 10) refl (some-line xs)
  where
    by : (t : Bool) → (x == 10) ≡ t → (next : List ℕ) × (lines : List (List ℕ)) × (text_lines xs ≡ next ∷ lines)
        → (next : List ℕ) × (lines : List (List ℕ)) × (text_lines (x ∷ xs) ≡ next ∷ lines)
    by true e rest = ([], text_lines xs, rw e refl)
    by false e (next, lines, is) = (x ∷ next, lines, rw (e, is) refl)

before-others : (line text : List ℕ) → without_empty_last (line ∷ text_lines text) ≡ line ∷ session_lines text
before-others line text =
    let (next, lines, is) = some-line text in
    ap (λ ls. without_empty_last (line ∷ ls)) is ∙ not-last line next lines
    ∙ ap (λ ls. line ∷ without_empty_last ls) (sym is)

last-kept : (line : List ℕ) → line ≢ [] → without_empty_last (line ∷ []) ≡ line ∷ []
last-kept [] some = absurd (some refl)
last-kept (b ∷ line) some = refl

known : (lines : List (List ℕ)) (text : List ℕ) → TakesLines (Some text) lines (Some []) → lines ≡ session_lines text
known [] text h = ap session_lines (same_Some _ _ h)
known (line ∷ lines) text (None, taken, rest) = absurd (lost taken.taken)
  where
    lost : Consumes (Some text) None (line ++ 10 ∷ [])
        ⊎ ((line ≢ []) × Consumes (Some text) None line × IfSome (Some text) (λ _. IsAtEnd None)) → ⊥
    lost (inl h) = h
    lost (inr h) = h.1
known (line ∷ lines) text (Some mid, taken, rest) = by taken.taken (known lines mid rest)
  where
    by : Consumes (Some text) (Some mid) (line ++ 10 ∷ [])
        ⊎ ((line ≢ []) × Consumes (Some text) (Some mid) line × IfSome (Some text) (λ _. IsAtEnd (Some mid)))
        → lines ≡ session_lines mid → line ∷ lines ≡ session_lines text
    by (inl e) more =
        ap (λ ls. line ∷ ls) more ∙ sym (before-others line mid) ∙ ap without_empty_last
        (sym (ap text_lines (e ∙ append_assoc line (10 ∷ []) mid) ∙ behind-feed line mid taken.of_line))
    by (inr (some, e, end)) more =
        ap (λ ls. line ∷ ls) (more ∙ ap session_lines end) ∙ sym (last-kept line some)
        ∙ ap without_empty_last
        (sym (ap text_lines (e ∙ ap (λ t. line ++ t) end ∙ append-nil line) ∙ without-feed line taken.of_line))

pub lines_are_known : LinesAreKnown
lines_are_known text lines h = known lines text h
