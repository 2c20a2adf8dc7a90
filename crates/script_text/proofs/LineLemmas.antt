-- For the answers of `line_len` and `front_line`: a text split at its first line feed.
use Rattle.std.proofs.Common.{
  ◌≡◌,
  ℕ,
  suc,
  ◌+◌,
  ◌-◌,
  List,
  [],
  ◌∷◌,
  length,
  length-drop,
  take,
  drop,
  get_or,
  not,
  true,
  false,
  Bool,
  refl,
  sym,
  ap,
  ◌∙◌,
  arith,
}
use Rattle.std.specs.Prelude.{◌==◌}
use Rattle.std.specs.List.{prefix_len}
use Rattle.std.proofs.lemmas.List.{drop-drop}
use Rattle.std.proofs.lemmas.List.Sums.{prefix_len_is}
use Rattle.memchr.specs.Find.{Nowhere, NoneBefore, Passes, is_byte}
use Rattle.script_text.specs.Lines.{text_lines, is_of_line}

-- the lines after a line feed, if there is one
abbrev pub lines_behind : List ℕ → List (List ℕ)
lines_behind [] = []
lines_behind (b ∷ rest) = text_lines rest

pub no-lines : (rest : List ℕ) → length rest ≡ 0 → lines_behind rest ≡ []
no-lines [] e = refl
no-lines (b ∷ rest) e = absurd (omega (arith, e))

one-more : (n : ℕ) → 1 + n ≡ suc n
one-more n = omega arith

pub first_line : (text : List ℕ)
    → text_lines text ≡ take (prefix_len is_of_line text) text ∷ lines_behind (drop (prefix_len is_of_line text) text)
first_line [] = refl
first_line (b ∷ text) = by (b == 10) refl (first_line text)
  where
    by : (t : Bool) → (b == 10) ≡ t → text_lines text ≡ take (prefix_len is_of_line text) text
        ∷ lines_behind (drop (prefix_len is_of_line text) text)
        → text_lines (b ∷ text) ≡ take (prefix_len is_of_line (b ∷ text)) (b ∷ text)
        ∷ lines_behind (drop (prefix_len is_of_line (b ∷ text)) (b ∷ text))
    by true e rest = rw e refl
    by false e rest = rw (e, rest, one-more (prefix_len is_of_line text)) refl

-- a line ends at the first line feed, or else with its text
other : (b : ℕ) → ((b == 10) ≡ true → ⊥) → is_of_line b ≡ true
other b h = by (b == 10) h
  where
    by : (t : Bool) → (t ≡ true → ⊥) → not t ≡ true
    by true k = absurd (k refl)
    by false k = refl

pub line-found : (text : List ℕ) (place : ℕ)
    → NoneBefore (Passes (is_byte 10) text) 0 (length text) place × Passes (is_byte 10) text place
    → place ≡ prefix_len is_of_line text
line-found text place h =
    sym (prefix_len_is is_of_line text place 0 (omega (arith, h.0.high))
    (λ k l. other (get_or text k 0) (h.0.before k (omega arith) l)) (λ l. ap not h.1))

pub line-not_found : (text : List ℕ) → Nowhere (Passes (is_byte 10) text) 0 (length text)
    → length text ≡ prefix_len is_of_line text
line-not_found text h =
    sym (prefix_len_is is_of_line text (length text) 0 (omega arith)
    (λ k l. other (get_or text k 0) (h k (omega arith) l)) (λ l. absurd (omega (arith, l))))

-- the rest after a byte of a text is its end
pub rest-is-end : (text : List ℕ) (n b : ℕ) (rest : List ℕ)
    → drop n text ≡ b ∷ rest → rest ≡ drop (length text - length rest) text
rest-is-end text n b rest h =
    let long : length (drop n text) ≡ length rest + 1 = ap length h ∙ omega arith in
    let place : n + 1 ≡ length text - length rest = omega (arith, long, length-drop n text) in
    sym (ap (drop 1) h) ∙ drop-drop 1 n text ∙ ap (λ k. drop k text) place
