-- For the answers of `line_bound` and callers of it: the lengths of a text's lines.
use Rattle.std.proofs.Common.{
  ◌≡◌,
  ℕ,
  zero,
  suc,
  ◌+◌,
  ◌-◌,
  ◌<◌,
  ◌≤◌,
  Bool,
  true,
  false,
  List,
  [],
  ◌∷◌,
  length,
  length-drop,
  take,
  take_all,
  drop,
  refl,
  ap,
  ◌∙◌,
  subst,
  arith,
  rules,
  inl,
  inr,
}
use Rattle.std.specs.Prelude.{◌==◌, ◌⊎◌, if◌then◌else◌}
use Rattle.std.specs.List.{prefix_len}
use Rattle.std.proofs.lemmas.Bool.{cases_lt}
use Rattle.std.proofs.lemmas.List.{drop-drop, drop_all}
use Rattle.std.proofs.lemmas.List.Folds.{length-prefix_len}
use Rattle.std.proofs.lemmas.List.Sums.{prefix_len-le-length}
use Rattle.script_text.specs.Lines.{text_lines, is_of_line, longest_of, longest_line}
use Rattle.script_text.proofs.LineLemmas.{first_line, lines_behind}

-- the length of the first line
abbrev pub front_len : List ℕ → ℕ
front_len text = prefix_len is_of_line text

-- a line is at most as long as the skipped bytes and the line after them
pub front-behind : (n : ℕ) (t : List ℕ) → front_len t ≤ n + front_len (drop n t)
front-behind zero t = omega arith
front-behind (suc n) [] = omega arith
front-behind (suc n) (b ∷ t) = by (is_of_line b) (front-behind n t)
  where
    by : (u : Bool) → front_len t ≤ n + front_len (drop n t)
        → (if u then 1 + front_len t else 0) ≤ suc n + front_len (drop n t)
    by true h = omega (arith, h)
    by false h = omega arith

-- the rest of a line is at most as long as the line
pub front-within : (n : ℕ) (t : List ℕ) → n ≤ front_len t → front_len (drop n t) ≤ front_len t
front-within zero t h = omega arith
front-within (suc n) [] h = omega arith
front-within (suc n) (b ∷ t) h = by (is_of_line b) h (front-within n t)
  where
    by : (u : Bool) → suc n ≤ (if u then 1 + front_len t else 0)
        → (n ≤ front_len t → front_len (drop n t) ≤ front_len t)
        → front_len (drop n t) ≤ (if u then 1 + front_len t else 0)
    by true h rest = omega (arith, rest (omega (arith, h)))
    by false h rest = absurd (omega (arith, h))

-- the lines of a text whose first byte is not a line feed
more-first : (b : ℕ) (t : List ℕ)
    → (b == 10) ≡ false → text_lines (b ∷ t) ≡ (b ∷ take (front_len t) t) ∷ lines_behind (drop (front_len t) t)
more-first b t e = rw (e, first_line t) refl

front-more : (b : ℕ) (t : List ℕ) → (b == 10) ≡ false → front_len (b ∷ t) ≡ 1 + front_len t
front-more b t e = rw e refl

-- the first line of the rest
pub front-left : (place : ℕ) (t : List ℕ)
    → front_len (take (length t - place) (drop place t)) ≡ front_len (drop place t)
front-left place t = ap front_len (take_all (length t - place) (drop place t) (omega (arith, length-drop place t)))

pub front-short : (place : ℕ) (t : List ℕ) → front_len (drop place t) ≤ length t - place
front-short place t = omega (arith, prefix_len-le-length is_of_line (drop place t), length-drop place t)

first-longest : (line : List ℕ) (lines : List (List ℕ)) → length line ≤ longest_of (line ∷ lines)
first-longest line lines = search rules

behind-longest : (line : List ℕ) (lines : List (List ℕ)) → longest_of lines ≤ longest_of (line ∷ lines)
behind-longest line lines = search rules

both-longest : (most : ℕ) (line : List ℕ) (lines : List (List ℕ)) → length line ≤ most → longest_of lines ≤ most
    → longest_of (line ∷ lines) ≤ most
both-longest most line lines h k = search (rules, h, k)

-- the first line of a text is at most as long as its longest
pub longest-first : (t line : List ℕ) (lines : List (List ℕ))
    → text_lines t ≡ line ∷ lines → length line ≤ longest_line t
longest-first t line lines e = rw e (first-longest line lines)

pub longest-behind : (t line : List ℕ) (lines : List (List ℕ))
    → text_lines t ≡ line ∷ lines → longest_of lines ≤ longest_line t
longest-behind t line lines e = rw e (behind-longest line lines)

pub longest-front : (t : List ℕ) → front_len t ≤ longest_line t
longest-front t = omega (
  arith,
  length-prefix_len is_of_line t,
  longest-first t (take (front_len t) t) (lines_behind (drop (front_len t) t)) (first_line t),
)

-- a number bounds the lines of a text if it bounds the first line from every byte on
pub longest-from-fronts : (most : ℕ) (t : List ℕ) → ((i : ℕ) → front_len (drop i t) ≤ most) → longest_line t ≤ most
longest-from-fronts most [] h = both-longest most [] [] (omega arith) (omega arith)
longest-from-fronts most (b ∷ t) h = by (b == 10) refl (longest-from-fronts most t (λ i. h (suc i)))
  where
    by : (u : Bool) → (b == 10) ≡ u → longest_line t ≤ most → longest_line (b ∷ t) ≤ most
    by true e rest = rw e (both-longest most [] (text_lines t) (omega arith) rest)
    by false e rest =
        let first : length (b ∷ take (front_len t) t) ≤ most =
        omega (arith, length-prefix_len is_of_line t, front-more b t e, h 0) in
        let behind : longest_of (lines_behind (drop (front_len t) t)) ≤ most =
        omega (
          arith,
          rest,
          ap longest_of (first_line t),
          behind-longest (take (front_len t) t) (lines_behind (drop (front_len t) t)),
        ) in
        rw (more-first b t e)
        (both-longest most (b ∷ take (front_len t) t) (lines_behind (drop (front_len t) t)) first behind)

-- the lines of a text without its first byte are at most as long
longest-tail : (b : ℕ) (t : List ℕ) → longest_line t ≤ longest_line (b ∷ t)
longest-tail b t = by (b == 10) refl
  where
    by : (u : Bool) → (b == 10) ≡ u → longest_line t ≤ longest_line (b ∷ t)
    by true e = rw e (behind-longest [] (text_lines t))
    by false e =
        let lines = lines_behind (drop (front_len t) t) in
        let first = first-longest (b ∷ take (front_len t) t) lines in
        rw (more-first b t e, first_line t) (both-longest _ (take (front_len t) t) lines (omega (arith, first))
        (behind-longest (b ∷ take (front_len t) t) lines))

-- so are those of any end of it
pub longest-drop : (n : ℕ) (t : List ℕ) → longest_line (drop n t) ≤ longest_line t
longest-drop zero t = omega arith
longest-drop (suc n) [] = omega arith
longest-drop (suc n) (b ∷ t) = omega (arith, longest-drop n t, longest-tail b t)

-- no line is longer than the text
pub longest-length : (t : List ℕ) → longest_line t ≤ length t
longest-length t =
    longest-from-fronts (length t) t (λ i. omega (arith, prefix_len-le-length is_of_line (drop i t), length-drop i t))

-- the bound of the lines that begin before a place, from the longest found and the one at the place
abbrev pub AreBounded : List ℕ → ℕ → ℕ → ℕ → Type 0
AreBounded text stride longest place = (i : ℕ) → i < place → front_len (drop i text)
    ≤ stride + longest ⊎ front_len (drop i text) ≤ stride + front_len (drop place text)

module _ (text : List ℕ) (stride longest place : ℕ) (before : AreBounded text stride longest place) where
  abbrev here : ℕ
  here = front_len (drop place text)

  pub bounded-next : (more : ℕ) → longest ≤ more → here ≤ more → AreBounded text stride more (place + (here + stride))
  bounded-next more old new i h = elim (cases_lt i place) [
    | inl less ↦ elim (before i less) [ inl a ↦ inl (omega (arith, a, old)) | inr b ↦ inl (omega (arith, b, new)) ]
    | inr above ↦ elim (cases_lt i (place + here + 1)) [
      | inl within ↦
          inl (omega (arith, new, behind-place (i - place) (omega (arith, above)) (omega (arith, within, above))))
      | inr far ↦ inr (beyond (place + (here + stride) - i) (omega (arith, h)) (omega (arith, far)))
    ]
  ]
    where
      behind-place : (k : ℕ) → place + k ≡ i → k ≤ here → front_len (drop i text) ≤ here
      behind-place k e le = subst (λ n. front_len (drop n text) ≤ here) e
          (subst (λ t. front_len t ≤ here) (drop-drop k place text) (front-within k (drop place text) le))

      beyond : (n : ℕ) → i + n ≡ place + (here + stride) → n ≤ stride
          → front_len (drop i text) ≤ stride + front_len (drop (place + (here + stride)) text)
      beyond n e le =
          let one : front_len (drop i text) ≤ n + front_len (drop n (drop i text)) = front-behind n (drop i text) in
          let same : front_len (drop n (drop i text)) ≡ front_len (drop (place + (here + stride)) text) =
          ap front_len (drop-drop n i text) ∙ ap (λ m. front_len (drop m text)) e in
          omega (arith, one, same, le)

  -- if no byte is left after the place, all lines are bounded
  pub bounded-all : length text ≤ place → longest_line text ≤ longest + stride
  bounded-all h = longest-from-fronts (longest + stride) text by
    where
      none : (i : ℕ) → length text ≤ i → front_len (drop i text) ≡ 0
      none i le = ap front_len (drop_all i text le)

      by : (i : ℕ) → front_len (drop i text) ≤ longest + stride
      by i = elim (cases_lt i place) [
        | inl less ↦ elim (before i less) [ inl a ↦ omega (arith, a) | inr b ↦ omega (arith, b, none place h) ]
        | inr above ↦ omega (arith, none i (omega (arith, above, h)))
      ]
