-- For the answer of `read_lines`: the first lines of a script, extended by one line.
use Rattle.std.proofs.Common.{
  ◌≡◌,
  ℕ,
  suc,
  ◌+◌,
  ◌<◌,
  Bool,
  true,
  false,
  List,
  [],
  ◌∷◌,
  ◌++◌,
  length,
  take,
  drop,
  get_or,
  take_all,
  length-drop,
  Option,
  Some,
  None,
  refl,
  sym,
  ap,
  ◌∙◌,
  subst,
  append_assoc,
  take-append-drop,
  arith,
  inl,
  inr,
  Bor,
}
use Rattle.std.specs.Prelude.{◌≤◌, ◌&&◌, IfSome}
use Rattle.std.specs.List.{filter_map, list_all}
use Rattle.std.specs.Option.{is_some}
use Rattle.std.proofs.lemmas.Bool.{false≢true, cases_lt}
use Rattle.std.proofs.lemmas.List.{append-nil, take_more, drop_more, take-take, length-take-le}
use Rattle.std.proofs.lemmas.List.Elements.{filter_map-append}
use Rattle.std.proofs.lemmas.List.Folds.{list_all-append}
use Rattle.nvme_grammar.specs.Line.{line_at}
use Rattle.nvme_grammar.specs.Script.{Begins, ArePlaced, IsFirstOutside, said, fits_behind}
use Rattle.nvme_grammar.specs.declared.line.Line.{Line}

ArePlaced-push : (before lines : List Line) (line : Line)
    → ArePlaced before lines → fits_behind (before ++ lines) line ≡ true → ArePlaced before (lines ++ line ∷ [])
ArePlaced-push before [] line h f = (subst (λ (t : List Line). fits_behind t line ≡ true) (append-nil before) f, tt)
ArePlaced-push before (x ∷ lines) line h f = (
  h.0,
  ArePlaced-push (before ++ x ∷ []) lines line h.1
      (subst (λ (t : List Line). fits_behind t line ≡ true) (sym (append_assoc before (x ∷ []) lines)) f),
)

ArePlaced-last : (before lines : List Line) (line : Line) → ArePlaced before (lines ++ line ∷ [])
    → fits_behind (before ++ lines) line ≡ true
ArePlaced-last before [] line h = subst (λ (t : List Line). fits_behind t line ≡ true) (sym (append-nil before)) h.0
ArePlaced-last before (x ∷ lines) line h =
    subst (λ (t : List Line). fits_behind t line ≡ true) (append_assoc before (x ∷ []) lines)
    (ArePlaced-last (before ++ x ∷ []) lines line h.1)

-- the meaning of one more line
said-push : (raw : List (List ℕ)) (bytes : List ℕ) (line : Line)
    → line_at bytes ≡ Some line → said (raw ++ bytes ∷ []) ≡ said raw ++ line ∷ []
said-push raw bytes line e = filter_map-append line_at raw (bytes ∷ []) ∙ ap (λ t. said raw ++ t) (single bytes line e)
  where
    single : (bytes : List ℕ) (line : Line) → line_at bytes ≡ Some line → filter_map line_at (bytes ∷ []) ≡ line ∷ []
    single bytes line e = rw e refl

-- if each line has a meaning, none is left out
pub length-said : (raw : List (List ℕ)) → list_all (λ line. is_some (line_at line)) raw ≡ true
    → length (said raw) ≡ length raw
length-said [] h = refl
length-said (bytes ∷ raw) h = by (line_at bytes) refl (λ rest. length-said raw rest)
  where
    by : (o : Option Line)
        → line_at bytes ≡ o → (list_all (λ line. is_some (line_at line)) raw ≡ true → length (said raw) ≡ length raw)
        → length (said (bytes ∷ raw)) ≡ length (bytes ∷ raw)
    by (Some line) e rest = rw e (ap suc (rest (rw e at h)))
    by None e rest = absurd (false≢true (rw e at h))

pub Begins-none : Begins []
Begins-none = record { spelled = refl; placed = tt }

Begins-push : (raw : List (List ℕ)) (bytes : List ℕ) (line : Line) → Begins raw → line_at bytes ≡ Some line
    → fits_behind (said raw) line ≡ true → Begins (raw ++ bytes ∷ [])
Begins-push raw bytes line h e f = record {
  spelled = rw (list_all-append (λ l. is_some (line_at l)) raw (bytes ∷ []), h.spelled, e) refl;
  placed = rw (said-push raw bytes line e) (ArePlaced-push [] (said raw) line h.placed f);
}

and_right : (a b : Bool) → (a && b) ≡ true → b ≡ true
and_right true b h = h
and_right false b h = absurd (false≢true h)

outside_unread : (raw : List (List ℕ)) (bytes : List ℕ) → line_at bytes ≡ None → Begins (raw ++ bytes ∷ []) → ⊥
outside_unread raw bytes e h =
    let both : (list_all (λ l. is_some (line_at l)) raw && list_all (λ l. is_some (line_at l)) (bytes ∷ [])) ≡ true =
    sym (list_all-append (λ l. is_some (line_at l)) raw (bytes ∷ [])) ∙ h.spelled in
    let last : list_all (λ l. is_some (line_at l)) (bytes ∷ []) ≡ true = and_right _ _ both in
    false≢true (rw e at last)

outside_misplaced : (raw : List (List ℕ)) (bytes : List ℕ) (line : Line)
    → line_at bytes ≡ Some line → fits_behind (said raw) line ≡ false → Begins (raw ++ bytes ∷ []) → ⊥
outside_misplaced raw bytes line e f h =
    let placed : ArePlaced [] (said raw ++ line ∷ []) =
    subst (λ (t : List Line). ArePlaced [] t) (said-push raw bytes line e) h.placed in
    false≢true (sym f ∙ ArePlaced-last [] (said raw) line placed)

-- the first i lines begin a script, and so do fewer of them
abbrev pub AllBegin : ℕ → List (List ℕ) → Type 0
AllBegin i raw = (k : ℕ) → k < i + 1 → Begins (take k raw)

pub AllBegin-none : (raw : List (List ℕ)) → AllBegin 0 raw
AllBegin-none raw k h = let none : 0 ≡ k = omega arith in subst (λ (n : ℕ). Begins (take n raw)) none Begins-none

first_outside : (raw : List (List ℕ)) (i : ℕ) → i < length raw → AllBegin i raw → (Begins (take (i + 1) raw) → ⊥)
    → IsFirstOutside (i + 1) raw
first_outside raw i below before outside =
    record { counted = (omega arith, omega arith); before = before; outside = outside }

-- line i, counted from 0, of the text
module _ (raw : List (List ℕ)) (i : ℕ) (bytes : List ℕ) (below : i < length raw) (at_i : bytes ≡ get_or raw i bytes)
    (before : AllBegin i raw) where
  next_line : take (i + 1) raw ≡ take i raw ++ bytes ∷ []
  next_line = take_more raw i bytes below ∙ ap (λ x. take i raw ++ x ∷ []) (sym at_i)

  pub first_unread : line_at bytes ≡ None → IsFirstOutside (i + 1) raw
  first_unread e = first_outside raw i below before
      (λ b. outside_unread (take i raw) bytes e (subst (λ (t : List (List ℕ)). Begins t) next_line b))

  pub first_misplaced : (line : Line) → line_at bytes ≡ Some line → fits_behind (said (take i raw)) line ≡ false
      → IsFirstOutside (i + 1) raw
  first_misplaced line e misplaced = first_outside raw i below before
      (λ b. outside_misplaced (take i raw) bytes line e misplaced (subst (λ (t : List (List ℕ)). Begins t) next_line b))

  pub AllBegin-next : (line : Line) → line_at bytes ≡ Some line → fits_behind (said (take i raw)) line ≡ true
      → AllBegin (i + 1) raw
  AllBegin-next line e placed k h =
      let next : Begins (take (i + 1) raw) = subst (λ (t : List (List ℕ)). Begins t) (sym next_line)
      (Begins-push (take i raw) bytes line (before i (omega arith)) e placed) in
      elim (cases_lt k (i + 1)) [
        | inl less ↦ before k less
        | inr more ↦ (let same : i + 1 ≡ k = omega arith in subst (λ (n : ℕ). Begins (take n raw)) same next)
      ]

  pub said-next : (line : Line) → line_at bytes ≡ Some line → said (take (i + 1) raw) ≡ said (take i raw) ++ line ∷ []
  said-next line e = ap said next_line ∙ said-push (take i raw) bytes line e

-- the text after some lines, if there is any, is at most as long as the rest
abbrev pub lines_length : Option (Bor (List ℕ)) → ℕ
lines_length None = 0
lines_length (Some rest) = length rest.now + 1

pub lines_shorter : (rest : Option (Bor (List ℕ))) (n : ℕ) → IfSome rest (λ r. length r.now < n) → lines_length rest ≤ n
lines_shorter None n h = omega arith
lines_shorter (Some r) n h = omega (arith, h)

-- the line at a place, and the lines after it
pub line_here : (raw : List (List ℕ)) (i : ℕ) (line : List ℕ) (behind : List (List ℕ)) → drop i raw ≡ line ∷ behind
    → (i < length raw) × (line ≡ get_or raw i line) × (drop (i + 1) raw ≡ behind)
line_here raw i line behind h =
    let below : i < length raw = omega (arith, ap length h, length-drop i raw) in
    let both : line ∷ behind ≡ get_or raw i line ∷ drop (i + 1) raw = sym h ∙ drop_more raw i line below in
    (below, ap (λ l. get_or l 0 line) both, sym (ap (λ l. drop 1 l) both))

-- if no line is left, all were read
pub all_read : (raw : List (List ℕ)) (i : ℕ) → [] ≡ drop i raw → take i raw ≡ raw
all_read raw i h = take_all i raw (omega (arith, ap length h, length-drop i raw))

-- the lines so far have one meaning each
pub length-said-taken : (raw : List (List ℕ)) (i : ℕ) → i < length raw → AllBegin i raw → length (said (take i raw)) ≡ i
length-said-taken raw i below before =
    length-said (take i raw) (before i (omega arith)).spelled ∙ length-take-le i raw (omega arith)

ArePlaced-front : (before xs ys : List Line) → ArePlaced before (xs ++ ys) → ArePlaced before xs
ArePlaced-front before [] ys h = tt
ArePlaced-front before (x ∷ xs) ys h = (h.0, ArePlaced-front (before ++ x ∷ []) xs ys h.1)

-- the front of a beginning is one
pub Begins-take : (raw : List (List ℕ)) (k : ℕ) → Begins raw → Begins (take k raw)
Begins-take raw k h = record {
  spelled = and_left _ _ (sym (list_all-append (λ l. is_some (line_at l)) (take k raw) (drop k raw))
      ∙ rw (take-append-drop k raw) h.spelled);
  placed = ArePlaced-front [] (said (take k raw)) (said (drop k raw)) (subst (λ (t : List Line). ArePlaced [] t)
      (sym (ap said (take-append-drop k raw)) ∙ filter_map-append line_at (take k raw) (drop k raw)) h.placed);
}
  where
    and_left : (a b : Bool) → (a && b) ≡ true → a ≡ true
    and_left true b h = refl
    and_left false b h = absurd (false≢true h)

-- the first line outside the grammar, counted from 0: those before it begin a script, and with it they don't
pub IsFirstOutside-at : (raw : List (List ℕ)) (i : ℕ) → i < length raw → Begins (take i raw)
    → (Begins (take (i + 1) raw) → ⊥) → IsFirstOutside (i + 1) raw
IsFirstOutside-at raw i below begun outside = first_outside raw i below before outside
  where
    before : AllBegin i raw
    before k h = rw (sym (take-take k i raw (omega arith))) (Begins-take (take i raw) k begun)
