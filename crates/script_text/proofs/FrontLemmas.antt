-- For the answer of `decimal_number` and for `nvme_lines`: decimal digits at the front of a line.
use Rattle.std.proofs.Common.{
  ◌≡◌,
  ℕ,
  zero,
  suc,
  ◌+◌,
  ◌^◌,
  ◌<◌,
  ◌≤◌,
  Bool,
  true,
  false,
  List,
  [],
  ◌∷◌,
  length,
  take,
  drop,
  get_or,
  Some,
  refl,
  sym,
  ap,
  subst,
  ◌∙◌,
  arith,
}
use Rattle.std.specs.Prelude.{codes, ◌&&◌, nat_eq}
use Rattle.std.specs.List.{list_all, starts_with, prefix_len}
use Rattle.std.specs.Str.Parse.{digits_value}
use Rattle.std.proofs.lemmas.Bool.{false≢true}
use Rattle.std.proofs.lemmas.List.{length-take-le}
use Rattle.script_text.specs.Front.{BeginsWith}
use Rattle.script_text.specs.Numbers.{is_digit, number_at}
use Rattle.script_text.specs.Words.{is_visible, is_separator, line_words, is_line_text}
use Rattle.script_text.proofs.NumberLemmas.{below-fits}
use Rattle.script_text.proofs.WordLemmas.{behind-text, front-words}

digit-visible : (b : ℕ) → is_digit 10 b ≡ true → is_visible b ≡ true
digit-visible b h = grind (arith)

both : (a b : Bool) → (a && b) ≡ true → (a ≡ true) × (b ≡ true)
both true true h = (refl, refl)
both true false h = absurd (false≢true h)
both false b h = absurd (false≢true h)

one-more : (n : ℕ) → 1 + n ≡ suc n
one-more n = omega arith

-- no visible character follows
abbrev pub Stops : List ℕ → ℕ → Type 0
Stops line k = (b : ℕ) (rest : List ℕ) → drop k line ≡ b ∷ rest → is_visible b ≡ false

pub stops-end : (line : List ℕ) (k : ℕ) → length (drop k line) ≡ 0 → Stops line k
stops-end line k none = λ b rest e. absurd (omega (arith, none, ap length e))

separator-invisible : (b : ℕ) → is_separator b ≡ true → is_visible b ≡ false
separator-invisible b h = grind (arith)

pub stops-separator : (line : List ℕ) (k s : ℕ) (behind : List ℕ) → drop k line ≡ s ∷ behind → is_separator s ≡ true
    → Stops line k
stops-separator line k s behind split h = λ b rest e.
    let same : s ≡ b = ap (λ l. get_or l 0 0) (sym split ∙ e) in
    ap is_visible (sym same) ∙ separator-invisible s h

-- digits that no visible character follows
digits-prefix : (line : List ℕ) (k : ℕ) → k ≤ length line → list_all (is_digit 10) (take k line) ≡ true → Stops line k
    → prefix_len is_visible line ≡ k
digits-prefix [] k within digits stop = omega (arith, within)
digits-prefix (b ∷ bs) zero within digits stop = rw (stop b bs refl) refl
digits-prefix (b ∷ bs) (suc k) within digits stop =
    let parts = both (is_digit 10 b) (list_all (is_digit 10) (take k bs)) digits in
    rw (digit-visible b parts.0, one-more (prefix_len is_visible bs))
    (ap suc (digits-prefix bs k (omega (arith, within)) parts.1 stop))

no_x : (b : ℕ) → is_digit 10 b ≡ true → nat_eq 120 b ≡ false
no_x b h = grind (arith)

-- digits do not begin with `0x`
no_prefix : (word : List ℕ) → list_all (is_digit 10) word ≡ true → starts_with nat_eq word (codes "0x") ≡ false
no_prefix [] h = refl
no_prefix (a ∷ []) h = by (nat_eq 48 a)
  where
    by : (t : Bool) → (t && false) ≡ false
    by true = refl
    by false = refl
no_prefix (a ∷ b ∷ word) h =
    let parts = both (is_digit 10 b) (list_all (is_digit 10) word) (both (is_digit 10 a) _ h).1 in
    rw (no_x b parts.0) (by (nat_eq 48 a))
  where
    by : (t : Bool) → (t && false) ≡ false
    by true = refl
    by false = refl

-- digits are read as the number that they denote
pub decimal-read : (bits : ℕ) (word : List ℕ) → 1 ≤ length word → list_all (is_digit 10) word ≡ true
    → digits_value 10 word < 2 ^ bits → number_at bits word ≡ Some (digits_value 10 word)
unfolding number_at
decimal-read bits word some digits fits =
    rw (no_prefix word digits) (sym (below-fits (2 ^ bits) 10 word some digits fits))

-- the number and the line after it
module _ (line : List ℕ) (k n : ℕ) (within : k ≤ length line) (some : 0 < k)
    (digits : list_all (is_digit 10) (take k line) ≡ true) (stop : Stops line k) where
  prefix : prefix_len is_visible line ≡ k
  prefix = digits-prefix line k within digits stop

  pub front-text : is_line_text (drop k line) ≡ is_line_text line
  front-text = subst (λ j. is_line_text (drop j line) ≡ is_line_text line) prefix (behind-text line)

  pub front-number : n ≡ digits_value 10 (take k line) → n < 2 ^ 64 → is_line_text line ≡ true
      → BeginsWith n (line_words line) (line_words (drop k line))
  front-number value fits text =
      let len = length-take-le k line within in (
        take k line,
        subst (λ j. line_words line ≡ take j line ∷ line_words (drop j line)) prefix
            (front-words line text (rw (prefix, len) some)),
        rw value (decimal-read 64 (take k line) (omega (arith, len, some)) digits (rw value at fits)),
      )
