-- For the answer of `named`: the matches of `clap` for a command line without a refused word.
use Rattle.std.proofs.Common.{
  ◌≡◌,
  ◌==◌,
  Bool,
  true,
  false,
  List,
  [],
  ◌∷◌,
  Option,
  Some,
  None,
  codes,
  refl,
  ap,
  sym,
  ◌∙◌,
}
use Rattle.std.specs.Str.{bytes_eq}
use Rattle.std.specs.Prelude.{slice_get, find, map, option_map, option_and_then}
use Rattle.std.specs.Borrow.{Bor}
use Rattle.clap.specs.Facts.{Entry}
use Rattle.clap.specs.Matches.{first_value}
use Rattle.clap.specs.declared.parser.matches.Found.{Found}
use Rattle.clap.specs.Lexer.{long_of, short_of}
use Rattle.clap.specs.Walk.{row_of, rows_of}
use Rattle.clap.specs.Words.{App, Row, Rule, Text, first_of, is_simple, matches_of, new_app, new_rule, takes, with_rule}
use Rattle.clap.specs.Simple.{on_top}
use Rattle.clap.specs.declared.builder.ArgAction.TheVariants.{Set}
use Rattle.clap.proofs.OnLiterals.{clap_on_literals}
use Rattle.nvme_program.specs.CommandLines.{is_option, word_fault}

-- the command that is parsed
abbrev pub place : Text → Rule
place id = record (new_rule id) { action = Some Set }

abbrev pub without_help : App → App
without_help = on_top (λ top. record top { disable_help_flag = true })

abbrev pub program : Text → App
program name = with_rule (with_rule (without_help (new_app name)) (place (codes "image"))) (place (codes "script"))

pub simple : (name : Text) → is_simple (program name) ≡ true
unfolding clap_on_literals
simple name = refl

-- a word that is not an option
pub record IsPlain (word : Text) : Type 0 where
  pub long : long_of word ≡ None
  pub short : short_of word ≡ None
  pub dashes : bytes_eq word (45 ∷ 45 ∷ []) ≡ false

pub plain : (word : Text) → is_option word ≡ false → IsPlain word
plain [] h = record { long = refl; short = refl; dashes = refl }
plain (x ∷ []) h = go (x == 45) refl
  where
    go : (t : Bool) → (x == 45) ≡ t → IsPlain (x ∷ [])
    go true t = record { long = rw t refl; short = rw t refl; dashes = rw t refl }
    go false t = record { long = rw t refl; short = rw t refl; dashes = rw t refl }
plain (x ∷ y ∷ rest) h = go (x == 45) refl
  where
    go : (t : Bool) → (x == 45) ≡ t → IsPlain (x ∷ y ∷ rest)
    go true t = let bad : true ≡ false = rw t at h in cc
    go false t = record { long = rw t refl; short = rw t refl; dashes = rw t refl }

pub taken-none : (name : Text) → takes (program name) [] ≡ true
unfolding clap_on_literals
taken-none name = refl

pub taken-name : (name own : Text) → takes (program name) (own ∷ []) ≡ true
unfolding clap_on_literals
taken-name name own = refl

pub taken-one : (name own image : Text) → IsPlain image → takes (program name) (own ∷ image ∷ []) ≡ true
unfolding clap_on_literals
taken-one name own image i = rw (i.long, i.short, i.dashes) refl

pub taken-two : (name own image script : Text) → IsPlain image → IsPlain script
    → takes (program name) (own ∷ image ∷ script ∷ []) ≡ true
unfolding clap_on_literals
taken-two name own image script i s = rw (i.long, i.short, i.dashes, s.long, s.short, s.dashes) refl

-- in a command line without a fault, neither the image nor the script is an option
at-one : (own image : Text) → word_fault (own ∷ image ∷ []) ≡ None → is_option image ≡ false
at-one own image h = go (is_option image) refl
  where
    go : (t : Bool) → is_option image ≡ t → is_option image ≡ false
    go false t = t
    go true t = let bad = rw t at h in cc

at-two : (own image script : Text) → word_fault (own ∷ image ∷ script ∷ []) ≡ None
    → (is_option image ≡ false) × (is_option script ≡ false)
at-two own image script h = go (is_option image) (is_option script) refl refl
  where
    go : (i s : Bool) → is_option image ≡ i → is_option script ≡ s
        → (is_option image ≡ false) × (is_option script ≡ false)
    go false false i s = (i, s)
    go true _ i s = let bad = rw i at h in cc
    go false true i s = let bad = rw (i, s) at h in cc

no-third : (own image script more : Text) (rest : List Text)
    → word_fault (own ∷ image ∷ script ∷ more ∷ rest) ≡ None → ⊥
no-third own image script more rest h = go (is_option image) (is_option script) (is_option more) refl refl refl
  where
    go : (i s m : Bool) → is_option image ≡ i → is_option script ≡ s → is_option more ≡ m → ⊥
    go true _ _ i s m = let bad = rw i at h in cc
    go false true _ i s m = let bad = rw (i, s) at h in cc
    go false false true i s m = let bad = rw (i, s, m) at h in cc
    go false false false i s m = let bad = rw (i, s, m) at h in cc

pub taken : (name : Text) (words : List Text) → word_fault words ≡ None → takes (program name) words ≡ true
taken name [] h = taken-none name
taken name (own ∷ []) h = taken-name name own
taken name (own ∷ image ∷ []) h = taken-one name own image (plain image (at-one own image h))
taken name (own ∷ image ∷ script ∷ []) h =
    let both = at-two own image script h in taken-two name own image script (plain image both.0) (plain script both.1)
taken name (own ∷ image ∷ script ∷ more ∷ rest) h = absurd (no-third own image script more rest h)

-- the matches for the image and for the script
pub record Finds (name : Text) (words : List Text) : Type 0 where
  pub image : first_of (codes "image") (matches_of (program name) words) ≡ slice_get words 1
  pub script : first_of (codes "script") (matches_of (program name) words) ≡ slice_get words 2

finds-none : (name : Text) → Finds name []
unfolding clap_on_literals
finds-none name = record { image = refl; script = refl }

finds-name : (name own : Text) → Finds name (own ∷ [])
unfolding clap_on_literals
finds-name name own = record { image = refl; script = refl }

finds-one : (name own image : Text) → IsPlain image → Finds name (own ∷ image ∷ [])
unfolding clap_on_literals
finds-one name own image i =
    record { image = rw (i.long, i.short, i.dashes) refl; script = rw (i.long, i.short, i.dashes) refl }

finds-two : (name own image script : Text) → IsPlain image → IsPlain script → Finds name (own ∷ image ∷ script ∷ [])
unfolding clap_on_literals
finds-two name own image script i s = record {
  image = rw (i.long, i.short, i.dashes, s.long, s.short, s.dashes) refl;
  script = rw (i.long, i.short, i.dashes, s.long, s.short, s.dashes) refl;
}

pub finds : (name : Text) (words : List Text) → word_fault words ≡ None → Finds name words
finds name [] h = finds-none name
finds name (own ∷ []) h = finds-name name own
finds name (own ∷ image ∷ []) h = finds-one name own image (plain image (at-one own image h))
finds name (own ∷ image ∷ script ∷ []) h =
    let both = at-two own image script h in finds-two name own image script (plain image both.0) (plain script both.1)
finds name (own ∷ image ∷ script ∷ more ∷ rest) h = absurd (no-third own image script more rest h)

-- a caller gets the value that the row of a match has
first-value : (values : List (Bor Text))
    → slice_get (map (λ s. s.now) values) 0 ≡ option_map (λ s. s.now) (slice_get values 0)
first-value [] = refl
first-value (value ∷ values) = refl

first-row : (entries : List Entry) (id : Text) → first_of id (map row_of entries)
    ≡ option_and_then (λ a. option_map (λ s. s.now) (slice_get a.vals.items 0))
    (option_map (λ e. e.1) (find (λ e. bytes_eq e.0.now id) entries))
first-row [] id = refl
first-row (entry ∷ entries) id = go (bytes_eq entry.0.now id) refl (first-row entries id)
  where
    go : (t : Bool) → bytes_eq entry.0.now id ≡ t
        → (first_of id (map row_of entries) ≡ option_and_then (λ a. option_map (λ s. s.now) (slice_get a.vals.items 0))
        (option_map (λ e. e.1) (find (λ e. bytes_eq e.0.now id) entries)))
        → first_of id (map row_of (entry ∷ entries))
        ≡ option_and_then (λ a. option_map (λ s. s.now) (slice_get a.vals.items 0))
        (option_map (λ e. e.1) (find (λ e. bytes_eq e.0.now id) (entry ∷ entries)))
    go true t behind = rw t (first-value entry.1.vals.items)
    go false t behind = rw t behind

pub value-is : (found : Found) (rows : List Row) (id : Text) (value : Option Text) → rows_of found ≡ rows
    → first_of id rows ≡ value → first_value found id ≡ value
value-is found rows id value is has = sym (first-row found.entries.items id) ∙ ap (first_of id) is ∙ has
