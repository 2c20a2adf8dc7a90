-- For the answers of `cut`, `keep` and `take_part`: the front of bytes up to a line feed, and the stored part of it.
use Rattle.std.proofs.Common.{
  ◌≡◌,
  ◌≢◌,
  ◌≤◌,
  ◌<◌,
  ◌+◌,
  ◌-◌,
  min,
  ℕ,
  zero,
  suc,
  Bool,
  true,
  false,
  List,
  [],
  ◌∷◌,
  ◌++◌,
  length,
  take,
  Option,
  refl,
  sym,
  ap,
  subst,
  ◌∙◌,
  arith,
  append_assoc,
  append-nil,
  inl,
  inr,
}
use Rattle.std.specs.Prelude.{◌==◌, IfSome, None, Some, Result, Ok, Err, OnOk, is_ok, if◌then◌else◌}
use Rattle.std.specs.Io.{StartsWith}
use Rattle.std.specs.Io.KnownBytes.{Consumes, Keeps, IsAtEnd}
use Rattle.std.specs.Io.BufRead.{DropsConsumable}
use Rattle.std.proofs.KnownBytes.{Consumes-nil, Consumes-trans, Consumes-kept}
use Rattle.std.proofs.BufReadLemmas.{Consumes_shown}
use Rattle.std.specs.List.{prefix_len}
use Rattle.std.proofs.lemmas.Bool.{eqb-true, eq-eqb, false≢true}
use Rattle.std.proofs.lemmas.List.{take_all, length-take}
use Rattle.std.proofs.lemmas.List.Elements.{All-nil, All-cons, All-append}
use Rattle.std.proofs.lemmas.List.Sums.{prefix_len-le-length}
use Rattle.script_text.specs.Lines.{is_of_line}
use Rattle.nvme_live.specs.declared.reading.Part.{Part}
use Rattle.nvme_live.specs.declared.reading.Part.TheVariants.{Middle, Last, Nothing}
use Rattle.nvme_live.specs.Taking.{IsOfLine, IsCut, TakesPart, TakesLine, TakesFront, ReadsLine, kept}
use Rattle.nvme_live.specs.Taking as spec

is_no_feed : (b : ℕ) → (b == 10) ≡ false → b ≢ 10
is_no_feed b e f = false≢true (sym e ∙ eq-eqb b 10 f)

one-more : (n : ℕ) → 1 + n ≡ suc n
one-more n = omega arith

-- before the first line feed there is none
pub front-of_line : (xs : List ℕ) → IsOfLine (take (prefix_len is_of_line xs) xs)
front-of_line [] = All-nil (λ b. b ≢ 10)
front-of_line (x ∷ xs) = by (x == 10) refl (front-of_line xs)
  where
    by : (t : Bool) → (x == 10) ≡ t → IsOfLine (take (prefix_len is_of_line xs) xs)
        → IsOfLine (take (prefix_len is_of_line (x ∷ xs)) (x ∷ xs))
    by true e rest = rw e (All-nil (λ b. b ≢ 10))
    by false e rest = rw (e, one-more (prefix_len is_of_line xs))
        (All-cons (λ b. b ≢ 10) x (take (prefix_len is_of_line xs) xs) (is_no_feed x e) rest)

-- and then the line feed
pub front-feed : (xs : List ℕ) → prefix_len is_of_line xs < length xs
    → take (prefix_len is_of_line xs + 1) xs ≡ take (prefix_len is_of_line xs) xs ++ 10 ∷ []
front-feed [] = λ below. absurd (omega (arith, below))
front-feed (x ∷ xs) = by (x == 10) refl (front-feed xs)
  where
    two-more : (n : ℕ) → 1 + n + 1 ≡ suc (n + 1)
    two-more n = omega arith

    by : (t : Bool) → (x == 10) ≡ t → (prefix_len is_of_line xs < length xs → take (prefix_len is_of_line xs + 1) xs
        ≡ take (prefix_len is_of_line xs) xs ++ 10 ∷ []) → prefix_len is_of_line (x ∷ xs) < length (x ∷ xs)
        → take (prefix_len is_of_line (x ∷ xs) + 1) (x ∷ xs) ≡ take (prefix_len is_of_line (x ∷ xs)) (x ∷ xs) ++ 10 ∷ []
    by true e rest below = rw e (ap (λ y. y ∷ []) (eqb-true x 10 e))
    by false e rest below =
        let less : 1 + prefix_len is_of_line xs < suc (length xs) = rw e at below in
        rw (e, two-more (prefix_len is_of_line xs), one-more (prefix_len is_of_line xs))
        (ap (λ t. x ∷ t) (rest (omega (arith, less))))

-- without a line feed, all bytes belong to the line
pub whole-of_line : (xs : List ℕ) → length xs ≤ prefix_len is_of_line xs → IsOfLine xs
whole-of_line xs all = subst IsOfLine (take_all (prefix_len is_of_line xs) xs all) (front-of_line xs)

take-min : (r m : ℕ) (ys : List ℕ) → r ≡ min m (length ys) → take r ys ≡ take m ys
take-min zero zero ys h = refl
take-min zero (suc m) [] h = refl
take-min zero (suc m) (y ∷ ys) h = absurd (omega (arith, h))
take-min (suc r) zero ys h = absurd (omega (arith, h))
take-min (suc r) (suc m) [] h = absurd (omega (arith, h))
take-min (suc r) (suc m) (y ∷ ys) h = ap (λ t. y ∷ t) (take-min r m ys (omega (arith, h)))

-- bytes that are appended to a front, as far as they fit
pub front-more : (m : ℕ) (xs ys : List ℕ) (room : ℕ) → length xs ≤ m → room ≡ min (m - length xs) (length ys)
    → xs ++ take room ys ≡ take m (xs ++ ys)
front-more m [] ys room fits is = take-min room m ys (omega (arith, is))
front-more zero (x ∷ xs) ys room fits is = absurd (omega (arith, fits))
front-more (suc m) (x ∷ xs) ys room fits is =
    ap (λ t. x ∷ t) (front-more m xs ys room (omega (arith, fits)) (omega (arith, is)))

-- the stored part of a front, after more bytes
take-front : (m : ℕ) (xs ys : List ℕ) → take m (take m xs ++ ys) ≡ take m (xs ++ ys)
take-front zero xs ys = refl
take-front (suc m) [] ys = refl
take-front (suc m) (x ∷ xs) ys = ap (λ t. x ∷ t) (take-front m xs ys)

pub kept-more : (xs ys : List ℕ) → kept (kept xs ++ ys) ≡ kept (xs ++ ys)
unfolding kept
kept-more xs ys = take-front 1048577 xs ys

pub kept-nil : kept [] ≡ []
unfolding kept
kept-nil = refl

pub kept-added : (xs ys : List ℕ) (room : ℕ) → length xs ≤ 1048577 → room ≡ min (1048577 - length xs) (length ys)
    → xs ++ take room ys ≡ kept (xs ++ ys)
unfolding kept
kept-added xs ys room fits is = front-more 1048577 xs ys room fits is

pub kept-short : (xs : List ℕ) → length (kept xs) ≤ 1048577
unfolding kept
kept-short xs = let long = length-take 1048577 xs in omega (arith, long)

pub extended : {T E : Type 0} (r : Result T E) (new old bytes whole : List ℕ)
    → new ≡ (if is_ok r then old ++ bytes else old) → old ++ bytes ≡ whole → OnOk r (new ≡ whole)
extended (Ok x) new old bytes whole h e = h ∙ e
extended (Err x) new old bytes whole h e = tt

pub kept-all : (xs : List ℕ) → length xs ≤ 1048577 → kept xs ≡ xs
unfolding kept
kept-all xs fits = take_all 1048577 xs fits

-- the part at the front of bytes
pub cut-last : (xs : List ℕ) (n : ℕ) → n ≡ prefix_len is_of_line xs → n < length xs → IsCut Last xs n (n + 1)
cut-last xs n e below =
    let less : prefix_len is_of_line xs < length xs = rw e at below in
    (omega (arith, below), omega (arith, below), rw e (front-of_line xs), rw e (front-feed xs less))

pub cut-nothing : (xs : List ℕ) (n : ℕ) → length xs ≤ n → n ≡ 0 → IsCut Nothing xs 0 0
cut-nothing xs n all none = (refl, refl, omega (arith, all, none))

pub cut-middle : (xs : List ℕ) (n : ℕ) → n ≡ prefix_len is_of_line xs → length xs ≤ n → (n ≡ 0 → ⊥)
    → IsCut Middle xs n n
cut-middle xs n e all some =
    let most = prefix_len-le-length is_of_line xs in
    let whole : n ≡ length xs = omega (arith, e, all, most) in
    let enough : length xs ≤ prefix_len is_of_line xs = omega (arith, e, all) in
    (whole, whole, positive n some, whole-of_line xs enough)
  where
    positive : (n : ℕ) → (n ≡ 0 → ⊥) → 0 < n
    positive zero h = absurd (h refl)
    positive (suc n) h = omega arith

-- what is taken from a reader that showed these bytes
module _ (a b c : Option (List ℕ)) (buffered : Option ℕ) (shown : List ℕ) (len all : ℕ) (before after : List ℕ)
    (front : IfSome a (λ xs. StartsWith xs shown)) (end : IfSome a (λ xs. length shown ≡ 0 → xs ≡ []))
    (kept : Keeps a b)
    (fits : IfSome a (λ _. IfSome buffered (λ k. length shown ≤ k))) (drops : DropsConsumable b c buffered all)
    (room : length before ≤ 1048577) (has : after ≡ spec.kept (before ++ take len shown)) where
  moved : all ≤ length shown → Consumes a c (take all shown)
  moved within = (Consumes_shown a b c buffered shown all within front end kept fits drops).0

  pub takes-part : (part : Part) → IsCut part shown len all → TakesPart part a c before after
  takes-part Middle (whole, every, some, of_line) =
      let long : length shown ≤ all = omega (arith, every) in
      let within : all ≤ length shown = omega (arith, every) in
      let lines : length shown ≤ len = omega (arith, whole) in (
        shown,
        of_line,
        (λ none. absurd (omega (arith, ap length none, whole, some))),
        subst (Consumes a c) (take_all all shown long) (moved within),
        has ∙ ap (λ t. spec.kept (before ++ t)) (take_all len shown lines),
      )
  takes-part Last (within, less, of_line, feed) =
      (take len shown, of_line, subst (Consumes a c) feed (moved within), has)
  takes-part Nothing (none, zero-all, empty) =
      let within : all ≤ length shown = omega (arith, zero-all) in
      let nil : take len shown ≡ [] = ap (λ k. take k shown) none in (
        at-end a end empty,
        keeps a c (subst (Consumes a c) (ap (λ k. take k shown) zero-all) (moved within)),
        has ∙ ap (λ t. spec.kept (before ++ t)) nil ∙ ap spec.kept (append-nil before) ∙ kept-all before room,
      )
    where
      at-end : (o : Option (List ℕ)) → IfSome o (λ xs. length shown ≡ 0 → xs ≡ []) → length shown ≡ 0 → IsAtEnd o
      at-end None h e = tt
      at-end (Some xs) h e = h e

      keeps : (o p : Option (List ℕ)) → Consumes o p [] → Keeps o p
      keeps None p h = tt
      keeps (Some xs) None h = h
      keeps (Some xs) (Some ys) h = sym h

-- The bytes taken of a line so far, and the stored part.
pub record SoFar (old now : Option (List ℕ)) (some : Bool) (line : List ℕ) : Type 0 where
  pub bytes : List ℕ
  pub of_line : IsOfLine bytes
  pub taken : Consumes old now bytes
  pub is : line ≡ spec.kept bytes
  pub none : some ≡ false → bytes ≡ []
  pub any : some ≡ true → bytes ≢ []

pub so-far-none : (a : Option (List ℕ)) (line : List ℕ) → line ≡ [] → SoFar a a false line
so-far-none a line e = record {
  bytes = [];
  of_line = All-nil (λ b. b ≢ 10);
  taken = Consumes-nil a;
  is = e ∙ sym kept-nil;
  none = λ f. refl;
  any = λ t. absurd (false≢true t);
}

longer : (xs ys : List ℕ) → ys ≢ [] → xs ++ ys ≢ []
longer [] ys h e = h e
longer (x ∷ xs) ys h e = absurd (cc)

module _ (a b c : Option (List ℕ)) (some : Bool) (line after : List ℕ) (h : SoFar a b some line) where
  grown : (ys : List ℕ) → after ≡ spec.kept (line ++ ys) → after ≡ spec.kept (h.bytes ++ ys)
  grown ys e = e ∙ ap (λ t. spec.kept (t ++ ys)) h.is ∙ kept-more h.bytes ys

  pub so-far-more : TakesPart Middle b c line after → SoFar a c true after
  so-far-more (ys, of_line, any, taken, is) = record {
    bytes = h.bytes ++ ys;
    of_line = All-append (λ b. b ≢ 10) h.bytes ys h.of_line of_line;
    taken = Consumes-trans a b c h.bytes ys h.taken taken;
    is = grown ys is;
    none = λ f. absurd (false≢true (sym f));
    any = λ t. longer h.bytes ys any;
  }

  pub line-last : TakesPart Last b c line after → ReadsLine true a c after
  line-last (ys, of_line, taken, is) = (
    h.bytes ++ ys,
    record {
      of_line = All-append (λ b. b ≢ 10) h.bytes ys h.of_line of_line;
      taken = inl (subst (Consumes a c) (sym (append_assoc h.bytes ys (10 ∷ [])))
          (Consumes-trans a b c h.bytes (ys ++ 10 ∷ []) h.taken taken));
    },
    grown ys is,
  )

  ended : (o p q : Option (List ℕ)) → Consumes o p h.bytes → IsAtEnd p → Keeps p q → IfSome o (λ _. IsAtEnd q)
  ended None p q t e k = tt
  ended (Some x) None q t e k = absurd t
  ended (Some x) (Some y) None t e k = absurd k
  ended (Some x) (Some y) (Some z) t e k = k ∙ e

  was-ended : (o p : Option (List ℕ)) → h.bytes ≡ [] → Consumes o p h.bytes → IsAtEnd p → IsAtEnd o
  was-ended None p n t e = tt
  was-ended (Some x) None n t e = absurd t
  was-ended (Some x) (Some y) n t e = t ∙ ap (λ l. l ++ y) n ∙ e

  stays : (o p q : Option (List ℕ)) → h.bytes ≡ [] → Consumes o p h.bytes → Keeps p q → Keeps o q
  stays None p q n t k = tt
  stays (Some x) None q n t k = absurd t
  stays (Some x) (Some y) None n t k = absurd k
  stays (Some x) (Some y) (Some z) n t k = k ∙ sym (t ∙ ap (λ l. l ++ y) n)

  pub line-end : TakesPart Nothing b c line after → ReadsLine some a c after
  line-end (end, keeps, is) = by some h.none h.any
    where
      by : (t : Bool) → (t ≡ false → h.bytes ≡ []) → (t ≡ true → h.bytes ≢ []) → ReadsLine t a c after
      by true none any = (
        h.bytes,
        record {
          of_line = h.of_line;
          taken = inr (any refl, Consumes-kept a b c h.bytes h.taken keeps, ended a b c h.taken end keeps);
        },
        is ∙ h.is,
      )
      by false none any = (
        was-ended a b (none refl) h.taken end,
        stays a b c (none refl) h.taken keeps,
        is ∙ h.is ∙ ap spec.kept (none refl) ∙ kept-nil,
      )

  pub front-so-far : TakesFront b c → TakesFront a c
  front-so-far f = record {
    bytes = h.bytes ++ f.bytes;
    of_line = All-append (λ x. x ≢ 10) h.bytes f.bytes h.of_line f.of_line;
    taken = Consumes-trans a b c h.bytes f.bytes h.taken f.taken;
  }

  pub front-only : TakesFront a b
  front-only = record { bytes = h.bytes; of_line = h.of_line; taken = h.taken }
