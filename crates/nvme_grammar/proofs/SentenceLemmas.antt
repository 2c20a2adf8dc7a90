-- For the answers of `reader.rt`: the meaning of a line after its keyword, by the numbers at its front.
use Rattle.std.proofs.Common.{
  ◌≡◌,
  ℕ,
  ◌<◌,
  ◌≤◌,
  ◌^◌,
  Bool,
  true,
  false,
  not,
  List,
  [],
  ◌∷◌,
  ◌++◌,
  length,
  map,
  take,
  Option,
  Some,
  None,
  refl,
  sym,
  ap,
  ◌∙◌,
  arith,
}
use Rattle.std.specs.Prelude.{◌&&◌, nat_le, if◌then◌else◌, is_some, option_map, IfSome, IsNone}
use Rattle.std.specs.List.{list_all}
use Rattle.std.proofs.lemmas.Bool.{false≢true, and_parts, leb-true}
use Rattle.nvme_event.specs.declared.event.FleetEvent.{FleetEvent}
use Rattle.nvme_event.specs.declared.event.FleetEvent.TheVariants.{Place as PlaceOf, PowerCycle}
use Rattle.nvme_driver.specs.declared.request.Request.{Request}
use Rattle.nvme_driver.specs.declared.request.Request.TheVariants as request
use Rattle.script_text.specs.Front.{begins_number}
use Rattle.script_text.specs.Numbers.{number_at}
use Rattle.script_text.specs.Words.{line_words, is_line_text, starts_apart}
use Rattle.script_text.proofs.WordLemmas.{some_words}
use Rattle.nvme_grammar.specs.Arity.{◌>>=◌}
use Rattle.nvme_grammar.specs.Reader.{
  Numbers,
  SaysEvent,
  IsTransfer,
  IsStoreLine,
  have_bits,
  bits_of,
  place_bits,
  is_short,
  is_numeric,
  ends,
  lists,
  sentence_in,
  sentence_behind,
  says_event,
  stored_line,
  transfer_line,
}
use Rattle.nvme_grammar.specs.Keywords.{keyword_of, places_of, behind_of, sets_up}
use Rattle.nvme_grammar.specs.Line.{attached, is_comment, line_at, sentence, sentence_by, event_line}
use Rattle.nvme_grammar.specs.Lists.{line_numbers}
use Rattle.nvme_grammar.specs.Reading.{line_aside}
use Rattle.nvme_grammar.specs.Requests.{numbers_at, list_request}
use Rattle.nvme_grammar.specs.declared.reader.Transfer.{Transfer}
use Rattle.nvme_grammar.specs.declared.reader.StoreLine.{StoreLine}
use Rattle.nvme_grammar.specs.declared.keyword.Keyword.{Keyword}
use Rattle.nvme_grammar.specs.declared.keyword.Keyword.TheVariants as keyword
use Rattle.nvme_grammar.specs.declared.line.Line.{Line}
use Rattle.nvme_grammar.specs.declared.line.Line.TheVariants.{Attached, Blank, Event}
use Rattle.nvme_grammar.specs.declared.place.Operand.TheVariants as operand
use Rattle.nvme_grammar.specs.declared.place.Place.{Place}
use Rattle.nvme_grammar.specs.declared.place.Place.TheVariants.{Number}
use Rattle.nvme_grammar.specs.declared.place.Behind.{Behind}
use Rattle.nvme_grammar.specs.declared.place.Behind.TheVariants as behind
use Rattle.nvme_grammar.proofs.EventLemmas.{narrow, nothing, says_write, says_compare, says_store}
use Rattle.nvme_grammar.proofs.NumericLemmas.{
  none_of,
  numbers-unfit,
  others-unfit,
  front-unfit,
  behind-unfit,
  event-sentence,
  unfit-none,
}
use Rattle.nvme_grammar.proofs.TieLemmas.{fine, two-fine, bound}

-- a text has the meaning of its words; other bytes have none
pub sentence-none : (k : Keyword) (line : List ℕ) → (is_line_text line ≡ true → sentence_by k (line_words line) ≡ None)
    → None ≡ sentence_behind k line
sentence-none k line h = by (is_line_text line) h
  where
    by : (t : Bool) → (t ≡ true → sentence_by k (line_words line) ≡ None)
        → None ≡ (if t then sentence_by k (line_words line) else None)
    by true h = sym (h refl)
    by false h = refl

pub sentence-text : (k : Keyword) (line : List ℕ) (o : Option Line)
    → is_line_text line ≡ true → sentence_by k (line_words line) ≡ o → o ≡ sentence_behind k line
sentence-text k line o is e = rw is (sym e)

-- lines of numbers only
not_true : (b : Bool) → not b ≡ true → b ≡ false
not_true true h = absurd (false≢true h)
not_true false h = refl

nothing_behind : (b : Behind) → ends b ≡ true → b ≡ behind.Nothing
nothing_behind behind.Nothing h = refl
nothing_behind b h = absurd (false≢true h)

record IsNumeric (k : Keyword) : Type 0 where
  event : sets_up k ≡ false
  ends_there : behind_of k ≡ behind.Nothing
  few : length (places_of k) ≤ 7
  short : list_all is_short (places_of k) ≡ true

numeric : (k : Keyword) → is_numeric k ≡ true → IsNumeric k
numeric k h =
    let a = and_parts (not (sets_up k))
    (ends (behind_of k) && (nat_le (length (places_of k)) 7 && list_all is_short (places_of k))) h in
    let b = and_parts (ends (behind_of k)) (nat_le (length (places_of k)) 7 && list_all is_short (places_of k)) a.1 in
    let c = and_parts (nat_le (length (places_of k)) 7) (list_all is_short (places_of k)) b.1 in
    record { event = not_true _ a.0; ends_there = nothing_behind _ b.0; few = leb-true _ 7 c.0; short = c.1 }

numeric-none : (k : Keyword) (ws : List (List ℕ)) → IsNumeric k → fine true [] (places_of k) behind.Nothing ws ≡ false
    → sentence_by k ws ≡ None
numeric-none k ws is bad = unfit-none k ws is.event (rw is.ends_there bad)

module _ (k : Keyword) (line rest : List ℕ) (ns : List ℕ) (same : is_line_text rest ≡ is_line_text line)
    (words : is_line_text line ≡ true → Numbers ns (line_words line) (line_words rest)) where
  -- other words after them
  pub others-none : is_numeric k ≡ true → starts_apart rest ≡ true → 0 < length rest
      → (is_line_text line ≡ true → length ns < 7 → begins_number (line_words rest) ≡ false)
      → None ≡ sentence_behind k line
  others-none h apart more all =
      let is = numeric k h in
      sentence-none k line (λ text. numeric-none k (line_words line) is
      (others-unfit true [] (places_of k) ns (line_words line) (line_words rest) is.short (words text)
      (some_words rest apart more (same ∙ text))
      (λ less. all text (omega (arith, less, is.few)))))

  -- no other words
  pub numbers-sentence : (o : Option FleetEvent) → is_numeric k ≡ true → length rest ≡ 0 → IfSome o (SaysEvent k ns)
      → (IsNone o → (is_numeric k && have_bits (bits_of k) ns) ≡ false)
      → option_map says_event o ≡ sentence_behind k line
  numbers-sentence o h none some bad =
      let end = nothing rest none in
      let text : is_line_text line ≡ true = sym same ∙ end.0 in
      let all : Numbers ns (line_words line) [] = rw end.1 at words text in
      sentence-text k line _ text (by o some bad text all)
    where
      by : (o : Option FleetEvent)
          → IfSome o (SaysEvent k ns) → (IsNone o → (is_numeric k && have_bits (bits_of k) ns) ≡ false)
          → is_line_text line ≡ true → Numbers ns (line_words line) []
          → sentence_by k (line_words line) ≡ option_map says_event o
      by (Some event) some bad text all =
          event-sentence k (line_words line) (numeric k h).event ∙ ap event_line (some (line_words line) all)
      by None some bad text all =
          let is = numeric k h in
          numeric-none k (line_words line) is
          (numbers-unfit true [] (places_of k) ns (line_words line) is.short all (rw h at bad refl))

  -- other numbers before other places
  pub front-none : (ps ds : List Place) → places_of k ≡ ps ++ ds → sets_up k ≡ false → list_all is_short ps ≡ true
      → length ns ≤ length ps
      → (is_line_text line ≡ true → length ns < length ps → begins_number (line_words rest) ≡ false)
      → have_bits (map place_bits ps) ns ≡ false → None ≡ sentence_behind k line
  front-none ps ds e event short few all bad =
      sentence-none k line (λ text. unfit-none k (line_words line) event
      (rw e (front-unfit true [] ps ds (behind_of k) ns (line_words line) (line_words rest) short (words text) few
      (all text) bad)))

  -- the words after these numbers do not fit
  pub behind-none : (ps ds : List Place) → places_of k ≡ ps ++ ds → sets_up k ≡ false → length ns ≡ length ps
      → (is_line_text rest ≡ true → (last : List ℕ) → fine true last ds (behind_of k) (line_words rest) ≡ false)
      → None ≡ sentence_behind k line
  behind-none ps ds e event full bad =
      sentence-none k line (λ text. unfit-none k (line_words line) event
      (rw e (behind-unfit true [] ps ds (behind_of k) ns (line_words line) (line_words rest) (words text) full
      (bad (same ∙ text)))))

-- Writes, Compares and stores
pub sentence-write : (line : List ℕ) (t : Transfer) → is_line_text line ≡ true → IsTransfer (line_words line) t
    → transfer_line request.Write t ≡ sentence_behind keyword.Write line
sentence-write line t text is =
    sentence-text keyword.Write line _ text
    (says_write t.cntlid t.nsid t.slba t.blocks is.cntlid is.nsid is.blocks t.word.now (line_words line) is.numbers)

pub sentence-compare : (line : List ℕ) (t : Transfer) → is_line_text line ≡ true → IsTransfer (line_words line) t
    → transfer_line request.Compare t ≡ sentence_behind keyword.Compare line
sentence-compare line t text is =
    sentence-text keyword.Compare line _ text
    (says_compare t.cntlid t.nsid t.slba t.blocks is.cntlid is.nsid is.blocks t.word.now (line_words line) is.numbers)

pub sentence-store : (line : List ℕ) (s : StoreLine) → is_line_text line ≡ true → IsStoreLine (line_words line) s
    → stored_line s ≡ sentence_behind keyword.Store line
sentence-store line s text is =
    sentence-text keyword.Store line _ text
    (says_store s.cntlid is.cntlid s.address s.word.now (line_words line) is.numbers)

-- lists
list-places : (k : Keyword)
    → lists k ≡ true → (places_of k ≡ take 2 (places_of keyword.Attach) ++ []) × (sets_up k ≡ false)
list-places keyword.Attach h = (refl, refl)
list-places keyword.Detach h = (refl, refl)
list-places k h = absurd (false≢true h)

pub list-none : (k : Keyword) (line rest : List ℕ) (ns : List ℕ)
    → lists k ≡ true → is_line_text rest ≡ is_line_text line
    → (is_line_text line ≡ true → Numbers ns (line_words line) (line_words rest)) → length ns ≤ 2
    → (is_line_text line ≡ true → length ns < 2 → begins_number (line_words rest) ≡ false)
    → have_bits (16 ∷ 32 ∷ []) ns ≡ false → None ≡ sentence_behind k line
list-none k line rest ns h same words few all bad =
    let e = list-places k h in
    front-none k line rest ns same words (take 2 (places_of keyword.Attach)) [] e.0 e.1 refl few all bad

list_text : (rest : List ℕ) (list : List ℕ)
    → line_numbers rest ≡ Some list → (is_line_text rest ≡ true) × (numbers_at 16 (line_words rest) ≡ Some list)
list_text rest list e = by (is_line_text rest) e
  where
    by : (t : Bool) → (if t then numbers_at 16 (line_words rest) else None) ≡ Some list
        → (t ≡ true) × (numbers_at 16 (line_words rest) ≡ Some list)
    by true e = (refl, e)
    by false e = absurd (false≢true (ap is_some e))

listed : (k : Keyword) (c n : ℕ) (list : List ℕ) (r : Request) (ws behind : List (List ℕ))
    → lists k ≡ true → c < 2 ^ 16 → n < 2 ^ 32 → Numbers (c ∷ n ∷ []) ws behind
    → numbers_at 16 behind ≡ Some list → Some r ≡ list_request k n list → sentence_by k ws ≡ Some (Event (PlaceOf c r))
listed keyword.Attach c n list r ws behind h cntlid nsid (w1, ws1, e1, k1, (w2, ws2, e2, k2, end)) all asked =
    rw (e1, e2, end, narrow 16 w1 c k1 cntlid, narrow 32 w2 n k2 nsid, all)
    (ap (λ o. event_line (o >>= (λ r. Some (PlaceOf c r)))) (sym asked))
listed keyword.Detach c n list r ws behind h cntlid nsid (w1, ws1, e1, k1, (w2, ws2, e2, k2, end)) all asked =
    rw (e1, e2, end, narrow 16 w1 c k1 cntlid, narrow 32 w2 n k2 nsid, all)
    (ap (λ o. event_line (o >>= (λ r. Some (PlaceOf c r)))) (sym asked))
listed k c n list r ws behind h cntlid nsid all numbers asked = absurd (false≢true h)

pub list-sentence : (k : Keyword) (line rest : List ℕ) (ns : List ℕ) (c n : ℕ) (list : List ℕ) (r : Request)
    → lists k ≡ true → is_line_text rest ≡ is_line_text line
    → (is_line_text line ≡ true → Numbers ns (line_words line) (line_words rest)) → ns ≡ c ∷ n ∷ [] → c < 2 ^ 16
    → n < 2 ^ 32 → line_numbers rest ≡ Some list
    → Some r ≡ list_request k n list → Some (Event (PlaceOf c r)) ≡ sentence_behind k line
list-sentence k line rest ns c n list r h same words two cntlid nsid numbers asked =
    let all = list_text rest list numbers in
    let text : is_line_text line ≡ true = sym same ∙ all.0 in
    sentence-text k line _ text
    (listed k c n list r (line_words line) (line_words rest) h cntlid nsid (rw two at words text) all.1 asked)

-- `attached C N`
attached-fine : (before : List ℕ) (ws : List (List ℕ))
    → fine true before (places_of keyword.Attached) behind.Nothing ws ≡ is_some (attached ws)
attached-fine before ws = two-fine is_some refl true before (Number operand.Cntlid) (Number operand.Nsid) _ (λ c n.
    bound is_some (number_at 16 c) _ _ refl (λ x e. bound is_some (number_at 32 n) _ _ refl (λ y f. refl))) ws

attached-none : (ws : List (List ℕ)) → fine true [] (places_of keyword.Attached) behind.Nothing ws ≡ false
    → attached ws ≡ None
attached-none ws bad = none_of (attached ws) (sym (attached-fine [] ws) ∙ bad)

module _ (line rest : List ℕ) (ns : List ℕ) (same : is_line_text rest ≡ is_line_text line)
    (words : is_line_text line ≡ true → Numbers ns (line_words line) (line_words rest)) where
  pub attached-numbers : length ns ≤ 2
      → (is_line_text line ≡ true → length ns < 2 → begins_number (line_words rest) ≡ false)
      → have_bits (16 ∷ 32 ∷ []) ns ≡ false → None ≡ sentence_behind keyword.Attached line
  attached-numbers few all bad =
      sentence-none keyword.Attached line (λ text. attached-none (line_words line)
      (front-unfit true [] (places_of keyword.Attached) [] behind.Nothing ns (line_words line) (line_words rest) refl
      (words text) few (all text) bad))

  pub attached-others : length ns ≡ 2 → starts_apart rest ≡ true → 0 < length rest
      → None ≡ sentence_behind keyword.Attached line
  attached-others two apart more =
      sentence-none keyword.Attached line (λ text. attached-none (line_words line)
      (behind-unfit true [] (places_of keyword.Attached) [] behind.Nothing ns (line_words line) (line_words rest)
      (words text) two
      (λ last. no_more last (line_words rest) (some_words rest apart more (same ∙ text)))))
    where
      no_more : (last : List ℕ) (ws : List (List ℕ)) → 0 < length ws → fine true last [] behind.Nothing ws ≡ false
      no_more last [] some = absurd (omega (arith, some))
      no_more last (w ∷ ws) some = refl

  pub attached-sentence : (c n : ℕ) → ns ≡ c ∷ n ∷ [] → c < 2 ^ 16 → n < 2 ^ 32 → length rest ≡ 0
      → Some (Attached c n) ≡ sentence_behind keyword.Attached line
  attached-sentence c n two cntlid nsid none =
      let end = nothing rest none in
      let text : is_line_text line ≡ true = sym same ∙ end.0 in
      sentence-text keyword.Attached line _ text (by (line_words line) (rw (two, end.1) at words text))
    where
      by : (ws : List (List ℕ)) → Numbers (c ∷ n ∷ []) ws [] → attached ws ≡ Some (Attached c n)
      by ws (w1, ws1, e1, k1, (w2, ws2, e2, k2, e3)) =
          rw (e1, e2, e3, narrow 16 w1 c k1 cntlid, narrow 32 w2 n k2 nsid) refl

-- the first word of a line, and what follows it
nothing_after : {A B : Type 0} (o : Option A) (f : A → Option B) → ((x : A) → None ≡ f x) → None ≡ (o >>= f)
nothing_after None f h = refl
nothing_after (Some x) f h = h x

pub sentence-keyword : (line behind word : List ℕ) (o : Option Keyword)
    → keyword_of word ≡ o → is_line_text behind ≡ is_line_text line
    → (is_line_text line ≡ true → line_words line ≡ word ∷ line_words behind)
    → (o >>= (λ k. sentence_behind k behind)) ≡ sentence_in line
unfolding sentence
sentence-keyword line behind word o e same words = sym (by (is_line_text line) same words)
  where
    by : (t : Bool) → is_line_text behind ≡ t → (t ≡ true → line_words line ≡ word ∷ line_words behind)
        → (if t then sentence (line_words line) else None)
        ≡ (o >>= (λ k. if is_line_text behind then sentence_by k (line_words behind) else None))
    by true same h = rw (h refl, same, e) refl
    by false same h = rw same (nothing_after o _ (λ k. refl))

pub sentence-blank : (line start : List ℕ) → line_words start ≡ line_words line → is_line_text start ≡ is_line_text line
    → length start ≡ 0 → Some Blank ≡ sentence_in line
unfolding sentence
sentence-blank line start words text none =
    let end = nothing start none in
    rw (sym text ∙ end.0, sym words ∙ end.1) refl

pub line-sentence : (line : List ℕ) → is_comment line ≡ false → sentence_in line ≡ line_at line
unfolding line_at
line-sentence line comment = rw comment refl

-- a line whose data were checked
module _ (f : List ℕ → Line) (any : (x : List ℕ) → line_aside (f x) ≡ Event PowerCycle) where
  pub aside-some : (o : Option (List ℕ))
      → is_some o ≡ true → Some (Event PowerCycle) ≡ option_map line_aside (option_map f o)
  aside-some (Some x) h = ap Some (sym (any x))
  aside-some None h = absurd (false≢true h)

  pub aside-none : (o : Option (List ℕ)) → is_some o ≡ false → None ≡ option_map line_aside (option_map f o)
  aside-none (Some x) h = absurd (false≢true (sym h))
  aside-none None h = refl
