-- For the answers of `putting.rt` and `event.rt`: texts that are put into a buffer, or do not fit.
use Rattle.std.proofs.Common.{
  ◌≡◌,
  ℕ,
  ◌+◌,
  ◌-◌,
  ◌*◌,
  ◌<◌,
  ◌≤◌,
  ◌&&◌,
  Bool,
  true,
  false,
  nat_le,
  get_or,
  suc,
  Result,
  Ok,
  Err,
  List,
  [],
  ◌∷◌,
  ◌++◌,
  length,
  take,
  drop,
  slice_set,
  refl,
  sym,
  ap,
  subst,
  ◌∙◌,
  inl,
  inr,
  arith,
}
use Rattle.std.proofs.lemmas.Bool.{le-leb, lt-leb, leb-true, leb-false}
use Rattle.std.proofs.lemmas.List.{append_assoc, append-nil, length-append, drop_at, take_at, set_at, drop-drop}
use Rattle.std.proofs.lemmas.Fmt.{length-decimal-le}
use Rattle.std.specs.Prelude.{◌^◌, codes, decimal}
use Rattle.std.proofs.Math.Seq.{drop-cons}
use Rattle.std.specs.List.{flat_map}
use borrow.Rule.Slice.PartMut.{put_mid}
use Rattle.script_text.specs.HexText.{hex_pair}
use Rattle.script_text.specs.Pages.{Adds, most_text}
use Rattle.nvme_event.specs.declared.event.FleetEvent.TheVariants as event
use Rattle.nvme_grammar.specs.declared.keyword.Keyword.TheVariants as keyword
use Rattle.nvme_lines.specs.LineTexts.{bytes_word, decimals, keyword_line, spaced}
use Rattle.library_text.specs.EventLines.{store_front, whole_line}
use Rattle.library_text.specs.Putting.{Puts, PutsIf, PutsWhere}
use Rattle.library_text.specs.declared.putting.Unput.{Unput}
use Rattle.library_text.specs.declared.putting.Unput.TheVariants.{NoRoom, NoMemory}

-- a text that fits
pub puts-ok : (text old new : List ℕ) (n : ℕ) → length text ≤ length old → n ≡ length text
    → new ≡ text ++ drop (length text) old → Puts text (Ok n) old new
puts-ok text old new n fits long is =
    subst (λ (b : Bool). PutsWhere b text (Ok n) old new) (sym (le-leb (length text) (length old) fits))
    (ap Ok long, is)

-- one that does not fit
pub puts-no : (text old : List ℕ) → length old < length text → Puts text (Err NoRoom) old old
puts-no text old lacks =
    subst (λ (b : Bool). PutsWhere b text (Err NoRoom) old old)
    (sym (lt-leb (length text) (length old) lacks)) (refl, refl)

-- the same if memory was not refused
if-puts-by : (b : Bool) (text old new : List ℕ) (result : Result ℕ Unput) → nat_le (length text) (length old) ≡ b
    → PutsWhere b text result old new → PutsIf text result old new
if-puts-by true text old new result fits puts =
    subst (λ (r : Result ℕ Unput). PutsIf text r old new) (sym puts.0)
    (refl, leb-true (length text) (length old) fits, puts.1)
if-puts-by false text old new result lacks puts =
    subst (λ (r : Result ℕ Unput). PutsIf text r old new) (sym puts.0)
    (inl (leb-false (length text) (length old) lacks), puts.1)

pub if-puts : (text old new : List ℕ) (result : Result ℕ Unput) → Puts text result old new → PutsIf text result old new
if-puts text old new result puts = if-puts-by (nat_le (length text) (length old)) text old new result refl puts

-- the front of a line, digits and a line feed
module _ (front hex line : List ℕ) (n k : ℕ) (long : length front ≡ n) (wide : length hex ≡ k)
    (below : n + k < length line) where
  middle : put_mid n k (front ++ drop n line) hex ≡ (front ++ hex) ++ drop (n + k) line
  middle =
      ap (λ t. t ++ (hex ++ drop k (drop n (front ++ drop n line)))) (take_at front (drop n line) n long)
      ∙ ap (λ t. front ++ (hex ++ drop k t)) (drop_at front (drop n line) n long)
      ∙ ap (λ t. front ++ (hex ++ t)) (drop-drop k n line) ∙ sym (append_assoc front hex (drop (n + k) line))

  pub line-put : slice_set (put_mid n k (front ++ drop n line) hex) (n + k) 10 ≡ (front ++ hex ++ 10 ∷ [])
      ++ drop (n + k + 1) line
  line-put =
      let one : suc (n + k) ≡ n + k + 1 = omega arith in
      let both : length (front ++ hex) ≡ n + k = length-append front hex ∙ omega (arith, long, wide) in
      ap (λ t. slice_set t (n + k) 10) (middle ∙ ap (λ t. (front ++ hex) ++ t) (drop-cons line (n + k) 0 below))
      ∙ set_at (front ++ hex) (get_or line (n + k) 0) (drop (suc (n + k)) line) 10 (n + k) both
      ∙ ap (λ m. (front ++ hex) ++ 10 ∷ drop m line) one
      ∙ sym (append_assoc (front ++ hex) (10 ∷ []) (drop (n + k + 1) line))

  -- the same, with the place of the line feed in another form
  pub line-put-at : (end : ℕ) → end ≡ n + k
      → slice_set (put_mid n k (front ++ drop n line) hex) end 10 ≡ (front ++ hex ++ 10 ∷ []) ++ drop (end + 1) line
  line-put-at end is =
      subst
      (λ m. slice_set (put_mid n k (front ++ drop n line) hex) m 10 ≡ (front ++ hex ++ 10 ∷ []) ++ drop (m + 1) line)
      (sym is) line-put

pub line-length : (front hex : List ℕ) (n k : ℕ) → length front ≡ n → length hex ≡ k
    → length (front ++ hex ++ 10 ∷ []) ≡ n + k + 1
line-length front hex n k long wide =
    let one = length-append (front ++ hex) (10 ∷ []) in
    let two = length-append front hex in
    omega (arith, one, two, long, wide)

pub length-pairs : (bs : List ℕ) → length (flat_map hex_pair bs) ≡ 2 * length bs
length-pairs [] = refl
length-pairs (b ∷ bs) = let e = length-pairs bs in omega (arith, e)

-- the length of a space, a word and the words after it
word-length : (word rest : List ℕ) → length ((codes " " ++ word) ++ rest) ≡ 1 + length word + length rest
word-length word rest =
    let a = length-append (codes " " ++ word) rest in
    let b = length-append (codes " ") word in
    omega (arith, a, b)

identifier-short : (n : ℕ) → n < 2 ^ 16 → length (decimal n) ≤ 5
identifier-short n narrow = length-decimal-le 5 n (omega arith) (omega (arith, narrow)) (omega (arith, narrow))

long-short : (n : ℕ) → n < 2 ^ 64 → length (decimal n) ≤ 20
long-short n wide = length-decimal-le 20 n (omega arith) (omega (arith, wide)) wide

-- the part before the digits of a store's line is short
pub front-short : (cntlid address : ℕ) → cntlid < 2 ^ 16 → address < 2 ^ 64 → length (store_front cntlid address) ≤ 64
front-short cntlid address narrow wide =
    let five = identifier-short cntlid narrow in
    let twenty = long-short address wide in
    let a = word-length (decimal cntlid) (spaced (decimal address ∷ codes "hex:" ∷ [])) in
    let b = word-length (decimal address) (spaced (codes "hex:" ∷ [])) in
    let c = length-append (codes "store") (spaced (decimal cntlid ∷ decimal address ∷ codes "hex:" ∷ [])) in
    omega (arith, five, twenty, a, b, c)

-- the digits after it are those of the line
pub store-parts : (cntlid address : ℕ) (bytes : List ℕ) → store_front cntlid address ++ flat_map hex_pair bytes ++ 10
    ∷ [] ≡ keyword_line keyword.Store (decimals (cntlid ∷ address ∷ []) ++ bytes_word bytes ∷ []) ++ 10 ∷ []
store-parts cntlid address bytes =
    let hex = flat_map hex_pair bytes in
    let mark = codes " hex:" in
    ap (λ t. (codes "store " ++ t) ++ 10 ∷ []) (append_assoc (decimal cntlid) (32 ∷ (decimal address ++ mark)) hex
    ∙ ap (λ t. decimal cntlid ++ (32 ∷ t))
    (append_assoc (decimal address) mark hex ∙ ap (λ t. decimal address ++ t) (sym (append-nil (mark ++ hex)))))

-- and so are the lines of numbers
pub write32-short : (cntlid offset value : ℕ) → cntlid < 2 ^ 16 → offset < 2 ^ 64 → value < 2 ^ 32
    → length (whole_line (event.RawWrite32 cntlid offset value)) ≤ 96
write32-short cntlid offset value narrow wide middle =
    let five = identifier-short cntlid narrow in
    let twenty = long-short offset wide in
    let ten = length-decimal-le 10 value (omega arith) (omega (arith, middle)) (omega (arith, middle)) in
    let a = word-length (decimal cntlid) (spaced (decimal offset ∷ decimal value ∷ [])) in
    let b = word-length (decimal offset) (spaced (decimal value ∷ [])) in
    let c = word-length (decimal value) [] in
    let d = length-append (codes "write32") (spaced (decimal cntlid ∷ decimal offset ∷ decimal value ∷ [])) in
    let e =
    length-append (codes "write32" ++ spaced (decimal cntlid ∷ decimal offset ∷ decimal value ∷ [])) (10 ∷ []) in
    omega (arith, five, twenty, ten, a, b, c, d, e)

pair-short : (word : List ℕ) (m n : ℕ) → length word ≤ 8 → m < 2 ^ 16 → n < 2 ^ 16
    → length ((word ++ spaced (decimals (m ∷ n ∷ []))) ++ 10 ∷ []) ≤ 96
pair-short word m n few first second =
    let five = identifier-short m first in
    let other = identifier-short n second in
    let a = word-length (decimal m) (spaced (decimal n ∷ [])) in
    let b = word-length (decimal n) [] in
    let c = length-append word (spaced (decimal m ∷ decimal n ∷ [])) in
    let d = length-append (word ++ spaced (decimal m ∷ decimal n ∷ [])) (10 ∷ []) in
    omega (arith, few, five, other, a, b, c, d)

pub fetch-short : (cntlid qid : ℕ) → cntlid < 2 ^ 16 → qid < 2 ^ 16 → length (whole_line (event.Fetch cntlid qid)) ≤ 96
fetch-short cntlid qid first second = pair-short (codes "fetch") cntlid qid (omega arith) first second

pub execute-short : (cntlid i : ℕ) → cntlid < 2 ^ 16 → i < 2 ^ 16 → length (whole_line (event.Execute cntlid i)) ≤ 96
execute-short cntlid i first second = pair-short (codes "execute") cntlid i (omega arith) first second
