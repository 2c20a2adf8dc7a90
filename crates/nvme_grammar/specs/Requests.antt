-- The request of a line, from the words after its controller and its namespace.
use Rattle.std.specs.Prelude.{ℕ, Bool, true, false, ◌==◌, List, [], ◌∷◌, Option, Some, None, if◌then◌else◌}
use Rattle.std.specs.Borrow.{Bor}
use Rattle.script_text.specs.Numbers.{number_at}
use Rattle.script_text.specs.Data.{data_at}
use Rattle.nvme_driver.specs.declared.request.Request.{Request}
use Rattle.nvme_driver.specs.declared.request.Request.TheVariants.{
  Read,
  Write,
  Compare,
  WriteZeroes,
  Flush,
  Register,
  Acquire,
  Release,
  Report,
  Protect,
  Protection,
  Attach,
  Detach,
}
use Rattle.nvme_grammar.specs.Arity.{◌>>=◌, zero_words, one, two, three, four, five}
use Rattle.nvme_grammar.specs.Lent.{lent}
use Rattle.nvme_grammar.specs.declared.keyword.Keyword.{Keyword}
use Rattle.nvme_grammar.specs.declared.keyword.Keyword.TheVariants as keyword

-- `SLBA BLOCKS`
abbrev pub on_blocks : (ℕ → ℕ → Request) → List (List ℕ) → Option Request
on_blocks make = two (λ s b. do
  slba ← number_at 64 s
  blocks ← number_at 32 b
  Some (make slba blocks))

-- `SLBA BLOCKS DATA`
abbrev pub with_data : (ℕ → Bor (List ℕ) → Request) → List (List ℕ) → Option Request
with_data make = three (λ s b word. do
  slba ← number_at 64 s
  blocks ← number_at 32 b
  bytes ← data_at blocks word
  Some (make slba (lent bytes)))

-- IEKEY: 0 or 1
abbrev pub bit_of : ℕ → Option Bool
bit_of n = if n == 0 then Some false else if n == 1 then Some true else None

abbrev pub bit_at : List ℕ → Option Bool
bit_at word = do
  n ← number_at 8 word
  bit_of n

-- two reservation keys
abbrev pub keys_at : List ℕ → List ℕ → Option (ℕ × ℕ)
keys_at a b = do
  first ← number_at 64 a
  second ← number_at 64 b
  Some (first, second)

-- `ACTION IEKEY CPTPL CRKEY NRKEY`
abbrev pub register : ℕ → List (List ℕ) → Option Request
register nsid = five (λ a i p c n. do
  action ← number_at 8 a
  iekey ← bit_at i
  cptpl ← number_at 8 p
  keys ← keys_at c n
  Some (Register nsid action iekey cptpl keys.0 keys.1))

-- `ACTION RTYPE CRKEY PRKEY`
abbrev pub acquire : ℕ → List (List ℕ) → Option Request
acquire nsid = four (λ a t c p. do
  action ← number_at 8 a
  rtype ← number_at 8 t
  keys ← keys_at c p
  Some (Acquire nsid action rtype keys.0 keys.1))

-- `ACTION RTYPE CRKEY`
abbrev pub release : ℕ → List (List ℕ) → Option Request
release nsid = three (λ a t c. do
  action ← number_at 8 a
  rtype ← number_at 8 t
  crkey ← number_at 64 c
  Some (Release nsid action rtype crkey))

-- `DWORDS`
abbrev pub report : ℕ → List (List ℕ) → Option Request
report nsid = one (λ d. do
  dwords ← number_at 32 d
  Some (Report nsid dwords))

-- `STATE`
abbrev pub protect : ℕ → List (List ℕ) → Option Request
protect nsid = one (λ s. do
  state ← number_at 8 s
  Some (Protect nsid state))

-- each word is a number
abbrev pub numbers_at : ℕ → List (List ℕ) → Option (List ℕ)
numbers_at bits [] = Some []
numbers_at bits (word ∷ words) = do
  first ← number_at bits word
  rest ← numbers_at bits words
  Some (first ∷ rest)

-- the request of a keyword with a list
abbrev pub list_request : Keyword → ℕ → List ℕ → Option Request
list_request keyword.Attach nsid list = Some (Attach nsid (lent list))
list_request keyword.Detach nsid list = Some (Detach nsid (lent list))
list_request other nsid list = None

-- `C1 C2 ..`, none or more
abbrev pub with_list : (List ℕ → Option Request) → List (List ℕ) → Option Request
with_list ask words = do
  list ← numbers_at 16 words
  ask list

-- the request of the words after `KEYWORD C N`; other keywords have none
abbrev pub request_by : Keyword → ℕ → List (List ℕ) → Option Request
request_by keyword.Read nsid words = on_blocks (Read nsid) words
request_by keyword.Write nsid words = with_data (Write nsid) words
request_by keyword.Compare nsid words = with_data (Compare nsid) words
request_by keyword.Zeroes nsid words = on_blocks (WriteZeroes nsid) words
request_by keyword.Flush nsid words = zero_words (Flush nsid) words
request_by keyword.Register nsid words = register nsid words
request_by keyword.Acquire nsid words = acquire nsid words
request_by keyword.Release nsid words = release nsid words
request_by keyword.Report nsid words = report nsid words
request_by keyword.Protect nsid words = protect nsid words
request_by keyword.Protection nsid words = zero_words (Protection nsid) words
request_by keyword.Attach nsid words = with_list (list_request keyword.Attach nsid) words
request_by keyword.Detach nsid words = with_list (list_request keyword.Detach nsid) words
request_by other nsid words = None
