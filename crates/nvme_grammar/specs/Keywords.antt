-- The words that lines begin with, and the places after each of them: the forms of all lines of a script.
use Rattle.std.specs.Prelude.{
  ℕ,
  ◌-◌,
  nat_le,
  ◌&&◌,
  Bool,
  true,
  false,
  List,
  [],
  ◌∷◌,
  ◌++◌,
  codes,
  length,
  slice_get,
  Option,
  Some,
  None,
}
use Rattle.std.specs.List.{find, flat_map}
use Rattle.std.specs.Str.{bytes_eq}
use Rattle.nvme_grammar.specs.Near.{is_meant}
use Rattle.nvme_grammar.specs.Places.{place_behind, takes_behind, place_name, behind_name}
use Rattle.nvme_grammar.specs.declared.keyword.Keyword.{Keyword}
use Rattle.nvme_grammar.specs.declared.keyword.Keyword.TheVariants.{
  Controller,
  Namespace,
  Attached,
  Start,
  Up,
  Read,
  Write,
  Compare,
  Zeroes,
  Flush,
  Register,
  Acquire,
  Release,
  Report,
  Identify,
  Protect,
  Protection,
  Attach,
  Detach,
  Ring,
  Fetch,
  Execute,
  Poll,
  Reset,
  Store,
  Write32,
  PowerCycle,
}
use Rattle.nvme_grammar.specs.declared.place.Operand.TheVariants as operand
use Rattle.nvme_grammar.specs.declared.place.Place.{Place}
use Rattle.nvme_grammar.specs.declared.place.Place.TheVariants.{Number, Iekey, Host, Blocks, Sharing, Data, Bytes}
use Rattle.nvme_grammar.specs.declared.place.Behind.{Behind}
use Rattle.nvme_grammar.specs.declared.place.Behind.TheVariants as behind

-- each keyword, as scripts have it
abbrev pub keyword_text : Keyword → List ℕ
keyword_text Controller = codes "controller"
keyword_text Namespace = codes "namespace"
keyword_text Attached = codes "attached"
keyword_text Start = codes "start"
keyword_text Up = codes "up"
keyword_text Read = codes "read"
keyword_text Write = codes "write"
keyword_text Compare = codes "compare"
keyword_text Zeroes = codes "zeroes"
keyword_text Flush = codes "flush"
keyword_text Register = codes "register"
keyword_text Acquire = codes "acquire"
keyword_text Release = codes "release"
keyword_text Report = codes "report"
keyword_text Identify = codes "identify"
keyword_text Protect = codes "protect"
keyword_text Protection = codes "protection"
keyword_text Attach = codes "attach"
keyword_text Detach = codes "detach"
keyword_text Ring = codes "ring"
keyword_text Fetch = codes "fetch"
keyword_text Execute = codes "execute"
keyword_text Poll = codes "poll"
keyword_text Reset = codes "reset"
keyword_text Store = codes "store"
keyword_text Write32 = codes "write32"
keyword_text PowerCycle = codes "powercycle"

-- all of them, those of the lines before `start` first
abbrev pub keywords : List Keyword
keywords = Controller ∷ Namespace ∷ Attached ∷ Start ∷ Up ∷ Read ∷ Write ∷ Compare ∷ Zeroes ∷ Flush ∷ Register
    ∷ Acquire ∷ Release ∷ Report ∷ Identify ∷ Protect ∷ Protection ∷ Attach ∷ Detach ∷ Ring ∷ Fetch ∷ Execute ∷ Poll
    ∷ Reset ∷ Store ∷ Write32 ∷ PowerCycle ∷ []

-- their texts, each after a space
abbrev pub keyword_texts : List ℕ
keyword_texts = flat_map (λ k. codes " " ++ keyword_text k) keywords

-- the keyword of a word
unfoldable pub keyword_of : List ℕ → Option Keyword
keyword_of word = find (λ k. bytes_eq word (keyword_text k)) keywords

-- the first keyword that a word resembles, or equals in other letters
unfoldable pub nearest_to : List ℕ → Option Keyword
nearest_to word = find (λ k. is_meant word (keyword_text k)) keywords

-- the places of a controller and a namespace
abbrev c : Place
c = Number operand.Cntlid

abbrev n : Place
n = Number operand.Nsid

-- the places after the keyword in each of its lines, word by word
abbrev pub places_of : Keyword → List Place
places_of Controller = c ∷ Host ∷ Number operand.Host ∷ []
places_of Namespace = n ∷ Blocks ∷ Number operand.Size ∷ Sharing ∷ []
places_of Attached = c ∷ n ∷ []
places_of Start = []
places_of Up = c ∷ []
places_of Read = c ∷ n ∷ Number operand.Slba ∷ Number operand.Blocks ∷ []
places_of Write = c ∷ n ∷ Number operand.Slba ∷ Number operand.Blocks ∷ Data ∷ []
places_of Compare = c ∷ n ∷ Number operand.Slba ∷ Number operand.Blocks ∷ Data ∷ []
places_of Zeroes = c ∷ n ∷ Number operand.Slba ∷ Number operand.Blocks ∷ []
places_of Flush = c ∷ n ∷ []
places_of Register = c ∷ n ∷ Number operand.Action ∷ Iekey ∷ Number operand.Cptpl ∷ Number operand.Crkey
    ∷ Number operand.Nrkey ∷ []
places_of Acquire = c ∷ n ∷ Number operand.Action ∷ Number operand.Rtype ∷ Number operand.Crkey
    ∷ Number operand.Prkey ∷ []
places_of Release = c ∷ n ∷ Number operand.Action ∷ Number operand.Rtype ∷ Number operand.Crkey ∷ []
places_of Report = c ∷ n ∷ Number operand.Dwords ∷ []
places_of Identify = c ∷ Number operand.Cns ∷ Number operand.AnyNsid ∷ []
places_of Protect = c ∷ n ∷ Number operand.State ∷ []
places_of Protection = c ∷ n ∷ []
places_of Attach = c ∷ n ∷ []
places_of Detach = c ∷ n ∷ []
places_of Ring = c ∷ []
places_of Fetch = c ∷ Number operand.Queue ∷ []
places_of Execute = c ∷ Number operand.Index ∷ []
places_of Poll = c ∷ []
places_of Reset = c ∷ []
places_of Store = c ∷ Number operand.Address ∷ Bytes ∷ []
places_of Write32 = c ∷ Number operand.Offset ∷ Number operand.Value ∷ []
places_of PowerCycle = []

-- what may follow
abbrev pub behind_of : Keyword → Behind
behind_of Controller = behind.Raw
behind_of Attach = behind.Controllers
behind_of Detach = behind.Controllers
behind_of _ = behind.Nothing

-- the lines before `start`, and `start`; all others follow it
abbrev pub sets_up : Keyword → Bool
sets_up Controller = true
sets_up Namespace = true
sets_up Attached = true
sets_up Start = true
sets_up _ = false

-- the place of a word, by its index after the keyword
abbrev pub either_place : Option Place → Option Place → Option Place
either_place (Some place) other = Some place
either_place None other = other

abbrev pub place_at : Keyword → ℕ → Option Place
place_at k index =
    either_place (slice_get (places_of k) index) (place_behind (behind_of k) (index - length (places_of k)))

-- whether this many words may follow the keyword
abbrev pub takes_words : Keyword → ℕ → Bool
takes_words k words =
    nat_le (length (places_of k)) words && takes_behind (behind_of k) (words - length (places_of k))

-- a line of this keyword, with the names of its places
abbrev pub form_text : Keyword → List ℕ
form_text k =
    keyword_text k ++ flat_map (λ place. codes " " ++ place_name place) (places_of k) ++ behind_name (behind_of k)
