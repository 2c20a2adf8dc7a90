-- For the answer of `line_fault`: the words after a keyword fit its places exactly if the line has a meaning, and is
-- allowed before or after `start`, wherever it is.
use Rattle.std.proofs.Common.{
  ◌≡◌,
  ℕ,
  Bool,
  true,
  false,
  not,
  List,
  [],
  ◌∷◌,
  drop,
  Option,
  Some,
  None,
  refl,
  sym,
  ap,
  ◌∙◌,
}
use Rattle.std.specs.Prelude.{◌&&◌, codes, if◌then◌else◌, option_map, is_some}
use Rattle.std.specs.Str.{bytes_eq}
use Rattle.nvme_event.specs.declared.event.FleetEvent.{FleetEvent}
use Rattle.nvme_event.specs.declared.event.FleetEvent.TheVariants.{
  BringUp,
  Place as Placed,
  Ring as Rings,
  Fetch as Fetches,
  Execute as Executes,
  Poll as Polls,
  Reset as Resets,
  PowerCycle as Cycles,
}
use Rattle.nvme_driver.specs.declared.request.Request.{Request}
use Rattle.nvme_driver.specs.declared.request.Request.TheVariants.{
  Read as ReadOf,
  Write as WriteOf,
  Compare as CompareOf,
  WriteZeroes as ZeroesOf,
  Flush as FlushOf,
  Protection as ProtectionOf,
  Attach as AttachOf,
  Detach as DetachOf,
}
use Rattle.script_text.specs.Numbers.{number_at}
use Rattle.script_text.specs.Data.{bytes_at, data_at}
use Rattle.nvme_grammar.specs.Arity.{◌>>=◌}
use Rattle.std.specs.Borrow.{Bor}
use Rattle.nvme_grammar.specs.Requests.{
  request_by,
  bit_at,
  on_blocks,
  with_data,
  with_list,
  register,
  acquire,
  release,
  report,
  protect,
}
use Rattle.nvme_grammar.specs.Events.{place, alone, pair, identify, store, write32}
use Rattle.nvme_grammar.specs.Line.{
  sentence,
  sentence_by,
  event_line,
  controller,
  namespace,
  attached,
  start,
  sharing,
  rawness,
}
use Rattle.nvme_grammar.specs.Keywords.{places_of, behind_of}
use Rattle.nvme_grammar.specs.LineFaults.{is_allowed_line, suits, words_fault, fault_of, keyword_fault, foreign_fault}
use Rattle.nvme_grammar.specs.Lent.{lent}
use Rattle.nvme_grammar.specs.Line.{line_at, is_comment}
use Rattle.script_text.specs.Words.{is_line_text, line_words}
use Rattle.nvme_grammar.specs.Keywords.{keyword_of}
use Rattle.nvme_grammar.proofs.TieLemmas.{
  fine,
  fine_behind,
  stands,
  bound,
  plain,
  and_false,
  and_false2,
  zero-fine,
  one-fine,
  two-fine,
  three-fine,
  four-fine,
  five-fine,
  numbers-fine,
  keys-fine,
  if_fine,
  keyword-tie,
}
use Rattle.nvme_grammar.specs.declared.line.Line.TheVariants.{Controller as Sets, Blank}
use Rattle.nvme_grammar.specs.declared.keyword.Keyword.{Keyword}
use Rattle.nvme_grammar.specs.declared.keyword.Keyword.TheVariants.{
  Controller,
  Namespace,
  Attached,
  Start,
  Up,
  Read,
  Write,
  Compare,
  Zeroes,
  Flush,
  Register,
  Acquire,
  Release,
  Report,
  Identify,
  Protect,
  Protection,
  Attach,
  Detach,
  Ring,
  Fetch,
  Execute,
  Poll,
  Reset,
  Store,
  Write32,
  PowerCycle,
}
use Rattle.nvme_grammar.specs.declared.fault.LineFault.{LineFault}
use Rattle.nvme_grammar.specs.declared.place.Operand.TheVariants as operand
use Rattle.nvme_grammar.specs.declared.place.Place.{Place}
use Rattle.nvme_grammar.specs.declared.place.Place.TheVariants.{Number, Host, Blocks, Sharing, Iekey, Data, Bytes}
use Rattle.nvme_grammar.specs.declared.place.Behind.{Behind}
use Rattle.nvme_grammar.specs.declared.place.Behind.TheVariants as behind

-- requests, after `KEYWORD C N`
module _ (g : Option Request → Bool) (none : g None ≡ false) (t : Bool) (some : (r : Request) → t ≡ g (Some r))
    (nsid : ℕ) (before : List ℕ) (ws : List (List ℕ)) where
  on_blocks-fine : (make : ℕ → ℕ → Request)
      → fine t before (Number operand.Slba ∷ Number operand.Blocks ∷ []) behind.Nothing ws ≡ g (on_blocks make ws)
  on_blocks-fine make = two-fine g none t before (Number operand.Slba) (Number operand.Blocks) _
      (λ s b. bound g (number_at 64 s) _ _ none (λ x e. bound g (number_at 32 b) _ _ none (λ y f. some _))) ws

  with_data-fine : (make : ℕ → Bor (List ℕ) → Request)
      → fine t before (Number operand.Slba ∷ Number operand.Blocks ∷ Data ∷ []) behind.Nothing ws
      ≡ g (with_data make ws)
  with_data-fine make = three-fine g none t before (Number operand.Slba) (Number operand.Blocks) Data _
      (λ s b w. bound g (number_at 64 s) _ _ none (λ x e. bound g (number_at 32 b) _ _ none (λ y f.
      ap (λ o. is_some (o >>= (λ blocks. data_at blocks w)) && t) f ∙ bound g (data_at y w) _ _ none (λ d h. some _))))
      ws

  with_list-fine : (make : Bor (List ℕ) → Request)
      → fine t before [] behind.Controllers ws ≡ g (with_list (λ l. Some (make (lent l))) ws)
  with_list-fine make = numbers-fine (λ o. g (o >>= (λ l. Some (make (lent l))))) none t (λ l. some _) before ws

  register-fine : fine t before
      (Number operand.Action ∷ Iekey ∷ Number operand.Cptpl ∷ Number operand.Crkey ∷ Number operand.Nrkey ∷ [])
      behind.Nothing ws ≡ g (register nsid ws)
  register-fine = five-fine g none t before
      (Number operand.Action) Iekey (Number operand.Cptpl) (Number operand.Crkey) (Number operand.Nrkey) _ (λ a i p c n.
      bound g (number_at 8 a) _ _ none
      (λ x e. bound g (bit_at i) _ _ none (λ y f. bound g (number_at 8 p) _ _ none (λ z h.
      keys-fine g none t c n _ (λ k. some _))))) ws

  acquire-fine :
      fine t before (Number operand.Action ∷ Number operand.Rtype ∷ Number operand.Crkey ∷ Number operand.Prkey ∷ [])
      behind.Nothing ws ≡ g (acquire nsid ws)
  acquire-fine = four-fine g none t before (Number operand.Action) (Number operand.Rtype) (Number operand.Crkey)
      (Number operand.Prkey) _ (λ a r c n. bound g (number_at 8 a) _ _ none
      (λ x e. bound g (number_at 8 r) _ _ none (λ y f. keys-fine g none t c n _ (λ k. some _)))) ws

  release-fine : fine t before (Number operand.Action ∷ Number operand.Rtype ∷ Number operand.Crkey ∷ []) behind.Nothing
      ws ≡ g (release nsid ws)
  release-fine = three-fine g none t before
      (Number operand.Action) (Number operand.Rtype) (Number operand.Crkey) _ (λ a r c. bound g (number_at 8 a) _ _ none
      (λ x e. bound g (number_at 8 r) _ _ none (λ y f. bound g (number_at 64 c) _ _ none (λ z h. some _)))) ws

  report-fine : fine t before (Number operand.Dwords ∷ []) behind.Nothing ws ≡ g (report nsid ws)
  report-fine =
      one-fine g none t before (Number operand.Dwords) _ (λ d. bound g (number_at 32 d) _ _ none (λ x e. some _)) ws

  protect-fine : fine t before (Number operand.State ∷ []) behind.Nothing ws ≡ g (protect nsid ws)
  protect-fine =
      one-fine g none t before (Number operand.State) _ (λ s. bound g (number_at 8 s) _ _ none (λ x e. some _)) ws

-- whether the line of this event is allowed, before `start` or after it
abbrev event_allowed : Bool → Option FleetEvent → Bool
event_allowed started event = is_allowed_line started (event_line event)

place-fine : (started : Bool) (k : Keyword) (before : List ℕ) (ps : List Place) (b : Behind)
    → ((g : Option Request → Bool) → g None ≡ false → (t : Bool) → ((r : Request) → t ≡ g (Some r))
    → (nsid : ℕ) (n : List ℕ) (ws : List (List ℕ)) → fine t n ps b ws ≡ g (request_by k nsid ws))
    → (ws : List (List ℕ))
    → fine started before (Number operand.Cntlid ∷ Number operand.Nsid ∷ ps) b ws ≡ event_allowed started (place k ws)
place-fine started k before ps b h [] = refl
place-fine started k before ps b h (c ∷ []) = and_false _
place-fine started k before ps b h (c ∷ n ∷ ws) =
    bound (event_allowed started) (number_at 16 c) _ _ refl
    (λ x e. bound (event_allowed started) (number_at 32 n) _ _ refl (λ y f.
    h (λ o. event_allowed started (o >>= (λ r. Some (Placed x r)))) refl started (λ r. refl) y n ws))

-- events without a request
alone-fine : (started : Bool) (before : List ℕ) (make : ℕ → FleetEvent) (ws : List (List ℕ))
    → fine started before (Number operand.Cntlid ∷ []) behind.Nothing ws
    ≡ event_allowed started (option_map make (alone ws))
alone-fine started before make ws =
    one-fine (λ o. event_allowed started (option_map make o)) refl started before (Number operand.Cntlid) _
    (λ c. plain (λ o. event_allowed started (option_map make o)) (number_at 16 c) started refl (λ x. refl)) ws

pair-fine : (started : Bool) (before : List ℕ) (p : Place) (make : ℕ × ℕ → FleetEvent)
    → ((a w : List ℕ) → suits a p w ≡ is_some (number_at 16 w)) → (ws : List (List ℕ))
    → fine started before (Number operand.Cntlid ∷ p ∷ []) behind.Nothing ws
    ≡ event_allowed started (option_map make (pair ws))
pair-fine started before p make h ws = by (λ o. event_allowed started (option_map make o)) refl (λ x. refl)
  where
    by : (g : Option (ℕ × ℕ) → Bool) → g None ≡ false → ((x : ℕ × ℕ) → started ≡ g (Some x))
        → fine started before (Number operand.Cntlid ∷ p ∷ []) behind.Nothing ws ≡ g (pair ws)
    by g none some = two-fine g none started before (Number operand.Cntlid) p _ (λ c n.
        rw (h c n) (bound g (number_at 16 c) _ _ none (λ x e. bound g (number_at 16 n) _ _ none (λ y f. some _)))) ws

identify-fine : (started : Bool) (before : List ℕ) (ws : List (List ℕ))
    → fine started before (Number operand.Cntlid ∷ Number operand.Cns ∷ Number operand.AnyNsid ∷ []) behind.Nothing ws
    ≡ event_allowed started (identify ws)
identify-fine started before ws = three-fine (event_allowed started) refl started before (Number operand.Cntlid)
    (Number operand.Cns) (Number operand.AnyNsid) _ (λ c s n.
    bound (event_allowed started) (number_at 16 c) _ _ refl (λ x e. bound (event_allowed started)
    (number_at 8 s) _ _ refl (λ y f. bound (event_allowed started) (number_at 32 n) _ _ refl (λ z h. refl)))) ws

store-fine : (started : Bool) (before : List ℕ) (ws : List (List ℕ))
    → fine started before (Number operand.Cntlid ∷ Number operand.Address ∷ Bytes ∷ []) behind.Nothing ws
    ≡ event_allowed started (store ws)
store-fine started before ws = three-fine (event_allowed started) refl started before (Number operand.Cntlid)
    (Number operand.Address) Bytes _ (λ c a w.
    bound (event_allowed started) (number_at 16 c) _ _ refl (λ x e. bound (event_allowed started)
    (number_at 64 a) _ _ refl (λ y f. bound (event_allowed started) (bytes_at w) _ _ refl (λ z h. refl)))) ws

write32-fine : (started : Bool) (before : List ℕ) (ws : List (List ℕ))
    → fine started before (Number operand.Cntlid ∷ Number operand.Offset ∷ Number operand.Value ∷ []) behind.Nothing ws
    ≡ event_allowed started (write32 ws)
write32-fine started before ws = three-fine (event_allowed started) refl started before (Number operand.Cntlid)
    (Number operand.Offset) (Number operand.Value) _ (λ c o v.
    bound (event_allowed started) (number_at 16 c) _ _ refl (λ x e. bound (event_allowed started)
    (number_at 64 o) _ _ refl (λ y f. bound (event_allowed started) (number_at 32 v) _ _ refl (λ z h. refl)))) ws

-- lines before `start`
raw-fine : (g : Option Bool → Bool) → g None ≡ false → (t : Bool) → ((r : Bool) → t ≡ g (Some r))
    → (before : List ℕ) (ws : List (List ℕ)) → fine_behind t before behind.Raw ws ≡ g (rawness ws)
raw-fine g none t some before [] = some false
raw-fine g none t some before (w ∷ []) = by (bytes_eq w (codes "raw"))
  where
    by : (e : Bool) → (e && t) ≡ g (if e then Some true else None)
    by true = some true
    by false = sym none
raw-fine g none t some before (w ∷ v ∷ ws) = sym none

sharing-fine : (g : Option Bool → Bool) → g None ≡ false → (t : Bool) → ((r : Bool) → t ≡ g (Some r)) → (w : List ℕ)
    → (is_some (sharing w) && t) ≡ g (sharing w)
sharing-fine g none t some w = plain g (sharing w) t none some

controller-fine : (started : Bool) (before : List ℕ) (ws : List (List ℕ))
    → fine (not started) before (Number operand.Cntlid ∷ Host ∷ Number operand.Host ∷ []) behind.Raw ws
    ≡ is_allowed_line started (controller ws)
controller-fine started before [] = refl
controller-fine started before (c ∷ []) = and_false _
controller-fine started before (c ∷ k ∷ []) = and_false2 _ _
controller-fine started before (c ∷ k ∷ h ∷ ws) =
    if_fine (is_allowed_line started) refl _ (bytes_eq k (codes "host")) _ _ (bound (is_allowed_line started)
    (number_at 16 c) _ _ refl (λ x e. bound (is_allowed_line started) (number_at 128 h) _ _ refl (λ y f.
    raw-fine (λ o. is_allowed_line started (o >>= (λ raw. Some (Sets (record { cntlid = x; host = y; raw = raw })))))
    refl (not started) (λ r. refl) h ws)))

namespace-fine : (started : Bool) (before : List ℕ) (ws : List (List ℕ))
    → fine (not started) before (Number operand.Nsid ∷ Blocks ∷ Number operand.Size ∷ Sharing ∷ []) behind.Nothing ws
    ≡ is_allowed_line started (namespace ws)
namespace-fine started before ws = four-fine (is_allowed_line started) refl (not started) before
    (Number operand.Nsid) Blocks (Number operand.Size) Sharing _ (λ n k b s.
    if_fine (is_allowed_line started) refl _ (bytes_eq k (codes "blocks")) _ _ (bound (is_allowed_line started)
    (number_at 32 n) _ _ refl (λ x e. bound (is_allowed_line started) (number_at 64 b) _ _ refl (λ y f.
    bound (is_allowed_line started) (sharing s) _ _ refl (λ z h. refl))))) ws

attached-fine : (started : Bool) (before : List ℕ) (ws : List (List ℕ))
    → fine (not started) before (Number operand.Cntlid ∷ Number operand.Nsid ∷ []) behind.Nothing ws
    ≡ is_allowed_line started (attached ws)
attached-fine started before ws =
    two-fine (is_allowed_line started) refl (not started) before (Number operand.Cntlid) (Number operand.Nsid) _ (λ c n.
    bound (is_allowed_line started) (number_at 16 c) _ _ refl
    (λ x e. bound (is_allowed_line started) (number_at 32 n) _ _ refl (λ y f. refl))) ws

start-fine : (started : Bool) (before : List ℕ) (ws : List (List ℕ))
    → fine (not started) before [] behind.Nothing ws ≡ is_allowed_line started (start ws)
start-fine started before [] = refl
start-fine started before (w ∷ ws) = refl

-- every keyword
pub keyword-fine : (started : Bool) (before : List ℕ) (k : Keyword) (ws : List (List ℕ))
    → fine (stands started k) before (places_of k) (behind_of k) ws ≡ is_allowed_line started (sentence_by k ws)
keyword-fine started before Controller ws = controller-fine started before ws
keyword-fine started before Namespace ws = namespace-fine started before ws
keyword-fine started before Attached ws = attached-fine started before ws
keyword-fine started before Start ws = start-fine started before ws
keyword-fine started before Up ws = alone-fine started before BringUp ws
keyword-fine started before Read ws = place-fine started Read before (drop 2 (places_of Read)) (behind_of Read)
    (λ g none t some nsid n v. on_blocks-fine g none t some nsid n v (ReadOf nsid)) ws
keyword-fine started before Write ws = place-fine started Write before (drop 2 (places_of Write)) (behind_of Write)
    (λ g none t some nsid n v. with_data-fine g none t some nsid n v (WriteOf nsid)) ws
keyword-fine started before Compare ws = place-fine started Compare before (drop 2 (places_of Compare))
    (behind_of Compare) (λ g none t some nsid n v. with_data-fine g none t some nsid n v (CompareOf nsid)) ws
keyword-fine started before Zeroes ws = place-fine started Zeroes before (drop 2 (places_of Zeroes)) (behind_of Zeroes)
    (λ g none t some nsid n v. on_blocks-fine g none t some nsid n v (ZeroesOf nsid)) ws
keyword-fine started before Flush ws = place-fine started Flush before (drop 2 (places_of Flush)) (behind_of Flush)
    (λ g none t some nsid n v. zero-fine g none t n (FlushOf nsid) (some _) v) ws
keyword-fine started before Register ws = place-fine started Register before (drop 2 (places_of Register))
    (behind_of Register) (λ g none t some nsid n v. register-fine g none t some nsid n v) ws
keyword-fine started before Acquire ws = place-fine started Acquire before (drop 2 (places_of Acquire))
    (behind_of Acquire) (λ g none t some nsid n v. acquire-fine g none t some nsid n v) ws
keyword-fine started before Release ws = place-fine started Release before (drop 2 (places_of Release))
    (behind_of Release) (λ g none t some nsid n v. release-fine g none t some nsid n v) ws
keyword-fine started before Report ws = place-fine started Report before (drop 2 (places_of Report)) (behind_of Report)
    (λ g none t some nsid n v. report-fine g none t some nsid n v) ws
keyword-fine started before Identify ws = identify-fine started before ws
keyword-fine started before Protect ws = place-fine started Protect before (drop 2 (places_of Protect))
    (behind_of Protect) (λ g none t some nsid n v. protect-fine g none t some nsid n v) ws
keyword-fine started before Protection ws = place-fine started Protection before (drop 2 (places_of Protection))
    (behind_of Protection) (λ g none t some nsid n v. zero-fine g none t n (ProtectionOf nsid) (some _) v) ws
keyword-fine started before Attach ws = place-fine started Attach before (drop 2 (places_of Attach)) (behind_of Attach)
    (λ g none t some nsid n v. with_list-fine g none t some nsid n v (AttachOf nsid)) ws
keyword-fine started before Detach ws = place-fine started Detach before (drop 2 (places_of Detach)) (behind_of Detach)
    (λ g none t some nsid n v. with_list-fine g none t some nsid n v (DetachOf nsid)) ws
keyword-fine started before Ring ws = alone-fine started before Rings ws
keyword-fine started before Fetch ws =
    pair-fine started before (Number operand.Queue) (λ p. Fetches p.0 p.1) (λ a w. refl) ws
keyword-fine started before Execute ws =
    pair-fine started before (Number operand.Index) (λ p. Executes p.0 p.1) (λ a w. refl) ws
keyword-fine started before Poll ws = alone-fine started before Polls ws
keyword-fine started before Reset ws = alone-fine started before Resets ws
keyword-fine started before Store ws = store-fine started before ws
keyword-fine started before Write32 ws = write32-fine started before ws
keyword-fine started before PowerCycle ws = zero-fine (event_allowed started) refl started before Cycles refl ws

-- the words of a line
words-tie : (started : Bool) (line : List ℕ) (ws : List (List ℕ))
    → is_some (words_fault started line ws) ≡ not (is_allowed_line started (sentence ws))
unfolding sentence
words-tie started line [] = refl
words-tie started line (word ∷ ws) = by (keyword_of word) refl
  where
    by : (o : Option Keyword) → keyword_of word ≡ o
        → is_some (keyword_fault started line word ws o) ≡ not (is_allowed_line started (sentence (word ∷ ws)))
    by None e = rw e refl
    by (Some k) e = rw e (keyword-tie started line word ws k ∙ ap not (keyword-fine started word k ws))

-- a line has a fault exactly if it is not allowed
pub fault-tie : (started : Bool) (line : List ℕ)
    → is_some (fault_of started line) ≡ not (is_allowed_line started (line_at line))
unfolding fault_of line_at
fault-tie started line = by (foreign_fault line) (is_comment line) (is_line_text line)
  where
    by : (fault : LineFault) (c t : Bool)
        → is_some (if c then None else if t then words_fault started line (line_words line) else Some fault)
        ≡ not (is_allowed_line started (if c then Some Blank else if t then sentence (line_words line) else None))
    by fault true t = refl
    by fault false true = words-tie started line (line_words line)
    by fault false false = refl
