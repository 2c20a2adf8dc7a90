-- For the answers of `event.rt` and `numbers.rt`: the event of a keyword and the numbers after it.
use Rattle.std.proofs.Common.{
  ◌≡◌,
  ℕ,
  ◌<◌,
  ◌^◌,
  Bool,
  true,
  false,
  List,
  [],
  ◌∷◌,
  ◌++◌,
  length,
  drop,
  Option,
  Some,
  None,
  refl,
  sym,
  ap,
  ◌∙◌,
  arith,
}
use Rattle.std.specs.Prelude.{◌&&◌, if◌then◌else◌, is_some, unwrap_or, option_map}
use Rattle.std.proofs.lemmas.Bool.{false≢true, lt-ltb, ltb-true}
use Rattle.nvme_event.specs.declared.event.FleetEvent.TheVariants.{
  BringUp,
  Place,
  Ring,
  Fetch,
  Execute,
  Poll,
  Reset,
  RawStore,
  RawWrite32,
  PowerCycle,
}
use Rattle.nvme_driver.specs.declared.request.Request.{Request}
use Rattle.nvme_driver.specs.declared.request.Request.TheVariants.{
  Read,
  Write,
  Compare,
  WriteZeroes,
  Flush,
  Register,
  Acquire,
  Release,
  Report,
  Identify,
  Protect,
  Protection,
}
use Rattle.script_text.specs.Numbers.{number, below, number_at}
use Rattle.script_text.specs.Words.{line_words, is_line_text}
use Rattle.script_text.specs.Data.{bytes_at, data_at}
use Rattle.script_text.specs.Front.{BeginsWith}
use Rattle.nvme_grammar.specs.Arity.{◌>>=◌}
use Rattle.nvme_grammar.specs.Reader.{Numbers, has_operands, have_bits, bits_of}
use Rattle.nvme_grammar.specs.Lent.{lent}
use Rattle.nvme_grammar.specs.Requests.{request_by, bit_of}
use Rattle.nvme_grammar.specs.Events.{event_by, place}
use Rattle.nvme_grammar.specs.Line.{sentence, sentence_by, event_line, line_at}
use Rattle.nvme_grammar.proofs.NumericLemmas.{two_bits}
use Rattle.nvme_grammar.specs.declared.keyword.Keyword.{Keyword}
use Rattle.nvme_grammar.specs.declared.keyword.Keyword.TheVariants as keyword
use Rattle.nvme_grammar.specs.declared.line.Line.TheVariants.{Blank, Event}

some_same : {A : Type 0} (a b : A) → Some a ≡ Some b → a ≡ b
some_same a b e = ap (λ o. unwrap_or o a) e

-- a number that fits fewer bits
pub narrow : (bits : ℕ) (w : List ℕ) (n : ℕ) → number_at 64 w ≡ Some n → n < 2 ^ bits → number_at bits w ≡ Some n
unfolding number_at
narrow bits w n e small = by (number w) e
  where
    fits : (m : ℕ) (t : Bool) → (if t then Some m else None) ≡ Some n → m ≡ n
    fits m true e = some_same m n e
    fits m false e = absurd (false≢true (ap is_some e))

    by : (o : Option ℕ) → below (2 ^ 64) o ≡ Some n → below (2 ^ bits) o ≡ Some n
    by None e = absurd (false≢true (ap is_some e))
    by (Some m) e = rw (fits m _ e, lt-ltb n (2 ^ bits) small) refl

-- one number more
pub Numbers-more : (ns : List ℕ) (ws more behind : List (List ℕ)) (n : ℕ)
    → Numbers ns ws more → BeginsWith n more behind → Numbers (ns ++ n ∷ []) ws behind
Numbers-more [] ws more behind n h (w, split, k) = (w, behind, h ∙ split, k, refl)
Numbers-more (m ∷ ns) ws more behind n (first, others, split, k, h) e =
    (first, others, split, k, Numbers-more ns others more behind n h e)

bit_small : (n : ℕ) (bit : Bool) → bit_of n ≡ Some bit → n < 2 ^ 8
bit_small n bit e = omega (arith, ltb-true n 2 (sym (two_bits n) ∙ ap is_some e))

-- the request of the numbers after `KEYWORD C N`
module _ (nsid : ℕ) where
  pub asks_protect : (s : ℕ) → s < 2 ^ 8 → (ws : List (List ℕ))
      → Numbers (s ∷ []) ws [] → request_by keyword.Protect nsid ws ≡ Some (Protect nsid s)
  asks_protect s small ws (w, ws1, e, k, end) = rw (e, end, narrow 8 w s k small) refl

  pub asks_report : (d : ℕ) → d < 2 ^ 32 → (ws : List (List ℕ))
      → Numbers (d ∷ []) ws [] → request_by keyword.Report nsid ws ≡ Some (Report nsid d)
  asks_report d small ws (w, ws1, e, k, end) = rw (e, end, narrow 32 w d k small) refl

  pub asks_release : (a t c : ℕ) → a < 2 ^ 8 → t < 2 ^ 8 → (ws : List (List ℕ)) → Numbers (a ∷ t ∷ c ∷ []) ws []
      → request_by keyword.Release nsid ws ≡ Some (Release nsid a t c)
  asks_release a t c action rtype ws (w1, ws1, e1, k1, (w2, ws2, e2, k2, (w3, ws3, e3, k3, end))) =
      rw (e1, e2, e3, end, narrow 8 w1 a k1 action, narrow 8 w2 t k2 rtype, k3) refl

  pub asks_acquire : (a t c p : ℕ) → a < 2 ^ 8 → t < 2 ^ 8 → (ws : List (List ℕ)) → Numbers (a ∷ t ∷ c ∷ p ∷ []) ws []
      → request_by keyword.Acquire nsid ws ≡ Some (Acquire nsid a t c p)
  asks_acquire a t c p action rtype ws (w1, ws1, e1, k1, (w2, ws2, e2, k2, (w3, ws3, e3, k3, (w4, ws4, e4, k4, end)))) =
      rw (e1, e2, e3, e4, end, narrow 8 w1 a k1 action, narrow 8 w2 t k2 rtype, k3, k4) refl

  pub asks_register : (a i p c n : ℕ) (iekey : Bool) → a < 2 ^ 8 → p < 2 ^ 8 → bit_of i ≡ Some iekey
      → (ws : List (List ℕ)) → Numbers (a ∷ i ∷ p ∷ c ∷ n ∷ []) ws []
      → request_by keyword.Register nsid ws ≡ Some (Register nsid a iekey p c n)
  asks_register a i p c n iekey action cptpl bit ws
      (w1, ws1, e1, k1, (w2, ws2, e2, k2, (w3, ws3, e3, k3, (w4, ws4, e4, k4, (w5, ws5, e5, k5, end))))) =
      rw (
        e1,
        e2,
        e3,
        e4,
        e5,
        end,
        narrow 8 w1 a k1 action,
        narrow 8 w2 i k2 (bit_small i iekey bit),
        bit,
        narrow 8 w3 p k3 cptpl,
        k4,
        k5,
      ) refl

-- the keyword of a request places it
no_request : {A : Type 0} (r : Request) → None ≡ Some r → A
no_request r e = absurd (false≢true (ap is_some e))

placing : (k : Keyword) (nsid : ℕ) (ws : List (List ℕ)) (r : Request)
    → request_by k nsid ws ≡ Some r → (vs : List (List ℕ)) → event_by k vs ≡ place k vs
placing keyword.Controller nsid ws r e vs = no_request r e
placing keyword.Namespace nsid ws r e vs = no_request r e
placing keyword.Attached nsid ws r e vs = no_request r e
placing keyword.Start nsid ws r e vs = no_request r e
placing keyword.Up nsid ws r e vs = no_request r e
placing keyword.Ring nsid ws r e vs = no_request r e
placing keyword.Fetch nsid ws r e vs = no_request r e
placing keyword.Execute nsid ws r e vs = no_request r e
placing keyword.Poll nsid ws r e vs = no_request r e
placing keyword.Reset nsid ws r e vs = no_request r e
placing keyword.Store nsid ws r e vs = no_request r e
placing keyword.Write32 nsid ws r e vs = no_request r e
placing keyword.PowerCycle nsid ws r e vs = no_request r e
placing keyword.Identify nsid ws r e vs = no_request r e
placing k nsid ws r e vs = refl

-- `C N`, and a request
pub places : (k : Keyword) (c n : ℕ) (ns : List ℕ) (r : Request) → c < 2 ^ 16 → n < 2 ^ 32
    → ((ws : List (List ℕ)) → Numbers ns ws [] → request_by k n ws ≡ Some r)
    → (ws : List (List ℕ)) → Numbers (c ∷ n ∷ ns) ws [] → event_by k ws ≡ Some (Place c r)
places k c n ns r cntlid nsid asked ws (w1, ws1, e1, k1, (w2, ws2, e2, k2, more)) =
    placing k n ws2 r (asked ws2 more) ws
    ∙ rw (e1, e2, narrow 16 w1 c k1 cntlid, narrow 32 w2 n k2 nsid, asked ws2 more) refl

-- and numbers of other sizes
pub front_bits : (k : Keyword) (ns : List ℕ) → ((bits : List ℕ) → have_bits (16 ∷ 32 ∷ bits) ns ≡ false)
    → (has_operands k && have_bits (bits_of k) ns) ≡ false
front_bits keyword.Protect ns h = h (drop 2 (bits_of keyword.Protect))
front_bits keyword.Report ns h = h (drop 2 (bits_of keyword.Report))
front_bits keyword.Register ns h = h (drop 2 (bits_of keyword.Register))
front_bits keyword.Acquire ns h = h (drop 2 (bits_of keyword.Acquire))
front_bits keyword.Release ns h = h (drop 2 (bits_of keyword.Release))
front_bits k ns h = refl

-- the event of a keyword alone
pub says_power_cycle : (ns : List ℕ) → length ns ≡ 0 → (ws : List (List ℕ))
    → Numbers ns ws [] → event_by keyword.PowerCycle ws ≡ Some PowerCycle
says_power_cycle [] none ws end = rw end refl
says_power_cycle (n ∷ ns) none ws h = absurd (omega (arith, none))

-- the events of a keyword and one number
module _ (c : ℕ) (small : c < 2 ^ 16) where
  pub says_up : (ws : List (List ℕ)) → Numbers (c ∷ []) ws [] → event_by keyword.Up ws ≡ Some (BringUp c)
  says_up ws (w, ws1, e, k, end) = rw (e, end, narrow 16 w c k small) refl

  pub says_ring : (ws : List (List ℕ)) → Numbers (c ∷ []) ws [] → event_by keyword.Ring ws ≡ Some (Ring c)
  says_ring ws (w, ws1, e, k, end) = rw (e, end, narrow 16 w c k small) refl

  pub says_poll : (ws : List (List ℕ)) → Numbers (c ∷ []) ws [] → event_by keyword.Poll ws ≡ Some (Poll c)
  says_poll ws (w, ws1, e, k, end) = rw (e, end, narrow 16 w c k small) refl

  pub says_reset : (ws : List (List ℕ)) → Numbers (c ∷ []) ws [] → event_by keyword.Reset ws ≡ Some (Reset c)
  says_reset ws (w, ws1, e, k, end) = rw (e, end, narrow 16 w c k small) refl

  -- and two numbers
  module _ (i : ℕ) (fits : i < 2 ^ 16) where
    pub says_fetch : (ws : List (List ℕ)) → Numbers (c ∷ i ∷ []) ws [] → event_by keyword.Fetch ws ≡ Some (Fetch c i)
    says_fetch ws (w1, ws1, e1, k1, (w2, ws2, e2, k2, end)) =
        rw (e1, e2, end, narrow 16 w1 c k1 small, narrow 16 w2 i k2 fits) refl

    pub says_execute : (ws : List (List ℕ))
        → Numbers (c ∷ i ∷ []) ws [] → event_by keyword.Execute ws ≡ Some (Execute c i)
    says_execute ws (w1, ws1, e1, k1, (w2, ws2, e2, k2, end)) =
        rw (e1, e2, end, narrow 16 w1 c k1 small, narrow 16 w2 i k2 fits) refl

  -- and three
  pub says_identify : (s n : ℕ) → s < 2 ^ 8 → n < 2 ^ 32 → (ws : List (List ℕ)) → Numbers (c ∷ s ∷ n ∷ []) ws []
      → event_by keyword.Identify ws ≡ Some (Place c (Identify s n))
  says_identify s n cns nsid ws (w1, ws1, e1, k1, (w2, ws2, e2, k2, (w3, ws3, e3, k3, end))) =
      rw (e1, e2, e3, end, narrow 16 w1 c k1 small, narrow 8 w2 s k2 cns, narrow 32 w3 n k3 nsid) refl

  pub says_write32 : (o v : ℕ) → v < 2 ^ 32 → (ws : List (List ℕ)) → Numbers (c ∷ o ∷ v ∷ []) ws []
      → event_by keyword.Write32 ws ≡ Some (RawWrite32 c o v)
  says_write32 o v value ws (w1, ws1, e1, k1, (w2, ws2, e2, k2, (w3, ws3, e3, k3, end))) =
      rw (e1, e2, e3, end, narrow 16 w1 c k1 small, k2, narrow 32 w3 v k3 value) refl

  -- and requests on a namespace
  module _ (n : ℕ) (nsid : n < 2 ^ 32) where
    pub says_flush : (ws : List (List ℕ))
        → Numbers (c ∷ n ∷ []) ws [] → event_by keyword.Flush ws ≡ Some (Place c (Flush n))
    says_flush ws (w1, ws1, e1, k1, (w2, ws2, e2, k2, end)) =
        rw (e1, e2, end, narrow 16 w1 c k1 small, narrow 32 w2 n k2 nsid) refl

    pub says_protection : (ws : List (List ℕ))
        → Numbers (c ∷ n ∷ []) ws [] → event_by keyword.Protection ws ≡ Some (Place c (Protection n))
    says_protection ws (w1, ws1, e1, k1, (w2, ws2, e2, k2, end)) =
        rw (e1, e2, end, narrow 16 w1 c k1 small, narrow 32 w2 n k2 nsid) refl

    module _ (s b : ℕ) (blocks : b < 2 ^ 32) where
      pub says_read : (ws : List (List ℕ)) → Numbers (c ∷ n ∷ s ∷ b ∷ []) ws []
          → event_by keyword.Read ws ≡ Some (Place c (Read n s b))
      says_read ws (w1, ws1, e1, k1, (w2, ws2, e2, k2, (w3, ws3, e3, k3, (w4, ws4, e4, k4, end)))) =
          rw (e1, e2, e3, e4, end, narrow 16 w1 c k1 small, narrow 32 w2 n k2 nsid, k3, narrow 32 w4 b k4 blocks) refl

      pub says_zeroes : (ws : List (List ℕ)) → Numbers (c ∷ n ∷ s ∷ b ∷ []) ws []
          → event_by keyword.Zeroes ws ≡ Some (Place c (WriteZeroes n s b))
      says_zeroes ws (w1, ws1, e1, k1, (w2, ws2, e2, k2, (w3, ws3, e3, k3, (w4, ws4, e4, k4, end)))) =
          rw (e1, e2, e3, e4, end, narrow 16 w1 c k1 small, narrow 32 w2 n k2 nsid, k3, narrow 32 w4 b k4 blocks) refl

  -- a store, whose last word has bytes
  pub says_store : (a : ℕ) (word : List ℕ) (ws : List (List ℕ)) → Numbers (c ∷ a ∷ []) ws (word ∷ [])
      → sentence_by keyword.Store ws ≡ option_map (λ bytes. Event (RawStore c a (lent bytes))) (bytes_at word)
  says_store a word ws (w1, ws1, e1, k1, (w2, ws2, e2, k2, end)) =
      rw (e1, e2, end, narrow 16 w1 c k1 small, k2) (by (bytes_at word))
    where
      by : (o : Option (List ℕ)) → event_line (o >>= (λ bytes. Some (RawStore c a (lent bytes))))
          ≡ option_map (λ bytes. Event (RawStore c a (lent bytes))) o
      by None = refl
      by (Some bytes) = refl

-- Writes and Compares, whose last word has data
module _ (c n s b : ℕ) (cntlid : c < 2 ^ 16) (nsid : n < 2 ^ 32) (blocks : b < 2 ^ 32) (word : List ℕ) where
  pub says_write : (ws : List (List ℕ)) → Numbers (c ∷ n ∷ s ∷ b ∷ []) ws (word ∷ [])
      → sentence_by keyword.Write ws ≡ option_map (λ bytes. Event (Place c (Write n s (lent bytes)))) (data_at b word)
  says_write ws (w1, ws1, e1, k1, (w2, ws2, e2, k2, (w3, ws3, e3, k3, (w4, ws4, e4, k4, end)))) =
      rw (e1, e2, e3, e4, end, narrow 16 w1 c k1 cntlid, narrow 32 w2 n k2 nsid, k3, narrow 32 w4 b k4 blocks)
      (by (data_at b word))
    where
      by : (o : Option (List ℕ))
          → event_line ((o >>= (λ bytes. Some (Write n s (lent bytes)))) >>= (λ request. Some (Place c request)))
          ≡ option_map (λ bytes. Event (Place c (Write n s (lent bytes)))) o
      by None = refl
      by (Some bytes) = refl

  pub says_compare : (ws : List (List ℕ)) → Numbers (c ∷ n ∷ s ∷ b ∷ []) ws (word ∷ [])
      → sentence_by keyword.Compare ws
      ≡ option_map (λ bytes. Event (Place c (Compare n s (lent bytes)))) (data_at b word)
  says_compare ws (w1, ws1, e1, k1, (w2, ws2, e2, k2, (w3, ws3, e3, k3, (w4, ws4, e4, k4, end)))) =
      rw (e1, e2, e3, e4, end, narrow 16 w1 c k1 cntlid, narrow 32 w2 n k2 nsid, k3, narrow 32 w4 b k4 blocks)
      (by (data_at b word))
    where
      by : (o : Option (List ℕ))
          → event_line ((o >>= (λ bytes. Some (Compare n s (lent bytes)))) >>= (λ request. Some (Place c request)))
          ≡ option_map (λ bytes. Event (Place c (Compare n s (lent bytes)))) o
      by None = refl
      by (Some bytes) = refl

-- a text of no bytes
pub nothing : (line : List ℕ) → length line ≡ 0 → (is_line_text line ≡ true) × (line_words line ≡ [])
nothing [] none = (refl, refl)
nothing (b ∷ bs) none = absurd (omega (arith, none))

-- an empty line has no effect
pub blank_line : (line : List ℕ) → length line ≡ 0 → Some Blank ≡ line_at line
unfolding line_at sentence
blank_line [] none = refl
blank_line (b ∷ bs) none = absurd (omega (arith, none))
