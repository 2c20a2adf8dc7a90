-- For `TieKeywords`: a line has a fault exactly if it is outside the grammar, or not allowed at its place.
use Rattle.std.proofs.Common.{
  ◌≡◌,
  ℕ,
  suc,
  ◌-◌,
  Bool,
  true,
  false,
  not,
  List,
  [],
  ◌∷◌,
  length,
  Option,
  Some,
  None,
  refl,
  sym,
  ap,
  ◌∙◌,
  arith,
}
use Rattle.std.specs.Prelude.{◌&&◌, ◌==◌, nat_le, slice_get, if◌then◌else◌, option_map, is_some}
use Rattle.std.proofs.Math.Dec.{leb-suc-suc, leb-suc-zero}
use Rattle.std.proofs.lemmas.Bool.{false≢true}
use Rattle.script_text.specs.Numbers.{number_at}
use Rattle.nvme_grammar.specs.Arity.{◌>>=◌, zero_words, one, two, three, four, five}
use Rattle.nvme_grammar.specs.Requests.{numbers_at, keys_at}
use Rattle.nvme_grammar.specs.Places.{place_behind, takes_behind}
use Rattle.nvme_grammar.specs.Keywords.{places_of, behind_of, sets_up, place_at, either_place, takes_words}
use Rattle.nvme_grammar.specs.LineFaults.{misfit, misplaced, place_suits, either_fault, keyword_fault, suits}
use Rattle.nvme_grammar.specs.declared.keyword.Keyword.{Keyword}
use Rattle.nvme_grammar.specs.declared.fault.LineFault.{LineFault}
use Rattle.nvme_grammar.specs.declared.place.Operand.TheVariants as operand
use Rattle.nvme_grammar.specs.declared.place.Place.{Place}
use Rattle.nvme_grammar.specs.declared.place.Place.TheVariants.{Number, Raw as RawWord}
use Rattle.nvme_grammar.specs.declared.place.Behind.{Behind}
use Rattle.nvme_grammar.specs.declared.place.Behind.TheVariants as behind

-- The words after a keyword, place by place: each fits its place, there are as many as the keyword takes, and t holds.
abbrev pub fine_behind : Bool → List ℕ → Behind → List (List ℕ) → Bool
fine_behind t before behind.Nothing [] = t
fine_behind t before behind.Nothing (w ∷ ws) = false
fine_behind t before behind.Raw [] = t
fine_behind t before behind.Raw (w ∷ []) = suits before RawWord w && t
fine_behind t before behind.Raw (w ∷ v ∷ ws) = false
fine_behind t before behind.Controllers [] = t
fine_behind t before behind.Controllers (w ∷ ws) =
    suits before (Number operand.Cntlid) w && fine_behind t w behind.Controllers ws

abbrev pub fine : Bool → List ℕ → List Place → Behind → List (List ℕ) → Bool
fine t before [] b ws = fine_behind t before b ws
fine t before (p ∷ ps) b [] = false
fine t before (p ∷ ps) b (w ∷ ws) = suits before p w && fine t w ps b ws

-- the same by indices, as in the definition of a fault
abbrev at_index : List Place → Behind → ℕ → Option Place
at_index ps b i = either_place (slice_get ps i) (place_behind b (i - length ps))

abbrev takes : List Place → Behind → ℕ → Bool
takes ps b n = nat_le (length ps) n && takes_behind b (n - length ps)

abbrev all_suit : List Place → Behind → ℕ → List ℕ → List (List ℕ) → Bool
all_suit ps b i before [] = true
all_suit ps b i before (w ∷ ws) = place_suits (at_index ps b i) before w && all_suit ps b (suc i) w ws

pub and_false : (a : Bool) → (a && false) ≡ false
and_false true = refl
and_false false = refl

less : (m n : ℕ) → suc m - suc n ≡ m - n
less m n = omega arith

-- one place fewer, one index less
shifted : (p : Place) (ps : List Place) (b : Behind) (i : ℕ) (before : List ℕ) (ws : List (List ℕ))
    → all_suit (p ∷ ps) b (suc i) before ws ≡ all_suit ps b i before ws
shifted p ps b i before [] = refl
shifted p ps b i before (w ∷ ws) =
    rw (less i (length ps)) (ap (λ t. place_suits (at_index ps b i) before w && t) (shifted p ps b (suc i) w ws))

rearranged : (k s a t : Bool) → (k && ((s && a) && t)) ≡ (s && (k && (a && t)))
rearranged true true a t = refl
rearranged true false a t = refl
rearranged false true a t = refl
rearranged false false a t = refl

minus_zero : (n : ℕ) → n - 0 ≡ n
minus_zero n = omega arith

-- if no places are left
listed : (t : Bool) (i : ℕ) (before : List ℕ) (ws : List (List ℕ))
    → (all_suit [] behind.Controllers i before ws && t) ≡ fine_behind t before behind.Controllers ws
listed t i before [] = refl
listed t i before (w ∷ ws) = by (suits before (Number operand.Cntlid) w) (listed t (suc i) w ws)
  where
    by : (s : Bool) → (all_suit [] behind.Controllers (suc i) w ws && t) ≡ fine_behind t w behind.Controllers ws
        → ((s && all_suit [] behind.Controllers (suc i) w ws) && t) ≡ (s && fine_behind t w behind.Controllers ws)
    by true e = e
    by false e = refl

zero_le : (n : ℕ) → nat_le 0 n ≡ true
zero_le n = grind (arith)

no_more : (n : ℕ) → ((suc n - 0) == 0) ≡ false
no_more n = grind (arith)

one_more : (n : ℕ) → nat_le (suc (suc n) - 0) 1 ≡ false
one_more n = grind (arith)

left : (t : Bool) (before : List ℕ) (b : Behind) (ws : List (List ℕ))
    → (takes [] b (length ws) && (all_suit [] b 0 before ws && t)) ≡ fine_behind t before b ws
left t before behind.Nothing [] = refl
left t before behind.Nothing (w ∷ ws) = rw (no_more (length ws), zero_le (suc (length ws))) refl
left t before behind.Raw [] = refl
left t before behind.Raw (w ∷ []) = by (suits before RawWord w)
  where
    by : (s : Bool) → ((s && true) && t) ≡ (s && t)
    by true = refl
    by false = refl
left t before behind.Raw (w ∷ v ∷ ws) = rw (one_more (length ws), zero_le (suc (suc (length ws)))) refl
left t before behind.Controllers ws = rw (zero_le (length ws)) (listed t 0 before ws)

-- both ways of counting and testing agree
as_fine : (t : Bool) (before : List ℕ) (ps : List Place) (b : Behind) (ws : List (List ℕ))
    → (takes ps b (length ws) && (all_suit ps b 0 before ws && t)) ≡ fine t before ps b ws
as_fine t before [] b ws = left t before b ws
as_fine t before (p ∷ ps) b [] = rw (leb-suc-zero (length ps)) refl
as_fine t before (p ∷ ps) b (w ∷ ws) =
    rw (leb-suc-suc (length ps) (length ws), less (length ws) (length ps), shifted p ps b 0 w ws)
    (rearranged (takes ps b (length ws)) (suits before p w) (all_suit ps b 0 w ws) t
    ∙ ap (λ u. suits before p w && u) (as_fine t w ps b ws))

-- a line with a keyword has a fault exactly if its words do not fit
unfit : (k : Keyword) (line : List ℕ) (i : ℕ) (before : List ℕ) (ws : List (List ℕ))
    → is_some (misfit k line i before ws) ≡ not (all_suit (places_of k) (behind_of k) i before ws)
unfit k line i before [] = refl
unfit k line i before (w ∷ ws) = by _ (place_at k i) (unfit k line (suc i) w ws)
  where
    in_place : (fault : LineFault) (s : Bool)
        → is_some (misfit k line (suc i) w ws) ≡ not (all_suit (places_of k) (behind_of k) (suc i) w ws)
        → is_some (if s then misfit k line (suc i) w ws else Some fault)
        ≡ not (s && all_suit (places_of k) (behind_of k) (suc i) w ws)
    in_place fault true rest = rest
    in_place fault false rest = refl

    by : (make : Place → LineFault) (o : Option Place)
        → is_some (misfit k line (suc i) w ws) ≡ not (all_suit (places_of k) (behind_of k) (suc i) w ws)
        → is_some (if place_suits o before w then misfit k line (suc i) w ws else option_map make o)
        ≡ not (place_suits o before w && all_suit (places_of k) (behind_of k) (suc i) w ws)
    by make (Some p) rest = in_place (make p) (suits before p w) rest
    by make None rest = rest

abbrev pub stands : Bool → Keyword → Bool
stands started k = if sets_up k then not started else started

unplaced : (started : Bool) (k : Keyword) (column : ℕ) → is_some (misplaced started k column) ≡ not (stands started k)
unplaced started k column = by _ _ (sets_up k) started
  where
    by : (late early : LineFault) (s t : Bool)
        → is_some (if s then (if t then Some late else None) else (if t then None else Some early))
        ≡ not (if s then not t else t)
    by late early true true = refl
    by late early true false = refl
    by late early false true = refl
    by late early false false = refl

either_some : (m other : Option LineFault) (a t : Bool) → is_some m ≡ not a → is_some other ≡ not t
    → is_some (either_fault m other) ≡ not (a && t)
either_some (Some f) other true t h g = absurd (false≢true (sym h))
either_some (Some f) other false t h g = refl
either_some None other true t h g = g
either_some None other false t h g = absurd (false≢true h)

counted : (c : Bool) (m : Option LineFault) (f : LineFault) (a : Bool)
    → is_some m ≡ not a → is_some (if c then m else Some f) ≡ not (c && a)
counted true m f a h = h
counted false m f a h = refl

-- a line that begins with a keyword has a fault exactly if its words do not fit
pub keyword-tie : (started : Bool) (line word : List ℕ) (ws : List (List ℕ)) (k : Keyword)
    → is_some (keyword_fault started line word ws (Some k))
    ≡ not (fine (stands started k) word (places_of k) (behind_of k) ws)
keyword-tie started line word ws k =
    counted (takes_words k (length ws)) _ _ _
    (either_some (misfit k line 0 word ws) (misplaced started k _) _ _ (unfit k line 0 word ws) (unplaced started k _))
    ∙ ap not (as_fine (stands started k) word (places_of k) (behind_of k) ws)

-- the meaning of words, by steps, each of which may fail
pub bound : {A B : Type 0} (g : Option B → Bool) (o : Option A) (f : A → Option B) (t : Bool)
    → g None ≡ false → ((x : A) → o ≡ Some x → t ≡ g (f x)) → (is_some o && t) ≡ g (o >>= f)
bound g None f t none h = sym none
bound g (Some x) f t none h = h x refl

pub plain : {A : Type 0} (g : Option A → Bool) (o : Option A) (t : Bool) → g None ≡ false → ((x : A) → t ≡ g (Some x))
    → (is_some o && t) ≡ g o
plain g None t none h = sym none
plain g (Some x) t none h = h x

pub and_false2 : (a b : Bool) → (a && (b && false)) ≡ false
and_false2 a b = ap (λ t. a && t) (and_false b) ∙ and_false a

and_false3 : (a b c : Bool) → (a && (b && (c && false))) ≡ false
and_false3 a b c = ap (λ t. a && t) (and_false2 b c) ∙ and_false a

and_false4 : (a b c d : Bool) → (a && (b && (c && (d && false)))) ≡ false
and_false4 a b c d = ap (λ t. a && t) (and_false3 b c d) ∙ and_false a

and_false5 : (a b c d e : Bool) → (a && (b && (c && (d && (e && false))))) ≡ false
and_false5 a b c d e = ap (λ t. a && t) (and_false4 b c d e) ∙ and_false a

module _ {B : Type 0} (g : Option B → Bool) (none : g None ≡ false) (t : Bool) (before : List ℕ) where
  pub zero-fine : (x : B) → t ≡ g (Some x) → (ws : List (List ℕ))
      → fine t before [] behind.Nothing ws ≡ g (zero_words x ws)
  zero-fine x h [] = h
  zero-fine x h (a ∷ ws) = sym none

  pub one-fine : (p : Place) (f : List ℕ → Option B) → ((a : List ℕ) → (suits before p a && t) ≡ g (f a))
      → (ws : List (List ℕ)) → fine t before (p ∷ []) behind.Nothing ws ≡ g (one f ws)
  one-fine p f h [] = sym none
  one-fine p f h (a ∷ []) = h a
  one-fine p f h (a ∷ b ∷ ws) = and_false (suits before p a) ∙ sym none

  pub two-fine : (p q : Place) (f : List ℕ → List ℕ → Option B)
      → ((a b : List ℕ) → (suits before p a && (suits a q b && t)) ≡ g (f a b))
      → (ws : List (List ℕ)) → fine t before (p ∷ q ∷ []) behind.Nothing ws ≡ g (two f ws)
  two-fine p q f h [] = sym none
  two-fine p q f h (a ∷ []) = and_false (suits before p a) ∙ sym none
  two-fine p q f h (a ∷ b ∷ []) = h a b
  two-fine p q f h (a ∷ b ∷ c ∷ ws) = and_false2 (suits before p a) (suits a q b) ∙ sym none

  pub three-fine : (p q r : Place) (f : List ℕ → List ℕ → List ℕ → Option B)
      → ((a b c : List ℕ) → (suits before p a && (suits a q b && (suits b r c && t))) ≡ g (f a b c))
      → (ws : List (List ℕ)) → fine t before (p ∷ q ∷ r ∷ []) behind.Nothing ws ≡ g (three f ws)
  three-fine p q r f h [] = sym none
  three-fine p q r f h (a ∷ []) = and_false (suits before p a) ∙ sym none
  three-fine p q r f h (a ∷ b ∷ []) = and_false2 (suits before p a) (suits a q b) ∙ sym none
  three-fine p q r f h (a ∷ b ∷ c ∷ []) = h a b c
  three-fine p q r f h (a ∷ b ∷ c ∷ d ∷ ws) = and_false3 (suits before p a) (suits a q b) (suits b r c) ∙ sym none

  pub four-fine : (p q r s : Place) (f : List ℕ → List ℕ → List ℕ → List ℕ → Option B)
      → ((a b c d : List ℕ)
      → (suits before p a && (suits a q b && (suits b r c && (suits c s d && t)))) ≡ g (f a b c d))
      → (ws : List (List ℕ)) → fine t before (p ∷ q ∷ r ∷ s ∷ []) behind.Nothing ws ≡ g (four f ws)
  four-fine p q r s f h [] = sym none
  four-fine p q r s f h (a ∷ []) = and_false (suits before p a) ∙ sym none
  four-fine p q r s f h (a ∷ b ∷ []) = and_false2 (suits before p a) (suits a q b) ∙ sym none
  four-fine p q r s f h (a ∷ b ∷ c ∷ []) = and_false3 (suits before p a) (suits a q b) (suits b r c) ∙ sym none
  four-fine p q r s f h (a ∷ b ∷ c ∷ d ∷ []) = h a b c d
  four-fine p q r s f h (a ∷ b ∷ c ∷ d ∷ e ∷ ws) =
      and_false4 (suits before p a) (suits a q b) (suits b r c) (suits c s d) ∙ sym none

  pub five-fine : (p q r s u : Place) (f : List ℕ → List ℕ → List ℕ → List ℕ → List ℕ → Option B)
      → ((a b c d e : List ℕ)
      → (suits before p a && (suits a q b && (suits b r c && (suits c s d && (suits d u e && t))))) ≡ g (f a b c d e))
      → (ws : List (List ℕ)) → fine t before (p ∷ q ∷ r ∷ s ∷ u ∷ []) behind.Nothing ws ≡ g (five f ws)
  five-fine p q r s u f h [] = sym none
  five-fine p q r s u f h (a ∷ []) = and_false (suits before p a) ∙ sym none
  five-fine p q r s u f h (a ∷ b ∷ []) = and_false2 (suits before p a) (suits a q b) ∙ sym none
  five-fine p q r s u f h (a ∷ b ∷ c ∷ []) = and_false3 (suits before p a) (suits a q b) (suits b r c) ∙ sym none
  five-fine p q r s u f h (a ∷ b ∷ c ∷ d ∷ []) =
      and_false4 (suits before p a) (suits a q b) (suits b r c) (suits c s d) ∙ sym none
  five-fine p q r s u f h (a ∷ b ∷ c ∷ d ∷ e ∷ []) = h a b c d e
  five-fine p q r s u f h (a ∷ b ∷ c ∷ d ∷ e ∷ i ∷ ws) =
      and_false5 (suits before p a) (suits a q b) (suits b r c) (suits c s d) (suits d u e) ∙ sym none

-- lists of controllers
pub numbers-fine : (g : Option (List ℕ) → Bool) → g None ≡ false → (t : Bool) → ((l : List ℕ) → t ≡ g (Some l))
    → (before : List ℕ) (ws : List (List ℕ))
    → fine_behind t before behind.Controllers ws ≡ g (numbers_at 16 ws)
numbers-fine g none t some before [] = some []
numbers-fine g none t some before (w ∷ ws) =
    bound g (number_at 16 w) _ _ none
    (λ x e. numbers-fine (λ o. g (o >>= (λ rest. Some (x ∷ rest)))) none t (λ l. some (x ∷ l)) w ws)

pub keys-fine : {B : Type 0} (g : Option B → Bool) → g None ≡ false → (t : Bool) (c n : List ℕ) (f : ℕ × ℕ → Option B)
    → ((x : ℕ × ℕ) → t ≡ g (f x))
    → (is_some (number_at 64 c) && (is_some (number_at 64 n) && t)) ≡ g (keys_at c n >>= f)
keys-fine g none t c n f h = by (number_at 64 c) (number_at 64 n)
  where
    by : (o p : Option ℕ) → (is_some o && (is_some p && t)) ≡ g ((o >>= (λ x. p >>= (λ y. Some (x, y)))) >>= f)
    by None p = sym none
    by (Some x) None = sym none
    by (Some x) (Some y) = h (x, y)

pub if_fine : {B : Type 0} (g : Option B → Bool) → g None ≡ false → (a e r : Bool) (o : Option B)
    → (a && r) ≡ g o → (a && (e && r)) ≡ g (if e then o else None)
if_fine g none a true r o h = h
if_fine g none a false r o h = and_false a ∙ sym none
