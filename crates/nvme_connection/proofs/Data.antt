-- The data among bytes of a PDU.
use Rattle.std.proofs.Common.{
  ◌≡◌,
  ℕ,
  zero,
  suc,
  ◌+◌,
  ◌-◌,
  ◌≤◌,
  ◌<◌,
  Bool,
  true,
  false,
  List,
  [],
  ◌∷◌,
  ◌++◌,
  length,
  take,
  drop,
  Option,
  Some,
  None,
  Result,
  Ok,
  Err,
  refl,
  sym,
  ap,
  ◌∙◌,
  subst,
  inl,
  inr,
  take-add,
  arith,
}
use Rattle.std.specs.Prelude.{◌⊎◌, IfSome, if◌then◌else◌, is_some, min, option_to_list, nat_lt, slice_range}
use Rattle.std.proofs.Math.Nat.{eq-or-lt_of_le}
use Rattle.std.proofs.Math.Seq.{take-nil}
use Rattle.std.proofs.lemmas.Bool.{le-ltb, ltb-false, ltb-true, false≢true}
use Rattle.std.proofs.lemmas.List.{
  append-nil,
  length-append,
  length-drop,
  length-take,
  length-take-le,
  take_all,
  drop_all,
  take-take,
  drop-drop,
  drop-take,
  take-append-le,
  take-append-drop,
  append_assoc,
}
use Rattle.nvme_pdu.specs.declared.agreed.Agreed.{Agreed}
use Rattle.nvme_pdu.specs.declared.fatal.Fatal.{Fatal}
use Rattle.nvme_pdu.specs.declared.layout.PduLayout.{PduLayout}
use Rattle.nvme_pdu.specs.Layouts.{layout_of}
use Rattle.nvme_connection.specs.declared.stage.Stage.{Stage}
use Rattle.nvme_connection.specs.declared.stage.Stage.TheVariants.{Taking, Whole, Complete, Ended}
use Rattle.nvme_connection.specs.Connections.{
  Connection,
  Step,
  after,
  after_in,
  at_stage,
  is_in_turn,
  laid,
  quiet,
  broken,
  out_of_sequence,
  reached,
}
use Rattle.nvme_connection.specs.Streams.{
  after_bytes,
  data_in,
  data_laid,
  in_hand,
  in_hand_at,
  one_if_taken,
  outcomes,
  taken,
}
use Rattle.nvme_connection.specs.declared.taken.Taken.{Taken}
use Rattle.nvme_connection.specs.declared.connection.Connection.{Connection as Value}
use Rattle.nvme_connection.specs.Holding.{AreData, Covers, Holds, Stops, Takes, breach_of}
use Rattle.nvme_connection.proofs.Facts.{facts}
use Rattle.nvme_connection.proofs.Gathering.{after-append, covers-then, reached-at, taking-whole, total}

-- ---- parts of two lists

drop-both : (n : ℕ) (u xs : List ℕ) → drop n (u ++ xs) ≡ drop n u ++ drop (n - length u) xs
drop-both zero u xs =
    let none : 0 ≡ 0 - length u = omega arith in
    ap (λ k. u ++ drop k xs) none
drop-both (suc n) [] xs =
    let all : suc n ≡ suc n - 0 = omega arith in
    ap (λ k. drop k xs) all
drop-both (suc n) (x ∷ u) xs =
    let same : n - length u ≡ suc n - suc (length u) = omega arith in
    drop-both n u xs ∙ ap (λ k. drop n u ++ drop k xs) same

take-both : (n : ℕ) (u xs : List ℕ) → take n (u ++ xs) ≡ take n u ++ take (n - length u) xs
take-both zero u xs =
    let none : 0 ≡ 0 - length u = omega arith in
    ap (λ k. take k xs) none
take-both (suc n) [] xs =
    let all : suc n ≡ suc n - 0 = omega arith in
    ap (λ k. take k xs) all
take-both (suc n) (x ∷ u) xs =
    let same : n - length u ≡ suc n - suc (length u) = omega arith in
    ap (λ ys. x ∷ ys) (take-both n u xs ∙ ap (λ k. take n u ++ take k xs) same)

slice-both : (u xs : List ℕ) (a b : ℕ) → a ≤ b
    → slice_range (u ++ xs) a b ≡ slice_range u a b ++ slice_range xs (a - length u) (b - length u)
slice-both u xs a b order =
    let rest : (b - a) - length (drop a u) ≡ (b - length u) - (a - length u) = omega (arith, length-drop a u, order) in
    ap (take (b - a)) (drop-both a u xs)
    ∙ take-both (b - a) (drop a u) (drop (a - length u) xs)
    ∙ ap (λ k. take (b - a) (drop a u) ++ take k (drop (a - length u) xs)) rest

cut : (n m k : ℕ) (xs : List ℕ) → k ≡ min n m → take n (take m xs) ≡ take k xs
cut n m k xs is = by (eq-or-lt_of_le (omega arith))
  where
    by : (min n m ≡ n) ⊎ (min n m < n) → take n (take m xs) ≡ take k xs
    by (inl same) = take-take n m xs (omega (arith, same)) ∙ ap (λ j. take j xs) (sym (is ∙ same))
    by (inr less) =
        let other : k ≡ m = omega (arith, is, less) in
        take_all n (take m xs) (omega (arith, length-take m xs, less)) ∙ ap (λ j. take j xs) (sym other)

-- a range of the first n bytes
slice-within : (bytes : List ℕ) (n a b : ℕ) → n ≤ length bytes
    → slice_range (take n bytes) a b ≡ slice_range bytes (min a n) (min b n)
slice-within bytes n a b within = by (eq-or-lt_of_le (omega arith))
  where
    by : (min a n ≡ a) ⊎ (min a n < a) → slice_range (take n bytes) a b ≡ slice_range bytes (min a n) (min b n)
    by (inl same) =
        let split : a + (n - a) ≡ n = omega (arith, same) in
        ap (λ k. take (b - a) (drop a (take k bytes))) (sym split)
        ∙ ap (take (b - a)) (drop-take a (n - a) bytes)
        ∙ cut (b - a) (n - a) (min b n - min a n) (drop a bytes) (omega (arith, same))
        ∙ ap (λ k. take (min b n - min a n) (drop k bytes)) (sym same)
    by (inr less) =
        let none : min b n - min a n ≡ 0 = omega (arith, less) in
        ap (take (b - a)) (drop_all a (take n bytes) (omega (arith, length-take-le n bytes within, less)))
        ∙ take-nil (b - a)
        ∙ ap (λ k. take k (drop (min a n) bytes)) (sym none)

-- ---- what is in hand

abbrev pub IsGoing : Stage → Type 0
IsGoing Complete = ⊥
IsGoing other = Unit {0}

pub going : {s : Stage} → s ≡ Taking → IsGoing s
going e = subst IsGoing (sym e) tt

pub record Goes (c : Connection) (u : List ℕ) (d : Connection) : Type 0 where
  pub unit : d.unit ≡ u
  pub agreed : d.agreed ≡ c.agreed
  pub stage : IsGoing d.stage

either : (c : Connection) (u : List ℕ) (t : Bool) (x y : Step) → Goes c u x.0 → Goes c u y.0
    → Goes c u (if t then x else y).0
either c u true x y p q = p
either c u false x y p q = q

going-stage : (t : Bool) → IsGoing (if t then Taking else Whole)
going-stage true = tt
going-stage false = tt

laid-goes : (c : Connection) (u : List ℕ) (r : Result PduLayout Fatal) → Goes c u (laid c u r).0
laid-goes c u (Ok l) = record { unit = refl; agreed = refl; stage = going-stage (nat_lt (length u) l.length) }
laid-goes c u (Err f) = record { unit = refl; agreed = refl; stage = tt }

reached-goes : (c : Connection) (u : List ℕ) → Goes c u (reached c u).0
unfolding reached
reached-goes c u =
    either c u (nat_lt (length u) 8) (quiet (at_stage Taking c u)) _ (record { unit = refl; agreed = refl; stage = tt })
    (either c u (is_in_turn c u) _ (broken c u out_of_sequence) (laid-goes c u (layout_of c.agreed (take 8 u)))
    (record { unit = refl; agreed = refl; stage = tt }))

only-taking : (s : Stage) (n m : ℕ) → IsGoing s → one_if_taken s n ≡ suc m → (s ≡ Taking) × (n ≡ m)
only-taking Taking n m g e = (refl, omega (arith, e))
only-taking Complete n m g e = absurd g
only-taking Whole n m g e = absurd (omega (arith, e))
only-taking Ended n m g e = absurd (omega (arith, e))

pub goes : (c : Connection) (xs : List ℕ) → IsGoing c.stage → taken c xs ≡ length xs
    → Goes c (c.unit ++ xs) (after_bytes c xs)
goes c [] g all = record { unit = sym (append-nil c.unit); agreed = refl; stage = g }
goes c (x ∷ xs) g all =
    let this = only-taking c.stage (taken (after c x).0 xs) (length xs) g all in
    let one : Goes c (c.unit ++ x ∷ []) (after c x).0 =
    subst (λ (s : Step). Goes c (c.unit ++ x ∷ []) s.0) (sym (ap (λ (t : Stage). after_in t c x) this.0))
    (reached-goes c (c.unit ++ x ∷ [])) in
    let rest = goes (after c x).0 xs one.stage this.1 in
    record {
      unit = rest.unit ∙ ap (λ u. u ++ xs) one.unit ∙ append_assoc c.unit (x ∷ []) xs;
      agreed = rest.agreed ∙ one.agreed;
      stage = rest.stage;
    }

-- ---- the data

no-data-laid : (u : List ℕ) (r : Result PduLayout Fatal) → ((l : PduLayout) → r ≡ Ok l → 24 ≤ l.data_offset)
    → length u ≤ 8 → data_laid u r ≡ []
no-data-laid u (Ok l) far few =
    ap (take (l.data_offset + l.data_length - l.data_offset)) (drop_all l.data_offset u (omega
    (arith, far l refl, few))) ∙ take-nil _
no-data-laid u (Err f) far few = refl

by-bool : (t : Bool) (xs : List ℕ) → xs ≡ [] → (if t then [] else xs) ≡ []
by-bool true xs e = refl
by-bool false xs e = e

no-data : (a : Agreed) (u : List ℕ) → length u ≤ 8 → data_in a u ≡ []
unfolding data_in
no-data a u few = by-bool (nat_lt (length u) 8) _ (no-data-laid u (layout_of a (take 8 u)) (λ l is. (facts a
    (take 8 u) l is).begins) few)

pub data-laid : (a : Agreed) (u : List ℕ) (l : PduLayout) → 8 ≤ length u → layout_of a (take 8 u) ≡ Ok l
    → data_in a u ≡ slice_range u l.data_offset (l.data_offset + l.data_length)
unfolding data_in
data-laid a u l long is = rw (le-ltb (length u) 8 long, is) refl

pub lt-or-le : (n m : ℕ) → (n < m) ⊎ (m ≤ n)
lt-or-le n m = by (nat_lt n m) refl
  where
    by : (t : Bool) → nat_lt n m ≡ t → (n < m) ⊎ (m ≤ n)
    by true e = inl (ltb-true n m e)
    by false e = inr (ltb-false n m e)

data-before : (a : Agreed) (u xs : List ℕ) (l : PduLayout) → layout_of a (take 8 (u ++ xs)) ≡ Ok l
    → data_in a u ≡ slice_range u l.data_offset (l.data_offset + l.data_length)
data-before a u xs l is = by (lt-or-le (length u) 8)
  where
    by : (length u < 8) ⊎ (8 ≤ length u) → data_in a u ≡ slice_range u l.data_offset (l.data_offset + l.data_length)
    by (inl less) =
        no-data a u (omega (arith, less))
        ∙ sym (ap (take (l.data_offset + l.data_length - l.data_offset)) (drop_all l.data_offset u (omega (
          arith,
          (facts _ _ _ is).begins,
          less,
        ))) ∙ take-nil _)
    by (inr long) = data-laid a u l long (ap (layout_of a) (sym (take-append-le 8 u xs long)) ∙ is)

more-data : (a : Agreed) (u bytes : List ℕ) (n begin end : ℕ) (l : PduLayout) → n ≤ length bytes
    → 8 ≤ length (u ++ take n bytes)
    → layout_of a (take 8 (u ++ take n bytes)) ≡ Ok l → begin ≡ min (l.data_offset - length u) n
    → end ≡ min (l.data_offset + l.data_length - length u) n
    → data_in a (u ++ take n bytes) ≡ data_in a u ++ slice_range bytes begin end
more-data a u bytes n begin end l within long is begins ends =
    data-laid a (u ++ take n bytes) l long is
    ∙ slice-both u (take n bytes) l.data_offset (l.data_offset + l.data_length) (omega arith)
    ∙ ap (λ xs. xs ++ slice_range (take n bytes) (l.data_offset - length u)
    (l.data_offset + l.data_length - length u)) (sym (data-before a u (take n bytes) l is))
    ∙ ap (λ xs. data_in a u ++ xs) (slice-within bytes n (l.data_offset - length u)
    (l.data_offset + l.data_length - length u) within)
    ∙ ap (λ k. data_in a u ++ slice_range bytes k (min (l.data_offset + l.data_length - length u) n)) (sym begins)
    ∙ ap (λ k. data_in a u ++ slice_range bytes begin k) (sym ends)

earlier-data : (a : Agreed) (u xs : List ℕ) (n begin end : ℕ) (l : PduLayout) → layout_of a (take 8 (u ++ xs)) ≡ Ok l
    → begin ≡ min (l.data_offset - length u) n → end ≡ min (l.data_offset + l.data_length - length u) n → begin < end
    → length u - l.data_offset ≡ length (data_in a u)
earlier-data a u xs n begin end l is begins ends some =
    sym (ap length (data-before a u xs l is)
    ∙ length-take (l.data_offset + l.data_length - l.data_offset) (drop l.data_offset u)
    ∙ omega (arith, length-drop l.data_offset u, begins, ends, some))

-- ---- what a call says of them

in-hand : (s : Stage) (u : List ℕ) → IsGoing s → in_hand_at s u ≡ u
in-hand Taking u g = refl
in-hand Complete u g = absurd g
in-hand Whole u g = refl
in-hand Ended u g = refl

pub hand-after : (c : Connection) (bytes : List ℕ) (n : ℕ) (breach : Option Fatal) (v : Value) → IsGoing c.stage
    → Covers c (take n bytes) breach v → Stops (after_bytes c (take n bytes)) (drop n bytes)
    → in_hand (after_bytes c bytes) ≡ c.unit ++ take n bytes
hand-after c bytes n breach v g p q =
    let last : after_bytes c bytes ≡ after_bytes c (take n bytes) =
    ap (after_bytes c) (sym (take-append-drop n bytes)) ∙ after-append c (take n bytes) (drop n bytes) ∙ q.next in
    let there = goes c (take n bytes) g p.all in
    ap in_hand last ∙ in-hand _ _ there.stage ∙ there.unit

same-choice : (t : Bool) (n m : ℕ) → (t ≡ true → n ≡ m) → (if t then n else 0) ≡ (if t then m else 0)
same-choice true n m e = e refl
same-choice false n m e = refl

pub are-data : (c : Connection) (bytes : List ℕ) (t : Taken) (l : PduLayout) → IsGoing c.stage → t.count ≤ length bytes
    → in_hand (after_bytes c bytes) ≡ c.unit ++ take t.count bytes → 8 ≤ length (c.unit ++ take t.count bytes)
    → layout_of c.agreed (take 8 (c.unit ++ take t.count bytes)) ≡ Ok l
    → t.data_begin ≡ min (l.data_offset - length c.unit) t.count
    → t.data_end ≡ min (l.data_offset + l.data_length - length c.unit) t.count
    → t.data_offset ≡ (if nat_lt t.data_begin t.data_end then length c.unit - l.data_offset else 0)
    → AreData c bytes t
are-data c bytes t l g within last long is begins ends offset =
    let before : in_hand c ≡ c.unit = in-hand c.stage c.unit g in
    record {
      offset = offset ∙ same-choice (nat_lt t.data_begin t.data_end) _ _ (λ some.
          earlier-data c.agreed c.unit (take t.count bytes) t.count t.data_begin t.data_end l is begins ends
          (ltb-true _ _ some)
          ∙ ap (λ u. length (data_in c.agreed u)) (sym before));
      next = ap (data_in c.agreed) last
          ∙ more-data c.agreed c.unit bytes t.count t.data_begin t.data_end l within long is begins ends
          ∙ ap (λ u. data_in c.agreed u ++ slice_range bytes t.data_begin t.data_end) (sym before);
      within = (omega (arith, begins, ends), omega (arith, ends));
    }

pub no-data-yet : (c : Connection) (bytes : List ℕ) (t : Taken) → IsGoing c.stage
    → in_hand (after_bytes c bytes) ≡ c.unit ++ take t.count bytes → length (c.unit ++ take t.count bytes) ≤ 8
    → t.data_begin ≡ 0 → t.data_end ≡ 0 → t.data_offset ≡ 0 → AreData c bytes t
no-data-yet c bytes t g last few begins ends offset =
    let before : in_hand c ≡ c.unit = in-hand c.stage c.unit g in
    let none : data_in c.agreed (in_hand c) ≡ [] =
    ap (data_in c.agreed) before ∙ no-data c.agreed c.unit (omega (
      arith,
      few,
      length-append c.unit
          (take t.count bytes),
    )) in
    record {
      offset = offset ∙ rw (begins, ends) refl;
      next = ap (data_in c.agreed) last ∙ no-data c.agreed (c.unit ++ take t.count bytes) few
          ∙ rw (none, begins, ends) refl;
      within = (omega (arith, begins, ends), omega (arith, ends));
    }

-- ---- what a call does

record Whole-hand (c : Connection) (bytes : List ℕ) (n : ℕ) (v : Value) : Type 0 where
  pub hand : in_hand (after_bytes c bytes) ≡ c.unit ++ take n bytes
  pub count : v.count ≡ length (c.unit ++ take n bytes)

hands : (c : Connection) (bytes : List ℕ) (n : ℕ) (breach : Option Fatal) (v : Value) → c.stage ≡ Taking
    → Covers c (take n bytes) breach v → Stops (after_bytes c (take n bytes)) (drop n bytes) → Whole-hand c bytes n v
hands c bytes n breach v stage p q = record {
  hand = hand-after c bytes n breach v (going stage) p q;
  count = p.next.count ∙ ap length (goes c (take n bytes) (going stage) p.all).unit;
}

pub takes-bare : (c : Connection) (bytes : List ℕ) (n : ℕ) (breach : Option Fatal) (v : Value) (t : Taken)
    → c.stage ≡ Taking → n ≤ length bytes
    → Covers c (take n bytes) breach v → Stops (after_bytes c (take n bytes)) (drop n bytes) → v.count ≤ 8
    → t.count ≡ n → t.breach ≡ breach → t.data_begin ≡ 0 → t.data_end ≡ 0 → t.data_offset ≡ 0 → Takes c bytes t v
takes-bare c bytes n breach v t stage within p q few count why begins ends offset =
    let all = total c bytes n breach v within p q in
    let there = hands c bytes n breach v stage p q in
    record {
      next = all.next;
      count = count ∙ all.count;
      breach = all.told ∙ ap (breach_of (after_bytes c bytes)) (sym why);
      are_data = no-data-yet c bytes t (going stage)
          (there.hand ∙ ap (λ k. c.unit ++ take k bytes) (sym count))
          (subst (λ k. length (c.unit ++ take k bytes) ≤ 8) (sym count) (omega
          (arith, few, sym there.count))) begins ends offset;
    }

pub takes-laid : (c : Connection) (bytes : List ℕ) (n : ℕ) (v : Value) (t : Taken) (l : PduLayout)
    → c.stage ≡ Taking → n ≤ length bytes
    → Covers c (take n bytes) None v → Stops (after_bytes c (take n bytes)) (drop n bytes) → 8 ≤ v.count
    → layout_of c.agreed (take 8 (after_bytes c (take n bytes)).unit) ≡ Ok l
    → t.count ≡ n → t.breach ≡ None
    → t.data_begin ≡ min (l.data_offset - length c.unit) n
    → t.data_end ≡ min (l.data_offset + l.data_length - length c.unit) n
    → t.data_offset ≡ (if nat_lt t.data_begin t.data_end then length c.unit - l.data_offset else 0) → Takes c bytes t v
takes-laid c bytes n v t l stage within p q long is count why begins ends offset =
    let all = total c bytes n None v within p q in
    let there = hands c bytes n None v stage p q in
    let unit = (goes c (take n bytes) (going stage) p.all).unit in
    record {
      next = all.next;
      count = count ∙ all.count;
      breach = all.told ∙ ap (breach_of (after_bytes c bytes)) (sym why);
      are_data = are-data c bytes t l (going stage) (omega (arith, count, within))
          (there.hand ∙ ap (λ k. c.unit ++ take k bytes) (sym count))
          (subst (λ k. 8 ≤ length (c.unit ++ take k bytes)) (sym count) (omega (arith, long, sym there.count)))
          (subst (λ k. layout_of c.agreed (take 8 (c.unit ++ take k bytes))
          ≡ Ok l) (sym count) (ap (λ u. layout_of c.agreed (take 8 u)) (sym unit) ∙ is))
          (begins ∙ ap (λ k. min (l.data_offset - length c.unit) k) (sym count))
          (ends ∙ ap (λ k. min (l.data_offset + l.data_length - length c.unit) k) (sym count)) offset;
    }

-- nothing is taken
pub nothing-more : (c : Connection) (bytes : List ℕ) (t : Taken) → after_bytes c bytes ≡ c → t.data_begin ≡ 0
    → t.data_end ≡ 0 → t.data_offset ≡ 0 → AreData c bytes t
nothing-more c bytes t same begins ends offset = record {
  offset = offset ∙ rw (begins, ends) refl;
  next = ap (λ d. data_in c.agreed (in_hand d)) same ∙ sym (append-nil _) ∙ rw (begins, ends) refl;
  within = (omega (arith, begins, ends), omega (arith, ends));
}

pub takes-nothing : (c : Connection) (bytes : List ℕ) (v : Value) (t : Taken) → Holds v c → Stops c bytes
    → t.count ≡ 0 → t.breach ≡ None → t.data_begin ≡ 0 → t.data_end ≡ 0 → t.data_offset ≡ 0 → Takes c bytes t v
takes-nothing c bytes v t h q count why begins ends offset = record {
  next = subst (Holds v) (sym q.next) h;
  count = count ∙ sym q.none;
  breach = q.told ∙ ap (breach_of (after_bytes c bytes)) (sym why);
  are_data = nothing-more c bytes t q.next begins ends offset;
}

-- ---- the first byte of another PDU

pub fresh-holds : (v : Value) (c : Connection) → Holds v c
    → Holds (record {
      stage = Taking;
      is_open = v.is_open;
      agreed = v.agreed;
      count = 0;
      kept = v.kept;
      layout =
          v.layout;
    }) (at_stage Taking c [])
fresh-holds v c h = record {
  stage = refl;
  is_open = h.is_open;
  agreed = h.agreed;
  count = refl;
  kept = refl;
  laid = λ stage long. absurd (omega (arith, long));
  whole = λ stage. absurd (taking-whole stage);
}

pub fresh-takes : (c : Connection) (bytes : List ℕ) (t : Taken) (v : Value) → c.stage ≡ Complete → 0 < length bytes
    → Takes (at_stage Taking c []) bytes t v → Takes c bytes t v
fresh-takes c [] t v stage some p = absurd (omega (arith, some))
fresh-takes c (b ∷ bs) t v stage some p =
    let one : after (at_stage Taking c []) b ≡ after c b =
    reached-at Taking c [] (b ∷ []) ∙ sym (ap (λ (s : Stage). after_in s c b) stage) in
    let next : after_bytes (at_stage Taking c []) (b ∷ bs)
    ≡ after_bytes c (b ∷ bs) = ap (λ (s : Step). after_bytes s.0 bs) one in
    let none : in_hand c ≡ [] = ap (λ (s : Stage). in_hand_at s c.unit) stage in
    record {
      next = subst (Holds v) next p.next;
      count = p.count ∙ ap (λ (s : Step). suc (taken s.0 bs)) one
          ∙ sym (ap (λ (s : Stage). one_if_taken s (taken (after c b).0 bs)) stage);
      breach = sym (ap (λ (s : Step). option_to_list s.1 ++ outcomes s.0 bs) one) ∙ p.breach
          ∙ ap (λ d. breach_of d t.breach) next;
      are_data = record {
        offset = p.are_data.offset ∙ ap (λ u. if nat_lt t.data_begin t.data_end then length
            (data_in c.agreed u) else 0) (sym none);
        next = ap (λ d. data_in c.agreed (in_hand d)) (sym next) ∙ p.are_data.next
            ∙ ap (λ u. data_in c.agreed u ++ slice_range (b ∷ bs) t.data_begin t.data_end) (sym none);
        within = p.are_data.within;
      };
    }

-- ---- whether there is a breach

pub some-then : (o : Option Fatal) (P : Type 0) → IfSome o (λ fatal. P) → is_some o ≡ true → P
some-then (Some f) P p e = p
some-then None P p e = absurd (false≢true e)

pub none-then : (o : Option Fatal) → is_some o ≡ false → o ≡ None
none-then (Some f) e = absurd (false≢true (sym e))
none-then None e = refl

-- ---- two parts of the bytes

pub covers-both : (c : Connection) (bytes : List ℕ) (n m : ℕ) (v w : Value) → Covers c (take n bytes) None v
    → Covers (after_bytes c (take n bytes)) (take m (drop n bytes)) None w → Covers c (take (n + m) bytes) None w
covers-both c bytes n m v w p q =
    subst (λ xs. Covers c xs None w) (sym (take-add n m bytes)) (covers-then c (take n bytes) (take m
    (drop n bytes)) v w p q)

pub after-both : (c : Connection) (bytes : List ℕ) (n m : ℕ)
    → after_bytes c (take (n + m) bytes) ≡ after_bytes (after_bytes c (take n bytes)) (take m (drop n bytes))
after-both c bytes n m = ap (after_bytes c) (take-add n m bytes) ∙ after-append c (take n bytes) (take m (drop n bytes))

pub stops-both : (c : Connection) (bytes : List ℕ) (n m : ℕ)
    → Stops (after_bytes (after_bytes c (take n bytes)) (take m (drop n bytes))) (drop m (drop n bytes))
    → Stops (after_bytes c (take (n + m) bytes)) (drop (n + m) bytes)
stops-both c bytes n m q =
    subst (λ d. Stops d (drop (n + m) bytes)) (sym (after-both c bytes n m))
    (subst (Stops (after_bytes (after_bytes c (take n bytes)) (take m (drop n bytes)))) (drop-drop m n bytes) q)
