-- Bytes that are taken one by one are taken at once.
use Rattle.std.proofs.Common.{
  ◌≡◌,
  ℕ,
  suc,
  ◌+◌,
  ◌≤◌,
  ◌<◌,
  Bool,
  true,
  false,
  List,
  [],
  ◌∷◌,
  ◌++◌,
  length,
  take,
  drop,
  Option,
  Some,
  None,
  Result,
  Ok,
  Err,
  refl,
  sym,
  ap,
  ◌∙◌,
  subst,
  inl,
  inr,
  append_assoc,
  arith,
}
use Rattle.std.proofs.Math.Nat.{eq-or-lt_of_le}
use Rattle.std.specs.Prelude.{◌⊎◌, ◌==◌, get_or, if◌then◌else◌, nat_lt, not, option_to_list}
use Rattle.std.proofs.lemmas.Bool.{lt-ltb, le-ltb}
use Rattle.std.proofs.lemmas.List.{append-nil, length-append, length-take-le, take-append-drop, take-append-le}
use Rattle.nvme_pdu.specs.declared.fatal.Fatal.{Fatal}
use Rattle.nvme_pdu.specs.declared.layout.PduLayout.{PduLayout}
use Rattle.nvme_pdu.specs.Layouts.{layout_of}
use Rattle.nvme_connection.specs.declared.connection.Connection.{Connection as Value}
use Rattle.nvme_connection.specs.declared.stage.Stage.{Stage}
use Rattle.nvme_connection.specs.declared.stage.Stage.TheVariants.{Taking, Whole, Complete, Ended}
use Rattle.nvme_connection.specs.Connections.{
  Connection,
  Step,
  at_stage,
  after,
  after_in,
  broken,
  is_in_turn,
  laid,
  out_of_sequence,
  quiet,
  reached,
}
use Rattle.nvme_connection.specs.Streams.{after_bytes, one_if_taken, outcomes, taken}
use Rattle.nvme_connection.specs.Holding.{Covers, Gathers, Holds, IsLaid, Makes, Stops, breach_of, settled_by}

pub record AtOnce (c : Connection) (bytes : List ℕ) (step : Step) : Type 0 where
  pub next : after_bytes c bytes ≡ step.0
  pub told : outcomes c bytes ≡ option_to_list step.1
  pub all : taken c bytes ≡ length bytes

-- ---- what is reached does not depend on the bytes before

same-if : (t : Bool) (x y z w : Step) → x ≡ z → y ≡ w → (if t then x else y) ≡ (if t then z else w)
same-if true x y z w p q = p
same-if false x y z w p q = q

laid-at : (stage : Stage) (c : Connection) (v u : List ℕ) (r : Result PduLayout Fatal)
    → laid (at_stage stage c v) u r ≡ laid c u r
laid-at stage c v u (Ok l) = refl
laid-at stage c v u (Err f) = refl

pub reached-at : (stage : Stage) (c : Connection) (v u : List ℕ) → reached (at_stage stage c v) u ≡ reached c u
unfolding reached
reached-at stage c v u =
    same-if (nat_lt (length u) 8) (quiet (at_stage Taking c u)) _ (quiet (at_stage Taking c u)) _ refl
    (same-if (is_in_turn c u) _ (broken c u out_of_sequence) _ (broken c u out_of_sequence) (laid-at stage c v u
    (layout_of c.agreed (take 8 u))) refl)

pub quiet-short : (c : Connection) (u : List ℕ) → length u < 8 → reached c u ≡ quiet (at_stage Taking c u)
unfolding reached
quiet-short c u less = rw (lt-ltb (length u) 8 less) refl

pub reached-laid : (c : Connection) (l : PduLayout) → IsLaid c l → reached c c.unit ≡ quiet (settled_by c l)
unfolding reached
reached-laid c l is = rw (le-ltb (length c.unit) 8 is.common, is.in_turn, is.is) refl

-- ---- byte by byte

abbrev Quiet : Connection → List ℕ → ℕ → Type 0
Quiet c u need = (xs : List ℕ) → length u + length xs < need → reached c (u ++ xs) ≡ quiet (at_stage Taking c (u ++ xs))

at-once : (c d : Connection) (b : ℕ) (bs : List ℕ) (step : Step) → c.stage ≡ Taking → after c b ≡ quiet d
    → AtOnce d bs step → AtOnce c (b ∷ bs) step
at-once c d b bs step stage e p = record {
  next = rw e p.next;
  told = rw e p.told;
  all = ap (λ (t : Stage). one_if_taken t (taken (after c b).0 bs)) stage ∙ ap (λ (s : Step). suc (taken s.0 bs)) e
      ∙ ap suc p.all;
}

pub gathered : (c : Connection) (u : List ℕ) (need : ℕ) → Quiet c u need
    → (xs : List ℕ) (b : ℕ) (bs : List ℕ) → length u + length xs + length (b ∷ bs) ≤ need
    → AtOnce (at_stage Taking c (u ++ xs)) (b ∷ bs) (reached c ((u ++ xs) ++ b ∷ bs))
gathered c u need q xs b [] fits = record {
  next = ap (λ (s : Step). s.0) (reached-at Taking c (u ++ xs) ((u ++ xs) ++ b ∷ []));
  told = ap (λ (s : Step). option_to_list s.1 ++ []) (reached-at Taking c (u ++ xs) ((u ++ xs) ++ b ∷ []))
      ∙ append-nil _;
  all = refl;
}
gathered c u need q xs b (x ∷ bs) fits =
    let more : length u + length (xs ++ b ∷ []) < need = omega (arith, length-append xs (b ∷ []), fits) in
    let one : after (at_stage Taking c (u ++ xs)) b ≡ quiet (at_stage Taking c (u ++ (xs ++ b ∷ []))) =
    reached-at Taking c (u ++ xs) ((u ++ xs) ++ b ∷ []) ∙ ap (reached c) (append_assoc u xs (b ∷ []))
    ∙ q (xs ++ b ∷ []) more in
    let next = gathered c u need q (xs ++ b ∷ []) x bs (omega (arith, length-append xs (b ∷ []), fits)) in
    let same : (u ++ (xs ++ b ∷ [])) ++ x ∷ bs ≡ (u ++ xs) ++ b ∷ x ∷ bs =
    ap (λ ys. ys ++ x ∷ bs) (sym (append_assoc u xs (b ∷ []))) ∙ append_assoc (u ++ xs) (b ∷ []) (x ∷ bs) in
    at-once (at_stage Taking c (u ++ xs)) (at_stage Taking c (u ++ (xs ++ b ∷ []))) b (x ∷ bs) (reached c ((u ++ xs)
    ++ b ∷ x ∷ bs)) refl one
    (subst (λ ys. AtOnce (at_stage Taking c (u ++ (xs ++ b ∷ []))) (x ∷ bs) (reached c ys)) same next)

abbrev IsTaking : Stage → Type 0
IsTaking Taking = Unit {0}
IsTaking other = ⊥

pub taking-whole : Taking ≡ Whole → ⊥
taking-whole e = subst IsTaking e tt

same-connection : (c : Connection) → c.stage ≡ Taking → at_stage Taking c (c.unit ++ []) ≡ c
same-connection c stage = λ i. record {
  stage = sym stage i;
  is_open = c.is_open;
  agreed = c.agreed;
  unit =
      append-nil c.unit i;
}

-- all of these, of which at least one comes
pub gathered-from : (c : Connection) (need : ℕ) → c.stage ≡ Taking → Quiet c c.unit need → (b : ℕ) (bs : List ℕ)
    → length c.unit + length (b ∷ bs) ≤ need
    → AtOnce c (b ∷ bs) (reached c (c.unit ++ b ∷ bs))
gathered-from c need stage q b bs fits =
    subst (λ (d : Connection). AtOnce d (b ∷ bs) (reached c (c.unit ++ b ∷ bs))) (same-connection c stage)
    (subst (λ ys. AtOnce (at_stage Taking c (c.unit ++ [])) (b ∷ bs) (reached c (ys ++ b ∷ bs))) (append-nil c.unit)
    (gathered c c.unit need q [] b bs (omega (arith, fits))))

covers-of : (c : Connection) (bytes : List ℕ) (step : Step) (breach : Option Fatal) (v : Value)
    → AtOnce c bytes step → Makes step breach v → Covers c bytes breach v
covers-of c bytes step breach v p m = record {
  next = subst (Holds v) (sym p.next) m.next;
  told = p.told ∙ m.told ∙ ap (λ d. breach_of d breach) (sym p.next);
  all = p.all;
}

-- ---- up to eight bytes

pub common-taken : (c : Connection) (xs : List ℕ) (breach : Option Fatal) (v : Value) → c.stage ≡ Taking
    → length c.unit < 8 → length c.unit + length xs ≤ 8
    → Makes (reached c (c.unit ++ xs)) breach v → Covers c xs breach v
common-taken c [] breach v stage few fits m =
    let is : reached c (c.unit ++ []) ≡ quiet c = quiet-short c (c.unit
    ++ []) (omega (arith, few, length-append c.unit [])) ∙ ap quiet (same-connection c stage) in
    let made = subst (λ s. Makes s breach v) is m in
    record { next = made.next; told = made.told; all = refl }
common-taken c (b ∷ bs) breach v stage few fits m =
    covers-of c (b ∷ bs) (reached c (c.unit ++ b ∷ bs)) breach v
    (gathered-from c 8 stage (λ xs less. quiet-short c (c.unit
    ++ xs) (omega (arith, less, length-append c.unit xs))) b bs fits) m

pub short-made : (v : Value) (c : Connection) → Gathers v c → length c.unit < 8 → Makes (reached c c.unit) None v
short-made v c g few =
    subst (λ s. Makes s None v) (sym (quiet-short c c.unit few)) (record {
      next = record {
        stage = g.stage;
        is_open = g.is_open;
        agreed = g.agreed;
        count = g.count;
        kept = g.kept;
        laid = λ stage long. absurd (omega (arith, few, long));
        whole = λ stage. absurd (taking-whole stage);
      };
      told = refl;
    })

pub broken-made : (v : Value) (c : Connection) (fatal : Fatal) → reached c c.unit ≡ broken c c.unit fatal
    → Holds v (broken c c.unit fatal).0 → Makes (reached c c.unit) (Some fatal) v
broken-made v c fatal is holds = subst (λ s. Makes s (Some fatal) v) (sym is) (record { next = holds; told = refl })

pub out-of-turn : (c : Connection) → 8 ≤ length c.unit → is_in_turn c c.unit ≡ false
    → reached c c.unit ≡ broken c c.unit out_of_sequence
unfolding reached
out-of-turn c long turn = rw (le-ltb (length c.unit) 8 long, turn) refl

pub at-fault : (c : Connection) (fatal : Fatal) → 8 ≤ length c.unit → is_in_turn c c.unit ≡ true
    → layout_of c.agreed (take 8 c.unit) ≡ Err fatal → reached c c.unit ≡ broken c c.unit fatal
unfolding reached
at-fault c fatal long turn is = rw (le-ltb (length c.unit) 8 long, turn, is) refl

pub going-on : (c : Connection) (l : PduLayout) → length c.unit < l.length → settled_by c l ≡ at_stage Taking c c.unit
going-on c l less = rw (lt-ltb (length c.unit) l.length less) refl

-- the value, whose layout is this now
abbrev with_layout : Value → PduLayout → Value
with_layout v l = record {
  stage = v.stage;
  is_open = v.is_open;
  agreed = v.agreed;
  count = v.count;
  kept = v.kept;
  layout = l;
}

pub laid-made : (v : Value) (l : PduLayout) (c : Connection) → IsLaid c l → Gathers v c → length c.unit < l.length
    → Makes (reached c c.unit) None (with_layout v l)
laid-made v l c is g less =
    subst (λ s. Makes s None (with_layout v l)) (sym (reached-laid c l is ∙ ap quiet (going-on c l less))) (record {
      next = record {
        stage = g.stage;
        is_open = g.is_open;
        agreed = g.agreed;
        count = g.count;
        kept = g.kept;
        laid = λ stage long. (
          record { is = is.is; in_turn = is.in_turn; common = is.common; within = is.within },
          less,
        );
        whole = λ stage. absurd (taking-whole stage);
      };
      told = refl;
    })

-- ---- up to the end of a PDU

pub first-byte : (u xs : List ℕ) → 0 < length u → get_or (u ++ xs) 0 0 ≡ get_or u 0 0
first-byte [] xs some = absurd (omega (arith, some))
first-byte (b ∷ u) xs some = refl

pub later-laid : (c : Connection) (l : PduLayout) (xs : List ℕ) → IsLaid c l → length c.unit + length xs ≤ l.length
    → IsLaid (at_stage Taking c (c.unit ++ xs)) l
later-laid c l xs is fits = record {
  is = ap (layout_of c.agreed) (take-append-le 8 c.unit xs is.common) ∙ is.is;
  in_turn = ap (λ (n : ℕ). if c.is_open then not (n == 0) else n == 0) (first-byte c.unit xs (omega
      (arith, is.common))) ∙ is.in_turn;
  common = omega (arith, length-append c.unit xs, is.common);
  within = omega (arith, length-append c.unit xs, fits);
}

pub reached-later : (c : Connection) (l : PduLayout) (xs : List ℕ) → IsLaid c l → length c.unit + length xs ≤ l.length
    → reached c (c.unit ++ xs) ≡ quiet (settled_by (at_stage Taking c (c.unit ++ xs)) l)
reached-later c l xs is fits =
    sym (reached-at Taking c (c.unit ++ xs) (c.unit ++ xs))
    ∙ reached-laid (at_stage Taking c (c.unit ++ xs)) l (later-laid c l xs is fits)

pub rest-at-once : (c : Connection) (l : PduLayout) (xs : List ℕ) → c.stage ≡ Taking → IsLaid c l
    → length c.unit < l.length → length c.unit + length xs ≤ l.length
    → AtOnce c xs (quiet (settled_by (at_stage Taking c (c.unit ++ xs)) l))
rest-at-once c l [] stage is less fits =
    let same : settled_by (at_stage Taking c (c.unit ++ [])) l ≡ c =
    going-on (at_stage Taking c (c.unit ++ [])) l (omega (arith, less, length-append c.unit []))
    ∙ same-connection c stage in
    record { next = sym same; told = refl; all = refl }
rest-at-once c l (b ∷ bs) stage is less fits =
    let q : Quiet c c.unit l.length = λ xs more.
    reached-later c l xs is (omega (arith, more))
    ∙ ap quiet (going-on (at_stage Taking c (c.unit ++ xs)) l (omega (arith, more, length-append c.unit xs))) in
    subst (AtOnce c (b ∷ bs)) (reached-later c l (b ∷ bs) is fits) (gathered-from c l.length stage q b bs fits)

pub rest-taken : (c : Connection) (l : PduLayout) (xs : List ℕ) (v : Value) → c.stage ≡ Taking → IsLaid c l
    → length c.unit < l.length → length c.unit + length xs ≤ l.length
    → Holds v (settled_by (at_stage Taking c (c.unit ++ xs)) l) → Covers c xs None v
rest-taken c l xs v stage is less fits holds =
    covers-of c xs (quiet (settled_by (at_stage Taking c (c.unit
    ++ xs)) l)) None v (rest-at-once c l xs stage is less fits) (record { next = holds; told = refl })

-- ---- one after the other

pub after-append : (c : Connection) (xs ys : List ℕ) → after_bytes c (xs ++ ys) ≡ after_bytes (after_bytes c xs) ys
after-append c [] ys = refl
after-append c (x ∷ xs) ys = after-append (after c x).0 xs ys

pub outcomes-append : (c : Connection) (xs ys : List ℕ)
    → outcomes c (xs ++ ys) ≡ outcomes c xs ++ outcomes (after_bytes c xs) ys
outcomes-append c [] ys = refl
outcomes-append c (x ∷ xs) ys =
    ap (λ os. option_to_list (after c x).1 ++ os) (outcomes-append (after c x).0 xs ys)
    ∙ sym (append_assoc (option_to_list (after c x).1) (outcomes (after c x).0 xs) (outcomes (after_bytes
    (after c x).0 xs) ys))

one-more : (s : Stage) (t n m k : ℕ) → one_if_taken s t ≡ suc n → (t ≡ n → m ≡ k) → one_if_taken s m ≡ suc k
one-more Taking t n m k e next = ap suc (next (omega (arith, e)))
one-more Complete t n m k e next = ap suc (next (omega (arith, e)))
one-more Whole t n m k e next = absurd (omega (arith, e))
one-more Ended t n m k e next = absurd (omega (arith, e))

pub taken-append : (c : Connection) (xs ys : List ℕ) → taken c xs ≡ length xs
    → taken c (xs ++ ys) ≡ length xs + taken (after_bytes c xs) ys
taken-append c [] ys all = omega arith
taken-append c (x ∷ xs) ys all =
    let count : suc (length xs + taken (after_bytes (after c x).0 xs) ys)
    ≡ suc (length xs) + taken (after_bytes (after c x).0 xs) ys = omega arith in
    one-more c.stage (taken (after c x).0 xs) (length xs) (taken (after c x).0 (xs
    ++ ys)) (length xs + taken (after_bytes (after c x).0 xs) ys) all
    (taken-append (after c x).0 xs ys) ∙ count

pub covers-then : (c : Connection) (xs ys : List ℕ) (v w : Value) → Covers c xs None v
    → Covers (after_bytes c xs) ys None w → Covers c (xs ++ ys) None w
covers-then c xs ys v w p q = record {
  next = subst (Holds w) (sym (after-append c xs ys)) q.next;
  told = outcomes-append c xs ys ∙ ap (λ os. os ++ outcomes (after_bytes c xs) ys) p.told ∙ q.told;
  all = taken-append c xs ys p.all ∙ ap (λ n. length xs + n) q.all ∙ sym (length-append xs ys);
}

still : (c : Connection) (s : Stage) → c.stage ≡ s → ((b : ℕ) → after_in s c b ≡ quiet c) → ((n : ℕ)
    → one_if_taken s n ≡ 0) → (bytes : List ℕ) → Stops c bytes
still c s stage same none [] = record { next = refl; told = refl; none = refl }
still c s stage same none (b ∷ bs) =
    let one : after c b ≡ quiet c = ap (λ (t : Stage). after_in t c b) stage ∙ same b in
    let rest = still c s stage same none bs in
    record {
      next = ap (λ (step : Step). after_bytes step.0 bs) one ∙ rest.next;
      told = ap (λ (step : Step). option_to_list step.1 ++ outcomes step.0 bs) one ∙ rest.told;
      none = ap (λ (t : Stage). one_if_taken t (taken (after c b).0 bs)) stage ∙ none _;
    }

pub whole-stops : (c : Connection) (bytes : List ℕ) → c.stage ≡ Whole → Stops c bytes
whole-stops c bytes stage = still c Whole stage (λ b. refl) (λ n. refl) bytes

pub ended-stops : (c : Connection) (bytes : List ℕ) → c.stage ≡ Ended → Stops c bytes
ended-stops c bytes stage = still c Ended stage (λ b. refl) (λ n. refl) bytes

pub nothing-stops : (c : Connection) (bytes : List ℕ) → length bytes ≡ 0 → Stops c bytes
nothing-stops c [] none = record { next = refl; told = refl; none = refl }
nothing-stops c (b ∷ bs) none = absurd (omega (arith, none))

-- a PDU takes nothing after its end
pub rest-stops : (c : Connection) (l : PduLayout) (xs rest : List ℕ) → c.stage ≡ Taking → IsLaid c l
    → length c.unit < l.length → length c.unit + length xs ≡ l.length
    → Stops (after_bytes c xs) rest
rest-stops c l xs rest stage is less full =
    let end : length (c.unit ++ xs) ≡ l.length = length-append c.unit xs ∙ full in
    let after : after_bytes c xs ≡ at_stage Whole c (c.unit ++ xs) =
    (rest-at-once c l xs stage is less (omega (arith, full))).next
    ∙ rw (le-ltb (length (c.unit ++ xs)) l.length (omega (arith, end))) refl in
    whole-stops (after_bytes c xs) rest (ap (λ (d : Connection). d.stage) after)

-- all that a call takes
pub record Total (c : Connection) (bytes : List ℕ) (n : ℕ) (breach : Option Fatal) (v : Value) : Type 0 where
  pub next : Holds v (after_bytes c bytes)
  pub told : outcomes c bytes ≡ breach_of (after_bytes c bytes) breach
  pub count : n ≡ taken c bytes

pub total : (c : Connection) (bytes : List ℕ) (n : ℕ) (breach : Option Fatal) (v : Value) → n ≤ length bytes
    → Covers c (take n bytes) breach v → Stops (after_bytes c (take n bytes)) (drop n bytes) → Total c bytes n breach v
total c bytes n breach v within p q =
    let parts : take n bytes ++ drop n bytes ≡ bytes = take-append-drop n bytes in
    let last : after_bytes c bytes ≡ after_bytes c (take n bytes) =
    ap (after_bytes c) (sym parts) ∙ after-append c (take n bytes) (drop n bytes) ∙ q.next in
    record {
      next = subst (Holds v) (sym last) p.next;
      told = ap (outcomes c) (sym parts) ∙ outcomes-append c (take n bytes) (drop n bytes)
          ∙ ap (λ os. outcomes c (take n bytes) ++ os) q.told ∙ append-nil _ ∙ p.told
          ∙ ap (λ d. breach_of d breach) (sym last);
      count = sym (ap (taken c) (sym parts) ∙ taken-append c (take n bytes) (drop n bytes) p.all
          ∙ ap (λ m. length (take n bytes) + m) q.none ∙ omega (arith, length-take-le n bytes within));
    }

-- all bytes are taken, or all that the PDU lacks
pub either-end : (c : Connection) (rest : List ℕ) (n m : ℕ) → n ≤ m → (n ≡ m → Stops c rest) → (n < m
    → Stops c rest) → Stops c rest
either-end c rest n m within all some = by (eq-or-lt_of_le within)
  where
    by : (n ≡ m) ⊎ (n < m) → Stops c rest
    by (inl same) = all same
    by (inr less) = some less
