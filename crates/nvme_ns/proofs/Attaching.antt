-- For the answers of `attach` and `detach`: tables of attachments, their length, and that they stay tables.
use Rattle.std.proofs.Common.{
  ◌≡◌,
  ℕ,
  ◌+◌,
  ◌<◌,
  ◌≤◌,
  ◌==◌,
  ◌&&◌,
  ◌||◌,
  Bool,
  true,
  false,
  cond,
  not,
  List,
  [],
  ◌∷◌,
  ◌++◌,
  length,
  map,
  filter,
  Option,
  None,
  Some,
  Ok,
  Err,
  refl,
  ap,
  ◌∙◌,
  arith,
  eqb-true,
  ⊎_elim,
  append_assoc,
  append-nil,
  length-append,
}
use Rattle.std.specs.Prelude.{find, option_map, is_some, nat_lt, if◌then◌else◌}
use Rattle.std.specs.List.{list_any, AllByRecursion, IsDistinct}
use Rattle.std.proofs.lemmas.Bool.{cases_Bool, and_parts}
use Rattle.std.proofs.lemmas.Bool.Decides.{nat_tests}
use Rattle.std.proofs.lemmas.List.{map-append, length-map}
use Rattle.std.proofs.lemmas.List.Folds.{list_any-append}
use Rattle.std.proofs.lemmas.Map.Steps.{length-le_from_distinct_below}
use Rattle.nvme_wire.specs.declared.status.Status.{Status}
use Rattle.nvme_spec.proofs.Registrants.{all-filter, all-append}
use Rattle.nvme_spec.specs.Report.{ControllerHost}
use Rattle.nvme_spec.specs.Rules.{Test, first_failure}
use Rattle.nvme_spec.specs.World.{World, Namespace, host_of, namespace_of, is_attached}
use Rattle.nvme_spec.specs.Attachments.{
  are_controllers_above,
  list_tests,
  has_controller,
  attach_tests,
  attach_each,
  detach_each,
  unless_refused,
  with_attached,
  without_attached,
  attach,
  detach,
}
use Rattle.nvme_ns.specs.Attached.{HasSmallIds, IsPair, number, IsAttachmentTable, passes_unless}

abbrev pub same : ℕ → ℕ → Bool
same m n = m == n

-- at most one for each pair

number-below : (a : ℕ × ℕ) → IsPair a → number a < 128
number-below a h = omega (arith, h.0, h.1, h.2, h.3)

some-below : (table : List (ℕ × ℕ)) → AllByRecursion IsPair table → (q : ℕ)
    → list_any (same q) (map number table) ≡ true → q < 128
some-below [] h q e = absurd (cc)
some-below (a ∷ table) h q e =
    ⊎_elim {C = q < 128}
    (λ (here : (q == number a) ≡ true). omega (arith, eqb-true _ _ here, number-below a h.0))
    (λ (other : (q == number a) ≡ false). some-below table h.1 q (rw other at e))
    (cases_Bool (q == number a))

no_more : (table : List (ℕ × ℕ)) → IsAttachmentTable table → length table ≤ 128
no_more table t =
    let few = length-le_from_distinct_below (map number table) 128 t.1 (some-below table t.0) in
    omega (arith, few, length-map table number)

-- one attachment more

distinct-append : (ms : List ℕ) (m : ℕ) → IsDistinct same ms → AllByRecursion (λ n. same n m ≡ false) ms
    → IsDistinct same (ms ++ m ∷ [])
unfolding IsDistinct
distinct-append [] m d h = (tt, tt)
distinct-append (n ∷ ns) m d h = (all-append (λ k. same n k ≡ false) ns m [] d.0 h.0 tt, distinct-append ns m d.1 h.1)

pub differ : (a b : ℕ × ℕ) → IsPair a → IsPair b → ((a.0 == b.0) && (a.1 == b.1)) ≡ false
    → same (number a) (number b) ≡ false
differ a b p q h =
    ⊎_elim {C = same (number a) (number b) ≡ false}
    (λ (yes_ : same (number a) (number b) ≡ true).
    let equal : number a ≡ number b = eqb-true _ _ yes_ in
    let second : a.1 ≡ b.1 = omega (arith, p.0, p.1, p.2, p.3, q.0, q.1, q.2, q.3, equal) in
    let first : a.0 ≡ b.0 = omega (arith, p.0, p.1, p.2, p.3, q.0, q.1, q.2, q.3, equal) in
    absurd (both a.0 b.0 a.1 b.1 first second h))
    (λ (no_ : same (number a) (number b) ≡ false). no_)
    (cases_Bool (same (number a) (number b)))
  where
    both : (m n k l : ℕ) → m ≡ n → k ≡ l → ((m == n) && (k == l)) ≡ false → ⊥
    both m n k l e f h = absurd (grind (arith, nat_tests))

apart : (table : List (ℕ × ℕ)) (cntlid nsid : ℕ) → AllByRecursion IsPair table → IsPair (cntlid, nsid)
    → list_any (λ (a : ℕ × ℕ). (a.0 == cntlid) && (a.1 == nsid)) table ≡ false
    → AllByRecursion (λ n. same n (number (cntlid, nsid)) ≡ false) (map number table)
apart [] cntlid nsid h p free = tt
apart (a ∷ table) cntlid nsid h p free =
    let parts = neither ((a.0 == cntlid) && (a.1 == nsid))
    (list_any (λ (b : ℕ × ℕ). (b.0 == cntlid) && (b.1 == nsid)) table) free in
    (differ a (cntlid, nsid) h.0 p parts.0, apart table cntlid nsid h.1 p parts.1)
  where
    neither : (b c : Bool) → (b || c) ≡ false → (b ≡ false) × (c ≡ false)
    neither true c k = absurd (cc)
    neither false c k = (refl, k)

pushed : (table : List (ℕ × ℕ)) (cntlid nsid : ℕ) → IsAttachmentTable table → IsPair (cntlid, nsid)
    → list_any (λ (a : ℕ × ℕ). (a.0 == cntlid) && (a.1 == nsid)) table ≡ false
    → IsAttachmentTable (table ++ (cntlid, nsid) ∷ [])
pushed table cntlid nsid t p free = (
  all-append IsPair table (cntlid, nsid) [] t.0 p tt,
  rw (map-append number table ((cntlid, nsid) ∷ []))
      (distinct-append (map number table) (number (cntlid, nsid)) t.1 (apart table cntlid nsid t.0 p free)),
)

-- a list of controllers in rising order

above : (w : World) (low before : ℕ) (cs : List ℕ) → are_controllers_above w before cs ≡ true → low ≤ before
    → AllByRecursion (λ c. low < c) cs
above w low before [] h le = tt
above w low before (c ∷ cs) h le =
    let parts = and_parts (is_some (host_of w c) && nat_lt before c) (are_controllers_above w c cs) h in
    let rises = and_parts (is_some (host_of w c)) (nat_lt before c) parts.0 in
    (after before c rises.1 low le, above w low c cs parts.1 (after_le before c rises.1 low le))
  where
    after : (m n : ℕ) → nat_lt m n ≡ true → (k : ℕ) → k ≤ m → k < n
    after m n h k le = grind (arith, nat_tests)

    after_le : (m n : ℕ) → nat_lt m n ≡ true → (k : ℕ) → k ≤ m → k ≤ n
    after_le m n h k le = grind (arith, nat_tests)

small-by : (ks : List ControllerHost) (c : ℕ) → HasSmallIds ks
    → is_some (option_map (λ (k : ControllerHost). k.1) (find (λ (k : ControllerHost). k.0 == c) ks)) ≡ true → c ≤ 16
small-by [] c h e = absurd (cc)
small-by (k ∷ ks) c h e =
    elim (k.0 == c) as (λ b. (k.0 == c) ≡ b → is_some (option_map (λ (j : ControllerHost). j.1)
    (cond b (Some k) (find (λ (j : ControllerHost). j.0 == c) ks))) ≡ true → c ≤ 16) [
      | true ↦ λ is f. omega (arith, eqb-true _ _ is, h.0)
      | false ↦ λ is f. small-by ks c h.1 f
    ] refl e

small : (w : World) (c : ℕ) → HasSmallIds w.controllers → is_some (host_of w c) ≡ true → c ≤ 16
unfolding host_of
small w c h e = small-by w.controllers c h e

-- the table with all controllers of a list, none of which was attached

later-free : (table : List (ℕ × ℕ)) (c nsid : ℕ) (cs : List ℕ) → AllByRecursion (λ k. c < k) cs
    → AllByRecursion (λ k. list_any (λ (a : ℕ × ℕ). (a.0 == k) && (a.1 == nsid)) table ≡ false) cs
    → AllByRecursion (λ k. list_any (λ (a : ℕ × ℕ). (a.0 == k) && (a.1 == nsid)) (table ++ (c, nsid) ∷ []) ≡ false) cs
later-free table c nsid [] h f = tt
later-free table c nsid (k ∷ cs) h f =
    let joined = list_any-append (λ (a : ℕ × ℕ). (a.0 == k) && (a.1 == nsid)) table ((c, nsid) ∷ []) in
    (joined ∙ rw (f.0) (unlike c k (nsid == nsid) h.0), later-free table c nsid cs h.1 f.1)
  where
    unlike : (m n : ℕ) (b : Bool) → m < n → (((m == n) && b) || false) ≡ false
    unlike m n b lt = let no_ : (m == n) ≡ false = grind (arith, nat_tests) in rw no_ refl

attached-all : (table : List (ℕ × ℕ)) (w : World) (nsid before : ℕ) (cs : List ℕ)
    → IsAttachmentTable table → HasSmallIds w.controllers → (1 ≤ nsid) × (nsid ≤ 8)
    → are_controllers_above w before cs ≡ true
    → AllByRecursion (λ k. list_any (λ (a : ℕ × ℕ). (a.0 == k) && (a.1 == nsid)) table ≡ false) cs
    → IsAttachmentTable (table ++ map (λ c. (c, nsid)) cs)
attached-all table w nsid before [] t s n h f = rw (append-nil table) t
attached-all table w nsid before (c ∷ cs) t s n h f =
    let first = and_parts (is_some (host_of w c) && nat_lt before c) (are_controllers_above w c cs) h in
    let second = and_parts (is_some (host_of w c)) (nat_lt before c) first.0 in
    let pair : IsPair (c, nsid) = (one before c second.1, small w c s second.0, n.0, n.1) in
    rw (← append_assoc table ((c, nsid) ∷ []) (map (λ k. (k, nsid)) cs))
    (attached-all (table ++ (c, nsid) ∷ []) w nsid c cs (pushed table c nsid t pair f.0) s n first.1
    (later-free table c nsid cs (above w c c cs first.1 (omega arith)) f.1))
  where
    one : (m k : ℕ) → nat_lt m k ≡ true → 1 ≤ k
    one m k h = grind (arith, nat_tests)

-- tests that pass

fails-not : (b : Bool) (why : Status) (rest : Option Status) → (if b then Some why else rest) ≡ None
    → (b ≡ false) × (rest ≡ None)
fails-not true why rest h = absurd (cc)
fails-not false why rest h = (refl, h)

free : (w : World) (nsid : ℕ) (has_other : Bool) (cs : List ℕ) → first_failure (attach_each w nsid has_other cs) ≡ None
    → AllByRecursion (λ k. list_any (λ (a : ℕ × ℕ). (a.0 == k) && (a.1 == nsid)) w.attachments ≡ false) cs
unfolding attach_tests is_attached
free w nsid has_other [] h = tt
free w nsid has_other (c ∷ cs) h =
    let first = fails-not _ _ _ h in
    let second = fails-not _ _ _ first.1 in
    (first.0, free w nsid true cs second.1)

first_failure-append : (xs ys : List Test) → first_failure xs ≡ None → first_failure (xs ++ ys) ≡ first_failure ys
first_failure-append [] ys h = refl
first_failure-append (x ∷ xs) ys h =
    let parts = fails-not x.fails x.status (first_failure xs) h in
    rw (parts.0) (first_failure-append xs ys parts.1)

first_failure-front : (xs ys : List Test) (why : Status)
    → first_failure xs ≡ Some why → first_failure (xs ++ ys) ≡ Some why
first_failure-front [] ys why h = absurd (cc)
first_failure-front (x ∷ xs) ys why h =
    elim x.fails as (λ b. (if b then Some x.status else first_failure xs) ≡ Some why
    → (if b then Some x.status else first_failure (xs ++ ys)) ≡ Some why) [
      | true ↦ λ e. e
      | false ↦ λ e. first_failure-front xs ys why e
    ] h

passed : (o : Option Status) → passes_unless o ≡ Ok tt → o ≡ None
passed None h = refl
passed (Some why) h = absurd (cc)

not_passed : (o : Option Status) (why : Status) → passes_unless o ≡ Err why → o ≡ Some why
not_passed None why h = absurd (cc)
not_passed (Some reason) why h = cc

-- the properties of a list that passes
rises : (w : World) (cs : List ℕ) → first_failure (list_tests w cs) ≡ None → are_controllers_above w 0 cs ≡ true
unfolding list_tests
rises w cs h =
    let first = fails-not _ _ _ h in
    let second = fails-not _ _ _ first.1 in
    was_true (are_controllers_above w 0 cs) second.0
  where
    was_true : (b : Bool) → not b ≡ false → b ≡ true
    was_true true k = refl
    was_true false k = absurd (cc)

-- a table without some of its attachments is a table

all-map : {X : Type 0} (P : ℕ → Type 0) (f : X → ℕ) (p : X → Bool) (xs : List X)
    → AllByRecursion P (map f xs) → AllByRecursion P (map f (filter p xs))
all-map P f p [] h = tt
all-map P f p (x ∷ xs) h =
    elim (p x) as (λ b. AllByRecursion P (map f (cond b (x ∷ filter p xs) (filter p xs)))) [
      | true ↦ (h.0, all-map P f p xs h.1)
      | false ↦ all-map P f p xs h.1
    ]

distinct-filter : (p : ℕ × ℕ → Bool) (table : List (ℕ × ℕ)) → IsDistinct same (map number table)
    → IsDistinct same (map number (filter p table))
unfolding IsDistinct
distinct-filter p [] d = tt
distinct-filter p (a ∷ table) d =
    elim (p a) as (λ b. IsDistinct same (map number (cond b (a ∷ filter p table) (filter p table)))) [
      | true ↦ (all-map (λ k. same (number a) k ≡ false) number p table d.0, distinct-filter p table d.1)
      | false ↦ distinct-filter p table d.1
    ]

pub filtered : (p : ℕ × ℕ → Bool) (table : List (ℕ × ℕ)) → IsAttachmentTable table → IsAttachmentTable (filter p table)
filtered p table t = (all-filter IsPair p table t.0, distinct-filter p table t.1)

-- the result of two lists of tests, one after the other

both-pass : (xs ys : List Test) (next : World) → passes_unless (first_failure xs) ≡ Ok tt
    → passes_unless (first_failure ys) ≡ Ok tt
    → unless_refused (first_failure (xs ++ ys)) next ≡ Ok next
both-pass xs ys next h k =
    ap (λ o. unless_refused o next) (first_failure-append xs ys (passed _ h) ∙ passed _ k)

front-fails : (xs ys : List Test) (next : World) (why : Status) → passes_unless (first_failure xs) ≡ Err why
    → unless_refused (first_failure (xs ++ ys)) next ≡ Err why
front-fails xs ys next why h = ap (λ o. unless_refused o next) (first_failure-front xs ys why (not_passed _ why h))

back-fails : (xs ys : List Test) (next : World) (why : Status) → passes_unless (first_failure xs) ≡ Ok tt
    → passes_unless (first_failure ys) ≡ Err why
    → unless_refused (first_failure (xs ++ ys)) next ≡ Err why
back-fails xs ys next why h k =
    ap (λ o. unless_refused o next) (first_failure-append xs ys (passed _ h) ∙ not_passed _ why k)

-- attaching: the list is refused, a controller can't be attached, or all are attached

pub list-refuses-attaching : (w : World) (nsid : ℕ) (cs : List ℕ) (why : Status)
    → passes_unless (first_failure (list_tests w cs)) ≡ Err why → attach w nsid cs ≡ Err why
unfolding attach
list-refuses-attaching w nsid cs why h = front-fails (list_tests w cs) _ _ why h

pub refuses-attaching : (w : World) (nsid : ℕ) (cs : List ℕ) (why : Status)
    → passes_unless (first_failure (list_tests w cs)) ≡ Ok tt
    → passes_unless (first_failure (attach_each w nsid (has_controller w nsid) cs)) ≡ Err why
    → attach w nsid cs ≡ Err why
unfolding attach
refuses-attaching w nsid cs why h k = back-fails (list_tests w cs) _ _ why h k

pub attaches : (w : World) (nsid : ℕ) (cs : List ℕ) → passes_unless (first_failure (list_tests w cs)) ≡ Ok tt
    → passes_unless (first_failure (attach_each w nsid (has_controller w nsid) cs)) ≡ Ok tt
    → attach w nsid cs ≡ Ok (with_attached w nsid cs)
unfolding attach
attaches w nsid cs h k = both-pass (list_tests w cs) _ (with_attached w nsid cs) h k

-- and then the table has room for all
pub attached-table : (w : World) (nsid : ℕ) (cs : List ℕ) (ks : List ControllerHost) (table : List (ℕ × ℕ))
    → ks ≡ w.controllers → table ≡ w.attachments
    → HasSmallIds ks → IsAttachmentTable table → (1 ≤ nsid) × (nsid ≤ 8)
    → passes_unless (first_failure (list_tests w cs)) ≡ Ok tt
    → passes_unless (first_failure (attach_each w nsid (has_controller w nsid) cs)) ≡ Ok tt
    → IsAttachmentTable (table ++ map (λ c. (c, nsid)) cs)
attached-table w nsid cs ks table k t s a n h p =
    rw t (attached-all w.attachments w nsid 0 cs (rw t at a) (rw k at s) n (rises w cs (passed _ h))
    (free w nsid (has_controller w nsid) cs (passed _ p)))

pub room : (table : List (ℕ × ℕ)) (cs : List ℕ) (nsid : ℕ) → IsAttachmentTable (table ++ map (λ c. (c, nsid)) cs)
    → length table + length cs ≤ 128
room table cs nsid t =
    let pair : ℕ → ℕ × ℕ = λ c. (c, nsid) in
    let pairs : List (ℕ × ℕ) = map pair cs in
    let counted : length pairs ≡ length cs = length-map cs pair in
    omega (arith, no_more (table ++ pairs) t, length-append table pairs, counted)

-- detaching

pub list-refuses-detaching : (w : World) (nsid : ℕ) (cs : List ℕ) (why : Status)
    → passes_unless (first_failure (list_tests w cs)) ≡ Err why → detach w nsid cs ≡ Err why
unfolding detach
list-refuses-detaching w nsid cs why h = front-fails (list_tests w cs) _ _ why h

pub refuses-detaching : (w : World) (nsid : ℕ) (cs : List ℕ) (why : Status)
    → passes_unless (first_failure (list_tests w cs)) ≡ Ok tt
    → passes_unless (first_failure (detach_each w nsid cs)) ≡ Err why → detach w nsid cs ≡ Err why
unfolding detach
refuses-detaching w nsid cs why h k = back-fails (list_tests w cs) _ _ why h k

pub detaches : (w : World) (nsid : ℕ) (cs : List ℕ) → passes_unless (first_failure (list_tests w cs)) ≡ Ok tt
    → passes_unless (first_failure (detach_each w nsid cs)) ≡ Ok tt → detach w nsid cs ≡ Ok (without_attached w nsid cs)
unfolding detach
detaches w nsid cs h k = both-pass (list_tests w cs) _ (without_attached w nsid cs) h k

-- the namespace found by an identifier has that identifier

found-by : (nsid : ℕ) (ns : List Namespace) (n : Namespace) → find (λ m. m.nsid == nsid) ns ≡ Some n → n.nsid ≡ nsid
found-by nsid [] n e = absurd (cc)
found-by nsid (m ∷ ns) n e =
    elim (m.nsid == nsid) as (λ b. (m.nsid == nsid) ≡ b → cond b (Some m) (find (λ k. k.nsid == nsid) ns) ≡ Some n
    → n.nsid ≡ nsid) [
      | true ↦ λ is f. let same_one : m ≡ n = cc in rw (← same_one) (eqb-true _ _ is)
      | false ↦ λ is f. found-by nsid ns n f
    ] refl e

pub has_its_nsid : (w : World) (nsid : ℕ) (n : Namespace) → namespace_of w nsid ≡ Some n → n.nsid ≡ nsid
unfolding namespace_of
has_its_nsid w nsid n e = found-by nsid w.namespaces n e
