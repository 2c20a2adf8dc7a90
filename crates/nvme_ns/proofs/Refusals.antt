-- For the laws and answers about refusals: the first line at fault, line by line. There is one exactly if the
-- configuration has a fault.
use Rattle.std.proofs.Common.{
  ◌≡◌,
  ◌<◌,
  ◌≤◌,
  ◌+◌,
  ℕ,
  Bool,
  true,
  false,
  List,
  [],
  ◌∷◌,
  ◌++◌,
  length,
  take,
  drop,
  get_or,
  Option,
  None,
  Some,
  refl,
  sym,
  ap,
  subst,
  ◌∙◌,
  arith,
  length-append,
}
use Rattle.std.specs.Prelude.{option_map, ◌==◌, ◌||◌, ◌&&◌, not, nat_lt, if◌then◌else◌}
use Rattle.std.specs.List.{list_any, list_all, enumerate_from}
use Rattle.std.specs.Option.{option_or}
use Rattle.std.proofs.lemmas.List.{drop_more, length-take-le, take_more}
use Rattle.std.proofs.lemmas.List.Folds.{list_any-append}
use Rattle.std.proofs.lemmas.List.Sums.{sum_by-cons, sum_by_push}
use Rattle.std.proofs.lemmas.Bool.{false≢true, ltb-true, ltb-false, eqb-true, eqb-false, ne_eqb, not-false}
use Rattle.nvme_spec.specs.Limits.{most_controllers, highest_nsid, most_attachments}
use Rattle.nvme_spec.specs.Configuration.{
  Capacity,
  Configuration,
  is_hostless,
  has_foreign_nsid,
  has_repeated_nsid,
  is_known,
  is_private,
  clash,
  are_numbered,
  has_bad_attachment,
  has_bad_id,
  has_bad_size,
  has_too_many,
  total_blocks,
  config_fault,
}
use Rattle.nvme_spec.specs.declared.config.ControllerConfig.{ControllerConfig}
use Rattle.nvme_spec.specs.declared.config.NsConfig.{NsConfig}
use Rattle.nvme_spec.specs.declared.config.ConfigFault.{ConfigFault}
use Rattle.nvme_spec.specs.declared.config.ConfigFault.TheVariants.{BadId, BadSize, TooMany, DoesNotFit}
use Rattle.nvme_ns.specs.declared.refusal.SetupLine.{SetupLine}
use Rattle.nvme_ns.specs.declared.refusal.SetupLine.TheVariants.{Controller, Namespace, Attached}
use Rattle.nvme_ns.specs.declared.refusal.BrokenRule.{BrokenRule}
use Rattle.nvme_ns.specs.declared.refusal.BrokenRule.TheVariants as broken
use Rattle.nvme_ns.specs.declared.refusal.ConfigReason.{ConfigReason}
use Rattle.nvme_ns.specs.Refusals.{
  first_broken,
  controller_breaks,
  namespace_breaks,
  attachment_breaks,
  size_breaks,
  room_breaks,
  reason_at,
  first_line,
  one_too_many,
  first_bad_id,
  refusal_of,
  fault_of,
}
use Rattle.nvme_ns.specs.RefusalLaws.{IsThere, FaultIsOfTheRule, LineIsThere}

-- One line more.
module _ {A : Type 0} (line : ℕ → SetupLine) (breaks : List A → A → Option BrokenRule) (xs : List A) (i : ℕ) (x : A)
    (below : i < length xs) (at_i : x ≡ get_or xs i x) where
  one-line : first_line line breaks (take i xs) (drop i xs) ≡ option_or (reason_at (line i) (breaks (take i xs) x))
      (first_line line breaks (take (i + 1) xs) (drop (i + 1) xs))
  one-line =
      ap (first_line line breaks (take i xs)) (drop_more xs i x below ∙ ap (λ y. y ∷ drop (i + 1) xs) (sym at_i))
      ∙ ap (λ n. option_or (reason_at (line n) (breaks (take i xs) x))
      (first_line line breaks (take i xs ++ x ∷ []) (drop (i + 1) xs))) (length-take-le i xs (omega (arith, below)))
      ∙ ap (λ ys. option_or (reason_at (line i) (breaks (take i xs) x)) (first_line line breaks ys (drop (i + 1) xs)))
      (sym (take_more xs i x below ∙ ap (λ y. take i xs ++ y ∷ []) (sym at_i)))

  pub line-fine : breaks (take i xs) x ≡ None
      → first_line line breaks (take i xs) (drop i xs) ≡ first_line line breaks (take (i + 1) xs) (drop (i + 1) xs)
  line-fine fine = one-line
      ∙ ap (λ o. option_or (reason_at (line i) o) (first_line line breaks (take (i + 1) xs) (drop (i + 1) xs))) fine

  pub line-broken : (rule : BrokenRule) → breaks (take i xs) x ≡ Some rule
      → first_line line breaks (take i xs) (drop i xs) ≡ Some (record { line = line i; rule = rule })
  line-broken rule broke = one-line
      ∙ ap (λ o. option_or (reason_at (line i) o) (first_line line breaks (take (i + 1) xs) (drop (i + 1) xs))) broke

-- Parts of an accepted configuration.
same-some : {A : Type 0} (a b : A) → Some a ≡ Some b → a ≡ b
same-some a b e = cc

or-none : {A : Type 0} (a b : Option A) → option_or a b ≡ None → (a ≡ None) × (b ≡ None)
or-none None b e = (refl, e)
or-none (Some x) b e = absurd (cc)

at-none : (line : SetupLine) (o : Option BrokenRule) → reason_at line o ≡ None → o ≡ None
at-none line None e = refl
at-none line (Some rule) e = absurd (cc)

test-none : (t : Bool) (rule : BrokenRule) (rest : List (Bool × BrokenRule)) → first_broken ((t, rule) ∷ rest) ≡ None
    → (t ≡ false) × (first_broken rest ≡ None)
test-none true rule rest e = absurd (cc)
test-none false rule rest e = (refl, e)

or-false : (a b : Bool) → (a || b) ≡ false → (a ≡ false) × (b ≡ false)
or-false true b e = absurd (false≢true (sym e))
or-false false b e = (refl, e)

and-or-false : (p a b : Bool) → (p && (a || b)) ≡ false → ((p && a) ≡ false) × ((p && b) ≡ false)
and-or-false true a b e = or-false a b e
and-or-false false a b e = (refl, refl)

-- equality of numbers is symmetric
turned : (a b : ℕ) → (a == b) ≡ (b == a)
turned a b = by (a == b) refl
  where
    by : (t : Bool) → (a == b) ≡ t → (a == b) ≡ (b == a)
    by true e = rw (eqb-true a b e) refl
    by false e = e ∙ sym (ne_eqb b a (λ same. eqb-false a b e (sym same)))

one-longer : {A : Type 0} (xs : List A) (x : A) → length (xs ++ x ∷ []) ≡ length xs + 1
one-longer xs x = length-append xs (x ∷ [])

module _ {A : Type 0} (line : ℕ → SetupLine) (breaks : List A → A → Option BrokenRule) (before : List A) (x : A)
    (rest : List A) where
  none-first : first_line line breaks before (x ∷ rest) ≡ None
      → (breaks before x ≡ None) × (first_line line breaks (before ++ x ∷ []) rest ≡ None)
  none-first e =
      let both =
      or-none (reason_at (line (length before)) (breaks before x)) (first_line line breaks (before ++ x ∷ []) rest) e in
      (at-none (line (length before)) (breaks before x) both.0, both.1)

-- If no line breaks a rule, the configuration has no such fault.
controllers-fine : (before ks : List ControllerConfig) → first_line Controller controller_breaks before ks ≡ None
    → (list_all (λ p. p.1.cntlid == p.0 + 1) (enumerate_from (length before) ks) ≡ true) × (is_hostless ks ≡ false)
controllers-fine before [] e = (refl, refl)
controllers-fine before (k ∷ ks) e =
    let (fine, more) = none-first Controller controller_breaks before k ks e in
    let (numbered, hosts) = test-none (not (k.cntlid == length before + 1))
    (broken.Misnumbered (length before + 1) k.cntlid) ((k.host == 0, broken.NoHost k.cntlid) ∷ []) fine in
    let (hosted, none) = test-none (k.host == 0) (broken.NoHost k.cntlid) [] hosts in
    let (later, others) = controllers-fine (before ++ k ∷ []) ks more in
    let is : (k.cntlid == length before + 1) ≡ true = not-false (k.cntlid == length before + 1) numbered in
    let behind =
    subst (λ n. list_all (λ p. p.1.cntlid == p.0 + 1) (enumerate_from n ks) ≡ true) (one-longer before k) later in
    (rw is behind, rw hosted others)

-- no element conflicts with a later one
abbrev Clear : {A : Type 0} → (A → A → Bool) → List A → List A → Type 0
Clear against before [] = Unit {0}
Clear against before (x ∷ rest) = (list_any (λ b. against b x) before ≡ false) × Clear against before rest

clear-split : {A : Type 0} (against : A → A → Bool) (before : List A) (n : A) (rest : List A)
    → Clear against (before ++ n ∷ []) rest → Clear against before rest × (list_any (against n) rest ≡ false)
clear-split against before n [] h = (tt, refl)
clear-split against before n (x ∷ rest) (h, more) =
    let (early, one) = or-false (list_any (λ b. against b x) before) (against n x || false)
    (sym (list_any-append (λ b. against b x) before (n ∷ [])) ∙ h) in
    let (hit, none) = or-false (against n x) false one in
    let (clear, later) = clear-split against before n rest more in
    ((early, clear), rw hit later)

abbrev same-nsid : NsConfig → NsConfig → Bool
same-nsid n m = m.nsid == n.nsid

namespaces-fine : (before ns : List NsConfig) → first_line Namespace namespace_breaks before ns ≡ None
    → (has_foreign_nsid ns ≡ false) × (has_repeated_nsid ns ≡ false) × Clear same-nsid before ns
namespaces-fine before [] e = (refl, refl, tt)
namespaces-fine before (n ∷ ns) e =
    let (fine, more) = none-first Namespace namespace_breaks before n ns e in
    let (known, twice) = test-none ((n.nsid == 0) || nat_lt highest_nsid n.nsid) (broken.ForeignNsid n.nsid)
    ((list_any (λ m. m.nsid == n.nsid) before, broken.RepeatedNsid n.nsid) ∷ []) fine in
    let (once, none) = test-none (list_any (λ m. m.nsid == n.nsid) before) (broken.RepeatedNsid n.nsid) [] twice in
    let (foreign, repeated, clear) = namespaces-fine (before ++ n ∷ []) ns more in
    let (apart, later) = clear-split same-nsid before n ns clear in
    let alike : list_any (λ m. n.nsid == m.nsid) before ≡ false =
    ap (λ t. list_any t before) (λ i m. turned n.nsid m.nsid i) ∙ once in
    (rw known foreign, rw later repeated, (alike, apart))

-- attachments
and-true : (a b : Bool) → b ≡ true → (a && b) ≡ false → a ≡ false
and-true true b h k = absurd (false≢true (sym k ∙ h))
and-true false b h k = refl

no-clash-one : (c : Configuration) (o pair : ℕ × ℕ) → ((o.0 == pair.0) && (o.1 == pair.1)) ≡ false
    → (is_private c pair.1 && (o.1 == pair.1)) ≡ false → clash c o pair ≡ false
no-clash-one c o pair e f = by (o.1 == pair.1) refl
  where
    by : (t : Bool) → (o.1 == pair.1) ≡ t → clash c o pair ≡ false
    by false g = rw (turned pair.1 o.1 ∙ g) refl
    by true g =
        let apart : (o.0 == pair.0) ≡ false = and-true (o.0 == pair.0) (o.1 == pair.1) g e in
        let shared : is_private c pair.1 ≡ false = and-true (is_private c pair.1) (o.1 == pair.1) g f in
        let also : is_private c o.1 ≡ false = ap (is_private c) (eqb-true o.1 pair.1 g) ∙ shared in
        rw (turned pair.1 o.1 ∙ g) (rw (turned pair.0 o.0 ∙ apart) also)

no-clash : (c : Configuration) (pair : ℕ × ℕ) (before : List (ℕ × ℕ))
    → list_any (λ other. (other.0 == pair.0) && (other.1 == pair.1)) before ≡ false
    → (is_private c pair.1 && list_any (λ other. other.1 == pair.1) before) ≡ false
    → list_any (λ other. clash c other pair) before ≡ false
no-clash c pair [] e f = refl
no-clash c pair (o ∷ before) e f =
    let (apart, others) = or-false ((o.0 == pair.0) && (o.1 == pair.1))
    (list_any (λ other. (other.0 == pair.0) && (other.1 == pair.1)) before) e in
    let (shared, others-shared) =
    and-or-false (is_private c pair.1) (o.1 == pair.1) (list_any (λ other. other.1 == pair.1) before) f in
    rw (no-clash-one c o pair apart shared) (no-clash c pair before others others-shared)

attachments-fine : (c : Configuration) (before pairs : List (ℕ × ℕ))
    → first_line Attached (attachment_breaks c) before pairs ≡ None
    → (has_bad_attachment c pairs ≡ false) × Clear (clash c) before pairs
attachments-fine c before [] e = (refl, tt)
attachments-fine c before (pair ∷ pairs) e =
    let (fine, more) = none-first Attached (attachment_breaks c) before pair pairs e in
    let no-controller = not (list_any (λ (k : ControllerConfig). k.cntlid == pair.0) c.controllers) in
    let no-namespace = not (list_any (λ (n : NsConfig). n.nsid == pair.1) c.namespaces) in
    let again = list_any (λ (other : ℕ × ℕ). (other.0 == pair.0) && (other.1 == pair.1)) before in
    let second = is_private c pair.1 && list_any (λ (other : ℕ × ℕ). other.1 == pair.1) before in
    let fourth : List (Bool × BrokenRule) = (second, broken.NotShared pair.0 pair.1) ∷ [] in
    let third : List (Bool × BrokenRule) = (again, broken.RepeatedAttachment pair.0 pair.1) ∷ fourth in
    let others : List (Bool × BrokenRule) = (no-namespace, broken.UnknownNamespace pair.1) ∷ third in
    let (controller, rest) = test-none no-controller (broken.UnknownController pair.0) others fine in
    let (namespace, attached) = test-none no-namespace (broken.UnknownNamespace pair.1) third rest in
    let (once, last) = test-none again (broken.RepeatedAttachment pair.0 pair.1) fourth attached in
    let (shared, none) = test-none second (broken.NotShared pair.0 pair.1) [] last in
    let (bad, clear) = attachments-fine c (before ++ pair ∷ []) pairs more in
    let (apart, later) = clear-split (clash c) before pair pairs clear in
    let known : is_known c pair ≡ true =
    rw (not-false (list_any (λ k. k.cntlid == pair.0) c.controllers) controller)
    (not-false (list_any (λ n. n.nsid == pair.1) c.namespaces) namespace) in
    (rw known (rw later bad), (no-clash c pair before once shared, apart))

sizes-fine : (size : Capacity) (before ns : List NsConfig)
    → first_line Namespace (size_breaks size.namespace) before ns ≡ None → has_bad_size size ns ≡ false
sizes-fine size before [] e = refl
sizes-fine size before (n ∷ ns) e =
    let (fine, more) = none-first Namespace (size_breaks size.namespace) before n ns e in
    let (some, few) = test-none (n.blocks == 0) (broken.NoBlocks n.nsid)
    ((nat_lt size.namespace n.blocks, broken.TooLarge n.nsid n.blocks size.namespace) ∷ []) fine in
    let (small, none) =
    test-none (nat_lt size.namespace n.blocks) (broken.TooLarge n.nsid n.blocks size.namespace) [] few in
    rw some (rw small (sizes-fine size (before ++ n ∷ []) ns more))

pub total-push : (ns : List NsConfig) (n : NsConfig) → total_blocks (ns ++ n ∷ []) ≡ total_blocks ns + n.blocks
total-push ns n = sum_by_push (λ m. m.blocks) ns n

room-fine : (medium_blocks : ℕ) (before ns : List NsConfig)
    → first_line Namespace (room_breaks medium_blocks) before ns ≡ None → total_blocks before ≤ medium_blocks
    → total_blocks before + total_blocks ns ≤ medium_blocks
room-fine medium_blocks before [] e fits = omega (arith, fits)
room-fine medium_blocks before (n ∷ ns) e fits =
    let (fine, more) = none-first Namespace (room_breaks medium_blocks) before n ns e in
    let (room, none) = test-none (nat_lt medium_blocks (total_blocks before + n.blocks))
    (broken.DoesNotFit n.nsid medium_blocks) [] fine in
    let within = ltb-false medium_blocks (total_blocks before + n.blocks) room in
    let push = total-push before n in
    let behind = room-fine medium_blocks (before ++ n ∷ []) ns more (omega (arith, within, push)) in
    omega (arith, behind, push, sum_by-cons (λ (m : NsConfig). m.blocks) n ns)

-- If the configuration has no such fault, no line breaks a rule.
and-both : (a b : Bool) → (a && b) ≡ true → (a ≡ true) × (b ≡ true)
and-both true b e = (refl, e)
and-both false b e = absurd (false≢true e)

and-false : (a : Bool) → (a && false) ≡ false
and-false true = refl
and-false false = refl

and-or : (p a b : Bool) → (p && a) ≡ false → (p && b) ≡ false → (p && (a || b)) ≡ false
and-or true a b e f = rw e f
and-or false a b e f = refl

module _ {A : Type 0} (line : ℕ → SetupLine) (breaks : List A → A → Option BrokenRule) (before : List A) (x : A)
    (rest : List A) where
  none-line : breaks before x ≡ None → first_line line breaks (before ++ x ∷ []) rest ≡ None
      → first_line line breaks before (x ∷ rest) ≡ None
  none-line e f =
      ap (λ o. option_or (reason_at (line (length before)) o) (first_line line breaks (before ++ x ∷ []) rest)) e ∙ f

none-controllers : (before ks : List ControllerConfig)
    → list_all (λ p. p.1.cntlid == p.0 + 1) (enumerate_from (length before) ks) ≡ true → is_hostless ks ≡ false
    → first_line Controller controller_breaks before ks ≡ None
none-controllers before [] numbered hosts = refl
none-controllers before (k ∷ ks) numbered hosts =
    let (is, later) = and-both (k.cntlid == length before + 1)
    (list_all (λ (p : ℕ × ControllerConfig). p.1.cntlid == p.0 + 1) (enumerate_from (length before + 1) ks)) numbered in
    let (hosted, others) = or-false (k.host == 0) (is_hostless ks) hosts in
    let behind =
    subst (λ n. list_all (λ p. p.1.cntlid == p.0 + 1) (enumerate_from n ks) ≡ true) (sym (one-longer before k)) later in
    none-line Controller controller_breaks before k ks (rw is (rw hosted refl))
    (none-controllers (before ++ k ∷ []) ks behind others)

clear-none : {A : Type 0} (against : A → A → Bool) (xs : List A) → Clear against [] xs
clear-none against [] = tt
clear-none against (x ∷ xs) = (refl, clear-none against xs)

clear-join : {A : Type 0} (against : A → A → Bool) (before : List A) (n : A) (rest : List A)
    → Clear against before rest → list_any (against n) rest ≡ false → Clear against (before ++ n ∷ []) rest
clear-join against before n [] clear h = tt
clear-join against before n (x ∷ rest) (early, clear) h =
    let (hit, later) = or-false (against n x) (list_any (against n) rest) h in (
      list_any-append (λ b. against b x) before (n ∷ []) ∙ rw early (rw hit refl),
      clear-join against before n rest clear later,
    )

none-namespaces : (before ns : List NsConfig) → has_foreign_nsid ns ≡ false → has_repeated_nsid ns ≡ false
    → Clear same-nsid before ns → first_line Namespace namespace_breaks before ns ≡ None
none-namespaces before [] foreign twice clear = refl
none-namespaces before (n ∷ ns) foreign twice (alike, apart) =
    let (known, others) = or-false ((n.nsid == 0) || nat_lt highest_nsid n.nsid) (has_foreign_nsid ns) foreign in
    let (later, repeated) = or-false (list_any (λ (m : NsConfig). m.nsid == n.nsid) ns) (has_repeated_nsid ns) twice in
    let once : list_any (λ m. m.nsid == n.nsid) before ≡ false =
    ap (λ t. list_any t before) (λ i m. turned m.nsid n.nsid i) ∙ alike in
    none-line Namespace namespace_breaks before n ns (rw known (rw once refl))
    (none-namespaces (before ++ n ∷ []) ns others repeated (clear-join same-nsid before n ns apart later))

-- no clash with an earlier one
abbrev StandsBeside : Configuration → ℕ × ℕ → ℕ × ℕ → Type 0
StandsBeside c pair o =
    (((o.0 == pair.0) && (o.1 == pair.1)) ≡ false) × ((is_private c pair.1 && (o.1 == pair.1)) ≡ false)

stands-beside : (c : Configuration) (pair o : ℕ × ℕ) → clash c o pair ≡ false → StandsBeside c pair o
stands-beside c pair o e = by (o.1 == pair.1) refl
  where
    by : (t : Bool) → (o.1 == pair.1) ≡ t → StandsBeside c pair o
    by false g = (rw g (and-false (o.0 == pair.0)), rw g (and-false (is_private c pair.1)))
    by true g =
        let met : ((pair.0 == o.0) || is_private c o.1) ≡ false =
        subst (λ t. (t && ((pair.0 == o.0) || is_private c o.1)) ≡ false) (turned pair.1 o.1 ∙ g) e in
        let (apart, shared) = or-false (pair.0 == o.0) (is_private c o.1) met in
        let other : (o.0 == pair.0) ≡ false = turned o.0 pair.0 ∙ apart in
        let also : is_private c pair.1 ≡ false = ap (is_private c) (sym (eqb-true o.1 pair.1 g)) ∙ shared in
        (rw other refl, rw also refl)

clashes-none : (c : Configuration) (pair : ℕ × ℕ) (before : List (ℕ × ℕ))
    → list_any (λ other. clash c other pair) before ≡ false
    → (list_any (λ other. (other.0 == pair.0) && (other.1 == pair.1)) before ≡ false)
    × ((is_private c pair.1 && list_any (λ other. other.1 == pair.1) before) ≡ false)
clashes-none c pair [] e = (refl, and-false (is_private c pair.1))
clashes-none c pair (o ∷ before) e =
    let (one, others) = or-false (clash c o pair) (list_any (λ (other : ℕ × ℕ). clash c other pair) before) e in
    let (apart, shared) = stands-beside c pair o one in
    let (once, alone) = clashes-none c pair before others in (
      rw apart once,
      and-or (is_private c pair.1) (o.1 == pair.1)
          (list_any (λ (other : ℕ × ℕ). other.1 == pair.1) before) shared alone,
    )

none-attachments : (c : Configuration) (before pairs : List (ℕ × ℕ)) → has_bad_attachment c pairs ≡ false
    → Clear (clash c) before pairs → first_line Attached (attachment_breaks c) before pairs ≡ None
none-attachments c before [] bad clear = refl
none-attachments c before (pair ∷ pairs) bad (apart, clear) =
    let (one, others) =
    or-false (not (is_known c pair) || list_any (clash c pair) pairs) (has_bad_attachment c pairs) bad in
    let (unknown, later) = or-false (not (is_known c pair)) (list_any (clash c pair) pairs) one in
    let (controller, namespace) = and-both (list_any (λ (k : ControllerConfig). k.cntlid == pair.0) c.controllers)
    (list_any (λ (n : NsConfig). n.nsid == pair.1) c.namespaces) (not-false (is_known c pair) unknown) in
    let (once, shared) = clashes-none c pair before apart in
    none-line Attached (attachment_breaks c) before pair pairs (rw controller (rw namespace (rw once (rw shared refl))))
    (none-attachments c (before ++ pair ∷ []) pairs others (clear-join (clash c) before pair pairs clear later))

none-sizes : (size : Capacity) (before ns : List NsConfig)
    → has_bad_size size ns ≡ false → first_line Namespace (size_breaks size.namespace) before ns ≡ None
none-sizes size before [] bad = refl
none-sizes size before (n ∷ ns) bad =
    let (one, others) = or-false ((n.blocks == 0) || nat_lt size.namespace n.blocks) (has_bad_size size ns) bad in
    let (some, small) = or-false (n.blocks == 0) (nat_lt size.namespace n.blocks) one in
    none-line Namespace (size_breaks size.namespace) before n ns (rw some (rw small refl))
    (none-sizes size (before ++ n ∷ []) ns others)

not-below : (a b : ℕ) → b ≤ a → nat_lt a b ≡ false
not-below a b h = by (nat_lt a b) refl
  where
    by : (t : Bool) → nat_lt a b ≡ t → nat_lt a b ≡ false
    by true e = absurd (omega (arith, ltb-true a b e, h))
    by false e = e

none-room : (medium_blocks : ℕ) (before ns : List NsConfig) → total_blocks before + total_blocks ns ≤ medium_blocks
    → first_line Namespace (room_breaks medium_blocks) before ns ≡ None
none-room medium_blocks before [] fits = refl
none-room medium_blocks before (n ∷ ns) fits =
    let one = sum_by-cons (λ (m : NsConfig). m.blocks) n ns in
    let push = total-push before n in
    let room = not-below medium_blocks (total_blocks before + n.blocks) (omega (arith, fits, one)) in
    none-line Namespace (room_breaks medium_blocks) before n ns (rw room refl)
    (none-room medium_blocks (before ++ n ∷ []) ns (omega (arith, fits, one, push)))

-- Each rule that a line breaks belongs to the fault of its stage.
abbrev AreOf : ConfigFault → List (Bool × BrokenRule) → Type 0
AreOf fault [] = Unit {0}
AreOf fault (test ∷ rest) = (fault_of test.1 ≡ fault) × AreOf fault rest

broken-of : (fault : ConfigFault) (tests : List (Bool × BrokenRule)) (rule : BrokenRule)
    → first_broken tests ≡ Some rule → AreOf fault tests → fault_of rule ≡ fault
broken-of fault [] rule e are = absurd (cc)
broken-of fault ((true, first) ∷ rest) rule e (is, are) = sym (ap fault_of (same-some first rule e)) ∙ is
broken-of fault ((false, first) ∷ rest) rule e (is, are) = broken-of fault rest rule e are

controller-of : (before : List ControllerConfig) (k : ControllerConfig) (rule : BrokenRule)
    → controller_breaks before k ≡ Some rule → fault_of rule ≡ BadId
controller-of before k rule e =
    broken-of BadId ((not (k.cntlid == length before + 1), broken.Misnumbered (length before + 1) k.cntlid)
    ∷ (k.host == 0, broken.NoHost k.cntlid) ∷ []) rule e (refl, (refl, tt))

namespace-of : (before : List NsConfig) (n : NsConfig) (rule : BrokenRule) → namespace_breaks before n ≡ Some rule
    → fault_of rule ≡ BadId
namespace-of before n rule e = broken-of BadId (((n.nsid == 0) || nat_lt highest_nsid n.nsid, broken.ForeignNsid n.nsid)
    ∷ (list_any (λ m. m.nsid == n.nsid) before, broken.RepeatedNsid n.nsid) ∷ []) rule e (refl, (refl, tt))

attachment-of : (c : Configuration) (before : List (ℕ × ℕ)) (pair : ℕ × ℕ) (rule : BrokenRule)
    → attachment_breaks c before pair ≡ Some rule → fault_of rule ≡ BadId
attachment-of c before pair rule e =
    broken-of BadId
    ((not (list_any (λ k. k.cntlid == pair.0) c.controllers), broken.UnknownController pair.0)
    ∷ (not (list_any (λ n. n.nsid == pair.1) c.namespaces), broken.UnknownNamespace pair.1)
    ∷ (list_any (λ other. (other.0 == pair.0) && (other.1 == pair.1)) before, broken.RepeatedAttachment pair.0 pair.1)
    ∷ (is_private c pair.1 && list_any (λ other. other.1 == pair.1) before, broken.NotShared pair.0 pair.1) ∷ [])
    rule e (refl, (refl, (refl, (refl, tt))))

size-of : (most : ℕ) (before : List NsConfig) (n : NsConfig) (rule : BrokenRule) → size_breaks most before n ≡ Some rule
    → fault_of rule ≡ BadSize
size-of most before n rule e = broken-of BadSize
    ((n.blocks == 0, broken.NoBlocks n.nsid) ∷ (nat_lt most n.blocks, broken.TooLarge n.nsid n.blocks most) ∷ []) rule e
    (refl, (refl, tt))

room-of : (medium_blocks : ℕ) (before : List NsConfig) (n : NsConfig) (rule : BrokenRule)
    → room_breaks medium_blocks before n ≡ Some rule → fault_of rule ≡ DoesNotFit
room-of medium_blocks before n rule e = broken-of DoesNotFit
    ((nat_lt medium_blocks (total_blocks before + n.blocks), broken.DoesNotFit n.nsid medium_blocks) ∷ [])
    rule e (refl, tt)

line-of : {A : Type 0} (fault : ConfigFault) (line : ℕ → SetupLine) (breaks : List A → A → Option BrokenRule)
    → ((before : List A) (x : A) (rule : BrokenRule) → breaks before x ≡ Some rule → fault_of rule ≡ fault)
    → (before xs : List A) (r : ConfigReason) → first_line line breaks before xs ≡ Some r → fault_of r.rule ≡ fault
line-of fault line breaks each before [] r e = absurd (cc)
line-of {A} fault line breaks each before (x ∷ xs) r e =
    by (breaks before x) refl e (line-of fault line breaks each (before ++ x ∷ []) xs r)
  where
    by : (o : Option BrokenRule) → breaks before x ≡ o
        → option_or (reason_at (line (length before)) o) (first_line line breaks (before ++ x ∷ []) xs) ≡ Some r
        → (first_line line breaks (before ++ x ∷ []) xs ≡ Some r → fault_of r.rule ≡ fault) → fault_of r.rule ≡ fault
    by (Some rule) broke h later =
        ap (λ (q : ConfigReason). fault_of q.rule) (sym (same-some _ r h)) ∙ each before x rule broke
    by None broke h later = later h

-- The stages of the judgement.
module _ (c : Configuration) where
  abbrev bad-controllers : Option ConfigReason
  bad-controllers = first_line Controller controller_breaks [] c.controllers

  abbrev bad-namespaces : Option ConfigReason
  bad-namespaces = first_line Namespace namespace_breaks [] c.namespaces

  abbrev bad-attachments : Option ConfigReason
  bad-attachments = first_line Attached (attachment_breaks c) [] c.attached

  abbrev bad-sizes : ℕ → Option ConfigReason
  bad-sizes most = first_line Namespace (size_breaks most) [] c.namespaces

  abbrev bad-rooms : ℕ → Option ConfigReason
  bad-rooms medium_blocks = first_line Namespace (room_breaks medium_blocks) [] c.namespaces

-- A stage agrees with its test.
abbrev fault_in : Option ConfigReason → Option ConfigFault
fault_in o = option_map (λ (r : ConfigReason). fault_of r.rule) o

abbrev Agrees : ConfigFault → Option ConfigReason → Bool → Type 0
Agrees fault o test = fault_in o ≡ (if test then Some fault else None)

agrees : (fault : ConfigFault) (o : Option ConfigReason) (test : Bool) → (o ≡ None → test ≡ false)
    → (test ≡ false → o ≡ None) → ((r : ConfigReason) → o ≡ Some r → fault_of r.rule ≡ fault) → Agrees fault o test
agrees fault None test there nowhere is = rw (there refl) refl
agrees fault (Some r) true there nowhere is = ap Some (is r refl)
agrees fault (Some r) false there nowhere is = absurd (none-some (nowhere refl))
  where
    none-some : Some r ≡ None → ⊥
    none-some e = cc

or-agrees : (fault : ConfigFault) (o p : Option ConfigReason) (test : Bool) (next : Option ConfigFault)
    → Agrees fault o test → fault_in p ≡ next → fault_in (option_or o p) ≡ (if test then Some fault else next)
or-agrees fault None p true next h k = absurd (cc)
or-agrees fault None p false next h k = k
or-agrees fault (Some r) p true next h k = h
or-agrees fault (Some r) p false next h k = absurd (cc)

some-of : (P : ConfigReason → Type 0) (o p : Option ConfigReason) → ((r : ConfigReason) → o ≡ Some r → P r)
    → ((r : ConfigReason) → p ≡ Some r → P r) → (r : ConfigReason) → option_or o p ≡ Some r → P r
some-of P (Some x) p f g r e = f r e
some-of P None p f g r e = g r e

module _ (c : Configuration) where
  many-agrees : Agrees TooMany (one_too_many c) (has_too_many c)
  many-agrees = by (nat_lt most_controllers (length c.controllers)) (nat_lt highest_nsid (length c.namespaces))
      (nat_lt most_attachments (length c.attached))
    where
      by : (k n a : Bool)
          → Agrees TooMany (if k then reason_at (Controller most_controllers) (Some broken.TooManyControllers)
          else (if n then reason_at (Namespace highest_nsid) (Some broken.TooManyNamespaces)
          else (if a then reason_at (Attached most_attachments) (Some broken.TooManyAttachments) else None)))
          (k || n || a)
      by true n a = refl
      by false true a = refl
      by false false true = refl
      by false false false = refl

  ids-fine : first_bad_id c ≡ None → has_bad_id c ≡ false
  ids-fine e =
      let (k, others) = or-none (bad-controllers c) (option_or (bad-namespaces c) (bad-attachments c)) e in
      let (n, a) = or-none (bad-namespaces c) (bad-attachments c) others in
      let ks = controllers-fine [] c.controllers k in
      let ns = namespaces-fine [] c.namespaces n in
      let ps = attachments-fine c [] c.attached a in
      rw (ks.0, ks.1, ns.0, ns.1, ps.0) refl

  id-parts : has_bad_id c ≡ false
      → (are_numbered c.controllers ≡ true) × (is_hostless c.controllers ≡ false)
      × (has_foreign_nsid c.namespaces ≡ false) × (has_repeated_nsid c.namespaces ≡ false)
      × (has_bad_attachment c c.attached ≡ false)
  id-parts bad =
      let (front, attached) = or-false (not (are_numbered c.controllers) || is_hostless c.controllers
      || has_foreign_nsid c.namespaces || has_repeated_nsid c.namespaces) (has_bad_attachment c c.attached) bad in
      let (of_controllers, repeated) =
      or-false (not (are_numbered c.controllers) || is_hostless c.controllers || has_foreign_nsid c.namespaces)
      (has_repeated_nsid c.namespaces) front in
      let (each, foreign) = or-false (not (are_numbered c.controllers) || is_hostless c.controllers)
      (has_foreign_nsid c.namespaces) of_controllers in
      let (unnumbered, hostless) = or-false (not (are_numbered c.controllers)) (is_hostless c.controllers) each in
      (not-false (are_numbered c.controllers) unnumbered, hostless, foreign, repeated, attached)

  none-id : has_bad_id c ≡ false → first_bad_id c ≡ None
  none-id bad =
      let (numbered, hostless, foreign, repeated, attached) = id-parts bad in
      rw (none-controllers [] c.controllers numbered hostless)
      (rw (none-namespaces [] c.namespaces foreign repeated (clear-none same-nsid c.namespaces))
      (none-attachments c [] c.attached attached (clear-none (clash c) c.attached)))

  id-of : (r : ConfigReason) → first_bad_id c ≡ Some r → fault_of r.rule ≡ BadId
  id-of = some-of Of (bad-controllers c) (option_or (bad-namespaces c) (bad-attachments c))
      (line-of BadId Controller controller_breaks controller-of [] c.controllers)
      (some-of Of (bad-namespaces c) (bad-attachments c)
      (line-of BadId Namespace namespace_breaks namespace-of [] c.namespaces)
      (line-of BadId Attached (attachment_breaks c) (attachment-of c) [] c.attached))
    where
      Of : ConfigReason → Type 0
      Of r = fault_of r.rule ≡ BadId

  id-agrees : Agrees BadId (first_bad_id c) (has_bad_id c)
  id-agrees = agrees BadId (first_bad_id c) (has_bad_id c) ids-fine none-id id-of

  size-agrees : (size : Capacity) → Agrees BadSize (bad-sizes c size.namespace) (has_bad_size size c.namespaces)
  size-agrees size = agrees BadSize (bad-sizes c size.namespace) (has_bad_size size c.namespaces)
      (sizes-fine size [] c.namespaces) (none-sizes size [] c.namespaces)
      (line-of BadSize Namespace (size_breaks size.namespace) (size-of size.namespace) [] c.namespaces)

  room-agrees : (medium_blocks : ℕ)
      → Agrees DoesNotFit (bad-rooms c medium_blocks) (nat_lt medium_blocks (total_blocks c.namespaces))
  room-agrees medium_blocks =
      agrees DoesNotFit (bad-rooms c medium_blocks) (nat_lt medium_blocks (total_blocks c.namespaces))
      (λ none. not-below medium_blocks (total_blocks c.namespaces)
      (omega (arith, room-fine medium_blocks [] c.namespaces none (omega arith))))
      (λ within. none-room medium_blocks [] c.namespaces
      (omega (arith, ltb-false medium_blocks (total_blocks c.namespaces) within)))
      (line-of DoesNotFit Namespace (room_breaks medium_blocks) (room-of medium_blocks) [] c.namespaces)

pub fault_is_of_the_rule : FaultIsOfTheRule
unfolding config_fault refusal_of
fault_is_of_the_rule c size =
    sym (or-agrees TooMany (one_too_many c) _ (has_too_many c) _ (many-agrees c)
    (or-agrees BadId (first_bad_id c) _ (has_bad_id c) _ (id-agrees c)
    (or-agrees BadSize (bad-sizes c size.namespace) _ (has_bad_size size c.namespaces) _ (size-agrees c size)
    (room-agrees c size.medium))))

-- the line of a reason exists
line-there : {A : Type 0} (line : ℕ → SetupLine) (breaks : List A → A → Option BrokenRule) (before xs : List A)
    (r : ConfigReason) → first_line line breaks before xs ≡ Some r
    → (i : ℕ) × (r.line ≡ line i) × (i < length before + length xs)
line-there line breaks before [] r e = absurd (cc)
line-there {A} line breaks before (x ∷ xs) r e = by (breaks before x) e (line-there line breaks (before ++ x ∷ []) xs r)
  where
    by : (o : Option BrokenRule)
        → option_or (reason_at (line (length before)) o) (first_line line breaks (before ++ x ∷ []) xs) ≡ Some r
        → (first_line line breaks (before ++ x ∷ []) xs ≡ Some r
        → (i : ℕ) × (r.line ≡ line i) × (i < length (before ++ x ∷ []) + length xs))
        → (i : ℕ) × (r.line ≡ line i) × (i < length before + length (x ∷ xs))
    by (Some rule) h more = (length before, sym (ap (λ (q : ConfigReason). q.line) (same-some _ r h)), omega arith)
    by None h more =
        let (i, is, below) = more h in
        (i, is, omega (arith, below, one-longer before x))

pub fault-of-reason : (c : Configuration) (size : Capacity) (reason : ConfigReason) → refusal_of c size ≡ Some reason
    → config_fault c size ≡ Some (fault_of reason.rule)
fault-of-reason c size reason e = fault_is_of_the_rule c size ∙ ap fault_in e

pub no-fault : (c : Configuration) (size : Capacity) → refusal_of c size ≡ None → config_fault c size ≡ None
no-fault c size e = fault_is_of_the_rule c size ∙ ap fault_in e

-- The properties of a configuration that is not refused.
pub record IsAccepted (c : Configuration) (size : Capacity) : Type 0 where
  pub counts : has_too_many c ≡ false
  pub numbered : are_numbered c.controllers ≡ true
  pub known : has_foreign_nsid c.namespaces ≡ false
  pub attached : has_bad_attachment c c.attached ≡ false
  pub sizes : has_bad_size size c.namespaces ≡ false
  pub fits : total_blocks c.namespaces ≤ size.medium

stage-passed : (test : Bool) (fault : ConfigFault) (next : Option ConfigFault)
    → (if test then Some fault else next) ≡ None → (test ≡ false) × (next ≡ None)
stage-passed true fault next e = absurd (cc)
stage-passed false fault next e = (refl, e)

all-passed : (c : Configuration) (size : Capacity) → config_fault c size ≡ None → IsAccepted c size
unfolding config_fault
all-passed c size e =
    let (counts, behind_counts) = stage-passed (has_too_many c) TooMany _ e in
    let (ids, behind_ids) = stage-passed (has_bad_id c) BadId _ behind_counts in
    let (sizes, behind_sizes) = stage-passed (has_bad_size size c.namespaces) BadSize _ behind_ids in
    let (fits, none) = stage-passed (nat_lt size.medium (total_blocks c.namespaces)) DoesNotFit _ behind_sizes in
    let (numbered, hostless, known, repeated, attached) = id-parts c ids in
    record {
      counts = counts;
      numbered = numbered;
      known = known;
      attached = attached;
      sizes = sizes;
      fits = ltb-false size.medium (total_blocks c.namespaces) fits;
    }

pub accepted : (c : Configuration) (size : Capacity) → refusal_of c size ≡ None → IsAccepted c size
accepted c size e = all-passed c size (no-fault c size e)

module _ (c : Configuration) where
  by-namespace : (breaks : List NsConfig → NsConfig → Option BrokenRule) (r : ConfigReason)
      → first_line Namespace breaks [] c.namespaces ≡ Some r → IsThere c r.line
  by-namespace breaks r e = let (i, is, below) = line-there Namespace breaks [] c.namespaces r e in
      let there : i < length c.namespaces = omega (arith, below) in subst (IsThere c) (sym is) there

  by-controller : (r : ConfigReason) → first_line Controller controller_breaks [] c.controllers ≡ Some r
      → IsThere c r.line
  by-controller r e = let (i, is, below) = line-there Controller controller_breaks [] c.controllers r e in
      let there : i < length c.controllers = omega (arith, below) in subst (IsThere c) (sym is) there

  by-attachment : (r : ConfigReason) → first_line Attached (attachment_breaks c) [] c.attached ≡ Some r
      → IsThere c r.line
  by-attachment r e = let (i, is, below) = line-there Attached (attachment_breaks c) [] c.attached r e in
      let there : i < length c.attached = omega (arith, below) in subst (IsThere c) (sym is) there

  by-count : (r : ConfigReason) → one_too_many c ≡ Some r → IsThere c r.line
  by-count r e = by (nat_lt most_controllers (length c.controllers)) (nat_lt highest_nsid (length c.namespaces))
      (nat_lt most_attachments (length c.attached)) refl refl refl e
    where
      at : (q : ConfigReason) → Some q ≡ Some r → IsThere c q.line → IsThere c r.line
      at q e there = subst (λ (p : ConfigReason). IsThere c p.line) (same-some q r e) there

      by : (k n a : Bool) → nat_lt most_controllers (length c.controllers) ≡ k
          → nat_lt highest_nsid (length c.namespaces) ≡ n → nat_lt most_attachments (length c.attached) ≡ a
          → (if k then reason_at (Controller most_controllers) (Some broken.TooManyControllers)
          else (if n then reason_at (Namespace highest_nsid) (Some broken.TooManyNamespaces)
          else (if a then reason_at (Attached most_attachments) (Some broken.TooManyAttachments) else None))) ≡ Some r
          → IsThere c r.line
      by true n a f g h e = at (record { line = Controller most_controllers; rule = broken.TooManyControllers }) e
          (ltb-true most_controllers (length c.controllers) f)
      by false true a f g h e = at (record { line = Namespace highest_nsid; rule = broken.TooManyNamespaces }) e
          (ltb-true highest_nsid (length c.namespaces) g)
      by false false true f g h e = at (record { line = Attached most_attachments; rule = broken.TooManyAttachments }) e
          (ltb-true most_attachments (length c.attached) h)
      by false false false f g h e = absurd (cc)

pub line_is_there : LineIsThere
unfolding refusal_of
line_is_there c size =
    some-of There (one_too_many c)
    (option_or (first_bad_id c) (option_or (bad-sizes c size.namespace) (bad-rooms c size.medium))) (by-count c)
    (some-of There (first_bad_id c) (option_or (bad-sizes c size.namespace) (bad-rooms c size.medium))
    (some-of There (bad-controllers c) (option_or (bad-namespaces c) (bad-attachments c)) (by-controller c)
    (some-of There (bad-namespaces c) (bad-attachments c) (by-namespace c namespace_breaks) (by-attachment c)))
    (some-of There (bad-sizes c size.namespace) (bad-rooms c size.medium) (by-namespace c (size_breaks size.namespace))
    (by-namespace c (room_breaks size.medium))))
  where
    There : ConfigReason → Type 0
    There r = IsThere c r.line

-- a refused configuration has a reason, which names an existing line
pub refusal_has_a_reason : (c : Configuration) (size : Capacity) (fault : ConfigFault)
    → config_fault c size ≡ Some fault
    → (reason : ConfigReason) × (refusal_of c size ≡ Some reason) × IsThere c reason.line
refusal_has_a_reason c size fault e = by (refusal_of c size) refl (sym (fault_is_of_the_rule c size) ∙ e)
  where
    by : (o : Option ConfigReason) → refusal_of c size ≡ o → fault_in o ≡ Some fault
        → (reason : ConfigReason) × (refusal_of c size ≡ Some reason) × IsThere c reason.line
    by None is e = absurd (cc)
    by (Some reason) is e = (reason, is, line_is_there c size reason is)
