-- For laws about reservations: lists of registrants stay in rising order, and each host has one place.
use Rattle.std.proofs.Common.{
  ◌≡◌,
  ℕ,
  ◌<◌,
  ◌≤◌,
  ◌==◌,
  Bool,
  true,
  false,
  cond,
  not,
  List,
  [],
  ◌∷◌,
  ◌++◌,
  length,
  filter,
  map,
  ap,
  sym,
  refl,
  arith,
  zero,
  suc,
  nat_lt,
}
use Rattle.std.proofs.lemmas.Bool.{ltb-true, lt-ltb}
use Rattle.std.proofs.lemmas.Bool.Decides.{nat_tests}
use Rattle.std.proofs.lemmas.List.Elements.{recursion_from_All}
use Rattle.std.specs.List.{AllByRecursion, slice_set, slice_index_or, insert}
use Rattle.nvme_spec.specs.declared.access.Registrant.{Registrant}
use Rattle.nvme_spec.specs.Reservation.{IsRising, with_key, is_registered, removed_hosts}

-- a property of all elements is one of those that pass a test
pub all-filter : {X : Type 0} (P : X → Type 0) (p : X → Bool) (xs : List X)
    → AllByRecursion P xs → AllByRecursion P (filter p xs)
all-filter P p [] h = h
all-filter P p (x ∷ xs) h =
    elim (p x) as (λ b. AllByRecursion P (cond b (x ∷ filter p xs) (filter p xs))) [
      | true ↦ (h.0, all-filter P p xs h.1)
      | false ↦ all-filter P p xs h.1
    ]

pub all-map : {X : Type 0} (P Q : X → Type 0) → ((x : X) → P x → Q x) → (xs : List X)
    → AllByRecursion P xs → AllByRecursion Q xs
all-map P Q f [] h = h
all-map P Q f (x ∷ xs) h = (f x h.0, all-map P Q f xs h.1)

-- two tests that agree keep the same elements
pub filter-same : {X : Type 0} (p q : X → Bool) → ((x : X) → p x ≡ q x) → (xs : List X) → filter p xs ≡ filter q xs
filter-same p q h [] = refl
filter-same p q h (x ∷ xs) = λ i. cond (h x i) (x ∷ filter-same p q h xs i) (filter-same p q h xs i)

pub filter-same_on : {X : Type 0} (p q : X → Bool) (xs : List X) → AllByRecursion (λ x. p x ≡ q x) xs
    → filter p xs ≡ filter q xs
filter-same_on p q [] h = refl
filter-same_on p q (x ∷ xs) h = λ i. cond (h.0 i) (x ∷ filter-same_on p q xs h.1 i) (filter-same_on p q xs h.1 i)

pub filter-all : {X : Type 0} (p : X → Bool) (xs : List X) → AllByRecursion (λ x. p x ≡ true) xs → filter p xs ≡ xs
filter-all p [] h = refl
filter-all p (x ∷ xs) h = λ i. cond (h.0 i) (x ∷ filter-all p xs h.1 i) (filter-all p xs h.1 i)

pub filter-none : {X : Type 0} (p : X → Bool) (xs : List X) → AllByRecursion (λ x. p x ≡ false) xs → filter p xs ≡ []
filter-none p [] h = refl
filter-none p (x ∷ xs) h = λ i. cond (h.0 i) (x ∷ filter-none p xs h.1 i) (filter-none p xs h.1 i)

pub rising-filter : (p : Registrant → Bool) (xs : List Registrant) → IsRising xs → IsRising (filter p xs)
rising-filter p [] h = h
rising-filter p (x ∷ xs) h =
    elim (p x) as (λ b. IsRising (cond b (x ∷ filter p xs) (filter p xs))) [
      | true ↦ (all-filter _ p xs h.0, rising-filter p xs h.1)
      | false ↦ rising-filter p xs h.1
    ]

pub same_test : (a : ℕ) → (a == a) ≡ true
same_test a = grind (arith, nat_tests)

pub below_test : (a b : ℕ) → a < b → (a == b) ≡ false
below_test a b h = grind (arith, nat_tests)

pub above_test : (a b : ℕ) → b < a → (a == b) ≡ false
above_test a b h = grind (arith, nat_tests)

lt_no : (a b : ℕ) → b ≤ a → nat_lt a b ≡ false
lt_no a b h = grind (arith, nat_tests)

-- a host below all of them is not registered
pub absent : (host : ℕ) (xs : List Registrant) → AllByRecursion (λ x. host < x.host) xs → is_registered xs host ≡ false
absent host [] h = refl
absent host (x ∷ xs) h = rw (above_test x.host host h.0) (absent host xs h.1)

all-both : {X : Type 0} (P Q : X → Type 0) (xs : List X) → AllByRecursion P xs → AllByRecursion Q xs
    → AllByRecursion (λ x. P x × Q x) xs
all-both P Q [] h k = h
all-both P Q (x ∷ xs) h k = ((h.0, k.0), all-both P Q xs h.1 k.1)

-- if the registrants that pass p are removed, each removed host is one of theirs
gone : (p : Registrant → Bool) (xs : List Registrant) → IsRising xs
    → AllByRecursion (λ r. not (is_registered (filter (λ x. not (p x)) xs) r.host) ≡ p r) xs
gone p [] h = h
gone p (x ∷ xs) h =
    let rest = filter (λ y. not (p y)) xs in
    let above : AllByRecursion (λ y. x.host < y.host) rest = all-filter _ _ xs h.0 in
    let both : AllByRecursion (λ r. (x.host < r.host) × (not (is_registered rest r.host) ≡ p r)) xs =
    all-both _ _ xs h.0 (gone p xs h.1) in
    let P : Bool → Type 0 = λ b. (not (is_registered (cond (not b) (x ∷ rest) rest) x.host) ≡ b)
    × AllByRecursion (λ r. not (is_registered (cond (not b) (x ∷ rest) rest) r.host) ≡ p r) xs in
    elim (p x) as P [
      | true ↦ (ap not (absent x.host rest above), gone p xs h.1)
      | false ↦ (rw (same_test x.host) refl, all-map _ _ (λ r b. rw (below_test x.host r.host b.0) b.1) xs both)
    ]

-- if the registrants that pass p are removed, the removed hosts are theirs
pub removed_hosts-filter : (p : Registrant → Bool) (xs : List Registrant) → IsRising xs
    → removed_hosts xs (filter (λ x. not (p x)) xs) ≡ map (λ r. r.host) (filter p xs)
removed_hosts-filter p xs h = ap (map (λ r. r.host)) (filter-same_on _ _ xs (gone p xs h))

pub all-append : {X : Type 0} (P : X → Type 0) (xs : List X) (v : X) (ys : List X)
    → AllByRecursion P xs → P v → AllByRecursion P ys → AllByRecursion P (xs ++ v ∷ ys)
all-append P [] v ys a b c = (b, c)
all-append P (x ∷ xs) v ys a b c = (a.0, all-append P xs v ys a.1 b c)

-- a rising list, a registrant above it, and a rising list above that
pub rising-join : (xs : List Registrant) (v : Registrant) (ys : List Registrant)
    → IsRising xs → AllByRecursion (λ x. x.host < v.host) xs
    → AllByRecursion (λ y. v.host < y.host) ys → IsRising ys → IsRising (xs ++ v ∷ ys)
rising-join [] v ys a b c d = (c, d)
rising-join (x ∷ xs) v ys a b c d =
    (all-append _ xs v ys a.0 b.0 (all-map _ _ (λ y k. omega (arith, b.0)) ys c), rising-join xs v ys a.1 b.1 c d)

passed : {X : Type 0} (P : X → Type 0) (p : X → Bool) → ((x : X) → p x ≡ true → P x) → (xs : List X)
    → AllByRecursion P (filter p xs)
passed P p f [] = tt
passed P p f (x ∷ xs) =
    elim (p x) as (λ b. p x ≡ b → AllByRecursion P (cond b (x ∷ filter p xs) (filter p xs))) [
      | true ↦ λ e. (f x e, passed P p f xs)
      | false ↦ λ e. passed P p f xs
    ] refl

pub rising-with_key : (xs : List Registrant) (host key : ℕ) → IsRising xs → IsRising (with_key xs host key)
rising-with_key xs host key h =
    rising-join _ (record { host = host; key = key }) _ (rising-filter _ xs h)
    (passed _ (λ x. nat_lt x.host host) (λ x e. ltb-true x.host host e) xs)
    (passed _ (λ x. nat_lt host x.host) (λ x e. ltb-true host x.host e) xs) (rising-filter _ xs h)

-- at index i
all-at : {X : Type 0} (P : X → Type 0) (xs : List X) (i : ℕ) (d : X) → i < length xs → AllByRecursion P xs
    → P (slice_index_or xs i d)
all-at P [] i d l h = absurd (omega arith)
all-at P (x ∷ xs) zero d l h = h.0
all-at P (x ∷ xs) (suc i) d l h = all-at P xs i d (omega arith) h.1

-- a write at the host's place
pub set-with_key : (xs : List Registrant) (i : ℕ) (host key : ℕ) (d : Registrant)
    → IsRising xs → i < length xs → (slice_index_or xs i d).host ≡ host
    → slice_set xs i (record { host = host; key = key }) ≡ with_key xs host key
set-with_key [] i host key d r l e = absurd (omega arith)
set-with_key (x ∷ xs) zero host key d r l e =
    let low : filter (λ y. nat_lt y.host host) xs ≡ [] =
    filter-none _ xs (all-map _ _ (λ y k. lt_no y.host host (omega (arith, e))) xs r.0) in
    let high : filter (λ y. nat_lt host y.host) xs ≡ xs =
    filter-all _ xs (all-map _ _ (λ y k. lt-ltb host y.host (omega (arith, e))) xs r.0) in
    rw (lt_no x.host host (omega (arith, e)), lt_no host x.host (omega (arith, e)), low, high) refl
set-with_key (x ∷ xs) (suc i) host key d r l e =
    let below : x.host < (slice_index_or xs i d).host = all-at (λ y. x.host < y.host) xs i d (omega arith) r.0 in
    rw (lt-ltb x.host host (omega (arith, e, below)), lt_no host x.host (omega (arith, e, below)))
    (ap (λ ys. x ∷ ys) (set-with_key xs i host key d r.1 (omega arith) e))

-- a new host's place
pub insert-with_key : (xs : List Registrant) (i : ℕ) (host key : ℕ) → i ≤ length xs
    → ((k : ℕ) (d : Registrant) → k < i → (slice_index_or xs k d).host < host)
    → ((k : ℕ) (d : Registrant) → i ≤ k → k < length xs → host < (slice_index_or xs k d).host)
    → insert xs i (record { host = host; key = key }) ≡ with_key xs host key
insert-with_key [] zero host key l low high = refl
insert-with_key [] (suc i) host key l low high = absurd (omega (arith, l))
insert-with_key (x ∷ xs) zero host key l low high =
    let above : AllByRecursion (λ y. host < y.host) (x ∷ xs) =
    recursion_from_All (λ y. host < y.host) (x ∷ xs) (λ k d m. high k d (omega arith) m) in
    let none : filter (λ y. nat_lt y.host host) (x ∷ xs) ≡ [] =
    filter-none _ (x ∷ xs) (all-map _ _ (λ y k. lt_no y.host host (omega (arith, k))) (x ∷ xs) above) in
    let each : filter (λ y. nat_lt host y.host) (x ∷ xs) ≡ x ∷ xs =
    filter-all _ (x ∷ xs) (all-map _ _ (λ y k. lt-ltb host y.host k) (x ∷ xs) above) in
    λ i. sym none i ++ record { host = host; key = key } ∷ sym each i
insert-with_key (x ∷ xs) (suc i) host key l low high =
    let below : x.host < host = low 0 x (omega arith) in
    rw (lt-ltb x.host host below, lt_no host x.host (omega (arith, below)))
    (ap (λ ys. x ∷ ys) (insert-with_key xs i host key (omega (arith, l)) (λ k d m. low (suc k) d (omega (arith, m)))
    (λ k d m n. high (suc k) d (omega (arith, m)) (omega (arith, n)))))
