-- Proofs of the laws of reservations.
use Rattle.std.proofs.Common.{
  ◌≡◌,
  ℕ,
  ◌<◌,
  ◌==◌,
  Bool,
  true,
  false,
  cond,
  not,
  ◌&&◌,
  ◌||◌,
  IsTrue,
  if◌then◌else◌,
  List,
  [],
  ◌∷◌,
  ◌++◌,
  length,
  filter,
  ap,
  sym,
  refl,
  ◌∙◌,
  arith,
  nat_lt,
  nat_le,
  subst,
  Err,
}
use Rattle.std.specs.List.{list_any, AllByRecursion}
use Rattle.std.proofs.lemmas.Bool.Decides.{nat_tests}
use Rattle.nvme_spec.specs.declared.access.Registrant.{Registrant}
use Rattle.nvme_spec.specs.declared.access.Hold.{Hold}
use Rattle.nvme_spec.specs.declared.access.Hold.TheVariants.{Free, One, All}
use Rattle.nvme_spec.specs.Reservation.{
  Reservation,
  ActionOutcome,
  IsRising,
  becomes,
  is_registered,
  is_registered_with,
  is_of_all,
  with_key,
  taken_by,
  remaining_hold,
  next_generation,
  register,
  unregister,
  replace,
  acquire,
  preempt,
  is_free,
  is_of_type,
  is_holder,
  is_holders_key,
  is_key_in_use,
}
use Rattle.nvme_spec.specs.Statuses as status
use Rattle.nvme_spec.specs.ReservationLaws.{Gives, Keeps, IsHoldOf, IsHeldByRegistrants}
use Rattle.nvme_spec.proofs.Registrants.{filter-all, filter-none, all-map, above_test, same_test}

-- tests of a joined list
any-append : (p : Registrant → Bool) (xs ys : List Registrant)
    → list_any p (xs ++ ys) ≡ (list_any p xs || list_any p ys)
any-append p [] ys = refl
any-append p (x ∷ xs) ys =
    elim (p x) as (λ b. (b || list_any p (xs ++ ys)) ≡ ((b || list_any p xs) || list_any p ys)) [
      | true ↦ refl
      | false ↦ any-append p xs ys
    ]

or-true : (b : Bool) → (b || true) ≡ true
or-true true = refl
or-true false = refl

-- a list has its middle element
any-joint : (p : Registrant → Bool) (xs : List Registrant) (x : Registrant) (ys : List Registrant)
    → p x ≡ true → list_any p (xs ++ x ∷ ys) ≡ true
any-joint p xs x ys h =
    any-append p xs (x ∷ ys) ∙ (ap (λ b. list_any p xs || (b || list_any p ys)) h ∙ or-true (list_any p xs))

-- no test is both true and false
abbrev IsYes : Bool → Type 0
IsYes true = Unit {0}
IsYes false = ⊥

no-both : {A : Type 0} (b : Bool) → b ≡ true → b ≡ false → A
no-both b t f = absurd (subst IsYes (sym t ∙ f) tt)

-- one test follows from another
any-implies : (p q : Registrant → Bool) (xs : List Registrant) → ((x : Registrant) → p x ≡ true → q x ≡ true)
    → list_any p xs ≡ true → list_any q xs ≡ true
any-implies p q [] f h = h
any-implies p q (x ∷ xs) f h =
    elim (p x) as (λ b. p x ≡ b → (b || list_any p xs) ≡ true → (q x || list_any q xs) ≡ true) [
      | true ↦ λ e k. ap (λ b. b || list_any q xs) (f x e)
      | false ↦ λ e k. ap (λ b. q x || b) (any-implies p q xs f k) ∙ or-true (q x)
    ] refl h

-- elements that pass p also pass q, so they stay if q is the filter
any-filter : (p q : Registrant → Bool) (xs : List Registrant) → ((x : Registrant) → p x ≡ true → q x ≡ true)
    → list_any p xs ≡ true → list_any p (filter q xs) ≡ true
any-filter p q [] f h = h
any-filter p q (x ∷ xs) f h =
    elim (q x) as (λ b. q x ≡ b → list_any p (cond b (x ∷ filter q xs) (filter q xs)) ≡ true) [
      | true ↦ λ e.
          elim (p x) as (λ b. (b || list_any p xs) ≡ true → (b || list_any p (filter q xs)) ≡ true) [
            | true ↦ λ k. refl
            | false ↦ λ k. any-filter p q xs f k
          ] h
      | false ↦ λ e. any-filter p q xs f (
          elim (p x) as (λ b. p x ≡ b → (b || list_any p xs) ≡ true → list_any p xs ≡ true) [
            | true ↦ λ t k. no-both (q x) (f x t) e
            | false ↦ λ t k. k
          ] refl h)
    ] refl

-- a host with this key is registered
registered-with : (xs : List Registrant) (host key : ℕ) → is_registered_with xs host key ≡ true
    → is_registered xs host ≡ true
registered-with xs host key h =
    any-implies (λ r. (r.host == host) && (r.key == key)) (λ r. r.host == host) xs
    (λ x. elim (x.host == host) as (λ b. (b && (x.key == key)) ≡ true → b ≡ true) [ true ↦ λ e. refl | false ↦ λ e. e ])
    h

-- giving a host a key unregisters nobody
registered-kept : (xs : List Registrant) (host key h : ℕ)
    → is_registered xs h ≡ true → is_registered (with_key xs host key) h ≡ true
registered-kept xs host key h there =
    let low : Registrant → Bool = λ r. nat_lt r.host host in
    let high : Registrant → Bool = λ r. nat_lt host r.host in
    let is_h : Registrant → Bool = λ r. r.host == h in
    let new : Registrant = record { host = host; key = key } in
    let parts : is_registered (with_key xs host key) h
    ≡ (list_any is_h (filter low xs) || (is_h new || list_any is_h (filter high xs))) =
    any-append is_h (filter low xs) _ in
    elim (nat_lt h host) as (λ b. nat_lt h host ≡ b → is_registered (with_key xs host key) h ≡ true) [
      | true ↦ λ e. parts ∙ ap (λ b. b || (is_h new || list_any is_h (filter high xs)))
          (any-filter is_h low xs (λ x k. grind (arith, nat_tests)) there)
      | false ↦ λ e.
          elim (nat_lt host h) as (λ b. nat_lt host h ≡ b → is_registered (with_key xs host key) h ≡ true) [
            | true ↦ λ f. parts ∙ (ap (λ b. list_any is_h (filter low xs) || (is_h new || b))
                (any-filter is_h high xs (λ x k. grind (arith, nat_tests)) there)
                ∙ (ap (λ b. list_any is_h (filter low xs) || b) (or-true (is_h new)) ∙ or-true _))
            | false ↦ λ f. any-joint is_h (filter low xs) new (filter high xs) (grind (arith, nat_tests))
          ] refl
    ] refl

-- a list with a registrant is not empty
filled : (xs : List Registrant) (host : ℕ) → is_registered xs host ≡ true → IsTrue (not (length xs == 0))
filled [] host h = no-both false h refl
filled (x ∷ xs) host h = grind (arith, nat_tests)

-- a reservation that a registrant acquires
taken-held : (xs : List Registrant) (host type : ℕ) → is_registered xs host ≡ true → IsHoldOf (taken_by host type) xs
taken-held xs host type h =
    elim (nat_le type 4) as (λ b. IsHoldOf (if b then One type host else All type) xs) [
      | true ↦ h
      | false ↦ filled xs host h
    ]

-- what is left of a reservation
pub remaining_hold-held : (hold : Hold) (xs : List Registrant) → IsHoldOf (remaining_hold hold xs) xs
remaining_hold-held Free xs = tt
remaining_hold-held (One type holder) xs =
    elim (is_registered xs holder) as (λ b.
    is_registered xs holder ≡ b → IsHoldOf (if b then One type holder else Free) xs) [
      | true ↦ λ e. e
      | false ↦ λ e. tt
    ] refl
remaining_hold-held (All type) xs =
    elim (length xs == 0) as (λ b. (length xs == 0) ≡ b → IsHoldOf (if b then Free else All type) xs) [
      | true ↦ λ e. tt
      | false ↦ λ e. ap not e
    ] refl

-- the same reservation after a host was given a key
kept-held : (hold : Hold) (xs : List Registrant) (host key : ℕ)
    → IsHoldOf hold xs → IsHoldOf hold (with_key xs host key)
kept-held Free xs host key h = tt
kept-held (One type holder) xs host key h = registered-kept xs host key holder h
kept-held (All type) xs host key h =
    filled (with_key xs host key) host (any-joint _ (filter (λ r. nat_lt r.host host) xs) _ _ (same_test host))

pub register-held : (r : Reservation) (host key : ℕ)
    → IsHeldByRegistrants r → Keeps (register r host key) IsHeldByRegistrants
register-held r host key h =
    elim (is_registered r.registrants host && not (is_registered_with r.registrants host key))
    as (λ b. Keeps (if b then Err status.reservation_conflict
    else becomes (next_generation r (with_key r.registrants host key) r.hold)) IsHeldByRegistrants) [
      | true ↦ tt
      | false ↦ kept-held r.hold r.registrants host key h
    ]

pub replace-held : (r : Reservation) (host : ℕ) (iekey : Bool) (crkey nrkey : ℕ)
    → IsHeldByRegistrants r → Keeps (replace r host iekey crkey nrkey) IsHeldByRegistrants
replace-held r host iekey crkey nrkey h =
    elim (iekey || is_registered_with r.registrants host crkey)
    as (λ b. Keeps (if b then becomes (next_generation r (with_key r.registrants host nrkey) r.hold)
    else Err status.reservation_conflict) IsHeldByRegistrants) [
      | true ↦ kept-held r.hold r.registrants host nrkey h
      | false ↦ tt
    ]

-- an action that is denied to a host without its key
with-its-key : (r : Reservation) (host key : ℕ) (action : ActionOutcome)
    → (is_registered r.registrants host ≡ true → Keeps action IsHeldByRegistrants)
    → Keeps (if not (is_registered_with r.registrants host key) then Err status.reservation_conflict else action)
    IsHeldByRegistrants
with-its-key r host key action f =
    elim (is_registered_with r.registrants host key)
    as (λ b. is_registered_with r.registrants host key ≡ b
    → Keeps (if not b then Err status.reservation_conflict else action) IsHeldByRegistrants) [
      | true ↦ λ e. f (registered-with r.registrants host key e)
      | false ↦ λ e. tt
    ] refl

-- one of two outcomes
either : (b : Bool) (x y : ActionOutcome) → Keeps x IsHeldByRegistrants → Keeps y IsHeldByRegistrants
    → Keeps (if b then x else y) IsHeldByRegistrants
either true x y h k = h
either false x y h k = k

pub acquire-held : (r : Reservation) (host rtype crkey : ℕ)
    → IsHeldByRegistrants r → Keeps (acquire r host rtype crkey) IsHeldByRegistrants
acquire-held r host rtype crkey h =
    with-its-key r host crkey _ (λ there.
    either (is_free r.hold) _ _ (taken-held r.registrants host rtype there)
    (either (is_of_type r.hold rtype && is_holder r host) _ _ h tt))

pub preempt-held : (r : Reservation) (host rtype crkey prkey : ℕ)
    → Keeps (preempt r host rtype crkey prkey) IsHeldByRegistrants
preempt-held r host rtype crkey prkey =
    let xs : List Registrant = r.registrants in
    with-its-key r host crkey _ (λ there.
    either (prkey == 0) _ _
    (either (is_of_all r.hold) _ _
    (taken-held (filter (λ x. x.host == host) xs) host rtype (any-filter _ _ xs (λ x e. e) there)) tt)
    (either (is_holders_key r prkey) _ _
    (taken-held (filter (λ x. (x.host == host) || not (x.key == prkey)) xs) host rtype
    (any-filter _ _ xs (λ x e. ap (λ b. b || not (x.key == prkey)) e) there))
    (either (is_key_in_use xs prkey) _ _ (remaining_hold-held r.hold (filter (λ x. not (x.key == prkey)) xs)) tt)))

or-false : (a b : Bool) → (a || b) ≡ false → (a ≡ false) × (b ≡ false)
or-false true b h = no-both true refl h
or-false false b h = (refl, h)

not-below : (host : ℕ) (y : Registrant) → host < y.host → nat_lt y.host host ≡ false
not-below host y h = grind (arith, nat_tests)

is-above : (host : ℕ) (y : Registrant) → host < y.host → nat_lt host y.host ≡ true
is-above host y h = grind (arith, nat_tests)

is-other : (host : ℕ) (y : Registrant) → host < y.host → not (y.host == host) ≡ true
is-other host y h = ap not (above_test y.host host h)

-- a new host is inserted between those below and above it; removing it restores the list
without-with_key : (xs : List Registrant) (host key : ℕ) → IsRising xs → is_registered xs host ≡ false
    → filter (λ x. not (x.host == host)) (with_key xs host key) ≡ xs
without-with_key [] host key r h = rw (same_test host) refl
without-with_key (x ∷ xs) host key r h =
    let other : (x.host == host) ≡ false = (or-false (x.host == host) (is_registered xs host) h).0 in
    let rest : is_registered xs host ≡ false = (or-false (x.host == host) (is_registered xs host) h).1 in
    elim (nat_lt x.host host) as (λ b.
    nat_lt x.host host ≡ b → filter (λ y. not (y.host == host)) (with_key (x ∷ xs) host key) ≡ x ∷ xs) [
      | true ↦ λ e.
          let above : nat_lt host x.host ≡ false = grind (arith, nat_tests) in
          rw (e, above, other) (ap (λ l. x ∷ l) (without-with_key xs host key r.1 rest))
      | false ↦ λ e.
          let lower : host < x.host = grind (arith, nat_tests) in
          let all : AllByRecursion (λ y. host < y.host) (x ∷ xs) =
          (lower, all-map _ _ (λ y k. omega (arith, lower, k)) xs r.0) in
          let low : filter (λ y. nat_lt y.host host) (x ∷ xs) ≡ [] =
          filter-none _ (x ∷ xs) (all-map _ _ (not-below host) (x ∷ xs) all) in
          let high : filter (λ y. nat_lt host y.host) (x ∷ xs) ≡ x ∷ xs =
          filter-all _ (x ∷ xs) (all-map _ _ (is-above host) (x ∷ xs) all) in
          let kept : filter (λ y. not (y.host == host)) (x ∷ xs) ≡ x ∷ xs =
          filter-all _ (x ∷ xs) (all-map _ _ (is-other host) (x ∷ xs) all) in
          rw (low, high, same_test host) kept
    ] refl

pub unregister-undoes-register : (r : Reservation) (host key : ℕ)
    → IsRising r.registrants → is_registered r.registrants host ≡ false
    → Gives (register r host key)
    (λ next. Gives (unregister next host false key) (λ last. last.registrants ≡ r.registrants))
unregister-undoes-register r host key rising absent =
    let xs : List Registrant = r.registrants in
    let there : is_registered (with_key xs host key) host ≡ true =
    any-joint _ (filter (λ x. nat_lt x.host host) xs) _ _ (same_test host) in
    let with_it : is_registered_with (with_key xs host key) host key ≡ true =
    any-joint (λ x. (x.host == host) && (x.key == key)) (filter (λ x. nat_lt x.host host) xs)
    (record { host = host; key = key }) _ (rw (same_test host) (same_test key)) in
    rw (absent, there, with_it) (without-with_key xs host key rising absent)
