-- For laws about sound worlds: registrants are hosts of controllers, at most one for each, and actions keep this.
use Rattle.std.proofs.Common.{
  ◌≡◌,
  ℕ,
  ◌+◌,
  ◌<◌,
  ◌≤◌,
  ◌==◌,
  ◌||◌,
  ◌&&◌,
  Bool,
  true,
  false,
  cond,
  not,
  IsTrue,
  List,
  [],
  ◌∷◌,
  Option,
  None,
  Some,
  length,
  filter,
  nat_lt,
  refl,
  ap,
  arith,
  suc,
  length-append,
  ⊎_elim,
  inl,
  inr,
  ◌⊎◌,
  Ok,
  Err,
}
use Rattle.std.specs.Prelude.{if◌then◌else◌}
use Rattle.std.specs.List.{list_any, AllByRecursion}
use Rattle.std.proofs.lemmas.Bool.{cases_lt, cases_Bool, lt-ltb, le-ltb, eqb-true}
use Rattle.std.proofs.lemmas.Bool.Decides.{nat_tests}
use Rattle.nvme_spec.specs.declared.access.Registrant.{Registrant}
use Rattle.nvme_spec.specs.declared.command.Command.{Command}
use Rattle.nvme_spec.specs.declared.command.Command.TheVariants.{
  ReservationRegister,
  ReservationAcquire,
  ReservationRelease,
}
use Rattle.nvme_spec.specs.Report.{ControllerHost}
use Rattle.nvme_spec.specs.Commands.{action, iekey, rtype, cptpl}
use Rattle.nvme_spec.specs.Reservation.{
  Reservation,
  ActionOutcome,
  IsRising,
  with_key,
  is_registered,
  is_registered_with,
  is_free,
  is_of_type,
  is_of_all,
  is_holder,
  is_holders_key,
  is_key_in_use,
  register,
  unregister,
  replace,
  acquire,
  preempt,
  release,
  clear,
  persisting,
  ptpl_after,
}
use Rattle.nvme_spec.specs.ReservationLaws.{Keeps}
use Rattle.nvme_spec.specs.IoData.{action_outcome, current_key, other_key}
use Rattle.nvme_spec.proofs.Registrants.{
  all-filter,
  filter-all,
  all-map,
  above_test,
  rising-filter,
  rising-with_key,
  all-append,
}

-- a host of one of these controllers
abbrev pub IsKnown : List ControllerHost → ℕ → Type 0
IsKnown ks host = IsTrue (list_any (λ (k : ControllerHost). host == k.1) ks)

abbrev pub AreKnown : List ControllerHost → List Registrant → Type 0
AreKnown ks xs = AllByRecursion (λ r. IsTrue (list_any (λ (k : ControllerHost). r.host == k.1) ks)) xs

-- of registrants in rising order, at most one is this host
one-at_most : (host : ℕ) (xs : List Registrant)
    → IsRising xs → length xs ≤ suc (length (filter (λ x. not (x.host == host)) xs))
one-at_most host [] r = omega arith
one-at_most host (x ∷ xs) r =
    elim (x.host == host) as (λ b. (x.host == host) ≡ b → suc (length xs)
    ≤ suc (length (cond (not b) (x ∷ filter (λ y. not (y.host == host)) xs) (filter (λ y. not (y.host == host)) xs)))) [
      | true ↦ λ e.
          let same : x.host ≡ host = eqb-true _ _ e in
          let rest : filter (λ y. not (y.host == host)) xs ≡ xs =
          filter-all _ xs (all-map _ _ (λ y lt. ap not (above_test y.host host (omega (arith, lt, same)))) xs r.0) in
          omega (arith, ap length rest)
      | false ↦ λ e. omega (arith, one-at_most host xs r.1)
    ] refl

others-known : (k : ControllerHost) (ks : List ControllerHost) (xs : List Registrant)
    → AreKnown (k ∷ ks) xs → AreKnown ks (filter (λ x. not (x.host == k.1)) xs)
others-known k ks [] a = tt
others-known k ks (x ∷ xs) a =
    elim (x.host == k.1) as (λ b. IsTrue (b || list_any (λ (j : ControllerHost). x.host == j.1) ks)
    → AreKnown ks (cond (not b) (x ∷ filter (λ y. not (y.host == k.1)) xs) (filter (λ y. not (y.host == k.1)) xs))) [
      | true ↦ λ h. others-known k ks xs a.1
      | false ↦ λ h. (h, others-known k ks xs a.1)
    ] a.0

-- no more registrants than controllers
pub no_more : (ks : List ControllerHost) (xs : List Registrant) → IsRising xs → AreKnown ks xs → length xs ≤ length ks
no_more [] [] r a = omega arith
no_more [] (x ∷ xs) r a = absurd (cc (a.0))
no_more (k ∷ ks) xs r a =
    let rest = no_more ks (filter (λ x. not (x.host == k.1)) xs) (rising-filter _ xs r) (others-known k ks xs a) in
    omega (arith, rest, one-at_most k.1 xs r)

-- the lists before and after the place of a host that is not registered
both-sides : (host : ℕ) (xs : List Registrant) → is_registered xs host ≡ false
    → length (filter (λ x. nat_lt x.host host) xs) + length (filter (λ x. nat_lt host x.host) xs) ≡ length xs
both-sides host [] h = refl
both-sides host (x ∷ xs) h =
    let parts = neither (x.host == host) (is_registered xs host) h in
    let rest = both-sides host xs parts.1 in
    ⊎_elim {C = length (filter (λ y. nat_lt y.host host) (x ∷ xs)) + length (filter (λ y. nat_lt host y.host) (x ∷ xs))
    ≡ suc (length xs)}
    (λ (lt : x.host < host). let gt : nat_lt host x.host ≡ false = le-ltb _ _ (omega arith) in
    rw (lt-ltb _ _ lt, gt) (omega (arith, rest)))
    (λ (ge : host ≤ x.host).
    let low : nat_lt x.host host ≡ false = le-ltb _ _ ge in
    let high : nat_lt host x.host ≡ true = lt-ltb _ _ (above x.host host ge parts.0) in
    rw (low, high) (omega (arith, rest)))
    (cases_lt x.host host)
  where
    neither : (a b : Bool) → (a || b) ≡ false → (a ≡ false) × (b ≡ false)
    neither true b k = absurd (cc)
    neither false b k = (refl, k)

    above : (a b : ℕ) → b ≤ a → (a == b) ≡ false → b < a
    above a b le ne = grind (arith, nat_tests)

known-with_key : (ks : List ControllerHost) (xs : List Registrant) (host key : ℕ) → AreKnown ks xs → IsKnown ks host
    → AreKnown ks (with_key xs host key)
known-with_key ks xs host key a h =
    all-append _ (filter (λ x. nat_lt x.host host) xs) (record { host = host; key = key })
    (filter (λ x. nat_lt host x.host) xs) (all-filter _ _ xs a) h (all-filter _ _ xs a)

-- a known host that is not registered has room in the list
pub room : (ks : List ControllerHost) (xs : List Registrant) (host : ℕ) → IsRising xs → AreKnown ks xs → IsKnown ks host
    → length ks ≤ 16
    → IsTrue (is_registered xs host) ⊎ (length xs < 16)
room ks xs host r a h few =
    ⊎_elim {C = IsTrue (is_registered xs host) ⊎ (length xs < 16)}
    (λ (there : is_registered xs host ≡ true). inl there)
    (λ (absent : is_registered xs host ≡ false).
    let more = no_more ks (with_key xs host 0) (rising-with_key xs host 0 r) (known-with_key ks xs host 0 a h) in
    inr (omega (
      arith,
      few,
      more,
      both-sides host xs absent,
      length-append (filter (λ x. nat_lt x.host host) xs)
          (record { host = host; key = 0 } ∷ filter (λ x. nat_lt host x.host) xs),
    )))
    (cases_Bool (is_registered xs host))

-- Actions add no other host.

pub keeps-if : (P : Reservation → Type 0) (b : Bool) (x y : ActionOutcome)
    → Keeps x P → Keeps y P → Keeps (if b then x else y) P
keeps-if P true x y h k = h
keeps-if P false x y h k = k

-- what an action keeps, by its tests
abbrev KeepsKnown : List ControllerHost → ActionOutcome → Type 0
KeepsKnown ks o = Keeps o (λ next. AreKnown ks next.registrants)

abbrev keeps-by : (ks : List ControllerHost) (b : Bool) (x y : ActionOutcome) → KeepsKnown ks x → KeepsKnown ks y
    → KeepsKnown ks (if b then x else y)
keeps-by ks b x y h k = keeps-if (λ next. AreKnown ks next.registrants) b x y h k

keeps-register : (ks : List ControllerHost) (r : Reservation) (host nrkey : ℕ)
    → AreKnown ks r.registrants → IsKnown ks host → KeepsKnown ks (register r host nrkey)
keeps-register ks r host nrkey a h =
    keeps-by ks (is_registered r.registrants host && not (is_registered_with r.registrants host nrkey)) _ _ tt
    (known-with_key ks r.registrants host nrkey a h)

keeps-unregister : (ks : List ControllerHost) (r : Reservation) (host : ℕ) (iekey : Bool) (crkey : ℕ)
    → AreKnown ks r.registrants → KeepsKnown ks (unregister r host iekey crkey)
keeps-unregister ks r host iekey crkey a =
    keeps-by ks (is_registered r.registrants host && (iekey || is_registered_with r.registrants host crkey)) _ _
    (all-filter _ _ r.registrants a) tt

keeps-replace : (ks : List ControllerHost) (r : Reservation) (host : ℕ) (iekey : Bool) (crkey nrkey : ℕ)
    → AreKnown ks r.registrants → IsKnown ks host → KeepsKnown ks (replace r host iekey crkey nrkey)
keeps-replace ks r host iekey crkey nrkey a h = keeps-by ks (iekey || is_registered_with r.registrants host crkey) _ _
    (known-with_key ks r.registrants host nrkey a h) tt

keeps-acquire : (ks : List ControllerHost) (r : Reservation) (host rtype crkey : ℕ)
    → AreKnown ks r.registrants → KeepsKnown ks (acquire r host rtype crkey)
keeps-acquire ks r host rtype crkey a =
    keeps-by ks (not (is_registered_with r.registrants host crkey)) _ _ tt
    (keeps-by ks (is_free r.hold) _ _ a (keeps-by ks (is_of_type r.hold rtype && is_holder r host) _ _ a tt))

keeps-preempt : (ks : List ControllerHost) (r : Reservation) (host rtype crkey prkey : ℕ)
    → AreKnown ks r.registrants → KeepsKnown ks (preempt r host rtype crkey prkey)
keeps-preempt ks r host rtype crkey prkey a =
    keeps-by ks (not (is_registered_with r.registrants host crkey)) _ _ tt
    (keeps-by ks (prkey == 0) _ _
    (keeps-by ks (is_of_all r.hold) _ _ (all-filter _ _ r.registrants a) tt)
    (keeps-by ks (is_holders_key r prkey) _ _ (all-filter _ _ r.registrants a)
    (keeps-by ks (is_key_in_use r.registrants prkey) _ _ (all-filter _ _ r.registrants a) tt)))

keeps-release : (ks : List ControllerHost) (r : Reservation) (host rtype crkey : ℕ)
    → AreKnown ks r.registrants → KeepsKnown ks (release r host rtype crkey)
keeps-release ks r host rtype crkey a =
    keeps-by ks (not (is_registered_with r.registrants host crkey)) _ _ tt
    (keeps-by ks (not (is_holder r host)) _ _ a (keeps-by ks (is_of_type r.hold rtype) _ _ a tt))

keeps-clear : (ks : List ControllerHost) (r : Reservation) (host crkey : ℕ) → KeepsKnown ks (clear r host crkey)
keeps-clear ks r host crkey = keeps-by ks (is_registered_with r.registrants host crkey) _ _ tt tt

-- a property of an outcome, if there is one
abbrev pub KeepsIfSome : Option ActionOutcome → (Reservation → Type 0) → Type 0
KeepsIfSome None P = Unit {0}
KeepsIfSome (Some o) P = Keeps o P

-- a change of PTPL keeps it
pub persisting-keeps : (P : Reservation → Type 0)
    → ((r : Reservation) (persists : Bool) → P r → P (record r { ptpl = persists }))
    → (change : ℕ) (o : ActionOutcome) → Keeps o P → Keeps (persisting change o) P
persisting-keeps P f change (Ok t) h = f t.next (ptpl_after change t.next.ptpl) h
persisting-keeps P f change (Err s) h = tt

pub keeps-known : (ks : List ControllerHost) (command : Command) (r : Reservation) (host : ℕ) (e keys : List ℕ)
    → AreKnown ks r.registrants → IsKnown ks host
    → KeepsIfSome (action_outcome command r host e keys) (λ next. AreKnown ks next.registrants)
unfolding action_outcome
keeps-known ks ReservationRegister r host e keys a h =
    persisting-keeps (λ next. AreKnown ks next.registrants) (λ r persists known. known) (cptpl e) _
    (keeps-by ks (action e == 0) _ _ (keeps-register ks r host (other_key keys) a h)
    (keeps-by ks (action e == 1) _ _ (keeps-unregister ks r host (iekey e) (current_key keys) a)
    (keeps-replace ks r host (iekey e) (current_key keys) (other_key keys) a h)))
keeps-known ks ReservationAcquire r host e keys a h =
    keeps-by ks (action e == 0) _ _ (keeps-acquire ks r host (rtype e) (current_key keys) a)
    (keeps-preempt ks r host (rtype e) (current_key keys) (other_key keys) a)
keeps-known ks ReservationRelease r host e keys a h =
    keeps-by ks (action e == 0) _ _ (keeps-release ks r host (rtype e) (current_key keys) a)
    (keeps-clear ks r host (current_key keys))
keeps-known ks command r host e keys a h = tt
