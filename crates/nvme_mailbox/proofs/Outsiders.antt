-- For `Preempted`: hosts without a key for a namespace, and the effect of reservation commands on them.
use Rattle.nvme_mailbox.proofs.Words.{
  ◌≡◌,
  ◌≢◌,
  inl,
  inr,
  ℕ,
  ◌==◌,
  ◌||◌,
  ◌&&◌,
  ◌++◌,
  Bool,
  true,
  false,
  cond,
  not,
  nat_lt,
  List,
  [],
  ◌∷◌,
  filter,
  Option,
  None,
  Some,
  Ok,
  Err,
  refl,
  sym,
  ap,
  subst,
  ◌∙◌,
  find,
  option_map,
  if◌then◌else◌,
  list_any,
  or_parts,
  eqb-true,
  eqb-false,
  ne_eqb,
  cases_Bool,
  none-some,
  same_Some,
  Write as Writing,
  Command,
  ReservationRegister,
  ReservationAcquire,
  ReservationRelease,
  action,
  cptpl,
  iekey,
  rtype,
  world_after,
  removed_by,
  current_key,
  other_key,
  key_outcome,
  action_outcome,
  outcome_in,
  permits_group,
  reservation_of,
  Reservation,
  ActionOutcome,
  is_registered,
  is_registered_with,
  is_key_in_use,
  is_holders_key,
  is_of_all,
  is_free,
  with_key,
  removed_hosts,
  World,
  Namespace,
  namespace_of,
  with_namespace,
  with_reservation,
  others-reserved,
  IsOutside,
  common_steps,
  arith,
}
use Rattle.nvme_spec.specs.declared.access.Registrant.{Registrant}
use Rattle.nvme_spec.specs.declared.access.Hold.{Hold}
use Rattle.nvme_spec.specs.declared.access.Hold.TheVariants.{Free, One, All}
use Rattle.nvme_spec.specs.declared.access.Role.TheVariants.{Outsider}
use Rattle.nvme_spec.specs.Access.{Row, rights_table, is_permitted}
use Rattle.nvme_spec.specs.Reservation as resv
use Rattle.nvme_spec.specs.ReservationLaws.{Keeps}
use Rattle.nvme_spec.proofs.Hosts.{persisting-keeps}

-- Registrants.

abbrev pub IsOut : ℕ → Reservation → Type 0
IsOut host r = is_registered r.registrants host ≡ false

filtered-out : (q : Registrant → Bool) (xs : List Registrant) (host : ℕ)
    → is_registered xs host ≡ false → is_registered (filter q xs) host ≡ false
filtered-out q [] host h = refl
filtered-out q (x ∷ xs) host h =
    let two = or_parts (x.host == host) (is_registered xs host) h in
    grind (arith, common_steps, two.0, filtered-out q xs host two.1)

joined-out : (xs ys : List Registrant) (host : ℕ) → is_registered xs host ≡ false → is_registered ys host ≡ false
    → is_registered (xs ++ ys) host ≡ false
joined-out [] ys host h k = k
joined-out (x ∷ xs) ys host h k =
    let two = or_parts (x.host == host) (is_registered xs host) h in
    ap (λ b. b || is_registered (xs ++ ys) host) two.0 ∙ joined-out xs ys host two.1 k

-- a key for another host
keyed-out : (xs : List Registrant) (by key host : ℕ) → by ≢ host → is_registered xs host ≡ false
    → is_registered (with_key xs by key) host ≡ false
keyed-out xs by key host other h =
    let high : List Registrant = filter (λ r. nat_lt by r.host) xs in
    joined-out (filter (λ r. nat_lt r.host by) xs) (record { host = by; key = key } ∷ high) host
    (filtered-out _ xs host h)
    (ap (λ b. b || is_registered high host) (ne_eqb by host other) ∙ filtered-out _ xs host h)

-- a removed host is not registered
removed-out : (before after : List Registrant) (host : ℕ)
    → list_any (λ h. h == host) (removed_hosts before after) ≡ true → is_registered after host ≡ false
removed-out [] after host h = absurd (cc)
removed-out (x ∷ xs) after host h = grind (arith, common_steps, removed-out xs after host, h)

-- Actions.

either : (Q : ActionOutcome → Type 0) (b : Bool) (x y : ActionOutcome) → Q x → Q y → Q (if b then x else y)
either Q true x y h k = h
either Q false x y h k = k

-- an action registers none of those without a key
abbrev pub KeepsOut : ℕ → ActionOutcome → Type 0
KeepsOut host o = Keeps o (IsOut host)

register-out : (r : Reservation) (by key host : ℕ) → by ≢ host → IsOut host r → KeepsOut host (resv.register r by key)
register-out r by key host other h =
    either (KeepsOut host) (is_registered r.registrants by && not (is_registered_with r.registrants by key)) _ _ tt
    (keyed-out r.registrants by key host other h)

replace-out : (r : Reservation) (by : ℕ) (ignores : Bool) (old key host : ℕ)
    → by ≢ host → IsOut host r → KeepsOut host (resv.replace r by ignores old key)
replace-out r by ignores old key host other h = either (KeepsOut host)
    (ignores || is_registered_with r.registrants by old) _ _ (keyed-out r.registrants by key host other h) tt

unregister-out : (r : Reservation) (by : ℕ) (ignores : Bool) (key host : ℕ)
    → IsOut host r → KeepsOut host (resv.unregister r by ignores key)
unregister-out r by ignores key host h =
    either (KeepsOut host) (is_registered r.registrants by && (ignores || is_registered_with r.registrants by key)) _ _
    (filtered-out (λ x. not (x.host == by)) r.registrants host h) tt

acquire-out : (r : Reservation) (by type key host : ℕ) → IsOut host r → KeepsOut host (resv.acquire r by type key)
acquire-out r by type key host h = grind (arith, common_steps, h)

preempt-out : (r : Reservation) (by type key victim host : ℕ)
    → IsOut host r → KeepsOut host (resv.preempt r by type key victim)
preempt-out r by type key victim host h =
    let gone : (q : Registrant → Bool) → is_registered (filter q r.registrants) host ≡ false =
    λ q. filtered-out q r.registrants host h in
    either (KeepsOut host) (not (is_registered_with r.registrants by key)) _ _ tt
    (either (KeepsOut host) (victim == 0) _ _ (either (KeepsOut host) (is_of_all r.hold) _ _ (gone _) tt)
    (either (KeepsOut host) (is_holders_key r victim) _ _ (gone _)
    (either (KeepsOut host) (is_key_in_use r.registrants victim) _ _ (gone _) tt)))

release-out : (r : Reservation) (by type key host : ℕ) → IsOut host r → KeepsOut host (resv.release r by type key)
release-out r by type key host h = grind (arith, common_steps, h)

clear-out : (r : Reservation) (by key host : ℕ) → KeepsOut host (resv.clear r by key)
clear-out r by key host = either (KeepsOut host) (is_registered_with r.registrants by key) _ _ refl tt

-- the same, if a command acts on a reservation at all
abbrev pub IfActs : (ActionOutcome → Type 0) → Option ActionOutcome → Type 0
IfActs Q None = Unit {0}
IfActs Q (Some o) = Q o

command-out : (command : Command) (r : Reservation) (by : ℕ) (e keys : List ℕ) (host : ℕ)
    → (command ≡ ReservationRegister → by ≢ host) → IsOut host r
    → IfActs (KeepsOut host) (action_outcome command r by e keys)
unfolding action_outcome
command-out ReservationRegister r by e keys host other h =
    persisting-keeps (IsOut host) (λ r persists out. out) (cptpl e) (key_outcome r by e keys)
    (either (KeepsOut host) (action e == 0) _ _ (register-out r by (other_key keys) host (other refl) h)
    (either (KeepsOut host) (action e == 1) _ _ (unregister-out r by (iekey e) (current_key keys) host h)
    (replace-out r by (iekey e) (current_key keys) (other_key keys) host (other refl) h)))
command-out ReservationAcquire r by e keys host other h =
    either (KeepsOut host) (action e == 0) _ _ (acquire-out r by (rtype e) (current_key keys) host h)
    (preempt-out r by (rtype e) (current_key keys) (other_key keys) host h)
command-out ReservationRelease r by e keys host other h =
    either (KeepsOut host) (action e == 0) _ _ (release-out r by (rtype e) (current_key keys) host h)
    (clear-out r by (current_key keys) host)
command-out command r by e keys host other h = tt

pub outcome-out : (command : Option Command) (space : Option Namespace) (sender : Option ℕ) (e keys : List ℕ) (host : ℕ)
    → (command ≡ Some ReservationRegister → sender ≢ Some host)
    → ((m : Namespace) → space ≡ Some m → IsOut host m.reservation)
    → IfActs (KeepsOut host) (outcome_in command space sender e keys)
outcome-out (Some command) (Some m) (Some by) e keys host other h =
    command-out command m.reservation by e keys host (λ is same. other (ap Some is) (ap Some same)) (h m refl)
outcome-out command space sender e keys host other h = tt

-- A Preempt removes hosts, which then have no key.
abbrev pub Removes : ℕ → ActionOutcome → Type 0
Removes host (Err why) = Unit {0}
Removes host (Ok t) = list_any (λ h. h == host) t.removed ≡ true → IsOut host t.next

preempt-removes : (r : Reservation) (by type key victim host : ℕ) → Removes host (resv.preempt r by type key victim)
preempt-removes r by type key victim host =
    let gone : (xs : List Registrant) → list_any (λ h. h == host) (removed_hosts r.registrants xs) ≡ true
    → is_registered xs host ≡ false = λ xs. removed-out r.registrants xs host in
    either (Removes host) (not (is_registered_with r.registrants by key)) _ _ tt
    (either (Removes host) (victim == 0) _ _ (either (Removes host) (is_of_all r.hold) _ _ (gone _) tt)
    (either (Removes host) (is_holders_key r victim) _ _ (gone _)
    (either (Removes host) (is_key_in_use r.registrants victim) _ _ (gone _) tt)))

pub outcome-removes : (space : Option Namespace) (sender : Option ℕ) (e keys : List ℕ) (host : ℕ)
    → (action e == 0) ≡ false
    → IfActs (Removes host) (outcome_in (Some ReservationAcquire) space sender e keys)
unfolding action_outcome
outcome-removes (Some m) (Some by) e keys host is =
    subst (λ b. Removes host (if b then resv.acquire m.reservation by (rtype e) (current_key keys)
    else resv.preempt m.reservation by (rtype e) (current_key keys) (other_key keys)))
    (sym is) (preempt-removes m.reservation by (rtype e) (current_key keys) (other_key keys) host)
outcome-removes space sender e keys host is = tt

-- Worlds.

-- the reservation of a namespace after it was set
reserved-in : (next : Reservation) (n : ℕ) (ms : List Namespace) (r : Reservation)
    → option_map (λ (m : Namespace). m.reservation)
    (find (λ m. m.nsid == n) (with_namespace (λ m. record m { reservation = next }) n ms)) ≡ Some r → r ≡ next
reserved-in next n [] r h = absurd (none-some _ h)
reserved-in next n (m ∷ ms) r h = by (m.nsid == n) refl (reserved-in next n ms r) h
  where
    behind : List Namespace
    behind = with_namespace (λ m. record m { reservation = next }) n ms

    found : Option Namespace → Option Reservation
    found o = option_map (λ (m : Namespace). m.reservation) o

    by : (b : Bool) → (m.nsid == n) ≡ b → (found (find (λ m. m.nsid == n) behind) ≡ Some r → r ≡ next)
        → found (find (λ m. m.nsid == n) (if b then record m { reservation = next } ∷ ms else m ∷ behind))
        ≡ Some r → r ≡ next
    by true e again k = sym (same_Some _ _
        (subst
        (λ b. found (cond b (Some (record m { reservation = next })) (find (λ m. m.nsid == n) ms)) ≡ Some r) e k))
    by false e again k = again (subst (λ b. found (cond b (Some m) (find (λ m. m.nsid == n) behind)) ≡ Some r) e k)

-- if a command on the namespace has removed the host, it has no key
pub removed-world : (w : World) (a n host : ℕ) (o : Option ActionOutcome) → a ≡ n → IfActs (Removes host) o
    → list_any (λ h. h == host) (removed_by o) ≡ true
    → IsOutside (world_after w a o) n host
unfolding reservation_of namespace_of
removed-world w a n host (Some (Ok t)) same h gone = λ r at.
    let is : r ≡ t.next = reserved-in t.next n w.namespaces r
    (subst (λ m. reservation_of (with_reservation w m t.next) n ≡ Some r) same at) in
    ap (λ x. is_registered x.registrants host) is ∙ h gone
removed-world w a n host o same h gone = absurd (cc)

-- the effect of a command on namespace a on those without a key for namespace n
pub world-out : (w : World) (a n host : ℕ) (o : Option ActionOutcome)
    → IsOutside w n host → (a ≡ n → IfActs (KeepsOut host) o) → IsOutside (world_after w a o) n host
unfolding reservation_of namespace_of
world-out w a n host (Some (Ok t)) h k = λ r at. elim (cases_Bool (a == n)) [
  | inl here ↦ (let same = eqb-true a n here in
      let is : r ≡ t.next = reserved-in t.next n w.namespaces r
      (subst (λ m. reservation_of (with_reservation w m t.next) n ≡ Some r) same at) in
      ap (λ x. is_registered x.registrants host) is ∙ k same)
  | inr there ↦ h r (ap (λ x. option_map (λ (m : Namespace). m.reservation) x)
      (sym (others-reserved w a t.next n (λ same. eqb-false a n there (sym same)))) ∙ at)
]
world-out w a n host o h k = h

-- Permissions.

pick : (b : Bool) (x y : Row) → x.outsider.writes ≡ false → y.outsider.writes ≡ false
    → (if b then x else y).outsider.writes ≡ false
pick true x y h k = h
pick false x y h k = k

unwritten : (type : ℕ) → (rights_table type).outsider.writes ≡ false
unwritten type = pick (type == 1) _ _ refl
    (pick (type == 2) _ _ refl (pick (type == 3) _ _ refl (pick (type == 4) _ _ refl (pick (type == 5) _ _ refl refl))))

held-shuts : (hold : Hold) → is_free hold ≡ false → is_permitted hold Outsider Writing ≡ false
held-shuts Free h = absurd (cc)
held-shuts (One type holder) h = unwritten type
held-shuts (All type) h = unwritten type

pub outsider-shut : (o : Option Namespace) (host : ℕ) (r : Reservation)
    → option_map (λ (m : Namespace). m.reservation) o ≡ Some r → is_registered r.registrants host ≡ false
    → is_free r.hold ≡ false
    → permits_group o (Some host) Writing ≡ false
outsider-shut None host r at out held = absurd (none-some _ at)
outsider-shut (Some m) host r at out held =
    ap (λ (x : Reservation). is_permitted x.hold (resv.role_of x host) Writing) (same_Some _ _ at)
    ∙ (rw (out) (held-shuts r.hold held))
