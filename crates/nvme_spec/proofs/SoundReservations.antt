-- For `SoundWorlds`: every action keeps a reservation sound. Registrants are in rising order, the holder is registered,
-- and the type suits the kind of holder.
use Rattle.std.proofs.Common.{
  ◌≡◌,
  ℕ,
  ◌≤◌,
  ◌==◌,
  ◌&&◌,
  ◌||◌,
  Bool,
  true,
  false,
  not,
  List,
  length,
  filter,
  refl,
  arith,
  nat_le,
}
use Rattle.std.specs.Prelude.{if◌then◌else◌}
use Rattle.std.proofs.lemmas.Bool.{leb-true, leb-false}
use Rattle.nvme_spec.specs.declared.access.Registrant.{Registrant}
use Rattle.nvme_spec.specs.declared.access.Hold.{Hold}
use Rattle.nvme_spec.specs.declared.access.Hold.TheVariants.{Free, One, All}
use Rattle.nvme_spec.specs.declared.command.Command.{Command}
use Rattle.nvme_spec.specs.declared.command.Command.TheVariants.{
  ReservationRegister,
  ReservationAcquire,
  ReservationRelease,
}
use Rattle.nvme_spec.specs.Commands.{action, iekey, rtype, cptpl}
use Rattle.nvme_spec.specs.Reservation.{
  Reservation,
  ActionOutcome,
  IsRising,
  is_registered,
  is_registered_with,
  is_free,
  is_of_type,
  is_of_all,
  is_holder,
  is_holders_key,
  is_key_in_use,
  taken_by,
  remaining_hold,
  register,
  unregister,
  replace,
  acquire,
  preempt,
  release,
  clear,
}
use Rattle.nvme_spec.specs.ReservationLaws.{Keeps, IsHeldByRegistrants}
use Rattle.nvme_spec.specs.IoData.{action_outcome, current_key, other_key}
use Rattle.nvme_spec.specs.Sound.{IsTyped}
use Rattle.nvme_spec.proofs.Registrants.{rising-filter, rising-with_key}
use Rattle.nvme_spec.proofs.ReservationLaws.{
  register-held,
  replace-held,
  acquire-held,
  preempt-held,
  remaining_hold-held,
}
use Rattle.nvme_spec.proofs.Hosts.{keeps-if, KeepsIfSome, persisting-keeps}

-- Registrants are in rising order.

abbrev Rises : ActionOutcome → Type 0
Rises o = Keeps o (λ next. IsRising next.registrants)

rises-if : (b : Bool) (x y : ActionOutcome) → Rises x → Rises y → Rises (if b then x else y)
rises-if b x y h k = keeps-if (λ next. IsRising next.registrants) b x y h k

rises-register : (r : Reservation) (host key : ℕ) → IsRising r.registrants → Rises (register r host key)
rises-register r host key a =
    rises-if (is_registered r.registrants host && not (is_registered_with r.registrants host key)) _ _ tt
    (rising-with_key r.registrants host key a)

rises-unregister : (r : Reservation) (host : ℕ) (iekey : Bool) (key : ℕ)
    → IsRising r.registrants → Rises (unregister r host iekey key)
rises-unregister r host iekey key a =
    rises-if (is_registered r.registrants host && (iekey || is_registered_with r.registrants host key)) _ _
    (rising-filter _ r.registrants a) tt

rises-replace : (r : Reservation) (host : ℕ) (iekey : Bool) (old key : ℕ)
    → IsRising r.registrants → Rises (replace r host iekey old key)
rises-replace r host iekey old key a =
    rises-if (iekey || is_registered_with r.registrants host old) _ _ (rising-with_key r.registrants host key a) tt

rises-acquire : (r : Reservation) (host type key : ℕ) → IsRising r.registrants → Rises (acquire r host type key)
rises-acquire r host type key a =
    rises-if (not (is_registered_with r.registrants host key)) _ _ tt
    (rises-if (is_free r.hold) _ _ a (rises-if (is_of_type r.hold type && is_holder r host) _ _ a tt))

rises-preempt : (r : Reservation) (host type key other : ℕ)
    → IsRising r.registrants → Rises (preempt r host type key other)
rises-preempt r host type key other a =
    rises-if (not (is_registered_with r.registrants host key)) _ _ tt
    (rises-if (other == 0) _ _
    (rises-if (is_of_all r.hold) _ _ (rising-filter _ r.registrants a) tt)
    (rises-if (is_holders_key r other) _ _ (rising-filter _ r.registrants a)
    (rises-if (is_key_in_use r.registrants other) _ _ (rising-filter _ r.registrants a) tt)))

rises-release : (r : Reservation) (host type key : ℕ) → IsRising r.registrants → Rises (release r host type key)
rises-release r host type key a =
    rises-if (not (is_registered_with r.registrants host key)) _ _ tt
    (rises-if (not (is_holder r host)) _ _ a (rises-if (is_of_type r.hold type) _ _ a tt))

rises-clear : (r : Reservation) (host key : ℕ) → Rises (clear r host key)
rises-clear r host key = rises-if (is_registered_with r.registrants host key) _ _ tt tt

pub keeps-rising : (command : Command) (r : Reservation) (host : ℕ) (e keys : List ℕ) → IsRising r.registrants
    → KeepsIfSome (action_outcome command r host e keys) (λ next. IsRising next.registrants)
unfolding action_outcome
keeps-rising ReservationRegister r host e keys a =
    persisting-keeps (λ next. IsRising next.registrants) (λ r persists rises. rises) (cptpl e) _
    (rises-if (action e == 0) _ _ (rises-register r host (other_key keys) a)
    (rises-if (action e == 1) _ _ (rises-unregister r host (iekey e) (current_key keys) a)
    (rises-replace r host (iekey e) (current_key keys) (other_key keys) a)))
keeps-rising ReservationAcquire r host e keys a =
    rises-if (action e == 0) _ _ (rises-acquire r host (rtype e) (current_key keys) a)
    (rises-preempt r host (rtype e) (current_key keys) (other_key keys) a)
keeps-rising ReservationRelease r host e keys a =
    rises-if (action e == 0) _ _ (rises-release r host (rtype e) (current_key keys) a)
    (rises-clear r host (current_key keys))
keeps-rising command r host e keys a = tt

-- The holder is registered.

held-if : (b : Bool) (x y : ActionOutcome) → Keeps x IsHeldByRegistrants → Keeps y IsHeldByRegistrants
    → Keeps (if b then x else y) IsHeldByRegistrants
held-if b x y h k = keeps-if IsHeldByRegistrants b x y h k

held-unregister : (r : Reservation) (host : ℕ) (iekey : Bool) (key : ℕ)
    → Keeps (unregister r host iekey key) IsHeldByRegistrants
held-unregister r host iekey key =
    held-if (is_registered r.registrants host && (iekey || is_registered_with r.registrants host key)) _ _
    (remaining_hold-held r.hold (filter (λ x. not (x.host == host)) r.registrants)) tt

held-release : (r : Reservation) (host type key : ℕ)
    → IsHeldByRegistrants r → Keeps (release r host type key) IsHeldByRegistrants
held-release r host type key a =
    held-if (not (is_registered_with r.registrants host key)) _ _ tt
    (held-if (not (is_holder r host)) _ _ a (held-if (is_of_type r.hold type) _ _ tt tt))

held-clear : (r : Reservation) (host key : ℕ) → Keeps (clear r host key) IsHeldByRegistrants
held-clear r host key = held-if (is_registered_with r.registrants host key) _ _ tt tt

pub keeps-held : (command : Command) (r : Reservation) (host : ℕ) (e keys : List ℕ) → IsHeldByRegistrants r
    → KeepsIfSome (action_outcome command r host e keys) IsHeldByRegistrants
unfolding action_outcome
keeps-held ReservationRegister r host e keys a =
    persisting-keeps IsHeldByRegistrants (λ r persists held. held) (cptpl e) _
    (held-if (action e == 0) _ _ (register-held r host (other_key keys) a)
    (held-if (action e == 1) _ _ (held-unregister r host (iekey e) (current_key keys))
    (replace-held r host (iekey e) (current_key keys) (other_key keys) a)))
keeps-held ReservationAcquire r host e keys a =
    held-if (action e == 0) _ _ (acquire-held r host (rtype e) (current_key keys) a)
    (preempt-held r host (rtype e) (current_key keys) (other_key keys))
keeps-held ReservationRelease r host e keys a =
    held-if (action e == 0) _ _ (held-release r host (rtype e) (current_key keys) a)
    (held-clear r host (current_key keys))
keeps-held command r host e keys a = tt

-- The type suits the kind of holder.

abbrev Types : ActionOutcome → Type 0
Types o = Keeps o (λ next. IsTyped next.hold)

types-if : (b : Bool) (x y : ActionOutcome) → Types x → Types y → Types (if b then x else y)
types-if b x y h k = keeps-if (λ next. IsTyped next.hold) b x y h k

taken-typed : (host type : ℕ) → 1 ≤ type → type ≤ 6 → IsTyped (taken_by host type)
taken-typed host type low high =
    elim (nat_le type 4) as (λ b. nat_le type 4 ≡ b → IsTyped (if b then One type host else All type)) [
      | true ↦ λ e. (low, leb-true type 4 e)
      | false ↦ λ e. (let above = leb-false type 4 e in (omega (arith, above), high))
    ] refl

remaining-typed : (hold : Hold) (xs : List Registrant) → IsTyped hold → IsTyped (remaining_hold hold xs)
remaining-typed Free xs h = tt
remaining-typed (One type holder) xs h =
    elim (is_registered xs holder) as (λ b. IsTyped (if b then One type holder else Free)) [
      | true ↦ h
      | false ↦ tt
    ]
remaining-typed (All type) xs h =
    elim (length xs == 0) as (λ b. IsTyped (if b then Free else All type)) [
      | true ↦ tt
      | false ↦ h
    ]

types-register : (r : Reservation) (host key : ℕ) → IsTyped r.hold → Types (register r host key)
types-register r host key a =
    types-if (is_registered r.registrants host && not (is_registered_with r.registrants host key)) _ _ tt a

types-unregister : (r : Reservation) (host : ℕ) (iekey : Bool) (key : ℕ)
    → IsTyped r.hold → Types (unregister r host iekey key)
types-unregister r host iekey key a =
    types-if (is_registered r.registrants host && (iekey || is_registered_with r.registrants host key)) _ _
    (remaining-typed r.hold (filter (λ x. not (x.host == host)) r.registrants) a) tt

types-replace : (r : Reservation) (host : ℕ) (iekey : Bool) (old key : ℕ)
    → IsTyped r.hold → Types (replace r host iekey old key)
types-replace r host iekey old key a = types-if (iekey || is_registered_with r.registrants host old) _ _ a tt

types-acquire : (r : Reservation) (host type key : ℕ) → 1 ≤ type → type ≤ 6 → IsTyped r.hold
    → Types (acquire r host type key)
types-acquire r host type key low high a =
    types-if (not (is_registered_with r.registrants host key)) _ _ tt
    (types-if (is_free r.hold) _ _ (taken-typed host type low high)
    (types-if (is_of_type r.hold type && is_holder r host) _ _ a tt))

types-preempt : (r : Reservation) (host type key other : ℕ) → 1 ≤ type → type ≤ 6 → IsTyped r.hold
    → Types (preempt r host type key other)
types-preempt r host type key other low high a =
    types-if (not (is_registered_with r.registrants host key)) _ _ tt
    (types-if (other == 0) _ _
    (types-if (is_of_all r.hold) _ _ (taken-typed host type low high) tt)
    (types-if (is_holders_key r other) _ _ (taken-typed host type low high)
    (types-if (is_key_in_use r.registrants other) _ _
    (remaining-typed r.hold (filter (λ x. not (x.key == other)) r.registrants) a) tt)))

types-release : (r : Reservation) (host type key : ℕ) → IsTyped r.hold → Types (release r host type key)
types-release r host type key a =
    types-if (not (is_registered_with r.registrants host key)) _ _ tt
    (types-if (not (is_holder r host)) _ _ a (types-if (is_of_type r.hold type) _ _ tt tt))

types-clear : (r : Reservation) (host key : ℕ) → Types (clear r host key)
types-clear r host key = types-if (is_registered_with r.registrants host key) _ _ tt tt

-- an Acquire or Preempt names one of the six types
abbrev pub NamesType : Command → List ℕ → Type 0
NamesType ReservationAcquire e = (1 ≤ rtype e) × (rtype e ≤ 6)
NamesType command e = Unit {0}

pub keeps-typed : (command : Command) (r : Reservation) (host : ℕ) (e keys : List ℕ)
    → NamesType command e → IsTyped r.hold
    → KeepsIfSome (action_outcome command r host e keys) (λ next. IsTyped next.hold)
unfolding action_outcome
keeps-typed ReservationRegister r host e keys n a =
    persisting-keeps (λ next. IsTyped next.hold) (λ r persists typed. typed) (cptpl e) _
    (types-if (action e == 0) _ _ (types-register r host (other_key keys) a)
    (types-if (action e == 1) _ _ (types-unregister r host (iekey e) (current_key keys) a)
    (types-replace r host (iekey e) (current_key keys) (other_key keys) a)))
keeps-typed ReservationAcquire r host e keys n a =
    types-if (action e == 0) _ _ (types-acquire r host (rtype e) (current_key keys) n.0 n.1 a)
    (types-preempt r host (rtype e) (current_key keys) (other_key keys) n.0 n.1 a)
keeps-typed ReservationRelease r host e keys n a =
    types-if (action e == 0) _ _ (types-release r host (rtype e) (current_key keys) a)
    (types-clear r host (current_key keys))
keeps-typed command r host e keys n a = tt
