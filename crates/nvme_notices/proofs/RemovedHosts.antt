-- The hosts that a Preempt removes were registered, and no longer are.
use Rattle.std.proofs.Common.{
  ◌≡◌,
  ℕ,
  ◌==◌,
  Bool,
  true,
  false,
  cond,
  not,
  ◌||◌,
  List,
  [],
  ◌∷◌,
  map,
  filter,
  Some,
  Ok,
  Err,
  refl,
  sym,
  subst,
  ◌∙◌,
}
use Rattle.std.specs.List.{list_any}
use Rattle.std.proofs.lemmas.Bool.{eqb-true}
use Rattle.nvme_spec.specs.declared.access.Registrant.{Registrant}
use Rattle.nvme_spec.specs.Reservation.{
  Reservation,
  Transition,
  ActionOutcome,
  is_registered,
  is_registered_with,
  is_of_all,
  is_holders_key,
  is_key_in_use,
  removed_hosts,
  preempt,
}
use Rattle.nvme_notices.specs.declared.hearing.Action.TheVariants as action
use Rattle.nvme_notices.specs.declared.notice.NoticeType.TheVariants.{RegistrationPreempted}
use Rattle.nvme_notices.specs.Hearing.{heard_by}

-- a host that was registered, and no longer is
abbrev pub IsRemoved : List Registrant → List Registrant → ℕ → Type 0
IsRemoved before after host = (is_registered before host ≡ true) × (is_registered after host ≡ false)

abbrev IsYes : Bool → Type 0
IsYes true = Unit {0}
IsYes false = ⊥

no-both : {A : Type 0} (b : Bool) → b ≡ true → b ≡ false → A
no-both b t f = absurd (subst IsYes (sym t ∙ f) tt)

not-true : (b : Bool) → not b ≡ true → b ≡ false
not-true true h = absurd (subst IsYes (sym h) tt)
not-true false h = refl

-- each of the removed hosts was registered before, and is not registered after
pub removed-host : (before after : List Registrant) (host : ℕ)
    → list_any (λ h. h == host) (removed_hosts before after) ≡ true → IsRemoved before after host
removed-host [] after host h = absurd (subst IsYes (sym h) tt)
removed-host (x ∷ xs) after host h =
    let p : Bool = not (is_registered after x.host) in
    elim p as (λ b. p ≡ b
    → list_any (λ h. h == host) (map (λ r. r.host) (cond b (x ∷ filter (λ r. not (is_registered after r.host)) xs)
    (filter (λ r. not (is_registered after r.host)) xs))) ≡ true → IsRemoved (x ∷ xs) after host) [
      | true ↦ λ gone any.
          let same : Bool = x.host == host in
          elim same as (λ b. same ≡ b → (b || list_any (λ h. h == host) (removed_hosts xs after)) ≡ true
          → ((b || is_registered xs host) ≡ true) × (is_registered after host ≡ false)) [
            | true ↦ λ is more. (
              refl,
              subst (λ k. is_registered after k ≡ false) (eqb-true x.host host is)
                  (not-true (is_registered after x.host) gone),
            )
            | false ↦ λ is more. removed-host xs after host more
          ] refl any
      | false ↦ λ stays any.
          let rest : IsRemoved xs after host = removed-host xs after host any in
          (or-more (x.host == host) (is_registered xs host) rest.0, rest.1)
    ] refl h where
      or-more : (a b : Bool) → b ≡ true → (a || b) ≡ true
      or-more true b h = refl
      or-more false b h = h

-- the removed hosts of an outcome are those that its next state lacks
abbrev Removes : Reservation → ActionOutcome → Type 0
Removes r (Ok t) = t.removed ≡ removed_hosts r.registrants t.next.registrants
Removes r (Err refusal) = Unit {0}

either : (r : Reservation) (b : Bool) (x y : ActionOutcome) → Removes r x → Removes r y → Removes r (cond b x y)
either r true x y h k = h
either r false x y h k = k

preempt-removes : (r : Reservation) (host rtype crkey prkey : ℕ) → Removes r (preempt r host rtype crkey prkey)
preempt-removes r host rtype crkey prkey =
    either r (not (is_registered_with r.registrants host crkey)) _ _ tt
    (either r (prkey == 0) _ _ (either r (is_of_all r.hold) _ _ refl tt)
    (either r (is_holders_key r prkey) _ _ refl (either r (is_key_in_use r.registrants prkey) _ _ refl tt)))

pub they-hear : (r : Reservation) (issuer rtype crkey prkey host : ℕ) (t : Transition)
    → preempt r issuer rtype crkey prkey ≡ Ok t → list_any (λ h. h == host) t.removed ≡ true
    → (host == issuer) ≡ false → heard_by action.Preempt issuer r t.next host ≡ Some RegistrationPreempted
they-hear r issuer rtype crkey prkey host t ok any other =
    let removes : t.removed ≡ removed_hosts r.registrants t.next.registrants =
    subst (Removes r) ok (preempt-removes r issuer rtype crkey prkey) in
    let gone : IsRemoved r.registrants t.next.registrants host =
    removed-host r.registrants t.next.registrants host
    (subst (λ xs. list_any (λ h. h == host) xs ≡ true) removes any) in
    rw (other, gone.0, gone.1) refl
