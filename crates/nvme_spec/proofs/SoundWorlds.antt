-- For `laws/executions.rt`: a world whose places and controllers stay is sound by its attachments and its reservations.
-- I/O commands leave the attachments, and keep reservations sound.
use Rattle.std.proofs.Common.{
  ◌≡◌,
  ℕ,
  ◌==◌,
  ◌||◌,
  nat_lt,
  Bool,
  true,
  false,
  cond,
  List,
  [],
  ◌∷◌,
  map,
  Option,
  None,
  Some,
  Ok,
  Err,
  refl,
  sym,
  ap,
  subst,
  ◌∙◌,
  arith,
}
use Rattle.std.specs.Prelude.{find, option_map, is_some}
use Rattle.std.specs.List.{AllByRecursion}
use Rattle.std.proofs.lemmas.Bool.{eqb-false, ltb-false}
use Rattle.nvme_wire.specs.Submission.{opcode, nsid}
use Rattle.nvme_wire.specs.declared.status.Status.{Status}
use Rattle.nvme_spec.specs.declared.command.Command.{Command}
use Rattle.nvme_spec.specs.declared.command.Command.TheVariants.{
  ReservationRegister,
  ReservationAcquire,
  ReservationRelease,
}
use Rattle.nvme_spec.specs.declared.outcome.Outcome.{Outcome}
use Rattle.nvme_spec.specs.declared.verdict.Verdict.{Verdict}
use Rattle.nvme_spec.specs.declared.verdict.Verdict.TheVariants.{Allowed, Denied}
use Rattle.nvme_spec.specs.Reservation as resv
use Rattle.nvme_spec.specs.ReservationLaws.{IsHeldByRegistrants}
use Rattle.nvme_spec.specs.Report.{ControllerHost, HasRisingIds}
use Rattle.nvme_spec.specs.World.{World, Namespace, host_of, namespace_of}
use Rattle.nvme_spec.specs.Rules.{judgement_by}
use Rattle.nvme_spec.specs.Commands.{command_of, action, iekey, rtype}
use Rattle.nvme_spec.specs.IoRules.{field_rule}
use Rattle.nvme_spec.specs.Attachments.{is_shared}
use Rattle.nvme_spec.specs.IoData.{outcome_in, action_outcome, data_of, reservation_outcome, io_verdict}
use Rattle.nvme_spec.specs.Execution.{Scene, ExecutesBy, Performs, world_after}
use Rattle.nvme_spec.specs.Layout.{HasSameLayout, unreserved_one}
use Rattle.nvme_spec.specs.Statuses as status
use Rattle.nvme_spec.specs.Sound.{
  IsTyped,
  IsSoundReservation,
  NamespacePlace,
  namespace_place,
  AreInOrder,
  AreAttachments,
  is_controller,
  is_namespace,
  is_shared_in,
  IsSound,
  ExecutionKeepsItSound,
}
use Rattle.nvme_spec.proofs.Hosts.{AreKnown, KeepsIfSome, keeps-known}
use Rattle.nvme_spec.proofs.Worlds.{of_named, changed-all, host-known}
use Rattle.nvme_spec.proofs.Passing.{has-passed}
use Rattle.nvme_spec.proofs.Fencing.{execution_keeps_the_rest}
use Rattle.nvme_spec.proofs.QueueChanges.{no-failure, next-test, neither}
use Rattle.nvme_spec.proofs.SoundReservations.{NamesType, keeps-rising, keeps-held, keeps-typed}

-- Places determine which namespaces exist, and which are shared.

abbrev is_shared_place : Option NamespacePlace → Bool
is_shared_place None = false
is_shared_place (Some s) = s.shared

some-found : (n : ℕ) (ns : List Namespace) → is_some (find (λ (m : Namespace). m.nsid == n) ns)
    ≡ is_some (find (λ (s : NamespacePlace). s.nsid == n) (map namespace_place ns))
some-found n [] = refl
some-found n (m ∷ ms) =
    elim (m.nsid == n) as (λ b. is_some (cond b (Some m) (find (λ (x : Namespace). x.nsid == n) ms))
    ≡ is_some
    (cond b (Some (namespace_place m)) (find (λ (s : NamespacePlace). s.nsid == n) (map namespace_place ms)))) [
      | true ↦ refl
      | false ↦ some-found n ms
    ]

shared-found : (n : ℕ) (ns : List Namespace) → is_shared (find (λ (m : Namespace). m.nsid == n) ns)
    ≡ is_shared_place (find (λ (s : NamespacePlace). s.nsid == n) (map namespace_place ns))
shared-found n [] = refl
shared-found n (m ∷ ms) =
    elim (m.nsid == n) as (λ b. is_shared (cond b (Some m) (find (λ (x : Namespace). x.nsid == n) ms))
    ≡ is_shared_place
    (cond b (Some (namespace_place m)) (find (λ (s : NamespacePlace). s.nsid == n) (map namespace_place ms)))) [
      | true ↦ refl
      | false ↦ shared-found n ms
    ]

pub same-namespaces : (old new : World) → map namespace_place new.namespaces ≡ map namespace_place old.namespaces
    → is_namespace old ≡ is_namespace new
unfolding namespace_of
same-namespaces old new e = λ i n.
    (some-found n old.namespaces ∙ ap (λ ss. is_some (find (λ (s : NamespacePlace). s.nsid == n) ss)) (sym e)
    ∙ sym (some-found n new.namespaces)) i

pub same-sharing : (old new : World) → map namespace_place new.namespaces ≡ map namespace_place old.namespaces
    → is_shared_in old ≡ is_shared_in new
unfolding namespace_of
same-sharing old new e = λ i n.
    (shared-found n old.namespaces ∙ ap (λ ss. is_shared_place (find (λ (s : NamespacePlace). s.nsid == n) ss)) (sym e)
    ∙ sym (shared-found n new.namespaces)) i

pub same-controllers : (old new : World) → new.controllers ≡ old.controllers → is_controller old ≡ is_controller new
unfolding host_of
same-controllers old new e =
    λ i k. is_some (option_map (λ (h : ControllerHost). h.1) (find (λ (h : ControllerHost). h.0 == k) (sym e i)))

-- so a world is sound by its attachments, tested in the old world, and its reservations
pub sound-by : (old new : World) → IsSound old → new.controllers ≡ old.controllers
    → map namespace_place new.namespaces ≡ map namespace_place old.namespaces
    → AreAttachments (is_controller old) (is_namespace old) (is_shared_in old) new.attachments
    → AllByRecursion (λ (n : Namespace). IsSoundReservation old.controllers n.reservation) new.namespaces → IsSound new
sound-by old new sound controllers places attached reserved = record {
  controllers = subst HasRisingIds (sym controllers) sound.controllers;
  hosts = subst (λ ks. AllByRecursion (λ (k : ControllerHost). k.1 ≡ 0 → ⊥) ks) (sym controllers) sound.hosts;
  namespaces = subst AreInOrder (sym places) sound.namespaces;
  attachments =
      subst (λ c. AreAttachments c (is_namespace new) (is_shared_in new) new.attachments)
      (same-controllers old new controllers)
      (subst (λ n. AreAttachments (is_controller old) n (is_shared_in new) new.attachments)
      (same-namespaces old new places)
      (subst (λ s. AreAttachments (is_controller old) (is_namespace old) s new.attachments)
      (same-sharing old new places) attached));
  reservations = subst (λ ks. AllByRecursion (λ (n : Namespace). IsSoundReservation ks n.reservation) new.namespaces)
      (sym controllers) reserved;
}

-- Reservations.

-- an Acquire or Preempt that passed names a type
names-type : (command : Command) (e : List ℕ) → judgement_by (field_rule (Some command) e) ≡ Ok tt → NamesType command e
unfolding judgement_by field_rule
names-type ReservationAcquire e h =
    let t = next-test (nat_lt 2 (action e) || iekey e || (rtype e == 0) || nat_lt 6 (rtype e))
    status.invalid_field_in_command [] (no-failure 6 _ h) in
    let high = neither (nat_lt 2 (action e) || iekey e || (rtype e == 0)) (nat_lt 6 (rtype e)) t.0 in
    let low = neither (nat_lt 2 (action e) || iekey e) (rtype e == 0) high.0 in
    let some = eqb-false (rtype e) 0 low.1 in
    (omega (arith, some), ltb-false 6 (rtype e) high.1)
names-type command e h = tt

joined : (o : Option resv.ActionOutcome) (ks : List ControllerHost)
    → KeepsIfSome o (λ next. resv.IsRising next.registrants) → KeepsIfSome o (λ next. AreKnown ks next.registrants)
    → KeepsIfSome o IsHeldByRegistrants → KeepsIfSome o (λ next. IsTyped next.hold)
    → KeepsIfSome o (IsSoundReservation ks)
joined None ks a b c d = tt
joined (Some (Err refusal)) ks a b c d = tt
joined (Some (Ok transition)) ks a b c d = record { rising = a; known = b; held = c; typed = d }

abbrev AreReserved : World → Type 0
AreReserved w = AllByRecursion (λ (n : Namespace). IsSoundReservation w.controllers n.reservation) w.namespaces

outcome-sound : (w : World) (k : ℕ) (e sent : List ℕ) (command : Command) → command_of (opcode e) ≡ Some command
    → NamesType command e → AreReserved w
    → KeepsIfSome (reservation_outcome w k e sent) (IsSoundReservation w.controllers)
unfolding reservation_outcome
outcome-sound w k e sent command named typed sound =
    subst
    (λ c. KeepsIfSome (outcome_in c (namespace_of w (nsid e)) (host_of w k) e sent) (IsSoundReservation w.controllers))
    (sym named)
    (by (namespace_of w (nsid e)) refl (host_of w k) refl)
  where
    by : (o : Option Namespace) → namespace_of w (nsid e) ≡ o → (h : Option ℕ) → host_of w k ≡ h
        → KeepsIfSome (outcome_in (Some command) o h e sent) (IsSoundReservation w.controllers)
    by None is h host = tt
    by (Some n) is None host = tt
    by (Some n) is (Some of) host =
        let s = of_named (λ (m : Namespace). IsSoundReservation w.controllers m.reservation) w (nsid e) n sound is in
        joined (action_outcome command n.reservation of e sent) w.controllers
        (keeps-rising command n.reservation of e sent s.rising)
        (keeps-known w.controllers command n.reservation of e sent s.known (host-known w k of host))
        (keeps-held command n.reservation of e sent s.held)
        (keeps-typed command n.reservation of e sent typed s.typed)

after-sound : (w : World) (a : ℕ) (o : Option resv.ActionOutcome) → KeepsIfSome o (IsSoundReservation w.controllers)
    → AreReserved w
    → AllByRecursion (λ (n : Namespace). IsSoundReservation w.controllers n.reservation) (world_after w a o).namespaces
after-sound w a None k h = h
after-sound w a (Some (Err refusal)) k h = h
after-sound w a (Some (Ok transition)) k h =
    changed-all (λ (n : Namespace). IsSoundReservation w.controllers n.reservation)
    (λ n. record n { reservation = transition.next }) a w.namespaces (λ n was. k) h

abbrev StaysReserved : World → World → Type 0
StaysReserved old new =
    AllByRecursion (λ (n : Namespace). IsSoundReservation old.controllers n.reservation) new.namespaces

stays : (old new : World) → new ≡ old → AreReserved old → StaysReserved old new
stays old new same h = subst (λ w. StaysReserved old w) (sym same) h

reserves : (old new : World) (k : ℕ) (e sent : List ℕ) (command : Command) → command_of (opcode e) ≡ Some command
    → NamesType command e → AreReserved old
    → new ≡ world_after old (nsid e) (reservation_outcome old k e sent) → StaysReserved old new
reserves old new k e sent command named typed h is =
    subst (λ w. StaysReserved old w) (sym is)
    (after-sound old (nsid e) (reservation_outcome old k e sent) (outcome-sound old k e sent command named typed h) h)

performs-sound : (tells : Bool) (command : Command) (k : ℕ) (e sent : List ℕ) (old new : Scene) (answer : Status)
    (returned : List ℕ)
    → command_of (opcode e) ≡ Some command → NamesType command e → AreReserved old.world
    → Performs tells command k e sent old new answer returned → StaysReserved old.world new.world
performs-sound tells ReservationRegister k e sent old new answer returned named typed s h =
    reserves old.world new.world k e sent ReservationRegister named typed s h.world
performs-sound tells ReservationAcquire k e sent old new answer returned named typed s h =
    reserves old.world new.world k e sent ReservationAcquire named typed s h.world
performs-sound tells ReservationRelease k e sent old new answer returned named typed s h =
    reserves old.world new.world k e sent ReservationRelease named typed s h.world
performs-sound tells command k e sent old new answer returned named typed s h = stays _ _ h.world s

-- The places are unchanged.

places-unreserved : (ns : List Namespace) → map namespace_place ns ≡ map namespace_place (map unreserved_one ns)
places-unreserved [] = refl
places-unreserved (n ∷ ns) = ap (λ ss. namespace_place n ∷ ss) (places-unreserved ns)

places-kept : (old new : World)
    → HasSameLayout old new → map namespace_place new.namespaces ≡ map namespace_place old.namespaces
places-kept old new same =
    places-unreserved new.namespaces ∙ ap (map namespace_place) same.namespaces ∙ sym (places-unreserved old.namespaces)

executed : (old new : World) → IsSound old → HasSameLayout old new → StaysReserved old new → IsSound new
executed old new sound same reserved =
    sound-by old new sound same.controllers (places-kept old new same)
    (subst (λ pairs. AreAttachments (is_controller old) (is_namespace old) (is_shared_in old) pairs)
    (sym same.attachments) sound.attachments)
    reserved

reserved-by : (v : Verdict) (tells : Bool) (k : ℕ) (e : List ℕ) (marked : Bool) (old new : Scene) (o : Outcome)
    → io_verdict old.world k e marked old.window ≡ v
    → ExecutesBy v tells k e old new o → AreReserved old.world → StaysReserved old.world new.world
reserved-by (Denied number why) tells k e marked old new o is h s =
    stays old.world new.world (ap (λ (x : Scene). x.world) h.0) s
reserved-by (Allowed plan) tells k e marked old new o is h s =
    let p = has-passed old.world k e marked old.window plan is in
    performs-sound tells plan.kind k e (data_of old.window e) old new o.status h.returned p.named
    (names-type plan.kind e p.fields) s h.effect

pub execution_keeps_it_sound : ExecutionKeepsItSound
execution_keeps_it_sound tells k e marked old new o h sound =
    let rest = execution_keeps_the_rest tells k e marked old new o h in
    executed old.world new.world sound rest.layout
    (reserved-by (io_verdict old.world k e marked old.window) tells k e marked old new o refl h sound.reservations)
