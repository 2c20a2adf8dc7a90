-- Proof of the law `preempted_hosts_stay_out`: a preempted host stays out.
use Rattle.nvme_mailbox.proofs.Words.{
  ◌≡◌,
  ◌≢◌,
  ℕ,
  Bool,
  true,
  false,
  List,
  [],
  ◌∷◌,
  Option,
  None,
  Some,
  Ok,
  refl,
  sym,
  ap,
  subst,
  ◌∙◌,
  option_map,
  if◌then◌else◌,
  none-some,
  same_Some,
  opcode,
  nsid,
  Write as Writing,
  Command,
  ReservationRegister,
  ReservationAcquire,
  Allowed,
  command_of,
  is_one_of,
  plan_of,
  reservation_outcome,
  outcome_in,
  permits_group,
  conclusion,
  reservation_of,
  may_write,
  cycled_reservation,
  Reservation,
  unreserved,
  World,
  Namespace,
  host_of,
  namespace_of,
  cycled-reservation-at,
  Posted,
  FleetEvent,
  Execute,
  plain,
  Fleet,
  IoCommand,
  AreNumbered,
  HasItsEffect,
  IsExecutedBy,
  verdict_on,
  IsOutside,
  OutsidersMayNotWrite,
  LeavesOutside,
  OutsidersStayOutside,
  PreemptedIsOutside,
  PreemptedStaysOut,
}
use Rattle.nvme_event.specs.declared.seen.FleetSeen.TheVariants.{Executed as ExecutedSeen}
use Rattle.nvme_mailbox.specs.Preempting.{Registers}
use Rattle.nvme_mailbox.proofs.IoExecutions.{ActsOn, Acts, Rests, Reserves, Loses, executed_as_the_policy_allows}
use Rattle.nvme_mailbox.proofs.Fenced.{step-acts, plainly}
use Rattle.nvme_mailbox.proofs.Numbered.{step, numbers_stay}
use Rattle.nvme_mailbox.proofs.Outsiders.{
  IsOut,
  IfActs,
  Removes,
  outcome-out,
  outcome-removes,
  world-out,
  removed-world,
  outsider-shut,
}
use Rattle.nvme_mailbox.proofs.Refused.{refused}

pub outsiders_may_not_write : OutsidersMayNotWrite
unfolding may_write reservation_of
outsiders_may_not_write w n k host is out held =
    ap (λ h. permits_group (namespace_of w n) h Writing) is
    ∙ outsider-shut (namespace_of w n) host held.reservation held.of (out held.reservation held.of) held.held

-- the reservation of an existing namespace
stands : (w : World) (n host : ℕ) → IsOutside w n host → (m : Namespace)
    → namespace_of w n ≡ Some m → IsOut host m.reservation
unfolding reservation_of
stands w n host out m at = out m.reservation (ap (λ o. option_map (λ (m : Namespace). m.reservation) o) at)

acted-out : (old new : World) (n k host : ℕ) (x : IoCommand) → ActsOn k x old new
    → (nsid x.entry ≡ n → command_of (opcode x.entry) ≡ Some ReservationRegister → host_of old k ≢ Some host)
    → IsOutside old n host → IsOutside new n host
unfolding reservation_outcome
acted-out old new n k host x h other out =
    subst (λ w. IsOutside w n host) (sym h.leaves)
    (world-out old (nsid x.entry) n host (reservation_outcome old k x.entry x.sent) out
    (λ same. outcome-out (command_of (opcode x.entry)) (namespace_of old (nsid x.entry))
    (host_of old k) x.entry x.sent host (other same)
    (stands old (nsid x.entry) host (subst (λ m. IsOutside old m host) (sym same) out))))

-- a power cycle registers nobody
cycled-out : (o : Option Reservation) (r : Reservation) (host : ℕ) → ((s : Reservation) → o ≡ Some s → IsOut host s)
    → option_map cycled_reservation o ≡ Some r → IsOut host r
cycled-out None r host out at = absurd (none-some _ at)
cycled-out (Some s) r host out at = subst (IsOut host) (same_Some _ _ at) (by s.ptpl)
  where
    by : (b : Bool) → IsOut host (if b then s else unreserved)
    by true = out s refl
    by false = refl

event-out : (old new : Fleet) (event : FleetEvent) (n host : ℕ) → AreNumbered old → Acts old new event
    → LeavesOutside n host old event → IsOutside old.site.world n host → IsOutside new.site.world n host
event-out old new event n host all (Rests h) quiet out = λ r at. out r (sym (h.reservations n) ∙ at)
event-out old new event n host all (Reserves k i number is x found numbered h) quiet out =
    acted-out old.site.world new.site.world n number host x h
    (λ same one sender. quiet (subst (Registers n host old) (sym is) (
      ap (host_of old.site.world) (sym (numbered all)) ∙ sender,
      record {
        command = x;
        found = found;
        is = record { names = same; is_one = ap (λ o. is_one_of o (ReservationRegister ∷ [])) one };
        allowed = h.allowed;
      },
    ))) out
event-out old new event n host all (Loses is world) quiet out =
    λ r at. cycled-out (reservation_of old.site.world n) r host out
    (sym (cycled-reservation-at old.site.world n) ∙ ap (λ w. reservation_of w n) (sym world) ∙ at)

pub outsiders_stay_outside : OutsidersStayOutside
outsiders_stay_outside tells old new [] [] n host all run out =
    subst (λ (f : Fleet). IsOutside f.site.world n host) (sym run) out
outsiders_stay_outside tells old new (event ∷ events) (x ∷ later) n host all run out =
    outsiders_stay_outside tells run.0 new events later n host (step tells old run.0 event x run.2 all) run.3
    (event-out old run.0 event n host all (step-acts tells old run.0 event x run.2) run.1 out)
outsiders_stay_outside tells old new events later n host all run out = absurd run

-- A preempted host.

acquires : (o : Option Command) → is_one_of o (ReservationAcquire ∷ []) ≡ true → o ≡ Some ReservationAcquire
acquires (Some ReservationAcquire) h = refl
acquires o h = absurd (cc)

pub preempted_is_outside : PreemptedIsOutside
unfolding reservation_outcome
preempted_is_outside tells old new n k i host x all p gone =
    let e : List ℕ = x.entry in
    let command : command_of (opcode e) ≡ Some ReservationAcquire = acquires (command_of (opcode e)) p.is.is_one in
    let v : verdict_on x ≡ Allowed (plan_of ReservationAcquire e) =
    ap (λ j. conclusion j (command_of (opcode e)) e) p.allowed ∙ ap (λ o. conclusion (Ok tt) o e) command in
    let h : HasItsEffect tells ReservationAcquire k x old.site p.outcome new.site =
    subst (λ v. IsExecutedBy v tells k x old.site p.outcome new.site) v
    (executed_as_the_policy_allows tells old new k i x p.outcome all p.step p.found) in
    let w : World = old.site.world in
    let removes : IfActs (Removes host) (reservation_outcome w k e x.sent) =
    subst (λ o. IfActs (Removes host) (outcome_in o (namespace_of w (nsid e)) (host_of w k) e x.sent)) (sym command)
    (outcome-removes (namespace_of w (nsid e)) (host_of w k) e x.sent host p.preempts) in
    subst (λ v. IsOutside v n host) (sym h.effect.world)
    (removed-world w (nsid e) n host (reservation_outcome w k e x.sent) p.is.names removes gone)

pub preempted_stays_out : PreemptedStaysOut
preempted_stays_out tells old mid last new n k i host x all p gone events replies run held j l y outcome sender found
    is execution =
    let numbered = step tells old mid (Execute k i) (plain (ExecutedSeen (Posted p.outcome))) p.step all in
    let out = outsiders_stay_outside tells mid last events replies n host numbered run
    (preempted_is_outside tells old mid n k i host x all p gone) in
    let still = numbers_stay tells mid last events replies
    (plainly (LeavesOutside n host) tells mid last events replies run) numbered in
    refused tells last new n j l y outcome still (outsiders_may_not_write last.site.world n j host sender out held)
    found is execution
