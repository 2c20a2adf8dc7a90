-- For the laws on calls: the calls of the medium that the events of a fleet make, by the laws of the machine.
use Rattle.nvme_fleet.proofs.Words.{
  ◌≡◌,
  true,
  [],
  ◌∷◌,
  ◌++◌,
  refl,
  sym,
  ap,
  subst,
  ◌∙◌,
  arith,
  Outcome,
  Posted,
  Seen,
  Execute,
  AreCallsOfRun,
  told,
}
use Rattle.nvme_spec.specs.FaultFreeCalls.{content_step}
use Rattle.nvme_spec.specs.MediumCalls.{Calls}
use Rattle.nvme_spec.proofs.PassingCalls.{content-alone, calls-split}
use Rattle.nvme_machine.specs.declared.event.Event.TheVariants as event
use Rattle.nvme_machine.specs.declared.seen.Seen.TheVariants as given
use Rattle.nvme_machine.specs.EventCalls as machine
use Rattle.nvme_machine.proofs.CallLaws as machine_laws
use Rattle.nvme_event.specs.declared.seen.FleetSeen.TheVariants as seen
use Rattle.nvme_fleet.specs.CallLaws.{
  StepsHaveCalls,
  RunsHaveCalls,
  StepCallsAreUnique,
  RunCallsAreUnique,
  FlushedIsOneFlush,
}
use Rattle.nvme_fleet.proofs.LayerCalls.{layer_calls_are_of_a_step, layer_calls_are_of_a_run}
use Rattle.nvme_fleet.proofs.Unique.{AreCalm, count, happens-once, layers-alone, low, run-counted, step-counted}

-- Each step and each run has calls.

pub steps_have_calls : StepsHaveCalls
steps_have_calls tells old new (Execute k i) reply h =
    let below = h.below in
    let some =
    machine_laws.steps_have_calls tells old.subsystem new.subsystem (event.Execute k i) below.given below.step in (
      some.0,
      record {
        mailboxes = h.mailboxes;
        below = record { given = below.given; step = some.1; gives = below.gives; drivers = below.drivers };
      },
    )
steps_have_calls tells old new event reply h = ([], record { mailboxes = h.mailboxes; below = (h.below, refl) })

pub runs_have_calls : RunsHaveCalls
runs_have_calls tells old new [] [] h = ([], (h, refl))
runs_have_calls tells old new (e ∷ events) (reply ∷ later) h =
    let here = steps_have_calls tells old h.0 e reply h.1 in
    let behind = runs_have_calls tells h.0 new events later h.2 in
    (here.0 ++ behind.0, (h.0, here.0, behind.0, here.1, behind.1, refl))
runs_have_calls tells old new events later h = absurd h

-- They are one list.

pub step_calls_are_unique : StepCallsAreUnique
step_calls_are_unique tells old new other (Execute k i) reply another calls these content left right h g made also =
    machine_laws.step_calls_are_unique tells old.subsystem new.subsystem other.subsystem
    (event.Execute k i) h.below.given g.below.given calls these content left right h.below.step g.below.step made also
step_calls_are_unique tells old new other event reply another calls these content left right h g made also =
    g.below.1 ∙ sym h.below.1

pub run_calls_are_unique : RunCallsAreUnique
run_calls_are_unique old new other [] [] [] calls these content left right all h g made also a b below = g.1 ∙ sym h.1
run_calls_are_unique old new other [] (x ∷ later) others calls these content left right all h g made also a b
    below = absurd h
run_calls_are_unique old new other [] [] (y ∷ others) calls these content left right all h g made also a b
    below = absurd g
run_calls_are_unique old new other (e ∷ events) [] others calls these content left right all h g made also a b
    below = absurd h
run_calls_are_unique old new other (e ∷ events) (x ∷ later) [] calls these content left right all h g made also a b
    below = absurd g
run_calls_are_unique old new other (e ∷ events) (x ∷ later) (y ∷ others) calls these content left right all
    (mid, here, behind, step, run, joined) (now, own, rest, stepped, ran, made_of) made also a b below =
    let s =
    calls-split content_step here behind content left (subst (λ cs. Calls content_step content cs left) joined made) in
    let t =
    calls-split content_step own rest content right (subst (λ cs. Calls content_step content cs right) made_of also) in
    let one = layer_calls_are_of_a_step true old mid e x here step in
    let two = layer_calls_are_of_a_step true old now e y own stepped in
    let p = step-counted old mid e x one in
    let q = run-counted mid new events later (layer_calls_are_of_a_run true mid new events later behind run) in
    let p' = step-counted old now e y two in
    let q' = run-counted now other events others (layer_calls_are_of_a_run true now other events others rest ran) in
    let calm : AreCalm old.subsystem mid.subsystem now.subsystem =
    record { one = omega (arith, p, q, a); two = omega (arith, p', q', b); below = below } in
    let same : now ≡ mid = (layers-alone old mid now e x y calm all one two).1 in
    let first : own ≡ here =
    step_calls_are_unique true old mid now e x y here own content s.mid t.mid step stepped s.first t.first in
    let reached : t.mid ≡ s.mid =
    content-alone here content s.mid t.mid s.first (subst (λ cs. Calls content_step content cs t.mid) first t.first) in
    let after : rest ≡ behind = run_calls_are_unique mid new other events later others behind rest s.mid left right
    (happens-once true old mid e x.seen one.below all) run
    (subst (λ l. AreCallsOfRun true l events others other rest) same ran) s.rest
    (subst (λ c. Calls content_step c rest right) reached t.rest)
    (a ∙ sym calm.one) (b ∙ sym calm.one) (low mid.subsystem (count old.subsystem) calm.one below) in
    made_of ∙ (ap (λ cs. cs ++ rest) first ∙ (ap (λ cs. here ++ cs) after ∙ sym joined))

-- A Flush.

-- the result of the fleet's event is that of the subsystem's
given-is : (x : Seen) (o : Outcome) → told x ≡ seen.Executed (Posted o) → x ≡ given.Executed (Posted o)
given-is (given.Executed e) o h = let same : seen.Executed e ≡ seen.Executed (Posted o) = h in cc
given-is other o h = absurd (cc)

pub flushed_is_one_flush : FlushedIsOneFlush
flushed_is_one_flush tells old new k i reply outcome calls h posted flush ok =
    let is = given-is h.below.given outcome (sym h.below.gives ∙ posted) in
    machine_laws.flushed_is_one_flush tells old.subsystem new.subsystem k i outcome calls
    (subst (λ x. machine.AreCallsOfStep tells old.subsystem (event.Execute k i) x new.subsystem calls) is h.below.step)
    flush ok
