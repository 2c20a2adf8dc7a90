-- Proof of the law `expiry`: each call but a reset keeps the stage, and gives no ticket.
use Rattle.std.proofs.Common.{
  ◌≡◌,
  ℕ,
  Bool,
  true,
  false,
  nat_lt,
  List,
  [],
  ◌∷◌,
  ◌++◌,
  Option,
  Some,
  None,
  refl,
  sym,
  ap,
  subst,
  ◌∙◌,
}
use Rattle.std.specs.Prelude.{is_none, if◌then◌else◌}
use Rattle.nvme_driver.specs.declared.lane.Lane.{Lane}
use Rattle.nvme_driver.specs.declared.request.Request.{Request}
use Rattle.nvme_driver.specs.declared.request.Request.TheVariants.{Identify}
use Rattle.nvme_driver.specs.Requests.{Asked}
use Rattle.nvme_host.specs.declared.completions.CompletionData.{CompletionData}
use Rattle.nvme_host.specs.declared.open_driver.OpenDriver.{OpenDriver}
use Rattle.nvme_host.specs.declared.outcome.Outcome.{Outcome}
use Rattle.nvme_host.specs.declared.outcome.Placed.{Placed}
use Rattle.nvme_host.specs.declared.stage.Stage.{Stage}
use Rattle.nvme_host.specs.declared.stage.Stage.TheVariants as at
use Rattle.nvme_host.specs.Calls.{
  Placing,
  Commanding,
  AskingIf,
  PollingUnless,
  RingingUnless,
  ShuttingUnless,
  Expiring,
  ExpiringUnless,
  ExpiringIf,
  BringingUpUnless,
  CheckingStatusBy,
  waits,
}
use Rattle.nvme_host.specs.Completions.{StoringCompletion, StoringCompletionUnless, StoringDataUnless}
use Rattle.nvme_host.specs.Outcomes.{refused}
use Rattle.nvme_host.specs.Recording.{is_pending}
use Rattle.nvme_host.specs.Refusals.{
  blocked_by,
  stopped_by,
  bring_up_refusal,
  bring_up_stage_refusal,
  first_of,
  request_refusal,
}
use Rattle.nvme_host.specs.Stages.{awaited_in, stage_refusal}
use Rattle.nvme_host.specs.Runs.{
  Use,
  Places,
  Identifies,
  Commands,
  Asks,
  Polls,
  Rings,
  Resets,
  ShutsDown,
  Expires,
  BringsUp,
  Judges,
  ChecksStatus,
  ReportsCompletion,
  StoresCompletion,
  StoresData,
  TakesActions,
  Tickets,
  no_tickets,
  given_by,
  Used,
  Uses,
  IsNoReset,
  HasNoReset,
  ExpiryStopsRequests,
}
use Rattle.nvme_host.proofs.Tickets.{IsRefusal, stopped-refuses}

-- the stage after a call, and the tickets that it gave
record Stays (new : OpenDriver) (x : Tickets) : Type 0 where
  stage : new.stage ≡ at.Expired
  given : x.given ≡ []

kept : (old new : OpenDriver) (x : Tickets) → old.stage ≡ at.Expired → new.stage ≡ old.stage → x ≡ no_tickets
    → Stays new x
kept old new x is same none = record { stage = same ∙ is; given = ap (λ (y : Tickets). y.given) none }

unchanged : (old new : OpenDriver) (x : Tickets) → old.stage ≡ at.Expired → new ≡ old → x ≡ no_tickets → Stays new x
unchanged old new x is same none = kept old new x is (ap (λ (h : OpenDriver). h.stage) same) none

-- a call that is refused at this stage
record Refuses (o : Option ℕ) : Type 0 where
  code : ℕ
  is : o ≡ Some code

stopped : (h : OpenDriver) → h.stage ≡ at.Expired → Refuses (stopped_by h)
stopped h is =
    subst (λ (s : Stage). Refuses (if is_pending h.port.actions.items then Some 19 else stage_refusal s)) (sym is)
    (either (is_pending h.port.actions.items))
  where
    either : (b : Bool) → Refuses (if b then Some 19 else Some 65)
    either true = record { code = 19; is = refl }
    either false = record { code = 65; is = refl }

placing : (o : Option ℕ) (old new : OpenDriver) (request : Request) (placed : Placed) (x : Tickets)
    → old.stage ≡ at.Expired → Refuses o → IsRefusal o → Placing o old request placed new → x ≡ given_by placed
    → Stays new x
placing None old new request placed x is r silent p are = absurd (cc (r.is))
placing (Some code) old new request placed x is r silent p are =
    unchanged old new x is p.1 (are ∙ (ap given_by p.0 ∙ silent))

commanding : (o : Option ℕ) (old new : OpenDriver) (identifies : Bool) (asked : Asked) (placed : Placed) (x : Tickets)
    → old.stage ≡ at.Expired → Refuses o → IsRefusal o → Commanding o old identifies asked placed new
    → x ≡ given_by placed → Stays new x
commanding None old new identifies asked placed x is r silent p are = absurd (cc (r.is))
commanding (Some code) old new identifies asked placed x is r silent p are =
    unchanged old new x is p.1 (are ∙ (ap given_by p.0 ∙ silent))

first-refuses : (a b : Option ℕ) → Refuses a → Refuses (first_of a b)
first-refuses None b r = absurd (cc (r.is))
first-refuses (Some code) b r = record { code = code; is = refl }

first-silent : (a b : Option ℕ) → Refuses a → IsRefusal a → IsRefusal (first_of a b)
first-silent None b r silent = absurd (cc (r.is))
first-silent (Some code) b r silent = silent

asking : (b : Bool) (old new : OpenDriver) (nsid : ℕ) (placed : Placed) (x : Tickets) → old.stage ≡ at.Expired
    → AskingIf b old nsid placed new → x ≡ given_by placed → Stays new x
asking true old new nsid placed x is a are = unchanged old new x is a.1 (are ∙ ap given_by a.0)
asking false old new nsid placed x is a are =
    let p = placing (stopped_by old) old a.mid _ placed x is (stopped old is) (stopped-refuses _ _) a.placed are in
    record { stage = a.stage ∙ p.stage; given = p.given }

polling : (o : Option ℕ) (old new : OpenDriver) (before buffer : List ℕ) (outcome : Outcome)
    → PollingUnless o old before outcome new buffer → new.stage ≡ old.stage
polling (Some code) old new before buffer outcome p = ap (λ (h : OpenDriver). h.stage) p.1
polling None old new before buffer outcome p = p.stage

ringing : (o : Option ℕ) (old new : OpenDriver) (code : ℕ) → RingingUnless o old code new → new.stage ≡ old.stage
ringing (Some reason) old new code r = ap (λ (h : OpenDriver). h.stage) r.1
ringing None old new code r = r.stage

shutting : (o : Option ℕ) (old new : OpenDriver) (code : ℕ) → Refuses o → ShuttingUnless o old code new
    → new.stage ≡ old.stage
shutting (Some reason) old new code s r = ap (λ (h : OpenDriver). h.stage) r.1
shutting None old new code s r = absurd (cc (s.is))

expiring : (o : Option ℕ) (t : ℕ) (old new : OpenDriver) (code : ℕ) → Refuses o → ExpiringUnless o old t code new
    → new.stage ≡ old.stage
expiring (Some reason) t old new code s r = ap (λ (h : OpenDriver). h.stage) r.1
expiring None t old new code s r = absurd (cc (s.is))

no-bring-up : (h : OpenDriver) → h.stage ≡ at.Expired → Refuses (bring_up_refusal h)
no-bring-up h is =
    subst (λ (s : Stage). Refuses (if is_pending h.port.actions.items then Some 19
    else (if is_none h.capabilities then Some 20 else bring_up_stage_refusal s))) (sym is)
    (either (is_pending h.port.actions.items) (is_none h.capabilities))
  where
    either : (b c : Bool) → Refuses (if b then Some 19 else (if c then Some 20 else Some 21))
    either true c = record { code = 19; is = refl }
    either false true = record { code = 20; is = refl }
    either false false = record { code = 21; is = refl }

bringing : (o : Option ℕ) (old new : OpenDriver) (outcome : Outcome) → Refuses o → BringingUpUnless o old outcome new
    → new.stage ≡ old.stage
bringing (Some code) old new outcome s b = ap (λ (h : OpenDriver). h.stage) b.1
bringing None old new outcome s b = absurd (cc (s.is))

checking : (old new : OpenDriver) (csts elapsed_ms code : ℕ) → old.stage ≡ at.Expired
    → CheckingStatusBy (awaited_in old.stage) old.capabilities old csts elapsed_ms code new → new.stage ≡ old.stage
checking old new csts elapsed_ms code is c =
    let by = subst (λ (s : Stage). CheckingStatusBy
    (awaited_in s) old.capabilities old csts elapsed_ms code new) is c in
    ap (λ (h : OpenDriver). h.stage) by.1

stored : (o : Option ℕ) (lane : Lane) (old new : OpenDriver) (entry : List ℕ) (outcome : CompletionData)
    → StoringCompletionUnless o lane old entry outcome new → new.stage ≡ old.stage
stored (Some code) lane old new entry outcome s = ap (λ (h : OpenDriver). h.stage) s.1
stored None lane old new entry outcome s = ap (λ (h : OpenDriver). h.stage) s.kept

storing : (lane : Option Lane) (old new : OpenDriver) (entry : List ℕ) (outcome : CompletionData)
    → StoringCompletion lane old entry outcome new → new.stage ≡ old.stage
storing None old new entry outcome s = ap (λ (h : OpenDriver). h.stage) s.1
storing (Some lane) old new entry outcome s = stored (blocked_by old) lane old new entry outcome s

storing-data : (o : Option ℕ) (old new : OpenDriver) (at : ℕ) (part : List ℕ) (code : ℕ)
    → StoringDataUnless o old at part code new → new.stage ≡ old.stage
storing-data (Some reason) old new at part code s = ap (λ (h : OpenDriver). h.stage) s.1
storing-data None old new at part code s = ap (λ (h : OpenDriver). h.stage) s.kept

step : (call : Use) (old : OpenDriver) (x : Tickets) (new : OpenDriver) → IsNoReset call → old.stage ≡ at.Expired
    → Used call old x new → Stays new x
step (Places nsid command span request) old x new no_reset is u =
    let r = stopped old is in
    placing (request_refusal old nsid command span) old new request u.0 x is (first-refuses (stopped_by old) _ r)
    (first-silent (stopped_by old) _ r (stopped-refuses _ _)) u.1 u.2
step (Identifies cns nsid) old x new no_reset is u =
    placing (stopped_by old) old new (Identify cns nsid) u.0 x is (stopped old is) (stopped-refuses _ _) u.1 u.2
step (Commands identifies asked) old x new no_reset is u =
    commanding (stopped_by old) old new identifies asked u.0 x is (stopped old is) (stopped-refuses _ _) u.1 u.2
step (Asks nsid) old x new no_reset is u = asking (nat_lt 64 nsid) old new nsid u.0 x is u.1 u.2
step Polls old x new no_reset is u = record {
  stage = polling (blocked_by old) old new u.0 u.2 u.1 u.3 ∙ is;
  given = ap (λ (y : Tickets). y.given) u.4;
}
step Rings old x new no_reset is u = kept old new x is (ringing (stopped_by old) old new u.0.0 u.0.1) u.1
step Resets old x new no_reset is u = absurd no_reset
step ShutsDown old x new no_reset is u =
    kept old new x is (shutting (stopped_by old) old new u.0.0 (stopped old is) u.0.1) u.1
step (Expires t) old x new no_reset is u =
    kept old new x is (expiring (stopped_by old) t old new u.0.0 (stopped old is) u.0.1) u.1
step BringsUp old x new no_reset is u =
    kept old new x is (bringing (bring_up_refusal old) old new u.0.0 (no-bring-up old is) u.0.1) u.1
step (Judges cap) old x new no_reset is u = kept old new x is (ap (λ (h : OpenDriver). h.stage) u.0.1.kept) u.1
step (ChecksStatus csts elapsed_ms) old x new no_reset is u =
    kept old new x is (checking old new csts elapsed_ms u.0.0 is u.0.1) u.1
step (ReportsCompletion bytes) old x new no_reset is u =
    kept old new x is (ap (λ (h : OpenDriver). h.stage) u.0.1.kept) u.1
step (StoresCompletion lane entry) old x new no_reset is u =
    kept old new x is (storing lane old new entry u.0.0 u.0.1) u.1
step (StoresData at part) old x new no_reset is u =
    kept old new x is (storing-data (blocked_by old) old new at part u.0.0 u.0.1) u.1
step TakesActions old x new no_reset is u = kept old new x is (ap (λ (h : OpenDriver). h.stage) u.0.3.kept) u.1

run : (calls : List Use) (old : OpenDriver) (x : Tickets) (new : OpenDriver) → HasNoReset calls
    → old.stage ≡ at.Expired → Uses calls old x new → Stays new x
run [] old x new no_reset is u = unchanged old new x is u.1 u.0
run (call ∷ later) old x new no_reset is u =
    let first = step call old u.1 u.0 no_reset.0 is u.3 in
    let rest = run later u.0 u.2 new no_reset.1 first.stage u.5 in
    let a = first.given in let b = rest.given in
    record {
      stage = rest.stage;
      given = ap (λ (y : Tickets). y.given) u.4 ∙ (λ i. a i ++ b i);
    }

-- a request expired if the code is 0
expired : (h : OpenDriver) (t : ℕ) (new : OpenDriver) → Expiring h t 0 new → new.stage ≡ at.Expired
expired h t new e = unless (stopped_by h) (stopped-refuses _ _) e
  where
    waiting : (b : Bool) → ExpiringIf b h 0 new → new.stage ≡ at.Expired
    waiting true e = ap (λ (k : OpenDriver). k.stage) e.1
    waiting false e = absurd (cc (e.0))

    unless : (o : Option ℕ) → IsRefusal o → ExpiringUnless o h t 0 new → new.stage ≡ at.Expired
    unless None silent e = waiting (waits t h.driver.slots) e
    unless (Some reason) silent e =
        let none = ap (λ (y : Tickets). y.given) (subst (λ (c : ℕ). given_by (refused c) ≡ no_tickets)
        (sym e.0) silent) in
        absurd (cc (none))

pub expiry_stops_requests : ExpiryStopsRequests
expiry_stops_requests t calls x old expired_now new e no_reset u =
    let s = run calls expired_now x new no_reset (expired old t expired_now e) u in (s.stage, s.given)
