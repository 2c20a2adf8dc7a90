-- Proof of the law `heads`: the port knows which completions the driver consumed, since each is one write of a head
-- doorbell.
use Rattle.std.proofs.Common.{
  ◌≡◌,
  ℕ,
  zero,
  suc,
  Bool,
  true,
  false,
  nat_lt,
  List,
  [],
  ◌∷◌,
  Option,
  Some,
  None,
  Result,
  Ok,
  Err,
  refl,
  sym,
  ap,
  subst,
  ◌∙◌,
  ◌≤◌,
  ◌<◌,
  length,
  ⊎_elim,
}
use Rattle.std.specs.Prelude.{OnOk, OnErr, MatchOption, if◌then◌else◌}
use Rattle.std.proofs.lemmas.Bool.{cases_lt}
use Rattle.nvme_wire.specs.declared.sqe.fields.SqeFields.{SqeFields}
use Rattle.nvme_wire.specs.declared.status.Status.{Status}
use Rattle.nvme_spec.specs.Queues.{CompletionHead, after_consumption}
use Rattle.nvme_device.specs.declared.status.Awaited.{Awaited}
use Rattle.nvme_device.specs.declared.capabilities.Capabilities.{Capabilities}
use Rattle.nvme_driver.specs.declared.faults.PlaceRefusal.{PlaceRefusal}
use Rattle.nvme_driver.specs.declared.faults.UpFault.{UpFault}
use Rattle.nvme_driver.specs.declared.found.Found.{Found}
use Rattle.nvme_driver.specs.declared.lane.Lane.{Lane}
use Rattle.nvme_driver.specs.declared.lane.Lane.TheVariants.{Admin, Io}
use Rattle.nvme_driver.specs.declared.request.Request.{Request}
use Rattle.nvme_driver.specs.declared.request.Request.TheVariants.{Identify}
use Rattle.nvme_driver.specs.declared.slots.Waiting.{Waiting}
use Rattle.nvme_driver.specs.declared.ticket.Ticket.{Ticket}
use Rattle.nvme_driver.specs.Calls.{Writes, Turns, Calls}
use Rattle.nvme_driver.specs.Layout.{tail_doorbell}
use Rattle.nvme_driver.specs.Drivers.{Driver, Ends, IsPlaced, with_ends, put_ends, ends, is_up, is_down, tail_of}
use Rattle.nvme_driver.specs.HostCommands.{IsCommandPlaced}
use Rattle.nvme_driver.specs.Requests.{Asked, asked_of}
use Rattle.nvme_driver.specs.Polls.{polled, found, found_poll, answered, answered_poll, without_calls, look}
use Rattle.nvme_driver.specs.Rises.{
  Rises,
  Awaits,
  Creates,
  CreatesBoth,
  CreatesSubmissions,
  Concludes,
  Hears,
  start_calls,
  sent,
  started,
  is_ready,
  fault_of,
  own_of,
}
use Rattle.nvme_host.specs.declared.doorbells.Doorbells.{Doorbells}
use Rattle.nvme_host.specs.declared.outcome.Outcome.{Outcome}
use Rattle.nvme_host.specs.declared.outcome.Placed.{Placed}
use Rattle.nvme_host.specs.declared.open_driver.OpenDriver.{OpenDriver}
use Rattle.nvme_host.specs.declared.completions.CompletionData.{CompletionData}
use Rattle.nvme_host.specs.declared.recording_port.Action.{Action}
use Rattle.nvme_host.specs.declared.recording_port.RecordingPort.{RecordingPort}
use Rattle.nvme_host.specs.Doorbells.{initial_doorbells, head_of_lane}
use Rattle.nvme_host.specs.Calls.{
  Placing,
  Commanding,
  AskingIf,
  PollingUnless,
  RingingUnless,
  ResettingUnless,
  ShuttingUnless,
  ExpiringUnless,
  ExpiringIf,
  waits,
  DriverBringsUp,
  BringingUpUnless,
  CheckingStatusBy,
  TakingActions,
}
use Rattle.nvme_host.specs.Refusals.{blocked_by, stopped_by, bring_up_refusal, request_refusal}
use Rattle.nvme_host.specs.Completions.{StoringCompletion, StoringCompletionUnless, StoringDataUnless}
use Rattle.nvme_host.specs.Recording.{Records}
use Rattle.nvme_host.specs.Stages.{awaited_in}
use Rattle.nvme_host.specs.Runs.{
  Use,
  Places,
  Identifies,
  Commands,
  Asks,
  Polls,
  Rings,
  Resets,
  ShutsDown,
  Expires,
  BringsUp,
  Judges,
  ChecksStatus,
  ReportsCompletion,
  StoresCompletion,
  StoresData,
  TakesActions,
  Tickets,
  Used,
  Uses,
  LooksWhereTheDriverLooks,
}

-- the heads of the port are those of the driver
record Follows (d : Driver) (b : Doorbells) : Type 0 where
  pub admin : b.admin_head ≡ d.admin.head
  pub io : b.io_head ≡ d.io.head

abbrev FollowsIn : OpenDriver → Type 0
FollowsIn h = Follows h.driver h.port.doorbells

-- the heads that two records of bells, or two drivers, have in common
record SameHeads (b c : Doorbells) : Type 0 where
  pub admin : c.admin_head ≡ b.admin_head
  pub io : c.io_head ≡ b.io_head

same_heads : (b c : Doorbells) → c ≡ b → SameHeads b c
same_heads b c e = record { admin = ap (λ (x : Doorbells). x.admin_head) e; io = ap (λ (x : Doorbells). x.io_head) e }

joined : (a b c : Doorbells) → SameHeads a b → SameHeads b c → SameHeads a c
joined a b c p q = record { admin = q.admin ∙ p.admin; io = q.io ∙ p.io }

record SameEnds (d e : Driver) : Type 0 where
  pub admin : e.admin.head ≡ d.admin.head
  pub io : e.io.head ≡ d.io.head

same_ends : (d e : Driver) → e ≡ d → SameEnds d e
same_ends d e same =
    record { admin = ap (λ (x : Driver). x.admin.head) same; io = ap (λ (x : Driver). x.io.head) same }

carried : (d e : Driver) (b c : Doorbells) → SameEnds d e → SameHeads b c → Follows d b → Follows e c
carried d e b c ends heads f =
    record { admin = heads.admin ∙ (f.admin ∙ sym ends.admin); io = heads.io ∙ (f.io ∙ sym ends.io) }

port_bells : (old new : RecordingPort) → new ≡ old → new.doorbells ≡ old.doorbells
port_bells old new e = ap (λ (p : RecordingPort). p.doorbells) e

unchanged : (old new : OpenDriver) → new ≡ old → FollowsIn old → FollowsIn new
unchanged old new e f = subst (λ (h : OpenDriver). FollowsIn h) (sym e) f

-- the bells and the driver are the same
kept : (old new : OpenDriver) → new.driver ≡ old.driver → new.port.doorbells ≡ old.port.doorbells → FollowsIn old
    → FollowsIn new
kept old new driver doorbells f =
    carried old.driver new.driver old.port.doorbells new.port.doorbells (same_ends old.driver new.driver driver)
    (same_heads old.port.doorbells new.port.doorbells doorbells) f

-- placing
put_ends_same : (lane : Lane) (d : Driver) (more : ℕ) (slots : List (Option Waiting))
    → SameEnds d (with_ends lane (put_ends (ends lane d)) (record d { next = more; slots = slots }))
put_ends_same Admin d more slots = record { admin = refl; io = refl }
put_ends_same Io d more slots = record { admin = refl; io = refl }

is_command_placed : (old new : OpenDriver) (asked : Asked)
    → IsCommandPlaced Records old.driver asked old.port new.driver new.port
    → FollowsIn old → FollowsIn new
is_command_placed old new asked p f =
    let calls = p.3 in
    let doorbells : new.port.doorbells ≡ old.port.doorbells =
    port_bells calls.2.2.0 new.port calls.2.2.2 ∙ (calls.2.2.1.doorbells ∙ (calls.2.1.doorbells ∙ calls.1.doorbells)) in
    let same : SameEnds old.driver new.driver =
    subst (λ (d : Driver). SameEnds old.driver d) (sym p.2) (put_ends_same asked.command.lane old.driver _ _) in
    carried old.driver new.driver old.port.doorbells new.port.doorbells same
    (same_heads old.port.doorbells new.port.doorbells doorbells) f

placed : (old new : OpenDriver) (request : Request) (result : Result Ticket PlaceRefusal)
    → OnErr result ((new.driver ≡ old.driver) × (new.port ≡ old.port))
    → OnOk result (IsPlaced Records old.driver request old.port new.driver new.port)
    → FollowsIn old → FollowsIn new
placed old new request (Ok ticket) same is f = is_command_placed old new (asked_of request) is f
placed old new request (Err fault) same is f = kept old new same.0 (port_bells old.port new.port same.1) f

placing : (refusal : Option ℕ) (old new : OpenDriver) (request : Request) (outcome : Placed)
    → Placing refusal old request outcome new → FollowsIn old → FollowsIn new
placing (Some code) old new request outcome p f = unchanged old new p.1 f
placing None old new request outcome p f = placed old new request p.result p.unchanged p.placed f

placed_command : (old new : OpenDriver) (asked : Asked) (result : Result Ticket PlaceRefusal)
    → OnErr result ((new.driver ≡ old.driver) × (new.port ≡ old.port))
    → OnOk result (IsCommandPlaced Records old.driver asked old.port new.driver new.port)
    → FollowsIn old → FollowsIn new
placed_command old new asked (Ok ticket) same is f = is_command_placed old new asked is f
placed_command old new asked (Err fault) same is f = kept old new same.0 (port_bells old.port new.port same.1) f

commanding : (refusal : Option ℕ) (old new : OpenDriver) (identifies : Bool) (asked : Asked) (outcome : Placed)
    → Commanding refusal old identifies asked outcome new → FollowsIn old → FollowsIn new
commanding (Some code) old new identifies asked outcome p f = unchanged old new p.1 f
commanding None old new identifies asked outcome p f = placed_command old new asked p.result p.unchanged p.placed f

asking : (b : Bool) (old new : OpenDriver) (nsid : ℕ) (outcome : Placed) → AskingIf b old nsid outcome new
    → FollowsIn old
    → FollowsIn new
asking true old new nsid outcome a f = unchanged old new a.1 f
asking false old new nsid outcome a f =
    kept a.mid new a.driver (port_bells a.mid.port new.port a.port)
    (placing (stopped_by old) old a.mid _ outcome a.placed f)

-- polling
on_answer : (d : Driver) (window : List ℕ) (lane : Lane) (entry : List ℕ) (o : Option Waiting) (old new : RecordingPort)
    → Calls Records old (answered_poll d window lane entry o).calls new → Follows d old.doorbells
    → Follows (answered_poll d window lane entry o).driver new.doorbells
on_answer d window lane entry None old new c f =
    carried d (answered_poll d window lane entry None).driver old.doorbells new.doorbells
    (record { admin = refl; io = refl })
    (same_heads old.doorbells new.doorbells (port_bells old new c)) f
on_answer d window Admin entry (Some w) old new c f =
    let doorbells = port_bells c.0 new c.2 ∙ c.1.doorbells in
    record {
      admin = ap (λ (x : Doorbells). x.admin_head) doorbells ∙ ap (λ (h : CompletionHead). after_consumption h) f.admin;
      io = ap (λ (x : Doorbells). x.io_head) doorbells ∙ f.io;
    }
on_answer d window Io entry (Some w) old new c f =
    let doorbells = port_bells c.0 new c.2 ∙ c.1.doorbells in
    record {
      admin = ap (λ (x : Doorbells). x.admin_head) doorbells ∙ f.admin;
      io = ap (λ (x : Doorbells). x.io_head) doorbells ∙ ap (λ (h : CompletionHead). after_consumption h) f.io;
    }

on_found : (d : Driver) (window : List ℕ) (o : Option Found) (old new : RecordingPort)
    → Calls Records old (found_poll d window o).calls new → Follows d old.doorbells
    → Follows (found_poll d window o).driver new.doorbells
on_found d window None old new c f =
    carried d d old.doorbells new.doorbells (same_ends d d refl) (same_heads old.doorbells new.doorbells
    (port_bells old new c)) f
on_found d window (Some x) old new c f = on_answer d window x.lane x.entry (answered d x.lane x.entry) old new c f

on_up : (b : Bool) (d : Driver) (window : List ℕ) (result : _) (old new : RecordingPort)
    → Calls Records old (if b then found_poll d window (found d window) else without_calls result d).calls new
    → Follows d old.doorbells
    → Follows (if b then found_poll d window (found d window) else without_calls result d).driver new.doorbells
on_up true d window result old new c f = on_found d window (found d window) old new c f
on_up false d window result old new c f =
    carried d d old.doorbells new.doorbells (same_ends d d refl) (same_heads old.doorbells new.doorbells
    (port_bells old new c)) f

on_poll : (d : Driver) (oldest : Option ℕ) (window : List ℕ) (old new : RecordingPort)
    → Calls Records old (polled d oldest window).calls new → Follows d old.doorbells
    → Follows (polled d oldest window).driver new.doorbells
on_poll d (Some slot) window old new c f =
    carried d (polled d (Some slot) window).driver old.doorbells new.doorbells (record { admin = refl; io = refl })
    (same_heads old.doorbells new.doorbells (port_bells old new c)) f
on_poll d None window old new c f = on_up (is_up d.state) d window _ old new c f

polling : (o : Option ℕ) (old new : OpenDriver) (before buffer : List ℕ) (outcome : Outcome)
    → PollingUnless o old before outcome new buffer → FollowsIn old → FollowsIn new
polling (Some code) old new before buffer outcome p f = unchanged old new p.1 f
polling None old new before buffer outcome p f =
    let by = p.polled in
    subst (λ (d : Driver). Follows d new.port.doorbells) (sym by.3)
    (on_poll old.driver by.0 old.port.window old.port new.port by.4 f)

-- ringing, resetting and shutting down
rings : (b : Bool) (d : Driver) (old new : RecordingPort)
    → Calls Records old (if b then Writes (tail_doorbell Admin) (tail_of d.admin)
    ∷ Writes (tail_doorbell Io) (tail_of d.io) ∷ [] else []) new
    → SameHeads old.doorbells new.doorbells
rings true d old new c =
    joined old.doorbells c.0.doorbells new.doorbells
    (record {
      admin = ap (λ (x : Doorbells). x.admin_head) c.1.doorbells;
      io = ap (λ
          (x : Doorbells). x.io_head) c.1.doorbells;
    })
    (let doorbells = port_bells c.2.0 new c.2.2 ∙ c.2.1.doorbells in
    record { admin = ap (λ (x : Doorbells). x.admin_head) doorbells; io = ap (λ (x : Doorbells). x.io_head) doorbells })
rings false d old new c = same_heads old.doorbells new.doorbells (port_bells old new c)

ringing : (o : Option ℕ) (old new : OpenDriver) (code : ℕ) → RingingUnless o old code new → FollowsIn old
    → FollowsIn new
ringing (Some reason) old new code r f = unchanged old new r.1 f
ringing None old new code r f =
    carried old.driver new.driver old.port.doorbells new.port.doorbells (same_ends old.driver new.driver r.driver)
    (rings (is_up old.driver.state) old.driver old.port new.port r.calls) f

resetting : (o : Option ℕ) (old new : OpenDriver) (code : ℕ) → ResettingUnless o old code new → FollowsIn old
    → FollowsIn new
resetting (Some reason) old new code r f = unchanged old new r.1 f
resetting None old new code r f =
    let doorbells : new.port.doorbells ≡ initial_doorbells =
    r.port.doorbells ∙ (port_bells r.calls.0 r.mid r.calls.2 ∙ r.calls.1.doorbells) in
    record {
      admin = ap (λ (x : Doorbells). x.admin_head) doorbells ∙ sym (ap (λ (x : Driver). x.admin.head) r.driver);
      io = ap (λ (x : Doorbells). x.io_head) doorbells ∙ sym (ap (λ (x : Driver). x.io.head) r.driver);
    }

shutting : (o : Option ℕ) (old new : OpenDriver) (code : ℕ) → ShuttingUnless o old code new → FollowsIn old
    → FollowsIn new
shutting (Some reason) old new code r f = unchanged old new r.1 f
shutting None old new code r f =
    kept old new r.driver (port_bells r.calls.0 new.port r.calls.2 ∙ r.calls.1.doorbells) f

expiring : (o : Option ℕ) (t : ℕ) (old new : OpenDriver) (code : ℕ) → ExpiringUnless o old t code new
    → FollowsIn old → FollowsIn new
expiring (Some reason) t old new code e f = unchanged old new e.1 f
expiring None t old new code e f = by-waiting (waits t old.driver.slots) e
  where
    by-waiting : (b : Bool) → ExpiringIf b old code new → FollowsIn new
    by-waiting true e =
        kept old new (ap (λ (h : OpenDriver). h.driver) e.1) (ap (λ (h : OpenDriver). h.port.doorbells) e.1) f
    by-waiting false e = unchanged old new e.1 f

-- a bring-up
found_same : (o : Option (List ℕ)) (e : Ends) (n : ℕ) (mid new : RecordingPort) (answer : Option (List ℕ))
    → (Awaits Records e n mid answer new → SameHeads mid.doorbells new.doorbells)
    → MatchOption o (Awaits Records e n mid answer new) (λ found. (answer ≡ Some found) × (new ≡ mid))
    → SameHeads mid.doorbells new.doorbells
found_same None e n mid new answer k m = k m
found_same (Some x) e n mid new answer k m = same_heads mid.doorbells new.doorbells (port_bells mid new m.1)

turned_same : (e : Ends) (old new : RecordingPort) (seen : Option (List ℕ))
    → Calls Records old (Turns ∷ look Admin e seen ∷ []) new → SameHeads old.doorbells new.doorbells
turned_same e old new seen (mid, turn, (last, sees, same)) =
    same_heads old.doorbells new.doorbells (port_bells mid new (same ∙ sees.1) ∙ turn.doorbells)

awaits_same : (e : Ends) (n : ℕ) (old new : RecordingPort) (answer : Option (List ℕ))
    → Awaits Records e n old answer new → SameHeads old.doorbells new.doorbells
unfolding Awaits
awaits_same e zero old new answer a = same_heads old.doorbells new.doorbells (port_bells old new a.1)
awaits_same e (suc n) old new answer (mid, seen, calls, next) =
    joined old.doorbells mid.doorbells new.doorbells (turned_same e old mid seen calls)
    (found_same (own_of e seen) e n mid new answer (awaits_same e n mid new answer) next)

hears_follow : (d d' : Driver) (answer : Option (List ℕ)) (old new : RecordingPort) (result : Option Status)
    → Hears Records d answer old result d' new → Follows d old.doorbells → Follows d' new.doorbells
hears_follow d d' None old new result h f =
    carried d d' old.doorbells new.doorbells (same_ends d d' h.1) (same_heads old.doorbells new.doorbells
    (port_bells old new h.2)) f
hears_follow d d' (Some entry) old new result h f =
    let c = h.2 in let doorbells = port_bells c.0 new c.2 ∙ c.1.doorbells in
    record {
      admin = ap (λ (x : Doorbells). x.admin_head) doorbells
          ∙ (ap (λ (x : CompletionHead). after_consumption x) f.admin ∙ sym (ap (λ (x : Driver). x.admin.head) h.1));
      io = ap (λ (x : Doorbells). x.io_head) doorbells ∙ (f.io ∙ sym (ap (λ (x : Driver). x.io.head) h.1));
    }

creates_follow : (command : SqeFields) (d d' : Driver) (old new : RecordingPort) (result : Option Status)
    → Creates Records command d old result d' new → Follows d old.doorbells → Follows d' new.doorbells
unfolding Creates
creates_follow command d d' old new result (rung, answer, seen, sends, awaits, hears) f =
    let doorbells = port_bells sends.2.0 rung sends.2.2 ∙ sends.2.1.doorbells in
    let put : SameHeads sends.0.doorbells rung.doorbells = record {
      admin = ap (λ (x : Doorbells). x.admin_head) doorbells;
      io = ap (λ (x : Doorbells). x.io_head) doorbells;
    } in
    let one : SameHeads old.doorbells rung.doorbells =
    joined old.doorbells sends.0.doorbells rung.doorbells
    (same_heads old.doorbells sends.0.doorbells sends.1.doorbells) put in
    let two = awaits_same (sent d).admin 4 rung seen answer awaits in
    let both : SameHeads old.doorbells seen.doorbells = joined old.doorbells rung.doorbells seen.doorbells one two in
    hears_follow (sent d) d' answer seen new result hears
    (carried d (sent d) old.doorbells seen.doorbells (record { admin = refl; io = refl }) both f)

concludes_follow : (o : Option UpFault) (result : Result (Unit {0}) UpFault) (d d' : Driver) (b : Doorbells)
    → Concludes o result d d' → Follows d b → Follows d' b
concludes_follow None result d d' b c f =
    record {
      admin = f.admin ∙ sym (ap (λ (x : Driver). x.admin.head) c.1);
      io = f.io ∙ sym (ap (λ (x : Driver). x.io.head) c.1);
    }
concludes_follow (Some fault) result d d' b c f =
    record {
      admin = f.admin ∙ sym (ap (λ (x : Driver). x.admin.head) c.1);
      io = f.io ∙ sym (ap (λ (x : Driver). x.io.head) c.1);
    }

submissions_follow : (o : Option UpFault) (d d' : Driver) (old new : RecordingPort) (result : Result (Unit {0}) UpFault)
    → CreatesSubmissions Records o d old result d' new → Follows d old.doorbells
    → Follows d' new.doorbells
submissions_follow (Some fault) d d' old new result c f =
    carried d d' old.doorbells new.doorbells (same_ends d d' c.1) (same_heads old.doorbells new.doorbells
    (port_bells old new c.2)) f
submissions_follow None d d' old new result (answer, left, creates, concludes) f =
    concludes_follow (fault_of answer) result left d' new.doorbells concludes
    (creates_follow _ d left old new answer creates f)

both_follow : (b : Bool) (d d' : Driver) (old new : RecordingPort) (result : Result (Unit {0}) UpFault)
    → CreatesBoth Records b d old result d' new → Follows d old.doorbells → Follows d' new.doorbells
both_follow false d d' old new result c f =
    carried d d' old.doorbells new.doorbells (same_ends d d' c.1) (same_heads old.doorbells new.doorbells
    (port_bells old new c.2)) f
both_follow true d d' old new result (answer, left, mid, creates, more) f =
    submissions_follow (fault_of answer) left d' mid new result more (creates_follow _ d left old mid answer creates f)

starts_empty : (value : ℕ) (old on : RecordingPort) → Calls Records old (start_calls value) on
    → on.doorbells ≡ initial_doorbells
starts_empty value old on c =
    port_bells c.2.2.2.2.2.2.2.2.2.2.2.0 on c.2.2.2.2.2.2.2.2.2.2.2.2
    ∙ (c.2.2.2.2.2.2.2.2.2.2.2.1.1.doorbells ∙ (c.2.2.2.2.2.2.2.2.2.2.1.doorbells ∙ (c.2.2.2.2.2.2.2.2.2.1.doorbells ∙
    (c.2.2.2.2.2.2.2.2.1.doorbells ∙ (c.2.2.2.2.2.2.2.1.doorbells ∙ (c.2.2.2.2.2.2.1.doorbells ∙
    (c.2.2.2.2.2.1.doorbells ∙ (c.2.2.2.2.1.doorbells ∙
    (c.2.2.2.1.doorbells ∙ (c.2.2.1.doorbells ∙ (c.2.1.doorbells ∙ c.1.doorbells)))))))))))

rises_follow : (d d' : Driver) (old new : RecordingPort) (result : Result (Unit {0}) UpFault)
    → Rises Records d old result d' new → Follows d' new.doorbells
unfolding Rises
rises_follow d d' old new result (value, on, calls, both) =
    let empty = starts_empty value old on calls in
    both_follow (is_ready value) (started d) d' on new result both
    (record { admin = ap (λ (x : Doorbells). x.admin_head) empty; io = ap (λ (x : Doorbells). x.io_head) empty })

bring_up : (b : Bool) (old new : OpenDriver) (result : Result (Unit {0}) UpFault) → is_down old.driver.state ≡ b
    → DriverBringsUp old result new → FollowsIn old → FollowsIn new
bring_up true old new result down r f =
    rises_follow old.driver new.driver r.start new.port result (r.rises down)
bring_up false old new result down r f =
    let same = r.already down in
    kept old new same.1 (port_bells r.start new.port same.2 ∙ r.begun.doorbells) f

bringing : (o : Option ℕ) (old new : OpenDriver) (outcome : Outcome) → BringingUpUnless o old outcome new
    → FollowsIn old → FollowsIn new
bringing (Some code) old new outcome b f = unchanged old new b.1 f
bringing None old new outcome b f =
    kept b.mid new b.driver b.port.doorbells (bring_up (is_down old.driver.state) old b.mid b.result refl b.bring_up f)

-- what the device shows
watching : (a : Option Awaited) (c : Option Capabilities) (old new : OpenDriver) (csts elapsed_ms code : ℕ)
    → CheckingStatusBy a c old csts elapsed_ms code new → FollowsIn old → FollowsIn new
watching None c old new csts elapsed_ms code w f = unchanged old new w.1 f
watching (Some a) None old new csts elapsed_ms code w f = unchanged old new w.1 f
watching (Some a) (Some c) old new csts elapsed_ms code w f =
    kept old new (ap (λ (h : OpenDriver). h.driver) w.kept) w.port.doorbells f

saw : (o : Option ℕ) (lane : Lane) (old new : OpenDriver) (entry : List ℕ) (outcome : CompletionData)
    → StoringCompletionUnless o lane old entry outcome new → FollowsIn old → FollowsIn new
saw (Some code) lane old new entry outcome s f = unchanged old new s.1 f
saw None lane old new entry outcome s f =
    kept old new (ap (λ (h : OpenDriver). h.driver) s.kept) (ap (λ (p : RecordingPort). p.doorbells) s.port) f

seeing : (lane : Option Lane) (old new : OpenDriver) (entry : List ℕ) (outcome : CompletionData)
    → StoringCompletion lane old entry outcome new
    → FollowsIn old → FollowsIn new
seeing None old new entry outcome s f = unchanged old new s.1 f
seeing (Some lane) old new entry outcome s f = saw (blocked_by old) lane old new entry outcome s f

taking : (o : Option ℕ) (old new : OpenDriver) (at : ℕ) (part : List ℕ) (code : ℕ)
    → StoringDataUnless o old at part code new
    → FollowsIn old → FollowsIn new
taking (Some reason) old new at part code t f = unchanged old new t.1 f
taking None old new at part code t f =
    kept old new (ap (λ (h : OpenDriver). h.driver) t.kept) (ap (λ (p : RecordingPort). p.doorbells) t.port) f

taken_bells : (old new : OpenDriver) (before : List Action) (count : ℕ) (after : List Action)
    → TakingActions old before count after new → new.port.doorbells ≡ old.port.doorbells
taken_bells old new before count after t =
    ⊎_elim {C = new.port.doorbells ≡ old.port.doorbells}
    (λ (short : length before < length old.port.actions.items). (t.refused short).2.doorbells)
    (λ (fits : length old.port.actions.items ≤ length before). (t.taken fits).3.doorbells)
    (cases_lt (length before) (length old.port.actions.items))

follows : (call : Use) (old : OpenDriver) (tickets : Tickets) (new : OpenDriver) → Used call old tickets new
    → FollowsIn old
    → FollowsIn new
follows (Places nsid command span request) old tickets new u f =
    placing (request_refusal old nsid command span) old new request u.0 u.1 f
follows (Identifies cns nsid) old tickets new u f =
    placing (stopped_by old) old new (Identify cns nsid) u.0 u.1 f
follows (Commands identifies asked) old tickets new u f =
    commanding (stopped_by old) old new identifies asked u.0 u.1 f
follows (Asks nsid) old tickets new u f = asking (nat_lt 64 nsid) old new nsid u.0 u.1 f
follows Polls old tickets new u f = polling (blocked_by old) old new u.0 u.2 u.1 u.3 f
follows Rings old tickets new u f = ringing (stopped_by old) old new u.0.0 u.0.1 f
follows Resets old tickets new u f = resetting (blocked_by old) old new u.0.0 u.0.1 f
follows ShutsDown old tickets new u f = shutting (stopped_by old) old new u.0.0 u.0.1 f
follows (Expires t) old tickets new u f = expiring (stopped_by old) t old new u.0.0 u.0.1 f
follows BringsUp old tickets new u f = bringing (bring_up_refusal old) old new u.0.0 u.0.1 f
follows (Judges cap) old tickets new u f =
    kept old new (ap (λ (h : OpenDriver). h.driver) u.0.1.kept) (ap (λ (p : RecordingPort). p.doorbells) u.0.1.port) f
follows (ChecksStatus csts elapsed_ms) old tickets new u f =
    watching (awaited_in old.stage) old.capabilities old new csts elapsed_ms u.0.0 u.0.1 f
follows (ReportsCompletion bytes) old tickets new u f =
    kept old new (ap (λ (h : OpenDriver). h.driver) u.0.1.kept) u.0.1.port.doorbells f
follows (StoresCompletion lane entry) old tickets new u f = seeing lane old new entry u.0.0 u.0.1 f
follows (StoresData at part) old tickets new u f = taking (blocked_by old) old new at part u.0.0 u.0.1 f
follows TakesActions old tickets new u f =
    kept old new (ap (λ (h : OpenDriver). h.driver) u.0.3.kept) (taken_bells old new u.0.0 u.0.1 u.0.2 u.0.3) f

follow : (uses : List Use) (old : OpenDriver) (tickets : Tickets) (new : OpenDriver) → Uses uses old tickets new
    → FollowsIn old
    → FollowsIn new
follow [] old tickets new u f = unchanged old new u.1 f
follow (call ∷ later) old tickets new u f = follow later u.0 u.2 new u.5 (follows call old u.1 u.0 u.3 f)

pub looks_where_the_driver_looks : LooksWhereTheDriverLooks
looks_where_the_driver_looks bytes first uses tickets old new begins u =
    let f : FollowsIn new = follow uses old tickets new u (record {
      admin = ap (λ (b : Doorbells). b.admin_head) begins.port.doorbells
          ∙ sym (ap (λ (d : Driver). d.admin.head) begins.driver);
      io = ap (λ (b : Doorbells). b.io_head) begins.port.doorbells ∙ sym (ap (λ (d : Driver). d.io.head) begins.driver);
    }) in
    by_lane f
  where
    by_lane : FollowsIn new → (lane : Lane) → head_of_lane lane new.port.doorbells ≡ (ends lane new.driver).head
    by_lane f Admin = f.admin
    by_lane f Io = f.io
