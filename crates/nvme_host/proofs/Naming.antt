-- Proof of the law `answers`: a poll that delivers an answer found a completion whose slot holds a live request.
use Rattle.std.proofs.Common.{
  ◌≡◌,
  ℕ,
  Bool,
  true,
  false,
  List,
  Option,
  Some,
  None,
  Err,
  refl,
  sym,
  ap,
  subst,
  ◌∙◌,
}
use Rattle.std.specs.Prelude.{if◌then◌else◌}
use Rattle.nvme_wire.specs.Completion.{cid}
use Rattle.nvme_driver.specs.declared.faults.PollFault.TheVariants.{NotUp}
use Rattle.nvme_driver.specs.declared.found.Found.{Found}
use Rattle.nvme_driver.specs.declared.lane.Lane.{Lane}
use Rattle.nvme_driver.specs.declared.lane.Lane.TheVariants.{Admin, Io}
use Rattle.nvme_driver.specs.declared.slots.Waiting.{Waiting}
use Rattle.nvme_driver.specs.Drivers.{Driver, ends, is_up}
use Rattle.nvme_driver.specs.Polls.{
  Poll,
  answered,
  answered_poll,
  found,
  found_in,
  found_or,
  found_poll,
  is_new,
  next_entry,
  polled,
  waiting_at,
  without_calls,
}
use Rattle.nvme_host.specs.declared.open_driver.OpenDriver.{OpenDriver}
use Rattle.nvme_host.specs.declared.outcome.Outcome.{Outcome}
use Rattle.nvme_host.specs.Calls.{PollingUnless}
use Rattle.nvme_host.specs.Outcomes.{outcome_of}
use Rattle.nvme_host.specs.Runs.{NamesItsRequest, AnswersNameTheirRequests}
use Rattle.nvme_host.proofs.Counts.{answered-is, some-is}

-- the answer of a poll is named
abbrev IsNamed : Driver → List ℕ → Poll → Type 0
IsNamed d window p = (outcome_of p.answer).code ≡ 1 → NamesItsRequest d window (outcome_of p.answer).ticket

by-answer : (d : Driver) (window : List ℕ) (lane : Lane) (entry : List ℕ) (o : Option Waiting)
    → ((w : Waiting) → o ≡ Some w → (waiting_at d.slots (cid entry) ≡ Some w) × (w.live ≡ true))
    → entry ≡ next_entry lane (ends lane d) window → IsNamed d window (answered_poll d window lane entry o)
by-answer d window lane entry None h next code = absurd (cc (code))
by-answer d window lane entry (Some w) h next code = record {
  lane = lane;
  request = w;
  waits = ap (λ (e : List ℕ). waiting_at d.slots (cid e)) (sym next) ∙ (h w refl).0;
  live = (h w refl).1;
  own = refl;
}

-- a completion that is found is the next one of its lane
found-next : (d : Driver) (window : List ℕ) (b c : Bool) (f : Found)
    → found_or (found_in Admin (if b then Some (next_entry Admin d.admin window) else None))
    (found_in Io (if c then Some (next_entry Io d.io window) else None)) ≡ Some f
    → f.entry ≡ next_entry f.lane (ends f.lane d) window
found-next d window true c f e =
    subst (λ (g : Found). g.entry ≡ next_entry g.lane (ends g.lane d) window) (some-is _ f e) refl
found-next d window false true f e =
    subst (λ (g : Found). g.entry ≡ next_entry g.lane (ends g.lane d) window) (some-is _ f e) refl
found-next d window false false f e = absurd (cc (e))

by-found : (d : Driver) (window : List ℕ) (o : Option Found)
    → ((f : Found) → o ≡ Some f → f.entry ≡ next_entry f.lane (ends f.lane d) window)
    → IsNamed d window (found_poll d window o)
by-found d window None h code = absurd (cc (code))
by-found d window (Some f) h code =
    by-answer d window f.lane f.entry (answered d f.lane f.entry) (λ w e. answered-is d f.lane f.entry w e) (h f refl)
    code

by-state : (d : Driver) (window : List ℕ) (b : Bool)
    → IsNamed d window (if b then found_poll d window (found d window) else without_calls (Err NotUp) d)
by-state d window true code =
    by-found d window (found d window)
    (λ f e. found-next d window (is_new d.admin (next_entry Admin d.admin window))
    (is_new d.io (next_entry Io d.io window)) f e) code
by-state d window false code = absurd (cc (code))

by-poll : (d : Driver) (oldest : Option ℕ) (window : List ℕ) → IsNamed d window (polled d oldest window)
by-poll d (Some slot) window code = absurd (cc (code))
by-poll d None window code = by-state d window (is_up d.state) code

polling : (b : Bool) (old : OpenDriver) (before : List ℕ) (outcome : Outcome) (new : OpenDriver) (buffer : List ℕ)
    → PollingUnless (if b then Some 19 else None) old before outcome new buffer → outcome.code ≡ 1
    → NamesItsRequest old.driver old.port.window outcome.ticket
polling true old before outcome new buffer p code =
    let e : 19 ≡ 1 = sym (ap (λ (x : Outcome). x.code) p.0) ∙ code in absurd (cc (e))
polling false old before outcome new buffer p code =
    let by = p.polled in
    let is : outcome ≡ outcome_of (polled old.driver by.0 old.port.window).answer = p.gives ∙ ap outcome_of by.2 in
    subst (λ (x : Outcome). NamesItsRequest old.driver old.port.window x.ticket) (sym is)
    (by-poll old.driver by.0 old.port.window (sym (ap (λ (x : Outcome). x.code) is) ∙ code))

pub answers_name_their_requests : AnswersNameTheirRequests
answers_name_their_requests old before outcome new buffer p code = polling _ old before outcome new buffer p code
