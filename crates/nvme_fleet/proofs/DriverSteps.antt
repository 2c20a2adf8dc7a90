-- For the answers of `bring_up`, `place`, `ring`, `poll` and `reset`: a driver's call over a link is the step of its
-- mailbox, exactly its events of the controller, leaves all else, and makes no call of the medium.
use Rattle.nvme_fleet.proofs.Words.{
  Admin,
  AllByRecursion,
  AlreadyUp,
  Answer,
  Bool,
  CallOverMedium,
  CallStep,
  Calls,
  ComesUp,
  Consumes,
  Down,
  Driver,
  Err,
  Failed,
  IfErr,
  IfOk,
  Io,
  IsMapped,
  LinkStep,
  Linked,
  List,
  Mailbox,
  MediumCall,
  None,
  NotUp,
  Ok,
  OnErr,
  OnOk,
  Option,
  OverMedium,
  PlaceRefusal,
  Places,
  PollFault,
  Polls,
  Ran,
  Reaches,
  Request,
  Resets,
  Result,
  Rings,
  Rises,
  Seen,
  Setting,
  Some,
  Sound,
  Subsystem,
  Ticket,
  Up,
  UpFault,
  Writes,
  [],
  after_reset,
  ap,
  asked_of,
  consumed_ends,
  ends,
  events_of_calls,
  head_of,
  if◌then◌else◌,
  is_down,
  is_failed,
  is_ok,
  is_up,
  length,
  linked_setting,
  polled,
  refl,
  reset_calls,
  ring_calls,
  rises-mapped,
  rung_reply,
  sq_head,
  stores_of,
  submission_of,
  subst,
  sym,
  tail_doorbell,
  tail_of,
  take,
  window_at,
  ℕ,
  ◌+◌,
  ◌∙◌,
  ◌∷◌,
  ◌≡◌,
  linked_controller,
  mailbox,
  MailboxReaction,
  Reply,
  false,
  true,
}
use Rattle.nvme_driver.specs.declared.answer.Answer.TheVariants.{Done}
use Rattle.nvme_driver.specs.declared.state.State.{State}
use Rattle.nvme_driver.specs.Drivers as driver
use Rattle.nvme_driver.specs.Polls as poll
use Rattle.nvme_driver.specs.Ports.{IsStill}
use Rattle.nvme_driver.proofs.Still.{polls-still}
use Rattle.nvme_machine.specs.Subsystems.{Run}
use Rattle.nvme_event.specs.declared.seen.FleetSeen.TheVariants as seen
use Rattle.nvme_mailbox.specs.Deliveries as mail
use Rattle.nvme_refinement.proofs.AdminTurns.{IsAdmin}
use Rattle.nvme_fleet.proofs.LinkCalls.{
  HasDone,
  IsFresh,
  IsSameName,
  calls-made,
  done,
  fresh-call,
  none-ran,
  fresh-start,
  window-there,
}
use Rattle.nvme_refinement.proofs.PlaceStep.{place_is_a_step, refusal_is_a_step}
use Rattle.nvme_refinement.proofs.Places.{no-way}
use Rattle.nvme_refinement.proofs.PlainCalls.{IsUndone, by-poll, plain-polled, plain-ring}
use Rattle.nvme_refinement.proofs.PollStep.{poll_is_a_step}
use Rattle.nvme_refinement.proofs.Resetting.{reset_is_a_step}
use Rattle.nvme_refinement.proofs.RingStep.{ring_is_a_step}
use Rattle.nvme_refinement.proofs.RiseStep.{bring_up_is_a_step}

nothing-ran : (tells : Bool) (old new : Subsystem) → Ran tells old [] new → new ≡ old
nothing-ran tells old new ([], h) = h
nothing-ran tells old new (s ∷ given, h) = absurd h

-- Placing makes three stores, in the slot that was free, or none if it is refused.
abbrev slot_in : Option ℕ → ℕ
slot_in None = 0
slot_in (Some slot) = slot

pub places : {M : Type 0} (step : M → MediumCall → M → Type 0)
    (tells : Bool) (d e : Driver) (p q : OverMedium Linked M) (request : Request) (result : Result Ticket PlaceRefusal)
    → Sound d (linked_controller p.state) → Reaches p.state → IsSameName p q
    → IfErr result (λ why. driver.place_refusal d request ≡ Some why) → OnErr result ((e ≡ d) × (q ≡ p))
    → IfOk result (λ ticket. (driver.place_refusal d request ≡ None) × (ticket ≡ record { 0 = d.next }))
    → OnOk result (driver.IsPlaced (CallOverMedium step tells) d request p e q)
    → OnOk result
    (driver.HoldsItsRequest d (linked_controller p.state).window (linked_controller q.state).window request)
    → HasDone (mail.placed (mailbox d (linked_controller p.state)) request) e p q (mail.plain (seen.Placed result))
    (Places tells (p.state.place + 1) request d p.state.subsystem result e q.state.subsystem)
places {M} step tells d e p q request (Err why) s at name refused unchanged taken put holds =
    let made = calls-made step tells [] p q tt at.0 unchanged.1 in
    done tells [] _ d e p q _ _ _ at.0 name made (refusal_is_a_step d (linked_controller p.state) request why s refused)
    unchanged.0 refl
    (unchanged.0, nothing-ran tells p.state.subsystem q.state.subsystem made.ran)
places step tells d e p q request (Ok ticket) s at name refused unchanged taken (slot, free, is, calls)
    (other, same, held) =
    let says : submission_of (driver.entry_of request slot) ≡ driver.entry_fields (asked_of request) slot =
    subst (λ k. submission_of (driver.entry_of request k) ≡ driver.entry_fields (asked_of request) k)
    (ap slot_in (sym same ∙ free)) held.says in
    let made = calls-made step tells (stores_of d request slot) p q tt at.0 calls in
    done tells (stores_of d request slot) _ (driver.placed d request slot) e p q _ _ _ at.0 name made
    (place_is_a_step d (linked_controller p.state) request slot s taken.0 free says) is
    (ap (λ t. mail.plain (seen.Placed (Ok t))) taken.1) (slot, free, is, made.ran)

-- Ringing writes both tail doorbells, if the driver is up.
rung-as : (result : Result (Unit {0}) NotUp) (b : Bool)
    → is_ok result ≡ b → mail.plain (seen.Rung result) ≡ rung_reply b
rung-as (Ok u) b h = ap rung_reply h
rung-as (Err e) b h = ap rung_reply h

rings-if : (tells up : Bool) (k : ℕ) (result : Result (Unit {0}) NotUp) (d e : Driver) (old new : Subsystem)
    → is_ok result ≡ up → e ≡ d
    → Ran tells old (events_of_calls k
    (if up then Writes (tail_doorbell Admin) (tail_of d.admin) ∷ Writes (tail_doorbell Io) (tail_of d.io) ∷ [] else []))
    new → Rings tells k d old result e new
rings-if tells true k (Ok x) d e old new is same h = (same, h)
rings-if tells false k (Ok x) d e old new is same h = absurd (cc)
rings-if tells true k (Err x) d e old new is same h = absurd (cc)
rings-if tells false k (Err x) d e old new is same h = (same, nothing-ran tells old new h)

pub rings : {M : Type 0} (step : M → MediumCall → M → Type 0) (tells : Bool) (d e : Driver) (p q : OverMedium Linked M)
    (result : Result (Unit {0}) NotUp) → Sound d (linked_controller p.state) → Reaches p.state → IsSameName p q → e ≡ d
    → is_ok result ≡ is_up d.state → Calls (CallOverMedium step tells) p (ring_calls d) q
    → HasDone (mail.rung (mailbox d (linked_controller p.state))) e p q (mail.plain (seen.Rung result))
    (Rings tells (p.state.place + 1) d p.state.subsystem result e q.state.subsystem)
rings step tells d e p q result s at name same is calls =
    let made = calls-made step tells (ring_calls d) p q (plain-ring (is_up d.state) _ _ _ _) at.0 calls in
    done tells (ring_calls d) _ d e p q _ _ _ at.0 name made (ring_is_a_step d (linked_controller p.state) s) same
    (rung-as result (is_up d.state) is)
    (rings-if tells (is_up d.state) (p.state.place + 1) result d e p.state.subsystem q.state.subsystem is same made.ran)

-- Polling writes a head doorbell exactly if it delivers a completion's answer.
abbrev Consumed : Bool → ℕ → poll.Poll → Subsystem → Subsystem → Type 0
Consumed tells k x old new = Ran tells old (events_of_calls k x.calls) new → Consumes tells k old x.answer new

undone-consumes : (tells : Bool) (k : ℕ) (answer : Result (Option Answer) PollFault) (old new : Subsystem)
    → IsUndone answer → new ≡ old → Consumes tells k old answer new
undone-consumes tells k (Ok (Some (Done ticket status dw0 len))) old new u h = absurd u
undone-consumes tells k answer old new u h = h

for-polled : (tells : Bool) (k : ℕ) (d : Driver) (window : List ℕ) (oldest : Option ℕ) (old new : Subsystem)
    → Consumed tells k (polled d oldest window) old new
for-polled tells k d window oldest old new =
    by-poll (λ x. Consumed tells k x old new)
    (λ answer u e h. undone-consumes tells k answer old new u (nothing-ran tells old new h))
    (λ v e lane entry w h. (lane, head_of (consumed_ends (ends lane e) (sq_head entry)), h)) d oldest window

-- Looks and loads leave the link, and return what is in the window of its controller.
abbrev window_of_link : {M : Type 0} → OverMedium Linked M → List ℕ
window_of_link p = window_at p.state.subsystem (p.state.place + 1)

stays : {M : Type 0} (tells : Bool) (p q : OverMedium Linked M) (given : List Seen)
    → Run tells p.state.subsystem [] given q.state.subsystem → q.state.place ≡ p.state.place
    → q.state.name ≡ p.state.name → q.medium ≡ p.medium → q ≡ p
stays tells p q given run place name medium =
    let same = none-ran tells p.state.subsystem q.state.subsystem given run in
    λ i. record { state = record { subsystem = same i; place = place i; name = name i }; medium = medium i }

still : {M : Type 0} (step : M → MediumCall → M → Type 0) (tells : Bool)
    → IsStill (CallOverMedium step tells) window_of_link
still step tells = record {
  sees = λ lane head expected seen p q h. (
    h.over.step.answers,
    stays tells p q h.over.step.given h.over.step.run h.over.place h.over.name h.medium,
  );
  loads = λ at part p q h. (
    h.over.step.answers,
    stays tells p q h.over.step.given h.over.step.run h.over.place h.over.name h.medium,
  );
}

-- with the bytes of the mailbox's reply at the front of the buffer
polls-over : {M : Type 0} (step : M → MediumCall → M → Type 0) (tells : Bool)
    (d e : Driver) (p q : OverMedium Linked M) (result : Result (Option Answer) PollFault) (buffer : List ℕ)
    → Sound d (linked_controller p.state) → Reaches p.state
    → IsSameName p q
    → poll.IsPolledOver (CallOverMedium step tells) d (linked_controller p.state).window p result e q buffer
    → HasDone (mail.polled (mailbox d (linked_controller p.state))) e p q
    (record { seen = seen.Polled result; bytes = (mail.polled (mailbox d (linked_controller p.state))).reply.bytes })
    (Polls tells (p.state.place + 1) d p.state.subsystem result e q.state.subsystem)
    × (take (length (mail.polled (mailbox d (linked_controller p.state))).reply.bytes) buffer
    ≡ (mail.polled (mailbox d (linked_controller p.state))).reply.bytes)
polls-over step tells d e p q result buffer s at name (oldest, is, gives, after, calls, front) =
    let a : Subsystem = p.state.subsystem in
    let k : ℕ = p.state.place + 1 in
    let w : List ℕ = (linked_controller p.state).window in
    let x : poll.Poll = polled d oldest w in
    let step_is = poll_is_a_step d (linked_controller p.state) oldest s is in
    let bytes : (mail.polled (mailbox d (linked_controller p.state))).reply.bytes ≡ x.bytes =
    ap (λ (r : Reply). r.bytes) step_is.gives in
    let made = calls-made step tells x.calls p q (plain-polled d oldest w) at.0 calls in
    let same : w ≡ window_at a k = sym (window-there a k p.state.place refl at.0) in (
      done tells x.calls _ x.driver e p q _ _ _ at.0 name made step_is after
          (λ i. record { seen = seen.Polled (gives i); bytes = bytes i }) (record {
            oldest = oldest;
            is_oldest = is;
            gives = subst (λ v. result ≡ (polled d oldest v).answer) same gives;
            driver = subst (λ v. e ≡ (polled d oldest v).driver) same after;
            ran =
                subst (λ v. Ran tells a (events_of_calls k (polled d oldest v).calls) q.state.subsystem) same made.ran;
            consumes = subst (λ r. Consumes tells k a r q.state.subsystem) (sym gives)
                (for-polled tells k d w oldest a q.state.subsystem made.ran);
          }),
      subst (λ xs. take (length xs) buffer ≡ xs) (sym bytes) front,
    )

pub polls : {M : Type 0} (step : M → MediumCall → M → Type 0) (tells : Bool)
    (d e : Driver) (p q : OverMedium Linked M) (result : Result (Option Answer) PollFault) (buffer : List ℕ)
    → Sound d (linked_controller p.state) → Reaches p.state
    → IsSameName p q
    → poll.IsPolled (CallOverMedium step tells) d p result e q buffer
    → HasDone (mail.polled (mailbox d (linked_controller p.state))) e p q
    (record { seen = seen.Polled result; bytes = (mail.polled (mailbox d (linked_controller p.state))).reply.bytes })
    (Polls tells (p.state.place + 1) d p.state.subsystem result e q.state.subsystem)
    × (take (length (mail.polled (mailbox d (linked_controller p.state))).reply.bytes) buffer
    ≡ (mail.polled (mailbox d (linked_controller p.state))).reply.bytes)
polls step tells d e p q result buffer s at name h =
    let same : (linked_controller p.state).window ≡ window_of_link p =
    sym (window-there p.state.subsystem (p.state.place + 1) p.state.place refl at.0) in
    polls-over step tells d e p q result buffer s at name
    (subst (λ w. poll.IsPolledOver (CallOverMedium step tells) d w p result e q buffer) (sym same)
    (polls-still (CallOverMedium step tells) window_of_link (still step tells) d e p q result buffer h))

-- Resetting writes 0 to Controller Configuration.
pub resets : {M : Type 0} (step : M → MediumCall → M → Type 0) (tells : Bool) (d e : Driver) (p q : OverMedium Linked M)
    → Sound d (linked_controller p.state) → Reaches p.state → IsSameName p q → e ≡ after_reset d
    → Calls (CallOverMedium step tells) p reset_calls q
    → HasDone (mail.reset (mailbox d (linked_controller p.state))) e p q (mail.plain seen.Reset)
    (Resets tells (p.state.place + 1) d p.state.subsystem e q.state.subsystem)
resets step tells d e p q s at name is calls =
    let made = calls-made step tells reset_calls p q tt at.0 calls in
    done tells reset_calls _ (after_reset d) e p q _ _ _ at.0 name made
    (reset_is_a_step d (linked_controller p.state) s) is refl (is, made.ran)

-- Bringing up.

-- its effect
abbrev HasRisen : {M : Type 0} → Bool → Driver → Driver → OverMedium Linked M → OverMedium Linked M
    → Result (Unit {0}) UpFault → Type 0
HasRisen tells d e p q result =
    HasDone (mail.brought_up (mailbox d (linked_controller p.state))) e p q (mail.plain (seen.Up result))
    (ComesUp tells (p.state.place + 1) d p.state.subsystem result e q.state.subsystem)

stays-up : {M : Type 0} (step : M → MediumCall → M → Type 0) (tells : Bool) (d e : Driver) (p q : OverMedium Linked M)
    (result : Result (Unit {0}) UpFault) → Sound d (linked_controller p.state) → Reaches p.state → IsSameName p q
    → is_up d.state ≡ true → result ≡ Err AlreadyUp → e ≡ d → q ≡ p → HasRisen tells d e p q result
stays-up step tells d e p q result s at name up is same h =
    let m : Mailbox = mailbox d (linked_controller p.state) in
    let still : mail.brought_up m ≡ record { mailbox = m; reply = mail.plain (seen.Up (Err AlreadyUp)) } = rw up refl in
    let made = calls-made step tells [] p q tt at.0 h in
    done tells [] _ d e p q (mail.plain (seen.Up (Err AlreadyUp))) _ _ at.0 name made
    (record {
      sound = s;
      mail = ap (λ (x : MailboxReaction). x.mailbox) still;
      gives = ap (λ (x : MailboxReaction). x.reply) still;
    }) same (ap (λ r. mail.plain (seen.Up r)) is)
    (subst (λ r. ComesUp tells (p.state.place + 1) d p.state.subsystem r e q.state.subsystem) (sym is)
    (same, nothing-ran tells p.state.subsystem q.state.subsystem made.ran))

comes-up : {M : Type 0} (step : M → MediumCall → M → Type 0) (tells : Bool) (d e : Driver) (p q : OverMedium Linked M)
    (result : Result (Unit {0}) UpFault) → Sound d (linked_controller p.state) → Reaches p.state → IsSameName p q
    → d.state ≡ Down → Rises (CallOverMedium step tells) d p result e q → HasRisen tells d e p q result
comes-up {M} step tells d e p q result s at name down h =
    let k : ℕ = p.state.place + 1 in
    let fresh : IsFresh p p =
    fresh-start p at (subst (AllByRecursion IsAdmin) (sym (s.down (ap is_up down)).fetched) tt) in
    let setting : OverMedium Linked M → Setting = λ x. linked_setting x.state in
    let subsystem : OverMedium Linked M → Subsystem = λ x. x.state.subsystem in
    let there : IsMapped setting (CallOverMedium step tells) (LinkStep tells) (IsFresh p) =
    record { call = λ call x y f one. fresh-call step tells p call x y f one } in
    let below : IsMapped subsystem (CallOverMedium step tells) (CallStep tells k) (IsFresh p) = record {
      call = λ call x y f one. (
        subst (λ n. CallStep tells (n + 1) x.state.subsystem call y.state.subsystem) f.place one.over.step,
        (fresh-call step tells p call x y f one).1,
      );
    } in
    let one =
    rises-mapped setting (CallOverMedium step tells) (LinkStep tells) (IsFresh p) there d e p q result fresh h in
    let two =
    rises-mapped subsystem (CallOverMedium step tells) (CallStep tells k) (IsFresh p) below d e p q result fresh h in
    let r = bring_up_is_a_step tells d e (linked_setting p.state) (linked_setting q.state) result s down one.0 in
    let says : (mail.brought_up (mailbox d (linked_controller p.state))).reply ≡ mail.plain (seen.Up (Ok tt)) =
    rw (ap is_up down) refl in
    record {
      step =
          record { sound = r.sound; mail = r.mail; gives = says ∙ ap (λ x. mail.plain (seen.Up x)) (sym r.answered) };
      site = record {
        cntlid = r.cntlid;
        world = r.world;
        device = r.device;
        others = one.1.others;
        place = one.1.place;
        name = cc (name);
      };
      below = subst (λ x. ComesUp tells k d p.state.subsystem x e q.state.subsystem) (sym r.answered)
          (subst (λ x. Rises (CallStep tells k) d p.state.subsystem x e q.state.subsystem)
          r.answered two.0);
      medium = one.1.medium;
    }

rises-by : {M : Type 0} (step : M → MediumCall → M → Type 0) (tells : Bool) (d e : Driver)
    (p q : OverMedium Linked M) (result : Result (Unit {0}) UpFault) (state : State)
    → d.state ≡ state → Sound d (linked_controller p.state) → Reaches p.state
    → IsSameName p q → (is_down state ≡ false → (result ≡ Err AlreadyUp) × (e ≡ d) × (q ≡ p))
    → (is_down state ≡ true → Rises (CallOverMedium step tells) d p result e q)
    → HasRisen tells d e p q result
rises-by step tells d e p q result Down is s at name already rises =
    comes-up step tells d e p q result s at name is (rises refl)
rises-by step tells d e p q result Up is s at name already rises = let a = already refl in
    stays-up step tells d e p q result s at name (ap is_up is) a.0 a.1 a.2
rises-by step tells d e p q result Failed is s at name already rises =
    absurd (no-way true (ap is_failed (sym is) ∙ (s.both.each Admin).failed) refl)

pub rises : {M : Type 0} (step : M → MediumCall → M → Type 0) (tells : Bool) (d e : Driver) (p q : OverMedium Linked M)
    (result : Result (Unit {0}) UpFault) → Sound d (linked_controller p.state) → Reaches p.state → IsSameName p q
    → (is_down d.state ≡ false → (result ≡ Err AlreadyUp) × (e ≡ d) × (q ≡ p))
    → (is_down d.state ≡ true → Rises (CallOverMedium step tells) d p result e q)
    → HasRisen tells d e p q result
rises step tells d e p q result s at name already up =
    rises-by step tells d e p q result d.state refl s at name already up
