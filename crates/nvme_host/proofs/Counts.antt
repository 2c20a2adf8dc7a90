-- For the proof of the laws on tickets: each call of the driver keeps three counts of a ticket.
use Rattle.std.proofs.Common.{
  ◌≡◌,
  ℕ,
  zero,
  suc,
  ◌+◌,
  ◌≤◌,
  ◌<◌,
  ◌&&◌,
  Bool,
  true,
  false,
  List,
  [],
  ◌∷◌,
  map,
  Option,
  Some,
  None,
  Result,
  Ok,
  Err,
  refl,
  sym,
  ap,
  ◌∙◌,
  arith,
  ⊎_elim,
}
use Rattle.std.specs.Prelude.{OnOk, OnErr, IfOk, slice_set, if◌then◌else◌, ◌==◌}
use Rattle.std.proofs.lemmas.Bool.{cases_lt, lt-ltb, le-ltb, eq-eqb, ne_eqb}
use Rattle.nvme_wire.specs.Completion.{cid, sq_head, sq_id}
use Rattle.nvme_spec.specs.Queues.{can_be_heard}
use Rattle.nvme_driver.specs.declared.answer.Answer.{Answer}
use Rattle.nvme_driver.specs.declared.answer.Answer.TheVariants.{Done, Aborted}
use Rattle.nvme_driver.specs.declared.faults.PollFault.{PollFault}
use Rattle.nvme_driver.specs.declared.faults.PollFault.TheVariants.{NotUp, UnknownCommand}
use Rattle.nvme_driver.specs.declared.faults.PlaceRefusal.{PlaceRefusal}
use Rattle.nvme_driver.specs.declared.faults.PlaceRefusal.TheVariants.{
  NotReady,
  BadRequest,
  NoSlot,
  RingFull,
  TicketsExhausted,
}
use Rattle.nvme_driver.specs.declared.found.Found.{Found}
use Rattle.nvme_driver.specs.declared.lane.Lane.{Lane}
use Rattle.nvme_driver.specs.declared.lane.Lane.TheVariants.{Admin, Io}
use Rattle.nvme_driver.specs.declared.request.Request.{Request}
use Rattle.nvme_driver.specs.declared.slots.Waiting.{Waiting}
use Rattle.nvme_driver.specs.declared.ticket.Ticket.{Ticket}
use Rattle.nvme_driver.specs.Layout.{queue_id}
use Rattle.nvme_driver.specs.Drivers.{
  Driver,
  Ends,
  IsPlaced,
  abort,
  ends,
  is_up,
  place_refusal,
  put_ends,
  with_ends,
}
use Rattle.nvme_driver.specs.HostCommands.{IsCommandPlaced, command_refusal, waiting_command}
use Rattle.nvme_driver.specs.Requests.{Asked, asked_of}
use Rattle.nvme_driver.specs.Polls.{
  answered,
  answered_poll,
  consumed_ends,
  found,
  found_poll,
  freed,
  live_in,
  polled,
  waiting_at,
  without_calls,
}
use Rattle.nvme_driver.specs.Once as once
use Rattle.nvme_driver.specs.Once.{times, borne}
use Rattle.nvme_driver.proofs.Once as driver
use Rattle.nvme_host.specs.declared.open_driver.OpenDriver.{OpenDriver}
use Rattle.nvme_host.specs.Outcomes.{outcome_of, placed_of}
use Rattle.nvme_host.specs.Recording.{Records}
use Rattle.nvme_host.specs.Runs.{Tickets, no_tickets, deliveries, given_by, delivered_by, live_bears, live_borne}

-- The counts that a call keeps: a ticket is given once; a request that is delivered leaves its slot; and an answer is
-- that of a request which was not aborted.
pub record Counts (t : ℕ) (old new : Driver) (x : Tickets) : Type 0 where
  pub given : times t x.given + driver.ungiven t new.next ≡ driver.ungiven t old.next
  pub held : deliveries t x + borne t new.slots ≡ times t x.given + borne t old.slots
  pub live : times t x.done + (live_borne t new.slots + driver.ungiven t new.next)
      ≤ live_borne t old.slots + driver.ungiven t old.next

pub quiet : (t : ℕ) (old new : Driver) (x : Tickets) → new.slots ≡ old.slots → new.next ≡ old.next → x ≡ no_tickets
    → Counts t old new x
quiet t old new x slots next none =
    let n = ap (driver.ungiven t) next in
    let b = ap (borne t) slots in
    let l = ap (live_borne t) slots in
    let g = ap (λ (y : Tickets). times t y.given) none in
    let d = ap (λ (y : Tickets). times t y.done) none in
    let a = ap (λ (y : Tickets). times t y.aborted) none in
    record { given = omega (arith, n, g); held = omega (arith, b, g, d, a); live = omega (arith, n, l, d) }

pub stays : (t : ℕ) (old new : Driver) (x : Tickets) → new ≡ old → x ≡ no_tickets → Counts t old new x
stays t old new x same none =
    quiet t old new x (ap (λ (d : Driver). d.slots) same) (ap (λ (d : Driver). d.next) same) none

pub unchanged : (t : ℕ) (old new : OpenDriver) (x : Tickets) → new ≡ old → x ≡ no_tickets
    → Counts t old.driver new.driver x
unchanged t old new x same none = stays t old.driver new.driver x (ap (λ (h : OpenDriver). h.driver) same) none

-- slots
pub slots-kept : (lane : Lane) (e : Ends) (d : Driver) → (with_ends lane e d).slots ≡ d.slots
slots-kept Admin e d = refl
slots-kept Io e d = refl

pub next-kept : (lane : Lane) (e : Ends) (d : Driver) → (with_ends lane e d).next ≡ d.next
next-kept Admin e d = refl
next-kept Io e d = refl

-- a slot is set
pub live-set : (t : ℕ) (slots : List (Option Waiting)) (i : ℕ) (x : Option Waiting)
    → live_borne t (slice_set slots i x) ≤ live_bears t x + live_borne t slots
live-set t [] i x = omega arith
live-set t (y ∷ ys) zero x = omega arith
live-set t (y ∷ ys) (suc i) x = let h = live-set t ys i x in omega (arith, h)

-- a live request is removed from its slot
pub live-taken : (t : ℕ) (slots : List (Option Waiting)) (i : ℕ) (w : Waiting) → waiting_at slots i ≡ Some w
    → live_bears t (Some w) + live_borne t (slice_set slots i None) ≡ live_borne t slots
live-taken t [] i w e = absurd (cc (e))
live-taken t (x ∷ xs) zero w e =
    let k : live_bears t x ≡ live_bears t (Some w) = ap (live_bears t) e in omega (arith, k)
live-taken t (x ∷ xs) (suc i) w e = let h = live-taken t xs i w e in omega (arith, h)

-- a reset leaves none
pub none-live : (t : ℕ) (x : Option Waiting) → live_bears t (abort x) ≡ 0
none-live t None = refl
none-live t (Some w) = refl

pub none-left : (t : ℕ) (slots : List (Option Waiting)) → live_borne t (map abort slots) ≡ 0
none-left t [] = refl
none-left t (x ∷ xs) = let one = none-live t x in let rest = none-left t xs in omega (arith, one, rest)

-- a ticket is given
pub next-given : (t n : ℕ)
    → (if n == t then 1 else 0) + driver.ungiven t (n + 1) ≡ driver.ungiven t n
next-given t n =
    ⊎_elim {C = (if n == t then 1 else 0) + driver.ungiven t (n + 1) ≡ driver.ungiven t n}
    (λ (below : t < n).
    rw (ne_eqb n t (λ e. omega (arith, e, below)), lt-ltb t (n + 1) (omega (arith, below)), lt-ltb t n below) refl)
    (λ (above : n ≤ t). given-at t n above)
    (cases_lt t n)
  where
    given-at : (t n : ℕ) → n ≤ t → (if n == t then 1 else 0) + driver.ungiven t (n + 1) ≡ driver.ungiven t n
    given-at t n above =
        ⊎_elim {C = (if n == t then 1 else 0) + driver.ungiven t (n + 1) ≡ driver.ungiven t n}
        (λ (over : n < t).
        rw (ne_eqb n t (λ e. omega (arith, e, over)), le-ltb t (n + 1) (omega (arith, over)), le-ltb t n above) refl)
        (λ (under : t ≤ n).
        rw (eq-eqb n t (omega (arith, above, under)), lt-ltb t (n + 1) (omega (arith, under)), le-ltb t n above) refl)
        (cases_lt n t)

pub live-bound : (t : ℕ) (w : Waiting) → live_bears t (Some w) ≤ (if w.ticket.0 == t then 1 else 0)
live-bound t w = bound (w.ticket.0 == t) w.live
  where
    bound : (b live : Bool) → (if live then (if b then 1 else 0) else 0) ≤ (if b then 1 else 0)
    bound true true = omega arith
    bound true false = omega arith
    bound false true = omega arith
    bound false false = omega arith

pub places-command : (t : ℕ) (d d' : Driver) (asked : Asked) (slot : ℕ) (x : Tickets)
    → once.Happens (once.PlacesCommand asked slot) d d' → times t x.given ≡ (if d.next == t then 1 else 0)
    → times t x.done ≡ 0 → times t x.aborted ≡ 0 → Counts t d d' x
places-command t d d' asked slot x h given done aborted =
    let w : Waiting = waiting_command d asked in
    let e : Ends = put_ends (ends asked.command.lane d) in
    let mid : Driver = record d { next = d.next + 1; slots = slice_set d.slots slot (Some w) } in
    let all = driver.step t (once.PlacesCommand asked slot) d d' h in
    let n : d'.next ≡ d.next + 1 = ap (λ (y : Driver). y.next) h.1 ∙ next-kept asked.command.lane e mid in
    let u = ap (driver.ungiven t) n in
    let s : d'.slots ≡ slice_set d.slots slot (Some w) =
    ap (λ (y : Driver). y.slots) h.1 ∙ slots-kept asked.command.lane e mid in
    let l = ap (live_borne t) s in
    let more = live-set t d.slots slot (Some w) in
    let bound = live-bound t w in
    let g = next-given t d.next in
    record {
      given = omega (arith, given, u, g);
      held = omega (arith, given, done, aborted, u, g, all);
      live = omega (arith, done, u, l, more, bound, g);
    }

pub places : (t : ℕ) (d d' : Driver) (request : Request) (slot : ℕ) (x : Tickets)
    → once.Happens (once.Places request slot) d d' → times t x.given ≡ (if d.next == t then 1 else 0)
    → times t x.done ≡ 0 → times t x.aborted ≡ 0 → Counts t d d' x
places t d d' request slot x h given done aborted =
    places-command t d d' (asked_of request) slot x h given done aborted

pub given-count : (t : ℕ) (ticket : Ticket) (n : ℕ) → ticket ≡ record { 0 = n }
    → times t ((given_by (placed_of (Ok ticket))).given) ≡ (if n == t then 1 else 0)
given-count t ticket n e =
    ap (λ (k : Ticket). times t (k.0 ∷ [])) e ∙ plus-none (if n == t then 1 else 0)
  where
    plus-none : (k : ℕ) → k + 0 ≡ k
    plus-none k = omega arith

pub refused-none : (fault : PlaceRefusal) → given_by (placed_of (Err fault)) ≡ no_tickets
refused-none NotReady = refl
refused-none BadRequest = refl
refused-none NoSlot = refl
refused-none RingFull = refl
refused-none TicketsExhausted = refl

pub placed-by : (t : ℕ) (old new : OpenDriver) (request : Request) (result : Result Ticket PlaceRefusal) (x : Tickets)
    → OnErr result ((new.driver ≡ old.driver) × (new.port ≡ old.port))
    → IfOk result (λ ticket. (place_refusal old.driver request ≡ None) × (ticket ≡ record { 0 = old.driver.next }))
    → OnOk result (IsPlaced Records old.driver request old.port new.driver new.port)
    → x ≡ given_by (placed_of result) → Counts t old.driver new.driver x
placed-by t old new request (Ok ticket) x kept issued is are =
    places t old.driver new.driver request is.0 x (is.1, is.2)
    (ap (λ (y : Tickets). times t y.given) are ∙ given-count t ticket old.driver.next issued.1)
    (ap (λ (y : Tickets). times t y.done) are) (ap (λ (y : Tickets). times t y.aborted) are)
placed-by t old new request (Err fault) x kept issued is are =
    stays t old.driver new.driver x kept.0 (are ∙ refused-none fault)

pub placed-command-by : (t : ℕ) (old new : OpenDriver) (asked : Asked) (result : Result Ticket PlaceRefusal)
    (x : Tickets)
    → OnErr result ((new.driver ≡ old.driver) × (new.port ≡ old.port))
    → IfOk result (λ ticket. (command_refusal old.driver asked ≡ None) × (ticket ≡ record { 0 = old.driver.next }))
    → OnOk result (IsCommandPlaced Records old.driver asked old.port new.driver new.port)
    → x ≡ given_by (placed_of result) → Counts t old.driver new.driver x
placed-command-by t old new asked (Ok ticket) x kept issued is are =
    places-command t old.driver new.driver asked is.0 x (is.1, is.2)
    (ap (λ (y : Tickets). times t y.given) are ∙ given-count t ticket old.driver.next issued.1)
    (ap (λ (y : Tickets). times t y.done) are) (ap (λ (y : Tickets). times t y.aborted) are)
placed-command-by t old new asked (Err fault) x kept issued is are =
    stays t old.driver new.driver x kept.0 (are ∙ refused-none fault)

-- polling
pub next-up : (d : Driver) (window : List ℕ) (o : Option Found) → (found_poll d window o).driver.next ≡ d.next
next-up d window None = refl
next-up d window (Some f) = answered-next (answered d f.lane f.entry)
  where
    answered-next : (o : Option Waiting) → (answered_poll d window f.lane f.entry o).driver.next ≡ d.next
    answered-next None = refl
    answered-next (Some w) =
        next-kept f.lane (consumed_ends (ends f.lane d) (sq_head f.entry)) (freed d (cid f.entry))

pub next-if : (b : Bool) (d : Driver) (window : List ℕ)
    → (if b then found_poll d window (found d window) else without_calls (Err NotUp) d).driver.next ≡ d.next
next-if true d window = next-up d window (found d window)
next-if false d window = refl

pub next-polled : (d : Driver) (oldest : Option ℕ) (window : List ℕ) → (polled d oldest window).driver.next ≡ d.next
next-polled d (Some slot) window = refl
next-polled d None window = next-if (is_up d.state) d window

-- an answer is that of a live request
pub when-some : {A : Type 0} (b : Bool) (o : Option A) (w : A) → (if b then o else None) ≡ Some w
    → (b ≡ true) × (o ≡ Some w)
when-some true o w e = (refl, e)
when-some false o w e = absurd (cc (e))

pub and-right : (b c : Bool) → (b && c) ≡ true → c ≡ true
and-right true true e = refl
and-right true false e = absurd (cc (e))
and-right false c e = absurd (cc (e))

pub some-is : {A : Type 0} (x y : A) → Some x ≡ Some y → x ≡ y
some-is x y h = cc

pub live-is : (lane : Lane) (o : Option Waiting) (w : Waiting) → live_in lane o ≡ Some w
    → (o ≡ Some w) × (w.live ≡ true)
live-is lane None w e = absurd (cc (e))
live-is lane (Some v) w e =
    let k = when-some ((queue_id v.lane == queue_id lane) && v.live) (Some v) w e in
    let same : v ≡ w = some-is v w k.1 in
    (k.1, ap (λ (x : Waiting). x.live) (sym same) ∙ and-right (queue_id v.lane == queue_id lane) v.live k.0)

pub answered-is : (d : Driver) (lane : Lane) (entry : List ℕ) (w : Waiting) → answered d lane entry ≡ Some w
    → (waiting_at d.slots (cid entry) ≡ Some w) × (w.live ≡ true)
answered-is d lane entry w e =
    live-is lane (waiting_at d.slots (cid entry)) w
    (when-some ((sq_id entry == queue_id lane) && can_be_heard (ends lane d).tail (sq_head entry))
    (live_in lane (waiting_at d.slots (cid entry))) w e).1

-- the answers of a poll, and the live requests after it
abbrev pub done_in : ℕ → Result (Option Answer) PollFault → ℕ
done_in t answer = times t (delivered_by (outcome_of answer)).done

abbrev pub KeepsLive : ℕ → Driver → Result (Option Answer) PollFault → Driver → Type 0
KeepsLive t d answer d' = done_in t answer + live_borne t d'.slots ≤ live_borne t d.slots

pub live-answered : (t : ℕ) (d : Driver) (window : List ℕ) (lane : Lane) (entry : List ℕ) (o : Option Waiting)
    → ((w : Waiting) → o ≡ Some w → (waiting_at d.slots (cid entry) ≡ Some w) × (w.live ≡ true))
    → KeepsLive t d (answered_poll d window lane entry o).answer (answered_poll d window lane entry o).driver
live-answered t d window lane entry None h = omega arith
live-answered t d window lane entry (Some w) h =
    let is = h w refl in
    let taken = live-taken t d.slots (cid entry) w is.0 in
    let s = ap (live_borne t)
    (slots-kept lane (consumed_ends (ends lane d) (sq_head entry)) (freed d (cid entry))) in
    let live : live_bears t (Some w) ≡ (if w.ticket.0 == t then 1 else 0) =
    ap (λ (b : Bool). if b then (if w.ticket.0 == t then 1 else 0) else 0) is.1 in
    omega (arith, taken, s, live)

pub live-found : (t : ℕ) (d : Driver) (window : List ℕ) (o : Option Found)
    → KeepsLive t d (found_poll d window o).answer (found_poll d window o).driver
live-found t d window None = omega arith
live-found t d window (Some f) =
    live-answered t d window f.lane f.entry (answered d f.lane f.entry) (λ w e. answered-is d f.lane f.entry w e)

pub live-if : (t : ℕ) (b : Bool) (d : Driver) (window : List ℕ)
    → KeepsLive t d (if b then found_poll d window (found d window) else without_calls (Err NotUp) d).answer
    (if b then found_poll d window (found d window) else without_calls (Err NotUp) d).driver
live-if t true d window = live-found t d window (found d window)
live-if t false d window = omega arith

pub live-polled : (t : ℕ) (d : Driver) (oldest : Option ℕ) (window : List ℕ)
    → KeepsLive t d (polled d oldest window).answer (polled d oldest window).driver
live-polled t d (Some slot) window = let h = live-set t d.slots slot None in omega (arith, h)
live-polled t d None window = live-if t (is_up d.state) d window

pub delivered-is : (t : ℕ) (answer : Result (Option Answer) PollFault)
    → (times t (delivered_by (outcome_of answer)).given ≡ 0)
    × (deliveries t (delivered_by (outcome_of answer)) ≡ times t (once.handed_by answer))
delivered-is t (Ok None) = (refl, refl)
delivered-is t (Ok (Some (Done ticket status word len))) = (refl, omega arith)
delivered-is t (Ok (Some (Aborted ticket))) = (refl, omega arith)
delivered-is t (Err NotUp) = (refl, refl)
delivered-is t (Err UnknownCommand) = (refl, refl)

pub by-poll : (t : ℕ) (d d' : Driver) (answer : Result (Option Answer) PollFault) (oldest : Option ℕ) (window : List ℕ)
    → once.Happens (once.Polls oldest window) d d' → answer ≡ (polled d oldest window).answer
    → Counts t d d' (delivered_by (outcome_of answer))
by-poll t d d' answer oldest window h is =
    let all = driver.step t (once.Polls oldest window) d d' h in
    let n : d'.next ≡ d.next = ap (λ (x : Driver). x.next) h.1 ∙ next-polled d oldest window in
    let u = ap (driver.ungiven t) n in
    let said = delivered-is t answer in
    let handed = ap (λ (a : Result (Option Answer) PollFault). times t (once.handed_by a)) is in
    let done = ap (done_in t) is in
    let s = ap (λ (x : Driver). live_borne t x.slots) h.1 in
    let live = live-polled t d oldest window in
    record {
      given = omega (arith, said.0, u);
      held = omega (arith, said.0, said.1, handed, all, u);
      live = omega (arith, done, s, live, u);
    }
