-- Proof of the law `tickets`: each ticket is delivered at most once, since the number of its possible deliveries
-- decreases with each.
use Rattle.std.proofs.Common.{
  ◌≡◌,
  ℕ,
  zero,
  suc,
  ◌+◌,
  ◌≤◌,
  ◌<◌,
  nat_lt,
  ◌&&◌,
  Bool,
  true,
  false,
  List,
  [],
  ◌∷◌,
  ◌++◌,
  length,
  map,
  Option,
  Some,
  None,
  Err,
  refl,
  sym,
  ap,
  ◌∙◌,
  arith,
  ⊎_elim,
}
use Rattle.std.specs.Prelude.{slice_set, position, is_none, if◌then◌else◌, ◌==◌}
use Rattle.std.specs.List.{position_or_len}
use Rattle.std.proofs.lemmas.Bool.{cases_lt, lt-ltb, le-ltb, eq-eqb, ne_eqb}
use Rattle.nvme_wire.specs.Completion.{cid, sq_head, sq_id}
use Rattle.nvme_spec.specs.Queues.{can_be_heard}
use Rattle.nvme_driver.specs.declared.lane.Lane.{Lane}
use Rattle.nvme_driver.specs.declared.lane.Lane.TheVariants.{Admin, Io}
use Rattle.nvme_driver.specs.declared.found.Found.{Found}
use Rattle.nvme_driver.specs.declared.slots.Waiting.{Waiting}
use Rattle.nvme_driver.specs.declared.ticket.Ticket.{Ticket}
use Rattle.nvme_driver.specs.declared.faults.PollFault.TheVariants.{NotUp}
use Rattle.nvme_driver.specs.Calls.{Call}
use Rattle.nvme_driver.specs.Layout.{queue_id}
use Rattle.nvme_driver.specs.Drivers.{
  Driver,
  Ends,
  new_driver,
  free_slot,
  abort,
  with_ends,
  is_up,
  ends,
  put_ends,
}
use Rattle.nvme_driver.specs.HostCommands.{placed_command, waiting_command}
use Rattle.nvme_driver.specs.Requests.{Asked, asked_of}
use Rattle.nvme_driver.specs.Polls.{
  Poll,
  waiting_at,
  aborted_at,
  aborted_ticket,
  ticket_of,
  IsOldest,
  live_in,
  answered,
  answered_poll,
  found_poll,
  found,
  polled,
  freed,
  consumed_ends,
  without_calls,
}
use Rattle.nvme_driver.specs.Once.{
  Event,
  Places,
  PlacesCommand,
  Polls,
  Resets,
  Stays,
  Happens,
  handed,
  handed_by,
  Run,
  times,
  bears,
  borne,
  HandsUpOutstanding,
  HandsUpOnce,
  PollsAreEvents,
}

-- a request is removed from its slot
pub taken : (t : ℕ) (slots : List (Option Waiting)) (i : ℕ) (w : Waiting) → waiting_at slots i ≡ Some w →
    bears t (Some w) + borne t (slice_set slots i None) ≡ borne t slots
taken t [] i w e = absurd (cc (e))
taken t (x ∷ xs) zero w e = let k : bears t x ≡ bears t (Some w) = ap (bears t) e in omega (arith, k)
taken t (x ∷ xs) (suc i) w e = let h = taken t xs i w e in omega (arith, h)

-- a request is put into a free slot
put-in : (t : ℕ) (slots : List (Option Waiting)) (i : ℕ) (w : Waiting) → i < length slots → waiting_at slots i ≡ None →
    borne t (slice_set slots i (Some w)) ≡ bears t (Some w) + borne t slots
put-in t [] i w h e = absurd (omega (arith, h))
put-in t (None ∷ xs) zero w h e = omega arith
put-in t (Some v ∷ xs) zero w h e = absurd (cc (e))
put-in t (x ∷ xs) (suc i) w h e = let k = put-in t xs i w (omega (arith, h)) e in omega (arith, k)

-- what a reset keeps
bears-aborted : (t : ℕ) (x : Option Waiting) → bears t (abort x) ≡ bears t x
bears-aborted t None = refl
bears-aborted t (Some w) = refl

borne-aborted : (t : ℕ) (slots : List (Option Waiting)) → borne t (map abort slots) ≡ borne t slots
borne-aborted t [] = refl
borne-aborted t (x ∷ xs) = let one = bears-aborted t x in let rest = borne-aborted t xs in omega (arith, one, rest)

slots-kept : (lane : Lane) (e : Ends) (d : Driver) → (with_ends lane e d).slots ≡ d.slots
slots-kept Admin e d = refl
slots-kept Io e d = refl

next-kept : (lane : Lane) (e : Ends) (d : Driver) → (with_ends lane e d).next ≡ d.next
next-kept Admin e d = refl
next-kept Io e d = refl

-- The effect of a poll on deliveries: its ticket is that of a request, which is removed; no ticket is issued.
record Hands (t : ℕ) (d : Driver) (p : Poll) : Type 0 where
  count : times t (handed_by p.answer) + borne t p.driver.slots ≡ borne t d.slots
  given : p.driver.next ≡ d.next

some-is : {A : Type 0} (x y : A) → Some x ≡ Some y → x ≡ y
some-is x y h = cc

-- an aborted request
aborted-by : (live : Bool) (u v : Ticket) → (if live then None else Some v) ≡ Some u → v ≡ u
aborted-by true u v e = absurd (cc (e))
aborted-by false u v e = some-is v u e

pub aborted-is : (x : Option Waiting) (u : Ticket)
    → aborted_ticket x ≡ Some u → (w : Waiting) × (x ≡ Some w) × (w.ticket ≡ u)
aborted-is None u e = absurd (cc (e))
aborted-is (Some w) u e = (w, refl, aborted-by w.live u w.ticket e)

hands-aborted : (t : ℕ) (d : Driver) (slot : ℕ) (window : List ℕ)
    → IsOldest d.slots (Some slot) → Hands t d (polled d (Some slot) window)
hands-aborted t d slot window h =
    let a = aborted-is (waiting_at d.slots slot) h.0 h.1 in
    let e : (ticket_of (aborted_at d.slots slot)).0 ≡ a.0.ticket.0 =
    ap (λ x. (ticket_of x).0) h.1 ∙ ap (λ (u : Ticket). u.0) (sym a.2) in
    let k = taken t d.slots slot a.0 a.1 in
    record {
      count = ap (λ u. times t (u ∷ []) + borne t (slice_set d.slots slot None)) e ∙ omega (arith, k);
      given = refl;
    }

-- an answered request
when-some : {A : Type 0} (b : Bool) (o : Option A) (w : A) → (if b then o else None) ≡ Some w → o ≡ Some w
when-some true o w e = e
when-some false o w e = absurd (cc (e))

live-is : (lane : Lane) (x : Option Waiting) (w : Waiting) → live_in lane x ≡ Some w → x ≡ Some w
live-is lane None w e = absurd (cc (e))
live-is lane (Some v) w e = when-some ((queue_id v.lane == queue_id lane) && v.live) (Some v) w e

answered-is : (d : Driver) (lane : Lane) (entry : List ℕ) (w : Waiting)
    → answered d lane entry ≡ Some w → waiting_at d.slots (cid entry) ≡ Some w
answered-is d lane entry w e =
    live-is lane (waiting_at d.slots (cid entry)) w
    (when-some ((sq_id entry == queue_id lane) && can_be_heard (ends lane d).tail (sq_head entry))
    (live_in lane (waiting_at d.slots (cid entry))) w e)

hands-answered : (t : ℕ) (d : Driver) (window : List ℕ) (lane : Lane) (entry : List ℕ) (o : Option Waiting) →
    ((w : Waiting) → o ≡ Some w → waiting_at d.slots (cid entry) ≡ Some w)
    → Hands t d (answered_poll d window lane entry o)
hands-answered t d window lane entry None h = record { count = omega arith; given = refl }
hands-answered t d window lane entry (Some w) h =
    let k = taken t d.slots (cid entry) w (h w refl) in
    let e = ap (borne t) (slots-kept lane (consumed_ends (ends lane d) (sq_head entry)) (freed d (cid entry))) in
    record {
      count = omega (arith, k, e);
      given = next-kept lane (consumed_ends (ends lane d) (sq_head entry)) (freed d (cid entry));
    }

hands-found : (t : ℕ) (d : Driver) (window : List ℕ) (o : Option Found) → Hands t d (found_poll d window o)
hands-found t d window None = record { count = omega arith; given = refl }
hands-found t d window (Some f) =
    hands-answered t d window f.lane f.entry (answered d f.lane f.entry) (λ w e. answered-is d f.lane f.entry w e)

hands-up : (t : ℕ) (d : Driver) (window : List ℕ) (b : Bool) →
    Hands t d (if b then found_poll d window (found d window) else without_calls (Err NotUp) d)
hands-up t d window true = hands-found t d window (found d window)
hands-up t d window false = record { count = omega arith; given = refl }

hands : (t : ℕ) (d : Driver) (oldest : Option ℕ) (window : List ℕ)
    → IsOldest d.slots oldest → Hands t d (polled d oldest window)
hands t d (Some slot) window h = hands-aborted t d slot window h
hands t d None window h = hands-up t d window (is_up d.state)

pub hands_up_outstanding : HandsUpOutstanding
hands_up_outstanding d oldest window t h e =
    let k = (hands t d oldest window h).count in
    let one : times t (handed_by (polled d oldest window).answer) ≡ 1 =
    ap (times t) e ∙ ap (λ b. (if b then 1 else 0) + 0) (eq-eqb t t refl) in
    omega (arith, k, one)

-- the number of possible deliveries of a ticket: in the slots, and 1 if it is not issued yet
abbrev pub ungiven : ℕ → ℕ → ℕ
ungiven t next = if nat_lt t next then 0 else 1

abbrev pub left : ℕ → Driver → ℕ
left t d = borne t d.slots + ungiven t d.next

-- the lowest free slot exists, and is free
free-at : (slots : List (Option Waiting)) → position_or_len is_none slots < length slots
    → waiting_at slots (position_or_len is_none slots) ≡ None
free-at [] h = absurd (omega (arith, h))
free-at (None ∷ xs) h = refl
free-at (Some w ∷ xs) h =
    let k = free-at xs (omega (arith, h)) in
    let e : 1 + position_or_len is_none xs ≡ suc (position_or_len is_none xs) = omega arith in
    ap (λ i. waiting_at (Some w ∷ xs) i) e ∙ k

first-free : (slots : List (Option Waiting)) (i : ℕ) → position is_none slots ≡ Some i
    → (i < length slots) × (waiting_at slots i ≡ None)
first-free slots i e =
    ⊎_elim {C = (i < length slots) × (waiting_at slots i ≡ None)}
    (λ (l : position_or_len is_none slots < length slots).
    (let t = lt-ltb (position_or_len is_none slots) (length slots) l in
    let is : position_or_len is_none slots ≡ i =
    some-is _ _ (sym (ap (λ b. if b then Some (position_or_len is_none slots) else None) t) ∙ e) in
    let k = free-at slots l in
    (omega (arith, l, is), ap (waiting_at slots) (sym is) ∙ k)))
    (λ (g : length slots ≤ position_or_len is_none slots).
    (let t = le-ltb (position_or_len is_none slots) (length slots) g in
    let no_one : None ≡ Some i = sym (ap (λ b. if b then Some (position_or_len is_none slots) else None) t) ∙ e in
    absurd (cc (no_one))))
    (cases_lt (position_or_len is_none slots) (length slots))

next-above : (t n : ℕ)
    → n ≤ t → (if n == t then 1 else 0) + (if nat_lt t (n + 1) then 0 else 1) ≡ (if nat_lt t n then 0 else 1)
next-above t n above =
    ⊎_elim {C = (if n == t then 1 else 0) + (if nat_lt t (n + 1) then 0 else 1) ≡ (if nat_lt t n then 0 else 1)}
    (λ (over : n < t).
    rw (ne_eqb n t (λ e. omega (arith, e, over)), le-ltb t (n + 1) (omega (arith, over)), le-ltb t n above) refl)
    (λ (under : t ≤ n).
    rw (eq-eqb n t (omega (arith, above, under)), lt-ltb t (n + 1) (omega (arith, under)), le-ltb t n above) refl)
    (cases_lt n t)

-- after a ticket is issued, it is no longer to be issued
next-given : (t n : ℕ) → (if n == t then 1 else 0) + (if nat_lt t (n + 1) then 0 else 1) ≡ (if nat_lt t n then 0 else 1)
next-given t n =
    ⊎_elim {C = (if n == t then 1 else 0) + (if nat_lt t (n + 1) then 0 else 1) ≡ (if nat_lt t n then 0 else 1)}
    (λ (below : t < n).
    rw (ne_eqb n t (λ e. omega (arith, e, below)), lt-ltb t (n + 1) (omega (arith, below)), lt-ltb t n below) refl)
    (λ (above : n ≤ t). next-above t n above)
    (cases_lt t n)

places : (t : ℕ) (d : Driver) (asked : Asked) (slot : ℕ)
    → free_slot d ≡ Some slot → left t (placed_command d asked slot) ≡ left t d
places t d asked slot e =
    let free = first-free d.slots slot e in
    let w : Waiting = waiting_command d asked in
    let mid : Driver = record d { next = d.next + 1; slots = slice_set d.slots slot (Some w) } in
    let k = put-in t d.slots slot w free.0 free.1 in
    let s = ap (borne t) (slots-kept asked.command.lane (put_ends (ends asked.command.lane d)) mid) in
    let n = ap (ungiven t) (next-kept asked.command.lane (put_ends (ends asked.command.lane d)) mid) in
    let g = next-given t d.next in
    omega (arith, k, s, n, g)

pub step : (t : ℕ) (event : Event) (d d' : Driver)
    → Happens event d d' → times t (handed event d) + left t d' ≡ left t d
step t (Places request slot) d d' h =
    let k : left t d' ≡ left t d = ap (left t) h.1 ∙ places t d (asked_of request) slot h.0 in
    omega (arith, k)
step t (PlacesCommand asked slot) d d' h =
    let k : left t d' ≡ left t d = ap (left t) h.1 ∙ places t d asked slot h.0 in
    omega (arith, k)
step t (Polls oldest window) d d' h =
    let k = (hands t d oldest window h.0).count in
    let g = ap (ungiven t) (hands t d oldest window h.0).given in
    ap (λ x. times t (handed_by (polled d oldest window).answer) + left t x) h.1 ∙ omega (arith, k, g)
step t Resets d d' h =
    let k : left t d' ≡ left t d = ap (left t) h ∙ ap (λ n. n + ungiven t d.next) (borne-aborted t d.slots) in
    omega (arith, k)
step t Stays d d' h =
    let slots = ap (borne t) h.0 in
    let next = ap (ungiven t) h.1 in
    omega (arith, slots, next)

times-append : (t : ℕ) (us vs : List ℕ) → times t (us ++ vs) ≡ times t us + times t vs
times-append t [] vs = omega arith
times-append t (u ∷ us) vs = let h = times-append t us vs in omega (arith, h)

run : (t : ℕ) (events : List Event) (d : Driver) (tickets : List ℕ) (d' : Driver)
    → Run events d tickets d' → times t tickets + left t d' ≡ left t d
run t [] d tickets d' h =
    let none = ap (times t) h.0 in
    let same = ap (left t) h.1 in
    omega (arith, none, same)
run t (event ∷ events) d tickets d' h =
    let first = step t event d h.0 h.2 in
    let rest = run t events h.0 h.1 d' h.4 in
    let all : times t tickets ≡ times t (handed event d) + times t h.1 =
    ap (times t) h.3 ∙ times-append t (handed event d) h.1 in
    omega (arith, first, rest, all)

at-most-one : (b : Bool) → (if b then 0 else 1) ≤ 1
at-most-one true = omega arith
at-most-one false = omega arith

pub hands_up_once : HandsUpOnce
hands_up_once first events tickets d t h =
    let k = run t events (new_driver first) tickets d h in
    let few = at-most-one (nat_lt t first) in
    omega (arith, k, few)

pub polls_are_events : {S : Type 0} (step : S → Call → S → Type 0) → PollsAreEvents step
polls_are_events step d d' old new result buffer p = record {
  event = Polls p.oldest p.window;
  happens = (p.is_oldest, p.driver);
  delivers = ap handed_by (sym p.gives);
}
