-- For the law on events and `nvme_fleet`: a reset over both lanes (queue pairs) aborts all open requests, by rising
-- tickets.
use Rattle.nvme_refinement.proofs.Words.{
  item_in,
  rising,
  waiting_at,
  empty_box,
  open_tickets,
  tickets_in,
  FetchedItem,
  cid,
  abort,
  Waiting,
  most_bytes,
  ◌≡◌,
  ℕ,
  ◌+◌,
  ◌≤◌,
  List,
  [],
  ◌∷◌,
  ◌++◌,
  length,
  map,
  refl,
  ap,
  sym,
  ◌∙◌,
  arith,
  zero,
  suc,
  false,
  cond,
  eqb,
  Option,
  Some,
  None,
  map-append,
  length-map,
  Completion,
  Slot,
  empty,
  slot_at,
  box,
  abort_slot,
  off,
  ticket_in,
  received_in,
  live_at as live_slot,
  commands_of,
  answers_of,
  unread,
  AgeIn,
  Ages as AgesOne,
  Lane,
  Admin,
  Io,
  same,
  Driver,
  ends,
  after_reset,
  FetchedCommand,
  Controller,
  lane_of_queue,
  Both,
  whole,
  slots_in,
  commands_in,
  host,
  state,
  fetched_by,
  held_by,
  in_order,
  aborted_number,
  Sound,
  EndsFit,
  IsOff,
  mailbox,
  eq-eqb,
  bears,
  common_steps,
  subst,
  inl,
  inr,
  cases_Bool,
  Off,
  is_up,
  reset_calls,
  without_queues,
  ResetIsAStep,
  after_calls,
  Item,
  PostedAnswer,
  State,
  item,
  answers,
  Holds,
  Host,
}
use Rattle.nvme_refinement.proofs.LaneWindows.{same-self, each-lane}
use Rattle.nvme_mailbox.specs.Deliveries as mail
use Rattle.nvme_refinement.specs.Views.{reset as reset_one, reset}
use Rattle.nvme_refinement.proofs.Slots.{live-small}
use Rattle.nvme_refinement.proofs.Places.{no-way}
use Rattle.nvme_refinement.proofs.Orders.{
  live_at,
  ticket_at,
  Ages,
  times,
  rising-slots,
  abort-all,
  pending-abort,
  abort-idle,
  abort-age,
}
use Rattle.nvme_refinement.proofs.OneLane.{same-holds, rest-fewer, slot-in, own-at, live-of}
use Rattle.nvme_refinement.proofs.Queues.{flight-total}
use Rattle.nvme_refinement.proofs.Registering.{disabled, disabled-off}
pub use Rattle.nvme_refinement.proofs.Queues.{placed-part, rung-part}
pub use Rattle.nvme_refinement.proofs.Empties.{Whole, whole-of}

-- A reset in one lane: it is at rest, its mailbox is empty, and the tickets of open requests are those of its slots.

slot-abort : (slots : List Slot) (k : ℕ) → slot_at (map abort_slot slots) k ≡ abort_slot (slot_at slots k)
slot-abort [] k = refl
slot-abort (x ∷ xs) zero = refl
slot-abort (x ∷ xs) (suc k) = slot-abort xs k

-- a lane after a reset is at rest
pub reset-holds : (first : ℕ) (d : Host) (c : State) → Holds first d c → Holds d.next (reset d) (off c)
reset-holds first d c s =
    let whole = whole-of first d c s in
    let slots = length-map d.slots abort_slot ∙ whole.slots in
    let idle : (k : ℕ) → live_slot (map abort_slot d.slots) k ≡ 0 =
    λ k. rw (slot-abort d.slots k) (abort-idle (slot_at d.slots k).waiting) in
    record {
      failed = refl;
      begun = omega arith;
      ages = λ k. rw (slot-abort d.slots k) (abort-age first d.next (slot_at d.slots k).waiting (s.ages k));
      up = λ u. absurd (no-way false refl u);
      down = λ u. search (whole.window, idle);
    }

pub reset-box : (d : Host) (c : State)
    → box (reset d) (off c) ≡ record { placed = []; rung = []; posted = []; unheard = 0; since = 0 }
unfolding box
reset-box d c = refl

abbrev pub slots_of : List (List ℕ) → List ℕ
slots_of [] = []
slots_of (x ∷ xs) = cid x ∷ slots_of xs

abbrev pub cids_of : List Completion → List ℕ
cids_of [] = []
cids_of (e ∷ es) = e.cid ∷ cids_of es

abbrev pub ticket_slot : List Slot → ℕ → ℕ
ticket_slot slots k = ticket_in (slot_at slots k).waiting

pub item-tickets : (slots : List Slot) (xs : List (List ℕ))
    → map (λ (i : Item). i.ticket) (map (item (slot_at slots)) xs) ≡ map (ticket_slot slots) (slots_of xs)
unfolding item_in
item-tickets slots [] = refl
item-tickets slots (x ∷ xs) = ap (λ ts. ticket_slot slots (cid x) ∷ ts) (item-tickets slots xs)

pub answer-tickets : (slots : List Slot) (h : ℕ) (es : List Completion)
    → map (λ (p : PostedAnswer). p.ticket) (answers (slot_at slots) h es) ≡ map (ticket_slot slots) (cids_of es)
answer-tickets slots h [] = refl
answer-tickets slots h (e ∷ es) = ap (λ ts. ticket_slot slots e.cid ∷ ts) (answer-tickets slots e.sq_head es)

-- the tickets of a lane of the mailbox
pub placed-tickets : (d : Host) (c : State)
    → map (λ (i : Item). i.ticket) (box d c).placed ≡ map (ticket_slot d.slots) (slots_of (placed-part d c))
unfolding box
placed-tickets d c = item-tickets d.slots (placed-part d c)

pub rung-tickets : (d : Host) (c : State)
    → map (λ (i : Item). i.ticket) (box d c).rung ≡ map (ticket_slot d.slots) (slots_of (rung-part c))
unfolding box
rung-tickets d c = item-tickets d.slots (rung-part c)

pub posted-tickets : (d : Host) (c : State)
    → map (λ (p : PostedAnswer). p.ticket) (box d c).posted ≡ map (ticket_slot d.slots) (cids_of (unread d c))
unfolding box
posted-tickets d c = answer-tickets d.slots _ (unread d c)

-- a reset of both lanes is a reset of each
slots-reset : (lane : Lane) (w : List ℕ) (k : ℕ) (slots : List (Option Waiting))
    → slots_in lane w k (map abort slots) ≡ map abort_slot (slots_in lane w k slots)
slots-reset lane w k [] = refl
slots-reset lane w k (None ∷ xs) = ap (λ l. empty ∷ l) (slots-reset lane w (suc k) xs)
slots-reset lane w k (Some x ∷ xs) = grind (arith, common_steps, slots-reset lane w (suc k) xs)

host-reset : (lane : Lane) (d : Driver) (w : List ℕ) → host lane (after_reset d) w ≡ reset_one (host lane d w)
host-reset Admin d w = rw (slots-reset Admin w 0 d.slots) refl
host-reset Io d w = rw (slots-reset Io w 0 d.slots) refl

-- a controller that is off, over the same window
pub state-off : (lane : Lane) (c c' : Controller) → IsOff c' → c'.window ≡ c.window → state lane c' ≡ off (state lane c)
state-off Admin c c' o w = rw (o.submission, o.completion, o.fetched, w) refl
state-off Io c c' o w = rw (o.submission, o.completion, o.fetched, w) refl

abort-size : (o : Option Waiting) → received_in o ≤ most_bytes → received_in (abort o) ≤ most_bytes
abort-size None h = h
abort-size (Some w) h = h

pub reset-sound : (d : Driver) (c c' : Controller) → Sound d c → IsOff c' → c'.window ≡ c.window
    → Sound (after_reset d) c'
reset-sound d c c' s o w =
    let b : Both d c = s.both in
    record {
      both = record {
        first = d.next;
        window = ap length w ∙ b.window;
        slots = length-map d.slots abort ∙ b.slots;
        each = λ l. same-holds d.next _ _ _ _ (reset-holds b.first _ _ (b.each l))
            (ap (host l (after_reset d)) w ∙ host-reset l d c.window) (state-off l c c' o w);
      };
      fits = each-lane Admin (λ l. EndsFit (ends l (after_reset d))) (record { tail = refl; head = refl })
          (record { tail = refl; head = refl });
      sizes = λ k. rw (pending-abort d.slots k) (abort-size (waiting_at d.slots k) (s.sizes k));
      up = λ u. absurd (no-way false refl u);
      down = λ u. o;
    }

-- both lanes together are all slots
age-of : (first next : ℕ) (w : List ℕ) (k : ℕ) (l : Lane) (p : Waiting)
    → AgeIn first next (cond (same l Admin) (whole w k p) empty).waiting
    → AgeIn first next (cond (same l Io) (whole w k p) empty).waiting → AgeIn first next (Some p)
age-of first next w k Admin p a b = a
age-of first next w k Io p a b = b

ages-forget : (first next : ℕ) (w : List ℕ) (k : ℕ) (slots : List (Option Waiting))
    → AgesOne first next (slots_in Admin w k slots) → AgesOne first next (slots_in Io w k slots) → Ages first next slots
ages-forget first next w k [] a b i = tt
ages-forget first next w k (None ∷ xs) a b zero = tt
ages-forget first next w k (Some x ∷ xs) a b zero = age-of first next w k x.lane x (a 0) (b 0)
ages-forget first next w k (x ∷ xs) a b (suc i) =
    ages-forget first next w (suc k) xs (λ j. a (suc j)) (λ j. b (suc j)) i

live-forget : (w : List ℕ) (k : ℕ) (slots : List (Option Waiting)) (i : ℕ)
    → live_at slots i ≡ live_slot (slots_in Admin w k slots) i + live_slot (slots_in Io w k slots) i
live-forget w k [] i = omega arith
live-forget w k (None ∷ xs) zero = omega arith
live-forget w k (Some x ∷ xs) zero = live-of w k x.lane x
live-forget w k (x ∷ xs) (suc i) = live-forget w (suc k) xs i

-- a lane's live request has its slot's ticket
ticket-same : (lane : Lane) (w : List ℕ) (slots : List (Option Waiting)) (n : ℕ)
    → live_slot (slots_in lane w 0 slots) n ≡ 1 → ticket_slot (slots_in lane w 0 slots) n ≡ ticket_at slots n
ticket-same lane w slots n l =
    let o = own-at lane w slots n l in
    ap (λ (s : Slot). ticket_in s.waiting) (slot-in lane w slots n ∙ o.slot w n) ∙ sym (ap ticket_in o.is)

tickets-same : (lane : Lane) (w : List ℕ) (slots : List (Option Waiting)) (ns : List ℕ)
    → ((i : ℕ) → times i ns ≤ live_slot (slots_in lane w 0 slots) i) →
    map (ticket_slot (slots_in lane w 0 slots)) ns ≡ map (ticket_at slots) ns
tickets-same lane w slots [] h = refl
tickets-same lane w slots (n ∷ ns) h =
    let v : times n (n ∷ ns) ≡ 1 + times n ns = ap (λ b. cond b 1 0 + times n ns) (eq-eqb n n refl) in
    rw (
      ticket-same lane w slots n (omega (arith, h n, v, live-small (slot_at (slots_in lane w 0 slots) n))),
      tickets-same lane w slots ns (λ i. omega (arith, h i)),
    ) refl

abbrev slots_taken : List FetchedCommand → List ℕ
slots_taken [] = []
slots_taken (t ∷ ts) = cid t.entry ∷ slots_taken ts

times-taken : (i : ℕ) (ts : List FetchedCommand)
    → times i (slots_taken ts) ≡ commands_of i (commands_in Admin ts) + commands_of i (commands_in Io ts)
times-taken i [] = omega arith
times-taken i (t ∷ ts) = grind (arith, common_steps, times-taken i ts)

-- a command's lane has its slot
own-more : (t : FetchedCommand) (ts : List FetchedCommand) (n : ℕ) → n ≡ cid t.entry → commands_of n
    (commands_in (lane_of_queue t.queue) (t ∷ ts)) ≡ 1 + commands_of n (commands_in (lane_of_queue t.queue) ts)
own-more t ts n e =
    ap (λ b.
    commands_of n (cond b (t.entry ∷ commands_in (lane_of_queue t.queue) ts) (commands_in (lane_of_queue t.queue) ts)))
    (same-self (lane_of_queue t.queue)) ∙
    ap (λ b. cond b 1 0 + commands_of n (commands_in (lane_of_queue t.queue) ts))
    (ap (λ m. eqb m n) (sym e) ∙ eq-eqb n n refl)

-- fetched commands have the tickets of their slots
taken-tickets : (d : Driver) (w : List ℕ) (ts : List FetchedCommand)
    → ((lane : Lane) (i : ℕ) → commands_of i (commands_in lane ts) ≤ live_slot (slots_in lane w 0 d.slots) i) →
    map (λ (f : FetchedItem). f.item.ticket) (map (fetched_by (held_by d w)) ts)
    ≡ map (ticket_at d.slots) (slots_taken ts)
unfolding item_in
taken-tickets d w [] h = refl
taken-tickets d w (t ∷ ts) h =
    let n : ℕ = cid t.entry in
    let l : live_slot (slots_in (lane_of_queue t.queue) w 0 d.slots) n ≡ 1 =
    omega (
      arith,
      h (lane_of_queue t.queue) n,
      own-more t ts n refl,
      live-small (slot_at (slots_in (lane_of_queue t.queue) w 0 d.slots) n),
    ) in
    rw (
      ticket-same (lane_of_queue t.queue) w d.slots n l,
      taken-tickets d w ts (λ lane i. omega (arith, h lane i, rest-fewer lane t ts i)),
    ) refl

times-slots : (i : ℕ) (xs : List (List ℕ)) → times i (slots_of xs) ≡ commands_of i xs
times-slots i [] = refl
times-slots i (x ∷ xs) = ap (λ n. cond (eqb (cid x) i) 1 0 + n) (times-slots i xs)

times-cids : (i : ℕ) (es : List Completion) → times i (cids_of es) ≡ answers_of i es
times-cids i [] = refl
times-cids i (e ∷ es) = ap (λ n. cond (eqb e.cid i) 1 0 + n) (times-cids i es)

times-append : (i : ℕ) (xs ys : List ℕ) → times i (xs ++ ys) ≡ times i xs + times i ys
times-append i [] ys = omega arith
times-append i (x ∷ xs) ys = omega (arith, times-append i xs ys)

abbrev WholeIn : Lane → Driver → Controller → Type 0
WholeIn lane d c = Whole (host lane d c.window) (state lane c)

-- the slots of a lane's unanswered requests, without and with the fetched ones
abbrev named_in : Lane → Driver → Controller → List ℕ
named_in lane d c =
    slots_of (placed-part (host lane d c.window) (state lane c)) ++ slots_of (rung-part (state lane c))
    ++ cids_of (unread (host lane d c.window) (state lane c))

abbrev all_named : Driver → Controller → List ℕ
all_named d c = named_in Admin d c ++ named_in Io d c ++ slots_taken c.fetched

map-three : (f : ℕ → ℕ) (a b c : List ℕ) → map f a ++ map f b ++ map f c ≡ map f (a ++ b ++ c)
map-three f a b c = rw (map-append f (a ++ b) c, map-append f a b) refl

lane-times : (lane : Lane) (d : Driver) (c : Controller) (i : ℕ) → WholeIn lane d c →
    times i (named_in lane d c) + commands_of i (commands_in lane c.fetched)
    ≡ live_slot (slots_in lane c.window 0 d.slots) i
lane-times lane d c i w =
    omega (
      arith,
      times-append,
      times-slots,
      times-cids,
      w.carried i,
      flight-total (bears i) (host lane d c.window) (state lane c) w.fetched w.waiting,
    )

lane-named : (lane : Lane) (d : Driver) (c : Controller) → WholeIn lane d c
    → tickets_in (box (host lane d c.window) (state lane c)) ≡ map (ticket_at d.slots) (named_in lane d c)
lane-named lane d c w =
    rw (
      placed-tickets (host lane d c.window) (state lane c),
      rung-tickets (host lane d c.window) (state lane c),
      posted-tickets (host lane d c.window) (state lane c),
    )
    (map-three (ticket_slot (slots_in lane c.window 0 d.slots)) _ _ _
    ∙ tickets-same lane c.window d.slots (named_in lane d c) (λ i. omega (arith, lane-times lane d c i w)))

outstanding-named : (d : Driver) (c : Controller)
    → ((l : Lane) → WholeIn l d c) → open_tickets (mailbox d c) ≡ rising (map (ticket_at d.slots) (all_named d c))
unfolding open_tickets
outstanding-named d c w =
    ap rising (λ i. lane-named Admin d c (w Admin) i ++ lane-named Io d c (w Io) i ++ taken-tickets d c.window c.fetched
    (λ lane k. omega (arith, (w lane).carried k)) i)
    ∙ ap rising (map-three (ticket_at d.slots) (named_in Admin d c) (named_in Io d c) (slots_taken c.fetched))

named-times : (d : Driver) (c : Controller) → ((l : Lane) → WholeIn l d c) → (i : ℕ)
    → times i (all_named d c) ≡ live_at d.slots i
named-times d c w i =
    omega (
      arith,
      times-append,
      lane-times Admin d c i (w Admin),
      lane-times Io d c i (w Io),
      times-taken i c.fetched,
      live-forget c.window 0 d.slots i,
    )

reset-empty : (l : Lane) (d : Driver) (c c' : Controller) → IsOff c' → c'.window ≡ c.window
    → box (host l (after_reset d) c'.window) (state l c') ≡ empty_box
reset-empty l d c c' o w =
    (λ i. box ((ap (host l (after_reset d)) w ∙ host-reset l d c.window) i) (state-off l c c' o w i))
    ∙ reset-box (host l d c.window) (state l c)

-- a reset aborts all open requests
pub reset-mail : (d : Driver) (c c' : Controller) → Both d c → IsOff c' → c'.window ≡ c.window
    → mailbox (after_reset d) c' ≡ (mail.reset (mailbox d c)).mailbox
reset-mail d c c' b o w =
    let h : (l : Lane) → WholeIn l d c = λ l. whole-of b.first _ _ (b.each l) in
    let e : in_order aborted_number (map abort d.slots) ≡ in_order aborted_number d.slots
    ++ open_tickets (mailbox d c) =
    abort-all b.first d.next d.slots
    (ages-forget b.first d.next c.window 0 d.slots (b.each Admin).ages (b.each Io).ages) ∙
    ap (λ ts. in_order aborted_number d.slots ++ ts)
    (sym (outstanding-named d c h ∙ rising-slots (all_named d c) d.slots (named-times d c h))) in
    let admin = reset-empty Admin d c c' o w in
    let io = reset-empty Io d c c' o w in
    let none = ap (map (fetched_by (held_by (after_reset d) c'.window))) o.fetched in
    λ i. record { up = false; next = d.next; admin = admin i; io = io i; fetched = none i; aborted = e i }

-- A reset is a step of the mailbox.

-- the controller after it was disabled
abbrev off_now : Controller → Controller
off_now c = without_queues (record c { registers = record c.registers { cc = 0; state = Off } })

is-off : (c : Controller) → IsOff (off_now c)
is-off c = record { submission = refl; completion = refl; fetched = refl; off = refl; disabled = refl }

written : (d : Driver) (c : Controller) → Sound d c → after_calls reset_calls c ≡ off_now c
written d c s = elim (cases_Bool (is_up d.state)) [
  | inl u ↦ let p = s.up u in disabled c p.enabled
  | inr u ↦ let o = s.down u in disabled-off c o.disabled ∙ λ i. record c {
    registers = record c.registers { cc = 0; state = o.off i };
    submission = o.submission i;
    completion = o.completion i;
    fetched = o.fetched i;
  }
]

pub reset_is_a_step : ResetIsAStep
reset_is_a_step d c s =
    let e = written d c s in
    record {
      sound = subst (Sound (after_reset d)) (sym e) (reset-sound d c (off_now c) s (is-off c) refl);
      mail = sym (reset-mail d c (off_now c) s.both (is-off c) refl) ∙ ap (mailbox (after_reset d)) (sym e);
      gives = refl;
    }
