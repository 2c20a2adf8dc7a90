-- For the step of each event: a call at one lane (queue pair) of a driver and its controller. From the effect on that
-- lane follow the invariant of both lanes, and the mailbox.
use Rattle.nvme_refinement.proofs.Words.{
  ◌≡◌,
  ℕ,
  zero,
  suc,
  ◌≤◌,
  true,
  List,
  [],
  ◌∷◌,
  length,
  map,
  Option,
  refl,
  sym,
  ap,
  ◌∙◌,
  arith,
  slice_set,
  Waiting,
  waiting_at,
  most_bytes,
  Lane,
  Admin,
  Io,
  Driver,
  Ends,
  ends,
  with_ends,
  is_up,
  FetchedCommand,
  Controller,
  FetchedItem,
  box_at,
  with_box,
  Host,
  State,
  Slot,
  box,
  slot_at,
  holds,
  commands_of,
  received_in,
  Running,
  Holds,
  Both,
  other,
  host,
  state,
  slots_in,
  commands_in,
  fetched_by,
  held_by,
  in_order,
  aborted_number,
  Sound,
  EndsFit,
  IsPaired,
  mailbox,
  cid,
  ◌+◌,
  ◌<◌,
  false,
  cond,
  eqb,
  Some,
  None,
  inl,
  inr,
  cases_Bool,
  ne_eqb,
  empty,
  live_in,
  live_waiting,
  same,
  lane_of_queue,
  whole,
  slot_in,
  common_steps,
  item_in,
}
use Rattle.nvme_refinement.proofs.Slots.{Apart, apart-set, cond-zero}
use Rattle.nvme_refinement.proofs.Fetches.{still-running}
use Rattle.nvme_refinement.proofs.Places.{age-later, no-way}
use Rattle.nvme_refinement.proofs.LaneWindows.{each-lane, Same, same-other}
use Rattle.std.specs.Option.{option_flatten}
use Rattle.std.proofs.lemmas.Option.{slice_get-get_or}
use Rattle.nvme_mailbox.proofs.Lists.{got-back}
use Rattle.nvme_refinement.proofs.Orders.{cond-one}

-- The slots of the window for each lane: if one changes, all others stay in both lanes.

-- a slot that is the same in both windows
slot-apart : (l : Lane) (w w' : List ℕ) (k : ℕ) (x : Option Waiting) → Same w w' k → slot_in l w' k x ≡ slot_in l w k x
slot-apart l w w' k None h = refl
slot-apart l w w' k (Some t) h = rw (h.areas, h.lists) refl

pub slots-apart : (l : Lane) (w w' : List ℕ) (k : ℕ) (xs : List (Option Waiting))
    → ((j : ℕ) → k ≤ j → j < k + length xs → Same w w' j) → slots_in l w' k xs ≡ slots_in l w k xs
slots-apart l w w' k [] h = refl
slots-apart l w w' k (x ∷ xs) h =
    rw (
      slot-apart l w w' k x (h k (omega arith) (omega arith)),
      slots-apart l w w' (suc k) xs (λ j a b. h j (omega (arith, a)) (omega (arith, b))),
    ) refl

-- another request in a slot, and another window in that slot: for each lane only the slot changes
slots-set : (l : Lane) (w w' : List ℕ) (k : ℕ) (xs : List (Option Waiting)) (i n : ℕ) (o : Option Waiting)
    → n ≡ k + i → i < length xs →
    ((j : ℕ) → k ≤ j → j < k + length xs → eqb j n ≡ false → Same w w' j) →
    slots_in l w' k (slice_set xs i o) ≡ slice_set (slots_in l w k xs) i (slot_in l w' n o)
slots-set l w w' k [] i n o e b h = let z : ⊥ = omega (arith, b) in absurd z
slots-set l w w' k (x ∷ xs) zero n o e b h =
    let m : n ≡ k = omega (arith, e) in
    rw (
      m,
      slots-apart l w w' (suc k) xs
          (λ j a g. h j (omega (arith, a)) (omega (arith, g)) (ne_eqb j n (λ q. omega (arith, q, a, m)))),
    ) refl
slots-set l w w' k (x ∷ xs) (suc i) n o e b h =
    rw (
      slot-apart l w w' k x (h k (omega arith) (omega arith) (ne_eqb k n (λ q. omega (arith, q, e)))),
      slots-set l w w' (suc k) xs i n o (omega (arith, e)) (omega (arith, b))
          (λ j a g. h j (omega (arith, a)) (omega (arith, g))),
    ) refl

-- a slot of a lane
slot-from : (l : Lane) (w : List ℕ) (k : ℕ) (xs : List (Option Waiting)) (i n : ℕ)
    → n ≡ k + i → slot_at (slots_in l w k xs) i ≡ slot_in l w n (waiting_at xs i)
slot-from l w k [] i n e = refl
slot-from l w k (x ∷ xs) zero n e = let m : n ≡ k = omega (arith, e) in rw m refl
slot-from l w k (x ∷ xs) (suc i) n e = slot-from l w (suc k) xs i n (omega (arith, e))

pub slot-in : (l : Lane) (w : List ℕ) (xs : List (Option Waiting)) (i : ℕ)
    → slot_at (slots_in l w 0 xs) i ≡ slot_in l w i (waiting_at xs i)
slot-in l w xs i = slot-from l w 0 xs i i (omega arith)

set-slot : (ys : List Slot) (i : ℕ) → slice_set ys i (slot_at ys i) ≡ ys
set-slot [] i = refl
set-slot (y ∷ ys) zero = refl
set-slot (y ∷ ys) (suc i) = ap (λ t. y ∷ t) (set-slot ys i)

pub set-waiting : (xs : List (Option Waiting)) (i : ℕ) → i < length xs → slice_set xs i (waiting_at xs i) ≡ xs
set-waiting xs i h = let at = slice_get-get_or xs i None h in
    got-back xs i (waiting_at xs i) (at ∙ ap Some (sym (ap option_flatten at)))

-- windows with all slots in common except one
abbrev pub Others : List ℕ → List ℕ → ℕ → Type 0
Others w w' n = (k : ℕ) → k < 24 → eqb k n ≡ false → Same w w' k

pub slots-here : (l : Lane) (w w' : List ℕ) (xs : List (Option Waiting)) (n : ℕ) (o : Option Waiting)
    → length xs ≡ 24 → n < 24 → Others w w' n →
    slots_in l w' 0 (slice_set xs n o) ≡ slice_set (slots_in l w 0 xs) n (slot_in l w' n o)
slots-here l w w' xs n o e b h =
    slots-set l w w' 0 xs n n o (omega arith) (omega (arith, e, b)) (λ j a g q. h j (omega (arith, g, e)) q)

-- a lane that has no request there, before and after
pub slots-there : (l : Lane) (w w' : List ℕ) (xs : List (Option Waiting)) (n : ℕ) (o : Option Waiting)
    → length xs ≡ 24 → n < 24 → Others w w' n →
    slot_in l w n (waiting_at xs n) ≡ empty → slot_in l w' n o ≡ empty
    → slots_in l w' 0 (slice_set xs n o) ≡ slots_in l w 0 xs
slots-there l w w' xs n o e b h before then =
    slots-here l w w' xs n o e b h
    ∙ ap (slice_set (slots_in l w 0 xs) n) (then ∙ sym (slot-in l w xs n ∙ before))
    ∙ set-slot (slots_in l w 0 xs) n

same-is : (x lane : Lane) → same x lane ≡ true → x ≡ lane
same-is x lane e = grind (arith, common_steps, e)

-- the request in a live slot of a lane, in any window; the other lane has none there
pub record Own (lane : Lane) (o : Option Waiting) : Type 0 where
  pub waiting : Waiting
  pub is : o ≡ Some waiting
  pub of_lane : waiting.lane ≡ lane
  pub live : waiting.live ≡ true
  pub counts : live_waiting o ≡ 1
  pub slot : (w : List ℕ) (n : ℕ) → slot_in lane w n o ≡ whole w n waiting
  pub absent : (w : List ℕ) (n : ℕ) → slot_in (other lane) w n o ≡ empty

own-is : (lane : Lane) (w : List ℕ) (n : ℕ) (o : Option Waiting) → live_in (slot_in lane w n o) ≡ 1 → Own lane o
own-is lane w n None l = let z : ⊥ = omega (arith, l) in absurd z
own-is lane w n (Some x) l =
    elim (cases_Bool (same x.lane lane)) [
      | inl s ↦
          let own = same-is x.lane lane s in
          let live = cond-one x.live (rw s at l) in
          record {
            waiting = x;
            is = refl;
            of_lane = own;
            live = live;
            counts = ap (λ b. cond {A = ℕ} b 1 0) live;
            slot = λ w n. ap (λ b. cond b (whole w n x) empty) s;
            absent = λ w n. ap (λ b. cond b (whole w n x) empty) (ap (λ l. same l (other lane)) own ∙ same-other lane);
          }
      | inr s ↦ let m : 0 ≡ 1 = rw s at l in let z : ⊥ = omega (arith, m) in absurd z
    ]

pub own-at : (lane : Lane) (w : List ℕ) (xs : List (Option Waiting)) (n : ℕ)
    → live_in (slot_at (slots_in lane w 0 xs) n) ≡ 1 → Own lane (waiting_at xs n)
own-at lane w xs n l = own-is lane w n (waiting_at xs n) (sym (ap live_in (slot-in lane w xs n)) ∙ l)

-- a request is live in its own lane
pub live-of : (w : List ℕ) (k : ℕ) (l : Lane) (p : Waiting) → live_waiting (Some p)
    ≡ live_in (cond (same l Admin) (whole w k p) empty) + live_in (cond (same l Io) (whole w k p) empty)
live-of w k l p = grind (arith, common_steps)

own-zero : (l : Lane) (x : List ℕ) (i : ℕ) (us : List (List ℕ)) → commands_of i (cond (same l l) (x ∷ us) us) ≡ 0
    → eqb (cid x) i ≡ false
own-zero Admin x i us h = cond-zero (eqb (cid x) i) (commands_of i us) h
own-zero Io x i us h = cond-zero (eqb (cid x) i) (commands_of i us) h

pub rest-fewer : (lane : Lane) (t : FetchedCommand) (ts : List FetchedCommand) (i : ℕ)
    → commands_of i (commands_in lane ts) ≤ commands_of i (commands_in lane (t ∷ ts))
rest-fewer lane t ts i = grind (arith, common_steps)

-- fetched requests stay, if a slot changes that no command uses
pub same-fetched : (f g : Lane → ℕ → Slot) (i : ℕ) → ((l : Lane) → Apart i (f l) (g l)) →
    (ts : List FetchedCommand) → ((l : Lane) → commands_of i (commands_in l ts) ≡ 0)
    → map (fetched_by g) ts ≡ map (fetched_by f) ts
same-fetched f g i a [] z = refl
same-fetched f g i a (t ∷ ts) z =
    let p =
    own-zero (lane_of_queue t.queue) t.entry i (commands_in (lane_of_queue t.queue) ts) (z (lane_of_queue t.queue)) in
    rw (
      ap (λ s. item_in s t.entry) (a (lane_of_queue t.queue) (cid t.entry) p),
      same-fetched f g i a ts (λ l. omega (arith, z l, rest-fewer l t ts i)),
    ) refl

pub same-holds : (first : ℕ) (d d' : Host) (c c' : State) → Holds first d c → d' ≡ d → c' ≡ c → Holds first d' c'
same-holds first d d' c c' s e f = rw (e, f) s

pub running : (lane : Lane) (d : Driver) (c : Controller) → Sound d c → is_up d.state ≡ true
    → Running (host lane d c.window) (state lane c)
running lane d c s u = let b : Both d c = s.both in (b.each lane).up u

pub box-is : (lane : Lane) (d : Driver) (c : Controller)
    → box_at lane (mailbox d c) ≡ box (host lane d c.window) (state lane c)
box-is Admin d c = refl
box-is Io d c = refl

-- A driver with other ends of one lane, another next ticket and other slots.
pub record Changed (lane : Lane) (d d' : Driver) (e : Ends) (n : ℕ) (xs : List (Option Waiting)) : Type 0 where
  pub state : d'.state ≡ d.state
  pub next : d'.next ≡ n
  pub slots : d'.slots ≡ xs
  pub here : (w : List ℕ) → host lane d' w ≡
      record (host lane d w) {
        next = n;
        slots = slots_in lane w 0 xs;
        put = e.tail.put;
        unheard = e.tail.unheard;
        consumed = e.head.consumed;
      }
  pub there : (w : List ℕ)
      → host (other lane) d' w ≡ record (host (other lane) d w) { next = n; slots = slots_in (other lane) w 0 xs }
  pub fits : EndsFit e → ((l : Lane) → EndsFit (ends l d)) → (l : Lane) → EndsFit (ends l d')

pub changed : (lane : Lane) (d : Driver) (e : Ends) (n : ℕ) (xs : List (Option Waiting))
    → Changed lane d (with_ends lane e (record d { next = n; slots = xs })) e n xs
changed Admin d e n xs =
    let fits : EndsFit e → ((l : Lane) → EndsFit (ends l d)) → (l : Lane)
    → EndsFit (ends l (with_ends Admin e (record d { next = n; slots = xs }))) =
    λ f g. each-lane Admin (λ l. EndsFit (ends l (with_ends Admin e (record d { next = n; slots = xs })))) f (g Io) in
    search fits
changed Io d e n xs =
    let fits : EndsFit e → ((l : Lane) → EndsFit (ends l d))
    → (l : Lane) → EndsFit (ends l (with_ends Io e (record d { next = n; slots = xs }))) =
    λ f g. each-lane Io (λ l. EndsFit (ends l (with_ends Io e (record d { next = n; slots = xs })))) f (g Admin) in
    search fits

pub size-set : (slots : List (Option Waiting)) (i k : ℕ) (o : Option Waiting)
    → received_in o ≤ most_bytes → ((j : ℕ) → received_in (waiting_at slots j) ≤ most_bytes)
    → received_in (waiting_at (slice_set slots i o) k) ≤ most_bytes
size-set [] i k o h g = g k
size-set (x ∷ xs) zero zero o h g = h
size-set (x ∷ xs) zero (suc k) o h g = g (suc k)
size-set (x ∷ xs) (suc i) zero o h g = g zero
size-set (x ∷ xs) (suc i) (suc k) o h g = size-set xs i k o h (λ j. g (suc j))

-- What a call leaves: this lane, and the other unchanged except for the next ticket.
pub record AtLane (lane : Lane) (d d' : Driver) (c c' : Controller) (n : ℕ) (h : Host) (s : State) : Type 0 where
  pub up : d'.state ≡ d.state
  pub next : d'.next ≡ n
  pub later : d.next ≤ n
  pub window : length c'.window ≡ length c.window
  pub slots : length d'.slots ≡ length d.slots
  pub host_here : host lane d' c'.window ≡ h
  pub host_there : host (other lane) d' c'.window ≡ record (host (other lane) d c.window) { next = n }
  pub state_here : state lane c' ≡ s
  pub state_there : state (other lane) c' ≡ state (other lane) c

later-holds : (first : ℕ) (d : Host) (c : State) (n : ℕ)
    → d.next ≤ n → Holds first d c → Holds first (record d { next = n }) c
later-holds first d c n l s =
    record {
      failed = s.failed;
      begun = omega (arith, s.begun, l);
      ages = λ k. age-later first d.next n (slot_at d.slots k).waiting l (s.ages k);
      up = λ u. (let r = s.up u in still-running d c n c.waiting r.waiting r);
      down = λ u. (let r = s.down u in record {
        window = r.window;
        slots = r.slots;
        put = r.put;
        unheard = r.unheard;
        consumed = r.consumed;
        off = r.off;
        idle = r.idle;
      });
    }

later-box : (d : Host) (c : State) (n : ℕ) → box (record d { next = n }) c ≡ box d c
unfolding box
later-box d c n = refl

pub both-at : (lane : Lane) (d d' : Driver) (c c' : Controller) (n : ℕ) (h : Host) (s : State)
    → AtLane lane d d' c c' n h s → (b : Both d c) → Holds b.first h s → Both d' c'
both-at lane d d' c c' n h s a b o =
    record {
      first = b.first;
      window = a.window ∙ b.window;
      slots = a.slots ∙ b.slots;
      each = each-lane lane (λ l. Holds b.first (host l d' c'.window) (state l c'))
          (same-holds b.first _ _ _ _ o a.host_here a.state_here)
          (same-holds b.first _ _ _ _ (later-holds b.first _ _ n a.later (b.each (other lane))) a.host_there
          a.state_there);
    }

-- The driver is up, and stays up.
pub sound-at : (lane : Lane) (d d' : Driver) (c c' : Controller) (n : ℕ) (h : Host) (s : State)
    → AtLane lane d d' c c' n h s → (k : Sound d c) → is_up d.state ≡ true → Holds k.both.first h s
    → ((l : Lane) → EndsFit (ends l d')) → ((j : ℕ) → received_in (waiting_at d'.slots j) ≤ most_bytes)
    → IsPaired c' → Sound d' c'
sound-at lane d d' c c' n h s a k u o f z p = record {
  both = both-at lane d d' c c' n h s a k.both o;
  fits = f;
  sizes = z;
  up = λ t. p;
  down = λ t. absurd (no-way (is_up d.state) (ap is_up (sym a.up) ∙ t) u);
}

-- fetched requests stay, if a slot of the lane changes that no command uses
pub fetched-at : (lane : Lane) (d d' : Driver) (c c' : Controller) (n : ℕ) (h : Host) (s : State)
    → AtLane lane d d' c c' n h s → (i : ℕ) (x : Slot) → h.slots ≡ slice_set (slots_in lane c.window 0 d.slots) i x
    → (ts : List FetchedCommand) → ((l : Lane) → commands_of i (commands_in l ts) ≡ 0)
    → map (fetched_by (held_by d' c'.window)) ts ≡ map (fetched_by (held_by d c.window)) ts
fetched-at lane d d' c c' n h s a i x e ts z =
    same-fetched (held_by d c.window) (held_by d' c'.window) i
    (each-lane lane (λ l. Apart i (held_by d c.window l) (held_by d' c'.window l))
    (λ k q. ap (λ (u : Host). holds u k) a.host_here ∙ ap (λ ys. slot_at ys k) e
    ∙ apart-set (slots_in lane c.window 0 d.slots) i x k q)
    (λ k q. ap (λ (u : Host). holds u k) a.host_there))
    ts z

same-box : (d d' : Host) (c c' : State) → d' ≡ d → c' ≡ c → box d' c' ≡ box d c
same-box d d' c c' e f = λ i. box (e i) (f i)

pub mail-at : (lane : Lane) (d d' : Driver) (c c' : Controller) (n : ℕ) (h : Host) (s : State)
    → AtLane lane d d' c c' n h s → (fs : List FetchedItem) → map (fetched_by (held_by d' c'.window)) c'.fetched ≡ fs
    → in_order aborted_number d'.slots ≡ in_order aborted_number d.slots
    → mailbox d' c' ≡ with_box lane (box h s) (record (mailbox d c) { next = n; fetched = fs })
mail-at Admin d d' c c' n h s a fs f e =
    let there = same-box _ _ _ _ a.host_there a.state_there ∙ later-box (host Io d c.window) (state Io c) n in
    λ i. record {
      up = is_up (a.up i);
      next = a.next i;
      admin = (same-box _ _ _ _ a.host_here a.state_here) i;
      io = there i;
      fetched = f i;
      aborted = e i;
    }
mail-at Io d d' c c' n h s a fs f e =
    let there = same-box _ _ _ _ a.host_there a.state_there ∙ later-box (host Admin d c.window) (state Admin c) n in
    λ i. record {
      up = is_up (a.up i);
      next = a.next i;
      admin = there i;
      io = (same-box _ _ _ _ a.host_here a.state_here) i;
      fetched = f i;
      aborted = e i;
    }
