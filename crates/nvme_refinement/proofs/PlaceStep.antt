-- For the law on events and `nvme_fleet`: a placing is a step of the mailbox: the request's lane (queue pair) takes it,
-- and only the next ticket changes in the other lane.
use Rattle.nvme_refinement.proofs.Words.{
  ◌≡◌,
  ℕ,
  zero,
  suc,
  ◌+◌,
  ◌-◌,
  ◌*◌,
  ◌%◌,
  ◌<◌,
  ◌≤◌,
  ◌==◌,
  nat_lt,
  Bool,
  true,
  false,
  not,
  ◌&&◌,
  cond,
  List,
  [],
  ◌∷◌,
  length,
  take,
  Option,
  None,
  Some,
  refl,
  sym,
  ap,
  subst,
  ◌∙◌,
  arith,
  le-leb,
  bytes_eq-Decides,
  bytes_eq,
  slice_set,
  length-set,
  if◌then◌else◌,
  nat_le,
  SqeFields,
  submission_entry,
  submission_of,
  cid,
  with_bytes,
  most_bytes,
  Lane,
  Waiting,
  Request,
  PlaceRefusal,
  NotReady,
  BadRequest,
  NoSlot,
  RingFull,
  TicketsExhausted,
  list_page,
  data_area,
  submission_queue,
  stored_list,
  Asked,
  asked_of,
  is_bad,
  Driver,
  is_up,
  ends,
  entry_of,
  entry_fields,
  entry_length,
  free_slot,
  place_refusal,
  put_ends,
  ticket_count,
  stores_of,
  waiting_of,
  waiting_at,
  length-stored_list,
  entries_move_their_data,
  Controller,
  after_store,
  LaneBox,
  box_at,
  with_box,
  MailboxReaction,
  refusal,
  placed_by,
  new_item,
  with_placed,
  Host,
  State,
  Slot,
  empty,
  box,
  live_in,
  live_at,
  asked_in,
  is_plain,
  suits,
  item_in,
  received_in,
  placed_state,
  Both,
  same,
  other,
  host,
  state,
  slot_in,
  slots_in,
  whole,
  area,
  listed,
  pages_of,
  in_order,
  aborted_number,
  ranked_too,
  Sound,
  mailbox,
  PlaceIsAStep,
  RefusalIsAStep,
  after_calls,
  common_steps,
  held,
  ranked,
  eqb,
  inl,
  inr,
  length-map,
  lt-ltb,
  le-ltb,
  cases_lt,
  position,
  position_or_len,
  is_none,
  Running,
  total,
  Admin,
  Io,
  FetchedCommand,
  commands_in,
  FetchedItem,
}
use Rattle.nvme_driver.specs.Drivers as driver
use Rattle.nvme_driver.specs.Drivers.{lane_of}
use Rattle.nvme_driver.proofs.Placing.{length-entry}
use Rattle.nvme_mailbox.specs.Deliveries.{with_request}
use Rattle.nvme_refinement.specs.Views.{placed as placed_one}
use Rattle.nvme_refinement.proofs.Places.{Places, place-box, place-holds}
use Rattle.nvme_refinement.proofs.Empties.{bare-of}
use Rattle.nvme_refinement.proofs.Sizes.{Sizes, sizes, plain as plain_request}
use Rattle.nvme_refinement.proofs.StartStep.{stored-at}
use Rattle.nvme_refinement.proofs.LaneWindows.{
  same-self,
  same-other,
  other-same,
  queue-low,
  Stored,
  none-stored,
  data-stored,
  list-stored,
  page-stored,
  slot-apart,
  areas-list,
  area-front,
  list-front,
}
use Rattle.nvme_refinement.proofs.OneLane.{
  Changed,
  changed,
  AtLane,
  running,
  box-is,
  size-set,
  sound-at,
  fetched-at,
  mail-at,
  slot-in,
  slots-here,
  slots-there,
  live-of,
}
use Rattle.nvme_refinement.proofs.Queues.{box-live}
use Rattle.std.proofs.lemmas.List.Quantifiers.{position-Some}
use Rattle.std.proofs.lemmas.Option.{slice_get-get_or}

-- A mailbox holds a request for each slot that is not free: the live ones of both lanes, and the aborted ones.

-- the slots of both lanes: live ones, and aborted ones
abbrev filled : Option Waiting → ℕ
filled None = 0
filled (Some w) = 1

filled-small : (o : Option Waiting) → filled o ≤ 1
filled-small o = grind (arith, common_steps)

few-filled : (slots : List (Option Waiting)) → total filled slots ≤ length slots
few-filled [] = omega arith
few-filled (x ∷ xs) = omega (arith, few-filled xs, filled-small x)

first-some : (slots : List (Option Waiting)) → position_or_len is_none slots < length slots
    → (waiting_at slots (position_or_len is_none slots) ≡ None) × (total filled slots < length slots)
first-some [] h = let b : ⊥ = omega (arith, h) in absurd b
first-some (None ∷ xs) h = (refl, omega (arith, few-filled xs))
first-some (Some p ∷ xs) h =
    let k : (waiting_at xs (position_or_len is_none xs) ≡ None) × (total filled xs < length xs) =
    first-some xs (omega (arith, h)) in
    let e : 1 + position_or_len is_none xs ≡ suc (position_or_len is_none xs) = omega arith in
    (ap (λ i. waiting_at (Some p ∷ xs) i) e ∙ k.0, omega (arith, k.1))

first-none : (slots : List (Option Waiting)) → length slots ≤ position_or_len is_none slots
    → total filled slots ≡ length slots
first-none [] h = refl
first-none (None ∷ xs) h = let b : ⊥ = omega (arith, h) in absurd b
first-none (Some p ∷ xs) h = omega (arith, first-none xs (omega (arith, h)))

pub free-some : (slots : List (Option Waiting)) (i : ℕ) → position is_none slots ≡ Some i
    → (i < length slots) × (waiting_at slots i ≡ None)
free-some slots i h =
    let p = position-Some is_none slots i None h in
    (p.0, grind (arith, common_steps, slice_get-get_or slots i None p.0, p.1))

free-none : (slots : List (Option Waiting)) → is_none (position is_none slots) ≡ eqb (total filled slots) (length slots)
free-none slots =
    elim (cases_lt (position_or_len is_none slots) (length slots)) [
      | inl l ↦
          let f : eqb (total filled slots) (length slots) ≡ false =
          grind (arith, common_steps, (first-some slots l).1) in
          rw (lt-ltb (position_or_len is_none slots) (length slots) l, f) refl
      | inr g ↦
          let f : eqb (total filled slots) (length slots) ≡ true = grind (arith, common_steps, first-none slots g) in
          rw (le-ltb (position_or_len is_none slots) (length slots) g, f) refl
    ]

ranked-length : (t : ℕ) (us : List ℕ) → length (ranked t us) ≡ length us + 1
ranked-length t [] = omega arith
ranked-length t (u ∷ us) = grind (arith, common_steps, ranked-length t us)

split : (w : List ℕ) (k : ℕ) (slots : List (Option Waiting)) →
    total live_in (slots_in Admin w k slots) + total live_in (slots_in Io w k slots)
    + length (in_order aborted_number slots) ≡ total filled slots
split w k [] = omega arith
split w k (None ∷ xs) = omega (arith, split w (suc k) xs)
split w k (Some t ∷ xs) = grind (
  arith,
  common_steps,
  split w (suc k) xs,
  live-of w k t.lane t,
  ranked-length t.ticket.0 (in_order aborted_number xs),
)

pub length-taken : (ts : List FetchedCommand) → length ts ≡ length (commands_in Admin ts) + length (commands_in Io ts)
length-taken [] = omega arith
length-taken (t ∷ ts) = grind (arith, common_steps, length-taken ts)

-- a mailbox holds a request for each slot that is not free
held-filled : (d : Driver) (c : Controller) → Running (host Admin d c.window) (state Admin c)
    → Running (host Io d c.window) (state Io c) → held (mailbox d c) ≡ total filled d.slots
held-filled d c a b =
    omega (
      arith,
      box-live (host Admin d c.window) (state Admin c) a,
      box-live (host Io d c.window) (state Io c) b,
      length-map {A = FetchedCommand} {B = FetchedItem},
      length-taken,
      split c.window 0 d.slots,
    )

-- a slot is free exactly if the mailbox holds fewer than 24 requests
pub free-same : (d : Driver) (c : Controller) → Both d c → is_up d.state ≡ true
    → eqb (held (mailbox d c)) 24 ≡ is_none (position is_none d.slots)
free-same d c h u =
    ap (λ n. eqb n 24) (held-filled d c ((h.each Admin).up u) ((h.each Io).up u))
    ∙ ap (λ n. eqb (total filled d.slots) n) (sym h.slots) ∙ sym (free-none d.slots)

-- The tests of a placing have the same results for a mailbox and its driver.

abbrev tests : Bool → Bool → Bool → Bool → Bool → Option PlaceRefusal
tests u bad full ring more =
    if not u then Some NotReady
    else (if bad then Some BadRequest
    else (if full then Some NoSlot
    else (if ring then Some RingFull
    else (if more then None else Some TicketsExhausted))))

same-tests : (u bad a a' b b' more : Bool) → (u ≡ true → (a ≡ a') × (b ≡ b'))
    → tests u bad a b more ≡ tests u bad a' b' more
same-tests true bad a a' b b' more h = let e = h refl in rw (e.0, e.1) refl
same-tests false bad a a' b b' more h = refl

refusal-is : (d : Driver) (c : Controller) (request : Request)
    → Sound d c → refusal (mailbox d c) request ≡ place_refusal d request
unfolding box
refusal-is d c request s =
    same-tests (is_up d.state) (is_bad request) _ _ _ _ (nat_lt d.next ticket_count) (λ u.
    let r = running (lane_of request) d c s u in
    let full : ((ends (lane_of request) d).tail.unheard == 7) ≡ (8 - 1 - (ends (lane_of request) d).tail.unheard == 0) =
    grind (arith, common_steps, r.room) in (
      free-same d c s.both u,
      ap (λ (b : LaneBox). b.unheard == 7) (box-is (lane_of request) d c)
          ∙ full
          ∙ ap (λ n. n - 1 - (ends (lane_of request) d).tail.unheard == 0) (sym (s.fits (lane_of request)).tail),
    ))

pub refusal_is_a_step : RefusalIsAStep
refusal_is_a_step d c request why s h =
    let e = ap (λ o. placed_by o (mailbox d c) request) (refusal-is d c request s ∙ h) in
    record {
      sound = s;
      mail = ap (λ (r : MailboxReaction). r.mailbox) e;
      gives = ap (λ (r : MailboxReaction). r.reply) e;
    }

-- the tests that a placed request has passed
record Passed (u bad ring : Bool) : Type 0 where
  up : u ≡ true
  good : bad ≡ false
  room : ring ≡ false

passes : (u bad full ring more : Bool) → tests u bad full ring more ≡ None → Passed u bad ring
passes true false false false more h = record { up = refl; good = refl; room = refl }
passes u bad full ring more h = absurd (cc (h))

-- A command suits a slot if it is the command of the slot's request, and the slot's list is there.
same-bytes : (xs ys : List ℕ) → xs ≡ ys → bytes_eq xs ys ≡ true
same-bytes xs ys e = let d = bytes_eq-Decides xs ys in d.1 e

suits-by : (s : Slot) (x : List ℕ) (a : Asked) (k : ℕ)
    → asked_in s x ≡ a → cid x ≡ k → x ≡ submission_entry (entry_fields a k)
    → a.moved ≤ most_bytes → a.received ≤ a.moved → take (length (stored_list k a.moved)) s.list ≡ stored_list k a.moved
    → is_plain a ≡ true → suits s x ≡ true
unfolding suits
suits-by s x a k is named spelled most less there plainly =
    ap (λ (b : Asked).
    bytes_eq x (submission_entry (entry_fields b (cid x))) && (nat_le b.moved most_bytes && (nat_le b.received b.moved
    && (bytes_eq (take (length (stored_list (cid x) b.moved)) s.list) (stored_list (cid x) b.moved) && is_plain b)))) is
    ∙ ap (λ n. bytes_eq x (submission_entry (entry_fields a n)) && (nat_le a.moved most_bytes && (nat_le a.received
    a.moved && (bytes_eq (take (length (stored_list n a.moved)) s.list) (stored_list n a.moved) && is_plain a)))) named
    ∙ rw (
      same-bytes x _ spelled,
      le-leb a.moved most_bytes most,
      le-leb a.received a.moved less,
      same-bytes _ _ there,
      plainly,
    ) refl

-- the stores for a request: its data and its list in the slot, the entry at the lane's tail
record Fills (lane : Lane) (w w' : List ℕ) (s p : ℕ) (bytes list entry : List ℕ) : Type 0 where
  stored : Stored w w' s (λ l q. cond (same l lane) (with_bytes q (64 * p) entry) q)
  data_in : take (length bytes) (area w' s) ≡ bytes
  list_in : take (length list) (listed w' s) ≡ list

fills : (lane : Lane) (w bytes list entry : List ℕ) (s p : ℕ) → length w ≡ 4194304 → s < 24 → p < 8
    → length bytes ≤ most_bytes → length list ≤ 4096 → length entry ≡ 64 →
    Fills lane w (with_bytes (with_bytes (with_bytes w (data_area s) bytes) (list_page s) list)
    (submission_queue lane + 64 * p) entry) s p bytes list entry
fills lane w bytes list entry s p l a b h g e =
    let u = with_bytes w (data_area s) bytes in
    let v = with_bytes (with_bytes w (data_area s) bytes) (list_page s) list in
    let one = data-stored w w s (λ l q. q) bytes (none-stored w s l) a h in
    let two = list-stored w u s (λ l q. q) list one a g in
    let own = slot-apart lane v entry (64 * p) s two.size (omega (arith, b, e)) a in
    record {
      stored = page-stored lane w v s (λ l q. q) entry (64 * p) two (omega (arith, b, e));
      data_in = ap (take (length bytes)) (own.areas ∙ areas-list u list s one.size a g)
          ∙ area-front w bytes s (omega (arith, l, a)) h;
      list_in = ap (take (length list)) own.lists ∙ list-front u list s (omega (arith, one.size, a)) g;
    }

-- What is known of a placing.
abbrev window_then : Driver → Controller → Request → ℕ → List ℕ
window_then d c request slot = driver.placed_window d c.window request slot

record Known (d : Driver) (c : Controller) (request : Request) (slot : ℕ) : Type 0 where
  sound : Sound d c
  up : is_up d.state ≡ true
  good : is_bad request ≡ false
  put : (ends (lane_of request) d).tail.put < 8
  room : (ends (lane_of request) d).tail.unheard < 7
  within : slot < 24
  free : waiting_at d.slots slot ≡ None
  says : submission_of (entry_of request slot) ≡ entry_fields (asked_of request) slot
  sized : Sizes (asked_of request)

known : (d : Driver) (c : Controller) (request : Request) (slot : ℕ) → Sound d c → place_refusal d request ≡ None
    → free_slot d ≡ Some slot
    → submission_of (entry_of request slot) ≡ entry_fields (asked_of request) slot → Known d c request slot
known d c request slot s h f say =
    let p = passes (is_up d.state) (is_bad request) _ _ _ h in
    let g = s.fits (lane_of request) in
    let r = running (lane_of request) d c s p.up in
    let a = free-some d.slots slot f in
    let some : (8 - 1 - (ends (lane_of request) d).tail.unheard == 0) ≡ false =
    ap (λ n. n - 1 - (ends (lane_of request) d).tail.unheard == 0) (sym g.tail) ∙ p.room in
    let room : (ends (lane_of request) d).tail.unheard < 7 = grind (arith, common_steps, r.room, some) in
    let within : slot < 24 = omega (arith, a.0, s.both.slots) in
    let sized = sizes request p.good in
    search

-- The lane after it.
abbrev host_then : Driver → Controller → Request → ℕ → Host
host_then d c request slot =
    placed_one (host (lane_of request) d c.window) (waiting_of d request) slot
    (area (window_then d c request slot) slot) (listed (window_then d c request slot) slot)

abbrev state_then : Driver → Controller → Request → ℕ → State
state_then d c request slot =
    placed_state (host (lane_of request) d c.window) (state (lane_of request) c) (entry_of request slot)

-- the controller after all stores
abbrev controller_then : Driver → Controller → Request → ℕ → Controller
controller_then d c request slot = record c { window = window_then d c request slot }

-- The driver's ends, next ticket and slots after it.
abbrev ChangedSo : Driver → Request → ℕ → Type 0
ChangedSo d request slot =
    Changed (lane_of request) d (driver.placed d request slot) (put_ends (ends (lane_of request) d)) (d.next + 1)
    (slice_set d.slots slot (Some (waiting_of d request)))

changed-so : (d : Driver) (request : Request) (slot : ℕ) → ChangedSo d request slot
changed-so d request slot = changed (lane_of request) d (put_ends (ends (lane_of request) d)) (d.next + 1)
    (slice_set d.slots slot (Some (waiting_of d request)))

aborted-set : (xs : List (Option Waiting)) (i : ℕ) (t : Waiting) → waiting_at xs i ≡ None → t.live ≡ true
    → in_order aborted_number (slice_set xs i (Some t)) ≡ in_order aborted_number xs
aborted-set [] i t h l = refl
aborted-set (x ∷ xs) zero t h l = rw (h, l) refl
aborted-set (x ∷ xs) (suc i) t h l = ap (ranked_too (aborted_number x)) (aborted-set xs i t h l)

-- The effect of placing such a request.
module _ (d : Driver) (c : Controller) (request : Request) (slot : ℕ) (k : Known d c request slot) where
  filled-so : Fills (lane_of request) c.window (window_then d c request slot) slot (ends (lane_of request) d).tail.put
      (asked_of request).sent (stored_list slot (asked_of request).moved) (entry_of request slot)
  filled-so =
      let l = length-stored_list slot (asked_of request).moved k.sized.most in
      let two : List ℕ = with_bytes (with_bytes c.window (data_area slot) (asked_of request).sent) (list_page slot)
      (stored_list slot (asked_of request).moved) in
      let e : (ends (lane_of request) d).tail.put % 8 ≡ (ends (lane_of request) d).tail.put = omega (arith, k.put) in
      subst (λ n. Fills (lane_of request) c.window (with_bytes two (submission_queue (lane_of request) + 64 * n)
      (entry_of request slot)) slot (ends (lane_of request) d).tail.put (asked_of request).sent
      (stored_list slot (asked_of request).moved) (entry_of request slot)) (sym e)
      (fills (lane_of request) c.window (asked_of request).sent (stored_list slot (asked_of request).moved)
      (entry_of request slot) slot
      (ends (lane_of request) d).tail.put k.sound.both.window k.within k.put (omega (arith, k.sized.sent, k.sized.most))
      (omega (arith, l)) (length-entry (entry_fields (asked_of request) slot)))

  -- the command has the fields of the request
  asked-so : asked_in (whole (window_then d c request slot) slot (waiting_of d request)) (entry_of request slot)
      ≡ asked_of request
  asked-so =
      let z = k.sized in
      let m : entry_length (lane_of request) (entry_of request slot) ≡ (asked_of request).moved =
      entries_move_their_data request slot (entry_of request slot) k.good k.says in
      let g = k.says in
      let t : take (entry_length (lane_of request) (entry_of request slot) - (asked_of request).received)
      (area (window_then d c request slot) slot) ≡ (asked_of request).sent =
      ap (λ x. take x (area (window_then d c request slot) slot))
      (ap (λ x. x - (asked_of request).received) m ∙ sym z.sent) ∙ filled-so.data_in in
      λ i. record {
        command = record {
          lane = lane_of request;
          opcode = (g i).opcode;
          nsid = (g i).nsid;
          cdw10 = (g i).cdw10;
          cdw11 = (g i).cdw11;
          cdw12 = (g i).cdw12;
        };
        moved = m i;
        sent = t i;
        received = (asked_of request).received;
      }

  new-item-so : item_in (whole (window_then d c request slot) slot (waiting_of d request)) (entry_of request slot)
      ≡ new_item (mailbox d c) request
  unfolding item_in
  new-item-so = ap (λ (a : Asked). record { ticket = d.next; asked = a }) asked-so

  -- no lane has a request in the slot
  free-in : (l : Lane) → slot_in l c.window slot (waiting_at d.slots slot) ≡ empty
  free-in l = ap (slot_in l c.window slot) k.free

  idle-in : (l : Lane) → live_at (slots_in l c.window 0 d.slots) slot ≡ 0
  idle-in l = ap live_in (slot-in l c.window d.slots slot ∙ free-in l)

  placed-at : AtLane (lane_of request) d (driver.placed d request slot) c (controller_then d c request slot)
      (d.next + 1) (host_then d c request slot) (state_then d c request slot)
  placed-at =
      let f = filled-so in
      let x = changed-so d request slot in
      let b : Both d c = k.sound.both in
      let here = slots-here (lane_of request) c.window (window_then d c request slot) d.slots slot
      (Some (waiting_of d request)) b.slots k.within f.stored.slots
      ∙ ap (λ t. slice_set (slots_in (lane_of request) c.window 0 d.slots) slot
      (cond t (whole (window_then d c request slot) slot (waiting_of d request)) empty))
      (same-self (lane_of request)) in
      let there = slots-there (other (lane_of request)) c.window (window_then d c request slot) d.slots slot
      (Some (waiting_of d request)) b.slots k.within f.stored.slots (free-in (other (lane_of request)))
      (ap (λ t. cond t (whole (window_then d c request slot) slot (waiting_of d request)) empty)
      (same-other (lane_of request))) in
      let pages = f.stored.pages (lane_of request)
      ∙ ap (λ t. cond t (with_bytes (pages_of (lane_of request) c.window) (64 * (ends (lane_of request) d).tail.put)
      (entry_of request slot)) (pages_of (lane_of request) c.window)) (same-self (lane_of request)) in
      let others = f.stored.pages (other (lane_of request))
      ∙ ap (λ t. cond t (with_bytes (pages_of (other (lane_of request)) c.window)
      (64 * (ends (lane_of request) d).tail.put) (entry_of request slot)) (pages_of (other (lane_of request)) c.window))
      (other-same (lane_of request)) in
      record {
        up = x.state;
        next = x.next;
        later = omega arith;
        window = f.stored.size ∙ sym b.window;
        slots = ap length x.slots ∙ length-set d.slots slot (Some (waiting_of d request));
        host_here = x.here (window_then d c request slot)
            ∙ (λ i. record (host (lane_of request) d c.window) {
              next = d.next + 1;
              slots = here i;
              put = ((ends (lane_of request) d).tail.put + 1) % (k.sound.fits (lane_of request)).tail i;
              unheard = (ends (lane_of request) d).tail.unheard + 1;
            });
        host_there = x.there (window_then d c request slot)
            ∙ (λ i. record (host (other (lane_of request)) d c.window) { next = d.next + 1; slots = there i });
        state_here = λ i. record (state (lane_of request) c) { window = pages i };
        state_there = λ i. record (state (other (lane_of request)) c) { window = others i };
      }

  -- the premise of the lane's own Place
  places-so : Places (host (lane_of request) d c.window) (state (lane_of request) c)
      (entry_of request slot) (waiting_of d request) slot (area (window_then d c request slot) slot)
      (listed (window_then d c request slot) slot)
  places-so =
      let f = filled-so in
      let z = k.sized in
      let named : cid (entry_of request slot) ≡ slot = ap (λ (x : SqeFields). x.cid) k.says in
      let suits_it = suits-by (whole (window_then d c request slot) slot (waiting_of d request)) (entry_of request slot)
      (asked_of request) slot asked-so named refl z.most z.received f.list_in (plain_request request) in
      search (
        running (lane_of request) d c k.sound k.up,
        idle-in (lane_of request),
        length-entry (entry_fields (asked_of request) slot),
        k.room,
        k.within,
        named,
        suits_it,
      )

  stores-so : after_calls (stores_of d request slot) c ≡ controller_then d c request slot
  stores-so =
      let l = length-stored_list slot (asked_of request).moved k.sized.most in
      let low = queue-low (lane_of request) in
      let one : Controller = record c { window = with_bytes c.window (data_area slot) (asked_of request).sent } in
      let two : Controller = record c {
        window = with_bytes (with_bytes c.window (data_area slot) (asked_of request).sent) (list_page slot)
            (stored_list slot (asked_of request).moved);
      } in
      let a =
      stored-at (data_area slot) (asked_of request).sent c (omega (arith, k.within, k.sized.sent, k.sized.most)) in
      let b = stored-at (list_page slot) (stored_list slot (asked_of request).moved) one (omega (arith, k.within, l)) in
      ap (λ x. (after_store (driver.entry_place d request) (entry_of request slot)
      (after_store (list_page slot) (stored_list slot (asked_of request).moved) x).controller).controller) a
      ∙ ap (λ x. (after_store (driver.entry_place d request) (entry_of request slot) x).controller) b
      ∙ stored-at (driver.entry_place d request) (entry_of request slot) two
      (omega (arith, length-entry (entry_fields (asked_of request) slot), low, k.put))

  sound-so : Sound (driver.placed d request slot) (controller_then d c request slot)
  sound-so =
      let s = k.sound in
      let z = k.sized in
      let x = changed-so d request slot in
      let g = s.fits (lane_of request) in
      let p = s.up k.up in
      sound-at (lane_of request) d (driver.placed d request slot) c (controller_then d c request slot)
      (d.next + 1) _ _ placed-at s k.up
      (place-holds _ _ (entry_of request slot) (waiting_of d request) slot _ _ places-so s.both.first
      (s.both.each (lane_of request)) k.up)
      (x.fits (record { tail = g.tail; head = g.head }) s.fits)
      (λ j. subst (λ xs. received_in (waiting_at xs j) ≤ most_bytes) (sym x.slots)
      (size-set d.slots slot j (Some (waiting_of d request)) (omega (arith, z.received, z.most)) s.sizes))
      (record {
        admin = p.admin;
        io = p.io;
        submission = p.submission;
        completion = p.completion;
        fetched = p.fetched;
        ready = p.ready;
        enabled = p.enabled;
      })

  mail-so : mailbox (driver.placed d request slot) (controller_then d c request slot)
      ≡ with_request (mailbox d c) request
  mail-so =
      let at = placed-at in
      let box_then = place-box _ _ (entry_of request slot) (waiting_of d request) slot _ _ places-so
      ∙ ap (λ u. with_placed u
      (item_in (whole (window_then d c request slot) slot (waiting_of d request)) (entry_of request slot)))
      (sym (box-is (lane_of request) d c))
      ∙ ap (with_placed (box_at (lane_of request) (mailbox d c))) new-item-so in
      mail-at (lane_of request) d (driver.placed d request slot) c (controller_then d c request slot)
      (d.next + 1) _ _ at (mailbox d c).fetched
      (fetched-at (lane_of request) d (driver.placed d request slot) c (controller_then d c request slot)
      (d.next + 1) _ _ at slot _ refl c.fetched
      (λ l. (bare-of k.sound.both.first _ _ slot (k.sound.both.each l) (idle-in l)).taken))
      (ap (in_order aborted_number) (changed-so d request slot).slots
      ∙ aborted-set d.slots slot (waiting_of d request) k.free refl)
      ∙ ap (λ u. with_box (lane_of request) u (record (mailbox d c) { next = d.next + 1 })) box_then

pub place_is_a_step : PlaceIsAStep
place_is_a_step d c request slot s h f say =
    let k = known d c request slot s h f say in
    let e = stores-so d c request slot k in
    let q = ap (λ o. placed_by o (mailbox d c) request) (refusal-is d c request s ∙ h) in
    record {
      sound = subst (Sound (driver.placed d request slot)) (sym e) (sound-so d c request slot k);
      mail = ap (λ (x : MailboxReaction). x.mailbox) q
          ∙ sym (ap (mailbox (driver.placed d request slot)) e ∙ mail-so d c request slot k);
      gives = ap (λ (x : MailboxReaction). x.reply) q;
    }
