-- For the law on events and `nvme_fleet`: a poll of a driver is a step of its mailbox: it delivers the first aborted
-- request, or else the first answer of a lane (queue pair).
use Rattle.nvme_refinement.proofs.Words.{
  none-some,
  Done,
  Aborted,
  Polled,
  Reply,
  Host,
  Slot,
  PostedAnswer,
  empty,
  ticket_in,
  can_hear,
  area,
  MailboxReaction,
  mailbox_reaction,
  plain,
  answer_reply,
  handed_up,
  polled_aborted,
  polled_admin,
  polled_io,
  IsStep,
  PollIsAStep,
  after_calls,
  most_bytes,
  can_be_heard,
  waiting_at,
  ◌≡◌,
  ℕ,
  ◌+◌,
  ◌-◌,
  ◌*◌,
  ◌%◌,
  ◌⊎◌,
  ◌<◌,
  ◌≤◌,
  ◌==◌,
  Bool,
  true,
  not,
  ◌&&◌,
  cond,
  List,
  [],
  ◌∷◌,
  length,
  take,
  drop,
  Option,
  None,
  Some,
  refl,
  sym,
  ap,
  subst,
  ◌∙◌,
  arith,
  inl,
  inr,
  length-drop,
  length-set,
  take-take,
  cases_Bool,
  cases_lt,
  lt-ltb,
  length-take-le,
  slice_get,
  slice_get_within,
  slice_set,
  slice_range,
  option_map,
  if◌then◌else◌,
  Ok,
  Err,
  Completion,
  completion_of,
  sq_id,
  sq_head,
  status,
  dw0,
  phase_tag,
  Lane,
  Admin,
  Io,
  Waiting,
  Ticket,
  queue_id,
  submission_queue,
  completion_place_in,
  head_doorbell,
  data_area,
  Ends,
  Driver,
  is_up,
  ends,
  consumed_ends,
  Controller,
  DeviceEnds,
  with_head,
  completion_at,
  after_write32,
  box_at,
  with_box,
  LaneBox,
  box,
  answer,
  front,
  heard,
  less,
  consumed as consumed_one,
  completion_bytes,
  phase_of,
  received_in,
  live_in,
  live_at as live_slot,
  holds,
  commands_of,
  Both,
  other,
  host,
  state,
  slot_in,
  slots_in,
  commands_in,
  pages_of,
  held_by,
  in_order,
  aborted_number,
  Sound,
  EndsFit,
  completion_as,
  mailbox,
  eq-eqb,
  common_steps,
}
use Rattle.nvme_refinement.proofs.LaneWindows.{each-lane}
use Rattle.std.specs.Option.{option_flatten}
use Rattle.nvme_driver.specs.declared.faults.PollFault.TheVariants as poll_fault
use Rattle.nvme_mailbox.specs.Deliveries as step
use Rattle.nvme_wire.specs.Completion.{cid}
use Rattle.nvme_driver.specs.Polls as poll
use Rattle.nvme_refinement.proofs.Slots.{few, apart-set, bare-box}
use Rattle.nvme_refinement.proofs.Polls.{
  poll-posted,
  poll-box,
  poll-holds,
  none-posted,
  next-none,
  next-some,
  hears,
  front-of,
  front-live,
  bare as bare_front,
}
use Rattle.nvme_refinement.proofs.Queues.{Bare}
use Rattle.nvme_refinement.proofs.Empties.{emptied, emptied-holds, bare-of}
use Rattle.nvme_refinement.proofs.Orders.{NotBelow, oldest-first, empty-order, live-freed}
use Rattle.nvme_refinement.proofs.OneLane.{
  same-holds,
  running,
  box-is,
  Changed,
  changed,
  AtLane,
  size-set,
  sound-at,
  fetched-at,
  mail-at,
  Own,
  own-at,
  slot-in,
  slots-here,
  slots-there,
  same-fetched,
}
use Rattle.nvme_refinement.proofs.LaneCounts.{
  counts,
  completion-is,
  same-submission,
  Counted,
  counted,
  part-in,
  range-is,
}
use Rattle.nvme_refinement.proofs.Registering.{head-written}
use Rattle.nvme_refinement.proofs.RingStep.{same-ahead}

-- The next completion, as the driver reads it.

bytes-in : (lane : Lane) (w : List ℕ) (n : ℕ)
    → slice_range w (completion_place_in lane n) (completion_place_in lane n + 16)
    ≡ completion_bytes (pages_of lane w) n
unfolding pages_of
bytes-in lane w n =
    let e : completion_place_in lane n ≡ submission_queue lane + (4096 + 16 * (n % 32)) = omega arith in
    range-is w (completion_place_in lane n) 16 ∙ ap (λ m. take 16 (drop m w)) e
    ∙ sym (part-in w (submission_queue lane) (4096 + 16 * (n % 32)) 16 (omega arith))

pub tag-is : (n : ℕ) → n < 64 → phase_tag 32 n ≡ phase_of n
tag-is n h = grind (arith, common_steps, h)

-- whether it is new, and its fields
abbrev is_next : Lane → Driver → List ℕ → Bool
is_next lane d w =
    cond (completion_of (completion_bytes (pages_of lane w) (host lane d w).consumed)).phase
    (phase_of (host lane d w).consumed) (not (phase_of (host lane d w).consumed))

new-is : (lane : Lane) (d : Driver) (w : List ℕ) → (ends lane d).head.consumed < 64
    → poll.new_in lane (ends lane d) w
    ≡ (if is_next lane d w then Some (completion_bytes (pages_of lane w) (ends lane d).head.consumed) else None)
new-is lane d w h = rw (bytes-in lane w (ends lane d).head.consumed, tag-is (ends lane d).head.consumed h) refl

-- Aborted requests.

number-is : (o : Option Waiting) → aborted_number o ≡ option_map (λ (t : Ticket). t.0) (poll.aborted_ticket o)
number-is o = grind (arith, common_steps)

below-is : (t : Ticket) (o : Option Ticket) → poll.IsNotBelow t o → NotBelow t.0 (option_map (λ (u : Ticket). u.0) o)
below-is t None h = tt
below-is t (Some u) h = h

within-of : (xs : List (Option Waiting)) (i : ℕ) → (waiting_at xs i ≡ None → ⊥) → i < length xs
within-of xs i h = by (slice_get xs i) refl
  where
    by : (o : Option (Option Waiting)) → slice_get xs i ≡ o → i < length xs
    by None e = absurd (h (ap option_flatten e))
    by (Some o) e = slice_get_within xs i o e

-- an aborted request is live in no lane
idle-in : (l : Lane) (w : List ℕ) (n : ℕ) (o : Option Waiting) (t : ℕ)
    → aborted_number o ≡ Some t → live_in (slot_in l w n o) ≡ 0
idle-in l w n None t e = refl
idle-in l w n (Some x) t e = grind (arith, common_steps, e)

freed-host : (l : Lane) (d : Driver) (w : List ℕ) (i : ℕ)
    → length d.slots ≡ 24 → i < 24 → host l (poll.freed d i) w ≡ emptied (host l d w) i
freed-host Admin d w i e h =
    rw (slots-here Admin w w d.slots i None e h (λ k b q. record { areas = refl; lists = refl })) refl
freed-host Io d w i e h =
    rw (slots-here Io w w d.slots i None e h (λ k b q. record { areas = refl; lists = refl })) refl

-- an aborted request is delivered
aborts : (d : Driver) (c : Controller) (i : ℕ) (t : Ticket) → Sound d c → poll.aborted_at d.slots i ≡ Some t
    → ((k : ℕ) → poll.IsNotBelow t (poll.aborted_at d.slots k))
    → IsStep (step.polled (mailbox d c)) (poll.freed d i) c (plain (Polled (Ok (Some (Aborted t)))))
aborts d c i t s e low =
    let b : Both d c = s.both in
    let n = number-is (waiting_at d.slots i) ∙ ap (option_map (λ (u : Ticket). u.0)) e in
    let within = within-of d.slots i (λ z. none-some t.0 (sym (ap aborted_number z) ∙ n)) in
    let idle : (l : Lane) → live_slot (slots_in l c.window 0 d.slots) i ≡ 0 =
    λ l. ap live_in (slot-in l c.window d.slots i) ∙ idle-in l c.window i (waiting_at d.slots i) t.0 n in
    let hosts : (l : Lane) → host l (poll.freed d i) c.window ≡ emptied (host l d c.window) i =
    λ l. freed-host l d c.window i b.slots (omega (arith, within, b.slots)) in
    let bare : (l : Lane) → Bare (host l d c.window) (state l c) i = λ l. bare-of b.first _ _ i (b.each l) (idle l) in
    let boxes : (l : Lane) → box (host l (poll.freed d i) c.window) (state l c) ≡ box (host l d c.window) (state l c) =
    λ l. ap (λ (u : Host). box u (state l c)) (hosts l) ∙ bare-box (host l d c.window) (state l c) i empty (bare l) in
    let f = oldest-first d.slots i t.0 n (λ k.
    subst (NotBelow t.0) (sym (number-is (waiting_at d.slots k))) (below-is t (poll.aborted_at d.slots k) (low k))) in
    let taken = same-fetched (held_by d c.window) (held_by (poll.freed d i) c.window) i
    (λ l k q. ap (λ (u : Host). holds u k) (hosts l) ∙ apart-set (slots_in l c.window 0 d.slots) i empty k q) c.fetched
    (λ l. (bare l).taken) in
    let admin = boxes Admin in
    let io = boxes Io in
    let q = ap (λ ts. polled_aborted ts (mailbox d c)) f in
    record {
      sound = record {
        both = record {
          first = b.first;
          window = b.window;
          slots = length-set d.slots i None ∙ b.slots;
          each = λ l. same-holds b.first _ _ _ _ (emptied-holds b.first _ _ i (idle l) (b.each l)) (hosts l) refl;
        };
        fits = each-lane Admin (λ l. EndsFit (ends l (poll.freed d i))) (s.fits Admin) (s.fits Io);
        sizes = λ k. size-set d.slots i k None (omega arith) s.sizes;
        up = s.up;
        down = s.down;
      };
      mail = ap (λ (r : MailboxReaction). r.mailbox) q
          ∙ sym (λ j. record (mailbox d c) {
            admin = admin j;
            io = io j;
            fetched = taken j;
            aborted = in_order aborted_number (poll.freed d i).slots;
          });
      gives = ap (λ (r : MailboxReaction). r.reply) q;
    }

-- The completion at the head of a lane's queue.

-- the entry, the completion, and its answer
abbrev entry_at : Lane → Driver → Controller → List ℕ
entry_at lane d c = completion_bytes (pages_of lane c.window) (ends lane d).head.consumed

abbrev head-of : Lane → Driver → Controller → Completion
head-of lane d c = front (host lane d c.window) (state lane c)

abbrev first_answer : Lane → Driver → Controller → PostedAnswer
first_answer lane d c = answer (held_by d c.window lane) (heard (host lane d c.window)) (head-of lane d c)

abbrev rest_posted : Lane → Driver → Controller → List PostedAnswer
rest_posted lane d c = (box (consumed_one (host lane d c.window) (head-of lane d c)) (less (state lane c))).posted

-- what is known of it
record Heads (lane : Lane) (d : Driver) (c : Controller) : Type 0 where
  sound : Sound d c
  up : is_up d.state ≡ true
  some : 0 < (state lane c).unread
  own : Own lane (waiting_at d.slots (cid (entry_at lane d c)))
  within : cid (entry_at lane d c) < 24
  heard : can_be_heard (ends lane d).tail (sq_head (entry_at lane d c)) ≡ true

heads : (lane : Lane) (d : Driver) (c : Controller) → Sound d c → is_up d.state ≡ true → 0 < (state lane c).unread
    → Heads lane d c
heads lane d c s u p =
    let r = running lane d c s u in
    let o =
    own-at lane c.window d.slots (cid (entry_at lane d c)) (front-live (host lane d c.window) (state lane c) r p) in
    let within : cid (entry_at lane d c) < 24 = omega
    (arith, within-of d.slots (cid (entry_at lane d c)) (λ z. none-some o.waiting (sym z ∙ o.is)), s.both.slots) in
    let heard = hear-is lane d c.window (sq_head (entry_at lane d c)) (s.fits lane)
    ∙ hears (host lane d c.window) (state lane c) r p in
    search
  where
    hear-is : (lane : Lane) (d : Driver) (w : List ℕ) (head : ℕ)
        → EndsFit (ends lane d) → can_be_heard (ends lane d).tail head ≡ can_hear (host lane d w) head
    hear-is lane d w head f = rw (f.tail, same-ahead (ends lane d).tail.put head) refl

abbrev answer_at : (lane : Lane) (d : Driver) (c : Controller) → Heads lane d c → poll.Poll
answer_at lane d c h = poll.answered_poll d c.window lane (entry_at lane d c) (Some (h.own).waiting)

-- the driver's ends after it
consumed-is : (e : Ends) (head : ℕ) → EndsFit e → can_be_heard e.tail head ≡ true
    → consumed_ends e head ≡ record {
      tail = record e.tail { unheard = (e.tail.put + 8 - head) % 8 };
      head = record e.head { consumed = (e.head.consumed + 1) % 64 };
    }
consumed-is e head f b = rw (b, f.tail, f.head, same-ahead e.tail.put head) refl

abbrev ChangedSo : Lane → Driver → List ℕ → Type 0
ChangedSo lane d x = Changed lane d (poll.consumed d lane x) (consumed_ends (ends lane d) (sq_head x)) d.next
    (slice_set d.slots (cid x) None)

changed-so : (lane : Lane) (d : Driver) (x : List ℕ) → ChangedSo lane d x
changed-so lane d x = changed lane d (consumed_ends (ends lane d) (sq_head x)) d.next (slice_set d.slots (cid x) None)

-- the controller after the head is written to its doorbell
abbrev told_one : Lane → Controller → ℕ → Controller
told_one lane c v = record c {
  completion = slice_set c.completion (queue_id lane) (option_map (with_head v) (completion_at c (queue_id lane)));
}

abbrev told_counts : Lane → Controller → DeviceEnds
told_counts lane c = record (counts lane c) { unread = (state lane c).unread - 1 }

abbrev head_then : Lane → Driver → ℕ
head_then lane d = ((ends lane d).head.consumed + 1) % 64 % 32

fewer : (n k p : ℕ) → n < 64 → 0 < k → k < 32 → p ≡ (n + k) % 64 → (32 + p % 32 - (n + 1) % 64 % 32) % 32 ≡ k - 1
fewer n k p a b e f = omega arith

-- the reply of the driver and of the mailbox
abbrev poll_reply : poll.Poll → Reply
poll_reply p = record { seen = Polled p.answer; bytes = p.bytes }

area-data : (w : List ℕ) (s n : ℕ) → n ≤ most_bytes → take n (area w s) ≡ slice_range w (data_area s) (data_area s + n)
unfolding area
area-data w s n h = take-take n most_bytes (drop (data_area s) w) h ∙ sym (range-is w (data_area s) n)

-- The completion that is found, if nothing was aborted.

abbrev Finds : Driver → Controller → MailboxReaction → Type 0
Finds d c r =
    IsStep r (poll.found_poll d c.window (poll.found d c.window)).driver
    (after_calls (poll.found_poll d c.window (poll.found d c.window)).calls c)
    (poll_reply (poll.found_poll d c.window (poll.found d c.window)))

-- or none
finds-none : (d : Driver) (c : Controller) (r : MailboxReaction) → Sound d c → poll.found d c.window ≡ None
    → r ≡ mailbox_reaction (mailbox d c) (Polled (Ok None)) → Finds d c r
finds-none d c r s found q =
    subst (λ k. IsStep r k.driver (after_calls k.calls c) (poll_reply k)) (sym (ap (poll.found_poll d c.window) found))
    (record {
      sound = s;
      mail = ap (λ (x : MailboxReaction). x.mailbox) q;
      gives = ap (λ (x : MailboxReaction). x.reply) q;
    })

-- a lane as the driver and the mailbox see it: an answer, or none
record Has (lane : Lane) (d : Driver) (c : Controller) : Type 0 where
  heads : Heads lane d c
  found : poll.new_in lane (ends lane d) c.window ≡ Some (entry_at lane d c)
  posted : (box_at lane (mailbox d c)).posted ≡ first_answer lane d c ∷ rest_posted lane d c

record HasNone (lane : Lane) (d : Driver) (c : Controller) : Type 0 where
  found : poll.new_in lane (ends lane d) c.window ≡ None
  posted : (box_at lane (mailbox d c)).posted ≡ []

has : (lane : Lane) (d : Driver) (c : Controller) → Sound d c → is_up d.state ≡ true → Has lane d c ⊎ HasNone lane d c
has lane d c s u =
    let r = running lane d c s u in
    let b = ap (λ (x : LaneBox). x.posted) (box-is lane d c) in
    elim (cases_lt 0 (state lane c).unread) [
      | inl some ↦ inl (record {
        heads = heads lane d c s u some;
        found = grind (
          arith,
          common_steps,
          new-is lane d c.window r.consumed,
          next-some (host lane d c.window) (state lane c) r some,
        );
        posted = b ∙ poll-posted (host lane d c.window) (state lane c) r some;
      })
      | inr over ↦ (let z : (state lane c).unread ≡ 0 = omega (arith, over) in inr (record {
        found = grind (
          arith,
          common_steps,
          new-is lane d c.window r.consumed,
          next-none (host lane d c.window) (state lane c) r z,
        );
        posted = b ∙ none-posted (host lane d c.window) (state lane c) z;
      }))
    ]

-- The effect of delivering such a completion.
module _ (lane : Lane) (d : Driver) (c : Controller) (h : Heads lane d c) where
  knows-it : poll.answered d lane (entry_at lane d c) ≡ Some (h.own).waiting
  knows-it =
      let a : (sq_id (entry_at lane d c) == queue_id lane) ≡ true =
      eq-eqb _ _ (front-of (host lane d c.window) (state lane c) (running lane d c h.sound h.up) h.some).0.0 in
      ap (λ t. if t && can_be_heard (ends lane d).tail (sq_head (entry_at lane d c))
      then poll.live_in lane (waiting_at d.slots (cid (entry_at lane d c))) else None) a
      ∙ ap (λ t. if t then poll.live_in lane (waiting_at d.slots (cid (entry_at lane d c))) else None) h.heard
      ∙ ap (poll.live_in lane) (h.own).is
      ∙ ap (λ t. if t && (h.own).waiting.live then Some (h.own).waiting else None)
      (eq-eqb _ _ (ap queue_id (h.own).of_lane))
      ∙ ap (λ t. if t then Some (h.own).waiting else None) (h.own).live

  told-so : Counted lane c (told_one lane c (head_then lane d)) (told_counts lane c)
  told-so =
      let p = h.sound.up h.up in
      let r = running lane d c h.sound h.up in
      let few : (state lane c).unread < 32 = omega (arith, few (host lane d c.window) (state lane c) r) in
      let e : with_head (head_then lane d) (completion_as lane (counts lane c))
      ≡ completion_as lane (told_counts lane c) =
      rw (
        lt-ltb (head_then lane d) 32 (omega arith),
        fewer (ends lane d).head.consumed (state lane c).unread (state lane c).posted r.consumed h.some few r.posted,
      ) refl in
      counted lane c (told_one lane c (head_then lane d)) (told_counts lane c) p (same-submission lane c p)
      (ap (λ o. slice_set c.completion (queue_id lane) (option_map (with_head (head_then lane d)) o))
      (completion-is lane c p) ∙ ap (λ q. slice_set c.completion (queue_id lane) (Some q)) e)
      p.fetched refl

  polled-at : AtLane lane d (poll.consumed d lane (entry_at lane d c)) c (told_one lane c (head_then lane d)) d.next
      (consumed_one (host lane d c.window) (head-of lane d c)) (less (state lane c))
  polled-at =
      let b : Both d c = h.sound.both in
      let x = changed-so lane d (entry_at lane d c) in
      let t = told-so in
      let q = consumed-is (ends lane d) (sq_head (entry_at lane d c)) (h.sound.fits lane) h.heard in
      let here = slots-here lane c.window c.window d.slots (cid (entry_at lane d c)) None b.slots h.within
      (λ k g e. record { areas = refl; lists = refl }) in
      let there = slots-there (other lane) c.window c.window d.slots (cid (entry_at lane d c)) None b.slots h.within
      (λ k g e. record { areas = refl; lists = refl }) ((h.own).absent c.window (cid (entry_at lane d c))) refl in
      let slots = ap length x.slots ∙ length-set d.slots (cid (entry_at lane d c)) None in
      let host_here = x.here c.window ∙ (λ i. record (host lane d c.window) {
        slots = here i;
        put = (q i).tail.put;
        unheard = (q i).tail.unheard;
        consumed = (q i).head.consumed;
      }) in
      let host_there = x.there c.window ∙ (λ i. record (host (other lane) d c.window) { slots = there i }) in
      search arith

  polled-sound : Sound (poll.consumed d lane (entry_at lane d c)) (told_one lane c (head_then lane d))
  polled-sound =
      let s = h.sound in
      let f = s.fits lane in
      let x = changed-so lane d (entry_at lane d c) in
      sound-at lane d (poll.consumed d lane (entry_at lane d c)) c
      (told_one lane c (head_then lane d)) d.next _ _ polled-at s h.up
      (poll-holds s.both.first _ _ (s.both.each lane) h.up h.some)
      (x.fits (subst EndsFit (sym (consumed-is (ends lane d) (sq_head (entry_at lane d c)) f h.heard))
      (record { tail = f.tail; head = f.head })) s.fits)
      (λ k. subst (λ xs. received_in (waiting_at xs k) ≤ most_bytes) (sym x.slots)
      (size-set d.slots (cid (entry_at lane d c)) k None (omega arith) s.sizes))
      told-so.paired

  -- the first answer of the lane is gone
  polled-mail : mailbox (poll.consumed d lane (entry_at lane d c)) (told_one lane c (head_then lane d))
      ≡ (handed_up lane (first_answer lane d c) (rest_posted lane d c) (mailbox d c)).mailbox
  polled-mail =
      let r = running lane d c h.sound h.up in
      let at = polled-at in
      let gone = bare-of h.sound.both.first _ _ (cid (entry_at lane d c)) (h.sound.both.each (other lane))
      (ap live_in (slot-in (other lane) c.window d.slots (cid (entry_at lane d c))
      ∙ (h.own).absent c.window (cid (entry_at lane d c)))) in
      mail-at lane d (poll.consumed d lane (entry_at lane d c)) c (told_one lane c (head_then lane d)) d.next _ _ at
      (mailbox d c).fetched
      (fetched-at lane d (poll.consumed d lane (entry_at lane d c)) c (told_one lane c (head_then lane d)) d.next _ _ at
      (cid (entry_at lane d c)) empty refl c.fetched
      (each-lane lane (λ l. commands_of (cid (entry_at lane d c)) (commands_in l c.fetched) ≡ 0)
      (bare_front (host lane d c.window) (state lane c) r h.some).taken gone.taken))
      (ap (in_order aborted_number) (changed-so lane d (entry_at lane d c)).slots
      ∙ live-freed d.slots (cid (entry_at lane d c)) (h.own).counts)
      ∙ ap (λ u. with_box lane u (mailbox d c)) (poll-box (host lane d c.window) (state lane c) r h.some
      ∙ ap
      (λ (u : LaneBox). record u { posted = rest_posted lane d c; unheard = u.unheard - (first_answer lane d c).step })
      (sym (box-is lane d c)))

  answer-is : answer_reply (first_answer lane d c) ≡ poll_reply (answer_at lane d c h)
  answer-is =
      let small : ((h.own).waiting).received ≤ most_bytes =
      subst (λ o. received_in o ≤ most_bytes) (h.own).is (h.sound.sizes (cid (entry_at lane d c))) in
      let g : poll.answer_len ((h.own).waiting).received (status (entry_at lane d c)) ≤ most_bytes =
      grind (arith, common_steps, small) in
      let e =
      slot-in lane c.window d.slots (cid (entry_at lane d c)) ∙ (h.own).slot c.window (cid (entry_at lane d c)) in
      let t = area-data c.window (cid (entry_at lane d c))
      (poll.answer_len ((h.own).waiting).received (status (entry_at lane d c))) g in
      let l = ap length (t ∙ range-is c.window (data_area (cid (entry_at lane d c)))
      (poll.answer_len ((h.own).waiting).received (status (entry_at lane d c))))
      ∙ length-take-le _ (drop (data_area (cid (entry_at lane d c))) c.window)
      (omega (arith, length-drop (data_area (cid (entry_at lane d c))) c.window, h.sound.both.window, h.within, g)) in
      ap (λ (z : Slot). answer_reply (record {
        ticket = ticket_in z.waiting;
        status = status (entry_at lane d c);
        dw0 = dw0 (entry_at lane d c);
        bytes = take (poll.answer_len (received_in z.waiting) (status (entry_at lane d c))) z.bytes;
        step = (first_answer lane d c).step;
      })) e
      ∙ (λ i. record {
        seen = Polled
            (Ok (Some (Done ((h.own).waiting).ticket (status (entry_at lane d c)) (dw0 (entry_at lane d c)) (l i))));
        bytes = t i;
      })

  -- a completion of a lane is delivered
  hands-up : IsStep (handed_up lane (first_answer lane d c) (rest_posted lane d c) (mailbox d c))
      (answer_at lane d c h).driver (after_calls (answer_at lane d c h).calls c) (poll_reply (answer_at lane d c h))
  hands-up =
      let p = h.sound.up h.up in
      let v : poll.head_of (consumed_ends (ends lane d) (sq_head (entry_at lane d c))) ≡ head_then lane d =
      rw (h.sound.fits lane).head refl in
      let e : after_calls (answer_at lane d c h).calls c ≡ told_one lane c (head_then lane d) =
      ap (λ n. after_write32 (head_doorbell lane) n c) v
      ∙ head-written lane c (head_then lane d) p.enabled p.ready (omega arith) in
      record {
        sound = subst (Sound (poll.consumed d lane (entry_at lane d c))) (sym e) polled-sound;
        mail = sym (ap (mailbox (poll.consumed d lane (entry_at lane d c))) e ∙ polled-mail);
        gives = answer-is;
      }

  -- a completion of a lane
  finds-one : (r : MailboxReaction) → poll.found d c.window ≡ Some (record { lane = lane; entry = entry_at lane d c })
      → r ≡ handed_up lane (first_answer lane d c) (rest_posted lane d c) (mailbox d c)
      → Finds d c r
  finds-one r found q =
      let known =
      ap (poll.found_poll d c.window) found ∙ ap (poll.answered_poll d c.window lane (entry_at lane d c)) knows-it in
      subst (λ y. Finds d c y) (sym q)
      (subst (λ k. IsStep (handed_up lane (first_answer lane d c) (rest_posted lane d c) (mailbox d c)) k.driver
      (after_calls k.calls c) (poll_reply k)) (sym known) hands-up)

-- of the admin lane first
all-found : (d : Driver) (c : Controller) → Sound d c → is_up d.state ≡ true
    → Finds d c (polled_admin (mailbox d c).admin.posted (mailbox d c))
all-found d c s u = by (has Admin d c s u) (has Io d c s u)
  where
    by : Has Admin d c ⊎ HasNone Admin d c → Has Io d c ⊎ HasNone Io d c
        → Finds d c (polled_admin (mailbox d c).admin.posted (mailbox d c))
    by (inl a) i = finds-one Admin d c a.heads _
        (ap (λ o. poll.found_or (poll.found_in Admin o) (poll.found_in Io (poll.new_in Io d.io c.window))) a.found)
        (ap (λ xs. polled_admin xs (mailbox d c)) a.posted)
    by (inr n) (inl a) =
        finds-one Io d c a.heads _ (λ j. poll.found_or (poll.found_in Admin (n.found j)) (poll.found_in Io (a.found j)))
        (ap (λ xs. polled_admin xs (mailbox d c)) n.posted ∙ ap (λ xs. polled_io xs (mailbox d c)) a.posted)
    by (inr n) (inr m) =
        finds-none d c _ s (λ j. poll.found_or (poll.found_in Admin (n.found j)) (poll.found_in Io (m.found j)))
        (ap (λ xs. polled_admin xs (mailbox d c)) n.posted ∙ ap (λ xs. polled_io xs (mailbox d c)) m.posted)

-- if the driver is up
abbrev Polls : Bool → Driver → Controller → Type 0
Polls t d c =
    let p : poll.Poll =
    if t then poll.found_poll d c.window (poll.found d c.window) else poll.without_calls (Err poll_fault.NotUp) d in
    IsStep (if t then polled_admin (mailbox d c).admin.posted (mailbox d c)
    else mailbox_reaction (mailbox d c) (Polled (Err poll_fault.NotUp))) p.driver (after_calls p.calls c) (poll_reply p)

pub poll_is_a_step : PollIsAStep
poll_is_a_step d c (Some i) s h =
    subst (λ o. IsStep (step.polled (mailbox d c)) (poll.freed d i) c
    (plain (Polled (Ok (Some (Aborted (poll.ticket_of o))))))) (sym h.1) (aborts d c i h.0 s h.1 h.2)
poll_is_a_step d c None s h =
    let n = empty-order aborted_number d.slots
    (λ k. number-is (waiting_at d.slots k) ∙ ap (option_map (λ (u : Ticket). u.0)) (h k)) in
    subst (λ y. IsStep y (poll.polled d None c.window).driver (after_calls (poll.polled d None c.window).calls c)
    (poll_reply (poll.polled d None c.window))) (sym (ap (λ ts. polled_aborted ts (mailbox d c)) n))
    (elim (cases_Bool (is_up d.state)) [
      | inl u ↦ subst (λ t. Polls t d c) (sym u) (all-found d c s u)
      | inr u ↦ subst (λ t. Polls t d c) (sym u) (record { sound = s; mail = refl; gives = refl })
    ])
