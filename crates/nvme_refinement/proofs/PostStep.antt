-- For `AdminStep`, `AnswerStep` and `ExecuteStep`: a posted answer is the last of its lane (queue pair) in the mailbox,
-- and the other lane stays.
use Rattle.nvme_refinement.proofs.Words.{
  none-some,
  same_Some,
  ◌≡◌,
  ℕ,
  ◌+◌,
  ◌-◌,
  ◌*◌,
  ◌%◌,
  ◌<◌,
  ◌≤◌,
  true,
  List,
  [],
  ◌∷◌,
  ◌++◌,
  cond,
  length,
  take,
  Some,
  refl,
  sym,
  ap,
  subst,
  ◌∙◌,
  arith,
  inl,
  inr,
  slice_get,
  slice_set,
  cases_Bool,
  lt-ltb,
  slice_get-map,
  cid,
  Completion,
  completion_entry,
  completion_of,
  FitsCompletion,
  completion_is_read_back,
  with_bytes,
  most_bytes,
  phase_tag,
  Lane,
  queue_id,
  submission_queue,
  completion_queue,
  data_area,
  Driver,
  is_up,
  waiting_at,
  answer_len,
  FetchedCommand,
  Controller,
  QueuePair,
  pair_with,
  open_pair,
  after_posting,
  after_queue_change,
  CommandExecution,
  after_completion,
  FetchedItem,
  box_at,
  with_box,
  lane_of,
  after_answer,
  with_posted,
  Effect,
  Host,
  State,
  Slot,
  DeviceEnds,
  slot_at,
  item_in,
  finished,
  finished_bytes,
  received_in,
  lane_in,
  live_in,
  commands_of,
  box,
  executed as executed_one,
  executed_state,
  Both,
  same,
  other,
  host,
  state,
  pages_of,
  area,
  listed,
  slots_in,
  commands_in,
  whole,
  held_by,
  fetched_by,
  lane_of_queue,
  Sound,
  IsPaired,
  IsOfLane,
  mailbox,
  submission_as,
  completion_as,
  PostingIsAStep,
  PostingHasRoom,
  NothingToExecute,
  request_execution_with,
  zero,
  suc,
  false,
  common_steps,
}
use Rattle.std.proofs.Common.{remove}
use Rattle.nvme_mailbox.proofs.Lists.{all-get, all-removed}
use Rattle.std.specs.Option.{option_map}
use Rattle.nvme_refinement.proofs.PollStep.{tag-is}
use Rattle.nvme_refinement.proofs.Slots.{map-removed}
use Rattle.nvme_refinement.proofs.Empties.{bare-of}
use Rattle.nvme_refinement.proofs.Executes.{
  Fetched as FetchedOne,
  fetched as fetched_one,
  Executes,
  given,
  execute-box,
  execute-holds,
}
use Rattle.nvme_refinement.proofs.LaneWindows.{
  same-self,
  same-other,
  other-same,
  each-lane,
  Stored,
  none-stored,
  data-stored,
  page-stored,
  slot-apart,
  lists-data,
  area-front,
}
use Rattle.nvme_refinement.proofs.OneLane.{
  running,
  box-is,
  AtLane,
  sound-at,
  fetched-at,
  mail-at,
  Own,
  own-at,
  slot-in,
  slots-here,
  slots-there,
  set-waiting,
}
use Rattle.nvme_refinement.proofs.LaneCounts.{counts, submission-is, completion-is, same-submission, Counted, counted}
use Rattle.nvme_refinement.proofs.OwnCommands.{length-completion}

-- The place of a fetched command among its own lane's commands.

-- the number of a lane's commands before the i-th
abbrev pub rank : Lane → List FetchedCommand → ℕ → ℕ
rank lane [] i = 0
rank lane (x ∷ xs) zero = 0
rank lane (x ∷ xs) (suc i) = cond (same (lane_of_queue x.queue) lane) (suc (rank lane xs i)) (rank lane xs i)

-- the i-th command is its lane's command of that rank, and is removed there
pub record Ranked (lane : Lane) (ts : List FetchedCommand) (i : ℕ) (x : List ℕ) : Type 0 where
  pub there : slice_get (commands_in lane ts) (rank lane ts i) ≡ Some x
  pub removed : commands_in lane (remove ts i) ≡ remove (commands_in lane ts) (rank lane ts i)

pub ranked-in : (lane : Lane) (ts : List FetchedCommand) (i : ℕ) (t : FetchedCommand)
    → slice_get ts i ≡ Some t → same (lane_of_queue t.queue) lane ≡ true → Ranked lane ts i t.entry
ranked-in lane [] i t h e = absurd (none-some _ h)
ranked-in lane (x ∷ xs) zero t h e =
    let q : x ≡ t = same_Some x t h in
    record { there = rw (q, e) refl; removed = rw (q, e) refl }
ranked-in lane (x ∷ xs) (suc i) t h e =
    let r = ranked-in lane xs i t h e in
    elim (cases_Bool (same (lane_of_queue x.queue) lane)) [
      | inl f ↦ record { there = rw f r.there; removed = rw f (ap (λ l. x.entry ∷ l) r.removed) }
      | inr f ↦ record { there = rw f r.there; removed = rw f r.removed }
    ]

-- the other lane stays
pub removed-there : (lane : Lane) (ts : List FetchedCommand) (i : ℕ) (t : FetchedCommand) → slice_get ts i ≡ Some t
    → same (lane_of_queue t.queue) lane ≡ false → commands_in lane (remove ts i) ≡ commands_in lane ts
removed-there lane [] i t h e = absurd (none-some _ h)
removed-there lane (x ∷ xs) zero t h e =
    rw (same_Some x t h, e) refl
removed-there lane (x ∷ xs) (suc i) t h e = grind (arith, common_steps, removed-there lane xs i t h e)

-- the stores of an execution: data in the slot, the completion entry in its lane's pages
record Stores (lane : Lane) (w w' : List ℕ) (s at : ℕ) (bytes entry : List ℕ) : Type 0 where
  stored : Stored w w' s (λ l q. cond (same l lane) (with_bytes q at entry) q)
  lists : listed w' s ≡ listed w s
  data_in : take (length bytes) (area w' s) ≡ bytes

stores : (lane : Lane) (w bytes entry : List ℕ) (s at : ℕ) → length w ≡ 4194304 → s < 24 → length bytes ≤ most_bytes
    → at + length entry ≤ 8192 →
    Stores lane w (with_bytes (with_bytes w (data_area s) bytes) (submission_queue lane + at) entry) s at bytes entry
stores lane w bytes entry s at l a b h =
    let u = with_bytes w (data_area s) bytes in
    let one = data-stored w w s (λ l q. q) bytes (none-stored w s l) a b in
    let own = slot-apart lane u entry at s one.size h a in
    record {
      stored = page-stored lane w u s (λ l q. q) entry at one h;
      lists = own.lists ∙ lists-data w bytes s l a b;
      data_in = ap (take (length bytes)) own.areas ∙ area-front w bytes s (omega (arith, l, a)) b;
    }

queue-is : (t : FetchedCommand) → IsOfLane t → t.queue ≡ queue_id (lane_of_queue t.queue)
queue-is t (inl e) = rw e refl
queue-is t (inr e) = rw e refl

-- its queues, which have room
abbrev pub pair_in : Lane → Controller → QueuePair
pair_in lane c = pair_with (submission_as lane (counts lane c)) (completion_as lane (counts lane c))

-- what is known of the i-th command, which is one of this lane
pub record Known (lane : Lane) (d : Driver) (c : Controller) (i : ℕ) (t : FetchedCommand) : Type 0 where
  pub sound : Sound d c
  pub there : slice_get c.fetched i ≡ Some t
  pub of_lane : lane_of_queue t.queue ≡ lane
  pub queue : t.queue ≡ queue_id lane
  pub up : is_up d.state ≡ true
  pub one : FetchedOne (host lane d c.window) (state lane c) (rank lane c.fetched i) t.entry
  pub own : Own lane (waiting_at d.slots (cid t.entry))

pub up-of : (d : Driver) (c : Controller) (i : ℕ) (t : FetchedCommand) → Sound d c → slice_get c.fetched i ≡ Some t
    → is_up d.state ≡ true
up-of d c i t s g = elim (cases_Bool (is_up d.state)) [
  | inl u ↦ u
  | inr u ↦ (let o = s.down u in absurd (none-some t (sym (ap (λ ts. slice_get ts i) o.fetched) ∙ g)))
]

pub known : (d : Driver) (c : Controller) (i : ℕ) (t : FetchedCommand) → Sound d c → slice_get c.fetched i ≡ Some t
    → Known (lane_of_queue t.queue) d c i t
known d c i t s g =
    let u = up-of d c i t s g in
    let r = ranked-in (lane_of_queue t.queue) c.fetched i t g (same-self (lane_of_queue t.queue)) in
    let o = fetched_one (host (lane_of_queue t.queue) d c.window) (state (lane_of_queue t.queue) c)
    (rank (lane_of_queue t.queue) c.fetched i) t.entry (running (lane_of_queue t.queue) d c s u) r.there in
    let queue = queue-is t (all-get IsOfLane c.fetched i t g (s.up u).fetched) in
    let own = own-at (lane_of_queue t.queue) c.window d.slots (cid t.entry) o.live in
    search

pub open-is : (lane : Lane) (d : Driver) (c : Controller) (i : ℕ) (t : FetchedCommand)
    → Known lane d c i t → open_pair c t ≡ Some (pair_in lane c)
unfolding open_pair
open-is lane d c i t k =
    let p = k.sound.up k.up in
    rw (
      k.queue,
      submission-is lane c p,
      completion-is lane c p,
      lt-ltb 0 (32 - 1 - (state lane c).unread) (omega (arith, (k.one).room)),
    ) refl

pub posting_has_room : PostingHasRoom
posting_has_room d c i t s g =
    (pair_in (lane_of_queue t.queue) c, open-is (lane_of_queue t.queue) d c i t (known d c i t s g))

pub nothing_to_execute : NothingToExecute
nothing_to_execute d c i g =
    slice_get-map (fetched_by (held_by d c.window)) c.fetched i ∙ ap (option_map (fetched_by (held_by d c.window))) g

-- The request of a command.

-- the command's slot, for its lane
abbrev pub slot_seen : Lane → Driver → Controller → FetchedCommand → Slot
slot_seen lane d c t = slot_at (slots_in lane c.window 0 d.slots) (cid t.entry)

pub seen-is : (lane : Lane) (d : Driver) (c : Controller) (i : ℕ) (t : FetchedCommand) (k : Known lane d c i t)
    → slot_seen lane d c t ≡ whole c.window (cid t.entry) (k.own).waiting
seen-is lane d c i t k = slot-in lane c.window d.slots (cid t.entry) ∙ (k.own).slot c.window (cid t.entry)

pub record Seen (lane : Lane) (d : Driver) (c : Controller) (t : FetchedCommand) : Type 0 where
  pub received : received_in (slot_seen lane d c t).waiting ≡ received_in (waiting_at d.slots (cid t.entry))
  pub of_lane : lane_in (slot_seen lane d c t).waiting ≡ lane

pub seen : (lane : Lane) (d : Driver) (c : Controller) (i : ℕ) (t : FetchedCommand)
    → Known lane d c i t → Seen lane d c t
seen lane d c i t k =
    let e = seen-is lane d c i t k in
    record {
      received = ap (λ (s : Slot). received_in s.waiting) e ∙ sym (ap received_in (k.own).is);
      of_lane = ap (λ (s : Slot). lane_in s.waiting) e ∙ (k.own).of_lane;
    }

-- the request at its place in the mailbox
abbrev pub item_at : Driver → Controller → FetchedCommand → FetchedItem
item_at d c t = fetched_by (held_by d c.window) t

pub found-at : (d : Driver) (c : Controller) (i : ℕ) (t : FetchedCommand)
    → slice_get c.fetched i ≡ Some t → slice_get (mailbox d c).fetched i ≡ Some (item_at d c t)
found-at d c i t g =
    slice_get-map (fetched_by (held_by d c.window)) c.fetched i ∙ ap (option_map (fetched_by (held_by d c.window))) g

pub lane-of-item : (lane : Lane) (d : Driver) (c : Controller) (t : FetchedCommand)
    → lane_of_queue t.queue ≡ lane → Seen lane d c t → lane_of (item_at d c t).item ≡ lane
unfolding item_in
lane-of-item lane d c t q s =
    ap (λ l. lane_in (slot_at (slots_in l c.window 0 d.slots) (cid t.entry)).waiting) q ∙ s.of_lane

-- The completion, and the controller after it.

-- an answer, for its lane
abbrev effect_of : CommandExecution → List ℕ → Effect
effect_of a bytes = record { status = a.outcome.status; dw0 = a.outcome.dw0; bytes = bytes }

-- the fields of the completion
abbrev pub fields_of : FetchedCommand → QueuePair → CommandExecution → Completion
fields_of t p a = record {
  dw0 = a.outcome.dw0;
  sq_head = p.submission.head.fetched;
  sq_id = t.queue;
  cid = cid t.entry;
  phase = phase_tag p.completion.tail.size p.completion.tail.posted;
  status = a.outcome.status;
}

-- the controller after it
abbrev posted_then : Lane → Controller → ℕ → FetchedCommand → CommandExecution → Controller
posted_then lane c i t a =
    after_posting i t (pair_in lane c) a.outcome.status a.outcome.dw0 (record c { window = a.left.window })

abbrev posted_counts : Lane → Controller → DeviceEnds
posted_counts lane c =
    record (counts lane c) { posted = ((state lane c).posted + 1) % 64; unread = (state lane c).unread + 1 }

posted-so : (lane : Lane) (c : Controller) (i : ℕ) (t : FetchedCommand) (a : CommandExecution)
    → IsPaired c → Counted lane c (posted_then lane c i t a) (posted_counts lane c)
unfolding after_posting
posted-so lane c i t a p = counted lane c (posted_then lane c i t a) (posted_counts lane c) p
    (same-submission lane c p) refl (all-removed IsOfLane c.fetched i p.fetched) refl

-- the window: the data in the slot, the completion in the lane's pages
abbrev window_then : Lane → Controller → FetchedCommand → CommandExecution → List ℕ → List ℕ
window_then lane c t a bytes =
    with_bytes (with_bytes c.window (data_area (cid t.entry)) bytes)
    (submission_queue lane + (4096 + 16 * ((state lane c).posted % 32)))
    (finished_bytes (state lane c) (effect_of a bytes) t.entry)

-- what is known of an answer
record Answers (lane : Lane) (d : Driver) (c : Controller) (i : ℕ) (t : FetchedCommand) (a : CommandExecution)
    (bytes : List ℕ) : Type 0 where
  known : Known lane d c i t
  size : length (finished_bytes (state lane c) (effect_of a bytes) t.entry) ≡ 16
  reads : completion_of (finished_bytes (state lane c) (effect_of a bytes) t.entry)
      ≡ finished (state lane c) (effect_of a bytes) t.entry
  fits : answer_len (received_in (slot_seen lane d c t).waiting) a.outcome.status ≤ length bytes
  wrote : Stores lane c.window (window_then lane c t a bytes) (cid t.entry)
      (4096 + 16 * ((state lane c).posted % 32)) bytes (finished_bytes (state lane c) (effect_of a bytes) t.entry)
  window : (posted_then lane c i t a).window ≡ window_then lane c t a bytes

finished-is : (lane : Lane) (c : Controller) (t : FetchedCommand) (a : CommandExecution) (bytes : List ℕ)
    → t.queue ≡ queue_id lane → (state lane c).posted < 64
    → fields_of t (pair_in lane c) a ≡ finished (state lane c) (effect_of a bytes) t.entry
finished-is lane c t a bytes q h = rw (q, tag-is (state lane c).posted h) refl

place-is : (lane : Lane) (n : ℕ)
    → completion_queue lane + 16 * (n % 32) ≡ submission_queue lane + (4096 + 16 * (n % 32))
place-is lane n = omega arith

answers : (lane : Lane) (d : Driver) (c : Controller) (i : ℕ) (t : FetchedCommand) (a : CommandExecution)
    (bytes : List ℕ) → Known lane d c i t → FitsCompletion (fields_of t (pair_in lane c) a)
    → a.left.window ≡ with_bytes c.window (data_area (cid t.entry)) bytes → length bytes ≤ most_bytes
    → answer_len (received_in (waiting_at d.slots (cid t.entry))) a.outcome.status ≤ length bytes
    → Answers lane d c i t a bytes
unfolding finished_bytes after_posting
answers lane d c i t a bytes k f w few whole =
    let small : (state lane c).posted < 64 = omega (arith, (running lane d c k.sound k.up).posted) in
    let b : completion_entry (fields_of t (pair_in lane c) a) ≡ finished_bytes (state lane c)
    (effect_of a bytes) t.entry = ap completion_entry (finished-is lane c t a bytes k.queue small) in
    let z : length (finished_bytes (state lane c) (effect_of a bytes) t.entry) ≡ 16 =
    sym (ap length b) ∙ length-completion (fields_of t (pair_in lane c) a) in
    record {
      known = k;
      size = z;
      reads = sym (ap completion_of b) ∙ completion_is_read_back (fields_of t (pair_in lane c) a) f
          ∙ finished-is lane c t a bytes k.queue small;
      fits = subst (λ n. answer_len n a.outcome.status ≤ length bytes) (sym (seen lane d c i t k).received) whole;
      wrote = stores lane c.window bytes (finished_bytes (state lane c) (effect_of a bytes) t.entry) (cid t.entry)
          (4096 + 16 * ((state lane c).posted % 32)) k.sound.both.window (k.one).within few (omega (arith, z));
      window = λ j. with_bytes (w j) (place-is lane (state lane c).posted j) (b j);
    }

-- The lane after it.
abbrev host_then : Lane → Driver → Controller → FetchedCommand → CommandExecution → List ℕ → Host
host_then lane d c t a bytes =
    executed_one (host lane d c.window) t.entry (area (window_then lane c t a bytes) (cid t.entry))

abbrev state_then : Lane → Controller → ℕ → FetchedCommand → CommandExecution → List ℕ → State
state_then lane c i t a bytes = executed_state (state lane c) (rank lane c.fetched i) t.entry (effect_of a bytes)

abbrev Posts : Lane → Driver → Controller → ℕ → FetchedCommand → CommandExecution → List ℕ → Type 0
Posts lane d c i t a bytes =
    AtLane lane d d c (posted_then lane c i t a) d.next (host_then lane d c t a bytes) (state_then lane c i t a bytes)

-- the commands of the lanes
removed-here : (lane : Lane) (d : Driver) (c : Controller) (i : ℕ) (t : FetchedCommand) → Known lane d c i t
    → commands_in lane (remove c.fetched i) ≡ remove (commands_in lane c.fetched) (rank lane c.fetched i)
removed-here lane d c i t k =
    (ranked-in lane c.fetched i t k.there (ap (λ l. same l lane) k.of_lane ∙ same-self lane)).removed

still-there : (lane : Lane) (d : Driver) (c : Controller) (i : ℕ) (t : FetchedCommand)
    → Known lane d c i t → commands_in (other lane) (remove c.fetched i) ≡ commands_in (other lane) c.fetched
still-there lane d c i t k =
    removed-there (other lane) c.fetched i t k.there (ap (λ l. same l (other lane)) k.of_lane ∙ same-other lane)

-- its answer, in its lane
box-posted : (lane : Lane) (d : Driver) (c : Controller) (t : FetchedCommand) (a : CommandExecution) (bytes : List ℕ)
    → lane_of_queue t.queue ≡ lane → Seen lane d c t
    → record (box (host lane d c.window) (state lane c)) {
      posted = (box (host lane d c.window) (state lane c)).posted
          ++ given (host lane d c.window) (state lane c) (effect_of a bytes) t.entry ∷ [];
      since = 0;
    }
    ≡ with_posted (box (host lane d c.window) (state lane c)) (item_at d c t) (request_execution_with d t a bytes)
unfolding item_in box
box-posted lane d c t a bytes q s = rw (q, s.received) refl

answered : (lane : Lane) (d : Driver) (c : Controller) (i : ℕ) (t : FetchedCommand) (a : CommandExecution)
    (bytes : List ℕ) → lane_of_queue t.queue ≡ lane → Seen lane d c t
    → with_box lane
    (with_posted (box (host lane d c.window) (state lane c)) (item_at d c t) (request_execution_with d t a bytes))
    (record (mailbox d c) { fetched = remove (mailbox d c).fetched i })
    ≡ after_answer i (item_at d c t) (request_execution_with d t a bytes) (mailbox d c)
unfolding after_answer
answered lane d c i t a bytes q s =
    ap (λ b. with_box lane (with_posted b (item_at d c t) (request_execution_with d t a bytes))
    (record (mailbox d c) { fetched = remove (mailbox d c).fetched i })) (sym (box-is lane d c))
    ∙ ap (λ l. with_box l (with_posted (box_at l (mailbox d c)) (item_at d c t) (request_execution_with d t a bytes))
    (record (mailbox d c) { fetched = remove (mailbox d c).fetched i })) (sym (lane-of-item lane d c t q s))

-- no command uses the slot then
bare-then : (lane : Lane) (d : Driver) (c : Controller) (i : ℕ) (t : FetchedCommand) → Known lane d c i t → (l : Lane)
    → commands_of (cid t.entry) (commands_in l (remove c.fetched i)) ≡ 0
bare-then lane d c i t k =
    let b : Both d c = k.sound.both in
    let o = k.own in
    each-lane lane (λ l. commands_of (cid t.entry) (commands_in l (remove c.fetched i)) ≡ 0)
    (ap (commands_of (cid t.entry)) (removed-here lane d c i t k) ∙ ((k.one).bare).taken)
    (ap (commands_of (cid t.entry)) (still-there lane d c i t k)
    ∙ (bare-of b.first _ _ (cid t.entry) (b.each (other lane))
    (ap live_in (slot-in (other lane) c.window d.slots (cid t.entry) ∙ o.absent c.window (cid t.entry)))).taken)

-- The effect of such an answer.
module _ (lane : Lane) (d : Driver) (c : Controller) (i : ℕ) (t : FetchedCommand) (a : CommandExecution)
    (bytes : List ℕ) (h : Answers lane d c i t a bytes) where
  -- the premise of the lane's own Execute
  executes-so : Executes (host lane d c.window) (state lane c) (effect_of a bytes) (rank lane c.fetched i) t.entry
      (area (window_then lane c t a bytes) (cid t.entry))
  executes-so =
      record { fetched = (h.known).one; size = h.size; reads = h.reads; fits = h.fits; gets = h.wrote.data_in }

  posted-at : Posts lane d c i t a bytes
  unfolding after_posting
  posted-at =
      let k = h.known in
      let b : Both d c = k.sound.both in
      let o = k.own in
      let w = h.wrote in
      let n : cid t.entry < 24 = (k.one).within in
      let v = h.window in
      let q = posted-so lane c i t a (k.sound.up k.up) in
      let here = ap (slots_in lane (window_then lane c t a bytes) 0)
      (sym (set-waiting d.slots (cid t.entry) (omega (arith, n, b.slots))))
      ∙ slots-here lane c.window (window_then lane c t a bytes) d.slots (cid t.entry)
      (waiting_at d.slots (cid t.entry)) b.slots n w.stored.slots
      ∙ ap (slice_set (slots_in lane c.window 0 d.slots) (cid t.entry))
      (o.slot (window_then lane c t a bytes) (cid t.entry)
      ∙ (λ j.
      record { waiting = Some o.waiting; bytes = area (window_then lane c t a bytes) (cid t.entry); list = w.lists j })
      ∙ ap (λ (s : Slot). record s { bytes = area (window_then lane c t a bytes) (cid t.entry) })
      (sym (seen-is lane d c i t k))) in
      let there = ap (slots_in (other lane) (window_then lane c t a bytes) 0)
      (sym (set-waiting d.slots (cid t.entry) (omega (arith, n, b.slots))))
      ∙ slots-there (other lane) c.window (window_then lane c t a bytes) d.slots
      (cid t.entry) (waiting_at d.slots (cid t.entry)) b.slots n w.stored.slots (o.absent c.window (cid t.entry))
      (o.absent (window_then lane c t a bytes) (cid t.entry)) in
      let taken = removed-here lane d c i t k in
      let new = finished_bytes (state lane c) (effect_of a bytes) t.entry in
      let at = 4096 + 16 * ((state lane c).posted % 32) in
      let pages = ap (pages_of lane) v ∙ w.stored.pages lane
      ∙ ap (λ x. cond x (with_bytes (pages_of lane c.window) at new) (pages_of lane c.window)) (same-self lane) in
      let others = ap (pages_of (other lane)) v ∙ w.stored.pages (other lane)
      ∙ ap (λ x. cond x (with_bytes (pages_of (other lane) c.window) at new) (pages_of (other lane) c.window))
      (other-same lane) in
      let size = ap length v ∙ w.stored.size ∙ sym b.window in
      let host_here = ap (host lane d) v ∙ (λ j. record (host lane d c.window) { slots = here j }) in
      let host_there = ap (host (other lane) d) v ∙ (λ j. record (host (other lane) d c.window) { slots = there j }) in
      let state_here = q.here
      ∙ (λ j. record (state lane c) {
        window = pages j;
        posted = ((state lane c).posted + 1) % 64;
        unread = (state lane c).unread + 1;
        taken = taken j;
      }) in
      let state_there =
      q.there ∙ (λ j. record (state (other lane) c) { window = others j; taken = (still-there lane d c i t k) j }) in
      search arith

  posted-mail : mailbox d (posted_then lane c i t a)
      ≡ after_answer i (item_at d c t) (request_execution_with d t a bytes) (mailbox d c)
  unfolding after_posting
  posted-mail =
      let k = h.known in
      let at = posted-at in
      let sight = seen lane d c i t k in
      mail-at lane d d c (posted_then lane c i t a) d.next _ _ at (remove (mailbox d c).fetched i)
      (fetched-at lane d d c (posted_then lane c i t a) d.next _ _ at (cid t.entry) _ refl (remove c.fetched i)
      (bare-then lane d c i t k) ∙ map-removed (fetched_by (held_by d c.window)) c.fetched i)
      refl
      ∙ ap (λ u. with_box lane u (record (mailbox d c) { fetched = remove (mailbox d c).fetched i }))
      (execute-box _ _ (effect_of a bytes) (rank lane c.fetched i) t.entry _ executes-so
      ∙ box-posted lane d c t a bytes k.of_lane sight)
      ∙ answered lane d c i t a bytes k.of_lane sight

  posted-sound : Sound d (posted_then lane c i t a)
  posted-sound =
      let k = h.known in
      let s = k.sound in
      let b : Both d c = s.both in
      sound-at lane d d c (posted_then lane c i t a) d.next _ _ posted-at s k.up
      (execute-holds _ _ (effect_of a bytes) (rank lane c.fetched i) t.entry _ executes-so b.first (b.each lane) k.up)
      s.fits s.sizes (posted-so lane c i t a (s.up k.up)).paired

pub posting_is_a_step : PostingIsAStep
unfolding after_completion after_queue_change
posting_is_a_step d c i t p a s g queues h =
    let k = known d c i t s g in
    let q : p ≡ pair_in (lane_of_queue t.queue) c =
    same_Some p (pair_in (lane_of_queue t.queue) c) (sym queues ∙ open-is (lane_of_queue t.queue) d c i t k) in
    let kept : after_completion i t p a c ≡ after_posting i t p a.outcome.status a.outcome.dw0
    (record c { window = a.left.window }) = rw h.queues refl in
    let result : after_completion i t p a c ≡ posted_then (lane_of_queue t.queue) c i t a =
    kept ∙ ap (λ x. after_posting i t x a.outcome.status a.outcome.dw0 (record c { window = a.left.window })) q in
    let r = answers (lane_of_queue t.queue) d c i t a h.bytes k
    (subst (λ x. FitsCompletion (fields_of t x a)) q h.fits) h.window h.few h.whole in
    record {
      item = item_at d c t;
      found = found-at d c i t g;
      sound = subst (Sound d) (sym result) (posted-sound (lane_of_queue t.queue) d c i t a h.bytes r);
      mail = ap (mailbox d) result ∙ posted-mail (lane_of_queue t.queue) d c i t a h.bytes r;
    }
