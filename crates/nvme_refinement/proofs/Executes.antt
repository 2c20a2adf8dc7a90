-- For `PostStep`: an execution in one lane (queue pair) moves a request from the fetched ones to the posted answers.
use Rattle.nvme_refinement.proofs.Words.{
  ◌≡◌,
  ℕ,
  ◌+◌,
  ◌-◌,
  ◌%◌,
  ◌<◌,
  ◌≤◌,
  List,
  [],
  ◌∷◌,
  ◌++◌,
  length,
  map,
  refl,
  ap,
  sym,
  ◌∙◌,
  arith,
  true,
  cond,
  Some,
  take,
  slice_get,
  take-take,
  length-set,
  length-remove,
  slice_get_within,
  cid,
  Completion,
  completion_of,
  queue_id,
  answer_len,
  PostedAnswer,
  Effect,
  State,
  Slot,
  finished,
  finished_bytes,
  executed,
  executed_state,
  completion_bytes,
  ticket_in,
  received_in,
  IsOf,
  all-joined,
  in_flight,
  commands,
  completions,
  item,
  answer,
  box,
  Running,
  Holds,
  last_head,
  heard,
  unread,
  since,
  steps,
  commands_of,
  answers_of,
  live_at,
  slot_at,
  answers,
  holds,
  total,
  odd,
  suits,
  bears,
  replies,
  Carried,
  Host,
  eq-eqb,
  common_steps,
  AllByRecursion,
  Suited,
  live_in,
}
use Rattle.std.proofs.Common.{remove}
use Rattle.nvme_mailbox.proofs.Totals.{total-append, total-removed}
use Rattle.nvme_refinement.proofs.Slots.{
  few,
  bare-box,
  bare-odd,
  live-within,
  live-small,
  live-set,
  slot-same,
  each-all,
}
use Rattle.nvme_refinement.proofs.Queues.{Bare, bare-all, completions-append, same-box, since-zero}
use Rattle.nvme_refinement.proofs.Places.{up-holds}
use Rattle.nvme_refinement.proofs.Phases.{phases-posted, EntersCompletion, answered, commands-same, completions-kept}

last-more : (h : ℕ) (es : List Completion) (e : Completion) → last_head h (es ++ e ∷ []) ≡ e.sq_head
last-more h [] e = refl
last-more h (x ∷ es) e = last-more x.sq_head es e

steps-more : (h : ℕ) (es : List Completion) (e : Completion)
    → steps h (es ++ e ∷ []) ≡ steps h es + (e.sq_head + 8 - last_head h es) % 8
steps-more h [] e = omega arith
steps-more h (x ∷ es) e = omega (arith, steps-more x.sq_head es e)

answers-more : (f : ℕ → Slot) (h : ℕ) (es : List Completion) (e : Completion)
    → answers f h (es ++ e ∷ []) ≡ answers f h es ++ answer f (last_head h es) e ∷ []
answers-more f h [] e = refl
answers-more f h (x ∷ es) e = ap (λ t. answer f h x ∷ t) (answers-more f x.sq_head es e)

-- the facts about the i-th fetched command
pub record Fetched (d : Host) (c : State) (i : ℕ) (x : List ℕ) : Type 0 where
  pub running : Running d c
  pub there : slice_get c.taken i ≡ Some x
  pub live : live_at d.slots (cid x) ≡ 1
  pub within : cid x < 24
  pub suits_it : suits (slot_at d.slots (cid x)) x ≡ true
  pub room : c.unread < 24
  pub bare : Bare d (record c { taken = remove c.taken i }) (cid x)

pub fetched : (d : Host) (c : State) (i : ℕ) (x : List ℕ) → Running d c → slice_get c.taken i ≡ Some x → Fetched d c i x
fetched d c i x s g =
    let b : bears (cid x) x ≡ 1 = ap (λ b. cond b 1 0) (eq-eqb (cid x) (cid x) refl) in
    let r : bears (cid x) x + commands_of (cid x) (remove c.taken i) ≡ commands_of (cid x) c.taken =
    total-removed (bears (cid x)) c.taken i x g in
    let l : live_at d.slots (cid x) ≡ 1 =
    omega (arith, s.carried (cid x), b, r, live-small (slot_at d.slots (cid x))) in
    let z : total (odd (holds d)) c.taken ≡ 0 = omega (arith, s.suited) in
    let t : suits (holds d (cid x)) x ≡ true =
    grind (arith, common_steps, total-removed (odd (holds d)) c.taken i x g, z) in
    let within : cid x < 24 = omega (arith, live-within d.slots (cid x) l, s.slots) in
    let room : c.unread < 24 = omega (arith, few d c s, length-remove c.taken i (slice_get_within c.taken i x g)) in
    let bare = bare-all d (record c { taken = remove c.taken i }) (cid x) s.fetched s.waiting
    (omega (arith, s.carried (cid x), b, r, l)) in
    search

-- the facts about its execution with this answer: the data are at the front of the slot's data, and the completion has
-- 16 bytes that are read back
pub record Executes (d : Host) (c : State) (ans : Effect) (i : ℕ) (x bytes : List ℕ) : Type 0 where
  pub fetched : Fetched d c i x
  pub size : length (finished_bytes c ans x) ≡ 16
  pub reads : completion_of (finished_bytes c ans x) ≡ finished c ans x
  pub fits : answer_len (received_in (slot_at d.slots (cid x)).waiting) ans.status ≤ length ans.bytes
  pub gets : take (length ans.bytes) bytes ≡ ans.bytes

-- the answer to a command
abbrev pub given : Host → State → Effect → List ℕ → PostedAnswer
given d c ans x = record {
  ticket = ticket_in (slot_at d.slots (cid x)).waiting;
  status = ans.status;
  dw0 = ans.dw0;
  bytes = take (answer_len (received_in (slot_at d.slots (cid x)).waiting) ans.status) ans.bytes;
  step = since d c;
}

-- the slots keep their requests
pending-done : (d : Host) (x bytes : List ℕ) (k : ℕ)
    → (holds (executed d x bytes) k).waiting ≡ (slot_at d.slots k).waiting
pending-done d x bytes k = each-all (λ k (o : Slot). o.waiting ≡ (slot_at d.slots k).waiting) d.slots (cid x)
    (record (slot_at d.slots (cid x)) { bytes = bytes }) refl (λ k. refl) k

-- The effect of such an execution.
module _ (d : Host) (c : State) (ans : Effect) (i : ℕ) (x bytes : List ℕ) (h : Executes d c ans i x bytes) where
  written : EntersCompletion c.window (executed_state c i x ans).window (c.posted % 32) (finished_bytes c ans x)
  written = answered c.window (finished_bytes c ans x) (c.posted % 32) ((h.fetched).running).window (omega arith) h.size

  -- one completion more is unread
  unread-more : unread (executed d x bytes) (executed_state c i x ans) ≡ unread d c ++ finished c ans x ∷ []
  unread-more =
      let s : Running d c = (h.fetched).running in
      let k = written in
      let g : c.unread ≤ (c.posted % 32 + 32 - d.consumed % 32) % 32 =
      omega (arith, s.posted, s.consumed, (h.fetched).room) in
      let e : completion_of (completion_bytes (executed_state c i x ans).window c.posted) ≡ finished c ans x =
      ap completion_of k.last ∙ h.reads in
      completions-append (executed_state c i x ans).window d.consumed c.unread 1 s.consumed ∙
      ap (λ t. t ++ completions (executed_state c i x ans).window ((d.consumed + c.unread) % 64) 1)
      (completions-kept c.window (executed_state c i x ans).window 8 (c.posted % 32) d.consumed c.unread k.keeps
      (omega arith) s.consumed (omega (arith, (h.fetched).room)) g) ∙
      ap (λ n. unread d c ++ completions (executed_state c i x ans).window n 1) (sym s.posted) ∙
      ap (λ t. unread d c ++ t ∷ []) e

  flight-same : (from n : ℕ) → from < 8 → commands (executed_state c i x ans).window from n ≡ commands c.window from n
  flight-same from n b = commands-same c.window (executed_state c i x ans).window (c.posted % 32) from n written.keeps b

  -- the answer that is posted
  given-is : answer (holds (executed d x bytes)) (last_head (heard d) (unread d c)) (finished c ans x) ≡ given d c ans x
  given-is =
      let k = slot-same d.slots (cid x) (record (slot_at d.slots (cid x)) { bytes = bytes })
      (omega (arith, (h.fetched).within, ((h.fetched).running).slots)) in
      let n : ℕ = answer_len (received_in (slot_at d.slots (cid x)).waiting) ans.status in
      let f : take n bytes ≡ take n ans.bytes =
      sym (take-take n (length ans.bytes) bytes h.fits) ∙ ap (take n) h.gets in
      rw (k, f) refl

  since-done : since (executed d x bytes) (executed_state c i x ans) ≡ 0
  since-done =
      ap (λ l. (c.fetched + 8 - l) % 8)
      (ap (last_head (heard d)) unread-more ∙ last-more (heard d) (unread d c) (finished c ans x))
      ∙ since-zero c.fetched ((h.fetched).running).fetched

  -- an execution appends the answer to the posted ones
  pub execute-box : box (executed d x bytes) (executed_state c i x ans)
      ≡ record (box d c) { posted = (box d c).posted ++ given d c ans x ∷ []; since = 0 }
  unfolding box
  execute-box =
      let f : ℕ → Slot = holds (executed d x bytes) in
      let b = bare-box d (record c { taken = remove c.taken i }) (cid x)
      (record (slot_at d.slots (cid x)) { bytes = bytes }) (h.fetched).bare in
      same-box _ _ _ _ _ _ _ _ _ _
      (ap (map (item f)) (flight-same _ _ (omega arith)))
      (ap (map (item f)) (flight-same _ _ ((h.fetched).running).fetched))
      (ap (answers f (heard d)) unread-more ∙ answers-more f (heard d) (unread d c) (finished c ans x))
      refl
      since-done
      ∙ (λ j. record (b j) { posted = (b j).posted ++ given-is j ∷ []; since = 0 })

  -- a sum over the commands decreases by the share of the executed one
  execute-total : (f : List ℕ → ℕ)
      → f x
      + total f (remove c.taken i) + total f (commands (executed_state c i x ans).window c.fetched (in_flight d c))
      ≡ total f c.taken + total f (commands c.window c.fetched (in_flight d c))
  execute-total f =
      omega (
        arith,
        total-removed f c.taken i x (h.fetched).there,
        ap (total f) (flight-same c.fetched (in_flight d c) ((h.fetched).running).fetched),
      )

  carried-done : Carried (executed d x bytes) (executed_state c i x ans)
  carried-done k =
      let u : answers_of k (unread (executed d x bytes) (executed_state c i x ans))
      ≡ answers_of k (unread d c) + bears k x =
      ap (answers_of k) unread-more ∙ total-append (replies k) (unread d c) (finished c ans x ∷ [])
      ∙ ap (λ n. answers_of k (unread d c) + n) (omega arith) in
      rw (pending-done d x bytes k)
      (omega (arith, ((h.fetched).running).carried k, u, execute-total (bears k)))

  pub execute-running : Running (executed d x bytes) (executed_state c i x ans)
  execute-running =
      let s : Running d c = (h.fetched).running in
      let w = written in
      let u : steps (heard d) (unread (executed d x bytes) (executed_state c i x ans))
      ≡ steps (heard d) (unread d c) + since d c =
      ap (steps (heard d)) unread-more ∙ steps-more (heard d) (unread d c) (finished c ans x) in
      let window = w.keeps.size ∙ s.window in
      let slots = length-set d.slots (cid x) (record (slot_at d.slots (cid x)) { bytes = bytes }) ∙ s.slots in
      let unheard : steps (heard d) (unread (executed d x bytes) (executed_state c i x ans))
      + since (executed d x bytes) (executed_state c i x ans) + in_flight d c ≡ d.unheard =
      omega (arith, u, since-done, s.unheard) in
      let of_lane : AllByRecursion (IsOf (queue_id c.lane)) (unread (executed d x bytes) (executed_state c i x ans)) =
      rw unread-more
      (all-joined (IsOf (queue_id c.lane)) (unread d c) (finished c ans x ∷ []) s.of_lane ((refl, s.fetched), tt)) in
      let phases = phases-posted c.window _ _ d.consumed c.unread c.posted w s.posted (omega (arith, (h.fetched).room))
      (ap (λ (e : Completion). e.phase) h.reads) s.phases in
      let held : length (remove c.taken i) + in_flight d c + (c.unread + 1) ≡ total live_in (executed d x bytes).slots =
      omega (
        arith,
        s.held,
        length-remove c.taken i (slice_get_within c.taken i x (h.fetched).there),
        live-set d.slots (cid x) (record (slot_at d.slots (cid x)) { bytes = bytes })
            (omega (arith, (h.fetched).within, s.slots)),
      ) in
      let same = ap (total (odd (holds (executed d x bytes)))) (flight-same c.fetched (in_flight d c) s.fetched) in
      let suited : Suited (executed d x bytes) (executed_state c i x ans) =
      omega (
        arith,
        s.suited,
        execute-total (odd (holds d)),
        bare-odd d (record c { taken = remove c.taken i }) (cid x) (record (slot_at d.slots (cid x)) { bytes = bytes })
            (h.fetched).bare,
        same,
      ) in
      search (arith, phases, carried-done)

  -- the lane whose command was executed stays sound
  pub execute-holds : (first : ℕ)
      → Holds first d c → d.up ≡ true → Holds first (executed d x bytes) (executed_state c i x ans)
  execute-holds first s u =
      up-holds first (executed d x bytes) (executed_state c i x ans) u s.failed s.begun
      (λ k. rw (pending-done d x bytes k) (s.ages k))
      execute-running
