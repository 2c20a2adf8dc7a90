-- For `PollStep`: a poll in one lane (queue pair). The completion at the head is the first posted answer, and its slot
-- is freed.
use Rattle.nvme_refinement.proofs.Words.{
  ◌≡◌,
  ℕ,
  ◌+◌,
  ◌-◌,
  ◌%◌,
  ◌<◌,
  List,
  [],
  ◌∷◌,
  length,
  refl,
  ap,
  sym,
  subst,
  ◌∙◌,
  arith,
  zero,
  suc,
  true,
  false,
  not,
  cond,
  eqb,
  Bool,
  Some,
  None,
  slice_set,
  length-set,
  lt-ltb,
  le-ltb,
  common_steps,
  nat_lt,
  Completion,
  LaneBox,
  completion_of,
  queue_id,
  completion_bytes,
  phase_of,
  AllByRecursion,
  IsOf,
  State,
  Slot,
  empty,
  slot_at,
  box,
  answer,
  front,
  left_after,
  can_hear,
  next_completion,
  consumed,
  less,
  in_flight,
  commands,
  completions,
  Running,
  last_head,
  heard,
  unread,
  since,
  steps,
  commands_of,
  answers_of,
  live_at,
  live_in,
  answers,
  holds,
  total,
  Carried,
  AgeIn,
  Holds,
  Host,
  eq-eqb,
}
use Rattle.nvme_refinement.proofs.Queues.{same-box, eqb-sym, Bare, bare-all}
use Rattle.nvme_refinement.proofs.Slots.{few, bare-box, bare-odd, live-small, live-within, live-set, each-set, each-all}
use Rattle.nvme_refinement.proofs.Places.{up-holds}
use Rattle.nvme_refinement.proofs.Phases.{first-phase, phases-consumed}

abbrev rest-of : Host → State → List Completion
rest-of d c = completions c.window ((d.consumed + 1) % 64) (c.unread - 1)

next-is : (d : Host) (c : State) (new : Bool) → Running d c → nat_lt 0 c.unread ≡ new
    → next_completion d c.window ≡ cond new (Some (front d c)) None
next-is d c new s e =
    let h = first-phase c.window d.consumed c.unread s.phases
    ∙ ap (λ b. cond b (phase_of d.consumed) (not (phase_of d.consumed))) e in
    let tells : cond (front d c).phase (phase_of d.consumed) (not (phase_of d.consumed)) ≡ new =
    grind (arith, common_steps, h) in
    ap (λ b. cond b (Some (front d c)) None) tells

pub next-none : (d : Host) (c : State) → Running d c → c.unread ≡ 0 → next_completion d c.window ≡ None
next-none d c s z = next-is d c false s (le-ltb 0 c.unread (omega (arith, z)))

unread-first : (w : List ℕ) (n k : ℕ)
    → 0 < k → completions w n k ≡ completion_of (completion_bytes w n) ∷ completions w ((n + 1) % 64) (k - 1)
unread-first w n zero p = let b : ⊥ = omega (arith, p) in absurd b
unread-first w n (suc k) p = let e : suc k - 1 ≡ k = omega arith in rw e refl

front-first : (d : Host) (c : State) → 0 < c.unread → unread d c ≡ front d c ∷ rest-of d c
front-first d c p = unread-first c.window d.consumed c.unread p

-- the numbers of a poll that consumes the front completion
abbrev step-of : Host → State → ℕ
step-of d c = ((front d c).sq_head + 8 - heard d) % 8

front-answers : (d : Host) (c : State) (slot : ℕ) (b : Bool) → 0 < c.unread → eqb (front d c).cid slot ≡ b
    → answers_of slot (unread d c) ≡ cond b 1 0 + answers_of slot (rest-of d c)
front-answers d c slot b p e =
    ap (answers_of slot) (front-first d c p) ∙ ap (λ b. cond b 1 0 + answers_of slot (rest-of d c)) e

-- the driver after it accepted the front completion's head, before the slot is freed: no other command or completion
-- uses it
abbrev popped : Host → Completion → Host
popped d e = record d { unheard = left_after d e.sq_head; consumed = (d.consumed + 1) % 64 }

pub none-posted : (d : Host) (c : State) → c.unread ≡ 0 → (box d c).posted ≡ []
unfolding box
none-posted d c e = ap (λ k. answers (holds d) (heard d) (completions c.window d.consumed k)) e

-- A running lane, with a completion that was not consumed.
module _ (d : Host) (c : State) (s : Running d c) (p : 0 < c.unread) where
  pub next-some : next_completion d c.window ≡ Some (completion_of (completion_bytes c.window d.consumed))
  next-some = next-is d c true s (lt-ltb 0 c.unread p)

  pub front-of : AllByRecursion (IsOf (queue_id c.lane)) (front d c ∷ rest-of d c)
  front-of = subst (AllByRecursion (IsOf (queue_id c.lane))) (front-first d c p) s.of_lane

  left-over : left_after d (front d c).sq_head ≡ d.unheard - step-of d c
  left-over = omega (arith, s.put, s.room, front-of.0.1, ap (steps (heard d)) (front-first d c p), s.unheard)

  pub hears : can_hear d (front d c).sq_head ≡ true
  hears = grind (arith, common_steps, front-of.0.1, left-over)

  pub front-live : live_at d.slots (front d c).cid ≡ 1
  front-live =
      omega (
        arith,
        front-answers d c (front d c).cid true p (eq-eqb (front d c).cid (front d c).cid refl),
        s.carried (front d c).cid,
        live-small (slot_at d.slots (front d c).cid),
      )

  pub bare : Bare (popped d (front d c)) (less c) (front d c).cid
  bare =
      bare-all (popped d (front d c)) (less c) (front d c).cid s.fetched s.waiting
      (omega (
        arith,
        s.carried (front d c).cid,
        front-live,
        front-answers d c (front d c).cid true p (eq-eqb (front d c).cid (front d c).cid refl),
      ))

  heard-front : heard (consumed d (front d c)) ≡ (front d c).sq_head
  heard-front = omega (arith, s.put, front-of.0.1)

  since-front : since (consumed d (front d c)) (less c) ≡ since d c
  since-front =
      ap (λ h. (c.fetched + 8 - last_head h (rest-of d c)) % 8) heard-front ∙
      sym (ap (λ es. (c.fetched + 8 - last_head (heard d) es) % 8) (front-first d c p))

  -- consuming the front completion frees its slot
  freed-box : box (consumed d (front d c)) (less c) ≡ box (popped d (front d c)) (less c)
  freed-box = bare-box (popped d (front d c)) (less c) (front d c).cid empty bare

  -- Poll takes the first posted answer
  pub poll-posted : (box d c).posted ≡ answer (holds d) (heard d) (front d c)
      ∷ (box (consumed d (front d c)) (less c)).posted
  unfolding box
  poll-posted =
      let later = ap (λ (b : LaneBox). b.posted) freed-box ∙ ap (λ h. answers (holds d) h (rest-of d c)) heard-front in
      ap (answers (holds d) (heard d)) (front-first d c p)
      ∙ ap (λ others. answer (holds d) (heard d) (front d c) ∷ others) (sym later)

  pub poll-box : box (consumed d (front d c)) (less c)
      ≡ record (box d c) {
        posted = (box (consumed d (front d c)) (less c)).posted;
        unheard = (box d c).unheard - (answer (holds d) (heard d) (front d c)).step;
      }
  unfolding box
  poll-box =
      let f = freed-box in
      same-box _ _ _ _ _ _ _ _ _ _ (ap (λ (b : LaneBox). b.placed) f)
      (ap (λ (b : LaneBox). b.rung) f) refl left-over since-front

  carried-front : Carried (consumed d (front d c)) (less c)
  carried-front =
      let n : ℕ = (front d c).cid in
      each-set (λ k (o : Slot). commands_of k c.taken + commands_of k (commands c.window c.fetched (in_flight d c))
      + answers_of k (rest-of d c) ≡ live_in o)
      d.slots n empty (live-within d.slots n front-live)
      (omega (arith, s.carried n, front-answers d c n true p (eq-eqb n n refl), live-small (slot_at d.slots n)))
      (λ k q. omega (arith, s.carried k, front-answers d c k false p (eqb-sym k n q)))

  pub poll-running : Running (consumed d (front d c)) (less c)
  poll-running =
      let slots = length-set d.slots (front d c).cid empty ∙ s.slots in
      let unheard : steps (heard (consumed d (front d c))) (rest-of d c) + since (consumed d (front d c)) (less c)
      + in_flight d c ≡ left_after d (front d c).sq_head =
      omega (
        arith,
        ap (λ h. steps h (rest-of d c)) heard-front,
        since-front,
        left-over,
        ap (steps (heard d)) (front-first d c p),
        s.unheard,
      ) in
      let of_lane = front-of.1 in
      let phases = phases-consumed c.window d.consumed c.unread p (omega (arith, few d c s)) s.phases in
      let held : length c.taken + in_flight d c + (c.unread - 1)
      ≡ total live_in (slice_set d.slots (front d c).cid empty) =
      omega (
        arith,
        s.held,
        p,
        front-live,
        live-set d.slots (front d c).cid empty (live-within d.slots (front d c).cid front-live),
      ) in
      let suited = bare-odd (popped d (front d c)) (less c) (front d c).cid empty bare ∙ s.suited in
      search (arith, phases, carried-front)

-- the polled lane stays sound
pub poll-holds : (first : ℕ) (d : Host) (c : State) → Holds first d c → d.up ≡ true → 0 < c.unread
    → Holds first (consumed d (front d c)) (less c)
poll-holds first d c s u p =
    up-holds first (consumed d (front d c)) (less c) u s.failed s.begun
    (each-all (λ k (o : Slot). AgeIn first d.next o.waiting) d.slots (front d c).cid empty tt s.ages)
    (poll-running d c (s.up u) p)
