-- For `Rising`: bringing up in one lane (queue pair): after each of the driver's own commands nothing is in flight, and
-- the lane is sound at the end.
use Rattle.nvme_refinement.proofs.Words.{
  ◌≡◌,
  ℕ,
  ◌+◌,
  ◌-◌,
  ◌*◌,
  ◌%◌,
  ◌<◌,
  ◌≤◌,
  List,
  [],
  ◌∷◌,
  length,
  refl,
  ap,
  sym,
  ◌∙◌,
  arith,
  suc,
  true,
  false,
  take,
  drop,
  get_or,
  subst,
  length-drop,
  get_or-take,
  get_or-drop,
  get_or-replicate,
  length-replicate,
  length-take-le,
  same_lists,
  le-ltb,
  common_steps,
  replicate,
  with_bytes,
  queue_id,
  completion_of,
  phase,
  AllByRecursion,
  IsOf,
  phase_of,
  State,
  Slot,
  slot_at,
  zeros,
  fresh_host,
  fresh_state,
  own_host,
  own_state,
  in_flight,
  commands,
  completions,
  commands_of,
  answers_of,
  unread,
  heard,
  steps,
  since,
  last_head,
  total,
  odd,
  holds,
  live_in,
  live_at,
  Phases,
  Running,
  Resting,
  Holds,
  box,
  Host,
  Carried,
  Suited,
}
use Rattle.nvme_refinement.proofs.Phases.{phases-kept, phases-posted, phases-consumed, enters, answered}
use Rattle.nvme_refinement.proofs.Windows.{stored-part}
use Rattle.nvme_refinement.proofs.Queues.{since-zero}
use Rattle.nvme_refinement.proofs.Places.{up-holds}
use Rattle.nvme_refinement.proofs.Orders.{idle-age}
use Rattle.nvme_spec.proofs.Splices.{length-with_bytes}

-- a lane that is up, with nothing in flight
pub record Quiet (d : Host) (c : State) : Type 0 where
  pub ready : c.ready ≡ true
  pub window : length c.window ≡ 8192
  pub slots : length d.slots ≡ 24
  pub put : d.put < 8
  pub fetched : c.fetched ≡ d.put
  pub consumed : d.consumed < 64
  pub posted : c.posted ≡ d.consumed
  pub waiting : c.waiting ≡ 0
  pub unread : c.unread ≡ 0
  pub unheard : d.unheard ≡ 0
  pub taken : c.taken ≡ []
  pub phases : Phases c.window d.consumed c.unread
  pub idle : (slot : ℕ) → live_at d.slots slot ≡ 0

idle-total : (slots : List Slot) → ((k : ℕ) → live_at slots k ≡ 0) → total live_in slots ≡ 0
idle-total [] h = refl
idle-total (x ∷ xs) h = let a : live_in x ≡ 0 = h 0 in omega (arith, a, idle-total xs (λ k. h (suc k)))

pub quiet-running : (d : Host) (c : State) → Quiet d c → Running d c
quiet-running d c s =
    let u : unread d c ≡ [] = ap (λ k. completions c.window d.consumed k) s.unread in
    let f : in_flight d c ≡ 0 = omega (arith, s.fetched, s.put) in
    let e : commands c.window c.fetched (in_flight d c) ≡ [] = ap (λ k. commands c.window c.fetched k) f in
    let h : heard d ≡ d.put = omega (arith, s.unheard, s.put) in
    let n : since d c ≡ 0 = omega (arith, ap (last_head (heard d)) u, h, s.fetched, s.put) in
    let unheard : steps (heard d) (unread d c) + since d c + in_flight d c ≡ d.unheard =
    omega (arith, ap (steps (heard d)) u, n, f, s.unheard) in
    let of_lane = subst (AllByRecursion (IsOf (queue_id c.lane))) (sym u) tt in
    let carried : Carried d c =
    λ k. omega (arith, ap (commands_of k) s.taken, ap (commands_of k) e, ap (answers_of k) u, s.idle k) in
    let held : length c.taken + in_flight d c + c.unread ≡ total live_in d.slots =
    omega (arith, ap length s.taken, f, s.unread, idle-total d.slots s.idle) in
    let suited : Suited d c = omega (arith, ap (total (odd (holds d))) s.taken, ap (total (odd (holds d))) e) in
    search (arith, s.phases, carried)

-- one more of the driver's own commands leaves the lane quiet
pub own-quiet : (d : Host) (c : State) (entry completion : List ℕ)
    → Quiet d c → length entry ≡ 64 → length completion ≡ 16 → (completion_of completion).phase ≡ phase_of c.posted →
    Quiet (own_host d) (own_state c entry completion)
own-quiet d c entry completion s e f p =
    let h : Phases c.window c.posted 0 =
    subst (λ n. Phases c.window n 0) (sym s.posted) (subst (Phases c.window d.consumed) s.unread s.phases) in
    let one = enters c.window entry c.fetched s.window (omega (arith, s.fetched, s.put)) e in
    let two = answered (with_bytes c.window (64 * c.fetched) entry) completion (c.posted % 32)
    (one.keeps.size ∙ s.window) (omega arith) f in
    let later : Phases (own_state c entry completion).window ((c.posted + 1) % 64) 0 =
    phases-consumed _ c.posted 1 (omega arith) (omega arith) (phases-posted _ _ completion c.posted 0 c.posted two
    (omega (arith, s.posted, s.consumed)) (omega arith) p (phases-kept c.window _ c.fetched c.posted 0 one.keeps h)) in
    let window = two.keeps.size ∙ one.keeps.size ∙ s.window in
    let phases = subst (λ n. Phases (own_state c entry completion).window ((n + 1) % 64) c.unread) s.posted
    (subst (Phases (own_state c entry completion).window ((c.posted + 1) % 64)) (sym s.unread) later) in
    search (arith, phases, s.idle)

-- a page of zeros
pub record Zeros (z : List ℕ) : Type 0 where
  pub long : length z ≡ 4096
  pub each : (i d : ℕ) → i < 4096 → get_or z i d ≡ 0

pub zeros-are : Zeros zeros
unfolding zeros
zeros-are = record { long = length-replicate {A = ℕ} 4096 0; each = λ i d h. get_or-replicate 4096 i 0 d h }

-- 16 zeros are a completion whose phase tag is clear
no-phase : phase (replicate 16 0) ≡ false
unfolding phase
no-phase = refl

-- a completion in the zeroed page
zero-entry : (w : List ℕ) (j : ℕ) → length w ≡ 8192 → j + 16 ≤ 4096
    → take 16 (drop (4096 + j) (with_bytes w 4096 zeros)) ≡ replicate 16 0
zero-entry w j l h =
    let n : length (take 16 (drop j zeros)) ≡ 16 =
    length-take-le 16 _ (omega (arith, length-drop j zeros, zeros-are.long, h)) in
    stored-part w zeros 4096 j 16 (omega (arith, l)) (omega (arith, zeros-are.long, h)) ∙
    same_lists _ _ (n ∙ sym (length-replicate {A = ℕ} 16 0)) (λ k x inside.
    let b : k < 16 = omega (arith, inside, n) in
    get_or-take 16 (drop j zeros) k x b ∙ get_or-drop j zeros k x ∙ zeros-are.each (j + k) x (omega (arith, h, b))
    ∙ sym (get_or-replicate 16 k 0 x b))

turn-of : (k : ℕ) → k < 32 → phase_of (0 + k) ≡ true
turn-of k h = grind (arith, common_steps)

fresh-phases : (d : Host) (c : State) → length c.window ≡ 8192 → Phases (fresh_state c).window 0 0
fresh-phases d c w k q =
    let a : length (with_bytes c.window 0 zeros) ≡ 8192 =
    length-with_bytes c.window 0 zeros (omega (arith, w, zeros-are.long)) ∙ w in
    rw (le-ltb k 0 (omega arith), turn-of k q)
    (ap phase (zero-entry (with_bytes c.window 0 zeros) (16 * ((0 + k) % 32)) a (omega arith)) ∙ no-phase)

-- a lane that was just enabled is quiet
pub fresh-quiet : (d : Host) (c : State) → Resting d c → Quiet (fresh_host d) (fresh_state c)
fresh-quiet d c r =
    let a : length (with_bytes c.window 0 zeros) ≡ length c.window =
    length-with_bytes c.window 0 zeros (omega (arith, r.window, zeros-are.long)) in
    let window = length-with_bytes (with_bytes c.window 0 zeros) 4096 zeros (omega (arith, a, r.window, zeros-are.long))
    ∙ a ∙ r.window in
    search (arith, fresh-phases d c r.window, r.idle)

-- a lane that has come up is sound
pub risen-holds : (first : ℕ) (d d' : Host) (c c' : State) → Holds first d c → Resting d c → d'.up ≡ true
    → d'.failed ≡ d.failed → d'.next ≡ d.next → d'.slots ≡ d.slots → Quiet d' c' → Holds d.next d' c'
risen-holds first d d' c c' s r u f n e q =
    up-holds d.next d' c' u (f ∙ s.failed) (rw n (omega arith))
    (rw (n, e) (λ k. idle-age first d.next (slot_at d.slots k).waiting (r.idle k) (s.ages k))) (quiet-running d' c' q)

-- the lane of the mailbox is empty before and after
pub resting-box : (d : Host) (c : State)
    → Resting d c → box d c ≡ record { placed = []; rung = []; posted = []; unheard = 0; since = 0 }
unfolding box
resting-box d c r = rw (r.off, r.put, r.unheard) refl

quiet-since : (p : ℕ) → p < 8 → (p + 8 - (p + 8 - 0) % 8) % 8 ≡ 0
quiet-since p h = omega arith

pub quiet-box : (d : Host) (c : State)
    → Quiet d c → box d c ≡ record { placed = []; rung = []; posted = []; unheard = 0; since = 0 }
unfolding box
quiet-box d c s = rw (s.unread, s.waiting, s.fetched, s.unheard, since-zero d.put s.put, quiet-since d.put s.put) refl
