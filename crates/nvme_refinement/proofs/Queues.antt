-- For proofs of one lane (queue pair): runs of entries in its queues, joined, counted, and with their requests.
use Rattle.nvme_refinement.proofs.Words.{
  ◌≡◌,
  ℕ,
  ◌+◌,
  ◌-◌,
  ◌%◌,
  ◌<◌,
  List,
  [],
  ◌∷◌,
  ◌++◌,
  length,
  refl,
  ap,
  ◌∙◌,
  arith,
  zero,
  suc,
  false,
  eqb,
  take,
  drop,
  ◌*◌,
  nat_lt,
  length-map,
  common_steps,
  Completion,
  Item,
  PostedAnswer,
  LaneBox,
  completion_of,
  command_at,
  completion_bytes,
  phase_of,
  State,
  Slot,
  in_flight,
  commands,
  completions,
  answers,
  box,
  Running,
  unread,
  total,
  live_in,
  Host,
  ◌≤◌,
  bears,
  commands_of,
  answers_of,
}
use Rattle.nvme_mailbox.proofs.Totals.{total-append}

-- a step round the ring
turn : (s a : ℕ) → ((s + 1) % 8 + a) % 8 ≡ (s + suc a) % 8
turn s a = omega arith

-- the entries of two runs, one after the other
pub commands-append : (w : List ℕ) (s : ℕ) (a b : ℕ)
    → s < 8 → commands w s (a + b) ≡ commands w s a ++ commands w ((s + a) % 8) b
commands-append w s zero b h = grind (arith, common_steps, h)
commands-append w s (suc a) b h =
    let e : suc a + b ≡ suc (a + b) = omega arith in
    rw e (ap (λ t. command_at w s ∷ t) (rw (turn s a) at (commands-append w ((s + 1) % 8) a b (omega arith))))

pub completions-append : (w : List ℕ) (n a b : ℕ)
    → n < 64 → completions w n (a + b) ≡ completions w n a ++ completions w ((n + a) % 64) b
completions-append w n zero b h = grind (arith, common_steps, h)
completions-append w n (suc a) b h =
    let e : suc a + b ≡ suc (a + b) = omega arith in
    let t : ((n + 1) % 64 + a) % 64 ≡ (n + suc a) % 64 = omega arith in
    rw e (ap (λ t. completion_of (completion_bytes w n) ∷ t)
    (rw t at (completions-append w ((n + 1) % 64) a b (omega arith))))

pub length-commands : (w : List ℕ) (s n : ℕ) → length (commands w s n) ≡ n
length-commands w s zero = refl
length-commands w s (suc n) = omega (arith, length-commands w ((s + 1) % 8) n)

pub length-completions : (w : List ℕ) (n k : ℕ) → length (completions w n k) ≡ k
length-completions w n zero = refl
length-completions w n (suc k) = omega (arith, length-completions w ((n + 1) % 64) k)

pub length-answers : (f : ℕ → Slot) (h : ℕ) (es : List Completion) → length (answers f h es) ≡ length es
length-answers f h [] = refl
length-answers f h (e ∷ es) = omega (arith, length-answers f e.sq_head es)

-- a lane of a mailbox, with its fetched requests, holds a request for each live slot
pub box-live : (d : Host) (c : State) → Running d c →
    length (box d c).placed + length (box d c).rung + length c.taken + length (box d c).posted ≡ total live_in d.slots
unfolding box
box-live d c s = omega
    (arith, s.held, s.waiting, length-map {A = List ℕ} {B = Item}, length-commands, length-answers, length-completions)

-- the commands in flight: those that are rung, and then those that are placed
abbrev pub rung-part : State → List (List ℕ)
rung-part c = commands c.window c.fetched c.waiting

abbrev pub placed-part : Host → State → List (List ℕ)
placed-part d c = commands c.window ((c.fetched + c.waiting) % 8) (in_flight d c - c.waiting)

pub flight-parts : (d : Host) (c : State) → c.fetched < 8 → c.waiting ≤ in_flight d c
    → commands c.window c.fetched (in_flight d c) ≡ rung-part c ++ placed-part d c
flight-parts d c f w =
    let e : in_flight d c ≡ c.waiting + (in_flight d c - c.waiting) = omega (arith, w) in
    ap (commands c.window c.fetched) e ∙ commands-append c.window c.fetched c.waiting (in_flight d c - c.waiting) f

pub flight-total : (f : List ℕ → ℕ) (d : Host) (c : State) → c.fetched < 8 → c.waiting ≤ in_flight d c →
    total f (commands c.window c.fetched (in_flight d c)) ≡ total f (rung-part c) + total f (placed-part d c)
flight-total f d c b w = ap (total f) (flight-parts d c b w) ∙ total-append f (rung-part c) (placed-part d c)

-- nobody uses a slot
pub record Bare (d : Host) (c : State) (slot : ℕ) : Type 0 where
  pub taken : commands_of slot c.taken ≡ 0
  pub flight : commands_of slot (commands c.window c.fetched (in_flight d c)) ≡ 0
  pub rung : commands_of slot (rung-part c) ≡ 0
  pub placed : commands_of slot (placed-part d c) ≡ 0
  pub unread : answers_of slot (unread d c) ≡ 0

pub bare-all : (d : Host) (c : State) (slot : ℕ) → c.fetched < 8 → c.waiting ≤ in_flight d c →
    commands_of slot c.taken + commands_of slot (commands c.window c.fetched (in_flight d c))
    + answers_of slot (unread d c) ≡ 0 → Bare d c slot
bare-all d c slot b w z =
    let f = flight-total (bears slot) d c b w in
    record {
      taken = omega (arith, z);
      flight = omega (arith, z);
      rung = omega (arith, z, f);
      placed = omega (arith, z, f);
      unread = omega (arith, z);
    }

pub same-box : (p p' r r' : List Item) (q q' : List PostedAnswer) (u u' s s' : ℕ)
    → p ≡ p' → r ≡ r' → q ≡ q' → u ≡ u' → s ≡ s' →
    ◌≡◌ {A = LaneBox} (record { placed = p; rung = r; posted = q; unheard = u; since = s })
    (record { placed = p'; rung = r'; posted = q'; unheard = u'; since = s' })
same-box p p' r r' q q' u u' s s' h1 h2 h3 h4 h5 = rw (h1, h2, h3, h4, h5) refl

pub eqb-sym : (a b : ℕ) → eqb a b ≡ false → eqb b a ≡ false
eqb-sym a b h = grind (arith, common_steps, h)

pub same-entry : (w : List ℕ) (a b : ℕ) → a % 32 ≡ b % 32 → completion_bytes w a ≡ completion_bytes w b
same-entry w a b e = ap (λ i. take 16 (drop (4096 + 16 * i) w)) e

pub same-turn : (a b : ℕ) → a % 64 ≡ b % 64 → phase_of a ≡ phase_of b
same-turn a b e = ap (λ i. nat_lt i 32) e

-- a queue with equal ends is empty
pub since-zero : (f : ℕ) → f < 8 → (f + 8 - f) % 8 ≡ 0
since-zero f h = omega arith
