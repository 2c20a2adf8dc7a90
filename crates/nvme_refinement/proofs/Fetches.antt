-- For `RingStep` and `FetchStep`: ringing and fetching in one lane (queue pair). Placed requests become rung, and the
-- first rung request is fetched.
use Rattle.nvme_refinement.proofs.Words.{
  ◌≡◌,
  ℕ,
  ◌+◌,
  ◌-◌,
  ◌%◌,
  ◌<◌,
  ◌≤◌,
  List,
  [],
  ◌∷◌,
  ◌++◌,
  map,
  refl,
  ap,
  ◌∙◌,
  arith,
  zero,
  suc,
  true,
  length-append,
  map-append,
  Completion,
  Item,
  command_at,
  State,
  box,
  in_flight,
  commands,
  item,
  Running,
  Holds,
  holds,
  total,
  odd,
  bears,
  AllByRecursion,
  IsOf,
  queue_id,
  last_head,
  heard,
  unread,
  since,
  Host,
  Carried,
  Suited,
}
use Rattle.nvme_refinement.specs.Views.{after_fetch, rung}
use Rattle.nvme_mailbox.proofs.Totals.{total-append}
use Rattle.nvme_refinement.proofs.Queues.{same-box, flight-parts, rung-part, placed-part}
use Rattle.nvme_refinement.proofs.Places.{up-holds}

last-small : (q h : ℕ) (es : List Completion) → h < 8 → AllByRecursion (IsOf q) es → last_head h es < 8
last-small q h [] l a = l
last-small q h (e ∷ es) l a = last-small q e.sq_head es a.0.1 a.1

-- the first entry, and those after it
commands-first : (w : List ℕ) (s n : ℕ) → 0 < n → commands w s n ≡ command_at w s ∷ commands w ((s + 1) % 8) (n - 1)
commands-first w s zero p = let b : ⊥ = omega (arith, p) in absurd b
commands-first w s (suc n) p = let e : suc n - 1 ≡ n = omega arith in rw e refl

more : (d : Host) (c : State) → Running d c → 0 < c.waiting → since d (after_fetch c) ≡ since d c + 1
more d c s p =
    omega (
      arith,
      s.fetched,
      last-small (queue_id c.lane) (heard d) (unread d c) (omega arith) s.of_lane,
      s.unheard,
      s.room,
      s.waiting,
      p,
    )

fewer : (d : Host) (c : State) → Running d c → 0 < c.waiting → in_flight d (after_fetch c) ≡ in_flight d c - 1
fewer d c s p = omega (arith, s.put, s.fetched, p, s.waiting)

placed-same : (d : Host) (c : State) → Running d c → 0 < c.waiting → (f : List ℕ → Item) →
    map f
    (commands c.window (((c.fetched + 1) % 8 + (c.waiting - 1)) % 8) (in_flight d (after_fetch c) - (c.waiting - 1))) ≡
    map f (commands c.window ((c.fetched + c.waiting) % 8) (in_flight d c - c.waiting))
placed-same d c s p f =
    let e : in_flight d (after_fetch c) - (c.waiting - 1) ≡ in_flight d c - c.waiting =
    omega (arith, fewer d c s p, p, s.waiting) in
    let b : ((c.fetched + 1) % 8 + (c.waiting - 1)) % 8 ≡ (c.fetched + c.waiting) % 8 = omega (arith, p) in
    rw (b, e) refl

-- a fetch takes the first rung request
pub fetch-rung : (d : Host) (c : State) → 0 < c.waiting →
    (box d c).rung ≡ item (holds d) (command_at c.window c.fetched) ∷ (box d (after_fetch c)).rung
unfolding box
fetch-rung d c p = ap (map (item (holds d))) (commands-first c.window c.fetched c.waiting p)

pub fetch-box : (d : Host) (c : State) → Running d c → 0 < c.waiting →
    box d (after_fetch c) ≡ record (box d c) { rung = (box d (after_fetch c)).rung; since = (box d c).since + 1 }
unfolding box
fetch-box d c s p = same-box _ _ _ _ _ _ _ _ _ _ (placed-same d c s p (item (holds d))) refl refl refl (more d c s p)

pub idle-rung : (d : Host) (c : State) → c.waiting ≡ 0 → (box d c).rung ≡ []
unfolding box
idle-rung d c z = ap (λ n. map (item (holds d)) (commands c.window c.fetched n)) z

-- a ring appends the placed requests to those that were rung
pub ring-box : (d : Host) (c : State)
    → Running d c → box d (rung d c) ≡ record (box d c) { rung = (box d c).rung ++ (box d c).placed; placed = [] }
unfolding box
ring-box d c s =
    let n : in_flight d c - in_flight d c ≡ 0 = omega arith in
    let f = item (holds d) in
    rw (
      ap (map f) (flight-parts d c s.fetched s.waiting) ∙ map-append f (rung-part c) (placed-part d c),
      ap (λ k. map (item (holds d)) (commands c.window ((c.fetched + in_flight d c) % 8) k)) n,
    ) refl

-- a lane with another next ticket, and another number of waiting entries
pub still-running : (d : Host) (c : State) (next waiting : ℕ) → waiting ≤ in_flight d c → Running d c
    → Running (record d { next = next }) (record c { waiting = waiting })
still-running d c next waiting few s = search (s.phases, s.carried)

pub ring-running : (d : Host) (c : State) → Running d c → Running d (rung d c)
ring-running d c s = still-running d c d.next (in_flight d c) (omega arith) s

-- a lane whose driver stays
pub same-up : (first : ℕ) (d : Host) (c c' : State) → Holds first d c → d.up ≡ true → Running d c' → Holds first d c'
same-up first d c c' s u r = up-holds first d c' u s.failed s.begun s.ages r

-- a fetched command moves from the entries in flight to the list: a sum over both is unchanged
moved-fetch : (f : List ℕ → ℕ) (d : Host) (c : State) → Running d c → 0 < c.waiting →
    total f (after_fetch c).taken + total f (commands c.window ((c.fetched + 1) % 8) (in_flight d (after_fetch c))) ≡
    total f c.taken + total f (commands c.window c.fetched (in_flight d c))
moved-fetch f d c s p =
    let q : 0 < in_flight d c = omega (arith, s.waiting, p) in
    rw (fewer d c s p)
    (omega (
      arith,
      ap (total f) (commands-first c.window c.fetched (in_flight d c) q),
      total-append f c.taken (command_at c.window c.fetched ∷ []),
    ))

pub fetch-running : (d : Host) (c : State) → Running d c → 0 < c.waiting → Running d (after_fetch c)
fetch-running d c s p =
    let carried : Carried d (after_fetch c) = λ slot. omega (arith, s.carried slot, moved-fetch (bears slot) d c s p) in
    let suited : Suited d (after_fetch c) = moved-fetch (odd (holds d)) d c s p ∙ s.suited in
    search
    (arith, s.phases, carried, fewer d c s p, more d c s p, length-append c.taken (command_at c.window c.fetched ∷ []))
