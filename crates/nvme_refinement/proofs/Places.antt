-- For `PlaceStep`: placing in one lane (queue pair). A request in a slot that nobody uses becomes the last of the
-- placed ones.
use Rattle.nvme_refinement.proofs.Words.{
  ◌≡◌,
  ℕ,
  ◌+◌,
  ◌-◌,
  ◌%◌,
  ◌<◌,
  ◌≤◌,
  List,
  [],
  ◌∷◌,
  ◌++◌,
  length,
  map,
  refl,
  ap,
  ◌∙◌,
  arith,
  true,
  false,
  cond,
  eqb,
  Option,
  Some,
  None,
  Bool,
  map-append,
  length-set,
  common_steps,
  Waiting,
  cid,
  live_in,
  suits,
  Slot,
  item_in,
  State,
  filled,
  placed_state,
  in_flight,
  commands,
  item,
  box,
  Running,
  Holds,
  Ages,
  AgeIn,
  last_head,
  heard,
  unread,
  commands_of,
  answers_of,
  live_at,
  slot_at,
  answers,
  holds,
  total,
  odd,
  bears,
  Carried,
  Host,
  eq-eqb,
  steps,
  since,
  AllByRecursion,
  IsOf,
  queue_id,
  Suited,
  slice_set,
}
use Rattle.nvme_refinement.specs.Views.{placed}
use Rattle.nvme_mailbox.proofs.Totals.{total-append}
use Rattle.nvme_refinement.proofs.Slots.{bare-box, bare-odd, live-set, slot-same, each-set, each-all}
use Rattle.nvme_refinement.proofs.Phases.{phases-kept, Enters, enters, commands-kept, completions-same}
use Rattle.nvme_refinement.proofs.Queues.{commands-append, Bare, bare-all, placed-part, same-box, eqb-sym}

-- the premise: a request is placed in a slot that is not live, with this command
pub record Places (d : Host) (c : State) (x : List ℕ) (w : Waiting) (slot : ℕ) (bytes list : List ℕ) : Type 0 where
  pub running : Running d c
  pub free : live_at d.slots slot ≡ 0
  pub within : slot < 24
  pub room : d.unheard < 7
  pub size : length x ≡ 64
  pub named : cid x ≡ slot
  pub live : w.live ≡ true
  pub ticket : w.ticket.0 ≡ d.next
  pub suits_it : suits (filled w bytes list) x ≡ true

heard-placed : (p u : ℕ) → p < 8 → u < 7 → ((p + 1) % 8 + 8 - (u + 1)) % 8 ≡ (p + 8 - u) % 8
heard-placed p u a b = omega arith

-- nobody uses a slot that is not live
pub bare : (d : Host) (c : State) (slot : ℕ) → Running d c → live_at d.slots slot ≡ 0 → Bare d c slot
bare d c slot s z = bare-all d c slot s.fetched s.waiting (omega (arith, s.carried slot, z))

-- the new request is live, and uses its slot
new-live : (w : Waiting) (bytes list : List ℕ) → w.live ≡ true → live_in (filled w bytes list) ≡ 1
new-live w bytes list h = ap (λ b. cond b 1 0) h

new-bears : (x : List ℕ) (slot k : ℕ) (b : Bool) → cid x ≡ slot → eqb slot k ≡ b → bears k x ≡ cond b 1 0
new-bears x slot k b named t = ap (λ n. cond (eqb n k) 1 0) named ∙ ap (λ b. cond b 1 0) t

-- a request may be older than a later next one
pub age-later : (first n m : ℕ) (o : Option Waiting) → n ≤ m → AgeIn first n o → AgeIn first m o
age-later first n m None h a = tt
age-later first n m (Some p) h a = (a.0, omega (arith, h, a.1))

pub no-way : (b : Bool) → b ≡ false → b ≡ true → ⊥
no-way b e f = grind (arith, common_steps, e, f)

-- a running lane whose driver is up is sound
pub up-holds : (first : ℕ) (d : Host) (c : State) → d.up ≡ true → d.failed ≡ false → first ≤ d.next
    → Ages first d.next d.slots → Running d c → Holds first d c
up-holds first d c u f b a r =
    record { failed = f; begun = b; ages = a; up = λ e. r; down = λ e. absurd (no-way d.up e u) }

-- The effect of such a placing.
module _ (d : Host) (c : State) (x : List ℕ) (w : Waiting) (slot : ℕ) (bytes list : List ℕ)
    (h : Places d c x w slot bytes list) where
  entered : Enters c.window (placed_state d c x).window d.put x
  entered = enters c.window x d.put (h.running).window (h.running).put h.size

  more-flight : in_flight (placed d w slot bytes list) (placed_state d c x) ≡ in_flight d c + 1
  more-flight = omega (arith, h.running.put, h.running.fetched, h.running.unheard, h.room)

  -- entries up to the tail stay, and the new one is the last
  stretch : (from n : ℕ) → from < 8 → n ≡ (d.put + 8 - from) % 8
      → commands (placed_state d c x).window from (n + 1) ≡ commands c.window from n ++ x ∷ []
  stretch from n b e =
      let s : Running d c = h.running in
      let p : (from + n) % 8 ≡ d.put = omega (arith, s.put, b, e) in
      let k = entered in
      let z : commands (placed_state d c x).window ((from + n) % 8) 1 ≡ x ∷ [] =
      ap (λ i. commands (placed_state d c x).window i 1) p ∙ ap (λ x. x ∷ []) k.last in
      commands-append (placed_state d c x).window from n 1 b ∙
      ap (λ t. t ++ commands (placed_state d c x).window ((from + n) % 8) 1)
      (commands-kept c.window (placed_state d c x).window d.put 32 from n k.keeps s.put b (omega (arith, e))) ∙
      ap (λ t. commands c.window from n ++ t) z

  same-unread : unread (placed d w slot bytes list) (placed_state d c x) ≡ unread d c
  same-unread = completions-same c.window (placed_state d c x).window d.put d.consumed c.unread entered.keeps

  -- the slot of the new command
  here : holds (placed d w slot bytes list) (cid x) ≡ filled w bytes list
  here = ap (holds (placed d w slot bytes list)) h.named
      ∙ slot-same d.slots slot (filled w bytes list) (omega (arith, h.within, (h.running).slots))

  placed-more : placed-part (placed d w slot bytes list) (placed_state d c x) ≡ placed-part d c ++ x ∷ []
  placed-more =
      let s : Running d c = h.running in
      let n : in_flight (placed d w slot bytes list) (placed_state d c x) - c.waiting ≡ (in_flight d c - c.waiting)
      + 1 = omega (arith, more-flight, s.waiting) in
      let e : in_flight d c - c.waiting ≡ (d.put + 8 - (c.fetched + c.waiting) % 8) % 8 =
      omega (arith, s.put, s.fetched, s.waiting) in
      ap (commands (placed_state d c x).window ((c.fetched + c.waiting) % 8)) n ∙
      stretch ((c.fetched + c.waiting) % 8) (in_flight d c - c.waiting) (omega arith) e

  -- Place appends the request to the placed ones
  pub place-box : box (placed d w slot bytes list) (placed_state d c x) ≡ record (box d c) {
    placed = (box d c).placed ++ item_in (filled w bytes list) x ∷ [];
    unheard = (box d c).unheard + 1;
  }
  unfolding box
  place-box =
      let f : ℕ → Slot = holds (placed d w slot bytes list) in
      let n : heard (placed d w slot bytes list) ≡ heard d = heard-placed d.put d.unheard (h.running).put h.room in
      let u = same-unread in
      let b = bare-box d c slot (filled w bytes list) (bare d c slot h.running h.free) in
      same-box _ _ _ _ _ _ _ _ _ _
      (ap (map (item f)) placed-more ∙ map-append (item f) (placed-part d c) (x ∷ []))
      (ap (map (item f)) (commands-kept c.window (placed_state d c x).window d.put 32 c.fetched c.waiting entered.keeps
      (h.running).put (h.running).fetched (h.running).waiting))
      (λ i. answers f (n i) (u i))
      refl
      (λ i. (c.fetched + 8 - last_head (n i) (u i)) % 8)
      ∙ (λ i. record (b i) { placed = (b i).placed ++ item_in (here i) x ∷ []; unheard = (b i).unheard + 1 })

  -- the increase of a sum over the entries in flight
  flight-more : (f : List ℕ → ℕ)
      → total f
      (commands (placed_state d c x).window c.fetched (in_flight (placed d w slot bytes list) (placed_state d c x)))
      ≡ total f (commands c.window c.fetched (in_flight d c)) + f x
  flight-more f =
      let t : total f (x ∷ []) ≡ f x = omega arith in
      ap (λ n. total f (commands (placed_state d c x).window c.fetched n)) more-flight ∙
      ap (total f) (stretch c.fetched (in_flight d c) h.running.fetched refl) ∙
      total-append f (commands c.window c.fetched (in_flight d c)) (x ∷ []) ∙
      ap (λ n. total f (commands c.window c.fetched (in_flight d c)) + n) t

  carried-place : Carried (placed d w slot bytes list) (placed_state d c x)
  carried-place =
      let s : Running d c = h.running in
      let u = same-unread in
      each-set
      (λ k (o : Slot). commands_of k c.taken + commands_of k
      (commands (placed_state d c x).window c.fetched (in_flight (placed d w slot bytes list) (placed_state d c x)))
      + answers_of k (unread (placed d w slot bytes list) (placed_state d c x)) ≡ live_in o)
      d.slots slot (filled w bytes list) (omega (arith, h.within, s.slots))
      (omega (
        arith,
        s.carried slot,
        h.free,
        flight-more (bears slot),
        ap (answers_of slot) u,
        new-bears x slot slot true h.named (eq-eqb slot slot refl),
        new-live w bytes list h.live,
      ))
      (λ k q. omega (
        arith,
        s.carried k,
        flight-more (bears k),
        ap (answers_of k) u,
        new-bears x slot k false h.named (eqb-sym k slot q),
      ))

  pub place-running : Running (placed d w slot bytes list) (placed_state d c x)
  place-running =
      let s : Running d c = h.running in
      let m = more-flight in
      let k = entered in
      let new : odd (holds (placed d w slot bytes list)) x ≡ 0 =
      ap (λ s. cond (suits s x) 0 1) here ∙ ap (λ b. cond b 0 1) h.suits_it in
      let window = k.keeps.size ∙ s.window in
      let slots = length-set d.slots slot (filled w bytes list) ∙ s.slots in
      let unheard : steps (heard (placed d w slot bytes list))
      (unread (placed d w slot bytes list) (placed_state d c x)) + since (placed d w slot bytes list)
      (placed_state d c x) + in_flight (placed d w slot bytes list) (placed_state d c x) ≡ d.unheard + 1 =
      rw (heard-placed d.put d.unheard s.put h.room, same-unread) (omega (arith, m, s.unheard)) in
      let of_lane : AllByRecursion (IsOf (queue_id c.lane)) (unread (placed d w slot bytes list) (placed_state d c x)) =
      rw same-unread s.of_lane in
      let phases = phases-kept c.window _ d.put d.consumed c.unread k.keeps s.phases in
      let held : length c.taken + in_flight (placed d w slot bytes list) (placed_state d c x) + c.unread
      ≡ total live_in (slice_set d.slots slot (filled w bytes list)) =
      omega (
        arith,
        m,
        s.held,
        live-set d.slots slot (filled w bytes list) (omega (arith, h.within, s.slots)),
        h.free,
        new-live w bytes list h.live,
      ) in
      let suited : Suited (placed d w slot bytes list) (placed_state d c x) =
      omega (
        arith,
        s.suited,
        flight-more (odd (holds (placed d w slot bytes list))),
        bare-odd d c slot (filled w bytes list) (bare d c slot s h.free),
        new,
      ) in
      search (arith, phases, carried-place, m, h.room)

  pub place-holds : (first : ℕ)
      → Holds first d c → d.up ≡ true → Holds first (placed d w slot bytes list) (placed_state d c x)
  place-holds first s u =
      up-holds first (placed d w slot bytes list) (placed_state d c x) u s.failed (omega (arith, s.begun))
      (each-all (λ k (o : Slot). AgeIn first (d.next + 1) o.waiting) d.slots slot
      (filled w bytes list) (rw (h.live, h.ticket) (s.begun, omega arith))
      (λ k. age-later first d.next (d.next + 1) (slot_at d.slots k).waiting (omega arith) (s.ages k)))
      place-running
