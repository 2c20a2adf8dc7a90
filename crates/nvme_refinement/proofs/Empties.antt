-- For `PlaceStep`, `PollStep` and others: a slot that no live request holds may be emptied; the lane (queue pair) stays
-- sound, with the same mailbox.
use Rattle.nvme_refinement.proofs.Words.{
  ◌≡◌,
  ℕ,
  ◌<◌,
  ◌≤◌,
  List,
  [],
  ◌∷◌,
  length,
  refl,
  ap,
  sym,
  subst,
  ◌∙◌,
  arith,
  zero,
  suc,
  inl,
  inr,
  slice_set,
  length-set,
  cases_Bool,
  State,
  Slot,
  empty,
  off,
  in_flight,
  commands,
  commands_of,
  live_at,
  live_in,
  total,
  AgeIn,
  Carried,
  Running,
  Resting,
  Holds,
  Host,
  Suited,
  Ages,
  true,
  false,
}
use Rattle.nvme_refinement.proofs.Slots.{bare-odd, each-all}
use Rattle.nvme_refinement.proofs.Queues.{Bare, bare-all}
use Rattle.nvme_refinement.proofs.Places.{bare}

-- a slot that is not live may be emptied
abbrev pub emptied : Host → ℕ → Host
emptied d i = record d { slots = slice_set d.slots i empty }

total-kept : (slots : List Slot) (i : ℕ)
    → live_at slots i ≡ 0 → total live_in (slice_set slots i empty) ≡ total live_in slots
total-kept [] i l = refl
total-kept (x ∷ xs) zero l = omega (arith, l)
total-kept (x ∷ xs) (suc i) l = omega (arith, total-kept xs i l)

pub emptied-running : (d : Host) (c : State) (i : ℕ) → live_at d.slots i ≡ 0 → Running d c → Running (emptied d i) c
emptied-running d c i l s =
    let slots = length-set d.slots i empty ∙ s.slots in
    let carried : Carried (emptied d i) c = λ k. s.carried k
    ∙ sym (each-all (λ k (o : Slot). live_in o ≡ live_at d.slots k) d.slots i empty (sym l) (λ k. refl) k) in
    let held = s.held ∙ sym (total-kept d.slots i l) in
    let suited : Suited (emptied d i) c = bare-odd d c i empty (bare d c i s l) ∙ s.suited in
    search (s.phases, carried)

pub emptied-resting : (d : Host) (c : State) (i : ℕ) → live_at d.slots i ≡ 0 → Resting d c → Resting (emptied d i) c
emptied-resting d c i l s =
    let slots = length-set d.slots i empty ∙ s.slots in
    let idle : (k : ℕ) → live_at (slice_set d.slots i empty) k ≡ 0 =
    each-all (λ k (o : Slot). live_in o ≡ 0) d.slots i empty refl s.idle in
    search idle

pub emptied-holds : (first : ℕ) (d : Host) (c : State) (i : ℕ) → live_at d.slots i ≡ 0 → Holds first d c
    → Holds first (emptied d i) c
emptied-holds first d c i l s =
    let ages : Ages first d.next (slice_set d.slots i empty) =
    each-all (λ k (o : Slot). AgeIn first d.next o.waiting) d.slots i empty tt s.ages in
    let up : d.up ≡ true → Running (emptied d i) c = λ u. emptied-running d c i l (s.up u) in
    let down : d.up ≡ false → Resting (emptied d i) c = λ u. emptied-resting d c i l (s.down u) in
    search (ages, up, down)

-- the invariant of the queues of a driver, up or down
pub record Whole (d : Host) (c : State) : Type 0 where
  pub window : length c.window ≡ 8192
  pub slots : length d.slots ≡ 24
  pub fetched : c.fetched < 8
  pub waiting : c.waiting ≤ in_flight d c
  pub carried : Carried d c

whole-off : (d : Host) (c : State) → Resting d c → Whole d c
whole-off d c r =
    let n : in_flight d (off c) ≡ 0 = omega (arith, r.put) in
    let carried : Carried d (off c) = λ k. omega (arith, ap (λ n. commands_of k (commands c.window 0 n)) n, r.idle k) in
    subst (Whole d) (sym r.off) (search (arith, carried))

pub whole-of : (first : ℕ) (d : Host) (c : State) → Holds first d c → Whole d c
whole-of first d c s = elim (cases_Bool d.up) [
  | inl u ↦ let r : Running d c = s.up u in
      record { window = r.window; slots = r.slots; fetched = r.fetched; waiting = r.waiting; carried = r.carried }
  | inr u ↦ whole-off d c (s.down u)
]

pub bare-of : (first : ℕ) (d : Host) (c : State) (slot : ℕ) → Holds first d c → live_at d.slots slot ≡ 0 → Bare d c slot
bare-of first d c slot s l = let w = whole-of first d c s in
    bare-all d c slot w.fetched w.waiting (omega (arith, w.carried slot, l))
