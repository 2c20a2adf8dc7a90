-- For the law on events and `nvme_fleet`: a ring is a step of the mailbox, first in one lane (queue pair), then in the
-- other.
use Rattle.nvme_refinement.proofs.Words.{
  ◌≡◌,
  ℕ,
  ◌+◌,
  ◌-◌,
  ◌%◌,
  true,
  Bool,
  [],
  ◌∷◌,
  Some,
  refl,
  sym,
  ap,
  subst,
  ◌∙◌,
  arith,
  inl,
  inr,
  cases_Bool,
  lt-ltb,
  slice_set,
  option_map,
  if◌then◌else◌,
  Ok,
  Err,
  Lane,
  Admin,
  Io,
  queue_id,
  tail_doorbell,
  Driver,
  is_up,
  ends,
  tail_of,
  Writes,
  Controller,
  with_tail,
  submission_at,
  after_write32,
  Rung,
  Mailbox,
  mailbox_reaction,
  box_at,
  with_box,
  ring_lane,
  in_flight,
  DeviceEnds,
  Both,
  host,
  state,
  Sound,
  submission_as,
  mailbox,
  IsStep,
  RingIsAStep,
  after_calls,
  rung_reply,
}
use Rattle.nvme_refinement.specs.Views.{rung as rung_state}
use Rattle.nvme_refinement.proofs.Fetches.{ring-box, ring-running, same-up}
use Rattle.nvme_refinement.proofs.Registering.{tail-written}
use Rattle.nvme_refinement.proofs.OneLane.{running, box-is, AtLane, sound-at, mail-at}
use Rattle.nvme_refinement.proofs.LaneCounts.{counts, submission-is, same-completion, Counted, counted}

pub same-ahead : (v f : ℕ) → (8 + v - f) % 8 ≡ (v + 8 - f) % 8
same-ahead v f = ap (λ n. (n - f) % 8) (omega arith)

-- a lane whose tail doorbell was written
abbrev rung_one : Lane → Driver → Controller → Controller
rung_one lane d c = record c {
  submission = slice_set c.submission (queue_id lane)
      (option_map (with_tail (tail_of (ends lane d))) (submission_at c (queue_id lane)));
}

abbrev rung_counts : Lane → Driver → Controller → DeviceEnds
rung_counts lane d c = record (counts lane c) { waiting = in_flight (host lane d c.window) (state lane c) }

rung-so : (lane : Lane) (d : Driver) (c : Controller) → Sound d c → is_up d.state ≡ true
    → Counted lane c (rung_one lane d c) (rung_counts lane d c)
rung-so lane d c s u =
    let p = s.up u in
    let r = running lane d c s u in
    let t : tail_of (ends lane d) ≡ (ends lane d).tail.put = omega (arith, r.put) in
    let e : with_tail (ends lane d).tail.put (submission_as lane (counts lane c))
    ≡ submission_as lane (rung_counts lane d c) =
    rw (lt-ltb (ends lane d).tail.put 8 r.put, same-ahead (ends lane d).tail.put (state lane c).fetched) refl in
    counted lane c (rung_one lane d c) (rung_counts lane d c) p
    (ap (λ o. slice_set c.submission (queue_id lane) (option_map (with_tail (tail_of (ends lane d))) o))
    (submission-is lane c p)
    ∙ ap (λ q. slice_set c.submission (queue_id lane) (Some q))
    (ap (λ v. with_tail v (submission_as lane (counts lane c))) t ∙ e))
    (same-completion lane c p) p.fetched refl

rung-at : (lane : Lane) (d : Driver) (c : Controller) → Sound d c → is_up d.state ≡ true → AtLane lane d d c
    (rung_one lane d c) d.next (host lane d c.window) (rung_state (host lane d c.window) (state lane c))
rung-at lane d c s u = let k = rung-so lane d c s u in search arith

record IsRung (lane : Lane) (d : Driver) (c c' : Controller) : Type 0 where
  sound : Sound d c'
  mail : mailbox d c' ≡ with_box lane (ring_lane (box_at lane (mailbox d c))) (mailbox d c)

is-rung : (lane : Lane) (d : Driver) (c : Controller) → Sound d c → is_up d.state ≡ true
    → IsRung lane d c (rung_one lane d c)
is-rung lane d c s u =
    let b : Both d c = s.both in
    let r = running lane d c s u in
    let at = rung-at lane d c s u in
    record {
      sound = sound-at lane d d c (rung_one lane d c) d.next _ _ at s u
          (same-up b.first _ _ _ (b.each lane) u (ring-running _ _ r)) s.fits s.sizes (rung-so lane d c s u).paired;
      mail = mail-at lane d d c (rung_one lane d c) d.next _ _ at (mailbox d c).fetched refl refl
          ∙ ap (λ x. with_box lane x (mailbox d c)) (ring-box _ _ r ∙ ap ring_lane (sym (box-is lane d c)));
    }

-- the step of a ring, with the driver up or not
abbrev Rings : Bool → Driver → Controller → Type 0
Rings t d c =
    IsStep (if t then mailbox_reaction (record (mailbox d c) {
      admin = ring_lane (mailbox d c).admin;
      io = ring_lane (mailbox d c).io;
    }) (Rung (Ok tt)) else mailbox_reaction (mailbox d c) (Rung (Err (record {})))) d
    (after_calls (if t
    then Writes (tail_doorbell Admin) (tail_of d.admin) ∷ Writes (tail_doorbell Io) (tail_of d.io) ∷ [] else []) c)
    (rung_reply t)

up-step : (d : Driver) (c : Controller) → Sound d c → is_up d.state ≡ true → Rings true d c
up-step d c s u =
    let one = is-rung Admin d c s u in
    let two = is-rung Io d (rung_one Admin d c) one.sound u in
    let p = s.up u in
    let q = one.sound.up u in
    let e = ap (after_write32 (tail_doorbell Io) (tail_of d.io))
    (tail-written Admin c (tail_of d.admin) p.enabled p.ready (omega arith))
    ∙ tail-written Io (rung_one Admin d c) (tail_of d.io) q.enabled q.ready (omega arith) in
    record {
      sound = subst (Sound d) (sym e) two.sound;
      mail = sym (ap (mailbox d) e ∙ two.mail ∙ ap (λ (x : Mailbox). with_box Io (ring_lane (box_at Io x)) x) one.mail);
      gives = refl;
    }

pub ring_is_a_step : RingIsAStep
ring_is_a_step d c s = elim (cases_Bool (is_up d.state)) [
  | inl u ↦ subst (λ t. Rings t d c) (sym u) (up-step d c s u)
  | inr u ↦ subst (λ t. Rings t d c) (sym u) (record { sound = s; mail = refl; gives = refl })
]
