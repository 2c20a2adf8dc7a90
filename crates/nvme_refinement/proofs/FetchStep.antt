-- For the law on events and `nvme_fleet`: a fetch is a step of the mailbox: it takes the first rung request of its lane
-- (queue pair), and the other lane stays.
use Rattle.nvme_refinement.proofs.Words.{
  all-joined,
  ◌≡◌,
  ℕ,
  zero,
  suc,
  ◌+◌,
  ◌-◌,
  ◌%◌,
  ◌<◌,
  ◌≤◌,
  true,
  false,
  List,
  [],
  ◌∷◌,
  ◌++◌,
  length,
  Option,
  None,
  Some,
  refl,
  sym,
  ap,
  subst,
  ◌∙◌,
  arith,
  inl,
  inr,
  cases_Bool,
  cases_lt,
  lt-ltb,
  ne_eqb,
  append-nil,
  map-append,
  slice_index_or,
  Lane,
  Admin,
  Io,
  queue_id,
  Driver,
  is_up,
  Idle,
  FetchedCommand,
  Controller,
  SubmissionQueue,
  fetchable,
  after_fetch as after_fetch_of,
  fetched_from,
  submission_at,
  Item,
  FetchedItem,
  LaneBox,
  with_box,
  MailboxReaction,
  mailbox_reaction,
  plain,
  fetched,
  fetched_first,
  fetched_of,
  lane_at,
  raw_fetch,
  State,
  box,
  item,
  command_at,
  DeviceEnds,
  same,
  other,
  host,
  state,
  pages_of,
  commands_in,
  fetched_by,
  held_by,
  Sound,
  IsPaired,
  IsOff,
  IsOfLane,
  mailbox,
  submission_as,
  IsStep,
  FetchIsAStep,
  common_steps,
}
use Rattle.nvme_event.specs.declared.seen.FleetSeen.TheVariants.{Fetched}
use Rattle.nvme_machine.specs.Controllers.{head_entry}
use Rattle.nvme_mailbox.specs.Deliveries.{with_rest}
use Rattle.nvme_refinement.specs.Views.{after_fetch}
use Rattle.nvme_refinement.proofs.Slots.{few}
use Rattle.nvme_refinement.proofs.Fetches.{fetch-rung, fetch-box, fetch-running, idle-rung, same-up}
use Rattle.nvme_refinement.proofs.PlaceStep.{length-taken}
use Rattle.nvme_refinement.proofs.OneLane.{running, box-is, AtLane, sound-at, mail-at}
use Rattle.nvme_refinement.proofs.LaneCounts.{counts, submission-is, same-completion, Counted, counted, entry-in}
use Rattle.nvme_refinement.proofs.Resetting.{state-off}

-- nothing is fetched
idle-step : (d : Driver) (c : Controller) (q : ℕ) → Sound d c → fetchable c q ≡ None
    → fetched q (mailbox d c) ≡ mailbox_reaction (mailbox d c) (Fetched Idle)
    → IsStep (fetched q (mailbox d c)) d (after_fetch_of q c).controller (plain (Fetched (raw_fetch c q)))
unfolding after_fetch_of
idle-step d c q s none same =
    let e : fetched_from q c (fetchable c q) ≡ fetched_from q c None = ap (fetched_from q c) none in
    record {
      sound = subst (Sound d) (sym (ap (λ r. r.controller) e)) s;
      mail = ap (λ (r : MailboxReaction). r.mailbox) same ∙ ap (mailbox d) (sym (ap (λ r. r.controller) e));
      gives = rw none (ap (λ (r : MailboxReaction). r.reply) same);
    }

-- a lane in which no command waits, and one in which one does
empty-queue : (lane : Lane) (c : Controller) → IsPaired c → (state lane c).waiting ≡ 0
    → fetchable c (queue_id lane) ≡ None
unfolding fetchable
empty-queue lane c p z = grind (arith, common_steps, p.ready, submission-is lane c p, z)

open-queue : (lane : Lane) (c : Controller) → IsPaired c → length c.fetched < 64 → 0 < (state lane c).waiting
    → fetchable c (queue_id lane) ≡ Some (submission_as lane (counts lane c))
unfolding fetchable
open-queue lane c p few some =
    rw (p.ready, lt-ltb (length c.fetched) 64 few, submission-is lane c p, lt-ltb 0 (state lane c).waiting some) refl

-- the list of fetched commands is never full
lane-few : (lane : Lane) (d : Driver) (c : Controller) → Sound d c → is_up d.state ≡ true
    → length (commands_in lane c.fetched) ≤ 24
lane-few lane d c s u = omega (arith, few (host lane d c.window) (state lane c) (running lane d c s u))

-- the fetched command
abbrev new_command : Lane → Controller → FetchedCommand
new_command lane c =
    record { entry = head_entry c (submission_as lane (counts lane c)); queue = queue_id lane; marked = false }

-- the controller after it fetched in a lane
abbrev taken_in : Lane → Controller → Controller
taken_in lane c = (fetched_from (queue_id lane) c (Some (submission_as lane (counts lane c)))).controller

abbrev fetched_counts : Lane → Controller → DeviceEnds
fetched_counts lane c =
    record (counts lane c) { fetched = ((state lane c).fetched + 1) % 8; waiting = (state lane c).waiting - 1 }

of-lane : (lane : Lane) (x : List ℕ) → IsOfLane (record { entry = x; queue = queue_id lane; marked = false })
of-lane Admin x = inl refl
of-lane Io x = inr refl

taken-so : (lane : Lane) (c : Controller) → IsPaired c → Counted lane c (taken_in lane c) (fetched_counts lane c)
taken-so lane c p =
    counted lane c (taken_in lane c) (fetched_counts lane c) p refl (same-completion lane c p)
    (all-joined IsOfLane c.fetched (new_command lane c ∷ []) p.fetched
    (of-lane lane (head_entry c (submission_as lane (counts lane c))), tt)) refl

-- a lane's commands of two lists, and of one command
commands-append : (lane : Lane) (xs ys : List FetchedCommand)
    → commands_in lane (xs ++ ys) ≡ commands_in lane xs ++ commands_in lane ys
commands-append lane [] ys = refl
commands-append lane (x ∷ xs) ys = grind (arith, common_steps, commands-append lane xs ys)

one-here : (lane : Lane) (x : List ℕ)
    → commands_in lane (record { entry = x; queue = queue_id lane; marked = false } ∷ []) ≡ x ∷ []
one-here lane x = grind (arith, common_steps)

one-there : (lane : Lane) (x : List ℕ)
    → commands_in (other lane) (record { entry = x; queue = queue_id lane; marked = false } ∷ []) ≡ []
one-there lane x = grind (arith, common_steps)

one-item : (lane : Lane) (d : Driver) (w x : List ℕ)
    → fetched_by (held_by d w) (record { entry = x; queue = queue_id lane; marked = false })
    ≡ record { item = item (held_by d w lane) x; marked = false }
one-item lane d w x = grind (arith, common_steps)

-- a fetch in a lane in which a command waits
record Waits (lane : Lane) (d : Driver) (c : Controller) : Type 0 where
  sound : Sound d c
  up : is_up d.state ≡ true
  some : 0 < (state lane c).waiting
  entry : head_entry c (submission_as lane (counts lane c)) ≡ command_at (pages_of lane c.window) (state lane c).fetched

waits : (lane : Lane) (d : Driver) (c : Controller) → Sound d c → is_up d.state ≡ true → 0 < (state lane c).waiting
    → Waits lane d c
waits lane d c s u p =
    record {
      sound = s;
      up = u;
      some = p;
      entry = entry-in lane c.window (state lane c).fetched (running lane d c s u).fetched;
    }

taken-at : (lane : Lane) (d : Driver) (c : Controller)
    → Waits lane d c → AtLane lane d d c (taken_in lane c) d.next (host lane d c.window) (after_fetch (state lane c))
taken-at lane d c h =
    let k = taken-so lane c (h.sound.up h.up) in
    let here = commands-append lane c.fetched (new_command lane c ∷ [])
    ∙ ap (λ ys. commands_in lane c.fetched ++ ys)
    (one-here lane (head_entry c (submission_as lane (counts lane c))) ∙ ap (λ y. y ∷ []) h.entry) in
    let there = commands-append (other lane) c.fetched (new_command lane c ∷ [])
    ∙ ap (λ ys. commands_in (other lane) c.fetched ++ ys)
    (one-there lane (head_entry c (submission_as lane (counts lane c))))
    ∙ append-nil (commands_in (other lane) c.fetched) in
    let state_here = k.here ∙ (λ i. record (state lane c) {
      fetched = ((state lane c).fetched + 1) % 8;
      waiting = (state lane c).waiting - 1;
      taken = here i;
    }) in
    let state_there = k.there ∙ (λ i. record (state (other lane) c) { taken = there i }) in
    search arith

taken-sound : (lane : Lane) (d : Driver) (c : Controller) → Waits lane d c → Sound d (taken_in lane c)
taken-sound lane d c h =
    let s = h.sound in
    sound-at lane d d c (taken_in lane c) d.next _ _ (taken-at lane d c h) s h.up
    (same-up s.both.first _ _ _ (s.both.each lane) h.up (fetch-running _ _ (running lane d c s h.up) h.some)) s.fits
    s.sizes (taken-so lane c (s.up h.up)).paired

-- the first rung request of the lane, and the rest
abbrev first_rung : Lane → Driver → Controller → Item
first_rung lane d c = item (held_by d c.window lane) (command_at (pages_of lane c.window) (state lane c).fetched)

abbrev rest_rung : Lane → Driver → Controller → List Item
rest_rung lane d c = (box (host lane d c.window) (after_fetch (state lane c))).rung

taken-mail : (lane : Lane) (d : Driver) (c : Controller) → Waits lane d c → mailbox d (taken_in lane c)
    ≡ (fetched_first lane (first_rung lane d c ∷ rest_rung lane d c) (mailbox d c)).mailbox
taken-mail lane d c h =
    mail-at lane d d c (taken_in lane c) d.next _ _ (taken-at lane d c h)
    ((mailbox d c).fetched ++ record { item = first_rung lane d c; marked = false } ∷ [])
    (map-append (fetched_by (held_by d c.window)) c.fetched (new_command lane c ∷ [])
    ∙ ap (λ x. (mailbox d c).fetched ++ x ∷ [])
    (one-item lane d c.window (head_entry c (submission_as lane (counts lane c)))
    ∙ ap
    (λ x. (let t : FetchedItem = record { item = item (held_by d c.window lane) x; marked = false } in t)) h.entry))
    refl
    ∙ ap (λ u. with_box lane u (record (mailbox d c) {
      fetched = (mailbox d c).fetched ++ record { item = first_rung lane d c; marked = false } ∷ [];
    }))
    (fetch-box (host lane d c.window) (state lane c) (running lane d c h.sound h.up) h.some
    ∙ ap (λ u. with_rest u (rest_rung lane d c)) (sym (box-is lane d c)))

-- In a lane.

abbrev Fetches : Lane → Driver → Controller → Type 0
Fetches lane d c = IsStep (fetched (queue_id lane) (mailbox d c)) d (after_fetch_of (queue_id lane) c).controller
    (plain (Fetched (raw_fetch c (queue_id lane))))

lane-is : (lane : Lane) → lane_at (queue_id lane) ≡ Some lane
lane-is lane = grind (arith, common_steps)

-- the rung requests decide
rung-is : (lane : Lane) (d : Driver) (c : Controller) (xs : List Item)
    → (box (host lane d c.window) (state lane c)).rung ≡ xs
    → fetched (queue_id lane) (mailbox d c) ≡ fetched_first lane xs (mailbox d c)
rung-is lane d c xs h =
    ap (λ o. fetched_of o (mailbox d c)) (lane-is lane)
    ∙ ap (λ ys. fetched_first lane ys (mailbox d c)) (ap (λ (b : LaneBox). b.rung) (box-is lane d c) ∙ h)

one-waits : (lane : Lane) (d : Driver) (c : Controller) → Waits lane d c → Fetches lane d c
unfolding after_fetch_of
one-waits lane d c h =
    let o = open-queue lane c (h.sound.up h.up)
    (omega (arith, length-taken c.fetched, lane-few Admin d c h.sound h.up, lane-few Io d c h.sound h.up)) h.some in
    let k : (fetched_from (queue_id lane) c (fetchable c (queue_id lane))).controller ≡ taken_in lane c =
    ap (λ x. (fetched_from (queue_id lane) c x).controller) o in
    let f = rung-is lane d c (first_rung lane d c ∷ rest_rung lane d c)
    (fetch-rung (host lane d c.window) (state lane c) h.some) in
    record {
      sound = subst (Sound d) (sym k) (taken-sound lane d c h);
      mail = ap (λ (r : MailboxReaction). r.mailbox) f ∙ sym (ap (mailbox d) k ∙ taken-mail lane d c h);
      gives = rw o (ap (λ (r : MailboxReaction). r.reply) f);
    }

none-waits : (lane : Lane) (d : Driver) (c : Controller) → Sound d c → (state lane c).waiting ≡ 0
    → fetchable c (queue_id lane) ≡ None → Fetches lane d c
none-waits lane d c s z none =
    idle-step d c (queue_id lane) s none (rung-is lane d c [] (idle-rung (host lane d c.window) (state lane c) z))

-- a controller that is off has no queue
off-queue : (c : Controller) (q : ℕ) → IsOff c → fetchable c q ≡ None
unfolding fetchable
off-queue c q o = rw o.off refl

lane-step : (lane : Lane) (d : Driver) (c : Controller) → Sound d c → Fetches lane d c
lane-step lane d c s = elim (cases_Bool (is_up d.state)) [
  | inl u ↦ elim (cases_lt 0 (state lane c).waiting) [
    | inl some ↦ one-waits lane d c (waits lane d c s u some)
    | inr none ↦ (let z : (state lane c).waiting ≡ 0 = omega (arith, none) in
        none-waits lane d c s z (empty-queue lane c (s.up u) z))
  ]
  | inr u ↦ none-waits lane d c s (ap (λ (x : State). x.waiting) (state-off lane c c (s.down u) refl))
      (off-queue c (queue_id lane) (s.down u))
]

-- there is no other queue
other-queue : (a i : Option SubmissionQueue) (n : ℕ)
    → slice_index_or (a ∷ i ∷ None ∷ None ∷ None ∷ []) (suc (suc n)) None ≡ None
other-queue a i (suc (suc (suc n))) = refl
other-queue a i n = refl

far-queue : (c : Controller) (p : IsPaired c) (n : ℕ) → fetchable c (suc (suc n)) ≡ None
unfolding fetchable
far-queue c p n =
    let e : submission_at c (suc (suc n)) ≡ None = ap (λ l. slice_index_or l (suc (suc n)) None) p.submission
    ∙ other-queue (Some (submission_as Admin p.admin)) (Some (submission_as Io p.io)) n in
    grind (arith, common_steps, p.ready, e)

pub fetch_is_a_step : FetchIsAStep
fetch_is_a_step d c zero s = lane-step Admin d c s
fetch_is_a_step d c (suc zero) s = lane-step Io d c s
fetch_is_a_step d c (suc (suc n)) s =
    let none : lane_at (suc (suc n)) ≡ None =
    rw (ne_eqb (suc (suc n)) 0 (λ e. omega (arith, e)), ne_eqb (suc (suc n)) 1 (λ e. omega (arith, e))) refl in
    let same : fetched (suc (suc n)) (mailbox d c) ≡ mailbox_reaction (mailbox d c) (Fetched Idle) =
    ap (λ o. fetched_of o (mailbox d c)) none in
    elim (cases_Bool (is_up d.state)) [
      | inl u ↦ idle-step d c (suc (suc n)) s (far-queue c (s.up u) n) same
      | inr u ↦ idle-step d c (suc (suc n)) s (off-queue c (suc (suc n)) (s.down u)) same
    ]
