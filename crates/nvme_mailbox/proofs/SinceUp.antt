-- Proof of the law `done_since_it_came_up`: from an opening on, a driver that is down waits for nothing.
use Rattle.nvme_mailbox.proofs.Words.{
  true≢false,
  ◌≡◌,
  ℕ,
  ◌+◌,
  true,
  false,
  List,
  [],
  ◌∷◌,
  map,
  refl,
  sym,
  ap,
  subst,
  ◌∙◌,
  slice_get,
  none-some,
  Lane,
  Admin,
  Io,
  LaneBox,
  empty_box,
  Mailbox,
  box_at,
  lane_of,
  with_box,
  with_mark,
  WithDriver,
  after_answer,
  opening,
  IsClear,
  posted_answers,
  waiting,
  Device,
  Configuration,
  Raw,
  marked,
  arith,
  common_steps,
}
use Rattle.nvme_mailbox.specs.SinceUp.{DoneSinceItCameUp, DownIsClear}
use Rattle.nvme_mailbox.proofs.Answered.{done_is_its_execution}
use Rattle.nvme_mailbox.proofs.TicketCounts.{opening_is_new}
use Rattle.nvme_mailbox.proofs.EachHost.{Each, Keeps, run-keeps}
use Rattle.nvme_mailbox.specs.Fleets.{Host}
use Rattle.nvme_mailbox.proofs.Moves.{
  Move,
  Stay,
  Rise,
  Take,
  RingBoth,
  FetchFirst,
  HandUp,
  Free,
  Clear,
  Answer,
  May,
  is-ready,
  moved,
}

record IsEmpty (b : LaneBox) : Type 0 where
  placed : b.placed ≡ []
  rung : b.rung ≡ []
  posted : b.posted ≡ []

none : IsEmpty empty_box
none = record { placed = refl; rung = refl; posted = refl }

record IsIdle (m : Mailbox) : Type 0 where
  admin : IsEmpty m.admin
  io : IsEmpty m.io
  fetched : m.fetched ≡ []

-- if it is down, it is idle
abbrev Rests : Mailbox → Type 0
Rests m = m.up ≡ false → IsIdle m

clear : (m : Mailbox) → IsIdle m → IsClear m
unfolding waiting posted_answers
clear m i =
    record {
      requests = rw (i.admin.placed, i.admin.rung, i.io.placed, i.io.rung, i.fetched) refl;
      posted = rw (i.admin.posted, i.io.posted) refl;
    }

up-rests : (m : Mailbox) → m.up ≡ true → Rests m
up-rests m up down = absurd (true≢false (sym up ∙ down))

-- Each move.

box-up : (lane : Lane) (b : LaneBox) (m : Mailbox) → (with_box lane b m).up ≡ m.up
box-up lane b m = grind (arith, common_steps)

lane-empty : (lane : Lane) (m : Mailbox) → IsIdle m → IsEmpty (box_at lane m)
lane-empty Admin m i = i.admin
lane-empty Io m i = i.io

filled : {A : Type 0} (x : A) (xs : List A) → x ∷ xs ≡ [] → ⊥
filled x xs e = absurd (cc)

rests : (v : Move) (m : Mailbox) → May v m → Rests m → Rests (moved v m)
unfolding after_answer
rests (Stay what) m q h = h
rests Rise m u h = up-rests (moved Rise m) refl
rests (Take request) m taken h = up-rests _ (box-up _ _ _ ∙ is-ready m.up _ taken)
rests RingBoth m up h = up-rests (moved RingBoth m) up
rests (FetchFirst lane x rest) m is h = λ down.
    absurd (filled x rest (sym is ∙ (lane-empty lane m (h (sym (box-up lane _ _) ∙ down))).rung))
rests (HandUp lane x rest) m is h = λ down.
    absurd (filled x rest (sym is ∙ (lane-empty lane m (h (sym (box-up lane _ m) ∙ down))).posted))
rests (Free t ts) m is h = λ down. let i = h down in record { admin = i.admin; io = i.io; fetched = i.fetched }
rests (Clear what) m q h = λ down. record { admin = none; io = none; fetched = refl }
rests (Answer i x r) m at h = λ down.
    absurd (none-some _ (sym (ap (λ xs. slice_get xs i) (h (sym (box-up (lane_of x.item) _ _) ∙ down)).fetched) ∙ at))

-- Of all hosts.

abbrev RestsAt : ℕ → Host → Type 0
RestsAt k (WithDriver m) = Rests m
RestsAt k (Raw c) = Unit {0}

marked-rests : (k n : ℕ) (h : Host) → RestsAt k h → RestsAt k (marked n h)
marked-rests k n (WithDriver m) h = λ down. let i = h down in
    record { admin = i.admin; io = i.io; fetched = ap (map (with_mark n)) i.fetched }
marked-rests k n (Raw c) h = tt

keeps : Keeps RestsAt
keeps = record { move = λ k v m may h. rests v m may h; marks = marked-rests; raw = λ k c d same h. tt }

opening-rests : (c : Configuration) (d : Device) → Each RestsAt (opening c d)
opening-rests c d k (WithDriver m) at =
    subst Rests (sym (opening_is_new c d k m at)) (λ down. record { admin = none; io = none; fetched = refl })
opening-rests c d k (Raw x) at = tt

pub down_is_clear : DownIsClear
down_is_clear tells c d f events replies run i has m there down =
    clear m (run-keeps RestsAt keeps tells (opening c d) f events replies run (opening-rests c d) (i + 1)
    (WithDriver m) there down)

pub done_since_it_came_up : DoneSinceItCameUp
done_since_it_came_up tells c d old mid new before given first events replies run i has m there down reply step ticket
    dw0 len status says =
    done_is_its_execution tells old mid new events replies run (i + 1) m there
    (down_is_clear tells c d old before given first i has m there down) reply step ticket dw0 len status says
