-- Proof of the law `moving`: a snapshot is of one moment.
use Rattle.std.proofs.Common.{
  ◌≡◌,
  ℕ,
  Bool,
  true,
  false,
  List,
  ◌++◌,
  Option,
  Some,
  None,
  Err,
  refl,
  sym,
  ap,
  subst,
  ◌∙◌,
  arith,
}
use Rattle.std.specs.Prelude.{take, drop, if◌then◌else◌}
use Rattle.std.proofs.lemmas.List.{take-append-drop}
use Rattle.nvme_driver.specs.declared.lane.Lane.{Lane}
use Rattle.nvme_driver.specs.declared.lane.Lane.TheVariants.{Admin, Io}
use Rattle.nvme_driver.specs.declared.faults.PollFault.TheVariants.{NotUp}
use Rattle.nvme_driver.specs.declared.slots.Waiting.{Waiting}
use Rattle.nvme_driver.specs.Drivers.{Driver, ends, is_up}
use Rattle.nvme_driver.specs.Polls.{
  Poll,
  is_new,
  new_in,
  found,
  found_in,
  found_or,
  found_poll,
  without_calls,
  answered,
  answered_poll,
  entry_poll,
}
use Rattle.nvme_driver.specs.Ports.{Memory}
use Rattle.nvme_driver.specs.Snapshots.{
  Settles,
  Snapshot,
  SnapshotsAreOfOneMoment,
  IsFirstSeen,
  PollsAreOfOneMoment,
  NewIn,
  next_of,
  data_of,
}

-- a poll reads nothing of the window but the data of the request that it answers
same-data : (d : Driver) (lane : Lane) (entry v w : List ℕ) (o : Option Waiting)
    → ((x : Waiting) → o ≡ Some x → data_of entry x w ≡ data_of entry x v)
    → answered_poll d w lane entry o ≡ answered_poll d v lane entry o
same-data d lane entry v w None h = refl
same-data d lane entry v w (Some x) h =
    ap (λ (bytes : List ℕ). record (answered_poll d v lane entry (Some x)) { bytes = bytes }) (h x refl)

-- the entry in the window is that of the moment when its phase was read
is-whole : (d : Driver) (lane : Lane) (m : Memory) (window : List ℕ) → Settles d lane m
    → (shot : Snapshot d lane m window) → next_of d lane window ≡ next_of d lane (m shot.first)
is-whole d lane m window settles shot =
    let one : List ℕ = next_of d lane (m shot.first) in
    let two : next_of d lane (m shot.second) ≡ one = settles.entry shot.first shot.second shot.rest_later shot.new in
    shot.entry ∙ (ap (λ (e : List ℕ). take 12 e ++ drop 12 one) two ∙ take-append-drop 12 one)

-- the poll of that lane is the one of that moment
pub at-first : (d : Driver) (lane : Lane) (m : Memory) (window : List ℕ) → Settles d lane m
    → (shot : Snapshot d lane m window)
    → entry_poll d window lane (next_of d lane window)
    ≡ entry_poll d (m shot.first) lane (next_of d lane (m shot.first))
at-first d lane m window settles shot =
    let one : List ℕ = next_of d lane (m shot.first) in
    let whole : next_of d lane window ≡ one = is-whole d lane m window settles shot in
    ap (λ (e : List ℕ). entry_poll d window lane e) whole
    ∙ same-data d lane one (m shot.first) window (answered d lane one) (λ x is. data-stays x is whole)
  where
    data-stays : (x : Waiting) → answered d lane (next_of d lane (m shot.first)) ≡ Some x
        → next_of d lane window ≡ next_of d lane (m shot.first)
        → data_of (next_of d lane (m shot.first)) x window ≡ data_of (next_of d lane (m shot.first)) x (m shot.first)
    data-stays x is whole =
        subst (λ (e : List ℕ). data_of e x window ≡ data_of e x (m shot.third)) whole
        (shot.moved x (ap (λ (e : List ℕ). answered d lane e) whole ∙ is))
        ∙ settles.moved shot.first shot.third (omega (arith, shot.rest_later, shot.data_later)) shot.new x is

pub snapshots_are_of_one_moment : SnapshotsAreOfOneMoment
snapshots_are_of_one_moment d lane m window settles shot =
    record { moment = shot.first; new = shot.new; same = at-first d lane m window settles shot }

-- the entry in the window is new, as it was when its phase was read
new-there : (d : Driver) (lane : Lane) (m : Memory) (window : List ℕ) → Settles d lane m → Snapshot d lane m window
    → NewIn d lane window
new-there d lane m window settles shot =
    subst (λ (e : List ℕ). is_new (ends lane d) e ≡ true) (sym (is-whole d lane m window settles shot)) shot.new

-- a poll is that of the lane that is new first
up-poll : (b : Bool) (p q : Poll) → b ≡ true → (if b then p else q) ≡ p
up-poll true p q h = refl
up-poll false p q h = absurd (cc (h))

lane-poll : (d : Driver) (lane : Lane) (window : List ℕ) → IsFirstSeen d lane window → NewIn d lane window
    → found_poll d window (found d window) ≡ entry_poll d window lane (next_of d lane window)
lane-poll d Admin window first new =
    ap (λ (b : Bool). found_poll d window
    (found_or (found_in Admin (if b then Some (next_of d Admin window) else None))
    (found_in Io (new_in Io d.io window)))) new
lane-poll d Io window first new =
    ap (λ (b : Bool). found_poll d window
    (found_or (found_in Admin (if b then Some (next_of d Admin window) else None))
    (found_in Io (new_in Io d.io window)))) first
    ∙ ap (λ (b : Bool). found_poll d window
    (found_or (found_in Admin None) (found_in Io (if b then Some (next_of d Io window) else None)))) new

pub polls_are_of_one_moment : PollsAreOfOneMoment
polls_are_of_one_moment d lane m window up first settles shot =
    let one = snapshots_are_of_one_moment d lane m window settles shot in
    record {
      moment = one.moment;
      new = one.new;
      same = up-poll (is_up d.state) (found_poll d window (found d window)) (without_calls (Err NotUp) d) up
          ∙ (lane-poll d lane window first (new-there d lane m window settles shot) ∙ one.same);
    }
