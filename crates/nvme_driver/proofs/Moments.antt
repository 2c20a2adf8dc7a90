-- Proof of the law `moments`: the looks and the load of a poll are a snapshot of the device's memory.
use Rattle.std.proofs.Common.{
  ◌≡◌,
  ◌≤◌,
  ℕ,
  ◌+◌,
  Bool,
  true,
  List,
  [],
  ◌∷◌,
  ◌++◌,
  length,
  take,
  Option,
  None,
  Some,
  Result,
  refl,
  sym,
  ap,
  subst,
  ◌∙◌,
  arith,
  inl,
  inr,
}
use Rattle.std.specs.Prelude.{slice_range, ◌⊎◌}
use Rattle.std.proofs.lemmas.Option.{none-some, same_Some}
use Rattle.nvme_wire.specs.Completion.{cid}
use Rattle.nvme_driver.specs.declared.lane.Lane.{Lane}
use Rattle.nvme_driver.specs.declared.lane.Lane.TheVariants.{Admin, Io}
use Rattle.nvme_driver.specs.declared.slots.Waiting.{Waiting}
use Rattle.nvme_driver.specs.declared.answer.Answer.{Answer}
use Rattle.nvme_driver.specs.declared.faults.PollFault.{PollFault}
use Rattle.nvme_driver.specs.Layout.{data_area}
use Rattle.nvme_driver.specs.Calls.{Call, Calls}
use Rattle.nvme_driver.specs.Drivers.{Driver, ends, is_up}
use Rattle.nvme_driver.specs.Polls.{
  IsOldest,
  Poll,
  answered,
  data_in,
  delivered,
  entry_poll,
  found,
  found_loads,
  found_poll,
  handed_len,
  head_of,
  is_new,
  loads,
  look,
  looks,
  phase_of,
  poll_looks,
  polled,
}
use Rattle.nvme_driver.specs.Ports.{IsOld, IsOverMemory, IsRead, Memory}
use Rattle.nvme_driver.specs.Snapshots.{Settles, Snapshot, data_of, next_of}
use Rattle.nvme_driver.specs.Moments.{FindsNothing, IsOfOneLane, PollsAreOfMoments}
use Rattle.nvme_driver.proofs.Still.{HasFound, IsIdle, poll-calls, up-looks, up-polled}
use Rattle.nvme_driver.proofs.Snapshots.{at-first}

-- no request is the oldest aborted one if none is aborted
none-oldest : (d : Driver) (o : Option ℕ) → IsOldest d.slots None → IsOldest d.slots o → o ≡ None
none-oldest d None none is = refl
none-oldest d (Some slot) none is = absurd (none-some _ (sym (none slot) ∙ is.1))

wider : (m : Memory) (a b c e : ℕ) (lane : Lane) (head : ℕ) (expected : Bool) → c ≤ a → b ≤ e
    → IsOld m a b lane head expected → IsOld m c e lane head expected
wider m a b c e lane head expected low high h = record {
  moment = h.moment;
  after = let after = h.after in omega (arith, after, low);
  before = let before = h.before in omega (arith, before, high);
  old = h.old;
}

-- the last look of a poll that finds something
record HasRead (m : Memory) (from to : ℕ) (d : Driver) (lane : Lane) (w : List ℕ) : Type 0 where
  read : IsRead m from to lane (head_of (ends lane d)) (phase_of (ends lane d)) (next_of d lane w)

has-read : {S : Type 0} (step : S → Call → S → Type 0) (m : Memory) (clock : S → ℕ) → IsOverMemory step m clock
    → (d : Driver) (lane : Lane) (w : List ℕ) (old looked : S)
    → Calls step old (looks d (Some (record { lane = lane; entry = next_of d lane w }))) looked
    → HasRead m (clock old) (clock looked) d lane w
has-read step m clock over d Admin w old looked (mid, one, same) =
    let r = over.sees Admin (head_of d.admin) (phase_of d.admin) (Some (next_of d Admin w)) old mid one in
    record {
      read = record {
        first = r.first;
        second = r.second;
        after = r.after;
        rest_later = r.rest_later;
        before = let e = ap clock same in let before = r.before in omega (arith, e, before);
        new = r.new;
        bytes = r.bytes;
      };
    }
has-read step m clock over d Io w old looked (mid, one, (last, two, same)) =
    let r = over.sees Io (head_of d.io) (phase_of d.io) (Some (next_of d Io w)) mid last two in
    let earlier = over.runs (look Admin d.admin None) old mid one in
    record {
      read = record {
        first = r.first;
        second = r.second;
        after = let after = r.after in omega (arith, after, earlier);
        rest_later = r.rest_later;
        before = let e = ap clock same in let before = r.before in omega (arith, e, before);
        new = r.new;
        bytes = r.bytes;
      };
    }

-- when the data were loaded
record HasMoved (m : Memory) (from : ℕ) (d : Driver) (lane : Lane) (w : List ℕ) : Type 0 where
  third : ℕ
  later : from ≤ third
  moved : (x : Waiting) → answered d lane (next_of d lane w) ≡ Some x
      → data_of (next_of d lane w) x w ≡ data_of (next_of d lane w) x (m third)

has-moved : {S : Type 0} (step : S → Call → S → Type 0) (m : Memory) (clock : S → ℕ) → IsOverMemory step m clock
    → (d : Driver) (lane : Lane) (w : List ℕ) (looked loaded : S) (o : Option Waiting)
    → answered d lane (next_of d lane w) ≡ o
    → length (delivered d lane (next_of d lane w) (data_in w (next_of d lane w) o) o).bytes
    ≡ handed_len (delivered d lane (next_of d lane w) (data_in w (next_of d lane w) o) o).answer
    → Calls step looked (loads (next_of d lane w) (data_in w (next_of d lane w) o) o) loaded
    → HasMoved m (clock looked) d lane w
has-moved step m clock over d lane w looked loaded None none size calls = record {
  third = clock looked;
  later = omega arith;
  moved = λ x is. absurd (none-some _ (sym none ∙ is));
}
has-moved step m clock over d lane w looked loaded (Some y) is size (mid, one, same) =
    let entry : List ℕ = next_of d lane w in
    let r = over.loads (data_area (cid entry)) (data_in w entry (Some y)) looked mid one in
    let there : data_of entry y w ≡ data_of entry y (m r.moment) =
    r.bytes ∙ ap (λ n. slice_range (m r.moment) (data_area (cid entry)) (data_area (cid entry) + n)) size in
    record {
      third = r.moment;
      later = r.after;
      moved = λ x answers. subst (λ v. data_of entry v w ≡ data_of entry v (m r.moment))
          (same_Some _ _ (sym is ∙ answers)) there;
    }

nothing-found : {S : Type 0} (step : S → Call → S → Type 0) (m : Memory) (clock : S → ℕ) → IsOverMemory step m clock
    → (d d' : Driver) (w : List ℕ) (old new : S) (result : Result (Option Answer) PollFault) → is_up d.state ≡ true
    → result ≡ (polled d None w).answer → d' ≡ (polled d None w).driver → IsIdle step d w old new
    → FindsNothing d m (clock old) (clock new) result d'
nothing-found step m clock over d d' w old new result up gives after h =
    let one = over.sees Admin (head_of d.admin) (phase_of d.admin) None old h.mid h.first in
    let two = over.sees Io (head_of d.io) (phase_of d.io) None h.mid new h.last in
    let a = over.runs (look Admin d.admin None) old h.mid h.first in
    let b = over.runs (look Io d.io None) h.mid new h.last in
    let none : polled d None w ≡ found_poll d w None = up-polled d w up ∙ ap (found_poll d w) h.none in
    record {
      admin = wider m (clock old) (clock h.mid) (clock old) (clock new) Admin (head_of d.admin) (phase_of d.admin)
          (omega arith) b one;
      io = wider m (clock h.mid) (clock new) (clock old) (clock new) Io (head_of d.io) (phase_of d.io) a (omega arith)
          two;
      gives = gives ∙ ap (λ (p : Poll). p.answer) none;
      driver = after ∙ ap (λ (p : Poll). p.driver) none;
    }

later-than : {S : Type 0} (step : S → Call → S → Type 0) (m : Memory) (clock : S → ℕ) → IsOverMemory step m clock
    → (calls : List Call) (old new : S) → Calls step old calls new → clock old ≤ clock new
later-than step m clock over [] old new h = let e = ap clock h in omega (arith, e)
later-than step m clock over (call ∷ calls) old new (mid, one, rest) =
    let a = over.runs call old mid one in
    let b = later-than step m clock over calls mid new rest in
    omega (arith, a, b)

one-found : {S : Type 0} (step : S → Call → S → Type 0) (m : Memory) (clock : S → ℕ) → IsOverMemory step m clock
    → (d d' : Driver) (w : List ℕ) (old new : S) (result : Result (Option Answer) PollFault) (buffer : List ℕ)
    → ((lane : Lane) → Settles d lane m) → is_up d.state ≡ true → result ≡ (polled d None w).answer
    → d' ≡ (polled d None w).driver → take (length (polled d None w).bytes) buffer ≡ (polled d None w).bytes
    → length (polled d None w).bytes ≡ handed_len result → HasFound step d w old new
    → IsOfOneLane d m (clock old) (clock new) result d' buffer
one-found step m clock over d d' w old new result buffer settles up gives after front size h =
    let lane : Lane = h.lane in
    let entry : List ℕ = next_of d lane w in
    let mine : polled d None w ≡ entry_poll d w lane entry = up-polled d w up ∙ ap (found_poll d w) h.is in
    let sized : length (entry_poll d w lane entry).bytes ≡ handed_len (entry_poll d w lane entry).answer =
    ap (λ (p : Poll). length p.bytes) (sym mine)
    ∙ (size ∙ (ap handed_len gives ∙ ap (λ (p : Poll). handed_len p.answer) mine)) in
    let r = (has-read step m clock over d lane w old h.looked h.sees).read in
    let v = has-moved step m clock over d lane w h.looked h.loaded (answered d lane entry) refl sized h.moves in
    let shot : Snapshot d lane m w = record {
      first = r.first;
      second = r.second;
      third = v.third;
      rest_later = r.rest_later;
      data_later = let before = r.before in let later = v.later in omega (arith, before, later);
      new = r.new;
      entry = r.bytes;
      moved = v.moved;
    } in
    let same : polled d None w ≡ entry_poll d (m r.first) lane (next_of d lane (m r.first)) =
    mine ∙ at-first d lane m w (settles lane) shot in
    let a = later-than step m clock over _ h.looked h.loaded h.moves in
    let b = later-than step m clock over _ h.loaded new h.writes in
    record {
      lane = lane;
      moment = r.first;
      after = r.after;
      before = let rest = r.rest_later in let before = r.before in omega (arith, rest, before, a, b);
      new = r.new;
      gives = gives ∙ ap (λ (p : Poll). p.answer) same;
      driver = after ∙ ap (λ (p : Poll). p.driver) same;
      front = subst (λ (p : Poll). take (length p.bytes) buffer ≡ p.bytes) same front;
    }

pub polls_are_of_moments : {S : Type 0} (step : S → Call → S → Type 0) → PollsAreOfMoments step
polls_are_of_moments {S} step m clock d d' old new result buffer over settles oldest up p =
    by p.oldest (none-oldest d p.oldest oldest p.is_oldest) p.gives p.driver p.calls p.front p.size
  where
    by : (o : Option ℕ) → o ≡ None → result ≡ (polled d o p.window).answer → d' ≡ (polled d o p.window).driver
        → Calls step old (poll_looks d o p.window ++ (polled d o p.window).calls) new
        → take (length (polled d o p.window).bytes) buffer ≡ (polled d o p.window).bytes
        → length (polled d o p.window).bytes ≡ handed_len result
        → FindsNothing d m (clock old) (clock new) result d' ⊎ IsOfOneLane d m (clock old) (clock new) result d' buffer
    by (Some slot) not gives driver calls front size = absurd (none-some _ (sym not))
    by None is gives driver calls front size =
        let w : List ℕ = p.window in
        let c = subst
        (λ (p : Poll). Calls step old ((looks d (found d w) ++ found_loads d w (found d w)) ++ p.calls) new)
        (up-polled d w up) (subst (λ xs. Calls step old (xs ++ (polled d None w).calls) new) (up-looks d w up) calls) in
        elim
        (poll-calls step d w old new (is_new d.admin (next_of d Admin w)) (is_new d.io (next_of d Io w)) refl refl c) [
          | inl h ↦ inl (nothing-found step m clock over d d' w old new result up gives driver h)
          | inr h ↦ inr (one-found step m clock over d d' w old new result buffer settles up gives driver front size h)
        ]
