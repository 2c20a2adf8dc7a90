-- For the crates above: over a window that looks and loads leave, a poll is a poll of that window.
use Rattle.std.proofs.Common.{
  ◌≡◌,
  ℕ,
  ◌+◌,
  Bool,
  true,
  false,
  if◌then◌else◌,
  List,
  [],
  ◌∷◌,
  ◌++◌,
  length,
  take,
  Option,
  None,
  Some,
  Result,
  Err,
  refl,
  sym,
  ap,
  subst,
  ◌∙◌,
  inl,
  inr,
}
use Rattle.std.specs.Prelude.{slice_range, ◌⊎◌}
use Rattle.nvme_driver.specs.declared.lane.Lane.{Lane}
use Rattle.nvme_driver.specs.declared.lane.Lane.TheVariants.{Admin, Io}
use Rattle.nvme_driver.specs.declared.slots.Waiting.{Waiting}
use Rattle.nvme_driver.specs.declared.found.Found.{Found}
use Rattle.nvme_driver.specs.declared.answer.Answer.{Answer}
use Rattle.nvme_driver.specs.declared.faults.PollFault.{PollFault}
use Rattle.nvme_driver.specs.declared.faults.PollFault.TheVariants.{NotUp}
use Rattle.nvme_wire.specs.Completion.{cid}
use Rattle.nvme_driver.specs.Layout.{data_area}
use Rattle.nvme_driver.specs.Calls.{Call, Calls}
use Rattle.nvme_driver.specs.Drivers.{Driver, is_up}
use Rattle.nvme_driver.specs.Polls.{
  IsOldest,
  IsPolled,
  IsPolledOver,
  Poll,
  answered,
  data_in,
  delivered,
  entry_loads,
  entry_poll,
  found,
  found_in,
  found_loads,
  found_or,
  found_poll,
  handed_len,
  head_of,
  is_new,
  loads,
  look,
  looks,
  new_in,
  phase_of,
  poll_looks,
  polled,
  without_calls,
}
use Rattle.nvme_driver.specs.Ports.{IsStill}
use Rattle.nvme_driver.specs.Snapshots.{next_of}

-- What the calls of a poll of a driver that is up say, without aborted requests: nothing is new, or a completion is
-- found, its data are loaded, and it is consumed.
pub record IsIdle {S : Type 0} (step : S → Call → S → Type 0) (d : Driver) (window : List ℕ) (old new : S) : Type 0
  where
    pub mid : S
    pub first : step old (look Admin d.admin None) mid
    pub last : step mid (look Io d.io None) new
    pub none : found d window ≡ None

pub record HasFound {S : Type 0} (step : S → Call → S → Type 0) (d : Driver) (window : List ℕ) (old new : S) : Type 0
  where
    pub lane : Lane
    pub looked : S
    pub loaded : S
    pub sees : Calls step old (looks d (Some (record { lane = lane; entry = next_of d lane window }))) looked
    pub moves : Calls step looked (entry_loads d window lane (next_of d lane window)) loaded
    pub writes : Calls step loaded (entry_poll d window lane (next_of d lane window)).calls new
    pub is : found d window ≡ Some (record { lane = lane; entry = next_of d lane window })

split : {S : Type 0} (step : S → Call → S → Type 0) (first last : List Call) (old new : S)
    → Calls step old (first ++ last) new → (mid : S) × Calls step old first mid × Calls step mid last new
split step [] last old new h = (old, refl, h)
split step (call ∷ first) last old new (next, one, rest) = let r = split step first last next new rest in
    (r.0, (next, one, r.1), r.2)

abbrev AllCalls : {S : Type 0} → (S → Call → S → Type 0) → Driver → List ℕ → S → Option Found → S → Type 0
AllCalls step d w old o new =
    Calls step old ((looks d o ++ found_loads d w o) ++ (found_poll d w o).calls) new

found-calls : {S : Type 0} (step : S → Call → S → Type 0) (d : Driver) (w : List ℕ) (old new : S) (lane : Lane)
    → found d w ≡ Some (record { lane = lane; entry = next_of d lane w }) → AllCalls step d w old (found d w) new
    → HasFound step d w old new
found-calls step d w old new lane is calls =
    let f : Found = record { lane = lane; entry = next_of d lane w } in
    let h : AllCalls step d w old (Some f) new = subst (λ o. AllCalls step d w old o new) is calls in
    let a = split step (looks d (Some f) ++ found_loads d w (Some f)) (found_poll d w (Some f)).calls old new h in
    let b = split step (looks d (Some f)) (found_loads d w (Some f)) old a.0 a.1 in
    record { lane = lane; looked = b.0; loaded = a.0; sees = b.1; moves = b.2; writes = a.2; is = is }

idle-calls : {S : Type 0} (step : S → Call → S → Type 0) (d : Driver) (w : List ℕ) (old new : S)
    → found d w ≡ None → AllCalls step d w old (found d w) new → IsIdle step d w old new
idle-calls step d w old new is calls = let h : AllCalls step d w old None new =
    subst (λ o. AllCalls step d w old o new) is calls in idle h
  where
    idle : AllCalls step d w old None new → IsIdle step d w old new
    idle (mid, one, (last, two, same)) =
        record { mid = mid; first = one; last = subst (λ x. step mid (look Io d.io None) x) (sym same) two; none = is }

pub poll-calls : {S : Type 0} (step : S → Call → S → Type 0) (d : Driver) (w : List ℕ) (old new : S) (a b : Bool)
    → is_new d.admin (next_of d Admin w) ≡ a → is_new d.io (next_of d Io w) ≡ b → AllCalls step d w old (found d w) new
    → IsIdle step d w old new ⊎ HasFound step d w old new
poll-calls step d w old new true b x y calls = inr (found-calls step d w old new Admin
    (ap (λ (c : Bool). found_or (found_in Admin (if c then Some (next_of d Admin w) else None))
    (found_in Io (new_in Io d.io w))) x) calls)
poll-calls step d w old new false true x y calls = inr (found-calls step d w old new Io
    (λ j. found_or (found_in Admin (if x j then Some (next_of d Admin w) else None))
    (found_in Io (if y j then Some (next_of d Io w) else None))) calls)
poll-calls step d w old new false false x y calls = inl (idle-calls step d w old new
    (λ j. found_or (found_in Admin (if x j then Some (next_of d Admin w) else None))
    (found_in Io (if y j then Some (next_of d Io w) else None))) calls)

-- the poll of a driver that is up, and its calls
pub up-polled : (d : Driver) (w : List ℕ) → is_up d.state ≡ true → polled d None w ≡ found_poll d w (found d w)
up-polled d w up =
    ap (λ (b : Bool). if b then found_poll d w (found d w) else without_calls (Err NotUp) d) up

pub up-looks : (d : Driver) (w : List ℕ) → is_up d.state ≡ true
    → poll_looks d None w ≡ looks d (found d w) ++ found_loads d w (found d w)
up-looks d w up =
    ap (λ (b : Bool). if b then looks d (found d w) ++ found_loads d w (found d w) else []) up

-- Over a window that looks and loads leave.

-- the look finds what is there
pub record Finds {S : Type 0} (d : Driver) (lane : Lane) (w : List ℕ) (old looked : S) (there : List ℕ) : Type 0
  where
    pub is : found d there ≡ Some (record { lane = lane; entry = next_of d lane w })
    pub same : looked ≡ old

finds : {S : Type 0} (step : S → Call → S → Type 0) (bytes : S → List ℕ) → IsStill step bytes
    → (d : Driver) (lane : Lane) (w : List ℕ) (old looked : S)
    → Calls step old (looks d (Some (record { lane = lane; entry = next_of d lane w }))) looked
    → Finds d lane w old looked (bytes old)
finds step bytes m d Admin w old looked (mid, one, same) =
    let s = m.sees Admin (head_of d.admin) (phase_of d.admin) (Some (next_of d Admin w)) old mid one in
    record {
      is = ap (λ o. found_or (found_in Admin o) (found_in Io (new_in Io d.io (bytes old)))) (sym s.0);
      same = same ∙ s.1;
    }
finds step bytes m d Io w old looked (mid, one, (last, two, same)) =
    let s = m.sees Admin (head_of d.admin) (phase_of d.admin) None old mid one in
    let t = m.sees Io (head_of d.io) (phase_of d.io) (Some (next_of d Io w)) mid last two in
    let u : new_in Io d.io (bytes old) ≡ Some (next_of d Io w) =
    ap (λ x. new_in Io d.io (bytes x)) (sym s.1) ∙ sym t.0 in
    record {
      is = λ j. found_or (found_in Admin (sym s.0 j)) (found_in Io (u j));
      same = same ∙ (t.1 ∙ s.1);
    }

-- the load returns the data that are there
pub record HasLoaded {S : Type 0} (w there entry : List ℕ) (o : Option Waiting) (old new : S) : Type 0 where
  pub moved : data_in w entry o ≡ data_in there entry o
  pub same : new ≡ old

has-loaded : {S : Type 0} (step : S → Call → S → Type 0) (bytes : S → List ℕ) → IsStill step bytes → (d : Driver)
    (lane : Lane) (w entry : List ℕ) (o : Option Waiting) (old new : S)
    → length (delivered d lane entry (data_in w entry o) o).bytes
    ≡ handed_len (delivered d lane entry (data_in w entry o) o).answer
    → Calls step old (loads entry (data_in w entry o) o) new → HasLoaded w (bytes old) entry o old new
has-loaded step bytes m d lane w entry None old new size calls = record { moved = refl; same = calls }
has-loaded step bytes m d lane w entry (Some x) old new size (mid, one, same) =
    let s = m.loads (data_area (cid entry)) (data_in w entry (Some x)) old mid one in
    record {
      moved = s.0 ∙ ap (λ n. slice_range (bytes old) (data_area (cid entry)) (data_area (cid entry) + n)) size;
      same = same ∙ s.1;
    }

-- the outcome is that for the window, and the other calls remain
abbrev IsOver : {S : Type 0} → (S → Call → S → Type 0) → Driver → List ℕ → List ℕ → S → S → Type 0
IsOver step d w there old new =
    (polled d None w ≡ polled d None there) × Calls step old (polled d None there).calls new

over-found : {S : Type 0} (step : S → Call → S → Type 0) (bytes : S → List ℕ) → IsStill step bytes → (d : Driver)
    (w : List ℕ) (old new : S) (result : Result (Option Answer) PollFault) → is_up d.state ≡ true
    → result ≡ (polled d None w).answer → length (polled d None w).bytes ≡ handed_len result
    → HasFound step d w old new → IsOver step d w (bytes old) old new
over-found step bytes m d w old new result up gives size h =
    let entry : List ℕ = next_of d h.lane w in
    let o : Option Waiting = answered d h.lane entry in
    let s = finds step bytes m d h.lane w old h.looked h.sees in
    let mine : polled d None w ≡ entry_poll d w h.lane entry = up-polled d w up ∙ ap (found_poll d w) h.is in
    let theirs : polled d None (bytes old) ≡ entry_poll d (bytes old) h.lane entry =
    up-polled d (bytes old) up ∙ ap (found_poll d (bytes old)) s.is in
    let sized : length (entry_poll d w h.lane entry).bytes ≡ handed_len (entry_poll d w h.lane entry).answer =
    ap (λ (p : Poll). length p.bytes) (sym mine)
    ∙ (size ∙ (ap handed_len gives ∙ ap (λ (p : Poll). handed_len p.answer) mine)) in
    let l = has-loaded step bytes m d h.lane w entry o h.looked h.loaded sized h.moves in
    let moved : data_in w entry o ≡ data_in (bytes old) entry o =
    l.moved ∙ ap (λ x. data_in (bytes x) entry o) s.same in
    let same : polled d None w ≡ polled d None (bytes old) =
    mine ∙ (ap (λ xs. delivered d h.lane entry xs o) moved ∙ sym theirs) in (
      same,
      subst (λ (p : Poll). Calls step old p.calls new) (sym mine ∙ same)
          (subst (λ x. Calls step x (entry_poll d w h.lane entry).calls new) (l.same ∙ s.same) h.writes),
    )

over-idle : {S : Type 0} (step : S → Call → S → Type 0) (bytes : S → List ℕ) → IsStill step bytes → (d : Driver)
    (w : List ℕ) (old new : S) → is_up d.state ≡ true → IsIdle step d w old new → IsOver step d w (bytes old) old new
over-idle step bytes m d w old new up h =
    let s = m.sees Admin (head_of d.admin) (phase_of d.admin) None old h.mid h.first in
    let t = m.sees Io (head_of d.io) (phase_of d.io) None h.mid new h.last in
    let u : new_in Io d.io (bytes old) ≡ None = ap (λ x. new_in Io d.io (bytes x)) (sym s.1) ∙ sym t.0 in
    let none : found d (bytes old) ≡ None = λ j. found_or (found_in Admin (sym s.0 j)) (found_in Io (u j)) in
    let theirs : polled d None (bytes old) ≡ found_poll d w None =
    up-polled d (bytes old) up ∙ ap (found_poll d (bytes old)) none in (
      up-polled d w up ∙ (ap (found_poll d w) h.none ∙ sym theirs),
      subst (λ (p : Poll). Calls step old p.calls new) (sym theirs) (t.1 ∙ s.1),
    )

over-window : {S : Type 0} (step : S → Call → S → Type 0) (bytes : S → List ℕ) → IsStill step bytes → (d : Driver)
    (w : List ℕ) (old new : S) (result : Result (Option Answer) PollFault) (up : Bool) → is_up d.state ≡ up
    → result ≡ (polled d None w).answer → length (polled d None w).bytes ≡ handed_len result
    → Calls step old (poll_looks d None w ++ (polled d None w).calls) new → IsOver step d w (bytes old) old new
over-window step bytes m d w old new result false down gives size calls =
    let at : (v : List ℕ) → polled d None v ≡ without_calls (Err NotUp) d =
    λ v. ap (λ (b : Bool). if b then found_poll d v (found d v) else without_calls (Err NotUp) d) down in
    let none : poll_looks d None w ≡ [] =
    ap (λ (b : Bool). if b then looks d (found d w) ++ found_loads d w (found d w) else []) down in
    let c = subst (λ xs. Calls step old (xs ++ (polled d None w).calls) new) none calls in
    (at w ∙ sym (at (bytes old)), subst (λ (p : Poll). Calls step old p.calls new) (at w ∙ sym (at (bytes old))) c)
over-window step bytes m d w old new result true up gives size calls =
    let c = subst (λ (p : Poll). Calls step old ((looks d (found d w) ++ found_loads d w (found d w)) ++ p.calls) new)
    (up-polled d w up) (subst (λ xs. Calls step old (xs ++ (polled d None w).calls) new) (up-looks d w up) calls) in
    elim (poll-calls step d w old new (is_new d.admin (next_of d Admin w)) (is_new d.io (next_of d Io w)) refl refl c) [
      | inl h ↦ over-idle step bytes m d w old new up h
      | inr h ↦ over-found step bytes m d w old new result up gives size h
    ]

pub polls-still : {S : Type 0} (step : S → Call → S → Type 0) (bytes : S → List ℕ) → IsStill step bytes
    → (d d' : Driver) (old new : S) (result : Result (Option Answer) PollFault) (buffer : List ℕ)
    → IsPolled step d old result d' new buffer → IsPolledOver step d (bytes old) old result d' new buffer
polls-still {S} step bytes m d d' old new result buffer p =
    by p.oldest p.is_oldest p.gives p.driver p.calls p.front p.size
  where
    by : (o : Option ℕ) → IsOldest d.slots o → result ≡ (polled d o p.window).answer
        → d' ≡ (polled d o p.window).driver
        → Calls step old (poll_looks d o p.window ++ (polled d o p.window).calls) new
        → take (length (polled d o p.window).bytes) buffer ≡ (polled d o p.window).bytes
        → length (polled d o p.window).bytes ≡ handed_len result
        → IsPolledOver step d (bytes old) old result d' new buffer
    by (Some slot) is gives driver calls front size = (Some slot, is, gives, driver, calls, front)
    by None is gives driver calls front size =
        let x = over-window step bytes m d p.window old new result (is_up d.state) refl gives size calls in (
          None,
          is,
          gives ∙ ap (λ (p : Poll). p.answer) x.0,
          driver ∙ ap (λ (p : Poll). p.driver) x.0,
          x.1,
          subst (λ (p : Poll). take (length p.bytes) buffer ≡ p.bytes) x.0 front,
        )
