-- For `driver_moments.rt`: polls over memory that a device writes.
use Rattle.std.proofs.Common.{
  ◌≡◌,
  ◌≤◌,
  ◌+◌,
  ◌-◌,
  ◌++◌,
  ℕ,
  zero,
  suc,
  true,
  false,
  List,
  [],
  ◌∷◌,
  Option,
  None,
  Some,
  Result,
  Ok,
  length,
  replicate,
  take,
  drop,
  slice_range,
  refl,
  sym,
  ap,
  subst,
  ◌∙◌,
  arith,
  inl,
  inr,
}
use Rattle.std.specs.Prelude.{◌⊎◌}
use Rattle.std.proofs.lemmas.Bool.{false≢true}
use Rattle.std.proofs.lemmas.List.{length-replicate, drop-replicate, take-replicate}
use Rattle.nvme_wire.specs.Completion.{phase, cid, sq_id, sq_head, status, dw0}
use Rattle.nvme_driver.specs.declared.lane.Lane.{Lane}
use Rattle.nvme_driver.specs.declared.lane.Lane.TheVariants.{Admin, Io}
use Rattle.nvme_driver.specs.declared.answer.Answer.{Answer}
use Rattle.nvme_driver.specs.declared.answer.Answer.TheVariants as answer
use Rattle.nvme_driver.specs.declared.faults.PollFault.{PollFault}
use Rattle.nvme_driver.specs.declared.slots.Waiting.{Waiting}
use Rattle.nvme_driver.specs.Calls.{Call, Calls, Stores, Writes, Reads, Turns, Sees, Loads}
use Rattle.nvme_driver.specs.Moments.{FindsNothing, IsOfOneLane, lane_poll}
use Rattle.nvme_driver.specs.Drivers.{ends}
use Rattle.nvme_driver.specs.Layout.{data_area, head_doorbell}
use Rattle.nvme_driver.specs.Polls.{
  IsOldest,
  IsPolled,
  Poll,
  answered,
  consumed,
  consumed_ends,
  entry_at,
  entry_poll,
  found,
  found_loads,
  found_poll,
  has_phase,
  head_of,
  looks,
}
use Rattle.nvme_driver.specs.Ports.{IsLoaded, IsOld, IsOverMemory, IsRead, Memory}
use Rattle.nvme_driver.specs.Snapshots.{NewIn, Settles, data_of, next_of}
use Rattle.nvme_driver.proofs.PageLists.{part-there, part-apart}
use Rattle.definition_examples.specs.DriverMoments.{
  Watches,
  answered_once,
  answered_twice,
  changed_completion,
  changing,
  flush,
  flush_completion,
  flush_poll,
  flushed,
  flushing_driver,
  settling,
  success,
  torn_completion,
  torn_driver,
  with_answer,
  zeros,
}

runs_on : (m : Memory) (call : Call) (from to : ℕ) → Watches m from call to → from ≤ to
runs_on m (Stores address bytes) from to w = w
runs_on m (Writes offset v) from to w = w
runs_on m (Reads offset v) from to w = w
runs_on m Turns from to w = w
runs_on m (Sees lane head expected seen) from to w = w.0
runs_on m (Loads at part) from to w = w.0

pub port_over : (m : Memory) → IsOverMemory (Watches m) m (λ moment. moment)
port_over m = record {
  runs = runs_on m;
  sees = λ lane head expected seen from to w. w.1;
  loads = λ at part from to w. w.1;
}

-- What is in the completion queues.

size-of-zeros : length zeros ≡ 0x4000
unfolding zeros
size-of-zeros = length-replicate {A = ℕ} 0x4000 0

admin-zeros : slice_range zeros 0x1000 0x1010 ≡ replicate 16 0
unfolding zeros
admin-zeros = ap (take 16) (drop-replicate {X = ℕ} 0x1000 0x4000 0) ∙ take-replicate {X = ℕ} 16 0x3000 0 (omega arith)

io-entry : (entry : List ℕ) → length entry ≡ 16 → entry_at Io 0 (with_answer entry) ≡ entry
io-entry entry size = part-there zeros entry 0x3000 16 size (omega (arith, size-of-zeros))

admin-entry : (entry : List ℕ) → length entry ≡ 16 → entry_at Admin 0 (with_answer entry) ≡ replicate 16 0
admin-entry entry size =
    part-apart zeros entry 0x3000 0x1000 16 (omega (arith, size, size-of-zeros)) (inr (omega arith)) ∙ admin-zeros

no-admin : (entry : List ℕ) → length entry ≡ 16 → has_phase true (entry_at Admin 0 (with_answer entry)) ≡ false
unfolding phase
no-admin entry size = ap (has_phase true) (admin-entry entry size)

no-answer : has_phase true (entry_at Io 0 (with_answer (replicate 16 0))) ≡ false
unfolding phase
no-answer = ap (has_phase true) (io-entry (replicate 16 0) refl)

once-size : (t : ℕ) → length (answered_once t) ≡ 16
once-size zero = refl
once-size (suc t) = refl

twice-size : (t : ℕ) → length (answered_twice t) ≡ 16
twice-size zero = refl
twice-size (suc zero) = refl
twice-size (suc (suc t)) = refl

-- The first device settles.

pub none_aborted : IsOldest flushing_driver.slots None
none_aborted zero = refl
none_aborted (suc k) = refl

entry_stays : (lane : Lane) (s t : ℕ) → s ≤ t → NewIn flushing_driver lane (settling s)
    → next_of flushing_driver lane (settling t) ≡ next_of flushing_driver lane (settling s)
entry_stays Admin s t le new =
    admin-entry (answered_once t) (once-size t) ∙ sym (admin-entry (answered_once s) (once-size s))
entry_stays Io zero t le new = absurd (false≢true (sym no-answer ∙ new))
entry_stays Io (suc s) zero le new = absurd (omega (arith, le))
entry_stays Io (suc s) (suc t) le new = refl

data_stay : (lane : Lane) (s t : ℕ) → s ≤ t → NewIn flushing_driver lane (settling s) → (w : Waiting)
    → answered flushing_driver lane (next_of flushing_driver lane (settling s)) ≡ Some w
    → data_of (next_of flushing_driver lane (settling s)) w (settling t)
    ≡ data_of (next_of flushing_driver lane (settling s)) w (settling s)
data_stay Admin s t le new w is =
    absurd (false≢true (sym (no-admin (answered_once s) (once-size s)) ∙ new))
data_stay Io zero t le new w is = absurd (false≢true (sym no-answer ∙ new))
data_stay Io (suc s) zero le new w is = absurd (omega (arith, le))
data_stay Io (suc s) (suc t) le new w is = refl

pub settles : (lane : Lane) → Settles flushing_driver lane settling
settles lane = record { entry = entry_stays lane; moved = data_stay lane }

-- A poll finds the answer.

found-is : (entry : List ℕ) → length entry ≡ 16 → has_phase true entry ≡ true
    → found flushing_driver (with_answer entry) ≡ Some (record { lane = Io; entry = entry })
unfolding phase
found-is entry size new = rw (admin-entry entry size, io-entry entry size, new) refl

no-bytes : (w : List ℕ) (at : ℕ) → slice_range w at (at + 0) ≡ []
no-bytes w at =
    let none : at + 0 - at ≡ 0 = omega arith in
    ap (λ n. take n (drop at w)) none

-- what a poll delivers that has seen this entry
delivered-is : (entry : List ℕ) (result : ℕ) → answered flushing_driver Io entry ≡ Some flush → status entry ≡ success
    → dw0 entry ≡ result → entry_poll flushing_driver (with_answer entry) Io entry ≡ flush_poll entry result
delivered-is entry result answers good says =
    rw (answers, good, says) (ap (λ part. record {
      answer = flushed result;
      driver = consumed flushing_driver Io entry;
      calls = Writes (head_doorbell Io) (head_of (consumed_ends (ends Io flushing_driver) (sq_head entry))) ∷ [];
      bytes = part;
    }) (no-bytes (with_answer entry) (data_area (cid entry))))

delivers : (entry : List ℕ) (result : ℕ) → length entry ≡ 16 → has_phase true entry ≡ true
    → answered flushing_driver Io entry ≡ Some flush → status entry ≡ success → dw0 entry ≡ result
    → found_poll flushing_driver (with_answer entry) (found flushing_driver (with_answer entry))
    ≡ flush_poll entry result
delivers entry result size new answers good says =
    ap (found_poll flushing_driver (with_answer entry)) (found-is entry size new)
    ∙ delivered-is entry result answers good says

loads-nothing : (entry : List ℕ) → length entry ≡ 16 → has_phase true entry ≡ true
    → answered flushing_driver Io entry ≡ Some flush → status entry ≡ success
    → found_loads flushing_driver (with_answer entry) (found flushing_driver (with_answer entry))
    ≡ Loads (data_area (cid entry)) [] ∷ []
loads-nothing entry size new answers good =
    ap (found_loads flushing_driver (with_answer entry)) (found-is entry size new)
    ∙ rw (answers, good) (ap (λ part. Loads (data_area (cid entry)) part ∷ [])
    (no-bytes (with_answer entry) (data_area (cid entry))))

looks-at : (entry : List ℕ) → length entry ≡ 16 → has_phase true entry ≡ true
    → looks flushing_driver (found flushing_driver (with_answer entry))
    ≡ Sees Admin 0 true None ∷ Sees Io 0 true (Some entry) ∷ []
looks-at entry size new = ap (looks flushing_driver) (found-is entry size new)

-- A poll over a device that has no answer at first: it delivers what its look reads from there on.
polls : (m : Memory) (entry : List ℕ) (result end : ℕ) → length entry ≡ 16 → has_phase true entry ≡ true
    → answered flushing_driver Io entry ≡ Some flush → status entry ≡ success → dw0 entry ≡ result
    → m 0 ≡ with_answer (replicate 16 0) → IsRead m 0 end Io 0 true entry
    → IsPolled (Watches m) flushing_driver 0 (flushed result) (consumed flushing_driver Io entry) end []
polls m entry result end size new answers good says quiet read =
    let w : List ℕ = with_answer entry in
    let is = delivers entry result size new answers good says in
    let up : 0 ≤ end = omega arith in
    let look : IsOld m 0 0 Admin 0 true = record {
      moment = 0;
      after = omega arith;
      before = omega arith;
      old = ap (λ b. has_phase true (entry_at Admin 0 b)) quiet ∙ no-admin (replicate 16 0) refl;
    } in
    let load : IsLoaded m end end (data_area (cid entry)) [] = record {
      moment = end;
      after = omega arith;
      before = omega arith;
      bytes = sym (no-bytes (m end) (data_area (cid entry)));
    } in
    let calls : Calls (Watches m) 0 (((Sees Admin 0 true None ∷ Sees Io 0 true (Some entry) ∷ [])
    ++ (Loads (data_area (cid entry)) [] ∷ [])) ++ (flush_poll entry result).calls) end =
    (0, (omega arith, look), (end, (up, read), (end, (omega arith, load), (end, omega arith, refl)))) in
    record {
      window = w;
      oldest = None;
      is_oldest = none_aborted;
      gives = sym (ap (λ (p : Poll). p.answer) is);
      driver = sym (ap (λ (p : Poll). p.driver) is);
      calls = rw (looks-at entry size new, loads-nothing entry size new answers good, is) calls;
      front = subst (λ (p : Poll). take (length p.bytes) [] ≡ p.bytes) (sym is) refl;
      size = ap (λ (p : Poll). length p.bytes) is;
    }

-- The first device is read at one moment.
reads-once : IsRead settling 0 1 Io 0 true flush_completion
unfolding phase
reads-once = record {
  first = 1;
  second = 1;
  after = omega arith;
  rest_later = omega arith;
  before = omega arith;
  new = ap (has_phase true) (io-entry flush_completion refl);
  bytes = sym (ap (λ e. take 12 e ++ drop 12 e) (io-entry flush_completion refl));
}

pub polled : IsPolled (Watches settling) flushing_driver 0 (flushed 0)
    (consumed flushing_driver Io flush_completion) 1 []
unfolding phase cid sq_id sq_head status dw0
polled = polls settling flush_completion 0 1 refl refl refl refl refl refl reads-once

pub of_one_moment : IsOfOneLane flushing_driver settling 0 1 (flushed 0)
    (consumed flushing_driver Io flush_completion) []
unfolding phase cid sq_id sq_head status dw0
of_one_moment =
    let is = ap (entry_poll flushing_driver (settling 1) Io) (io-entry flush_completion refl)
    ∙ delivered-is flush_completion 0 refl refl refl in
    record {
      lane = Io;
      moment = 1;
      after = omega arith;
      before = omega arith;
      new = ap (has_phase true) (io-entry flush_completion refl);
      gives = sym (ap (λ (p : Poll). p.answer) is);
      driver = sym (ap (λ (p : Poll). p.driver) is);
      front = subst (λ (p : Poll). take (length p.bytes) [] ≡ p.bytes) (sym is) refl;
    }

-- The second one is read while it changes its answer.
reads-twice : IsRead changing 0 2 Io 0 true torn_completion
unfolding phase
reads-twice = record {
  first = 1;
  second = 2;
  after = omega arith;
  rest_later = omega arith;
  before = omega arith;
  new = ap (has_phase true) (io-entry flush_completion refl);
  bytes = sym (ap (λ e. take 12 e ++ drop 12 (entry_at Io 0 (changing 1))) (io-entry changed_completion refl)
      ∙ ap (λ e. take 12 changed_completion ++ drop 12 e) (io-entry flush_completion refl));
}

pub polled_while_it_changes : IsPolled (Watches changing) flushing_driver 0 (flushed 9) torn_driver 2 []
unfolding phase cid sq_id sq_head status dw0
polled_while_it_changes = polls changing torn_completion 9 2 refl refl refl refl refl refl reads-twice

abbrev first-byte : List ℕ → ℕ
first-byte [] = 0
first-byte (byte ∷ rest) = byte

pub changes : Settles flushing_driver Io changing → ⊥
unfolding phase
changes settled =
    let same : changed_completion ≡ flush_completion =
    sym (io-entry changed_completion refl)
    ∙ settled.entry 1 2 (omega arith) (ap (has_phase true) (io-entry flush_completion refl))
    ∙ io-entry flush_completion refl in
    let bytes : 9 ≡ 0 = ap first-byte same in
    omega (arith, bytes)

-- what an answer says: its result, and its status code
abbrev result-of : Result (Option Answer) PollFault → ℕ
result-of (Ok (Some (answer.Done ticket status result len))) = result
result-of other = 0

abbrev code-of : Result (Option Answer) PollFault → ℕ
code-of (Ok (Some (answer.Done ticket status result len))) = status.sc
code-of other = 0

polled-at : (entry : List ℕ) → length entry ≡ 16
    → (lane_poll flushing_driver Io (with_answer entry)).answer ≡ (entry_poll flushing_driver (with_answer entry) Io
    entry).answer
polled-at entry size = ap (λ e. (entry_poll flushing_driver (with_answer entry) Io e).answer) (io-entry entry size)

no-moment : (lane : Lane) (t : ℕ) → NewIn flushing_driver lane (changing t)
    → flushed 9 ≡ (lane_poll flushing_driver lane (changing t)).answer → ⊥
unfolding phase cid sq_id sq_head status dw0
no-moment Admin t new gives = false≢true (sym (no-admin (answered_twice t) (twice-size t)) ∙ new)
no-moment Io zero new gives = false≢true (sym no-answer ∙ new)
no-moment Io (suc zero) new gives =
    let result : 9 ≡ 0 = ap result-of (gives ∙ polled-at flush_completion refl) in omega (arith, result)
no-moment Io (suc (suc t)) new gives =
    let code : 0 ≡ 2 = ap code-of (gives ∙ polled-at changed_completion refl) in omega (arith, code)

pub of_no_moment : FindsNothing flushing_driver changing 0 2 (flushed 9) torn_driver
    ⊎ IsOfOneLane flushing_driver changing 0 2 (flushed 9) torn_driver [] → ⊥
of_no_moment (inl nothing) = let result : 9 ≡ 0 = ap result-of nothing.gives in omega (arith, result)
of_no_moment (inr one) = no-moment one.lane one.moment one.new one.gives
