-- For the answers of `found` and `poll_into`: the looks of a poll, and a window that shows what they have found.
use Rattle.std.proofs.Common.{
  ◌≡◌,
  ◌≤◌,
  ◌<◌,
  ℕ,
  ◌+◌,
  ◌*◌,
  Bool,
  true,
  false,
  if◌then◌else◌,
  List,
  [],
  ◌∷◌,
  ◌++◌,
  length,
  take,
  replicate,
  Option,
  None,
  Some,
  Result,
  Ok,
  Err,
  refl,
  sym,
  ap,
  subst,
  ◌∙◌,
  arith,
  append_assoc,
  inl,
}
use Rattle.std.specs.Prelude.{slice_range, IfSome}
use Rattle.std.proofs.lemmas.List.{length-take-le, length-replicate}
use Rattle.nvme_wire.specs.Completion.{phase, cid}
use Rattle.nvme_spec.specs.Limits.{most_bytes}
use Rattle.nvme_spec.specs.Bytes.{with_bytes}
use Rattle.nvme_spec.specs.Memory.{window_size, zeros}
use Rattle.nvme_spec.proofs.Splices.{length-with_bytes}
use Rattle.nvme_driver.specs.declared.lane.Lane.{Lane}
use Rattle.nvme_driver.specs.declared.lane.Lane.TheVariants.{Admin, Io}
use Rattle.nvme_driver.specs.declared.slots.Waiting.{Waiting}
use Rattle.nvme_driver.specs.declared.found.Found.{Found}
use Rattle.nvme_driver.specs.declared.answer.Answer.{Answer}
use Rattle.nvme_driver.specs.declared.faults.PollFault.{PollFault}
use Rattle.nvme_driver.specs.declared.faults.PollFault.TheVariants.{NotUp}
use Rattle.nvme_driver.specs.Calls.{Call, Calls}
use Rattle.nvme_driver.specs.Layout.{completion_queue, data_area, slot_count}
use Rattle.nvme_driver.specs.Drivers.{Driver, Ends, ends, is_up}
use Rattle.nvme_driver.specs.Polls.{
  IsOldest,
  IsPolled,
  Poll,
  answered,
  data_in,
  delivered,
  entry_loads,
  entry_poll,
  found,
  found_in,
  found_loads,
  found_or,
  found_poll,
  handed_len,
  handed_up,
  has_phase,
  head_of,
  is_new,
  loads,
  look,
  looks,
  new_in,
  next_entry,
  phase_of,
  poll_looks,
  polled,
  without_calls,
}
use Rattle.nvme_driver.proofs.PageLists.{part-there, part-apart}

-- nothing new is in the admin lane, and this is found in the I/O lane
pub second-look : {S : Type 0} (step : S → Call → S → Type 0) (d : Driver) (admin io : Ends) (old mid new : S)
    (first last : Option (List ℕ)) (entry : List ℕ) → admin ≡ d.admin → io ≡ d.io → first ≡ None → last ≡ Some entry
    → step old (look Admin admin first) mid → step mid (look Io io last) new
    → Calls step old (look Admin d.admin None ∷ look Io d.io (Some entry) ∷ []) new
second-look step d admin io old mid new first last entry a b n s one two = (
  mid,
  subst (λ o. step old (look Admin d.admin o) mid) n (subst (λ e. step old (look Admin e first) mid) a one),
  (new, subst (λ o. step mid (look Io d.io o) new) s (subst (λ e. step mid (look Io e last) new) b two), refl),
)

-- calls after others
pub calls-join : {S : Type 0} (step : S → Call → S → Type 0) (first last : List Call) (old mid new : S)
    → Calls step old first mid → Calls step mid last new → Calls step old (first ++ last) new
calls-join step [] last old mid new h k = subst (λ x. Calls step x last new) h k
calls-join step (call ∷ first) last old mid new (next, one, rest) k =
    (next, one, calls-join step first last next mid new rest k)

-- A window with these next completions and these data of a slot.
abbrev pub showing : Driver → List ℕ → List ℕ → ℕ → List ℕ → List ℕ
showing d admin io slot part =
    with_bytes
    (with_bytes (with_bytes zeros (data_area slot) part) (completion_queue Io + 16 * head_of d.io) io)
    (completion_queue Admin + 16 * head_of d.admin) admin

pub record Shows (d : Driver) (admin io : List ℕ) (slot : ℕ) (part : List ℕ) : Type 0 where
  pub window : List ℕ
  pub first : next_entry Admin d.admin window ≡ admin
  pub second : next_entry Io d.io window ≡ io
  pub data_there : slice_range window (data_area slot) (data_area slot + length part) ≡ part

length-zeros : length zeros ≡ window_size
unfolding zeros
length-zeros = length-replicate {A = ℕ} window_size 0

pub shows : (d : Driver) (admin io : List ℕ) (slot : ℕ) (part : List ℕ) → length admin ≡ 16 → length io ≡ 16
    → slot < slot_count → length part ≤ most_bytes → Shows d admin io slot part
shows d admin io slot part a b s most =
    let one : List ℕ = with_bytes zeros (data_area slot) part in
    let at : ℕ = completion_queue Io + 16 * head_of d.io in
    let two : List ℕ = with_bytes one at io in
    let place : ℕ = completion_queue Admin + 16 * head_of d.admin in
    let z : length zeros ≡ window_size = length-zeros in
    let x : length one ≡ window_size = length-with_bytes zeros (data_area slot) part (omega (arith, z, s, most)) ∙ z in
    let low : place + 16 ≤ 0x3000 = omega arith in
    let high : at + 16 ≤ 0x100000 = omega arith in
    let above : 0x3000 ≤ at = omega arith in
    let y : length two ≡ window_size = length-with_bytes one at io (omega (arith, x, b, high)) ∙ x in
    record {
      window = with_bytes two place admin;
      first = part-there two admin place 16 a (omega (arith, y, low));
      second =
          part-apart two admin place at 16 (omega (arith, y, a, low)) (inl (omega (arith, a, low, above)))
          ∙ part-there one io at 16 b (omega (arith, x, high));
      data_there =
          part-apart two admin place (data_area slot) (length part) (omega (arith, y, a, low))
          (inl (omega (arith, a, low)))
          ∙ part-apart one io at (data_area slot) (length part) (omega (arith, x, b, high))
          (inl (omega (arith, b, high)))
          ∙ part-there zeros part (data_area slot) (length part) refl (omega (arith, z, s, most));
    }

-- an entry that is not new
abbrev pub stale_entry : Bool → List ℕ
stale_entry expected = replicate 14 0 ++ (if expected then 0 else 1) ∷ 0 ∷ []

stale : (expected : Bool) → has_phase expected (stale_entry expected) ≡ false
unfolding phase
stale true = refl
stale false = refl

stale-length : (expected : Bool) → length (stale_entry expected) ≡ 16
stale-length true = refl
stale-length false = refl

-- a new completion of a lane, and none
new-some : (lane : Lane) (e : Ends) (w entry : List ℕ) → next_entry lane e w ≡ entry → is_new e entry ≡ true
    → new_in lane e w ≡ Some entry
new-some lane e w entry here new =
    ap (λ (x : List ℕ). if is_new e x then Some x else None) here
    ∙ ap (λ (b : Bool). if b then Some entry else None) new

new-none : (lane : Lane) (e : Ends) (w entry : List ℕ) → next_entry lane e w ≡ entry → is_new e entry ≡ false
    → new_in lane e w ≡ None
new-none lane e w entry here old =
    ap (λ (x : List ℕ). if is_new e x then Some x else None) here
    ∙ ap (λ (b : Bool). if b then Some entry else None) old

-- A window in which a poll finds this, with these data of the request that it answers.
pub record IsFoundThere (d : Driver) (o : Option Found) (slot : ℕ) (part : List ℕ) : Type 0 where
  pub window : List ℕ
  pub is : found d window ≡ o
  pub data_there : slice_range window (data_area slot) (data_area slot + length part) ≡ part

none-found : (d : Driver) → IsFoundThere d None 0 []
none-found d =
    let a : List ℕ = stale_entry (phase_of d.admin) in
    let b : List ℕ = stale_entry (phase_of d.io) in
    let s =
    shows d a b 0 [] (stale-length (phase_of d.admin)) (stale-length (phase_of d.io)) (omega arith) (omega arith) in
    let n = new-none Admin d.admin s.window a s.first (stale (phase_of d.admin)) in
    let m = new-none Io d.io s.window b s.second (stale (phase_of d.io)) in
    record {
      window = s.window;
      is = λ j. found_or (found_in Admin (n j)) (found_in Io (m j));
      data_there = s.data_there;
    }

one-found : (d : Driver) (lane : Lane) (entry : List ℕ) (slot : ℕ) (part : List ℕ)
    → is_new (ends lane d) entry ≡ true → length entry ≡ 16 → slot < slot_count → length part ≤ most_bytes
    → IsFoundThere d (Some (record { lane = lane; entry = entry })) slot part
one-found d Admin entry slot part new size there most =
    let b : List ℕ = stale_entry (phase_of d.io) in
    let s = shows d entry b slot part size (stale-length (phase_of d.io)) there most in
    let n = new-some Admin d.admin s.window entry s.first new in
    record {
      window = s.window;
      is = ap (λ o. found_or (found_in Admin o) (found_in Io (new_in Io d.io s.window))) n;
      data_there = s.data_there;
    }
one-found d Io entry slot part new size there most =
    let a : List ℕ = stale_entry (phase_of d.admin) in
    let s = shows d a entry slot part (stale-length (phase_of d.admin)) size there most in
    let n = new-none Admin d.admin s.window a s.first (stale (phase_of d.admin)) in
    let m = new-some Io d.io s.window entry s.second new in
    record {
      window = s.window;
      is = λ j. found_or (found_in Admin (n j)) (found_in Io (m j));
      data_there = s.data_there;
    }

-- A poll of a driver that is up, without aborted requests, by what it finds.
polls-by : {S : Type 0} (step : S → Call → S → Type 0) (d d' : Driver) (old new : S)
    (result : Result (Option Answer) PollFault) (buffer window : List ℕ) (o : Option Found)
    → IsOldest d.slots None → is_up d.state ≡ true → found d window ≡ o
    → result ≡ (found_poll d window o).answer → d' ≡ (found_poll d window o).driver
    → Calls step old ((looks d o ++ found_loads d window o) ++ (found_poll d window o).calls) new
    → take (length (found_poll d window o).bytes) buffer ≡ (found_poll d window o).bytes
    → length (found_poll d window o).bytes ≡ handed_len result → IsPolled step d old result d' new buffer
polls-by step d d' old new result buffer window o oldest up is gives after calls front size =
    let same : polled d None window ≡ found_poll d window o =
    ap (λ (b : Bool). if b then found_poll d window (found d window) else without_calls (Err NotUp) d) up
    ∙ ap (found_poll d window) is in
    let seen : poll_looks d None window ≡ looks d o ++ found_loads d window o =
    ap (λ (b : Bool). if b then looks d (found d window) ++ found_loads d window (found d window) else []) up
    ∙ ap (λ x. looks d x ++ found_loads d window x) is in
    record {
      window = window;
      oldest = None;
      is_oldest = oldest;
      gives = gives ∙ ap (λ (p : Poll). p.answer) (sym same);
      driver = after ∙ ap (λ (p : Poll). p.driver) (sym same);
      calls = subst (λ (p : Poll). Calls step old (poll_looks d None window ++ p.calls) new) (sym same)
          (subst (λ xs. Calls step old (xs ++ (found_poll d window o).calls) new) (sym seen) calls);
      front = subst (λ (p : Poll). take (length p.bytes) buffer ≡ p.bytes) (sym same) front;
      size = ap (λ (p : Poll). length p.bytes) same ∙ size;
    }

pub polls-nothing : {S : Type 0} (step : S → Call → S → Type 0) (d d' : Driver) (old new : S)
    (result : Result (Option Answer) PollFault) (buffer : List ℕ) (o : Option Found) → IsOldest d.slots None
    → is_up d.state ≡ true → o ≡ None → result ≡ Ok None → d' ≡ d → Calls step old (looks d o) new
    → IsPolled step d old result d' new buffer
polls-nothing step d d' old new result buffer o oldest up none gives after calls =
    let f = none-found d in
    polls-by step d d' old new result buffer f.window None oldest up f.is gives after
    (subst (λ x. Calls step old (looks d x) new) none calls) refl (sym (ap handed_len gives))

-- A window in which a poll finds this completion, with these data of the request that it answers.
pub record Fits (d : Driver) (f : Found) (part : List ℕ) : Type 0 where
  pub window : List ℕ
  pub is : found d window ≡ Some f
  pub delivers : entry_poll d window f.lane f.entry ≡ handed_up d f part
  pub loads_are : entry_loads d window f.lane f.entry ≡ loads f.entry part (answered d f.lane f.entry)

fits-by : (d : Driver) (f : Found) (part : List ℕ) (o : Option Waiting) → answered d f.lane f.entry ≡ o
    → is_new (ends f.lane d) f.entry ≡ true → length f.entry ≡ 16 → length part ≤ most_bytes
    → IfSome o (λ w. cid f.entry < slot_count)
    → length part ≡ handed_len (delivered d f.lane f.entry part o).answer → Fits d f part
fits-by d f part None same fresh whole most low size =
    let x = one-found d f.lane f.entry 0 [] fresh whole (omega arith) (omega arith) in
    record {
      window = x.window;
      is = x.is;
      delivers = subst
          (λ o. delivered d f.lane f.entry (data_in x.window f.entry o) o ≡ delivered d f.lane f.entry part o)
          (sym same)
          refl;
      loads_are = subst (λ o. loads f.entry (data_in x.window f.entry o) o ≡ loads f.entry part o) (sym same) refl;
    }
fits-by d f part (Some w) same fresh whole most low size =
    let x = one-found d f.lane f.entry (cid f.entry) part fresh whole low most in
    let here : data_in x.window f.entry (Some w) ≡ part =
    ap (λ n. slice_range x.window (data_area (cid f.entry)) (data_area (cid f.entry) + n)) (sym size) ∙ x.data_there in
    record {
      window = x.window;
      is = x.is;
      delivers = subst
          (λ o. delivered d f.lane f.entry (data_in x.window f.entry o) o ≡ delivered d f.lane f.entry part o)
          (sym same)
          (ap (λ xs. delivered d f.lane f.entry xs (Some w)) here);
      loads_are = subst (λ o. loads f.entry (data_in x.window f.entry o) o ≡ loads f.entry part o) (sym same)
          (ap (λ xs. loads f.entry xs (Some w)) here);
    }

fronted : (d : Driver) (lane : Lane) (entry buffer part : List ℕ) (o : Option Waiting)
    → take (length part) buffer ≡ part
    → take (length (delivered d lane entry part o).bytes) buffer ≡ (delivered d lane entry part o).bytes
fronted d lane entry buffer part None h = refl
fronted d lane entry buffer part (Some w) h = h

sized : (d : Driver) (lane : Lane) (entry part : List ℕ) (o : Option Waiting)
    → length part ≡ handed_len (delivered d lane entry part o).answer
    → length (delivered d lane entry part o).bytes ≡ handed_len (delivered d lane entry part o).answer
sized d lane entry part None h = refl
sized d lane entry part (Some w) h = h

pub polls-one : {S : Type 0} (step : S → Call → S → Type 0) (d d' : Driver) (old mid new : S)
    (result : Result (Option Answer) PollFault) (buffer : List ℕ) (o : Option Found) (f : Found)
    → IsOldest d.slots None → is_up d.state ≡ true → o ≡ Some f
    → is_new (ends f.lane d) f.entry ≡ true → length f.entry ≡ 16 → Calls step old (looks d o) mid
    → result ≡ (handed_up d f (take (handed_len result) buffer)).answer
    → d' ≡ (handed_up d f (take (handed_len result) buffer)).driver
    → Calls step mid (loads f.entry (take (handed_len result) buffer) (answered d f.lane f.entry)
    ++ (handed_up d f (take (handed_len result) buffer)).calls) new
    → handed_len result ≤ most_bytes → most_bytes ≤ length buffer
    → IfSome (answered d f.lane f.entry) (λ w. cid f.entry < slot_count)
    → IsPolled step d old result d' new buffer
polls-one step d d' old mid new result buffer o f oldest up is fresh whole sees gives after calls most room slot =
    let n : ℕ = handed_len result in
    let part : List ℕ = take n buffer in
    let r : Option Waiting = answered d f.lane f.entry in
    let loaded : List Call = loads f.entry part r in
    let later : List Call = (handed_up d f part).calls in
    let size : length part ≡ n = length-take-le n buffer (omega (arith, most, room)) in
    let few : length part ≤ most_bytes = omega (arith, size, most) in
    let w = fits-by d f part r refl fresh whole few slot (size ∙ ap handed_len gives) in
    let all : Calls step old (looks d (Some f) ++ (loaded ++ later)) new =
    calls-join step (looks d (Some f)) (loaded ++ later) old mid new
    (subst (λ x. Calls step old (looks d x) mid) is sees) calls in
    let apart : Calls step old ((looks d (Some f) ++ loaded) ++ later) new =
    subst (λ xs. Calls step old xs new) (sym (append_assoc (looks d (Some f)) loaded later)) all in
    polls-by step d d' old new result buffer w.window (Some f) oldest up w.is
    (gives ∙ ap (λ (p : Poll). p.answer) (sym w.delivers)) (after ∙ ap (λ (p : Poll). p.driver) (sym w.delivers))
    (subst (λ xs. Calls step old ((looks d (Some f) ++ xs) ++ (entry_poll d w.window f.lane f.entry).calls) new)
    (sym w.loads_are) (subst (λ (p : Poll). Calls step old ((looks d (Some f) ++ loaded) ++ p.calls) new)
    (sym w.delivers) apart))
    (subst (λ (p : Poll). take (length p.bytes) buffer ≡ p.bytes) (sym w.delivers)
    (fronted d f.lane f.entry buffer part r (ap (λ k. take k buffer) size)))
    (ap (λ (p : Poll). length p.bytes) w.delivers
    ∙ (sized d f.lane f.entry part r (size ∙ ap handed_len gives) ∙ sym (ap handed_len gives)))
