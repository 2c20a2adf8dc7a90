-- For `nvmesim_place`: a command that can be placed is taken.
use Rattle.std.proofs.Common.{
  ◌≡◌,
  ◌⊎◌,
  ℕ,
  suc,
  zero,
  ◌+◌,
  ◌-◌,
  ◌%◌,
  ◌<◌,
  ◌≤◌,
  ◌==◌,
  ◌^◌,
  not,
  inl,
  inr,
  true,
  false,
  List,
  [],
  ◌∷◌,
  ◌++◌,
  length,
  take,
  drop,
  slice_range,
  Option,
  None,
  Some,
  Result,
  Ok,
  Err,
  refl,
  sym,
  ap,
  subst,
  ◌∙◌,
  arith,
}
use Rattle.std.specs.Prelude.{slice_set, option_map}
use Rattle.std.proofs.lemmas.Bool.{lt-ltb, le-leb, ne_eqb}
use Rattle.nvme_spec.specs.declared.registers.ControllerState.{ControllerState}
use Rattle.nvme_spec.specs.declared.registers.ControllerState.TheVariants.{Off, Ready, ShutDown, Failed}
use Rattle.nvme_spec.specs.declared.registers.RegEffect.{RegEffect}
use Rattle.nvme_spec.specs.declared.registers.RegEffect.TheVariants.{SqTail}
use Rattle.nvme_spec.specs.Bytes.{with_bytes}
use Rattle.nvme_spec.specs.Memory.{window_size}
use Rattle.nvme_spec.specs.Queues.{ahead, submission_place}
use Rattle.nvme_spec.specs.RegisterLaws.{IsConsistent}
use Rattle.nvme_spec.specs.Registers.{Registers, after_write, is_enabled, is_off, prepared}
use Rattle.nvme_spec.proofs.QueueLaws.{entry_is_inside}
use Rattle.nvme_spec.proofs.RegisterEffects.{effects_tell}
use Rattle.nvme_machine.specs.declared.bare.BareSeen.{BareSeen}
use Rattle.nvme_machine.specs.declared.bare.BareSeen.TheVariants as bare
use Rattle.nvme_machine.specs.declared.event.Event.TheVariants.{Store, Write32, Fetch}
use Rattle.nvme_machine.specs.declared.seen.Fetched.TheVariants.{Took}
use Rattle.nvme_machine.specs.declared.seen.Seen.{Seen}
use Rattle.nvme_machine.specs.declared.seen.Seen.TheVariants.{Stored, Fetched}
use Rattle.nvme_machine.specs.Bare.{seen_of}
use Rattle.nvme_machine.specs.Controllers.{
  Controller,
  SubmissionQueue,
  Reaction,
  after_store,
  reaction,
  wrote,
  after_write32,
  taking_effect,
  with_tail,
  after_fetch,
  fetchable,
  fetched_from,
  submission_at,
}
use Rattle.nvme_machine.specs.Subsystems.{Subsystem, Reacts, ReactsAs, controller_at, with_controller}
use Rattle.nvme_machine.proofs.Staying.{replaced-same}
use Rattle.nvme_library.specs.declared.placing.Placed.{Placed}
use Rattle.nvme_library.specs.declared.turn.Turn.{Turn}
use Rattle.nvme_library.specs.Answers.{answer_of}
use Rattle.nvme_library.specs.Holding.{Inside}
use Rattle.nvme_library.specs.Placing.{
  Fetching,
  IsTaken,
  PlacesAt,
  PlacesBy,
  PlacesTo,
  StoresData,
  TakesBy,
  TakesTo,
  placed_by,
  with_command,
}
use Rattle.nvme_library.specs.Turns.{next_slot, place_of, turn_with, tail_doorbell}
use Rattle.nvme_library.specs.Whole.{IsWhole, AreWhole}
use Rattle.nvme_library.proofs.Rings.{
  next-of,
  there-below,
  set-there,
  set-same,
  set-twice,
  stored-beside,
  stored-length,
  stored-nothing,
  stored-there,
}
use Rattle.nvme_library.proofs.Turning.{Beside, HasTurn, beside, has-place, has-turn}
use Rattle.nvme_library.proofs.Whole.{step_keeps_whole}

-- The events at the controller.

pub stored-is : (c : Controller) (address : ℕ) (bytes : List ℕ) → address + length bytes ≤ window_size
    → after_store address bytes c ≡ reaction (record c { window = with_bytes c.window address bytes }) Stored
unfolding after_store
stored-is c address bytes fits = rw (le-leb (address + length bytes) window_size fits) refl

ready-enabled : (r : Registers) → IsConsistent r → r.state ≡ Ready → is_enabled r.cc ≡ true
ready-enabled r fits ready = by r.state refl fits.state
  where
    by : (s : ControllerState) → r.state ≡ s → is_enabled r.cc ≡ not (is_off s) → is_enabled r.cc ≡ true
    by Off e h = absurd (cc)
    by Ready e h = h
    by ShutDown e h = h
    by Failed e h = h

-- the doorbells of a controller that runs change none of its registers
pub kept-registers : (r : Registers) (offset v : ℕ) → IsConsistent r → r.state ≡ Ready → (offset == 0x14) ≡ false
    → (after_write r offset v).registers ≡ r
unfolding after_write prepared
kept-registers r offset v fits ready other = rw (other, ready-enabled r fits ready) refl

rung-effect : (r : Registers) (qid v : ℕ) → IsConsistent r → r.state ≡ Ready → qid ≤ 4 → v < 2 ^ 16
    → (after_write r (tail_doorbell qid) v).effect ≡ SqTail qid v
rung-effect r qid v fits ready few small =
    let tells = effects_tell r (tail_doorbell qid) v fits in
    (tells.tail qid v).1 (refl, few, omega (arith, small), rw (ready) refl)

-- a controller whose tail doorbell has rung
abbrev rung : ℕ → SubmissionQueue → Controller → Controller
rung qid s c =
    record c { submission = slice_set c.submission qid (Some (record s { head = record s.head { waiting = 1 } })) }

rung-by : (effect : RegEffect) (r : Registers) (c : Controller) (qid v : ℕ) (s : SubmissionQueue)
    → effect ≡ SqTail qid v → r ≡ c.registers → submission_at c qid ≡ Some s
    → v < s.head.size → ahead s.head.size v s.head.fetched ≡ 1
    → taking_effect effect (record c { registers = r }) ≡ rung qid s c
unfolding taking_effect
rung-by effect r c qid v s is same at below one =
    let tail : with_tail v s ≡ record s { head = record s.head { waiting = 1 } } =
    rw (lt-ltb v s.head.size below, one) refl in
    ap (λ e. taking_effect e (record c { registers = r })) is
    ∙ ap (λ (x : Registers). taking_effect (SqTail qid v) (record c { registers = x })) same
    ∙ ap (λ o. record c { submission = slice_set c.submission qid (option_map (with_tail v) o) }) at
    ∙ ap (λ q. record c { submission = slice_set c.submission qid (Some q) }) tail

rung-is : (c : Controller) (qid v : ℕ) (s : SubmissionQueue) → IsConsistent c.registers → c.registers.state ≡ Ready
    → qid ≤ 4 → v < 2 ^ 16 → submission_at c qid ≡ Some s
    → v < s.head.size → ahead s.head.size v s.head.fetched ≡ 1
    → after_write32 (tail_doorbell qid) v c ≡ rung qid s c
unfolding after_write32
rung-is c qid v s fits ready few small at below one =
    let other : (tail_doorbell qid == 0x14) ≡ false = ne_eqb (tail_doorbell qid) 0x14 (λ same. omega (arith, same)) in
    rung-by (after_write c.registers (tail_doorbell qid) v).effect
    (after_write c.registers (tail_doorbell qid) v).registers c qid v s
    (rung-effect c.registers qid v fits ready few small)
    (kept-registers c.registers (tail_doorbell qid) v fits ready other) at below one

fetchable-is : (c : Controller) (qid : ℕ) (s : SubmissionQueue) → c.registers.state ≡ Ready → length c.fetched < 64
    → submission_at c qid ≡ Some s → s.head.waiting ≡ 1 → fetchable c qid ≡ Some s
unfolding fetchable
fetchable-is c qid s ready few at waits = rw (ready, lt-ltb (length c.fetched) 64 few, at, waits) refl

fetched-is : (c : Controller) (qid : ℕ) (s : SubmissionQueue)
    → fetchable c qid ≡ Some s → after_fetch qid c ≡ fetched_from qid c (Some s)
unfolding after_fetch
fetched-is c qid s is = ap (fetched_from qid c) is

-- the doorbell and the fetch, of a controller whose memory has the entry
record TookIt (c : Controller) (qid : ℕ) (turn : Turn) (entry : List ℕ) (queue : SubmissionQueue) (r : Reaction)
    : Type 0 where
  pub took : r.seen ≡ Fetched Took
  pub left : r.controller ≡ record c {
    submission = slice_set c.submission qid (Some (record queue { head = record queue.head { fetched = turn.tail } }));
    fetched = c.fetched ++ record { entry = entry; queue = qid; marked = false } ∷ [];
  }

took-with : (c : Controller) (qid : ℕ) (entry : List ℕ) (s : SubmissionQueue) → IsWhole c
    → c.registers.state ≡ Ready → submission_at c qid ≡ Some s → length c.fetched < 64 → s.head.waiting ≡ 0
    → slice_range c.window (turn_with (length c.fetched) s).entry_at ((turn_with (length c.fetched) s).entry_at + 64)
    ≡ entry → TookIt c qid (turn_with (length c.fetched) s) entry s
    (after_fetch qid (after_write32 (tail_doorbell qid) (next_slot s.head.size s.head.fetched) c))
took-with c qid entry s whole ready at few idle stands =
    let v : ℕ = next_slot s.head.size s.head.fetched in
    let start : ℕ = submission_place s.base s.head.size s.head.fetched in
    let placed = whole.window.submission qid s at in
    let size = placed.0.size in
    let next = next-of s.head.size s.head.fetched size.0 placed.1.fetched in
    let there = there-below c.submission qid s at in
    let below = next.below in
    let rings = rung-is c qid v s whole.window.registers ready (omega (arith, there, whole.submission))
    (omega (arith, below, size.1)) at below next.one in
    let s₂ : SubmissionQueue = record s { head = record s.head { waiting = 1 } } in
    let d : Controller = rung qid s c in
    let can = fetchable-is d qid s₂ ready few (set-there c.submission qid s s₂ at) refl in
    let is : after_fetch qid (after_write32 (tail_doorbell qid) v c) ≡ fetched_from qid d (Some s₂) =
    ap (after_fetch qid) rings ∙ fetched-is d qid s₂ can in
    let head : Option SubmissionQueue = Some (record s { head = record s.head { fetched = v } }) in
    let heads : Some (record s {
      head = record { size = s.head.size; fetched = (s.head.fetched + 1) % s.head.size; waiting = 0 };
    }) ≡ head =
    ap (λ n. Some (record s { head = record { size = s.head.size; fetched = n; waiting = 0 } })) next.turned
    ∙ ap (λ n. Some (record s { head = record { size = s.head.size; fetched = v; waiting = n } })) (sym idle) in
    subst (TookIt c qid (turn_with (length c.fetched) s) entry s) (sym is) (record {
      took = refl;
      left = ap (λ e. record c {
        submission = slice_set d.submission qid (Some (record s {
          head = record { size = s.head.size; fetched = (s.head.fetched + 1) % s.head.size; waiting = 0 };
        }));
        fetched = c.fetched ++ record { entry = e; queue = qid; marked = false } ∷ [];
      }) stands ∙ ap (λ o. record c {
        submission = slice_set d.submission qid o;
        fetched = c.fetched ++ record { entry = entry; queue = qid; marked = false } ∷ [];
      }) heads ∙ ap (λ os. record c {
        submission = os;
        fetched = c.fetched ++ record { entry = entry; queue = qid; marked = false } ∷ [];
      }) (set-twice c.submission qid (Some s₂) head);
    })

-- The subsystem.

pub with-twice : (s : Subsystem) (k : ℕ) (c d : Controller)
    → with_controller (with_controller s k c) k d ≡ with_controller s k d
unfolding with_controller
with-twice s zero c d = refl
with-twice s (suc i) c d = ap (λ cs. record s { controllers = cs }) (set-twice s.controllers i c d)

pub with-same : (s : Subsystem) (k : ℕ) (c : Controller) → controller_at s k ≡ Some c → with_controller s k c ≡ s
unfolding with_controller controller_at
with-same s zero c h = refl
with-same s (suc i) c h = ap (λ cs. record s { controllers = cs }) (set-same s.controllers i c h)

pub record Reacted (f : Controller → Reaction) (c : Controller) (k : ℕ) (old : Subsystem) (seen : Seen)
    (new : Subsystem) : Type 0 where
  pub gives : seen ≡ (f c).seen
  pub is : new ≡ with_controller old k (f c).controller
  pub at : controller_at new k ≡ Some (f c).controller

pub reacted : (old new : Subsystem) (k : ℕ) (c : Controller) (f : Controller → Reaction) (seen : Seen)
    → controller_at old k ≡ Some c → Reacts old k f seen new → Reacted f c k old seen new
unfolding controller_at with_controller
reacted old new k c f seen at h =
    let r : ReactsAs (Some c) old k f seen new = subst (λ o. ReactsAs o old k f seen new) at h in
    record {
      gives = r.0;
      is = r.1;
      at = ap (λ s. controller_at s k) r.1 ∙ replaced-same old.controllers k c (f c).controller at;
    }

-- a controller is there, in a subsystem that differs from another one in it alone
pub record Is (s t : Subsystem) (k : ℕ) (d : Controller) : Type 0 where
  pub is : t ≡ with_controller s k d
  pub at : controller_at t k ≡ Some d

becomes : (f : Controller → Reaction) (s t u : Subsystem) (k : ℕ) (c d : Controller) (seen : Seen)
    → Is s t k c → Reacts t k f seen u → (f c).controller ≡ d → Is s u k d
becomes f s t u k c d seen before h same =
    let r = reacted t u k c f seen before.at h in
    subst (Is s u k) same (record {
      is = r.is ∙ ap (λ x. with_controller x k (f c).controller) before.is ∙ with-twice s k c (f c).controller;
      at = r.at;
    })

store-is : (c : Controller) (address : ℕ) (bytes : List ℕ) → address + length bytes ≤ window_size
    → (after_store address bytes c).controller ≡ record c { window = with_bytes c.window address bytes }
store-is c address bytes fits = ap (λ (r : Reaction). r.controller) (stored-is c address bytes fits)

-- the data are stored, if there are any
filled-is : (bytes : List ℕ) (s : Subsystem) (t u : Inside) (k at : ℕ) (c : Controller) → StoresData k at bytes t u
    → (length bytes ≡ 0) ⊎ (at + length bytes ≤ window_size) → Is s t.state k c
    → Is s u.state k (record c { window = with_bytes c.window at bytes })
filled-is [] s t u k at c h fits before = subst (λ w. Is s u.state k (record c { window = w }))
    (sym (stored-nothing c.window at)) (subst (λ (x : Inside). Is s x.state k c) (sym h) before)
filled-is (byte ∷ rest) s t u k at c h fits before = elim fits [
  | inl none ↦ absurd (omega (arith, none))
  | inr inside ↦ becomes (after_store at (byte ∷ rest)) s t.state u.state k c
      (record c { window = with_bytes c.window at (byte ∷ rest) }) (seen_of h.0) before h.1.0
      (store-is c at (byte ∷ rest) inside)
]

filled-medium : (bytes : List ℕ) (t u : Inside) (k at : ℕ) → StoresData k at bytes t u → u.medium ≡ t.medium
filled-medium [] t u k at h = ap (λ (x : Inside). x.medium) h
filled-medium (byte ∷ rest) t u k at h = h.1.1

-- the entry and the data in the memory
entry-stands : (bytes w : List ℕ) (at start : ℕ) (entry : List ℕ) → length entry ≡ 64 → start + 64 ≤ length w
    → length w ≡ window_size → (length bytes ≡ 0) ⊎ Beside start at (length bytes)
    → slice_range (with_bytes (with_bytes w start entry) at bytes) start (start + 64) ≡ entry
entry-stands bytes w at start entry long inside size fits =
    let there = stored-there w start 64 entry long inside in
    let same = stored-length w start entry (omega (arith, inside, long)) in
    by bytes fits there same
  where
    by : (ds : List ℕ) → (length ds ≡ 0) ⊎ Beside start at (length ds)
        → slice_range (with_bytes w start entry) start (start + 64) ≡ entry
        → length (with_bytes w start entry) ≡ length w
        → slice_range (with_bytes (with_bytes w start entry) at ds) start (start + 64) ≡ entry
    by [] f there same =
        ap (λ v. slice_range v start (start + 64)) (stored-nothing (with_bytes w start entry) at) ∙ there
    by (d ∷ ds) (inl none) there same = absurd (omega (arith, none))
    by (d ∷ ds) (inr b) there same =
        let within = b.inside in
        stored-beside (with_bytes w start entry) at (d ∷ ds) start 64 (omega (arith, within, same, size)) b.apart
        ∙ there

bytes-stand : (bytes w : List ℕ) (at : ℕ) → (length bytes ≡ 0) ⊎ (at + length bytes ≤ length w)
    → slice_range (with_bytes w at bytes) at (at + length bytes) ≡ bytes
bytes-stand [] w at fits = let none : at + 0 - at ≡ 0 = omega arith in
    ap (λ n. take n (drop at (with_bytes w at []))) none
bytes-stand (d ∷ ds) w at (inl none) = absurd (omega (arith, none))
bytes-stand (d ∷ ds) w at (inr inside) = stored-there w at (length (d ∷ ds)) (d ∷ ds) refl inside

-- wholeness
stores-whole : (old new : Subsystem) (k address : ℕ) (bytes : List ℕ) (seen : Seen)
    → Reacts old k (after_store address bytes) seen new → AreWhole old → AreWhole new
stores-whole old new k address bytes seen h all =
    step_keeps_whole true old new (Store k address (record { ref_ptr = (0, 0); now = bytes })) seen h all

pub writes-whole : (old new : Subsystem) (k offset v : ℕ) (seen : Seen) → Reacts old k (wrote offset v) seen new
    → AreWhole old → AreWhole new
writes-whole old new k offset v seen h all = step_keeps_whole true old new (Write32 k offset v) seen h all

fetches-whole : (old new : Subsystem) (k qid : ℕ) (seen : Seen) → Reacts old k (after_fetch qid) seen new → AreWhole old
    → AreWhole new
fetches-whole old new k qid seen h all = step_keeps_whole true old new (Fetch k qid) seen h all

fills-whole : (bytes : List ℕ) (old new : Inside) (k at : ℕ) → StoresData k at bytes old new → AreWhole old.state
    → AreWhole new.state
fills-whole [] old new k at h all = subst (λ (s : Inside). AreWhole s.state) (sym h) all
fills-whole (byte ∷ rest) old new k at h all =
    stores-whole old.state new.state k at (byte ∷ rest) (seen_of h.0) h.1.0 all

filled-whole : (k qid : ℕ) (turn : Turn) (entry : List ℕ) (at : ℕ) (bytes : List ℕ) (old new : Inside) (seen : BareSeen)
    → (f : Fetching k qid turn entry at bytes old seen new) → AreWhole old.state → AreWhole f.filled.state
filled-whole k qid turn entry at bytes old new seen f all = fills-whole bytes f.stored f.filled k at f.fills
    (stores-whole old.state f.stored.state k turn.entry_at entry (seen_of f.stores.0) f.stores.1.0 all)

fetching-whole : (k qid : ℕ) (turn : Turn) (entry : List ℕ) (at : ℕ) (bytes : List ℕ) (old new : Inside)
    (seen : BareSeen) → Fetching k qid turn entry at bytes old seen new → AreWhole old.state → AreWhole new.state
fetching-whole k qid turn entry at bytes old new seen f all =
    fetches-whole f.rung.state new.state k qid (seen_of seen) f.fetches.0
    (writes-whole f.filled.state f.rung.state k (tail_doorbell qid) turn.tail (seen_of f.rings.0) f.rings.1.0
    (filled-whole k qid turn entry at bytes old new seen f all))

took-of : (seen : BareSeen) → seen_of seen ≡ Fetched Took → seen ≡ bare.Fetched Took
took-of (bare.Fetched Took) h = refl
took-of other h = absurd (cc)

in-memory : (start at count : ℕ) → (count ≡ 0) ⊎ Beside start at count → (count ≡ 0) ⊎ (at + count ≤ window_size)
in-memory start at count (inl none) = inl none
in-memory start at count (inr b) = inr b.inside

-- A command at its turn is taken.
taken-at : (k qid : ℕ) (turn : Turn) (entry : List ℕ) (at : ℕ) (bytes : List ℕ) (c : Controller) (old new : Inside)
    (placed : Placed) → AreWhole old.state → controller_at old.state k ≡ Some c → HasTurn c qid turn
    → (length bytes ≡ 0) ⊎ Beside turn.entry_at at (length bytes) → length entry ≡ 64
    → PlacesAt k qid turn entry at bytes old placed new → IsTaken k qid turn entry at bytes c old placed new
taken-at k qid turn entry at bytes c old new placed all there has fits long h =
    let f = h.fetches in
    let s = has.submission in
    let whole = all k c there in
    let lies = whole.window.submission qid s has.submits in
    let size = lies.0.size in
    let inside = lies.0.inside in
    let window = whole.window.window in
    let low = entry_is_inside s.base 64 s.head.size s.head.fetched (omega (arith, size.0)) in
    let start_is : turn.entry_at ≡ submission_place s.base s.head.size s.head.fetched =
    ap (λ (u : Turn). u.entry_at) has.is in
    let ends : turn.entry_at + 64 ≤ window_size = omega (arith, low, inside, start_is) in
    let c₁ : Controller = record c { window = with_bytes c.window turn.entry_at entry } in
    let c₂ : Controller = record c₁ { window = with_bytes c₁.window at bytes } in
    let stored = becomes (after_store turn.entry_at entry) old.state old.state f.stored.state k c c₁
    (seen_of f.stores.0) (record { is = sym (with-same old.state k c there); at = there }) f.stores.1.0
    (store-is c turn.entry_at entry (omega (arith, ends, long))) in
    let filled = filled-is bytes old.state f.stored f.filled k at c₁ f.fills
    (in-memory turn.entry_at at (length bytes) fits) stored in
    let rings = becomes (wrote (tail_doorbell qid) turn.tail) old.state f.filled.state f.rung.state k c₂
    (after_write32 (tail_doorbell qid) turn.tail c₂) (seen_of f.rings.0) filled f.rings.1.0 refl in
    let stands = entry-stands bytes c.window at turn.entry_at entry long (omega (arith, ends, window)) window fits in
    let whole₂ = filled-whole k qid turn entry at bytes old new h.seen f all k c₂ filled.at in
    let took : TookIt c₂ qid turn entry s (after_fetch qid (after_write32 (tail_doorbell qid) turn.tail c₂)) =
    subst (λ (u : Turn). slice_range c₂.window u.entry_at (u.entry_at + 64) ≡ entry
    → TookIt c₂ qid u entry s (after_fetch qid (after_write32 (tail_doorbell qid) u.tail c₂))) (sym has.is)
    (took-with c₂ qid entry s whole₂ has.state has.submits has.few has.idle) stands in
    let last = reacted f.rung.state new.state k (after_write32 (tail_doorbell qid) turn.tail c₂) (after_fetch qid)
    (seen_of h.seen) rings.at f.fetches.0 in
    let seen = took-of h.seen (last.gives ∙ took.took) in
    let left = becomes (after_fetch qid) old.state f.rung.state new.state k
    (after_write32 (tail_doorbell qid) turn.tail c₂) (with_command qid turn entry at bytes s c) (seen_of h.seen) rings
    f.fetches.0 took.left in
    let same = stored-length c.window turn.entry_at entry (omega (arith, ends, long, window)) in
    record {
      took = h.placed_is ∙ ap (λ x. placed_by turn (answer_of x).what) seen;
      index = ap (λ (u : Turn). u.index) has.is;
      queue = s;
      found = has.submits;
      left = with_command qid turn entry at bytes s c;
      left_is = refl;
      state = left.is;
      medium = f.fetches.1 ∙ f.rings.1.1 ∙ filled-medium bytes f.stored f.filled k at f.fills ∙ f.stores.1.1;
      entry_stands = stands;
      data_stand = bytes-stand bytes c₁.window at
          (in-window (length bytes) (in-memory turn.entry_at at (length bytes) fits) (same ∙ window));
    }
  where
    in-window : (count : ℕ) → (count ≡ 0) ⊎ (at + count ≤ window_size)
        → length (with_bytes c.window turn.entry_at entry) ≡ window_size
        → (count ≡ 0) ⊎ (at + count ≤ length (with_bytes c.window turn.entry_at entry))
    in-window count (inl none) size = inl none
    in-window count (inr within) size = inr (omega (arith, within, size))

places-by : (r : Result Turn ℕ) (k qid : ℕ) (c : Controller) (entry : List ℕ) (at : ℕ) (bytes : List ℕ)
    (old new : Inside) (placed : Placed) → AreWhole old.state → controller_at old.state k ≡ Some c
    → place_of c qid at (length bytes) ≡ r → length entry ≡ 64 → PlacesBy r k qid entry at bytes old placed new
    → TakesBy c r k qid entry at bytes old placed new
places-by (Err why) k qid c entry at bytes old new placed all there is long h = tt
places-by (Ok turn) k qid c entry at bytes old new placed all there is long h =
    let place = has-place c qid at (length bytes) turn is in
    taken-at k qid turn entry at bytes c old new placed all there (has-turn c qid turn place.turn_is)
    (beside turn.entry_at at (length bytes) place.no_fault) long h

-- a command that can be placed is taken
pub placed_is_taken : (o : Option Controller) (k qid : ℕ) (entry : List ℕ) (at : ℕ) (bytes : List ℕ)
    (old new : Inside) (placed : Placed) → AreWhole old.state → controller_at old.state k ≡ o → length entry ≡ 64
    → PlacesTo o k qid entry at bytes old placed new → TakesTo o k qid entry at bytes old placed new
placed_is_taken None k qid entry at bytes old new placed all there long h = tt
placed_is_taken (Some c) k qid entry at bytes old new placed all there long h =
    places-by (place_of c qid at (length bytes)) k qid c entry at bytes old new placed all there refl long h

places-by-whole : (r : Result Turn ℕ) (k qid : ℕ) (entry : List ℕ) (at : ℕ) (bytes : List ℕ) (old new : Inside)
    (placed : Placed) → PlacesBy r k qid entry at bytes old placed new → AreWhole old.state → AreWhole new.state
places-by-whole (Err why) k qid entry at bytes old new placed h all = subst (λ s. AreWhole s.state) (sym h.1) all
places-by-whole (Ok turn) k qid entry at bytes old new placed h all =
    fetching-whole k qid turn entry at bytes old new h.seen h.fetches all

-- all controllers stay whole
pub places_whole : (o : Option Controller) (k qid : ℕ) (entry : List ℕ) (at : ℕ) (bytes : List ℕ) (old new : Inside)
    (placed : Placed) → PlacesTo o k qid entry at bytes old placed new → AreWhole old.state → AreWhole new.state
places_whole None k qid entry at bytes old new placed h all = subst (λ s. AreWhole s.state) (sym h.1) all
places_whole (Some c) k qid entry at bytes old new placed h all =
    places-by-whole (place_of c qid at (length bytes)) k qid entry at bytes old new placed h all
