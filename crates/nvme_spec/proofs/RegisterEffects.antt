-- For the answers of `effects` and of `nvme_regs`: what the effect of a register write implies.
use Rattle.std.proofs.Common.{
  ◌≡◌,
  ◌↔◌,
  ℕ,
  zero,
  suc,
  ◌+◌,
  ◌-◌,
  ◌*◌,
  ◌/◌,
  ◌%◌,
  ◌≤◌,
  ◌==◌,
  nat_lt,
  ◌&&◌,
  ◌||◌,
  Bool,
  true,
  false,
  refl,
  sym,
  ap,
  subst,
  ◌∙◌,
  arith,
}
use Rattle.std.specs.Prelude.{if◌then◌else◌}
use Rattle.std.proofs.lemmas.Bool.{eqb-true, eqb-false, ltb-false, and_parts, and_from, or_parts, both_ways, ne_eqb}
use Rattle.nvme_spec.specs.declared.registers.RegEffect.{RegEffect}
use Rattle.nvme_spec.specs.declared.registers.RegEffect.TheVariants.{Nothing, Enable, Disable, Shutdown, SqTail, CqHead}
use Rattle.nvme_spec.specs.declared.registers.ControllerState.{ControllerState}
use Rattle.nvme_spec.specs.declared.registers.ControllerState.TheVariants.{Off, Ready, ShutDown, Failed}
use Rattle.nvme_spec.specs.Registers.{
  Registers,
  Written,
  written,
  after_write,
  configured,
  prepared,
  notified,
  doorbell,
  can_enable,
  is_enabled,
  is_shutdown,
  is_ready,
  is_off,
  doorbell_value,
}
use Rattle.nvme_spec.specs.RegisterLaws.{
  IsConsistent,
  IsToldToShutDown,
  TellsItsEffect,
  EffectsTell,
  TailRings,
  HeadRings,
  NamesQueue,
  DoorbellsNameQueues,
}
use Rattle.nvme_spec.proofs.RegisterLaws.{
  enabled-if,
  notified-if,
  configured-if,
  off-ready,
  not-enabled,
  enabled-already,
  prepared-keeps,
}

-- the write rings a doorbell
abbrev rings : RegEffect → Bool
rings Nothing = false
rings Enable = false
rings Disable = false
rings Shutdown = false
rings (SqTail q tail) = true
rings (CqHead q head) = true

-- the write leaves the controller's state
abbrev is_quiet : RegEffect → Bool
is_quiet Nothing = true
is_quiet Enable = false
is_quiet Disable = false
is_quiet Shutdown = false
is_quiet (SqTail q tail) = true
is_quiet (CqHead q head) = true

-- Doorbells.

-- the effect of a write to a doorbell, by its tests: no queue, a tail, or a head
abbrev doorbell-if : Bool → Bool → Bool → ℕ → ℕ → RegEffect
doorbell-if none tail head q value =
    if none then Nothing else (if tail then SqTail q value else (if head then CqHead q value else Nothing))

enabled-silent : (b : Bool) (r : Registers) → rings (enabled-if b r).effect ≡ false
enabled-silent true r = refl
enabled-silent false r = refl

notified-silent : (b : Bool) (r : Registers) (v : ℕ) → rings (notified-if b r v).effect ≡ false
notified-silent true r v = refl
notified-silent false r v = refl

-- a write of CC rings no doorbell
configured-silent : (r : Registers) (v : ℕ) → rings (configured r v).effect ≡ false
unfolding configured
configured-silent r v = by (is_enabled r.cc) (is_enabled v)
  where
    by : (b c : Bool) → rings (configured-if b c r v).effect ≡ false
    by true true = notified-silent (is_ready r.state && is_shutdown v) r v
    by true false = refl
    by false true = enabled-silent (can_enable (record r { cc = v })) (record r { cc = v })
    by false false = refl

-- a write rings a doorbell only if the controller is ready
rings-ready : (r : Registers) (offset v : ℕ) (e : RegEffect) → rings e ≡ true → (after_write r offset v).effect ≡ e
    → (is_ready r.state ≡ true) × (doorbell offset v ≡ e)
unfolding after_write
rings-ready r offset v e rung is = by (offset == 0x14) (is_ready r.state) is
  where
    other : Bool → Written
    other ready = written (prepared r offset v) (if ready then doorbell offset v else Nothing)

    by : (b c : Bool) → (if b then configured r v else other c).effect ≡ e → (c ≡ true) × (doorbell offset v ≡ e)
    by true c f = absurd (both_ways (rings e) (ap rings (sym f) ∙ configured-silent r v) rung)
    by false true f = (refl, f)
    by false false f = absurd (cc (rung, f))

ready-rings : (r : Registers) (offset v : ℕ) (e : RegEffect) → 0x1000 ≤ offset → is_ready r.state ≡ true
    → doorbell offset v ≡ e → (after_write r offset v).effect ≡ e
unfolding after_write
ready-rings r offset v e high ready is =
    let other : (offset == 0x14) ≡ false = ne_eqb offset 0x14 (λ same. omega arith) in
    rw (other, ready) is

-- the doorbell of a queue: its head's, or else its tail's
abbrev bell : Bool → ℕ → ℕ → RegEffect
bell false q value = SqTail q value
bell true q value = CqHead q value

-- the offset of queue 0's doorbell
abbrev first-bell : Bool → ℕ
first-bell false = 0x1000
first-bell true = 0x1004

-- the test of the doorbells finds a queue
queue-found : (offset q : ℕ) → (nat_lt offset 0x1000 || nat_lt 4 ((offset - 0x1000) / 8)) ≡ false
    → (offset - 0x1000) / 8 ≡ q → (offset ≡ 0x1000 + offset % 8 + 8 * q) × (q ≤ 4)
queue-found offset q found same =
    let within = or_parts (nat_lt offset 0x1000) (nat_lt 4 ((offset - 0x1000) / 8)) found in
    let low : 0x1000 ≤ offset = ltb-false offset 0x1000 within.0 in
    let high : (offset - 0x1000) / 8 ≤ 4 = ltb-false 4 ((offset - 0x1000) / 8) within.1 in
    (omega (arith, same), omega (arith, same))

bell-place : (head : Bool) (offset v q value : ℕ) → doorbell offset v ≡ bell head q value
    → (offset ≡ first-bell head + 8 * q) × (q ≤ 4) × (value ≡ doorbell_value v)
unfolding doorbell
bell-place head offset v q value is = by head none (offset % 8 == 0) (offset % 8 == 4) refl refl refl is
  where
    queue : ℕ
    queue = (offset - 0x1000) / 8

    none : Bool
    none = nat_lt offset 0x1000 || nat_lt 4 queue

    by : (head a b c : Bool) → none ≡ a → (offset % 8 == 0) ≡ b → (offset % 8 == 4) ≡ c
        → doorbell-if a b c queue (doorbell_value v) ≡ bell head q value
        → (offset ≡ first-bell head + 8 * q) × (q ≤ 4) × (value ≡ doorbell_value v)
    by false true b c found even odd e = absurd (cc)
    by true true b c found even odd e = absurd (cc)
    by false false true c found even odd e =
        let same : queue ≡ q = cc in
        let place = queue-found offset q found same in
        (omega (arith, place.0, eqb-true (offset % 8) 0 even), place.1, (cc))
    by true false true c found even odd e = absurd (cc)
    by false false false true found even odd e = absurd (cc)
    by true false false true found even odd e =
        let same : queue ≡ q = cc in
        let place = queue-found offset q found same in
        (omega (arith, place.0, eqb-true (offset % 8) 4 odd), place.1, (cc))
    by false false false false found even odd e = absurd (cc)
    by true false false false found even odd e = absurd (cc)

-- the doorbells of queues 0 to 4, one after the other
tail-at : (q v : ℕ) → q ≤ 4 → doorbell (0x1000 + 8 * q) v ≡ SqTail q (doorbell_value v)
unfolding doorbell
tail-at zero v few = refl
tail-at (suc zero) v few = refl
tail-at (suc (suc zero)) v few = refl
tail-at (suc (suc (suc zero))) v few = refl
tail-at (suc (suc (suc (suc zero)))) v few = refl
tail-at (suc (suc (suc (suc (suc q))))) v few = absurd (omega arith)

head-at : (q v : ℕ) → q ≤ 4 → doorbell (0x1004 + 8 * q) v ≡ CqHead q (doorbell_value v)
unfolding doorbell
head-at zero v few = refl
head-at (suc zero) v few = refl
head-at (suc (suc zero)) v few = refl
head-at (suc (suc (suc zero))) v few = refl
head-at (suc (suc (suc (suc zero)))) v few = refl
head-at (suc (suc (suc (suc (suc q))))) v few = absurd (omega arith)

bell-at : (head : Bool) (q v : ℕ) → q ≤ 4 → doorbell (first-bell head + 8 * q) v ≡ bell head q (doorbell_value v)
bell-at false q v few = tail-at q v few
bell-at true q v few = head-at q v few

bell-rung : (head : Bool) (q value : ℕ) → rings (bell head q value) ≡ true
bell-rung false q value = refl
bell-rung true q value = refl

high : (head : Bool) (q : ℕ) → 0x1000 ≤ first-bell head + 8 * q
high false q = omega arith
high true q = omega arith

bell-rings : (head : Bool) (r : Registers) (offset v q value : ℕ)
    → ((after_write r offset v).effect ≡ bell head q value)
    ↔ ((offset ≡ first-bell head + 8 * q) × (q ≤ 4) × (value ≡ doorbell_value v) × (is_ready r.state ≡ true))
bell-rings head r offset v q value = (
  λ is.
      let rung = rings-ready r offset v (bell head q value) (bell-rung head q value) is in
      let place = bell-place head offset v q value rung.1 in
      (place.0, place.1, place.2, rung.0),
  λ (at, few, same, ready). rw (at, same) (ready-rings r _ v _ (high head q) ready (bell-at head q v few)),
)

tail_rings : (r : Registers) (offset v : ℕ) → TailRings r offset v (after_write r offset v).effect
tail_rings r offset v = bell-rings false r offset v

head_rings : (r : Registers) (offset v : ℕ) → HeadRings r offset v (after_write r offset v).effect
head_rings r offset v = bell-rings true r offset v

pub doorbells_name_queues : DoorbellsNameQueues
doorbells_name_queues r offset v = by (after_write r offset v).effect refl
  where
    by : (e : RegEffect) → (after_write r offset v).effect ≡ e → NamesQueue e
    by Nothing is = tt
    by Enable is = tt
    by Disable is = tt
    by Shutdown is = tt
    by (SqTail q tail) is = ((tail_rings r offset v q tail).0 is).1
    by (CqHead q head) is = ((head_rings r offset v q head).0 is).1

-- Changes of the state.

-- the effect of a write on a consistent controller, by cases
data Change (r : Registers) (offset v : ℕ) (w : Written) : Type 0 where
  enables : is_off r.state ≡ true → is_ready w.registers.state ≡ true → w.effect ≡ Enable → Change r offset v w
  fails : is_off r.state ≡ true → w.registers.state ≡ Failed → is_quiet w.effect ≡ true → Change r offset v w
  resets : is_off r.state ≡ false → w.registers.state ≡ Off → w.effect ≡ Disable → is_enabled v ≡ false
      → Change r offset v w
  shuts_down : IsToldToShutDown r offset v → w.registers.state ≡ ShutDown → w.effect ≡ Shutdown → Change r offset v w
  stays : w.registers.state ≡ r.state → is_quiet w.effect ≡ true → (IsToldToShutDown r offset v → ⊥)
      → Change r offset v w

ready-enabled : (b : Bool) → is_ready (if b then ShutDown else Ready) ≡ true
ready-enabled true = refl
ready-enabled false = refl

quiet-doorbell : (a b c : Bool) (q value : ℕ) → is_quiet (doorbell-if a b c q value) ≡ true
quiet-doorbell true b c q value = refl
quiet-doorbell false true c q value = refl
quiet-doorbell false false true q value = refl
quiet-doorbell false false false q value = refl

rung-quiet : (b : Bool) (offset v : ℕ) → is_quiet (if b then doorbell offset v else Nothing) ≡ true
unfolding doorbell
rung-quiet true offset v =
    let queue = (offset - 0x1000) / 8 in
    quiet-doorbell (nat_lt offset 0x1000 || nat_lt 4 queue) (offset % 8 == 0) (offset % 8 == 4) queue (doorbell_value v)
rung-quiet false offset v = refl

enabled-change : (b : Bool) (r : Registers) (offset v : ℕ) → is_off r.state ≡ true
    → Change r offset v (enabled-if b (record r { cc = v }))
enabled-change true r offset v off = enables off (ready-enabled (is_shutdown v)) refl
enabled-change false r offset v off = fails off refl refl

notified-change : (r : Registers) (v : ℕ) → is_enabled v ≡ true → Change r 0x14 v (notified r v)
notified-change r v on = by (is_ready r.state && is_shutdown v) refl
  where
    by : (b : Bool) → (is_ready r.state && is_shutdown v) ≡ b → Change r 0x14 v (notified-if b r v)
    by true e =
        let parts = and_parts (is_ready r.state) (is_shutdown v) e in
        shuts_down (refl, parts.0, on, parts.1) refl refl
    by false e = stays refl refl (λ told. both_ways _ e (and_from (is_ready r.state) (is_shutdown v) told.1 told.3))

configured-change : (r : Registers) (v : ℕ) → IsConsistent r → Change r 0x14 v (configured r v)
unfolding configured
configured-change r v fits = by (is_enabled r.cc) (is_enabled v) refl refl
  where
    by : (b c : Bool) → is_enabled r.cc ≡ b → is_enabled v ≡ c → Change r 0x14 v (configured-if b c r v)
    by true true was is = notified-change r v is
    by true false was is = resets (enabled-already r fits was) refl refl is
    by false true was is = enabled-change (can_enable (record r { cc = v })) r 0x14 v (not-enabled r fits was)
    by false false was is = stays refl refl (λ told. both_ways (is_enabled v) is told.2)

change : (r : Registers) (offset v : ℕ) → IsConsistent r → Change r offset v (after_write r offset v)
unfolding after_write
change r offset v fits = by (offset == 0x14) refl
  where
    other : Written
    other = written (prepared r offset v) (if is_ready r.state then doorbell offset v else Nothing)

    by : (b : Bool) → (offset == 0x14) ≡ b → Change r offset v (if b then configured r v else other)
    by true e =
        subst (λ o. Change r o v (configured r v)) (sym (eqb-true offset 0x14 e)) (configured-change r v fits)
    by false e =
        stays (prepared-keeps r offset v).1 (rung-quiet (is_ready r.state) offset v)
        (λ told. eqb-false offset 0x14 e told.0)

ready-not-off : (s : ControllerState) → is_off s ≡ true → is_ready s ≡ true → ⊥
ready-not-off s off ready = both_ways (is_ready s) (off-ready s off) ready

tells : (r : Registers) (offset v : ℕ) (w : Written) → TailRings r offset v w.effect → HeadRings r offset v w.effect
    → Change r offset v w → TellsItsEffect r offset v w.registers w.effect
tells r offset v w tail-rings head-rings (enables off ready e) = record {
  enable = (λ _. (off-ready r.state off, ready), λ _. e);
  disable = (λ d. absurd (cc), λ reset. absurd (cc (reset.0, off)));
  shutdown = (λ d. absurd (cc), λ told. absurd (ready-not-off r.state off told.1));
  shut_down = λ d. absurd (cc);
  told = λ was is. absurd (cc (off, was));
  tail = tail-rings;
  head = head-rings;
}
tells r offset v w tail-rings head-rings (fails off failed quiet) = record {
  enable = (λ d. absurd (cc (quiet, d)), λ becomes. absurd (cc (becomes.1, failed)));
  disable = (λ d. absurd (cc (quiet, d)), λ reset. absurd (cc (reset.0, off)));
  shutdown = (λ d. absurd (cc (quiet, d)), λ told. absurd (ready-not-off r.state off told.1));
  shut_down = λ d. absurd (cc (quiet, d));
  told = λ was is. absurd (cc (off, was));
  tail = tail-rings;
  head = head-rings;
}
tells r offset v w tail-rings head-rings (resets on off e not) = record {
  enable = (λ d. absurd (cc), λ becomes. absurd (cc (becomes.1, off)));
  disable = (λ _. (on, ap is_off off), λ _. e);
  shutdown = (λ d. absurd (cc), λ told. absurd (both_ways (is_enabled v) not told.2));
  shut_down = λ d. absurd (cc);
  told = λ was is. absurd (cc (off, is));
  tail = tail-rings;
  head = head-rings;
}
tells r offset v w tail-rings head-rings (shuts_down told shut e) = record {
  enable = (λ d. absurd (cc), λ becomes. absurd (both_ways (is_ready r.state) becomes.0 told.1));
  disable = (λ d. absurd (cc), λ reset. absurd (cc (reset.1, shut)));
  shutdown = (λ _. told, λ _. e);
  shut_down = λ _. shut;
  told = λ was is. e;
  tail = tail-rings;
  head = head-rings;
}
tells r offset v w tail-rings head-rings (stays same quiet untold) = record {
  enable = (λ d. absurd (cc (quiet, d)), λ becomes. absurd (cc (becomes.0, becomes.1, same)));
  disable = (λ d. absurd (cc (quiet, d)), λ reset. absurd (cc (reset.0, reset.1, same)));
  shutdown = (λ d. absurd (cc (quiet, d)), λ told. absurd (untold told));
  shut_down = λ d. absurd (cc (quiet, d));
  told = λ was is. absurd (cc (was, is, same));
  tail = tail-rings;
  head = head-rings;
}

pub effects_tell : EffectsTell
effects_tell r offset v fits =
    tells r offset v (after_write r offset v) (tail_rings r offset v) (head_rings r offset v) (change r offset v fits)
