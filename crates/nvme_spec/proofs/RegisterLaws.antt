-- For laws about registers: writes keep registers consistent.
use Rattle.std.proofs.Common.{
  ◌≡◌,
  ℕ,
  ◌+◌,
  ◌*◌,
  ◌/◌,
  ◌%◌,
  ◌^◌,
  ◌==◌,
  nat_le,
  ◌&&◌,
  Bool,
  true,
  false,
  not,
  Some,
  None,
  refl,
  sym,
  ap,
  subst,
  ◌∙◌,
  arith,
}
use Rattle.std.specs.Prelude.{if◌then◌else◌, IfSome}
use Rattle.std.proofs.lemmas.Bool.{leb-true, eqb-true, and_parts, not-true, not-false, both_ways}
use Rattle.nvme_spec.specs.declared.registers.RegEffect.TheVariants.{Nothing, Enable, Disable, Shutdown}
use Rattle.nvme_spec.specs.declared.registers.ControllerState.{ControllerState}
use Rattle.nvme_spec.specs.declared.registers.ControllerState.TheVariants.{Off, Ready, ShutDown, Failed}
use Rattle.nvme_spec.specs.declared.registers.AdminQueues.{AdminQueues}
use Rattle.nvme_spec.specs.Memory.{window_size}
use Rattle.nvme_spec.specs.Registers.{
  Registers,
  Written,
  written,
  initial_registers,
  after_write,
  configured,
  prepared,
  enabled,
  notified,
  with_notification,
  notification,
  with_low,
  with_high,
  doorbell,
  can_enable,
  is_supported,
  is_admin_queue,
  admin_submission_size,
  admin_completion_size,
  ready_state,
  is_enabled,
  is_shutdown,
  is_ready,
  is_off,
}
use Rattle.nvme_spec.specs.RegisterLaws.{IsQueuePlace, ArePlaced, IsConsistent, BeginsConsistent, StaysConsistent}

-- The result of a write of CC, by its tests: whether the controller can be enabled, whether a ready controller gets a
-- shutdown notification, and CC.EN before and after.

abbrev pub enabled-if : Bool → Registers → Written
enabled-if taken r =
    if taken then written (record r { state = ready_state r.cc }) Enable
    else written (record r { state = Failed }) Nothing

abbrev pub notified-if : Bool → Registers → ℕ → Written
notified-if told r v =
    let kept : Registers = record r { cc = with_notification r.cc v } in
    if told then written (record kept { state = ShutDown }) Shutdown else written kept Nothing

abbrev pub configured-if : Bool → Bool → Registers → ℕ → Written
configured-if was is r v =
    if was then (if is then notified r v else written (record r { cc = v; state = Off }) Disable)
    else (if is then enabled (record r { cc = v }) else written (record r { cc = v }) Nothing)

-- The admin queues, while RDY is 1.

queue-place : (base entries width : ℕ) → is_admin_queue base entries width ≡ true → IsQueuePlace base entries width
queue-place base entries width h =
    let few = nat_le 2 entries && nat_le entries 64 in
    let within = and_parts (few && base % 4096 == 0) (nat_le (base + width * entries) window_size) h in
    let aligned = and_parts few (base % 4096 == 0) within.0 in
    let sized = and_parts (nat_le 2 entries) (nat_le entries 64) aligned.0 in
    record {
      size = (leb-true 2 entries sized.0, leb-true entries 64 sized.1);
      page = eqb-true (base % 4096) 0 aligned.1;
      inside = leb-true (base + width * entries) window_size within.1;
    }

-- the admin queues that the registers name
abbrev named : Registers → AdminQueues
named r = record {
  sq_base = r.asq;
  sq_size = admin_submission_size r.aqa;
  cq_base = r.acq;
  cq_size = admin_completion_size r.aqa;
}

enabled-places : (r : Registers) → can_enable r ≡ true → ArePlaced (named r)
unfolding can_enable
enabled-places r h =
    let submission = is_admin_queue r.asq (admin_submission_size r.aqa) 64 in
    let completion = is_admin_queue r.acq (admin_completion_size r.aqa) 16 in
    let outer = and_parts (is_supported r.cc && submission) completion h in
    let inner = and_parts (is_supported r.cc) submission outer.0 in
    record {
      submission = queue-place r.asq (admin_submission_size r.aqa) 64 inner.1;
      completion = queue-place r.acq (admin_completion_size r.aqa) 16 outer.1;
    }

-- there are admin queues exactly while RDY is 1
abbrev PlacedIf : Bool → AdminQueues → Type 0
PlacedIf ready q = IfSome (if ready then Some q else None) ArePlaced

placed-if : (b : Bool) (q : AdminQueues) → (b ≡ true → ArePlaced q) → PlacedIf b q
placed-if true q h = h refl
placed-if false q h = tt

if-placed : (b : Bool) (q : AdminQueues) → PlacedIf b q → b ≡ true → ArePlaced q
if-placed true q h e = h
if-placed false q h e = absurd (cc)

-- What CC.EN implies.

pub off-ready : (s : ControllerState) → is_off s ≡ true → is_ready s ≡ false
off-ready Off e = refl
off-ready Ready e = absurd (cc)
off-ready ShutDown e = absurd (cc)
off-ready Failed e = absurd (cc)

pub not-enabled : (r : Registers) → IsConsistent r → is_enabled r.cc ≡ false → is_off r.state ≡ true
not-enabled r fits off = not-false (is_off r.state) (sym fits.state ∙ off)

pub enabled-already : (r : Registers) → IsConsistent r → is_enabled r.cc ≡ true → is_off r.state ≡ false
enabled-already r fits on = not-true (is_off r.state) (sym fits.state ∙ on)

notification-keeps : (cc v : ℕ) → is_enabled (with_notification cc v) ≡ is_enabled cc
notification-keeps cc v =
    let same : (cc % 2 ^ 14 + 2 ^ 14 * notification v + 2 ^ 16 * (cc / 2 ^ 16)) / 1 % 2 ≡ cc / 1 % 2 = omega arith in
    ap (λ k. k == 1) same

ready-shown : (b : Bool) → not (is_off (if b then ShutDown else Ready)) ≡ true
ready-shown true = refl
ready-shown false = refl

-- Each write keeps both.

off-consistent : (r : Registers) → is_enabled r.cc ≡ false → is_off r.state ≡ true → IsConsistent r
off-consistent r off is = record {
  state = off ∙ sym (ap not is);
  queues = placed-if (is_ready r.state) (named r) (λ on. absurd (both_ways _ (off-ready r.state is) on));
}

enabled-consistent : (r : Registers) → is_enabled r.cc ≡ true → IsConsistent (enabled r).registers
enabled-consistent r on = by (can_enable r) refl
  where
    by : (b : Bool) → can_enable r ≡ b → IsConsistent (enabled-if b r).registers
    by true e = record {
      state = on ∙ sym (ready-shown (is_shutdown r.cc));
      queues = placed-if (is_ready (ready_state r.cc)) (named r) (λ ready. enabled-places r e);
    }
    by false e = record { state = on; queues = tt }

notified-consistent : (r : Registers) (v : ℕ) → IsConsistent r → is_enabled r.cc ≡ true
    → IsConsistent (notified r v).registers
notified-consistent r v fits on = by (is_ready r.state && is_shutdown v) refl
  where
    by : (b : Bool) → (is_ready r.state && is_shutdown v) ≡ b → IsConsistent (notified-if b r v).registers
    by true e = record {
      state = notification-keeps r.cc v ∙ on;
      queues = if-placed (is_ready r.state) (named r) fits.queues (and_parts (is_ready r.state) (is_shutdown v) e).0;
    }
    by false e = record { state = notification-keeps r.cc v ∙ fits.state; queues = fits.queues }

pub configured_consistent : (r : Registers) (v : ℕ) → IsConsistent r → IsConsistent (configured r v).registers
unfolding configured
configured_consistent r v fits = by (is_enabled r.cc) (is_enabled v) refl refl
  where
    by : (b c : Bool) → is_enabled r.cc ≡ b → is_enabled v ≡ c → IsConsistent (configured-if b c r v).registers
    by true true on stays = notified-consistent r v fits on
    by true false on reset = off-consistent (record r { cc = v; state = Off }) reset refl
    by false true off on = enabled-consistent (record r { cc = v }) on
    by false false off stays = off-consistent (record r { cc = v }) stays (not-enabled r fits off)

abbrev Keeps : Registers → Registers → Type 0
Keeps r x = (x.cc ≡ r.cc) × (x.state ≡ r.state)

either : (r : Registers) (b : Bool) (x y : Registers) → Keeps r x → Keeps r y → Keeps r (if b then x else y)
either r true x y h k = h
either r false x y h k = k

-- a write of an admin queue register changes neither CC nor the state
pub prepared-keeps : (r : Registers) (offset v : ℕ) → Keeps r (prepared r offset v)
unfolding prepared
prepared-keeps r offset v =
    let high : Registers = if offset == 0x34 then record r { acq = with_high r.acq v } else r in
    let low : Registers = if offset == 0x30 then record r { acq = with_low r.acq v } else high in
    let middle : Registers = if offset == 0x2c then record r { asq = with_high r.asq v } else low in
    let address : Registers = if offset == 0x28 then record r { asq = with_low r.asq v } else middle in
    let attributes : Registers = if offset == 0x24 then record r { aqa = v } else address in
    either r (is_enabled r.cc) r attributes (refl, refl)
    (either r (offset == 0x24) (record r { aqa = v }) address (refl, refl)
    (either r (offset == 0x28) (record r { asq = with_low r.asq v }) middle (refl, refl)
    (either r (offset == 0x2c) (record r { asq = with_high r.asq v }) low (refl, refl)
    (either r (offset == 0x30) (record r { acq = with_low r.acq v }) high (refl, refl)
    (either r (offset == 0x34) (record r { acq = with_high r.acq v }) r (refl, refl) (refl, refl))))))

-- while EN is 1 they are unchanged
prepared-enabled : (r : Registers) (offset v : ℕ) → is_enabled r.cc ≡ true → prepared r offset v ≡ r
unfolding prepared
prepared-enabled r offset v on = rw (on) refl

prepared-consistent : (r : Registers) (offset v : ℕ) → IsConsistent r → IsConsistent (prepared r offset v)
prepared-consistent r offset v fits = by (is_enabled r.cc) refl
  where
    by : (b : Bool) → is_enabled r.cc ≡ b → IsConsistent (prepared r offset v)
    by true on = subst IsConsistent (sym (prepared-enabled r offset v on)) fits
    by false off =
        let kept = prepared-keeps r offset v in
        off-consistent (prepared r offset v) (ap is_enabled kept.0 ∙ off) (ap is_off kept.1 ∙ not-enabled r fits off)

pub begins_consistent : BeginsConsistent
begins_consistent = off-consistent initial_registers refl refl

pub stays_consistent : StaysConsistent
unfolding after_write
stays_consistent r offset v fits =
    let other : Written = written (prepared r offset v) (if is_ready r.state then doorbell offset v else Nothing) in
    elim (offset == 0x14) as (λ b. IsConsistent (if b then configured r v else other).registers) [
      | true ↦ configured_consistent r v fits
      | false ↦ prepared-consistent r offset v fits
    ]
