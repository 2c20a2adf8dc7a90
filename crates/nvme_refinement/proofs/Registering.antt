-- For the steps of ring, poll, reset and turn: the register writes of a driver, at a controller that it has brought up.
use Rattle.nvme_refinement.proofs.Words.{
  ◌≡◌,
  ℕ,
  ◌^◌,
  ◌<◌,
  true,
  false,
  refl,
  arith,
  slice_set,
  option_map,
  Off,
  Ready,
  SqTail,
  CqHead,
  Registers,
  is_enabled,
  after_write,
  prepared,
  doorbell,
  doorbell_value,
  configured,
  written,
  Lane,
  Admin,
  Io,
  queue_id,
  tail_doorbell,
  head_doorbell,
  Controller,
  after_write32,
  taking_effect,
  with_tail,
  with_head,
  without_queues,
  submission_at,
  completion_at,
}

small-value : (v : ℕ) → v < 2 ^ 16 → doorbell_value v ≡ v
small-value v h = omega (arith, h)

-- the doorbells, if the controller is ready
tail-effect : (lane : Lane) (r : Registers) (v : ℕ) → is_enabled r.cc ≡ true → r.state ≡ Ready → v < 2 ^ 16
    → after_write r (tail_doorbell lane) v ≡ written r (SqTail (queue_id lane) v)
unfolding after_write prepared doorbell
tail-effect Admin r v e s h = rw (e, s, small-value v h) refl
tail-effect Io r v e s h = rw (e, s, small-value v h) refl

head-effect : (lane : Lane) (r : Registers) (v : ℕ) → is_enabled r.cc ≡ true → r.state ≡ Ready → v < 2 ^ 16
    → after_write r (head_doorbell lane) v ≡ written r (CqHead (queue_id lane) v)
unfolding after_write prepared doorbell
head-effect Admin r v e s h = rw (e, s, small-value v h) refl
head-effect Io r v e s h = rw (e, s, small-value v h) refl

pub tail-written : (lane : Lane) (c : Controller) (v : ℕ) → is_enabled c.registers.cc ≡ true
    → c.registers.state ≡ Ready → v < 2 ^ 16
    → after_write32 (tail_doorbell lane) v c ≡ record c {
      submission = slice_set c.submission (queue_id lane) (option_map (with_tail v) (submission_at c (queue_id lane)));
    }
unfolding after_write32 taking_effect
tail-written lane c v e s h = rw (tail-effect lane c.registers v e s h) refl

pub head-written : (lane : Lane) (c : Controller) (v : ℕ) → is_enabled c.registers.cc ≡ true
    → c.registers.state ≡ Ready → v < 2 ^ 16
    → after_write32 (head_doorbell lane) v c ≡ record c {
      completion = slice_set c.completion (queue_id lane) (option_map (with_head v) (completion_at c (queue_id lane)));
    }
unfolding after_write32 taking_effect
head-written lane c v e s h = rw (head-effect lane c.registers v e s h) refl

-- Controller Configuration 0, if the controller is enabled, and if it is not
pub disabled : (c : Controller) → is_enabled c.registers.cc ≡ true
    → after_write32 0x14 0 c ≡ without_queues (record c { registers = record c.registers { cc = 0; state = Off } })
unfolding after_write32 taking_effect after_write configured
disabled c e = rw e refl

pub disabled-off : (c : Controller) → is_enabled c.registers.cc ≡ false
    → after_write32 0x14 0 c ≡ record c { registers = record c.registers { cc = 0 } }
unfolding after_write32 taking_effect after_write configured
disabled-off c e = rw e refl
