-- For `driver_polls.rt`: the oldest aborted request, and polls by a port that counts its calls.
use Rattle.std.proofs.Common.{
  ◌≡◌,
  ◌≤◌,
  ℕ,
  zero,
  suc,
  List,
  [],
  Option,
  None,
  Some,
  Result,
  Ok,
  Err,
  length,
  take,
  refl,
  sym,
  ap,
  subst,
  arith,
  ◌∙◌,
}
use Rattle.nvme_driver.specs.declared.answer.Answer.{Answer}
use Rattle.nvme_driver.specs.declared.answer.Answer.TheVariants as answer
use Rattle.nvme_driver.specs.declared.faults.PollFault.{PollFault}
use Rattle.nvme_driver.specs.declared.faults.PollFault.TheVariants as poll_fault
use Rattle.nvme_driver.specs.declared.ticket.Ticket.{Ticket}
use Rattle.nvme_driver.specs.Drivers.{Driver}
use Rattle.nvme_driver.specs.Polls.{IsNotBelow, IsOldest, IsPolledOver, aborted_at, freed, polled}
use Rattle.nvme_driver.specs.Calls.{Calls}
use Rattle.definition_examples.specs.DriverExamples.{aborted_driver, aborted_slots, bare_driver, counts}

no-ticket : (ticket : Ticket) → None ≡ Some ticket → ⊥
no-ticket ticket none = absurd (cc (none))

same-ticket : (one two : Ticket) → Some one ≡ Some two → one ≡ two
same-ticket one two same = cc (same)

not-below : (k : ℕ) → IsNotBelow (record { 0 = 7 }) (aborted_at aborted_slots k)
not-below zero = tt
not-below (suc zero) = omega arith
not-below (suc (suc zero)) = omega arith
not-below (suc (suc (suc zero))) = tt
not-below (suc (suc (suc (suc k)))) = tt

pub second_is_oldest : IsOldest aborted_slots (Some 2)
second_is_oldest = (record { 0 = 7 }, refl, not-below)

pub younger_is_not : IsOldest aborted_slots (Some 1) → ⊥
younger_is_not x =
    let eight : 8 ≡ x.0.0 = ap (λ (t : Ticket). t.0) (same-ticket (record { 0 = 8 }) x.0 x.1) in
    let low : x.0.0 ≤ 7 = x.2 2 in
    omega (arith, eight, low)

pub waiting_is_not : IsOldest aborted_slots (Some 3) → ⊥
waiting_is_not x = no-ticket x.0 x.1

none-there : (k : ℕ) → aborted_at [] k ≡ None
none-there zero = refl
none-there (suc k) = refl

pub nothing_is_aborted : IsOldest [] None
nothing_is_aborted k = none-there k

pub one_is_aborted : IsOldest aborted_slots None → ⊥
one_is_aborted x = no-ticket (record { 0 = 7 }) (sym (x 2))

-- the oldest request of those slots is in slot 2
oldest-is : (oldest : Option ℕ) → IsOldest aborted_slots oldest → oldest ≡ Some 2
oldest-is None x = absurd (one_is_aborted x)
oldest-is (Some zero) x = absurd (no-ticket x.0 x.1)
oldest-is (Some (suc zero)) x = absurd (younger_is_not x)
oldest-is (Some (suc (suc zero))) x = refl
oldest-is (Some (suc (suc (suc zero)))) x = absurd (no-ticket x.0 x.1)
oldest-is (Some (suc (suc (suc (suc k))))) x = absurd (no-ticket x.0 x.1)

pub poll_when_down : (window buffer : List ℕ)
    → IsPolledOver counts bare_driver window 3 (Err poll_fault.NotUp) bare_driver 3 buffer
poll_when_down window buffer = (None, none-there, refl, refl, refl, refl)

pub aborted_result : (window buffer : List ℕ) → (result : Result (Option Answer) PollFault) → (after : Driver)
    → (made : ℕ) → IsPolledOver counts aborted_driver window 3 result after made buffer
    → result ≡ Ok (Some (answer.Aborted (record { 0 = 7 })))
aborted_result window buffer result after made x =
    x.2 ∙ ap (λ (o : Option ℕ). (polled aborted_driver o window).answer) (oldest-is x.0 x.1)

pub aborted_freed : (window buffer : List ℕ) → (result : Result (Option Answer) PollFault) → (after : Driver)
    → (made : ℕ) → IsPolledOver counts aborted_driver window 3 result after made buffer
    → after ≡ freed aborted_driver 2
aborted_freed window buffer result after made x =
    x.3 ∙ ap (λ (o : Option ℕ). (polled aborted_driver o window).driver) (oldest-is x.0 x.1)

pub aborted_calls : (window buffer : List ℕ) → (result : Result (Option Answer) PollFault) → (after : Driver)
    → (made : ℕ) → IsPolledOver counts aborted_driver window 3 result after made buffer
    → made ≡ 3
aborted_calls window buffer result after made x =
    subst (λ (o : Option ℕ). Calls counts 3 (polled aborted_driver o window).calls made) (oldest-is x.0 x.1) x.4

pub polled_front : (d : Driver) → (window buffer : List ℕ) → (result : Result (Option Answer) PollFault)
    → (after : Driver) → (made : ℕ) → (x : IsPolledOver counts d window 3 result after made buffer)
    → take (length (polled d x.0 window).bytes) buffer ≡ (polled d x.0 window).bytes
polled_front d window buffer result after made x = x.5
