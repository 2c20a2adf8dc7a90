-- For `StartStep`, `AdminTurns` and `nvme_fleet`: calls of a driver that give the device no turn, which are all except
-- those of bringing up.
use Rattle.nvme_refinement.proofs.Words.{
  ℕ,
  Bool,
  true,
  false,
  List,
  [],
  ◌∷◌,
  Option,
  None,
  Some,
  Result,
  Ok,
  Err,
  if◌then◌else◌,
  Answer,
  Aborted,
  PollFault,
  Found,
  Lane,
  Waiting,
  Call,
  Turns,
  Writes,
  Driver,
  is_up,
  answered,
  answered_poll,
  found,
  found_poll,
  polled,
  without_calls,
}
use Rattle.nvme_driver.specs.declared.answer.Answer.TheVariants.{Done}
use Rattle.nvme_driver.specs.declared.faults.PollFault.TheVariants as poll_fault
use Rattle.nvme_driver.specs.Polls.{Poll}

abbrev pub IsPlain : List Call → Type 0
IsPlain [] = Unit {0}
IsPlain (Turns ∷ calls) = ⊥
IsPlain (call ∷ calls) = IsPlain calls

pub plain-first : (call : Call) (calls : List Call) → IsPlain (call ∷ calls) → IsPlain (call ∷ []) × IsPlain calls
plain-first Turns calls h = absurd h
plain-first call calls h = (tt, h)

pub plain-ring : (b : Bool) (x y : ℕ) (u v : ℕ) → IsPlain (if b then Writes x u ∷ Writes y v ∷ [] else [])
plain-ring true x y u v = tt
plain-ring false x y u v = tt

-- it is not the answer of a completion
abbrev pub IsUndone : Result (Option Answer) PollFault → Type 0
IsUndone (Ok (Some (Done ticket status dw0 len))) = ⊥
IsUndone other = Unit {0}

-- A property of polls without a call or a completion's answer, and of polls with one, is a property of each poll.
pub by-poll : (P : Poll → Type 0)
    → ((answer : Result (Option Answer) PollFault) → IsUndone answer → (d : Driver) → P (without_calls answer d))
    → ((window : List ℕ) (d : Driver) (lane : Lane) (entry : List ℕ) (w : Waiting)
    → P (answered_poll d window lane entry (Some w)))
    → (d : Driver) (oldest : Option ℕ) (window : List ℕ) → P (polled d oldest window)
by-poll P none some d (Some slot) window = none (Ok (Some (Aborted _))) tt _
by-poll P none some d None window = up (is_up d.state)
  where
    answers : (lane : Lane) (entry : List ℕ) (o : Option Waiting) → P (answered_poll d window lane entry o)
    answers lane entry None = none (Err poll_fault.UnknownCommand) tt _
    answers lane entry (Some w) = some window d lane entry w

    finds : (o : Option Found) → P (found_poll d window o)
    finds None = none (Ok None) tt d
    finds (Some f) = answers f.lane f.entry (answered d f.lane f.entry)

    up : (b : Bool) → P (if b then found_poll d window (found d window) else without_calls (Err poll_fault.NotUp) d)
    up true = finds (found d window)
    up false = none (Err poll_fault.NotUp) tt d

pub plain-polled : (d : Driver) (oldest : Option ℕ) (window : List ℕ) → IsPlain (polled d oldest window).calls
plain-polled d oldest window =
    by-poll (λ x. IsPlain x.calls) (λ answer u e. tt) (λ w e lane entry x. tt) d oldest window
