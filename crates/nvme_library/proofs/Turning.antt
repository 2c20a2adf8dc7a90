-- What is known of a controller for which a host's turn is possible.
use Rattle.std.proofs.Common.{
  ◌≡◌,
  ◌⊎◌,
  ℕ,
  ◌+◌,
  ◌<◌,
  ◌≤◌,
  ◌==◌,
  nat_lt,
  nat_le,
  ◌||◌,
  ◌&&◌,
  not,
  inl,
  inr,
  Bool,
  true,
  false,
  length,
  Option,
  None,
  Some,
  Result,
  Ok,
  Err,
  refl,
  sym,
  subst,
  arith,
}
use Rattle.std.specs.Prelude.{if◌then◌else◌}
use Rattle.std.proofs.lemmas.Bool.{leb-true, leb-false, ltb-false, eqb-true}
use Rattle.std.proofs.lemmas.Option.{none-some}
use Rattle.nvme_spec.specs.declared.registers.ControllerState.{ControllerState}
use Rattle.nvme_spec.specs.declared.registers.ControllerState.TheVariants.{Off, Ready, ShutDown, Failed}
use Rattle.nvme_spec.specs.Memory.{window_size}
use Rattle.nvme_spec.specs.Registers.{Registers, status_of, value_at}
use Rattle.nvme_machine.specs.Controllers.{
  Controller,
  SubmissionQueue,
  CompletionQueue,
  submission_at,
  completion_at,
}
use Rattle.nvme_library.specs.declared.turn.Turn.{Turn}
use Rattle.nvme_library.specs.Turns.{
  tail_of,
  head_of,
  data_fault,
  place_of,
  turn_beside,
  turn_or,
  turn_with,
  turn_between,
  turn_at,
  turn_of,
}

pub record HasTurn (c : Controller) (qid : ℕ) (turn : Turn) : Type 0 where
  pub state : c.registers.state ≡ Ready
  pub submission : SubmissionQueue
  pub completion : CompletionQueue
  pub submits : submission_at c qid ≡ Some submission
  pub completes : completion_at c submission.cqid ≡ Some completion
  pub few : length c.fetched < 64
  pub idle : submission.head.waiting ≡ 0
  pub consumed : head_of completion ≡ tail_of completion
  pub is : turn ≡ turn_with (length c.fetched) submission

ready-of : (r : Registers) → (value_at r 0x1c == 1) ≡ true → r.state ≡ Ready
unfolding value_at
ready-of r is = by r.state refl is
  where
    by : (s : ControllerState) → r.state ≡ s → (status_of s == 1) ≡ true → r.state ≡ Ready
    by Off e h = absurd (cc)
    by Ready e h = e
    by ShutDown e h = absurd (cc)
    by Failed e h = absurd (cc)

no-turn : (why : ℕ) (turn : Turn) → (let refused : Result Turn ℕ = Err why in refused ≡ Ok turn) → ⊥
no-turn why turn h = absurd (cc)

one-turn : (x y : Turn) → (let left : Result Turn ℕ = Ok x in left ≡ Ok y) → y ≡ x
one-turn x y h = cc

between : (c : Controller) (qid : ℕ) (turn : Turn) (s : SubmissionQueue) (o : Option CompletionQueue)
    → c.registers.state ≡ Ready → submission_at c qid ≡ Some s → completion_at c s.cqid ≡ o
    → turn_between c s o ≡ Ok turn → HasTurn c qid turn
between c qid turn s None ready at to h = absurd (no-turn 28 turn h)
between c qid turn s (Some x) ready at to h =
    by (nat_le 64 (length c.fetched)) (nat_lt 0 s.head.waiting) (head_of x == tail_of x) refl refl refl h
  where
    by : (full waits read : Bool) → nat_le 64 (length c.fetched) ≡ full → nat_lt 0 s.head.waiting ≡ waits
        → (head_of x == tail_of x) ≡ read
        → if◌then◌else◌ {A = Result Turn ℕ} (full || not (not waits && read)) (Err 30)
        (Ok (turn_with (length c.fetched) s)) ≡ Ok turn → HasTurn c qid turn
    by true waits read a b e g = absurd (no-turn 30 turn g)
    by false true read a b e g = absurd (no-turn 30 turn g)
    by false false false a b e g = absurd (no-turn 30 turn g)
    by false false true a b e g = record {
      state = ready;
      submission = s;
      completion = x;
      submits = at;
      completes = to;
      few = leb-false 64 (length c.fetched) a;
      idle = (let none = ltb-false 0 s.head.waiting b in omega (arith, none));
      consumed = eqb-true (head_of x) (tail_of x) e;
      is = one-turn (turn_with (length c.fetched) s) turn g;
    }

at-queue : (c : Controller) (qid : ℕ) (turn : Turn) (o : Option SubmissionQueue)
    → c.registers.state ≡ Ready → submission_at c qid ≡ o → turn_at c o ≡ Ok turn → HasTurn c qid turn
at-queue c qid turn None ready at h = absurd (no-turn 28 turn h)
at-queue c qid turn (Some s) ready at h = between c qid turn s (completion_at c s.cqid) ready at refl h

pub has-turn : (c : Controller) (qid : ℕ) (turn : Turn) → turn_of c qid ≡ Ok turn → HasTurn c qid turn
has-turn c qid turn h = by (value_at c.registers 0x1c == 1) refl h
  where
    by : (b : Bool) → (value_at c.registers 0x1c == 1) ≡ b
        → if◌then◌else◌ {A = Result Turn ℕ} b (turn_at c (submission_at c qid)) (Err 29) ≡ Ok turn → HasTurn c qid turn
    by true e g = at-queue c qid turn (submission_at c qid) (ready-of c.registers e) refl g
    by false e g = absurd (no-turn 29 turn g)

-- Data of a command.

-- they are in the memory, but not in the slot of the entry
pub record Beside (start at count : ℕ) : Type 0 where
  pub inside : at + count ≤ window_size
  pub apart : (start + 64 ≤ at) ⊎ (at + count ≤ start)

no-fault : (why : ℕ) → (let fault : Option ℕ = Some why in fault ≡ None) → ⊥
no-fault why h = absurd (none-some _ (sym h))

pub beside : (start at count : ℕ) → data_fault start at count ≡ None → (count ≡ 0) ⊎ Beside start at count
beside start at count h = by (count == 0) (nat_le (at + count) window_size) (nat_lt at (start + 64))
    (nat_lt start (at + count)) refl refl refl refl h
  where
    by : (zero fits low high : Bool) → (count == 0) ≡ zero → nat_le (at + count) window_size ≡ fits
        → nat_lt at (start + 64) ≡ low → nat_lt start (at + count) ≡ high
        → if◌then◌else◌ {A = Option ℕ} zero None
        (if◌then◌else◌ {A = Option ℕ} (not fits) (Some 18) (if low && high then Some 51 else None)) ≡ None
        → (count ≡ 0) ⊎ Beside start at count
    by true fits low high z f l g e = inl (eqb-true count 0 z)
    by false false low high z f l g e = absurd (no-fault 18 e)
    by false true true true z f l g e = absurd (no-fault 51 e)
    by false true false high z f l g e = inr (record {
      inside = leb-true (at + count) window_size f;
      apart = inl (let above = ltb-false at (start + 64) l in omega (arith, above));
    })
    by false true true false z f l g e = inr (record {
      inside = leb-true (at + count) window_size f;
      apart = inr (let below = ltb-false start (at + count) g in omega (arith, below));
    })

pub record HasPlace (c : Controller) (qid at count : ℕ) (turn : Turn) : Type 0 where
  pub turn_is : turn_of c qid ≡ Ok turn
  pub no_fault : data_fault turn.entry_at at count ≡ None

pub has-place : (c : Controller) (qid at count : ℕ) (turn : Turn)
    → place_of c qid at count ≡ Ok turn → HasPlace c qid at count turn
has-place c qid at count turn h = by (turn_of c qid) refl h
  where
    found : (t : Turn) (fault : Option ℕ) → turn_of c qid ≡ Ok t → data_fault t.entry_at at count ≡ fault
        → turn_or t fault ≡ Ok turn → HasPlace c qid at count turn
    found t (Some why) is e g = absurd (no-turn why turn g)
    found t None is e g =
        let same : turn ≡ t = one-turn t turn g in
        subst (HasPlace c qid at count) (sym same) (record { turn_is = is; no_fault = e })

    by : (r : Result Turn ℕ) → turn_of c qid ≡ r → turn_beside r at count ≡ Ok turn → HasPlace c qid at count turn
    by (Err why) is g = absurd (no-turn why turn g)
    by (Ok t) is g = found t (data_fault t.entry_at at count) is refl g
