-- Which commands are in flight after each call, by sums.
use Rattle.std.proofs.Common.{
  ◌≡◌,
  ℕ,
  ◌+◌,
  ◌≤◌,
  Bool,
  true,
  false,
  cond,
  List,
  [],
  ◌∷◌,
  ◌++◌,
  Option,
  None,
  Some,
  Result,
  Ok,
  Err,
  arith,
  refl,
  ap,
  subst,
  ◌∙◌,
}
use Rattle.std.specs.Prelude.{◌==◌, ◌||◌, nat_le, length}
use Rattle.std.proofs.lemmas.Bool.{eqb-true}
use Rattle.nvme_pdu.specs.declared.fatal.Fatal.{Fatal}
use Rattle.nvme_transfers.specs.declared.command.Command.{Command}
use Rattle.nvme_transfers.specs.declared.command.Refused.{Refused}
use Rattle.nvme_transfers.specs.declared.command.Refused.TheVariants as refused
use Rattle.nvme_transfers.specs.declared.part.Part.{Part}
use Rattle.nvme_transfers.specs.declared.part.Taken.{Taken}
use Rattle.nvme_transfers.specs.declared.part.Completed.{Completed}
use Rattle.nvme_transfers.specs.declared.transfer.Transfer.{Transfer}
use Rattle.nvme_transfers.specs.Parts.{cid_of, with_part}
use Rattle.nvme_transfers.specs.States.{State}
use Rattle.nvme_transfers.specs.Transfers.{
  has,
  has_active,
  has_waiting,
  admitted,
  waits_if,
  free_tag,
  after_grant,
  after_request,
  with_transfer,
  taken,
  after_part,
}
use Rattle.nvme_transfers.specs.Runs.{
  Call,
  Begins,
  Requests,
  Takes,
  Ends,
  Whole,
  state_after,
  begun_if,
  begun,
  commands_of,
  in_flight,
  dropped,
  whole_of,
  whole_if,
  parts_at,
  complete,
}
use Rattle.nvme_transfers.specs.Laws.{CommandsOnce, OneOfEach, is_of, tally}
use Rattle.nvme_transfers.proofs.Lists.{tally-append, tally-last}
use Rattle.nvme_transfers.proofs.Slots.{free-at, sum-granted, sum-gone, commands-kept}
use Rattle.nvme_transfers.proofs.Steps.{Took, Breaks, More, Last, took}

pub sum-flight : (w : Command → ℕ) (s : State)
    → tally w (in_flight s) ≡ tally w (commands_of s.active) + tally w s.waiting
sum-flight w s = tally-append w (commands_of s.active) s.waiting

-- an R2T moves a command
pub sum-requests : (w : Command → ℕ) (s : State) → tally w (in_flight (after_request s)) ≡ tally w (in_flight s)
sum-requests w s = by (free_tag s.active) s.waiting refl refl where
  by : (o : Option ℕ) (ws : List Command) → free_tag s.active ≡ o → s.waiting ≡ ws
      → tally w (in_flight (after_grant s o ws)) ≡ tally w (in_flight s)
  by None ws free first = refl
  by (Some tag) [] free first = refl
  by (Some tag) (c ∷ cs) free first =
      let a = sum-granted w s.active tag (record { command = c; count = 0; is_sound = true })
      (free-at s.active tag free) in
      let b = sum-flight w (after_grant s (Some tag) (c ∷ cs)) in
      let d = sum-flight w s in
      let e : tally w s.waiting ≡ w c + tally w cs = ap (tally w) first in
      omega (arith, a, b, d, e)

-- a part completes a command, or none
abbrev pub done_of : (Command → ℕ) → Option Completed → ℕ
done_of w None = 0
done_of w (Some done) = w done.command

abbrev pub done_by : (Command → ℕ) → Result Taken Fatal → ℕ
done_by w (Ok t) = done_of w t.completed
done_by w (Err e) = 0

pub sum-takes : (w : Command → ℕ) (s : State) (p : Part)
    → tally w (in_flight s) ≡ done_by w (taken s p) + tally w (in_flight (after_part s p))
sum-takes w s p = by (taken s p) (after_part s p) (took s p) where
  by : (r : Result Taken Fatal) (t : State) → Took s p r t
      → tally w (in_flight s) ≡ done_by w r + tally w (in_flight t)
  by r t (Breaks ri ti) = rw (ri, ti) (omega arith)
  by r t (More x at f last ri ti) =
      let a : tally w (in_flight t) ≡ tally w (in_flight s) =
      ap (λ t. tally w (in_flight t)) ti
      ∙ ap (λ cs. tally w (cs ++ s.waiting)) (commands-kept s.active p.tag x (with_part x p) at refl) in
      let b : done_by w r ≡ 0 = ap (done_by w) ri in
      omega (arith, a, b)
  by r t (Last x at f last ri ti) =
      let a = sum-gone w s.active p.tag x at in
      let b : tally w (in_flight t) ≡ tally w (in_flight (with_transfer s p.tag None)) =
      ap (λ t. tally w (in_flight t)) ti in
      let d = sum-flight w (with_transfer s p.tag None) in
      let e = sum-flight w s in
      let g : done_by w r ≡ w x.command = ap (done_by w) ri in
      omega (arith, a, b, d, e, g)

-- ---- each once

whole-weight : (w : Command → ℕ) (r : Result Taken Fatal) (p : Part) (ps : List Part)
    → tally (λ (v : Whole). w v.command) (whole_if r p ps) ≡ done_by w r
whole-weight w (Err e) p ps = refl
whole-weight w (Ok t) p ps = by t.completed where
  by : (o : Option Completed) → tally (λ (v : Whole). w v.command) (whole_of o p ps) ≡ done_of w o
  by None = refl
  by (Some done) = omega arith

begins-weight : (w : Command → ℕ) (s : State) (c : Command) (r : Result (Unit {0}) Refused)
    → tally w (in_flight (waits_if r s c)) ≡ tally w (in_flight s) + tally w (begun_if r c)
begins-weight w s c (Ok u) =
    let a = sum-flight w s in
    let b = sum-flight w (waits_if (Ok u) s c) in
    let d = tally-last w s.waiting c in
    omega (arith, a, b, d)
begins-weight w s c (Err e) = omega arith

pub commands-once : CommandsOnce
commands-once [] w = refl
commands-once (call ∷ run) w = by call (commands-once run w) where
  v : Whole → ℕ
  v x = w x.command

  by : (call : Call)
      → tally w (begun run) ≡ tally (λ (x : Whole). w x.command) (complete run)
      + (tally w (in_flight (state_after run)) + tally w (dropped run))
      → tally w (begun (call ∷ run)) ≡ tally (λ (x : Whole). w x.command) (complete (call ∷ run))
      + (tally w (in_flight (state_after (call ∷ run))) + tally w (dropped (call ∷ run)))
  by (Begins c) h =
      let a = begins-weight w (state_after run) c (admitted (state_after run) c) in
      let b = tally-append w (begun run) (begun_if (admitted (state_after run) c) c) in
      let d = tally-append (λ (x : Whole). w x.command) (complete run) [] in
      let e = tally-append w (dropped run) [] in
      omega (arith, a, b, d, e, h)
  by Requests h =
      let a = sum-requests w (state_after run) in
      let b = tally-append w (begun run) [] in
      let d = tally-append (λ (x : Whole). w x.command) (complete run) [] in
      let e = tally-append w (dropped run) [] in
      omega (arith, a, b, d, e, h)
  by (Takes p) h =
      let a = sum-takes w (state_after run) p in
      let b = tally-append w (begun run) [] in
      let d = tally-append (λ (x : Whole). w x.command) (complete run)
      (whole_if (taken (state_after run) p) p (parts_at run p.tag)) in
      let e = tally-append w (dropped run) [] in
      let g = whole-weight w (taken (state_after run) p) p (parts_at run p.tag) in
      omega (arith, a, b, d, e, g, h)
  by Ends h =
      let b = tally-append w (begun run) [] in
      let d = tally-append (λ (x : Whole). w x.command) (complete run) [] in
      let e = tally-append w (dropped run) (in_flight (state_after run)) in
      omega (arith, b, d, e, h)

-- ---- identifiers

neither : (a b : Bool) → (a || b) ≡ false → (a ≡ false) × (b ≡ false)
neither true b h = absurd (cc)
neither false b h = (refl, h)

no-active : (cid : ℕ) (active : List (Option Transfer)) → has_active active cid ≡ false
    → tally (is_of cid) (commands_of active) ≡ 0
no-active cid [] h = refl
no-active cid (None ∷ active) h = no-active cid active h
no-active cid (Some x ∷ active) h =
    let p = neither (cid_of x.command == cid) (has_active active cid) h in
    let e = no-active cid active p.1 in
    rw p.0 (omega (arith, e))

no-waiting : (cid : ℕ) (waiting : List Command) → has_waiting waiting cid ≡ false → tally (is_of cid) waiting ≡ 0
no-waiting cid [] h = refl
no-waiting cid (c ∷ cs) h =
    let p = neither (cid_of c == cid) (has_waiting cs cid) h in
    let e = no-waiting cid cs p.1 in
    rw p.0 (omega (arith, e))

new-flight : (s : State) (cid : ℕ) → has s cid ≡ false → tally (is_of cid) (in_flight s) ≡ 0
new-flight s cid h =
    let parts = neither (has_active s.active cid) (has_waiting s.waiting cid) h in
    let a = no-active cid s.active parts.0 in
    let b = no-waiting cid s.waiting parts.1 in
    let d = sum-flight (is_of cid) s in
    omega (arith, a, b, d)

admitted-new : (s : State) (c : Command) (u : Unit {0}) → admitted s c ≡ Ok u → has s (cid_of c) ≡ false
admitted-new s c u h = by s.has_ended (c.length == 0) (has s (cid_of c)) h where
  by : (a b d : Bool) → cond a (Err refused.Ended) (cond b (Err refused.NoData) (cond d (Err refused.InFlight)
      (cond (nat_le 64 (length s.waiting)) (Err refused.NoRoom) (Ok tt)))) ≡ Ok u → d ≡ false
  by true b d h = absurd (cc)
  by false true d h = absurd (cc)
  by false false true h = absurd (cc)
  by false false false h = refl

one-more : (s : State) (c : Command) (cid : ℕ) → has s (cid_of c) ≡ false → tally (is_of cid) (in_flight s) ≤ 1
    → tally (is_of cid) (in_flight s) + is_of cid c ≤ 1
one-more s c cid new one = by (cid_of c == cid) refl where
  by : (b : Bool) → (cid_of c == cid) ≡ b → tally (is_of cid) (in_flight s) + cond b 1 0 ≤ 1
  by true e =
      let same : cid_of c ≡ cid = eqb-true (cid_of c) cid e in
      let none : tally (is_of cid) (in_flight s) ≡ 0 =
      new-flight s cid (subst (λ n. has s n ≡ false) same new) in
      omega (arith, none)
  by false e = omega (arith, one)

pub one-of-each : OneOfEach
one-of-each [] cid = omega arith
one-of-each (call ∷ run) cid = by call (one-of-each run cid) where
  begins-if : (c : Command) (r : Result (Unit {0}) Refused) → admitted (state_after run) c ≡ r
      → tally (is_of cid) (in_flight (state_after run)) ≤ 1
      → tally (is_of cid) (in_flight (waits_if r (state_after run) c)) ≤ 1
  begins-if c (Ok u) is one =
      let a = begins-weight (is_of cid) (state_after run) c (Ok u) in
      let b = one-more (state_after run) c cid (admitted-new (state_after run) c u is) one in
      omega (arith, a, b)
  begins-if c (Err e) is one = one

  by : (call : Call) → tally (is_of cid) (in_flight (state_after run)) ≤ 1
      → tally (is_of cid) (in_flight (state_after (call ∷ run))) ≤ 1
  by (Begins c) one = begins-if c (admitted (state_after run) c) refl one
  by Requests one = let a = sum-requests (is_of cid) (state_after run) in omega (arith, a, one)
  by (Takes p) one = let a = sum-takes (is_of cid) (state_after run) p in omega (arith, a, one)
  by Ends one = omega arith
