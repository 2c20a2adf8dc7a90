-- For `right_parts_complete`: right parts complete their command.
use Rattle.std.proofs.Common.{
  ◌≡◌,
  inl,
  inr,
  ℕ,
  ◌+◌,
  ◌<◌,
  Bool,
  true,
  false,
  cond,
  List,
  [],
  ◌∷◌,
  ◌++◌,
  Option,
  None,
  Some,
  Result,
  Ok,
  Err,
  arith,
  refl,
  sym,
  ap,
  subst,
  ◌∙◌,
}
use Rattle.std.specs.Prelude.{◌==◌, ◌&&◌}
use Rattle.std.proofs.lemmas.Bool.{eqb-true, eqb-false}
use Rattle.std.proofs.lemmas.Option.{none-some}
use Rattle.nvme_pdu.specs.declared.fatal.Fatal.{Fatal}
use Rattle.nvme_transfers.specs.declared.command.Command.{Command}
use Rattle.nvme_transfers.specs.declared.command.Refused.{Refused}
use Rattle.nvme_transfers.specs.declared.part.Part.{Part}
use Rattle.nvme_transfers.specs.declared.part.Taken.{Taken}
use Rattle.nvme_transfers.specs.declared.part.Completed.{Completed}
use Rattle.nvme_transfers.specs.declared.transfer.Transfer.{Transfer}
use Rattle.nvme_transfers.specs.Parts.{begun as begun_now, with_part, completed}
use Rattle.nvme_transfers.specs.States.{State}
use Rattle.nvme_transfers.specs.Transfers.{
  admitted,
  waits_if,
  free_tag,
  after_grant,
  after_request,
  with_transfer,
  transfer_at,
  out_of_range,
  taken_of,
  taken_by,
  taken,
  after_taking,
  after_part,
}
use Rattle.nvme_transfers.specs.Runs.{Call, Begins, Requests, Takes, Ends, after}
use Rattle.nvme_transfers.specs.Laws.{
  IsPart,
  AreParts,
  all_sound,
  parts_with,
  CompletesBy,
  Completes,
  RightPartsComplete,
}
use Rattle.nvme_transfers.proofs.Fitting.{Fit, fits-if}
use Rattle.nvme_transfers.proofs.Slots.{set-here, set-other, free-at, free-none}
use Rattle.nvme_transfers.proofs.Steps.{Took, Breaks, More, Last, took}

-- ---- what other calls leave

after-begins : (s : State) (c : Command) (tag : ℕ) (r : Result (Unit {0}) Refused)
    → transfer_at (waits_if r s c) tag ≡ transfer_at s tag
after-begins s c tag (Ok u) = refl
after-begins s c tag (Err e) = refl

-- a free tag is not that of a command
not-free : (s : State) (tag free : ℕ) (x : Transfer) → transfer_at s tag ≡ Some x → free_tag s.active ≡ Some free
    → free ≡ tag → ⊥
not-free s tag free x at is same =
    none-some _ (sym (free-none s.active free (free-at s.active free is))
    ∙ subst (λ n. transfer_at s n ≡ Some x) (sym same) at)

after-requests : (s : State) (tag : ℕ) (x : Transfer) → transfer_at s tag ≡ Some x
    → transfer_at (after_request s) tag ≡ Some x
after-requests s tag x at = by (free_tag s.active) s.waiting refl where
  by : (o : Option ℕ) (ws : List Command) → free_tag s.active ≡ o → transfer_at (after_grant s o ws) tag ≡ Some x
  by None ws is = at
  by (Some free) [] is = at
  by (Some free) (c ∷ cs) is =
      set-other s.active free tag (Some (begun_now c)) (not-free s tag free x at is) ∙ at

after-others : (s : State) (p : Part) (tag : ℕ) → (p.tag ≡ tag → ⊥)
    → transfer_at (after_part s p) tag ≡ transfer_at s tag
after-others s p tag isnt = by (taken s p) (after_part s p) (took s p) where
  by : (r : Result Taken Fatal) (t : State) → Took s p r t → transfer_at t tag ≡ transfer_at s tag
  by r t (Breaks ri ti) = ap (λ t. transfer_at t tag) ti
  by r t (More x at f last ri ti) =
      ap (λ t. transfer_at t tag) ti ∙ set-other s.active p.tag tag (Some (with_part x p)) isnt
  by r t (Last x at f last ri ti) = ap (λ t. transfer_at t tag) ti ∙ set-other s.active p.tag tag None isnt

-- ---- a right part

fit-of : (x : Transfer) (tag : ℕ) (p : Part) → IsPart x.command tag x.count p → Fit x p
fit-of x tag p h = record {
  cid = h.cid;
  offset = h.offset;
  some = h.some;
  within = let e = h.offset in omega (arith, e, h.within);
  last = h.last ∙ ap (λ n. n + p.length == x.command.length) (sym h.offset);
}

taken-right : (s : State) (x : Transfer) (p : Part) → transfer_at s p.tag ≡ Some x → Fit x p
    → taken s p ≡ Ok (taken_of x p)
taken-right s x p at f =
    ap (λ o. taken_by o p) at ∙ ap (λ b. cond b (Ok (taken_of x p)) (Err out_of_range)) (fits-if x p f)

after-right : (s : State) (x : Transfer) (p : Part) → transfer_at s p.tag ≡ Some x → Fit x p
    → after_part s p ≡ with_transfer s p.tag (cond p.is_last None (Some (with_part x p)))
after-right s x p at f =
    ap (λ o. after_taking s o p) at
    ∙ ap (λ b. cond b (with_transfer s p.tag (cond p.is_last None (Some (with_part x p)))) s) (fits-if x p f)

no-more : (c : Command) (tag from : ℕ) (ps : List Part) (to : ℕ) → AreParts c tag from ps to → from ≡ c.length → ps ≡ []
no-more c tag from [] to h e = refl
no-more c tag from (p ∷ ps) to h e = absurd (omega (arith, h.0.some, h.0.within, e))

and-true : (a b : Bool) → (a && (b && true)) ≡ (a && b)
and-true true true = refl
and-true true false = refl
and-true false b = refl

and-assoc : (a b c : Bool) → ((a && b) && c) ≡ (a && (b && c))
and-assoc true b c = refl
and-assoc false b c = refl

-- what is completed if all goes rightly from here
abbrev Done : Transfer → List Part → Completed
Done x ps = record { command = x.command; is_sound = x.is_sound && all_sound ps }

-- it completes by these calls, from any state in which its tag has it
abbrev Next : ℕ → List Call → Type 0
Next tag calls = (s : State) (x : Transfer) → transfer_at s tag ≡ Some x → x.count < x.command.length
    → AreParts x.command tag x.count (parts_with tag calls) x.command.length
    → Completes s tag (Done x (parts_with tag calls)) calls

by-last : (s : State) (tag : ℕ) (x : Transfer) (p : Part) (calls : List Call) → transfer_at s p.tag ≡ Some x
    → Fit x p → p.tag ≡ tag → p.is_last ≡ true → parts_with tag calls ≡ []
    → CompletesBy s tag (Done x (p ∷ parts_with tag calls)) (Takes p)
by-last s tag x p calls at f same last none = (
  same,
  taken-right s x p at f
      ∙ ap (λ b. Ok (record { begin = p.offset; completed = cond b (Some (completed (with_part x p))) None })) last
      ∙ ap (λ b. Ok (record {
        begin = p.offset;
        completed = Some (record { command = x.command; is_sound = b });
      })) (sym (ap (λ ps. x.is_sound && (p.is_sound && all_sound ps)) none ∙ and-true x.is_sound p.is_sound)),
)

by-more : (s : State) (tag : ℕ) (x : Transfer) (p : Part) (calls : List Call) → transfer_at s p.tag ≡ Some x
    → Fit x p → p.tag ≡ tag → p.is_last ≡ false → x.count + p.length < x.command.length
    → AreParts x.command tag (x.count + p.length) (parts_with tag calls) x.command.length → Next tag calls
    → Completes (after_part s p) tag (Done x (p ∷ parts_with tag calls)) calls
by-more s tag x p calls at f same last small parts next =
    let now : transfer_at (after_part s p) p.tag ≡ Some (with_part x p) =
    ap (λ t. transfer_at t p.tag) (after-right s x p at f)
    ∙ set-here s.active p.tag x (cond p.is_last None (Some (with_part x p))) at
    ∙ ap (λ b. cond b None (Some (with_part x p))) last in
    subst (λ b. Completes (after_part s p) tag (record { command = x.command; is_sound = b }) calls)
    (and-assoc x.is_sound p.is_sound (all_sound (parts_with tag calls)))
    (next (after_part s p) (with_part x p) (subst (λ n. transfer_at (after_part s p) n ≡ Some (with_part x p)) same now)
    small parts)

own-part : (s : State) (tag : ℕ) (x : Transfer) (p : Part) (calls : List Call) → transfer_at s tag ≡ Some x
    → p.tag ≡ tag → AreParts x.command tag x.count (p ∷ parts_with tag calls) x.command.length → Next tag calls
    → Completes s tag (Done x (p ∷ parts_with tag calls)) (Takes p ∷ calls)
own-part s tag x p calls at same h next = by p.is_last refl where
  here : transfer_at s p.tag ≡ Some x
  here = subst (λ n. transfer_at s n ≡ Some x) (sym same) at

  by : (b : Bool) → p.is_last ≡ b → Completes s tag (Done x (p ∷ parts_with tag calls)) (Takes p ∷ calls)
  by true last =
      let end : x.count + p.length ≡ x.command.length =
      eqb-true (x.count + p.length) x.command.length (sym h.0.last ∙ last) in
      inl (by-last s tag x p calls (subst (λ n. transfer_at s n ≡ Some x) (sym same) at) (fit-of x tag p h.0) same last
      (no-more x.command tag (x.count + p.length) (parts_with tag calls) x.command.length h.1 end))
  by false last =
      let not_end = eqb-false (x.count + p.length) x.command.length (sym h.0.last ∙ last) in
      let small : x.count + p.length < x.command.length = omega (arith, h.0.within, not_end) in
      inr (by-more s tag x p calls (subst (λ n. transfer_at s n ≡ Some x) (sym same) at) (fit-of x tag p h.0) same last
      small h.1 next)

a-part : (s : State) (tag : ℕ) (x : Transfer) (p : Part) (calls : List Call) → transfer_at s tag ≡ Some x
    → x.count < x.command.length
    → (b : Bool) → (p.tag == tag) ≡ b
    → AreParts x.command tag x.count (cond b (p ∷ []) [] ++ parts_with tag calls) x.command.length → Next tag calls
    → Completes s tag (Done x (cond b (p ∷ []) [] ++ parts_with tag calls)) (Takes p ∷ calls)
a-part s tag x p calls at less true e h next = own-part s tag x p calls at (eqb-true p.tag tag e) h next
a-part s tag x p calls at less false e h next =
    inr (next (after_part s p) x (after-others s p tag (eqb-false p.tag tag e) ∙ at) less h)

pub right-parts-complete : RightPartsComplete
right-parts-complete s tag x [] at less no_end h = absurd (omega (arith, less, h))
right-parts-complete s tag x (Begins c ∷ calls) at less no_end h =
    inr (right-parts-complete (after s (Begins c)) tag x calls (after-begins s c tag (admitted s c) ∙ at) less no_end.1
    h)
right-parts-complete s tag x (Requests ∷ calls) at less no_end h =
    inr (right-parts-complete (after s Requests) tag x calls (after-requests s tag x at) less no_end.1 h)
right-parts-complete s tag x (Takes p ∷ calls) at less no_end h =
    a-part s tag x p calls at less (p.tag == tag) refl h
    (λ t y is small parts. right-parts-complete t tag y calls is small no_end.1 parts)
right-parts-complete s tag x (Ends ∷ calls) at less no_end h = absurd no_end.0
