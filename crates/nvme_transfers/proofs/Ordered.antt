-- For `in_order`: R2Ts are sent in the order of the commands, and identifiers in flight are distinct.
use Rattle.std.proofs.Common.{
  ◌≡◌,
  ◌⊎◌,
  inl,
  inr,
  ℕ,
  zero,
  suc,
  List,
  [],
  ◌∷◌,
  ◌++◌,
  Option,
  None,
  Some,
  Result,
  Ok,
  Err,
  refl,
  sym,
  ap,
  append_assoc,
  ◌∙◌,
}
use Rattle.std.proofs.lemmas.List.{append-nil}
use Rattle.nvme_transfers.specs.declared.command.Command.{Command}
use Rattle.nvme_transfers.specs.declared.command.Refused.{Refused}
use Rattle.nvme_transfers.specs.declared.part.Part.{Part}
use Rattle.nvme_transfers.specs.States.{State}
use Rattle.nvme_transfers.specs.Transfers.{
  ended,
  admitted,
  waits_if,
  free_tag,
  after_grant,
  transfer_at,
  taken,
  after_part,
}
use Rattle.nvme_transfers.specs.Runs.{
  Call,
  Begins,
  Requests,
  Takes,
  Ends,
  after,
  state_after,
  begun_if,
  begun,
  asked,
  requested,
  unasked,
}
use Rattle.nvme_transfers.specs.Laws.{InOrder}
use Rattle.nvme_transfers.proofs.Steps.{Took, Breaks, More, Last, took}

-- ---- the end

-- no tag has a command after the end
pub no-transfer : (tag : ℕ) → transfer_at ended tag ≡ None
no-transfer zero = refl
no-transfer (suc zero) = refl
no-transfer (suc (suc zero)) = refl
no-transfer (suc (suc (suc zero))) = refl
no-transfer (suc (suc (suc (suc zero)))) = refl
no-transfer (suc (suc (suc (suc (suc zero))))) = refl
no-transfer (suc (suc (suc (suc (suc (suc zero)))))) = refl
no-transfer (suc (suc (suc (suc (suc (suc (suc zero))))))) = refl
no-transfer (suc (suc (suc (suc (suc (suc (suc (suc tag)))))))) = refl

pub no-part : (p : Part) → after_part ended p ≡ ended
no-part p = rw (no-transfer p.tag) refl

pub stays-ended : (call : Call) → after ended call ≡ ended
stays-ended (Begins c) = refl
stays-ended Requests = refl
stays-ended (Takes p) = no-part p
stays-ended Ends = refl

-- ---- the order

-- what waits is kept by a part
pub waits-kept : (s : State) (p : Part) → (after_part s p).waiting ≡ s.waiting
waits-kept s p = by (took s p) where
  by : Took s p (taken s p) (after_part s p) → (after_part s p).waiting ≡ s.waiting
  by (Breaks r t) = ap (λ (s : State). s.waiting) t
  by (More x at f last r t) = ap (λ (s : State). s.waiting) t
  by (Last x at f last r t) = ap (λ (s : State). s.waiting) t

-- none was dropped without an R2T, unless the connection has ended
none-unasked : (run : List Call) → (unasked run ≡ []) ⊎ (state_after run ≡ ended)
none-unasked [] = inl refl
none-unasked (call ∷ run) = elim (none-unasked run) [
  | inl empty ↦ by call empty
  | inr over ↦ inr (ap (λ s. after s call) over ∙ stays-ended call)
] where
  by : (call : Call) → unasked run ≡ [] → (unasked (call ∷ run) ≡ []) ⊎ (state_after (call ∷ run) ≡ ended)
  by (Begins c) empty = inl (append-nil (unasked run) ∙ empty)
  by Requests empty = inl (append-nil (unasked run) ∙ empty)
  by (Takes p) empty = inl (append-nil (unasked run) ∙ empty)
  by Ends empty = inr refl

-- lists after a call: B those that began, R those that were asked, U those dropped unasked, W those that wait
same-lists : (B R U W : List Command) → B ≡ R ++ (U ++ W) → B ++ [] ≡ (R ++ []) ++ ((U ++ []) ++ W)
same-lists B R U W h = rw (append-nil B, append-nil R, append-nil U) h

one-begins : (B R U W : List Command) (c : Command) → B ≡ R ++ (U ++ W)
    → B ++ c ∷ [] ≡ (R ++ []) ++ ((U ++ []) ++ (W ++ c ∷ []))
one-begins B R U W c h =
    rw (append-nil R, append-nil U) (ap (λ xs. xs ++ c ∷ []) h ∙ append_assoc R (U ++ W) (c ∷ [])
    ∙ ap (λ xs. R ++ xs) (append_assoc U W (c ∷ [])))

one-asked : (B R U W : List Command) (c : Command) (cs : List Command) → B ≡ R ++ (U ++ W) → W ≡ c ∷ cs → U ≡ []
    → B ++ [] ≡ (R ++ c ∷ []) ++ ((U ++ []) ++ cs)
one-asked B R U W c cs h first empty =
    append-nil B ∙ h ∙ ap (λ U. R ++ (U ++ W)) empty ∙ ap (λ W. R ++ W) first ∙ sym (append_assoc R (c ∷ []) cs)
    ∙ ap (λ U. (R ++ c ∷ []) ++ ((U ++ []) ++ cs)) (sym empty)

all-end : (B R U W : List Command) → B ≡ R ++ (U ++ W) → B ++ [] ≡ (R ++ []) ++ ((U ++ W) ++ [])
all-end B R U W h = rw (append-nil B, append-nil R, append-nil (U ++ W)) h

not-ended : (s : State) (c : Command) (cs : List Command) → s.waiting ≡ c ∷ cs → s ≡ ended → ⊥
not-ended s c cs first over = let e : [] ≡ c ∷ cs = sym (ap (λ (s : State). s.waiting) over) ∙ first in absurd (cc)

pub in-order : InOrder
in-order [] = refl
in-order (call ∷ run) = by call (in-order run) where
  s : State
  s = state_after run

  begins-if : (c : Command) (r : Result (Unit {0}) Refused)
      → begun run ≡ requested run ++ (unasked run ++ (state_after run).waiting)
      → begun run ++ begun_if r c ≡ (requested run ++ []) ++ ((unasked run ++ []) ++ (waits_if r (state_after run)
      c).waiting)
  begins-if c (Ok u) h = one-begins (begun run) (requested run) (unasked run) (state_after run).waiting c h
  begins-if c (Err e) h = same-lists (begun run) (requested run) (unasked run) (state_after run).waiting h

  asks-if : (o : Option ℕ) (ws : List Command) → (state_after run).waiting ≡ ws
      → begun run ≡ requested run ++ (unasked run ++ (state_after run).waiting)
      → begun run ++ [] ≡ (requested run ++ asked o ws) ++ ((unasked run ++ [])
      ++ (after_grant (state_after run) o ws).waiting)
  asks-if None ws e h = same-lists (begun run) (requested run) (unasked run) (state_after run).waiting h
  asks-if (Some tag) [] e h = same-lists (begun run) (requested run) (unasked run) (state_after run).waiting h
  asks-if (Some tag) (c ∷ cs) e h =
      one-asked (begun run) (requested run) (unasked run) (state_after run).waiting c cs h e (elim (none-unasked run) [
        | inl empty ↦ empty
        | inr over ↦ absurd (not-ended (state_after run) c cs e over)
      ])

  by : (call : Call) → begun run ≡ requested run ++ (unasked run ++ (state_after run).waiting)
      → begun (call ∷ run) ≡ requested (call ∷ run) ++ (unasked (call ∷ run) ++ (state_after (call ∷ run)).waiting)
  by (Begins c) h = begins-if c (admitted (state_after run) c) h
  by Requests h = asks-if (free_tag (state_after run).active) (state_after run).waiting refl h
  by (Takes p) h =
      same-lists (begun run) (requested run) (unasked run) (after_part (state_after run) p).waiting
      (rw (waits-kept (state_after run) p) h)
  by Ends h = all-end (begun run) (requested run) (unasked run) (state_after run).waiting h
