-- What each call does, by cases.
use Rattle.std.proofs.Common.{
  ◌≡◌,
  ◌⊎◌,
  inl,
  inr,
  ℕ,
  Bool,
  true,
  false,
  cond,
  List,
  [],
  ◌∷◌,
  Option,
  None,
  Some,
  Result,
  Ok,
  Err,
  refl,
}
use Rattle.nvme_pdu.specs.declared.fatal.Fatal.{Fatal}
use Rattle.nvme_transfers.specs.declared.command.Command.{Command}
use Rattle.nvme_transfers.specs.declared.part.Part.{Part}
use Rattle.nvme_transfers.specs.declared.part.Taken.{Taken}
use Rattle.nvme_transfers.specs.declared.transfer.Transfer.{Transfer}
use Rattle.nvme_transfers.specs.Parts.{fits, with_part, completed}
use Rattle.nvme_transfers.specs.States.{State}
use Rattle.nvme_transfers.specs.Transfers.{
  transfer_at,
  with_transfer,
  out_of_range,
  taken,
  taken_by,
  after_taking,
  after_part,
  free_tag,
  after_grant,
  after_request,
}
use Rattle.nvme_transfers.proofs.Fitting.{Fit, fit}

-- what a part does: it breaks the rules, or it is one of more, or the last of a command
pub data Took (s : State) (p : Part) (r : Result Taken Fatal) (t : State) : Type 0 where
  Breaks : r ≡ Err out_of_range → t ≡ s → Took s p r t
  More : (x : Transfer) → transfer_at s p.tag ≡ Some x → Fit x p → p.is_last ≡ false
      → r ≡ Ok (record { begin = p.offset; completed = None })
      → t ≡ with_transfer s p.tag (Some (with_part x p)) → Took s p r t
  Last : (x : Transfer) → transfer_at s p.tag ≡ Some x → Fit x p → p.is_last ≡ true
      → r ≡ Ok (record { begin = p.offset; completed = Some (completed (with_part x p)) })
      → t ≡ with_transfer s p.tag None → Took s p r t

pub took : (s : State) (p : Part) → Took s p (taken s p) (after_part s p)
took s p = elim (transfer_at s p.tag) as (λ o. transfer_at s p.tag ≡ o → Took s p (taken_by o p) (after_taking s o p)) [
  | None ↦ λ e. Breaks refl refl
  | Some x ↦ λ e. by-test x e (fits x p) refl
] refl where
  by-last : (x : Transfer) → transfer_at s p.tag ≡ Some x → Fit x p → (b : Bool) → p.is_last ≡ b
      → Took s p (Ok (record { begin = p.offset; completed = cond b (Some (completed (with_part x p))) None }))
      (with_transfer s p.tag (cond b None (Some (with_part x p))))
  by-last x e f true last = Last x e f last refl refl
  by-last x e f false last = More x e f last refl refl

  by-test : (x : Transfer) → transfer_at s p.tag ≡ Some x → (b : Bool) → fits x p ≡ b
      → Took s p (cond b (Ok (record {
        begin = p.offset;
        completed = cond p.is_last (Some (completed (with_part x p))) None;
      })) (Err out_of_range)) (cond b (with_transfer s p.tag (cond p.is_last None (Some (with_part x p)))) s)
  by-test x e true fitting = by-last x e (fit x p fitting) p.is_last refl
  by-test x e false fitting = Breaks refl refl

-- what asking for an R2T does: nothing, or the first command that waits gets the lowest free tag
pub data Asked (s t : State) (o : Option ℕ) (ws : List Command) : Type 0 where
  Nothing : t ≡ s → ((o ≡ None) ⊎ (ws ≡ [])) → Asked s t o ws
  Grants : (tag : ℕ) (c : Command) (cs : List Command) → o ≡ Some tag → ws ≡ c ∷ cs
      → t ≡ after_grant s (Some tag) (c ∷ cs) → Asked s t o ws

pub asked-by : (s : State) → Asked s (after_request s) (free_tag s.active) s.waiting
asked-by s = by-cases (free_tag s.active) s.waiting where
  by-cases : (o : Option ℕ) (ws : List Command) → Asked s (after_grant s o ws) o ws
  by-cases None ws = Nothing refl (inl refl)
  by-cases (Some tag) [] = Nothing refl (inr refl)
  by-cases (Some tag) (c ∷ cs) = Grants tag c cs refl refl refl
