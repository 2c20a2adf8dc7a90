-- For `own_data`: what the command of each tag has was sent for it, whole and in place.
use Rattle.std.proofs.Common.{
  ◌≡◌,
  ℕ,
  ◌+◌,
  true,
  false,
  cond,
  List,
  [],
  ◌∷◌,
  ◌++◌,
  Option,
  None,
  Some,
  Result,
  Ok,
  Err,
  arith,
  refl,
  sym,
  ap,
  subst,
  ◌∙◌,
}
use Rattle.std.specs.Prelude.{◌==◌, ◌&&◌}
use Rattle.std.proofs.lemmas.Bool.{eqb-true, eqb-false}
use Rattle.nvme_pdu.specs.declared.fatal.Fatal.{Fatal}
use Rattle.nvme_transfers.specs.declared.command.Command.{Command}
use Rattle.nvme_transfers.specs.declared.command.Refused.{Refused}
use Rattle.nvme_transfers.specs.declared.part.Part.{Part}
use Rattle.nvme_transfers.specs.declared.part.Taken.{Taken}
use Rattle.nvme_transfers.specs.declared.transfer.Transfer.{Transfer}
use Rattle.nvme_transfers.specs.Parts.{begun as begun_now, with_part}
use Rattle.nvme_transfers.specs.States.{State}
use Rattle.nvme_transfers.specs.Transfers.{
  admitted,
  waits_if,
  free_tag,
  after_grant,
  after_request,
  with_transfer,
  transfer_at,
  taken,
  after_part,
  out_of_range,
}
use Rattle.nvme_transfers.specs.Runs.{
  Call,
  Begins,
  Requests,
  Takes,
  Ends,
  Whole,
  state_after,
  with_taken,
  whole_if,
  completes,
  complete,
  parts_at,
}
use Rattle.nvme_transfers.specs.Laws.{AreParts, all_sound, AreWhole, OwnData}
use Rattle.nvme_transfers.proofs.Fitting.{Fit}
use Rattle.nvme_transfers.proofs.Lists.{parts-last, sound-last, part-of}
use Rattle.nvme_transfers.proofs.Slots.{set-here, set-free, set-other, free-at, free-none}
use Rattle.nvme_transfers.proofs.Steps.{Took, Breaks, More, Last, took}
use Rattle.nvme_transfers.proofs.Ordered.{no-transfer}

-- what a tag's command has is what it was sent
pub record Has (x : Transfer) (tag : ℕ) (ps : List Part) : Type 0 where
  pub parts : AreParts x.command tag 0 ps x.count
  pub sound : x.is_sound ≡ all_sound ps

abbrev HasOf : Option Transfer → ℕ → List Part → Type 0
HasOf None tag ps = ps ≡ []
HasOf (Some x) tag ps = Has x tag ps

abbrev AllHave : State → (ℕ → List Part) → Type 0
AllHave s of = (tag : ℕ) → HasOf (transfer_at s tag) tag (of tag)

one-more : (x : Transfer) (tag : ℕ) (ps : List Part) (p : Part) → Has x tag ps → Fit x p → p.tag ≡ tag
    → Has (with_part x p) tag (ps ++ p ∷ [])
one-more x tag ps p h f same = record {
  parts = parts-last x.command tag 0 ps x.count (x.count + p.length) p h.parts (part-of x tag p f same) refl;
  sound = ap (λ b. b && p.is_sound) h.sound ∙ sym (sound-last ps p);
}

have-granted : (s : State) (of : ℕ → List Part) → AllHave s of → AllHave (after_request s) of
have-granted s of h = by (free_tag s.active) s.waiting refl where
  by : (o : Option ℕ) (ws : List Command) → free_tag s.active ≡ o → AllHave (after_grant s o ws) of
  by None ws free = h
  by (Some tag) [] free = h
  by (Some tag) (c ∷ cs) free = λ u. elim (tag == u) as (λ b. (tag == u) ≡ b
      → HasOf (transfer_at (after_grant s (Some tag) (c ∷ cs)) u) u (of u)) [
        | true ↦ λ e.
            let same : tag ≡ u = eqb-true tag u e in
            let free_here = free-at s.active tag free in
            let empty : of tag ≡ [] = subst (λ o. HasOf o tag (of tag)) (free-none s.active tag free_here) (h tag) in
            subst (λ n. HasOf (transfer_at (after_grant s (Some tag) (c ∷ cs)) n) n (of n)) same
            (subst (λ o. HasOf o tag (of tag)) (sym (set-free s.active tag (Some (begun_now c)) free_here))
            (subst (λ ps. Has (begun_now c) tag ps) (sym empty) (record { parts = refl; sound = refl })))
        | false ↦ λ e. subst (λ o. HasOf o u (of u))
            (sym (set-other s.active tag u (Some (begun_now c)) (eqb-false tag u e))) (h u)
      ] refl

-- a tag's parts after a part was taken
abbrev pub Then : Part → Result Taken Fatal → (ℕ → List Part) → ℕ → List Part
Then p r of tag = cond (p.tag == tag) (with_taken r p (of tag)) (of tag)

have-set : (s : State) (p : Part) (of : ℕ → List Part) (x : Transfer) (y : Option Transfer) (new : List Part)
    → transfer_at s p.tag ≡ Some x → AllHave s of → HasOf y p.tag new
    → AllHave (with_transfer s p.tag y) (λ u. cond (p.tag == u) new (of u))
have-set s p of x y new at h here u = elim (p.tag == u) as (λ b. (p.tag == u) ≡ b
    → HasOf (transfer_at (with_transfer s p.tag y) u) u (cond b new (of u))) [
      | true ↦ λ e. subst (λ n. HasOf (transfer_at (with_transfer s p.tag y) n) n new) (eqb-true p.tag u e)
          (subst (λ o. HasOf o p.tag new) (sym (set-here s.active p.tag x y at)) here)
      | false ↦ λ e. subst (λ o. HasOf o u (of u)) (sym (set-other s.active p.tag u y (eqb-false p.tag u e))) (h u)
    ] refl

has-at : (s : State) (of : ℕ → List Part) (tag : ℕ) (x : Transfer) → transfer_at s tag ≡ Some x → AllHave s of
    → Has x tag (of tag)
has-at s of tag x at h = subst (λ o. HasOf o tag (of tag)) at (h tag)

pub same-parts : (p : Part) (of : ℕ → List Part) (e : Fatal) (u : ℕ) → Then p (Err e) of u ≡ of u
same-parts p of e u = elim (p.tag == u) as (λ b. cond b (of u) (of u) ≡ of u) [ true ↦ refl | false ↦ refl ]

-- of the part's own tag
pub own-then : (p : Part) (r : Result Taken Fatal) (of : ℕ → List Part) (new : List Part)
    → with_taken r p (of p.tag) ≡ new → (u : ℕ) → Then p r of u ≡ cond (p.tag == u) new (of u)
own-then p r of new is u = elim (p.tag == u) as (λ b. (p.tag == u) ≡ b
    → cond b (with_taken r p (of u)) (of u) ≡ cond b new (of u)) [
      | true ↦ λ e. subst (λ n. with_taken r p (of n) ≡ new) (eqb-true p.tag u e) is
      | false ↦ λ e. refl
    ] refl

have-taken : (s : State) (p : Part) (of : ℕ → List Part) → AllHave s of
    → AllHave (after_part s p) (Then p (taken s p) of)
have-taken s p of h = by (taken s p) (after_part s p) (took s p) where
  by : (r : Result Taken Fatal) (t : State) → Took s p r t → AllHave t (Then p r of)
  by r t (Breaks ri ti) = λ u.
      subst (λ t. HasOf (transfer_at t u) u (Then p r of u)) (sym ti)
      (subst (λ r. HasOf (transfer_at s u) u (Then p r of u)) (sym ri)
      (subst (λ ps. HasOf (transfer_at s u) u ps) (sym (same-parts p of out_of_range u)) (h u)))
  by r t (More x at f last ri ti) = λ u.
      subst (λ t. HasOf (transfer_at t u) u (Then p r of u)) (sym ti)
      (subst (λ ps. HasOf (transfer_at (with_transfer s p.tag (Some (with_part x p))) u) u ps)
      (sym (own-then p r of (of p.tag ++ p ∷ []) (ap (λ r. with_taken r p (of p.tag)) ri) u))
      (have-set s p of x (Some (with_part x p)) (of p.tag ++ p ∷ []) at h
      (one-more x p.tag (of p.tag) p (has-at s of p.tag x at h) f refl) u))
  by r t (Last x at f last ri ti) = λ u.
      subst (λ t. HasOf (transfer_at t u) u (Then p r of u)) (sym ti)
      (subst (λ ps. HasOf (transfer_at (with_transfer s p.tag None) u) u ps)
      (sym (own-then p r of [] (ap (λ r. with_taken r p (of p.tag)) ri) u))
      (have-set s p of x None [] at h refl u))

pub all-have : (run : List Call) → AllHave (state_after run) (parts_at run)
all-have [] = λ u. subst (λ o. HasOf o u []) (sym (no-transfer u)) refl
all-have (call ∷ run) = by call (all-have run) where
  begins-if : (c : Command) (r : Result (Unit {0}) Refused) → AllHave (state_after run) (parts_at run)
      → AllHave (waits_if r (state_after run) c) (parts_at run)
  begins-if c (Ok u) h = h
  begins-if c (Err e) h = h

  by : (call : Call) → AllHave (state_after run) (parts_at run)
      → AllHave (state_after (call ∷ run)) (parts_at (call ∷ run))
  by (Begins c) h = begins-if c (admitted (state_after run) c) h
  by Requests h = have-granted (state_after run) (parts_at run) h
  by (Takes p) h = have-taken (state_after run) p (parts_at run) h
  by Ends h = λ u. subst (λ o. HasOf o u []) (sym (no-transfer u)) refl

whole-last : (ws vs : List Whole) → AreWhole ws → AreWhole vs → AreWhole (ws ++ vs)
whole-last [] vs a b = b
whole-last (w ∷ ws) vs a b = (a.0, whole-last ws vs a.1 b)

-- the last part ends where the data end
pub ends-there : (x : Transfer) (p : Part) → Fit x p → p.is_last ≡ true → x.count + p.length ≡ x.command.length
ends-there x p f last =
    let e : p.offset + p.length ≡ x.command.length =
    eqb-true (p.offset + p.length) x.command.length (sym f.last ∙ last) in
    omega (arith, e, f.offset)

now-whole : (s : State) (p : Part) (of : ℕ → List Part) → AllHave s of
    → AreWhole (whole_if (taken s p) p (of p.tag))
now-whole s p of h = by (taken s p) (after_part s p) (took s p) where
  by : (r : Result Taken Fatal) (t : State) → Took s p r t → AreWhole (whole_if r p (of p.tag))
  by r t (Breaks ri ti) = subst (λ r. AreWhole (whole_if r p (of p.tag))) (sym ri) tt
  by r t (More x at f last ri ti) = subst (λ r. AreWhole (whole_if r p (of p.tag))) (sym ri) tt
  by r t (Last x at f last ri ti) =
      let all = one-more x p.tag (of p.tag) p (has-at s of p.tag x at h) f refl in
      subst (λ r. AreWhole (whole_if r p (of p.tag))) (sym ri) (
        record {
          parts = subst (λ n. AreParts x.command p.tag 0 (of p.tag ++ p ∷ []) n) (ends-there x p f last) all.parts;
          is_sound = all.sound;
        },
        tt,
      )

pub own-data : OwnData
own-data [] = tt
own-data (call ∷ run) = whole-last (complete run) (completes run call) (own-data run) (by call) where
  by : (call : Call) → AreWhole (completes run call)
  by (Begins c) = tt
  by Requests = tt
  by (Takes p) = now-whole (state_after run) p (parts_at run) (all-have run)
  by Ends = tt
