-- For `each_once`: each part that is taken counts once.
use Rattle.std.proofs.Common.{
  ◌≡◌,
  inl,
  inr,
  ℕ,
  zero,
  suc,
  ◌+◌,
  ◌<◌,
  cond,
  List,
  [],
  ◌∷◌,
  ◌++◌,
  length,
  Option,
  None,
  Some,
  Result,
  Ok,
  Err,
  arith,
  refl,
  sym,
  ap,
  subst,
  ◌∙◌,
}
use Rattle.std.specs.Prelude.{◌==◌}
use Rattle.std.proofs.lemmas.Bool.{cases_eq, eq-eqb, ne_eqb}
use Rattle.std.proofs.lemmas.Option.{none-some}
use Rattle.nvme_pdu.specs.declared.fatal.Fatal.{Fatal}
use Rattle.nvme_transfers.specs.declared.command.Command.{Command}
use Rattle.nvme_transfers.specs.declared.command.Refused.{Refused}
use Rattle.nvme_transfers.specs.declared.part.Part.{Part}
use Rattle.nvme_transfers.specs.declared.part.Taken.{Taken}
use Rattle.nvme_transfers.specs.declared.transfer.Transfer.{Transfer}
use Rattle.nvme_transfers.specs.Parts.{begun as begun_now}
use Rattle.nvme_transfers.specs.States.{State}
use Rattle.nvme_transfers.specs.Transfers.{out_of_range, admitted, waits_if, free_tag, after_grant, taken, after_part}
use Rattle.nvme_transfers.specs.Runs.{
  Call,
  Begins,
  Requests,
  Takes,
  Ends,
  Whole,
  state_after,
  part_if,
  parts,
  with_taken,
  parts_at,
  parts_below,
  held,
  lost,
  whole_if,
  complete,
}
use Rattle.nvme_transfers.specs.Laws.{PartsOnce, tally}
use Rattle.nvme_transfers.proofs.Lists.{tally-append, tally-last}
use Rattle.nvme_transfers.proofs.Slots.{at, set-length}
use Rattle.nvme_transfers.proofs.Steps.{Took, Breaks, More, Last, took}
use Rattle.nvme_transfers.proofs.OwnParts.{Then, same-parts, own-then}

-- ---- sums over tags

below-same : (w : Part → ℕ) (n : ℕ) (f g : ℕ → List Part) → ((i : ℕ) → i < n → f i ≡ g i)
    → tally w (parts_below n f) ≡ tally w (parts_below n g)
below-same w zero f g same = refl
below-same w (suc n) f g same =
    let a = tally-append w (parts_below n f) (f n) in
    let b = tally-append w (parts_below n g) (g n) in
    let d = below-same w n f g (λ i h. same i (omega arith)) in
    let e : tally w (f n) ≡ tally w (g n) = ap (tally w) (same n (omega arith)) in
    omega (arith, a, b, d, e)

below-one : (w : Part → ℕ) (n : ℕ) (f g : ℕ → List Part) (t a b : ℕ) → t < n
    → ((i : ℕ) → (t ≡ i → ⊥) → f i ≡ g i) → tally w (f t) + a ≡ tally w (g t) + b
    → tally w (parts_below n f) + a ≡ tally w (parts_below n g) + b
below-one w zero f g t a b small same here = absurd (omega arith)
below-one w (suc n) f g t a b small same here =
    let fs = tally-append w (parts_below n f) (f n) in
    let gs = tally-append w (parts_below n g) (g n) in
    elim (cases_eq t n) [
      | inl is ↦
          let below = below-same w n f g (λ i h. same i (λ e. absurd (omega arith))) in
          let at_n : tally w (f n) + a ≡ tally w (g n) + b =
          subst (λ k. tally w (f k) + a ≡ tally w (g k) + b) is here in
          omega (arith, fs, gs, below, at_n)
      | inr isnt ↦
          let smaller : t < n = omega (arith, small, isnt) in
          let below = below-one w n f g t a b smaller same here in
          let at_n : tally w (f n) ≡ tally w (g n) = ap (tally w) (same n isnt) in
          omega (arith, fs, gs, below, at_n)
    ]

-- ---- there are eight tags

within : (xs : List (Option Transfer)) (i : ℕ) (x : Transfer) → at xs i ≡ Some x → i < length xs
within [] i x h = absurd (none-some _ h)
within (z ∷ xs) zero x h = omega arith
within (z ∷ xs) (suc i) x h = let e = within xs i x h in omega (arith, e)

eight : (run : List Call) → length (state_after run).active ≡ 8
eight [] = refl
eight (call ∷ run) = by call (eight run) where
  begins-if : (c : Command) (r : Result (Unit {0}) Refused) → length (state_after run).active ≡ 8
      → length (waits_if r (state_after run) c).active ≡ 8
  begins-if c (Ok u) h = h
  begins-if c (Err e) h = h

  grants : (o : Option ℕ) (ws : List Command) → length (state_after run).active ≡ 8
      → length (after_grant (state_after run) o ws).active ≡ 8
  grants None ws h = h
  grants (Some tag) [] h = h
  grants (Some tag) (c ∷ cs) h = set-length (state_after run).active tag (Some (begun_now c)) ∙ h

  takes-it : (p : Part) (r : Result Taken Fatal) (t : State) → Took (state_after run) p r t
      → length (state_after run).active ≡ 8 → length t.active ≡ 8
  takes-it p r t (Breaks ri ti) h = ap (λ (t : State). length t.active) ti ∙ h
  takes-it p r t (More x is f last ri ti) h =
      ap (λ (t : State). length t.active) ti ∙ set-length (state_after run).active p.tag _ ∙ h
  takes-it p r t (Last x is f last ri ti) h =
      ap (λ (t : State). length t.active) ti ∙ set-length (state_after run).active p.tag None ∙ h

  by : (call : Call) → length (state_after run).active ≡ 8 → length (state_after (call ∷ run)).active ≡ 8
  by (Begins c) h = begins-if c (admitted (state_after run) c) h
  by Requests h = grants (free_tag (state_after run).active) (state_after run).waiting h
  by (Takes p) h =
      takes-it p (taken (state_after run) p) (after_part (state_after run) p) (took (state_after run) p) h
  by Ends h = refl

-- ---- one part

-- what a part adds is what its tag has more, with what has become whole
one-part : (w : Part → ℕ) (s : State) (p : Part) (of : ℕ → List Part) → length s.active ≡ 8
    → tally w (parts_below 8 of) + tally w (part_if (taken s p) p)
    ≡ tally w (parts_below 8 (Then p (taken s p) of))
    + tally (λ (v : Whole). tally w v.parts) (whole_if (taken s p) p (of p.tag))
one-part w s p of n = by (taken s p) (after_part s p) (took s p) where
  same-below : (r : Result Taken Fatal) (new : List Part) → with_taken r p (of p.tag) ≡ new
      → tally w (parts_below 8 (Then p r of)) ≡ tally w (parts_below 8 (λ u. cond (p.tag == u) new (of u)))
  same-below r new is =
      below-same w 8 (Then p r of) (λ u. cond (p.tag == u) new (of u)) (λ i h. own-then p r of new is i)

  other : (new : List Part) (i : ℕ) → (p.tag ≡ i → ⊥) → of i ≡ cond (p.tag == i) new (of i)
  other new i isnt = rw (ne_eqb p.tag i isnt) refl

  here : (new : List Part) → cond (p.tag == p.tag) new (of p.tag) ≡ new
  here new = rw (eq-eqb p.tag p.tag refl) refl

  by : (r : Result Taken Fatal) (t : State) → Took s p r t
      → tally w (parts_below 8 of) + tally w (part_if r p)
      ≡ tally w (parts_below 8 (Then p r of)) + tally (λ (v : Whole). tally w v.parts) (whole_if r p (of p.tag))
  by r t (Breaks ri ti) =
      let a = below-same w 8 (Then p (Err out_of_range) of) of (λ i h. same-parts p of out_of_range i) in
      subst (λ r. tally w (parts_below 8 of) + tally w (part_if r p)
      ≡ tally w (parts_below 8 (Then p r of)) + tally (λ (v : Whole). tally w v.parts) (whole_if r p (of p.tag)))
      (sym ri) (omega (arith, a))
  by r t (More x is f last ri ti) =
      let new : List Part = of p.tag ++ p ∷ [] in
      let small : p.tag < 8 = let e = within s.active p.tag x is in omega (arith, e, n) in
      let a = tally-last w (of p.tag) p in
      let h : tally w (cond (p.tag == p.tag) new (of p.tag)) ≡ tally w new = ap (tally w) (here new) in
      let b = below-one w 8 of (λ u. cond (p.tag == u) new (of u)) p.tag (w p) 0 small (other new)
      (omega (arith, a, h)) in
      let d = same-below r new (ap (λ r. with_taken r p (of p.tag)) ri) in
      let e : tally w (part_if r p) ≡ w p + 0 = ap (λ r. tally w (part_if r p)) ri in
      let g : tally (λ (v : Whole). tally w v.parts) (whole_if r p (of p.tag)) ≡ 0 =
      ap (λ r. tally (λ (v : Whole). tally w v.parts) (whole_if r p (of p.tag))) ri in
      omega (arith, b, d, e, g)
  by r t (Last x is f last ri ti) =
      let small : p.tag < 8 = let e = within s.active p.tag x is in omega (arith, e, n) in
      let a = tally-last w (of p.tag) p in
      let h : tally w (cond (p.tag == p.tag) [] (of p.tag)) ≡ 0 = ap (tally w) (here []) in
      let b = below-one w 8 of (λ u. cond (p.tag == u) [] (of u)) p.tag 0 (tally w (of p.tag)) small (other [])
      (omega (arith, h)) in
      let d = same-below r [] (ap (λ r. with_taken r p (of p.tag)) ri) in
      let e : tally w (part_if r p) ≡ w p + 0 = ap (λ r. tally w (part_if r p)) ri in
      let g : tally (λ (v : Whole). tally w v.parts) (whole_if r p (of p.tag)) ≡ tally w (of p.tag ++ p ∷ []) + 0 =
      ap (λ r. tally (λ (v : Whole). tally w v.parts) (whole_if r p (of p.tag))) ri in
      omega (arith, a, b, d, e, g)

none-below : (w : Part → ℕ) (n : ℕ) → tally w (parts_below n (λ u. [])) ≡ 0
none-below w zero = refl
none-below w (suc n) =
    let a = tally-append w (parts_below n (λ u. [])) [] in
    let b = none-below w n in
    omega (arith, a, b)

pub parts-once : PartsOnce
parts-once [] w = none-below w 8
parts-once (call ∷ run) w = by call (parts-once run w) where
  by : (call : Call)
      → tally w (parts run) ≡ tally (λ (v : Whole). tally w v.parts) (complete run)
      + (tally w (held run) + tally w (lost run))
      → tally w (parts (call ∷ run)) ≡ tally (λ (v : Whole). tally w v.parts) (complete (call ∷ run))
      + (tally w (held (call ∷ run)) + tally w (lost (call ∷ run)))
  by (Begins c) h =
      let a = tally-append w (parts run) [] in
      let b = tally-append (λ (v : Whole). tally w v.parts) (complete run) [] in
      let d = tally-append w (lost run) [] in
      let e = below-same w 8 (parts_at (Begins c ∷ run)) (parts_at run) (λ i h. refl) in
      omega (arith, a, b, d, e, h)
  by Requests h =
      let a = tally-append w (parts run) [] in
      let b = tally-append (λ (v : Whole). tally w v.parts) (complete run) [] in
      let d = tally-append w (lost run) [] in
      let e = below-same w 8 (parts_at (Requests ∷ run)) (parts_at run) (λ i h. refl) in
      omega (arith, a, b, d, e, h)
  by (Takes p) h =
      let s : State = state_after run in
      let a = tally-append w (parts run) (part_if (taken (state_after run) p) p) in
      let b = tally-append (λ (v : Whole). tally w v.parts) (complete run)
      (whole_if (taken (state_after run) p) p (parts_at run p.tag)) in
      let d = tally-append w (lost run) [] in
      let e = below-same w 8 (parts_at (Takes p ∷ run)) (Then p (taken (state_after run) p) (parts_at run))
      (λ i h. refl) in
      let g = one-part w (state_after run) p (parts_at run) (eight run) in
      omega (arith, a, b, d, e, g, h)
  by Ends h =
      let a = tally-append w (parts run) [] in
      let b = tally-append (λ (v : Whole). tally w v.parts) (complete run) [] in
      let d = tally-append w (lost run) (held run) in
      let e = below-same w 8 (parts_at (Ends ∷ run)) (λ u. []) (λ i h. refl) in
      let g = none-below w 8 in
      omega (arith, a, b, d, e, g, h)
