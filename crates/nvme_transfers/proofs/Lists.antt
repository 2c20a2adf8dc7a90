-- Sums over lists, and parts in order.
use Rattle.std.proofs.Common.{◌≡◌, ℕ, ◌+◌, Bool, true, false, List, [], ◌∷◌, ◌++◌, arith, refl, sym, ap, subst, ◌∙◌}
use Rattle.std.specs.Prelude.{◌&&◌, ◌==◌}
use Rattle.nvme_transfers.specs.declared.command.Command.{Command}
use Rattle.nvme_transfers.specs.declared.part.Part.{Part}
use Rattle.nvme_transfers.specs.declared.transfer.Transfer.{Transfer}
use Rattle.nvme_transfers.specs.Laws.{IsPart, AreParts, all_sound, tally}
use Rattle.nvme_transfers.proofs.Fitting.{Fit}

pub tally-append : {A : Type 0} (w : A → ℕ) (xs ys : List A) → tally w (xs ++ ys) ≡ tally w xs + tally w ys
tally-append w [] ys = omega arith
tally-append w (x ∷ xs) ys = let e = tally-append w xs ys in omega (arith, e)

pub tally-last : {A : Type 0} (w : A → ℕ) (xs : List A) (x : A) → tally w (xs ++ x ∷ []) ≡ tally w xs + w x
tally-last w [] x = omega arith
tally-last w (y ∷ xs) x = let e = tally-last w xs x in omega (arith, e)

-- one more part
pub parts-last : (c : Command) (tag from : ℕ) (ps : List Part) (to end : ℕ) (p : Part)
    → AreParts c tag from ps to → IsPart c tag to p → to + p.length ≡ end → AreParts c tag from (ps ++ p ∷ []) end
parts-last c tag from [] to end p h is e =
    (subst (λ n. IsPart c tag n p) (sym h) is, ap (λ n. n + p.length) h ∙ e)
parts-last c tag from (q ∷ ps) to end p h is e = (h.0, parts-last c tag (from + q.length) ps to end p h.1 is e)

pub sound-last : (ps : List Part) (p : Part) → all_sound (ps ++ p ∷ []) ≡ (all_sound ps && p.is_sound)
sound-last [] p = by (p.is_sound) where
  by : (b : Bool) → (b && true) ≡ (true && b)
  by true = refl
  by false = refl
sound-last (q ∷ ps) p = ap (λ b. q.is_sound && b) (sound-last ps p) ∙ by q.is_sound (all_sound ps) p.is_sound where
  by : (a b c : Bool) → (a && (b && c)) ≡ ((a && b) && c)
  by true b c = refl
  by false b c = refl

-- a part that fits is the next one
pub part-of : (x : Transfer) (tag : ℕ) (p : Part) → Fit x p → p.tag ≡ tag → IsPart x.command tag x.count p
part-of x tag p f same = record {
  cid = f.cid;
  tag_is = same;
  offset = f.offset;
  some = f.some;
  within = let e = f.offset in omega (arith, e, f.within);
  last = f.last ∙ ap (λ n. n + p.length == x.command.length) f.offset;
}
