-- For proofs about opened subsystems: a subsystem that opens with an accepted configuration is laid out.
use Rattle.std.proofs.Common.{
  ◌≡◌,
  ◌≢◌,
  inl,
  inr,
  ℕ,
  ◌+◌,
  ◌≤◌,
  ◌==◌,
  Bool,
  true,
  false,
  cond,
  List,
  [],
  ◌∷◌,
  Option,
  None,
  Some,
  refl,
  sym,
  ◌∙◌,
  arith,
  nat_lt,
}
use Rattle.std.specs.Prelude.{find, option_map, if◌then◌else◌}
use Rattle.std.proofs.lemmas.List.Sums.{sum_by-cons}
use Rattle.std.proofs.lemmas.Bool.{eqb-true, ltb-false}
use Rattle.nvme_spec.specs.declared.access.Protection.TheVariants.{Open}
use Rattle.nvme_spec.specs.declared.config.NsConfig.{NsConfig}
use Rattle.nvme_spec.specs.Configuration.{
  Configuration,
  Capacity,
  config_fault,
  total_blocks,
  has_too_many,
  has_bad_id,
  has_bad_size,
}
use Rattle.nvme_spec.specs.World.{Namespace, namespace_of, laid_out, opening_world}
use Rattle.nvme_spec.specs.Reservation.{unreserved}
use Rattle.nvme_spec.specs.declared.config.ConfigFault.TheVariants.{TooMany, BadId, BadSize, DoesNotFit}
use Rattle.nvme_spec.specs.Layout.{Extent, extent_of, AreApart, OpeningIsLaidOut}

abbrev extent : Namespace → Extent
extent space = record { first = space.first; blocks = space.blocks }

abbrev found : ℕ → List Namespace → Option Extent
found n spaces = option_map extent (find (λ m. m.nsid == n) spaces)

-- the extent that is found begins at or after the first block, and ends within the total
bounds : (n first : ℕ) (ns : List NsConfig) (x : Extent) → found n (laid_out first ns) ≡ Some x
    → (first ≤ x.first) × (x.first + x.blocks ≤ first + total_blocks ns)
bounds n first [] x is = absurd (cc)
bounds n first (m ∷ ms) x is =
    let r = by (m.nsid == n) is (bounds n (first + m.blocks) ms x) in
    let total = sum_by-cons (λ (y : NsConfig). y.blocks) m ms in
    (r.0, omega (arith, r.1, total))
  where
    by : (b : Bool) → option_map extent (cond b (Some (record {
      nsid = m.nsid;
      first = first;
      blocks = m.blocks;
      shared = m.shared;
      protection = Open;
      reservation = unreserved;
    })) (find (λ y. y.nsid == n) (laid_out (first + m.blocks) ms))) ≡ Some x
        → (found n (laid_out (first + m.blocks) ms) ≡ Some x
        → (first + m.blocks ≤ x.first) × (x.first + x.blocks ≤ first + m.blocks + total_blocks ms))
        → (first ≤ x.first) × (x.first + x.blocks ≤ first + (m.blocks + total_blocks ms))
    by true e rest = let a : first ≡ x.first = cc in let b : m.blocks ≡ x.blocks = cc in
        (omega (arith, a), omega (arith, a, b))
    by false e rest = let r = rest e in (omega (arith, r.0), omega (arith, r.1))

both-found : (n m first : ℕ) (ns : List NsConfig) (x y : Extent) → n ≢ m → found n (laid_out first ns) ≡ Some x
    → found m (laid_out first ns) ≡ Some y → AreApart x y
both-found n m first [] x y other p q = absurd (cc)
both-found n m first (z ∷ zs) x y other p q =
    by (z.nsid == n) refl (z.nsid == m) refl p q (both-found n m (first + z.blocks) zs x y other)
  where
    by : (a : Bool) → (z.nsid == n) ≡ a → (b : Bool) → (z.nsid == m) ≡ b
        → option_map extent (cond a (Some (record {
          nsid = z.nsid;
          first = first;
          blocks = z.blocks;
          shared = z.shared;
          protection = Open;
          reservation = unreserved;
        })) (find (λ w. w.nsid == n) (laid_out (first + z.blocks) zs))) ≡ Some x
        → option_map extent (cond b (Some (record {
          nsid = z.nsid;
          first = first;
          blocks = z.blocks;
          shared = z.shared;
          protection = Open;
          reservation = unreserved;
        })) (find (λ w. w.nsid == m) (laid_out (first + z.blocks) zs))) ≡ Some y
        → (found n (laid_out (first + z.blocks) zs) ≡ Some x → found m (laid_out (first + z.blocks) zs) ≡ Some y
        → AreApart x y)
        → AreApart x y
    by true e true f p q rest = absurd (other (sym (eqb-true z.nsid n e) ∙ eqb-true z.nsid m f))
    by true e false f p q rest =
        let a : first ≡ x.first = cc in
        let b : z.blocks ≡ x.blocks = cc in
        let r = bounds m (first + z.blocks) zs y q in
        inl (omega (arith, a, b, r.0))
    by false e true f p q rest =
        let a : first ≡ y.first = cc in
        let b : z.blocks ≡ y.blocks = cc in
        let r = bounds n (first + z.blocks) zs x p in
        inr (omega (arith, a, b, r.0))
    by false e false f p q rest = rest p q

accepted : (a b d e : Bool) → (if a then Some TooMany else
    (if b then Some BadId else (if d then Some BadSize else (if e then Some DoesNotFit else None)))) ≡ None → e ≡ false
accepted true b d e h = absurd (cc)
accepted false true d e h = absurd (cc)
accepted false false true e h = absurd (cc)
accepted false false false true h = absurd (cc)
accepted false false false false h = refl

total-fits : (c : Configuration) (size : Capacity)
    → config_fault c size ≡ None → total_blocks c.namespaces ≤ size.medium
unfolding config_fault
total-fits c size h = ltb-false _ _ (accepted (has_too_many c) (has_bad_id c) (has_bad_size size c.namespaces)
    (nat_lt size.medium (total_blocks c.namespaces)) h)

pub opening_is_laid_out : OpeningIsLaidOut
unfolding extent_of namespace_of opening_world
opening_is_laid_out c size content whole good =
    let total = total-fits c size good in
    record {
      within = λ n x is. let b = bounds n 0 c.namespaces x is in omega (arith, b.1, total, whole);
      apart = λ n m x y other p q. both-found n m 0 c.namespaces x y other p q;
    }
