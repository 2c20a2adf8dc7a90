-- For the answer of `within`: namespaces one after the other on the medium, and their total of blocks.
use Rattle.std.proofs.Common.{
  ◌≡◌,
  ℕ,
  ◌+◌,
  ◌*◌,
  ◌<◌,
  ◌≤◌,
  Bool,
  true,
  false,
  ◌||◌,
  ◌==◌,
  nat_lt,
  List,
  [],
  ◌∷◌,
  ◌++◌,
  length,
  take,
  get_or,
  refl,
  ap,
  sym,
  ◌∙◌,
  arith,
  add-zero,
}
use Rattle.std.proofs.lemmas.List.{take_more}
use Rattle.std.proofs.lemmas.List.Sums.{sum_by-cons}
use Rattle.std.proofs.lemmas.Bool.Decides.{nat_tests}
use Rattle.nvme_spec.specs.declared.access.Protection.TheVariants.{Open}
use Rattle.nvme_spec.specs.declared.config.NsConfig.{NsConfig}
use Rattle.nvme_spec.specs.Reservation.{unreserved}
use Rattle.nvme_spec.specs.Configuration.{total_blocks}
use Rattle.nvme_spec.specs.World.{Namespace, laid_out, LiesWithin}

-- a namespace that begins at a block
abbrev pub placed : ℕ → NsConfig → Namespace
placed first n = record {
  nsid = n.nsid;
  first = first;
  blocks = n.blocks;
  shared = n.shared;
  protection = Open;
  reservation = unreserved;
}

total-cons : (n : NsConfig) (ns : List NsConfig) → total_blocks (n ∷ ns) ≡ n.blocks + total_blocks ns
total-cons n ns = sum_by-cons (λ m. m.blocks) n ns

-- the next namespace follows the others
laid_out-push : (first : ℕ) (ns : List NsConfig) (n : NsConfig)
    → laid_out first (ns ++ n ∷ []) ≡ laid_out first ns ++ placed (first + total_blocks ns) n ∷ []
laid_out-push first [] n = ap (λ k. placed k n ∷ []) (sym (add-zero first))
laid_out-push first (m ∷ ns) n =
    let at : first + m.blocks + total_blocks ns ≡ first + total_blocks (m ∷ ns) = omega (arith, total-cons m ns) in
    ap (λ rest. placed first m ∷ rest)
    (laid_out-push (first + m.blocks) ns n ∙ ap (λ k. laid_out (first + m.blocks) ns ++ placed k n ∷ []) at)

pub laid_out-more : (ns : List NsConfig) (i : ℕ) (d : NsConfig) (first : ℕ) (table : List Namespace)
    → i < length ns → first ≡ total_blocks (take i ns) → table ≡ laid_out 0 (take i ns)
    → table ++ placed first (get_or ns i d) ∷ [] ≡ laid_out 0 (take (i + 1) ns)
laid_out-more ns i d first table below at so_far =
    let behind : 0 + total_blocks (take i ns) ≡ total_blocks (take i ns) = omega arith in
    rw (take_more ns i d below, laid_out-push 0 (take i ns) (get_or ns i d), behind, so_far, at) refl

-- namespaces with at most as many blocks together as the medium are within it
pub LiesWithin-laid_out : (size first : ℕ) (ns : List NsConfig)
    → first + total_blocks ns ≤ size → LiesWithin size (laid_out first ns)
LiesWithin-laid_out size first [] fits = tt
LiesWithin-laid_out size first (n ∷ ns) fits =
    (omega (arith, total-cons n ns), LiesWithin-laid_out size (first + n.blocks) ns (omega (arith, total-cons n ns)))
