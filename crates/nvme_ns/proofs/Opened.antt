-- For the answer of `within`: the attachments of a configuration without a fault are a table.
use Rattle.std.proofs.Common.{
  ◌≡◌,
  ℕ,
  ◌+◌,
  ◌≤◌,
  ◌==◌,
  ◌&&◌,
  ◌||◌,
  Bool,
  true,
  false,
  not,
  List,
  [],
  ◌∷◌,
  length,
  map,
  refl,
  arith,
  eqb-true,
  ⊎_elim,
}
use Rattle.std.specs.Prelude.{nat_lt}
use Rattle.std.specs.List.{list_any, list_all, enumerate_from, AllByRecursion, IsDistinct}
use Rattle.std.proofs.lemmas.Bool.{cases_Bool, and_parts}
use Rattle.std.proofs.lemmas.Bool.Decides.{nat_tests}
use Rattle.nvme_spec.specs.declared.config.ControllerConfig.{ControllerConfig}
use Rattle.nvme_spec.specs.declared.config.NsConfig.{NsConfig}
use Rattle.nvme_spec.specs.Configuration.{
  Configuration,
  are_numbered,
  has_foreign_nsid,
  is_known,
  is_private,
  clash,
  has_bad_attachment,
  has_too_many,
}
use Rattle.nvme_spec.specs.World.{controller_host}
use Rattle.nvme_ns.specs.Attached.{HasSmallIds, IsPair, number, IsAttachmentTable}
use Rattle.nvme_ns.proofs.Attaching.{same, differ}

abbrev numbered_from : ℕ → List ControllerConfig → Bool
numbered_from i ks = list_all (λ p. p.1.cntlid == p.0 + 1) (enumerate_from i ks)

small-from : (i : ℕ) (ks : List ControllerConfig) → numbered_from i ks ≡ true → i + length ks ≤ 16
    → HasSmallIds (map controller_host ks)
small-from i [] h few = tt
small-from i (k ∷ ks) h few =
    let parts = and_parts (k.cntlid == i + 1) (numbered_from (i + 1) ks) h in
    let here : k.cntlid ≡ i + 1 = eqb-true _ _ parts.0 in
    (omega arith, small-from (i + 1) ks parts.1 (omega arith))

pub few : (c : Configuration) → has_too_many c ≡ false → length c.controllers ≤ 16
few c h = grind (arith, nat_tests)

pub small : (ks : List ControllerConfig) → are_numbered ks ≡ true → length ks ≤ 16
    → HasSmallIds (map controller_host ks)
small ks h f = small-from 0 ks h (omega arith)

numbered-known : (i c : ℕ) (ks : List ControllerConfig) → numbered_from i ks ≡ true → i + length ks ≤ 16
    → list_any (λ k. k.cntlid == c) ks ≡ true → (1 ≤ c) × (c ≤ 16)
numbered-known i c [] h f e = absurd (cc)
numbered-known i c (k ∷ ks) h f e =
    let parts = and_parts (k.cntlid == i + 1) (numbered_from (i + 1) ks) h in
    let here : k.cntlid ≡ i + 1 = eqb-true _ _ parts.0 in
    ⊎_elim {C = (1 ≤ c) × (c ≤ 16)}
    (λ (is : (k.cntlid == c) ≡ true). let one : k.cntlid ≡ c = eqb-true _ _ is in (omega arith, omega arith))
    (λ (no_ : (k.cntlid == c) ≡ false). numbered-known (i + 1) c ks parts.1 (omega arith) (rw no_ at e))
    (cases_Bool (k.cntlid == c))

neither : (a b : Bool) → (a || b) ≡ false → (a ≡ false) × (b ≡ false)
neither true b h = absurd (cc)
neither false b h = (refl, h)

nsid-known : (n : ℕ) (ns : List NsConfig) → has_foreign_nsid ns ≡ false → list_any (λ m. m.nsid == n) ns ≡ true
    → (1 ≤ n) × (n ≤ 8)
nsid-known n [] h e = absurd (cc)
nsid-known n (m ∷ ns) h e =
    let parts = neither ((m.nsid == 0) || nat_lt 8 m.nsid) (has_foreign_nsid ns) h in
    ⊎_elim {C = (1 ≤ n) × (n ≤ 8)}
    (λ (is : (m.nsid == n) ≡ true). in_range m.nsid n (eqb-true _ _ is) parts.0)
    (λ (no_ : (m.nsid == n) ≡ false). nsid-known n ns parts.1 (rw no_ at e))
    (cases_Bool (m.nsid == n))
  where
    in_range : (a b : ℕ) → a ≡ b → ((a == 0) || nat_lt 8 a) ≡ false → (1 ≤ b) × (b ≤ 8)
    in_range a b e h = (grind (arith, nat_tests), grind (arith, nat_tests))

was_true : (b : Bool) → not b ≡ false → b ≡ true
was_true true h = refl
was_true false h = absurd (cc)

apart : (c : Configuration) (a : ℕ × ℕ) (rest : List (ℕ × ℕ)) → IsPair a → AllByRecursion IsPair rest
    → list_any (clash c a) rest ≡ false
    → AllByRecursion (λ m. same (number a) m ≡ false) (map number rest)
apart c a [] p q h = tt
apart c a (b ∷ rest) p q h =
    let parts = neither (clash c a b) (list_any (clash c a) rest) h in
    (differ a b p q.0 (unlike b.0 a.0 b.1 a.1 (is_private c a.1) parts.0), apart c a rest p q.1 parts.1)
  where
    unlike : (m n k l : ℕ) (private : Bool) → ((k == l) && ((m == n) || private)) ≡ false
        → ((n == m) && (l == k)) ≡ false
    unlike m n k l private h = grind (arith, nat_tests)

pub opened : (c : Configuration) (table : List (ℕ × ℕ)) → has_bad_attachment c table ≡ false
    → are_numbered c.controllers ≡ true → length c.controllers ≤ 16
    → has_foreign_nsid c.namespaces ≡ false → IsAttachmentTable table
unfolding IsDistinct
opened c [] h n f k = (tt, tt)
opened c (a ∷ rest) h n f k =
    let last = neither (not (is_known c a) || list_any (clash c a) rest) (has_bad_attachment c rest) h in
    let first = neither (not (is_known c a)) (list_any (clash c a) rest) last.0 in
    let known = and_parts (list_any (λ x. x.cntlid == a.0) c.controllers) (list_any (λ x. x.nsid == a.1) c.namespaces)
    (was_true (is_known c a) first.0) in
    let controller = numbered-known 0 a.0 c.controllers n (omega arith) known.0 in
    let namespace = nsid-known a.1 c.namespaces k known.1 in
    let pair : IsPair a = (controller.0, controller.1, namespace.0, namespace.1) in
    let later = opened c rest last.1 n f k in
    ((pair, later.0), (apart c a rest pair later.0 first.1, later.1))
