-- For `marking.rt`: if no host was removed, nothing is marked.
use Rattle.std.proofs.Common.{◌≡◌, ℕ, ◌+◌, false, List, [], ◌∷◌, length, Option, None, Some, refl, sym, ap, ◌∙◌, arith}
use Rattle.std.specs.Prelude.{if◌then◌else◌}
use Rattle.nvme_spec.specs.declared.outcome.Marks.{Marks}
use Rattle.nvme_spec.specs.World.{World, host_of}
use Rattle.nvme_machine.specs.Controllers.{Controller, with_marks}
use Rattle.nvme_machine.specs.Subsystems.{is_host_among, marked_from}

not_one : (hosts : List ℕ) (o : Option ℕ) → hosts ≡ [] → is_host_among hosts o ≡ false
not_one hosts None none = refl
not_one hosts (Some host) none = ap (λ xs. is_host_among xs (Some host)) none

all-as-they-are : (w : World) (m : Marks) (k : ℕ) (cs : List Controller)
    → m.hosts.items ≡ [] → marked_from w m k cs ≡ cs
all-as-they-are w m k [] none = refl
all-as-they-are w m k (c ∷ cs) none =
    ap (λ b. (if b then with_marks m.nsid c else c) ∷ marked_from w m (k + 1) cs)
    (not_one m.hosts.items (host_of w k) none)
    ∙ ap (λ rest. c ∷ rest) (all-as-they-are w m (k + 1) cs none)

empty : (xs : List ℕ) → length xs ≡ 0 → xs ≡ []
empty [] h = refl
empty (x ∷ xs) h = absurd (omega (arith, h))

pub nobody_is_marked : (w : World) (m : Marks) (k : ℕ) (cs : List Controller)
    → length m.hosts.items ≡ 0 → cs ≡ marked_from w m k cs
nobody_is_marked w m k cs none = sym (all-as-they-are w m k cs (empty m.hosts.items none))
