-- Statements of `laws/attachments.rt`: the controllers of a namespace after a list was attached, or detached (Base
-- Specification: Namespace Attachment command).
use Rattle.std.specs.Prelude.{◌≡◌, ◌==◌, ℕ, not, ◌&&◌, ◌||◌, Bool, List}
use Rattle.std.specs.List.{list_any}
use Rattle.nvme_spec.specs.World.{World, is_attached}
use Rattle.nvme_spec.specs.Attachments.{with_attached, without_attached}

-- the controller is one of these
abbrev pub is_one_of : ℕ → List ℕ → Bool
is_one_of cntlid controllers = list_any (λ c. c == cntlid) controllers

-- the former ones and the listed ones
abbrev pub AddsTheListed : Type 0
AddsTheListed =
    (w : World) → (nsid : ℕ) → (controllers : List ℕ) → (cntlid n : ℕ)
    → is_attached (with_attached w nsid controllers) cntlid n
    ≡ (is_attached w cntlid n || (is_one_of cntlid controllers && nsid == n))

-- the former ones without the listed ones
abbrev pub RemovesTheListed : Type 0
RemovesTheListed =
    (w : World) → (nsid : ℕ) → (controllers : List ℕ) → (cntlid n : ℕ)
    → is_attached (without_attached w nsid controllers) cntlid n
    ≡ (is_attached w cntlid n && not (n == nsid && is_one_of cntlid controllers))
