-- For the answers to queries: the controller of a query, as each program with a subsystem finds it.
use Rattle.std.proofs.Common.{◌≡◌, ℕ, List, Option, None, Some, sym, ap, ◌∙◌}
use Rattle.std.specs.Prelude.{IfNone, IfSome, option_and_then, option_map}
use Rattle.nvme_spec.specs.World.{World}
use Rattle.nvme_machine.specs.Controllers.{Controller}
use Rattle.nvme_machine.specs.Subsystems.{Subsystem, controller_at}
use Rattle.live_text.specs.Looking.{controller_named}
use Rattle.live_text.specs.declared.looking.Looking.{Looking}
use Rattle.live_views.specs.Looks.{named_in, parts_text, subsystem_text}

named : (s : Subsystem) (looking : Looking) (o : Option ℕ)
    → controller_named looking ≡ o → named_in s looking ≡ option_and_then (λ k. controller_at s k) o
named s looking o is = ap (λ o. option_and_then (λ k. controller_at s k) o) is

pub named-none : (s : Subsystem) (looking : Looking) → controller_named looking ≡ None → None ≡ named_in s looking
named-none s looking is = sym (named s looking None is)

pub named-found : {X : Type 0} (f : X → Controller) (s : Subsystem) (looking : Looking) (k : ℕ) (o : Option X)
    → controller_named looking ≡ Some k → IfNone o (controller_at s k ≡ None)
    → IfSome o (λ x. controller_at s k ≡ Some (f x))
    → option_map f o ≡ named_in s looking
named-found f s looking k None is none some = sym (named s looking (Some k) is ∙ none)
named-found f s looking k (Some x) is none some = sym (named s looking (Some k) is ∙ some)

-- the text for that controller and the access state is the text for the subsystem
pub shown-of : (n : ℕ) (looking : Looking) (s : Subsystem) (text : List ℕ) (o : Option Controller) (w : World)
    → text ≡ parts_text n looking o w → o ≡ named_in s looking → w ≡ s.world → text ≡ subsystem_text n looking s
shown-of n looking s text o w is named world =
    is ∙ ap (λ v. parts_text n looking o v) world ∙ ap (λ k. parts_text n looking k s.world) named
