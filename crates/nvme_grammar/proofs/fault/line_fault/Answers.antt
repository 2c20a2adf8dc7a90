use Rattle.std.proofs.Common.{◌≡◌, Bool, true, false, not, Option, None, Some, refl, sym, ap, ◌∙◌}
use Rattle.std.specs.Prelude.{is_some, option_map}
use Rattle.std.proofs.lemmas.Bool.{false≢true}
use Rattle.nvme_grammar.specs.LineFaults.{fault_by_value}
use Rattle.nvme_grammar.proofs.TieKeywords.{fault-tie}
use Rattle.nvme_grammar.proofs.fault.line_fault.Goals as goal

is_some-mapped : {A B : Type 0} (f : A → B) (o : Option A) → is_some (option_map f o) ≡ is_some o
is_some-mapped f None = refl
is_some-mapped f (Some x) = refl

either_way : (a b : Bool) → a ≡ not b → (a ≡ false → b ≡ true) × (b ≡ true → a ≡ false)
either_way true true h = (λ e. refl, λ e. h)
either_way true false h = (λ e. sym e, λ e. sym e)
either_way false true h = (λ e. refl, λ e. refl)
either_way false false h = absurd (false≢true h)

pub returns-clause-exact : goal.returns-clause-exact
returns-clause-exact c =
    either_way _ _
    (sym (is_some-mapped fault_by_value _) ∙ ap is_some c.fault_of.ensures ∙ fault-tie c.args.started c.args.line.now)
