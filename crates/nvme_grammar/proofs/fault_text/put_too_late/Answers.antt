use Rattle.std.proofs.Common.{◌≡◌, ◌++◌, ◌∙◌, ap, codes, refl, subst, sym}
use Rattle.nvme_grammar.specs.FaultTexts.{too_late_text}
use Rattle.nvme_grammar.specs.Keywords.{keyword_text}
use Rattle.nvme_grammar.specs.declared.keyword.Keyword.{Keyword}
use Rattle.nvme_grammar.specs.declared.keyword.Keyword.TheVariants as word
use Rattle.script_text.specs.Pages.{Adds}
use Rattle.nvme_grammar.proofs.fault_text.put_too_late.Goals as goal

too-late : (k : Keyword)
    → (k ≡ word.Start → ⊥) → too_late_text k ≡ keyword_text k ++ codes " must come before 'start'"
too-late word.Controller other = refl
too-late word.Namespace other = refl
too-late word.Attached other = refl
too-late word.Start other = absurd (other refl)
too-late word.Up other = refl
too-late word.Read other = refl
too-late word.Write other = refl
too-late word.Compare other = refl
too-late word.Zeroes other = refl
too-late word.Flush other = refl
too-late word.Register other = refl
too-late word.Acquire other = refl
too-late word.Release other = refl
too-late word.Report other = refl
too-late word.Identify other = refl
too-late word.Protect other = refl
too-late word.Protection other = refl
too-late word.Attach other = refl
too-late word.Detach other = refl
too-late word.Ring other = refl
too-late word.Fetch other = refl
too-late word.Execute other = refl
too-late word.Poll other = refl
too-late word.Reset other = refl
too-late word.Store other = refl
too-late word.Write32 other = refl
too-late word.PowerCycle other = refl

pub returns-in_default : goal.returns-in_default
returns-in_default g c =
    let said = codes " must come before 'start'" in
    let same = ap (λ t. t ++ said) c.text.ensures ∙ sym (too-late c.args.keyword c.in_default.not-Start) in
    subst (λ t. Adds g.P.Page.room c.put_both.result (g.P.Page.written c.args.page.now) t
    (g.P.Page.written c.put_both.new.page)) same c.put_both.ensures
