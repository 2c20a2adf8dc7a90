use Rattle.std.proofs.Common.{◌≡◌, Some, refl}
use Rattle.nvme_grammar.specs.Keywords.{keyword_text, keyword_of}
use Rattle.nvme_grammar.specs.declared.keyword.Keyword.{Keyword}
use Rattle.nvme_grammar.specs.declared.keyword.Keyword.TheVariants.{Controller}
use Rattle.nvme_grammar.proofs.keyword.Keyword.first_of.Goals as goal

text_keyword : (k : Keyword) → Some k ≡ keyword_of (keyword_text k)
unfolding keyword_of
text_keyword Controller = refl
text_keyword k = refl

pub returns-in-Some : goal.returns-in-Some
returns-in-Some c = rw c.in-Some.ensures (text_keyword c.in-Some.keyword)
