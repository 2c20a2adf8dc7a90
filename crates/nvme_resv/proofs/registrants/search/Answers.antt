use Rattle.std.proofs.Common.{rules}
use Rattle.std.proofs.lemmas.List.Sorted.{answers_always}
use Rattle.nvme_resv.proofs.Place.{searched}
use Rattle.nvme_resv.proofs.registrants.search.Goals as goal

pub returns : goal.returns
returns c =
    let facts = c.binary_search_by_key.ensures in
    searched _ c.requires c.args.host _ facts.bound
    (facts.position (λ r. r.host) (answers_always _ _ _ (λ f a r g called. search rules)))
