use Rattle.std.proofs.Common.{◌≡◌, ◌∷◌, [], refl, sym, take}
use Rattle.nvme_grammar.specs.Keywords.{places_of}
use Rattle.nvme_grammar.specs.declared.keyword.Keyword.TheVariants.{Store}
use Rattle.nvme_grammar.specs.declared.place.Place.TheVariants.{Bytes}
use Rattle.nvme_grammar.proofs.SentenceLemmas.{front-none}
use Rattle.nvme_grammar.proofs.reader.stored_in.Goals as goal

pub returns-in_err-cntlid-clause-none : goal.returns-in_err-cntlid-clause-none
returns-in_err-cntlid-clause-none c =
    let read = c.numbers_in-rest in
    let is = read.ensures in
    let same : c.as_slice.result.now ≡ read.new.numbers.items = c.as_slice.ensures.value in
    λ none. sym
    (front-none Store c.args.line.now read.result.now read.new.numbers.items is.text is.words (take 2 (places_of Store))
    (Bytes ∷ []) refl refl refl is.most is.all (rw same at c.in_err-cntlid.ensures.none refl))
