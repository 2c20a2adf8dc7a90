use Rattle.std.proofs.Common.{◌≡◌, ◌∷◌, [], refl, sym, take}
use Rattle.nvme_grammar.specs.Keywords.{places_of}
use Rattle.nvme_grammar.specs.declared.keyword.Keyword.TheVariants.{Write, Compare}
use Rattle.nvme_grammar.specs.declared.place.Place.TheVariants.{Data}
use Rattle.nvme_grammar.proofs.SentenceLemmas.{front-none}
use Rattle.nvme_grammar.proofs.reader.transfer_in.Goals as goal

pub returns-in_err-cntlid-clause-write : goal.returns-in_err-cntlid-clause-write
returns-in_err-cntlid-clause-write c =
    let read = c.numbers_in-rest in
    let is = read.ensures in
    let same : c.as_slice.result.now ≡ read.new.numbers.items = c.as_slice.ensures.value in
    λ none. sym (front-none Write c.args.line.now read.result.now read.new.numbers.items is.text is.words
    (take 4 (places_of Write)) (Data ∷ []) refl refl refl is.most is.all (rw same at c.in_err-cntlid.ensures.none refl))

pub returns-in_err-cntlid-clause-compare : goal.returns-in_err-cntlid-clause-compare
returns-in_err-cntlid-clause-compare c =
    let read = c.numbers_in-rest in
    let is = read.ensures in
    let same : c.as_slice.result.now ≡ read.new.numbers.items = c.as_slice.ensures.value in
    λ none. sym (front-none Compare c.args.line.now read.result.now read.new.numbers.items is.text is.words (take 4
    (places_of Compare)) (Data ∷ []) refl refl refl is.most is.all (rw same at c.in_err-cntlid.ensures.none refl))
