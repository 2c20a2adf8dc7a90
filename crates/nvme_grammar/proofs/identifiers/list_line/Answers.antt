use Rattle.std.proofs.Common.{◌≡◌, None, Some, take, refl, rules}
use Rattle.nvme_grammar.specs.Lent.{request_by_value}
use Rattle.nvme_grammar.specs.Lists.{line_numbers}
use Rattle.nvme_grammar.specs.Requests.{list_request}
use Rattle.nvme_grammar.proofs.SentenceLemmas.{list-none, list-sentence}
use Rattle.nvme_grammar.proofs.identifiers.list_line.Goals as goal

pub returns-in_err-cntlid : goal.returns-in_err-cntlid
returns-in_err-cntlid c =
    let read = c.numbers_in-rest in
    let is = read.ensures in
    let same : c.as_slice.result.now ≡ read.new.numbers.items = c.as_slice.ensures.value in
    let none : c.from_residual.result ≡ None = search rules in
    rw none (list-none c.args.keyword c.args.line.now read.result.now read.new.numbers.items c.requires.list is.text
    is.words is.most is.all (rw same at c.in_err-cntlid.ensures.none refl))

pub returns : goal.returns
returns c =
    let read = c.numbers_in-rest in
    let is = read.ensures in
    let named = c.in_ok-cntlid in
    let same : c.as_slice.result.now ≡ read.new.numbers.items = c.as_slice.ensures.value in
    let two = named.ensures.some in
    let list = take c.in_ok-count.count c.identifiers_behind.new.buffer in
    let numbers : line_numbers read.result.now ≡ Some list = search rules in
    let asked : Some (request_by_value c.in_ok-request.request) ≡ list_request c.args.keyword named.nsid list =
    search rules in
    list-sentence c.args.keyword c.args.line.now read.result.now read.new.numbers.items named.cntlid named.nsid list
    (request_by_value c.in_ok-request.request) c.requires.list is.text is.words
    (rw same at two.0) two.1 two.2 numbers asked
