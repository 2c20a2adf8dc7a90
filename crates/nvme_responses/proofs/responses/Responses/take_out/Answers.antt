use Rattle.std.proofs.Common.{◌≡◌, length, take, Some, sym, ap, ◌∙◌, rules}
use Rattle.nvme_responses.specs.Responses as def
use Rattle.nvme_responses.proofs.Taking.{taken-out}
use Rattle.nvme_responses.proofs.responses.Responses.take_out.Goals as goal

pub returns-in-Some-clause-state : goal.returns-in-Some-clause-state
returns-in-Some-clause-state c =
    let size : length c.args.self.now.outstanding ≡ 64 = search rules in
    let found : Some c.in-Some.place ≡ def.place (take c.length-length.result c.args.self.now.outstanding) c.args.cid
    = sym c.in-Some.is ∙ c.place.ensures in
    let out = taken-out c.args.self.now.outstanding c.length-length.result c.in-Some.place c.args.cid size
    c.length-length.ensures.within found
    ∙ ap (λ o. def.without o (take c.length-length.result c.args.self.now.outstanding)) found in
    ap (λ xs. record (def.seen c.args.self.now) { outstanding = xs })
    (out ∙ ap (λ n. def.without (def.place (take n c.args.self.now.outstanding) c.args.cid)
    (take n c.args.self.now.outstanding)) c.length-length.ensures.exact)
