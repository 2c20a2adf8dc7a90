use Rattle.std.proofs.Common.{◌≡◌, ◌≤◌, ◌<◌, ◌+◌, length, take, ◌++◌, sym, ap, ◌∙◌, arith, subst}
use Rattle.std.proofs.lemmas.List.{length-append, length-take-le}
use Rattle.nvme_connection.specs.declared.stage.Stage.TheVariants.{Taking}
use Rattle.nvme_connection.specs.Connections.{at_stage}
use Rattle.nvme_connection.specs.Holding.{Gathers, Makes}
use Rattle.nvme_connection.proofs.Gathering.{common-taken, reached-at}
use Rattle.nvme_connection.proofs.connection.Connection.take_common.Goals as goal

pub returns-clause-covers : goal.returns-clause-covers
returns-clause-covers c = λ d h.
    let xs = take c.min-count.result c.args.bytes.now in
    let n : length xs ≡ c.min-count.result = length-take-le c.min-count.result c.args.bytes.now (omega
    (arith, c.min-count.ensures)) in
    let stage : d.stage ≡ Taking = sym h.stage ∙ c.requires.stage in
    let few : length d.unit < 8 = omega (arith, sym h.count, c.if-self-ge8.false) in
    let fits : length d.unit + length xs ≤ 8 = omega (arith, sym h.count, n, c.min-count.ensures, few) in
    let g : Gathers c.keep.new.self (at_stage Taking d (d.unit ++ xs)) = record {
      stage = c.keep.ensures.stage ∙ c.requires.stage;
      is_open = c.keep.ensures.is_open ∙ h.is_open;
      agreed = c.keep.ensures.agreed ∙ h.agreed;
      count = c.keep.ensures.kept.counted ∙ ap (λ m. m + length xs) h.count ∙ sym (length-append d.unit xs);
      kept = c.keep.ensures.kept.first d.unit h.count h.kept;
    } in
    common-taken d xs c.lay_out.result c.lay_out.new.self stage few fits
    (subst (λ s. Makes s c.lay_out.result c.lay_out.new.self) (reached-at Taking d (d.unit ++ xs) (d.unit ++ xs))
    (c.lay_out.ensures.makes (at_stage Taking d (d.unit ++ xs)) g))
