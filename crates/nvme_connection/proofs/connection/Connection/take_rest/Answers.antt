use Rattle.std.proofs.Common.{◌≡◌, ◌≤◌, ◌+◌, length, take, drop, ◌++◌, Ok, sym, ap, ◌∙◌, arith, subst}
use Rattle.std.proofs.lemmas.List.{length-append, length-drop, length-take-le}
use Rattle.nvme_connection.specs.declared.stage.Stage.TheVariants.{Taking}
use Rattle.nvme_connection.specs.Connections.{at_stage}
use Rattle.nvme_connection.specs.Streams.{after_bytes}
use Rattle.nvme_connection.specs.Holding.{Holds, Gathers, IsLaid, settled_by}
use Rattle.nvme_pdu.specs.Layouts.{layout_of}
use Rattle.nvme_connection.proofs.Data.{goes, going}
use Rattle.nvme_connection.proofs.Gathering.{
  either-end,
  later-laid,
  rest-at-once,
  nothing-stops,
  rest-stops,
  rest-taken,
}
use Rattle.nvme_connection.proofs.connection.Connection.take_rest.Goals as goal

pub returns-clause-covers : goal.returns-clause-covers
returns-clause-covers c = λ d h.
    let xs = take c.min-count.result c.args.bytes.now in
    let n : length xs ≡ c.min-count.result = length-take-le c.min-count.result c.args.bytes.now (omega
    (arith, c.min-count.ensures)) in
    let stage : d.stage ≡ Taking = sym h.stage ∙ c.requires.stage in
    let laid = h.laid stage (omega (arith, sym h.count, c.if-self-lt8.false)) in
    let fits : length d.unit + length xs ≤ c.args.self.now.layout.length = omega
    (arith, sym h.count, n, c.min-count.ensures, c.saturating_sub-missing.ensures, laid.1) in
    let g : Gathers c.keep.new.self (at_stage Taking d (d.unit ++ xs)) = record {
      stage = c.keep.ensures.stage ∙ c.requires.stage;
      is_open = c.keep.ensures.is_open ∙ h.is_open;
      agreed = c.keep.ensures.agreed ∙ h.agreed;
      count = c.keep.ensures.kept.counted ∙ ap (λ m. m + length xs) h.count ∙ sym (length-append d.unit xs);
      kept = c.keep.ensures.kept.first d.unit h.count h.kept;
    } in
    let later = later-laid d c.args.self.now.layout xs laid.0 fits in
    rest-taken d c.args.self.now.layout xs c.settle.new.self stage laid.0 laid.1 fits
    (subst (λ l. Holds c.settle.new.self (settled_by (at_stage Taking d (d.unit ++ xs)) l)) c.keep.ensures.layout
    (c.settle.ensures.settles (at_stage Taking d (d.unit ++ xs)) g
    (subst (IsLaid (at_stage Taking d (d.unit ++ xs))) (sym c.keep.ensures.layout) later)))

pub returns-then-self-lt8-clause-stops : goal.returns-then-self-lt8-clause-stops
returns-then-self-lt8-clause-stops c = λ d h. nothing-stops d c.args.bytes.now (c.requires.far c.if-self-lt8.true)

pub returns-clause-stops : goal.returns-clause-stops
returns-clause-stops c = λ d h.
    let bytes = c.args.bytes.now in
    let k = c.min-count.result in
    let xs = take k bytes in
    let n : length xs ≡ k = length-take-le k bytes (omega (arith, c.min-count.ensures)) in
    let stage : d.stage ≡ Taking = sym h.stage ∙ c.requires.stage in
    let laid = h.laid stage (omega (arith, sym h.count, c.if-self-lt8.false)) in
    either-end (after_bytes d xs) (drop k bytes) k (length bytes) (omega (arith, c.min-count.ensures))
    (λ same. nothing-stops (after_bytes d xs) (drop k bytes) (omega (arith, length-drop k bytes, same)))
    (λ less. rest-stops d c.args.self.now.layout xs (drop k bytes) stage laid.0 laid.1
    (omega (arith, sym h.count, n, c.min-count.ensures, c.saturating_sub-missing.ensures, laid.1, less)))

pub returns-clause-laid : goal.returns-clause-laid
returns-clause-laid c = λ d h long.
    let xs = take c.min-count.result c.args.bytes.now in
    let n : length xs ≡ c.min-count.result = length-take-le c.min-count.result c.args.bytes.now (omega
    (arith, c.min-count.ensures)) in
    let stage : d.stage ≡ Taking = sym h.stage ∙ c.requires.stage in
    let laid = h.laid stage (omega (arith, sym h.count, c.if-self-lt8.false)) in
    let fits : length d.unit + length xs ≤ c.args.self.now.layout.length = omega
    (arith, sym h.count, n, c.min-count.ensures, c.saturating_sub-missing.ensures, laid.1) in
    let there = goes d xs (going stage) (rest-at-once d c.args.self.now.layout xs stage laid.0 laid.1 fits).all in
    ap (λ u. layout_of d.agreed (take 8 u)) there.unit ∙ (later-laid d c.args.self.now.layout xs laid.0 fits).is
    ∙ ap (λ l. Ok l) (sym (c.settle.ensures.layout ∙ c.keep.ensures.layout))
