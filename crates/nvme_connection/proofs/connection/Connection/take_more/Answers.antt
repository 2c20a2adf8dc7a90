use Rattle.std.proofs.Common.{◌≡◌, ◌≤◌, ◌+◌, ◌-◌, length, take, drop, None, Ok, sym, ap, ◌∙◌, arith, subst}
use Rattle.std.specs.Prelude.{if◌then◌else◌, min, nat_lt}
use Rattle.std.proofs.lemmas.List.{length-drop, take_all}
use Rattle.nvme_pdu.specs.Layouts.{layout_of}
use Rattle.nvme_connection.specs.declared.stage.Stage.TheVariants.{Taking}
use Rattle.nvme_connection.specs.Streams.{after_bytes}
use Rattle.nvme_connection.specs.Holding.{Covers, Stops}
use Rattle.nvme_connection.proofs.Data.{
  after-both,
  covers-both,
  going,
  goes,
  none-then,
  some-then,
  stops-both,
  takes-bare,
  takes-laid,
}
use Rattle.nvme_connection.proofs.Gathering.{ended-stops}
use Rattle.nvme_connection.proofs.connection.Connection.take_more.Goals as goal

pub returns-then-is_some-clause-takes : goal.returns-then-is_some-clause-takes
returns-then-is_some-clause-takes c = λ d h.
    let bytes = c.args.bytes.now in
    let n = c.take_common-first.result.0 in
    let stage : d.stage ≡ Taking = sym h.stage ∙ c.requires.stage in
    let p = c.take_common-first.ensures.covers d h in
    let over = some-then c.take_common-first.result.1 _ c.take_common-first.ensures.ends (sym c.is_some.ensures
    ∙ c.if-is_some.true) in
    takes-bare d bytes n c.take_common-first.result.1 c.take_common-first.new.self c.without_data.result stage
    c.take_common-first.ensures.within p
    (ended-stops (after_bytes d (take n bytes)) (drop n bytes) (sym p.next.stage ∙ over.0)) over.1
    c.without_data.ensures.count c.without_data.ensures.breach c.without_data.ensures.begin
    c.without_data.ensures.end c.without_data.ensures.offset

pub returns-then-self-lt8-clause-takes : goal.returns-then-self-lt8-clause-takes
returns-then-self-lt8-clause-takes c = λ d h.
    let bytes = c.args.bytes.now in
    let n = c.take_common-first.result.0 in
    let m = c.take_rest.result in
    let stage : d.stage ≡ Taking = sym h.stage ∙ c.requires.stage in
    let none = none-then c.take_common-first.result.1 (sym c.is_some.ensures ∙ c.if-is_some.false) in
    let p : Covers d (take n bytes) None c.take_common-first.new.self = subst (λ b. Covers d
    (take n bytes) b c.take_common-first.new.self) none (c.take_common-first.ensures.covers d h) in
    let same : take (length bytes - n) (drop n bytes)
    ≡ drop n bytes = take_all (length bytes - n) (drop n bytes) (omega (arith, length-drop n bytes)) in
    let q = subst (λ xs. Covers (after_bytes d (take n bytes)) (take m xs) None c.take_rest.new.self) same
    (c.take_rest.ensures.covers (after_bytes d (take n bytes)) p.next) in
    let stops = subst (λ xs. Stops (after_bytes (after_bytes d (take n bytes)) (take m xs)) (drop m xs)) same
    (c.take_rest.ensures.stops (after_bytes d (take n bytes)) p.next) in
    let within : m ≤ length (drop n bytes) = subst (λ xs. m ≤ length xs) same c.take_rest.ensures.within in
    takes-bare d bytes (n + m) None c.take_rest.new.self c.without_data-then-self-lt8.result stage
    (omega (arith, c.take_common-first.ensures.within, within, length-drop n bytes))
    (covers-both d bytes n m c.take_common-first.new.self c.take_rest.new.self p q)
    (stops-both d bytes n m stops) (omega (arith, c.if-self-lt8.true))
    c.without_data-then-self-lt8.ensures.count c.without_data-then-self-lt8.ensures.breach
    c.without_data-then-self-lt8.ensures.begin c.without_data-then-self-lt8.ensures.end
    c.without_data-then-self-lt8.ensures.offset

pub returns-clause-takes : goal.returns-clause-takes
returns-clause-takes c = λ d h.
    let bytes = c.args.bytes.now in
    let n = c.take_common-first.result.0 in
    let m = c.take_rest.result in
    let l = c.take_rest.new.self.layout in
    let stage : d.stage ≡ Taking = sym h.stage ∙ c.requires.stage in
    let none = none-then c.take_common-first.result.1 (sym c.is_some.ensures ∙ c.if-is_some.false) in
    let p : Covers d (take n bytes) None c.take_common-first.new.self = subst (λ b. Covers d
    (take n bytes) b c.take_common-first.new.self) none (c.take_common-first.ensures.covers d h) in
    let same : take (length bytes - n) (drop n bytes)
    ≡ drop n bytes = take_all (length bytes - n) (drop n bytes) (omega (arith, length-drop n bytes)) in
    let q = subst (λ xs. Covers (after_bytes d (take n bytes)) (take m xs) None c.take_rest.new.self) same
    (c.take_rest.ensures.covers (after_bytes d (take n bytes)) p.next) in
    let stops = subst (λ xs. Stops (after_bytes (after_bytes d (take n bytes)) (take m xs)) (drop m xs)) same
    (c.take_rest.ensures.stops (after_bytes d (take n bytes)) p.next) in
    let within : m ≤ length (drop n bytes) = subst (λ xs. m ≤ length xs) same c.take_rest.ensures.within in
    let agreed = (goes d (take n bytes) (going stage) p.all).agreed in
    let laid = subst (λ xs. layout_of (after_bytes d (take n bytes)).agreed (take 8 (after_bytes (after_bytes d
    (take n bytes)) (take m xs)).unit) ≡ Ok l) same
    (c.take_rest.ensures.laid (after_bytes d (take n bytes)) p.next c.if-self-lt8.false) in
    let is : layout_of d.agreed (take 8 (after_bytes d (take (n + m) bytes)).unit) ≡ Ok l =
    ap (λ e. layout_of d.agreed (take 8 e.unit)) (after-both d bytes n m)
    ∙ ap (λ a. layout_of a (take 8 (after_bytes (after_bytes d (take n bytes)) (take m (drop n bytes))).unit))
    (sym agreed) ∙ laid in
    takes-laid d bytes (n + m) c.take_rest.new.self c.with_data.result l stage
    (omega (arith, c.take_common-first.ensures.within, within, length-drop n bytes))
    (covers-both d bytes n m c.take_common-first.new.self c.take_rest.new.self p q)
    (stops-both d bytes n m stops) c.if-self-lt8.false is
    c.with_data.ensures.count c.with_data.ensures.breach
    (c.with_data.ensures.begin ∙ ap (λ k. min (l.data_offset - k) (n + m)) h.count)
    (c.with_data.ensures.end ∙ ap (λ k. min (l.data_offset + l.data_length - k) (n + m)) h.count)
    (c.with_data.ensures.offset ∙ ap (λ k. if nat_lt c.with_data.result.data_begin c.with_data.result.data_end then
    k - l.data_offset else 0) h.count)
