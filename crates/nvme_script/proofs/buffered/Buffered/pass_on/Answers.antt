use Rattle.std.proofs.Common.{
  ◌≡◌,
  ℕ,
  List,
  [],
  ◌++◌,
  length,
  take,
  drop,
  sym,
  ap,
  ◌∙◌,
  le_of_eq,
  drop_of_length-le,
  take-append-drop,
  Ok,
  Err,
  rules,
}
use Rattle.std.specs.Io.KnownBytes.{Keeps, append_known}
use Rattle.std.specs.Prelude.{Result, OnOk}
use Rattle.std.proofs.KnownBytes.{append_known-moved}
use Rattle.nvme_script.proofs.buffered.Buffered.pass_on.Goals as goal

-- if all was written, nothing is left
none_left : {X E : Type 0} (r : Result X E) (xs left : List ℕ) (n : ℕ) → left ≡ drop n xs → OnOk r (n ≡ length xs)
    → OnOk r (left ≡ [])
none_left (Ok x) xs left n e all = e ∙ ap (λ k. drop k xs) all ∙ drop_of_length-le xs (le_of_eq (sym all ∙ all))
none_left (Err e) xs left n is all = tt

pub returns-clause-ok : goal.returns-clause-ok
returns-clause-ok g c =
    let n = c.write_front-written.result.0 in
    let rest : c.remove_front.new.self ≡ drop n c.as_bytes.result.now =
    c.remove_front.ensures ∙ ap (drop n) (sym c.as_bytes.ensures.value) in
    none_left c.write_front-written.result.1 c.as_bytes.result.now _ n rest c.write_front-written.ensures.all

pub returns-clause-bytes : goal.returns-clause-bytes
returns-clause-bytes g c =
    let n = c.write_front-written.result.0 in
    let held = c.as_bytes.result.now in
    let rest : c.remove_front.new.self ≡ drop n held =
    c.remove_front.ensures ∙ ap (drop n) (sym c.as_bytes.ensures.value) in
    let moved : Keeps (append_known (g.O.Sink.contents c.self.inside.output.now) c.self.inside.held.now)
    (append_known (g.O.Sink.contents c.write_front-written.new.writer) c.remove_front.new.self) =
    append_known-moved _ _ _ _ _ c.write_front-written.ensures.bytes
    (sym c.as_bytes.ensures.value ∙ sym (take-append-drop n held) ∙ ap (λ l. take n held ++ l) (sym rest)) in
    search rules
