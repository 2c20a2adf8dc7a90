use Rattle.std.proofs.Common.{
  ◌≡◌,
  ◌≤◌,
  ◌-◌,
  [],
  length,
  length-drop,
  take_all,
  None,
  drop,
  sym,
  ap,
  ◌∙◌,
  refl,
  rules,
  arith,
}
use Rattle.std.specs.Prelude.{option_map}
use Rattle.std.proofs.lemmas.List.{drop_all}
use Rattle.script_text.specs.Lines.{text_lines}
use Rattle.nvme_grammar.specs.Arity.{◌>>=◌}
use Rattle.nvme_grammar.specs.Kept.{first_event}
use Rattle.nvme_grammar.specs.Lent.{event_by_value}
use Rattle.nvme_grammar.specs.Script.{event_in}
use Rattle.nvme_grammar.proofs.EventLemmas.{blank_line}
use Rattle.script_text.specs.Lines.{longest_line}
use Rattle.script_text.proofs.LineLengths.{longest-drop}
use Rattle.nvme_grammar.proofs.kept.KeptEvent.event.Goals as goal

pub event_of_line-requires : goal.event_of_line-requires
event_of_line-requires c =
    let text = c.args.text.now in
    let whole = take_all (length text - c.in-Line.before) (drop c.in-Line.before text)
    (omega (arith, length-drop c.in-Line.before text)) in
    let end : c.in_ok-get-in-Line.field-0.now ≡ drop c.in-Line.before text = search (rules, whole) in
    let within : longest_line c.in_ok-get-in-Line.field-0.now ≤ longest_line text =
    rw end (longest-drop c.in-Line.before text) in
    let line = c.front_line.ensures.longest in
    record {
      bytes_room = omega (arith, within, line, c.requires.bytes_room);
      identifiers_room = omega (arith, within, line, c.requires.identifiers_room);
    }

pub returns-in_err-get-in-Line : goal.returns-in_err-get-in-Line
returns-in_err-get-in-Line c =
    let none : option_map event_by_value c.from_residual.result ≡ None = search rules in
    let behind : drop c.in-Line.before c.args.text.now ≡ [] =
    drop_all c.in-Line.before c.args.text.now (search rules) in
    rw c.in-Line.is
    (none ∙ sym (ap (λ t. first_event (text_lines t)) behind ∙ ap (λ o. o >>= event_in) (sym (blank_line [] refl))))
