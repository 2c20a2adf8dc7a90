use Rattle.std.proofs.Common.{
  ◌≡◌,
  ◌+◌,
  ◌-◌,
  List,
  ℕ,
  length,
  take,
  drop,
  true,
  false,
  None,
  refl,
  sym,
  ap,
  subst,
  ◌∙◌,
  rules,
  arith,
}
use Rattle.std.specs.Prelude.{option_map}
use Rattle.std.specs.List.{filter_map}
use Rattle.script_text.specs.Lines.{text_lines, lines_left}
use Rattle.nvme_grammar.specs.Line.{line_at}
use Rattle.nvme_grammar.specs.LineFaults.{IsRefusal, fault_of}
use Rattle.nvme_grammar.specs.Kept.{kept_events}
use Rattle.nvme_grammar.specs.Script.{said, event_in, events_of, Begins}
use Rattle.nvme_grammar.specs.Reading.{Reads, line_aside}
use Rattle.nvme_grammar.specs.declared.line.Line.{Line}
use Rattle.nvme_grammar.proofs.ScriptLemmas.{
  AllBegin-none,
  first_unread,
  first_misplaced,
  AllBegin-next,
  said-next,
  length-said-taken,
  line_here,
  all_read,
  lines_shorter,
}
use Rattle.nvme_grammar.proofs.FirstFaults.{first_refused}
use Rattle.nvme_grammar.proofs.KeptLemmas.{end-next, kept-next, whole-end}
use Rattle.nvme_grammar.proofs.JudgedLemmas.{aside-none, aside-some, fits-aside, Reads-aside}
use Rattle.nvme_grammar.proofs.script.read_lines.Goals as goal

pub loop-rest-init : goal.loop-rest-init
loop-rest-init c = record {
  left = refl;
  begun = AllBegin-none (text_lines c.args.text.now);
  read = search rules;
  events = ap (kept_events c.args.text.now) c.in_ok-script.ensures.events;
  end = whole-end c.args.text.now;
  longest = omega arith;
  within = omega arith;
}

pub returns-in_default-said-clause-fault : goal.returns-in_default-said-clause-fault
returns-in_default-said-clause-fault c =
    let raw = text_lines c.args.text.now in
    let i = c.loop-rest.before in
    let here = line_here raw i c.front_line.result.0.now (lines_left c.front_line.result.1)
    (sym (rw c.in-Some.is at c.loop-rest.invariant.left) ∙ c.front_line.ensures.lines) in
    let none : c.checked_line-said.result ≡ None = search rules in
    first_refused raw i c.front_line.result.0.now c.loop-rest.script.start c.refused.result here.0 here.1
    c.loop-rest.invariant.read.start
    (first_unread raw i c.front_line.result.0.now here.0 here.1 c.loop-rest.invariant.begun
    (aside-none _ (sym (ap (option_map line_aside) none) ∙ c.checked_line-said.ensures.line)))
    (subst (λ t. IsRefusal c.refused.result (i + 1) (fault_of t c.front_line.result.0.now))
    (search rules) c.refused.ensures)

pub returns-then-not-allows-clause-fault : goal.returns-then-not-allows-clause-fault
returns-then-not-allows-clause-fault c =
    let raw = text_lines c.args.text.now in
    let i = c.loop-rest.before in
    let here = line_here raw i c.front_line.result.0.now (lines_left c.front_line.result.1)
    (sym (rw c.in-Some.is at c.loop-rest.invariant.left) ∙ c.front_line.ensures.lines) in
    let refused : c.allows.result ≡ false = search rules in
    let real = aside-some (line_at c.front_line.result.0.now) c.in-Some-said.line
    (sym (ap (option_map line_aside) c.in-Some-said.is) ∙ c.checked_line-said.ensures.line) in
    first_refused raw i c.front_line.result.0.now c.loop-rest.script.start c.refused-then-not-allows.result here.0
    here.1 c.loop-rest.invariant.read.start
    (first_misplaced raw i c.front_line.result.0.now here.0 here.1 c.loop-rest.invariant.begun real.0 real.1
    (sym (fits-aside (said (take i raw)) c.in-Some-said.line real.0 real.2)
    ∙ sym (c.allows.ensures _ c.loop-rest.invariant.read) ∙ refused))
    (subst (λ t. IsRefusal c.refused-then-not-allows.result (i + 1) (fault_of t c.front_line.result.0.now))
    (search rules) c.refused-then-not-allows.ensures)

pub loop-rest-preserved : goal.loop-rest-preserved
loop-rest-preserved c =
    let raw = text_lines c.args.text.now in
    let i = c.loop-rest.before in
    let kept = c.loop-rest.invariant in
    let here = line_here raw i c.front_line.result.0.now (lines_left c.front_line.result.1)
    (sym (rw c.in-Some.is at kept.left) ∙ c.front_line.ensures.lines) in
    let allowed : c.allows.result ≡ true = search rules in
    let real = aside-some (line_at c.front_line.result.0.now) c.in-Some-said.line
    (sym (ap (option_map line_aside) c.in-Some-said.is) ∙ c.checked_line-said.ensures.line) in
    let judged = sym (c.allows.ensures _ kept.read) ∙ allowed in
    let placed = sym (fits-aside (said (take i raw)) c.in-Some-said.line real.0 real.2) ∙ judged in
    let number : i + 1 ≡ length (said (take i raw)) + 1 = rw (length-said-taken raw i here.0 kept.begun) refl in
    let within = rw c.in-Some.is at kept.within in
    let ending = rw c.in-Some.is at kept.end in
    let place : c.in-Ok.place ≡ length c.args.text.now - length c.in-Some.lines.now = search rules in
    record {
      left = sym here.2;
      begun = AllBegin-next raw i c.front_line.result.0.now here.0 here.1 kept.begun real.0 real.1 placed;
      read = subst (λ (t : List Line). Reads c.take.new.self t)
          (sym (said-next raw i c.front_line.result.0.now here.0 here.1 kept.begun real.0 real.1))
          (Reads-aside c.take.new.self (said (take i raw)) c.in-Some-said.line real.0 real.2
          (c.in_ok-take.ensures.read _ kept.read number judged));
      events = ap (kept_events c.args.text.now) c.in_ok-take.ensures.events
          ∙ kept-next c.args.text.now c.in-Ok.place c.front_line.result.0.now (lines_left c.front_line.result.1)
          (ap (λ n. text_lines (drop n c.args.text.now)) place ∙ ap text_lines (sym ending)
          ∙ c.front_line.ensures.lines) c.loop-rest.script.events.items
          (said (take i raw)) c.in-Some-said.line real.0 real.2 real.1 kept.events
          ∙ ap (filter_map event_in)
          (sym (said-next raw i c.front_line.result.0.now here.0 here.1 kept.begun real.0 real.1));
      end = end-next c.args.text.now c.in-Some.lines.now c.front_line.result.1
          (omega (arith, within)) ending c.front_line.ensures.shorter c.front_line.ensures.end;
      longest = search rules;
      within = omega (arith, within, lines_shorter c.front_line.result.1 _ c.front_line.ensures.shorter);
    }

pub returns-clause-grammar : goal.returns-clause-grammar
returns-clause-grammar c =
    let raw = text_lines c.args.text.now in
    let none : c.loop-rest.rest ≡ None = search rules in
    let whole = all_read raw c.loop-rest.before (rw none at c.loop-rest.invariant.left) in
    subst (λ (t : List (List ℕ)). Begins t) whole (c.loop-rest.invariant.begun c.loop-rest.before (omega arith))

pub returns-clause-read : goal.returns-clause-read
returns-clause-read c =
    let raw = text_lines c.args.text.now in
    let none : c.loop-rest.rest ≡ None = search rules in
    let whole = all_read raw c.loop-rest.before (rw none at c.loop-rest.invariant.left) in
    subst (λ (t : List (List ℕ)). Reads c.loop-rest.script (said t)) whole c.loop-rest.invariant.read

pub returns-clause-events : goal.returns-clause-events
returns-clause-events c =
    let raw = text_lines c.args.text.now in
    let none : c.loop-rest.rest ≡ None = search rules in
    let whole = all_read raw c.loop-rest.before (rw none at c.loop-rest.invariant.left) in
    c.loop-rest.invariant.events ∙ ap events_of whole
