use Rattle.std.proofs.Common.{rules, ◌+◌, ◌≤◌, drop, subst, sym, ◌∙◌}
use Rattle.script_text.proofs.LineLengths.{
  AreBounded,
  bounded-next,
  bounded-all,
  longest-drop,
  longest-front,
  front-left,
  front-short,
}
use Rattle.script_text.proofs.lines.line_bound.Goals as goal

pub overflow_add-place : goal.overflow_add-place
overflow_add-place c =
    let len = c.line_len-len.ensures ∙ front-left c.loop-place.place c.args.text.now in
    let short = front-short c.loop-place.place c.args.text.now in
    search (rules, len, short)

pub overflow_add-place-in-loop-place : goal.overflow_add-place-in-loop-place
overflow_add-place-in-loop-place c =
    let len = c.line_len-len.ensures ∙ front-left c.loop-place.place c.args.text.now in
    let short = front-short c.loop-place.place c.args.text.now in
    search (rules, len, short)

pub loop-place-preserved : goal.loop-place-preserved
loop-place-preserved c =
    let text = c.args.text.now in
    let kept = c.loop-place.invariant in
    let len = c.line_len-len.ensures ∙ front-left c.loop-place.place text in
    let more : c.loop-place.longest ≤ c.max-longest.result = search rules in
    let new : c.line_len-len.result ≤ c.max-longest.result = search rules in
    record {
      bounded = subst (λ n. AreBounded text 4096 c.max-longest.result (c.loop-place.place + (n + 4096))) (sym len)
          (bounded-next text 4096 c.loop-place.longest c.loop-place.place kept.bounded c.max-longest.result more
          (subst (λ n. n ≤ c.max-longest.result) len new));
      close = search
          (rules, kept.close, len, longest-front (drop c.loop-place.place text), longest-drop c.loop-place.place text);
      short = search (rules, len, front-short c.loop-place.place text);
    }

pub returns-clause-bound : goal.returns-clause-bound
returns-clause-bound c = bounded-all c.args.text.now 4096 c.loop-place.longest c.loop-place.place
    c.loop-place.invariant.bounded (search rules)
