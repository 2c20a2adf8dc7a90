use Rattle.std.proofs.Common.{◌∷◌, ◌++◌, [], refl, sym, subst, inl}
use Rattle.live_text.specs.Asking.{asked_by_value}
use Rattle.live_text.specs.Faults.{refusal, why_by_value}
use Rattle.live_text.proofs.ByValue.{refusal_by_value}
use Rattle.nvme_grammar.specs.Lent.{line_by_value}
use Rattle.nvme_lines.specs.LineTexts.{reading_text}
use Rattle.nvme_lines.proofs.ByValue.{reading_by_value}
use Rattle.nvme_library.specs.LookingLines.{Answers}
use Rattle.nvme_library.specs.Written.{Writes}
use Rattle.nvme_library.proofs.looking_line.answer_asked.Goals as goal

pub returns-in-Fails : goal.returns-in-Fails
returns-in-Fails c =
    let why = c.in-Fails.why in
    let n = c.args.number in
    subst (λ q. Answers n (asked_by_value q) c.args.subsystem.now c.answer_with.result c.args.answer.now
    c.answer_with.new.answer c.args.subsystem.now) (sym c.in-Fails.is)
    (inl (
      refusal n (why_by_value why),
      (refl, refl),
      subst (λ t. Writes (t ++ 10 ∷ []) c.answer_with.result c.args.answer.now c.answer_with.new.answer)
          (sym (refusal_by_value n why)) c.answer_with.ensures,
    ))

pub returns-in-Parses : goal.returns-in-Parses
returns-in-Parses c =
    let line = c.in-Parses.line in
    let n = c.args.number in
    subst (λ q. Answers n (asked_by_value q) c.args.subsystem.now c.answer_with-in-Parses.result c.args.answer.now
    c.answer_with-in-Parses.new.answer c.args.subsystem.now) (sym c.in-Parses.is)
    (inl (
      reading_text (line_by_value line),
      (refl, refl),
      subst (λ t. Writes (t ++ 10 ∷ []) c.answer_with-in-Parses.result c.args.answer.now
          c.answer_with-in-Parses.new.answer) (sym (reading_by_value line)) c.answer_with-in-Parses.ensures,
    ))
