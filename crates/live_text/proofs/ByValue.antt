-- For programs that answer lines: the text of a reason depends on its words, but not on their address.
use Rattle.std.proofs.Common.{◌≡◌, ◌∙◌, ℕ, refl, ap}
use Rattle.nvme_grammar.specs.LineFaults as line
use Rattle.nvme_grammar.specs.FaultTexts as line_text
use Rattle.nvme_grammar.specs.declared.fault.Why.{Why as LineWhy}
use Rattle.nvme_grammar.specs.declared.fault.Why.TheVariants as line_why
use Rattle.live_text.specs.Faults.{refusal, refusal_at, why_by_value, why_text, word_of}
use Rattle.live_text.specs.declared.fault.Why.{Why}
use Rattle.live_text.specs.declared.fault.Why.TheVariants as why

line-text : (w : LineWhy) → line_text.why_text (line.why_by_value w) ≡ line_text.why_text w
line-text (line_why.Byte b) = refl
line-text (line_why.Unknown word nearest) = refl
line-text (line_why.Count k) = refl
line-text (line_why.Misfit number wanted word) = refl
line-text (line_why.TooEarly k) = refl
line-text (line_why.TooLate k) = refl

line-number : (w : LineWhy) → line.word_number (line.why_by_value w) ≡ line.word_number w
line-number (line_why.Byte b) = refl
line-number (line_why.Unknown word nearest) = refl
line-number (line_why.Count k) = refl
line-number (line_why.Misfit number wanted word) = refl
line-number (line_why.TooEarly k) = refl
line-number (line_why.TooLate k) = refl

text : (w : Why) → why_text (why_by_value w) ≡ why_text w
text why.TooLong = refl
text (why.Line reason) = line-text reason
text (why.Looking word) = refl
text (why.NoLine word nearest) = refl
text why.BeforeStart = refl
text why.BehindStart = refl
text why.NoController = refl
text why.NoDriver = refl
text why.NoNamespace = refl
text why.OutsideWindow = refl
text why.OutsideNamespace = refl
text why.MediumFailed = refl
text why.LongText = refl

number : (w : Why) → word_of (why_by_value w) ≡ word_of w
number why.TooLong = refl
number (why.Line reason) = line-number reason
number (why.Looking word) = refl
number (why.NoLine word nearest) = refl
number why.BeforeStart = refl
number why.BehindStart = refl
number why.NoController = refl
number why.NoDriver = refl
number why.NoNamespace = refl
number why.OutsideWindow = refl
number why.OutsideNamespace = refl
number why.MediumFailed = refl
number why.LongText = refl

pub refusal_by_value : (n : ℕ) (w : Why) → refusal n (why_by_value w) ≡ refusal n w
refusal_by_value n w =
    ap (λ i. refusal_at n i (why_text (why_by_value w))) (number w) ∙ ap (λ t. refusal_at n (word_of w) t) (text w)
