use Rattle.std.proofs.Common.{rules, ◌≡◌, ◌∙◌, sym, ℕ, length, None, ap}
use Rattle.script_text.specs.Lines.{text_lines}
use Rattle.nvme_spec.specs.Configuration.{Configuration, capacity}
use Rattle.nvme_ns.specs.Configured.{configuration}
use Rattle.nvme_ns.specs.Refusals.{refusal_of}
use Rattle.library_text.specs.Reading.{set_up}
use Rattle.library_text.proofs.ReadingLemmas.{none-left, sound-lines}
use Rattle.library_text.proofs.reading.judged.Goals as goal

pub returns-in-Some-first_event-clause-refused : goal.returns-in-Some-first_event-clause-refused
returns-in-Some-first_event-clause-refused c = (
  sound-lines (text_lines c.args.text.now) (capacity c.args.max_blocks c.args.medium_blocks)
      (configuration c.args.script.config) c.requires.begins c.requires.read (search rules),
  search rules,
)

pub returns-then-is_empty-clause-refused : goal.returns-then-is_empty-clause-refused
returns-then-is_empty-clause-refused c =
    let same : (configuration c.args.script.config).controllers ≡ (set_up (text_lines c.args.text.now)).controllers =
    ap (λ (k : Configuration). k.controllers) c.requires.read in
    let none : length (configuration c.args.script.config).controllers ≡ 0 = search rules in (
      sound-lines (text_lines c.args.text.now) (capacity c.args.max_blocks c.args.medium_blocks)
          (configuration c.args.script.config) c.requires.begins c.requires.read (search rules),
      search rules,
      sym same ∙ none-left _ none,
    )

pub returns-clause-accepted : goal.returns-clause-accepted
returns-clause-accepted c = record {
  few = c.requires.few;
  sound = sound-lines (text_lines c.args.text.now) (capacity c.args.max_blocks c.args.medium_blocks)
      (configuration c.args.script.config) c.requires.begins c.requires.read (search rules);
  silent = search rules;
  controlled = search rules;
  is = c.requires.read;
}
