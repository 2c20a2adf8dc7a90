use Rattle.std.proofs.Common.{rules, ◌≡◌, ◌∙◌, ap, ap₂, codes, map, option_and_then, List}
use Rattle.std.specs.String.{string_bytes}
use Rattle.clap.specs.Simple.{app_of_fields}
use Rattle.clap.specs.Words.{App, Text, app_of, found_of, is_simple, matches_of, rule_of, takes, with_rule}
use Rattle.nvme_program.specs.CommandLines.{image_path}
use Rattle.nvme_program.proofs.CommandLine.{program, place, without_help, taken, finds, simple, value-is}
use Rattle.nvme_program.proofs.command_line.named.Goals as goal

pub returns-in-Ok-clause-named : goal.returns-in-Ok-clause-named
returns-in-Ok-clause-named c =
    let words : List Text = map string_bytes c.args.words.now in
    let image_is : rule_of c.action.result ≡ place (codes "image") = search rules in
    let script_is : rule_of c.action-2.result ≡ place (codes "script") = search rules in
    let program_is : app_of c.in_ok-command.command ≡ program c.args.name.now =
    c.in_ok-command.ensures.shape (search rules)
    ∙ ap₂ with_rule (c.in_ok-arg.ensures.shape (search rules) ∙ ap₂ with_rule
    (ap app_of_fields c.disable_help_flag.ensures ∙ ap without_help c.new.ensures.app) image_is) script_is in
    let found = (c.in-Ok.ensures.matches (ap is_simple program_is ∙ simple c.args.name.now)).0
    ∙ ap (λ (a : App). matches_of a words) program_is in
    let them = finds c.args.name.now words c.requires.taken in
    let image = c.get_str.ensures ∙ value-is (found_of c.in-Ok.matches) _ (codes "image") _ found them.image in
    let script = c.get_str-in-Ok.ensures ∙ value-is (found_of c.in-Ok.matches) _ (codes "script") _ found them.script in
    record { image = c.path_of_image.ensures ∙ ap (option_and_then image_path) image; script = script }

pub returns : goal.returns
returns c =
    let words : List Text = map string_bytes c.args.words.now in
    let image_is : rule_of c.action.result ≡ place (codes "image") = search rules in
    let script_is : rule_of c.action-2.result ≡ place (codes "script") = search rules in
    let program_is : app_of c.in_ok-command.command ≡ program c.args.name.now =
    c.in_ok-command.ensures.shape (search rules)
    ∙ ap₂ with_rule (c.in_ok-arg.ensures.shape (search rules) ∙ ap₂ with_rule
    (ap app_of_fields c.disable_help_flag.ensures ∙ ap without_help c.new.ensures.app) image_is) script_is in
    absurd (c.in_default.not-OutOfMemory (c.kind.ensures ∙ c.in-Err.ensures.passes
    (ap (λ (a : App). takes a words) program_is ∙ taken c.args.name.now words c.requires.taken)))
