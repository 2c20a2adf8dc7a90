-- The lines of a script that describe a configuration, each with its line feed.
use Rattle.std.specs.Prelude.{ℕ, List, [], ◌∷◌, ◌++◌}
use Rattle.std.specs.List.{flat_map}
use Rattle.nvme_spec.specs.Configuration.{Configuration}
use Rattle.nvme_spec.specs.declared.config.ControllerConfig.{ControllerConfig}
use Rattle.nvme_spec.specs.declared.config.NsConfig.{NsConfig}
use Rattle.nvme_grammar.specs.declared.line.Line.{Line}
use Rattle.nvme_grammar.specs.declared.line.Line.TheVariants.{Controller, Namespace, Attached}
use Rattle.nvme_lines.specs.LineTexts.{line_text}

abbrev pub whole_line : Line → List ℕ
whole_line line = line_text line ++ 10 ∷ []

abbrev pub controller_line : ControllerConfig → List ℕ
controller_line c = whole_line (Controller c)

abbrev pub namespace_line : NsConfig → List ℕ
namespace_line n = whole_line (Namespace n)

abbrev pub attached_line : ℕ × ℕ → List ℕ
attached_line pair = whole_line (Attached pair.0 pair.1)

abbrev pub lines_of : Configuration → List ℕ
lines_of c =
    flat_map controller_line c.controllers ++ flat_map namespace_line c.namespaces ++ flat_map attached_line c.attached
