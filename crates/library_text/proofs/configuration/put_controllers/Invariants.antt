use Rattle.std.proofs.Common.{◌≡◌, ◌++◌, length}
use Rattle.std.specs.List.{flat_map}
use Rattle.library_text.specs.ConfigLines.{controller_line}
use Rattle.library_text.proofs.configuration.put_controllers.Given as goal

abbrev pub invariant-loop-first : goal.invariant-loop-first
invariant-loop-first g l = g.P.Page.written l.page ++ flat_map controller_line l.rest ≡ g.P.Page.written l.initial.page
    ++ flat_map controller_line l.initial.rest

abbrev pub decreases-loop-first : goal.decreases-loop-first
decreases-loop-first g l = length l.rest
