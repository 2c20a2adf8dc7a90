use Rattle.std.proofs.Common.{◌≡◌, ◌++◌, length}
use Rattle.std.specs.List.{flat_map}
use Rattle.live_views.specs.Showing.{registrant_text}
use Rattle.live_views.proofs.spaces.put_registrants.Given as goal

abbrev pub invariant-loop-first : goal.invariant-loop-first
invariant-loop-first g l = g.P.Page.written l.page ++ flat_map registrant_text l.rest ≡ g.P.Page.written l.initial.page
    ++ flat_map registrant_text l.initial.rest

abbrev pub decreases-loop-first : goal.decreases-loop-first
decreases-loop-first g l = length l.rest
