use Rattle.std.proofs.Common.{◌≡◌, ◌++◌, ◌+◌, ◌<◌, ◌^◌, length}
use Rattle.live_views.specs.Showing.{commands_text}
use Rattle.live_views.proofs.commands.put_commands.Given as goal

abbrev pub invariant-loop-command : goal.invariant-loop-command
invariant-loop-command g l = record {
  wrote : g.P.Page.written l.page ++ commands_text l.place l.rest ≡ g.P.Page.written l.initial.page
      ++ commands_text 0 l.initial.rest;
  few : l.place + length l.rest < 2 ^ 64;
}

abbrev pub decreases-loop-command : goal.decreases-loop-command
decreases-loop-command g l = length l.rest
