use Rattle.std.proofs.Common.{◌-◌, Option, List, ℕ, ◌≡◌}
use Rattle.nvme_driver.specs.Rises.{Awaits}
use Rattle.nvme_driver.proofs.driver.bring_up.await_answer.Given as goal

-- the outcome of the remaining turns is that of all four
abbrev pub invariant-loop : goal.invariant-loop
invariant-loop g l =
    record {
      rest : (answer : Option (List ℕ)) (new : g.row.P.Denot)
          → Awaits g.P.Port.step l.ends (4 - l.counter) l.port answer new
          → Awaits g.P.Port.step l.ends 4 l.fn.port answer new;
      links : g.P.Port.links l.port ≡ g.P.Port.links l.fn.port;
    }
