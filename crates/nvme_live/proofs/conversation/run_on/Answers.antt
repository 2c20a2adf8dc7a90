use Rattle.nvme_subsys.specs.OverMedium.{over}
use Rattle.nvme_fleet.specs.FleetStates.{layers_of}
use Rattle.nvme_live.specs.Standings.{Running}
use Rattle.nvme_live.proofs.conversation.run_on.Goals as goal

pub returns-in-Ok-clause-ok : goal.returns-in-Ok-clause-ok
returns-in-Ok-clause-ok g c = λ size d. record {
  last = over (Running (layers_of c.converse-ran.new.fleet.state)) c.converse-ran.new.fleet.medium;
  ended = c.in-Ok.ensures.ok size d;
  medium = c.into_medium.ensures.medium;
  rests = c.into_medium.ensures.device;
}

pub returns-in-Err-clause-fault : goal.returns-in-Err-clause-fault
returns-in-Err-clause-fault g c = λ size d. record {
  last = over (Running (layers_of c.converse-ran.new.fleet.state)) c.converse-ran.new.fleet.medium;
  ended = c.in-Err.ensures.fault size d;
  medium = c.into_medium-in-Err.ensures.medium;
  rests = c.into_medium-in-Err.ensures.device;
}
