use Rattle.nvme_host.proofs.ExportResults.{
  no_action,
  no_bring_up,
  no_judging,
  no_loading,
  no_loading_code,
  no_ring,
  no_storing,
  no_taking,
}
use Rattle.nvme_host.proofs.examples.export_results.exports_without_a_driver.Goals as goal

pub returns-clause-ring : goal.returns-clause-ring
returns-clause-ring c = no_ring

pub returns-clause-bring_up : goal.returns-clause-bring_up
returns-clause-bring_up c = no_bring_up

pub returns-clause-judge : goal.returns-clause-judge
returns-clause-judge c = no_judging

pub returns-clause-take : goal.returns-clause-take
returns-clause-take c = no_taking

pub returns-clause-take_count : goal.returns-clause-take_count
returns-clause-take_count c = no_action

pub returns-clause-store : goal.returns-clause-store
returns-clause-store c = no_storing

pub returns-clause-load : goal.returns-clause-load
returns-clause-load c = no_loading

pub returns-clause-load_code : goal.returns-clause-load_code
returns-clause-load_code c = no_loading_code
