use Rattle.definition_examples.specs.DriverMoments.{changing}
use Rattle.definition_examples.proofs.DriverMoments.{changes, of_no_moment, polled_while_it_changes, port_over}
use Rattle.definition_examples.proofs.driver_moments.driver_polls_of_a_changing_device.Goals as goal

pub returns-clause-port : goal.returns-clause-port
returns-clause-port c = port_over changing

pub returns-clause-changes : goal.returns-clause-changes
returns-clause-changes c = changes

pub returns-clause-polled : goal.returns-clause-polled
returns-clause-polled c = polled_while_it_changes

pub returns-clause-of_no_moment : goal.returns-clause-of_no_moment
returns-clause-of_no_moment c = of_no_moment
