use Rattle.definition_examples.specs.DriverMoments.{settling}
use Rattle.definition_examples.proofs.DriverMoments.{none_aborted, of_one_moment, polled, port_over, settles}
use Rattle.definition_examples.proofs.driver_moments.driver_polls_of_a_device.Goals as goal

pub returns-clause-settles : goal.returns-clause-settles
returns-clause-settles c = settles

pub returns-clause-none_aborted : goal.returns-clause-none_aborted
returns-clause-none_aborted c = none_aborted

pub returns-clause-polled : goal.returns-clause-polled
returns-clause-polled c = polled

pub returns-clause-of_one_moment : goal.returns-clause-of_one_moment
returns-clause-of_one_moment c = of_one_moment

pub returns-clause-port : goal.returns-clause-port
returns-clause-port c = port_over settling
