use Rattle.definition_examples.proofs.DriverPolls.{polled_front}
use Rattle.definition_examples.proofs.driver_polls.driver_polled_bytes.Goals as goal

pub returns : goal.returns
returns c = record { front = polled_front }
