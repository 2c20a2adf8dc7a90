use Rattle.nvme_host.proofs.MadeCalls.{
  bytes_reason,
  bytes_refused,
  expiry_reason,
  no_expiry_reason,
  no_lane_reason,
  no_request_expires,
  request_expires,
  reset_reason,
  reset_refused,
  shutdown_reason,
  shutdown_refused,
}
use Rattle.nvme_host.proofs.examples.made_calls.lifecycle_calls_with_reasons.Goals as goal

pub returns-clause-reset : goal.returns-clause-reset
returns-clause-reset c = reset_refused

pub returns-clause-reset_code : goal.returns-clause-reset_code
returns-clause-reset_code c = reset_reason

pub returns-clause-shutdown : goal.returns-clause-shutdown
returns-clause-shutdown c = shutdown_refused

pub returns-clause-shutdown_code : goal.returns-clause-shutdown_code
returns-clause-shutdown_code c = shutdown_reason

pub returns-clause-expiry : goal.returns-clause-expiry
returns-clause-expiry c = request_expires

pub returns-clause-expiry_code : goal.returns-clause-expiry_code
returns-clause-expiry_code c = expiry_reason

pub returns-clause-no_expiry : goal.returns-clause-no_expiry
returns-clause-no_expiry c = no_request_expires

pub returns-clause-no_expiry_code : goal.returns-clause-no_expiry_code
returns-clause-no_expiry_code c = no_expiry_reason

pub returns-clause-bytes : goal.returns-clause-bytes
returns-clause-bytes c = bytes_refused

pub returns-clause-bytes_code : goal.returns-clause-bytes_code
returns-clause-bytes_code c = bytes_reason

pub returns-clause-no_lane : goal.returns-clause-no_lane
returns-clause-no_lane c = no_lane_reason
