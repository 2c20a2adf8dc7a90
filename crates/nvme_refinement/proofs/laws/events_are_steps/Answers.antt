use Rattle.nvme_refinement.proofs.FetchStep.{fetch_is_a_step}
use Rattle.nvme_refinement.proofs.RingStep.{ring_is_a_step}
use Rattle.nvme_refinement.proofs.PollStep.{poll_is_a_step}
use Rattle.nvme_refinement.proofs.PlaceStep.{place_is_a_step, refusal_is_a_step}
use Rattle.nvme_refinement.proofs.MarkStep.{marks_are_steps}
use Rattle.nvme_refinement.proofs.Resetting.{reset_is_a_step}
use Rattle.nvme_refinement.proofs.laws.events_are_steps.Goals as goal

pub returns-clause-ring : goal.returns-clause-ring
returns-clause-ring c = ring_is_a_step

pub returns-clause-fetch : goal.returns-clause-fetch
returns-clause-fetch c = fetch_is_a_step

pub returns-clause-reset : goal.returns-clause-reset
returns-clause-reset c = reset_is_a_step

pub returns-clause-poll : goal.returns-clause-poll
returns-clause-poll c = poll_is_a_step

pub returns-clause-refused : goal.returns-clause-refused
returns-clause-refused c = refusal_is_a_step

pub returns-clause-place : goal.returns-clause-place
returns-clause-place c = place_is_a_step

pub returns-clause-marks : goal.returns-clause-marks
returns-clause-marks c = marks_are_steps
