use Rattle.nvme_spec.proofs.ReservationLaws.{register-held, replace-held, acquire-held, preempt-held}
use Rattle.nvme_spec.proofs.laws.reservations.held_by_registrants.Goals as goal

pub returns-clause-register : goal.returns-clause-register
returns-clause-register c = register-held

pub returns-clause-replace : goal.returns-clause-replace
returns-clause-replace c = replace-held

pub returns-clause-acquire : goal.returns-clause-acquire
returns-clause-acquire c = acquire-held

pub returns-clause-preempt : goal.returns-clause-preempt
returns-clause-preempt c = preempt-held
