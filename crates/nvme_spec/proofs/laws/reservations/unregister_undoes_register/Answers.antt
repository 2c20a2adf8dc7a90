use Rattle.nvme_spec.proofs.ReservationLaws.{unregister-undoes-register}
use Rattle.nvme_spec.proofs.laws.reservations.unregister_undoes_register.Goals as goal

pub returns : goal.returns
returns c = unregister-undoes-register
