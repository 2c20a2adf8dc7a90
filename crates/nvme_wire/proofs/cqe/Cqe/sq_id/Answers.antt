use Rattle.std.proofs.Common.{arith}
use Rattle.std.proofs.lemmas.Nat.{from_le_bytes-to_le_bytes_4}
use Rattle.nvme_wire.specs.Completion.{sq_id}
use Rattle.nvme_wire.proofs.cqe.Cqe.sq_id.Goals as goal

pub returns : goal.returns
unfolding sq_id
returns c =
    let fits = c.self.invariant.dw2 in
    rw (← c.self.view_is) (omega (arith, fits, from_le_bytes-to_le_bytes_4 c.self.inside.dw2 fits))
