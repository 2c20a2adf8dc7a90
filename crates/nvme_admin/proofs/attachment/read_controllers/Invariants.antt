use Rattle.std.proofs.Common.{◌≡◌, ◌+◌, ◌*◌, take, map}
use Rattle.std.specs.List.{range_with_len}
use Rattle.nvme_wire.specs.Entry.{word_at}
use Rattle.nvme_admin.proofs.attachment.read_controllers.Given as goal

abbrev pub invariant-loop-i : goal.invariant-loop-i
invariant-loop-i l = take l.i l.controllers ≡ map (λ i. word_at l.list (2 + 2 * i)) (range_with_len 0 l.i)
