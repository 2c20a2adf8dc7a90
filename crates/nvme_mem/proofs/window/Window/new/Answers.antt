use Rattle.nvme_spec.specs.Memory.{zeros}
use Rattle.nvme_mem.proofs.window.Window.new.Goals as goal

pub returns : goal.returns
unfolding zeros
returns c = record { zeros = c.in_ok-vec.ensures.items_if_clones_equal (λ y h. h) }
