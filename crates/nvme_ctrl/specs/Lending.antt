-- The controller after a borrow of its window ends, for the contract of `window_mut`.
use Rattle.std.specs.Prelude.{ℕ, List}
use Rattle.std.specs.Borrow.{Lends, MutBor, Fml}
use Rattle.nvme_mem.specs.contracts.window.Window.{the_row as window_row}
use Rattle.nvme_machine.specs.Controllers.{Controller as State}
use Rattle.nvme_ctrl.specs.contracts.controller.Controller.{the_row as controller_row}

-- the controller has the window that the borrow left, and is otherwise unchanged
abbrev pub LendsWindow : MutBor State → MutBor (List ℕ) → Fml
LendsWindow controller result = Lends controller_row window_row controller result
    (λ bytes. record controller.now { window = bytes })
