-- Requests, drivers and registers of the worked examples.
use Rattle.std.specs.Prelude.{ℕ, List, [], ◌∷◌, ◌++◌, replicate, Some}
use Rattle.nvme_spec.specs.Registers.{Registers, initial_registers, after_writes}
use Rattle.nvme_driver.specs.declared.lane.Lane.TheVariants.{Admin}
use Rattle.nvme_driver.specs.declared.state.State.TheVariants.{Up}
use Rattle.nvme_driver.specs.declared.request.Request.{Request}
use Rattle.nvme_driver.specs.declared.request.Request.TheVariants.{Read}
use Rattle.nvme_driver.specs.Layout.{submission_queue, completion_queue}
use Rattle.nvme_driver.specs.Drivers.{Driver, empty_ends, new_driver, placed}
use Rattle.nvme_driver.specs.HostCommands.{waiting_command}
use Rattle.nvme_driver.specs.Requests.{Asked}
use Rattle.nvme_driver.specs.Rises.{aqa, asq_low, asq_high, acq_low, acq_high, admin_sizes}

-- a Read of one block of namespace 1, and one of three pages
abbrev pub small_read : Request
small_read = Read 1 0 1

abbrev pub large_read : Request
large_read = Read 1 0 24

-- a command of a host that sends two bytes, and a driver that is up, whose next ticket is 7
abbrev pub sending_command : Asked
sending_command = record {
  command = record { lane = Admin; opcode = 9; nsid = 5; cdw10 = 0x81; cdw11 = 1; cdw12 = 3 };
  moved = 2;
  sent = 17 ∷ 18 ∷ [];
  received = 0;
}

abbrev pub up_driver : Driver
up_driver = record (new_driver 7) { state = Up }

-- the same after seven admin commands, and with a request in each slot
abbrev pub ringing_driver : Driver
ringing_driver = record up_driver { admin = record empty_ends { tail = record { size = 8; put = 7; unheard = 7 } } }

abbrev pub full_driver : Driver
full_driver = record up_driver { slots = replicate 24 (Some (waiting_command (new_driver 1) sending_command)) }

-- a driver that is up, after the small Read was placed
abbrev pub reading_driver : Driver
reading_driver = placed (record (new_driver 1) { state = Up }) small_read 0

-- the 16 bytes of a completion of queue 1, by head and identifier
abbrev pub io_completion : ℕ → ℕ → List ℕ
io_completion head identifier =
    replicate 8 0 ++ head ∷ 0 ∷ 1 ∷ 0 ∷ identifier ∷ 0 ∷ 1 ∷ 0 ∷ []

-- the registers of a new controller after a driver has written all of them before Controller Configuration
abbrev pub registers_set : Registers
registers_set =
    after_writes initial_registers
    ((aqa, admin_sizes) ∷ (asq_low, submission_queue Admin) ∷ (asq_high, 0) ∷ (acq_low, completion_queue Admin)
    ∷ (acq_high, 0) ∷ [])
