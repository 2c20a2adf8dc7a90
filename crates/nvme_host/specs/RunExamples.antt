-- Computed runs of the laws on tickets: one in which their premises hold, and one without each premise.
use Rattle.std.specs.Prelude.{ℕ, false, List, [], ◌∷◌, ◌++◌, replicate, Option, None, Some, Ok}
use Rattle.nvme_spec.specs.declared.command.Command.TheVariants as command
use Rattle.nvme_driver.specs.declared.lane.Lane.TheVariants.{Io}
use Rattle.nvme_driver.specs.declared.request.Request.TheVariants.{Flush}
use Rattle.nvme_driver.specs.declared.slots.Waiting.{Waiting}
use Rattle.nvme_driver.specs.declared.state.State.TheVariants.{Up}
use Rattle.nvme_driver.specs.Drivers.{
  after_reset,
  cc,
  empty_ends,
  entry_of,
  entry_place,
  placed,
}
use Rattle.nvme_driver.specs.Layout.{data_area, list_page, head_doorbell}
use Rattle.nvme_driver.specs.Polls.{consumed, freed}
use Rattle.nvme_host.specs.declared.facts.DeviceFacts.{DeviceFacts}
use Rattle.nvme_host.specs.declared.open_driver.OpenDriver.{OpenDriver}
use Rattle.nvme_host.specs.declared.stage.Stage.TheVariants as at
use Rattle.nvme_host.specs.Calls.{Resetting, Expiring}
use Rattle.nvme_host.specs.Exports.{zeroing}
use Rattle.nvme_host.specs.Facts.{no_facts}
use Rattle.nvme_host.specs.Recording.{new_port, after_store, after_register, with_actions, without_reports}
use Rattle.nvme_host.specs.Runs.{
  Places,
  Polls,
  TakesActions,
  no_tickets,
  Uses,
  IsIdle,
}

-- a namespace 1 of 100 blocks
abbrev pub one_namespace : DeviceFacts
one_namespace = record {
  controller = Some (Ok (record { cntlid = 0; mdts = 0; oncs = 0; nn = 1; vwc = 1 }));
  namespaces = None ∷ Some (Ok (record { blocks = 100 })) ∷ replicate 63 None;
  asked = None;
  identifying = None;
  host_identified = false;
}

-- a driver that is up, with this next ticket, a request or none in slot 0, and these bytes in its window
abbrev pub running : ℕ → Option Waiting → List ℕ → OpenDriver
running next_ticket request bytes = record {
  driver = record {
    state = Up;
    next = next_ticket;
    slots = request ∷ replicate 23 None;
    admin = empty_ends;
    io = empty_ends;
  };
  port = new_port bytes;
  stage = at.Running;
  capabilities = None;
  facts = one_namespace;
}

-- A Flush is placed with ticket 7, and the program takes the actions.
abbrev pub idle : OpenDriver
idle = running 7 None []

abbrev pub flushing : OpenDriver
flushing = record idle {
  driver = placed idle.driver (Flush 1) 0;
  port = after_store
      (after_store (after_store idle.port (data_area 0) []) (list_page 0) [])
      (entry_place idle.driver (Flush 1)) (entry_of (Flush 1) 0);
}

abbrev pub flushed : OpenDriver
flushed = record flushing { port = with_actions flushing.port [] }

-- The controller is reset, and the program takes the actions and polls.
abbrev pub reset : OpenDriver
reset = record flushed {
  driver = after_reset flushed.driver;
  port = without_reports (after_register flushed.port cc 0);
  stage = at.Disabling;
  facts = no_facts;
}

abbrev pub disabled : OpenDriver
disabled = record reset { port = with_actions reset.port [] }

abbrev pub aborted : OpenDriver
aborted = record disabled { driver = freed disabled.driver 0 }

-- the premises of both laws hold, and the ticket is delivered once, as aborted
abbrev pub ResetAbortsAFlush : Type 0
ResetAbortsAFlush =
    IsIdle idle
    × Uses (Places 1 command.Flush (zeroing 0 0) (Flush 1) ∷ TakesActions ∷ []) idle
    (record no_tickets { given = 7 ∷ [] }) flushed
    × Resetting flushed 0 reset
    × Uses (TakesActions ∷ Polls ∷ []) reset (record no_tickets { aborted = 7 ∷ [] }) aborted

-- Without a reset the ticket is delivered with the answer of the controller: the next completion of the I/O queue.
abbrev pub completion : List ℕ
completion = replicate 8 0 ++ 1 ∷ 0 ∷ 1 ∷ 0 ∷ 0 ∷ 0 ∷ 1 ∷ 0 ∷ []

abbrev pub completed : OpenDriver
completed = record flushed { port = record flushed.port { window = replicate 0x3000 0 ++ completion } }

abbrev pub answered : OpenDriver
answered = record completed {
  driver = consumed completed.driver Io completion;
  port = after_register completed.port (head_doorbell Io) 1;
}

abbrev pub WithoutAResetItIsDone : Type 0
WithoutAResetItIsDone = Uses (Polls ∷ []) completed (record no_tickets { done = 7 ∷ [] }) answered

-- A driver that is not idle at first delivers a ticket that no placing of the run gave.
abbrev pub left_over : OpenDriver
left_over =
    running 8 (Some (record { ticket = record { 0 = 7 }; lane = Io; received = 0; live = false })) []

abbrev pub delivered : OpenDriver
delivered = record left_over { driver = freed left_over.driver 0 }

abbrev pub WithoutIdlenessNoneGaveIt : Type 0
WithoutIdlenessNoneGaveIt = Uses (Polls ∷ []) left_over (record no_tickets { aborted = 7 ∷ [] }) delivered

-- The Flush expires, and another one is refused; a ticket of no request does not expire.
abbrev pub expired : OpenDriver
expired = record flushed { stage = at.Expired }

abbrev pub AFlushExpires : Type 0
AFlushExpires =
    Expiring flushed 7 0 expired × Expiring flushed 8 34 flushed
    × Uses (Places 1 command.Flush (zeroing 0 0) (Flush 1) ∷ []) expired no_tickets expired
