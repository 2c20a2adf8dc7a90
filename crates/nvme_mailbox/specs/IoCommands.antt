-- Fetched I/O commands of a fleet, of hosts with a driver and of raw ones alike, as their rules read them; and the
-- statement that each is executed by these rules.
use Rattle.std.specs.Prelude.{◌≡◌, ℕ, ◌==◌, Bool, if◌then◌else◌, List, Option, None, Some, slice_get}
use Rattle.nvme_wire.specs.Submission.{opcode}
use Rattle.nvme_spec.specs.declared.command.Command.{Command}
use Rattle.nvme_spec.specs.declared.outcome.Outcome.{Outcome}
use Rattle.nvme_spec.specs.declared.verdict.Verdict.{Verdict}
use Rattle.nvme_spec.specs.declared.verdict.Verdict.TheVariants.{Allowed, Denied}
use Rattle.nvme_spec.specs.Configuration.{Configuration, Capacity, config_fault}
use Rattle.nvme_spec.specs.Blocks.{Device}
use Rattle.nvme_spec.specs.Commands.{command_of}
use Rattle.nvme_spec.specs.Execution.{Performs, marks_of, denial_outcome}
use Rattle.nvme_spec.specs.IoData as spec
use Rattle.nvme_spec.specs.IoRules.{conclusion}
use Rattle.nvme_spec.specs.Rules.{Judgement}
use Rattle.nvme_spec.specs.World.{World}
use Rattle.nvme_driver.specs.declared.lane.Lane.{Lane}
use Rattle.nvme_driver.specs.declared.lane.Lane.TheVariants.{Admin, Io}
use Rattle.nvme_machine.specs.declared.fetched.FetchedCommand.{FetchedCommand}
use Rattle.nvme_machine.specs.declared.seen.Executed.TheVariants.{Posted}
use Rattle.nvme_machine.specs.Controllers.{Controller}
use Rattle.nvme_event.specs.declared.event.FleetEvent.{FleetEvent}
use Rattle.nvme_event.specs.declared.event.FleetEvent.TheVariants.{Execute}
use Rattle.nvme_event.specs.declared.seen.FleetSeen.TheVariants.{Executed as ExecutedSeen}
use Rattle.nvme_event.specs.Replies.{Reply}
use Rattle.nvme_mailbox.specs.Mailboxes.{FetchedItem, lane_of}
use Rattle.nvme_mailbox.specs.Deliveries.{plain}
use Rattle.nvme_mailbox.specs.Executions.{Site, scene_at, command_entry, io_judgement}
use Rattle.nvme_mailbox.specs.Fleets.{Host, WithDriver, Raw, Fleet, Step, Run, host_at, opening}

-- An I/O command that a host's controller has fetched, as its rules read it: its entry, its mark, the data from its
-- host, and the verdict of all rules on it now.
pub record IoCommand : Type 0 where
  pub entry : List ℕ
  pub marked : Bool
  pub sent : List ℕ
  pub judgement : Judgement

-- of a driver's request
abbrev pub asked_command : World → ℕ → FetchedItem → IoCommand
asked_command w k x = record {
  entry = command_entry x.item.asked;
  marked = x.marked;
  sent = x.item.asked.sent;
  judgement = io_judgement w k x.item.asked x.marked;
}

abbrev pub asked_in : Lane → World → ℕ → FetchedItem → Option IoCommand
asked_in Admin w k x = None
asked_in Io w k x = Some (asked_command w k x)

abbrev pub asked_by : World → ℕ → Option FetchedItem → Option IoCommand
asked_by w k None = None
asked_by w k (Some x) = asked_in (lane_of x.item) w k x

-- of a raw host's command
abbrev pub raw_command : World → Controller → FetchedCommand → IoCommand
raw_command w c t = record {
  entry = t.entry;
  marked = t.marked;
  sent = spec.data_of c.window t.entry;
  judgement = spec.io_judgement w c.cntlid t.entry t.marked c.window;
}

abbrev pub sent_by : World → Controller → Option FetchedCommand → Option IoCommand
sent_by w c None = None
sent_by w c (Some t) = if t.queue == 0 then None else Some (raw_command w c t)

abbrev pub command_in : Option Host → World → ℕ → ℕ → Option IoCommand
command_in None w k i = None
command_in (Some (WithDriver m)) w k i = asked_by w k (slice_get m.fetched i)
command_in (Some (Raw c)) w k i = sent_by w c (slice_get c.fetched i)

-- the i-th command that controller k has fetched, if it is an I/O command
unfoldable pub command_at : Fleet → ℕ → ℕ → Option IoCommand
command_at f k i = command_in (host_at f k) f.site.world k i

-- Each raw host's controller has the number of its place: at each opening, and in every run.
abbrev pub BearsItsNumber : ℕ → Host → Type 0
BearsItsNumber k (WithDriver m) = Unit {0}
BearsItsNumber k (Raw c) = c.cntlid ≡ k

abbrev pub AreNumbered : Fleet → Type 0
AreNumbered f = (k : ℕ) → (h : Host) → host_at f k ≡ Some h → BearsItsNumber k h

abbrev pub OpeningIsNumbered : Type 0
OpeningIsNumbered = (c : Configuration) → (d : Device) → (size : Capacity) → config_fault c size ≡ None
    → AreNumbered (opening c d)

abbrev pub NumbersStay : Type 0
NumbersStay =
    (tells : Bool) → (old new : Fleet) → (events : List FleetEvent) → (replies : List Reply)
    → Run tells old events replies new → AreNumbered old → AreNumbered new

-- An allowed command has had its effect on the namespaces as they were at that moment, by the data of its own host.
pub record HasItsEffect (tells : Bool) (command : Command) (k : ℕ) (x : IoCommand) (old : Site) (outcome : Outcome)
    (new : Site) : Type 0 where
  pub returned : List ℕ
  pub effect : Performs tells command k x.entry x.sent (scene_at old) (scene_at new) outcome.status returned
  pub dw0 : outcome.dw0 ≡ 0
  pub rule : outcome.rule ≡ 0
  pub marks : outcome.marks ≡ marks_of command x.entry (spec.reservation_outcome old.world k x.entry x.sent)

-- A denied one is answered with the number and the status of the first rule that fails, and changes neither access
-- state nor medium.
abbrev pub IsExecutedBy : Verdict → Bool → ℕ → IoCommand → Site → Outcome → Site → Type 0
IsExecutedBy (Denied number why) tells k x old outcome new = (outcome ≡ denial_outcome number why) × (new ≡ old)
IsExecutedBy (Allowed plan) tells k x old outcome new = HasItsEffect tells plan.kind k x old outcome new

abbrev pub verdict_on : IoCommand → Verdict
verdict_on x = conclusion x.judgement (command_of (opcode x.entry)) x.entry

-- Each I/O command is executed by the verdict of the rules on the access state of that moment.
abbrev pub ExecutedAsThePolicyAllows : Type 0
ExecutedAsThePolicyAllows =
    (tells : Bool) → (old new : Fleet) → (k i : ℕ) → (x : IoCommand) → (outcome : Outcome) → AreNumbered old
    → Step tells old (Execute k i) (plain (ExecutedSeen (Posted outcome))) new → command_at old k i ≡ Some x
    → IsExecutedBy (verdict_on x) tells k x old.site outcome new.site
