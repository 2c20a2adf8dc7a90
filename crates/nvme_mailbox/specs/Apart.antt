-- Statements that an event changes the mailbox of its own host only, apart from the marks of an execution.
use Rattle.std.specs.Prelude.{◌≡◌, ℕ, Bool, true, false, if◌then◌else◌, Option, None, Some, slice_get}
use Rattle.nvme_spec.specs.declared.outcome.Marks.{Marks}
use Rattle.nvme_spec.specs.World.{World, host_of}
use Rattle.nvme_spec.specs.Execution.{no_marks}
use Rattle.nvme_machine.specs.Subsystems.{is_host_among}
use Rattle.nvme_machine.specs.declared.seen.Executed.TheVariants.{Posted, NoSuch}
use Rattle.nvme_event.specs.declared.event.FleetEvent.{FleetEvent}
use Rattle.nvme_event.specs.declared.event.FleetEvent.TheVariants.{
  BringUp,
  Place,
  Ring,
  Fetch,
  Execute,
  Poll,
  Reset,
  RawStore,
  RawWrite32,
  PowerCycle,
}
use Rattle.nvme_event.specs.declared.seen.FleetSeen.{FleetSeen}
use Rattle.nvme_event.specs.declared.seen.FleetSeen.TheVariants.{Executed as ExecutedSeen, NotRaw, Cycled}
use Rattle.nvme_event.specs.Events.{concerns}
use Rattle.nvme_event.specs.Replies.{Reply}
use Rattle.nvme_mailbox.specs.Mailboxes.{FetchedItem, Mailbox, with_marks}
use Rattle.nvme_mailbox.specs.Deliveries.{plain, MailboxReaction, brought_up, placed, rung, fetched, polled, reset}
use Rattle.nvme_mailbox.specs.Executions.{Site, RequestExecution, RequestComesTo}
use Rattle.nvme_mailbox.specs.Fleets.{WithDriver, Fleet, Step, host_at, after_answer, marks_in}

-- controller k's host has a driver with this mailbox
abbrev pub HasMailbox : Fleet → ℕ → Mailbox → Type 0
HasMailbox f k m = host_at f k ≡ Some (WithDriver m)

-- the marks of an event with this result: those of an execution with such an outcome, else none
abbrev pub marks_seen : FleetSeen → Marks
marks_seen (ExecutedSeen executed) = marks_in executed
marks_seen other = no_marks

-- the mailbox of controller k's host after marking: if that host is marked, its fetched requests on the namespace are
abbrev pub marked_by : Marks → World → ℕ → Mailbox → Mailbox
marked_by marks w k m = if is_host_among marks.hosts.items (host_of w k) then with_marks marks.nsid m else m

abbrev pub Becomes : MailboxReaction → Reply → Mailbox → Type 0
Becomes r reply n = (reply ≡ r.reply) × (n ≡ r.mailbox)

-- the i-th fetched request is executed in this site, which leaves that one
pub record Posts (tells : Bool) (k : ℕ) (s : Site) (m : Mailbox) (i : ℕ) (x : FetchedItem) (reply : Reply) (left : Site)
    (n : Mailbox) : Type 0 where
  pub execution : RequestExecution
  pub comes_to : RequestComesTo tells k x s execution
  pub gives : reply ≡ plain (ExecutedSeen (Posted execution.outcome))
  pub site : left ≡ execution.left
  pub leaves : n ≡ marked_by execution.outcome.marks execution.left.world k (after_answer i x execution m)

abbrev pub ExecutesOwn : Option FetchedItem → Bool → ℕ → Site → Mailbox → ℕ → Reply → Site → Mailbox → Type 0
ExecutesOwn None tells k s m i reply left n = (reply ≡ plain (ExecutedSeen NoSuch)) × (n ≡ m)
ExecutesOwn (Some x) tells k s m i reply left n = Posts tells k s m i x reply left n

-- an event of its own; a power cycle is one of every host
abbrev pub OwnStep : FleetEvent → Bool → ℕ → Site → Mailbox → Reply → Site → Mailbox → Type 0
OwnStep (BringUp j) tells k s m reply left n = Becomes (brought_up m) reply n
OwnStep (Place j request) tells k s m reply left n = Becomes (placed m request) reply n
OwnStep (Ring j) tells k s m reply left n = Becomes (rung m) reply n
OwnStep (Fetch j q) tells k s m reply left n = Becomes (fetched q m) reply n
OwnStep (Execute j i) tells k s m reply left n = ExecutesOwn (slice_get m.fetched i) tells k s m i reply left n
OwnStep (Poll j) tells k s m reply left n = Becomes (polled m) reply n
OwnStep (Reset j) tells k s m reply left n = Becomes (reset m) reply n
OwnStep (RawStore j address bytes) tells k s m reply left n = (reply ≡ plain NotRaw) × (n ≡ m)
OwnStep (RawWrite32 j offset v) tells k s m reply left n = (reply ≡ plain NotRaw) × (n ≡ m)
OwnStep PowerCycle tells k s m reply left n = (reply ≡ plain Cycled) × (n ≡ (reset m).mailbox)

-- an event of another host
abbrev pub OthersStep : FleetEvent → ℕ → Mailbox → Reply → Site → Mailbox → Type 0
OthersStep (Execute j i) k m reply left n = n ≡ marked_by (marks_seen reply.seen) left.world k m
OthersStep other k m reply left n = n ≡ m

abbrev pub MailboxStep : Bool → FleetEvent → Bool → ℕ → Site → Mailbox → Reply → Site → Mailbox → Type 0
MailboxStep true event tells k s m reply left n = OwnStep event tells k s m reply left n
MailboxStep false event tells k s m reply left n = OthersStep event k m reply left n

-- After any event of any host, a host that has a driver still has one. Its own events change its mailbox. Another
-- host's event leaves it unchanged, except for the marks of an execution.
pub record MovesOn (tells : Bool) (old : Fleet) (event : FleetEvent) (reply : Reply) (new : Fleet) (k : ℕ)
    (m : Mailbox) : Type 0 where
  pub mailbox : Mailbox
  pub host : HasMailbox new k mailbox
  pub moves : MailboxStep (concerns event k) event tells k old.site m reply new.site mailbox

abbrev pub HostsAreApart : Type 0
HostsAreApart =
    (tells : Bool) → (old new : Fleet) → (event : FleetEvent) → (reply : Reply) → Step tells old event reply new
    → (k : ℕ) → (m : Mailbox) → HasMailbox old k m → MovesOn tells old event reply new k m
