-- Fleets, lists of events and results of the worked examples.
use Rattle.std.specs.Prelude.{ℕ, zero, suc, true, false, List, [], ◌∷◌, ◌++◌, replicate, map, Some, Ok}
use Rattle.std.specs.List.{flat_map}
use Rattle.nvme_wire.specs.declared.status.Status.{Status}
use Rattle.nvme_spec.specs.Configuration.{Configuration}
use Rattle.nvme_spec.specs.Statuses as status
use Rattle.nvme_spec.specs.Examples.{controller, raw_controller, namespace}
use Rattle.nvme_machine.specs.declared.seen.Executed.TheVariants.{Posted}
use Rattle.nvme_driver.specs.declared.answer.Answer.TheVariants.{Done, Aborted}
use Rattle.nvme_driver.specs.declared.request.Request.{Request}
use Rattle.nvme_driver.specs.declared.request.Request.TheVariants as request
use Rattle.nvme_driver.specs.Requests.{asked_of}
use Rattle.nvme_event.specs.declared.event.FleetEvent.{FleetEvent}
use Rattle.nvme_event.specs.declared.event.FleetEvent.TheVariants.{BringUp, Place, Ring, Fetch, Execute, Poll}
use Rattle.nvme_event.specs.declared.seen.FleetSeen.{FleetSeen}
use Rattle.nvme_event.specs.declared.seen.FleetSeen.TheVariants as seen
use Rattle.nvme_event.specs.Replies.{Reply}
use Rattle.nvme_mailbox.specs.Mailboxes.{FetchedItem, Mailbox, new_mailbox}
use Rattle.nvme_mailbox.specs.Deliveries as mail
use Rattle.nvme_mailbox.specs.Executions.{RequestExecution}
use Rattle.nvme_mailbox.specs.Fleets.{Fleet, opening, after_answer}
use Rattle.nvme_mailbox.specs.FaultFree.{fault_free_replies, fault_free_left}

-- Four controllers of three hosts; a shared namespace of two blocks, attached to all, and a private one of one block,
-- attached to controller 1; no host is raw.
abbrev pub cluster : Configuration
cluster = record {
  controllers = controller 1 0xa1 ∷ controller 2 0xb2 ∷ controller 3 0xa1 ∷ controller 4 0xc3 ∷ [];
  namespaces = namespace 1 2 true ∷ namespace 2 1 false ∷ [];
  attached = (1, 1) ∷ (2, 1) ∷ (3, 1) ∷ (4, 1) ∷ (1, 2) ∷ [];
}

-- `cluster`, except that the host of controller 2 is raw
abbrev pub raw_cluster : Configuration
raw_cluster = record cluster {
  controllers = controller 1 0xa1 ∷ raw_controller 2 0xb2 ∷ controller 3 0xa1 ∷ controller 4 0xc3 ∷ [];
}

-- a configuration over a medium of zeros
abbrev pub opened : Configuration → Fleet
opened c = opening c (record { content = replicate 1536 0; failures = 0 })

abbrev pub new_fleet : Fleet
new_fleet = opened cluster

-- `new_fleet` after all drivers have come up
abbrev pub all_up : List FleetEvent
all_up = BringUp 1 ∷ BringUp 2 ∷ BringUp 3 ∷ BringUp 4 ∷ []

unfoldable pub fleet : Fleet
fleet = fault_free_left new_fleet all_up

-- a request of host k is placed, rung, fetched, executed and delivered, with no other request in progress
abbrev pub carried : ℕ → Request → List FleetEvent
carried k what = Place k what ∷ Ring k ∷ Fetch k 1 ∷ Execute k 0 ∷ Poll k ∷ []

abbrev pub carried_by_admin : ℕ → Request → List FleetEvent
carried_by_admin k what = Place k what ∷ Ring k ∷ Fetch k 0 ∷ Execute k 0 ∷ Poll k ∷ []

abbrev pub times : ℕ → List FleetEvent → List FleetEvent
times zero events = []
times (suc n) events = events ++ times n events

-- a Read of the first block of the shared namespace
abbrev pub a_read : Request
a_read = request.Read 1 0 1

-- n Reads of host 1 are placed, rung and fetched
abbrev pub fetched_reads : ℕ → List FleetEvent
fetched_reads n = times n (Place 1 a_read ∷ []) ++ Ring 1 ∷ times n (Fetch 1 1 ∷ [])

-- seven of them; the first is executed and delivered
abbrev pub seven_reads : List FleetEvent
seven_reads = fetched_reads 7 ++ Execute 1 0 ∷ Poll 1 ∷ []

-- host 2 has registered and reads twice; one read is fetched when host 1 acquires Exclusive Access and preempts host 2
abbrev pub caught_read : List FleetEvent
caught_read =
    carried 1 (request.Register 1 0 false 0 0 0x11)
    ++ carried 2 (request.Register 1 0 false 0 0 0x22)
    ++ carried 1 (request.Acquire 1 0 2 0x11 0)
    ++ (times 2 (Place 2 a_read ∷ []) ++ Ring 2 ∷ Fetch 2 1 ∷ [])
    ++ carried 1 (request.Acquire 1 2 2 0x11 0x22)
    ++ Execute 2 0 ∷ Fetch 2 1 ∷ Execute 2 0 ∷ []

-- the answer of each execution in a list of events: the status, and the rule that denied it
abbrev pub executed_in : Reply → List (Status × ℕ)
executed_in r = by r.seen
  where
    by : FleetSeen → List (Status × ℕ)
    by (seen.Executed (Posted o)) = (o.status, o.rule) ∷ []
    by other = []

abbrev pub outcomes : List FleetEvent → List (Status × ℕ)
outcomes events = flat_map executed_in (fault_free_replies fleet events)

abbrev pub done : Status × ℕ
done = (status.successful_completion, 0)

-- the answer of a request that succeeded, with data of this length
abbrev pub done_with : ℕ → ℕ → FleetSeen
done_with ticket len =
    seen.Polled (Ok (Some (Done (record { 0 = ticket }) status.successful_completion 0 len)))

abbrev pub aborted : ℕ → FleetSeen
aborted ticket = seen.Polled (Ok (Some (Aborted (record { 0 = ticket }))))

abbrev pub placed : ℕ → FleetSeen
placed ticket = seen.Placed (Ok (record { 0 = ticket }))

-- the results of the events
abbrev pub seen_in : List FleetEvent → List FleetSeen
seen_in events = map (λ (r : Reply). r.seen) (fault_free_replies fleet events)

-- the results of `events`, after the events `before`
abbrev pub seen_after : List FleetEvent → List FleetEvent → List FleetSeen
seen_after before events = map (λ (r : Reply). r.seen) (fault_free_replies (fault_free_left fleet before) events)

abbrev pub bytes_after : List FleetEvent → List FleetEvent → List (List ℕ)
bytes_after before events = map (λ (r : Reply). r.bytes) (fault_free_replies (fault_free_left fleet before) events)

-- the results of the events, from the opening in which host 2 is raw
abbrev pub raw_seen_in : List FleetEvent → List FleetSeen
raw_seen_in events = map (λ (r : Reply). r.seen) (fault_free_replies (opened raw_cluster) events)

-- three hosts have registered, and the first has acquired Write Exclusive, All Registrants
abbrev pub all_registrants : List FleetEvent
all_registrants =
    carried 1 (request.Register 1 0 false 0 0 0x11)
    ++ carried 2 (request.Register 1 0 false 0 0 0x22)
    ++ carried 4 (request.Register 1 0 false 0 0 0x33)
    ++ carried 1 (request.Acquire 1 0 5 0x11 0)

-- the mailbox of a driver that came up and placed two Reads, the first of which was fetched and answered
abbrev pub two_placed : Mailbox
two_placed = (mail.placed (mail.placed (mail.brought_up (new_mailbox 1)).mailbox a_read).mailbox a_read).mailbox

abbrev pub first_read : FetchedItem
first_read = record { item = record { ticket = 1; asked = asked_of a_read }; marked = false }

abbrev pub first_answered : RequestExecution → Mailbox
first_answered r = after_answer 0 first_read r (mail.fetched 1 (mail.rung two_placed).mailbox).mailbox
