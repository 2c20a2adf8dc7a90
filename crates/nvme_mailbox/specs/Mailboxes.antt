-- The mailbox of a driver: its host's requests with the state of each, and the answers that were not delivered. It has
-- no queues, phase tags, command identifiers or addresses.
use Rattle.std.specs.Prelude.{
  ℕ,
  ◌+◌,
  ◌==◌,
  nat_le,
  Bool,
  true,
  false,
  ◌&&◌,
  if◌then◌else◌,
  List,
  [],
  ◌∷◌,
  ◌++◌,
  length,
  map,
}
use Rattle.nvme_wire.specs.declared.status.Status.{Status}
use Rattle.nvme_driver.specs.declared.lane.Lane.{Lane}
use Rattle.nvme_driver.specs.declared.lane.Lane.TheVariants.{Admin, Io}
use Rattle.nvme_driver.specs.Requests.{Asked}

-- A placed request: its ticket, and its command and data.
pub record Item : Type 0 where
  pub ticket : ℕ
  pub asked : Asked

-- A request that its controller has fetched, and whether a Preempt and Abort has marked it.
pub record FetchedItem : Type 0 where
  pub item : Item
  pub marked : Bool

-- An answer that was not delivered: the ticket, the status and double word 0 of the completion, the data, and the
-- number of requests of its lane (queue pair) that were fetched between the answer before it and this one.
pub record PostedAnswer : Type 0 where
  pub ticket : ℕ
  pub status : Status
  pub dw0 : ℕ
  pub bytes : List ℕ
  pub step : ℕ

-- One lane: the requests placed since the last ring, those that were rung and not fetched, and the answers that were
-- not delivered, each in order. Also the number of placed requests that may not be fetched yet by the delivered
-- answers, and the number fetched since the last answer.
pub record LaneBox : Type 0 where
  pub placed : List Item
  pub rung : List Item
  pub posted : List PostedAnswer
  pub unheard : ℕ
  pub since : ℕ

-- A mailbox: whether its driver is up; the next ticket; its lanes; the fetched requests of both lanes, in the order of
-- the fetches; and the tickets of the aborted requests, in the order of their delivery.
pub record Mailbox : Type 0 where
  pub up : Bool
  pub next : ℕ
  pub admin : LaneBox
  pub io : LaneBox
  pub fetched : List FetchedItem
  pub aborted : List ℕ

abbrev pub empty_box : LaneBox
empty_box = record { placed = []; rung = []; posted = []; unheard = 0; since = 0 }

-- the mailbox of a driver with this first ticket, which never came up
abbrev pub new_mailbox : ℕ → Mailbox
new_mailbox first =
    record { up = false; next = first; admin = empty_box; io = empty_box; fetched = []; aborted = [] }

-- one of its lanes, and a mailbox after that lane is replaced
abbrev pub box_at : Lane → Mailbox → LaneBox
box_at Admin m = m.admin
box_at Io m = m.io

abbrev pub with_box : Lane → LaneBox → Mailbox → Mailbox
with_box Admin b m = record m { admin = b }
with_box Io b m = record m { io = b }

-- the lane of a request
abbrev pub lane_of : Item → Lane
lane_of i = i.asked.command.lane

-- the number of requests that were not delivered
abbrev pub held_in : LaneBox → ℕ
held_in b = length b.placed + length b.rung + length b.posted

abbrev pub held : Mailbox → ℕ
held m = held_in m.admin + held_in m.io + length m.fetched + length m.aborted

-- Numbers in rising order.
abbrev pub ranked : ℕ → List ℕ → List ℕ
ranked t [] = t ∷ []
ranked t (u ∷ us) = if nat_le t u then t ∷ u ∷ us else u ∷ ranked t us

abbrev pub rising : List ℕ → List ℕ
rising [] = []
rising (t ∷ ts) = ranked t (rising ts)

-- the tickets of all requests that were neither delivered nor aborted, in rising order
abbrev pub tickets_in : LaneBox → List ℕ
tickets_in b =
    map (λ (i : Item). i.ticket) b.placed ++ map (λ (i : Item). i.ticket) b.rung
    ++ map (λ (a : PostedAnswer). a.ticket) b.posted

unfoldable pub open_tickets : Mailbox → List ℕ
open_tickets m =
    rising (tickets_in m.admin ++ tickets_in m.io ++ map (λ (f : FetchedItem). f.item.ticket) m.fetched)

-- Marks.

-- an I/O request that names the namespace
abbrev pub is_io : Lane → Bool
is_io Admin = false
is_io Io = true

abbrev pub names : ℕ → FetchedItem → Bool
names n f = is_io (lane_of f.item) && (f.item.asked.command.nsid == n)

abbrev pub with_mark : ℕ → FetchedItem → FetchedItem
with_mark n f = if names n f then record f { marked = true } else f

-- a mailbox after its fetched requests on a namespace are marked
abbrev pub with_marks : ℕ → Mailbox → Mailbox
with_marks n m = record m { fetched = map (with_mark n) m.fetched }
