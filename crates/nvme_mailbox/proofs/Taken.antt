-- For `Regular` and `Secrecy`: each request that waits in a mailbox was placed by its driver.
use Rattle.nvme_mailbox.proofs.Words.{
  all-joined,
  ◌≡◌,
  ℕ,
  ◌++◌,
  Bool,
  true,
  false,
  not,
  List,
  [],
  ◌∷◌,
  map,
  Option,
  None,
  Some,
  refl,
  sym,
  subst,
  if◌then◌else◌,
  slice_get,
  AllByRecursion,
  Device,
  Configuration,
  PlaceRefusal,
  NotReady,
  BadRequest,
  Request,
  is_bad,
  FleetEvent,
  Reply,
  FetchedItem,
  Item,
  LaneBox,
  Mailbox,
  PostedAnswer,
  refusal,
  Fleet,
  Raw,
  Step,
  WithDriver,
  host_at,
  marked,
  opening,
  HoldsTaken,
  WasTaken,
  posted_answers,
  requests_in,
  waiting,
}
use Rattle.nvme_mailbox.proofs.Lists.{all-get}
use Rattle.nvme_mailbox.specs.Fleets.{Host}
use Rattle.nvme_mailbox.proofs.Answered.{Brings, Known, KnownIn, OfItem, all-marked, known-of, moves-known}
use Rattle.nvme_mailbox.proofs.EachHost.{Each, step-keeps}
use Rattle.nvme_mailbox.proofs.Moves.{Move, Take, Answer, May}
use Rattle.nvme_mailbox.proofs.TicketCounts.{opening_is_new}

-- Of a mailbox.

abbrev Any : PostedAnswer → Type 0
Any a = Unit {0}

abbrev Takes : Mailbox → Type 0
Takes m = Known WasTaken Any m

all-any : (xs : List PostedAnswer) → AllByRecursion Any xs
all-any [] = tt
all-any (x ∷ xs) = (tt, all-any xs)

takes : (m : Mailbox) → AllByRecursion WasTaken (waiting m) → Takes m
takes m h = known-of WasTaken Any m h (all-any (posted_answers m))

all-items : (P : Item → Type 0) (xs : List FetchedItem)
    → AllByRecursion (OfItem P) xs → AllByRecursion P (map (λ (f : FetchedItem). f.item) xs)
all-items P [] h = tt
all-items P (x ∷ xs) h = (h.0, all-items P xs h.1)

lane-waits : (b : LaneBox) → KnownIn WasTaken Any b → AllByRecursion WasTaken (requests_in b)
lane-waits b h = all-joined WasTaken b.placed b.rung h.0 h.1

waits : (m : Mailbox) → Takes m → AllByRecursion WasTaken (waiting m)
unfolding waiting
waits m h =
    all-joined WasTaken (requests_in m.admin ++ requests_in m.io) (map (λ (f : FetchedItem). f.item) m.fetched)
    (all-joined WasTaken (requests_in m.admin) (requests_in m.io) (lane-waits m.admin h.0) (lane-waits m.io h.1))
    (all-items WasTaken m.fetched h.2)

-- a request that is not refused is not bad
not-refused : (m : Mailbox) (request : Request) → refusal m request ≡ None → is_bad request ≡ false
not-refused m request h = by m.up (is_bad request) _ h
  where
    by : (up bad : Bool) (rest : Option PlaceRefusal)
        → (if not up then Some NotReady else (if bad then Some BadRequest else rest)) ≡ None → bad ≡ false
    by false bad rest h = absurd (cc)
    by true true rest h = absurd (cc)
    by true false rest h = refl

brings : (v : Move) (m : Mailbox) → May v m → Brings WasTaken Any v m
brings (Take request) m taken = (request, not-refused m request taken, refl)
brings (Answer i x r) m found = λ since. tt
brings other m may = tt

-- Of all hosts.

abbrev Holds : ℕ → Host → Type 0
Holds k (WithDriver m) = Takes m
Holds k (Raw c) = Unit {0}

marked-holds : (k n : ℕ) (h : Host) → Holds k h → Holds k (marked n h)
marked-holds k n (WithDriver m) is = (is.0, is.1, all-marked WasTaken n m.fetched is.2)
marked-holds k n (Raw c) is = tt

pub listed : (f : Fleet) → HoldsTaken f → Each Holds f
listed f all k (WithDriver m) at = takes m (all k m at)
listed f all k (Raw c) at = tt

pub holds-taken : (f : Fleet) → Each Holds f → HoldsTaken f
holds-taken f all k m at = waits m (all k (WithDriver m) at)

pub step : (tells : Bool) (old new : Fleet) (event : FleetEvent) (reply : Reply)
    → Step tells old event reply new → Each Holds old → Each Holds new
step = step-keeps Holds (record {
  move = λ k v m may h. moves-known WasTaken Any v m may (brings v m may) h;
  marks = marked-holds;
  raw = λ k c d same h. h;
})

-- the request at a place of the fetched ones
pub at-place : (f : Fleet) (k i : ℕ) (m : Mailbox) (x : FetchedItem) → HoldsTaken f → host_at f k ≡ Some (WithDriver m)
    → slice_get m.fetched i ≡ Some x → WasTaken x.item
at-place f k i m x h at found = all-get (OfItem WasTaken) m.fetched i x found (takes m (h k m at)).2

-- The opening.

pub opening-holds : (c : Configuration) (d : Device) → Each Holds (opening c d)
opening-holds c d k (WithDriver m) at = subst Takes (sym (opening_is_new c d k m at)) ((tt, tt, tt), (tt, tt, tt), tt)
opening-holds c d k (Raw x) at = tt
