-- Proof of the law `done_is_its_execution`, and for laws of tickets: each answer in a mailbox is of an execution in the
-- run, of a request that was placed in the run.
use Rattle.nvme_mailbox.proofs.Words.{
  all-joined,
  ◌≡◌,
  ◌⊎◌,
  inl,
  inr,
  ℕ,
  ◌+◌,
  Bool,
  true,
  false,
  List,
  [],
  ◌∷◌,
  ◌++◌,
  length,
  map,
  Some,
  Ok,
  refl,
  sym,
  ap,
  subst,
  ◌∙◌,
  if◌then◌else◌,
  AllByRecursion,
  Status,
  Lane,
  Admin,
  Io,
  Done,
  asked_of,
  FleetEvent,
  Poll,
  FleetSeen,
  Reply,
  concerns,
  Item,
  FetchedItem,
  PostedAnswer,
  LaneBox,
  Mailbox,
  box_at,
  with_box,
  lane_of,
  names,
  with_mark,
  new_item,
  with_placed,
  answer_reply,
  WithDriver,
  Fleet,
  Run,
  Is,
  called_at,
  host_at,
  after_answer,
  with_posted,
  answer_for,
  HasMailbox,
  OwnStep,
  MailboxStep,
  waiting,
  posted_answers,
  requests_in,
  Conclusion,
  Executes,
  HappensThen,
  ResetClears,
  NewIsClear,
  WasPlacedAndExecuted,
  DoneIsItsExecution,
  done_in,
  remove,
  all-map,
}
use Rattle.nvme_mailbox.proofs.Lists.{all-left, all-right, all-over, all-get, all-removed}
use Rattle.nvme_mailbox.specs.Deliveries.{polled}
use Rattle.nvme_driver.specs.declared.ticket.Ticket.{Ticket}
use Rattle.nvme_event.specs.declared.seen.FleetSeen.TheVariants as seen
use Rattle.nvme_mailbox.specs.Answered.{Places, Happens}
use Rattle.nvme_mailbox.proofs.Apart.{same-is, hosts_are_apart, DiffersInMarks, others-differ}
use Rattle.nvme_mailbox.proofs.Moves.{
  Move,
  Stay,
  Take,
  RingBoth,
  FetchFirst,
  HandUp,
  Clear,
  Answer,
  May,
  IsOf,
  moved,
  reply_of,
  own-moved,
}

-- What is known of each request that waits, and of each answer.

abbrev pub OfItem : (Item → Type 0) → FetchedItem → Type 0
OfItem P f = P f.item

abbrev pub KnownIn : (Item → Type 0) → (PostedAnswer → Type 0) → LaneBox → Type 0
KnownIn P Q b = AllByRecursion P b.placed × AllByRecursion P b.rung × AllByRecursion Q b.posted

abbrev pub Known : (Item → Type 0) → (PostedAnswer → Type 0) → Mailbox → Type 0
Known P Q m = KnownIn P Q m.admin × KnownIn P Q m.io × AllByRecursion (OfItem P) m.fetched

known-in : (P R : Item → Type 0) (Q S : PostedAnswer → Type 0)
    → ((i : Item) → P i → R i) → ((a : PostedAnswer) → Q a → S a) → (b : LaneBox) → KnownIn P Q b → KnownIn R S b
known-in P R Q S f g b k = (all-map P R f b.placed k.0, all-map P R f b.rung k.1, all-map Q S g b.posted k.2)

known-map : (P R : Item → Type 0) (Q S : PostedAnswer → Type 0)
    → ((i : Item) → P i → R i) → ((a : PostedAnswer) → Q a → S a) → (m : Mailbox) → Known P Q m → Known R S m
known-map P R Q S f g m k = (
  known-in P R Q S f g m.admin k.0,
  known-in P R Q S f g m.io k.1,
  all-map (OfItem P) (OfItem R) (λ x h. f x.item h) m.fetched k.2,
)

box-known : (P : Item → Type 0) (Q : PostedAnswer → Type 0) (l : Lane) (m : Mailbox)
    → Known P Q m → KnownIn P Q (box_at l m)
box-known P Q Admin m k = k.0
box-known P Q Io m k = k.1

with-known : (P : Item → Type 0) (Q : PostedAnswer → Type 0) (l : Lane) (b : LaneBox) (m : Mailbox)
    → Known P Q m → KnownIn P Q b → Known P Q (with_box l b m)
with-known P Q Admin b m k h = (h, k.1, k.2)
with-known P Q Io b m k h = (k.0, h, k.2)

-- Moves move requests and answers.

-- what a move adds is known: the request that it takes, and the answer to the one that it executes
abbrev pub Brings : (Item → Type 0) → (PostedAnswer → Type 0) → Move → Mailbox → Type 0
Brings P Q (Take request) m = P (new_item m request)
Brings P Q (Answer i x r) m = (since : ℕ) → Q (answer_for x r since)
Brings P Q other m = Unit {0}

pub moves-known : (P : Item → Type 0) (Q : PostedAnswer → Type 0) (v : Move) (m : Mailbox)
    → May v m → Brings P Q v m → Known P Q m → Known P Q (moved v m)
unfolding after_answer
moves-known P Q (Take request) m may new k =
    let l : Lane = (asked_of request).command.lane in
    let b : LaneBox = box_at l m in
    let h = box-known P Q l m k in
    with-known P Q l (with_placed b (new_item m request)) (record m { next = m.next + 1 }) k
    (all-joined P b.placed (new_item m request ∷ []) h.0 (new, tt), h.1, h.2)
moves-known P Q RingBoth m may new k = (
  (tt, all-joined P m.admin.rung m.admin.placed k.0.1 k.0.0, k.0.2),
  (tt, all-joined P m.io.rung m.io.placed k.1.1 k.1.0, k.1.2),
  k.2,
)
moves-known P Q (FetchFirst l x rest) m e new k =
    let h = box-known P Q l m k in
    let r : AllByRecursion P (x ∷ rest) = subst (AllByRecursion P) e h.1 in
    with-known P Q l _ (record m { fetched = m.fetched ++ record { item = x; marked = false } ∷ [] })
    (k.0, k.1, all-joined (OfItem P) m.fetched (record { item = x; marked = false } ∷ []) k.2 (r.0, tt)) (h.0, r.1, h.2)
moves-known P Q (HandUp l first rest) m e new k =
    let h = box-known P Q l m k in
    with-known P Q l _ m k (h.0, h.1, (subst (AllByRecursion Q) e h.2).1)
moves-known P Q (Clear what) m may new k = ((tt, tt, tt), (tt, tt, tt), tt)
moves-known P Q (Answer i x r) m may new k =
    let l : Lane = lane_of x.item in
    let b : LaneBox = box_at l m in
    let h = box-known P Q l m k in
    with-known P Q l (with_posted b x r) (record m { fetched = remove m.fetched i })
    (k.0, k.1, all-removed (OfItem P) m.fetched i k.2)
    (h.0, h.1, all-joined Q b.posted (answer_for x r b.since ∷ []) h.2 (new b.since, tt))
moves-known P Q v m may new k = k

pub all-marked : (P : Item → Type 0) (n : ℕ) (xs : List FetchedItem)
    → AllByRecursion (OfItem P) xs → AllByRecursion (OfItem P) (map (with_mark n) xs)
all-marked P n [] a = tt
all-marked P n (x ∷ xs) a = (by (names n x), all-marked P n xs a.1)
  where
    by : (b : Bool) → P (if b then record x { marked = true } else x).item
    by true = a.0
    by false = a.0

pub marks : (P : Item → Type 0) (Q : PostedAnswer → Type 0) (m n : Mailbox)
    → DiffersInMarks m n → Known P Q m → Known P Q n
marks P Q m n (inl e) k = subst (Known P Q) (sym e) k
marks P Q m n (inr h) k = subst (Known P Q) (sym h.1) (k.0, k.1, all-marked P h.0 m.fetched k.2)

-- One event: the facts that it adds.

abbrev conclusion_in : PostedAnswer → Conclusion
conclusion_in a = record { status = a.status; dw0 = a.dw0; bytes = a.bytes }

-- a request is known from before, or was placed now
abbrev ItemsNow : (Item → Type 0) → ℕ → Fleet → FleetEvent → Reply → Fleet → Item → Type 0
ItemsNow P k old event reply new i = P i ⊎ Places k i old event reply new

-- a request known from before is executed now, with this answer
record ExecutesKnown (P : Item → Type 0) (tells : Bool) (k : ℕ) (old : Fleet) (event : FleetEvent) (reply : Reply)
    (new : Fleet) (a : PostedAnswer) : Type 0 where
  item : Item
  ticket_is : item.ticket ≡ a.ticket
  known : P item
  executes : Executes tells k item (conclusion_in a) old event reply new

abbrev AnswersNow : (Item → Type 0) → (PostedAnswer → Type 0) → Bool → ℕ → Fleet → FleetEvent → Reply → Fleet
    → PostedAnswer → Type 0
AnswersNow P Q tells k old event reply new a = Q a ⊎ ExecutesKnown P tells k old event reply new a

before : (P : Item → Type 0) (Q : PostedAnswer → Type 0) (tells : Bool) (k : ℕ) (old : Fleet) (event : FleetEvent)
    (reply : Reply) (new : Fleet) (m : Mailbox) → Known P Q m
    → Known (ItemsNow P k old event reply new) (AnswersNow P Q tells k old event reply new) m
before P Q tells k old event reply new m h =
    known-map P (ItemsNow P k old event reply new) Q (AnswersNow P Q tells k old event reply new) (λ i p. inl p)
    (λ a q. inl q) m h

-- what the move of an event adds is known now
brings : (P : Item → Type 0) (Q : PostedAnswer → Type 0) (v : Move) (tells : Bool) (k : ℕ) (old : Fleet)
    (event : FleetEvent) (reply : Reply) (new : Fleet) (m : Mailbox) → HasMailbox old k m → May v m
    → IsOf v tells k old.site event new.site → reply ≡ reply_of v m → Known P Q m
    → Brings (ItemsNow P k old event reply new) (AnswersNow P Q tells k old event reply new) v m
brings P Q (Take request) tells k old event reply new m at may is gives g =
    inr (record { request = request; event_is = is; asked = refl; gives = gives })
brings P Q (Answer i x r) tells k old event reply new m at found is gives g = λ since. inr (record {
  item = x.item;
  ticket_is = refl;
  known = all-get (OfItem P) m.fetched i x found g.2;
  executes = record {
    place = i;
    event_is = is.0;
    mailbox = m;
    host = at;
    fetched = x;
    found = found;
    item_is = refl;
    execution = r;
    comes_to = is.1;
    gives = gives;
    leaves = is.2;
    conclusion_is = refl;
  };
})
brings P Q other tells k old event reply new m at may is gives g = tt

own-known : (P : Item → Type 0) (Q : PostedAnswer → Type 0) (event : FleetEvent) (tells : Bool) (k : ℕ)
    (old new : Fleet) (m n : Mailbox) (reply : Reply) → concerns event k ≡ true → HasMailbox old k m
    → OwnStep event tells k old.site m reply new.site n → Known P Q m
    → Known (ItemsNow P k old event reply new) (AnswersNow P Q tells k old event reply new) n
own-known P Q event tells k old new m n reply same at h g =
    let v = own-moved event tells k old.site new.site m n reply same h in
    let R : Item → Type 0 = ItemsNow P k old event reply new in
    let S : PostedAnswer → Type 0 = AnswersNow P Q tells k old event reply new in
    marks R S (moved v.move m) n v.leaves
    (moves-known R S v.move m v.may (brings P Q v.move tells k old event reply new m at v.may v.of v.gives g)
    (before P Q tells k old event reply new m g))

step-known : (P : Item → Type 0) (Q : PostedAnswer → Type 0) (b : Bool) (event : FleetEvent) (tells : Bool) (k : ℕ)
    (old new : Fleet) (m n : Mailbox) (reply : Reply) → concerns event k ≡ b → HasMailbox old k m
    → MailboxStep b event tells k old.site m reply new.site n → Known P Q m
    → Known (ItemsNow P k old event reply new) (AnswersNow P Q tells k old event reply new) n
step-known P Q true event tells k old new m n reply is at h g = own-known P Q event tells k old new m n reply is at h g
step-known P Q false event tells k old new m n reply is at h g =
    marks (ItemsNow P k old event reply new) (AnswersNow P Q tells k old event reply new) m n
    (others-differ event k m reply new.site n h) (before P Q tells k old event reply new m g)

-- A run: each answer is known from its start, or is of a request that was executed in the run; that request is known
-- from its start, or was placed in the run before.
record ExecutedIn (P : Item → Type 0) (k : ℕ) (a : PostedAnswer) (tells : Bool) (old : Fleet) (events : List FleetEvent)
    (replies : List Reply) (new : Fleet) (run : Run tells old events replies new) : Type 0 where
  item : Item
  ticket_is : item.ticket ≡ a.ticket
  happened : (P item × Happens (Executes tells k item (conclusion_in a)) tells old events replies new run)
      ⊎ HappensThen (Places k item) (Executes tells k item (conclusion_in a)) tells old events replies new run

abbrev Any : Item → Type 0
Any i = Unit {0}

abbrev KnownBehind : (Item → Type 0) → (PostedAnswer → Type 0) → ℕ → (tells : Bool) → (old : Fleet)
    → (events : List FleetEvent) → (replies : List Reply) → (new : Fleet) → Run tells old events replies new
    → PostedAnswer → Type 0
KnownBehind P Q k tells old events replies new run a = Q a ⊎ ExecutedIn P k a tells old events replies new run

record Reached (P : Item → Type 0) (Q : PostedAnswer → Type 0)
    (k : ℕ) (tells : Bool) (old : Fleet) (events : List FleetEvent) (replies : List Reply) (new : Fleet)
    (run : Run tells old events replies new) : Type 0 where
  mailbox : Mailbox
  host : HasMailbox new k mailbox
  known : Known Any (KnownBehind P Q k tells old events replies new run) mailbox

-- what is known from the rest of a run is known from the whole
behind : (P : Item → Type 0) (Q : PostedAnswer → Type 0) (k : ℕ) (tells : Bool)
    (old : Fleet) (event : FleetEvent) (events : List FleetEvent) (reply : Reply) (later : List Reply) (new : Fleet)
    (run : Run tells old (event ∷ events) (reply ∷ later) new)
    → (a : PostedAnswer) → KnownBehind (ItemsNow P k old event reply run.0)
    (AnswersNow P Q tells k old event reply run.0) k tells run.0 events later new run.2 a
    → KnownBehind P Q k tells old (event ∷ events) (reply ∷ later) new run a
behind P Q k tells old event events reply later new run a (inl (inl q)) = inl q
behind P Q k tells old event events reply later new run a (inl (inr x)) =
    inr (record { item = x.item; ticket_is = x.ticket_is; happened = inl (x.known, inl x.executes) })
behind P Q k tells old event events reply later new run a (inr x) =
    inr (record { item = x.item; ticket_is = x.ticket_is; happened = by x.happened })
  where
    by : (ItemsNow P k old event reply run.0 x.item
        × Happens (Executes tells k x.item (conclusion_in a)) tells run.0 events later new run.2)
        ⊎ HappensThen (Places k x.item) (Executes tells k x.item (conclusion_in a)) tells run.0 events later new run.2
        → (P x.item
        × Happens (Executes tells k x.item (conclusion_in a)) tells old (event ∷ events) (reply ∷ later) new run)
        ⊎ HappensThen (Places k x.item) (Executes tells k x.item (conclusion_in a)) tells old (event ∷ events)
        (reply ∷ later) new run
    by (inl (inl p, h)) = inl (p, inr h)
    by (inl (inr p, h)) = inr (inl (p, h))
    by (inr h) = inr (inr h)

walk : (P : Item → Type 0) (Q : PostedAnswer → Type 0) (k : ℕ) (m : Mailbox) (tells : Bool) (old : Fleet)
    (events : List FleetEvent) (replies : List Reply) (new : Fleet) (run : Run tells old events replies new)
    → HasMailbox old k m
    → Known P Q m → Reached P Q k tells old events replies new run
walk P Q k m tells old [] [] new run at g = record {
  mailbox = m;
  host = ap (λ f. host_at f k) run ∙ at;
  known = known-map P Any Q (KnownBehind P Q k tells old [] [] new run) (λ i p. tt) (λ a q. inl q) m g;
}
walk P Q k m tells old (event ∷ events) (x ∷ later) new run at g =
    let one = hosts_are_apart tells old run.0 event x run.1 k m at in
    let R : Item → Type 0 = ItemsNow P k old event x run.0 in
    let S : PostedAnswer → Type 0 = AnswersNow P Q tells k old event x run.0 in
    let here : Known R S one.mailbox =
    step-known P Q (concerns event k) event tells k old run.0 m one.mailbox x refl at one.moves g in
    let rest = walk R S k one.mailbox tells run.0 events later new run.2 one.host here in
    record {
      mailbox = rest.mailbox;
      host = rest.host;
      known = known-map Any Any (KnownBehind R S k tells run.0 events later new run.2)
          (KnownBehind P Q k tells old (event ∷ events) (x ∷ later) new run) (λ i p. p)
          (behind P Q k tells old event events x later new run) rest.mailbox rest.known;
    }
walk P Q k m tells old events later new run at g = absurd run

-- A property of all waiting requests and of all answers.
pub known-of : (P : Item → Type 0) (Q : PostedAnswer → Type 0) (m : Mailbox)
    → AllByRecursion P (waiting m) → AllByRecursion Q (posted_answers m) → Known P Q m
unfolding waiting posted_answers
known-of P Q m w a =
    let lanes = all-left P (requests_in m.admin ++ requests_in m.io) (map (λ (f : FetchedItem). f.item) m.fetched) w in
    let admin = all-left P (requests_in m.admin) (requests_in m.io) lanes in
    let io = all-right P (requests_in m.admin) (requests_in m.io) lanes in (
      (
        all-left P m.admin.placed m.admin.rung admin,
        all-right P m.admin.placed m.admin.rung admin,
        all-left Q m.admin.posted m.io.posted a,
      ),
      (
        all-left P m.io.placed m.io.rung io,
        all-right P m.io.placed m.io.rung io,
        all-right Q m.admin.posted m.io.posted a,
      ),
      all-over P (λ (f : FetchedItem). f.item) m.fetched
          (all-right P (requests_in m.admin ++ requests_in m.io) (map (λ (f : FetchedItem). f.item) m.fetched) w),
    )

pub reset_clears : ResetClears
unfolding waiting posted_answers
reset_clears m = record { requests = refl; posted = refl }

pub new_is_clear : NewIsClear
unfolding waiting posted_answers
new_is_clear first = record { requests = refl; posted = refl }

-- A poll that delivers an answer as done delivers one that the mailbox held.

record HandsUp (Q : PostedAnswer → Type 0) (reply : Reply) : Type 0 where
  answer : PostedAnswer
  known : Q answer
  is : reply ≡ answer_reply answer

-- this result delivers an answer as done
abbrev IsDone : FleetSeen → Type 0
IsDone (seen.Polled (Ok (Some (Done ticket status dw0 len)))) = Unit {0}
IsDone other = ⊥

not-done : (what : FleetSeen) → done_in what ≡ [] → IsDone what → ⊥
not-done (seen.Polled (Ok (Some (Done ticket status dw0 len)))) e d = absurd (cc)
not-done other e d = d

hands : (Q : PostedAnswer → Type 0) (v : Move) (m : Mailbox) → May v m → Known Any Q m → IsDone (reply_of v m).seen
    → HandsUp Q (reply_of v m)
hands Q (HandUp l first rest) m e k d =
    record { answer = first; known = (subst (AllByRecursion Q) e (box-known Any Q l m k).2).0; is = refl }
hands Q (Stay what) m q k d = absurd (not-done what q.done d)
hands Q (Clear what) m q k d = absurd (not-done what q.done d)
hands Q other m may k d = absurd d

abbrev done_with : ℕ → Status → ℕ → ℕ → FleetSeen
done_with ticket status dw0 len = seen.Polled (Ok (Some (Done (record { 0 = ticket }) status dw0 len)))

record Same (a : PostedAnswer) (ticket : ℕ) (status : Status) (dw0 len : ℕ) : Type 0 where
  ticket_is : a.ticket ≡ ticket
  status_is : a.status ≡ status
  dw0_is : a.dw0 ≡ dw0
  len_is : length a.bytes ≡ len

same-done : (a : PostedAnswer) (ticket : ℕ) (status : Status) (dw0 len : ℕ)
    → done_with a.ticket a.status a.dw0 (length a.bytes) ≡ done_with ticket status dw0 len
    → Same a ticket status dw0 len
same-done a ticket status dw0 len h =
    let t : ◌≡◌ {A = Ticket} (record { 0 = a.ticket }) (record { 0 = ticket }) = cc in
    record { ticket_is = ap (λ (t : Ticket). t.0) t; status_is = cc; dw0_is = cc; len_is = cc }

abbrev Nothing : Item → Type 0
Nothing i = ⊥

abbrev NoAnswer : PostedAnswer → Type 0
NoAnswer a = ⊥

was : (k : ℕ) (tells : Bool) (old : Fleet) (events : List FleetEvent) (replies : List Reply) (new : Fleet)
    (run : Run tells old events replies new) (a : PostedAnswer) (ticket : ℕ) (conclusion : Conclusion)
    → a.ticket ≡ ticket → conclusion_in a ≡ conclusion
    → KnownBehind Nothing NoAnswer k tells old events replies new run a
    → WasPlacedAndExecuted tells k ticket conclusion old events replies new run
was k tells old events replies new run a ticket conclusion t r (inl q) = absurd q
was k tells old events replies new run a ticket conclusion t r (inr x) =
    record { item = x.item; ticket_is = x.ticket_is ∙ t; happened = by x.happened }
  where
    by : (⊥ × Happens (Executes tells k x.item (conclusion_in a)) tells old events replies new run)
        ⊎ HappensThen (Places k x.item) (Executes tells k x.item (conclusion_in a)) tells old events replies new run
        → HappensThen (Places k x.item) (Executes tells k x.item conclusion) tells old events replies new run
    by (inl p) = absurd p.0
    by (inr h) =
        subst (λ y. HappensThen (Places k x.item) (Executes tells k x.item y) tells old events replies new run) r h

pub done_is_its_execution : DoneIsItsExecution
done_is_its_execution tells old mid new events replies run k m at clear reply step ticket dw0 len status h =
    let none : Known Nothing NoAnswer m = known-of Nothing NoAnswer m
    (subst (AllByRecursion Nothing) (sym clear.requests) tt) (subst (AllByRecursion NoAnswer) (sym clear.posted) tt) in
    let x = walk Nothing NoAnswer k m tells old events replies mid run at none in
    let so : Is (called_at (Some (WithDriver x.mailbox)) mid k polled) reply new =
    subst (λ o. Is (called_at o mid k polled) reply new) x.host step in
    let v = own-moved (Poll k) tells k mid.site new.site x.mailbox (polled x.mailbox).mailbox reply (same-is k k refl)
    (so.0, refl) in
    let done : IsDone (reply_of v.move x.mailbox).seen = subst IsDone (sym h ∙ ap (λ (r : Reply). r.seen) v.gives) tt in
    let y =
    hands (KnownBehind Nothing NoAnswer k tells old events replies mid run) v.move x.mailbox v.may x.known done in
    let is : answer_reply y.answer ≡ reply = sym (v.gives ∙ y.is) in
    let s = same-done y.answer ticket status dw0 len (ap (λ (r : Reply). r.seen) is ∙ h) in
    let bytes : y.answer.bytes ≡ reply.bytes = ap (λ (r : Reply). r.bytes) is in
    let conclusion : conclusion_in y.answer ≡ record { status = status; dw0 = dw0; bytes = reply.bytes } =
    λ i. record { status = s.status_is i; dw0 = s.dw0_is i; bytes = bytes i } in (
      sym s.len_is ∙ ap length bytes,
      was k tells old events replies mid run y.answer ticket _ s.ticket_is conclusion y.known,
    )
