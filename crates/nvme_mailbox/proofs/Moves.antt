-- For laws of mailboxes, which need one fact about each move: the effect of an event on a mailbox is one of nine moves,
-- and marks.
use Rattle.nvme_mailbox.proofs.Words.{
  ◌≡◌,
  inl,
  ℕ,
  Bool,
  true,
  false,
  List,
  [],
  ◌∷◌,
  ◌++◌,
  not,
  Option,
  None,
  Some,
  Ok,
  Err,
  refl,
  ap,
  ◌∙◌,
  if◌then◌else◌,
  slice_get,
  Lane,
  Admin,
  Io,
  Aborted,
  Request,
  PlaceRefusal,
  NotReady,
  AlreadyUp,
  Took,
  Idle,
  Posted,
  NoSuch,
  FleetEvent,
  BringUp,
  Place,
  Ring,
  Fetch,
  Execute,
  Poll,
  Reset,
  RawStore,
  RawWrite32,
  PowerCycle,
  FleetSeen,
  concerns,
  Reply,
  data_len,
  Item,
  FetchedItem,
  PostedAnswer,
  Mailbox,
  box_at,
  with_box,
  MailboxReaction,
  mailbox_reaction,
  plain,
  recounted,
  ring_lane,
  brought_up,
  refusal,
  with_request,
  placed_by,
  rung,
  with_rest,
  fetched_first,
  lane_at,
  fetched_of,
  without_first,
  answer_reply,
  handed_up,
  polled_io,
  polled_admin,
  polled_aborted,
  reset,
  Site,
  RequestExecution,
  RequestComesTo,
  after_answer,
  Becomes,
  ExecutesOwn,
  OwnStep,
  given_in,
  done_in,
  aborted_in,
  where_posted,
  IsUnseen,
}
use Rattle.nvme_mailbox.specs.Deliveries.{polled}
use Rattle.nvme_driver.specs.declared.faults.PollFault.TheVariants as poll_fault
use Rattle.nvme_event.specs.declared.seen.FleetSeen.TheVariants as seen
use Rattle.nvme_mailbox.proofs.Apart.{is-same, DiffersInMarks, differs}

-- A result without ticket, data or failure.
pub record IsQuiet (what : FleetSeen) : Type 0 where
  pub given : given_in what ≡ []
  pub posts : (tickets : List ℕ) → where_posted what tickets ≡ []
  pub done : done_in what ≡ []
  pub aborted : aborted_in what ≡ []
  pub bytes : data_len what ≡ 0
  pub spares : IsUnseen what → ⊥

-- Nothing changes, after a call or a fetch; a driver comes up; a request is placed; both lanes (queue pairs) are rung;
-- the first rung request is fetched; the first answer is delivered; an aborted ticket is delivered; all is reset; a
-- fetched request is answered.
pub data Move : Type 0 where
  Stay : FleetSeen → Move
  Rise : Move
  Take : Request → Move
  RingBoth : Move
  FetchFirst : Lane → Item → List Item → Move
  HandUp : Lane → PostedAnswer → List PostedAnswer → Move
  Free : ℕ → List ℕ → Move
  Clear : FleetSeen → Move
  Answer : ℕ → FetchedItem → RequestExecution → Move

abbrev pub May : Move → Mailbox → Type 0
May (Stay what) m = IsQuiet what
May Rise m = Unit {0}
May (Take request) m = refusal m request ≡ None
May RingBoth m = m.up ≡ true
May (FetchFirst lane first rest) m = (box_at lane m).rung ≡ first ∷ rest
May (HandUp lane first rest) m = (box_at lane m).posted ≡ first ∷ rest
May (Free ticket rest) m = m.aborted ≡ ticket ∷ rest
May (Clear what) m = IsQuiet what
May (Answer i x r) m = slice_get m.fetched i ≡ Some x

abbrev pub moved : Move → Mailbox → Mailbox
moved (Stay what) m = m
moved Rise m = record m { up = true; admin = recounted m.admin; io = recounted m.io }
moved (Take request) m = with_request m request
moved RingBoth m = record m { admin = ring_lane m.admin; io = ring_lane m.io }
moved (FetchFirst lane first rest) m =
    with_box lane (with_rest (box_at lane m) rest)
    (record m { fetched = m.fetched ++ record { item = first; marked = false } ∷ [] })
moved (HandUp lane first rest) m = with_box lane (without_first (box_at lane m) first rest) m
moved (Free ticket rest) m = record m { aborted = rest }
moved (Clear what) m = (let r : MailboxReaction = reset m in r.mailbox)
moved (Answer i x r) m = after_answer i x r m

abbrev pub reply_of : Move → Mailbox → Reply
reply_of (Stay what) m = plain what
reply_of Rise m = plain (seen.Up (Ok tt))
reply_of (Take request) m = plain (seen.Placed (Ok (record { 0 = m.next })))
reply_of RingBoth m = plain (seen.Rung (Ok tt))
reply_of (FetchFirst lane first rest) m = plain (seen.Fetched Took)
reply_of (HandUp lane first rest) m = answer_reply first
reply_of (Free ticket rest) m = plain (seen.Polled (Ok (Some (Aborted (record { 0 = ticket })))))
reply_of (Clear what) m = plain what
reply_of (Answer i x r) m = plain (seen.Executed (Posted r.outcome))

-- the events of a move
abbrev pub IsOf : Move → Bool → ℕ → Site → FleetEvent → Site → Type 0
IsOf (Take request) tells k s event left = event ≡ Place k request
IsOf (Answer i x r) tells k s event left = (event ≡ Execute k i) × RequestComesTo tells k x s r × (left ≡ r.left)
IsOf other tells k s event left = Unit {0}

pub reset-quiet : IsQuiet seen.Reset
reset-quiet = record { given = refl; posts = λ t. refl; done = refl; aborted = refl; bytes = refl; spares = λ u. u }

pub cycle-quiet : IsQuiet seen.Cycled
cycle-quiet = record { given = refl; posts = λ t. refl; done = refl; aborted = refl; bytes = refl; spares = λ u. u }

-- it places and answers no request, and delivers no answer
abbrev pub IsPlain : Move → Type 0
IsPlain (Take request) = ⊥
IsPlain (HandUp lane first rest) = ⊥
IsPlain (Answer i x r) = ⊥
IsPlain other = Unit {0}

-- A reaction is a move with this property.
pub record IsMove (Of : Move → Type 0) (m : Mailbox) (r : MailboxReaction) : Type 0 where
  pub move : Move
  pub may : May move m
  pub of : Of move
  pub is : r ≡ record { mailbox = moved move m; reply = reply_of move m }

module _ (Of : Move → Type 0) (each : (v : Move) → IsPlain v → Of v) where
  quiet : (m : Mailbox) (what : FleetSeen) → IsQuiet what → IsMove Of m (mailbox_reaction m what)
  quiet m what q = record { move = Stay what; may = q; of = each (Stay what) tt; is = refl }

  pub rises : (m : Mailbox) → IsMove Of m (brought_up m)
  rises m = by m.up
    where
      by : (b : Bool) → IsMove Of m (if b then mailbox_reaction m (seen.Up (Err AlreadyUp))
          else mailbox_reaction (moved Rise m) (seen.Up (Ok tt)))
      by true = quiet m (seen.Up (Err AlreadyUp))
          (record { given = refl; posts = λ t. refl; done = refl; aborted = refl; bytes = refl; spares = λ u. u })
      by false = record { move = Rise; may = tt; of = each Rise tt; is = refl }

  pub takes : (o : Option PlaceRefusal) (m : Mailbox) (request : Request) → refusal m request ≡ o → Of (Take request)
      → IsMove Of m (placed_by o m request)
  takes (Some why) m request e is = quiet m (seen.Placed (Err why))
      (record { given = refl; posts = λ t. refl; done = refl; aborted = refl; bytes = refl; spares = λ u. u })
  takes None m request e is = record { move = Take request; may = e; of = is; is = refl }

  pub rings : (m : Mailbox) → IsMove Of m (rung m)
  rings m = by m.up refl
    where
      by : (b : Bool) → m.up ≡ b → IsMove Of m (if b then mailbox_reaction (moved RingBoth m) (seen.Rung (Ok tt))
          else mailbox_reaction m (seen.Rung (Err (record {}))))
      by true e = record { move = RingBoth; may = e; of = each RingBoth tt; is = refl }
      by false e = quiet m (seen.Rung (Err (record {})))
          (record { given = refl; posts = λ t. refl; done = refl; aborted = refl; bytes = refl; spares = λ u. u })

  pub fetches : (o : Option Lane) (m : Mailbox) → IsMove Of m (fetched_of o m)
  fetches None m = quiet m (seen.Fetched Idle)
      (record { given = refl; posts = λ t. refl; done = refl; aborted = refl; bytes = refl; spares = λ u. u })
  fetches (Some lane) m = by (box_at lane m).rung refl
    where
      by : (xs : List Item) → (box_at lane m).rung ≡ xs → IsMove Of m (fetched_first lane xs m)
      by [] e = quiet m (seen.Fetched Idle)
          (record { given = refl; posts = λ t. refl; done = refl; aborted = refl; bytes = refl; spares = λ u. u })
      by (x ∷ rest) e =
          record { move = FetchFirst lane x rest; may = e; of = each (FetchFirst lane x rest) tt; is = refl }

  pub polls : ((lane : Lane) (first : PostedAnswer) (rest : List PostedAnswer) → Of (HandUp lane first rest))
      → (m : Mailbox) → IsMove Of m (polled m)
  polls of m = freed m.aborted refl
    where
      hands-up : (lane : Lane) (first : PostedAnswer) (rest : List PostedAnswer) (m : Mailbox)
          → (box_at lane m).posted ≡ first ∷ rest → IsMove Of m (handed_up lane first rest m)
      hands-up lane first rest m e =
          record { move = HandUp lane first rest; may = e; of = of lane first rest; is = refl }

      io : (xs : List PostedAnswer) → m.io.posted ≡ xs → IsMove Of m (polled_io xs m)
      io [] e = quiet m (seen.Polled (Ok None))
          (record { given = refl; posts = λ t. refl; done = refl; aborted = refl; bytes = refl; spares = λ u. u })
      io (first ∷ rest) e = hands-up Io first rest m e

      admin : (xs : List PostedAnswer) → m.admin.posted ≡ xs → IsMove Of m (polled_admin xs m)
      admin [] e = io m.io.posted refl
      admin (first ∷ rest) e = hands-up Admin first rest m e

      up : (b : Bool) → IsMove Of m
          (if b then polled_admin m.admin.posted m else mailbox_reaction m (seen.Polled (Err poll_fault.NotUp)))
      up true = admin m.admin.posted refl
      up false = quiet m (seen.Polled (Err poll_fault.NotUp))
          (record { given = refl; posts = λ t. refl; done = refl; aborted = refl; bytes = refl; spares = λ u. u })

      freed : (ts : List ℕ) → m.aborted ≡ ts → IsMove Of m (polled_aborted ts m)
      freed [] e = up m.up
      freed (t ∷ ts) e = record { move = Free t ts; may = e; of = each (Free t ts) tt; is = refl }

  pub clears : (m : Mailbox) (what : FleetSeen)
      → IsQuiet what → IsMove Of m (mailbox_reaction (moved (Clear what) m) what)
  clears m what q = record { move = Clear what; may = q; of = each (Clear what) tt; is = refl }

-- An event of its host is a move, and marks.
pub record Moved (tells : Bool) (k : ℕ) (s left : Site) (event : FleetEvent) (m : Mailbox) (reply : Reply)
    (n : Mailbox) : Type 0 where
  pub move : Move
  pub may : May move m
  pub of : IsOf move tells k s event left
  pub gives : reply ≡ reply_of move m
  pub leaves : DiffersInMarks (moved move m) n

abbrev OfEvent : Bool → ℕ → Site → Site → FleetEvent → Move → Type 0
OfEvent tells k s left event v = IsOf v tells k s event left

each-of : (tells : Bool) (k : ℕ) (s left : Site) (event : FleetEvent) (v : Move)
    → IsPlain v → OfEvent tells k s left event v
each-of tells k s left event (Take request) p = absurd p
each-of tells k s left event (HandUp lane first rest) p = absurd p
each-of tells k s left event (Answer i x r) p = absurd p
each-of tells k s left event other p = tt

-- the reaction to it, or its result if nothing changes
becomes : (tells : Bool) (k : ℕ) (s left : Site) (event : FleetEvent) (m n : Mailbox) (r : MailboxReaction)
    (reply : Reply)
    → (((v : Move) → IsPlain v → OfEvent tells k s left event v) → IsMove (OfEvent tells k s left event) m r)
    → Becomes r reply n → Moved tells k s left event m reply n
becomes tells k s left event m n r reply reacts h =
    let x = reacts (each-of tells k s left event) in
    record {
      move = x.move;
      may = x.may;
      of = x.of;
      gives = h.0 ∙ ap (λ (y : MailboxReaction). y.reply) x.is;
      leaves = inl (h.1 ∙ ap (λ (y : MailboxReaction). y.mailbox) x.is);
    }

executes : (o : Option FetchedItem) (tells : Bool) (k : ℕ) (s left : Site) (event : FleetEvent) (m n : Mailbox) (i : ℕ)
    (reply : Reply) → slice_get m.fetched i ≡ o → event ≡ Execute k i → ExecutesOwn o tells k s m i reply left n
    → Moved tells k s left event m reply n
executes None tells k s left event m n i reply found is h =
    becomes tells k s left event m n (mailbox_reaction m (seen.Executed NoSuch)) reply
    (λ e. quiet _ e m (seen.Executed NoSuch)
    (record { given = refl; posts = λ t. refl; done = refl; aborted = refl; bytes = refl; spares = λ u. u })) h
executes (Some x) tells k s left event m n i reply found is h = record {
  move = Answer i x h.execution;
  may = found;
  of = (is, h.comes_to, h.site);
  gives = h.gives;
  leaves = differs h.execution.outcome.marks h.execution.left.world k (after_answer i x h.execution m) n h.leaves;
}

pub own-moved : (event : FleetEvent) (tells : Bool) (k : ℕ) (s left : Site) (m n : Mailbox) (reply : Reply)
    → concerns event k ≡ true → OwnStep event tells k s m reply left n → Moved tells k s left event m reply n
own-moved (BringUp j) tells k s left m n reply same h = becomes tells k s left _ m n _ reply (λ e. rises _ e m) h
own-moved (Place j request) tells k s left m n reply same h =
    becomes tells k s left (Place j request) m n _ reply
    (λ e. takes _ e (refusal m request) m request refl (ap (λ i. Place i request) (is-same j k same))) h
own-moved (Ring j) tells k s left m n reply same h = becomes tells k s left _ m n _ reply (λ e. rings _ e m) h
own-moved (Fetch j q) tells k s left m n reply same h =
    becomes tells k s left _ m n _ reply (λ e. fetches _ e (lane_at q) m) h
own-moved (Execute j i) tells k s left m n reply same h =
    executes (slice_get m.fetched i) tells k s left (Execute j i) m n i reply refl
    (ap (λ x. Execute x i) (is-same j k same)) h
own-moved (Poll j) tells k s left m n reply same h =
    becomes tells k s left _ m n _ reply (λ e. polls _ e (λ lane first rest. tt) m) h
own-moved (Reset j) tells k s left m n reply same h =
    becomes tells k s left _ m n _ reply (λ e. clears _ e m seen.Reset reset-quiet) h
own-moved PowerCycle tells k s left m n reply same h =
    becomes tells k s left _ m n _ reply (λ e. clears _ e m seen.Cycled cycle-quiet) h
own-moved (RawStore j address bytes) tells k s left m n reply same h =
    becomes tells k s left _ m n (mailbox_reaction m seen.NotRaw) reply (λ e. quiet _ e m seen.NotRaw
    (record { given = refl; posts = λ t. refl; done = refl; aborted = refl; bytes = refl; spares = λ u. u })) h
own-moved (RawWrite32 j offset v) tells k s left m n reply same h =
    becomes tells k s left _ m n (mailbox_reaction m seen.NotRaw) reply (λ e. quiet _ e m seen.NotRaw
    (record { given = refl; posts = λ t. refl; done = refl; aborted = refl; bytes = refl; spares = λ u. u })) h

-- a driver that places a request is up
pub is-ready : (b : Bool) (o : Option PlaceRefusal) → (if not b then Some NotReady else o) ≡ None → b ≡ true
is-ready true o h = refl
is-ready false o h = absurd (cc)
