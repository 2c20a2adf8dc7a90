-- For laws of tickets: where tickets go over a run.
use Rattle.nvme_mailbox.proofs.Words.{
  ◌≡◌,
  ℕ,
  Bool,
  true,
  false,
  List,
  [],
  ◌∷◌,
  Some,
  refl,
  sym,
  ap,
  subst,
  ◌∙◌,
  arith,
  if◌then◌else◌,
  FleetEvent,
  Reply,
  concerns,
  Mailbox,
  Site,
  WithDriver,
  Fleet,
  Run,
  host_at,
  total,
  HasMailbox,
  OwnStep,
  MailboxStep,
  given_in,
  done_in,
  aborted_in,
  named_by,
  ticket_of,
  where_posted,
  given,
  done,
  aborted,
  along,
  Balance,
  TicketsBalance,
  DriversStay,
  reset,
  inl,
  inr,
  ◌+◌,
  map,
  slice_get,
  Lane,
  Admin,
  Io,
  asked_of,
  Item,
  FetchedItem,
  PostedAnswer,
  box_at,
  with_box,
  lane_of,
  ranked,
  rising,
  open_tickets,
  with_mark,
  new_item,
  with_placed,
  RequestExecution,
  after_answer,
  with_posted,
  waiting,
  posted_answers,
  waiting_tickets,
  answered_tickets,
  held_tickets,
  Posted,
  FleetSeen,
  remove,
  common_steps,
}
use Rattle.nvme_mailbox.specs.Tickets.{fetched_by, executed}
use Rattle.nvme_mailbox.proofs.Totals.{total-append, total-removed}
use Rattle.nvme_mailbox.proofs.Apart.{hosts_are_apart, others-differ, DiffersInMarks}
use Rattle.nvme_mailbox.proofs.Moves.{
  Move,
  Answer,
  May,
  IsOf,
  moved,
  own-moved,
  IsQuiet,
  Stay,
  Rise,
  Take,
  RingBoth,
  FetchFirst,
  HandUp,
  Free,
  Clear,
  reply_of,
}
use Rattle.nvme_mailbox.specs.Mailboxes.{with_marks}
use Rattle.nvme_event.specs.declared.seen.FleetSeen.TheVariants as seen

-- The way of tickets in one event of their host.

-- The weight of a mailbox's tickets.

abbrev pub items : (ℕ → ℕ) → List Item → ℕ
items w xs = total (λ (i : Item). w i.ticket) xs

abbrev pub taken : (ℕ → ℕ) → List FetchedItem → ℕ
taken w xs = total (λ (f : FetchedItem). w f.item.ticket) xs

abbrev pub posted : (ℕ → ℕ) → List PostedAnswer → ℕ
posted w xs = total (λ (a : PostedAnswer). w a.ticket) xs

abbrev pub waits : (ℕ → ℕ) → Mailbox → ℕ
waits w m = items w m.admin.placed + items w m.admin.rung + items w m.io.placed + items w m.io.rung + taken w m.fetched

abbrev pub posts : (ℕ → ℕ) → Mailbox → ℕ
posts w m = posted w m.admin.posted + posted w m.io.posted

total-map : {A B : Type 0} (f : B → ℕ) (g : A → B) (xs : List A) → total f (map g xs) ≡ total (λ x. f (g x)) xs
total-map f g [] = refl
total-map f g (x ∷ xs) = ap (λ n. f (g x) + n) (total-map f g xs)

pub waits-weigh : (w : ℕ → ℕ) (m : Mailbox) → total w (waiting_tickets m) ≡ waits w m
unfolding waiting
waits-weigh w m = simp (total-map, total-append) (omega arith)

pub posts-weigh : (w : ℕ → ℕ) (m : Mailbox) → total w (answered_tickets m) ≡ posts w m
unfolding posted_answers
posts-weigh w m = simp (total-map, total-append)

pub held-weigh : (w : ℕ → ℕ) (m : Mailbox) → total w (held_tickets m) ≡ waits w m + posts w m + total w m.aborted
held-weigh w m = simp total-append (omega (arith, waits-weigh w m, posts-weigh w m))

-- A ticket that was waiting or is issued is then waiting, executed or dropped; one that was answered or is executed is
-- then answered, delivered as done, or lost; one that was aborted, or is dropped or lost, is then aborted or delivered
-- as aborted.
pub record Flow (w : ℕ → ℕ) (m n : Mailbox) (given executed done aborted : ℕ) : Type 0 where
  pub dropped : ℕ
  pub lost : ℕ
  pub waits : waits w n + executed + dropped ≡ waits w m + given
  pub answered : posts w n + done + lost ≡ posts w m + executed
  pub aborts : total w n.aborted + aborted ≡ total w m.aborted + dropped + lost

-- one flow after another
pub flows-on : (w : ℕ → ℕ) (l m n : Mailbox) (g h e x d y a b : ℕ) → Flow w l m g e d a → Flow w m n h x y b
    → Flow w l n (g + h) (e + x) (d + y) (a + b)
flows-on w l m n g h e x d y a b one two = record {
  dropped = one.dropped + two.dropped;
  lost = one.lost + two.lost;
  waits = omega (arith, one.waits, two.waits);
  answered = omega (arith, one.answered, two.answered);
  aborts = omega (arith, one.aborts, two.aborts);
}

-- nothing flows if the mailbox has the same requests
pub stays : (w : ℕ → ℕ) (m n : Mailbox) → waits w n ≡ waits w m → posts w n ≡ posts w m
    → total w n.aborted ≡ total w m.aborted → Flow w m n 0 0 0 0
stays w m n p q r = record {
  dropped = 0;
  lost = 0;
  waits = omega (arith, p);
  answered = omega (arith, q);
  aborts = omega (arith, r);
}

taken-marked : (w : ℕ → ℕ) (ns : ℕ) (xs : List FetchedItem) → taken w (map (with_mark ns) xs) ≡ taken w xs
taken-marked w ns [] = refl
taken-marked w ns (x ∷ xs) = grind (arith, common_steps, taken-marked w ns xs)

pub marks_flow : (w : ℕ → ℕ) (m n : Mailbox) → DiffersInMarks m n → Flow w m n 0 0 0 0
marks_flow w m n (inl e) = subst (λ x. Flow w m x 0 0 0 0) (sym e) (stays w m m refl refl refl)
marks_flow w m n (inr h) =
    subst (λ x. Flow w m x 0 0 0 0) (sym h.1)
    (stays w m (with_marks h.0 m) (omega (arith, taken-marked w h.0 m.fetched)) refl refl)

-- a request becomes the last of its lane (queue pair)
with-request : (w : ℕ → ℕ) (l : Lane) (i : Item) (m : Mailbox)
    → Flow w m (with_box l (with_placed (box_at l m) i) (record m { next = m.next + 1 })) (w i.ticket + 0) 0 0 0
with-request w Admin i m = record {
  dropped = 0;
  lost = 0;
  waits = simp total-append (omega arith);
  answered = omega arith;
  aborts = omega arith;
}
with-request w Io i m = record {
  dropped = 0;
  lost = 0;
  waits = simp total-append (omega arith);
  answered = omega arith;
  aborts = omega arith;
}

-- a lane's first rung request is fetched
first-fetched : (w : ℕ → ℕ) (l : Lane) (x : Item) (rest : List Item) (m : Mailbox)
    → (box_at l m).rung ≡ x ∷ rest → Flow w m (moved (FetchFirst l x rest) m) 0 0 0 0
first-fetched w Admin x rest m h =
    stays w m (moved (FetchFirst Admin x rest) m) (simp (total-append, h) (omega arith)) refl refl
first-fetched w Io x rest m h =
    stays w m (moved (FetchFirst Io x rest) m) (simp (total-append, h) (omega arith)) refl refl

-- the first answer of a lane is delivered
hands-up : (w : ℕ → ℕ) (l : Lane) (first : PostedAnswer) (rest : List PostedAnswer) (m : Mailbox)
    → (box_at l m).posted ≡ first ∷ rest → Flow w m (moved (HandUp l first rest) m) 0 0 (w first.ticket + 0) 0
hands-up w Admin first rest m h =
    record { dropped = 0; lost = 0; waits = omega arith; answered = simp h (omega arith); aborts = omega arith }
hands-up w Io first rest m h =
    record { dropped = 0; lost = 0; waits = omega arith; answered = simp h (omega arith); aborts = omega arith }

-- A reset drops what waits, and loses the answers: both become aborted.

ranked-weighs : (w : ℕ → ℕ) (t : ℕ) (us : List ℕ) → total w (ranked t us) ≡ w t + total w us
ranked-weighs w t [] = refl
ranked-weighs w t (u ∷ us) = grind (arith, common_steps, ranked-weighs w t us)

rising-weighs : (w : ℕ → ℕ) (ts : List ℕ) → total w (rising ts) ≡ total w ts
rising-weighs w [] = refl
rising-weighs w (t ∷ ts) = omega (arith, ranked-weighs w t (rising ts), rising-weighs w ts)

open-weighs : (w : ℕ → ℕ) (m : Mailbox) → total w (open_tickets m) ≡ waits w m + posts w m
unfolding open_tickets
open-weighs w m = simp (rising-weighs, total-append, total-map) (omega arith)

pub resets : (w : ℕ → ℕ) (m : Mailbox) → Flow w m (reset m).mailbox 0 0 0 0
resets w m = record {
  dropped = waits w m;
  lost = posts w m;
  waits = omega arith;
  answered = omega arith;
  aborts = simp total-append (omega (arith, open-weighs w m));
}

-- An execution.

posts-answer : (w : ℕ → ℕ) (i : ℕ) (x : FetchedItem) (r : RequestExecution) (m : Mailbox)
    → slice_get m.fetched i ≡ Some x → Flow w m (after_answer i x r m) 0 (w x.item.ticket + 0) 0 0
unfolding after_answer
posts-answer w i x r m h = by (lane_of x.item)
  where
    gone : w x.item.ticket + taken w (remove m.fetched i) ≡ taken w m.fetched
    gone = total-removed (λ (f : FetchedItem). w f.item.ticket) m.fetched i x h

    by : (l : Lane) → Flow w m (with_box l (with_posted (box_at l m) x r) (record m { fetched = remove m.fetched i })) 0
        (w x.item.ticket + 0) 0 0
    by Admin = record {
      dropped = 0;
      lost = 0;
      waits = omega (arith, gone);
      answered = simp total-append (omega arith);
      aborts = omega arith;
    }
    by Io = record {
      dropped = 0;
      lost = 0;
      waits = omega (arith, gone);
      answered = simp total-append (omega arith);
      aborts = omega arith;
    }

-- Each move. The tickets that it issues are counted by its reply, and by the ticket of the request that it executes.

-- the same numbers in another form
pub reads : (w : ℕ → ℕ) (m n : Mailbox) (g h e x d y a b : ℕ) → Flow w m n g e d a → g ≡ h → e ≡ x → d ≡ y → a ≡ b
    → Flow w m n h x y b
reads w m n g h e x d y a b f p q r s = record {
  dropped = f.dropped;
  lost = f.lost;
  waits = omega (arith, f.waits);
  answered = omega (arith, f.answered);
  aborts = omega (arith, f.aborts);
}

abbrev pub FlowsIn : (ℕ → ℕ) → Mailbox → Mailbox → FleetSeen → List ℕ → Type 0
FlowsIn w m n what tickets =
    Flow w m n (total w (given_in what)) (total w (where_posted what tickets)) (total w (done_in what))
    (total w (aborted_in what))

quiet-flow : (w : ℕ → ℕ) (m n : Mailbox) (what : FleetSeen) (tickets : List ℕ) → IsQuiet what → Flow w m n 0 0 0 0
    → FlowsIn w m n what tickets
quiet-flow w m n what tickets q f =
    let sum : (xs : List ℕ) → xs ≡ [] → 0 ≡ total w xs = λ xs e. sym (ap (total w) e) in
    reads w m n 0 (total w (given_in what)) 0 (total w (where_posted what tickets)) 0 (total w (done_in what)) 0
    (total w (aborted_in what)) f
    (sum (given_in what) q.given) (sum (where_posted what tickets) (q.posts tickets)) (sum (done_in what) q.done)
    (sum (aborted_in what) q.aborted)

-- the ticket of the request that it executes
abbrev pub Names : Move → List ℕ → Type 0
Names (Answer i x r) tickets = tickets ≡ x.item.ticket ∷ []
Names other tickets = Unit {0}

pub flows : (w : ℕ → ℕ) (v : Move) (m : Mailbox) (tickets : List ℕ)
    → May v m → Names v tickets → FlowsIn w m (moved v m) (reply_of v m).seen tickets
flows w (Stay what) m tickets q u = quiet-flow w m m what tickets q (stays w m m refl refl refl)
flows w Rise m tickets q u = stays w m (moved Rise m) refl refl refl
flows w (Take request) m tickets q u = with-request w (asked_of request).command.lane (new_item m request) m
flows w RingBoth m tickets q u =
    stays w m (moved RingBoth m) (simp total-append (omega arith)) refl refl
flows w (FetchFirst l x rest) m tickets q u = first-fetched w l x rest m q
flows w (HandUp l x rest) m tickets q u = hands-up w l x rest m q
flows w (Free t ts) m tickets q u =
    record { dropped = 0; lost = 0; waits = omega arith; answered = omega arith; aborts = simp q (omega arith) }
flows w (Clear what) m tickets q u = quiet-flow w m (moved (Clear what) m) what tickets q (resets w m)
flows w (Answer i x r) m tickets q u =
    subst (λ ts. FlowsIn w m (after_answer i x r m) (seen.Executed (Posted r.outcome)) ts) (sym u)
    (posts-answer w i x r m q)

-- one event of the host
names : (v : Move) (tells : Bool) (k : ℕ) (s left : Site) (old : Fleet) (event : FleetEvent) (m : Mailbox)
    → HasMailbox old k m → May v m → IsOf v tells k s event left → Names v (ticket_of (named_by old event))
names (Answer i x r) tells k s left old event m at found of =
    ap (λ e. ticket_of (named_by old e)) of.0 ∙ ap (λ o. ticket_of (fetched_by o i)) at ∙ ap ticket_of found
names other tells k s left old event m at may of = tt

own-flow : (w : ℕ → ℕ) (event : FleetEvent) (tells : Bool) (old : Fleet) (k : ℕ) (s left : Site) (m n : Mailbox)
    (reply : Reply) → concerns event k ≡ true → HasMailbox old k m
    → OwnStep event tells k s m reply left n → FlowsIn w m n reply.seen (ticket_of (named_by old event))
own-flow w event tells old k s left m n reply same at h =
    let v = own-moved event tells k s left m n reply same h in
    let tickets = ticket_of (named_by old event) in
    let one = flows w v.move m tickets v.may (names v.move tells k s left old event m at v.may v.of) in
    let all = flows-on w m (moved v.move m) n _ 0 _ 0 _ 0 _ 0 one (marks_flow w (moved v.move m) n v.leaves) in
    subst (λ (r : Reply). FlowsIn w m n r.seen tickets) (sym v.gives)
    (reads w m n _ _ _ _ _ _ _ _ all (omega arith) (omega arith) (omega arith) (omega arith))

-- One event, of any host.
step-flow : (w : ℕ → ℕ) (b : Bool) (event : FleetEvent) (tells : Bool) (old : Fleet) (k : ℕ) (s left : Site)
    (m n : Mailbox) (reply : Reply) → concerns event k ≡ b → HasMailbox old k m
    → MailboxStep b event tells k s m reply left n
    → Flow w m n (total w (if b then given_in reply.seen else []))
    (total w (if b then where_posted reply.seen (ticket_of (named_by old event)) else []))
    (total w (if b then done_in reply.seen else [])) (total w (if b then aborted_in reply.seen else []))
step-flow w true event tells old k s left m n reply is at h = own-flow w event tells old k s left m n reply is at h
step-flow w false event tells old k s left m n reply is at h = marks_flow w m n (others-differ event k m reply left n h)

-- A run.
pub record Walked (w : ℕ → ℕ) (k : ℕ) (m : Mailbox) (tells : Bool) (old : Fleet) (events : List FleetEvent)
    (replies : List Reply) (new : Fleet) (run : Run tells old events replies new) : Type 0 where
  pub mailbox : Mailbox
  pub host : HasMailbox new k mailbox
  pub flow : Flow w m mailbox (total w (along (given k) tells old events replies new run))
      (total w (along (executed k) tells old events replies new run))
      (total w (along (done k) tells old events replies new run))
      (total w (along (aborted k) tells old events replies new run))

pub walk : (w : ℕ → ℕ) (k : ℕ) (m : Mailbox) (tells : Bool) (old : Fleet) (events : List FleetEvent)
    (replies : List Reply) (new : Fleet) (run : Run tells old events replies new) → HasMailbox old k m
    → Walked w k m tells old events replies new run
walk w k m tells old [] [] new run at =
    record { mailbox = m; host = ap (λ f. host_at f k) run ∙ at; flow = stays w m m refl refl refl }
walk w k m tells old (event ∷ events) (x ∷ later) new run at =
    let one = hosts_are_apart tells old run.0 event x run.1 k m at in
    let rest = walk w k one.mailbox tells run.0 events later new run.2 one.host in
    let f = step-flow w (concerns event k) event tells old k old.site run.0.site m one.mailbox x refl at one.moves in
    let all = flows-on w m one.mailbox rest.mailbox _ _ _ _ _ _ _ _ f rest.flow in
    let g = total-append w (given k old event x) (along (given k) tells run.0 events later new run.2) in
    let e = total-append w (executed k old event x) (along (executed k) tells run.0 events later new run.2) in
    let d = total-append w (done k old event x) (along (done k) tells run.0 events later new run.2) in
    let a = total-append w (aborted k old event x) (along (aborted k) tells run.0 events later new run.2) in
    record {
      mailbox = rest.mailbox;
      host = rest.host;
      flow = reads w m rest.mailbox _ _ _ _ _ _ _ _ all (sym g) (sym e) (sym d) (sym a);
    }
walk w k m tells old events later new run at = absurd run

-- a host has one mailbox
pub one-host : (m n : Mailbox) → Some (WithDriver m) ≡ Some (WithDriver n) → m ≡ n
one-host m n h = cc

pub one-mailbox : (f : Fleet) (k : ℕ) (m n : Mailbox) → HasMailbox f k m → HasMailbox f k n → m ≡ n
one-mailbox f k m n a b = one-host m n (sym a ∙ b)

balance : (w : ℕ → ℕ) (m n : Mailbox) (given executed done aborted : List ℕ)
    → Flow w m n (total w given) (total w executed) (total w done) (total w aborted)
    → Balance w m n given executed done aborted
balance w m n given executed done aborted f =
    omega (
      arith,
      f.waits,
      f.answered,
      f.aborts,
      held-weigh w m,
      held-weigh w n,
      waits-weigh w m,
      waits-weigh w n,
      posts-weigh w m,
      posts-weigh w n,
    )

pub tickets_balance : TicketsBalance
tickets_balance tells old new events replies run k m n at end w =
    let x = walk w k m tells old events replies new run at in
    let g = along (given k) tells old events replies new run in
    let e = along (executed k) tells old events replies new run in
    let d = along (done k) tells old events replies new run in
    let a = along (aborted k) tells old events replies new run in
    balance w m n g e d a (subst (λ y. Flow w m y (total w g) (total w e) (total w d) (total w a))
    (one-mailbox new k x.mailbox n x.host end) x.flow)

pub drivers_stay : DriversStay
drivers_stay tells old new events replies run k m at =
    let x = walk (λ t. 0) k m tells old events replies new run at in
    (x.mailbox, x.host)
