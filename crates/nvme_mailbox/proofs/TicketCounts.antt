-- For laws of tickets: tickets are issued in order, and each once.
use Rattle.nvme_mailbox.proofs.Words.{
  ◌≡◌,
  inl,
  inr,
  ℕ,
  zero,
  suc,
  ◌+◌,
  ◌≤◌,
  Bool,
  true,
  false,
  List,
  [],
  ◌∷◌,
  ◌++◌,
  map,
  Some,
  refl,
  sym,
  ap,
  subst,
  ◌∙◌,
  arith,
  if◌then◌else◌,
  slice_get,
  slice_get-map,
  option_map,
  common_steps,
  length-map,
  ControllerConfig,
  new_controller,
  Lane,
  FleetEvent,
  Reply,
  concerns,
  LaneBox,
  Mailbox,
  with_box,
  lane_of,
  new_mailbox,
  Site,
  WithDriver,
  Raw,
  Fleet,
  Run,
  host_at,
  after_answer,
  new_host,
  numbered,
  opening,
  HasMailbox,
  MailboxStep,
  given_in,
  given,
  done,
  aborted,
  along,
  held_tickets,
  waiting_tickets,
  answered_tickets,
  Balance,
  counting,
  TicketsAreConsecutive,
  is_ticket,
  times,
  below,
  GoesOnce,
  EachTicketGoesOnce,
  EachIsHeldOnce,
  NewHoldsEachOnce,
  OpeningHasDrivers,
  OpeningIsNew,
  TicketsOfAnOpeningGoOnce,
  HeldAreCounted,
  waiting,
  posted_answers,
}
use Rattle.nvme_mailbox.proofs.Moves.{
  Move,
  Stay,
  Rise,
  Take,
  RingBoth,
  FetchFirst,
  HandUp,
  Free,
  Clear,
  Answer,
  May,
  moved,
  reply_of,
  own-moved,
}
use Rattle.nvme_mailbox.specs.Tickets.{executed}
use Rattle.nvme_mailbox.proofs.Totals.{total-append}
use Rattle.nvme_mailbox.proofs.Apart.{hosts_are_apart, DiffersInMarks, others-differ}
use Rattle.nvme_mailbox.proofs.TicketRuns.{one-host, one-mailbox, drivers_stay, tickets_balance}
use Rattle.nvme_mailbox.proofs.Lists.{from-map}
use Rattle.std.proofs.lemmas.List.{length-append}

-- The next tickets.

pub counting-append : (a c d : ℕ) → counting a (c + d) ≡ counting a c ++ counting (a + c) d
counting-append a zero d = grind (arith, common_steps)
counting-append a (suc c) d =
    let e : suc c + d ≡ suc (c + d) = omega arith in
    let f : a + 1 + c ≡ a + suc c = omega arith in
    ap (counting a) e ∙ ap (λ xs. a ∷ xs) (counting-append (a + 1) c d ∙ ap (λ n. counting (a + 1) c ++ counting n d) f)

-- this many are issued, in order
abbrev pub Gives : Mailbox → Mailbox → List ℕ → Type 0
Gives m n tickets = (count : ℕ) × (tickets ≡ counting m.next count) × (n.next ≡ m.next + count)

none : (m n : Mailbox) → n.next ≡ m.next → Gives m n []
none m n e = (0, refl, omega (arith, e))

gives-on : (l m n : Mailbox) (xs ys : List ℕ) → Gives l m xs → Gives m n ys → Gives l n (xs ++ ys)
gives-on l m n xs ys a b =
    let q = b.2 in (
      a.0 + b.0,
      (λ i. a.1 i ++ b.1 i) ∙ ap (λ t. counting l.next a.0 ++ counting t b.0) a.2
          ∙ sym (counting-append l.next a.0 b.0),
      omega (arith, a.2, q),
    )

box-next : (l : Lane) (b : LaneBox) (m : Mailbox) → (with_box l b m).next ≡ m.next
box-next l b m = grind (arith, common_steps)

gives : (v : Move) (m : Mailbox) → May v m → Gives m (moved v m) (given_in (reply_of v m).seen)
unfolding after_answer
gives (Stay what) m q = subst (Gives m m) (sym q.given) (none m m refl)
gives Rise m u = none m (moved Rise m) refl
gives (Take request) m u = (1, refl, box-next _ _ (record m { next = m.next + 1 }))
gives RingBoth m u = none m (moved RingBoth m) refl
gives (FetchFirst l x rest) m u = none m (moved (FetchFirst l x rest) m)
    (box-next l _ (record m { fetched = m.fetched ++ record { item = x; marked = false } ∷ [] }))
gives (HandUp l x rest) m u = none m (moved (HandUp l x rest) m) (box-next l _ m)
gives (Free t ts) m u = none m (record m { aborted = ts }) refl
gives (Clear what) m q = subst (Gives m (moved (Clear what) m)) (sym q.given) (none m (moved (Clear what) m) refl)
gives (Answer i x r) m u = none m (after_answer i x r m) (box-next (lane_of x.item) _ _)

marks-next : (m n : Mailbox) → DiffersInMarks m n → n.next ≡ m.next
marks-next m n (inl e) = ap (λ (x : Mailbox). x.next) e
marks-next m n (inr h) = ap (λ (x : Mailbox). x.next) h.1

-- One event.
pub step-gives : (b : Bool) (event : FleetEvent) (tells : Bool) (k : ℕ) (s left : Site) (m n : Mailbox) (reply : Reply)
    → concerns event k ≡ b → MailboxStep b event tells k s m reply left n
    → Gives m n (if b then given_in reply.seen else [])
step-gives true event tells k s left m n reply is h =
    let v = own-moved event tells k s left m n reply is h in
    let g = gives v.move m v.may in
    subst (λ (x : Reply). Gives m n (given_in x.seen)) (sym v.gives)
    (g.0, g.1, marks-next (moved v.move m) n v.leaves ∙ g.2)
step-gives false event tells k s left m n reply is h =
    none m n (marks-next m n (others-differ event k m reply left n h))

walk : (k : ℕ) (m n : Mailbox) (tells : Bool) (old : Fleet) (events : List FleetEvent) (replies : List Reply)
    (new : Fleet) (run : Run tells old events replies new) → HasMailbox old k m → HasMailbox new k n
    → Gives m n (along (given k) tells old events replies new run)
walk k m n tells old [] [] new run at end =
    none m n (ap (λ (x : Mailbox). x.next) (one-mailbox new k n m end (ap (λ f. host_at f k) run ∙ at)))
walk k m n tells old (event ∷ events) (x ∷ later) new run at end =
    let one = hosts_are_apart tells old run.0 event x run.1 k m at in
    gives-on m one.mailbox n (given k old event x) (along (given k) tells run.0 events later new run.2)
    (step-gives (concerns event k) event tells k old.site run.0.site m one.mailbox x refl one.moves)
    (walk k one.mailbox n tells run.0 events later new run.2 one.host end)
walk k m n tells old events later new run at end = absurd run

pub tickets_are_consecutive : TicketsAreConsecutive
tickets_are_consecutive tells old new events replies run k m n at end =
    walk k m n tells old events replies new run at end

-- Each once.

below-small : (t a : ℕ) → below t a ≤ 1
below-small t a = grind (arith, common_steps)

times-counting : (t a c : ℕ) → times t (counting a c) + below t a ≡ below t (a + c)
times-counting t a zero = let g : a ≡ a + zero = omega arith in omega (arith, ap (below t) g)
times-counting t a (suc c) =
    let g : a + 1 + c ≡ a + suc c = omega arith in
    let next : is_ticket t a + below t a ≡ below t (a + 1) = grind (arith, common_steps) in
    omega (arith, times-counting t (a + 1) c, next, ap (below t) g)

-- of one ticket, the number held and delivered is at most the number issued
held-after : (t : ℕ) (m n : Mailbox) (given executed done aborted : List ℕ)
    → Balance (is_ticket t) m n given executed done aborted → Gives m n given
    → times t (held_tickets m) ≤ below t m.next
    → times t (held_tickets m) + times t given ≤ below t n.next
held-after t m n given executed done aborted b g h =
    omega (arith, ap (times t) g.1, times-counting t m.next g.0, ap (below t) g.2, h)

goes-once : (t : ℕ) (m n : Mailbox) (given executed done aborted : List ℕ)
    → Balance (is_ticket t) m n given executed done aborted → Gives m n given
    → times t (held_tickets m) ≤ below t m.next
    → GoesOnce t n given executed done aborted
goes-once t m n given executed done aborted b g h =
    let a = held-after t m n given executed done aborted b g h in
    let d = below-small t n.next in
    omega (
      arith,
      a,
      d,
      b.waits,
      b.held,
      total-append (is_ticket t) (waiting_tickets m ++ answered_tickets m) m.aborted,
      total-append (is_ticket t) (waiting_tickets m) (answered_tickets m),
    )

pub each_ticket_goes_once : EachTicketGoesOnce
each_ticket_goes_once tells old new events replies run k m n at end once t =
    goes-once t m n _ _ _ _ (tickets_balance tells old new events replies run k m n at end (is_ticket t))
    (walk k m n tells old events replies new run at end) (once t)

pub each_is_held_once : EachIsHeldOnce
each_is_held_once tells old new events replies run k m n at end once t =
    let b = tickets_balance tells old new events replies run k m n at end (is_ticket t) in
    omega (arith, held-after t m n _ _ _ _ b (walk k m n tells old events replies new run at end) (once t), b.held)

pub new_holds_each_once : NewHoldsEachOnce
unfolding waiting posted_answers
new_holds_each_once first t = omega arith

-- The number held is the one counted.

pub held_are_counted : HeldAreCounted
unfolding waiting posted_answers
held_are_counted m = simp (length-append, length-map) (omega arith)

-- Openings.

opened : (k : ControllerConfig) (b : Bool) (m : Mailbox)
    → Some (if b then Raw (new_controller k.cntlid) else WithDriver (new_mailbox 1)) ≡ Some (WithDriver m)
    → m ≡ new_mailbox 1
opened k true m h = absurd (cc)
opened k false m h = sym (one-host (new_mailbox 1) m h)

pub opening_is_new : OpeningIsNew
unfolding host_at opening
opening_is_new c d zero m h = absurd (cc)
opening_is_new c d (suc i) m h = let k = from-map new_host c.controllers i (WithDriver m) h in
    opened k.0 k.0.raw m (ap Some (sym k.2))

new-driver : (k : ControllerConfig) (b : Bool)
    → b ≡ false → (if b then Raw (new_controller k.cntlid) else WithDriver (new_mailbox 1)) ≡ WithDriver (new_mailbox 1)
new-driver k true h = absurd (cc)
new-driver k false h = refl

has-driver : (xs : List ControllerConfig) (i : ℕ) (k : ControllerConfig) → slice_get xs i ≡ Some k → k.raw ≡ false
    → slice_get (map new_host xs) i ≡ Some (WithDriver (new_mailbox 1))
has-driver xs i k at h = slice_get-map new_host xs i ∙ ap (option_map new_host) at ∙ ap Some (new-driver k k.raw h)

pub opening_has_drivers : OpeningHasDrivers
unfolding host_at opening
opening_has_drivers c d i k at h =
    let e : i + 1 ≡ suc i = omega arith in
    subst (λ n. numbered (map new_host c.controllers) n ≡ Some (WithDriver (new_mailbox 1))) (sym e)
    (has-driver c.controllers i k at h)

pub tickets_of_an_opening_go_once : TicketsOfAnOpeningGoOnce
tickets_of_an_opening_go_once c d i k at h tells new events replies run =
    let first = opening_has_drivers c d i k at h in
    let last = drivers_stay tells (opening c d) new events replies run (i + 1) (new_mailbox 1) first in (
      last.0,
      last.1,
      λ t. each_ticket_goes_once tells (opening c d) new events replies run (i + 1) (new_mailbox 1) last.0 first last.1
          (new_holds_each_once 1) t,
    )
