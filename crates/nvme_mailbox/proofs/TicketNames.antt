-- For the law `done_is_its_execution`: a ticket belongs to one request of a run.
use Rattle.nvme_mailbox.proofs.Words.{
  ◌≡◌,
  inl,
  inr,
  ℕ,
  zero,
  suc,
  ◌+◌,
  ◌≤◌,
  Bool,
  true,
  List,
  [],
  ◌∷◌,
  refl,
  sym,
  ap,
  subst,
  ◌∙◌,
  arith,
  asked_of,
  FleetEvent,
  Reply,
  concerns,
  Item,
  Mailbox,
  Fleet,
  Run,
  HasMailbox,
  MailboxStep,
  given_in,
  counting,
  Executes,
  EventProperty,
  HappensThen,
  TicketNamesItsRequest,
  DoneAnswersItsRequest,
}
use Rattle.nvme_mailbox.specs.Answered.{Places, Happens}
use Rattle.nvme_mailbox.proofs.Apart.{same-is, hosts_are_apart}
use Rattle.nvme_mailbox.proofs.TicketCounts.{Gives, step-gives}
use Rattle.nvme_mailbox.proofs.Answered.{done_is_its_execution}

-- one ticket is issued: it is the next one
one-given : (t a c : ℕ) → t ∷ [] ≡ counting a c → (t ≡ a) × (c ≡ 1)
one-given t a (suc zero) h = (head-is t a [] [] h, refl)
  where
    head-is : (x y : ℕ) (xs ys : List ℕ) → x ∷ xs ≡ y ∷ ys → x ≡ y
    head-is x y xs ys e = cc
one-given t a c h = absurd (cc)

-- placing a request takes the next ticket
takes-next : (tells : Bool) (old new : Fleet) (event : FleetEvent) (reply : Reply) (k : ℕ) (m n : Mailbox) (x : Item)
    → MailboxStep (concerns event k) event tells k old.site m reply new.site n
    → Places k x old event reply new → (x.ticket ≡ m.next) × (n.next ≡ m.next + 1)
takes-next tells old new event reply k m n x h p =
    let own : concerns event k ≡ true = ap (λ e. concerns e k) p.event_is ∙ same-is k k refl in
    let moves : MailboxStep true event tells k old.site m reply new.site n =
    subst (λ b. MailboxStep b event tells k old.site m reply new.site n) own h in
    let g : Gives m n (given_in reply.seen) = step-gives true event tells k old.site new.site m n reply own moves in
    let one = one-given x.ticket m.next g.0 (sym (ap (λ (r : Reply). given_in r.seen) p.gives) ∙ g.1) in
    (one.0, g.2 ∙ ap (λ c. m.next + c) one.1)

-- a request that is placed later has no earlier ticket
not-before : (tells : Bool) (old new : Fleet) (events : List FleetEvent) (replies : List Reply)
    (run : Run tells old events replies new) (k : ℕ) (m : Mailbox) (x : Item) → HasMailbox old k m
    → Happens (Places k x) tells old events replies new run → m.next ≤ x.ticket
not-before tells old new [] [] run k m x at h = absurd h
not-before tells old new (event ∷ events) (r ∷ later) run k m x at (inl p) =
    let one = hosts_are_apart tells old run.0 event r run.1 k m at in
    omega (arith, (takes-next tells old run.0 event r k m one.mailbox x one.moves p).0)
not-before tells old new (event ∷ events) (r ∷ later) run k m x at (inr h) =
    let one = hosts_are_apart tells old run.0 event r run.1 k m at in
    let rest = not-before tells run.0 new events later run.2 k one.mailbox x one.host h in
    omega
    (arith, (step-gives (concerns event k) event tells k old.site run.0.site m one.mailbox r refl one.moves).2, rest)
not-before tells old new events later run k m x at h = absurd h

-- one event places one request
same-asked : (k : ℕ) (x y : Item) (old : Fleet) (event : FleetEvent) (reply : Reply) (new : Fleet)
    → Places k x old event reply new → Places k y old event reply new → x.asked ≡ y.asked
same-asked k x y old event reply new p q =
    let same : p.request ≡ q.request = cc (p.event_is, q.event_is) in p.asked ∙ ap asked_of same ∙ sym q.asked

-- a request that is placed later has another ticket
apart : (tells : Bool) (old new : Fleet) (event : FleetEvent) (events : List FleetEvent) (r : Reply)
    (later : List Reply) (run : Run tells old (event ∷ events) (r ∷ later) new) (k : ℕ) (m : Mailbox) (x y : Item)
    → HasMailbox old k m
    → Places k x old event r run.0 → Happens (Places k y) tells run.0 events later new run.2 → x.ticket ≡ y.ticket → ⊥
apart tells old new event events r later run k m x y at p g t =
    let one = hosts_are_apart tells old run.0 event r run.1 k m at in
    let next = takes-next tells old run.0 event r k m one.mailbox x one.moves p in
    omega (arith, next.0, next.1, not-before tells run.0 new events later run.2 k one.mailbox y one.host g, t)

pub ticket_names_its_request : TicketNamesItsRequest
ticket_names_its_request tells old new [] [] run k m at x y h g t = absurd h
ticket_names_its_request tells old new (event ∷ events) (r ∷ later) run k m at x y (inl p) (inl q) t =
    λ i. record { ticket = t i; asked = same-asked k x y old event r run.0 p q i }
ticket_names_its_request tells old new (event ∷ events) (r ∷ later) run k m at x y (inl p) (inr g) t =
    absurd (apart tells old new event events r later run k m x y at p g t)
ticket_names_its_request tells old new (event ∷ events) (r ∷ later) run k m at x y (inr h) (inl q) t =
    absurd (apart tells old new event events r later run k m y x at q h (sym t))
ticket_names_its_request tells old new (event ∷ events) (r ∷ later) run k m at x y (inr h) (inr g) t =
    let one = hosts_are_apart tells old run.0 event r run.1 k m at in
    ticket_names_its_request tells run.0 new events later run.2 k one.mailbox one.host x y h g t
ticket_names_its_request tells old new events later run k m at x y h g t = absurd h

-- the first of two occurrences
first-happens : (first then : EventProperty) (tells : Bool) (old : Fleet) (events : List FleetEvent)
    (replies : List Reply)
    (new : Fleet) (run : Run tells old events replies new)
    → HappensThen first then tells old events replies new run → Happens first tells old events replies new run
first-happens first then tells old (event ∷ events) (r ∷ later) new run (inl h) = inl h.0
first-happens first then tells old (event ∷ events) (r ∷ later) new run (inr h) =
    inr (first-happens first then tells run.0 events later new run.2 h)
first-happens first then tells old events later new run h = h

pub done_answers_its_request : DoneAnswersItsRequest
done_answers_its_request tells old mid new events replies run k m at clear item placed reply step dw0 len status h =
    let w = (done_is_its_execution tells old mid new events replies run k m at clear reply step item.ticket dw0 len
    status h).1 in
    let first = first-happens (Places k w.item)
    (Executes tells k w.item (record { status = status; dw0 = dw0; bytes = reply.bytes })) tells old events replies mid
    run w.happened in
    let same = ticket_names_its_request tells old mid events replies run k m at w.item item first placed w.ticket_is in
    subst (λ x. HappensThen (Places k x)
    (Executes tells k x (record { status = status; dw0 = dw0; bytes = reply.bytes })) tells old events replies mid run)
    same w.happened
