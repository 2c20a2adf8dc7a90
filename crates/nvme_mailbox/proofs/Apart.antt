-- For laws of mailboxes: a host's mailbox depends on its own events, and on the marks of others' executions.
use Rattle.nvme_mailbox.proofs.Words.{
  ◌≡◌,
  ◌≢◌,
  ℕ,
  ◌==◌,
  Bool,
  true,
  false,
  Option,
  None,
  Some,
  refl,
  sym,
  ap,
  subst,
  ◌∙◌,
  arith,
  slice_get,
  common_steps,
  Marks,
  Executed,
  Posted,
  NoSuch,
  Controller,
  FleetEvent,
  BringUp,
  Place,
  Ring,
  Fetch,
  Execute,
  Poll,
  Reset,
  RawStore,
  RawWrite32,
  PowerCycle,
  FleetSeen,
  NotRaw,
  Reply,
  concerns,
  FetchedItem,
  Mailbox,
  MailboxReaction,
  plain,
  fetched,
  reset,
  Site,
  RequestComesTo,
  WithDriver,
  Raw,
  Fleet,
  Moment,
  Is,
  Completes,
  ExecutesItem,
  ExecutesAt,
  host_at,
  with_host,
  power_cycled,
  called_at,
  raw_at,
  fetched_at,
  settled,
  after_answer,
  site_of,
  marks_in,
  replaced,
  numbered,
  HasMailbox,
  Becomes,
  Posts,
  ExecutesOwn,
  OwnStep,
  OthersStep,
  MailboxStep,
  MovesOn,
  HostsAreApart,
  marks_seen,
  marked_by,
  host_cycled,
  option_map,
  same_Some,
  zero,
  suc,
  ◌+◌,
  List,
  [],
  ◌∷◌,
  if◌then◌else◌,
  slice_get-map,
  World,
  host_of,
  is_host_among,
  marked,
  marked_from,
  ◌⊎◌,
  inl,
  inr,
  no_marks,
}
use Rattle.nvme_mailbox.specs.Fleets.{Host}
use Rattle.nvme_event.specs.declared.seen.FleetSeen.TheVariants.{Executed as ExecutedSeen, NoController, Cycled}
use Rattle.nvme_mailbox.proofs.Lists.{got-other, got-here}
use Rattle.nvme_mailbox.specs.Mailboxes.{with_marks}
use Rattle.nvme_machine.proofs.Denials.{not_one}

-- A mailbox whose fetched requests may have been marked.

-- the second is the first, or the first after its fetched requests on one namespace are marked
abbrev pub DiffersInMarks : Mailbox → Mailbox → Type 0
DiffersInMarks m n = (n ≡ m) ⊎ ((namespace : ℕ) × (n ≡ with_marks namespace m))

pub differs : (t : Marks) (w : World) (k : ℕ) (m n : Mailbox) → n ≡ marked_by t w k m → DiffersInMarks m n
differs t w k m n e = by (is_host_among t.hosts.items (host_of w k)) e
  where
    by : (b : Bool) → n ≡ (if b then with_marks t.nsid m else m) → DiffersInMarks m n
    by true e = inr (t.nsid, e)
    by false e = inl e

pub others-differ : (event : FleetEvent) (k : ℕ) (m : Mailbox) (reply : Reply) (left : Site) (n : Mailbox)
    → OthersStep event k m reply left n → DiffersInMarks m n
others-differ (Execute j i) k m reply left n h = differs (marks_seen reply.seen) left.world k m n h
others-differ event k m reply left n h = inl h

-- without marks it is unchanged
unmarked : (w : World) (k : ℕ) (m : Mailbox) → marked_by no_marks w k m ≡ m
unmarked w k m = ap (λ b. if b then with_marks 0 m else m) (not_one (host_of w k))

pub spared : (w : World) (k : ℕ) (m : Mailbox) (reply : Reply) (what : FleetSeen)
    → reply ≡ plain what → marks_seen what ≡ no_marks → m ≡ marked_by (marks_seen reply.seen) w k m
spared w k m reply what gives none =
    sym
    (ap (λ (r : Reply). marked_by (marks_seen r.seen) w k m) gives ∙ ap (λ t. marked_by t w k m) none ∙ unmarked w k m)

-- The host at one place after an event.

pub replaced-other : (hs : List Host) (j k : ℕ) (h : Host) → j ≢ k → numbered (replaced hs j h) k ≡ numbered hs k
replaced-other hs (suc j) (suc k) h other = got-other hs j h k (λ e. other (ap suc (sym e)))
replaced-other hs j k h other = refl

pub replaced-here : (hs : List Host) (k : ℕ) (g h : Host)
    → numbered hs k ≡ Some g → numbered (replaced hs k h) k ≡ Some h
replaced-here hs zero g h at = absurd (cc)
replaced-here hs (suc k) g h at = got-here hs k g h at

-- another host after one host is replaced
pub other-set : (f : Fleet) (j k : ℕ) (h : Host) → j ≢ k → host_at (with_host f j h) k ≡ host_at f k
unfolding host_at with_host
other-set f j k h other = replaced-other f.hosts j k h other

pub own-set : (f : Fleet) (k : ℕ) (g h : Host) → host_at f k ≡ Some g → host_at (with_host f k h) k ≡ Some h
unfolding host_at with_host
own-set f k g h at = replaced-here f.hosts k g h at

-- a host after a power cycle
pub cycled-at : (f : Fleet) (k : ℕ) → host_at (power_cycled f) k ≡ option_map host_cycled (host_at f k)
unfolding host_at power_cycled
cycled-at f zero = refl
cycled-at f (suc i) = slice_get-map host_cycled f.hosts i

-- an event of another host

pub called-other : (o : Option Host) (f : Fleet) (j k : ℕ) (call : Mailbox → MailboxReaction)
    → j ≢ k → host_at (called_at o f j call).fleet k ≡ host_at f k
called-other (Some (WithDriver m)) f j k call other = other-set f j k _ other
called-other o f j k call other = refl

pub raw-other : (o : Option Host) (f : Fleet) (j k : ℕ) (change : Controller → Controller) (what : FleetSeen)
    → j ≢ k → host_at (raw_at o f j change what).fleet k ≡ host_at f k
raw-other (Some (Raw c)) f j k change what other = other-set f j k _ other
raw-other o f j k change what other = refl

pub fetched-other : (o : Option Host) (f : Fleet) (j k q : ℕ)
    → j ≢ k → host_at (fetched_at o f j q).fleet k ≡ host_at f k
fetched-other None f j k q other = refl
fetched-other (Some (WithDriver m)) f j k q other = other-set f j k _ other
fetched-other (Some (Raw c)) f j k q other = other-set f j k _ other

-- Marks.

marked-by : (n : ℕ) (m : Mailbox) (b : Bool)
    → Some (if b then marked n (WithDriver m) else WithDriver m) ≡ Some (WithDriver (if b then with_marks n m else m))
marked-by n m true = refl
marked-by n m false = refl

marks-place : (w : World) (t : Marks) (j k : ℕ) (hs : List Host) (i : ℕ) (m : Mailbox)
    → j + i ≡ k → slice_get hs i ≡ Some (WithDriver m)
    → slice_get (marked_from w t j hs) i ≡ Some (WithDriver (marked_by t w k m))
marks-place w t j k [] i m place at = absurd (cc)
marks-place w t j k (h ∷ hs) zero m place at =
    ap (λ x. Some (if is_host_among t.hosts.items (host_of w j) then marked t.nsid x else x))
    (same_Some h (WithDriver m) at)
    ∙ marked-by t.nsid m (is_host_among t.hosts.items (host_of w j))
    ∙ ap (λ n. Some (WithDriver (marked_by t w n m))) (omega (arith, place))
marks-place w t j k (h ∷ hs) (suc i) m place at = marks-place w t (j + 1) k hs i m (omega (arith, place)) at

-- controller k's host gets the marks of the execution
pub marks-numbered : (w : World) (t : Marks) (hs : List Host) (k : ℕ) (m : Mailbox)
    → numbered hs k ≡ Some (WithDriver m)
    → numbered (marked_from w t 1 hs) k ≡ Some (WithDriver (marked_by t w k m))
marks-numbered w t hs zero m at = absurd (cc)
marks-numbered w t hs (suc k) m at = marks-place w t 1 (suc k) hs k m (omega arith) at

pub is-same : (j k : ℕ) → (j == k) ≡ true → j ≡ k
is-same j k h = grind (arith, common_steps, h)

pub same-is : (j k : ℕ) → j ≡ k → (j == k) ≡ true
same-is j k h = grind (arith, common_steps, h)

pub is-other : (j k : ℕ) → (j == k) ≡ false → j ≢ k
is-other j k h e = grind (arith, common_steps, h, e)

-- Events that keep the host at a place.

keeps : (tells : Bool) (old new : Fleet) (event : FleetEvent) (reply : Reply) (k : ℕ) (m : Mailbox)
    → concerns event k ≡ false → OthersStep event k m reply new.site m
    → host_at new k ≡ host_at old k → HasMailbox old k m → MovesOn tells old event reply new k m
keeps tells old new event reply k m other stays same at = record {
  mailbox = m;
  host = same ∙ at;
  moves = subst (λ b. MailboxStep b event tells k old.site m reply new.site m) (sym other) stays;
}

own : (tells : Bool) (old new : Fleet) (event : FleetEvent) (reply : Reply) (k : ℕ) (m n : Mailbox)
    → concerns event k ≡ true → HasMailbox new k n
    → OwnStep event tells k old.site m reply new.site n → MovesOn tells old event reply new k m
own tells old new event reply k m n here at h = record {
  mailbox = n;
  host = at;
  moves = subst (λ b. MailboxStep b event tells k old.site m reply new.site n) (sym here) h;
}

-- an event of host j that executes nothing: its effect, by the kind of host
by-event : (tells : Bool) (old new : Fleet) (event : FleetEvent) (j k : ℕ) (m n : Mailbox)
    (comes : Option Host → Moment) (reply : Reply) (b : Bool) → (j == k) ≡ b → concerns event k ≡ b
    → OthersStep event k m reply new.site m → (j ≢ k → host_at (comes (host_at old j)).fleet k ≡ host_at old k)
    → (j ≡ k → HasMailbox (comes (Some (WithDriver m))).fleet k n)
    → (reply ≡ (comes (Some (WithDriver m))).reply → OwnStep event tells k old.site m reply new.site n)
    → HasMailbox old k m → Is (comes (host_at old j)) reply new → MovesOn tells old event reply new k m
by-event tells old new event j k m n comes reply true e here stays others leaves becomes at h =
    let same = is-same j k e in
    let so : Is (comes (Some (WithDriver m))) reply new =
    subst (λ o. Is (comes o) reply new) (ap (host_at old) same ∙ at) h in
    own tells old new event reply k m n here (ap (λ f. host_at f k) so.1 ∙ leaves same) (becomes so.0)
by-event tells old new event j k m n comes reply false e here stays others leaves becomes at h =
    keeps tells old new event reply k m here stays (ap (λ f. host_at f k) h.1 ∙ others (is-other j k e)) at

left : (old : Fleet) (j k : ℕ) (m n : Mailbox)
    → HasMailbox old k m → j ≡ k → HasMailbox (with_host old j (WithDriver n)) k n
left old j k m n at same =
    ap (λ x. host_at (with_host old x (WithDriver n)) k) same ∙ own-set old k (WithDriver m) (WithDriver n) at

by-call : (tells : Bool) (old new : Fleet) (event : FleetEvent) (j k : ℕ) (m : Mailbox)
    (call : Mailbox → MailboxReaction) (reply : Reply) → concerns event k ≡ (j == k)
    → OthersStep event k m reply new.site m
    → (Becomes (call m) reply (call m).mailbox → OwnStep event tells k old.site m reply new.site (call m).mailbox)
    → HasMailbox old k m → Is (called_at (host_at old j) old j call) reply new → MovesOn tells old event reply new k m
by-call tells old new event j k m call reply here stays becomes at h =
    by-event tells old new event j k m (call m).mailbox (λ o. called_at o old j call) reply (j == k) refl here stays
    (called-other (host_at old j) old j k call) (left old j k m (call m).mailbox at) (λ g. becomes (g, refl)) at h

-- a raw host's event does not reach a host with a driver
by-raw : (tells : Bool) (old new : Fleet) (event : FleetEvent) (j k : ℕ) (m : Mailbox)
    (change : Controller → Controller) (what : FleetSeen) (reply : Reply) → concerns event k ≡ (j == k)
    → OthersStep event k m reply new.site m
    → ((reply ≡ plain NotRaw) × (m ≡ m) → OwnStep event tells k old.site m reply new.site m)
    → HasMailbox old k m → Is (raw_at (host_at old j) old j change what) reply new
    → MovesOn tells old event reply new k m
by-raw tells old new event j k m change what reply here stays becomes at h =
    by-event tells old new event j k m m (λ o. raw_at o old j change what) reply (j == k) refl here stays
    (raw-other (host_at old j) old j k change what) (λ same. at) (λ g. becomes (g, refl)) at h

-- Executions.

settled-at : (f : Fleet) (j k : ℕ) (left : Site) (h : Host) (t : Marks) (m : Mailbox)
    → numbered (replaced f.hosts j h) k ≡ Some (WithDriver m)
    → HasMailbox (settled f j left h t) k (marked_by t left.world k m)
unfolding host_at settled
settled-at f j k left h t m at = marks-numbered left.world t (replaced f.hosts j h) k m at

-- the effect of another host's execution
settled-other : (tells : Bool) (old new : Fleet) (reply : Reply) (j i k : ℕ) (left : Site) (h : Host)
    (executed : Executed) (m : Mailbox) → j ≢ k → (j == k) ≡ false → HasMailbox old k m
    → reply ≡ plain (ExecutedSeen executed) → new ≡ settled old j left h (marks_in executed)
    → MovesOn tells old (Execute j i) reply new k m
unfolding host_at settled
settled-other tells old new reply j i k left h executed m apart other at gives is =
    let n : Mailbox = marked_by (marks_in executed) left.world k m in
    let so : marked_by (marks_seen reply.seen) new.site.world k m ≡ n =
    ap (λ (f : Fleet). marked_by (marks_seen reply.seen) f.site.world k m) is
    ∙ ap (λ (r : Reply). marked_by (marks_seen r.seen) left.world k m) gives in record {
      mailbox = n;
      host = ap (λ f. host_at f k) is
          ∙ settled-at old j k left h (marks_in executed) m (replaced-other old.hosts j k h apart ∙ at);
      moves = subst (λ b. MailboxStep b (Execute j i) tells k old.site m reply new.site n) (sym other) (sym so);
    }

executes-other : (o : Option Host) (tells : Bool) (old new : Fleet) (j i k : ℕ) (reply : Reply) (m : Mailbox)
    → j ≢ k → (j == k) ≡ false → HasMailbox old k m
    → ExecutesAt o tells old j i reply new → MovesOn tells old (Execute j i) reply new k m
executes-other None tells old new j i k reply m apart other at h =
    keeps tells old new (Execute j i) reply k m other (spared new.site.world k m reply NoController h.0 refl)
    (ap (λ f. host_at f k) h.1) at
executes-other (Some (WithDriver y)) tells old new j i k reply m apart other at h = by (slice_get y.fetched i) h
  where
    by : (o : Option FetchedItem) → ExecutesItem o tells old j y i reply new
        → MovesOn tells old (Execute j i) reply new k m
    by None h = keeps tells old new (Execute j i) reply k m other
        (spared new.site.world k m reply (ExecutedSeen NoSuch) h.0 refl) (ap (λ f. host_at f k) h.1) at
    by (Some x) h =
        settled-other tells old new reply j i k h.execution.left (WithDriver (after_answer i x h.execution y))
        (Posted h.execution.outcome) m apart other at h.gives h.leaves
executes-other (Some (Raw c)) tells old new j i k reply m apart other at h =
    settled-other tells old new reply j i k (site_of h.left)
    (Raw h.left.controller) h.executed m apart other at h.gives h.leaves

completes-own : (tells : Bool) (old new : Fleet) (j k i : ℕ) (m : Mailbox) (x : FetchedItem) (reply : Reply)
    → j ≡ k → (j == k) ≡ true → HasMailbox old k m → slice_get m.fetched i ≡ Some x
    → Completes tells old j m i x reply new → MovesOn tells old (Execute j i) reply new k m
unfolding host_at settled
completes-own tells old new j k i m x reply same here at found h =
    let y : Mailbox = after_answer i x h.execution m in
    let place : numbered (replaced old.hosts j (WithDriver y)) k ≡ Some (WithDriver y) =
    ap (λ n. numbered (replaced old.hosts n (WithDriver y)) k) same
    ∙ replaced-here old.hosts k (WithDriver m) (WithDriver y) at in
    let n : Mailbox = marked_by h.execution.outcome.marks h.execution.left.world k y in
    let posts : Posts tells k old.site m i x reply new.site n = record {
      execution = h.execution;
      comes_to = subst (λ n. RequestComesTo tells n x old.site h.execution) same h.comes_to;
      gives = h.gives;
      site = ap (λ (f : Fleet). f.site) h.leaves;
      leaves = refl;
    } in
    own tells old new (Execute j i) reply k m n here
    (ap (λ f. host_at f k) h.leaves
    ∙ settled-at old j k h.execution.left (WithDriver y) h.execution.outcome.marks y place)
    (subst (λ o. ExecutesOwn o tells k old.site m i reply new.site n) (sym found) posts)

executes-own : (tells : Bool) (old new : Fleet) (j i k : ℕ) (reply : Reply) (m : Mailbox)
    → j ≡ k → (j == k) ≡ true → HasMailbox old k m
    → ExecutesAt (Some (WithDriver m)) tells old j i reply new → MovesOn tells old (Execute j i) reply new k m
executes-own tells old new j i k reply m same here at h = by (slice_get m.fetched i) refl h
  where
    by : (o : Option FetchedItem) → slice_get m.fetched i ≡ o → ExecutesItem o tells old j m i reply new
        → MovesOn tells old (Execute j i) reply new k m
    by None found h =
        own tells old new (Execute j i) reply k m m here (ap (λ f. host_at f k) h.1 ∙ at)
        (subst (λ o. ExecutesOwn o tells k old.site m i reply new.site m) (sym found) (h.0, refl))
    by (Some x) found h = completes-own tells old new j k i m x reply same here at found h

by-execution : (tells : Bool) (old new : Fleet) (j i k : ℕ) (m : Mailbox) (reply : Reply) (b : Bool) → (j == k) ≡ b
    → HasMailbox old k m → ExecutesAt (host_at old j) tells old j i reply new
    → MovesOn tells old (Execute j i) reply new k m
by-execution tells old new j i k m reply true e at h =
    let same = is-same j k e in
    executes-own tells old new j i k reply m same e at
    (subst (λ o. ExecutesAt o tells old j i reply new) (ap (host_at old) same ∙ at) h)
by-execution tells old new j i k m reply false e at h =
    executes-other (host_at old j) tells old new j i k reply m (is-other j k e) e at h

-- A power cycle.

by-cycle : (tells : Bool) (old new : Fleet) (k : ℕ) (m : Mailbox) (reply : Reply) → HasMailbox old k m
    → (reply ≡ plain Cycled) × (new ≡ power_cycled old) → MovesOn tells old PowerCycle reply new k m
by-cycle tells old new k m reply at h = record {
  mailbox = (reset m).mailbox;
  host = ap (λ f. host_at f k) h.1 ∙ cycled-at old k ∙ ap (option_map host_cycled) at;
  moves = (h.0, refl);
}

pub hosts_are_apart : HostsAreApart
hosts_are_apart tells old new (BringUp j) reply h k m at =
    by-call tells old new (BringUp j) j k m _ reply refl refl (λ x. x) at h
hosts_are_apart tells old new (Place j request) reply h k m at =
    by-call tells old new (Place j request) j k m _ reply refl refl (λ x. x) at h
hosts_are_apart tells old new (Ring j) reply h k m at =
    by-call tells old new (Ring j) j k m _ reply refl refl (λ x. x) at h
hosts_are_apart tells old new (Fetch j q) reply h k m at =
    by-event tells old new (Fetch j q) j k m (fetched q m).mailbox (λ o. fetched_at o old j q) reply (j == k) refl refl
    refl (fetched-other (host_at old j) old j k q) (left old j k m (fetched q m).mailbox at) (λ g. (g, refl)) at h
hosts_are_apart tells old new (Execute j i) reply h k m at = by-execution tells old new j i k m reply (j == k) refl at h
hosts_are_apart tells old new (Poll j) reply h k m at =
    by-call tells old new (Poll j) j k m _ reply refl refl (λ x. x) at h
hosts_are_apart tells old new (Reset j) reply h k m at =
    by-call tells old new (Reset j) j k m _ reply refl refl (λ x. x) at h
hosts_are_apart tells old new (RawStore j address bytes) reply h k m at =
    by-raw tells old new (RawStore j address bytes) j k m _ _ reply refl refl (λ x. x) at h
hosts_are_apart tells old new (RawWrite32 j offset v) reply h k m at =
    by-raw tells old new (RawWrite32 j offset v) j k m _ _ reply refl refl (λ x. x) at h
hosts_are_apart tells old new PowerCycle reply h k m at = by-cycle tells old new k m reply at h
