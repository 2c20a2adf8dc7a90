-- For `RiseStep`: bringing up over both lanes (queue pairs): both are sound after the driver has come up, and the
-- mailbox is up with new counts.
use Rattle.nvme_refinement.proofs.Words.{
  completion_of,
  ◌≡◌,
  ℕ,
  ◌+◌,
  ◌*◌,
  List,
  length,
  map,
  Option,
  Some,
  refl,
  ap,
  sym,
  ◌∙◌,
  arith,
  ne_eqb,
  true,
  with_bytes,
  State,
  zeros,
  zeroed,
  fresh_host,
  fresh_state,
  own_host,
  own_state,
  Resting,
  Holds,
  box,
  recounted,
  Lane,
  Admin,
  Io,
  Down,
  Up,
  submission_queue,
  Driver,
  is_up,
  started,
  Controller,
  SubmissionQueue,
  CompletionQueue,
  Both,
  is_failed,
  pages_of,
  slots_in,
  host,
  state,
  fetched_by,
  held_by,
  Sound,
  mailbox,
  Host,
}
use Rattle.nvme_refinement.proofs.Ups.{Quiet, own-quiet, fresh-quiet, zeros-are, risen-holds, resting-box, quiet-box}
use Rattle.nvme_refinement.proofs.LaneWindows.{each-lane, Stored, none-stored, page-stored}
use Rattle.nvme_refinement.proofs.OneLane.{slots-apart}
use Rattle.nvme_refinement.proofs.StartStep.{running, zeroed_all}
use Rattle.nvme_refinement.proofs.TurnStep.{with_admin, ends_at}

-- A command of the driver's own, the n-th, from 0, in the admin lane, with its completion.
pub record OwnCommand : Type 0 where
  pub command : List ℕ
  pub completion : List ℕ

abbrev pub own_window : ℕ → List ℕ → OwnCommand → List ℕ
own_window n w o = with_bytes (with_bytes w (submission_queue Admin + 64 * n) o.command)
    (submission_queue Admin + (4096 + 16 * n)) o.completion

abbrev own-page : ℕ → List ℕ → OwnCommand → List ℕ
own-page n p o = with_bytes (with_bytes p (64 * n) o.command) (4096 + 16 * n) o.completion

-- a command of the driver's own has 64 bytes, and its completion 16 bytes with the phase tag set
pub record IsOwn (o : OwnCommand) : Type 0 where
  pub command : length o.command ≡ 64
  pub completion : length o.completion ≡ 16
  pub phase : (completion_of o.completion).phase ≡ true

-- the queue pages of both lanes zeroed, but no slot
zeros-stored : (w : List ℕ) → length w ≡ 4194304 → Stored w (zeroed_all w) 24 (λ l p. zeroed p)
zeros-stored w l =
    let z : length zeros ≡ 4096 = zeros-are.long in
    let s = page-stored Io w _ 24 _ zeros 4096 (page-stored Io w _ 24 _ zeros 0 (page-stored Admin w _ 24 _ zeros 4096
    (page-stored Admin w w 24 _ zeros 0 (none-stored w 24 l) (omega (arith, z))) (omega (arith, z))) (omega (arith, z)))
    (omega (arith, z)) in
    record {
      size = s.size;
      slots = s.slots;
      pages = each-lane Admin (λ l. pages_of l (zeroed_all w) ≡ zeroed (pages_of l w)) (s.pages Admin) (s.pages Io);
    }

pub zeroed-size : (w : List ℕ) → length w ≡ 4194304 → length (zeroed_all w) ≡ 4194304
zeroed-size w l = (zeros-stored w l).size

-- the window after a driver came up with two of them
abbrev pub up_window : List ℕ → OwnCommand → OwnCommand → List ℕ
up_window w first second = own_window 1 (own_window 0 (zeroed_all w) first) second

-- The queues that they create, the driver that has come up, and its controller.
abbrev pub made_completions : Option CompletionQueue
made_completions = Some (record { base = 0x3000; tail = record { size = 32; posted = 0; unread = 0 } })

abbrev pub made_submissions : Option SubmissionQueue
made_submissions = Some (record { base = 0x2000; cqid = 1; head = record { size = 8; fetched = 0; waiting = 0 } })

abbrev pub risen_driver : Driver → Driver
risen_driver d = record (with_admin (ends_at 2) (started d)) { state = Up }

abbrev pub risen_controller : ℕ → List ℕ → Controller
risen_controller k w = running k 2 0 made_submissions made_completions 0 w

-- what is known
pub record Rises (d : Driver) (c : Controller) (first second : OwnCommand) : Type 0 where
  pub sound : Sound d c
  pub down : d.state ≡ Down
  pub command : IsOwn first
  pub later : IsOwn second

resting : (l : Lane) (d : Driver) (c : Controller) (first second : OwnCommand)
    → Rises d c first second → Resting (host l d c.window) (state l c)
resting l d c first second h = let b : Both d c = h.sound.both in (b.each l).down (ap is_up h.down)

abbrev up_page : OwnCommand → OwnCommand → Lane → List ℕ → List ℕ
up_page first second Admin p = own-page 1 (own-page 0 (zeroed p) first) second
up_page first second Io p = zeroed p

up-stored : (d : Driver) (c : Controller) (first second : OwnCommand)
    → Rises d c first second → Stored c.window (up_window c.window first second) 24 (up_page first second)
up-stored d c first second h =
    let b = h.later in
    let z = zeros-stored c.window h.sound.both.window in
    let one = page-stored Admin c.window _ 24 _ first.completion 4096
    (page-stored Admin c.window (zeroed_all c.window) 24 _ first.command 0 z (omega (arith, h.command.command)))
    (omega (arith, h.command.completion)) in
    let two = page-stored Admin c.window _ 24 _ second.completion 4112 (page-stored Admin c.window
    (own_window 0 (zeroed_all c.window) first) 24 _ second.command 64 one (omega (arith, b.command)))
    (omega (arith, b.completion)) in
    record {
      size = two.size;
      slots = two.slots;
      pages = each-lane Admin
          (λ l. pages_of l (up_window c.window first second) ≡ up_page first second l (pages_of l c.window))
          (two.pages Admin) (two.pages Io);
    }

slots-up : (l : Lane) (d : Driver) (c : Controller) (first second : OwnCommand)
    → Rises d c first second → slots_in l (up_window c.window first second) 0 d.slots ≡ slots_in l c.window 0 d.slots
slots-up l d c first second h =
    let m = up-stored d c first second h in
    let b : Both d c = h.sound.both in
    slots-apart l c.window (up_window c.window first second) 0 d.slots
    (λ j x y. m.slots j (omega (arith, y, b.slots)) (ne_eqb j 24 (λ e. omega (arith, e, y, b.slots))))

same-quiet : (d d' : Host) (c c' : State) → Quiet d c → d' ≡ d → c' ≡ c → Quiet d' c'
same-quiet d d' c c' q e f = rw (e, f) q

-- each lane is quiet then
quiet : (k : ℕ) (d : Driver) (c : Controller) (first second : OwnCommand) → Rises d c first second → (l : Lane)
    → Quiet (host l (risen_driver d) (up_window c.window first second))
    (state l (risen_controller k (up_window c.window first second)))
quiet k d c first second h Admin =
    let a = h.command in
    let b = h.later in
    same-quiet _ _ _ _
    (own-quiet (own_host (fresh_host (host Admin d c.window)))
    (own_state (fresh_state (state Admin c)) first.command first.completion) second.command second.completion
    (own-quiet (fresh_host (host Admin d c.window)) (fresh_state (state Admin c)) first.command first.completion
    (fresh-quiet (host Admin d c.window) (state Admin c) (resting Admin d c first second h)) a.command a.completion
    a.phase) b.command b.completion b.phase)
    (λ i. record (own_host (own_host (fresh_host (host Admin d c.window)))) {
      failed = (ap is_failed (sym h.down)) i;
      slots = (slots-up Admin d c first second h) i;
    })
    (ap (λ p. record (state Admin (risen_controller k c.window)) { window = p })
    ((up-stored d c first second h).pages Admin))
quiet k d c first second h Io =
    same-quiet _ _ _ _ (fresh-quiet (host Io d c.window) (state Io c) (resting Io d c first second h))
    (λ i. record (fresh_host (host Io d c.window)) {
      failed = (ap is_failed (sym h.down)) i;
      slots = (slots-up Io d c first second h) i;
    })
    (ap (λ p. record (state Io (risen_controller k c.window)) { window = p }) ((up-stored d c first second h).pages Io))

-- a driver that has come up is sound in both lanes
pub risen-both : (k : ℕ) (d : Driver) (c : Controller) (first second : OwnCommand)
    → Rises d c first second → Both (risen_driver d) (risen_controller k (up_window c.window first second))
risen-both k d c first second h =
    let b : Both d c = h.sound.both in
    let q = quiet k d c first second h in
    let f = ap is_failed (sym h.down) in
    record {
      first = d.next;
      window = (up-stored d c first second h).size;
      slots = b.slots;
      each = each-lane Admin (λ l. Holds d.next (host l (risen_driver d) (up_window c.window first second))
          (state l (risen_controller k (up_window c.window first second))))
          (risen-holds b.first _ _ _ _ (b.each Admin) (resting Admin d c first second h) refl f refl
          (slots-up Admin d c first second h) (q Admin))
          (risen-holds b.first _ _ _ _ (b.each Io) (resting Io d c first second h) refl f refl
          (slots-up Io d c first second h) (q Io));
    }

-- coming up changes whether the mailbox is up, and resets its counts
pub risen-mail : (k : ℕ) (d : Driver) (c : Controller) (first second : OwnCommand) → Rises d c first second →
    mailbox (risen_driver d) (risen_controller k (up_window c.window first second))
    ≡ record (mailbox d c) { up = true; admin = recounted (mailbox d c).admin; io = recounted (mailbox d c).io }
risen-mail k d c first second h =
    let boxes : (l : Lane) → box (host l (risen_driver d) (up_window c.window first second))
    (state l (risen_controller k (up_window c.window first second))) ≡ recounted (box (host l d c.window) (state l c)) =
    λ l. quiet-box _ _ ((quiet k d c first second h) l)
    ∙ sym (ap recounted (resting-box _ _ (resting l d c first second h))) in
    let admin = boxes Admin in
    let io = boxes Io in
    let none = ap (map (fetched_by (held_by d c.window))) (sym (h.sound.down (ap is_up h.down)).fetched) in
    λ i. record (mailbox d c) { up = true; admin = admin i; io = io i; fetched = none i }
