-- For the step of each event: the counts of each lane (queue pair) of a controller that its driver has brought up.
use Rattle.nvme_refinement.proofs.Words.{
  ◌≡◌,
  ℕ,
  ◌+◌,
  ◌-◌,
  ◌*◌,
  ◌%◌,
  ◌<◌,
  ◌≤◌,
  List,
  take,
  drop,
  Some,
  refl,
  ap,
  sym,
  ◌∙◌,
  arith,
  slice_range,
  slice_set,
  take-take,
  drop-drop,
  drop-take,
  AllByRecursion,
  Lane,
  Admin,
  Io,
  queue_id,
  submission_queue,
  Controller,
  submission_at,
  completion_at,
  command_at,
  DeviceEnds,
  other,
  pages_of,
  commands_in,
  state,
  IsOfLane,
  IsPaired,
  submission_as,
  completion_as,
  common_steps,
}

-- the counts of one lane
abbrev pub counts : Lane → Controller → DeviceEnds
counts lane c = record {
  fetched = (state lane c).fetched;
  waiting = (state lane c).waiting;
  posted = (state lane c).posted;
  unread = (state lane c).unread;
}

pub submission-is : (lane : Lane) (c : Controller)
    → IsPaired c → submission_at c (queue_id lane) ≡ Some (submission_as lane (counts lane c))
submission-is lane c p = grind (arith, common_steps, p.submission)

pub completion-is : (lane : Lane) (c : Controller)
    → IsPaired c → completion_at c (queue_id lane) ≡ Some (completion_as lane (counts lane c))
completion-is lane c p = grind (arith, common_steps, p.completion)

-- its queues of a lane are unchanged
pub same-submission : (lane : Lane) (c : Controller)
    → IsPaired c → c.submission ≡ slice_set c.submission (queue_id lane) (Some (submission_as lane (counts lane c)))
same-submission lane c p = grind (arith, common_steps, p.submission)

pub same-completion : (lane : Lane) (c : Controller)
    → IsPaired c → c.completion ≡ slice_set c.completion (queue_id lane) (Some (completion_as lane (counts lane c)))
same-completion lane c p = grind (arith, common_steps, p.completion)

-- a controller whose queues of a lane have other counts
pub record Counted (lane : Lane) (c c' : Controller) (q : DeviceEnds) : Type 0 where
  pub paired : IsPaired c'
  pub here : state lane c' ≡
      record (state lane c) {
        window = pages_of lane c'.window;
        fetched = q.fetched;
        waiting = q.waiting;
        posted = q.posted;
        unread = q.unread;
        taken = commands_in lane c'.fetched;
      }
  pub there : state (other lane) c' ≡ record (state (other lane) c) {
    window = pages_of (other lane) c'.window;
    taken = commands_in (other lane) c'.fetched;
  }

pub counted : (lane : Lane) (c c' : Controller) (q : DeviceEnds)
    → IsPaired c → c'.submission ≡ slice_set c.submission (queue_id lane) (Some (submission_as lane q))
    → c'.completion ≡ slice_set c.completion (queue_id lane) (Some (completion_as lane q))
    → AllByRecursion IsOfLane c'.fetched → c'.registers ≡ c.registers → Counted lane c c' q
counted Admin c c' q p s x f r = record {
  paired = record {
    admin = q;
    io = p.io;
    submission = rw (s, p.submission) refl;
    completion = rw (x, p.completion) refl;
    fetched = f;
    ready = rw r p.ready;
    enabled = rw r p.enabled;
  };
  here = rw (s, x, p.submission, p.completion) refl;
  there = rw (s, x, p.submission, p.completion) refl;
}
counted Io c c' q p s x f r = record {
  paired = record {
    admin = p.admin;
    io = q;
    submission = rw (s, p.submission) refl;
    completion = rw (x, p.completion) refl;
    fetched = f;
    ready = rw r p.ready;
    enabled = rw r p.enabled;
  };
  here = rw (s, x, p.submission, p.completion) refl;
  there = rw (s, x, p.submission, p.completion) refl;
}

-- a part of a lane's pages is at its place in the window
pub part-in : (w : List ℕ) (b at n : ℕ)
    → at + n ≤ 8192 → take n (drop at (take 8192 (drop b w))) ≡ take n (drop (b + at) w)
part-in w b at n h =
    let e : 8192 ≡ at + (8192 - at) = omega (arith, h) in
    ap (λ m. take n (drop at (take m (drop b w)))) e
    ∙ ap (take n) (drop-take at (8192 - at) (drop b w))
    ∙ take-take n (8192 - at) (drop at (drop b w)) (omega (arith, h))
    ∙ ap (take n) (drop-drop at b w)

pub range-is : (w : List ℕ) (at n : ℕ) → slice_range w at (at + n) ≡ take n (drop at w)
range-is w at n = ap (λ m. take m (drop at w)) (omega arith)

pub entry-in : (lane : Lane) (w : List ℕ) (n : ℕ) → n < 8 →
    slice_range w (submission_queue lane + 64 * (n % 8)) (submission_queue lane + 64 * (n % 8) + 64)
    ≡ command_at (pages_of lane w) n
unfolding pages_of
entry-in lane w n h =
    let e : n % 8 ≡ n = omega (arith, h) in
    range-is w (submission_queue lane + 64 * (n % 8)) 64 ∙ ap (λ m. take 64 (drop (submission_queue lane + 64 * m) w)) e
    ∙ sym (part-in w (submission_queue lane) (64 * n) 64 (omega (arith, h)))
