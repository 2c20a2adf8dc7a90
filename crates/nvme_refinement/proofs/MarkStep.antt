-- For the law on events and `nvme_fleet`: marks reach the mailbox if they reach its controller.
use Rattle.nvme_refinement.proofs.Words.{
  ◌≡◌,
  ℕ,
  suc,
  ◌==◌,
  ◌&&◌,
  not,
  Bool,
  true,
  false,
  List,
  [],
  ◌∷◌,
  map,
  Some,
  refl,
  sym,
  ap,
  ◌∙◌,
  slice_get,
  if◌then◌else◌,
  AllByRecursion,
  nsid,
  Lane,
  Admin,
  Io,
  Driver,
  FetchedCommand,
  Controller,
  lane_of,
  is_io,
  item_in,
  box,
  Both,
  commands_in,
  host,
  state,
  held_by,
  fetched_by,
  Sound,
  IsOfLane,
  mailbox,
  lane_of_queue,
  MarksAreSteps,
  common_steps,
  arith,
  subst,
}
use Rattle.nvme_machine.specs.Controllers as machine
use Rattle.nvme_mailbox.specs.Mailboxes as mail
use Rattle.nvme_refinement.proofs.OneLane.{same-holds}
use Rattle.nvme_refinement.proofs.PostStep.{item_at, known, seen, lane-of-item}

abbrev marked : ℕ → FetchedCommand → FetchedCommand
marked n t = machine.with_mark n t

-- a mark leaves all else of a command
same-but : (n : ℕ) (t : FetchedCommand) → marked n t ≡ record t { marked = (marked n t).marked }
same-but n t = elim (machine.names n t) as (λ b. (if b then record t { marked = true } else t) ≡ record t {
  marked = (if b then record t { marked = true } else t).marked;
}) [
  | true ↦ refl
  | false ↦ refl
]

lanes-same : (lane : Lane) (n : ℕ) (ts : List FetchedCommand)
    → commands_in lane (map (marked n) ts) ≡ commands_in lane ts
lanes-same lane n [] = refl
lanes-same lane n (t ∷ ts) = rw (same-but n t, lanes-same lane n ts) refl

state-same : (lane : Lane) (n : ℕ) (c : Controller) → state lane (machine.with_marks n c) ≡ state lane c
state-same lane n c = ap (λ ts. record (state lane c) { taken = ts }) (lanes-same lane n c.fetched)

all-marked : (n : ℕ) (ts : List FetchedCommand)
    → AllByRecursion IsOfLane ts → AllByRecursion IsOfLane (map (marked n) ts)
all-marked n [] a = tt
all-marked n (t ∷ ts) a = (subst IsOfLane (sym (same-but n t)) a.0, all-marked n ts a.1)

-- the request of a marked command is marked
record Reaches (d : Driver) (c : Controller) (t : FetchedCommand) : Type 0 where
  lane : lane_of (item_at d c t).item ≡ lane_of_queue t.queue
  space : (item_at d c t).item.asked.command.nsid ≡ nsid t.entry

reaches : (d : Driver) (c : Controller) (i : ℕ) (t : FetchedCommand) → Sound d c → slice_get c.fetched i ≡ Some t
    → Reaches d c t
unfolding item_in
reaches d c i t s g =
    record {
      lane = lane-of-item (lane_of_queue t.queue) d c t refl (seen (lane_of_queue t.queue) d c i t (known d c i t s g));
      space = refl;
    }

names-same : (d : Driver) (c : Controller) (n : ℕ) (t : FetchedCommand)
    → Reaches d c t → mail.names n (item_at d c t) ≡ machine.names n t
names-same d c n t r =
    let io : is_io (lane_of_queue t.queue) ≡ not (t.queue == 0) = grind (arith, common_steps) in
    ap (λ l. is_io l && ((item_at d c t).item.asked.command.nsid == n)) r.lane
    ∙ ap (λ m. is_io (lane_of_queue t.queue) && (m == n)) r.space
    ∙ ap (λ b. b && (nsid t.entry == n)) io

item-marked : (d : Driver) (c : Controller) (n : ℕ) (t : FetchedCommand)
    → Reaches d c t → fetched_by (held_by d c.window) (marked n t) ≡ mail.with_mark n (item_at d c t)
item-marked d c n t r =
    by (machine.names n t)
    ∙ ap (λ b. if b then record (item_at d c t) { marked = true } else item_at d c t) (sym (names-same d c n t r))
  where
    by : (b : Bool) → fetched_by (held_by d c.window) (if b then record t { marked = true } else t)
        ≡ (if b then record (item_at d c t) { marked = true } else item_at d c t)
    by true = refl
    by false = refl

items-marked : (d : Driver) (c : Controller) (n : ℕ) (ts : List FetchedCommand)
    → ((i : ℕ) (t : FetchedCommand) → slice_get ts i ≡ Some t → Reaches d c t)
    → map (fetched_by (held_by d c.window)) (map (marked n) ts)
    ≡ map (mail.with_mark n) (map (fetched_by (held_by d c.window)) ts)
items-marked d c n [] h = refl
items-marked d c n (t ∷ ts) h =
    λ j. item-marked d c n t (h 0 t refl) j ∷ items-marked d c n ts (λ i u g. h (suc i) u g) j

pub marks_are_steps : MarksAreSteps
marks_are_steps d c n s =
    let b : Both d c = s.both in
    let both : Both d (machine.with_marks n c) = record {
      first = b.first;
      window = b.window;
      slots = b.slots;
      each = λ l. same-holds b.first _ _ _ _ (b.each l) refl (state-same l n c);
    } in
    let e = items-marked d c n c.fetched (λ i t g. reaches d c i t s g) in
    let o = state-same Io n c in
    record {
      sound = record {
        both = both;
        fits = s.fits;
        sizes = s.sizes;
        up = λ u. let p = s.up u in record {
          admin = p.admin;
          io = p.io;
          submission = p.submission;
          completion = p.completion;
          fetched = all-marked n c.fetched p.fetched;
          ready = p.ready;
          enabled = p.enabled;
        };
        down = λ u. let o = s.down u in record {
          submission = o.submission;
          completion = o.completion;
          fetched = ap (map (marked n)) o.fetched;
          off = o.off;
          disabled = o.disabled;
        };
      };
      mail = λ j. record (mailbox d c) {
        admin = box (host Admin d c.window) ((state-same Admin n c) j);
        io = box (host Io d c.window) (o j);
        fetched = e j;
      };
    }
