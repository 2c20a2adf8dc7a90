-- For `LayersOver` and `Unique`: calls of a driver have the same effect on a subsystem over another medium: events that
-- execute nothing do not use it, and a driver that comes up has only admin commands executed.
use Rattle.nvme_fleet.proofs.Words.{
  ◌≡◌,
  ◌⊎◌,
  inl,
  inr,
  ℕ,
  ◌+◌,
  ◌==◌,
  length,
  Bool,
  true,
  false,
  List,
  [],
  ◌∷◌,
  Option,
  None,
  Some,
  Result,
  refl,
  sym,
  ap,
  subst,
  ◌∙◌,
  slice_get,
  if◌then◌else◌,
  nat_le,
  none-some,
  same_Some,
  RegEffect,
  Nothing,
  Enable,
  Disable,
  Off,
  AdminQueues,
  Queues,
  Scene,
  Registers,
  Written,
  Device,
  with_bytes,
  window_size,
  UpFault,
  Call,
  Stores,
  Writes,
  Reads,
  Turns,
  Sees,
  Loads,
  Calls,
  Driver,
  CreatesBoth,
  Rises,
  acq_high,
  acq_low,
  aqa,
  asq_high,
  asq_low,
  csts,
  enabling,
  is_ready,
  start_calls,
  started,
  IsMapped,
  both-mapped,
  Event,
  FetchedCommand,
  Seen,
  CommandComesTo,
  CommandComesToAs,
  CommandExecution,
  Controller,
  QueuePair,
  Reaction,
  after_posting,
  after_store,
  after_write32,
  has_read,
  open_pair,
  queues_of,
  reaction,
  taking_effect,
  with_admin_queues,
  over,
  ExecutesOne,
  ExecutesOver,
  ReactsAs,
  Subsystem,
  after_completion,
  after_power_cycle,
  controller_at,
  scene_of,
  unmarked,
  command_execution_over,
  scene_over,
  CallStep,
  events_of,
  after_call,
}
use Rattle.nvme_mailbox.proofs.Lists.{all-get, all-removed}
use Rattle.nvme_spec.specs.declared.registers.ControllerState.TheVariants.{Failed}
use Rattle.nvme_spec.specs.Registers as register
use Rattle.nvme_spec.proofs.RegisterLaws.{prepared-keeps}
use Rattle.nvme_machine.specs.declared.event.Event.TheVariants as event
use Rattle.nvme_machine.specs.declared.seen.Seen.TheVariants as given
use Rattle.nvme_machine.specs.Subsystems.{
  Completes,
  ExecutesAt,
  Run,
  Step,
  after_execution,
  marked_from,
  numbered,
  replaced,
  with_controller,
}
use Rattle.nvme_machine.proofs.Staying.{replaced-same}
use Rattle.nvme_refinement.proofs.PlainCalls.{IsPlain}
use Rattle.nvme_fleet.proofs.LinkCalls.{none-ran, one-ran, value-is}
use Rattle.nvme_refinement.proofs.AdminTurns.{
  AreAdmin,
  IsAdmin,
  change-admin,
  enabled-admin,
  fetch-admin,
  store-admin,
  write-admin,
  kept-admin,
}

-- Events that execute nothing.

abbrev pub IsQuiet : Event → Type 0
IsQuiet (event.Execute k i) = ⊥
IsQuiet e = Unit {0}

abbrev pub AreQuiet : List Event → Type 0
AreQuiet [] = Unit {0}
AreQuiet (e ∷ es) = IsQuiet e × AreQuiet es

react-over : (o : Option Controller) (p q : Subsystem) (k : ℕ) (f : Controller → Reaction) (x : Seen) (m : Device)
    → ReactsAs o p k f x q → ReactsAs o (over m p) k f x (over m q)
unfolding with_controller
react-over None p q k f x m h = (h.0, ap (over m) h.1)
react-over (Some c) p q k f x m h = (h.0, ap (over m) h.1)

pub quiet-over : (tells : Bool) (e : Event) (p q : Subsystem) (x : Seen) (m : Device)
    → IsQuiet e → Step tells p e x q → Step tells (over m p) e x (over m q)
unfolding controller_at after_power_cycle
quiet-over tells (event.Store k address bytes) p q x m quiet h = react-over (controller_at p k) p q k _ x m h
quiet-over tells (event.Write32 k offset v) p q x m quiet h = react-over (controller_at p k) p q k _ x m h
quiet-over tells (event.Read32 k offset) p q x m quiet h = react-over (controller_at p k) p q k _ x m h
quiet-over tells (event.Fetch k n) p q x m quiet h = react-over (controller_at p k) p q k _ x m h
quiet-over tells (event.Execute k i) p q x m quiet h = absurd quiet
quiet-over tells event.PowerCycle p q x m quiet h = (h.0, ap (over m) h.1)

pub quiet-run : (tells : Bool) (events : List Event) (given : List Seen) (p q : Subsystem) (m : Device)
    → AreQuiet events → Run tells p events given q → Run tells (over m p) events given (over m q)
quiet-run tells [] [] p q m quiet run = ap (over m) run
quiet-run tells (e ∷ es) (x ∷ xs) p q m quiet (mid, step, rest) =
    (over m mid, quiet-over tells e p mid x m quiet.0 step, quiet-run tells es xs mid q m quiet.1 rest)
quiet-run tells es xs p q m quiet run = absurd run

-- What is known of a controller.

abbrev At : (Controller → Type 0) → ℕ → Subsystem → Type 0
At P k s = (c : Controller) → controller_at s k ≡ Some c → P c

react-at : (P Q : Controller → Type 0) (o : Option Controller) (p q : Subsystem) (k : ℕ) (f : Controller → Reaction)
    (x : Seen) → ((c : Controller) → P c → Q (f c).controller) → controller_at p k ≡ o → ReactsAs o p k f x q
    → At P k p → At Q k q
unfolding controller_at with_controller
react-at P Q None p q k f x moves at h known c there =
    absurd (none-some _ (sym at ∙ ap (λ s. controller_at s k) (sym h.1) ∙ there))
react-at P Q (Some b) p q k f x moves at h known c there =
    subst Q (same_Some _ _
    (sym (replaced-same p.controllers k b (f b).controller at) ∙ ap (λ s. controller_at s k) (sym h.1) ∙ there))
    (moves b (known b at))

call-at : (P Q : Controller → Type 0) (tells : Bool) (one : Call) (k : ℕ) (p q : Subsystem) → IsPlain (one ∷ [])
    → ((c : Controller) → P c → Q (after_call one c)) → CallStep tells k p one q → At P k p → At Q k q
call-at P Q tells (Stores address bytes) k p q plain moves h known =
    let one = one-ran tells p q (event.Store k address (record { ref_ptr = (0, 0); now = bytes })) h.given h.run in
    react-at P Q (controller_at p k) p q k _ one.gives moves refl one.step known
call-at P Q tells (Writes offset v) k p q plain moves h known = let one =
    one-ran tells p q (event.Write32 k offset v) h.given h.run in
    react-at P Q (controller_at p k) p q k _ one.gives moves refl one.step known
call-at P Q tells (Reads offset v) k p q plain moves h known =
    let one = one-ran tells p q (event.Read32 k offset) h.given h.run in
    react-at P Q (controller_at p k) p q k _ one.gives moves refl one.step known
call-at P Q tells Turns k p q plain moves h known = absurd plain
call-at P Q tells (Sees lane head expected seen) k p q plain moves h known = λ c there.
    moves c (known c (ap (λ s. controller_at s k) (sym (none-ran tells p q h.given h.run)) ∙ there))
call-at P Q tells (Loads at part) k p q plain moves h known = λ c there.
    moves c (known c (ap (λ s. controller_at s k) (sym (none-ran tells p q h.given h.run)) ∙ there))

-- A start leaves no fetched I/O command, or a controller that is not ready.

abbrev IsOff : Controller → Type 0
IsOff c = AreAdmin c ⊎ (register.is_enabled c.registers.cc ≡ false)

abbrev IsOn : Controller → Type 0
IsOn c = AreAdmin c ⊎ (c.registers.state ≡ Failed)

enabled-registers : (o : Option AdminQueues) (c : Controller) → (with_admin_queues o c).registers ≡ c.registers
enabled-registers None c = refl
enabled-registers (Some q) c = refl

effect-registers : (effect : RegEffect) (c : Controller) → (taking_effect effect c).registers ≡ c.registers
unfolding taking_effect
effect-registers Enable c = enabled-registers (register.admin_queues c.registers) c
effect-registers effect c = refl

written-cc : (r : Registers) (offset v : ℕ)
    → (offset == 0x14) ≡ false → (register.after_write r offset v).registers.cc ≡ r.cc
unfolding register.after_write
written-cc r offset v other =
    ap (λ (b : Bool). (if b then register.configured r v else register.written (register.prepared r offset v)
    (if register.is_ready r.state then register.doorbell offset v else Nothing)).registers.cc) other
    ∙ (prepared-keeps r offset v).0

store-off : (address : ℕ) (bytes : List ℕ) (c : Controller) → IsOff c → IsOff (after_store address bytes c).controller
unfolding after_store
store-off address bytes c (inl admin) = inl (store-admin address bytes c admin)
store-off address bytes c (inr off) =
    inr (ap (λ (r : Registers). register.is_enabled r.cc) (by (nat_le (address + length bytes) window_size)) ∙ off)
  where
    by : (b : Bool) → (if b then reaction (record c { window = with_bytes c.window address bytes }) given.Stored
        else reaction c given.Outside).controller.registers ≡ c.registers
    by true = refl
    by false = refl

write-off : (offset v : ℕ) (c : Controller) → (offset == 0x14) ≡ false → IsOff c → IsOff (after_write32 offset v c)
unfolding after_write32
write-off offset v c other (inl admin) = inl (write-admin offset v c admin)
write-off offset v c other (inr off) =
    let w : Written = register.after_write c.registers offset v in
    inr
    (ap (λ (r : Registers). register.is_enabled r.cc) (effect-registers w.effect (record c { registers = w.registers }))
    ∙ ap register.is_enabled (written-cc c.registers offset v other) ∙ off)

-- a controller after a write
abbrev taken : Written → Controller → Controller
taken w c = taking_effect w.effect (record c { registers = w.registers })

switched-off : (c : Controller) → IsOff (after_write32 0x14 0 c)
unfolding after_write32 register.after_write register.configured taking_effect
switched-off c = by (register.is_enabled c.registers.cc)
  where
    by : (b : Bool) → IsOff (taken (if b then register.written (record c.registers { cc = 0; state = Off }) Disable
        else register.written (record c.registers { cc = 0 }) Nothing) c)
    by true = inl tt
    by false = inr refl

switched-on : (c : Controller) → IsOff c → IsOn (after_write32 0x14 enabling c)
unfolding after_write32 register.after_write register.configured taking_effect
switched-on c (inl admin) = inl (write-admin 0x14 enabling c admin)
switched-on c (inr off) =
    by (register.is_enabled c.registers.cc) (register.can_enable (record c.registers { cc = enabling })) off
  where
    by : (b e : Bool) → b ≡ false
        → IsOn (taken (if b then register.notified c.registers enabling
        else (if e then register.written (record c.registers { cc = enabling; state = register.ready_state enabling })
        Enable else register.written (record c.registers { cc = enabling; state = Failed }) Nothing)) c)
    by true e off = absurd (cc (off))
    by false true off = inl
        (enabled-admin
        (register.admin_queues (record c.registers { cc = enabling; state = register.ready_state enabling }))
        (record c { registers = record c.registers { cc = enabling; state = register.ready_state enabling } }))
    by false false off = inr refl

read-on : (o : Option Controller) (k v : ℕ) (p q : Subsystem) (x : Seen) (got : List Seen)
    → controller_at p k ≡ o → got ≡ x ∷ [] → got ≡ given.Value v ∷ [] → ReactsAs o p k (has_read csts) x q → At IsOn k p
    → At AreAdmin k p ⊎ (is_ready v ≡ false)
unfolding register.value_at
read-on None k v p q x got at a b h known = absurd (cc (a, b, h.0))
read-on (Some c) k v p q x got at a b h known = by (known c at)
  where
    by : IsOn c → At AreAdmin k p ⊎ (is_ready v ≡ false)
    by (inl admin) = inl (λ d there. subst AreAdmin (same_Some _ _ (sym at ∙ there)) admin)
    by (inr failed) =
        inr (ap is_ready (value-is x v (register.value_at c.registers csts) got a b h.0 ∙ ap register.status_of failed))

pub start-leaves : (tells : Bool) (k value : ℕ) (p on : Subsystem) → Calls (CallStep tells k) p (start_calls value) on
    → At AreAdmin k on ⊎ (is_ready value ≡ false)
start-leaves tells k value p on (
  s1,
  h1,
  (
    s2,
    h2,
    (s3, h3, (s4, h4, (s5, h5, (s6, h6, (s7, h7, (s8, h8, (s9, h9, (s10, h10, (s11, h11, (s12, h12, last)))))))))),
  ),
) =
    let a1 = call-at (λ c. Unit {0}) IsOff tells _ k p s1 tt (λ c t. switched-off c) h1 (λ c at. tt) in
    let a5 = call-at IsOff IsOff tells _ k s4 s5 tt (store-off _ _) h5
    (call-at IsOff IsOff tells _ k s3 s4 tt (store-off _ _) h4 (call-at IsOff IsOff tells _ k s2 s3 tt
    (store-off _ _) h3 (call-at IsOff IsOff tells _ k s1 s2 tt (store-off _ _) h2 a1))) in
    let a7 = call-at IsOff IsOff tells _ k s6 s7 tt (λ c t. write-off asq_low _ c refl t) h7
    (call-at IsOff IsOff tells _ k s5 s6 tt (λ c t. write-off aqa _ c refl t) h6 a5) in
    let a9 = call-at IsOff IsOff tells _ k s8 s9 tt (λ c t. write-off acq_low _ c refl t) h9
    (call-at IsOff IsOff tells _ k s7 s8 tt (λ c t. write-off asq_high _ c refl t) h8 a7) in
    let a11 = call-at IsOff IsOn tells _ k s10 s11 tt switched-on h11
    (call-at IsOff IsOff tells _ k s9 s10 tt (λ c t. write-off acq_high _ c refl t) h10 a9) in
    let one = one-ran tells s11 s12 (event.Read32 k csts) h12.given h12.run in
    elim (read-on (controller_at s11 k) k value s11 s12 one.gives h12.given refl one.alone h12.answers one.step a11) [
      | inl admin ↦ inl (λ c there. call-at AreAdmin AreAdmin tells (Reads csts value) k s11 s12 tt
          (λ d is. is) h12 admin c (ap (λ s. controller_at s k) (sym last) ∙ there))
      | inr not ↦ inr not
    ]

-- Turns execute only admin commands.

answer-over : (queues : Queues) (k : ℕ) (t : FetchedCommand) (s : Scene) (a : CommandExecution) (m : Device) → IsAdmin t
    → CommandComesTo true queues k t s a → CommandComesTo true queues k t (scene_over m s) (command_execution_over m a)
unfolding CommandComesTo
answer-over queues k t s a m is h =
    let e = subst (λ b. CommandComesToAs b true queues k t s a) is h in
    subst (λ b. CommandComesToAs b true queues k t (scene_over m s) (command_execution_over m a)) (sym is)
    (ap (command_execution_over m) e)

completes-over : (p q : Subsystem) (k : ℕ) (c : Controller) (t : FetchedCommand) (pair : QueuePair) (x : Seen)
    (m : Device) → IsAdmin t → Completes true p k c 0 t pair x q → Completes true (over m p) k c 0 t pair x (over m q)
unfolding after_execution after_completion
completes-over p q k c t pair x m is h = record {
  execution = command_execution_over m h.execution;
  comes_to = answer-over (queues_of c) k t (scene_of p c) h.execution m is h.comes_to;
  gives = h.gives;
  leaves = ap (over m) h.leaves ∙ same h.execution;
}
  where
    same : (a : CommandExecution) → over m (after_execution p k c 0 t pair a) ≡ after_execution (over m p) k c 0 t pair
        (command_execution_over m a)
    same a = refl

completes-admin : (p q : Subsystem) (k : ℕ) (c : Controller) (t : FetchedCommand) (pair : QueuePair) (x : Seen)
    → IsAdmin t → AreAdmin c → controller_at p k ≡ Some c → Completes true p k c 0 t pair x q → At AreAdmin k q
unfolding after_execution controller_at CommandComesTo after_completion after_posting
completes-admin p q k c t pair x is all at h d there =
    let a : CommandExecution = h.execution in
    let none = ap (λ (y : CommandExecution). y.outcome.marks)
    (subst (λ b. CommandComesToAs b true (queues_of c) k t (scene_of p c) a) is h.comes_to) in
    let cs : q.controllers ≡ replaced p.controllers k (after_completion 0 t pair a c) =
    ap (λ (s : Subsystem). s.controllers) h.leaves
    ∙ ap (λ w. marked_from a.left.world w 1 (replaced p.controllers k (after_completion 0 t pair a c))) none
    ∙ unmarked a.left.world 1 (replaced p.controllers k (after_completion 0 t pair a c)) in
    subst AreAdmin (same_Some _ _ (sym (replaced-same p.controllers k c (after_completion 0 t pair a c) at)
    ∙ ap (λ l. numbered l k) (sym cs) ∙ there))
    (change-admin a.change (after_posting 0 t pair a.outcome.status a.outcome.dw0 (record c { window = a.left.window }))
    (all-removed IsAdmin c.fetched 0 all))

stays-at : (p q : Subsystem) (k : ℕ) → q ≡ p → At AreAdmin k p → At AreAdmin k q
stays-at p q k e all c there = all c (ap (λ s. controller_at s k) (sym e) ∙ there)

pair-over : (o : Option QueuePair) (p q : Subsystem) (k : ℕ) (c : Controller) (t : FetchedCommand) (x : Seen)
    (m : Device) → IsAdmin t → controller_at p k ≡ Some c → At AreAdmin k p → ExecutesOver o true p k c 0 t x q
    → ExecutesOver o true (over m p) k c 0 t x (over m q) × At AreAdmin k q
pair-over None p q k c t x m is at all h = ((h.0, ap (over m) h.1), stays-at p q k h.1 all)
pair-over (Some pair) p q k c t x m is at all h =
    (completes-over p q k c t pair x m is h, completes-admin p q k c t pair x is (all c at) at h)

one-over : (o : Option FetchedCommand) (p q : Subsystem) (k : ℕ) (c : Controller) (x : Seen) (m : Device)
    → slice_get c.fetched 0 ≡ o → controller_at p k ≡ Some c → At AreAdmin k p → ExecutesOne o true p k c 0 x q
    → ExecutesOne o true (over m p) k c 0 x (over m q) × At AreAdmin k q
one-over None p q k c x m found at all h = ((h.0, ap (over m) h.1), stays-at p q k h.1 all)
one-over (Some t) p q k c x m found at all h =
    pair-over (open_pair c t) p q k c t x m (all-get IsAdmin c.fetched 0 t found (all c at)) at all h

executes-over : (o : Option Controller) (p q : Subsystem) (k : ℕ) (x : Seen) (m : Device)
    → controller_at p k ≡ o → At AreAdmin k p → ExecutesAt o true p k 0 x q
    → ExecutesAt o true (over m p) k 0 x (over m q) × At AreAdmin k q
executes-over None p q k x m at all h = ((h.0, ap (over m) h.1), stays-at p q k h.1 all)
executes-over (Some c) p q k x m at all h = one-over (slice_get c.fetched 0) p q k c x m refl at all h

turn-run : (k : ℕ) (given : List Seen) (p q : Subsystem) (m : Device)
    → At AreAdmin k p → Run true p (event.Fetch k 0 ∷ event.Execute k 0 ∷ []) given q
    → Run true (over m p) (event.Fetch k 0 ∷ event.Execute k 0 ∷ []) given (over m q) × At AreAdmin k q
unfolding controller_at
turn-run k [] p q m all run = absurd run
turn-run k (x ∷ []) p q m all run = absurd run.2
turn-run k (x ∷ y ∷ []) p q m all (mid, fetch, (left, step, last)) =
    let there = react-at AreAdmin AreAdmin (controller_at p k) p mid k _ x (λ c is. fetch-admin c is) refl fetch all in
    let e = executes-over (controller_at mid k) mid left k y m refl there step in (
      (over m mid, quiet-over true (event.Fetch k 0) p mid x m tt fetch, (over m left, e.0, ap (over m) last)),
      stays-at left q k last e.1,
    )
turn-run k (x ∷ y ∷ z ∷ given) p q m all (mid, fetch, (left, step, last)) = absurd last

-- Calls of a driver over the other medium.

record IsCallOver (k : ℕ) (call : Call) (p q : Subsystem) (m : Device) : Type 0 where
  step : CallStep true k (over m p) call (over m q)
  admin : At AreAdmin k q

call-over : (k : ℕ) (m : Device) (call : Call) (p q : Subsystem) → At AreAdmin k p → CallStep true k p call q
    → IsCallOver k call p q m
unfolding controller_at
call-over k m Turns p q all h =
    let r = turn-run k h.given p q m all h.run in
    record { step = record { given = h.given; run = r.0; answers = h.answers }; admin = r.1 }
call-over k m (Sees lane head expected seen) p q all h = record {
  step = record { given = h.given; run = quiet-run true [] h.given p q m tt h.run; answers = h.answers };
  admin = call-at AreAdmin AreAdmin true (Sees lane head expected seen) k p q tt (λ c is. is) h all;
}
call-over k m (Loads at part) p q all h = record {
  step = record { given = h.given; run = quiet-run true [] h.given p q m tt h.run; answers = h.answers };
  admin = call-at AreAdmin AreAdmin true (Loads at part) k p q tt (λ c is. is) h all;
}
call-over k m one p q all h = record {
  step = record {
    given = h.given;
    run = quiet-run true (events_of k one) h.given p q m (tt, tt) h.run;
    answers = h.answers;
  };
  admin = call-at AreAdmin AreAdmin true one k p q tt (kept-admin one) h all;
}

plain-calls : (k : ℕ) (m : Device) (calls : List Call) (p q : Subsystem)
    → IsPlain calls → Calls (CallStep true k) p calls q → Calls (CallStep true k) (over m p) calls (over m q)
unfolding controller_at
plain-calls k m [] p q plain h = ap (over m) h
plain-calls k m (Turns ∷ calls) p q plain h = absurd plain
plain-calls k m (Sees lane head expected seen ∷ calls) p q plain (mid, one, rest) = (
  over m mid,
  record { given = one.given; run = quiet-run true [] one.given p mid m tt one.run; answers = one.answers },
  plain-calls k m calls mid q plain rest,
)
plain-calls k m (Loads at part ∷ calls) p q plain (mid, one, rest) = (
  over m mid,
  record { given = one.given; run = quiet-run true [] one.given p mid m tt one.run; answers = one.answers },
  plain-calls k m calls mid q plain rest,
)
plain-calls k m (call ∷ calls) p q plain (mid, one, rest) = (
  over m mid,
  record {
    given = one.given;
    run = quiet-run true (events_of k call) one.given p mid m (tt, tt) one.run;
    answers = one.answers;
  },
  plain-calls k m calls mid q plain rest,
)

both-over : (ready : Bool) (k : ℕ) (m : Device) (d d' : Driver) (p q : Subsystem) (result : Result (Unit {0}) UpFault)
    → At AreAdmin k p ⊎ (ready ≡ false) → CreatesBoth (CallStep true k) ready d p result d' q
    → CreatesBoth (CallStep true k) ready d (over m p) result d' (over m q)
both-over ready k m d d' p q result (inl all) h =
    let map : IsMapped (over m) (CallStep true k) (CallStep true k) (At AreAdmin k) =
    record { call = λ call r s there step. (let o = call-over k m call r s there step in (o.step, o.admin)) } in
    (both-mapped (over m) (CallStep true k) (CallStep true k) (At AreAdmin k) map ready d d' p q result all h).0
both-over true k m d d' p q result (inr not) h = absurd (cc (not))
both-over false k m d d' p q result (inr not) h = (h.0, h.1, ap (over m) h.2)

pub rises-over : (k : ℕ) (m : Device) (d d' : Driver) (p q : Subsystem) (result : Result (Unit {0}) UpFault)
    → Rises (CallStep true k) d p result d' q → Rises (CallStep true k) d (over m p) result d' (over m q)
unfolding Rises
rises-over k m d d' p q result (value, on, starts, both) = (
  value,
  over m on,
  plain-calls k m (start_calls value) p on tt starts,
  both-over (is_ready value) k m (started d) d' on q result (start-leaves true k value p on starts) both,
)
