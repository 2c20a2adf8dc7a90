-- For `TurnStep` and `RiseStep`: a controller that is off, after a driver has set its registers and enabled it.
use Rattle.nvme_refinement.proofs.Words.{
  ◌≡◌,
  ℕ,
  ◌+◌,
  ◌^◌,
  ◌<◌,
  ◌≤◌,
  Bool,
  false,
  List,
  [],
  ◌∷◌,
  ◌++◌,
  length,
  Option,
  None,
  Some,
  refl,
  ap,
  ◌∙◌,
  arith,
  le-leb,
  with_bytes,
  Off,
  Ready,
  is_enabled,
  after_write,
  prepared,
  configured,
  can_enable,
  value_at,
  with_low,
  with_high,
  Admin,
  Io,
  Call,
  Stores,
  Writes,
  Reads,
  Turns,
  Sees,
  Loads,
  Calls,
  submission_queue,
  completion_queue,
  cc,
  csts,
  aqa,
  asq_low,
  asq_high,
  acq_low,
  acq_high,
  admin_sizes,
  enabling,
  zero_page,
  Controller,
  SubmissionQueue,
  CompletionQueue,
  after_store,
  after_write32,
  taking_effect,
  no_submission_queues,
  no_completion_queues,
  Setting,
  zeros,
  IsOff,
  store-id,
  write-id,
  after_call,
  after_calls,
  LinkStep,
  with_controller,
}
use Rattle.nvme_refinement.proofs.PlainCalls.{IsPlain, plain-first}
use Rattle.nvme_refinement.proofs.Ups.{zeros-are}

call-is : (tells : Bool) (call : Call) (old new : Setting) → IsPlain (call ∷ []) → LinkStep tells old call new
    → new ≡ with_controller old (after_call call old.controller)
call-is tells (Reads offset v) old new p h = h.1
call-is tells Turns old new p h = absurd p
call-is tells (Sees lane head expected seen) old new p h = h.1
call-is tells (Loads at part) old new p h = h.1
call-is tells call old new p h = h

pub calls-are : (tells : Bool) (calls : List Call) (old new : Setting)
    → IsPlain calls → Calls (LinkStep tells) old calls new
    → new ≡ with_controller old (after_calls calls old.controller)
calls-are tells [] old new p h = h
calls-are tells (call ∷ calls) old new p (mid, step, rest) =
    let two = plain-first call calls p in
    calls-are tells calls mid new two.1 rest
    ∙ ap (λ (s : Setting). with_controller s (after_calls calls s.controller)) (call-is tells call old mid two.0 step)

-- the controller stays the same one
call-id : (call : Call) (c : Controller) → (after_call call c).cntlid ≡ c.cntlid
call-id (Stores address bytes) c = store-id address bytes c
call-id (Writes offset v) c = write-id offset v c
call-id call c = refl

pub calls-id : (calls : List Call) (c : Controller) → (after_calls calls c).cntlid ≡ c.cntlid
calls-id [] c = refl
calls-id (call ∷ calls) c = calls-id calls (after_call call c) ∙ call-id call c

-- the value read after some calls
pub value-is : (tells : Bool) (calls : List Call) (offset v : ℕ) (old new : Setting) → IsPlain calls
    → Calls (LinkStep tells) old (calls ++ Reads offset v ∷ []) new
    → v ≡ value_at (after_calls calls old.controller).registers offset
value-is tells [] offset v old new p (mid, step, rest) = step.0
value-is tells (call ∷ calls) offset v old new p (mid, step, rest) =
    let two = plain-first call calls p in
    value-is tells calls offset v mid new two.1 rest
    ∙ ap (λ (s : Setting). value_at (after_calls calls s.controller).registers offset)
    (call-is tells call old mid two.0 step)

-- A controller that is off, by its registers and its window.
abbrev off_with : ℕ → ℕ → ℕ → ℕ → ℕ → List ℕ → Controller
off_with k configuration sizes asq acq w = record {
  cntlid = k;
  registers = record { cc = configuration; state = Off; aqa = sizes; asq = asq; acq = acq };
  submission = no_submission_queues;
  completion = no_completion_queues;
  fetched = [];
  window = w;
}

-- An enabled controller with the admin queues of a driver, which have counted n commands, and these I/O queues.
abbrev pub running : ℕ → ℕ → ℕ → Option SubmissionQueue → Option CompletionQueue → ℕ → List ℕ → Controller
running k n waiting io_submission io_completion unread w = record {
  cntlid = k;
  registers = record { cc = enabling; state = Ready; aqa = admin_sizes; asq = 0; acq = 0x1000 };
  submission = Some (record { base = 0; cqid = 0; head = record { size = 8; fetched = n; waiting = waiting } })
      ∷ io_submission ∷ None ∷ None ∷ None ∷ [];
  completion = Some (record { base = 0x1000; tail = record { size = 32; posted = n; unread = unread } }) ∷ io_completion
      ∷ None ∷ None ∷ None ∷ [];
  fetched = [];
  window = w;
}

disabled : (k configuration sizes asq acq : ℕ) (w : List ℕ) → is_enabled configuration ≡ false
    → after_write32 cc 0 (off_with k configuration sizes asq acq w) ≡ off_with k 0 sizes asq acq w
unfolding after_write32 taking_effect after_write configured
disabled k configuration sizes asq acq w e = rw e refl

pub stored-at : (address : ℕ) (bytes : List ℕ) (c : Controller) → address + length bytes ≤ 4194304
    → (after_store address bytes c).controller ≡ record c { window = with_bytes c.window address bytes }
unfolding after_store
stored-at address bytes c h = rw (le-leb (address + length bytes) 4194304 h) refl

page-is : zero_page ≡ zeros
unfolding zero_page zeros
page-is = refl

both-halves : (x v : ℕ) → v < 2 ^ 32 → with_high (with_low x v) 0 ≡ v
both-halves x v h = omega arith

enabled : (k : ℕ) (w : List ℕ)
    → after_write32 cc enabling (off_with k 0 admin_sizes 0 0x1000 w) ≡ running k 0 0 None None 0 w
unfolding after_write32 taking_effect after_write configured can_enable
enabled k w = refl

-- the calls of a start except the last, and their effect
abbrev pub setting_calls : List Call
setting_calls =
    Writes cc 0
    ∷ Stores (submission_queue Admin) zero_page
    ∷ Stores (completion_queue Admin) zero_page
    ∷ Stores (submission_queue Io) zero_page
    ∷ Stores (completion_queue Io) zero_page
    ∷ Writes aqa admin_sizes
    ∷ Writes asq_low (submission_queue Admin)
    ∷ Writes asq_high 0
    ∷ Writes acq_low (completion_queue Admin)
    ∷ Writes acq_high 0
    ∷ Writes cc enabling
    ∷ []

abbrev pub zeroed_all : List ℕ → List ℕ
zeroed_all w = with_bytes (with_bytes (with_bytes (with_bytes w 0 zeros) 0x1000 zeros) 0x2000 zeros) 0x3000 zeros

page-at : (address : ℕ) (k configuration sizes asq acq : ℕ) (w : List ℕ) → address ≤ 0x3000
    → (after_store address zero_page (off_with k configuration sizes asq acq w)).controller
    ≡ off_with k configuration sizes asq acq (with_bytes w address zero_page)
page-at address k configuration sizes asq acq w h = stored-at address zero_page
    (off_with k configuration sizes asq acq w) (omega (arith, h, ap length page-is, zeros-are.long))

-- the writes after the pages
abbrev last_calls : List Call
last_calls =
    Writes aqa admin_sizes ∷ Writes asq_low 0 ∷ Writes asq_high 0 ∷ Writes acq_low 0x1000 ∷ Writes acq_high 0
    ∷ Writes cc enabling ∷ []

registers-set : (k sizes asq acq : ℕ) (w : List ℕ)
    → after_calls last_calls (off_with k 0 sizes asq acq w) ≡ running k 0 0 None None 0 w
unfolding after_write32 taking_effect after_write prepared
registers-set k sizes asq acq w =
    ap (λ n. after_write32 cc enabling (off_with k 0 admin_sizes n (with_high (with_low acq 0x1000) 0) w))
    (both-halves asq 0 (omega arith))
    ∙ ap (λ n. after_write32 cc enabling (off_with k 0 admin_sizes 0 n w)) (both-halves acq 0x1000 (omega arith))
    ∙ enabled k w

pub started-is : (c : Controller)
    → IsOff c → after_calls setting_calls c ≡ running c.cntlid 0 0 None None 0 (zeroed_all c.window)
started-is c o =
    let k : ℕ = c.cntlid in
    let w : List ℕ = c.window in
    let s : ℕ = c.registers.aqa in
    let a : ℕ = c.registers.asq in
    let b : ℕ = c.registers.acq in
    let go : List Call → Controller → Controller = after_calls in
    (λ i. go setting_calls (record c {
      registers = record c.registers { state = o.off i };
      submission = o.submission i;
      completion = o.completion i;
      fetched = o.fetched i;
    }))
    ∙ ap
    (go (Stores 0 zero_page ∷ Stores 0x1000 zero_page ∷ Stores 0x2000 zero_page ∷ Stores 0x3000 zero_page ∷ last_calls))
    (disabled k c.registers.cc s a b w o.disabled)
    ∙ ap (go (Stores 0x1000 zero_page ∷ Stores 0x2000 zero_page ∷ Stores 0x3000 zero_page ∷ last_calls))
    (page-at 0 k 0 s a b w (omega arith))
    ∙ ap (go (Stores 0x2000 zero_page ∷ Stores 0x3000 zero_page ∷ last_calls))
    (page-at 0x1000 k 0 s a b _ (omega arith))
    ∙ ap (go (Stores 0x3000 zero_page ∷ last_calls)) (page-at 0x2000 k 0 s a b _ (omega arith))
    ∙ ap (go last_calls) (page-at 0x3000 k 0 s a b _ (omega arith))
    ∙ registers-set k s a b _
    ∙ ap (λ z. running k 0 0 None None 0
    (with_bytes (with_bytes (with_bytes (with_bytes w 0 z) 0x1000 z) 0x2000 z) 0x3000 z)) page-is

pub ready-value : (k n waiting unread : ℕ) (s : Option SubmissionQueue) (x : Option CompletionQueue) (w : List ℕ)
    → value_at (running k n waiting s x unread w).registers csts ≡ 1
unfolding value_at
ready-value k n waiting unread s x w = refl
