-- For `nvme_fleet`: a controller that fetches only from its admin queue executes only admin commands, and these mark
-- nothing.
use Rattle.nvme_refinement.proofs.Words.{
  marks_in,
  no_marks,
  all-filter,
  all-joined,
  ◌≡◌,
  ℕ,
  ◌+◌,
  ◌==◌,
  Bool,
  true,
  false,
  List,
  length,
  Option,
  None,
  Some,
  refl,
  sym,
  ap,
  subst,
  ◌∙◌,
  slice_get,
  nat_le,
  if◌then◌else◌,
  AllByRecursion,
  QueueChange,
  DropSq,
  AdminQueues,
  RegEffect,
  Enable,
  Disable,
  with_bytes,
  window_size,
  FetchedCommand,
  Executed,
  NoSuch,
  CqFull,
  Stored,
  Outside,
  CommandComesTo,
  CommandComesToAs,
  CommandExecution,
  Controller,
  SubmissionQueue,
  QueuePair,
  reaction,
  queues_of,
  open_pair,
  after_store,
  after_write32,
  after_fetch,
  fetched_from,
  fetchable,
  taking_effect,
  with_admin_queues,
  after_posting,
  after_queue_change,
  Setting,
  FinishesOne,
  FinishesOver,
  scene_in,
  after_completion,
  Call,
  Stores,
  Writes,
  Turns,
  fetch-id,
  LinkStep,
  with_controller,
  [],
  after_call,
  ◌∷◌,
}
use Rattle.nvme_mailbox.proofs.Lists.{all-get, all-removed}
use Rattle.nvme_spec.specs.Registers as register
use Rattle.nvme_mailbox.proofs.EachHost.{one-id}
use Rattle.nvme_refinement.proofs.PlainCalls.{IsPlain}
use Rattle.nvme_refinement.proofs.StartStep.{calls-are, calls-id}

-- Only admin commands were fetched.

abbrev pub IsAdmin : FetchedCommand → Type 0
IsAdmin t = (t.queue == 0) ≡ true

abbrev pub AreAdmin : Controller → Type 0
AreAdmin c = AllByRecursion IsAdmin c.fetched

pub store-admin : (address : ℕ) (bytes : List ℕ) (c : Controller)
    → AreAdmin c → AreAdmin (after_store address bytes c).controller
unfolding after_store
store-admin address bytes c h =
    elim (nat_le (address + length bytes) window_size)
    as (λ b. AreAdmin (if b then reaction (record c { window = with_bytes c.window address bytes }) Stored
    else reaction c Outside).controller) [
      | true ↦ h
      | false ↦ h
    ]

pub enabled-admin : (o : Option AdminQueues) (c : Controller) → AreAdmin (with_admin_queues o c)
enabled-admin None c = tt
enabled-admin (Some q) c = tt

effect-admin : (effect : RegEffect) (c : Controller) → AreAdmin c → AreAdmin (taking_effect effect c)
unfolding taking_effect
effect-admin Enable c h = enabled-admin (register.admin_queues c.registers) c
effect-admin Disable c h = tt
effect-admin effect c h = h

pub write-admin : (offset v : ℕ) (c : Controller) → AreAdmin c → AreAdmin (after_write32 offset v c)
unfolding after_write32
write-admin offset v c h = effect-admin (register.after_write c.registers offset v).effect
    (record c { registers = (register.after_write c.registers offset v).registers }) h

from-admin : (c : Controller) (o : Option SubmissionQueue) → AreAdmin c → AreAdmin (fetched_from 0 c o).controller
from-admin c None h = h
from-admin c (Some q) h = all-joined IsAdmin c.fetched _ h (refl, tt)

pub fetch-admin : (c : Controller) → AreAdmin c → AreAdmin (after_fetch 0 c).controller
unfolding after_fetch
fetch-admin c h = from-admin c (fetchable c 0) h

pub change-admin : (change : QueueChange) (c : Controller) → AreAdmin c → AreAdmin (after_queue_change change c)
unfolding after_queue_change
change-admin (DropSq qid) c h = all-filter IsAdmin _ c.fetched h
change-admin change c h = h

-- The execution of an admin command marks nothing.
pub record IsQuiet (x : Executed) (left : Setting) : Type 0 where
  pub marks : marks_in x ≡ no_marks
  pub admin : AreAdmin left.controller

left-alone : (old left : Setting) (x y : Executed) → x ≡ y → marks_in y ≡ no_marks → left ≡ old
    → AreAdmin old.controller → IsQuiet x left
left-alone old left x y is quiet same h = record {
  marks = ap marks_in is ∙ quiet;
  admin = subst (λ (s : Setting). AreAdmin s.controller) (sym same) h;
}

over-quiet : (o : Option QueuePair) (tells : Bool) (t : FetchedCommand) (old : Setting) (x : Executed) (left : Setting)
    → IsAdmin t → AreAdmin old.controller → FinishesOver o tells 0 t old x left → IsQuiet x left
unfolding CommandComesTo after_completion after_posting
over-quiet None tells t old x left is h f = left-alone old left x CqFull f.0 refl f.1 h
over-quiet (Some p) tells t old x left is h f =
    let a : CommandExecution = f.execution in
    let admin = subst
    (λ b. CommandComesToAs b tells (queues_of old.controller) old.controller.cntlid t (scene_in old) a) is f.comes_to in
    record {
      marks = ap marks_in f.gives ∙ ap (λ (y : CommandExecution). y.outcome.marks) admin;
      admin = subst AreAdmin (sym f.controller)
          (change-admin a.change (after_posting 0 t p a.outcome.status a.outcome.dw0
          (record old.controller { window = a.left.window })) (all-removed IsAdmin old.controller.fetched 0 h));
    }

pub one-quiet : (o : Option FetchedCommand) (tells : Bool) (old : Setting) (x : Executed) (left : Setting)
    → slice_get old.controller.fetched 0 ≡ o → AreAdmin old.controller → FinishesOne o tells 0 old x left
    → IsQuiet x left
one-quiet None tells old x left at h f = left-alone old left x NoSuch f.0 refl f.1 h
one-quiet (Some t) tells old x left at h f =
    over-quiet (open_pair old.controller t) tells t old x left (all-get IsAdmin old.controller.fetched 0 t at h) h f

-- Over calls of a link.

abbrev pub fetched_by : Controller → Controller
fetched_by c = (after_fetch 0 c).controller

pub kept-admin : (one : Call) (c : Controller) → AreAdmin c → AreAdmin (after_call one c)
kept-admin (Stores address bytes) c is = store-admin address bytes c is
kept-admin (Writes offset v) c is = write-admin offset v c is
kept-admin one c is = is

-- a call that gives the device no turn
plain-is : (tells : Bool) (call : Call) (old new : Setting) → IsPlain (call ∷ []) → LinkStep tells old call new
    → new.controller ≡ after_call call old.controller
plain-is tells call old new plain h =
    ap (λ (s : Setting). s.controller) (calls-are tells (call ∷ []) old new plain (new, h, refl))

pub call-admin : (tells : Bool) (call : Call) (old new : Setting)
    → LinkStep tells old call new → AreAdmin old.controller → AreAdmin new.controller
call-admin tells Turns old new (x, h) f =
    let d : Controller = fetched_by old.controller in
    (one-quiet (slice_get d.fetched 0) tells (with_controller old d) x new refl (fetch-admin old.controller f) h).admin
call-admin tells call old new h f =
    subst AreAdmin (sym (plain-is tells call old new tt h)) (kept-admin call old.controller f)

pub call-named : (tells : Bool) (call : Call) (old new : Setting)
    → LinkStep tells old call new → new.controller.cntlid ≡ old.controller.cntlid
call-named tells Turns old new (x, h) =
    let d : Controller = fetched_by old.controller in
    one-id (slice_get d.fetched 0) tells 0 (with_controller old d) x new h ∙ fetch-id 0 old.controller
call-named tells call old new h =
    ap (λ (c : Controller). c.cntlid) (plain-is tells call old new tt h) ∙ calls-id (call ∷ []) old.controller
