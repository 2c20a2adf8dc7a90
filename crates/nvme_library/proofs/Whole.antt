-- For the answers of all exports: the invariant of an open subsystem holds at the opening and after each event.
use Rattle.std.proofs.Common.{
  ◌≡◌,
  ℕ,
  zero,
  suc,
  ◌+◌,
  Bool,
  true,
  false,
  List,
  [],
  ◌∷◌,
  length,
  map,
  Option,
  None,
  Some,
  Result,
  refl,
  sym,
  ap,
  subst,
  ◌∙◌,
}
use Rattle.std.specs.Prelude.{if◌then◌else◌, nat_le, slice_get}
use Rattle.std.proofs.lemmas.List.{length-set}
use Rattle.std.proofs.lemmas.Option.{none-some, same_Some}
use Rattle.nvme_spec.specs.declared.config.ControllerConfig.{ControllerConfig}
use Rattle.nvme_spec.specs.declared.queues.QueueChange.{QueueChange}
use Rattle.nvme_spec.specs.declared.queues.QueueChange.TheVariants.{Keep, MakeCq, MakeSq, DropCq, DropSq}
use Rattle.nvme_spec.specs.declared.registers.AdminQueues.{AdminQueues}
use Rattle.nvme_spec.specs.declared.registers.RegEffect.{RegEffect}
use Rattle.nvme_spec.specs.declared.registers.RegEffect.TheVariants.{Nothing, Enable, Disable, Shutdown, SqTail, CqHead}
use Rattle.nvme_spec.specs.Blocks.{Device}
use Rattle.nvme_spec.specs.Bytes.{with_bytes}
use Rattle.nvme_spec.specs.Configuration.{Configuration}
use Rattle.nvme_spec.specs.Memory.{window_size}
use Rattle.nvme_spec.specs.Registers.{admin_queues, after_write}
use Rattle.nvme_machine.specs.declared.event.Event.{Event}
use Rattle.nvme_machine.specs.declared.fetched.FetchedCommand.{FetchedCommand}
use Rattle.nvme_machine.specs.declared.seen.Seen.{Seen}
use Rattle.nvme_machine.specs.declared.seen.Seen.TheVariants.{Stored, Outside}
use Rattle.nvme_machine.specs.CommandExecutions.{CommandExecution}
use Rattle.nvme_machine.specs.Controllers.{
  Controller,
  SubmissionQueue,
  QueuePair,
  with_admin_queues,
  taking_effect,
  after_store,
  after_write32,
  after_fetch,
  fetchable,
  fetched_from,
  reaction,
  after_posting,
  after_queue_change,
  new_controller,
}
use Rattle.nvme_machine.specs.Subsystems.{Subsystem, Step, numbered, controller_at, opening, after_completion}
use Rattle.nvme_machine.specs.Windows.{HasItsWindow}
use Rattle.nvme_machine.proofs.Everywhere.{Keeps, step-keeps}
use Rattle.nvme_machine.proofs.Windows.{keeps_its_window, opening_has_its_windows}
use Rattle.nvme_spec.specs.declared.medium.MediumFault.{MediumFault}
use Rattle.nvme_subsys.specs.Looking.{Looks}
use Rattle.nvme_library.specs.Whole.{IsWhole, AreWhole}

abbrev Places : Controller → Type 0
Places c = (length c.submission ≡ 5) × (length c.completion ≡ 5)

stores : (address : ℕ) (bytes : List ℕ) (c : Controller) → Places c → Places (after_store address bytes c).controller
unfolding after_store
stores address bytes c p = by (nat_le (address + length bytes) window_size)
  where
    by : (b : Bool) → Places (if b then reaction (record c { window = with_bytes c.window address bytes }) Stored
        else reaction c Outside).controller
    by true = p
    by false = p

enables : (o : Option AdminQueues) (c : Controller) → Places (with_admin_queues o c)
enables None c = (refl, refl)
enables (Some q) c = (refl, refl)

effects : (effect : RegEffect) (c : Controller) → Places c → Places (taking_effect effect c)
unfolding taking_effect
effects Nothing c p = p
effects Enable c p = enables (admin_queues c.registers) c
effects Disable c p = (refl, refl)
effects Shutdown c p = p
effects (SqTail q v) c p = (length-set c.submission q _ ∙ p.0, p.1)
effects (CqHead q v) c p = (p.0, length-set c.completion q _ ∙ p.1)

writes : (offset v : ℕ) (c : Controller) → Places c → Places (after_write32 offset v c)
unfolding after_write32
writes offset v c p = effects (after_write c.registers offset v).effect
    (record c { registers = (after_write c.registers offset v).registers }) p

fetches-from : (q : ℕ) (c : Controller) (o : Option SubmissionQueue) → Places c → Places (fetched_from q c o).controller
fetches-from q c None p = p
fetches-from q c (Some s) p = (length-set c.submission q _ ∙ p.0, p.1)

fetches : (q : ℕ) (c : Controller) → Places c → Places (after_fetch q c).controller
unfolding after_fetch
fetches q c p = fetches-from q c (fetchable c q) p

changes : (change : QueueChange) (c : Controller) → Places c → Places (after_queue_change change c)
unfolding after_queue_change
changes Keep c p = p
changes (MakeCq qid size at) c p = (p.0, length-set c.completion qid _ ∙ p.1)
changes (MakeSq qid size at to) c p = (length-set c.submission qid _ ∙ p.0, p.1)
changes (DropCq qid) c p = (p.0, length-set c.completion qid _ ∙ p.1)
changes (DropSq qid) c p = (length-set c.submission qid _ ∙ p.0, p.1)

finishes : (i : ℕ) (t : FetchedCommand) (p : QueuePair) (a : CommandExecution) (c : Controller)
    → Places c → Places (after_completion i t p a c)
unfolding after_completion after_posting
finishes i t p a c places =
    changes a.change (after_posting i t p a.outcome.status a.outcome.dw0 (record c { window = a.left.window }))
    (places.0, length-set c.completion p.submission.cqid _ ∙ places.1)

whole : (c : Controller) → IsWhole c → Places c
whole c w = (w.submission, w.completion)

is-whole : (c : Controller) → HasItsWindow c → Places c → IsWhole c
is-whole c window p = record { window = window; submission = p.0; completion = p.1 }

keeps_whole : Keeps IsWhole
keeps_whole = record {
  marks = λ n c w.
      record { window = keeps_its_window.marks n c w.window; submission = w.submission; completion = w.completion };
  store = λ address bytes c w.
      is-whole _ (keeps_its_window.store address bytes c w.window) (stores address bytes c (whole c w));
  write = λ offset v c w. is-whole _ (keeps_its_window.write offset v c w.window) (writes offset v c (whole c w));
  fetch = λ q c w. is-whole _ (keeps_its_window.fetch q c w.window) (fetches q c (whole c w));
  cycle = λ c w. record { window = keeps_its_window.cycle c w.window; submission = refl; completion = refl };
  finish = λ tells w d k i c t p a room comes is.
      is-whole _ (keeps_its_window.finish tells w d k i c t p a room comes is.window) (finishes i t p a c (whole c is));
}

-- after an event all controllers are as whole as before
pub step_keeps_whole : (tells : Bool) (old new : Subsystem) (event : Event) (seen : Seen)
    → Step tells old event seen new → AreWhole old → AreWhole new
step_keeps_whole tells old new event seen step all = step-keeps IsWhole keeps_whole tells old new event seen step all

new-places : (ks : List ControllerConfig) (i : ℕ) (c : Controller)
    → slice_get (map (λ (k : ControllerConfig). new_controller k.cntlid) ks) i ≡ Some c → Places c
new-places [] i c h = absurd (none-some _ h)
new-places (k ∷ ks) zero c h = subst Places (same_Some _ _ h) (refl, refl)
new-places (k ∷ ks) (suc i) c h = new-places ks i c h

opening-places : (config : Configuration) (d : Device) (k : ℕ) (c : Controller)
    → controller_at (opening config d) k ≡ Some c → Places c
unfolding opening controller_at
opening-places config d zero c h = absurd (none-some _ h)
opening-places config d (suc i) c h = new-places config.controllers i c h

pub opening_is_whole : (config : Configuration) (d : Device) → AreWhole (opening config d)
opening_is_whole config d k c at = is-whole c (opening_has_its_windows config d k c at) (opening-places config d k c at)

-- a read of blocks leaves the controllers unchanged
pub looks_whole : (tells : Bool)
    (place : Option ℕ) (old new : Subsystem) (bytes : List ℕ) (result : Option (Result (Unit {0}) MediumFault))
    → Looks tells place old bytes result new → AreWhole old → AreWhole new
unfolding controller_at
looks_whole tells None old new bytes result h all = subst AreWhole (sym h.1) all
looks_whole tells (Some first) old new bytes None h all = absurd h
looks_whole tells (Some first) old new bytes (Some r) h all =
    λ k c at. all k c (ap (λ cs. numbered cs k) (sym h.controllers) ∙ at)
