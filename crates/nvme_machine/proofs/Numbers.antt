-- For proofs about controllers by identifier: controllers keep their identifiers, and an accepted configuration gives
-- each the number of its place.
use Rattle.std.proofs.Common.{
  ◌≡◌,
  ℕ,
  zero,
  suc,
  ◌+◌,
  ◌==◌,
  nat_lt,
  Bool,
  true,
  false,
  List,
  [],
  ◌∷◌,
  length,
  Option,
  None,
  Some,
  refl,
  sym,
  ap,
  ◌∙◌,
  arith,
}
use Rattle.std.specs.Prelude.{slice_get, if◌then◌else◌, nat_le}
use Rattle.std.specs.List.{list_all, enumerate_from}
use Rattle.std.proofs.lemmas.Bool.{and_parts, or_parts, eqb-true}
use Rattle.std.proofs.lemmas.Option.{same_Some}
use Rattle.nvme_spec.proofs.Passing.{not_false}
use Rattle.nvme_spec.specs.declared.config.ControllerConfig.{ControllerConfig}
use Rattle.nvme_spec.specs.declared.config.ConfigFault.TheVariants.{TooMany, BadId, BadSize, DoesNotFit}
use Rattle.nvme_spec.specs.declared.registers.AdminQueues.{AdminQueues}
use Rattle.nvme_spec.specs.declared.registers.RegEffect.{RegEffect}
use Rattle.nvme_spec.specs.declared.registers.RegEffect.TheVariants.{Nothing, Enable, Disable, Shutdown, SqTail, CqHead}
use Rattle.nvme_spec.specs.Bytes.{with_bytes}
use Rattle.nvme_spec.specs.Configuration.{
  Configuration,
  Capacity,
  config_fault,
  total_blocks,
  are_numbered,
  has_too_many,
  has_bad_id,
  has_bad_size,
}
use Rattle.nvme_spec.specs.Memory.{window_size}
use Rattle.nvme_spec.specs.Registers as register
use Rattle.nvme_machine.specs.declared.seen.Seen.TheVariants.{Stored, Outside}
use Rattle.nvme_machine.specs.Controllers.{
  Controller,
  SubmissionQueue,
  reaction,
  after_store,
  after_write32,
  after_fetch,
  fetched_from,
  fetchable,
  taking_effect,
  with_admin_queues,
}

-- Events.

pub store-id : (address : ℕ) (bytes : List ℕ) (c : Controller)
    → (after_store address bytes c).controller.cntlid ≡ c.cntlid
unfolding after_store
store-id address bytes c =
    elim (nat_le (address + length bytes) window_size) as (λ b. (if b then reaction (record c {
      window = with_bytes c.window address bytes;
    }) Stored else reaction c Outside).controller.cntlid ≡ c.cntlid) [
      | true ↦ refl
      | false ↦ refl
    ]

admin-id : (o : Option AdminQueues) (c : Controller) → (with_admin_queues o c).cntlid ≡ c.cntlid
admin-id None c = refl
admin-id (Some q) c = refl

effect-id : (effect : RegEffect) (c : Controller) → (taking_effect effect c).cntlid ≡ c.cntlid
unfolding taking_effect
effect-id Nothing c = refl
effect-id Enable c = admin-id (register.admin_queues c.registers) c
effect-id Disable c = refl
effect-id Shutdown c = refl
effect-id (SqTail q v) c = refl
effect-id (CqHead q v) c = refl

pub write-id : (offset v : ℕ) (c : Controller) → (after_write32 offset v c).cntlid ≡ c.cntlid
unfolding after_write32
write-id offset v c = effect-id (register.after_write c.registers offset v).effect
    (record c { registers = (register.after_write c.registers offset v).registers })

from-id : (q : ℕ) (c : Controller) (o : Option SubmissionQueue) → (fetched_from q c o).controller.cntlid ≡ c.cntlid
from-id q c None = refl
from-id q c (Some s) = refl

pub fetch-id : (q : ℕ) (c : Controller) → (after_fetch q c).controller.cntlid ≡ c.cntlid
unfolding after_fetch
fetch-id q c = from-id q c (fetchable c q)

-- Openings.

none_of : (a b d e : Bool) → (if a then Some TooMany
    else (if b then Some BadId else (if d then Some BadSize else (if e then Some DoesNotFit else None)))) ≡ None
    → (a ≡ false) × (b ≡ false)
none_of true b d e h = absurd (cc)
none_of false true d e h = absurd (cc)
none_of false false d e h = (refl, refl)

pub accepted : (c : Configuration) (size : Capacity)
    → config_fault c size ≡ None → (has_too_many c ≡ false) × (has_bad_id c ≡ false)
unfolding config_fault
accepted c size h = none_of (has_too_many c) (has_bad_id c) (has_bad_size size c.namespaces)
    (nat_lt size.medium (total_blocks c.namespaces)) h

numbered-from : (n : ℕ) (ks : List ControllerConfig)
    → list_all (λ p. p.1.cntlid == p.0 + 1) (enumerate_from n ks) ≡ true → (i : ℕ) (k : ControllerConfig)
    → slice_get ks i ≡ Some k → k.cntlid ≡ n + i + 1
numbered-from n [] h i k at = absurd (cc)
numbered-from n (x ∷ ks) h zero k at =
    let two = and_parts (x.cntlid == n + 1) _ h in
    ap (λ (y : ControllerConfig). y.cntlid) (sym (same_Some _ _ at)) ∙ eqb-true x.cntlid (n + 1) two.0 ∙ omega arith
numbered-from n (x ∷ ks) h (suc i) k at =
    let two = and_parts (x.cntlid == n + 1) _ h in
    numbered-from (n + 1) ks two.1 i k at ∙ omega arith

-- the controller at place i of an accepted configuration
pub numbered-at : (c : Configuration) (size : Capacity) → config_fault c size ≡ None → (i : ℕ) (k : ControllerConfig)
    → slice_get c.controllers i ≡ Some k → k.cntlid ≡ i + 1
numbered-at c size good i k at =
    let a = accepted c size good in
    let all : are_numbered c.controllers ≡ true =
    not_false _ (or_parts _ _ (or_parts _ _ (or_parts _ _ (or_parts _ _ a.1).0).0).0).0 in
    numbered-from 0 c.controllers all i k at ∙ omega arith
