-- For the answer of `store`: a store that fits is made.
use Rattle.nvme_fleet.proofs.Words.{
  ◌≡◌,
  ℕ,
  ◌+◌,
  ◌-◌,
  ◌≤◌,
  List,
  length,
  ap,
  ◌∙◌,
  with_bytes,
  window_size,
  Seen,
  Controller,
  after_store,
  new_controller,
  Subsystem,
  Reacts,
  IsThere,
  controller_in,
}
use Rattle.nvme_fleet.proofs.EventEffects.{place-below, place-is}
use Rattle.nvme_fleet.proofs.LinkCalls.{reacted-as}
use Rattle.nvme_refinement.proofs.StartStep.{stored-at}
use Rattle.std.proofs.lemmas.List.{get_or-set_same}

pub stored-there : (old new : Subsystem) (k address : ℕ) (bytes : List ℕ) (given : Seen)
    → IsThere old k → Reacts old k (after_store address bytes) given new → address + length bytes ≤ window_size
    → (controller_in new (k - 1)).window ≡ with_bytes (controller_in old (k - 1)).window address bytes
stored-there old new k address bytes given there h fits =
    let c : Controller = controller_in old (k - 1) in
    let r =
    reacted-as old new k (k - 1) (after_store address bytes) given (place-is k there.0) (place-below old k there) h in
    ap (λ (s : Subsystem). (controller_in s (k - 1)).window) r.leaves
    ∙ ap (λ (x : Controller). x.window)
    (get_or-set_same old.controllers (k - 1) (after_store address bytes c).controller (new_controller 0)
    (place-below old k there) ∙ stored-at address bytes c fits)
