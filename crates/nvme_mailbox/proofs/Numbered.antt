-- For laws of raw hosts: each raw host's controller has the number of its place.
use Rattle.nvme_mailbox.proofs.Words.{
  ◌≡◌,
  ℕ,
  zero,
  suc,
  arith,
  Bool,
  true,
  false,
  subst,
  ◌∙◌,
  if◌then◌else◌,
  none-some,
  ControllerConfig,
  new_controller,
  FleetEvent,
  Reply,
  new_mailbox,
  WithDriver,
  Raw,
  Fleet,
  Step,
  new_host,
  opening,
  host_at,
  marked,
  BearsItsNumber,
  AreNumbered,
  OpeningIsNumbered,
  NumbersStay,
  sym,
}
use Rattle.nvme_mailbox.specs.Fleets.{Host}
use Rattle.nvme_machine.proofs.Numbers.{numbered-at}
use Rattle.nvme_mailbox.proofs.EachHost.{Keeps, step-keeps, run-keeps}
use Rattle.nvme_mailbox.proofs.Lists.{from-map}

-- Events.

one-marked : (k n : ℕ) (h : Host) → BearsItsNumber k h → BearsItsNumber k (marked n h)
one-marked k n (WithDriver m) is = tt
one-marked k n (Raw c) is = is

keeps : Keeps BearsItsNumber
keeps = record { move = λ k v m may is. tt; marks = one-marked; raw = λ k c d same is. same ∙ is }

pub step : (tells : Bool) (old new : Fleet) (event : FleetEvent) (reply : Reply)
    → Step tells old event reply new → AreNumbered old → AreNumbered new
step tells old new event reply h all = step-keeps BearsItsNumber keeps tells old new event reply h all

pub numbers_stay : NumbersStay
numbers_stay = run-keeps BearsItsNumber keeps

-- The opening.

opened-one : (b : Bool) (n : ℕ) (k : ControllerConfig)
    → k.cntlid ≡ n → BearsItsNumber n (if b then Raw (new_controller k.cntlid) else WithDriver (new_mailbox 1))
opened-one true n k is = is
opened-one false n k is = tt

pub opening_is_numbered : OpeningIsNumbered
unfolding host_at opening
opening_is_numbered c d blocks good zero h at = absurd (none-some _ at)
opening_is_numbered c d blocks good (suc j) h at =
    let k = from-map new_host c.controllers j h at in
    subst (BearsItsNumber (suc j)) (sym k.2)
    (opened-one k.0.raw (suc j) k.0 (numbered-at c blocks good j k.0 k.1 ∙ omega arith))
