-- The controller that a Connect connects to (NVM Express Base Specification 2.0, Connect Command).
use Rattle.std.specs.Prelude.{
  ℕ,
  ◌+◌,
  ◌-◌,
  Bool,
  ◌&&◌,
  ◌==◌,
  nat_le,
  nat_lt,
  if◌then◌else◌,
  List,
  [],
  ◌∷◌,
  slice_get,
  is_none,
  Option,
  Some,
  None,
  Result,
  Ok,
  Err,
}
use Rattle.std.specs.List.{list_any}
use Rattle.nvme_fabrics.specs.declared.answer.Answer.{Answer}
use Rattle.nvme_fabrics.specs.declared.request.Request.{Request}
use Rattle.nvme_fabrics.specs.declared.association.Controller.{Controller}
use Rattle.nvme_fabrics.specs.declared.session.Judged.{Judged}
use Rattle.nvme_fabrics.specs.declared.session.Place.{Place}
use Rattle.nvme_fabrics.specs.declared.session.Place.TheVariants as place
use Rattle.nvme_fabrics.specs.declared.session.Subsystem.{Subsystem}
use Rattle.nvme_fabrics.specs.declared.session.Subsystem.TheVariants as subsystem
use Rattle.nvme_fabrics.specs.Answers.{checked, controller_busy, invalid_host, in_entry, in_data}
use Rattle.nvme_fabrics.specs.Associations.{is_of, fits}

abbrev pub has_host : ℕ → List Controller → Bool
has_host host_id controllers = list_any (is_of host_id) controllers

-- a controller of the host without an association
abbrev pub is_free : ℕ → Controller → Bool
is_free host_id c = is_of host_id c && is_none c.association

-- a later controller is better if it is free, and fewer hosts authenticate themselves for it
abbrev pub better : Option (ℕ × ℕ) → ℕ → ℕ → Bool → Option (ℕ × ℕ)
better None index counts is_free = if is_free then Some (index, counts) else None
better (Some best) index counts is_free =
    if is_free && nat_lt counts best.1 then Some (index, counts) else Some best

abbrev pub best_of : ℕ → Option (ℕ × ℕ) → ℕ → List Controller → List ℕ → Option (ℕ × ℕ)
best_of host_id best index [] counts = best
best_of host_id best index (c ∷ controllers) [] = best
best_of host_id best index (c ∷ controllers) (p ∷ counts) =
    best_of host_id (better best index p (is_free host_id c)) (index + 1) controllers counts

abbrev pub index_of : Option (ℕ × ℕ) → Result ℕ Answer
index_of None = Err controller_busy
index_of (Some best) = Ok best.0

-- Dynamic controller model of CNTLID FFFFh: the free controller of the host for which the fewest hosts authenticate
-- themselves, the first of these
abbrev pub free_controller : List Controller → ℕ → List ℕ → Result ℕ Answer
free_controller controllers host_id counts = index_of (best_of host_id None 0 controllers counts)

-- CNTLID is one more than the place of a controller
abbrev pub named_controller : Request → Result ℕ Answer
named_controller r = checked ((in_data 16, nat_le 1 r.cntlid && nat_le r.cntlid 16) ∷ []) (r.cntlid - 1)

-- the place of the controller that a request is for
unfoldable pub controller_of : List Controller → Request → List ℕ → Result ℕ Answer
controller_of controllers r counts =
    if r.qid == 0
    then (if has_host r.host_id controllers
    then (if r.cntlid == 0xffff then free_controller controllers r.host_id counts else named_controller r)
    else Err invalid_host)
    else named_controller r

abbrev pub fits_at : Option Controller → Request → Bool → Result (Unit {0}) Answer
fits_at None r is_enabled = Err (in_data 16)
fits_at (Some c) r is_enabled = fits c r is_enabled

abbrev pub at_controller : ℕ → Result (Unit {0}) Answer → Result Place Answer
at_controller i (Ok u) = Ok (place.Controller i)
at_controller i (Err a) = Err a

abbrev pub place_at : List Controller → Request → Bool → Result ℕ Answer → Result Place Answer
place_at controllers r is_enabled (Err a) = Err a
place_at controllers r is_enabled (Ok i) = at_controller i (fits_at (slice_get controllers i) r is_enabled)

abbrev pub place_at_controller : List Controller → Request → Judged → Result Place Answer
place_at_controller controllers r j =
    if j.is_known && j.is_allowed
    then place_at controllers r j.is_enabled (controller_of controllers r j.authenticating)
    else Err invalid_host

abbrev pub discovery_rules : Request → Judged → List (Answer × Bool)
discovery_rules r j = (invalid_host, j.is_known) ∷ (in_entry 42, r.qid == 0) ∷ []

-- A known host may connect to this subsystem from the addresses that it is allowed, and to the discovery subsystem from
-- any, by one queue.
abbrev pub place_in : List Controller → Request → Judged → Subsystem → Result Place Answer
place_in controllers r j subsystem.Nvm = place_at_controller controllers r j
place_in controllers r j subsystem.Discovery = checked (discovery_rules r j) place.Discovery
place_in controllers r j subsystem.Other = Err (in_data 256)

unfoldable pub place_of : List Controller → Request → Judged → Result Place Answer
place_of controllers r j = place_in controllers r j j.subsystem
