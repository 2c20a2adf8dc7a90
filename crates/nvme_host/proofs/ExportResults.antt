-- For `examples/export_results.rt`: exports of handles with and without a driver.
use Rattle.std.proofs.Common.{◌≡◌, ℕ, List, [], Option, None, Some, false, ap, arith, refl}
use Rattle.nvme_driver.specs.declared.request.Request.TheVariants.{Flush}
use Rattle.nvme_spec.specs.Memory.{zeros}
use Rattle.nvme_host.specs.declared.open_driver.OpenDriver.{OpenDriver}
use Rattle.nvme_host.specs.declared.outcome.Outcome.{Outcome}
use Rattle.nvme_host.specs.declared.recording_port.Action.{Action}
use Rattle.nvme_host.specs.Calls.{IsNew, Ringing}
use Rattle.nvme_host.specs.Completions.{no_data}
use Rattle.nvme_host.specs.DeviceCommands.{awaiting_event}
use Rattle.nvme_host.specs.Exports.{
  Asks,
  BringsUp,
  Does,
  Judges,
  LoadsFrom,
  Opens,
  OpensInto,
  Places,
  Polls,
  Sends,
  StoresCompletion,
  TakesActions,
}
use Rattle.nvme_host.specs.Holding.{Inside}
use Rattle.nvme_host.specs.Outcomes.{refused, with_code}
use Rattle.nvme_host.specs.RunExamples.{idle}

-- two codes are equal
abbrev codes-are : ℕ → ℕ → Type 0
codes-are m n = m ≡ n

some-driver : (h : Inside) → ◌≡◌ {A = Option Inside} None (Some h) → ⊥
some-driver h none = absurd (cc (none))

pub memory_refused : OpensInto 7 18 None
memory_refused = refl

pub driver_opened : (h : OpenDriver) → IsNew zeros 7 h → OpensInto 7 0 (Some h)
driver_opened h fresh = (refl, fresh)

pub opened_is_zero : (h : OpenDriver) → OpensInto 7 1 (Some h) → ⊥
opened_is_zero h x = let y : codes-are 1 0 × IsNew zeros 7 h = x in omega (arith, y.0)

pub open_already : Opens (Some idle) 7 17 (Some idle)
open_already = (refl, refl)

pub open_stays : Opens (Some idle) 7 17 None → ⊥
open_stays x = let y : codes-are 17 17 × ◌≡◌ {A = Option Inside} None (Some idle) = x in some-driver idle y.1

pub no_poll : Polls None [] (with_code 16) None []
no_poll = (refl, refl, refl)

pub no_poll_code : Polls None [] (with_code 17) None [] → ⊥
no_poll_code x =
    let y :
    (with_code 17 ≡ with_code 16) × ◌≡◌ {A = Option Inside} None None × ◌≡◌ {A = List ℕ} [] [] = x in
    let code : 17 ≡ 16 = ap (λ (o : Outcome). o.code) y.0 in
    omega (arith, code)

pub no_place : Places (λ h. None) (Flush 1) None (refused 16) None
no_place = (refl, refl)

pub no_send : Sends (λ h. None) false (λ h. awaiting_event) None (refused 16) None
no_send = (refl, refl)

pub no_question : Asks 1 None (refused 16) None
no_question = (refl, refl)

pub no_ring : Does Ringing None 16 None
no_ring = (refl, refl)

pub no_bring_up : BringsUp None (with_code 16) None
no_bring_up = (refl, refl)

pub no_judging : Judges 0 None (record { timeout_ms = 0; stride = 0; code = 16 }) None
no_judging = (refl, refl)

pub no_taking : TakesActions None [] 0 [] None
no_taking = (refl, refl, refl)

pub no_action : TakesActions None [] 1 [] None → ⊥
no_action x =
    let y : codes-are 1 0 × ◌≡◌ {A = List Action} [] [] × ◌≡◌ {A = Option Inside} None None = x in
    omega (arith, y.0)

pub no_storing : StoresCompletion 1 [] None (no_data 16) None
no_storing = (refl, refl)

pub no_loading : LoadsFrom None 0 [] 16 []
no_loading = (refl, refl)

pub no_loading_code : LoadsFrom None 0 [] 17 [] → ⊥
no_loading_code x = let y : codes-are 17 16 × ◌≡◌ {A = List ℕ} [] [] = x in omega (arith, y.0)
