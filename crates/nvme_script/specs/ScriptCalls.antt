-- A script's run over its medium: there is one run, whose replies are the transcript's, which makes its calls of the
-- medium, in order, and no others, and whose last state is that of the medium that is returned.
use Rattle.std.specs.Prelude.{◌≡◌, ℕ, Bool, List, Option}
use Rattle.nvme_spec.specs.Blocks.{Device}
use Rattle.nvme_spec.specs.MediumCalls.{MediumCall, MakesCalls}
use Rattle.nvme_event.specs.declared.event.FleetEvent.{FleetEvent}
use Rattle.nvme_event.specs.Replies.{Reply}
use Rattle.nvme_subsys.specs.OverMedium.{OverMedium, over}
use Rattle.nvme_fleet.specs.FleetStates.{Layers, opening_layers}
use Rattle.nvme_fleet.specs.LayerCalls.{AreCallsOfRun}
use Rattle.script_text.specs.Lines.{text_lines}
use Rattle.nvme_grammar.specs.Script.{configuration_of}
use Rattle.nvme_script.specs.Faults.{Transcribes, StopsAt, events_in}

-- events ran in both layers of a fleet, and the medium changed by exactly their calls
abbrev pub RanCalling :
    {M : Type 0} → (M → MediumCall → M → Type 0) → Bool → OverMedium Layers M → List FleetEvent → List Reply
    → OverMedium Layers M → Type 0
RanCalling step tells old events replies new =
    MakesCalls step (AreCallsOfRun tells old.state events replies new.state) old.medium new.medium

-- both layers at the opening of a text's configuration over a medium
abbrev pub layers_of_text : {M : Type 0} → (M → Device) → List ℕ → M → OverMedium Layers M
layers_of_text device text medium = over (opening_layers (configuration_of (text_lines text)) (device medium)) medium

-- A text ran to its end, over this medium, which became that one: the transcript, the calls and the content of the
-- medium are those of one run.
pub record RunsCalling {M : Type 0} (step : M → MediumCall → M → Type 0) (tells : Bool) (device : M → Device)
    (text : List ℕ) (old new : M) (before after : Option (List ℕ)) : Type 0 where
  pub last : Layers
  pub transcribed : Transcribes (RanCalling step tells) (layers_of_text device text old) (events_in text)
      (over last new) before after
  pub leaves : device new ≡ last.subsystem.device

-- It stopped at a line that could not be written: the bytes written, the calls and the content of the medium are those
-- of one run of the events up to that one.
pub record StopsCalling {M : Type 0} (step : M → MediumCall → M → Type 0) (tells : Bool) (device : M → Device)
    (text : List ℕ) (old new : M) (before after : Option (List ℕ)) : Type 0 where
  pub last : Layers
  pub stopped : StopsAt (RanCalling step tells) (layers_of_text device text old) (events_in text)
      (over last new) before after
  pub leaves : device new ≡ last.subsystem.device
