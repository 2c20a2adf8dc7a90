-- Proof of the law `actions`: each of the three stores is recorded.
use Rattle.std.proofs.Common.{List, ap, ◌∙◌}
use Rattle.nvme_host.specs.declared.recording_port.Action.{Action}
use Rattle.nvme_host.specs.declared.recording_port.RecordingPort.{RecordingPort}
use Rattle.nvme_host.specs.Actions.{PlacingRecordsItsStores}
use Rattle.nvme_host.specs.Recording.{recorded}

pub placing_records_its_stores : PlacingRecordsItsStores
placing_records_its_stores old new request empty p =
    let c = p.3 in
    let add : Action → List Action → List Action = λ action actions. recorded actions action in (
      p.0,
      ap (λ (q : RecordingPort). q.actions.items) c.2.2.2
          ∙ (c.2.2.1.actions ∙ ap (add _) (c.2.1.actions ∙ ap (add _) (c.1.actions ∙ ap (add _) empty))),
    )
