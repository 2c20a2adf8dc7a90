-- Proof of the law `run_is_of_mailboxes`: a run of both layers over a medium is one of the mailboxes.
use Rattle.std.proofs.Common.{◌≡◌, ◌∙◌, ℕ, Bool, List, [], ◌∷◌, ◌++◌, take, map, refl, ap, subst}
use Rattle.nvme_spec.specs.Blocks.{Device}
use Rattle.nvme_spec.specs.Configuration.{Configuration}
use Rattle.nvme_spec.specs.MediumCalls.{MediumCall}
use Rattle.nvme_event.specs.declared.event.FleetEvent.{FleetEvent}
use Rattle.nvme_event.specs.Replies.{Reply}
use Rattle.nvme_machine.specs.Subsystems as machine
use Rattle.nvme_mailbox.specs.Fleets.{Fleet, Run, opening}
use Rattle.nvme_fleet.specs.FleetStates.{Layers, fleet_in, opening_driver, opening_layers}
use Rattle.nvme_fleet.specs.LayerCalls.{AreCallsOfRun}
use Rattle.nvme_fleet.proofs.FleetOpening.{opened-mailboxes}
use Rattle.script_text.specs.Lines.{text_lines}
use Rattle.nvme_grammar.specs.Script.{configuration_of}
use Rattle.nvme_script.specs.Faults.{events_in, fleet_of_text}
use Rattle.nvme_script.specs.RunLaws.{CallingRuns, CallingStops}

fleet-opened : (c : Configuration) (d : Device) → fleet_in (opening_layers c d) ≡ opening c d
fleet-opened c d = opened-mailboxes c d (machine.opening c d) (map opening_driver c.controllers) [] refl refl

mailboxes-ran : (tells : Bool) (old new : Layers) (events : List FleetEvent) (replies : List Reply)
    (calls : List MediumCall) → AreCallsOfRun tells old events replies new calls
    → Run tells (fleet_in old) events replies (fleet_in new)
mailboxes-ran tells old new [] [] calls h = ap fleet_in h.0
mailboxes-ran tells old new [] (reply ∷ replies) calls h = absurd h
mailboxes-ran tells old new (event ∷ events) [] calls h = absurd h
mailboxes-ran tells old new (event ∷ events) (reply ∷ replies) calls (mid, here, behind, step, rest, joined) =
    (fleet_in mid, step.mailboxes, mailboxes-ran tells mid new events replies behind rest)

from-text : (tells : Bool) (text : List ℕ) (d : Device) (last : Layers) (events : List FleetEvent)
    (replies : List Reply) (calls : List MediumCall)
    → AreCallsOfRun tells (opening_layers (configuration_of (text_lines text)) d) events replies last calls
    → Run tells (fleet_of_text text d) events replies (fleet_in last)
from-text tells text d last events replies calls h =
    subst (λ (f : Fleet). Run tells f events replies (fleet_in last))
    (fleet-opened (configuration_of (text_lines text)) d)
    (mailboxes-ran tells (opening_layers (configuration_of (text_lines text)) d) last events replies calls h)

left-by : (l : Layers) → l.subsystem.device ≡ (fleet_in l).site.device
unfolding fleet_in
left-by l = refl

module _ {M : Type 0} (step : M → MediumCall → M → Type 0) (tells : Bool) (device : M → Device) where
  pub calling_runs : CallingRuns step tells device
  calling_runs text old new before after h = record {
    last = fleet_in h.last;
    transcribed = record {
      replies = h.transcribed.replies;
      ran = from-text tells text (device old) h.last
          (events_in text) h.transcribed.replies h.transcribed.ran.calls h.transcribed.ran.are;
      wrote = h.transcribed.wrote;
    };
    leaves = h.leaves ∙ left-by h.last;
  }

  pub calling_stops : CallingStops step tells device
  calling_stops text old new before after h =
      let s = h.stopped in record {
        last = fleet_in h.last;
        stopped = record {
          index = s.index;
          event = s.event;
          is = s.is;
          told = s.told;
          cut = s.cut;
          ran = from-text tells text (device old) h.last (take s.index (events_in text) ++ s.event ∷ [])
              (s.told ++ s.cut ∷ []) s.ran.calls s.ran.are;
          bytes = s.bytes;
          part = s.part;
          wrote = s.wrote;
        };
        leaves = h.leaves ∙ left-by h.last;
      }
