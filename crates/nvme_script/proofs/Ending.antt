-- For the answers of `run_ready` and `run_reasoned`: what the end of a script's run implies for its text.
use Rattle.std.proofs.Common.{◌≡◌, ℕ, Bool, List, Option, None, Ok, Err, ◌∙◌, sym, ap, subst}
use Rattle.std.specs.Prelude.{Result, MatchResult}
use Rattle.script_text.specs.Streams.{ReadCall, WriteCall}
use Rattle.script_text.specs.declared.reading.ReadFault.{ReadFault}
use Rattle.nvme_spec.specs.Blocks.{Device}
use Rattle.nvme_spec.specs.Configuration.{Capacity, config_fault}
use Rattle.nvme_spec.specs.declared.config.ConfigFault.{ConfigFault}
use Rattle.nvme_spec.specs.declared.config.ConfigFault.TheVariants as fault_of
use Rattle.nvme_ns.specs.Configured.{configuration}
use Rattle.nvme_spec.specs.MediumCalls.{MediumCall}
use Rattle.nvme_subsys.specs.OverMedium.{OverMedium, over}
use Rattle.nvme_fleet.specs.FleetStates.{FleetState, layers_of, opening_layers}
use Rattle.nvme_grammar.specs.declared.script.Script.{Script}
use Rattle.nvme_program.specs.declared.fault.ScriptFault.{ScriptFault}
use Rattle.nvme_program.specs.declared.fault.ScriptFault.TheVariants.{Syntax, Config, TooLong, NoMemory, Read, Write}
use Rattle.nvme_program.specs.FaultKinds.{of_opening, of_reading}
use Rattle.nvme_script.specs.Faults.{IsScript, IsReady, IsEarlyFault, IsWrite, ReadsThen, events_in}
use Rattle.nvme_script.specs.ScriptCalls.{RanCalling, layers_of_text}
use Rattle.nvme_script.specs.ScriptWrites.{IsFault, RunsWriting, StopsAtBy, StopsWriting, TranscribesBy}
use Rattle.script_text.specs.Lines.{text_lines}
use Rattle.nvme_script.proofs.Preparing.{accepted_script, same_configuration}

-- the property of the text may be replaced
pub read_then-map : {S : Type 0} (step : S → ReadCall → S → Type 0) (remaining : S → Option (List ℕ)) (old new : S)
    (fault : ScriptFault) (With Then : List ℕ → Type 0)
    → ((text : List ℕ) → With text → Then text) → ReadsThen step remaining old new fault With
    → ReadsThen step remaining old new fault Then
read_then-map step remaining old new fault With Then f h = (h.0, h.1, by h.0 h.2)
  where
    by : (outcome : Result (List ℕ) ReadFault) → MatchResult outcome With (λ reading. fault ≡ of_reading reading)
        → MatchResult outcome Then (λ reading. fault ≡ of_reading reading)
    by (Ok text) k = f text k
    by (Err reading) k = k

-- a fault before the first event
module _ {M W : Type 0} (step : M → MediumCall → M → Type 0) (tells : Bool) (device : M → Device)
    (write : W → WriteCall → W → Type 0) (contents : W → Option (List ℕ)) (text : List ℕ) (size : Capacity)
    (old new : M) (before after : W) where
  pub early_fault : (fault : ScriptFault) → (IsWrite fault → ⊥) → IsEarlyFault fault text size
      → IsFault step tells device write contents fault text size old new before after
  early_fault (Syntax n) early h = h
  early_fault (Config n f) early h = h
  early_fault TooLong early h = h
  early_fault NoMemory early h = h
  early_fault Read early h = h
  early_fault Write early h = absurd (early tt)

pub opening_is_early : (start : Option ℕ) (fault : ConfigFault) → IsWrite (of_opening start fault) → ⊥
opening_is_early start fault_of.BadId h = h
opening_is_early start fault_of.BadSize h = h
opening_is_early start fault_of.TooMany h = h
opening_is_early start fault_of.DoesNotFit h = h
opening_is_early start fault_of.NoMemory h = h

-- Events that ran over the medium.
module _ {M W : Type 0} (step : M → MediumCall → M → Type 0) (tells : Bool) (device : M → Device)
    (write : W → WriteCall → W → Type 0) (contents : W → Option (List ℕ)) (text : List ℕ) (size : Capacity)
    (old new : M) (before after : W) (script : Script)
    (opened now : OverMedium FleetState M) (ready : IsReady text script)
    (accepted : config_fault (configuration script.config) size ≡ None)
    (opens : layers_of opened.state ≡ opening_layers (configuration script.config) (device old))
    (medium : opened.medium ≡ old) (left : new ≡ now.medium) (leaves : device new ≡ now.state.subsystem.device) where
  both_of_text : over (layers_of opened.state) opened.medium ≡ layers_of_text device text old
  both_of_text = λ j.
      over
      ((opens ∙ ap (λ c. opening_layers c (device old)) (same_configuration (text_lines text) script ready.says)) j)
      (medium j)

  pub called_whole : TranscribesBy (RanCalling step tells) write contents (over (layers_of opened.state) opened.medium)
      (events_in text) (over (layers_of now.state) now.medium) before after
      → IsScript text size × RunsWriting step tells device write contents text old new before after
  called_whole h =
      let moved = subst (λ m. TranscribesBy (RanCalling step tells) write contents (layers_of_text device text old)
      (events_in text) (over (layers_of now.state) m) before after) (sym left)
      (subst (λ s. TranscribesBy (RanCalling step tells) write contents s (events_in text)
      (over (layers_of now.state) now.medium) before after) both_of_text h) in (
        accepted_script text size script ready accepted,
        record {
          ran = record { last = layers_of now.state; transcribed = moved.transcribed; leaves = leaves };
          written = moved.written;
        },
      )

  pub called_in_part : StopsAtBy (RanCalling step tells) write contents (over (layers_of opened.state) opened.medium)
      (events_in text) (over (layers_of now.state) now.medium) before after
      → IsScript text size × StopsWriting step tells device write contents text old new before after
  called_in_part h =
      let moved = subst (λ m. StopsAtBy (RanCalling step tells) write contents (layers_of_text device text old)
      (events_in text) (over (layers_of now.state) m) before after) (sym left)
      (subst (λ s. StopsAtBy (RanCalling step tells) write contents s (events_in text)
      (over (layers_of now.state) now.medium) before after) both_of_text h) in (
        accepted_script text size script ready accepted,
        record {
          ran = record { last = layers_of now.state; stopped = moved.stopped; leaves = leaves };
          between = moved.between;
          written = moved.written;
          failed = moved.failed;
        },
      )
