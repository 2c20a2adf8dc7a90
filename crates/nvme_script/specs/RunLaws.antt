-- Statements of laws: a script's run over a medium is one of mailboxes, and its transcript is determined except for
-- faults of the medium.
use Rattle.std.specs.Prelude.{◌≡◌, ◌<◌, ◌-◌, ◌*◌, ◌^◌, ℕ, Bool, true, List, length, Option, Some, ◌++◌}
use Rattle.std.specs.Io.KnownBytes.{Appends}
use Rattle.nvme_spec.specs.Blocks.{Device}
use Rattle.nvme_spec.specs.Configuration.{Capacity}
use Rattle.nvme_spec.specs.MediumCalls.{MediumCall}
use Rattle.nvme_mailbox.specs.FaultFree.{fault_free_replies, fault_free_left}
use Rattle.nvme_transcript.specs.Transcript.{transcript}
use Rattle.nvme_script.specs.Faults.{IsScript, Runs, Stops, events_in, fleet_of_text}
use Rattle.nvme_script.specs.ScriptCalls.{RunsCalling, StopsCalling}

-- A run over a medium, with its calls, is a run of the mailboxes: it has the same transcript and leaves the same
-- medium.
abbrev pub CallingRuns : {M : Type 0} → (M → MediumCall → M → Type 0) → Bool → (M → Device) → Type 0
CallingRuns {M} step tells device =
    (text : List ℕ) (old new : M) (before after : Option (List ℕ))
    → RunsCalling step tells device text old new before after → Runs tells text (device old) (device new) before after

-- the same for one that stopped
abbrev pub CallingStops : {M : Type 0} → (M → MediumCall → M → Type 0) → Bool → (M → Device) → Type 0
CallingStops {M} step tells device =
    (text : List ℕ) (old new : M) (before after : Option (List ℕ))
    → StopsCalling step tells device text old new before after → Stops tells text (device old) (device new) before after

-- the transcript of a text over a medium without faults
abbrev pub fault_free_transcript : List ℕ → Device → List ℕ
fault_free_transcript text device =
    transcript (events_in text) (fault_free_replies (fleet_of_text text device) (events_in text))

abbrev pub fault_free_device : List ℕ → Device → Device
fault_free_device text device = (fault_free_left (fleet_of_text text device) (events_in text)).site.device

-- if no call failed, and the count is below its maximum, transcript and medium are these
abbrev pub TranscriptIsUnique : Type 0
TranscriptIsUnique =
    (text : List ℕ) (old new : Device) (before after : Option (List ℕ)) → Runs true text old new before after
    → new.failures ≡ old.failures → old.failures < 2 ^ 64 - 1
    → Appends before after (fault_free_transcript text old) × (new ≡ fault_free_device text old)

-- and there is such a run of each script
abbrev pub TranscriptExists : Type 0
TranscriptExists =
    (text : List ℕ) (size : Capacity) (old : Device) (before : List ℕ) → IsScript text size
    → length old.content ≡ 512 * size.medium
    → Runs true text old (fault_free_device text old) (Some before) (Some (before ++ fault_free_transcript text old))
