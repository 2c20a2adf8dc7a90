-- Proof of the law `transcript_is_determined`: the transcript of a script without a fault of the medium.
use Rattle.std.proofs.Common.{◌∙◌, List, refl, sym, ap, subst}
use Rattle.std.specs.Io.KnownBytes.{Appends}
use Rattle.nvme_spec.specs.Blocks.{Device}
use Rattle.nvme_event.specs.Replies.{Reply}
use Rattle.nvme_mailbox.specs.Fleets.{Fleet, opening}
use Rattle.nvme_mailbox.specs.FaultFree.{fault_free_replies, fault_free_left}
use Rattle.nvme_mailbox.proofs.Determined.{run_is_unique}
use Rattle.nvme_mailbox.proofs.Existing.{run_exists}
use Rattle.nvme_spec.proofs.Openings.{opening_is_laid_out}
use Rattle.script_text.specs.Lines.{text_lines}
use Rattle.nvme_transcript.specs.Transcript.{transcript}
use Rattle.nvme_grammar.specs.Script.{configuration_of}
use Rattle.nvme_script.specs.Faults.{events_in, fleet_of_text}
use Rattle.nvme_script.specs.RunLaws.{TranscriptIsUnique, TranscriptExists}

pub transcript_is_unique : TranscriptIsUnique
unfolding opening
transcript_is_unique text old new before after run same below =
    let alone = run_is_unique (fleet_of_text text old) run.last (events_in text) run.transcribed.replies
    run.transcribed.ran (ap (λ (d : Device). d.failures) (sym run.leaves) ∙ same) below in (
      subst (λ (rs : List Reply). Appends before after (transcript (events_in text) rs)) alone.0 run.transcribed.wrote,
      run.leaves ∙ ap (λ (f : Fleet). f.site.device) alone.1,
    )

pub transcript_exists : TranscriptExists
unfolding opening
transcript_exists text size old before script sized =
    let laid = opening_is_laid_out (configuration_of (text_lines text)) size old.content sized script.accepted in
    let runs = run_exists (fleet_of_text text old) (events_in text) laid in
    record {
      last = fault_free_left (fleet_of_text text old) (events_in text);
      transcribed =
          record { replies = fault_free_replies (fleet_of_text text old) (events_in text); ran = runs.0; wrote = refl };
      leaves = refl;
    }
