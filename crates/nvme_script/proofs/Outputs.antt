-- Proof of the law `output_is_called`: the calls of an output, by how a script's run ended.
use Rattle.std.proofs.Common.{
  ◌≡◌,
  ◌≤◌,
  ◌<◌,
  ◌+◌,
  ℕ,
  zero,
  suc,
  Bool,
  true,
  false,
  List,
  [],
  ◌∷◌,
  ◌++◌,
  length,
  take,
  drop,
  Result,
  IsOk,
  Err,
  Option,
  Some,
  None,
  inl,
  inr,
  sym,
  ap,
  subst,
  ◌∙◌,
  arith,
  append-nil,
  append_assoc,
  length-append,
  length-drop,
}
use Rattle.std.proofs.lemmas.Bool.{false≢true}
use Rattle.std.proofs.lemmas.Option.{none-some, same_Some}
use Rattle.std.specs.Prelude.{◌⊎◌}
use Rattle.std.specs.declared.io.Error.{Error}
use Rattle.nvme_medium.specs.declared.medium.Medium as medium
use Rattle.nvme_event.specs.declared.event.FleetEvent.{FleetEvent}
use Rattle.nvme_event.specs.Replies.{Reply}
use Rattle.script_text.specs.Pages.{most_text}
use Rattle.script_text.specs.Streams.{Calls, WriteCall, Writes}
use Rattle.script_text.specs.Writing.{WritesBytes}
use Rattle.script_text.specs.declared.stream.Sink as sink
use Rattle.nvme_transcript.specs.Transcript.{line_of, transcript}
use Rattle.nvme_script.specs.Buffering.{Buffer, CallsOutput, StepsBuffer, most_held}
use Rattle.nvme_script.specs.Faults.{events_in}
use Rattle.nvme_script.specs.OutputLaws.{DoneIsSent, StopsBeyondABuffer, StopsByACall, UnsentByACall}
use Rattle.nvme_script.specs.ScriptWrites.{FailsLine, WritesLines, lines_of}
use Rattle.nvme_script.proofs.Sending.{Gets, GetsBy, broken-gets, line-fails, line-gets, sent-gets}

module _ {M O : Type 0} (calls : medium.Ghosts M) (out : sink.Ghosts O) (flushes : O → Bool → O → Type 0) where
  abbrev Step : Buffer O → WriteCall → Buffer O → Type 0
  Step = StepsBuffer out.step out.contents

  -- lines that are written whole to the buffer
  lines-get : (events : List FleetEvent) (replies : List Reply) (more : List ℕ) (done : Bool) (old mid : Buffer O)
      (after : O) → WritesLines Step (lines_of events replies) old mid
      → GetsBy out.step flushes out.contents mid more done after
      → GetsBy out.step flushes out.contents old (transcript events replies ++ more) done after
  lines-get [] replies more done old mid after is rest =
      subst (λ (b : Buffer O). GetsBy out.step flushes out.contents b more done after) is rest
  lines-get (event ∷ events) [] more done old mid after is rest =
      subst (λ (b : Buffer O). GetsBy out.step flushes out.contents b more done after) is rest
  lines-get (event ∷ events) (reply ∷ replies) more done old mid after (now, written, lines) rest =
      subst (λ bs. GetsBy out.step flushes out.contents old bs done after)
      (sym (append_assoc (line_of event reply) (transcript events replies) more))
      (line-gets out.step flushes out.contents (line_of event reply)
      (transcript events replies ++ more) written.calls done old now after written.writes written.made
      (lines-get events replies more done now mid after lines rest))

  -- from an output with an empty buffer
  from-empty : (buffer : Buffer O) (output : O) (bytes : List ℕ) (done : Bool) (after : O)
      → buffer.output ≡ output → buffer.held ≡ []
      → GetsBy out.step flushes out.contents buffer bytes done after → Gets out.step flushes bytes done output after
  from-empty buffer output bytes done after is none gets =
      subst (λ (o : O). Gets out.step flushes bytes done o after) is
      (subst (λ held. Gets out.step flushes (held ++ bytes) done buffer.output after) none gets)

  pub done_is_sent : DoneIsSent calls out flushes
  done_is_sent text old new before after h =
      subst (λ bs. Gets out.step flushes bs true before after)
      (append-nil (transcript (events_in text) h.ran.transcribed.replies))
      (from-empty h.empty before (transcript (events_in text) h.ran.transcribed.replies ++ []) true after
      h.begins.0 h.begins.1
      (lines-get (events_in text) h.ran.transcribed.replies [] true h.empty h.full after h.written
      (sent-gets out.step flushes h.full.held h.full.output after h.sent)))

  pub unsent_by_a_call : UnsentByACall calls out flushes
  unsent_by_a_call text old new before after h =
      subst (λ bs. Gets out.step flushes bs false before after)
      (append-nil (transcript (events_in text) h.ran.ran.transcribed.replies))
      (from-empty h.empty before (transcript (events_in text) h.ran.ran.transcribed.replies ++ []) false after
      h.begins.0 h.begins.1
      (lines-get (events_in text) h.ran.ran.transcribed.replies [] false h.empty h.full after h.ran.written
      (broken-gets out.step flushes h.full.held h.full.output after h.unsent)))

  -- lines that are written whole to the buffer, and one that is not
  line-stops : (events : List FleetEvent) (replies : List Reply) (line : List ℕ) (calls : List WriteCall)
      (fault : Error) (empty between last : Buffer O) (before after : O)
      → empty.output ≡ before → empty.held ≡ [] → last.output ≡ after
      → WritesLines Step (lines_of events replies) empty between
      → WritesBytes {T = Unit {0}} line calls (Err fault) → Calls Step between calls last
      → Gets out.step flushes (transcript events replies ++ line) false before after
  line-stops events replies line calls fault empty between last before after is none left written writes made =
      subst (λ (o : O). Gets out.step flushes (transcript events replies ++ line) false before o) left
      (from-empty empty before (transcript events replies ++ line) false last.output is none
      (lines-get events replies line false empty between last.output written
      (subst (λ bs. GetsBy out.step flushes out.contents between bs false last.output) (append-nil line)
      (line-fails out.step flushes out.contents line [] calls fault between last writes made))))

  pub stops_by_a_call : StopsByACall calls out flushes
  stops_by_a_call text old new before after h = by h.stopped.failed
    where
      by : FailsLine Step (line_of h.stopped.ran.stopped.event h.stopped.ran.stopped.cut) h.stopped.between h.last
          → Gets out.step flushes
          (transcript (take h.stopped.ran.stopped.index (events_in text)) h.stopped.ran.stopped.told
          ++ line_of h.stopped.ran.stopped.event h.stopped.ran.stopped.cut) false before after
          ⊎ (most_text < length (line_of h.stopped.ran.stopped.event h.stopped.ran.stopped.cut))
      by (fault, inl written) = inl (line-stops (take h.stopped.ran.stopped.index (events_in text))
          h.stopped.ran.stopped.told (line_of h.stopped.ran.stopped.event h.stopped.ran.stopped.cut)
          written.calls fault h.empty h.stopped.between h.last before after h.begins.0 h.begins.1 h.left
          h.stopped.written written.writes written.made)
      by (fault, inr (long, failed, same)) = inr long

module _ {O : Type 0} (out : sink.Ghosts O) where
  -- bytes that fit are held back
  held-back : (part : List ℕ) (taken : Option ℕ) (old new : Buffer O) → CallsOutput out.step old (Writes part taken) new
      → length old.held + length part ≤ most_held
      → (taken ≡ Some (length part)) × (new.held ≡ old.held ++ part)
  held-back part taken old new (inl (room, took, held, same)) fits = (took, held)
  held-back part taken old new (inr (none, rest)) fits = absurd (omega (arith, none, fits))

  -- and no write of them fails
  bytes-fit : {T E : Type 0} (bytes : List ℕ) (calls : List WriteCall) (outcome : Result T E) (old new : Buffer O)
      → WritesBytes bytes calls outcome → Calls (StepsBuffer out.step out.contents) old calls new
      → length old.held + length bytes ≤ most_held
      → IsOk outcome × (length new.held ≡ length old.held + length bytes)
  bytes-fit bytes [] outcome old new writes made fits = (writes.1, rw (made, writes.0) (omega arith))
  bytes-fit bytes (Writes part None ∷ calls) outcome old new writes (mid, step, rest) fits =
      absurd (none-some _ ((held-back part None old mid step.2 (rw writes.0 fits)).0))
  bytes-fit bytes (Writes part (Some zero) ∷ calls) outcome old new writes (mid, step, rest) fits =
      let took = held-back part (Some 0) old mid step.2 (rw writes.0 fits) in
      absurd (omega (arith, same_Some 0 (length part) took.0, ap (length {A = ℕ}) writes.0, writes.1))
  bytes-fit bytes (Writes part (Some (suc n)) ∷ calls) outcome old new writes (mid, step, rest) fits =
      let took = held-back part (Some (suc n)) old mid step.2 (rw writes.0 fits) in
      let whole = same_Some (suc n) (length part) took.0 in
      let same = ap (length {A = ℕ}) writes.0 in
      let held = ap (length {A = ℕ}) took.1 ∙ length-append old.held part in
      let left = length-drop (suc n) bytes in
      let more = bytes-fit (drop (suc n) bytes) calls outcome mid new writes.2 rest
      (omega (arith, whole, same, held, left, fits)) in
      (more.0, omega (arith, whole, same, held, left, more.1))

  -- lines that fit are held back
  lines-fit : (events : List FleetEvent) (replies : List Reply) (old new : Buffer O)
      → WritesLines (StepsBuffer out.step out.contents) (lines_of events replies) old new
      → length old.held + length (transcript events replies) ≤ most_held
      → length new.held ≡ length old.held + length (transcript events replies)
  lines-fit [] replies old new is fits = rw is (omega arith)
  lines-fit (event ∷ events) [] old new is fits = rw is (omega arith)
  lines-fit (event ∷ events) (reply ∷ replies) old new (mid, written, rest) fits =
      let both = length-append (line_of event reply) (transcript events replies) in
      let front =
      bytes-fit (line_of event reply) written.calls _ old mid written.writes written.made (omega (arith, both, fits)) in
      let behind = lines-fit events replies mid new rest (omega (arith, both, fits, front.1)) in
      omega (arith, both, front.1, behind)

  -- and so is a line that fits, which does not fail
  line-fits : (line : List ℕ) (old new : Buffer O) → FailsLine (StepsBuffer out.step out.contents) line old new
      → length old.held + length line ≤ most_held → ⊥
  unfolding most_text
  line-fits line old new (fault, inl written) fits =
      false≢true (bytes-fit line written.calls _ old new written.writes written.made fits).0
  line-fits line old new (fault, inr (long, failed, same)) fits = omega (arith, long, fits)

  pub stops_beyond_a_buffer : {M : Type 0} (calls : medium.Ghosts M) → StopsBeyondABuffer calls out
  stops_beyond_a_buffer calls text old new before after h =
      let s = h.stopped.ran.stopped in
      let front = transcript (take s.index (events_in text)) s.told in
      let line = line_of s.event s.cut in
      let none = ap (length {A = ℕ}) h.begins.1 in
      let fails : length (front ++ line) ≤ most_held → ⊥ =
      λ fits. line-fits line h.stopped.between h.last h.stopped.failed
      (omega (
        arith,
        length-append front line,
        none,
        fits,
        lines-fit (take s.index (events_in text)) s.told h.empty h.stopped.between h.stopped.written
            (omega (arith, length-append front line, none, fits)),
      )) in
      omega (arith, fails)
