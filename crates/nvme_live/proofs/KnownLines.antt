-- For the answer of `live_over`: a session whose lines are read, by the known bytes that are left to read.
use Rattle.std.proofs.Common.{◌≡◌, ℕ, Bool, List, [], ◌∷◌, Option, None, Some, Ok, Err, inl, inr, refl, ap, subst}
use Rattle.std.specs.Prelude.{◌==◌, if◌then◌else◌}
use Rattle.std.specs.Io.KnownBytes.{prepend_known}
use Rattle.std.specs.Io.Buffered.{reader_buffer, reader_capacity, reader_inner, reader_remaining}
use Rattle.std.specs.declared.io.buffered.BufReader.{BufReader}
use Rattle.nvme_spec.specs.Blocks.{Device}
use Rattle.nvme_spec.specs.Configuration.{Capacity}
use Rattle.nvme_spec.specs.MediumCalls.{MediumCall}
use Rattle.nvme_subsys.specs.OverMedium.{OverMedium}
use Rattle.script_text.specs.Streams.{ReadCall, WriteCall}
use Rattle.nvme_program.specs.declared.fault.ScriptFault.{ScriptFault}
use Rattle.nvme_program.specs.declared.fault.ScriptFault.TheVariants.{Syntax, Config, TooLong, NoMemory, Read, Write}
use Rattle.nvme_live.specs.AnswerCalls.{TurnOver}
use Rattle.nvme_live.specs.Conversations.{Converses, Ends, EndsBy, ReadsLines, Stops, standing_over}
use Rattle.nvme_live.specs.Lives.{Fails, FailsBehindReading, Lives, LivesOn, surroundings}
use Rattle.nvme_live.specs.Standings.{Standing}
use Rattle.script_text.specs.Writing.{Sending}
use Rattle.nvme_live.specs.Streams.{LineCall, SendsBy, TakesKnown}

-- an empty buffer has left what its stream has
prepend-nothing : (x : Option (List ℕ)) → prepend_known [] x ≡ x
prepend-nothing None = refl
prepend-nothing (Some xs) = refl

known-ahead : (room : ℕ) (ahead : List ℕ) (x : Option (List ℕ))
    → ahead ≡ [] → room ≡ 8192 → (if room == 0 then None else prepend_known ahead x) ≡ x
known-ahead room ahead x none is = rw (is, none) (prepend-nothing x)

pub nothing-ahead : {T A : Type 0} (remaining : T → Option (List ℕ)) (r : BufReader T A)
    → reader_buffer r ≡ [] → reader_capacity r ≡ 8192
    → reader_remaining remaining r ≡ remaining (reader_inner r)
nothing-ahead remaining r none room =
    known-ahead (reader_capacity r) (reader_buffer r) (remaining (reader_inner r)) none room

module _ {R : Type 0} (Reads : R → LineCall → R → Type 0) (known : R → Option (List ℕ))
    (by : (u : R) (call : LineCall) (v : R) → Reads u call v → TakesKnown (known u) call (known v)) where
  lines-known : (lines : List (List ℕ)) (u v : R)
      → ReadsLines Reads u lines v → ReadsLines TakesKnown (known u) lines (known v)
  lines-known [] u v h = ap known h
  lines-known (line ∷ lines) u v h = (known h.0, by u _ h.0 h.1, lines-known lines h.0 v h.2)

  module _ {S W : Type 0} (Turns : ℕ → S → List ℕ → List ℕ → S → Type 0) (Sends : W → Sending → W → Type 0) (n : ℕ)
      (old : S) (unread : R) (before : W) where
    conversed : (k : ℕ) (new : S) (left : R) (after : W)
        → Converses Turns Reads Sends n old k new unread left before after
        → Converses Turns TakesKnown Sends n old k new (known unread) (known left) before after
    conversed k new left after h = record {
      lines = h.lines;
      answers = h.answers;
      counted = h.counted;
      taken = lines-known h.lines unread left h.taken;
      went = h.went;
      sent = h.sent;
    }

    ends : (new : S) (left : R) (after : W) → Ends Turns Reads Sends n old new unread left before after
        → Ends Turns TakesKnown Sends n old new (known unread) (known left) before after
    ends new left after h = record {
      next = h.next;
      end = known h.end;
      conversed = conversed h.next new h.end after h.conversed;
      ended = by h.end _ left h.ended;
    }

    stops : (Unsent : S → List ℕ → W → List ℕ → W → Type 0) (new : S) (left : R) (after : W)
        → Stops Turns Reads Sends Unsent n old new unread left before after
        → Stops Turns TakesKnown Sends Unsent n old new (known unread) (known left) before after
    stops Unsent new left after h = record {
      next = h.next;
      mid = h.mid;
      between = known h.between;
      written = h.written;
      conversed = conversed h.next h.mid h.between h.written h.conversed;
      line = h.line;
      taken = by h.between _ left h.taken;
      answer = h.answer;
      turn = h.turn;
      unsent = h.unsent;
    }

    ends-by : (standing : S → Standing) (fault : ScriptFault) (new : S) (left : R) (after : W)
        → EndsBy fault Turns Reads Sends standing n old new unread left before after
        → EndsBy fault Turns TakesKnown Sends standing n old new (known unread) (known left) before after
    ends-by standing (Config k fault) new left after (next, h, is) = (next, conversed next new left after h, is)
    ends-by standing Read new left after (inl h) = inl (record {
      next = h.next;
      between = known h.between;
      conversed = conversed h.next new h.between after h.conversed;
      failed = by h.between _ left h.failed;
    })
    ends-by standing Read new left after (inr h) =
        inr (record { next = h.next; conversed = conversed h.next new left after h.conversed; many = h.many })
    ends-by standing Write new left after h = stops _ new left after h
    ends-by standing NoMemory new left after (inl h) = inl (record {
      next = h.next;
      between = known h.between;
      conversed = conversed h.next new h.between after h.conversed;
      line = h.line;
      taken = by h.between _ left h.taken;
      says = h.says;
      sets = h.sets;
      starved = h.starved;
    })
    ends-by standing NoMemory new left after (inr h) = inr (stops _ new left after h)
    ends-by standing (Syntax k) new left after h = absurd h
    ends-by standing TooLong new left after h = absurd h

  module _ {M W : Type 0} (step : M → MediumCall → M → Type 0) (tells : Bool) (device : M → Device)
      (write : W → WriteCall → W → Type 0) (flush : W → Bool → W → Type 0) (contents : W → Option (List ℕ))
      (size : Capacity)
      (unread left : R) (before after : W) (medium new : M) where
    behind : (text : List ℕ) (Ended Known : OverMedium Standing M → W → OverMedium Standing M → Type 0)
        → ((first : OverMedium Standing M) (told : W) (last : OverMedium Standing M) → Ended first told last
        → Known first told last)
        → Lives step tells device write flush contents size text medium before new Ended
        → Lives step tells device write flush contents size text medium before new Known
    behind text Ended Known lifts h = record {
      first = h.first;
      told = h.told;
      opened = h.opened;
      rests = record {
        last = h.rests.last;
        ended = lifts h.first h.told h.rests.last h.rests.ended;
        medium = h.rests.medium;
        rests = h.rests.rests;
      };
    }

    pub lives-on-known : (from : Option (List ℕ)) → known unread ≡ from → (text : List ℕ) → LivesOn step tells device
        Reads write flush contents size text (surroundings unread before medium) (surroundings left after new)
        → LivesOn step tells device TakesKnown write flush contents size text (surroundings from before medium)
        (surroundings (known left) after new)
    lives-on-known from is text h =
        subst (λ (x : Option (List ℕ)). LivesOn step tells device TakesKnown write flush contents size text
        (surroundings x before medium) (surroundings (known left) after new)) is
        (behind text _ _ (λ first told last. ends (TurnOver step tells size (device medium))
        (SendsBy write flush contents) 1 first unread told last left after) h)

    fails-known : (text : List ℕ) (fault : ScriptFault) → Fails step tells device Reads write flush contents size text
        fault (surroundings unread before medium) (surroundings left after new)
        → Fails step tells device TakesKnown write flush contents size text fault
        (surroundings (known unread) before medium) (surroundings (known left) after new)
    fails-known text fault (inl (first, same)) = inl (first, ap known same)
    fails-known text fault (inr h) = inr (behind text _ _
        (λ first told last. ends-by (TurnOver step tells size (device medium))
        (SendsBy write flush contents) 1 first unread told standing_over fault last left after) h)

    fails-reading : {T : Type 0} (read : T → ReadCall → T → Type 0) (remaining : T → Option (List ℕ)) (script done : T)
        (fault : ScriptFault)
        → FailsBehindReading read remaining script done fault (surroundings unread before medium)
        (surroundings left after new)
        (λ text. Fails step tells device Reads write flush contents size text fault (surroundings unread before medium)
        (surroundings left after new))
        → FailsBehindReading read remaining script done fault (surroundings (known unread) before medium)
        (surroundings (known left) after new)
        (λ text. Fails step tells device TakesKnown write flush contents size text fault
        (surroundings (known unread) before medium) (surroundings (known left) after new))
    fails-reading read remaining script done fault (Ok text, is, h) = (Ok text, is, fails-known text fault h)
    fails-reading read remaining script done fault (Err reading, is, (same, kept)) =
        (Err reading, is, (same, ap (λ s. surroundings (known s.reader) s.writer s.medium) kept))

    pub fails-reading-known : {T : Type 0} (from : Option (List ℕ)) → known unread ≡ from
        → (read : T → ReadCall → T → Type 0) (remaining : T → Option (List ℕ)) (script done : T) (fault : ScriptFault)
        → FailsBehindReading read remaining script done fault (surroundings unread before medium)
        (surroundings left after new)
        (λ text. Fails step tells device Reads write flush contents size text fault (surroundings unread before medium)
        (surroundings left after new))
        → FailsBehindReading read remaining script done fault (surroundings from before medium)
        (surroundings (known left) after new)
        (λ text. Fails step tells device TakesKnown write flush contents size text fault
        (surroundings from before medium) (surroundings (known left) after new))
    fails-reading-known from is read remaining script done fault h =
        subst (λ (x : Option (List ℕ)). FailsBehindReading read remaining script done fault
        (surroundings x before medium) (surroundings (known left) after new)
        (λ text. Fails step tells device TakesKnown write flush contents size text fault (surroundings x before medium)
        (surroundings (known left) after new))) is (fails-reading read remaining script done fault h)
