-- For the laws `lines_are_answered` and `session_is_of_bytes`: a session over streams, and its known bytes.
use Rattle.std.proofs.Common.{
  ◌≡◌,
  ℕ,
  Bool,
  List,
  [],
  ◌∷◌,
  ◌++◌,
  Option,
  Some,
  inl,
  inr,
  refl,
  sym,
  ap,
  subst,
  append_assoc,
  append-nil,
}
use Rattle.std.specs.List.{All, concat}
use Rattle.std.specs.Io.KnownBytes.{Appends}
use Rattle.std.proofs.KnownBytes.{Appends-nil, Appends-trans}
use Rattle.std.proofs.lemmas.List.Elements.{All-head, All-tail}
use Rattle.nvme_spec.specs.Blocks.{Device}
use Rattle.nvme_spec.specs.Configuration.{Capacity}
use Rattle.script_text.specs.Streams.{WriteCall}
use Rattle.nvme_program.specs.declared.fault.ScriptFault.TheVariants.{Syntax, Config, TooLong, NoMemory, Read, Write}
use Rattle.nvme_live.specs.Conversations.{Converses, ReadsLines, SendsAll, Stops}
use Rattle.nvme_live.specs.SessionLaws.{AnsweredLinesAreASession, EndsInBytes, FailuresInBytes}
use Rattle.nvme_live.specs.SessionScripts.{text_of}
use Rattle.live_text.specs.Asking.{asked}
use Rattle.nvme_live.specs.Standings.{MayLackRoom, Standing, TurnOf}
use Rattle.script_text.specs.Writing.{Broken}
use Rattle.nvme_live.specs.Streams.{AddsKnown, LineCall, ReadsBy, SendsBy, TakesKnown}
use Rattle.nvme_live.specs.Taking.{IsOfLine, TakesLines}

pub known-lines : (lines : List (List ℕ)) (u v : Option (List ℕ)) → ReadsLines TakesKnown u lines v
    → TakesLines u lines v
known-lines [] u v h = h
known-lines (line ∷ lines) u v h = (h.0, h.1, known-lines lines h.0 v h.2)

pub known-answers : (answers : List (List ℕ)) (x z : Option (List ℕ))
    → SendsAll AddsKnown x answers z → Appends x z (concat answers)
known-answers [] x z h = subst (λ (t : Option (List ℕ)). Appends x t []) (sym h) (Appends-nil x)
known-answers (answer ∷ answers) x z h =
    Appends-trans x h.0 z answer (concat answers) h.1 (known-answers answers h.0 z h.2)

module _ {R W : Type 0} (read : R → LineCall → R → Type 0) (remaining : R → Option (List ℕ))
    (write : W → WriteCall → W → Type 0) (flush : W → Bool → W → Type 0) (contents : W → Option (List ℕ)) where
  reads-in-bytes : (lines : List (List ℕ)) (u v : R) → ReadsLines (ReadsBy read remaining) u lines v
      → ReadsLines TakesKnown (remaining u) lines (remaining v)
  reads-in-bytes [] u v h = ap remaining h
  reads-in-bytes (line ∷ lines) u v h = (remaining h.0, h.1.1, reads-in-bytes lines h.0 v h.2)

  sends-in-bytes : (answers : List (List ℕ)) (x z : W) → SendsAll (SendsBy write flush contents) x answers z
      → SendsAll AddsKnown (contents x) answers (contents z)
  sends-in-bytes [] x z h = ap contents h
  sends-in-bytes (answer ∷ answers) x z h = (contents h.0, h.1.1, sends-in-bytes answers h.0 z h.2)

  module _ (tells : Bool) (size : Capacity) (d : Device) (n : ℕ) (old : Standing) (unread : R) (before : W) where
    conversed-in-bytes : (k : ℕ) (new : Standing) (left : R) (after : W) → Converses (TurnOf tells size d)
        (ReadsBy read remaining) (SendsBy write flush contents) n old k new unread left before after
        → Converses (TurnOf tells size d) TakesKnown AddsKnown n old k new (remaining unread) (remaining left)
        (contents before) (contents after)
    conversed-in-bytes k new left after h = record {
      lines = h.lines;
      answers = h.answers;
      counted = h.counted;
      taken = reads-in-bytes h.lines unread left h.taken;
      went = h.went;
      sent = sends-in-bytes h.answers before after h.sent;
    }

    stops-in-bytes : (Unsent : Standing → List ℕ → W → List ℕ → W → Type 0)
        (Known : Standing → List ℕ → Option (List ℕ) → List ℕ → Option (List ℕ) → Type 0)
        → ((s : Standing) (line : List ℕ) (w z : W) (answer : List ℕ) → Unsent s line w answer z
        → Known s line (contents w) answer (contents z)) → (new : Standing) (left : R) (after : W)
        → Stops (TurnOf tells size d) (ReadsBy read remaining)
        (SendsBy write flush contents) Unsent n old new unread left before after
        → Stops (TurnOf tells size d) TakesKnown AddsKnown Known n old new (remaining unread) (remaining left)
        (contents before) (contents after)
    stops-in-bytes Unsent Known by new left after h = record {
      next = h.next;
      mid = h.mid;
      between = remaining h.between;
      written = contents h.written;
      conversed = conversed-in-bytes h.next h.mid h.between h.written h.conversed;
      line = h.line;
      taken = h.taken.1;
      answer = h.answer;
      turn = h.turn;
      unsent = by h.mid h.line h.written after h.answer h.unsent;
    }

  pub ends_in_bytes : EndsInBytes read remaining write flush contents
  ends_in_bytes tells size d n old new unread left before after h = record {
    next = h.next;
    end = remaining h.end;
    conversed = conversed-in-bytes tells size d n old unread before h.next new h.end after h.conversed;
    ended = h.ended.1;
  }

  pub failures_in_bytes : FailuresInBytes read remaining write flush contents
  failures_in_bytes (Config k fault) tells size d n old new unread left before after (next, h, is) =
      (next, conversed-in-bytes tells size d n old unread before next new left after h, is)
  failures_in_bytes Read tells size d n old new unread left before after (inl h) =
      inl (record {
        next = h.next;
        between = remaining h.between;
        conversed = conversed-in-bytes tells size d n old unread before h.next new h.between after h.conversed;
        failed = h.failed.1;
      })
  failures_in_bytes Read tells size d n old new unread left before after (inr h) =
      inr (record {
        next = h.next;
        conversed = conversed-in-bytes tells size d n old unread before h.next new left after h.conversed;
        many = h.many;
      })
  failures_in_bytes Write tells size d n old new unread left before after h =
      stops-in-bytes tells size d n old unread before
      (λ mid line w answer z. SendsBy write flush contents w (Broken answer) z)
      (λ mid line w answer z. AddsKnown w (Broken answer) z) (λ mid line w z answer s. s.1) new left after h
  failures_in_bytes NoMemory tells size d n old new unread left before after (inl h) = inl (record {
    next = h.next;
    between = remaining h.between;
    conversed = conversed-in-bytes tells size d n old unread before h.next new h.between after h.conversed;
    line = h.line;
    taken = h.taken.1;
    says = h.says;
    sets = h.sets;
    starved = h.starved;
  })
  failures_in_bytes NoMemory tells size d n old new unread left before after (inr h) =
      inr (stops-in-bytes tells size d n old unread before
      (λ mid line w answer z. MayLackRoom mid (asked line) answer × (z ≡ w)) (λ mid line w answer z.
      MayLackRoom mid (asked line) answer × (z ≡ w)) (λ mid line w z answer s. (s.0, ap contents s.1)) new left after h)
  failures_in_bytes (Syntax k) tells size d n old new unread left before after h = absurd h
  failures_in_bytes TooLong tells size d n old new unread left before after h = absurd h

-- A session in bytes exists.
lines-taken : (lines : List (List ℕ))
    → All IsOfLine lines → ReadsLines TakesKnown (Some (text_of lines)) lines (Some [])
lines-taken [] h = refl
lines-taken (line ∷ lines) h = (
  Some (text_of lines),
  record { of_line = All-head IsOfLine line lines h; taken = inl refl },
  lines-taken lines (All-tail IsOfLine line lines h),
)

answers-added : (answers : List (List ℕ)) (before : List ℕ)
    → SendsAll AddsKnown (Some before) answers (Some (before ++ concat answers))
answers-added [] before = ap Some (append-nil before)
answers-added (answer ∷ answers) before = (
  Some (before ++ answer),
  refl,
  subst (λ t. SendsAll AddsKnown (Some (before ++ answer)) answers (Some t))
      (append_assoc before answer (concat answers)) (answers-added answers (before ++ answer)),
)

pub answered_lines_are_a_session : AnsweredLinesAreASession
answered_lines_are_a_session tells size d n old new lines answers before of_line went = record {
  next = _;
  end = Some [];
  conversed = record {
    lines = lines;
    answers = answers;
    counted = refl;
    taken = lines-taken lines of_line;
    went = went;
    sent = answers-added answers before;
  };
  ended = (refl, refl);
}
