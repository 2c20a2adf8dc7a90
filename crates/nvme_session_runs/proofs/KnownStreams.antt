-- For example runs of sessions: streams of known bytes.
use Rattle.std.proofs.Common.{
  ◌≤◌,
  ◌++◌,
  ℕ,
  List,
  [],
  ◌∷◌,
  length,
  Option,
  Some,
  Ok,
  inl,
  refl,
  ap,
  subst,
  append_assoc,
  append-nil,
  arith,
}
use Rattle.std.specs.declared.io.Error.{Error}
use Rattle.std.specs.List.{All, concat, prefix_len}
use Rattle.std.proofs.lemmas.List.Elements.{All-cons, All-head, All-nil, All-tail}
use Rattle.script_text.specs.Lines.{is_of_line}
use Rattle.script_text.specs.Streams.{Calls, WriteCall, Writes}
use Rattle.script_text.specs.Writing.{WritesBytes}
use Rattle.nvme_live.specs.Conversations.{ReadsLines, SendsAll}
use Rattle.nvme_live.specs.SessionScripts.{text_of}
use Rattle.nvme_live.specs.Streams.{ReadsBy, SendsBy}
use Rattle.nvme_live.specs.Taking.{IsOfLine}
use Rattle.nvme_live.proofs.Takings.{whole-of_line}
use Rattle.nvme_session_runs.specs.SavedSessions.{AnyFlush, AnyRead, AnyWrite, known}

-- Streams of known bytes.

pub read-all : (lines : List (List ℕ)) → All IsOfLine lines
    → ReadsLines (ReadsBy AnyRead known) (Some (text_of lines)) lines (Some [])
read-all [] h = refl
read-all (line ∷ lines) h = (
  Some (text_of lines),
  (tt, record { of_line = All-head IsOfLine line lines h; taken = inl refl }),
  read-all lines (All-tail IsOfLine line lines h),
)

-- a sink that takes one byte at a time
abbrev byte-by-byte : List ℕ → List WriteCall
byte-by-byte [] = []
byte-by-byte (b ∷ bytes) = Writes (b ∷ bytes) (Some 1) ∷ byte-by-byte bytes

writes-all : (bytes : List ℕ) → WritesBytes {T = Unit {0}} {E = Error} bytes (byte-by-byte bytes) (Ok tt)
writes-all [] = (refl, refl)
writes-all (b ∷ bytes) = (refl, omega arith, writes-all bytes)

calls-all : (bytes : List ℕ) (sink : Option (List ℕ)) → Calls AnyWrite sink (byte-by-byte bytes) sink
calls-all [] sink = refl
calls-all (b ∷ bytes) sink = (sink, tt, calls-all bytes sink)

pub send-all : (answers : List (List ℕ)) (before : List ℕ)
    → SendsAll (SendsBy AnyWrite AnyFlush known) (Some before) answers (Some (before ++ concat answers))
send-all [] before = ap Some (append-nil before)
send-all (answer ∷ answers) before = (
  Some (before ++ answer),
  (
    (
      Some before,
      record { calls = byte-by-byte answer; writes = writes-all answer; made = calls-all answer (Some before) },
      tt,
    ),
    refl,
  ),
  subst (λ t. SendsAll (SendsBy AnyWrite AnyFlush known) (Some (before ++ answer)) answers (Some t))
      (append_assoc before answer (concat answers)) (send-all answers (before ++ answer)),
)

-- no line has a line feed
abbrev pub AreWhole : List (List ℕ) → Type 0
AreWhole [] = Unit {0}
AreWhole (line ∷ lines) = (length line ≤ prefix_len is_of_line line) × AreWhole lines

pub whole-lines : (lines : List (List ℕ)) → AreWhole lines → All IsOfLine lines
whole-lines [] h = All-nil IsOfLine
whole-lines (line ∷ lines) h = All-cons IsOfLine line lines (whole-of_line line h.0) (whole-lines lines h.1)
