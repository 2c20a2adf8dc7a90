-- The calls of a session's streams: of the source of its lines, which are read one at a time, and of the sink for its
-- answers, each of which is flushed.
use Rattle.std.specs.Prelude.{◌≡◌, ◌⊎◌, ℕ, Bool, true, false, List, [], Option, Result, Ok, Err}
use Rattle.std.specs.Io.KnownBytes.{Appends, IsAtEnd, Keeps}
use Rattle.script_text.specs.Streams.{WriteCall}
use Rattle.script_text.specs.Writing.{IsSent, Sending, Sent, Broken}
use Rattle.nvme_program.specs.declared.fault.ScriptFault.{ScriptFault}
use Rattle.nvme_program.specs.declared.fault.ScriptFault.TheVariants.{Syntax, Config, TooLong, NoMemory, Read, Write}
use Rattle.nvme_live.specs.Saying.{Breaks}
use Rattle.nvme_live.specs.Taking.{TakesFront, TakesLine, kept}

-- One call of a source of lines: the line that came, whole and without its line feed; the end of the input; or a
-- failure.
pub data LineCall : Type 0 where
  Came : List ℕ → LineCall
  Ended : LineCall
  Failed : LineCall

-- what a call of a source takes of known bytes
abbrev pub TakesKnown : Option (List ℕ) → LineCall → Option (List ℕ) → Type 0
TakesKnown old (Came line) new = TakesLine old line new
TakesKnown old Ended new = IsAtEnd old × Keeps old new
TakesKnown old Failed new = TakesFront old new

-- the known bytes after an answer
abbrev pub AddsKnown : Option (List ℕ) → Sending → Option (List ℕ) → Type 0
AddsKnown old (Sent answer) new = Appends old new answer
AddsKnown old (Broken answer) new = Breaks old new answer

-- one call was made of a source of lines, and it took just this of the bytes that the source has left
abbrev pub ReadsBy : {R : Type 0} → (R → LineCall → R → Type 0) → (R → Option (List ℕ)) → R → LineCall → R → Type 0
ReadsBy read remaining old call new = read old call new × TakesKnown (remaining old) call (remaining new)

-- an answer was sent, or not, and its bytes were appended to those of the sink
abbrev pub SendsBy : {W : Type 0} → (W → WriteCall → W → Type 0) → (W → Bool → W → Type 0) → (W → Option (List ℕ))
    → W → Sending → W → Type 0
SendsBy write flush contents old sending new =
    IsSent write flush old sending new × AddsKnown (contents old) sending (contents new)

-- The result of reading a line: one call, by which a line came, whose front is stored, or none did.
abbrev pub GivesLine : {R : Type 0} → (R → LineCall → R → Type 0) → Bool → R → R → List ℕ → Type 0
GivesLine Reads true old new line = (whole : List ℕ) × Reads old (Came whole) new × (line ≡ kept whole)
GivesLine Reads false old new line = Reads old Ended new × (line ≡ [])

-- The result of sending an answer: it was sent, or a call failed; or else, if such an answer may not fit, nothing was
-- called.
abbrev pub Says : {W : Type 0} → (W → Sending → W → Type 0) → (List ℕ → Type 0) → Result (Unit {0}) ScriptFault → List ℕ
    → W → W → Type 0
Says Sends MayBe (Ok done) answer old new = Sends old (Sent answer) new
Says Sends MayBe (Err Write) answer old new = Sends old (Broken answer) new
Says Sends MayBe (Err NoMemory) answer old new = MayBe answer × (new ≡ old)
Says Sends MayBe (Err (Syntax k)) answer old new = ⊥
Says Sends MayBe (Err (Config k fault)) answer old new = ⊥
Says Sends MayBe (Err TooLong) answer old new = ⊥
Says Sends MayBe (Err Read) answer old new = ⊥
