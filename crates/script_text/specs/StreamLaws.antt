-- Statements of laws: what follows for texts and bytes from the answers of reads and writes.
use Rattle.std.specs.Prelude.{
  ◌≡◌,
  ◌≢◌,
  ◌<◌,
  ◌≤◌,
  ◌+◌,
  ℕ,
  List,
  [],
  ◌∷◌,
  length,
  Option,
  Some,
  None,
  IfSome,
  Result,
  Ok,
  Err,
  MatchResult,
}
use Rattle.std.specs.Io.KnownBytes.{Consumes, IsAtEnd}
use Rattle.std.specs.declared.io.Error.{Error}
use Rattle.script_text.specs.Streams.{ReadCall, WriteCall, Writes, all_come}
use Rattle.script_text.specs.Reading.{longest, ReadsText}
use Rattle.script_text.specs.Writing.{WritesBytes}
use Rattle.script_text.specs.declared.reading.ReadFault.{ReadFault}
use Rattle.script_text.specs.declared.reading.ReadFault.TheVariants.{TooLong, NoMemory, Read}

-- the bytes that came, by the result of reading a text
abbrev pub HasCome : Result (List ℕ) ReadFault → List ℕ → Type 0
HasCome (Ok text) bytes = (bytes ≡ text) × (length bytes ≤ longest)
HasCome (Err TooLong) bytes = length bytes ≡ longest + 1
HasCome (Err NoMemory) bytes = length bytes ≤ longest + 1
HasCome (Err Read) bytes = length bytes ≤ longest

-- all bytes of a text have come; for one that is too long, one byte more than the limit; before a failed read, at most
-- the longest text
abbrev pub TextHasCome : Type 0
TextHasCome = (calls : List ReadCall) (outcome : Result (List ℕ) ReadFault) → ReadsText [] calls outcome
    → HasCome outcome (all_come calls)

-- the answers of the reads determine the result, unless memory is refused
abbrev pub ReadingIsDetermined : Type 0
ReadingIsDetermined = (calls : List ReadCall) (one other : Result (List ℕ) ReadFault)
    → ReadsText [] calls one → ReadsText [] calls other → one ≢ Err NoMemory → other ≢ Err NoMemory → one ≡ other

-- and each text of at most this length can be read
abbrev pub TextCanBeRead : Type 0
TextCanBeRead = (text : List ℕ) → length text ≤ longest
    → (calls : List ReadCall) × ReadsText [] calls (Ok text) × (all_come calls ≡ text)

-- a reader whose remaining bytes are known gives them all, if it gives a text
abbrev pub KnownTextIsRead : Type 0
KnownTextIsRead = (old new : Option (List ℕ)) (calls : List ReadCall) (text : List ℕ) → ReadsText [] calls (Ok text)
    → Consumes old new (all_come calls) → IsAtEnd new → IfSome old (λ bytes. bytes ≡ text)

-- the number of bytes that writes took
abbrev pub all_taken : List WriteCall → ℕ
all_taken [] = 0
all_taken (Writes part (Some n) ∷ calls) = n + all_taken calls
all_taken (Writes part None ∷ calls) = all_taken calls

-- writes without a fault took all bytes, and others did not
abbrev pub BytesAreTaken : Type 0
BytesAreTaken = (bytes : List ℕ) (calls : List WriteCall) (outcome : Result (Unit {0}) Error)
    → WritesBytes bytes calls outcome
    → MatchResult outcome (λ _. all_taken calls ≡ length bytes) (λ _. all_taken calls < length bytes)

-- and all bytes can be written
abbrev pub BytesCanBeWritten : Type 0
BytesCanBeWritten =
    (bytes : List ℕ) → (calls : List WriteCall) × WritesBytes {T = Unit {0}} {E = Error} bytes calls (Ok tt)
