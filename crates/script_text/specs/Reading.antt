-- Reading a text to its end, for the contract of `read_text`.
use Rattle.std.specs.Prelude.{
  ◌≡◌,
  ◌<◌,
  ◌≤◌,
  ◌⊎◌,
  ◌+◌,
  ◌-◌,
  ℕ,
  min,
  List,
  [],
  ◌∷◌,
  ◌++◌,
  length,
  Option,
  Some,
  None,
  IsOk,
  Result,
  Ok,
  Err,
}
use Rattle.std.specs.Io.KnownBytes.{Consumes, IsAtEnd}
use Rattle.script_text.specs.Streams.{ReadCall, Reads, Calls, all_come}
use Rattle.script_text.specs.declared.reading.ReadFault.{ReadFault}
use Rattle.script_text.specs.declared.reading.ReadFault.TheVariants.{TooLong, NoMemory, Read}

-- the longest script, in bytes
abbrev pub longest : ℕ
longest = 4194304

-- the length of the next read, after these bytes: 4,096 bytes, but at most up to one byte more than the longest text
abbrev pub IsNext : List ℕ → ℕ → Type 0
IsNext before room = (length before ≤ longest) × (room ≡ min (longest + 1 - length before) 4096)

-- The reads of a text, after those that gave the bytes before, and their result. The last read is the one that fails,
-- that gives no more, for whose bytes memory is refused, or that gives the first byte too many.
abbrev pub ReadsText : List ℕ → List ReadCall → Result (List ℕ) ReadFault → Type 0
ReadsText before [] outcome = (longest < length before) × (outcome ≡ Err TooLong)
ReadsText before (Reads room None ∷ calls) outcome = IsNext before room × (calls ≡ []) × (outcome ≡ Err Read)
ReadsText before (Reads room (Some []) ∷ calls) outcome = IsNext before room × (calls ≡ []) × (outcome ≡ Ok before)
ReadsText before (Reads room (Some (byte ∷ bytes)) ∷ calls) outcome =
    IsNext before room × (length (byte ∷ bytes) ≤ room)
    × (((calls ≡ []) × (outcome ≡ Err NoMemory)) ⊎ ReadsText (before ++ byte ∷ bytes) calls outcome)

-- A text was read, after those bytes, by its reads and no others. What the reader had left, if that is known, lost the
-- bytes that came.
pub record ReadsOn {S : Type 0} (step : S → ReadCall → S → Type 0) (remaining : S → Option (List ℕ))
    (before : List ℕ) (old : S) (outcome : Result (List ℕ) ReadFault) (new : S) : Type 0 where
  pub calls : List ReadCall
  pub text : ReadsText before calls outcome
  pub made : Calls step old calls new
  pub consumed : Consumes (remaining old) (remaining new) (all_come calls)
  pub ended : IsOk outcome → IsAtEnd (remaining new)

-- a text was read from its beginning
abbrev pub IsRead : {S : Type 0} → (S → ReadCall → S → Type 0) → (S → Option (List ℕ))
    → S → Result (List ℕ) ReadFault → S → Type 0
IsRead step remaining old outcome new = ReadsOn step remaining [] old outcome new
