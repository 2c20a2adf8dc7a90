-- The calls of streams, each with its answer, in order, for contracts of readers and writers.
use Rattle.std.specs.Prelude.{
  ◌≡◌,
  ◌<◌,
  ◌≤◌,
  ℕ,
  List,
  [],
  ◌∷◌,
  ◌++◌,
  length,
  take,
  Bool,
  Option,
  Some,
  None,
  Result,
  Ok,
  Err,
}
use Rattle.std.specs.Io.KnownBytes.{Consumes, Appends, Keeps, IsAtEnd}

-- One read of a stream: the length of the buffer, and the bytes that were read, or `None` if the read failed.
pub data ReadCall : Type 0 where
  Reads : ℕ → Option (List ℕ) → ReadCall

-- One write to a stream: the bytes to write, and the number that were written, or `None` if the write failed.
pub data WriteCall : Type 0 where
  Writes : List ℕ → Option ℕ → WriteCall

-- One call of an output stream: a write, or a flush and whether it succeeded.
pub data OutputCall : Type 0 where
  Wrote : WriteCall → OutputCall
  Flushed : Bool → OutputCall

-- the bytes that a read put at the front of its buffer, or `None` if it failed
abbrev pub come : {E : Type 0} → Result ℕ E → List ℕ → Option (List ℕ)
come (Ok n) part = Some (take n part)
come (Err e) part = None

-- the answer of a write
abbrev pub taken : {E : Type 0} → Result ℕ E → Option ℕ
taken (Ok n) = Some n
taken (Err e) = None

-- these calls, in order, take the stream from the old state to the new one
abbrev pub Calls : {S C : Type 0} → (S → C → S → Type 0) → S → List C → S → Type 0
Calls step old [] new = new ≡ old
Calls {S} step old (call ∷ calls) new = (mid : S) × step old call mid × Calls step mid calls new

-- which states may follow a call of an output: those after a write, or after a flush
abbrev pub StepsOutput : {W : Type 0} → (W → WriteCall → W → Type 0) → (W → Bool → W → Type 0) → W → OutputCall → W
    → Type 0
StepsOutput write flush old (Wrote call) new = write old call new
StepsOutput write flush old (Flushed done) new = flush old done new

-- all bytes that came
abbrev pub all_come : List ReadCall → List ℕ
all_come [] = []
all_come (Reads room (Some bytes) ∷ calls) = bytes ++ all_come calls
all_come (Reads room None ∷ calls) = all_come calls

-- the effect of a call of any reader on its remaining bytes, if those are known
abbrev pub ReadsSome : {R : Type 0} → (R → Option (List ℕ)) → R → ReadCall → R → Type 0
ReadsSome remaining old (Reads room (Some bytes)) new =
    Consumes (remaining old) (remaining new) bytes × (length bytes ≤ room)
    × (bytes ≡ [] → 0 < room → IsAtEnd (remaining new))
ReadsSome remaining old (Reads room None) new = Keeps (remaining old) (remaining new)

-- the effect of a call of any writer on its bytes, if those are known
abbrev pub WritesSome : {W : Type 0} → (W → Option (List ℕ)) → W → WriteCall → W → Type 0
WritesSome contents old (Writes bytes (Some n)) new =
    Appends (contents old) (contents new) (take n bytes) × (n ≤ length bytes)
WritesSome contents old (Writes bytes None) new = Keeps (contents old) (contents new)
