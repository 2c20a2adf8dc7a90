-- A buffer before the output of a program, for the contracts of `buffered.rt`.
use Rattle.std.specs.Prelude.{◌≡◌, ◌⊎◌, ◌≤◌, ◌<◌, ◌+◌, ◌++◌, ℕ, List, [], length, Option, Some, None, Ok, Err}
use Rattle.std.specs.Borrow.{GName}
use Rattle.std.specs.Io.KnownBytes.{append_known}
use Rattle.std.specs.declared.io.Error.{Error}
use Rattle.script_text.specs.Streams.{WriteCall, Writes, WritesSome}
use Rattle.script_text.specs.Writing.{IsWritten}

-- the most bytes that are held back
abbrev pub most_held : ℕ
most_held = 8192

-- the output, the bytes that are held back before it, and which output it is
pub record Buffer (O : Type 0) : Type 0 where
  pub output : O
  pub held : List ℕ
  pub name : GName

-- what was written through it: the bytes of the output, and then those held back
abbrev pub buffer_contents : {O : Type 0} → (O → Option (List ℕ)) → Buffer O → Option (List ℕ)
buffer_contents contents buffer = append_known (contents buffer.output) buffer.held

-- bytes that fit are taken, all of them, and held back; the output is not called
abbrev pub HoldsBack : {O : Type 0} → Buffer O → List ℕ → Option ℕ → Buffer O → Type 0
HoldsBack old bytes taken new =
    (length old.held + length bytes ≤ most_held) × (taken ≡ Some (length bytes)) × (new.held ≡ old.held ++ bytes)
    × (new.output ≡ old.output)

-- After all that was held back: bytes that fit an empty buffer are taken and held back, and others are given to the
-- output, by one write.
abbrev pub GoesBehind : {O : Type 0} → (O → WriteCall → O → Type 0) → O → List ℕ → Option ℕ → Buffer O → Type 0
GoesBehind write output bytes taken new =
    ((length bytes ≤ most_held) × (taken ≡ Some (length bytes)) × (new.held ≡ bytes) × (new.output ≡ output))
    ⊎ ((most_held < length bytes) × write output (Writes bytes taken) new.output × (new.held ≡ []))

-- Before bytes that do not fit, those held back are written to the output, by their writes and no others. If one of
-- them fails, the bytes are not taken, and the output is not called again.
abbrev pub MakesRoom : {O : Type 0} → (O → WriteCall → O → Type 0) → Buffer O → List ℕ → Option ℕ → Buffer O → Type 0
MakesRoom {O} write old bytes taken new =
    (most_held < length old.held + length bytes)
    × (((fault : Error) × IsWritten {T = Unit {0}} write old.held old.output (Err fault) new.output × (taken ≡ None))
    ⊎ ((output : O) × IsWritten {T = Unit {0}} {E = Error} write old.held old.output (Ok tt) output
    × GoesBehind write output bytes taken new))

-- the effect of a call of the buffer on it and on the output
abbrev pub CallsOutput : {O : Type 0} → (O → WriteCall → O → Type 0) → Buffer O → WriteCall → Buffer O → Type 0
CallsOutput write old (Writes bytes taken) new = HoldsBack old bytes taken new ⊎ MakesRoom write old bytes taken new

-- A call appends what it takes to what was written, by just these calls of the output, which stays the same one. At
-- most the buffer's length is held back.
abbrev pub StepsBuffer : {O : Type 0} → (O → WriteCall → O → Type 0) → (O → Option (List ℕ)) → Buffer O → WriteCall
    → Buffer O → Type 0
StepsBuffer write contents old call new =
    (new.name ≡ old.name) × (length new.held ≤ most_held) × CallsOutput write old call new
    × WritesSome (buffer_contents contents) old call new
