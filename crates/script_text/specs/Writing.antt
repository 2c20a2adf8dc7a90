-- Writing bytes, for the contracts of `writing.rt` and of programs.
use Rattle.std.specs.Prelude.{
  ◌≡◌,
  ◌⊎◌,
  ◌<◌,
  ◌≤◌,
  ℕ,
  zero,
  suc,
  Bool,
  true,
  false,
  List,
  [],
  ◌∷◌,
  length,
  take,
  drop,
  Option,
  Some,
  None,
  Result,
  Ok,
  Err,
  IsOk,
  IsErr,
}
use Rattle.std.specs.Io.KnownBytes.{Appends}
use Rattle.std.specs.declared.io.Error.{Error}
use Rattle.script_text.specs.Streams.{WriteCall, Writes, OutputCall, Wrote, Flushed, Calls}

-- the first bytes were written, but not all
abbrev pub Cuts : Option (List ℕ) → Option (List ℕ) → List ℕ → Type 0
Cuts before after bytes = (n : ℕ) × (n < length bytes) × Appends before after (take n bytes)

-- The writes of bytes, and their result: each is given all bytes that are left, and the last is the one that fails,
-- that takes none, or after which none are left.
abbrev pub WritesBytes : {T E : Type 0} → List ℕ → List WriteCall → Result T E → Type 0
WritesBytes bytes [] outcome = (bytes ≡ []) × IsOk outcome
WritesBytes bytes (Writes part None ∷ calls) outcome =
    (part ≡ bytes) × (0 < length bytes) × (calls ≡ []) × IsErr outcome
WritesBytes bytes (Writes part (Some zero) ∷ calls) outcome =
    (part ≡ bytes) × (0 < length bytes) × (calls ≡ []) × IsErr outcome
WritesBytes bytes (Writes part (Some (suc n)) ∷ calls) outcome =
    (part ≡ bytes) × (suc n ≤ length bytes) × WritesBytes (drop (suc n) bytes) calls outcome

-- Bytes were written by their writes, and no others.
pub record IsWritten {S T E : Type 0} (step : S → WriteCall → S → Type 0) (bytes : List ℕ)
    (old : S) (outcome : Result T E) (new : S) : Type 0 where
  pub calls : List WriteCall
  pub writes : WritesBytes bytes calls outcome
  pub made : Calls step old calls new

-- The result of bytes that are written and then flushed: all were written, and the flush succeeded; or a write or the
-- flush failed, and no call was made after that.
pub data Sending : Type 0 where
  Sent : List ℕ → Sending
  Broken : List ℕ → Sending

-- Bytes were written by their writes and no others, each of all that was left of them, and then flushed; or it ended
-- with the first of these calls that failed.
abbrev pub IsSent : {W : Type 0} → (W → WriteCall → W → Type 0) → (W → Bool → W → Type 0) → W → Sending → W → Type 0
IsSent {W} write flush old (Sent bytes) new =
    (written : W) × IsWritten {T = Unit {0}} {E = Error} write bytes old (Ok tt) written × flush written true new
IsSent {W} write flush old (Broken bytes) new =
    ((fault : Error) × IsWritten {T = Unit {0}} write bytes old (Err fault) new)
    ⊎ ((written : W) × IsWritten {T = Unit {0}} {E = Error} write bytes old (Ok tt) written × flush written false new)

-- the first of these bytes, at least one
abbrev pub AreNext : List ℕ → List ℕ → Type 0
AreNext part bytes = (0 < length part) × (part ≡ take (length part) bytes)

-- The calls by which bytes are sent to an output, and whether all were: each write is given the next bytes, and after
-- the last of them there is one flush. The first call that fails, or takes none, is the last, and then they were not.
abbrev pub SendsBytes : List ℕ → List OutputCall → Bool → Type 0
SendsBytes bytes [] done = ⊥
SendsBytes bytes (Wrote (Writes part None) ∷ calls) done = AreNext part bytes × (calls ≡ []) × (done ≡ false)
SendsBytes bytes (Wrote (Writes part (Some zero)) ∷ calls) done = AreNext part bytes × (calls ≡ []) × (done ≡ false)
SendsBytes bytes (Wrote (Writes part (Some (suc n))) ∷ calls) done =
    AreNext part bytes × (suc n ≤ length part) × SendsBytes (drop (suc n) bytes) calls done
SendsBytes bytes (Flushed success ∷ calls) done = (bytes ≡ []) × (calls ≡ []) × (done ≡ success)
