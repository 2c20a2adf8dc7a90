-- The content of a medium, a list of bytes, 512 to a logical block (NVM Command Set Specification: LBA formats), and
-- the content after a transfer that a fault ended.
use Rattle.std.specs.Prelude.{
  ◌≡◌,
  ◌<◌,
  ◌≤◌,
  ℕ,
  ◌+◌,
  ◌-◌,
  ◌*◌,
  ◌^◌,
  min,
  Bool,
  IsTrue,
  List,
  length,
  take,
  slice_range,
  Result,
  IsOk,
  IsErr,
}
use Rattle.nvme_spec.specs.Bytes.{with_bytes}

-- A medium as the definitions see it: its content, and the number of its failed calls. Clauses on the content hold for
-- a medium that reveals it.
pub record Device : Type 0 where
  pub content : List ℕ
  pub failures : ℕ

-- a fact about the content of a medium that reveals it
abbrev pub Told : Bool → Type 0 → Type 0
Told tells fact = IsTrue tells → fact

-- block i
abbrev pub block_at : List ℕ → ℕ → List ℕ
block_at content i = slice_range content (512 * i) (512 * i + 512)

-- `len` bytes from block `first`
abbrev pub blocks_from : List ℕ → ℕ → ℕ → List ℕ
blocks_from content first len = slice_range content (512 * first) (512 * first + len)

-- block i may hold any bytes, and all others are unchanged
pub record Torn (i : ℕ) (old new : List ℕ) : Type 0 where
  pub left : List ℕ
  pub whole : length left ≡ 512
  pub is : new ≡ with_bytes old (512 * i) left

-- the failure count rose; a count at its maximum also counts as risen
abbrev pub HasRisen : ℕ → ℕ → Type 0
HasRisen before now = min (before + 1) (2 ^ 64 - 1) ≤ now

-- a call has failed: the count rose
pub record HasFailed (before now : ℕ) : Type 0 where
  pub later : before ≤ now
  pub risen : HasRisen before now

-- the count rose if and only if the call failed
pub record CountsFaults {T E : Type 0} (before now : ℕ) (result : Result T E) : Type 0 where
  pub done : IsOk result → now ≡ before
  pub failed : IsErr result → HasFailed before now

-- a write that ended at one of its blocks: those before it are new, it may hold any bytes, and later ones are old
pub record StopsWriting (first : ℕ) (bytes old new : List ℕ) : Type 0 where
  pub at : ℕ
  pub within : 512 * at < length bytes
  pub torn : Torn (first + at) (with_bytes old (512 * first) (take (512 * at) bytes)) new

-- the bytes read from block `first`, before a block that could not be read
pub record IsFront (tells : Bool) (first bytes : ℕ) (content front : List ℕ) : Type 0 where
  pub at : ℕ
  pub within : 512 * at < bytes
  pub size : length front ≡ 512 * at
  pub is : Told tells (front ≡ blocks_from content first (512 * at))
