-- Readers and writers for worked examples of streams.
use Rattle.std.specs.Prelude.{ℕ, Bool, List, Option, None}
use Rattle.script_text.specs.Streams.{ReadCall, WriteCall}

-- any call of a reader of which nothing is known
abbrev pub any_read : Unit {0} → ReadCall → Unit {0} → Type 0
any_read old call new = Unit {0}

-- no call of a reader
abbrev pub no_read : Unit {0} → ReadCall → Unit {0} → Type 0
no_read old call new = ⊥

-- no write, and any flush
abbrev pub unable_write : Unit {0} → WriteCall → Unit {0} → Type 0
unable_write old call new = ⊥

abbrev pub any_flush : Unit {0} → Bool → Unit {0} → Type 0
any_flush old done new = Unit {0}

-- unknown remaining bytes
abbrev pub unknown_bytes : Unit {0} → Option (List ℕ)
unknown_bytes reader = None

-- a stream that is its known bytes
abbrev pub known_bytes : Option (List ℕ) → Option (List ℕ)
known_bytes bytes = bytes
