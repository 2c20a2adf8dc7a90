-- Tickets: 0 to 2 ^ 64 - 1, each issued once, for the contracts of `ticket.rt`.
use Rattle.std.specs.Prelude.{ℕ, ◌^◌, Option, None, Some}

-- the next ticket, or 2 ^ 64 if none is left
abbrev pub next_number : Option ℕ → ℕ
next_number None = 2 ^ 64
next_number (Some number) = number
