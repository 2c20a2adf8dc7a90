-- For the answer of `number_in`: the length of the rest of a text.
use Rattle.std.proofs.Common.{◌≤◌, ℕ, ◌+◌, List, length, Option, Some, None, Bor}
use Rattle.std.specs.Prelude.{IfSome}

abbrev pub left_length : Option (Bor (List ℕ)) → ℕ
left_length None = 0
left_length (Some rest) = length rest.now + 1

abbrev pub IsWithin : Option (Bor (List ℕ)) → ℕ → Type 0
IsWithin rest n = IfSome rest (λ r. length r.now ≤ n)
