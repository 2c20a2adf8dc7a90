-- A medium for the worked examples in `examples.rt`.
use Rattle.std.specs.Prelude.{◌≡◌, List, [], ◌∷◌, ◌++◌}
use Rattle.nvme_spec.specs.MediumCalls.{MediumCall}

-- a medium whose state is the list of its calls
abbrev pub logs : List MediumCall → MediumCall → List MediumCall → Type 0
logs old call new = new ≡ old ++ (call ∷ [])
