-- A sink that records all its calls, for worked examples: it is the list of them.
use Rattle.std.specs.Prelude.{◌≡◌, Bool, List, [], ◌∷◌, ◌++◌}
use Rattle.script_text.specs.Streams.{WriteCall, OutputCall, Wrote, Flushed}

abbrev pub Writing : List OutputCall → WriteCall → List OutputCall → Type 0
Writing old call new = new ≡ old ++ Wrote call ∷ []

abbrev pub Flushing : List OutputCall → Bool → List OutputCall → Type 0
Flushing old done new = new ≡ old ++ Flushed done ∷ []
