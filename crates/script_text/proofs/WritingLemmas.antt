-- For the answer of `write_front` and for programs: bytes that are written one after the other.
use Rattle.std.proofs.Common.{
  ◌≡◌,
  ◌<◌,
  ◌≤◌,
  ℕ,
  zero,
  suc,
  List,
  [],
  ◌∷◌,
  ◌++◌,
  length,
  drop,
  Option,
  Some,
  None,
  Err,
  refl,
  ap,
  ◌∙◌,
  append_assoc,
  arith,
}
use Rattle.std.specs.Prelude.{Result, IsOk}
use Rattle.std.specs.Io.KnownBytes.{Appends}
use Rattle.script_text.specs.Streams.{WriteCall, Writes}
use Rattle.script_text.specs.Writing.{IsWritten}

pub Appends-more : (x y z : Option (List ℕ)) (p q : List ℕ) → Appends x y p → Appends y z q → Appends x z (p ++ q)
Appends-more None y z p q h k = tt
Appends-more (Some xs) None z p q h k = absurd h
Appends-more (Some xs) (Some ys) None p q h k = absurd k
Appends-more (Some xs) (Some ys) (Some zs) p q h k = k ∙ ap (λ t. t ++ q) h ∙ append_assoc xs p q

module _ {S T E : Type 0} (step : S → WriteCall → S → Type 0) (bytes : List ℕ) (old : S) (outcome : Result T E) where
  -- none are left
  pub written-whole : length bytes ≡ 0 → IsOk outcome → IsWritten step bytes old outcome old
  written-whole none ok = record { calls = []; writes = (by bytes none, ok); made = refl }
    where
      by : (xs : List ℕ) → length xs ≡ 0 → xs ≡ []
      by [] h = refl
      by (x ∷ xs) h = absurd (omega (arith, h))

  module _ (mid : S) (some : 0 < length bytes) where
    -- a write that failed
    pub write-failed : step old (Writes bytes None) mid → (fault : E)
        → outcome ≡ Err fault → IsWritten step bytes old outcome mid
    write-failed made fault is =
        record { calls = Writes bytes None ∷ []; writes = (refl, some, refl, rw is refl); made = (mid, made, refl) }

    -- a write that took no byte
    pub write-stopped : step old (Writes bytes (Some 0)) mid → (fault : E)
        → outcome ≡ Err fault → IsWritten step bytes old outcome mid
    write-stopped made fault is =
        record { calls = Writes bytes (Some 0) ∷ []; writes = (refl, some, refl, rw is refl); made = (mid, made, refl) }

    -- a write, and then others
    pub write-more : (n : ℕ) → 0 < n → n ≤ length bytes → step old (Writes bytes (Some n)) mid
        → (new : S) → IsWritten step (drop n bytes) mid outcome new → IsWritten step bytes old outcome new
    write-more zero above fits made new rest = absurd (omega (arith, above))
    write-more (suc n) above fits made new rest = record {
      calls = Writes bytes (Some (suc n)) ∷ rest.calls;
      writes = (refl, fits, rest.writes);
      made = (mid, made, rest.made);
    }
