-- For the answer of `read_text`: one more read of a text.
use Rattle.std.proofs.Common.{
  ◌≡◌,
  ◌<◌,
  ◌≤◌,
  ℕ,
  List,
  [],
  ◌∷◌,
  ◌++◌,
  length,
  Some,
  None,
  Ok,
  Err,
  inl,
  inr,
  refl,
  sym,
  subst,
  append-nil,
  arith,
}
use Rattle.std.proofs.lemmas.Bool.{false≢true}
use Rattle.std.specs.Prelude.{Option, Result}
use Rattle.std.specs.Io.KnownBytes.{Consumes, Keeps, IsAtEnd}
use Rattle.std.proofs.KnownBytes.{Consumes-nil, Consumes-trans}
use Rattle.script_text.specs.Streams.{ReadCall, Reads, all_come}
use Rattle.script_text.specs.Reading.{longest, IsNext, ReadsOn}
use Rattle.script_text.specs.declared.reading.ReadFault.{ReadFault}
use Rattle.script_text.specs.declared.reading.ReadFault.TheVariants.{TooLong, NoMemory, Read}

-- an unchanged stream had no bytes consumed
Keeps-Consumes : (a b : Option (List ℕ)) → Keeps a b → Consumes a b []
Keeps-Consumes None b h = tt
Keeps-Consumes (Some x) None h = absurd h
Keeps-Consumes (Some x) (Some y) h = sym h

module _ {S : Type 0} (step : S → ReadCall → S → Type 0) (remaining : S → Option (List ℕ)) (before : List ℕ)
    (old : S) where
  -- too many bytes have come
  pub read-long : longest < length before → ReadsOn step remaining before old (Err TooLong) old
  read-long h = record {
    calls = [];
    text = (h, refl);
    made = refl;
    consumed = Consumes-nil (remaining old);
    ended = λ ok. absurd (false≢true ok);
  }

  module _ (mid : S) (room : ℕ) (next : IsNext before room) where
    -- a read that failed
    pub read-failed : step old (Reads room None) mid → Keeps (remaining old) (remaining mid)
        → ReadsOn step remaining before old (Err Read) mid
    read-failed made kept = record {
      calls = Reads room None ∷ [];
      text = (next, refl, refl);
      made = (mid, made, refl);
      consumed = Keeps-Consumes (remaining old) (remaining mid) kept;
      ended = λ ok. absurd (false≢true ok);
    }

    -- a read at the end
    pub read-ended : (bytes : List ℕ) → length bytes ≡ 0 → step old (Reads room (Some bytes)) mid
        → Consumes (remaining old) (remaining mid) bytes → IsAtEnd (remaining mid)
        → ReadsOn step remaining before old (Ok before) mid
    read-ended [] none made taken end = record {
      calls = Reads room (Some []) ∷ [];
      text = (next, refl, refl);
      made = (mid, made, refl);
      consumed = taken;
      ended = λ ok. end;
    }
    read-ended (byte ∷ bytes) none made taken end = absurd (omega (arith, none))

    -- a read for whose bytes memory was refused
    pub read-refused : (bytes : List ℕ) → 0 < length bytes → length bytes ≤ room
        → step old (Reads room (Some bytes)) mid → Consumes (remaining old) (remaining mid) bytes
        → ReadsOn step remaining before old (Err NoMemory) mid
    read-refused [] some fits made taken = absurd (omega (arith, some))
    read-refused (byte ∷ bytes) some fits made taken = record {
      calls = Reads room (Some (byte ∷ bytes)) ∷ [];
      text = (next, fits, inl (refl, refl));
      made = (mid, made, refl);
      consumed = subst (Consumes (remaining old) (remaining mid)) (sym (append-nil (byte ∷ bytes))) taken;
      ended = λ ok. absurd (false≢true ok);
    }

    -- a read, and then others
    pub read-more : (bytes : List ℕ) → 0 < length bytes → length bytes ≤ room → step old (Reads room (Some bytes)) mid
        → Consumes (remaining old) (remaining mid) bytes
        → (outcome : Result (List ℕ) ReadFault) (new : S) → ReadsOn step remaining (before ++ bytes) mid outcome new
        → ReadsOn step remaining before old outcome new
    read-more [] some fits made taken outcome new rest = absurd (omega (arith, some))
    read-more (byte ∷ bytes) some fits made taken outcome new rest = record {
      calls = Reads room (Some (byte ∷ bytes)) ∷ rest.calls;
      text = (next, fits, inr rest.text);
      made = (mid, made, rest.made);
      consumed = Consumes-trans (remaining old) (remaining mid) (remaining new) (byte ∷ bytes)
          (all_come rest.calls) taken rest.consumed;
      ended = rest.ended;
    }
