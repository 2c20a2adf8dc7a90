-- For examples: an answer that is sent.
use Rattle.std.proofs.Common.{
  ◌≡◌,
  true,
  false,
  List,
  [],
  ◌∷◌,
  ◌++◌,
  length,
  None,
  Some,
  Ok,
  inl,
  inr,
  refl,
  sym,
  ap,
  subst,
  ◌∙◌,
  arith,
  append_assoc,
  append-nil,
  length-append,
}
use Rattle.std.specs.Prelude.{codes, map}
use Rattle.std.specs.declared.io.Error.{Error}
use Rattle.script_text.specs.Streams.{WriteCall, Writes, OutputCall, Wrote, Flushed, Calls}
use Rattle.script_text.specs.Writing.{IsWritten, WritesBytes, Broken, IsSent, Sent}
use Rattle.nvme_live.specs.StreamExamples.{Flushing, Writing}

whole : IsWritten {T = Unit {0}} {E = Error} Writing (codes "ok") [] (Ok tt) (Wrote (Writes (codes "ok") (Some 2)) ∷ [])
whole = record {
  calls = Writes (codes "ok") (Some 2) ∷ [];
  writes = (refl, omega arith, (refl, refl));
  made = (Wrote (Writes (codes "ok") (Some 2)) ∷ [], refl, refl);
}

pub at_once : IsSent Writing Flushing [] (Sent (codes "ok")) (Wrote (Writes (codes "ok") (Some 2)) ∷ Flushed true ∷ [])
at_once = (Wrote (Writes (codes "ok") (Some 2)) ∷ [], whole, refl)

pub in_parts : IsSent Writing Flushing [] (Sent (codes "ok"))
    (Wrote (Writes (codes "ok") (Some 1)) ∷ Wrote (Writes (codes "k") (Some 1)) ∷ Flushed true ∷ [])
in_parts = (
  Wrote (Writes (codes "ok") (Some 1)) ∷ Wrote (Writes (codes "k") (Some 1)) ∷ [],
  record {
    calls = Writes (codes "ok") (Some 1) ∷ Writes (codes "k") (Some 1) ∷ [];
    writes = (refl, omega arith, (refl, omega arith, (refl, refl)));
    made = (
      Wrote (Writes (codes "ok") (Some 1)) ∷ [],
      refl,
      (Wrote (Writes (codes "ok") (Some 1)) ∷ Wrote (Writes (codes "k") (Some 1)) ∷ [], refl, refl),
    );
  },
  refl,
)

pub flush_failed : IsSent Writing Flushing [] (Broken (codes "ok"))
    (Wrote (Writes (codes "ok") (Some 2)) ∷ Flushed false ∷ [])
flush_failed = inr (Wrote (Writes (codes "ok") (Some 2)) ∷ [], whole, refl)

pub failed : (fault : Error) → IsSent Writing Flushing [] (Broken (codes "ok")) (Wrote (Writes (codes "ok") None) ∷ [])
failed fault = inl (
  fault,
  record {
    calls = Writes (codes "ok") None ∷ [];
    writes = (refl, omega arith, refl, refl);
    made = (Wrote (Writes (codes "ok") None) ∷ [], refl, refl);
  },
)

-- the writes in the log of a sink that records its calls
logged : (calls : List WriteCall) (old new : List OutputCall)
    → Calls Writing old calls new → new ≡ old ++ map Wrote calls
logged [] old new h = h ∙ sym (append-nil old)
logged (call ∷ calls) old new (mid, is, rest) =
    logged calls mid new rest ∙ ap (λ t. t ++ map Wrote calls) is ∙ append_assoc old (Wrote call ∷ []) (map Wrote calls)

-- an answer that is sent ends with a flush, after only its writes
sent : (told : List OutputCall) (h : IsSent Writing Flushing [] (Sent (codes "ok")) told)
    → told ≡ map Wrote h.1.calls ++ Flushed true ∷ []
sent told (written, h, flushed) = flushed ∙ ap (λ t. t ++ Flushed true ∷ []) (logged h.calls [] written h.made)

module _ (call : WriteCall) where
  not-flushed : (calls : List WriteCall) → Wrote call ∷ [] ≡ map Wrote calls ++ Flushed true ∷ [] → ⊥
  not-flushed [] e = absurd (cc)
  not-flushed (c ∷ calls) e = let long = length-append (map Wrote calls) (Flushed true ∷ []) in
      absurd (omega (arith, ap length e, long))

  not-first : (calls : List WriteCall) → Flushed true ∷ Wrote call ∷ [] ≡ map Wrote calls ++ Flushed true ∷ [] → ⊥
  not-first [] e = absurd (omega (arith, ap length e))
  not-first (c ∷ calls) e = absurd (cc)

pub unflushed : IsSent Writing Flushing [] (Sent (codes "ok")) (Wrote (Writes (codes "ok") (Some 2)) ∷ []) → ⊥
unflushed h = not-flushed _ h.1.calls (sent _ h)

pub flushed_first :
    IsSent Writing Flushing [] (Sent (codes "ok")) (Flushed true ∷ Wrote (Writes (codes "ok") (Some 2)) ∷ []) → ⊥
flushed_first h = not-first _ h.1.calls (sent _ h)

abbrev all : WriteCall
all = Writes (codes "ok") (Some 2)

same-call : (c d : WriteCall) → Wrote c ∷ Wrote d ∷ Flushed true ∷ [] ≡ Wrote all ∷ Wrote all ∷ Flushed true ∷ []
    → c ∷ d ∷ [] ≡ all ∷ all ∷ []
same-call c d e = cc

none-left : WritesBytes {T = Unit {0}} {E = Error} (codes "ok") (all ∷ all ∷ []) (Ok tt) → ⊥
none-left h = absurd (omega (arith, ap length h.2.0))

not-twice : (calls : List WriteCall) → WritesBytes {T = Unit {0}} {E = Error} (codes "ok") calls (Ok tt)
    → Wrote all ∷ Wrote all ∷ Flushed true ∷ [] ≡ map Wrote calls ++ Flushed true ∷ [] → ⊥
not-twice [] h e = absurd (omega (arith, ap length e))
not-twice (c ∷ []) h e = absurd (omega (arith, ap length e))
not-twice (c ∷ d ∷ []) h e = none-left
    (subst (λ calls. WritesBytes {T = Unit {0}} {E = Error} (codes "ok") calls (Ok tt)) (same-call c d (sym e)) h)
not-twice (c ∷ d ∷ f ∷ calls) h e = let long = length-append (map Wrote calls) (Flushed true ∷ []) in
    absurd (omega (arith, ap length e, long))

pub twice : IsSent Writing Flushing [] (Sent (codes "ok")) (Wrote all ∷ Wrote all ∷ Flushed true ∷ []) → ⊥
twice h = not-twice h.1.calls h.1.writes (sent _ h)
