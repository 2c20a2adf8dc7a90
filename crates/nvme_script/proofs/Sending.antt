-- For `Outputs`: the calls of an output through a buffer.
use Rattle.std.proofs.Common.{
  ◌≡◌,
  ◌≢◌,
  ◌≤◌,
  ◌<◌,
  ℕ,
  zero,
  suc,
  Bool,
  true,
  false,
  List,
  [],
  ◌∷◌,
  ◌++◌,
  length,
  take,
  drop,
  Result,
  Option,
  Some,
  None,
  Ok,
  Err,
  inl,
  inr,
  refl,
  sym,
  ap,
  subst,
  ◌∙◌,
  arith,
  append_assoc,
  drop_of_length-le,
  le_of_eq,
}
use Rattle.std.proofs.lemmas.Bool.{false≢true}
use Rattle.std.proofs.lemmas.Option.{none-some, same_Some}
use Rattle.std.specs.declared.io.Error.{Error}
use Rattle.script_text.specs.Streams.{Calls, OutputCall, WriteCall, Writes, Wrote, Flushed, StepsOutput}
use Rattle.script_text.specs.Writing.{AreNext, Broken, IsSent, IsWritten, SendsBytes, Sent, WritesBytes}
use Rattle.nvme_script.specs.Buffering.{Buffer, CallsOutput, StepsBuffer}

front-of : {A : Type 0} (xs ys : List A) → take (length xs) (xs ++ ys) ≡ xs
front-of [] ys = refl
front-of (x ∷ xs) ys = ap (λ t. x ∷ t) (front-of xs ys)

drop-front : {A : Type 0} (n : ℕ) (xs ys : List A) → n ≤ length xs → drop n (xs ++ ys) ≡ drop n xs ++ ys
drop-front zero xs ys fits = refl
drop-front (suc n) [] ys fits = absurd (omega (arith, fits))
drop-front (suc n) (x ∷ xs) ys fits = drop-front n xs ys (omega (arith, fits))

-- bytes that are the front of others
next : (part bytes more : List ℕ) → part ≡ bytes → 0 < length bytes → AreNext part (bytes ++ more)
next part bytes more is some = rw is (some, sym (front-of bytes more))

module _ {O : Type 0} (write : O → WriteCall → O → Type 0) (flush : O → Bool → O → Type 0) where
  -- an output gets these bytes, by its calls and no others
  abbrev pub Gets : List ℕ → Bool → O → O → Type 0
  Gets bytes done before after =
      (calls : List OutputCall) × SendsBytes bytes calls done × Calls (StepsOutput write flush) before calls after

  -- one write, and those after it
  one-first : (part bytes more : List ℕ) (n : ℕ) (done : Bool) (old mid after : O) → part ≡ bytes → suc n ≤ length bytes
      → write old (Writes part (Some (suc n))) mid
      → Gets (drop (suc n) bytes ++ more) done mid after → Gets (bytes ++ more) done old after
  one-first part bytes more n done old mid after is fits step rest = (
    Wrote (Writes part (Some (suc n))) ∷ rest.0,
    (
      next part bytes more is (omega (arith, fits)),
      rw is fits,
      subst (λ bs. SendsBytes bs rest.0 done) (sym (drop-front (suc n) bytes more fits)) rest.1,
    ),
    (mid, step, rest.2),
  )

  -- bytes that are written whole, and those after them
  whole-first : (bytes more : List ℕ) (calls : List WriteCall) (done : Bool) (old mid after : O)
      → WritesBytes {T = Unit {0}} {E = Error} bytes calls (Ok tt) → Calls write old calls mid
      → Gets more done mid after → Gets (bytes ++ more) done old after
  whole-first bytes more [] done old mid after writes made rest =
      rw writes.0 (subst (λ (o : O). Gets more done o after) made rest)
  whole-first bytes more (Writes part None ∷ calls) done old mid after writes made rest = absurd (false≢true writes.3)
  whole-first bytes more (Writes part (Some zero) ∷ calls) done old mid after writes made rest =
      absurd (false≢true writes.3)
  whole-first bytes more (Writes part (Some (suc n)) ∷ calls) done old mid after writes (now, step, made) rest =
      one-first part bytes more n done old now after writes.0 writes.1 step
      (whole-first (drop (suc n) bytes) more calls done now mid after writes.2 made rest)

  -- a write that fails, or takes no byte, is the last call
  last-call : (part bytes more : List ℕ) (taken : Option ℕ) (calls : List WriteCall) (old mid new : O)
      → SendsBytes (bytes ++ more) (Wrote (Writes part taken) ∷ []) false
      → write old (Writes part taken) mid → calls ≡ [] → Calls write mid calls new → Gets (bytes ++ more) false old new
  last-call part bytes more taken calls old mid new sends step none made =
      (Wrote (Writes part taken) ∷ [], sends, (mid, step, subst (λ cs. Calls write mid cs new) none made))

  -- bytes one of whose writes fails
  fails-first : (bytes more : List ℕ) (calls : List WriteCall) (fault : Error) (old new : O)
      → WritesBytes {T = Unit {0}} bytes calls (Err fault) → Calls write old calls new
      → Gets (bytes ++ more) false old new
  fails-first bytes more [] fault old new writes made = absurd (false≢true writes.1)
  fails-first bytes more (Writes part None ∷ calls) fault old new writes (mid, step, made) =
      last-call part bytes more None calls old mid new
      (next part bytes more writes.0 writes.1, refl, refl) step writes.2 made
  fails-first bytes more (Writes part (Some zero) ∷ calls) fault old new writes (mid, step, made) =
      last-call part bytes more (Some 0) calls old mid new
      (next part bytes more writes.0 writes.1, refl, refl) step writes.2 made
  fails-first bytes more (Writes part (Some (suc n)) ∷ calls) fault old new writes (mid, step, made) =
      one-first part bytes more n false old mid new writes.0 writes.1 step
      (fails-first (drop (suc n) bytes) more calls fault mid new writes.2 made)

  flushed : (done : Bool) (old new : O) → flush old done new → Gets [] done old new
  flushed done old new step = (Flushed done ∷ [], (refl, refl, refl), (new, step, refl))

  pub sent-gets : (bytes : List ℕ) (old new : O) → IsSent write flush old (Sent bytes) new
      → Gets (bytes ++ []) true old new
  sent-gets bytes old new (mid, written, done) =
      whole-first bytes [] written.calls true old mid new written.writes written.made (flushed true mid new done)

  pub broken-gets : (bytes : List ℕ) (old new : O) → IsSent write flush old (Broken bytes) new
      → Gets (bytes ++ []) false old new
  broken-gets bytes old new (inl (fault, written)) =
      fails-first bytes [] written.calls fault old new written.writes written.made
  broken-gets bytes old new (inr (mid, written, done)) =
      whole-first bytes [] written.calls false old mid new written.writes written.made (flushed false mid new done)

  module _ (contents : O → Option (List ℕ)) where
    -- what an output gets after the bytes that a buffer holds back
    abbrev pub GetsBy : Buffer O → List ℕ → Bool → O → Type 0
    GetsBy buffer bytes done after = Gets (buffer.held ++ bytes) done buffer.output after

    -- a call of the buffer that takes some bytes
    gives : (bytes more : List ℕ) (n : ℕ) (done : Bool) (old new : Buffer O) (after : O)
        → suc n ≤ length bytes → StepsBuffer write contents old (Writes bytes (Some (suc n))) new
        → GetsBy new (drop (suc n) bytes ++ more) done after → GetsBy old (bytes ++ more) done after
    gives bytes more n done old new after fits step rest = by step.2
      where
        none-left : Some (suc n) ≡ Some (length bytes) → drop (suc n) bytes ≡ []
        none-left took = drop_of_length-le bytes (le_of_eq (sym (same_Some (suc n) (length bytes) took)))

        by : CallsOutput write old (Writes bytes (Some (suc n))) new → GetsBy old (bytes ++ more) done after
        by (inl (room, took, held, same)) =
            subst (λ bs. Gets bs done old.output after) (append_assoc old.held bytes more)
            (subst (λ (o : O). Gets ((old.held ++ bytes) ++ more) done o after) same
            (rw (held, none-left took) at rest))
        by (inr (none, inl (fault, written, is))) = absurd (none-some _ (sym is))
        by (inr (none, inr (mid, written, inl (room, took, held, same)))) =
            whole-first old.held (bytes ++ more) written.calls done old.output mid after written.writes written.made
            (subst (λ (o : O). Gets (bytes ++ more) done o after) same (rw (held, none-left took) at rest))
        by (inr (none, inr (mid, written, inr (big, one, held)))) =
            whole-first old.held (bytes ++ more) written.calls done old.output mid after written.writes written.made
            (one-first bytes bytes more n done mid new.output after refl fits one (rw held at rest))

    -- a call of the buffer that fails, or takes no byte
    refuses : (bytes more : List ℕ) (taken : Option ℕ) (old new : Buffer O)
        → taken ≢ Some (length bytes) → SendsBytes (bytes ++ more) (Wrote (Writes bytes taken) ∷ []) false
        → StepsBuffer write contents old (Writes bytes taken) new → GetsBy old (bytes ++ more) false new.output
    refuses bytes more taken old new not-all sends step = by step.2
      where
        by : CallsOutput write old (Writes bytes taken) new → GetsBy old (bytes ++ more) false new.output
        by (inl (room, took, held, same)) = absurd (not-all took)
        by (inr (none, inl (fault, written, is))) =
            fails-first old.held (bytes ++ more) written.calls fault old.output new.output written.writes written.made
        by (inr (none, inr (mid, written, inl (room, took, held, same)))) = absurd (not-all took)
        by (inr (none, inr (mid, written, inr (big, one, held)))) =
            whole-first old.held
            (bytes ++ more) written.calls false old.output mid new.output written.writes written.made
            (last-call bytes bytes more taken [] mid new.output new.output sends one refl refl)

    -- bytes that are written whole to the buffer
    pub line-gets : (line more : List ℕ) (calls : List WriteCall) (done : Bool) (old mid : Buffer O) (after : O)
        → WritesBytes {T = Unit {0}} {E = Error} line calls (Ok tt)
        → Calls (StepsBuffer write contents) old calls mid → GetsBy mid more done after
        → GetsBy old (line ++ more) done after
    line-gets line more [] done old mid after writes made rest =
        rw writes.0 (subst (λ (b : Buffer O). GetsBy b more done after) made rest)
    line-gets line more (Writes part None ∷ calls) done old mid after writes made rest = absurd (false≢true writes.3)
    line-gets line more (Writes part (Some zero) ∷ calls) done old mid after writes made rest =
        absurd (false≢true writes.3)
    line-gets line more (Writes part (Some (suc n)) ∷ calls) done old mid after writes (now, step, made) rest =
        gives line more n done old now after writes.1
        (subst (λ bs. StepsBuffer write contents old (Writes bs (Some (suc n))) now) writes.0 step)
        (line-gets (drop (suc n) line) more calls done now mid after writes.2 made rest)

    -- bytes that are not written whole to it
    pub line-fails : (line more : List ℕ) (calls : List WriteCall) (fault : Error) (old new : Buffer O)
        → WritesBytes {T = Unit {0}} line calls (Err fault)
        → Calls (StepsBuffer write contents) old calls new → GetsBy old (line ++ more) false new.output
    line-fails line more [] fault old new writes made = absurd (false≢true writes.1)
    line-fails line more (Writes part None ∷ calls) fault old new writes (mid, step, made) =
        let last : new ≡ mid = subst (λ cs. Calls (StepsBuffer write contents) mid cs new) writes.2 made in
        subst (λ (b : Buffer O). GetsBy old (line ++ more) false b.output) (sym last)
        (refuses line more None old mid (λ e. none-some _ e) (next line line more refl writes.1, refl, refl)
        (subst (λ bs. StepsBuffer write contents old (Writes bs None) mid) writes.0 step))
    line-fails line more (Writes part (Some zero) ∷ calls) fault old new writes (mid, step, made) =
        let last : new ≡ mid = subst (λ cs. Calls (StepsBuffer write contents) mid cs new) writes.2 made in
        subst (λ (b : Buffer O). GetsBy old (line ++ more) false b.output) (sym last)
        (refuses line more (Some 0) old mid (λ e. omega (arith, same_Some 0 (length line) e, writes.1))
        (next line line more refl writes.1, refl, refl)
        (subst (λ bs. StepsBuffer write contents old (Writes bs (Some 0)) mid) writes.0 step))
    line-fails line more (Writes part (Some (suc n)) ∷ calls) fault old new writes (mid, step, made) =
        gives line more n false old mid new.output writes.1
        (subst (λ bs. StepsBuffer write contents old (Writes bs (Some (suc n))) mid) writes.0 step)
        (line-fails (drop (suc n) line) more calls fault mid new writes.2 made)
