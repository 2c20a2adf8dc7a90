-- Proofs of the laws `text_is_read` and `bytes_are_written`: reads of a text and writes of bytes, one after the other.
use Rattle.std.proofs.Common.{
  ◌≡◌,
  ◌≢◌,
  ◌≤◌,
  ◌+◌,
  ℕ,
  zero,
  suc,
  List,
  [],
  ◌∷◌,
  ◌++◌,
  length,
  drop,
  Some,
  None,
  Ok,
  Err,
  inl,
  inr,
  refl,
  sym,
  ap,
  subst,
  ◌∙◌,
  append_assoc,
  append-nil,
  arith,
}
use Rattle.std.specs.Prelude.{◌⊎◌, Result}
use Rattle.std.proofs.lemmas.Bool.{false≢true}
use Rattle.std.proofs.lemmas.List.{length-append, length-drop, drop_all}
use Rattle.script_text.specs.Streams.{ReadCall, Reads, Writes, all_come}
use Rattle.script_text.specs.Reading.{longest, IsNext, ReadsText}
use Rattle.script_text.specs.StreamLaws.{
  HasCome,
  TextHasCome,
  ReadingIsDetermined,
  TextCanBeRead,
  KnownTextIsRead,
  BytesAreTaken,
  BytesCanBeWritten,
}
use Rattle.script_text.specs.declared.reading.ReadFault.{ReadFault}
use Rattle.script_text.specs.declared.reading.ReadFault.TheVariants.{NoMemory}

come_behind : (before : List ℕ) (calls : List ReadCall) (outcome : Result (List ℕ) ReadFault)
    → length before ≤ longest + 1 → ReadsText before calls outcome
    → HasCome outcome (before ++ all_come calls)
come_behind before [] outcome fits h = rw h.1 (rw (append-nil before) (omega (arith, h.0, fits)))
come_behind before (Reads room None ∷ calls) outcome fits h = rw h.2 (rw h.1 (rw (append-nil before) (h.0.0)))
come_behind before (Reads room (Some []) ∷ calls) outcome fits h =
    rw h.2 (rw h.1 (append-nil before, rw (append-nil before) (h.0.0)))
come_behind before (Reads room (Some (byte ∷ bytes)) ∷ calls) outcome fits h =
    by h.2 (λ k. come_behind (before ++ byte ∷ bytes) calls outcome long k)
  where
    all : List ℕ
    all = byte ∷ bytes

    long : length (before ++ all) ≤ longest + 1
    long = omega (arith, length-append before all, h.0.1, h.0.0, h.1)

    by : ((calls ≡ []) × (outcome ≡ Err NoMemory)) ⊎ ReadsText (before ++ all) calls outcome
        → (ReadsText (before ++ all) calls outcome → HasCome outcome ((before ++ all) ++ all_come calls))
        → HasCome outcome (before ++ (all ++ all_come calls))
    by (inl k) rest = rw k.1 (rw k.0 (subst (λ t. length (before ++ t) ≤ longest + 1) (sym (append-nil all)) long))
    by (inr k) rest = subst (HasCome outcome) (append_assoc before all (all_come calls)) (rest k)

pub text-has-come : TextHasCome
text-has-come calls outcome h = come_behind [] calls outcome (omega arith) h

determined_behind : (before : List ℕ) (calls : List ReadCall) (one other : Result (List ℕ) ReadFault)
    → ReadsText before calls one → ReadsText before calls other
    → one ≢ Err NoMemory → other ≢ Err NoMemory → one ≡ other
determined_behind before [] one other h k x y = h.1 ∙ sym k.1
determined_behind before (Reads room None ∷ calls) one other h k x y = h.2 ∙ sym k.2
determined_behind before (Reads room (Some []) ∷ calls) one other h k x y = h.2 ∙ sym k.2
determined_behind before (Reads room (Some (byte ∷ bytes)) ∷ calls) one other h k x y =
    by h.2 k.2 (λ a b. determined_behind (before ++ byte ∷ bytes) calls one other a b x y)
  where
    all : List ℕ
    all = byte ∷ bytes

    Rest : Result (List ℕ) ReadFault → Type 0
    Rest r = ((calls ≡ []) × (r ≡ Err NoMemory)) ⊎ ReadsText (before ++ all) calls r

    by : Rest one → Rest other
        → (ReadsText (before ++ all) calls one → ReadsText (before ++ all) calls other → one ≡ other) → one ≡ other
    by (inl a) b rest = absurd (x a.1)
    by (inr a) (inl b) rest = absurd (y b.1)
    by (inr a) (inr b) rest = rest a b

pub reading-is-determined : ReadingIsDetermined
reading-is-determined calls one other h k x y = determined_behind [] calls one other h k x y

-- byte by byte
read_behind : (before text : List ℕ) → length (before ++ text) ≤ longest
    → (calls : List ReadCall) × ReadsText before calls (Ok (before ++ text)) × (all_come calls ≡ text)
read_behind before [] fits =
    let next : IsNext before _ = (rw (append-nil before) at fits, refl) in
    (Reads _ (Some []) ∷ [], (next, refl, ap Ok (append-nil before)), refl)
read_behind before (byte ∷ text) fits =
    let same = append_assoc before (byte ∷ []) text in
    let rest = read_behind (before ++ byte ∷ []) text (rw same fits) in
    let short : length before ≤ longest = omega (arith, length-append before (byte ∷ text), fits) in
    let next : IsNext before _ = (short, refl) in (
      Reads _ (Some (byte ∷ [])) ∷ rest.0,
      (next, omega arith, inr (subst (λ t. ReadsText (before ++ byte ∷ []) rest.0 (Ok t)) same rest.1)),
      ap (λ t. byte ∷ t) rest.2,
    )

pub text-can-be-read : TextCanBeRead
text-can-be-read text fits = read_behind [] text fits

pub known-text-is-read : KnownTextIsRead
known-text-is-read None new calls text h taken end = tt
known-text-is-read (Some xs) None calls text h taken end = absurd taken
known-text-is-read (Some xs) (Some ys) calls text h taken end =
    taken ∙ ap (λ t. all_come calls ++ t) end ∙ append-nil (all_come calls) ∙ (text-has-come calls (Ok text) h).0

-- bytes without their first ones
dropped : (n : ℕ) (bytes : List ℕ) → n ≤ length bytes → n + length (drop n bytes) ≡ length bytes
dropped n bytes fits = omega (arith, length-drop n bytes)

pub bytes-are-taken : BytesAreTaken
bytes-are-taken bytes [] (Ok value) h = ap length (sym h.0)
bytes-are-taken bytes [] (Err fault) h = absurd (false≢true h.1)
bytes-are-taken bytes (Writes part None ∷ calls) (Ok value) h = absurd (false≢true h.3)
bytes-are-taken bytes (Writes part None ∷ calls) (Err fault) h = rw (h.2) h.1
bytes-are-taken bytes (Writes part (Some zero) ∷ calls) (Ok value) h = absurd (false≢true h.3)
bytes-are-taken bytes (Writes part (Some zero) ∷ calls) (Err fault) h = rw (h.2) h.1
bytes-are-taken bytes (Writes part (Some (suc n)) ∷ calls) (Ok value) h =
    let rest = bytes-are-taken (drop (suc n) bytes) calls (Ok value) h.2 in
    ap (λ m. suc n + m) rest ∙ dropped (suc n) bytes h.1
bytes-are-taken bytes (Writes part (Some (suc n)) ∷ calls) (Err fault) h =
    let rest = bytes-are-taken (drop (suc n) bytes) calls (Err fault) h.2 in
    omega (arith, rest, dropped (suc n) bytes h.1)

pub bytes-can-be-written : BytesCanBeWritten
bytes-can-be-written [] = ([], (refl, refl))
bytes-can-be-written (byte ∷ bytes) =
    let none : drop (length bytes) bytes ≡ [] = drop_all (length bytes) bytes (omega arith) in
    (Writes (byte ∷ bytes) (Some (suc (length bytes))) ∷ [], (refl, omega arith, (none, refl)))
