-- Proof of the law `file_calls_are_parts`: the calls of a file for calls of the medium in its blocks.
use Rattle.std.proofs.Common.{◌≡◌, ℕ, suc, ◌+◌, List, [], ◌∷◌, ◌++◌, Ok, Err, refl, sym, ap, subst, ◌∙◌}
use Rattle.std.specs.List.{AllByRecursion}
use Rattle.nvme_spec.specs.MediumCalls.{MediumAnswer, MediumCall, Reads, Writes, Flushes, Calls, MakesCalls}
use Rattle.nvme_spec.proofs.MediumCalls.{calls-joined}
use Rattle.nvme_medium.specs.FileCalls.{FileCall, ReadsAt, WritesAt, Syncs, ReadParts, WriteParts, AreParts, done_of}
use Rattle.nvme_medium.specs.CallLaws.{ArePartsOf, IsPartOf, FilesHaveBlocksAlone, FlushesAreSyncs, syncs_of}

-- for a list of calls
pub calls-in-parts : {C F : Type 0} (step : F → FileCall → F → Type 0) (file : C → F) (old new : C)
    (calls : List MediumCall)
    → Calls (λ (a : C) (call : MediumCall) (b : C). MakesCalls step (AreParts call) (file a) (file b)) old calls new
    → MakesCalls step (ArePartsOf calls) (file old) (file new)
calls-in-parts step file old new [] made = record { calls = []; are = refl; made = ap file made }
calls-in-parts step file old new (call ∷ calls) made =
    let first = made.1 in
    let rest = calls-in-parts step file made.0 new calls made.2 in
    record {
      calls = first.calls ++ rest.calls;
      are = (first.calls, rest.calls, first.are, rest.are, refl);
      made = calls-joined step first.calls rest.calls (file old) (file made.0) (file new) first.made rest.made;
    }

all-joined : (P : FileCall → Type 0) (xs ys : List FileCall) → AllByRecursion P xs → AllByRecursion P ys
    → AllByRecursion P (xs ++ ys)
all-joined P [] ys h g = g
all-joined P (x ∷ xs) ys h g = (h.0, all-joined P xs ys h.1 g)

all-mapped : (P Q : FileCall → Type 0) (xs : List FileCall) → ((x : FileCall) → P x → Q x) → AllByRecursion P xs
    → AllByRecursion Q xs
all-mapped P Q [] f h = tt
all-mapped P Q (x ∷ xs) f h = (f x h.0, all-mapped P Q xs f h.1)

-- a call after another one
behind : (call : MediumCall) (calls : List MediumCall) (part : FileCall)
    → IsPartOf calls part → IsPartOf (call ∷ calls) part
behind call calls (ReadsAt offset room moved) h = tt
behind call calls (WritesAt offset part moved) h =
    record {
      place = suc h.place;
      block = h.block;
      bytes = h.bytes;
      answer = h.answer;
      is = h.is;
      done = h.done;
      there = h.there;
      has = h.has;
    }
behind call calls (Syncs answer) h = (suc h.0, h.1)

read-parts : (call : MediumCall) (calls : List MediumCall) (i done : ℕ) (parts : List FileCall) (answer : MediumAnswer)
    → ReadParts i done parts answer → AllByRecursion (IsPartOf (call ∷ calls)) parts
read-parts call calls i done [] answer h = tt
read-parts call calls i done (ReadsAt offset room (Ok n) ∷ parts) answer h =
    (tt, read-parts call calls i (done + n) parts answer h.2)
read-parts call calls i done (ReadsAt offset room (Err fault) ∷ parts) answer h =
    (tt, subst (AllByRecursion (IsPartOf (call ∷ calls))) (sym h.2) tt)
read-parts call calls i done (WritesAt offset part moved ∷ parts) answer h = absurd h
read-parts call calls i done (Syncs a ∷ parts) answer h = absurd h

write-parts : (calls : List MediumCall) (i : ℕ) (block : List ℕ) (said : MediumAnswer) (done : ℕ)
    (parts : List FileCall) (answer : MediumAnswer) → WriteParts i block done parts answer
    → AllByRecursion (IsPartOf (Writes i block said ∷ calls)) parts
write-parts calls i block said done [] answer h = tt
write-parts calls i block said done (WritesAt offset part (Ok n) ∷ parts) answer h = (
  record { place = 0; block = i; bytes = block; answer = said; is = refl; done = done; there = h.0; has = h.1 },
  write-parts calls i block said (done + n) parts answer h.2,
)
write-parts calls i block said done (WritesAt offset part (Err fault) ∷ parts) answer h = (
  record { place = 0; block = i; bytes = block; answer = said; is = refl; done = done; there = h.0; has = h.1 },
  subst (AllByRecursion (IsPartOf (Writes i block said ∷ calls))) (sym h.2) tt,
)
write-parts calls i block said done (ReadsAt offset room moved ∷ parts) answer h = absurd h
write-parts calls i block said done (Syncs a ∷ parts) answer h = absurd h

one-call : (call : MediumCall) (calls : List MediumCall) (parts : List FileCall)
    → AreParts call parts → AllByRecursion (IsPartOf (call ∷ calls)) parts
one-call (Reads i answer) calls parts h = read-parts (Reads i answer) calls i 0 parts (done_of answer) h
one-call (Writes i block answer) calls parts h = write-parts calls i block answer 0 parts answer h
one-call (Flushes answer) calls parts h =
    subst (AllByRecursion (IsPartOf (Flushes answer ∷ calls))) (sym h) ((0, refl), tt)

pub files_have_blocks_alone : FilesHaveBlocksAlone
files_have_blocks_alone [] parts h = subst (AllByRecursion (IsPartOf [])) (sym h) tt
files_have_blocks_alone (call ∷ calls) parts (here, rest, are, others, joined) =
    subst (AllByRecursion (IsPartOf (call ∷ calls))) (sym joined)
    (all-joined (IsPartOf (call ∷ calls)) here rest (one-call call calls here are)
    (all-mapped (IsPartOf calls) (IsPartOf (call ∷ calls)) rest (behind call calls)
    (files_have_blocks_alone calls rest others)))

-- the syncs of two lists of calls, joined

syncs-joined : (xs ys : List FileCall) → syncs_of (xs ++ ys) ≡ syncs_of xs ++ syncs_of ys
syncs-joined [] ys = refl
syncs-joined (Syncs answer ∷ xs) ys = ap (λ xs. answer ∷ xs) (syncs-joined xs ys)
syncs-joined (ReadsAt offset room moved ∷ xs) ys = syncs-joined xs ys
syncs-joined (WritesAt offset part moved ∷ xs) ys = syncs-joined xs ys

read-syncs : (i done : ℕ) (parts : List FileCall) (answer : MediumAnswer)
    → ReadParts i done parts answer → syncs_of parts ≡ []
read-syncs i done [] answer h = refl
read-syncs i done (ReadsAt offset room (Ok n) ∷ parts) answer h = read-syncs i (done + n) parts answer h.2
read-syncs i done (ReadsAt offset room (Err fault) ∷ parts) answer h = ap syncs_of h.2
read-syncs i done (WritesAt offset part moved ∷ parts) answer h = absurd h
read-syncs i done (Syncs a ∷ parts) answer h = absurd h

write-syncs : (i : ℕ) (block : List ℕ) (done : ℕ) (parts : List FileCall) (answer : MediumAnswer)
    → WriteParts i block done parts answer → syncs_of parts ≡ []
write-syncs i block done [] answer h = refl
write-syncs i block done (WritesAt offset part (Ok n) ∷ parts) answer h =
    write-syncs i block (done + n) parts answer h.2
write-syncs i block done (WritesAt offset part (Err fault) ∷ parts) answer h = ap syncs_of h.2
write-syncs i block done (ReadsAt offset room moved ∷ parts) answer h = absurd h
write-syncs i block done (Syncs a ∷ parts) answer h = absurd h

pub flushes_are_syncs : FlushesAreSyncs
flushes_are_syncs [] parts h = ap syncs_of h
flushes_are_syncs (Reads i answer ∷ calls) parts (here, rest, are, others, joined) =
    ap syncs_of joined ∙ syncs-joined here rest
    ∙ ap (λ xs. xs ++ syncs_of rest) (read-syncs i 0 here (done_of answer) are) ∙ flushes_are_syncs calls rest others
flushes_are_syncs (Writes i block answer ∷ calls) parts (here, rest, are, others, joined) =
    ap syncs_of joined ∙ syncs-joined here rest ∙ ap (λ xs. xs ++ syncs_of rest) (write-syncs i block 0 here answer are)
    ∙ flushes_are_syncs calls rest others
flushes_are_syncs (Flushes answer ∷ calls) parts (here, rest, are, others, joined) =
    ap syncs_of joined ∙ syncs-joined here rest ∙ ap (λ xs. xs ++ syncs_of rest) (ap syncs_of are)
    ∙ ap (λ xs. answer ∷ xs) (flushes_are_syncs calls rest others)
