-- For `spec_cached_media.rt`: what a cache keeps after a call, and what a call of a medium makes of one that fails.
use Rattle.std.proofs.Common.{
  ◌≡◌,
  ℕ,
  List,
  [],
  ◌∷◌,
  ◌++◌,
  cond,
  true,
  false,
  Some,
  None,
  Ok,
  Err,
  length,
  refl,
  sym,
  subst,
  arith,
}
use Rattle.std.proofs.lemmas.Bool.{ne_eqb}
use Rattle.nvme_spec.specs.declared.medium.MediumFault.{MediumFault as Fault}
use Rattle.nvme_spec.specs.MediumCalls.{MediumCall, Reads, Writes}
use Rattle.nvme_medium.specs.declared.failing.Failing.{Failing as FailingMedium}
use Rattle.nvme_medium.specs.Cached.{keeps_by}
use Rattle.nvme_medium.specs.Examples.{logs}
use Rattle.nvme_medium.specs.Reading.{ReadingExists, ReadsBlocks}
use Rattle.nvme_medium.specs.Failing.{inner_of, calls_left, IsSkipped, PassesOn, one_call_later}

no-block : (block : List ℕ) → None ≡ Some block → ⊥
no-block block h = absurd (cc (h))

same-byte : (one two : ℕ) → one ∷ [] ≡ two ∷ [] → one ≡ two
same-byte one two h = cc (h)

pub write_is_cached : keeps_by (Writes 7 (1 ∷ []) (Ok tt)) [] ((7, 1 ∷ []) ∷ [])
write_is_cached = (
  (λ j block ne found.
      subst (λ y. cond y (Some (1 ∷ [])) None ≡ Some block) (ne_eqb j 7 ne) found),
  (λ found e. cc),
)

pub other_block_is_not : keeps_by (Writes 7 (1 ∷ []) (Ok tt)) [] ((8, 1 ∷ []) ∷ []) → ⊥
other_block_is_not x = no-block (1 ∷ []) (x.0 8 (1 ∷ []) (omega arith) refl)

pub other_bytes_are_not : keeps_by (Writes 7 (1 ∷ []) (Ok tt)) [] ((7, 2 ∷ []) ∷ []) → ⊥
other_bytes_are_not x = omega (arith, same-byte 2 1 (x.1 (2 ∷ []) refl))

pub failed_write_is_dropped : (fault : Fault) → keeps_by (Writes 7 (2 ∷ []) (Err fault)) ((7, 1 ∷ []) ∷ []) []
failed_write_is_dropped fault = ((λ j block ne found. absurd (no-block block found)), refl)

pub old_block_is_not : (fault : Fault)
    → keeps_by (Writes 7 (2 ∷ []) (Err fault)) ((7, 1 ∷ []) ∷ []) ((7, 1 ∷ []) ∷ []) → ⊥
old_block_is_not fault x = no-block (1 ∷ []) (sym x.1)

pub no_block_is_added : (fault : Fault) → keeps_by (Writes 7 (2 ∷ []) (Err fault)) [] ((8, 1 ∷ []) ∷ []) → ⊥
no_block_is_added fault x = no-block (1 ∷ []) (x.0 8 (1 ∷ []) (omega arith) refl)

pub no_success : (before after : FailingMedium (List MediumCall))
    → IsSkipped {T = Unit {0}} {E = Fault} before after (Ok tt) → ⊥
no_success before after x = let no : false ≡ true = x.fails in absurd (cc (no))

pub unchanged : (fault : Fault) → (old new : FailingMedium (List MediumCall))
    → IsSkipped {T = Unit {0}} old new (Err fault) → inner_of new ≡ inner_of old
unchanged fault old new x = x.inner

pub counted : (call : MediumCall) → (old new : FailingMedium (List MediumCall)) → PassesOn logs old call new
    → calls_left old ≡ Some 3 → calls_left new ≡ Some 2
counted call old new x three = subst (λ n. calls_left new ≡ one_call_later n) three x.later

pub skipped : (call : MediumCall) → (old new : FailingMedium (List MediumCall)) → PassesOn logs old call new
    → calls_left old ≡ Some 0 → inner_of new ≡ inner_of old
skipped call old new x now = (x.skipped now).1

pub passed : (call : MediumCall) → (old new : FailingMedium (List MediumCall)) → PassesOn logs old call new
    → calls_left old ≡ None → inner_of new ≡ inner_of old ++ (call ∷ [])
passed call old new x failed = x.passed (λ (now : calls_left old ≡ Some 0). absurd (cc))

pub failed_read_exists : ReadingExists logs → (fault : Fault) → (buffer : List ℕ) → length buffer ≡ 512
    → (left : List ℕ) × ReadsBlocks logs true [] 7 1 buffer left [] (Err fault) (Reads 7 (Err fault) ∷ [])
failed_read_exists law fault buffer long =
    law true [] 7 1 0 buffer buffer [] (Reads 7 (Err fault) ∷ []) (Err fault) long long (omega arith) (_, refl, refl)
    (λ told. refl)
