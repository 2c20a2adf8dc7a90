-- For `spec_media_calls.rt`: what follows from a list of calls, and from their answers.
use Rattle.std.proofs.Common.{◌≡◌, ◌≤◌, ◌*◌, ◌+◌, ℕ, List, [], ◌∷◌, take, true, Ok, Err, refl, subst, arith, ◌∙◌}
use Rattle.nvme_spec.specs.Blocks.{CountsFaults, IsFront, blocks_from}
use Rattle.nvme_spec.specs.Effects.{HasSameFront}
use Rattle.nvme_spec.specs.declared.medium.MediumFault.{MediumFault as Fault}
use Rattle.nvme_spec.specs.MediumCalls.{Calls, Flushes, MakesCalls, MakesInOrder, MediumCall, Writes, course}
use Rattle.nvme_medium.specs.Examples.{logs}

flushed : (calls new : List MediumCall) → calls ≡ Flushes (Ok tt) ∷ [] → Calls logs [] calls new
    → new ≡ Flushes (Ok tt) ∷ []
flushed calls new is made =
    let flush : Calls logs [] (Flushes (Ok tt) ∷ []) new = subst (λ c. Calls logs [] c new) is made in
    flush.2 ∙ flush.1

pub one_flush : (new : List MediumCall) → MakesCalls logs (λ calls. calls ≡ Flushes (Ok tt) ∷ []) [] new
    → new ≡ Flushes (Ok tt) ∷ []
one_flush new x = flushed x.calls new x.are x.made

pub one_write : (new : List MediumCall) → MakesInOrder logs (λ j answer. Writes (7 + j) [] answer) 1 [] (Ok tt) new
    → new ≡ Writes 7 [] (Ok tt) ∷ []
one_write new x =
    let write : Calls logs [] (Writes 7 [] (Ok tt) ∷ []) new =
    subst (λ n. Calls logs [] (course (λ j answer. Writes (7 + j) [] answer) n (Ok tt)) new) x.ends x.made in
    write.2 ∙ write.1

pub count_stays : (now : ℕ) → CountsFaults {T = Unit {0}} {E = Fault} 3 now (Ok tt) → now ≡ 3
count_stays now x = x.done refl

pub count_rises : (fault : Fault) → (now : ℕ) → CountsFaults {T = Unit {0}} {E = Fault} 3 now (Err fault) → 4 ≤ now
count_rises fault now x = (x.failed refl).risen

pub front_is_read : (first bytes : ℕ) → (content front : List ℕ) → (x : IsFront true first bytes content front)
    → front ≡ blocks_from content first (512 * x.at)
front_is_read first bytes content front x = x.is refl

pub front_is_same : (first : ℕ) → (bytes content : List ℕ) → (x : HasSameFront first bytes content)
    → blocks_from content first (512 * x.at) ≡ take (512 * x.at) bytes
front_is_same first bytes content x = x.same

pub front_of_nothing : (first : ℕ) → (content : List ℕ) → HasSameFront first [] content → ⊥
front_of_nothing first content x = omega (arith, x.within)
