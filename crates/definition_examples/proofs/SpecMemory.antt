-- For `spec_memory.rt`: a new window, the places of an address, and the cluster on its medium.
use Rattle.std.proofs.Common.{◌≡◌, ◌<◌, ℕ, List, [], ◌∷◌, length, replicate, refl, ap, ◌∙◌, arith}
use Rattle.std.specs.Prelude.{slice_index}
use Rattle.std.proofs.lemmas.List.{get_or-replicate}
use Rattle.nvme_spec.specs.Configuration.{config_fault}
use Rattle.nvme_spec.specs.Examples.{cluster}
use Rattle.nvme_spec.specs.Layout.{OpeningIsLaidOut, IsLaidOut}
use Rattle.nvme_spec.specs.Memory.{window_size, zeros}
use Rattle.nvme_spec.specs.TransferLaws.{StandsLastAt}
use Rattle.nvme_spec.specs.World.{opening_world}

all-zero : (n i : ℕ) → (bytes : List ℕ) → bytes ≡ replicate n 0 → i < n → slice_index bytes i ≡ 0
all-zero n i bytes is h = ap (λ (b : List ℕ). slice_index b i) is ∙ get_or-replicate n i 0 0 h

zeros-are : zeros ≡ replicate window_size 0
unfolding zeros
zeros-are = refl

pub zeros_alone : (i : ℕ) → i < window_size → slice_index zeros i ≡ 0
zeros_alone i h = all-zero window_size i zeros zeros-are h

pub last_of_two : StandsLastAt (5 ∷ 7 ∷ 5 ∷ []) 5 2
last_of_two = (omega arith, refl, λ i after within. absurd (omega arith))

pub first_of_two : StandsLastAt (5 ∷ 7 ∷ 5 ∷ []) 5 0 → ⊥
first_of_two x = x.2 2 (omega arith) (omega arith) refl

pub other_address : StandsLastAt (5 ∷ 7 ∷ 5 ∷ []) 5 1 → ⊥
other_address x = absurd (cc)

pub after_all : StandsLastAt (5 ∷ 7 ∷ 5 ∷ []) 0 3 → ⊥
after_all x = omega arith

pub cluster_is_laid_out : OpeningIsLaidOut → (content : List ℕ) → length content ≡ 36864
    → IsLaidOut (opening_world cluster) content
unfolding config_fault
cluster_is_laid_out law content long = law cluster (record { namespace = 65536; medium = 72 }) content long refl
