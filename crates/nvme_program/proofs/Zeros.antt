-- For the answer of `scratch`: a medium of blocks of zeros has all of its bytes.
use Rattle.std.proofs.Common.{◌≡◌, ◌∙◌, ◌*◌, ℕ, List, length, replicate, refl, arith}
use Rattle.std.proofs.lemmas.List.{take_all, length-replicate}
use Rattle.nvme_medium.specs.Memory.{whole_blocks}
use Rattle.nvme_program.specs.Media.{zero_blocks}

all_whole : (bytes : List ℕ) (blocks : ℕ) → length bytes ≡ 512 * blocks → whole_blocks bytes ≡ bytes
all_whole bytes blocks long = take_all _ bytes (omega arith)

pub zeros_whole : (blocks size : ℕ) (bytes held : List ℕ) → size ≡ 512 * blocks → held ≡ whole_blocks bytes
    → bytes ≡ replicate size 0
    → held ≡ zero_blocks blocks
unfolding zero_blocks
zeros_whole blocks size bytes held fits is zeros =
    is ∙ all_whole bytes blocks (rw zeros (length-replicate size 0) ∙ fits) ∙ zeros ∙ rw fits refl
