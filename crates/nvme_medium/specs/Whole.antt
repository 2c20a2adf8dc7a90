-- Arithmetic of whole blocks, for the implementations of `Medium`.
use Rattle.std.specs.Prelude.{◌≡◌, ℕ, ◌*◌, ◌/◌, ◌^◌, ◌<◌, List, length, IsTrue, false}
use Rattle.std.proofs.Common.{arith}
use Rattle.std.proofs.lemmas.List.{length-take}
use Rattle.nvme_medium.specs.Memory.{whole_blocks}

-- the number of whole blocks of a file of `size` bytes
pub length-whole_blocks : (bytes : List ℕ) (size : ℕ) → length bytes ≡ size → length (whole_blocks bytes)
    ≡ 512 * (size / 512)
length-whole_blocks bytes size long = simp length-take (omega arith)

-- their number fits 64 bits
pub blocks-countable : (size : ℕ) → size < 2 ^ 64 → size / 512 < 2 ^ 64
blocks-countable size fits = omega arith

-- a medium that does not reveal its content owes nothing
pub tells-none : {P : Type 0} → IsTrue false → P
tells-none {P} tells = absurd (cc)
