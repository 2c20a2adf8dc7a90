-- The medium of a program without an image.
use Rattle.std.specs.Prelude.{ℕ, ◌*◌, List, replicate}

-- blocks of zeros
unfoldable pub zero_blocks : ℕ → List ℕ
zero_blocks blocks = replicate (512 * blocks) 0
