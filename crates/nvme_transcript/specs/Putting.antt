-- Which part of a line was assembled, for the contract of `put_line`.
use Rattle.std.specs.Prelude.{◌≡◌, ℕ, List, ◌++◌}
use Rattle.nvme_transcript.specs.declared.short.Put.{Put}
use Rattle.nvme_transcript.specs.declared.short.Put.TheVariants.{All, AllButData, Nothing}
use Rattle.nvme_transcript.specs.Transcript.{data_text}

-- the text is the whole line, the line without its data, or anything
abbrev pub Puts : Put → List ℕ → List ℕ → List ℕ → Type 0
Puts All bytes text line = text ≡ line
Puts AllButData bytes text line = text ++ data_text bytes ≡ line
Puts Nothing bytes text line = Unit {0}
