-- Entries and windows of the worked examples.
use Rattle.std.specs.Prelude.{ℕ, List, ◌∷◌}
use Rattle.std.specs.List.{range_with_len}
use Rattle.nvme_wire.specs.Submission.{submission_entry}
use Rattle.nvme_data_buffers.specs.declared.buffer.Prps.{Prps}

-- a command with this opcode and these double words 10 and 12
abbrev pub command : ℕ → ℕ → ℕ → List ℕ
command op ten twelve = submission_entry (record {
  opcode = op;
  cid = 7;
  nsid = 1;
  prp1 = 0;
  prp2 = 0;
  cdw10 = ten;
  cdw11 = 0;
  cdw12 = twelve;
  cdw13 = 0;
  cdw14 = 0;
  cdw15 = 0;
})

-- 64 bytes, each its own place, except the second, all bits of which are set
unfoldable pub counting : List ℕ
counting = 0 ∷ 255 ∷ range_with_len 2 62

abbrev pub entries : ℕ → ℕ → Prps
entries first second = record { first = first; second = second }
