-- What the worked examples of records use: commands of one double word 10, and lists of controllers.
use Rattle.std.specs.Prelude.{ℕ, Bool, true, false, List, [], ◌∷◌}
use Rattle.nvme_wire.specs.Submission.{submission_entry}
use Rattle.nvme_wire.specs.declared.status.Status.{Status}
use Rattle.nvme_journal.specs.Records.{Record, Command, kept, lasts}

-- the entry of a command on namespace 1
abbrev pub entry : ℕ → ℕ → List ℕ
entry code dw10 = submission_entry (record {
  opcode = code;
  cid = 7;
  nsid = 1;
  prp1 = 4096;
  prp2 = 0;
  cdw10 = dw10;
  cdw11 = 0;
  cdw12 = 0;
  cdw13 = 0;
  cdw14 = 0;
  cdw15 = 0;
})

-- what is kept of a command of controller 2 with one byte of data
abbrev pub kept_after : Status → ℕ → List Record
kept_after answer code = kept answer 2 false (entry code 0) (1 ∷ [])

abbrev pub register : Record
register = Command 2 false (entry 0x0d 0) (1 ∷ [])

abbrev pub io_lasts : ℕ → Bool
io_lasts code = lasts false (entry code 0)

abbrev pub admin_lasts : ℕ → ℕ → Bool
admin_lasts code dw10 = lasts true (entry code dw10)
