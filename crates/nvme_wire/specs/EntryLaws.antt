-- Statements of `laws.rt`: an entry made of fields has these fields.
use Rattle.std.specs.Prelude.{◌≡◌}
use Rattle.nvme_wire.specs.declared.sqe.fields.SqeFields.{SqeFields}
use Rattle.nvme_wire.specs.Submission.{FitsSqeFields, submission_entry, submission_of, fuse, psdt}
use Rattle.nvme_wire.specs.Completion.{Completion, FitsCompletion, completion_entry, completion_of}

-- the fields of a submission queue entry are those that it was made of
abbrev pub SubmissionIsReadBack : Type 0
SubmissionIsReadBack = (f : SqeFields) → FitsSqeFields f → submission_of (submission_entry f) ≡ f

-- such an entry is that of a command that is not fused, with PRP entries as its data pointer
abbrev pub SubmissionIsPlain : Type 0
SubmissionIsPlain =
    (f : SqeFields) → FitsSqeFields f → (fuse (submission_entry f) ≡ 0) × (psdt (submission_entry f) ≡ 0)

-- the fields of a completion queue entry are those that it was made of
abbrev pub CompletionIsReadBack : Type 0
CompletionIsReadBack = (c : Completion) → FitsCompletion c → completion_of (completion_entry c) ≡ c
