-- Proof of the law `entries_are_read_back`: an entry made of fields is read as these fields.
use Rattle.std.proofs.Common.{Bool, ◌≡◌, ◌≤◌, ◌==◌, true, false, refl, ap, ◌∙◌, arith}
use Rattle.std.specs.Prelude.{if◌then◌else◌}
use Rattle.std.proofs.lemmas.Nat.{from_le_bytes-to_le_bytes_4, from_le_bytes-to_le_bytes_8}
use Rattle.nvme_wire.specs.Entry.{dword_at, bits}
use Rattle.nvme_wire.specs.Submission.{
  submission_entry,
  opcode,
  fuse,
  psdt,
  cid,
  nsid,
  prp1,
  prp2,
  cdw10,
  cdw11,
  cdw12,
  cdw13,
  cdw14,
  cdw15,
}
use Rattle.nvme_wire.specs.Completion as completion
use Rattle.nvme_wire.specs.Completion.{Completion, FitsCompletion, completion_entry, dw0, sq_head, sq_id, phase, status}
use Rattle.nvme_wire.specs.EntryLaws.{SubmissionIsReadBack, SubmissionIsPlain, CompletionIsReadBack}

pub submission_is_plain : SubmissionIsPlain
unfolding submission_entry fuse psdt
submission_is_plain f fits = (omega (arith, fits.opcode), omega (arith, fits.opcode))

pub submission_is_read_back : SubmissionIsReadBack
unfolding submission_entry opcode cid nsid prp1 prp2 cdw10 cdw11 cdw12 cdw13 cdw14 cdw15
submission_is_read_back f fits =
    let opcode-is : opcode (submission_entry f) ≡ f.opcode = omega (arith, fits.opcode) in
    let cid-is : cid (submission_entry f) ≡ f.cid = omega (arith, fits.opcode, fits.cid) in
    λ i. record {
      opcode = opcode-is i;
      cid = cid-is i;
      nsid = from_le_bytes-to_le_bytes_4 f.nsid fits.nsid i;
      prp1 = from_le_bytes-to_le_bytes_8 f.prp1 fits.prp1 i;
      prp2 = from_le_bytes-to_le_bytes_8 f.prp2 fits.prp2 i;
      cdw10 = from_le_bytes-to_le_bytes_4 f.cdw10 fits.cdw10 i;
      cdw11 = from_le_bytes-to_le_bytes_4 f.cdw11 fits.cdw11 i;
      cdw12 = from_le_bytes-to_le_bytes_4 f.cdw12 fits.cdw12 i;
      cdw13 = from_le_bytes-to_le_bytes_4 f.cdw13 fits.cdw13 i;
      cdw14 = from_le_bytes-to_le_bytes_4 f.cdw14 fits.cdw14 i;
      cdw15 = from_le_bytes-to_le_bytes_4 f.cdw15 fits.cdw15 i;
    }

-- The bits of the last double word of a completion: the command identifier, and above it the phase tag, SC and SCT.

one-bit : (b : Bool) → (if b then 1 else 0) ≤ 1
one-bit true = omega arith
one-bit false = omega arith

bit-is : (b : Bool) → ((if b then 1 else 0) == 1) ≡ b
bit-is true = refl
bit-is false = refl

phase-bit : (c : Completion) → FitsCompletion c
    → bits (dword_at (completion_entry c) 12) 16 16 ≡ (if c.phase then 1 else 0)
unfolding completion_entry
phase-bit c fits = omega (arith, fits.cid, fits.sc, fits.sct, one-bit c.phase)

sc-bits : (c : Completion) → FitsCompletion c → bits (dword_at (completion_entry c) 12) 24 17 ≡ c.status.sc
unfolding completion_entry
sc-bits c fits = omega (arith, fits.cid, fits.sc, fits.sct, one-bit c.phase)

sct-bits : (c : Completion) → FitsCompletion c → bits (dword_at (completion_entry c) 12) 27 25 ≡ c.status.sct
unfolding completion_entry
sct-bits c fits = omega (arith, fits.cid, fits.sc, fits.sct, one-bit c.phase)

pub completion_is_read_back : CompletionIsReadBack
unfolding completion_entry dw0 sq_head sq_id completion.cid phase status
completion_is_read_back c fits =
    let head-is : sq_head (completion_entry c) ≡ c.sq_head = omega (arith, fits.sq_head) in
    let id-is : sq_id (completion_entry c) ≡ c.sq_id = omega (arith, fits.sq_id) in
    let cid-is : completion.cid (completion_entry c) ≡ c.cid = omega (arith, fits.cid) in
    let phase-is : phase (completion_entry c) ≡ c.phase = ap (λ b. b == 1) (phase-bit c fits) ∙ bit-is c.phase in
    λ i. record {
      dw0 = from_le_bytes-to_le_bytes_4 c.dw0 fits.dw0 i;
      sq_head = head-is i;
      sq_id = id-is i;
      cid = cid-is i;
      phase = phase-is i;
      status = record { sct = sct-bits c fits i; sc = sc-bits c fits i };
    }
