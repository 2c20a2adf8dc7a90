use Rattle.nvme_transcript.proofs.line.TranscriptLineSpell.spell.Goals as goal

pub returns-in-NoController : goal.returns-in-NoController
returns-in-NoController g c =
    rw (c.in-NoController.is, ← c.cntlid.ensures, ← c.from-cntlid.ensures) c.put_labelled-in-NoController.ensures
