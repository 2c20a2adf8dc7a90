-- Writing the double words that were read gives back the bytes.
use Rattle.nvme_wire.proofs.Bytes.{completion-read}
use Rattle.nvme_wire.proofs.cqe.Cqe.from_bytes.Goals as goal

pub returns : goal.returns
returns c = cc (completion-read c.args.bytes.now c.told-bytes c.fits-bytes)
