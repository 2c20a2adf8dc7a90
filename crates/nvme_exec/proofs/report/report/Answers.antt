use Rattle.std.proofs.Common.{ap, ◌∙◌, length, rules}
use Rattle.nvme_spec.specs.World.{namespace_of}
use Rattle.nvme_spec.specs.Transfers.{addresses, with_scattered}
use Rattle.nvme_exec.proofs.Reports.{padded-front, report-size}
use Rattle.nvme_exec.proofs.report.report.Goals as goal

pub returns-clause-stored : goal.returns-clause-stored
returns-clause-stored c =
    c.scatter_padded.ensures.window
    ∙ ap (with_scattered c.args.window.now (addresses c.args.pieces.now.parts.items))
    (padded-front (namespace_of c.args.spaces.now c.args.nsid) c.args.spaces.now.controllers c.args.bytes _
    (length (addresses c.args.pieces.now.parts.items)) _
    c.requires.named c.fill_report.ensures.few c.requires.size
    (search rules ∙ c.min.ensures) c.fill_report.ensures.report)

pub returns-clause-size : goal.returns-clause-size
returns-clause-size c =
    report-size (namespace_of c.args.spaces.now c.args.nsid) c.args.spaces.now.controllers c.args.bytes c.requires.named
