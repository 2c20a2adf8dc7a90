use Rattle.std.proofs.Common.{rules}
use Rattle.script_text.proofs.LineLengths.{longest-length}
use Rattle.nvme_live.proofs.opening.prepare.Goals as goal

pub parse-requires-clause-bytes_room : goal.parse-requires-clause-bytes_room
parse-requires-clause-bytes_room g c = search (rules, longest-length c.as_slice.result.now)

pub parse-requires-clause-identifiers_room : goal.parse-requires-clause-identifiers_room
parse-requires-clause-identifiers_room g c = search (rules, longest-length c.as_slice.result.now)
