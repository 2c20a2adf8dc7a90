-- A verdict on a PDU, as C sees it.
use Rattle.std.proofs.Common.{◌≡◌, refl, Option, Some, None}
use Rattle.nvme_connection.specs.declared.judged.Verdict.{Verdict as Judgement}
use Rattle.nvme_connection.specs.declared.judged.Verdict.TheVariants as judgements
use Rattle.nvme_connection.specs.Connections.{Connection}
use Rattle.nvme_connection.specs.Holding.{verdict_of}
use Rattle.nvme_tcp_library.specs.Connections.{verdict_in, verdict_seen}

pub seen_in : (c : Connection) (v : Option Judgement) → verdict_seen v ≡ verdict_in (verdict_of c v)
seen_in c None = refl
seen_in c (Some (judgements.Completes l is_sound)) = refl
seen_in c (Some (judgements.Breaks fatal)) = refl
