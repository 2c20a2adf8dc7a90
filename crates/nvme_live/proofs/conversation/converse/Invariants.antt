use Rattle.std.proofs.Common.{◌≡◌, ℕ, length}
use Rattle.nvme_spec.specs.Blocks.{Device}
use Rattle.nvme_spec.specs.Configuration.{Capacity}
use Rattle.nvme_fleet.specs.FleetStates.{layers_of}
use Rattle.nvme_subsys.specs.OverMedium.{over}
use Rattle.nvme_live.specs.AnswerCalls.{TurnOver}
use Rattle.nvme_live.specs.Conversations.{Converses}
use Rattle.nvme_live.specs.Standings.{Running}
use Rattle.nvme_live.specs.Streams.{ReadsBy, SendsBy}
use Rattle.nvme_live.proofs.conversation.converse.Given as goal

abbrev pub invariant-loop-number : goal.invariant-loop-number
invariant-loop-number g l = record {
  bytes : length l.bytes ≡ 2097153;
  identifiers : length l.identifiers ≡ 2097153;
  blocks : length l.blocks ≡ 2097153;
  conversed : (size : Capacity) (d : Device) → Converses
      (TurnOver g.M.Medium.step g.M.Medium.tells size d) (ReadsBy g.R.LineSource.step g.R.LineSource.remaining)
      (SendsBy g.W.Sink.step g.W.FlushedSink.flushes g.W.Sink.contents) l.first
      (over (Running (layers_of l.fn.fleet.state)) l.fn.fleet.medium) l.number
      (over (Running (layers_of l.fleet.state)) l.fleet.medium) l.fn.reader l.reader l.fn.writer l.writer;
}
