use Rattle.std.proofs.Common.{◌≡◌, ℕ, Bool, length}
use Rattle.nvme_spec.specs.Blocks.{Device}
use Rattle.nvme_spec.specs.Configuration.{Capacity}
use Rattle.nvme_live.specs.SetUps.{HasSetUpRoom, set_up_of}
use Rattle.nvme_live.specs.Conversations.{Converses}
use Rattle.nvme_live.specs.Standings.{Setting, TurnOf}
use Rattle.nvme_live.specs.Streams.{ReadsBy, SendsBy}
use Rattle.nvme_live.proofs.conversation.set_up.Given as goal

abbrev pub invariant-loop-number : goal.invariant-loop-number
invariant-loop-number g l = record {
  bytes : length l.bytes ≡ 2097153;
  identifiers : length l.identifiers ≡ 2097153;
  blocks : length l.blocks ≡ 2097153;
  room : HasSetUpRoom l.config l.numbers;
  conversed : (tells : Bool) (size : Capacity) (d : Device)
      → Converses (TurnOf tells size d) (ReadsBy g.R.LineSource.step g.R.LineSource.remaining)
      (SendsBy g.W.Sink.step g.W.FlushedSink.flushes g.W.Sink.contents) 1
      (Setting (set_up_of l.fn.config l.fn.numbers)) l.number
      (Setting (set_up_of l.config l.numbers)) l.fn.reader l.reader l.fn.writer l.writer;
}
