use Rattle.nvme_spec.specs.Configuration.{capacity}
use Rattle.std.proofs.Common.{ℕ, List, Option, MutBor, Global, ap, ◌∙◌}
use Rattle.std.specs.Io.Buffered.{reader_remaining}
use Rattle.std.specs.declared.io.buffered.BufReader.{BufReader}
use Rattle.nvme_live.specs.Streams.{ReadsBy, TakesKnown}
use Rattle.nvme_live.proofs.KnownLines.{fails-reading-known, lives-on-known, nothing-ahead}
use Rattle.nvme_live.proofs.running.live_over.Goals as goal

pub returns-in-Ok-run_live_within-clause-ok : goal.returns-in-Ok-run_live_within-clause-ok
returns-in-Ok-run_live_within-clause-ok g c =
    let h = c.in-Ok-run_live_within.ensures.ok in
    let known : BufReader (MutBor g.row.I.Denot) Global → Option (List ℕ) =
    reader_remaining (λ s. g.I.Read.remaining s.now) in
    let from = nothing-ahead (λ (s : MutBor g.row.I.Denot). g.I.Read.remaining s.now) c.in-Ok.reader
    c.in-Ok.ensures.empty c.in-Ok.ensures.capacity
    ∙ ap (λ (s : MutBor g.row.I.Denot). g.I.Read.remaining s.now) c.in-Ok.ensures.inner in (
      h.0,
      known c.run_live_within.new.reader,
      h.1,
      lives-on-known (ReadsBy (λ u call v. TakesKnown (known u) call (known v)) known) known (λ u call v r. r.1)
          g.M.Medium.step g.M.Medium.tells g.M.Medium.device g.O.Sink.step g.O.FlushedSink.flushes g.O.Sink.contents
          (capacity c.args.max_blocks (g.M.Medium.size c.args.medium)) c.in-Ok.reader c.run_live_within.new.reader
          c.args.output.now c.run_live_within.new.writer c.args.medium c.in-Ok-run_live_within.medium
          (g.I.Read.remaining c.args.input.now) from h.0 h.2,
    )

pub returns-clause-fault : goal.returns-clause-fault
returns-clause-fault g c =
    let known : BufReader (MutBor g.row.I.Denot) Global → Option (List ℕ) =
    reader_remaining (λ s. g.I.Read.remaining s.now) in
    let from = nothing-ahead (λ (s : MutBor g.row.I.Denot). g.I.Read.remaining s.now) c.in-Ok.reader
    c.in-Ok.ensures.empty c.in-Ok.ensures.capacity
    ∙ ap (λ (s : MutBor g.row.I.Denot). g.I.Read.remaining s.now) c.in-Ok.ensures.inner in (
      known c.run_live_within.new.reader,
      fails-reading-known (ReadsBy (λ u call v. TakesKnown (known u) call (known v)) known) known (λ u call v r. r.1)
          g.M.Medium.step g.M.Medium.tells g.M.Medium.device g.O.Sink.step g.O.FlushedSink.flushes g.O.Sink.contents
          (capacity c.args.max_blocks (g.M.Medium.size c.args.medium)) c.in-Ok.reader c.run_live_within.new.reader
          c.args.output.now c.run_live_within.new.writer c.args.medium c.in-Err.medium
          (g.I.Read.remaining c.args.input.now) from g.T.Source.step g.T.Source.remaining c.args.script.now
          c.run_live_within.new.script c.in-Err.fault c.in-Err.ensures.fault,
    )
