use Rattle.nvme_spec.specs.Configuration.{capacity}
use Rattle.std.proofs.Common.{inl, inr, refl, subst, sym, ◌∙◌}
use Rattle.nvme_script.proofs.Ending.{called_in_part, called_whole}
use Rattle.nvme_live.proofs.Streaming.{err-not-ok, from-err, from-ok}
use Rattle.nvme_live.proofs.session.run_first.Goals as goal

pub returns-then-is_err-clause-fault : goal.returns-then-is_err-clause-fault
returns-then-is_err-clause-fault g c =
    let stops = called_in_part g.M.Medium.step g.M.Medium.tells g.M.Medium.device g.W.Sink.step g.W.Sink.contents
    c.args.opening.now.text.items (capacity c.args.max_blocks (g.M.Medium.size c.args.medium)) c.args.medium
    c.into_medium.result
    c.args.writer.now c.run_events_of.new.writer c.args.opening.now.script c.in-Ok.fleet c.run_events_of.new.fleet
    c.requires.ready c.in-Ok.ensures.accepted c.in-Ok.ensures.opened c.in-Ok.ensures.medium c.into_medium.ensures.medium
    c.into_medium.ensures.device
    (from-err c.run_events_of.result _ (sym c.is_err.ensures.value ∙ c.if-is_err.true) c.run_events_of.ensures.err) in
    inr (refl, (stops.0, inl stops.1))

pub returns-then-is_err-2-clause-fault : goal.returns-then-is_err-2-clause-fault
returns-then-is_err-2-clause-fault g c =
    let runs = called_whole g.M.Medium.step g.M.Medium.tells g.M.Medium.device g.W.Sink.step g.W.Sink.contents
    c.args.opening.now.text.items (capacity c.args.max_blocks (g.M.Medium.size c.args.medium)) c.args.medium
    c.into_medium-then-is_err-2.result
    c.args.writer.now c.run_events_of.new.writer c.args.opening.now.script c.in-Ok.fleet
    c.run_events_of.new.fleet c.requires.ready c.in-Ok.ensures.accepted c.in-Ok.ensures.opened c.in-Ok.ensures.medium
    c.into_medium-then-is_err-2.ensures.medium c.into_medium-then-is_err-2.ensures.device
    (from-ok c.run_events_of.result _ (sym c.is_err.ensures.value ∙ c.if-is_err.false) c.run_events_of.ensures.ok) in
    let failed = err-not-ok c.flush_all.result (sym c.is_err-2.ensures.value ∙ c.if-is_err-2.true) in
    inr (
      refl,
      (
        runs.0,
        inr (record {
          written = c.run_events_of.new.writer;
          ran = runs.1;
          unflushed = (
            subst (λ t. g.W.FlushedSink.flushes c.run_events_of.new.writer t c.flush_all.new.self) failed
                c.flush_all.ensures.step,
            c.flush_all.ensures.bytes,
          );
        }),
      ),
    )
