use Rattle.nvme_script.proofs.Outputs.{done_is_sent, stops_beyond_a_buffer, stops_by_a_call, unsent_by_a_call}
use Rattle.nvme_script.proofs.laws.output_is_called.Goals as goal

pub returns-clause-done : goal.returns-clause-done
returns-clause-done g c = done_is_sent g.M.Medium g.O.Sink g.O.FlushedSink.flushes

pub returns-clause-stopped : goal.returns-clause-stopped
returns-clause-stopped g c = stops_by_a_call g.M.Medium g.O.Sink g.O.FlushedSink.flushes

pub returns-clause-beyond : goal.returns-clause-beyond
returns-clause-beyond g c = stops_beyond_a_buffer g.O.Sink g.M.Medium

pub returns-clause-unsent : goal.returns-clause-unsent
returns-clause-unsent g c = unsent_by_a_call g.M.Medium g.O.Sink g.O.FlushedSink.flushes
