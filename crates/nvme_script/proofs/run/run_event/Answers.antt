use Rattle.std.proofs.Common.{◌≡◌, ◌∙◌, ◌∷◌, [], ap, rules, subst, sym}
use Rattle.nvme_event.specs.Bare.{seen_of, seen_with}
use Rattle.nvme_event.specs.Replies.{Reply}
use Rattle.nvme_transcript.proofs.Unmarked.{line-unmarked}
use Rattle.nvme_transcript.specs.Transcript.{line_of, seen_line}
use Rattle.nvme_transcript.specs.Writing.{WritesLine}
use Rattle.std.specs.Io.KnownBytes.{Appends}
use Rattle.script_text.specs.Writing.{Cuts}
use Rattle.nvme_grammar.specs.Lent.{event_by_value}
use Rattle.nvme_subsys.specs.OverMedium.{over}
use Rattle.nvme_fleet.specs.FleetStates.{layers_of, data_in}
use Rattle.nvme_fleet.proofs.LayerCalls.{replied}
use Rattle.nvme_script.specs.ScriptCalls.{RanCalling}
use Rattle.nvme_script.specs.ScriptWrites.{StopsAtBy, TranscribesBy}
use Rattle.nvme_script.proofs.Running.{called-one, layers-run}
use Rattle.nvme_script.proofs.Halfway.{one-event}
use Rattle.nvme_script.proofs.Writing.{by-one, line-failed, line-written, stops-one}
use Rattle.nvme_script.proofs.run.run_event.Goals as goal

pub returns-clause-ok : goal.returns-clause-ok
returns-clause-ok g c =
    let events = one-event c.args.text.now c.args.kept c.event.result c.in-Some.event c.event.ensures (search rules) in
    let reply : Reply = (record {
      seen = (seen_with c.apply_into-seen.new.marks c.apply_into-seen.result);
      bytes = data_in c.apply_into-seen.new.self.state;
    }) in
    let line : seen_line c.in-Some.event (seen_of c.apply_into-seen.result) c.data-data.result.now
    ≡ line_of c.in-Some.event reply =
    ap (λ bytes. seen_line c.in-Some.event (seen_of c.apply_into-seen.result) bytes) c.data-data.ensures.value
    ∙ sym (line-unmarked c.apply_into-seen.new.marks c.in-Some.event c.apply_into-seen.result
    (data_in c.apply_into-seen.new.self.state)) in
    let ran =
    (called-one g.M.Medium.step g.M.Medium.tells (over (layers_of c.args.fleet.now.state) c.args.fleet.now.medium) (over
    (layers_of c.apply_into-seen.new.self.state) c.apply_into-seen.new.self.medium) c.in-Some.event (record {
      seen = (seen_with c.apply_into-seen.new.marks c.apply_into-seen.result);
      bytes = data_in c.apply_into-seen.new.self.state;
    }) (replied g.M.Medium.step g.M.Medium.tells (layers_of c.args.fleet.now.state)
    (layers_of c.apply_into-seen.new.self.state) c.in-Some.event (seen_with c.apply_into-seen.new.marks
    c.apply_into-seen.result) (data_in c.apply_into-seen.new.self.state) c.args.fleet.now.medium
    c.apply_into-seen.new.self.medium c.apply_into-seen.ensures.step c.apply_into-seen.ensures.calls)) in
    rw (events) (line-written g.W.Sink.step (line_of c.in-Some.event reply) c.args.writer.now c.write_line.new.writer
    c.write_line.result
    (TranscribesBy (RanCalling g.M.Medium.step g.M.Medium.tells) g.W.Sink.step g.W.Sink.contents
    (over (layers_of c.args.fleet.now.state) c.args.fleet.now.medium) (event_by_value c.in-Some.event ∷ [])
    (over (layers_of c.apply_into-seen.new.self.state) c.apply_into-seen.new.self.medium) c.args.writer.now
    c.write_line.new.writer)
    (Appends (g.W.Sink.contents c.args.writer.now) (g.W.Sink.contents c.write_line.new.writer)
    (seen_line c.in-Some.event (seen_of c.apply_into-seen.result) c.data-data.result.now))
    (subst (λ l. WritesLine g.W.Sink.step l c.args.writer.now c.write_line.result c.write_line.new.writer) line
    c.write_line.ensures.writes) c.write_line.ensures.ok
    (λ wrote whole. by-one (RanCalling g.M.Medium.step g.M.Medium.tells) (layers-run g.M.Medium.step g.M.Medium.tells)
    g.W.Sink.step g.W.Sink.contents (over (layers_of c.args.fleet.now.state) c.args.fleet.now.medium)
    (over (layers_of c.apply_into-seen.new.self.state) c.apply_into-seen.new.self.medium) c.in-Some.event reply
    c.args.writer.now c.write_line.new.writer ran
    (subst (Appends (g.W.Sink.contents c.args.writer.now) (g.W.Sink.contents c.write_line.new.writer)) line wrote)
    whole))

pub returns-clause-err : goal.returns-clause-err
returns-clause-err g c =
    let events = one-event c.args.text.now c.args.kept c.event.result c.in-Some.event c.event.ensures (search rules) in
    let reply : Reply = (record {
      seen = (seen_with c.apply_into-seen.new.marks c.apply_into-seen.result);
      bytes = data_in c.apply_into-seen.new.self.state;
    }) in
    let line : seen_line c.in-Some.event (seen_of c.apply_into-seen.result) c.data-data.result.now
    ≡ line_of c.in-Some.event reply =
    ap (λ bytes. seen_line c.in-Some.event (seen_of c.apply_into-seen.result) bytes) c.data-data.ensures.value
    ∙ sym (line-unmarked c.apply_into-seen.new.marks c.in-Some.event c.apply_into-seen.result
    (data_in c.apply_into-seen.new.self.state)) in
    let ran =
    (called-one g.M.Medium.step g.M.Medium.tells (over (layers_of c.args.fleet.now.state) c.args.fleet.now.medium) (over
    (layers_of c.apply_into-seen.new.self.state) c.apply_into-seen.new.self.medium) c.in-Some.event (record {
      seen = (seen_with c.apply_into-seen.new.marks c.apply_into-seen.result);
      bytes = data_in c.apply_into-seen.new.self.state;
    }) (replied g.M.Medium.step g.M.Medium.tells (layers_of c.args.fleet.now.state)
    (layers_of c.apply_into-seen.new.self.state) c.in-Some.event (seen_with c.apply_into-seen.new.marks
    c.apply_into-seen.result) (data_in c.apply_into-seen.new.self.state) c.args.fleet.now.medium
    c.apply_into-seen.new.self.medium c.apply_into-seen.ensures.step c.apply_into-seen.ensures.calls)) in
    rw (events) (line-failed g.W.Sink.step (line_of c.in-Some.event reply) c.args.writer.now c.write_line.new.writer
    c.write_line.result
    (StopsAtBy (RanCalling g.M.Medium.step g.M.Medium.tells) g.W.Sink.step g.W.Sink.contents
    (over (layers_of c.args.fleet.now.state) c.args.fleet.now.medium) (event_by_value c.in-Some.event ∷ [])
    (over (layers_of c.apply_into-seen.new.self.state) c.apply_into-seen.new.self.medium) c.args.writer.now
    c.write_line.new.writer)
    (Cuts (g.W.Sink.contents c.args.writer.now) (g.W.Sink.contents c.write_line.new.writer)
    (seen_line c.in-Some.event (seen_of c.apply_into-seen.result) c.data-data.result.now))
    (subst (λ l. WritesLine g.W.Sink.step l c.args.writer.now c.write_line.result c.write_line.new.writer) line
    c.write_line.ensures.writes) c.write_line.ensures.err
    (λ cut failed. stops-one (RanCalling g.M.Medium.step g.M.Medium.tells) (layers-run g.M.Medium.step g.M.Medium.tells)
    g.W.Sink.step g.W.Sink.contents (over (layers_of c.args.fleet.now.state) c.args.fleet.now.medium)
    (over (layers_of c.apply_into-seen.new.self.state) c.apply_into-seen.new.self.medium) c.in-Some.event reply
    c.args.writer.now c.write_line.new.writer ran
    (subst (Cuts (g.W.Sink.contents c.args.writer.now) (g.W.Sink.contents c.write_line.new.writer)) line cut) failed))
