use Rattle.std.proofs.Common.{◌≡◌, ◌∙◌, ap, rules, subst}
use Rattle.std.specs.Prelude.{OnErr, OnOk}
use Rattle.nvme_fleet.specs.FleetStates.{layers_of}
use Rattle.nvme_grammar.specs.Kept.{kept_events}
use Rattle.nvme_subsys.specs.OverMedium.{over}
use Rattle.nvme_script.specs.Faults.{events_in}
use Rattle.nvme_script.specs.ScriptCalls.{RanCalling}
use Rattle.nvme_script.specs.ScriptWrites.{StopsAtBy, TranscribesBy}
use Rattle.script_text.proofs.LineLengths.{longest-length}
use Rattle.nvme_live.proofs.session.run_events_of.Goals as goal

pub run_events-requires-clause-bytes_room : goal.run_events-requires-clause-bytes_room
run_events-requires-clause-bytes_room g c = search (rules, longest-length c.as_slice.result.now)

pub run_events-requires-clause-identifiers_room : goal.run_events-requires-clause-identifiers_room
run_events-requires-clause-identifiers_room g c = search (rules, longest-length c.as_slice.result.now)

pub returns-clause-ok : goal.returns-clause-ok
returns-clause-ok g c =
    let events : kept_events c.as_slice.result.now c.as_slice-2.result.now ≡ events_in c.args.opening.now.text.items =
    ap (λ t. kept_events t c.as_slice-2.result.now) (search rules)
    ∙ ap (kept_events c.args.opening.now.text.items) (search rules) ∙ c.requires.ready.events in
    subst (λ es. OnOk c.run_events.result (TranscribesBy (RanCalling g.M.Medium.step g.M.Medium.tells) g.W.Sink.step
    g.W.Sink.contents (over (layers_of c.args.fleet.now.state) c.args.fleet.now.medium) es
    (over (layers_of c.run_events.new.fleet.state) c.run_events.new.fleet.medium) c.args.writer.now
    c.run_events.new.writer)) events c.run_events.ensures.ok

pub returns-clause-err : goal.returns-clause-err
returns-clause-err g c =
    let events : kept_events c.as_slice.result.now c.as_slice-2.result.now ≡ events_in c.args.opening.now.text.items =
    ap (λ t. kept_events t c.as_slice-2.result.now) (search rules)
    ∙ ap (kept_events c.args.opening.now.text.items) (search rules) ∙ c.requires.ready.events in
    subst (λ es. OnErr c.run_events.result (StopsAtBy (RanCalling g.M.Medium.step g.M.Medium.tells) g.W.Sink.step
    g.W.Sink.contents (over (layers_of c.args.fleet.now.state) c.args.fleet.now.medium) es
    (over (layers_of c.run_events.new.fleet.state) c.run_events.new.fleet.medium) c.args.writer.now
    c.run_events.new.writer)) events c.run_events.ensures.err
