use Rattle.std.proofs.Common.{◌≡◌, ◌∙◌, ap, rules}
use Rattle.nvme_spec.specs.Configuration.{capacity}
use Rattle.nvme_grammar.specs.Kept.{kept_events}
use Rattle.nvme_program.specs.FaultKinds.{of_opening}
use Rattle.nvme_script.specs.Faults.{events_in}
use Rattle.nvme_script.proofs.Preparing.{refused_script}
use Rattle.nvme_script.proofs.Ending.{called_in_part, called_whole, early_fault, opening_is_early}
use Rattle.nvme_script.proofs.run.run_ready.Goals as goal

pub returns-in-Err-clause-fault : goal.returns-in-Err-clause-fault
returns-in-Err-clause-fault g c =
    let ready = c.args.ready.now in
    let text = c.args.text.now in
    let size = capacity c.args.max_blocks (g.M.Medium.size c.args.medium) in
    let fault = c.in-Err.field-0.fault in
    rw (c.refused_at.ensures)
    (early_fault g.M.Medium.step g.M.Medium.tells g.M.Medium.device g.W.Sink.step g.W.Sink.contents text
    size c.args.medium c.in-Err.field-0.medium c.args.writer.now c.args.writer.now (of_opening ready.script.start fault)
    (opening_is_early ready.script.start fault)
    (refused_script text size ready.script fault c.requires.script c.in-Err.ensures.fault))

pub returns-in-Ok-outcome-clause-ok : goal.returns-in-Ok-outcome-clause-ok
returns-in-Ok-outcome-clause-ok g c =
    let ready = c.args.ready.now in
    let events : kept_events c.args.text.now c.as_slice.result.now ≡ events_in c.args.text.now =
    ap (kept_events c.args.text.now) (search rules) ∙ c.requires.script.events in
    called_whole g.M.Medium.step g.M.Medium.tells g.M.Medium.device g.W.Sink.step g.W.Sink.contents c.args.text.now
    (capacity c.args.max_blocks (g.M.Medium.size c.args.medium)) c.args.medium c.into_medium.result
    c.args.writer.now c.run_events-outcome.new.writer ready.script c.in-Ok.fleet c.run_events-outcome.new.fleet
    c.requires.script
    c.in-Ok.ensures.accepted c.in-Ok.ensures.opened c.in-Ok.ensures.medium c.into_medium.ensures.medium
    c.into_medium.ensures.device (rw events at c.in-Ok-outcome.ensures.ok)

pub returns-in-Err-outcome-clause-fault : goal.returns-in-Err-outcome-clause-fault
returns-in-Err-outcome-clause-fault g c =
    let ready = c.args.ready.now in
    let events : kept_events c.args.text.now c.as_slice.result.now ≡ events_in c.args.text.now =
    ap (kept_events c.args.text.now) (search rules) ∙ c.requires.script.events in
    rw (c.unwritten.ensures)
    (called_in_part g.M.Medium.step g.M.Medium.tells g.M.Medium.device g.W.Sink.step g.W.Sink.contents c.args.text.now
    (capacity c.args.max_blocks (g.M.Medium.size c.args.medium)) c.args.medium c.into_medium-in-Err-outcome.result
    c.args.writer.now c.run_events-outcome.new.writer ready.script c.in-Ok.fleet c.run_events-outcome.new.fleet
    c.requires.script
    c.in-Ok.ensures.accepted c.in-Ok.ensures.opened c.in-Ok.ensures.medium c.into_medium-in-Err-outcome.ensures.medium
    c.into_medium-in-Err-outcome.ensures.device (rw events at c.in-Err-outcome.ensures.err))
