use Rattle.std.proofs.Common.{sym, ap, ◌∙◌}
use Rattle.nvme_event.specs.Bare.{seen_of, seen_with}
use Rattle.nvme_transcript.proofs.Unmarked.{line-unmarked}
use Rattle.nvme_event.specs.Replies.{Reply}
use Rattle.nvme_transcript.specs.Transcript.{seen_line}
use Rattle.nvme_subsys.specs.OverMedium.{over}
use Rattle.nvme_fleet.specs.FleetStates.{data_in, layers_of}
use Rattle.nvme_fleet.proofs.LayerCalls.{replied}
use Rattle.nvme_grammar.specs.Lent.{event_by_value}
use Rattle.nvme_script.proofs.ByValue.{calls-by_value, line-by_value}
use Rattle.nvme_live.specs.AnswerCalls.{HappensBy}
use Rattle.nvme_live.proofs.turn.apply.Goals as goal

pub returns : goal.returns
returns g c =
    let tells = g.M.Medium.tells in
    let event = c.args.event in
    let old = layers_of c.args.fleet.now.state in
    let new = layers_of c.apply_into-seen.new.self.state in
    let reply : Reply = record {
      seen = (seen_with c.apply_into-seen.new.marks c.apply_into-seen.result);
      bytes = data_in c.apply_into-seen.new.self.state;
    } in
    let called =
    replied g.M.Medium.step tells old new event (seen_with c.apply_into-seen.new.marks c.apply_into-seen.result)
    (data_in c.apply_into-seen.new.self.state) c.args.fleet.now.medium c.apply_into-seen.new.self.medium
    c.apply_into-seen.ensures.step c.apply_into-seen.ensures.calls in
    let before = over old c.args.fleet.now.medium in
    let after = over new c.apply_into-seen.new.self.medium in
    let happens : HappensBy g.M.Medium.step tells before (event_by_value event)
    (seen_line event (seen_of c.apply_into-seen.result) c.data-data.result.now) after = record {
      reply = reply;
      calls = record {
        calls = called.calls;
        are = calls-by_value tells old new event reply called.calls called.are;
        made = called.made;
      };
      says = ap (λ bytes. seen_line event (seen_of c.apply_into-seen.result) bytes) c.data-data.ensures.value
          ∙ sym (line-unmarked c.apply_into-seen.new.marks event c.apply_into-seen.result
          (data_in c.apply_into-seen.new.self.state)) ∙ sym (line-by_value event reply);
    } in
    (seen_line event (seen_of c.apply_into-seen.result) c.data-data.result.now, happens, c.say.ensures)
