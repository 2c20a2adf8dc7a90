use Rattle.std.proofs.Common.{ap, subst, ◌∙◌}
use Rattle.nvme_library.specs.Completing.{Consumes, completed_by}
use Rattle.nvme_library.proofs.completing.complete_in.Goals as goal

pub returns : goal.returns
returns c =
    let reply = c.reply_at-reply in
    let seen = c.execute-seen in
    record {
      seen = seen.result;
      executed = seen.new.self;
      executes = seen.ensures;
      consumes = subst (λ r. Consumes seen.result r c.args.cntlid seen.new.self c.args.completion.now
          c.consume.new.completion c.consume.new.subsystem) reply.ensures c.consume.ensures;
      result_is = c.of.ensures ∙ ap (completed_by seen.result) reply.ensures;
    }
