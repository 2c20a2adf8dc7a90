use Rattle.std.proofs.Common.{ap, refl, subst, ◌∙◌, inl, inr, rules}
use Rattle.nvme_library.specs.Completing.{Consumes, completed_by}
use Rattle.nvme_library.proofs.CompletingOver.{refused-room}
use Rattle.nvme_library.proofs.completing_over.complete_over.Goals as goal

pub returns-in-Ok : goal.returns-in-Ok
returns-in-Ok c =
    let reply = c.reply_at-reply in
    let done = c.in-Ok in
    inl (record {
      completes = record {
        seen = done.seen;
        executed = c.execute_over.new.self;
        executes = search rules;
        consumes = subst (λ r. Consumes done.seen r c.args.cntlid c.execute_over.new.self c.args.completion.now
            c.consume.new.completion c.consume.new.subsystem) reply.ensures c.consume.ensures;
        result_is = c.of.ensures ∙ ap (completed_by done.seen) reply.ensures;
      };
      at_hand = c.at_hand.ensures;
    })

pub returns-in-Err : goal.returns-in-Err
returns-in-Err c =
    let x = c.in-Err in
    inr (record {
      why = x.why;
      refused = x.ensures.refused;
      result_is = c.refused.ensures.result;
      bytes_are = refl;
      left_is = c.refused.ensures.room
          ∙ refused-room c.args.room c.args.subsystem.now.medium x.why x.ensures.refused;
      new_is = x.ensures.unchanged;
    })
