use Rattle.std.proofs.Common.{ap, sym, ◌∙◌, inr}
use Rattle.nvme_library.specs.Over.{not_executed, refusal_number}
use Rattle.nvme_library.proofs.OverRooms.{refused_room, refused-is}
use Rattle.nvme_library.proofs.over.execute_in.Goals as goal

pub returns-in-Err-InMemory : goal.returns-in-Err-InMemory
returns-in-Err-InMemory c =
    let x = c.in-Err-InMemory in
    inr (record {
      why = x.field-0;
      refused = x.ensures.refused;
      result_is = c.without.ensures ∙ ap (λ why. not_executed (refusal_number why)) (sym x.field-0-is);
      left_is = ap refused_room (sym x.field-0-is)
          ∙ refused-is c.args.room c.args.subsystem.now.medium x.field-0 x.ensures.refused;
      new_is = x.ensures.unchanged;
    })

pub returns-in-Err-Outside : goal.returns-in-Err-Outside
returns-in-Err-Outside c =
    let x = c.in-Err-Outside in
    inr (record {
      why = x.field-0;
      refused = x.ensures.refused;
      result_is = c.without-in-Err-Outside.ensures ∙ ap (λ why. not_executed (refusal_number why)) (sym x.field-0-is);
      left_is = ap refused_room (sym x.field-0-is)
          ∙ refused-is c.args.room c.args.subsystem.now.medium x.field-0 x.ensures.refused;
      new_is = x.ensures.unchanged;
    })
