use Rattle.std.proofs.Common.{◌/◌, min, length, Some, refl, ap, sym, ◌∙◌, subst, Option}
use Rattle.nvme_lent.specs.Bytes.{as_lent}
use Rattle.nvme_lent.specs.declared.bytes.LentBytes.{LentBytes}
use Rattle.nvme_library.specs.declared.slot.Slot.{Slot}
use Rattle.nvme_library.specs.CompletingOver.{AnswersUnlessRefused, CompletesFrom, CompletesIn}
use Rattle.nvme_library.specs.Holding.{Inside}
use Rattle.nvme_library.specs.Whole.{AreWhole}
use Rattle.nvme_library.proofs.CompletingOver.{over_answers, over_stays_whole}
use Rattle.nvme_library.proofs.completing_over.nvmesim_complete_over.Goals as goal

pub of-requires : goal.of-requires
of-requires c =
    let before = subst (λ (s : Inside). AreWhole s.state) (sym c.deref_mut.ensures.value) c.in-Some.ensures.whole in
    let x = c.complete_over-left in
    over_stays_whole c.args.cntlid c.args.i c.of-room.result x.result.1 c.deref_mut.result.now x.new.subsystem
    x.result.0 c.args.completion.now x.new.completion x.ensures before

pub returns-in_default-clause-completes : goal.returns-in_default-clause-completes
returns-in_default-clause-completes c =
    let room = c.of-room.result in let gives = c.give_back_room in let buffer = c.args.completion.now in (
      room,
      record {
        bytes = ap as_lent c.of-room.ensures.buffer ∙ c.into_buffer.ensures;
        first_is = c.of-room.ensures.first;
        at_hand = c.of-room.ensures.at_hand
            ∙ ap (λ (l : LentBytes). min c.args.brought (length l.items / 512)) c.into_buffer.ensures;
        flushes_is = c.of-room.ensures.flushes;
      },
      subst (λ (held : Option Inside). CompletesFrom c.args.cntlid c.args.i room held c.without.result buffer buffer
          gives.new.self.slot.value gives.new.self.returned.bytes) (sym c.in_default.ensures.none) (
            c.without.ensures,
            refl,
            ap (λ (s : Slot). s.value) gives.ensures.kept ∙ c.take.ensures.emptied,
            gives.ensures.returned,
          ),
    )

pub returns-in_default-clause-answers : goal.returns-in_default-clause-answers
returns-in_default-clause-answers c =
    let room = c.of-room.result in (
      room,
      record {
        bytes = ap as_lent c.of-room.ensures.buffer ∙ c.into_buffer.ensures;
        first_is = c.of-room.ensures.first;
        at_hand = c.of-room.ensures.at_hand
            ∙ ap (λ (l : LentBytes). min c.args.brought (length l.items / 512)) c.into_buffer.ensures;
        flushes_is = c.of-room.ensures.flushes;
      },
      subst (λ (held : Option Inside). AnswersUnlessRefused c.args.cntlid c.args.i room held c.without.result
          c.args.completion.now c.give_back_room.new.self.slot.value) (sym c.in_default.ensures.none) tt,
    )

pub returns-clause-completes : goal.returns-clause-completes
returns-clause-completes c =
    let room = c.of-room.result in let gives = c.give_back_room-2 in let x = c.complete_over-left in
    let k = c.args.cntlid in let i = c.args.i in let buffer = c.args.completion.now in
    let completes = subst (λ (s : Inside). CompletesIn k i room s x.result.0 buffer x.new.completion x.result.1
    x.new.subsystem) c.deref_mut.ensures.value x.ensures in
    let there = ap (λ (s : Slot). s.value) gives.ensures.kept ∙ c.of.ensures.open in (
      room,
      record {
        bytes = ap as_lent c.of-room.ensures.buffer ∙ c.into_buffer.ensures;
        first_is = c.of-room.ensures.first;
        at_hand = c.of-room.ensures.at_hand
            ∙ ap (λ (l : LentBytes). min c.args.brought (length l.items / 512)) c.into_buffer.ensures;
        flushes_is = c.of-room.ensures.flushes;
      },
      subst (λ (held : Option Inside). CompletesFrom k i room held x.result.0 buffer x.new.completion
          gives.new.self.slot.value gives.new.self.returned.bytes) (sym c.in-Some.ensures.some)
          (subst (λ (held : Option Inside). CompletesFrom k i room (Some c.in-Some.subsystem.value) x.result.0 buffer
          x.new.completion held gives.new.self.returned.bytes) (sym there)
          (x.result.1, completes, gives.ensures.returned)),
    )

pub returns-clause-answers : goal.returns-clause-answers
returns-clause-answers c =
    let room = c.of-room.result in let gives = c.give_back_room-2 in let x = c.complete_over-left in
    let k = c.args.cntlid in let i = c.args.i in let buffer = c.args.completion.now in
    let old = c.in-Some.subsystem.value in
    let completes = subst (λ (s : Inside). CompletesIn k i room s x.result.0 buffer x.new.completion x.result.1
    x.new.subsystem) c.deref_mut.ensures.value x.ensures in
    let there = ap (λ (s : Slot). s.value) gives.ensures.kept ∙ c.of.ensures.open in (
      room,
      record {
        bytes = ap as_lent c.of-room.ensures.buffer ∙ c.into_buffer.ensures;
        first_is = c.of-room.ensures.first;
        at_hand = c.of-room.ensures.at_hand
            ∙ ap (λ (l : LentBytes). min c.args.brought (length l.items / 512)) c.into_buffer.ensures;
        flushes_is = c.of-room.ensures.flushes;
      },
      subst (λ (held : Option Inside). AnswersUnlessRefused k i room held x.result.0 x.new.completion
          gives.new.self.slot.value) (sym c.in-Some.ensures.some)
          (subst (λ (held : Option Inside). AnswersUnlessRefused k i room (Some old) x.result.0 x.new.completion held)
          (sym there) (over_answers k i room x.result.1 old x.new.subsystem x.result.0 buffer x.new.completion
          c.in-Some.ensures.whole c.told-completion completes)),
    )
