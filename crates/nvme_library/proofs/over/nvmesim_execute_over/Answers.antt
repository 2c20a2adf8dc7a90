use Rattle.std.proofs.Common.{◌/◌, min, length, Some, ap, sym, ◌∙◌, subst, Option}
use Rattle.nvme_lent.specs.Bytes.{as_lent}
use Rattle.nvme_lent.specs.declared.bytes.LentBytes.{LentBytes}
use Rattle.nvme_library.specs.Holding.{Inside}
use Rattle.nvme_library.specs.Over.{OverFrom, ExecutesIn}
use Rattle.nvme_library.specs.Whole.{AreWhole}
use Rattle.nvme_library.specs.declared.slot.Slot.{Slot}
use Rattle.nvme_library.proofs.OverRooms.{over_whole}
use Rattle.nvme_library.proofs.over.nvmesim_execute_over.Goals as goal

pub of-requires : goal.of-requires
of-requires c =
    let before = subst (λ (s : Inside). AreWhole s.state) (sym c.deref_mut.ensures.value) c.in-Some.ensures.whole in
    let x = c.execute_in-left in
    over_whole c.args.cntlid c.args.i c.of-room.result x.result.1 c.deref_mut.result.now x.new.subsystem x.result.0
    x.ensures before

pub returns-in_default : goal.returns-in_default
returns-in_default c =
    let room = c.of-room.result in let gives = c.give_back_room in (
      room,
      record {
        bytes = ap as_lent c.of-room.ensures.buffer ∙ c.into_buffer.ensures;
        first_is = c.of-room.ensures.first;
        at_hand = c.of-room.ensures.at_hand
            ∙ ap (λ (l : LentBytes). min c.args.brought (length l.items / 512)) c.into_buffer.ensures;
        flushes_is = c.of-room.ensures.flushes;
      },
      subst (λ (held : Option Inside). OverFrom c.args.cntlid c.args.i room held c.without.result
          gives.new.self.slot.value gives.new.self.returned.bytes) (sym c.in_default.ensures.none) (
            c.without.ensures,
            ap (λ (s : Slot). s.value) gives.ensures.kept ∙ c.take.ensures.emptied,
            gives.ensures.returned,
          ),
    )

pub returns : goal.returns
returns c =
    let room = c.of-room.result in let gives = c.give_back_room-2 in let x = c.execute_in-left in
    let k = c.args.cntlid in let i = c.args.i in
    let executes = subst (λ (s : Inside). ExecutesIn k i room s x.result.0 x.result.1 x.new.subsystem)
    c.deref_mut.ensures.value x.ensures in
    let there = ap (λ (s : Slot). s.value) gives.ensures.kept ∙ c.of.ensures.open in (
      room,
      record {
        bytes = ap as_lent c.of-room.ensures.buffer ∙ c.into_buffer.ensures;
        first_is = c.of-room.ensures.first;
        at_hand = c.of-room.ensures.at_hand
            ∙ ap (λ (l : LentBytes). min c.args.brought (length l.items / 512)) c.into_buffer.ensures;
        flushes_is = c.of-room.ensures.flushes;
      },
      subst (λ (held : Option Inside). OverFrom k i room held x.result.0 gives.new.self.slot.value
          gives.new.self.returned.bytes) (sym c.in-Some.ensures.some)
          (subst (λ (held : Option Inside). OverFrom k i room (Some c.in-Some.subsystem.value) x.result.0 held
          gives.new.self.returned.bytes) (sym there) (x.result.1, executes, gives.ensures.returned)),
    )
