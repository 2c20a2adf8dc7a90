use Rattle.std.proofs.Common.{◌≡◌, ◌*◌, length, ap, sym, ◌∙◌, rules, arith}
use Rattle.nvme_spec.specs.Bytes.{with_bytes}
use Rattle.nvme_spec.proofs.Splices.{Torn-unchanged}
use Rattle.nvme_brought.proofs.Overlay.{put-there}
use Rattle.nvme_brought.specs.Brought.{bytes_at_hand, content_of, with_room}
use Rattle.nvme_brought.specs.Whole.{content_is_whole}
use Rattle.nvme_brought.proofs.medium.BroughtMediumMedium.write.Goals as goal

pub returns-clause-ok : goal.returns-clause-ok
returns-clause-ok c told =
    let m = c.args.self.now in let nth = c.in-Some.nth in let new = c.put.new.self in
    let long : length c.args.block.now ≡ 512 = search rules in
    ap (λ n. with_bytes m.disk.content.bytes (512 * n) (bytes_at_hand new)) c.put.ensures.first
    ∙ put-there m.disk.content.bytes m.room.buffer.items new.buffer.items c.args.block.now m.room.first m.room.at_hand
    nth 1 new.at_hand c.in-Some.ensures.next c.put.ensures.at_hand c.put.ensures.bytes long
    m.room.fits (omega (arith, c.in-Some.ensures.below)) (omega (arith, m.within, m.disk.whole))
    (omega (arith, c.in-Some.ensures.is, c.requires, m.disk.whole))
    ∙ ap (λ i. with_bytes (content_of m) (512 * i) c.args.block.now) (sym c.in-Some.ensures.is)

pub returns-in_default-clause-err : goal.returns-in_default-clause-err
returns-in_default-clause-err c told =
    let m = c.args.self.now in
    Torn-unchanged (content_of m) _ c.args.i m.disk.blocks
    ((λ i. with_room ((c.fail.ensures.disk i).content.bytes) (c.fail.ensures.room i))) (content_is_whole m) c.requires
