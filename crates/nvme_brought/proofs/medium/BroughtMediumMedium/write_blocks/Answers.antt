use Rattle.std.proofs.Common.{◌≡◌, ◌*◌, ◌/◌, length, refl, ap, sym, ◌∙◌, arith}
use Rattle.nvme_spec.specs.Bytes.{with_bytes}
use Rattle.nvme_brought.proofs.Overlay.{put-there}
use Rattle.nvme_brought.proofs.Puts.{put-at-once}
use Rattle.nvme_brought.specs.Brought.{bytes_at_hand, content_of}
use Rattle.nvme_brought.proofs.medium.BroughtMediumMedium.write_blocks.Goals as goal

pub returns-clause-written : goal.returns-clause-written
returns-clause-written c told =
    let m = c.args.self.now in let place = c.in-Some in let bytes = c.args.bytes.now in
    let new = c.put_adjacent.new.self in let put = c.put_adjacent.ensures in
    let count = length bytes / 512 in let all : length bytes ≡ 512 * count = omega (arith, c.requires.whole) in
    ap (λ n. with_bytes m.disk.content.bytes (512 * n) (bytes_at_hand new)) put.first
    ∙ put-there m.disk.content.bytes m.room.buffer.items new.buffer.items bytes m.room.first m.room.at_hand place.nth
    count new.at_hand place.ensures.next put.at_hand put.bytes all m.room.fits place.ensures.within (omega (
      arith,
      m.within,
      m.disk.whole,
    ))
    (omega (arith, place.ensures.is, c.requires.within, all, m.disk.whole))
    ∙ ap (λ i. with_bytes (content_of m) (512 * i) bytes) (sym place.ensures.is)

pub returns-clause-calls : goal.returns-clause-calls
returns-clause-calls c =
    let m = c.args.self.now in let place = c.in-Some in let bytes = c.args.bytes.now in
    let put = c.put_adjacent.ensures in
    let count = length bytes / 512 in let all : length bytes ≡ 512 * count = omega (arith, c.requires.whole) in
    put-at-once c.args.first place.nth count bytes m place.ensures.is all place.ensures.next place.ensures.within
    (omega (arith, c.requires.within, all)) _ (omega (arith, c.requires.some)) (record {
      disk = refl;
      bytes = put.bytes;
      at_hand = put.at_hand;
      first = put.first;
      flushes = put.flushes;
      address = put.address;
      len = put.len;
      failures = refl;
    })
