use Rattle.std.proofs.Common.{◌≡◌, ◌≤◌, ◌-◌, min, length, arith}
use Rattle.nvme_live.proofs.Takings.{extended, kept-added}
use Rattle.nvme_live.proofs.reading.keep.Goals as goal

pub returns-clause-kept : goal.returns-clause-kept
returns-clause-kept c =
    let items = c.args.line.now.items in
    let bytes = c.args.bytes.now in
    let ok = c.args.line.now.ok.0 in
    let fits : length items ≤ 1048577 = omega (arith, ok, c.requires) in
    let room : c.min-room.result ≡ min (1048577 - length items) (length bytes) =
    omega (arith, c.min-room.ensures, c.len.ensures, ok) in
    extended c.extend_from_slice.result _ items _ _ c.extend_from_slice.ensures.items
    (kept-added items bytes c.min-room.result fits room)
