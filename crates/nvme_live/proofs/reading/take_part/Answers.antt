use Rattle.std.proofs.Common.{◌≡◌, ◌≤◌, ◌++◌, length, take, subst, rules, arith}
use Rattle.std.specs.Io.BufRead.{FillKeeps, DropsConsumable}
use Rattle.nvme_live.specs.Taking.{kept}
use Rattle.nvme_live.proofs.Takings.{takes-part}
use Rattle.nvme_live.proofs.reading.take_part.Goals as goal

pub returns-clause-part : goal.returns-clause-part
returns-clause-part g c =
    let shown = c.in-Ok.available.now in
    let items = c.args.line.now.items in
    let ok = c.args.line.now.ok.0 in
    let fits : length items ≤ 1048577 = omega (arith, ok, c.requires) in
    let rested = c.fill_buf.follows.lender-at-none in
    let filled = subst (FillKeeps _ (g.R.Read.remaining rested) (g.R.BufRead.consumable_len rested)) c.in-Ok.is
    c.fill_buf.follows.holds-at-none in
    let drops : DropsConsumable (g.R.Read.remaining rested) (g.R.Read.remaining c.consume.new.self)
    (g.R.BufRead.consumable_len rested) c.cut-part.result.2 = c.consume.ensures.bytes in
    let has : c.keep.new.line.items ≡ kept (items ++ take c.cut-part.result.1 shown) = search rules in
    takes-part (g.R.Read.remaining c.args.reader.now)
    (g.R.Read.remaining rested) (g.R.Read.remaining c.consume.new.self)
    (g.R.BufRead.consumable_len rested) shown c.cut-part.result.1 c.cut-part.result.2
    items c.keep.new.line.items c.in-Ok.ensures.front c.in-Ok.ensures.end filled.0 filled.1 drops fits has
    c.cut-part.result.0 c.cut-part.ensures
