use Rattle.std.proofs.Common.{◌≤◌, ◌<◌, ◌++◌, ◌∷◌, [], length, rules, arith, subst}
use Rattle.std.specs.List.{flat_map}
use Rattle.script_text.specs.HexText.{hex_pair}
use Rattle.library_text.specs.EventLines.{store_front}
use Rattle.library_text.specs.Putting.{Puts}
use Rattle.library_text.proofs.PuttingLemmas.{front-short, store-parts}
use Rattle.library_text.proofs.event.put_store.Goals as goal

pub returns-in-Ok : goal.returns-in-Ok
returns-in-Ok c =
    let put : Puts (store_front c.args.cntlid c.args.address ++ flat_map hex_pair c.args.bytes.now ++ 10 ∷ [])
    c.put_digits.result c.args.line.now c.put_digits.new.line = search rules in
    subst (λ t. Puts t c.put_digits.result c.args.line.now c.put_digits.new.line)
    (store-parts c.args.cntlid c.args.address c.args.bytes.now) put

pub returns-in-Err : goal.returns-in-Err
returns-in-Err c =
    let short = front-short c.args.cntlid c.args.address (search rules) (search rules) in
    let lacks : 64 < length (store_front c.args.cntlid c.args.address) = search rules in
    absurd (omega (arith, short, lacks))
