use Rattle.std.proofs.Common.{◌≡◌, length, arith}
use Rattle.std.proofs.lemmas.Grind.{common_steps}
use Rattle.script_text.proofs.DecodeLemmas.{no_bytes}
use Rattle.script_text.proofs.data.decoded.Goals as goal

pub returns-then-is_empty-clause-bytes : goal.returns-then-is_empty-clause-bytes
returns-then-is_empty-clause-bytes c =
    let none : length c.args.digits.now ≡ 0 = grind (arith, common_steps) in
    no_bytes c.args.digits.now none
