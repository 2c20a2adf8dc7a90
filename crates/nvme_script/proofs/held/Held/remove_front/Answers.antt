use Rattle.std.proofs.Common.{◌≡◌, ◌≤◌, ◌+◌, ◌-◌, length, take, drop, sym, ap, ◌∙◌, arith, length-drop, length-take}
use lib.Seq.{paste}
use Rattle.std.proofs.lemmas.List.{drop-take}
use Rattle.std.proofs.lemmas.List.Edits.{take-paste}
use Rattle.nvme_script.proofs.held.Held.remove_front.Goals as goal

pub returns : goal.returns
returns c =
    let room = c.self.inside.room.items in
    let count = c.args.count in
    let left = c.self.inside.len - count in
    let held = ap length c.self.view_is in
    let inside : count ≤ c.self.inside.len =
    omega (arith, held, length-take c.self.inside.len room, c.requires, c.self.invariant.1) in
    let same : left ≡ 0 + left = omega arith in
    let whole : count + left ≡ c.self.inside.len = omega (arith, inside) in
    ap (take left) c.copy_within.ensures.items ∙ ap (λ k. take k (paste room 0 (drop count room) left)) same
    ∙ take-paste room 0 (drop count room) left (omega arith)
    (omega (arith, length-drop count room, c.self.invariant.0, c.self.invariant.1))
    ∙ sym (drop-take count left room) ∙ ap (λ k. drop count (take k room)) whole ∙ ap (drop count) c.self.view_is
